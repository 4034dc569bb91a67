-- Lines answered, one list after another.
use Rattle.std.proofs.Common.{ℕ, List, [], ◌∷◌, ◌++◌, Option, refl, sym, ◌∙◌, ap, subst, append_assoc}
use Rattle.std.proofs.lemmas.List.{append-nil}
use Rattle.room_alone.specs.declared.reply.Reply.{Reply}
use Rattle.console_text.specs.ConsoleLine.{Said}
use Rattle.room_alone.specs.ReplyText.{bytes_of}
use Rattle.room_alone.specs.Answering.{Response, AnsweredAll}

pub answered_one : {S : Type 0} (responds : Response S) (before after : S) (said : Said) (reply : Option Reply)
    → responds before said reply after → AnsweredAll responds before (said ∷ []) (bytes_of reply) after
answered_one responds before after said reply t =
    (after, reply, [], t, sym (append-nil (bytes_of reply)), (refl, refl))

pub AnsweredAll-append : {S : Type 0} (responds : Response S) (before middle after : S) (lines more : List Said)
    (written rest : List ℕ)
    → AnsweredAll responds before lines written middle → AnsweredAll responds middle more rest after
    → AnsweredAll responds before (lines ++ more) (written ++ rest) after
AnsweredAll-append {S} responds before middle after [] more written rest a b =
    subst (λ (front : List ℕ). AnsweredAll responds before more (front ++ rest) after) (sym a.0)
    (subst (λ (s : S). AnsweredAll responds s more rest after) a.1 b)
AnsweredAll-append responds before middle after (said ∷ lines) more written rest a b = (
  a.0,
  a.1,
  a.2 ++ rest,
  a.3,
  ap (λ (front : List ℕ). front ++ rest) a.4 ∙ append_assoc (bytes_of a.1) a.2 rest,
  AnsweredAll-append responds a.0 middle after lines more a.2 rest a.5 b,
)

-- one line more
pub answered_more : {S : Type 0} (responds : Response S) (before middle after : S) (lines : List Said)
    (written : List ℕ) (said : Said) (reply : Option Reply)
    → AnsweredAll responds before lines written middle → responds middle said reply after
    → AnsweredAll responds before (lines ++ said ∷ []) (written ++ bytes_of reply) after
answered_more responds before middle after lines written said reply a t =
    AnsweredAll-append responds before middle after lines (said ∷ []) written (bytes_of reply) a
    (answered_one responds middle after said reply t)
