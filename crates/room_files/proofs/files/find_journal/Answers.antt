-- What is left of the text is its journal's.
use Rattle.std.proofs.Common.{◌≡◌, ℕ, ◌-◌, List, ◌++◌, length, take, ap, subst, ◌∙◌, arith}
use Rattle.std.proofs.Math.Seq.{take-append_seam}
use Rattle.std.proofs.lemmas.List.{length-append}
use Rattle.room_files.specs.JournalText.{journal_text}
use Rattle.room_files.proofs.files.find_journal.Goals as goal

-- a text without its last bytes
without_end : (text front rest : List ℕ) (n : ℕ) → n ≡ length text → text ≡ front ++ rest
    → take (n - length rest) text ≡ front
without_end text front rest n len is =
    let front_len : n - length rest ≡ length front =
    omega (arith, len, ap length is, length-append front rest) in
    ap (λ count. take count text) front_len ∙ ap (take (length front)) is ∙ take-append_seam front rest

pub invariant_of-result : goal.invariant_of-result
invariant_of-result g c =
    let text = c.in-Ok.opened.1.items in
    let room = c.in-Ok-recover_journal.room in
    record {
      text_is = c.truncate.ensures.items
          ∙ without_end text (journal_text room.size room.journal) c.in-Ok-recover_journal.rest.now c.len.result
          (omega (arith, c.len.ensures, c.in-Ok.opened.1.ok)) (subst (λ (all : List ℕ). all ≡ journal_text room.size room.journal ++ c.in-Ok-recover_journal.rest.now)
          c.as_slice.ensures.value c.in-Ok-recover_journal.ensures.read.text_is);
    }
