-- The reel that is added has the value for its text.
use Rattle.std.proofs.Common.{◌≡◌, ◌∙◌, ◌∷◌, ◌++◌, [], Bool, List, if◌then◌else◌, arith, rules, subst, sym, Some}
use Rattle.std.proofs.lemmas.Str.Pattern.{split_parts}
use Rattle.program_arguments.specs.declared.call.MountedReel.{MountedReel}
use Rattle.program_arguments.specs.Mounting.{AreMounted}
use Rattle.program_arguments.proofs.MountLemmas.{mounted_more, text_of_it}
use Rattle.program_arguments.proofs.mounting.put_reel.Goals as goal

pub returns : goal.returns
returns c = λ whole.
    let parts = split_parts 61 c.args.value.now (Some (c.in-Some.digit, c.in-Some.named)) c.in-Some.ensures.cases (omega arith) in
    let is_unit = c.in-Some-unit_of.ensures in
    let kept = c.keep.ensures whole in
    let read = c.in-Some-named_reel.ensures kept.0 in
    let it : MountedReel = record { unit = c.in-Some-unit_of.unit; reel = c.in-Some-named_reel.reel } in
    let pushed : c.push.new.self.items ≡ c.args.reels.now.items ++ it ∷ [] =
    subst (λ (is : Bool). c.push.new.self.items ≡ (if is then c.args.reels.now.items ++ it ∷ [] else c.args.reels.now.items))
    (sym c.is_ok-is_kept.ensures.value ∙ kept.1) c.push.ensures.items in (
      read.0,
      λ texts before.
          subst (λ (each : List MountedReel). AreMounted (texts ++ c.args.value.now ∷ []) each) (sym pushed)
          (mounted_more texts c.args.reels.now.items c.args.value.now it
          (text_of_it c.args.value.now c.in-Some.digit.now c.in-Some.named.now it.unit it.reel parts.0 is_unit.0 read.1.0)
          (is_unit.1, is_unit.2, read.1.1) (search rules) before),
    )
