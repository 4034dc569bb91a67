-- The digits are those that are written of the number.
use Rattle.std.proofs.Common.{arith, lit<}
use Rattle.std.proofs.lemmas.Str.Pattern.{starts_char}
use Rattle.program_rooms.proofs.NamedLemmas.{no_first, only_digits}
use Rattle.program_rooms.proofs.journal_names.number_of.Goals as goal
use Rattle.program_rooms.proofs.journal_names.number_of.Goals.{then-not-starts_with, else-not-starts_with}

pub returns-in-Ok : goal.returns-in-Ok
returns-in-Ok c =
    elim c.if-not-starts_with.branch [
      | then-not-starts_with w ↦
          let zero = starts_char 48 c.args.digits.now c.starts_with.result c.starts_with.ensures.cases (lit< tt) (lit< tt) in
          let sign = starts_char 43 c.args.digits.now w.starts_with-then-not-starts_with.result
          w.starts_with-then-not-starts_with.ensures.cases (lit< tt) (lit< tt) in (
            only_digits c.args.digits.now c.parse.result c.in-Ok.number c.in-Ok.is c.parse.ensures.value.0
                (no_first _ sign (grind arith)) (no_first _ zero w.if-not-starts_with.true),
            omega arith,
          )
      | else-not-starts_with w ↦ absurd (grind arith)
    ]
