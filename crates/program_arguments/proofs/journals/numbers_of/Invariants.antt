-- The numbers are those of the words so far, unless one isn't a number or wasn't kept.
use Rattle.std.proofs.Common.{◌≡◌, true, map}
use Rattle.program_arguments.specs.Options.{AreReadAs}
use Rattle.program_arguments.proofs.journals.numbers_of.Given as goal

abbrev pub invariant-loop-word : goal.invariant-loop-word
invariant-loop-word l =
    l.are_fine ≡ true → l.are_kept ≡ true → AreReadAs (map (λ word. word.now) l.yielded) l.numbers.items
