-- The numbers so far, with those that are left, are all numbers.
use Rattle.std.proofs.Common.{drop}
use Rattle.std.specs.List.{flat_map}
use Rattle.bytes_text.specs.Written.{AddsBut}
use Rattle.autocoder_listing.specs.CrossReference.{use_text}
use Rattle.autocoder_listing.proofs.cross_reference.put_uses.Given as goal

abbrev pub invariant-loop-number : goal.invariant-loop-number
invariant-loop-number l =
    AddsBut l.initial.text l.text (flat_map use_text (drop l.number-index l.numbers)) (flat_map use_text l.numbers)
