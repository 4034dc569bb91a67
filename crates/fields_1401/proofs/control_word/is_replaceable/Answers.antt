-- The bit of a code tells.
use Rattle.std.proofs.Common.{◌∙◌, ap}
use Rattle.fields_1401.specs.Edit.{is_replaceable}
use Rattle.fields_1401.proofs.EditLemmas.{replaceable_bit}
use Rattle.fields_1401.proofs.control_word.is_replaceable.Goals as goal

pub returns : goal.returns
returns c =
    replaceable_bit c.code.result c.code.ensures.range ∙ ap is_replaceable c.code.ensures.value
