-- What is stored, and what is read again.
use Rattle.std.proofs.Common.{◌-◌, ◌∙◌, ap}
use Rattle.bcd_1401.specs.Character.{zone_of}
use Rattle.core_1401.specs.Address.{value_at}
use Rattle.core_1401.specs.Storage.{Storage}
use Rattle.fields_1401.specs.Places.{marks_of}
use Rattle.cpu_1401.proofs.StorageLemmas.{stored_again, stored_marks, three_put}
use Rattle.cpu_1401.proofs.register_steps.put_address.Goals as goal

pub returns-clause-value : goal.returns-clause-value
returns-clause-value c =
    three_put c.args.core.now c.put_char.new.self c.put_char-2.new.self c.put_char-3.new.self c.args.at c.args.address
    c.zone-zone.result c.with_zone.result c.index-encode-0.result c.index-encode-1.result c.index-encode-2.result
    c.encode.result c.encode.ensures.spelling
    (c.zone-zone.ensures.value ∙ ap (λ cell. zone_of cell.char) c.get.ensures)
    c.with_zone.ensures c.put_char.ensures c.put_char-2.ensures c.put_char-3.ensures

pub returns-clause-marks : goal.returns-clause-marks
returns-clause-marks c =
    ap marks_of (returns-clause-value c) ∙ stored_marks c.args.core.now c.args.at c.args.address

pub returns-clause-again : goal.returns-clause-again
returns-clause-again c =
    ap (λ (storage : Storage). value_at storage (c.args.at - 2)) (returns-clause-value c)
    ∙ stored_again c.args.core.now c.args.at c.args.address c.encode.result c.encode.ensures.spelling
    c.encode.ensures.value c.requires.three c.requires.inside
