-- A branch by a cell, a register that is stored, and operations that use both addresses.
use Rattle.std.proofs.Common.{refl, sym, ◌∙◌}
use Rattle.fields_1401.specs.Arithmetic.{difference_at, sum_at, zero_difference_at, zero_sum_at}
use Rattle.fields_1401.specs.Edit.{edit_at}
use Rattle.fields_1401.specs.Load.{load_at}
use Rattle.fields_1401.specs.Marks.{clear_marks_at, set_marks_at}
use Rattle.fields_1401.specs.Move.{move_at}
use Rattle.fields_1401.specs.Parts.{digit_moved_at, zone_moved_at}
use Rattle.fields_1401.specs.Suppress.{suppress_at}
use Rattle.job_steps.proofs.StopLemmas.{branch_told, fields_performed, said_so, store_performed}
use Rattle.job_steps.proofs.stopping.performed_reason.Goals as goal

pub returns-else-len-eq5-clause-stop : goal.returns-else-len-eq5-clause-stop
returns-else-len-eq5-clause-stop c =
    branch_told c.args.machine.now c.args.char c.args.len c.b_address-in-66.result c.core-core.result.now
    c.b_reason-in-66.result c.of_fields-in-66.result (sym c.graphic.ensures.entry ∙ c.in-66.is) c.if-len-eq4.false
    c.if-len-eq5.false c.core-core.ensures c.b_address-in-66.ensures.value c.of_fields-in-66.ensures
    c.b_reason-in-66.ensures.clear

pub returns-in-68-clause-so : goal.returns-in-68-clause-so
returns-in-68-clause-so c =
    said_so c.args.machine.now c.args.char c.args.len 68 c.core-core.result.now c.a_address-a.result
    c.b_or_only_address-in-68.result c.both_reason.result c.of_fields-in-68.result
    (sym c.graphic.ensures.entry ∙ c.in-68.is) c.core-core.ensures c.a_address-a.ensures.value
    c.b_or_only_address-in-68.ensures.value c.of_fields-in-68.ensures c.both_reason.ensures.so

pub returns-in-89-clause-so : goal.returns-in-89-clause-so
returns-in-89-clause-so c =
    said_so c.args.machine.now c.args.char c.args.len 89 c.core-core.result.now c.a_address-a.result
    c.b_or_only_address-in-89.result c.both_reason-in-89.result c.of_fields-in-89.result
    (sym c.graphic.ensures.entry ∙ c.in-89.is) c.core-core.ensures c.a_address-a.ensures.value
    c.b_or_only_address-in-89.ensures.value c.of_fields-in-89.ensures c.both_reason-in-89.ensures.so

pub returns-in-44-clause-so : goal.returns-in-44-clause-so
returns-in-44-clause-so c =
    said_so c.args.machine.now c.args.char c.args.len 44 c.core-core.result.now c.a_address-a.result
    c.b_or_only_address-in-44.result c.both_reason-in-44.result c.of_fields-in-44.result
    (sym c.graphic.ensures.entry ∙ c.in-44.is) c.core-core.ensures c.a_address-a.ensures.value
    c.b_or_only_address-in-44.ensures.value c.of_fields-in-44.ensures c.both_reason-in-44.ensures.so

pub returns-in-41-clause-so : goal.returns-in-41-clause-so
returns-in-41-clause-so c =
    said_so c.args.machine.now c.args.char c.args.len 41 c.core-core.result.now c.a_address-a.result
    c.b_or_only_address-in-41.result c.both_reason-in-41.result c.of_fields-in-41.result
    (sym c.graphic.ensures.entry ∙ c.in-41.is) c.core-core.ensures c.a_address-a.ensures.value
    c.b_or_only_address-in-41.ensures.value c.of_fields-in-41.ensures c.both_reason-in-41.ensures.so

pub returns-in-81-clause-stop : goal.returns-in-81-clause-stop
returns-in-81-clause-stop c =
    store_performed c.args.machine.now c.args.char c.args.len c.core-core.result.now c.a_address-a.result
    c.b_address-in-81.result c.address_reason.result c.of_fields-in-81.result
    (sym c.graphic.ensures.entry ∙ c.in-81.is) c.core-core.ensures c.a_address-a.ensures.value
    c.of_fields-in-81.ensures c.address_reason.ensures.stop

pub returns-in-81-clause-so : goal.returns-in-81-clause-so
returns-in-81-clause-so c =
    said_so c.args.machine.now c.args.char c.args.len 81 c.core-core.result.now c.a_address-a.result
    c.b_address-in-81.result c.address_reason.result c.of_fields-in-81.result
    (sym c.graphic.ensures.entry ∙ c.in-81.is) c.core-core.ensures c.a_address-a.ensures.value
    c.b_address-in-81.ensures.value c.of_fields-in-81.ensures c.address_reason.ensures.so

pub returns-in-65-clause-stop : goal.returns-in-65-clause-stop
returns-in-65-clause-stop c =
    fields_performed c.args.machine.now c.args.char c.args.len 65 sum_at c.core-core.result.now c.a_address-a.result
    c.b_or_only_address.result c.sum_reason.result c.of_fields.result
    (sym c.graphic.ensures.entry ∙ c.in-65.is) c.core-core.ensures c.a_address-a.ensures.value
    c.b_or_only_address.ensures.value c.of_fields.ensures c.sum_reason.ensures.add refl

pub returns-in-83-clause-stop : goal.returns-in-83-clause-stop
returns-in-83-clause-stop c =
    fields_performed c.args.machine.now c.args.char c.args.len 83 difference_at c.core-core.result.now
    c.a_address-a.result
    c.b_or_only_address-in-83.result c.sum_reason-in-83.result c.of_fields-in-83.result
    (sym c.graphic.ensures.entry ∙ c.in-83.is) c.core-core.ensures c.a_address-a.ensures.value
    c.b_or_only_address-in-83.ensures.value c.of_fields-in-83.ensures c.sum_reason-in-83.ensures.subtract refl

pub returns-in-63-clause-stop : goal.returns-in-63-clause-stop
returns-in-63-clause-stop c =
    fields_performed c.args.machine.now c.args.char c.args.len 63 zero_sum_at c.core-core.result.now
    c.a_address-a.result
    c.b_or_only_address-in-63.result c.sum_reason-in-63.result c.of_fields-in-63.result
    (sym c.graphic.ensures.entry ∙ c.in-63.is) c.core-core.ensures c.a_address-a.ensures.value
    c.b_or_only_address-in-63.ensures.value c.of_fields-in-63.ensures c.sum_reason-in-63.ensures.zero_add refl

pub returns-in-33-clause-stop : goal.returns-in-33-clause-stop
returns-in-33-clause-stop c =
    fields_performed c.args.machine.now c.args.char c.args.len 33 zero_difference_at c.core-core.result.now
    c.a_address-a.result
    c.b_or_only_address-in-33.result c.sum_reason-in-33.result c.of_fields-in-33.result
    (sym c.graphic.ensures.entry ∙ c.in-33.is) c.core-core.ensures c.a_address-a.ensures.value
    c.b_or_only_address-in-33.ensures.value c.of_fields-in-33.ensures c.sum_reason-in-33.ensures.zero_subtract refl

pub returns-in-77-clause-stop : goal.returns-in-77-clause-stop
returns-in-77-clause-stop c =
    fields_performed c.args.machine.now c.args.char c.args.len 77 move_at c.core-core.result.now c.a_address-a.result
    c.b_address.result c.pair_reason.result c.of_fields-in-77.result
    (sym c.graphic.ensures.entry ∙ c.in-77.is) c.core-core.ensures c.a_address-a.ensures.value
    c.b_address.ensures.value c.of_fields-in-77.ensures c.pair_reason.ensures.moved refl

pub returns-in-76-clause-stop : goal.returns-in-76-clause-stop
returns-in-76-clause-stop c =
    fields_performed c.args.machine.now c.args.char c.args.len 76 load_at c.core-core.result.now c.a_address-a.result
    c.b_address-in-76.result c.load_reason.result c.of_fields-in-76.result
    (sym c.graphic.ensures.entry ∙ c.in-76.is) c.core-core.ensures c.a_address-a.ensures.value
    c.b_address-in-76.ensures.value c.of_fields-in-76.ensures c.load_reason.ensures.stop refl

pub returns-in-68-clause-stop : goal.returns-in-68-clause-stop
returns-in-68-clause-stop c =
    fields_performed c.args.machine.now c.args.char c.args.len 68 digit_moved_at c.core-core.result.now
    c.a_address-a.result
    c.b_or_only_address-in-68.result c.both_reason.result c.of_fields-in-68.result
    (sym c.graphic.ensures.entry ∙ c.in-68.is) c.core-core.ensures c.a_address-a.ensures.value
    c.b_or_only_address-in-68.ensures.value c.of_fields-in-68.ensures c.both_reason.ensures.digit refl

pub returns-in-89-clause-stop : goal.returns-in-89-clause-stop
returns-in-89-clause-stop c =
    fields_performed c.args.machine.now c.args.char c.args.len 89 zone_moved_at c.core-core.result.now
    c.a_address-a.result
    c.b_or_only_address-in-89.result c.both_reason-in-89.result c.of_fields-in-89.result
    (sym c.graphic.ensures.entry ∙ c.in-89.is) c.core-core.ensures c.a_address-a.ensures.value
    c.b_or_only_address-in-89.ensures.value c.of_fields-in-89.ensures c.both_reason-in-89.ensures.zone refl

pub returns-in-44-clause-stop : goal.returns-in-44-clause-stop
returns-in-44-clause-stop c =
    fields_performed c.args.machine.now c.args.char c.args.len 44 set_marks_at c.core-core.result.now
    c.a_address-a.result
    c.b_or_only_address-in-44.result c.both_reason-in-44.result c.of_fields-in-44.result
    (sym c.graphic.ensures.entry ∙ c.in-44.is) c.core-core.ensures c.a_address-a.ensures.value
    c.b_or_only_address-in-44.ensures.value c.of_fields-in-44.ensures c.both_reason-in-44.ensures.set refl

pub returns-in-41-clause-stop : goal.returns-in-41-clause-stop
returns-in-41-clause-stop c =
    fields_performed c.args.machine.now c.args.char c.args.len 41 clear_marks_at c.core-core.result.now
    c.a_address-a.result
    c.b_or_only_address-in-41.result c.both_reason-in-41.result c.of_fields-in-41.result
    (sym c.graphic.ensures.entry ∙ c.in-41.is) c.core-core.ensures c.a_address-a.ensures.value
    c.b_or_only_address-in-41.ensures.value c.of_fields-in-41.ensures c.both_reason-in-41.ensures.clear refl

pub returns-in-90-clause-stop : goal.returns-in-90-clause-stop
returns-in-90-clause-stop c =
    fields_performed c.args.machine.now c.args.char c.args.len 90 suppress_at c.core-core.result.now
    c.a_address-a.result
    c.b_or_only_address-in-90.result c.suppress_reason.result c.of_fields-in-90.result
    (sym c.graphic.ensures.entry ∙ c.in-90.is) c.core-core.ensures c.a_address-a.ensures.value
    c.b_or_only_address-in-90.ensures.value c.of_fields-in-90.ensures c.suppress_reason.ensures.stop refl

pub returns-in-69-clause-stop : goal.returns-in-69-clause-stop
returns-in-69-clause-stop c =
    fields_performed c.args.machine.now c.args.char c.args.len 69 edit_at c.core-core.result.now c.a_address-a.result
    c.b_or_only_address-in-69.result c.edit_reason.result c.of_fields-in-69.result
    (sym c.graphic.ensures.entry ∙ c.in-69.is) c.core-core.ensures c.a_address-a.ensures.value
    c.b_or_only_address-in-69.ensures.value c.of_fields-in-69.ensures c.edit_reason.ensures.stop refl

pub returns-in-65-clause-so : goal.returns-in-65-clause-so
returns-in-65-clause-so c =
    said_so c.args.machine.now c.args.char c.args.len 65 c.core-core.result.now c.a_address-a.result
    c.b_or_only_address.result c.sum_reason.result c.of_fields.result
    (sym c.graphic.ensures.entry ∙ c.in-65.is) c.core-core.ensures c.a_address-a.ensures.value
    c.b_or_only_address.ensures.value c.of_fields.ensures c.sum_reason.ensures.so

pub returns-in-83-clause-so : goal.returns-in-83-clause-so
returns-in-83-clause-so c =
    said_so c.args.machine.now c.args.char c.args.len 83 c.core-core.result.now c.a_address-a.result
    c.b_or_only_address-in-83.result c.sum_reason-in-83.result c.of_fields-in-83.result
    (sym c.graphic.ensures.entry ∙ c.in-83.is) c.core-core.ensures c.a_address-a.ensures.value
    c.b_or_only_address-in-83.ensures.value c.of_fields-in-83.ensures c.sum_reason-in-83.ensures.so

pub returns-in-63-clause-so : goal.returns-in-63-clause-so
returns-in-63-clause-so c =
    said_so c.args.machine.now c.args.char c.args.len 63 c.core-core.result.now c.a_address-a.result
    c.b_or_only_address-in-63.result c.sum_reason-in-63.result c.of_fields-in-63.result
    (sym c.graphic.ensures.entry ∙ c.in-63.is) c.core-core.ensures c.a_address-a.ensures.value
    c.b_or_only_address-in-63.ensures.value c.of_fields-in-63.ensures c.sum_reason-in-63.ensures.so

pub returns-in-33-clause-so : goal.returns-in-33-clause-so
returns-in-33-clause-so c =
    said_so c.args.machine.now c.args.char c.args.len 33 c.core-core.result.now c.a_address-a.result
    c.b_or_only_address-in-33.result c.sum_reason-in-33.result c.of_fields-in-33.result
    (sym c.graphic.ensures.entry ∙ c.in-33.is) c.core-core.ensures c.a_address-a.ensures.value
    c.b_or_only_address-in-33.ensures.value c.of_fields-in-33.ensures c.sum_reason-in-33.ensures.so

pub returns-in-77-clause-so : goal.returns-in-77-clause-so
returns-in-77-clause-so c =
    said_so c.args.machine.now c.args.char c.args.len 77 c.core-core.result.now c.a_address-a.result
    c.b_address.result c.pair_reason.result c.of_fields-in-77.result
    (sym c.graphic.ensures.entry ∙ c.in-77.is) c.core-core.ensures c.a_address-a.ensures.value
    c.b_address.ensures.value c.of_fields-in-77.ensures c.pair_reason.ensures.so

pub returns-in-76-clause-so : goal.returns-in-76-clause-so
returns-in-76-clause-so c =
    said_so c.args.machine.now c.args.char c.args.len 76 c.core-core.result.now c.a_address-a.result
    c.b_address-in-76.result c.load_reason.result c.of_fields-in-76.result
    (sym c.graphic.ensures.entry ∙ c.in-76.is) c.core-core.ensures c.a_address-a.ensures.value
    c.b_address-in-76.ensures.value c.of_fields-in-76.ensures c.load_reason.ensures.so

pub returns-in-90-clause-so : goal.returns-in-90-clause-so
returns-in-90-clause-so c =
    said_so c.args.machine.now c.args.char c.args.len 90 c.core-core.result.now c.a_address-a.result
    c.b_or_only_address-in-90.result c.suppress_reason.result c.of_fields-in-90.result
    (sym c.graphic.ensures.entry ∙ c.in-90.is) c.core-core.ensures c.a_address-a.ensures.value
    c.b_or_only_address-in-90.ensures.value c.of_fields-in-90.ensures c.suppress_reason.ensures.so

pub returns-in-69-clause-so : goal.returns-in-69-clause-so
returns-in-69-clause-so c =
    said_so c.args.machine.now c.args.char c.args.len 69 c.core-core.result.now c.a_address-a.result
    c.b_or_only_address-in-69.result c.edit_reason.result c.of_fields-in-69.result
    (sym c.graphic.ensures.entry ∙ c.in-69.is) c.core-core.ensures c.a_address-a.ensures.value
    c.b_or_only_address-in-69.ensures.value c.of_fields-in-69.ensures c.edit_reason.ensures.so

pub returns-in-67-clause-so : goal.returns-in-67-clause-so
returns-in-67-clause-so c =
    said_so c.args.machine.now c.args.char c.args.len 67 c.core-core.result.now c.a_address-a.result
    c.b_or_only_address-in-67.result c.pair_reason-in-67.result c.of_fields-in-67.result
    (sym c.graphic.ensures.entry ∙ c.in-67.is) c.core-core.ensures c.a_address-a.ensures.value
    c.b_or_only_address-in-67.ensures.value c.of_fields-in-67.ensures c.pair_reason-in-67.ensures.so

pub returns-in-47-clause-so : goal.returns-in-47-clause-so
returns-in-47-clause-so c =
    said_so c.args.machine.now c.args.char c.args.len 47 c.core-core.result.now c.a_address-a.result
    c.b_or_only_address-in-47.result c.b_reason.result c.of_fields-in-47.result
    (sym c.graphic.ensures.entry ∙ c.in-47.is) c.core-core.ensures c.a_address-a.ensures.value
    c.b_or_only_address-in-47.ensures.value c.of_fields-in-47.ensures c.b_reason.ensures.so

pub returns-in-86-clause-so : goal.returns-in-86-clause-so
returns-in-86-clause-so c =
    said_so c.args.machine.now c.args.char c.args.len 86 c.core-core.result.now c.a_address-a.result
    c.b_address-in-86.result c.b_reason-in-86.result c.of_fields-in-86.result
    (sym c.graphic.ensures.entry ∙ c.in-86.is) c.core-core.ensures c.a_address-a.ensures.value
    c.b_address-in-86.ensures.value c.of_fields-in-86.ensures c.b_reason-in-86.ensures.so

pub returns-in-72-clause-so : goal.returns-in-72-clause-so
returns-in-72-clause-so c =
    said_so c.args.machine.now c.args.char c.args.len 72 c.core-core.result.now c.a_address-a.result
    c.b_address-in-72.result c.address_reason-in-72.result c.of_fields-in-72.result
    (sym c.graphic.ensures.entry ∙ c.in-72.is) c.core-core.ensures c.a_address-a.ensures.value
    c.b_address-in-72.ensures.value c.of_fields-in-72.ensures c.address_reason-in-72.ensures.so
