-- A register that is stored, and operations on fields.
use Rattle.std.proofs.Common.{ℕ, ◌∙◌, ap, true}
use Rattle.cpu_1401.specs.Fitting.{fitted_instruction}
use Rattle.fields_1401.specs.AddressSums.{address_sum_at}
use Rattle.fields_1401.specs.Products.{product_at}
use Rattle.fields_1401.specs.Quotients.{quotient_at}
use Rattle.fields_1401.specs.Records.{record_at}
use Rattle.job_steps.specs.Said.{a_of, b_of}
use Rattle.job_steps.proofs.StopLemmas.{fields_so, fields_told, store_told}
use Rattle.job_steps.proofs.stopping.fitted_reason.Goals as goal

pub returns-in-StoreA-clause-stop : goal.returns-in-StoreA-clause-stop
returns-in-StoreA-clause-stop c =
    rw c.in-StoreA.is
    (store_told c.args.machine.now.a (fitted_instruction c.args.machine.now) c.args.machine.now c.core-core.result.now
    c.a_address-a.result c.b_or_only_address-b.result c.address_reason.result c.of_fields-in-StoreA.result
    c.core-core.ensures (c.a_address-a.ensures.value ∙ ap (λ (n : ℕ). a_of n c.args.machine.now) c.requires.len)
    c.of_fields-in-StoreA.ensures c.address_reason.ensures.stop)

pub returns-in-StoreB-clause-stop : goal.returns-in-StoreB-clause-stop
returns-in-StoreB-clause-stop c =
    rw c.in-StoreB.is
    (store_told c.args.machine.now.b (fitted_instruction c.args.machine.now) c.args.machine.now c.core-core.result.now
    c.a_address-a.result c.b_or_only_address-b.result c.address_reason-in-StoreB.result c.of_fields-in-StoreB.result
    c.core-core.ensures (c.a_address-a.ensures.value ∙ ap (λ (n : ℕ). a_of n c.args.machine.now) c.requires.len)
    c.of_fields-in-StoreB.ensures c.address_reason-in-StoreB.ensures.stop)

pub returns-in-Multiply-clause-stop : goal.returns-in-Multiply-clause-stop
returns-in-Multiply-clause-stop c =
    rw c.in-Multiply.is
    (fields_told (fitted_instruction c.args.machine.now) c.args.machine.now product_at c.core-core.result.now
    c.a_address-a.result c.b_or_only_address-b.result c.product_reason.result c.of_fields-in-Multiply.result
    c.core-core.ensures
    (c.a_address-a.ensures.value ∙ ap (λ (n : ℕ). a_of n c.args.machine.now) c.requires.len)
    (c.b_or_only_address-b.ensures.value ∙ ap (λ (n : ℕ). b_of true n c.args.machine.now) c.requires.len)
    c.of_fields-in-Multiply.ensures c.product_reason.ensures.stop)

pub returns-in-Divide-clause-stop : goal.returns-in-Divide-clause-stop
returns-in-Divide-clause-stop c =
    rw c.in-Divide.is
    (fields_told (fitted_instruction c.args.machine.now) c.args.machine.now quotient_at c.core-core.result.now
    c.a_address-a.result c.b_or_only_address-b.result c.quotient_reason.result c.of_fields-in-Divide.result
    c.core-core.ensures
    (c.a_address-a.ensures.value ∙ ap (λ (n : ℕ). a_of n c.args.machine.now) c.requires.len)
    (c.b_or_only_address-b.ensures.value ∙ ap (λ (n : ℕ). b_of true n c.args.machine.now) c.requires.len)
    c.of_fields-in-Divide.ensures c.quotient_reason.ensures.stop)

pub returns-in-MoveRecord-clause-stop : goal.returns-in-MoveRecord-clause-stop
returns-in-MoveRecord-clause-stop c =
    rw c.in-MoveRecord.is
    (fields_told (fitted_instruction c.args.machine.now) c.args.machine.now record_at c.core-core.result.now
    c.a_address-a.result c.b_or_only_address-b.result c.record_reason.result c.of_fields-in-MoveRecord.result
    c.core-core.ensures
    (c.a_address-a.ensures.value ∙ ap (λ (n : ℕ). a_of n c.args.machine.now) c.requires.len)
    (c.b_or_only_address-b.ensures.value ∙ ap (λ (n : ℕ). b_of true n c.args.machine.now) c.requires.len)
    c.of_fields-in-MoveRecord.ensures c.record_reason.ensures.stop)

pub returns-in-ModifyAddress-clause-stop : goal.returns-in-ModifyAddress-clause-stop
returns-in-ModifyAddress-clause-stop c =
    rw c.in-ModifyAddress.is
    (fields_told (fitted_instruction c.args.machine.now) c.args.machine.now address_sum_at c.core-core.result.now
    c.a_address-a.result c.b_or_only_address-b.result c.address_sum_reason.result c.of_fields-in-ModifyAddress.result
    c.core-core.ensures
    (c.a_address-a.ensures.value ∙ ap (λ (n : ℕ). a_of n c.args.machine.now) c.requires.len)
    (c.b_or_only_address-b.ensures.value ∙ ap (λ (n : ℕ). b_of true n c.args.machine.now) c.requires.len)
    c.of_fields-in-ModifyAddress.ensures c.address_sum_reason.ensures.stop)

pub returns-in-StoreA-clause-so : goal.returns-in-StoreA-clause-so
returns-in-StoreA-clause-so c =
    fields_so (fitted_instruction c.args.machine.now) c.args.machine.now c.core-core.result.now
    c.a_address-a.result c.b_or_only_address-b.result c.address_reason.result c.of_fields-in-StoreA.result
    c.core-core.ensures
    (c.a_address-a.ensures.value ∙ ap (λ (n : ℕ). a_of n c.args.machine.now) c.requires.len)
    (c.b_or_only_address-b.ensures.value ∙ ap (λ (n : ℕ). b_of true n c.args.machine.now) c.requires.len)
    c.of_fields-in-StoreA.ensures c.address_reason.ensures.so

pub returns-in-StoreB-clause-so : goal.returns-in-StoreB-clause-so
returns-in-StoreB-clause-so c =
    fields_so (fitted_instruction c.args.machine.now) c.args.machine.now c.core-core.result.now
    c.a_address-a.result c.b_or_only_address-b.result c.address_reason-in-StoreB.result c.of_fields-in-StoreB.result
    c.core-core.ensures
    (c.a_address-a.ensures.value ∙ ap (λ (n : ℕ). a_of n c.args.machine.now) c.requires.len)
    (c.b_or_only_address-b.ensures.value ∙ ap (λ (n : ℕ). b_of true n c.args.machine.now) c.requires.len)
    c.of_fields-in-StoreB.ensures c.address_reason-in-StoreB.ensures.so

pub returns-in-StoreSecond-clause-so : goal.returns-in-StoreSecond-clause-so
returns-in-StoreSecond-clause-so c =
    fields_so (fitted_instruction c.args.machine.now) c.args.machine.now c.core-core.result.now
    c.a_address-a.result c.b_or_only_address-b.result c.address_reason-in-StoreSecond.result
    c.of_fields-in-StoreSecond.result c.core-core.ensures
    (c.a_address-a.ensures.value ∙ ap (λ (n : ℕ). a_of n c.args.machine.now) c.requires.len)
    (c.b_or_only_address-b.ensures.value ∙ ap (λ (n : ℕ). b_of true n c.args.machine.now) c.requires.len)
    c.of_fields-in-StoreSecond.ensures c.address_reason-in-StoreSecond.ensures.so

pub returns-in-Multiply-clause-so : goal.returns-in-Multiply-clause-so
returns-in-Multiply-clause-so c =
    fields_so (fitted_instruction c.args.machine.now) c.args.machine.now c.core-core.result.now
    c.a_address-a.result c.b_or_only_address-b.result c.product_reason.result c.of_fields-in-Multiply.result
    c.core-core.ensures
    (c.a_address-a.ensures.value ∙ ap (λ (n : ℕ). a_of n c.args.machine.now) c.requires.len)
    (c.b_or_only_address-b.ensures.value ∙ ap (λ (n : ℕ). b_of true n c.args.machine.now) c.requires.len)
    c.of_fields-in-Multiply.ensures c.product_reason.ensures.so

pub returns-in-Divide-clause-so : goal.returns-in-Divide-clause-so
returns-in-Divide-clause-so c =
    fields_so (fitted_instruction c.args.machine.now) c.args.machine.now c.core-core.result.now
    c.a_address-a.result c.b_or_only_address-b.result c.quotient_reason.result c.of_fields-in-Divide.result
    c.core-core.ensures
    (c.a_address-a.ensures.value ∙ ap (λ (n : ℕ). a_of n c.args.machine.now) c.requires.len)
    (c.b_or_only_address-b.ensures.value ∙ ap (λ (n : ℕ). b_of true n c.args.machine.now) c.requires.len)
    c.of_fields-in-Divide.ensures c.quotient_reason.ensures.so

pub returns-in-MoveRecord-clause-so : goal.returns-in-MoveRecord-clause-so
returns-in-MoveRecord-clause-so c =
    fields_so (fitted_instruction c.args.machine.now) c.args.machine.now c.core-core.result.now
    c.a_address-a.result c.b_or_only_address-b.result c.record_reason.result c.of_fields-in-MoveRecord.result
    c.core-core.ensures
    (c.a_address-a.ensures.value ∙ ap (λ (n : ℕ). a_of n c.args.machine.now) c.requires.len)
    (c.b_or_only_address-b.ensures.value ∙ ap (λ (n : ℕ). b_of true n c.args.machine.now) c.requires.len)
    c.of_fields-in-MoveRecord.ensures c.record_reason.ensures.so

pub returns-in-ModifyAddress-clause-so : goal.returns-in-ModifyAddress-clause-so
returns-in-ModifyAddress-clause-so c =
    fields_so (fitted_instruction c.args.machine.now) c.args.machine.now c.core-core.result.now
    c.a_address-a.result c.b_or_only_address-b.result c.address_sum_reason.result c.of_fields-in-ModifyAddress.result
    c.core-core.ensures
    (c.a_address-a.ensures.value ∙ ap (λ (n : ℕ). a_of n c.args.machine.now) c.requires.len)
    (c.b_or_only_address-b.ensures.value ∙ ap (λ (n : ℕ). b_of true n c.args.machine.now) c.requires.len)
    c.of_fields-in-ModifyAddress.ensures c.address_sum_reason.ensures.so
