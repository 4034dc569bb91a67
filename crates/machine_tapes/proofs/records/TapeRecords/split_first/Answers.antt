-- The bytes of the first record, and those after it.
use Rattle.std.proofs.Common.{◌≡◌, ℕ, ◌<◌, List, ◌∷◌, length, take, drop, ap, subst, sym, ◌∙◌, arith}
use Rattle.std.proofs.lemmas.Bool.Decides.{nat_tests}
use Rattle.machine_tapes.specs.Held.{characters_of, first_size, records_in, IsWhole}
use Rattle.machine_tapes.proofs.HeldLemmas.{has_first}
use Rattle.machine_tapes.proofs.RecordLemmas.{is_record-of, records_in-nil}
use Rattle.machine_tapes.proofs.records.TapeRecords.split_first.Goals as goal

pub returns-then-is_empty-clause-first : goal.returns-then-is_empty-clause-first
returns-then-is_empty-clause-first c =
    let bytes : List ℕ = c.self.inside.bytes.now in
    let none : length bytes ≡ 0 = grind (arith, nat_tests, c.if-is_empty.ensures) in
    sym c.self.view_is ∙ records_in-nil bytes none

pub invariant_of-result : goal.invariant_of-result
invariant_of-result c =
    let bytes : List ℕ = c.self.inside.bytes.now in
    let some : 0 < length bytes = grind (arith, nat_tests, c.if-is_empty.ensures) in
    let first = has_first bytes some c.self.invariant.0 in
    let front : take (first_size bytes) bytes ≡ c.split_at.result.0.now =
    sym (c.split_at.ensures.front ∙ ap (λ n. take n bytes) c.first_size.ensures.value) in
    let size = ap length front in (
      omega (arith, size, first.block.some),
      omega (arith, c.split_at.ensures.front_len, c.first_size.ensures.inside, c.self.invariant.1),
    )

pub invariant_of-result-2 : goal.invariant_of-result-2
invariant_of-result-2 c =
    let bytes : List ℕ = c.self.inside.bytes.now in
    let some : 0 < length bytes = grind (arith, nat_tests, c.if-is_empty.ensures) in
    let first = has_first bytes some c.self.invariant.0 in
    let back : drop (first_size bytes) bytes ≡ c.split_at.result.1.now =
    sym (c.split_at.ensures.back ∙ ap (λ n. drop n bytes) c.first_size.ensures.value) in (
      subst IsWhole back first.whole,
      omega (arith, c.split_at.ensures.back_len, c.self.invariant.1),
    )

pub returns-clause-first : goal.returns-clause-first
returns-clause-first c =
    let bytes : List ℕ = c.self.inside.bytes.now in
    let some : 0 < length bytes = grind (arith, nat_tests, c.if-is_empty.ensures) in
    let first = has_first bytes some c.self.invariant.0 in
    let front : take (first_size bytes) bytes ≡ c.split_at.result.0.now =
    sym (c.split_at.ensures.front ∙ ap (λ n. take n bytes) c.first_size.ensures.value) in
    let back : drop (first_size bytes) bytes ≡ c.split_at.result.1.now =
    sym (c.split_at.ensures.back ∙ ap (λ n. drop n bytes) c.first_size.ensures.value) in
    sym c.self.view_is ∙ first.records
    ∙ ap (λ (one : List ℕ). characters_of one ∷ records_in (drop (first_size bytes) bytes)) front
    ∙ ap (λ (rest : List ℕ). characters_of c.split_at.result.0.now ∷ records_in rest) back

pub returns-clause-good : goal.returns-clause-good
returns-clause-good c =
    let bytes : List ℕ = c.self.inside.bytes.now in
    let some : 0 < length bytes = grind (arith, nat_tests, c.if-is_empty.ensures) in
    let first = has_first bytes some c.self.invariant.0 in
    let front : take (first_size bytes) bytes ≡ c.split_at.result.0.now =
    sym (c.split_at.ensures.front ∙ ap (λ n. take n bytes) c.first_size.ensures.value) in
    let size = ap length front in
    is_record-of c.split_at.result.0.now (omega (arith, size, first.block.some))
    (omega (arith, c.split_at.ensures.front_len, c.first_size.ensures.inside, c.self.invariant.1))
