-- Characters that come from their own places are moved by a copy.
use Rattle.std.proofs.Common.{◌≡◌, ℕ, ◌+◌, ◌-◌, ◌<◌, ◌≤◌, length, ap, arith, ◌∙◌}
use Rattle.core_1401.specs.Storage.{cell_at}
use Rattle.fields_1401.specs.Places.{marks_of}
use Rattle.fields_1401.proofs.PlacesLemmas.{length-with_chars, marks_of-with_chars}
use Rattle.fields_1401.proofs.RecordLemmas.{moved_by_copy}
use Rattle.fields_1401.proofs.records.move_up.Goals as goal

pub returns-then-count_before_repeated-n-clause-moved : goal.returns-then-count_before_repeated-n-clause-moved
returns-then-count_before_repeated-n-clause-moved c =
    let all : c.count_before_repeated.result ≡ c.args.n = c.if-count_before_repeated-n.true in
    let own : c.args.a < c.args.b → c.args.n ≤ c.args.b - c.args.a = λ less.
    omega (arith, all, c.count_before_repeated.ensures.own less) in
    c.copy_chars.ensures
    ∙ moved_by_copy c.args.core.now c.args.a c.args.b c.args.n c.if-n-gt0.true own c.requires.b_places

pub returns-then-count_before_repeated-n-clause-marks : goal.returns-then-count_before_repeated-n-clause-marks
returns-then-count_before_repeated-n-clause-marks c =
    let char_of : ℕ → ℕ = λ i. (cell_at c.args.core.now (c.args.a + c.args.n - 1 - i)).char in
    ap marks_of c.copy_chars.ensures
    ∙ marks_of-with_chars c.args.core.now (c.args.b + c.args.n - 1) c.args.n char_of
    (omega (arith, c.requires.b_places, c.if-n-gt0.true))

pub returns-then-count_before_repeated-n-clause-size : goal.returns-then-count_before_repeated-n-clause-size
returns-then-count_before_repeated-n-clause-size c =
    let char_of : ℕ → ℕ = λ i. (cell_at c.args.core.now (c.args.a + c.args.n - 1 - i)).char in
    ap length c.copy_chars.ensures
    ∙ length-with_chars c.args.core.now (c.args.b + c.args.n - 1) c.args.n char_of
