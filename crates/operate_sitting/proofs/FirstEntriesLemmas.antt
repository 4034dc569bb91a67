-- The first entries of a journal, which are the ones of their commands.
use Rattle.std.proofs.Common.{◌≡◌, ℕ, ◌-◌, zero, suc, nat_le, Bool, true, false, List, [], ◌∷◌, ◌++◌, map, take}
use Rattle.std.proofs.Common.{refl, sym, ◌∙◌, ap, subst}
use Rattle.std.specs.Prelude.{if◌then◌else◌}
use Rattle.cpu_1401.specs.State.{State, power_on}
use Rattle.machine_commands.specs.declared.answer.Answer.{Answer}
use Rattle.machine_commands.specs.declared.command.Command.{Command}
use Rattle.cpu_1401.specs.CarryOut.{carry_out}
use Rattle.room_alone.specs.Journal.{entry as made}
use Rattle.room_alone.specs.Journal.{IsLegal, answer_in, pair_of, pairs_of}
use Rattle.room_alone.specs.Replay.{answers_after}
use Rattle.room_alone.specs.declared.entry.Entry.{Entry}
use Rattle.room_alone.specs.declared.entry.SeatedCommand.{SeatedCommand}
use Rattle.operate_sitting.specs.Back.{first_of, part_in, part_of, steps_in, whole_in}

pub pairs_of-take : (count : ℕ) (journal : List Entry) → pairs_of (take count journal) ≡ take count (pairs_of journal)
pairs_of-take zero journal = refl
pairs_of-take (suc count) [] = refl
pairs_of-take (suc count) (entry ∷ journal) =
    ap (λ (pairs : List SeatedCommand). pair_of entry ∷ pairs) (pairs_of-take count journal)

-- a legal journal has the first entries of another if it has the first of its commands
same_after : (s : State) (count : ℕ) (journal first : List Entry)
    → map answer_in journal ≡ answers_after s (pairs_of journal)
    → map answer_in first ≡ answers_after s (pairs_of first)
    → pairs_of first ≡ take count (pairs_of journal) → first ≡ take count journal
same_after s zero journal [] legal so are = refl
same_after s zero journal (entry ∷ first) legal so are = absurd cc
same_after s (suc count) [] [] legal so are = refl
same_after s (suc count) [] (entry ∷ first) legal so are = absurd cc
same_after s (suc count) (entry ∷ journal) [] legal so are = absurd cc
same_after s (suc count) (entry ∷ journal) (other ∷ first) legal so are =
    let commands : other.command ≡ entry.command = ap (λ (pair : SeatedCommand). pair.command)
    (let p : pair_of other ≡ pair_of entry = cc in p) in
    let seats : other.seat ≡ entry.seat = ap (λ (pair : SeatedCommand). pair.seat)
    (let p : pair_of other ≡ pair_of entry = cc in p) in
    let answer : entry.answer ≡ (carry_out s entry.command).answer = cc in
    let other_answer : other.answer ≡ (carry_out s other.command).answer = cc in
    let answers : other.answer ≡ entry.answer =
    other_answer ∙ ap (λ (c : Command). (carry_out s c).answer) commands ∙ sym answer in
    let same : other ≡ entry =
    ap (λ n. made n other.command other.answer) seats
    ∙ ap (λ (c : Command). made entry.seat c other.answer) commands
    ∙ ap (λ (a : Answer). made entry.seat entry.command a) answers in
    let rest : pairs_of first ≡ take count (pairs_of journal) = cc in
    let legal_rest : map answer_in journal ≡ answers_after (carry_out s entry.command).state (pairs_of journal) =
    cc in
    let so_rest : map answer_in first ≡ answers_after (carry_out s entry.command).state (pairs_of first) = cc in
    let tail : first ≡ take count journal =
    same_after (carry_out s entry.command).state count journal first legal_rest so_rest rest in
    cc

pub first_entries : (size size' count : ℕ) (journal first : List Entry) → size' ≡ size → IsLegal size journal
    → IsLegal size' first → pairs_of first ≡ pairs_of (take count journal) → first ≡ take count journal
first_entries size size' count journal first same legal so are =
    same_after (power_on size) count journal first legal
    (subst (λ n. IsLegal n first) same so)
    (are ∙ pairs_of-take count journal)

-- by whether the first entry stays whole
cut_on : (whole : Bool) (left : ℕ) (entry : Entry) (journal : List Entry)
    → (let rest = left - steps_in entry.answer in
    pairs_of (take (whole_in rest journal) journal) ++ part_in rest journal ≡ first_of rest journal)
    → (let rest = left - steps_in entry.answer in
    pairs_of (take (if whole then suc (whole_in rest journal) else 0) (entry ∷ journal))
    ++ (if whole then part_in rest journal else part_of entry.seat left)
    ≡ (if whole then pair_of entry ∷ first_of rest journal else part_of entry.seat left))
cut_on true left entry journal same = ap (λ (pairs : List SeatedCommand). pair_of entry ∷ pairs) same
cut_on false left entry journal same = refl

-- the first instructions of a journal are those of the entries that stay whole, and of what stays of the next one
pub first_of-cut : (left : ℕ) (journal : List Entry)
    → pairs_of (take (whole_in left journal) journal) ++ part_in left journal ≡ first_of left journal
first_of-cut left [] = refl
first_of-cut left (entry ∷ journal) = cut_on (nat_le (steps_in entry.answer) left) left entry journal
    (first_of-cut (left - steps_in entry.answer) journal)
