-- A program in the first places of storage, and its steps one after the other.
use Rattle.std.proofs.Common.{◌≡◌, ℕ, ◌+◌, ◌%◌, ◌<◌, ◌&&◌, ◌||◌, Bool, true, false, List, [], ◌∷◌, ◌++◌, length, nat_le}
use Rattle.std.proofs.Common.{nat_lt, not, ap, ◌∙◌, arith}
use Rattle.std.proofs.Common.{Option, Some, take, reverse, position, if◌then◌else◌}
use Rattle.std.proofs.lemmas.Bool.Decides.{nat_tests}
use Rattle.std.proofs.lemmas.List.{length-append}
use Rattle.std.specs.Prelude.{slice_index}
use Rattle.std.specs.Option.{option_map}
use Rattle.std.specs.List.{zip}
use Rattle.bcd_1401.specs.declared.cell.Cell.{Cell}
use Rattle.core_1401.specs.Address.{addresses, effective_at, spelling_of}
use Rattle.core_1401.specs.Field.{cells_down, field_len_of, pair_len_of}
use Rattle.core_1401.specs.Storage.{Storage, cell_at, is_in_core, with_mark}
use Rattle.devices_1401.specs.declared.card.Card.{Card}
use Rattle.fields_1401.specs.Load.{is_overwritten, loaded}
use Rattle.fields_1401.specs.Marks.{hundred_of}
use Rattle.fields_1401.specs.Move.{moved}
use Rattle.fields_1401.specs.Outcome.{below_by}
use Rattle.cpu_1401.specs.CardsAndPrinter.{with_chars_from}
use Rattle.machine_tables.specs.declared.operation.Operation.{Operation}
use Rattle.machine_tables.specs.declared.operation.Operation.TheVariants as op
use Rattle.cpu_1401.specs.Instruction.{length_at}
use Rattle.machine_tables.specs.Operation.{operation_of}
use Rattle.cpu_1401.specs.State.{State, power_on}
use Rattle.cpu_1401.specs.Stepped.{step_to}
use Rattle.autocoder_deck.proofs.PlacesLemmas.{with_marks}
use Rattle.autocoder_deck.proofs.StepLemmas.{IsInstruction, Leaves, both_true, clear_one_step, clear_two_step}
use Rattle.autocoder_deck.proofs.StepLemmas.{cleared_down}
use Rattle.autocoder_deck.proofs.StepLemmas.{clear_step}
use Rattle.autocoder_deck.proofs.StepLemmas.{is_there, machine, load_step, move_step, one_step, read_step, set_one_step}
use Rattle.autocoder_deck.proofs.StepLemmas.{set_two_step}

-- an address by its three characters, in front of others
abbrev pub spelled : ℕ → List ℕ → List ℕ
spelled x chars =
    slice_index (spelling_of x) 0 ∷ slice_index (spelling_of x) 1 ∷ slice_index (spelling_of x) 2 ∷ chars

-- core storage with a card's characters in 001 to 080, the word marks that are there, and what comes after
abbrev pub with_card : List ℕ → List ℕ → Storage → Storage
with_card marks chars rest = with_marks marks 0 (0 ∷ chars) ++ rest

-- a place in front
pub in_front : (low rest : Storage) (at : ℕ) → nat_lt at (length low) ≡ true → at < length (low ++ rest)
in_front low rest at h =
    let lt : at < length low = grind (arith, nat_tests) in omega (arith, length-append low rest)

pub instruction : (low rest : Storage) (at : ℕ) (does : Operation) (len : ℕ) → nat_lt at (length low) ≡ true
    → (cell_at (low ++ rest) at).mark ≡ true → operation_of (cell_at (low ++ rest) at).char ≡ Some does
    → length_at (low ++ rest) does at ≡ len → IsInstruction (low ++ rest) at does len
instruction low rest at does len lt mark is length = record {
  begins = both_true (is_in_core (low ++ rest) at) (cell_at (low ++ rest) at).mark
      (is_there (low ++ rest) at (in_front low rest at lt)) mark;
  does = is;
  length = length;
}

-- steps that set and clear word marks, with what storage is then
pub set_two : (last : State) (hopper : List Card) (storage after : Storage) (i x y : ℕ)
    → IsInstruction storage i op.SetWordMark 7 → effective_at storage (i + 1) ≡ x → effective_at storage (i + 4) ≡ y
    → x < length storage → y < length storage → with_mark (with_mark storage x true) y true ≡ after
    → Leaves last hopper after ((i + 7) % addresses) → Leaves last hopper storage i
set_two last hopper storage after i x y there e f x_in y_in same more a b =
    one_step (machine (power_on 0) hopper storage i a b)
    (machine (power_on 0) hopper after ((i + 7) % addresses) (below_by x 1) (below_by y 1)) last
    (set_two_step (machine (power_on 0) hopper storage i a b) x y there e f x_in y_in
    ∙ ap (λ (s : Storage). step_to (machine (power_on 0) hopper s ((i + 7) % addresses) (below_by x 1) (below_by y 1)))
    same) (more (below_by x 1) (below_by y 1))

pub clear_two : (last : State) (hopper : List Card) (storage after : Storage) (i x y : ℕ)
    → IsInstruction storage i op.ClearWordMark 7 → effective_at storage (i + 1) ≡ x → effective_at storage (i + 4) ≡ y
    → x < length storage → y < length storage → with_mark (with_mark storage x false) y false ≡ after
    → Leaves last hopper after ((i + 7) % addresses) → Leaves last hopper storage i
clear_two last hopper storage after i x y there e f x_in y_in same more a b =
    one_step (machine (power_on 0) hopper storage i a b)
    (machine (power_on 0) hopper after ((i + 7) % addresses) (below_by x 1) (below_by y 1)) last
    (clear_two_step (machine (power_on 0) hopper storage i a b) x y there e f x_in y_in
    ∙ ap (λ (s : Storage). step_to (machine (power_on 0) hopper s ((i + 7) % addresses) (below_by x 1) (below_by y 1)))
    same) (more (below_by x 1) (below_by y 1))

pub set_one : (last : State) (hopper : List Card) (storage after : Storage) (i x : ℕ)
    → IsInstruction storage i op.SetWordMark 4 → effective_at storage (i + 1) ≡ x
    → x < length storage → with_mark (with_mark storage x true) x true ≡ after
    → Leaves last hopper after ((i + 4) % addresses) → Leaves last hopper storage i
set_one last hopper storage after i x there e x_in same more a b =
    one_step (machine (power_on 0) hopper storage i a b)
    (machine (power_on 0) hopper after ((i + 4) % addresses) (below_by x 1) (below_by x 1)) last
    (set_one_step (machine (power_on 0) hopper storage i a b) x there e x_in
    ∙ ap (λ (s : Storage). step_to (machine (power_on 0) hopper s ((i + 4) % addresses) (below_by x 1) (below_by x 1)))
    same) (more (below_by x 1) (below_by x 1))

pub clear_one : (last : State) (hopper : List Card) (storage after : Storage) (i x : ℕ)
    → IsInstruction storage i op.ClearWordMark 4 → effective_at storage (i + 1) ≡ x
    → x < length storage → with_mark (with_mark storage x false) x false ≡ after
    → Leaves last hopper after ((i + 4) % addresses) → Leaves last hopper storage i
clear_one last hopper storage after i x there e x_in same more a b =
    one_step (machine (power_on 0) hopper storage i a b)
    (machine (power_on 0) hopper after ((i + 4) % addresses) (below_by x 1) (below_by x 1)) last
    (clear_one_step (machine (power_on 0) hopper storage i a b) x there e x_in
    ∙ ap (λ (s : Storage). step_to (machine (power_on 0) hopper s ((i + 4) % addresses) (below_by x 1) (below_by x 1)))
    same) (more (below_by x 1) (below_by x 1))

-- the next card is read, and a branch is taken
pub read_next : (last : State) (card : Card) (hopper : List Card) (storage after : Storage) (i x : ℕ)
    → IsInstruction storage i op.ReadCard 4 → effective_at storage (i + 1) ≡ x
    → with_chars_from storage 1 card.0 ≡ after → Leaves last hopper after x → Leaves last (card ∷ hopper) storage i
read_next last card hopper storage after i x there e same more a b =
    one_step (machine (power_on 0) (card ∷ hopper) storage i a b)
    (machine (power_on 0) hopper after x x ((i + 4) % addresses)) last
    (read_step (power_on 0) card hopper storage i a b x there e
    ∙ ap (λ (s : Storage). step_to (machine (power_on 0) hopper s x x ((i + 4) % addresses))) same)
    (more x ((i + 4) % addresses))

-- lengths of fields, of places that are in core
pub pair_len_by : (storage : Storage) (a b : ℕ) (len : Option ℕ) → a < length storage → b < length storage
    → option_map (λ (i : ℕ). i + 1) (position (λ (pair : Cell × Cell). pair.0.mark || pair.1.mark)
    (zip (reverse (take (a + 1) storage)) (reverse (take (b + 1) storage)))) ≡ len → pair_len_of storage a b ≡ len
pair_len_by storage a b len a_in b_in e =
    ap (λ (there : Bool). option_map (λ (i : ℕ). i + 1) (position (λ (pair : Cell × Cell). pair.0.mark || pair.1.mark)
    (zip (if there then reverse (take (a + 1) storage) else []) (cells_down storage b)))) (is_there storage a a_in)
    ∙ ap (λ (there : Bool). option_map (λ (i : ℕ). i + 1) (position (λ (pair : Cell × Cell). pair.0.mark || pair.1.mark)
    (zip (reverse (take (a + 1) storage)) (if there then reverse (take (b + 1) storage) else [])))) (is_there storage b b_in)
    ∙ e

pub field_len_by : (storage : Storage) (at : ℕ) (len : Option ℕ) → at < length storage
    → option_map (λ (i : ℕ). i + 1) (position (λ (cell : Cell). cell.mark) (reverse (take (at + 1) storage))) ≡ len
    → field_len_of storage at ≡ len
field_len_by storage at len lt e =
    ap (λ (there : Bool). option_map (λ (i : ℕ). i + 1) (position (λ (cell : Cell). cell.mark)
    (if there then reverse (take (at + 1) storage) else []))) (is_there storage at lt) ∙ e

-- storage is cleared from a place down to its hundred
pub clear_next : (last : State) (hopper : List Card) (storage after : Storage) (i x : ℕ)
    → IsInstruction storage i op.ClearStorage 4 → effective_at storage (i + 1) ≡ x → x < length storage
    → cleared_down storage x ≡ after → Leaves last hopper after ((i + 4) % addresses) → Leaves last hopper storage i
clear_next last hopper storage after i x there e x_in same more a b =
    one_step (machine (power_on 0) hopper storage i a b)
    (machine (power_on 0) hopper after ((i + 4) % addresses) x (below_by (hundred_of x) 1)) last
    (clear_step (machine (power_on 0) hopper storage i a b) x there e x_in
    ∙ ap (λ (s : Storage). step_to (machine (power_on 0) hopper s ((i + 4) % addresses) x (below_by (hundred_of x) 1))) same)
    (more x (below_by (hundred_of x) 1))

-- a field is loaded, or moved
pub load_next : (last : State) (hopper : List Card) (storage after : Storage) (i x y n : ℕ)
    → IsInstruction storage i op.Load 7 → effective_at storage (i + 1) ≡ x → effective_at storage (i + 4) ≡ y
    → field_len_of storage x ≡ Some n → y < length storage → (nat_le n (y + 1) && not (is_overwritten x y n)) ≡ true
    → loaded storage x y n ≡ after → Leaves last hopper after ((i + 7) % addresses) → Leaves last hopper storage i
load_next last hopper storage after i x y n there e f field y_in fits same more a b =
    let a' : ℕ = below_by x n in
    let b' : ℕ = below_by y n in
    one_step (machine (power_on 0) hopper storage i a b) (machine (power_on 0) hopper after ((i + 7) % addresses) a' b') last
    (load_step (machine (power_on 0) hopper storage i a b) x y n there e f field
    (ap (λ (p : Bool). (p && nat_le n (y + 1)) && not (is_overwritten x y n)) (is_there storage y y_in) ∙ fits)
    ∙ ap (λ (s : Storage). step_to (machine (power_on 0) hopper s ((i + 7) % addresses) a' b')) same) (more a' b')

pub move_next : (last : State) (hopper : List Card) (storage after : Storage) (i x y n : ℕ)
    → IsInstruction storage i op.Move 7 → effective_at storage (i + 1) ≡ x → effective_at storage (i + 4) ≡ y
    → pair_len_of storage x y ≡ Some n → moved storage x y n ≡ after
    → Leaves last hopper after ((i + 7) % addresses) → Leaves last hopper storage i
move_next last hopper storage after i x y n there e f field same more a b =
    let a' : ℕ = below_by x n in
    let b' : ℕ = below_by y n in
    one_step (machine (power_on 0) hopper storage i a b) (machine (power_on 0) hopper after ((i + 7) % addresses) a' b') last
    (move_step (machine (power_on 0) hopper storage i a b) x y n there e f field
    ∙ ap (λ (s : Storage). step_to (machine (power_on 0) hopper s ((i + 7) % addresses) a' b')) same) (more a' b')
