-- A text that grows by a byte, and a line of which the first 202 bytes are kept.
use Rattle.std.proofs.Common.{◌≡◌, ℕ, ◌-◌, ◌<◌, ◌≤◌, ◌==◌, Bool, true, false, cond, List, [], ◌∷◌, ◌++◌, map, length}
use Rattle.std.proofs.Common.{take, get_or, refl, sym, ◌∙◌, ap, arith, ltb, length-take, take_all, inl, inr}
use Rattle.std.proofs.lemmas.Bool.{cases_lt, lt-ltb}
use Rattle.std.proofs.lemmas.List.{map-append, take-take, take-append-le}
use Rattle.std.specs.Prelude.{Err}
use Rattle.console_text.specs.declared.line.LineFault.TheVariants.{Length}
use Rattle.console_text.specs.ConsoleLine.{Said, said_by}
use Rattle.room_alone.specs.Text.{Cut, onto_lines, in_front, cut_of, without_return, said_finished, lines_of}

-- the text goes on by a line feed
abbrev pub fed : Cut → Cut
fed cut = record { finished = cut.finished ++ cut.rest ∷ []; rest = [] }

-- the text goes on by another byte
abbrev pub added : ℕ → Cut → Cut
added byte cut = record { finished = cut.finished; rest = cut.rest ++ byte ∷ [] }

onto-fed : (byte : ℕ) (lines : List (List ℕ)) (rest : List ℕ)
    → onto_lines byte (lines ++ rest ∷ []) [] ≡ fed (onto_lines byte lines rest)
onto-fed byte [] rest = refl
onto-fed byte (line ∷ lines) rest = refl

onto-added : (byte next : ℕ) (lines : List (List ℕ)) (rest : List ℕ)
    → onto_lines byte lines (rest ++ next ∷ []) ≡ added next (onto_lines byte lines rest)
onto-added byte next [] rest = refl
onto-added byte next (line ∷ lines) rest = refl

-- in front of a text, by whether the byte is a line feed
abbrev front_by : Bool → ℕ → Cut → Cut
front_by is_feed byte cut =
    cond {A = Cut} is_feed (record { finished = [] ∷ cut.finished; rest = cut.rest })
    (onto_lines byte cut.finished cut.rest)

front-fed : (is_feed : Bool) (byte : ℕ) (cut : Cut) → front_by is_feed byte (fed cut) ≡ fed (front_by is_feed byte cut)
front-fed true byte cut = refl
front-fed false byte cut = onto-fed byte cut.finished cut.rest

front-added : (is_feed : Bool) (byte next : ℕ) (cut : Cut)
    → front_by is_feed byte (added next cut) ≡ added next (front_by is_feed byte cut)
front-added true byte next cut = refl
front-added false byte next cut = onto-added byte next cut.finished cut.rest

pub cut_of-feed : (text : List ℕ) → cut_of (text ++ 10 ∷ []) ≡ fed (cut_of text)
unfolding cut_of
cut_of-feed [] = refl
cut_of-feed (byte ∷ bytes) = ap (in_front byte) (cut_of-feed bytes) ∙ front-fed (byte == 10) byte (cut_of bytes)

single : (is_feed : Bool) (byte : ℕ) → is_feed ≡ false
    → front_by is_feed byte (record { finished = []; rest = [] }) ≡ record { finished = []; rest = byte ∷ [] }
single true byte h = cc
single false byte h = refl

pub cut_of-byte : (text : List ℕ) (next : ℕ) → (next == 10) ≡ false
    → cut_of (text ++ next ∷ []) ≡ added next (cut_of text)
unfolding cut_of
cut_of-byte [] next h = single (next == 10) next h
cut_of-byte (byte ∷ bytes) next h =
    ap (in_front byte) (cut_of-byte bytes next h) ∙ front-added (byte == 10) byte next (cut_of bytes)

-- one line more
pub lines_of-feed : (text : List ℕ)
    → lines_of false (text ++ 10 ∷ []) ≡ lines_of false text ++ said_finished (cut_of text).rest ∷ []
lines_of-feed text =
    ap (λ (cut : Cut). map said_finished cut.finished) (cut_of-feed text)
    ∙ map-append said_finished (cut_of text).finished ((cut_of text).rest ∷ [])

pub lines_of-byte : (text : List ℕ) (next : ℕ) → (next == 10) ≡ false
    → lines_of false (text ++ next ∷ []) ≡ lines_of false text
lines_of-byte text next h = ap (λ (cut : Cut). map said_finished cut.finished) (cut_of-byte text next h)

pub rest-feed : (text : List ℕ) → (cut_of (text ++ 10 ∷ [])).rest ≡ []
rest-feed text = ap (λ (cut : Cut). cut.rest) (cut_of-feed text)

pub rest-byte : (text : List ℕ) (next : ℕ) → (next == 10) ≡ false
    → (cut_of (text ++ next ∷ [])).rest ≡ (cut_of text).rest ++ next ∷ []
rest-byte text next h = ap (λ (cut : Cut). cut.rest) (cut_of-byte text next h)

-- the first 202 bytes of a line and one more
pub kept-byte : (line : List ℕ) (next : ℕ) → take 202 (take 202 line ++ next ∷ []) ≡ take 202 (line ++ next ∷ [])
kept-byte line next =
    elim (cases_lt 202 (length line)) [
      | inl h ↦
          let full : 202 ≤ length (take 202 line) = omega (arith, length-take 202 line) in
          let long : 202 ≤ length line = omega arith in
          take-append-le 202 (take 202 line) (next ∷ []) full ∙ take-take 202 202 line (omega arith)
          ∙ sym (take-append-le 202 line (next ∷ []) long)
      | inr h ↦ ap (λ (kept : List ℕ). take 202 (kept ++ next ∷ [])) (take_all 202 line h)
    ]

cond-true : (b : Bool) (x y : Said) → b ≡ true → cond {A = Said} b x y ≡ x
cond-true true x y h = refl
cond-true false x y h = cc

-- a long line is a fault
said_by-long : (line : List ℕ) → 200 < length line → said_by line ≡ Err Length
unfolding said_by
said_by-long line h = cond-true (ltb 200 (length line)) (Err Length) _ (lt-ltb 200 (length line) h)

shorter_by_one : (is_return : Bool) (line : List ℕ)
    → length line - 1 ≤ length (cond {A = List ℕ} is_return (take (length line - 1) line) line)
shorter_by_one true line = omega (arith, length-take (length line - 1) line)
shorter_by_one false line = omega arith

said_finished-long : (line : List ℕ) → 201 < length line → said_finished line ≡ Err Length
unfolding without_return
said_finished-long line h =
    said_by-long (without_return line) (omega (arith, shorter_by_one (get_or line (length line - 1) 0 == 13) line))

-- what is said alike of all long lines is said of a line by its kept bytes
kept-says : (says : List ℕ → Said) → ((line : List ℕ) → 201 < length line → says line ≡ Err Length) → (line : List ℕ)
    → says (take 202 line) ≡ says line
kept-says says long line =
    elim (cases_lt 202 (length line)) [
      | inl h ↦ long (take 202 line) (omega (arith, length-take 202 line)) ∙ sym (long line (omega arith))
      | inr h ↦ ap says (take_all 202 line h)
    ]

-- what the kept bytes say is what the line says
pub said_by-kept : (line : List ℕ) → said_by (take 202 line) ≡ said_by line
said_by-kept line = kept-says said_by (λ each long. said_by-long each (omega (arith, long))) line

pub said_finished-kept : (line : List ℕ) → said_finished (take 202 line) ≡ said_finished line
said_finished-kept line = kept-says said_finished said_finished-long line
