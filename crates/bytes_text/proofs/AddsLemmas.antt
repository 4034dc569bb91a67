-- Texts added one after the other.
use Rattle.std.proofs.Common.{◌-◌, arith, length, replicate, subst, ℕ, List, ◌++◌, ◌≡◌, append_assoc, ap, sym, ◌∙◌}
use Rattle.std.proofs.lemmas.List.{length-append}
use Rattle.bytes_text.specs.Piece.{padded}
use Rattle.bytes_text.specs.Written.{Adds, AddsBut, Written}

-- one text, and then another
pub adds : (old between new : Written) (first second : List ℕ)
    → Adds old between first → Adds between new second → Adds old new (first ++ second)
adds old between new first second one other whole =
    let last = other whole in
    let front = one last.0 in
    (front.0, last.1 ∙ ap (λ (text : List ℕ). text ++ second) front.1 ∙ append_assoc old.items first second)

-- a part more, and what is left after it
pub adds_part : (old between new : Written) (part left before all : List ℕ) → before ≡ part ++ left
    → AddsBut old between before all → Adds between new part → AddsBut old new left all
adds_part old between new part left before all parts one other whole =
    let last = other whole in
    let front = one last.0 in (
      front.0,
      ap (λ (text : List ℕ). text ++ left) last.1
          ∙ append_assoc between.items part left
          ∙ ap (λ (text : List ℕ). between.items ++ text) (sym parts)
          ∙ front.1,
    )

-- a text, and blanks up to a width
pub adds_padded : (old between new : Written) (text : List ℕ) (from width : ℕ) → from ≡ length old.items
    → Adds old between text → Adds between new (replicate (width - (length between.items - from)) 32)
    → Adds old new (padded width text)
adds_padded old between new text from width e one other whole =
    let last = other whole in
    let front = one last.0 in
    let count : length between.items - from ≡ length text =
    omega (arith, e, ap length front.1, length-append old.items text) in
    adds old between new text (replicate (width - length text) 32) one
    (subst (λ (n : ℕ). Adds between new (replicate (width - n) 32)) count other) whole
