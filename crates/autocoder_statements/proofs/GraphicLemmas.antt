-- The graphics of characters are the bytes 32 to 95.
use Rattle.std.proofs.Common.{◌≡◌, ℕ, ◌-◌, ◌<◌, ◌≤◌, ◌==◌, nat_le, Bool, true, false, ◌&&◌, List, Option, Some, None}
use Rattle.std.proofs.Common.{is_some, get_or, length, refl, sym, subst, ◌∙◌, arith}
use Rattle.std.specs.List.{list_all, position, range_with_len}
use Rattle.std.proofs.lemmas.Bool.{and_parts, eqb-true, leb-true, true≢false}
use Rattle.std.proofs.lemmas.List.Elements.{All-get_or}
use Rattle.std.proofs.lemmas.List.FromFn.{get_or-range_with_len, length-range_with_len}
use Rattle.std.proofs.lemmas.List.Quantifiers.{position-Some}
use Rattle.std.proofs.lemmas.List.Sums.{AllPass-from_list_all}
use Rattle.bcd_1401.specs.Graphic.{graphics}
use Rattle.autocoder_statements.specs.SourceLine.{is_graphic}

-- a byte from the blank to the underscore
abbrev pub is_in_range : ℕ → Bool
is_in_range byte = nat_le 32 byte && nat_le byte 95

all_in_range : list_all is_in_range graphics ≡ true
unfolding graphics
all_in_range = refl

all_graphics : list_all is_graphic (range_with_len 32 64) ≡ true
unfolding graphics
all_graphics = refl

passes : (test : ℕ → Bool) (each : List ℕ) (i : ℕ) → list_all test each ≡ true → i < length each
    → test (get_or each i 0) ≡ true
passes test each i all inside =
    All-get_or (λ (k : ℕ). test k ≡ true) each i 0 inside (AllPass-from_list_all test each all)

-- a graphic is in the range
in_range : (byte : ℕ) → is_graphic byte ≡ true → is_in_range byte ≡ true
in_range byte h = by (position (λ each. each == byte) graphics) refl h
  where
    by : (found : Option ℕ) → position (λ each. each == byte) graphics ≡ found → is_some found ≡ true
        → is_in_range byte ≡ true
    by None e some = absurd (true≢false (sym some))
    by (Some i) e some =
        let at = position-Some (λ each. each == byte) graphics i 0 e in
        let same : get_or graphics i 0 ≡ byte = eqb-true (get_or graphics i 0) byte at.1 in
        rw same at (passes is_in_range graphics i all_in_range at.0)

-- a byte in the range is a graphic
graphic_in : (byte : ℕ) → 32 ≤ byte → byte ≤ 95 → is_graphic byte ≡ true
graphic_in byte least most =
    let inside : byte - 32 < length (range_with_len 32 64) = omega (arith, length-range_with_len 32 64) in
    let same : get_or (range_with_len 32 64) (byte - 32) 0 ≡ byte =
    get_or-range_with_len 32 64 (byte - 32) 0 (omega arith) ∙ omega arith in
    subst (λ (k : ℕ). is_graphic k ≡ true) same (passes is_graphic (range_with_len 32 64) (byte - 32) all_graphics inside)

-- the test of a graphic by the range
pub graphic_by_range : (byte : ℕ) → is_graphic byte ≡ is_in_range byte
graphic_by_range byte = by (is_graphic byte) refl (is_in_range byte) refl
  where
    by : (one : Bool) → is_graphic byte ≡ one → (other : Bool) → is_in_range byte ≡ other → one ≡ other
    by true e true f = refl
    by false e false f = refl
    by true e false f = sym (in_range byte e) ∙ f
    by false e true f =
        let parts = and_parts (nat_le 32 byte) (nat_le byte 95) f in
        sym e ∙ graphic_in byte (leb-true 32 byte parts.0) (leb-true byte 95 parts.1)
