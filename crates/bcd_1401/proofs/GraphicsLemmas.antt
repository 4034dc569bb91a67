-- A byte that goes from one chain to another and back is the same, and each of the 64 characters has a graphic of its own.
use Rattle.std.proofs.Common.{◌≡◌, ℕ, ◌<◌, ◌==◌, Bool, true, Option, Some, None, get_or, length, map, refl, sym, ap}
use Rattle.std.proofs.Common.{List, [], ◌∷◌, ◌∙◌, arith, cond, is_some, ltb, slice_index, subst}
use Rattle.std.specs.Prelude.{position}
use Rattle.std.specs.List.{position_or_len, range_with_len, list_all}
use Rattle.std.proofs.lemmas.Bool.{eqb-true, lt-ltb, true≢false}
use Rattle.std.proofs.lemmas.List.{get_or-map}
use Rattle.std.proofs.lemmas.List.Elements.{All-get_or}
use Rattle.std.proofs.lemmas.List.FromFn.{get_or-range_with_len, length-range_with_len}
use Rattle.std.proofs.lemmas.List.Quantifiers.{position-Some}
use Rattle.std.proofs.lemmas.List.Sums.{AllPass-from_list_all}
use Rattle.bcd_1401.specs.Graphic.{graphics}
use Rattle.bcd_1401.specs.Graphics.{IsOneToOne, bytes_here, bytes_there, exchanged, graphics_on, ours_of, theirs_of}
use Rattle.bcd_1401.specs.declared.graphics.Graphics.{Graphics}
use Rattle.bcd_1401.specs.declared.graphics.Graphics.TheVariants as chains

-- whether a byte is among those of a text
abbrev is_among : List ℕ → ℕ → Bool
is_among of byte = is_some (position (λ each. each == byte) of)

found_at : (of : List ℕ) (byte i : ℕ) → position (λ each. each == byte) of ≡ Some i
    → (i < length of) × (get_or of i 0 ≡ byte)
found_at of byte i e =
    let at = position-Some (λ each. each == byte) of i 0 e in
    (at.0, eqb-true (get_or of i 0) byte at.1)

-- bytes exchanged for others and back, where the others are the same bytes in another order
undone : (of into : List ℕ) → map (exchanged into of) into ≡ of → length into ≡ length of
    → list_all (is_among of) into ≡ true → (byte : ℕ) → exchanged into of (exchanged of into byte) ≡ byte
undone of into back same all byte = by (position (λ each. each == byte) of) refl
  where
    other : (found : Option ℕ) → position (λ each. each == byte) into ≡ found
        → position (λ each. each == byte) of ≡ None → exchanged into of byte ≡ byte
    other None e none = rw e refl
    other (Some j) e none =
        let at = found_at into byte j e in
        let among = All-get_or (λ (k : ℕ). is_among of k ≡ true) into j 0 at.0 (AllPass-from_list_all (is_among of) into all) in
        let has : is_among of byte ≡ true = subst (λ (k : ℕ). is_among of k ≡ true) at.1 among in
        let nothing : is_some {T = ℕ} None ≡ true = rw none at has in
        absurd (true≢false (sym nothing))

    by : (found : Option ℕ) → position (λ each. each == byte) of ≡ found
        → exchanged into of (exchanged of into byte) ≡ byte
    by None e = rw e (other (position (λ each. each == byte) into) refl e)
    by (Some i) e =
        let at = found_at of byte i e in
        let inside : i < length into = omega (arith, at.0, same) in
        let again : exchanged into of (slice_index into i) ≡ byte
        = sym (get_or-map (exchanged into of) into i 0 0 inside) ∙ ap (λ (text : List ℕ). get_or text i 0) back ∙ at.1 in
        rw e again

pub ours_again : (chain : Graphics) (byte : ℕ) → ours_of chain (theirs_of chain byte) ≡ byte
ours_again chains.Ours byte = refl
ours_again chains.Simh byte = undone (bytes_here chains.Simh) (bytes_there chains.Simh) refl refl refl byte
ours_again chains.Fortran byte = undone (bytes_here chains.Fortran) (bytes_there chains.Fortran) refl refl refl byte

pub theirs_again : (chain : Graphics) (byte : ℕ) → theirs_of chain (ours_of chain byte) ≡ byte
theirs_again chains.Ours byte = refl
theirs_again chains.Simh byte = undone (bytes_there chains.Simh) (bytes_here chains.Simh) refl refl refl byte
theirs_again chains.Fortran byte = undone (bytes_there chains.Fortran) (bytes_here chains.Fortran) refl refl refl byte

pub all_again : (chain : Graphics) (text : List ℕ) → map (ours_of chain) (map (theirs_of chain) text) ≡ text
all_again chain [] = refl
all_again chain (byte ∷ more) = rw (ours_again chain byte, all_again chain more) refl

-- whether the first place of a character's graphic is its code
abbrev is_first : Graphics → ℕ → Bool
is_first chain code =
    position_or_len (λ each. each == slice_index (graphics_on chain) code) (graphics_on chain) == code

all_first : (chain : Graphics) → list_all (is_first chain) (range_with_len 0 64) ≡ true
unfolding graphics graphics_on
all_first chains.Ours = refl
all_first chains.Simh = refl
all_first chains.Fortran = refl

first_place : (chain : Graphics) (code : ℕ) → code < 64
    → position_or_len (λ each. each == slice_index (graphics_on chain) code) (graphics_on chain) ≡ code
first_place chain code h =
    let all = AllPass-from_list_all (is_first chain) (range_with_len 0 64) (all_first chain) in
    let here : code < length (range_with_len 0 64) = omega (arith, length-range_with_len 0 64) in
    let at = All-get_or (λ (k : ℕ). is_first chain k ≡ true) (range_with_len 0 64) code 0 here all in
    let same : get_or (range_with_len 0 64) code 0 ≡ code = get_or-range_with_len 0 64 code 0 h ∙ omega arith in
    eqb-true (position_or_len (λ each. each == slice_index (graphics_on chain) code) (graphics_on chain)) code
    (subst (λ (k : ℕ). is_first chain k ≡ true) same at)

many : (chain : Graphics) → length (graphics_on chain) ≡ 64
unfolding graphics graphics_on
many chains.Ours = refl
many chains.Simh = refl
many chains.Fortran = refl

found : (place len code : ℕ) → place ≡ code → ltb code len ≡ true
    → cond {A = Option ℕ} (ltb place len) (Some place) None ≡ Some code
found place len code e h = rw (e, h) refl

-- a character's graphic is found at its code
pub one_to_one : (chain : Graphics) → IsOneToOne chain
one_to_one chain code h =
    let inside : ltb code (length (graphics_on chain)) ≡ true =
    lt-ltb code (length (graphics_on chain)) (omega (arith, many chain)) in
    found (position_or_len (λ each. each == slice_index (graphics_on chain) code) (graphics_on chain))
    (length (graphics_on chain)) code (first_place chain code h) inside
