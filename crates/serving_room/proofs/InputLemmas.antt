-- What was read of the input, and how much of QUIT its last line is.
use Rattle.std.proofs.Common.{◌≡◌, ℕ, ◌+◌, ◌<◌, ◌≤◌, ◌⊎◌, nat_lt, ◌==◌, Bool, true, false, ◌&&◌, if◌then◌else◌}
use Rattle.std.proofs.Common.{List, [], ◌∷◌, ◌++◌, All, get_or, take, Option, Some, None, inl, inr}
use Rattle.std.proofs.Common.{refl, sym, ap, subst, ◌∙◌, append-nil, arith}
use Rattle.std.proofs.lemmas.Bool.{cases_lt, false≢true}
use Rattle.std.proofs.lemmas.Bool.Decides.{nat_tests}
use Rattle.std.proofs.lemmas.List.{take_more}
use Rattle.std.proofs.lemmas.List.Elements.{All-nil, All-push}
use Rattle.std.specs.Option.{option_to_list}
use Rattle.std.proofs.KnownBytes.{Consumes-kept, Consumes-nil, Consumes-trans, Keeps-refl}
use Rattle.std.specs.Io.KnownBytes.{Consumes, Keeps}
use Rattle.room_alone.specs.Text.{Cut, cut_of}
use Rattle.room_alone.proofs.TextLemmas.{cut_of-byte, cut_of-feed}
use Rattle.serving_room.specs.Input.{IsPassedOver, SaysClose, SaysNoQuit, SaysQuit, has_quit, match_more, quit_return}

-- a line of which this much is matched, if anything is
abbrev pub IsMatched : Option ℕ → List ℕ → Type 0
IsMatched None line = Unit {0}
IsMatched (Some count) line = (count ≤ 5) × (line ≡ take count quit_return)

-- how much is matched after these bytes
abbrev pub matched_from : Option ℕ → List ℕ → Option ℕ
matched_from matched [] = matched
matched_from matched (byte ∷ bytes) = matched_from (match_more matched byte) bytes

-- how much of a line is matched
abbrev pub matched_in : List ℕ → Option ℕ
matched_in line = matched_from (Some 0) line

-- What was read: none of its lines closes the room, and of what comes after them this much is matched.
pub record HasRead (matched : Option ℕ) (old new : Option (List ℕ)) : Type 0 where
  pub bytes : List ℕ
  pub read : Consumes old new bytes
  pub none : All IsPassedOver (cut_of bytes).finished
  pub is : IsMatched matched (cut_of bytes).rest
  pub exact : matched ≡ matched_in (cut_of bytes).rest

-- nothing is read yet
pub nothing_read : (old : Option (List ℕ)) → HasRead (Some 0) old old
unfolding cut_of
nothing_read old = record {
  bytes = [];
  read = Consumes-nil old;
  none = All-nil IsPassedOver;
  is = (omega arith, refl);
  exact = refl;
}

passed_by : (matched : Option ℕ) (line : List ℕ) → matched ≡ matched_in line → has_quit matched ≡ false
    → SaysClose line → ⊥
passed_by matched line exact none (inl quit) =
    false≢true (sym none ∙ ap has_quit (exact ∙ ap matched_in quit))
passed_by matched line exact none (inr quit) =
    false≢true (sym none ∙ ap has_quit (exact ∙ ap matched_in quit))

-- after a line feed no line has begun
pub line_ended : (matched : Option ℕ) (old mid new : Option (List ℕ)) (given : Option ℕ) → HasRead matched old mid
    → has_quit matched ≡ false → given ≡ Some 10 → Consumes mid new (option_to_list given) → HasRead (Some 0) old new
line_ended matched old mid new given so_far none is came =
    let byte : Consumes mid new (10 ∷ []) = subst (λ it. Consumes mid new (option_to_list it)) is came in
    let cut = sym (cut_of-feed so_far.bytes) in
    let before = cut_of so_far.bytes in
    record {
      bytes = so_far.bytes ++ 10 ∷ [];
      read = Consumes-trans old mid new so_far.bytes (10 ∷ []) so_far.read byte;
      none = subst (λ (it : Cut). All IsPassedOver it.finished) cut
          (All-push IsPassedOver before.finished before.rest so_far.none
          (passed_by matched before.rest so_far.exact none));
      is = subst (λ (it : Cut). IsMatched (Some 0) it.rest) cut (omega arith, refl);
      exact = subst (λ (it : Cut). Some 0 ≡ matched_in it.rest) cut refl;
    }

both : (x y : Bool) → (x && y) ≡ true → (x ≡ true) × (y ≡ true)
both true y is = (refl, is)
both false y is = absurd (false≢true is)

grown_by : (test : Bool) (before : ℕ) (line : List ℕ) (byte : ℕ)
    → (nat_lt before 5 && (get_or quit_return before 0 == byte)) ≡ test → line ≡ take before quit_return
    → IsMatched (if test then Some (before + 1) else None) (line ++ byte ∷ [])
grown_by false before line byte is so_far = tt
grown_by true before line byte is so_far =
    let parts = both (nat_lt before 5) (get_or quit_return before 0 == byte) is in
    let less : before < 5 = let small = parts.0 in grind (arith, nat_tests) in
    let same : get_or quit_return before 0 ≡ byte = let equal = parts.1 in grind (arith, nat_tests) in (
      omega (arith, less),
      ap (λ bytes. bytes ++ byte ∷ []) so_far ∙ ap (λ last. take before quit_return ++ last ∷ []) (sym same)
          ∙ sym (take_more quit_return before 0 less),
    )

grown : (matched : Option ℕ) (line : List ℕ) (byte : ℕ) → IsMatched matched line
    → IsMatched (match_more matched byte) (line ++ byte ∷ [])
grown None line byte is = tt
grown (Some before) line byte is =
    grown_by (nat_lt before 5 && (get_or quit_return before 0 == byte)) before line byte refl is.1

exactly_grown : (matched : Option ℕ) (line : List ℕ) (byte : ℕ)
    → match_more (matched_from matched line) byte ≡ matched_from matched (line ++ byte ∷ [])
exactly_grown matched [] byte = refl
exactly_grown matched (first ∷ line) byte = exactly_grown (match_more matched first) line byte

-- one byte more of a line
pub line_grown : (matched now : Option ℕ) (old mid new : Option (List ℕ)) (given : Option ℕ) (byte : ℕ)
    → HasRead matched old mid → given ≡ Some byte → (byte == 10) ≡ false → Consumes mid new (option_to_list given)
    → now ≡ match_more matched byte → HasRead now old new
line_grown matched now old mid new given byte so_far is other came more =
    let read : Consumes mid new (byte ∷ []) = subst (λ it. Consumes mid new (option_to_list it)) is came in
    let cut = sym (cut_of-byte so_far.bytes byte other) in
    let line = (cut_of so_far.bytes).rest in
    record {
      bytes = so_far.bytes ++ byte ∷ [];
      read = Consumes-trans old mid new so_far.bytes (byte ∷ []) so_far.read read;
      none = subst (λ (it : Cut). All IsPassedOver it.finished) cut so_far.none;
      is = subst (λ (it : Cut). IsMatched now it.rest) cut
          (subst (λ count. IsMatched count (line ++ byte ∷ [])) (sym more) (grown matched line byte so_far.is));
      exact = more ∙ ap (λ count. match_more count byte) so_far.exact ∙ exactly_grown (Some 0) line byte
          ∙ ap (λ (it : Cut). matched_in it.rest) cut;
    }

closes_by : (n : ℕ) (line : List ℕ) → (4 < n) ⊎ (n ≤ 4) → 4 ≤ n → n ≤ 5 → line ≡ take n quit_return → SaysClose line
closes_by n line (inl more) low high is =
    let five : n ≡ 5 = omega arith in
    inr (is ∙ ap (λ count. take count quit_return) five)
closes_by n line (inr less) low high is =
    let four : n ≡ 4 = omega arith in
    inl (is ∙ ap (λ count. take count quit_return) four)

closes : (matched : Option ℕ) (line : List ℕ) → IsMatched matched line → has_quit matched ≡ true → SaysClose line
closes None line is has = absurd (false≢true has)
closes (Some n) line is has =
    let low : 4 ≤ n = grind (arith, nat_tests) in
    closes_by n line (cases_lt 4 n) low is.0 is.1

-- the line feed of a line that closes the room has come
pub quit_read : (matched : Option ℕ) (old mid new : Option (List ℕ)) (given : Option ℕ) → HasRead matched old mid
    → has_quit matched ≡ true → given ≡ Some 10 → Consumes mid new (option_to_list given) → SaysQuit old new
quit_read matched old mid new given so_far has is came =
    let byte : Consumes mid new (10 ∷ []) = subst (λ it. Consumes mid new (option_to_list it)) is came in
    let before = cut_of so_far.bytes in
    record {
      bytes = so_far.bytes ++ 10 ∷ [];
      read = Consumes-trans old mid new so_far.bytes (10 ∷ []) so_far.read byte;
      front = before.finished;
      none = so_far.none;
      line = before.rest;
      closes = closes matched before.rest so_far.is has;
      lines_are = ap (λ (it : Cut). it.finished) (cut_of-feed so_far.bytes);
      ends = ap (λ (it : Cut). it.rest) (cut_of-feed so_far.bytes);
    }

-- no more was read, at the end of the input
pub none_at_end : (matched : Option ℕ) (old mid new : Option (List ℕ)) (given : Option ℕ) → HasRead matched old mid
    → given ≡ None → Consumes mid new (option_to_list given) → SaysNoQuit old new
none_at_end matched old mid new given so_far is came =
    let none : Consumes mid new [] = subst (λ it. Consumes mid new (option_to_list it)) is came in
    record {
      bytes = so_far.bytes ++ [];
      read = Consumes-trans old mid new so_far.bytes [] so_far.read none;
      none = subst (λ bytes. All IsPassedOver (cut_of bytes).finished) (sym (append-nil so_far.bytes)) so_far.none;
    }

-- no more was read, after a failed read
pub none_at_failure : (matched : Option ℕ) (old mid new : Option (List ℕ)) → HasRead matched old mid → Keeps mid new
    → SaysNoQuit old new
none_at_failure matched old mid new so_far keeps = record {
  bytes = so_far.bytes;
  read = Consumes-kept old mid new so_far.bytes so_far.read keeps;
  none = so_far.none;
}

-- nothing was read
pub none_read : (old : Option (List ℕ)) → SaysNoQuit old old
none_read old = none_at_failure (Some 0) old old old (nothing_read old) (Keeps-refl old)
