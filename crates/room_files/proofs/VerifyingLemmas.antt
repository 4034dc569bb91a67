-- What a verified text grows by.
use Rattle.std.proofs.Common.{◌≡◌, ℕ, ◌+◌, ◌<◌, ◌≤◌, Bool, true, false, nat_lt, if◌then◌else◌, List, ◌++◌, length}
use Rattle.std.proofs.Common.{take, drop, take-add, take_all, Option, None, Some, refl, sym, ap, ◌∙◌, arith}
use Rattle.std.proofs.lemmas.Bool.Decides.{nat_tests}
use Rattle.std.specs.Io.KnownBytes.{Appends}
use Rattle.room_files.specs.Verifying.{verified}

-- from a place in the text to one in it or at its end
grows : (text held bytes : List ℕ) (at next : ℕ) (before after : Bool) → before ≡ true
    → take next text ≡ take at text ++ bytes → (after ≡ false → held ≡ take next text)
    → Appends (if before then Some (take at text) else Some held) (if after then Some (take next text) else Some held)
    bytes
grows text held bytes at next false after inside more whole = absurd cc
grows text held bytes at next true true inside more whole = more
grows text held bytes at next true false inside more whole = whole refl ∙ more

-- bytes that are those of the text from a place on are added to what was verified
pub verified-grows : (text : List ℕ) (at n : ℕ) (sink : Option (List ℕ)) (bytes : List ℕ) → at < length text
    → ((held : List ℕ) → sink ≡ Some held → held ≡ text) → take n bytes ≡ take n (drop at text)
    → Appends (verified text at sink) (verified text (at + n) sink) (take n bytes)
verified-grows text at n None bytes inside whole same = tt
verified-grows text at n (Some held) bytes inside whole same =
    let before : nat_lt at (length text) ≡ true = grind (arith, nat_tests) in
    let more : take (at + n) text ≡ take at text ++ take n bytes =
    take-add at n text ∙ ap (λ (part : List ℕ). take at text ++ part) (sym same) in
    grows text held (take n bytes) at (at + n) (nat_lt at (length text)) (nat_lt (at + n) (length text)) before more
    (λ ended.
    let beyond : length text ≤ at + n = grind (arith, nat_tests) in
    whole held refl ∙ sym (take_all (at + n) text beyond))
