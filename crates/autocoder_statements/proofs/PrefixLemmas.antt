-- How many bytes pass a test in front, and tests of all bytes, or of some, by that.
use Rattle.std.proofs.Common.{◌≡◌, ◌∙◌, ℕ, ◌==◌, ◌+◌, suc, Bool, true, false, nat_lt, List, [], ◌∷◌, length, refl, arith}
use Rattle.std.proofs.Common.{◌<◌, get_or, drop}
use Rattle.std.proofs.lemmas.Bool.Decides.{nat_tests}
use Rattle.std.proofs.lemmas.List.Sums.{prefix_len-drop_yes, prefix_len-drop_no}
use Rattle.std.specs.List.{prefix_len, position_or_len, list_all, list_any}
use lib.Dec.{eqb-suc-suc, eqb-zero-suc}

-- one byte more passes
pub one_counted : (test : ℕ → Bool) (bytes : List ℕ) (i whole : ℕ) → i < length bytes
    → test (get_or bytes i 0) ≡ true → i + prefix_len test (drop i bytes) ≡ whole
    → i + 1 + prefix_len test (drop (i + 1) bytes) ≡ whole
one_counted test bytes i whole inside passes rest =
    omega (arith, prefix_len-drop_yes test bytes i 0 inside passes, rest)

-- the next doesn't
pub all_counted : (test : ℕ → Bool) (bytes : List ℕ) (i whole : ℕ) → i < length bytes
    → test (get_or bytes i 0) ≡ false → i + prefix_len test (drop i bytes) ≡ whole → i ≡ whole
all_counted test bytes i whole inside fails rest =
    omega (arith, prefix_len-drop_no test bytes i 0 inside fails, rest)

one_more : (n m : ℕ) → (1 + n == suc m) ≡ (n == m)
one_more n m = let next : 1 + n ≡ suc n = omega arith in rw next (eqb-suc-suc n m)

-- all bytes pass exactly if as many as there are pass in front
pub all_pass : (test : ℕ → Bool) (bytes : List ℕ) → (prefix_len test bytes == length bytes) ≡ list_all test bytes
all_pass test [] = refl
all_pass test (byte ∷ more) = by (test byte) refl (all_pass test more)
  where
    by : (b : Bool) → test byte ≡ b → (prefix_len test more == length more) ≡ list_all test more
        → (prefix_len test (byte ∷ more) == length (byte ∷ more)) ≡ list_all test (byte ∷ more)
    by true e rest = rw e (one_more (prefix_len test more) (length more) ∙ rest)
    by false e rest = rw e (eqb-zero-suc (length more))

-- some byte passes exactly if fewer than all come before the first that does
pub some_passes : (test : ℕ → Bool) (bytes : List ℕ)
    → nat_lt (position_or_len test bytes) (length bytes) ≡ list_any test bytes
some_passes test [] = refl
some_passes test (byte ∷ more) = by (test byte) refl (some_passes test more)
  where
    by : (b : Bool) → test byte ≡ b → nat_lt (position_or_len test more) (length more) ≡ list_any test more
        → nat_lt (position_or_len test (byte ∷ more)) (length (byte ∷ more)) ≡ list_any test (byte ∷ more)
    by true e rest = rw e (grind (arith, nat_tests))
    by false e rest = rw e (grind (arith, nat_tests, rest))
