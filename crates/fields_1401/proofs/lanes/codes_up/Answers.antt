-- Each lane is the code at its place.
use Rattle.std.proofs.Common.{◌≡◌, ℕ, suc, ◌+◌, ◌≤◌, List, [], ◌∷◌, length, get_or, take, drop, refl, ap, sym}
use Rattle.std.proofs.Common.{◌∙◌, arith, drop-cons}
use Rattle.fields_1401.proofs.lanes.codes_up.Goals as goal

-- a fact and the others
also : {A B : Type 0} → A → B → A × B
also a b = (a, b)

-- these are the codes from the k-th place above another up
AreFrom : List ℕ → ℕ → ℕ → List ℕ → Type 0
AreFrom chars low k [] = Unit {0}
AreFrom chars low k (code ∷ codes) = (code ≡ get_or chars (low + k) 0) × AreFrom chars low (suc k) codes

taken_from : (chars : List ℕ) (low k : ℕ) (codes : List ℕ) → low + k + length codes ≤ length chars
    → AreFrom chars low k codes → codes ≡ take (length codes) (drop (low + k) chars)
unfolding AreFrom
taken_from chars low k [] inside are = refl
taken_from chars low k (code ∷ codes) inside are =
    let next : low + suc k ≡ suc (low + k) = omega arith in
    ap (λ (c : ℕ). c ∷ codes) are.0
    ∙ ap (λ (l : List ℕ). get_or chars (low + k) 0 ∷ l)
    (taken_from chars low (suc k) codes (omega (arith, inside)) are.1
    ∙ ap (λ (n : ℕ). take (length codes) (drop n chars)) next)
    ∙ ap (take (suc (length codes))) (sym (drop-cons chars (low + k) 0 (omega (arith, inside))))

pub returns-clause-codes : goal.returns-clause-codes
unfolding AreFrom
returns-clause-codes c =
    let chars : List ℕ = c.args.chars.now in
    let low : ℕ = c.args.low in
    let none : low + 0 ≡ low = omega arith in
    let first : c.code_at.result ≡ get_or chars (low + 0) 0 =
    c.code_at.ensures.value ∙ ap (λ (n : ℕ). get_or chars n 0) (sym none) in
    let codes : List ℕ =
    c.code_at.result ∷ c.code_at-2.result ∷ c.code_at-3.result ∷ c.code_at-4.result ∷ c.code_at-5.result ∷
    c.code_at-6.result ∷ c.code_at-7.result ∷ c.code_at-8.result ∷ c.code_at-9.result ∷ c.code_at-10.result ∷
    c.code_at-11.result ∷ c.code_at-12.result ∷ c.code_at-13.result ∷ c.code_at-14.result ∷ c.code_at-15.result ∷
    c.code_at-16.result ∷ [] in
    taken_from chars low 0 codes (omega (arith, c.requires))
    (also first (also c.code_at-2.ensures.value (also c.code_at-3.ensures.value (also c.code_at-4.ensures.value
    (also c.code_at-5.ensures.value (also c.code_at-6.ensures.value (also c.code_at-7.ensures.value (also
    c.code_at-8.ensures.value (also c.code_at-9.ensures.value (also c.code_at-10.ensures.value (also
    c.code_at-11.ensures.value (also c.code_at-12.ensures.value (also c.code_at-13.ensures.value (also
    c.code_at-14.ensures.value (also c.code_at-15.ensures.value (also c.code_at-16.ensures.value tt))))))))))))))))
    ∙ ap (λ (n : ℕ). take 16 (drop n chars)) none

pub returns-clause-range : goal.returns-clause-range
returns-clause-range c =
    also c.code_at.ensures.range (also c.code_at-2.ensures.range (also c.code_at-3.ensures.range (also
    c.code_at-4.ensures.range (also c.code_at-5.ensures.range (also c.code_at-6.ensures.range (also
    c.code_at-7.ensures.range (also c.code_at-8.ensures.range (also c.code_at-9.ensures.range (also
    c.code_at-10.ensures.range (also c.code_at-11.ensures.range (also c.code_at-12.ensures.range (also
    c.code_at-13.ensures.range (also c.code_at-14.ensures.range (also c.code_at-15.ensures.range (also
    c.code_at-16.ensures.range tt)))))))))))))))
