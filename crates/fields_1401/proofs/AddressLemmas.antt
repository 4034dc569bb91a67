-- Three characters read as an address.
use Rattle.std.proofs.Common.{◌≡◌, ℕ, ◌+◌, ◌-◌, ◌≤◌, ◌∙◌, ap, arith}
use Rattle.core_1401.specs.Address.{value_of}
use Rattle.core_1401.specs.Storage.{Storage, cell_at}
use Rattle.fields_1401.specs.AddressSums.{value_down}

-- those that end at a place, read one by one
pub value_read : (s : Storage) (at h t u : ℕ) → 2 ≤ at → h ≡ (cell_at s (at - 2)).char → t ≡ (cell_at s (at - 1)).char
    → u ≡ (cell_at s at).char → value_of h t u ≡ value_down s at
value_read s at h t u three high middle low =
    let first : ℕ = (cell_at s (at - 2)).char in
    let second : t ≡ (cell_at s (at - 2 + 1)).char =
    middle ∙ ap (λ (p : ℕ). (cell_at s p).char) (omega (arith, three)) in
    let third : u ≡ (cell_at s (at - 2 + 2)).char = low ∙ ap (λ (p : ℕ). (cell_at s p).char) (omega (arith, three)) in
    ap (λ (x : ℕ). value_of x t u) high ∙ ap (λ (y : ℕ). value_of first y u) second
    ∙ ap (λ (z : ℕ). value_of first (cell_at s (at - 2 + 1)).char z) third
