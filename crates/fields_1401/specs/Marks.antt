-- Word marks set and cleared (A24-1403, "Set Word Mark", "Clear Word Mark", "Clear Storage").
use Rattle.std.specs.Prelude.{ℕ, ◌+◌, ◌-◌, ◌*◌, ◌/◌, ◌&&◌, Bool, true, false, Ok, Err, if◌then◌else◌}
use Rattle.core_1401.specs.Storage.{Storage, blank, is_in_core, with_mark}
use Rattle.fields_1401.specs.declared.done.FieldStop.TheVariants.{Address}
use Rattle.fields_1401.specs.Outcome.{Outcome, below_by, registers_of}
use Rattle.fields_1401.specs.Places.{with_cells}

-- both addresses with a word mark, or both without
abbrev pub marks_at : Storage → ℕ → ℕ → Bool → Outcome
marks_at storage a b mark =
    if is_in_core storage a && is_in_core storage b then Ok (
      with_mark (with_mark storage a mark) b mark,
      registers_of (below_by a 1) (below_by b 1),
    )
    else Err Address

-- word marks set at both addresses
abbrev pub set_marks_at : Storage → ℕ → ℕ → Outcome
set_marks_at storage a b = marks_at storage a b true

-- word marks cleared at both addresses
abbrev pub clear_marks_at : Storage → ℕ → ℕ → Outcome
clear_marks_at storage a b = marks_at storage a b false

-- the first place with the same hundreds
abbrev pub hundred_of : ℕ → ℕ
hundred_of at = at / 100 * 100

-- blanks without word marks at the n places from an address down
unfoldable pub cleared : Storage → ℕ → ℕ → Storage
cleared storage at n = with_cells storage at n (λ i. blank)

-- storage cleared from b down to its hundred
abbrev pub clear_down_at : Storage → ℕ → Outcome
clear_down_at storage b =
    if is_in_core storage b then Ok (
      cleared storage b (b + 1 - hundred_of b),
      registers_of b (below_by (hundred_of b) 1),
    ) else Err Address
