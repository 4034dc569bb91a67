-- When a served room is followed by a new one (own).
use Rattle.std.specs.Prelude.{ℕ, nat_lt, nat_le, Bool, ◌||◌, ◌&&◌, if◌then◌else◌, Option, Some}

-- how many seconds a room still has, if a new one follows it: none if one was asked for, or if commands were given and
-- none for as long as an idle room has; or else those of its notice
abbrev pub seconds_left : Bool → ℕ → ℕ → ℕ → Option ℕ → Option ℕ
seconds_left asked given since idle notice =
    if asked || (nat_lt 0 given && nat_le idle since) then Some 0 else notice
