-- The numbers of the ends of a session (own).
use Rattle.std.specs.Prelude.{ℕ}
use Rattle.room_alone.specs.declared.session_end.SessionEnd.{SessionEnd}
use Rattle.room_alone.specs.declared.session_end.SessionEnd.TheVariants.{Quit, EndOfInput, Read, Write, Bound}
use Rattle.room_alone.specs.declared.session_end.SessionEnd.TheVariants.{Memory, Unkept}

-- how a session ends
abbrev pub end_number : SessionEnd → ℕ
end_number Quit = 1
end_number EndOfInput = 2
end_number Read = 3
end_number Write = 4
end_number Bound = 5
end_number Memory = 6
end_number Unkept = 7
