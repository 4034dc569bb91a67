-- How large a file may be that is read (own).
use Rattle.std.specs.Prelude.{ℕ, ◌^◌}

-- no program, deck or image is larger
abbrev pub most_bytes : ℕ
most_bytes = 2 ^ 24

-- nor is any reel's file larger
abbrev pub most_reel_bytes : ℕ
most_reel_bytes = 2 ^ 28
