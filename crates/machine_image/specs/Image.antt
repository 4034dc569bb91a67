-- The places of the parts of an image (own).
use Rattle.std.specs.Prelude.{◌≡◌, ℕ, ◌+◌, Bool, true, length, nat_le, nat_lt}
use Rattle.std.specs.List.{list_all}
use Rattle.core_1401.specs.Storage.{is_core_size}
use Rattle.machine_image.specs.declared.image.Image.{Image}
use Rattle.machine_image.specs.declared.image.Segment.{Segment}

-- whether a segment lies in core storage of this size
abbrev pub is_inside : ℕ → Segment → Bool
is_inside size segment = nat_le (segment.address + length segment.cells) size

-- the segments and the entry lie in core storage of the image's size, which is one that is made
pub record IsInCore (image : Image) : Type 0 where
  pub size : is_core_size image.size ≡ true
  pub segments : list_all (is_inside image.size) image.segments ≡ true
  pub start : nat_lt image.start image.size ≡ true
