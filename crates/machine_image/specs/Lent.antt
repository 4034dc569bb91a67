-- An image whose segments are read when they are asked for (own).
use Rattle.std.specs.Prelude.{◌≡◌, ℕ, List, [], Result, Ok, Err}
use Rattle.machine_image.specs.declared.fault.ImageFault.{ImageFault}
use Rattle.machine_image.specs.declared.image.Image.{Image}
use Rattle.machine_image.specs.declared.version.Version.{Version}
use Rattle.machine_image.specs.Reading.{Contents, contents_in, parts_of}

-- what was read; nothing if it has a fault
abbrev pub contents_or_none : Result Contents ImageFault → Contents
contents_or_none (Ok contents) = contents
contents_or_none (Err fault) = ([], 0)

-- the image of the segments that a text has, with this entry
abbrev pub image_left : Version → ℕ → ℕ → List ℕ → Image
image_left version size start text =
    record {
      size = size;
      segments = (contents_or_none (contents_in version size (parts_of text))).0;
      start = start;
    }

-- The text has good segments, and this entry.
abbrev pub IsGood : Version → ℕ → ℕ → List ℕ → Type 0
IsGood version size start text =
    contents_in version size (parts_of text) ≡ Ok ((image_left version size start text).segments, start)

-- the entry of what was read, or its fault
abbrev pub entry_read : Result Contents ImageFault → Result ℕ ImageFault
entry_read (Ok contents) = Ok contents.1
entry_read (Err fault) = Err fault
