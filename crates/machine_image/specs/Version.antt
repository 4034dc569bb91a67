-- What sets the versions of an image's text apart (own).
use Rattle.std.specs.Prelude.{ℕ, ◌&&◌, nat_le, Bool, List, codes, slice_index_or}
use Rattle.core_1401.specs.Storage.{core_sizes, is_core_size}
use Rattle.machine_image.specs.declared.version.Version.{Version}
use Rattle.machine_image.specs.declared.version.Version.TheVariants.{One, Two}

-- what the header begins with
abbrev pub name_of : Version → List ℕ
name_of One = codes "IMAGE1 "
name_of Two = codes "IMAGE2 "

-- how many digits a size and an address have
abbrev pub address_digits : Version → ℕ
address_digits One = 4
address_digits Two = 5

-- the most places that an image of version 1 has: the third of the sizes
abbrev pub most_places : ℕ
most_places = slice_index_or core_sizes 2 0

-- the sizes that an image can have
abbrev pub has_size : Version → ℕ → Bool
has_size One size = is_core_size size && nat_le size most_places
has_size Two size = is_core_size size
