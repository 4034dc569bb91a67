-- An image as it is written, a page after the other (own).
use Rattle.std.specs.Prelude.{◌≡◌, ◌≤◌, ℕ, List, [], vec_capacity}
use Rattle.bytes_streams.specs.Page.{most_in_page}
use Rattle.machine_image.specs.ImageText.{most_in_line}
use Rattle.autocoder_image.specs.declared.image_pages.ImagePages.{ImagePages}

-- there is room for a page and for a line
abbrev pub HasRoom : ImagePages → Type 0
HasRoom pages = (most_in_page ≤ vec_capacity pages.page) × (most_in_line ≤ vec_capacity pages.line)

-- there is, and nothing is to be written
abbrev pub IsEmpty : ImagePages → Type 0
IsEmpty pages = (pages.page.items ≡ []) × HasRoom pages

-- what isn't written yet
abbrev pub unwritten : ImagePages → List ℕ
unwritten pages = pages.page.items
