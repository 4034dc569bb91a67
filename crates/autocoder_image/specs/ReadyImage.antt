-- An image that is ready to be written, a page after the other (own).
use Rattle.std.specs.Prelude.{ℕ, List}
use Rattle.machine_image.specs.ImageText.{written_text}
use Rattle.autocoder_image.specs.Pages.{IsEmpty}
use Rattle.autocoder_image.specs.declared.ready_image.ReadyImage.{ReadyImage}

-- the text that is written
abbrev pub text_of : ReadyImage → List ℕ
text_of ready = written_text ready.image

-- there is room for a page of it
abbrev pub HasPages : ReadyImage → Type 0
HasPages ready = IsEmpty ready.pages
