-- The text of a picture, by what the seat knew before it.
use Rattle.std.proofs.Common.{◌≡◌, ℕ, List, ◌++◌, ap, ◌∙◌}
use Rattle.room_1401.specs.declared.picture.Picture.{Picture}
use Rattle.serving_page.specs.PictureLines.{picture_text}

-- the same number, the same count and the same picture have the same text
pub same_text : (front text : List ℕ) (seats number number' made made' : ℕ) (picture picture' : Picture)
    → text ≡ front ++ picture_text number seats made picture → number ≡ number' → made ≡ made' → picture ≡ picture'
    → text ≡ front ++ picture_text number' seats made' picture'
same_text front text seats number number' made made' picture picture' is numbers mades pictures =
    is
    ∙ ap (λ (n : ℕ). front ++ picture_text n seats made picture) numbers
    ∙ ap (λ (n : ℕ). front ++ picture_text number' seats n picture) mades
    ∙ ap (λ (each : Picture). front ++ picture_text number' seats made' each) pictures
