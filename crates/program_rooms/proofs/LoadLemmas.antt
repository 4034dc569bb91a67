-- Why no image is loaded.
use Rattle.std.proofs.Common.{◌≡◌, ℕ, ◌≤◌, ◌<◌, true, List, [], ◌++◌, length, take, ap, ◌∙◌, arith}
use Rattle.std.proofs.Common.{length-append}
use Rattle.std.proofs.lemmas.Bool.{leb-true}
use Rattle.std.proofs.lemmas.List.{length-take-le}
use Rattle.machine_image.specs.ImageText.{IsTextOf}
use Rattle.machine_image.specs.declared.image.Image.{Image}
use Rattle.machine_tables.specs.declared.features.Features.{Features}
use Rattle.console_1401.specs.ImageLoading.{WentOnByFewer, fit_entries, load_entries}
use Rattle.room_alone.specs.Journal.{is_full, most_entries}
use Rattle.room_alone.specs.declared.entry.Entry.{Entry}
use Rattle.program_rooms.specs.Load.{IsWhyNotLoaded, IsWhyNotPut}
use Rattle.program_rooms.specs.declared.session_fault.HoldFault.{HoldFault}
use Rattle.program_rooms.specs.declared.session_fault.HoldFault.TheVariants as fault

-- a journal that some of an image's commands have filled, after that of the features
pub too_many : (features : Features) (image : Image) (start before after : List Entry) → start ≡ []
    → before ≡ start ++ fit_entries features → WentOnByFewer before after (load_entries image) → is_full after ≡ true
    → most_entries < length (fit_entries features ++ load_entries image)
too_many features image start before after empty fitted fewer full =
    let fits : List Entry = fit_entries features in
    let all : List Entry = load_entries image in
    let least : most_entries ≤ length after = leb-true most_entries (length after) full in
    let first : length before ≡ length fits = ap length (fitted ∙ ap (λ (journal : List Entry). journal ++ fits) empty) in
    let many = ap length fewer.after_is ∙ length-append before (take fewer.count all) in
    let some = length-take-le fewer.count all (omega (arith, fewer.fewer)) in
    omega (arith, least, first, many, some, fewer.fewer, length-append fits all)

-- what kept an image out of a new room is why no room has it
pub not_loaded : (features : Features) (text : List ℕ) (image : Image) (why : HoldFault) → IsTextOf text image
    → IsWhyNotPut features image why → IsWhyNotLoaded features text why
not_loaded features text image fault.Output of never = never
not_loaded features text image fault.Size of never = never
not_loaded features text image (fault.Unread name) of never = never
not_loaded features text image (fault.Image why) of never = absurd never
not_loaded features text image fault.JournalFull of more = record { image = image; text_is = of; more = more }
not_loaded features text image fault.Memory of _ = (image, of)
not_loaded features text image (fault.Session why) of never = never
not_loaded features text image (fault.Kept why) of never = never
