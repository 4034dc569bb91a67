-- If nothing is written over before it is read, a copy moves the characters.
use Rattle.std.proofs.Common.{◌≡◌, ℕ, ◌-◌, false, length, ap, sym, ◌∙◌}
use Rattle.core_1401.specs.Storage.{cell_at}
use Rattle.fields_1401.specs.Load.{is_overwritten}
use Rattle.fields_1401.specs.Places.{marks_of}
use Rattle.fields_1401.proofs.MoveLemmas.{moved_by_copy}
use Rattle.fields_1401.proofs.PlacesLemmas.{length-with_chars, marks_of-with_chars}
use Rattle.fields_1401.proofs.moves.move_places.Goals as goal

pub returns-else-is_overwritten : goal.returns-else-is_overwritten
returns-else-is_overwritten c =
    let old = c.args.core.now in
    let char_of : ℕ → ℕ = λ i. (cell_at old (c.args.a - i)).char in
    let apart : is_overwritten c.args.a c.args.b c.args.n ≡ false =
    sym c.is_overwritten.ensures ∙ c.if-is_overwritten.false in
    record {
      moved = c.copy_chars.ensures ∙ moved_by_copy old c.args.a c.args.b c.args.n apart;
      marks = ap marks_of c.copy_chars.ensures ∙ marks_of-with_chars old c.args.b c.args.n char_of c.requires.b_in;
      size = ap length c.copy_chars.ensures ∙ length-with_chars old c.args.b c.args.n char_of;
    }
