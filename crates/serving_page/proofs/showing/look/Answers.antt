-- The picture is that of the commands that the seat has then seen.
use Rattle.std.proofs.Common.{rules, ◌∙◌}
use Rattle.std.specs.Prelude.{option_copied}
use Rattle.serving_page.specs.Showing.{HasLooked, heading}
use Rattle.room_1401.specs.Picture.{picture_after}
use Rattle.serving_page.proofs.ShowingLemmas.{same_text}
use Rattle.serving_page.proofs.showing.look.Goals as goal

pub returns-in-Ok-text_of : goal.returns-in-Ok-text_of
returns-in-Ok-text_of g c =
    let before = c.args.seat.now in
    let after = c.picture.new.self in
    let looked : HasLooked g.J.RoomId.size c.args.asked before after = search rules in (
      looked,
      search rules,
      same_text (heading (option_copied c.args.room) c.args.name.now) c.in-Ok-text_of.text.items c.args.seats
          c.number.result before.number c.made.result before.made c.in-Ok.picture
          (picture_after g.J.RoomId.size after.list c.args.asked.window) c.in-Ok-text_of.ensures
          (c.number.ensures ∙ looked.number_is) (c.made.ensures.made ∙ looked.made_is) c.in-Ok.ensures.picture,
    )
