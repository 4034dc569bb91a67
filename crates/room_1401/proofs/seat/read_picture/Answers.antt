-- The reader enters, and the window is in the core that is shown.
use Rattle.room_1401.proofs.RuleLemmas.{enters}
use Rattle.room_1401.proofs.seat.read_picture.Goals as goal

pub enter_as-requires : goal.enter_as-requires
enter_as-requires g c = enters _ _ _ _
