-- The session is the one at the room that is kept from here on.
use Rattle.room_files.proofs.sessions.resume_session.Goals as goal

pub returns-clause-held : goal.returns-clause-held
returns-clause-held g c = record {
  before = c.take_up_room-kept.result;
  after = c.session_kept.new.room;
  room_is = c.take_up_room-kept.ensures.room;
  session = c.session_kept.ensures.session;
  kept = c.session_kept.ensures.kept;
  good = c.session_kept.ensures.good;
  unkept = c.session_kept.ensures.unkept;
}
