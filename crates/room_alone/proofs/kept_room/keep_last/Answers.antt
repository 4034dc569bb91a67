-- The last entry is kept, or a part of its line.
use Rattle.std.proofs.Common.{ap, length}
use Rattle.room_alone.proofs.KeptLemmas.{kept_or_broken}
use Rattle.room_alone.proofs.kept_room.keep_last.Goals as goal

pub returns-clause-text : goal.returns-clause-text
returns-clause-text g c =
    let room = c.args.room.now in
    kept_or_broken g.K.Keeper.form room.size (length c.journal.result.now) room.journal c.args.entry.now
    g.K.Keeper.first (g.K.Keeper.kept c.args.keeper.now) (g.K.Keeper.kept c.keep.new.self)
    (g.K.Keeper.has_failed c.keep.new.self) c.keep.result c.requires.lacks (ap length c.journal.ensures.journal)
    c.keep.ensures.line c.keep.ensures.part c.keep.ensures.good c.keep.ensures.failed
