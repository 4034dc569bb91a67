-- The laws of a shorter journal, at the room's.
use Rattle.std.proofs.Common.{rules, ◌≡◌, ◌-◌, ◌≤◌, ◌++◌, Some, List, take, ap, sym, ◌∙◌, arith}
use Rattle.std.proofs.lemmas.Bool.{le-leb}
use Rattle.std.specs.Prelude.{Bool, None, if◌then◌else◌}
use Rattle.room_alone.specs.Journal.{pairs_of}
use Rattle.room_alone.specs.declared.entry.Entry.{Entry}
use Rattle.room_alone.specs.declared.entry.SeatedCommand.{SeatedCommand}
use Rattle.operate_sitting.specs.Back.{first_of, instructions_of, part_in, part_of, whole_in}
use Rattle.operate_sitting.proofs.BackLemmas.{WentBack, went_back}
use Rattle.operate_sitting.proofs.FirstEntriesLemmas.{first_of-cut}
use Rattle.operate_sitting.proofs.back.carry_back.Goals as goal

-- no fewer instructions were carried out
enough : (g : _) (c : goal.After-journal-legal g) → c.args.count ≤ instructions_of c.args.room.now.journal
enough g c =
    let total : c.instructions_of-total.result ≡ instructions_of c.args.room.now.journal =
    c.instructions_of-total.ensures ∙ ap instructions_of c.journal.ensures.journal in
    omega (arith, total, c.if-count-total.false)

-- the room has the commands of the first instructions
is : (g : _) (c : goal.After-journal-legal g) → pairs_of c.carry_part.new.room.journal
    ≡ first_of (instructions_of c.args.room.now.journal - c.args.count) c.args.room.now.journal
is g c =
    let journal = c.args.room.now.journal in
    let cut = c.cut_after-cut.result in
    let left = instructions_of journal - c.args.count in
    let whole : cut.whole ≡ whole_in left journal = search rules in
    let part : part_of cut.seat cut.limit ≡ part_in left journal = search rules in
    let carried : pairs_of c.carry_part.new.room.journal
    ≡ pairs_of c.in-Ok.earlier.journal ++ part_of cut.seat cut.limit = search rules in
    carried
    ∙ ap (λ (first : List Entry). pairs_of first ++ part_of cut.seat cut.limit) c.in-Ok.ensures.journal
    ∙ ap (λ n. pairs_of (take n journal) ++ part_of cut.seat cut.limit) whole
    ∙ ap (λ (pairs : List SeatedCommand). pairs_of (take (whole_in left journal) journal) ++ pairs) part
    ∙ first_of-cut left journal

went : (g : _) (c : goal.After-journal-legal g) → WentBack c.args.room.now.size c.carry_part.new.room.size c.args.count
    c.args.room.now.journal c.carry_part.new.room.journal
went g c =
    let same : c.carry_part.new.room.size ≡ c.args.room.now.size = c.carry_part.ensures.size ∙ c.in-Ok.ensures.size in
    went_back c.args.room.now.size c.carry_part.new.room.size c.args.count c.args.room.now.journal
    c.carry_part.new.room.journal same c.journal.ensures.legal c.journal-legal.ensures.legal (enough g c) (is g c)

pub returns-clause-commands : goal.returns-clause-commands
returns-clause-commands g c =
    let journal = c.args.room.now.journal in
    let first : List SeatedCommand = first_of (instructions_of journal - c.args.count) journal in
    ap (λ (pairs : List SeatedCommand). Some pairs) (is g c)
    ∙ sym (ap (λ (b : Bool). if b then Some first else None)
    (le-leb c.args.count (instructions_of journal) (enough g c)))

pub returns-clause-instructions : goal.returns-clause-instructions
returns-clause-instructions g c = (went g c).instructions

pub returns-clause-machines : goal.returns-clause-machines
returns-clause-machines g c = (went g c).machines

pub returns-clause-gone : goal.returns-clause-gone
returns-clause-gone g c = (went g c).gone

pub returns-clause-by : goal.returns-clause-by
returns-clause-by g c = (went g c).by
