-- Its codes and its word marks are those that always say so.
use Rattle.core_1401.specs.EightCells.{AreEightCodes}
use Rattle.cpu_1401.proofs.DecodeCacheLemmas.{are_cells}
use Rattle.cpu_1401.proofs.decode_cache.said_there.Goals as goal

pub returns-clause-says : goal.returns-clause-says
returns-clause-says c =
    let are : AreEightCodes c.args.core.now c.args.at c.eight_codes.result = record {
      are_bytes = c.eight_codes.ensures.are_bytes;
      are_codes = c.eight_codes.ensures.are_codes;
    } in
    c.args.entry.now.says c.args.core.now c.args.at c.requires.inside
    (are_cells c.args.core.now c.args.at c.eight_codes.result c.args.entry.now c.requires.marks are c.if-eight_codes-entry.false)
