-- Each call looks at fewer options.
use Rattle.std.proofs.Common.{length}
use Rattle.autocoder_statements.proofs.wide_areas.AreaOptions.+and.Given as goal

abbrev pub decreases-and : goal.decreases-and
decreases-and l = length l.text.now
