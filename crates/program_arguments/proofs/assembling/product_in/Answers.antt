use Rattle.std.proofs.Common.{rules}
use Rattle.program_arguments.proofs.assembling.product_in.Goals as goal

-- the three flags are those that were read
pub returns-then-tables-2 : goal.returns-then-tables-2
returns-then-tables-2 c =
    (c.get_flag.result, c.get_flag-2.result, c.get_flag-3.result, search rules, search rules, search rules, search rules)

pub returns-then-tables-3 : goal.returns-then-tables-3
returns-then-tables-3 c =
    (c.get_flag.result, c.get_flag-2.result, c.get_flag-3.result, search rules, search rules, search rules, search rules)

pub returns-else-tables-3 : goal.returns-else-tables-3
returns-else-tables-3 c =
    (c.get_flag.result, c.get_flag-2.result, c.get_flag-3.result, search rules, search rules, search rules, search rules)
