-- What the checks found, and the addresses.
use Rattle.std.proofs.Common.{rules}
use Rattle.cpu_1401.proofs.machine.Machine.decode.Goals as goal

pub returns-clause-ok : goal.returns-clause-ok
returns-clause-ok c = record {
  mark = search rules;
  operation = search rules;
  near = search rules;
  len = search rules;
  is_fitted = search rules;
  is_length = search rules;
  inside = search rules;
  d = search rules;
  a = search rules;
  b = search rules;
  only = search rules;
}
