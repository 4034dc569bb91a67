-- Of the seats so far each has a thread, is kept, or was lost with a thread that was refused.
use Rattle.std.proofs.Common.{◌+◌, ◌≤◌, length, vec_capacity, vec_len}
use Rattle.console_1401.specs.Served.{CountsConsoles}
use Rattle.console_1401.proofs.serving.start_each.Given as goal

abbrev pub invariant-loop-seat : goal.invariant-loop-seat
invariant-loop-seat g l = record {
  counts : CountsConsoles (length l.yielded) l.count l.fault;
  len : vec_len l.threads + vec_len l.back ≤ length l.yielded;
  threads : l.total ≤ vec_capacity l.threads;
  back : l.total ≤ vec_capacity l.back;
}
