-- Two parts are put as one.
use Rattle.std.proofs.Common.{ℕ, ◌++◌, length, subst}
use Rattle.std.specs.Prelude.{codes}
use Rattle.machine_notation.specs.Digits.{digits_in}
use Rattle.program_convert.specs.Writing.{Puts}
use Rattle.program_convert.proofs.PutsLemmas.{part_failed, puts_then}
use Rattle.program_convert.proofs.lines.put_front.Goals as goal

pub returns-in-Err-clause-puts : goal.returns-in-Err-clause-puts
returns-in-Err-clause-puts g c =
    part_failed _ _ _ c.args.page.now.items (digits_in 6 c.args.number) (codes " " ++ digits_in 5 (length
    c.args.tape_record.now)) c.in-Err.ensures.puts

pub returns-clause-puts : goal.returns-clause-puts
returns-clause-puts g c =
    subst (λ (n : ℕ). Puts (g.W.Sink.received c.args.writer.now) (g.W.Sink.received c.put_number-2.new.writer)
    (g.W.Sink.has_failed c.put_number-2.new.writer)
    (c.args.page.now.items ++ ((digits_in 6 c.args.number) ++ (codes " " ++ digits_in 5 n)))
    c.put_number-2.new.page.items c.put_number-2.result) c.len.ensures.value
    (puts_then _ _ _ _ c.args.page.now.items (digits_in 6 c.args.number) _ (codes " " ++ digits_in 5 c.len.result) _
    _ c.in-Ok.ensures.puts c.put_number-2.ensures.puts)
