-- Each line that was done is a line more.
use Rattle.std.proofs.Common.{rules, arith, ◌∙◌, true, false, ap, is_some}
use Rattle.operate_console.specs.Line.{AfterLines}
use Rattle.operate_console.specs.Run.{NotebookAccount, at_console}
use Rattle.operate_console.proofs.LineLemmas.{last_line, line_did, line_more}
use Rattle.operate_console.proofs.operating.do_lines.Goals as goal

-- The sitting ended with it.
pub returns-in-Some-clause-lines : goal.returns-in-Some-clause-lines
returns-in-Some-clause-lines g c =
    let first : AfterLines = record { at = at_console c.args.sitting c.args.notebook.now; faults = 0 } in
    let before : AfterLines =
    record { at = at_console c.loop-line.sitting c.loop-line.notebook; faults = c.loop-line.faults } in
    let after : AfterLines =
    record { at = at_console c.in-Ok.after.0 c.do_line.new.notebook; faults = c.faults_with-faults.result } in
    last_line c.args.setting.now.program.now c.args.setting.now.manner.now.limit c.in-Some.why first before after
    c.loop-line.invariant.so_far
    (line_did c.args.setting.now.program.now c.args.setting.now.manner.now.limit (is_some c.in-Ok.after.1) true
    c.as_slice.result.now c.parse_order-said.result c.loop-line.sitting c.in-Ok.after.0 c.loop-line.notebook
    c.begin_line.new.self c.do_line.new.notebook c.loop-line.faults c.faults_with-faults.result
    (ap is_some c.in-Some.is) c.parse_order-said.ensures (search rules)
    (ap (λ (it : NotebookAccount). it.stops) c.begin_line.ensures
    ∙ ap (λ (it : NotebookAccount). it.stops) c.next_line.ensures.noted)
    c.in-Ok.ensures.did c.faults_with-faults.ensures.faults)

pub loop-line-preserved : goal.loop-line-preserved
loop-line-preserved g c =
    let first : AfterLines = record { at = at_console c.args.sitting c.args.notebook.now; faults = 0 } in
    let before : AfterLines =
    record { at = at_console c.loop-line.sitting c.loop-line.notebook; faults = c.loop-line.faults } in
    let after : AfterLines =
    record { at = at_console c.in-Ok.after.0 c.do_line.new.notebook; faults = c.faults_with-faults.result } in
    record {
      so_far =
          line_more c.args.setting.now.program.now c.args.setting.now.manner.now.limit first before after
          c.loop-line.invariant.so_far
          (line_did c.args.setting.now.program.now c.args.setting.now.manner.now.limit (is_some c.in-Ok.after.1) false
          c.as_slice.result.now c.parse_order-said.result c.loop-line.sitting c.in-Ok.after.0 c.loop-line.notebook
          c.begin_line.new.self c.do_line.new.notebook c.loop-line.faults c.faults_with-faults.result
          (ap is_some c.in-None.is) c.parse_order-said.ensures (search rules)
          (ap (λ (it : NotebookAccount). it.stops) c.begin_line.ensures
          ∙ ap (λ (it : NotebookAccount). it.stops) c.next_line.ensures.noted)
          c.in-Ok.ensures.did c.faults_with-faults.ensures.faults);
      counted = omega (arith, c.faults_with-faults.ensures.few, c.loop-line.invariant.counted);
      good = search rules;
      sink = search rules;
      kept = search rules;
    }
