-- The file's name and the size are those that were read.
use Rattle.std.proofs.Common.{true, false, rules}
use Rattle.program_arguments.proofs.reading.disassemble_call.Goals as goal

pub returns-then-get_flag : goal.returns-then-get_flag
returns-then-get_flag c = λ whole.
    let own = c.own-file.ensures whole in
    (own.0, (true, c.own-file.result, c.size_in-size.result, search rules, own.1, search rules, search rules))

pub returns-else-get_flag : goal.returns-else-get_flag
returns-else-get_flag c = λ whole.
    let own = c.own-file.ensures whole in
    (own.0, (false, c.own-file.result, c.size_in-size.result, search rules, own.1, search rules, search rules))
