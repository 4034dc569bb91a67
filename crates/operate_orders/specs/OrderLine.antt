-- What a line says (own): a word, and what follows it.
use Rattle.std.specs.Prelude.{ℕ, ◌+◌, ◌==◌, nat_lt, if◌then◌else◌, List, length}
use Rattle.std.specs.Prelude.{slice_index, Option, None, Some, unwrap_or, Ok, Err}
use Rattle.std.specs.List.{prefix_len}
use Rattle.console_text.specs.ConsoleLine.{most_line_bytes}
use Rattle.operate_orders.specs.ActLine.{deposit_of, set_of, switch_of, feed_of}
use Rattle.operate_orders.specs.Kind.{is_of_line}
use Rattle.operate_orders.specs.List.{some_fields_in, numbers_in}
use Rattle.operate_orders.specs.NoteLine.{break_of, watch_of, transcript_of, help_of}
use Rattle.operate_orders.specs.Operands.{Said, ◌>>=◌, ended, lone_place, maybe_place, lone_range, maybe_range}
use Rattle.operate_orders.specs.Operands.{lone_count, lone_file}
use Rattle.operate_orders.specs.Parts.{operand_in, beyond_operand}
use Rattle.operate_orders.specs.Text.{kept, capitals}
use Rattle.operate_orders.specs.Value.{condition_operand}
use Rattle.operate_orders.specs.Words.{keyword_of}
use Rattle.operate_orders.specs.declared.fault.OrderFault.TheVariants as fault
use Rattle.operate_orders.specs.declared.orders.Act.TheVariants as act
use Rattle.operate_orders.specs.declared.orders.Look.TheVariants as look
use Rattle.operate_orders.specs.declared.orders.Note.TheVariants as note
use Rattle.operate_orders.specs.declared.orders.Order.TheVariants.{Nothing, Look, Act, Note, Past, Quit}
use Rattle.operate_orders.specs.declared.orders.Past.TheVariants as past
use Rattle.operate_orders.specs.declared.words.Keyword.{Keyword}
use Rattle.operate_orders.specs.declared.words.Keyword.TheVariants as keyword

-- what a line says by its word and what follows that
unfoldable pub order_with : Keyword → List ℕ → Said
order_with keyword.Examine rest = lone_range keyword.Examine rest >>= λ range. Ok (Look (look.Examine range))
order_with keyword.List rest = maybe_range keyword.List rest >>= λ range. Ok (Look (look.List range))
order_with keyword.Print rest = some_fields_in rest >>= λ fields. Ok (Look (look.Print fields))
order_with keyword.Source rest = maybe_place keyword.Source rest >>= λ place. Ok (Look (look.Source place))
order_with keyword.Registers rest = ended keyword.Registers rest (Look look.Registers)
order_with keyword.Cards rest = ended keyword.Cards rest (Look look.Cards)
order_with keyword.Paper rest = lone_count keyword.Paper rest >>= λ count. Ok (Look (look.Paper count))
order_with keyword.Symbols rest =
    ended keyword.Symbols (beyond_operand rest) (Look (look.Symbols (capitals (operand_in rest))))
order_with keyword.Evaluate rest = lone_place keyword.Evaluate rest >>= λ place. Ok (Look (look.Evaluate place))
order_with keyword.Breaks rest = ended keyword.Breaks rest (Look look.Breaks)
order_with keyword.Why rest = ended keyword.Why rest (Look look.Why)
order_with keyword.Journal rest = lone_count keyword.Journal rest >>= λ count. Ok (Look (look.Journal count))
order_with keyword.Assert rest = condition_operand keyword.Assert rest >>= λ that. Ok (Note (note.Assert that))
order_with keyword.Help rest = help_of rest
order_with keyword.Deposit rest = deposit_of rest
order_with keyword.Set rest = set_of rest
order_with keyword.Mark rest = lone_place keyword.Mark rest >>= λ place. Ok (Act (act.Mark place))
order_with keyword.Unmark rest = lone_place keyword.Unmark rest >>= λ place. Ok (Act (act.Unmark place))
order_with keyword.Start rest = lone_place keyword.Start rest >>= λ place. Ok (Act (act.Start place))
order_with keyword.Switch rest = switch_of rest
order_with keyword.Feed rest = feed_of rest
order_with keyword.Deck rest = lone_file keyword.Deck rest >>= λ file. Ok (Act (act.Deck file))
order_with keyword.Load rest = ended keyword.Load rest (Act act.Load)
order_with keyword.Step rest = lone_count keyword.Step rest >>= λ count. Ok (Act (act.Step (unwrap_or count 1)))
order_with keyword.Continue rest = lone_count keyword.Continue rest >>= λ count. Ok (Act (act.Continue count))
order_with keyword.Until rest = lone_place keyword.Until rest >>= λ place. Ok (Act (act.Until place))
order_with keyword.Go rest = lone_place keyword.Go rest >>= λ place. Ok (Act (act.Go place))
order_with keyword.Undo rest = lone_count keyword.Undo rest >>= λ count. Ok (Past (past.Undo (unwrap_or count 1)))
order_with keyword.Back rest = lone_count keyword.Back rest >>= λ count. Ok (Past (past.Back (unwrap_or count 1)))
order_with keyword.Restart rest = ended keyword.Restart rest (Past past.Restart)
order_with keyword.Restore rest = lone_file keyword.Restore rest >>= λ file. Ok (Past (past.Restore file))
order_with keyword.Save rest = lone_file keyword.Save rest >>= λ file. Ok (Note (note.Save file))
order_with keyword.Break rest = break_of rest
order_with keyword.Watch rest = watch_of rest
order_with keyword.Delete rest = numbers_in rest >>= λ numbers. Ok (Note (note.Delete numbers))
order_with keyword.Do rest = lone_file keyword.Do rest >>= λ file. Ok (Note (note.Do file))
order_with keyword.Transcript rest = transcript_of rest
order_with keyword.Quit rest = ended keyword.Quit rest Quit

abbrev with_word : List ℕ → List ℕ → Option Keyword → Said
with_word word rest None = Err (fault.Word (kept word))
with_word word rest (Some keyword) = order_with keyword rest

-- a line without a word, or with a remark alone, says nothing
unfoldable pub order_in : List ℕ → Said
order_in line =
    if length (operand_in line) == 0 then Ok Nothing
    else with_word (operand_in line) (beyond_operand line) (keyword_of (capitals (operand_in line)))

-- more than 200 bytes are a fault before all else, and then a byte that no line has
unfoldable pub order_of : List ℕ → Said
order_of line =
    if nat_lt most_line_bytes (length line) then Err fault.Length
    else (if nat_lt (prefix_len is_of_line line) (length line)
    then Err (fault.Byte (slice_index line (prefix_len is_of_line line)) (prefix_len is_of_line line + 1))
    else order_in line)
