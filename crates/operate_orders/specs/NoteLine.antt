-- The lines that note something next to the machine, and have a grammar of their own (own).
use Rattle.std.specs.Prelude.{ℕ, ◌==◌, not, if◌then◌else◌, List, length, drop, Option, None, Some, is_none}
use Rattle.std.specs.Prelude.{Result, Ok, Err, codes}
use Rattle.std.specs.Str.{bytes_eq}
use Rattle.console_text.specs.Words.{without_blanks}
use Rattle.operate_orders.specs.Operands.{Said, ◌>>=◌, ended, place_operand, count_operand, lone_range, lone_file}
use Rattle.operate_orders.specs.Parts.{first_of, operand_in, beyond_operand, is_end}
use Rattle.operate_orders.specs.Text.{kept, capitals}
use Rattle.operate_orders.specs.Value.{at_sign, quoted, condition_operand}
use Rattle.operate_orders.specs.Words.{keyword_of}
use Rattle.operate_orders.specs.declared.fault.OrderFault.{OrderFault}
use Rattle.operate_orders.specs.declared.fault.OrderFault.TheVariants as fault
use Rattle.operate_orders.specs.declared.orders.Note.TheVariants as note
use Rattle.operate_orders.specs.declared.orders.Order.TheVariants.{Note}
use Rattle.operate_orders.specs.declared.orders.Watched.TheVariants.{Places, Paper, Reader, Punch}
use Rattle.operate_orders.specs.declared.values.Condition.{Condition}
use Rattle.operate_orders.specs.declared.words.Keyword.{Keyword}
use Rattle.operate_orders.specs.declared.words.Keyword.TheVariants as keyword

-- nothing, or if CONDITION
unfoldable pub if_in : List ℕ → Result (Option Condition) OrderFault
if_in rest =
    if length (operand_in rest) == 0 then Ok None
    else (if not (bytes_eq (capitals (operand_in rest)) (codes "IF")) then Err (fault.Usage keyword.Break) else do
      condition ← condition_operand keyword.Break (beyond_operand rest)
      Ok (Some condition))

-- a count, and then the same
unfoldable pub counted_in : List ℕ → Result (Option ℕ × Option Condition) OrderFault
counted_in rest = do
  after ← count_operand (operand_in rest)
  if is_none after then Err (fault.Usage keyword.Break) else do
    condition ← if_in (beyond_operand rest)
    Ok (after, condition)

abbrev pub uncounted_in : List ℕ → Result (Option ℕ × Option Condition) OrderFault
uncounted_in rest = do
  condition ← if_in rest
  Ok (None, condition)

-- when a break stops: after N, if CONDITION
unfoldable pub when_in : List ℕ → Result (Option ℕ × Option Condition) OrderFault
when_in rest =
    if bytes_eq (capitals (operand_in rest)) (codes "AFTER") then counted_in (beyond_operand rest)
    else uncounted_in rest

-- break ADDRESS [after N] [if CONDITION]
unfoldable pub break_of : List ℕ → Said
break_of rest = do
  place ← place_operand keyword.Break (operand_in rest)
  when ← when_in (beyond_operand rest)
  Ok (Note (note.Break place when.0 when.1))

-- paper, or paper @TEXT@
unfoldable pub paper_at : List ℕ → Said
paper_at rest =
    if is_end rest then Ok (Note (note.Watch (Paper None)))
    else (if not (first_of (without_blanks rest) == at_sign) then Err (fault.Usage keyword.Watch) else do
      text ← quoted keyword.Watch (drop 1 (without_blanks rest))
      Ok (Note (note.Watch (Paper (Some text)))))

unfoldable pub places_at : List ℕ → Said
places_at rest = do
  range ← lone_range keyword.Watch rest
  Ok (Note (note.Watch (Places range)))

-- watch FIELD, RANGE, paper, reader or punch; these words go before a label
unfoldable pub watch_of : List ℕ → Said
watch_of rest =
    if bytes_eq (capitals (operand_in rest)) (codes "PAPER") then paper_at (beyond_operand rest)
    else (if bytes_eq (capitals (operand_in rest)) (codes "READER")
    then ended keyword.Watch (beyond_operand rest) (Note (note.Watch Reader))
    else (if bytes_eq (capitals (operand_in rest)) (codes "PUNCH")
    then ended keyword.Watch (beyond_operand rest) (Note (note.Watch Punch)) else places_at rest))

-- transcript FILE, or transcript off
unfoldable pub transcript_of : List ℕ → Said
transcript_of rest = do
  file ← lone_file keyword.Transcript rest
  if bytes_eq (capitals file) (codes "OFF") then Ok (Note (note.Transcript None))
      else Ok (Note (note.Transcript (Some file)))

abbrev help_with : List ℕ → Option Keyword → Said
help_with letters None = Err (fault.Word (kept letters))
help_with letters (Some keyword) = Ok (Note (note.Help (Some keyword)))

unfoldable pub help_on : List ℕ → Said
help_on letters = help_with letters (keyword_of (capitals letters))

-- help [WORD]
unfoldable pub help_of : List ℕ → Said
help_of rest =
    if length (operand_in rest) == 0 then Ok (Note (note.Help None))
    else (if not (is_end (beyond_operand rest)) then Err (fault.Usage keyword.Help) else help_on (operand_in rest))
