-- The numbers and the names of the stops (own).
use Rattle.std.specs.Prelude.{ℕ, List, codes}
use Rattle.machine_tables.specs.declared.stop.Stop.{Stop}
use Rattle.machine_tables.specs.declared.stop.Stop.TheVariants.{Limit, Halt, Reader, Forms, Stacker, NoMark, OpCode}
use Rattle.machine_tables.specs.declared.stop.Stop.TheVariants.{Length}
use Rattle.machine_tables.specs.declared.stop.Stop.TheVariants.{Address, Overlap, Carriage, NotFitted, DChar, Tape}

-- the number of a stop
abbrev pub stop_number : Stop → ℕ
stop_number Limit = 1
stop_number Halt = 2
stop_number Reader = 3
stop_number Forms = 4
stop_number Stacker = 5
stop_number NoMark = 6
stop_number OpCode = 7
stop_number Length = 8
stop_number Address = 9
stop_number Overlap = 10
stop_number Carriage = 11
stop_number NotFitted = 12
stop_number DChar = 13
stop_number Tape = 14

-- the name of a stop
abbrev pub stop_name : Stop → List ℕ
stop_name Limit = codes "LIMIT"
stop_name Halt = codes "HALT"
stop_name Reader = codes "READER"
stop_name Forms = codes "FORMS"
stop_name Stacker = codes "STACKER"
stop_name NoMark = codes "NOMARK"
stop_name OpCode = codes "OPCODE"
stop_name Length = codes "LENGTH"
stop_name Address = codes "ADDRESS"
stop_name Overlap = codes "OVERLAP"
stop_name Carriage = codes "CARRIAGE"
stop_name NotFitted = codes "NOTFITTED"
stop_name DChar = codes "DCHAR"
stop_name Tape = codes "TAPE"
