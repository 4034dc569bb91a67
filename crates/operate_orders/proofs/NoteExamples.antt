-- The lines that note something, and the faults of whole lines, computed.
use Rattle.std.proofs.Common.{◌≡◌, ℕ, true, false, List, [], ◌∷◌, ◌++◌, map, replicate, Some, None, refl}
use Rattle.std.specs.Prelude.{Ok, Err, codes}
use Rattle.std.specs.Fmt.{digits}
use Rattle.operate_orders.proofs.Says.{says, AllSay, plain, at, label}
use Rattle.operate_orders.specs.FaultText.{byte_text, fault_text}
use Rattle.operate_orders.specs.declared.fault.OrderFault.TheVariants as fault
use Rattle.operate_orders.specs.declared.orders.Note.TheVariants.{Break, Watch, Delete, Do, Transcript, Assert, Help, Save}
use Rattle.operate_orders.specs.declared.orders.Order.TheVariants.{Nothing, Note}
use Rattle.operate_orders.specs.declared.orders.Watched.TheVariants.{Places, Paper, Reader, Punch}
use Rattle.operate_orders.specs.declared.places.Base.TheVariants.{Index}
use Rattle.operate_orders.specs.declared.places.IndexRegister.TheVariants.{X1}
use Rattle.operate_orders.specs.declared.places.Place.{Place}
use Rattle.operate_orders.specs.declared.ranges.Area.TheVariants as area
use Rattle.operate_orders.specs.declared.ranges.Range.TheVariants as range
use Rattle.operate_orders.specs.declared.values.Condition.{Condition}
use Rattle.operate_orders.specs.declared.values.Relation.{Relation}
use Rattle.operate_orders.specs.declared.values.Relation.TheVariants.{Equal, Unequal, Less, Greater, AtMost, AtLeast}
use Rattle.operate_orders.specs.declared.values.Value.{Value}
use Rattle.operate_orders.specs.declared.values.Value.TheVariants as value
use Rattle.operate_orders.specs.declared.words.Keyword.TheVariants as keyword

abbrev that : Place → Relation → Value → Condition
that field relation value = record { field = field; relation = relation; value = value }

abbrev number : List ℕ → Value
number digits = value.Number false digits

breaks : AllSay (
    (codes "break LOOK", Ok (Note (Break (label (codes "LOOK")) None None))) ∷
    (codes "b 431 after 2", Ok (Note (Break (at 431) (Some 2) None))) ∷ (
      codes "break LOOK if X1 = 12",
      Ok (Note (Break (label (codes "LOOK")) None
          (Some (that (plain (Index X1)) Equal (number (codes "12")))))),
    ) ∷ (
      codes "break LOOK after 2 if X1 = 12 # twelve",
      Ok (Note (Break (label (codes "LOOK")) (Some 2)
          (Some (that (plain (Index X1)) Equal (number (codes "12")))))),
    ) ∷
    (codes "b", Err (fault.Usage keyword.Break)) ∷
    (codes "b LOOK 2", Err (fault.Usage keyword.Break)) ∷
    (codes "b LOOK after", Err (fault.Usage keyword.Break)) ∷
    (codes "b LOOK after 0", Err (fault.Count (codes "0"))) ∷
    (codes "b LOOK if", Err (fault.Usage keyword.Break)) ∷
    (codes "b LOOK if X1", Err (fault.Usage keyword.Break)) ∷ [])
unfolding says
breaks = refl

conditions : AllSay (
    (codes "assert TOTAL = 1375", Ok (Note (Assert (that (label (codes "TOTAL")) Equal (number (codes "1375")))))) ∷
    (codes "as TOTAL<>-1", Ok (Note (Assert (that (label (codes "TOTAL")) Unequal (value.Number true (codes "1")))))) ∷
    (codes "as TOTAL < 1", Ok (Note (Assert (that (label (codes "TOTAL")) Less (number (codes "1")))))) ∷
    (codes "as TOTAL > 2000", Ok (Note (Assert (that (label (codes "TOTAL")) Greater (number (codes "2000")))))) ∷
    (codes "as TOTAL <= 1", Ok (Note (Assert (that (label (codes "TOTAL")) AtMost (number (codes "1")))))) ∷
    (codes "as TOTAL>=1", Ok (Note (Assert (that (label (codes "TOTAL")) AtLeast (number (codes "1")))))) ∷
    (codes "as NAME = @total@", Ok (Note (Assert (that (label (codes "NAME")) Equal (value.Text (codes "TOTAL")))))) ∷
    (codes "assert", Err (fault.Usage keyword.Assert)) ∷
    (codes "as A == 1", Err (fault.Number (codes "="))) ∷
    (codes "as A B = 1", Err (fault.Usage keyword.Assert)) ∷ [])
unfolding says
conditions = refl

watches : AllSay (
    (codes "watch TOTAL", Ok (Note (Watch (Places (range.At (label (codes "TOTAL"))))))) ∷
    (codes "w 201..332", Ok (Note (Watch (Places (range.Between (at 201) (at 332)))))) ∷
    (codes "w print", Ok (Note (Watch (Places (range.Area area.Print))))) ∷
    (codes "watch paper", Ok (Note (Watch (Paper None)))) ∷
    (codes "watch paper @none@", Ok (Note (Watch (Paper (Some (codes "NONE")))))) ∷
    (codes "w (paper)", Ok (Note (Watch (Places (range.At (label (codes "PAPER"))))))) ∷
    (codes "w reader", Ok (Note (Watch Reader))) ∷
    (codes "w punch", Ok (Note (Watch Punch))) ∷
    (codes "w paper NONE", Err (fault.Usage keyword.Watch)) ∷
    (codes "w punch 2", Err (fault.Usage keyword.Watch)) ∷
    (codes "w", Err (fault.Usage keyword.Watch)) ∷ [])
unfolding says
watches = refl

other_notes : AllSay (
    (codes "delete", Ok (Note (Delete (replicate 8 None)))) ∷
    (codes "del 1 12", Ok (Note (Delete (Some 1 ∷ Some 12 ∷ replicate 6 None)))) ∷
    (codes "del 0", Err (fault.Count (codes "0"))) ∷
    (codes "del 1 0000000002", Err (fault.Digits (codes "0000000002"))) ∷
    (codes "del 1 2 3 4 5 6 7 8 9", Err (fault.Usage keyword.Delete)) ∷
    (codes "do Check.txt", Ok (Note (Do (codes "Check.txt")))) ∷
    (codes "transcript Today #1", Ok (Note (Transcript (Some (codes "Today #1"))))) ∷
    (codes "t off", Ok (Note (Transcript None))) ∷
    (codes "t", Err (fault.Usage keyword.Transcript)) ∷
    (codes "save t2.journal", Ok (Note (Save (codes "t2.journal")))) ∷
    (codes "help", Ok (Note (Help None))) ∷
    (codes "h st", Ok (Note (Help (Some keyword.Step)))) ∷
    (codes "h stpe", Err (fault.Word (codes "stpe"))) ∷
    (codes "h s t", Err (fault.Usage keyword.Help)) ∷ [])
unfolding says
other_notes = refl

faults_of_lines : AllSay (
    (codes "stpe", Err (fault.Word (codes "stpe"))) ∷
    (codes "400", Err (fault.Word (codes "400"))) ∷
    (replicate 200 32, Ok Nothing) ∷
    (replicate 201 32, Err fault.Length) ∷
    (codes "s" ++ 9 ∷ codes "3", Err (fault.Byte 9 2)) ∷
    (0 ∷ [], Err (fault.Byte 0 1)) ∷
    (codes "do " ++ 255 ∷ [], Err (fault.Byte 255 4)) ∷ [])
unfolding says
faults_of_lines = refl

texts : map fault_text (
    fault.Word (codes "stpe") ∷ fault.Count (codes "0") ∷ fault.Usage keyword.Deposit ∷ fault.Usage keyword.Switch ∷
    fault.Byte 9 2 ∷ fault.Digits (codes "4294967296") ∷ [])
    ≡ codes "stpe is no word here" ∷ codes "0 is no number from 1 on" ∷
    codes "deposit ADDRESS TEXT, or deposit ADDRESS = STATEMENT" ∷ codes "switch A on, or switch A off, A to G" ∷
    codes "byte 9 in column 2 is no character" ∷ codes "4294967296 has more than nine digits" ∷ []
unfolding fault_text byte_text digits
texts = refl
