-- The lines that act, and those that go back, computed.
use Rattle.std.proofs.Common.{ℕ, true, false, [], ◌∷◌, ◌++◌, replicate, Some, None, refl}
use Rattle.std.specs.Prelude.{Ok, Err, codes}
use Rattle.bcd_1401.specs.declared.cell.Cell.{Cell}
use Rattle.machine_tables.specs.declared.switch_name.SwitchName.TheVariants.{A, G}
use Rattle.operate_orders.proofs.Says.{says, AllSay, adjusted, at, label, line}
use Rattle.operate_orders.specs.declared.fault.OrderFault.TheVariants as fault
use Rattle.operate_orders.specs.declared.orders.Act.TheVariants.{Deposit, Set, Mark, Unmark, Start, Switch}
use Rattle.operate_orders.specs.declared.orders.Act.TheVariants.{Feed, Deck, Load, Step, Continue, Until, Go}
use Rattle.operate_orders.specs.declared.orders.Deposited.TheVariants.{Cells, Statement}
use Rattle.operate_orders.specs.declared.orders.Order.TheVariants.{Act, Past}
use Rattle.operate_orders.specs.declared.orders.Past.TheVariants.{Undo, Back, Restart, Restore}
use Rattle.operate_orders.specs.declared.places.Adjustment.TheVariants.{Minus}
use Rattle.operate_orders.specs.declared.places.Base.TheVariants.{Number}
use Rattle.operate_orders.specs.declared.values.Value.TheVariants as value
use Rattle.operate_orders.specs.declared.words.Keyword.TheVariants as keyword

abbrev character : ℕ → Cell
character code = record { char = code; mark = false }

abbrev marked : ℕ → Cell
marked code = record { char = code; mark = true }

deposits : AllSay (
    (codes "deposit 700 ~999", Ok (Act (Deposit (at 700) (Cells (marked 9 ∷ character 9 ∷ character 9 ∷ []))))) ∷
    (codes "d 700 a", Ok (Act (Deposit (at 700) (Cells (character 49 ∷ []))))) ∷
    (codes "d 700  A ", Ok (Act (Deposit (at 700) (Cells (character 0 ∷ character 49 ∷ character 0 ∷ []))))) ∷
    (codes "d 700 # 1", Ok (Act (Deposit (at 700) (Cells (character 11 ∷ character 0 ∷ character 1 ∷ []))))) ∷
    (codes "dep 600 = mlc tag,AREA", Ok (Act (Deposit (at 600) (Statement (codes "MLC TAG,AREA"))))) ∷
    (codes "dep :8 =h  ", Ok (Act (Deposit (line 8) (Statement (codes "H  "))))) ∷
    (codes "dep 100", Err (fault.Usage keyword.Deposit)) ∷
    (codes "dep 100 =", Err (fault.Usage keyword.Deposit)) ∷
    (codes "dep", Err (fault.Usage keyword.Deposit)) ∷
    (codes "dep 1x A", Err (fault.Place (codes "1x"))) ∷
    (codes "dep 100 {", Err fault.Graphic) ∷
    (codes "dep 100 " ++ replicate 41 65, Err fault.Cells) ∷ [])
unfolding says
deposits = refl

values : AllSay (
    (codes "set TOTAL = -500", Ok (Act (Set (label (codes "TOTAL")) (value.Number true (codes "500"))))) ∷
    (codes "SET total=0500", Ok (Act (Set (label (codes "TOTAL")) (value.Number false (codes "0500"))))) ∷
    (codes "set 6 = +5 # five", Ok (Act (Set (at 6) (value.Number false (codes "5"))))) ∷
    (codes "set NAME = @total @", Ok (Act (Set (label (codes "NAME")) (value.Text (codes "TOTAL "))))) ∷
    (codes "set NAME = @A", Err (fault.Usage keyword.Set)) ∷
    (codes "set NAME = @@", Err (fault.Usage keyword.Set)) ∷
    (codes "set NAME = @A@ B", Err (fault.Usage keyword.Set)) ∷
    (codes "set NAME = @{@", Err fault.Graphic) ∷
    (codes "set NAME = x1", Err (fault.Number (codes "x1"))) ∷
    (codes "set NAME = -", Err (fault.Number (codes "-"))) ∷
    (codes "set NAME = 5 6", Err (fault.Usage keyword.Set)) ∷
    (codes "set NAME =", Err (fault.Usage keyword.Set)) ∷
    (codes "set NAME 5", Err (fault.Usage keyword.Set)) ∷
    (codes "set = 5", Err (fault.Usage keyword.Set)) ∷
    (codes "set +1 = 5", Err (fault.Place (codes "+1"))) ∷ [])
unfolding says
values = refl

places : AllSay (
    (codes "mark 1", Ok (Act (Mark (at 1)))) ∷
    (codes "unm 1", Ok (Act (Unmark (at 1)))) ∷
    (codes "sta START", Ok (Act (Start (label (codes "START"))))) ∷
    (codes "until NEXT", Ok (Act (Until (label (codes "NEXT"))))) ∷
    (codes "u 400-2", Ok (Act (Until (adjusted (Number 400) (Some (Minus 2)) None None)))) ∷
    (codes "g 600", Ok (Act (Go (at 600)))) ∷
    (codes "go", Err (fault.Usage keyword.Go)) ∷
    (codes "mark 1 2", Err (fault.Usage keyword.Mark)) ∷ [])
unfolding says
places = refl

switches : AllSay (
    (codes "switch A on", Ok (Act (Switch A true))) ∷
    (codes "sw g OFF", Ok (Act (Switch G false))) ∷
    (codes "switch h on", Err (fault.Usage keyword.Switch)) ∷
    (codes "switch A", Err (fault.Usage keyword.Switch)) ∷
    (codes "switch A on now", Err (fault.Usage keyword.Switch)) ∷ [])
unfolding says
switches = refl

cards : AllSay (
    (codes "feed 001000 saturday", Ok (Act (Feed (codes "001000 SATURDAY")))) ∷
    (codes "f", Ok (Act (Feed []))) ∷
    (codes "f  #1", Ok (Act (Feed (codes " #1")))) ∷
    (codes "f ~", Err fault.Graphic) ∷
    (codes "f " ++ replicate 81 65, Err fault.Card) ∷
    (codes "deck my cards.deck ", Ok (Act (Deck (codes "my cards.deck")))) ∷
    (codes "dec", Err (fault.Usage keyword.Deck)) ∷
    (codes "lo", Ok (Act Load)) ∷ [])
unfolding says
cards = refl

runs : AllSay (
    (codes "step", Ok (Act (Step 1))) ∷
    (codes "s 3", Ok (Act (Step 3))) ∷
    (codes "s 0", Err (fault.Count (codes "0"))) ∷
    (codes "s x", Err (fault.Count (codes "x"))) ∷
    (codes "c", Ok (Act (Continue None))) ∷
    (codes "continue 999999999", Ok (Act (Continue (Some 999999999)))) ∷
    (codes "c 1000000000", Err (fault.Digits (codes "1000000000"))) ∷ [])
unfolding says
runs = refl

the_past : AllSay (
    (codes "undo", Ok (Past (Undo 1))) ∷
    (codes "und 4", Ok (Past (Undo 4))) ∷
    (codes "back 4", Ok (Past (Back 4))) ∷
    (codes "ba", Ok (Past (Back 1))) ∷
    (codes "restart", Ok (Past Restart)) ∷
    (codes "resto Friday.journal", Ok (Past (Restore (codes "Friday.journal")))) ∷ [])
unfolding says
the_past = refl
