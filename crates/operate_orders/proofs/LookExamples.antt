-- The lines that look, computed; and all forms of addresses and ranges.
use Rattle.std.proofs.Common.{[], ◌∷◌, replicate, Some, None, refl}
use Rattle.std.specs.Prelude.{Ok, Err, codes}
use Rattle.operate_orders.proofs.Says.{says, AllSay, adjusted, plain, at, label, line}
use Rattle.operate_orders.specs.declared.fault.OrderFault.TheVariants as fault
use Rattle.operate_orders.specs.declared.orders.Look.TheVariants.{Examine, Print, Source, Registers, Cards, Paper, Symbols}
use Rattle.operate_orders.specs.declared.orders.Look.TheVariants.{Evaluate, Breaks, Why, Journal}
use Rattle.operate_orders.specs.declared.orders.Look.TheVariants as look
use Rattle.operate_orders.specs.declared.orders.Order.TheVariants.{Nothing, Look, Quit}
use Rattle.operate_orders.specs.declared.places.Adjustment.TheVariants.{Plus, Minus, Indexed}
use Rattle.operate_orders.specs.declared.places.Base.TheVariants.{Number, Label, Index, Held}
use Rattle.operate_orders.specs.declared.places.IndexRegister.TheVariants.{X1, X2, X3}
use Rattle.operate_orders.specs.declared.places.Register.TheVariants.{I, A, B}
use Rattle.operate_orders.specs.declared.ranges.Area.TheVariants as area
use Rattle.operate_orders.specs.declared.ranges.Range.TheVariants as range
use Rattle.operate_orders.specs.declared.words.Keyword.TheVariants as keyword

nothing_and_the_end : AllSay (
    ([], Ok Nothing) ∷
    (codes "   ", Ok Nothing) ∷
    (codes "# a remark", Ok Nothing) ∷
    (codes "  #", Ok Nothing) ∷
    (codes "quit", Ok Quit) ∷
    (codes "  Q  # goodbye", Ok Quit) ∷ [])
unfolding says
nothing_and_the_end = refl

ranges : AllSay (
    (codes "examine 400..410", Ok (Look (Examine (range.Between (at 400) (at 410))))) ∷
    (codes "e 400-410", Ok (Look (Examine (range.Between (at 400) (at 410))))) ∷
    (codes "exam 201/40", Ok (Look (Examine (range.Counted (at 201) 40)))) ∷
    (codes "e :7/28", Ok (Look (Examine (range.Counted (line 7) 28)))) ∷
    (codes "e total", Ok (Look (Examine (range.At (label (codes "TOTAL")))))) ∷ (
      codes "e Total-2..TOTAL+1",
      Ok (Look (Examine (range.Between
          (adjusted (Label (codes "TOTAL")) (Some (Minus 2)) None None)
          (adjusted (Label (codes "TOTAL")) (Some (Plus 1)) None None)))),
    ) ∷ (
      codes "e TOTAL-410",
      Ok (Look (Examine (range.At
          (adjusted (Label (codes "TOTAL")) (Some (Minus 410)) None None)))),
    ) ∷
    (codes "e read", Ok (Look (Examine (range.Area area.Read)))) ∷
    (codes "e PUNCH", Ok (Look (Examine (range.Area area.Punch)))) ∷
    (codes "e print", Ok (Look (Examine (range.Area area.Print)))) ∷
    (codes "e (print)", Ok (Look (Examine (range.At (label (codes "PRINT")))))) ∷ [])
unfolding says
ranges = refl

no_ranges : AllSay (
    (codes "examine", Err (fault.Usage keyword.Examine)) ∷
    (codes "e # 400", Err (fault.Usage keyword.Examine)) ∷
    (codes "e 400 410", Err (fault.Usage keyword.Examine)) ∷
    (codes "e 400/0", Err (fault.Range (codes "400/0"))) ∷
    (codes "e 400/", Err (fault.Range (codes "400/"))) ∷
    (codes "e 400.410", Err (fault.Range (codes "400.410"))) ∷
    (codes "e 400-", Err (fault.Range (codes "400-"))) ∷
    (codes "e totla+", Err (fault.Range (codes "totla+"))) ∷ [])
unfolding says
no_ranges = refl

addresses : AllSay (
    (codes "evaluate 400", Ok (Look (Evaluate (at 400)))) ∷ (
      codes "ev TABLE+10-2",
      Ok (Look (Evaluate
          (adjusted (Label (codes "TABLE")) (Some (Plus 10)) (Some (Minus 2)) None))),
    ) ∷
    (codes "ev CODE+X1", Ok (Look (Evaluate (adjusted (Label (codes "CODE")) (Some (Indexed X1)) None None)))) ∷ (
      codes "ev code+3+x2-1",
      Ok (Look (Evaluate
          (adjusted (Label (codes "CODE")) (Some (Plus 3)) (Some (Indexed X2)) (Some (Minus 1))))),
    ) ∷
    (codes "ev 400-410", Ok (Look (Evaluate (adjusted (Number 400) (Some (Minus 410)) None None)))) ∷
    (codes "ev :8", Ok (Look (Evaluate (line 8)))) ∷
    (codes "ev x1", Ok (Look (Evaluate (plain (Index X1))))) ∷
    (codes "ev X2", Ok (Look (Evaluate (plain (Index X2))))) ∷
    (codes "ev X3+1", Ok (Look (Evaluate (adjusted (Index X3) (Some (Plus 1)) None None)))) ∷
    (codes "ev (X1)", Ok (Look (Evaluate (label (codes "X1"))))) ∷
    (codes "ev X4", Ok (Look (Evaluate (label (codes "X4"))))) ∷
    (codes "ev $I", Ok (Look (Evaluate (plain (Held I))))) ∷
    (codes "ev $a", Ok (Look (Evaluate (plain (Held A))))) ∷
    (codes "ev $B+6", Ok (Look (Evaluate (adjusted (Held B) (Some (Plus 6)) None None)))) ∷ [])
unfolding says
addresses = refl

no_addresses : AllSay (
    (codes "ev", Err (fault.Usage keyword.Evaluate)) ∷
    (codes "ev 1 2", Err (fault.Usage keyword.Evaluate)) ∷
    (codes "ev 1234567890", Err (fault.Digits (codes "1234567890"))) ∷
    (codes "ev 12a", Err (fault.Place (codes "12a"))) ∷
    (codes "ev $C", Err (fault.Place (codes "$C"))) ∷
    (codes "ev :x", Err (fault.Place (codes ":x"))) ∷
    (codes "ev (A", Err (fault.Place (codes "(A"))) ∷
    (codes "ev (A)B", Err (fault.Place (codes "(A)B"))) ∷
    (codes "ev +1", Err (fault.Place (codes "+1"))) ∷
    (codes "ev A-X1", Err (fault.Place (codes "A-X1"))) ∷
    (codes "ev A++1", Err (fault.Place (codes "A++1"))) ∷
    (codes "ev A+1+1+1+1", Err (fault.Place (codes "A+1+1+1+1"))) ∷
    (codes "ev a.b", Err (fault.Place (codes "a.b"))) ∷ [])
unfolding says
no_addresses = refl

fields : AllSay (
    (codes "print total 6", Ok (Look (Print (Some (label (codes "TOTAL")) ∷ Some (at 6) ∷ replicate 6 None)))) ∷ (
      codes "p 1 2 3 4 5 6 7 8",
      Ok (Look (Print (Some (at 1) ∷ Some (at 2) ∷ Some (at 3) ∷ Some (at 4) ∷ Some (at 5) ∷
          Some (at 6) ∷ Some (at 7) ∷ Some (at 8) ∷ []))),
    ) ∷
    (codes "p 1 2 3 4 5 6 7 8 9", Err (fault.Usage keyword.Print)) ∷
    (codes "p 1 b+", Err (fault.Place (codes "b+"))) ∷
    (codes "print", Err (fault.Usage keyword.Print)) ∷ [])
unfolding says
fields = refl

listing : AllSay (
    (codes "list", Ok (Look (look.List None))) ∷
    (codes "l 600/20", Ok (Look (look.List (Some (range.Counted (at 600) 20))))) ∷
    (codes "l :", Err (fault.Range (codes ":"))) ∷
    (codes "source", Ok (Look (Source None))) ∷
    (codes "so :9 # here", Ok (Look (Source (Some (line 9))))) ∷
    (codes "so next", Ok (Look (Source (Some (label (codes "NEXT")))))) ∷ [])
unfolding says
listing = refl

words_alone : AllSay (
    (codes "registers", Ok (Look Registers)) ∷
    (codes "reg x", Err (fault.Usage keyword.Registers)) ∷
    (codes "ca", Ok (Look Cards)) ∷
    (codes "breaks", Ok (Look Breaks)) ∷
    (codes "Why", Ok (Look Why)) ∷ [])
unfolding says
words_alone = refl

counts_and_letters : AllSay (
    (codes "paper", Ok (Look (Paper None))) ∷
    (codes "pa 20", Ok (Look (Paper (Some 20)))) ∷
    (codes "pa x", Err (fault.Count (codes "x"))) ∷
    (codes "e 4294967296", Err (fault.Digits (codes "4294967296"))) ∷
    (codes "ev 4294967296+1", Err (fault.Place (codes "4294967296+1"))) ∷
    (codes "j 8", Ok (Look (Journal (Some 8)))) ∷
    (codes "j 8 9", Err (fault.Usage keyword.Journal)) ∷
    (codes "symbols", Ok (Look (Symbols []))) ∷
    (codes "sy to", Ok (Look (Symbols (codes "TO")))) ∷ [])
unfolding says
counts_and_letters = refl
