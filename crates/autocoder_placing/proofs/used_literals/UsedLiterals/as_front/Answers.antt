-- The first of its own table are all of it.
use Rattle.std.proofs.Common.{◌≡◌, ℕ, ◌≤◌, length, Option, refl, sym, ap, ◌∙◌, arith}
use Rattle.std.specs.Prelude.{take}
use Rattle.std.proofs.lemmas.List.{take_all}
use Rattle.autocoder_placing.specs.UsedLiterals.{Used, table_used, used_in}
use Rattle.autocoder_placing.specs.declared.literal_table.LiteralTable.{LiteralTable}
use Rattle.autocoder_placing.specs.declared.literal_table.TableFront.{TableFront}
use Rattle.autocoder_placing.proofs.used_literals.UsedLiterals.as_front.Goals as goal

all_first : (own : LiteralTable) (used placed : ℕ) → length own.literals.keys ≤ used
    → length own.addresses.items ≤ placed
    → ◌≡◌ {A = Used} (record {
      spellings = take used own.literals.keys;
      addresses = take placed own.addresses.items;
    }) (table_used own)
all_first own used placed many most =
    rw (take_all used own.literals.keys many, take_all placed own.addresses.items most) refl

pub returns-in-None : goal.returns-in-None
returns-in-None c =
    let own = c.self.inside.own in
    all_first own c.len.result c.len-in-None.result (omega (arith, c.len.ensures.len))
    (omega (arith, c.len-in-None.ensures))
    ∙ ap (λ (front : Option TableFront). used_in front own) (sym c.in-None.is) ∙ c.self.view_is
