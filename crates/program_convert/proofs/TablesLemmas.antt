-- The parts of what is written of tables.
use Rattle.std.proofs.Common.{◌≡◌, inl, inr, ℕ, Bool, true, false, cond, List, [], ◌∷◌, ◌++◌, Option, Result}
use Rattle.std.proofs.Common.{refl, sym, ap, ◌∙◌, append_assoc, append-nil}
use Rattle.std.proofs.KnownBytes.{Appends-trans}
use Rattle.std.specs.Bool.{⊤}
use Rattle.std.specs.Io.KnownBytes.{Appends}
use Rattle.std.specs.Prelude.{Ok, Err, Some, None, codes}
use Rattle.bytes_streams.proofs.SentLemmas.{part_before, sent_part}
use Rattle.program_arguments.specs.declared.call.Tables.{Tables}
use Rattle.program_convert.specs.Assemble.{with_part, with_part_if, tables_text, Wrote}
use Rattle.program_convert.specs.ReadyTables.{has_some, separator, listing_in}
use Rattle.program_convert.specs.declared.fault.AssembleFault.{AssembleFault}
use Rattle.program_convert.specs.declared.fault.AssembleFault.TheVariants as fault
use Rattle.autocoder_listing.specs.Heads.{written}
use Rattle.autocoder_listing.specs.Writing.{text_for}
use Rattle.autocoder_listing.specs.declared.writing.ReadyListing.{ReadyListing}
use Rattle.autocoder_listing.specs.declared.heads.Head.{Head}

no_part : (text : List ℕ) → with_part text [] ≡ text
no_part [] = refl
no_part (byte ∷ bytes) = refl

in_turn : (one other last : List ℕ) → with_part (with_part one other) last ≡ with_part one (with_part other last)
in_turn [] other last = refl
in_turn (x ∷ xs) [] last = refl
in_turn (x ∷ xs) (y ∷ ys) [] = refl
in_turn (x ∷ xs) (y ∷ ys) (z ∷ zs) =
    let first : List ℕ = (x ∷ xs) ++ codes "\n" in
    append_assoc (first ++ (y ∷ ys)) (codes "\n") (z ∷ zs)
    ∙ append_assoc first (y ∷ ys) (codes "\n" ++ (z ∷ zs))
    ∙ ap (λ (rest : List ℕ). first ++ rest) (sym (append_assoc (y ∷ ys) (codes "\n") (z ∷ zs)))

-- the parts that are asked for, with the first of them apart
parts : (symbols references : Bool) (listing s r : List ℕ)
    → with_part listing (with_part_if references (with_part_if symbols [] s) r)
    ≡ with_part_if references (with_part_if symbols listing s) r
parts true true listing s r = sym (in_turn listing s r)
parts true false listing s r = refl
parts false true listing s r = refl
parts false false listing s r = no_part listing

pub parts_of_tables : (asked : Tables) (listing s r : List ℕ)
    → with_part (with_part_if asked.listing [] listing) (with_part_if asked.references (with_part_if asked.symbols [] s) r)
    ≡ tables_text asked listing s r
parts_of_tables asked listing s r =
    parts asked.symbols asked.references (with_part_if asked.listing [] listing) s r

-- the listing is the first part, if it is asked for
pub listing_is : (asked : Bool) (source : List ℕ) (ready : ReadyListing)
    → listing_in source (cond asked (Some ready) None) ≡ with_part_if asked [] (text_for source ready)
listing_is true source ready = refl
listing_is false source ready = refl

-- an empty line is between a text and the tables after it, unless one of them is empty
parted : (text rest : List ℕ) → with_part text rest ≡ text ++ (separator (has_some text) rest ++ rest)
parted [] rest = refl
parted (x ∷ xs) [] = sym (append-nil (x ∷ xs))
parted (x ∷ xs) (y ∷ ys) = append_assoc (x ∷ xs) (codes "\n") (y ∷ ys)

-- a listing is empty if its source has no line
some_written : (number : ℕ) (heads : List Head) (literals : List ℕ) (sources : List (List ℕ))
    → has_some (written number heads literals sources) ≡ has_some sources
some_written number heads literals [] = refl
some_written number heads literals (source ∷ sources) = ends _ _ _ _
  where
    ends : (one other : List ℕ) (byte : ℕ) (more : List ℕ) → has_some ((one ++ (other ++ byte ∷ [])) ++ more) ≡ true
    ends [] [] byte more = refl
    ends [] (y ∷ ys) byte more = refl
    ends (x ∷ xs) other byte more = refl

pub parted_after : (heads : List Head) (literals rest : List ℕ) (sources : List (List ℕ))
    → with_part (written 1 heads literals sources) rest
    ≡ written 1 heads literals sources ++ (separator (has_some sources) rest ++ rest)
parted_after heads literals rest sources =
    parted (written 1 heads literals sources) rest
    ∙ ap (λ (some : Bool). written 1 heads literals sources ++ (separator some rest ++ rest))
    (some_written 1 heads literals sources)

-- of two texts the first was not written, or not all of it
pub wrote_front : (a b : List ℕ) (old new : Option (List ℕ)) (failed : Bool) (why : AssembleFault)
    → Wrote a old new failed (Err why) → Wrote (a ++ b) old new failed (Err why)
wrote_front a b old new failed why wrote =
    elim wrote [
      | inl all ↦ absurd (no_error all.0)
      | inr bad ↦ inr (bad.0, part_before old new a b bad.1, bad.2)
    ]
  where
    no_error : ◌≡◌ {A = Result ⊤ AssembleFault} (Err why) (Ok tt) → ⊥
    no_error is = cc

-- the first was, and this became of the second
pub wrote_then : (a b : List ℕ) (old between new : Option (List ℕ)) (good failed : Bool) (outcome : Result ⊤ AssembleFault)
    → Wrote a old between good (Ok tt) → Wrote b between new failed outcome → Wrote (a ++ b) old new failed outcome
wrote_then a b old between new good failed outcome one other =
    elim one [
      | inl first ↦ after first.1
      | inr bad ↦ absurd (no_value bad.0)
    ]
  where
    no_value : ◌≡◌ {A = Result ⊤ AssembleFault} (Ok tt) (Err fault.Output) → ⊥
    no_value is = cc

    after : Appends old between a → Wrote (a ++ b) old new failed outcome
    after first =
        elim other [
          | inl all ↦ inl (all.0, Appends-trans old between new a b first all.1)
          | inr bad ↦ inr (bad.0, sent_part old between new (a ++ b) b (a, refl, first) bad.1, bad.2)
        ]
