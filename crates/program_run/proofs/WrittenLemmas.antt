-- What was written of lines and cards, part by part.
use Rattle.std.proofs.Common.{◌≡◌, ◌≢◌, ℕ, Bool, List, [], ◌∷◌, ◌++◌, Option, None, Some, refl, sym, ◌∙◌, ap, subst, append_assoc}
use Rattle.std.proofs.Common.{map, take, length, ◌≤◌, zero, suc, arith}
use Rattle.std.proofs.lemmas.List.{append-nil, length-map, map-append, take-map}
use Rattle.std.proofs.KnownBytes.{Appends-nil, Appends-trans}
use Rattle.std.proofs.lemmas.List.Concat.{flat_map-append}
use Rattle.std.specs.Io.KnownBytes.{Appends, Keeps}
use Rattle.devices_1401.specs.declared.card.Card.{Card}
use Rattle.devices_1401.specs.declared.print_line.PrintLine.{PrintLine}
use Rattle.bcd_1401.specs.Graphics.{ours_of, theirs_of}
use Rattle.bcd_1401.specs.declared.graphics.Graphics.{Graphics}
use Rattle.bcd_1401.proofs.GraphicsLemmas.{all_again}
use Rattle.job_runner.specs.DeckText.{card_text}
use Rattle.job_runner.specs.declared.paper.PaperPlace.{PaperPlace}
use Rattle.job_runner.specs.Paper.{line_text, paper_text, place_after, place_beyond}
use Rattle.job_runner.specs.Unattended.{IsPartOf, Job}
use Rattle.bytes_streams.specs.Sink.{AppendsPart}
use Rattle.program_run.specs.RunDeck.{HasWritten, HasWrittenPart, IsWhyUnwritten, Received, cards_text}
use Rattle.program_run.specs.RunDeck.{in_graphics}
use Rattle.program_run.specs.declared.deck_running.Broken.{Broken}
use Rattle.program_run.specs.declared.deck_running.Broken.TheVariants as broken

-- nothing is a part of any text
pub nothing_yet : (old : Option (List ℕ)) (text : List ℕ) → AppendsPart old old text
nothing_yet old text = ([], (text, refl), Appends-nil old)

-- all of a text is a part of it
pub all_of_it : (old new : Option (List ℕ)) (text : List ℕ) → Appends old new text → AppendsPart old new text
all_of_it old new text all = (text, ([], sym (append-nil text)), all)

-- a part of a text is one of any text that begins with it
pub part_of_longer : (old new : Option (List ℕ)) (text more whole : List ℕ) → whole ≡ text ++ more
    → AppendsPart old new text
    → AppendsPart old new whole
part_of_longer old new text more whole e part =
    (part.0, (part.1.0 ++ more, e ∙ ap (λ t. t ++ more) part.1.1 ∙ append_assoc part.0 part.1.0 more), part.2)

-- a part of a text after another
pub part_beyond : (old between new : Option (List ℕ)) (text more whole : List ℕ) → whole ≡ text ++ more
    → Appends old between text → AppendsPart between new more → AppendsPart old new whole
part_beyond old between new text more whole e all part = (
  text ++ part.0,
  (part.1.0, e ∙ ap (λ t. text ++ t) part.1.1 ∙ sym (append_assoc text part.0 part.1.0)),
  Appends-trans old between new text part.0 all part.2,
)

-- the text of lines after others
pub paper_beyond : (place : PaperPlace) (lines more : List PrintLine)
    → paper_text place (lines ++ more) ≡ paper_text place lines ++ paper_text (place_beyond place lines) more
paper_beyond place [] more = refl
paper_beyond place (line ∷ lines) more =
    ap (λ t. line_text place line ++ t) (paper_beyond (place_after line) lines more)
    ∙ sym (append_assoc (line_text place line) (paper_text (place_after line) lines)
    (paper_text (place_beyond (place_after line) lines) more))

-- where the paper goes on after them
pub place_beyond_both : (place : PaperPlace) (lines more : List PrintLine)
    → place_beyond place (lines ++ more) ≡ place_beyond (place_beyond place lines) more
place_beyond_both place [] more = refl
place_beyond_both place (line ∷ lines) more = place_beyond_both (place_after line) lines more

-- lines and cards written after others
pub both_written : (place : PaperPlace) (lines more : List PrintLine) (cards others : List Card) (a b c : Received)
    → HasWritten place lines cards a b → HasWritten (place_beyond place lines) more others b c
    → HasWritten place (lines ++ more) (cards ++ others) a c
both_written place lines more cards others a b c first then_more = record {
  paper =
      subst (λ t. Appends a.paper c.paper t) (sym (paper_beyond place lines more))
      (Appends-trans a.paper b.paper c.paper (paper_text place lines) (paper_text (place_beyond place lines) more)
      first.paper then_more.paper);
  punch =
      subst (λ t. Appends a.punch c.punch t) (sym (flat_map-append card_text cards others))
      (Appends-trans a.punch b.punch c.punch (cards_text cards) (cards_text others) first.punch then_more.punch);
}

-- nothing was written of no lines and no cards
pub none_written : (place : PaperPlace) (a : Received) → HasWritten place [] [] a a
none_written place a = record { paper = Appends-nil a.paper; punch = Appends-nil a.punch }

-- a part of what a job writes was written, if it is one of its first lines and cards
pub first_part_written : {lines : List PrintLine} {cards : List Card} {job : Job} (place : PaperPlace) (a b : Received)
    → IsPartOf lines cards job → AppendsPart a.paper b.paper (paper_text place lines)
    → AppendsPart a.punch b.punch (cards_text cards) → HasWrittenPart place job.lines job.cards a b
first_part_written {lines} {cards} {job} place a b first paper punch = record {
  paper =
      part_of_longer a.paper b.paper (paper_text place lines) (paper_text (place_beyond place lines) first.lines.rest)
      (paper_text place job.lines)
      (ap (λ all. paper_text place all) (sym first.lines.joined) ∙ paper_beyond place lines first.lines.rest) paper;
  punch =
      part_of_longer a.punch b.punch (cards_text cards) (cards_text first.cards.rest) (cards_text job.cards)
      (ap (λ all. cards_text all) (sym first.cards.joined) ∙ flat_map-append card_text cards first.cards.rest) punch;
}

-- the same if the paper has all these lines
pub paper_and_part_written : {lines : List PrintLine} {cards : List Card} {job : Job} (place : PaperPlace) (a b : Received)
    → IsPartOf lines cards job → Appends a.paper b.paper (paper_text place lines)
    → AppendsPart a.punch b.punch (cards_text cards) → HasWrittenPart place job.lines job.cards a b
paper_and_part_written {lines} place a b first paper punch =
    first_part_written place a b first (all_of_it a.paper b.paper (paper_text place lines) paper) punch

-- a part after lines and cards that were written
pub part_written_beyond : (place : PaperPlace) (lines more : List PrintLine) (cards others : List Card) (a b c : Received)
    → HasWritten place lines cards a b → HasWrittenPart (place_beyond place lines) more others b c
    → HasWrittenPart place (lines ++ more) (cards ++ others) a c
part_written_beyond place lines more cards others a b c all part = record {
  paper =
      part_beyond a.paper b.paper c.paper (paper_text place lines) (paper_text (place_beyond place lines) more)
      (paper_text place (lines ++ more)) (paper_beyond place lines more) all.paper part.paper;
  punch =
      part_beyond a.punch b.punch c.punch (cards_text cards) (cards_text others) (cards_text (cards ++ others))
      (flat_map-append card_text cards others) all.punch part.punch;
}

-- of a part of bytes no more are taken than it has
taken_of : (n count : ℕ) (bytes : List ℕ) → n ≤ length (take count bytes) → take n (take count bytes) ≡ take n bytes
taken_of zero count bytes few = refl
taken_of (suc n) zero bytes few = absurd (omega (arith, few))
taken_of (suc n) (suc count) [] few = refl
taken_of (suc n) (suc count) (byte ∷ more) few =
    let fewer : n ≤ length (take count more) = omega (arith, few) in
    ap (λ (rest : List ℕ). byte ∷ rest) (taken_of n count more fewer)

-- bytes that a sink took in the graphics of a chain
pub handed_over : (chain : Graphics) (old new : Option (List ℕ)) (bytes part : List ℕ) (n count : ℕ)
    → part ≡ map (theirs_of chain) (take count bytes) → n ≤ length part → Appends old new (take n part)
    → Appends (in_graphics chain old) (in_graphics chain new) (take n bytes)
handed_over chain None new bytes part n count is few all = tt
handed_over chain (Some xs) None bytes part n count is few all = all
handed_over chain (Some xs) (Some ys) bytes part n count is few all =
    let text : List ℕ = take count bytes in
    let within : n ≤ length text = subst (λ (k : ℕ). n ≤ k) (ap length is ∙ length-map text (theirs_of chain)) few in
    let back : map (ours_of chain) (take n part) ≡ take n bytes
    = ap (λ (each : List ℕ). map (ours_of chain) (take n each)) is
    ∙ sym (take-map (ours_of chain) n (map (theirs_of chain) text)) ∙ ap (take n) (all_again chain text)
    ∙ taken_of n count bytes within in
    ap (map (ours_of chain)) all ∙ map-append (ours_of chain) xs (take n part)
    ∙ ap (λ (more : List ℕ). map (ours_of chain) xs ++ more) back

-- and those that it didn't take
pub kept_back : (chain : Graphics) (old new : Option (List ℕ)) → Keeps old new
    → Keeps (in_graphics chain old) (in_graphics chain new)
kept_back chain None new same = tt
kept_back chain (Some xs) None same = same
kept_back chain (Some xs) (Some ys) same = ap (map (ours_of chain)) same

-- if the trace wasn't written, or memory was refused, paper and cards have failed as they had before
pub only_traced : (why : Broken) (paper paper' punch punch' : Bool) → (why ≢ broken.Paper) × (why ≢ broken.Punch)
    → paper' ≡ paper → punch' ≡ punch → IsWhyUnwritten why paper paper' punch punch'
only_traced broken.Memory paper paper' punch punch' other e e' = (e, e')
only_traced broken.Paper paper paper' punch punch' other e e' = absurd (other.0 refl)
only_traced broken.Punch paper paper' punch punch' other e e' = absurd (other.1 refl)
only_traced broken.Trace paper paper' punch punch' other e e' = (e, e')
