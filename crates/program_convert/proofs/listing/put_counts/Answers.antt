-- The numbers are those of the records.
use Rattle.std.proofs.Common.{◌≡◌, List, ℕ, ◌++◌, refl, subst, arith}
use Rattle.program_convert.specs.ReelListing.{counts_text}
use Rattle.program_convert.specs.Writing.{Puts}
use Rattle.program_convert.proofs.listing.put_counts.Goals as goal

same_counts : (others marks characters others' marks' characters' : ℕ) → others ≡ others' → marks ≡ marks'
    → characters ≡ characters' → counts_text others marks characters ≡ counts_text others' marks' characters'
same_counts others marks characters others' marks' characters' one two three = rw (one, two, three) refl

pub returns-clause-puts : goal.returns-clause-puts
returns-clause-puts g c =
    subst (λ (text : List ℕ). Puts (g.W.Sink.received c.args.writer.now)
    (g.W.Sink.received c.put_all_counts.new.writer) (g.W.Sink.has_failed c.put_all_counts.new.writer)
    (c.args.page.now.items ++ text) c.put_all_counts.new.page.items c.put_all_counts.result)
    (same_counts _ _ _ _ _ _ (grind arith) c.count_marks-marks.ensures (grind arith))
    c.put_all_counts.ensures.puts
