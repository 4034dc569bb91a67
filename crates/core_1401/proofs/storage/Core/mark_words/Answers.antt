-- The words that are lent are those after the first.
use Rattle.std.proofs.Common.{◌≡◌, ℕ, ◌+◌, ◌/◌, List, length, take, drop, subst, arith, sym}
use Rattle.core_1401.specs.MarkWords.{held, AreMarkWords}
use Rattle.core_1401.specs.Storage.{Storage}
use Rattle.core_1401.proofs.HeldLemmas.{are_mark_words}
use Rattle.core_1401.proofs.storage.Core.mark_words.Goals as goal

pub returns : goal.returns
returns c =
    let chars : List ℕ = c.self.inside.chars.items in
    let words : List ℕ = c.self.inside.words in
    let count : ℕ = (c.len.result + 63) / 64 in
    let e : count ≡ (length chars + 63) / 64 = omega (arith, c.len.ensures) in
    let are : AreMarkWords (held chars words) (take count (drop 1 words)) =
    are_mark_words chars words count c.self.invariant c.beyond_first.ensures.within e in
    let of_words : List ℕ → Type 0 = λ lent. AreMarkWords (held chars words) lent in
    let of_storage : Storage → Type 0 = λ storage. AreMarkWords storage c.beyond_first.result.now in
    subst of_storage c.self.view_is (subst of_words (sym c.beyond_first.ensures.lent) are)
