-- What is held afterwards has the characters that were written, and the marks that there were.
use Rattle.std.proofs.Common.{◌≡◌, ℕ, List, length, refl, ap, sym, ◌∙◌}
use Rattle.core_1401.specs.Places.{chars_of, with_all_chars}
use Rattle.core_1401.specs.Storage.{Storage}
use Rattle.core_1401.proofs.LendingLemmas.{chars_of_held, held-lent}
use Rattle.core_1401.proofs.storage.Core.chars_mut.Goals as goal

pub returns : goal.returns
returns c =
    let chars : List ℕ = c.self.inside.chars.items in
    let words : List ℕ = c.self.inside.words in
    let n : ℕ = c.self.inside.chars.len in
    let full : n ≡ length chars = c.self.inside.chars.ok.0 in (
      (refl, λ ws. held-lent n chars words ws full ∙ ap (λ (s : Storage). with_all_chars s ws) c.self.view_is),
      record {
        writes_back = tt;
        value = c.deref_mut.ensures.value ∙ sym (chars_of_held chars words) ∙ ap chars_of c.self.view_is;
      },
    )
