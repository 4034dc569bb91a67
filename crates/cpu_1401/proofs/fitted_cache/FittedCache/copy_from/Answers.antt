-- The entries of the other cache say what they said there.
use Rattle.std.proofs.Common.{◌≡◌, List, length, subst, sym, ◌∙◌}
use Rattle.cpu_1401.specs.DecodedFitted.{AreSaying, fitted_entry_count}
use Rattle.cpu_1401.specs.declared.fitted_entry.FittedEntry.{FittedEntry}
use Rattle.cpu_1401.proofs.fitted_cache.FittedCache.copy_from.Goals as goal

pub invariant_of-self : goal.invariant_of-self
invariant_of-self c =
    subst (λ (entries : List FittedEntry). (length entries ≡ fitted_entry_count)
    × AreSaying c.other.inside.features entries)
    (sym (c.copy_from_slice.ensures.items ∙ c.deref.ensures.value)) c.other.invariant
