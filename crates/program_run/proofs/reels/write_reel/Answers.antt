-- Its file is that of this name.
use Rattle.std.proofs.Common.{List, ℕ, [], ◌∷◌, Option, true, false, string_bytes}
use Rattle.program_run.specs.WrittenReels.{reel_file}
use Rattle.program_run.proofs.HandedLemmas.{is_handed}
use Rattle.program_run.proofs.reels.write_reel.Goals as goal

pub returns-in-Ringed-clause-handed : goal.returns-in-Ringed-clause-handed
returns-in-Ringed-clause-handed g c =
    rw c.in-Ringed.is (is_handed c.reel_text.result (λ text. text.items) _
    (λ (text : Option (List ℕ)). reel_file (string_bytes c.in-Ringed.name) false text ∷ []) _ _ c.reel_text.ensures
    (rw c.as_str.ensures.value at c.put.ensures.handed))

pub returns-in-New-clause-handed : goal.returns-in-New-clause-handed
returns-in-New-clause-handed g c =
    rw c.in-New.is (is_handed c.reel_text-in-New.result (λ text. text.items) _
    (λ (text : Option (List ℕ)). reel_file (string_bytes c.in-New.name) true text ∷ []) _ _ c.reel_text-in-New.ensures
    (rw c.as_str-in-New.ensures.value at c.put_new.ensures.handed))

pub returns-in-Ringed-clause-fault : goal.returns-in-Ringed-clause-fault
returns-in-Ringed-clause-fault g c = rw c.in-Ringed.is (rw c.as_str.ensures.value at c.put.ensures.fault)

pub returns-in-New-clause-fault : goal.returns-in-New-clause-fault
returns-in-New-clause-fault g c = rw c.in-New.is (rw c.as_str-in-New.ensures.value at c.put_new.ensures.fault)
