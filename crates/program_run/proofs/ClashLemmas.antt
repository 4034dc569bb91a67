-- Names of reels that lead to one file with another.
use Rattle.std.proofs.Common.{ℕ, List, ◌∷◌, inl, inr, string_bytes}
use Rattle.program_arguments.specs.declared.call.MountedReel.{MountedReel}
use Rattle.program_run.specs.OneFile.{IsAnyReel, IsClashOf, IsClashWithReel, IsReelFile, IsReelsClash}
use Rattle.program_run.specs.RunFile.{InputNames, IsName, WrittenNames}
use Rattle.program_run.specs.RunReels.{IsReadReel, IsWrittenReel}
use Rattle.program_run.specs.declared.one_file.Clash.{Clash}
use Rattle.program_run.specs.declared.one_file.Clash.TheVariants as clash

reel_name : (inputs : InputNames) (outputs : WrittenNames) (first : MountedReel) (beyond : List MountedReel)
    (name : List ℕ) → (IsReadReel (first ∷ beyond) name → IsReadReel outputs.reels name)
    → (IsWrittenReel (first ∷ beyond) name → IsWrittenReel outputs.reels name) → IsReelFile first.reel name
    → IsName inputs outputs name
reel_name inputs outputs first beyond name read written (inl is) = inr (inl (read (inl is)))
reel_name inputs outputs first beyond name read written (inr is) =
    inr (inr (inr (inr (inr (inr (written (inl is)))))))

any_name : (inputs : InputNames) (outputs : WrittenNames) (reels : List MountedReel) (name : List ℕ)
    → (IsReadReel reels name → IsReadReel outputs.reels name)
    → (IsWrittenReel reels name → IsWrittenReel outputs.reels name) → IsAnyReel reels name → IsName inputs outputs name
any_name inputs outputs reels name read written (inl is) = inr (inl (read is))
any_name inputs outputs reels name read written (inr is) = inr (inr (inr (inr (inr (inr (written is))))))

-- that of the first of the others with a name that is no reel's
pub reel_clash : (inputs : InputNames) (outputs : WrittenNames) (first : MountedReel) (beyond : List MountedReel)
    (clash : Clash) → ((name : List ℕ) → IsReadReel (first ∷ beyond) name → IsReadReel outputs.reels name)
    → ((name : List ℕ) → IsWrittenReel (first ∷ beyond) name → IsWrittenReel outputs.reels name)
    → IsClashWithReel inputs outputs first.reel clash → IsClashOf inputs outputs clash
reel_clash inputs outputs first beyond clash.Memory read written is = tt
reel_clash inputs outputs first beyond (clash.Names one other) read written (inl is) = (
  reel_name inputs outputs first beyond (string_bytes one) (read (string_bytes one)) (written (string_bytes one)) is.0,
  is.1,
)
reel_clash inputs outputs first beyond (clash.Names one other) read written (inr is) =
    (inl is.0, inr (inr (inr (inr (written (string_bytes other) (inl is.1))))))

-- those of two of them
pub reels_clash : (inputs : InputNames) (outputs : WrittenNames) (reels : List MountedReel) (clash : Clash)
    → ((name : List ℕ) → IsReadReel reels name → IsReadReel outputs.reels name)
    → ((name : List ℕ) → IsWrittenReel reels name → IsWrittenReel outputs.reels name) → IsReelsClash reels clash
    → IsClashOf inputs outputs clash
reels_clash inputs outputs reels clash.Memory read written is = tt
reels_clash inputs outputs reels (clash.Names one other) read written is = (
  any_name inputs outputs reels (string_bytes one) (read (string_bytes one)) (written (string_bytes one)) is.0,
  inr (inr (inr (inr (written (string_bytes other) is.1)))),
)
