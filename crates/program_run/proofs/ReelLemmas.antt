-- Faults of reels among those of a run.
use Rattle.std.proofs.Common.{ℕ, List, [], ◌∷◌, inl, inr, refl, string_bytes, subst, sym}
use Rattle.program_arguments.specs.declared.call.MountedReel.{MountedReel}
use Rattle.program_arguments.specs.declared.call.ReelSource.{ReelSource}
use Rattle.program_arguments.specs.declared.call.ReelSource.TheVariants as source
use Rattle.program_run.specs.RunFile.{IsOfRun, IsUnreadFile, WrittenNames}
use Rattle.program_run.specs.RunReels.{IsNewFile, IsNewReel, IsNotPut, IsOfReelFile, IsReplaced, IsRingedFile, IsRingedReel, IsThere}
use Rattle.program_run.specs.RunReels.{IsUnmounted, IsUnwrittenOf, IsUnwrittenReel, IsWrittenReel, IsWrittenTo}
use Rattle.program_run.specs.declared.fault.RunFault.{RunFault}
use Rattle.program_run.specs.declared.fault.RunFault.TheVariants as fault

-- a file that can't be read is one of a reel, if that is the reel's
pub unread_reel : (file : List ℕ) (why : RunFault) → IsUnreadFile file why → IsOfReelFile file why
unread_reel file fault.Output is = absurd is
unread_reel file fault.Size is = absurd is
unread_reel file (fault.File name cause) is = inr (inl (cause, (name, refl, is)))
unread_reel file (fault.Unwritten name) is = absurd is
unread_reel file (fault.OneFile first second) is = absurd is
unread_reel file (fault.Deck name why) is = absurd is
unread_reel file (fault.Unloaded why) is = absurd is
unread_reel file (fault.Stopped ending) is = absurd is
unread_reel file (fault.Source why) is = absurd is
unread_reel file (fault.Image why) is = absurd is
unread_reel file (fault.Reel name why) is = absurd is
unread_reel file (fault.Exists name) is = absurd is
unread_reel file (fault.Replaced name beside) is = absurd is
unread_reel file fault.Memory is = inl refl

-- memory may be refused for any reels
pub memory_unmounted : (reels : List MountedReel) → IsUnmounted reels fault.Memory
memory_unmounted [] = refl
memory_unmounted (first ∷ reels) = inr (memory_unmounted reels)

-- a reel that isn't written is one of those of a run
not_put_of_run : (names : WrittenNames) (file : List ℕ) (why : RunFault) → IsWrittenReel names.reels file
    → IsNotPut file why → IsOfRun names why
not_put_of_run names file why there (inl e) = subst (λ (each : RunFault). IsOfRun names each) (sym e) tt
not_put_of_run names file why there (inr is) =
    let written = subst (λ (name : List ℕ). IsWrittenReel names.reels name) (sym is.2) there in
    subst (λ (each : RunFault). IsOfRun names each) (sym is.1) (inr (inr (inr (inr written))))

there_of_run : (names : WrittenNames) (file : List ℕ) (why : RunFault) → IsNewReel names.reels file
    → IsThere file why → IsOfRun names why
there_of_run names file why there (inl e) = subst (λ (each : RunFault). IsOfRun names each) (sym e) tt
there_of_run names file why there (inr is) =
    subst (λ (each : RunFault). IsOfRun names each) (sym is.1)
    (subst (λ (name : List ℕ). IsNewReel names.reels name) (sym is.2) there)

replaced_of_run : (names : WrittenNames) (file : List ℕ) (why : RunFault) → IsRingedReel names.reels file
    → IsReplaced file why → IsOfRun names why
replaced_of_run names file why there is =
    subst (λ (each : RunFault). IsOfRun names each) (sym is.1.1)
    (subst (λ (name : List ℕ). IsRingedReel names.reels name) (sym is.1.2) there)

unwritten_of_run_of : (names : WrittenNames) (from : ReelSource) (why : RunFault)
    → ((file : List ℕ) → IsWrittenTo from file → IsWrittenReel names.reels file)
    → ((file : List ℕ) → IsNewFile from file → IsNewReel names.reels file)
    → ((file : List ℕ) → IsRingedFile from file → IsRingedReel names.reels file)
    → IsUnwrittenOf from why → IsOfRun names why
unwritten_of_run_of names (source.File name) why written new ringed is = absurd is
unwritten_of_run_of names (source.Ringed name) why written new ringed (inl is) =
    not_put_of_run names (string_bytes name) why (written (string_bytes name) refl) is
unwritten_of_run_of names (source.Ringed name) why written new ringed (inr is) =
    replaced_of_run names (string_bytes name) why (ringed (string_bytes name) refl) is
unwritten_of_run_of names (source.New name) why written new ringed (inl is) =
    not_put_of_run names (string_bytes name) why (written (string_bytes name) refl) is
unwritten_of_run_of names (source.New name) why written new ringed (inr is) =
    there_of_run names (string_bytes name) why (new (string_bytes name) refl) is
unwritten_of_run_of names source.Scratch why written new ringed is = absurd is

unwritten_among : (names : WrittenNames) (reels : List MountedReel) (why : RunFault)
    → ((file : List ℕ) → IsWrittenReel reels file → IsWrittenReel names.reels file)
    → ((file : List ℕ) → IsNewReel reels file → IsNewReel names.reels file)
    → ((file : List ℕ) → IsRingedReel reels file → IsRingedReel names.reels file)
    → IsUnwrittenReel reels why → IsOfRun names why
unwritten_among names [] why written new ringed is = absurd is
unwritten_among names (first ∷ reels) why written new ringed (inl is) =
    unwritten_of_run_of names first.reel why (λ file each. written file (inl each)) (λ file each. new file (inl each))
    (λ file each. ringed file (inl each)) is
unwritten_among names (first ∷ reels) why written new ringed (inr is) =
    unwritten_among names reels why (λ file each. written file (inr each)) (λ file each. new file (inr each))
    (λ file each. ringed file (inr each)) is

pub unwritten_of_run : (names : WrittenNames) (why : RunFault) → IsUnwrittenReel names.reels why → IsOfRun names why
unwritten_of_run names why is = unwritten_among names names.reels why (λ file each. each) (λ file each. each) (λ file each. each) is
