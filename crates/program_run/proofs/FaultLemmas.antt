-- Faults of a job that report no stop.
use Rattle.std.proofs.Common.{◌≡◌, ◌<◌, ℕ, List, [], ◌∷◌, Option, inl, inr, refl, string_bytes, subst, sym, length, get_or, arith}
use Rattle.std.proofs.Common.{Err}
use Rattle.std.specs.Prelude.{◌⊎◌, Some, String, option_map}
use Rattle.std.specs.Global.{Global}
use Rattle.program_arguments.specs.declared.call.Job.{Job}
use Rattle.program_arguments.specs.declared.call.MountedReel.{MountedReel}
use Rattle.program_arguments.specs.declared.call.ReelSource.{ReelSource}
use Rattle.program_arguments.specs.declared.call.ReelSource.TheVariants as source
use Rattle.program_arguments.specs.declared.call.Start.TheVariants as start
use Rattle.program_run.specs.OneFile.{IsClashOf}
use Rattle.program_run.specs.RunEnd.{IfStopped, IsNoStopOf, Ran}
use Rattle.program_run.specs.RunFile.{IsUnloaded, IsUnread, IsUnwrittenFile, IsWrittenName, inputs_of, written_of}
use Rattle.program_run.specs.RunReels.{IsNotPut, IsOfReelFile, IsReplaced, IsThere, IsUnmadeOf, IsUnmounted, IsUnmountedOf}
use Rattle.program_run.specs.RunReels.{IsUnwrittenOf, IsUnwrittenReel, IsWrittenReel, IsWrittenTo}
use Rattle.program_run.specs.WrittenReels.{KnownFiles}
use Rattle.program_run.specs.declared.ending.Ending.{Ending}
use Rattle.program_run.specs.declared.fault.RunFault.{RunFault}
use Rattle.program_run.specs.declared.fault.RunFault.TheVariants as fault
use Rattle.program_run.specs.declared.one_file.Clash.TheVariants as clash

-- memory was refused
pub memory_of : (job : Job) → IsNoStopOf job fault.Memory
memory_of job = (inl tt, tt)

-- two names lead to one file
pub clash_of : (job : Job) (first second : String Global)
    → IsClashOf (inputs_of job) (written_of job) (clash.Names first second)
    → IsNoStopOf job (fault.OneFile first second)
clash_of job first second is = (inr (inr (inl is)), tt)

-- a file isn't read
unread_untold : (job : Job) (why : RunFault) → IsUnread job.start job.size (inputs_of job) why → IfStopped (λ _. ⊥) why
unread_untold job fault.Output is = tt
unread_untold job fault.Size is = tt
unread_untold job (fault.File name why) is = tt
unread_untold job (fault.Unwritten name) is = tt
unread_untold job (fault.OneFile first second) is = tt
unread_untold job (fault.Deck name why) is = tt
unread_untold job (fault.Unloaded why) is = tt
unread_untold job (fault.Stopped ending) is = is
unread_untold job (fault.Source why) is = tt
unread_untold job (fault.Image why) is = tt
unread_untold job (fault.Reel name why) is = tt
unread_untold job (fault.Exists name) is = tt
unread_untold job (fault.Replaced name beside) is = tt
unread_untold job fault.Memory is = tt

pub unread_of : (job : Job) (why : RunFault) → IsUnread job.start job.size (inputs_of job) why → IsNoStopOf job why
unread_of job why is = (inl is, unread_untold job why is)

-- or not written
pub not_put_of : (job : Job) (file : List ℕ) (why : RunFault) → IsWrittenName (written_of job) file
    → IsNotPut file why → IsNoStopOf job why
not_put_of job file why written (inl e) = subst (IsNoStopOf job) (sym e) (memory_of job)
not_put_of job file why written (inr is) =
    subst (IsNoStopOf job) (sym is.1)
    (inr (inr (inr (subst (λ (name : List ℕ). IsWrittenName (written_of job) name) (sym is.2) written))), tt)

pub unwritten_of : (job : Job) (file : Option (List ℕ)) (why : RunFault)
    → ((name : List ℕ) → file ≡ Some name → IsWrittenName (written_of job) name) → IsUnwrittenFile file why
    → IsNoStopOf job why
unwritten_of job file why written is = not_put_of job is.0 why (written is.0 is.1) is.2

pub output_of : (job : Job) (file : Option (List ℕ)) (why : RunFault)
    → ((name : List ℕ) → file ≡ Some name → IsWrittenName (written_of job) name)
    → (why ≡ fault.Output) ⊎ IsUnwrittenFile file why → IsNoStopOf job why
output_of job file why written (inl e) = subst (IsNoStopOf job) (sym e) (inr (inr (inr tt)), tt)
output_of job file why written (inr is) = unwritten_of job file why written is

pub image_of : (job : Job) (given : String Global) (text : List ℕ) (why : RunFault) → job.image ≡ Some given
    → text ≡ string_bytes given → IsNotPut text why → IsNoStopOf job why
image_of job given text why is same put = not_put_of job text why (inr (inr (inr (inl (rw (is, same) refl))))) put

-- its name is given
pub named_file : (name : Option (String Global)) (given : String Global) (text : List ℕ) (why : RunFault)
    → name ≡ Some given → text ≡ string_bytes given → IsNotPut text why
    → IsUnwrittenFile (option_map string_bytes name) why
named_file name given text why is same put = (text, rw (is, same) refl, put)

-- or it is that of a new reel, and can't be made
pub unmade : (from : ReelSource) (given : String Global) (text : List ℕ) (why : RunFault) → from ≡ source.New given
    → text ≡ string_bytes given → IsNotPut text why → IsUnmadeOf from why
unmade from given text why is same put = (text, rw is (sym same), put)

-- or of one with a ring, and can't be written
pub unwritten : (from : ReelSource) (given : String Global) (text : List ℕ) (why : RunFault)
    → from ≡ source.Ringed given → text ≡ string_bytes given → IsNotPut text why → IsUnmadeOf from why
unwritten from given text why is same put = (text, rw is (sym same), put)

pub written_first : (reels : List MountedReel) (first : MountedReel) (file : List ℕ) → 0 < length reels
    → first ≡ get_or reels 0 first → IsWrittenTo first.reel file → IsWrittenReel reels file
written_first [] first file some is written = absurd (omega (arith, some))
written_first (x ∷ xs) first file some is written =
    inl (subst (λ (each : MountedReel). IsWrittenTo each.reel file) is written)

-- the deck isn't loaded
pub unloaded_of : (job : Job) (why : RunFault) → job.start ≡ start.LoadKey → IsUnloaded why → IsNoStopOf job why
unloaded_of job why how (inl e) = subst (IsNoStopOf job) (sym e) (memory_of job)
unloaded_of job why how (inr is) = subst (IsNoStopOf job) (sym is.1) (inl how, tt)

-- a reel isn't mounted
of_file_untold : (file : List ℕ) (why : RunFault) → IsOfReelFile file why → IfStopped (λ _. ⊥) why
of_file_untold file why (inl e) = subst (IfStopped (λ _. ⊥)) (sym e) tt
of_file_untold file why (inr (inl is)) = subst (IfStopped (λ _. ⊥)) (sym is.1.1) tt
of_file_untold file why (inr (inr is)) = subst (IfStopped (λ _. ⊥)) (sym is.1.1) tt

there_untold : (file : List ℕ) (why : RunFault) → IsThere file why → IfStopped (λ _. ⊥) why
there_untold file why (inl e) = subst (IfStopped (λ _. ⊥)) (sym e) tt
there_untold file why (inr is) = subst (IfStopped (λ _. ⊥)) (sym is.1) tt

not_put_untold : (file : List ℕ) (why : RunFault) → IsNotPut file why → IfStopped (λ _. ⊥) why
not_put_untold file why (inl e) = subst (IfStopped (λ _. ⊥)) (sym e) tt
not_put_untold file why (inr is) = subst (IfStopped (λ _. ⊥)) (sym is.1) tt

replaced_untold : (file : List ℕ) (why : RunFault) → IsReplaced file why → IfStopped (λ _. ⊥) why
replaced_untold file why is = subst (IfStopped (λ _. ⊥)) (sym is.1.1) tt

unmounted_of_untold : (from : ReelSource) (why : RunFault) → IsUnmountedOf from why → IfStopped (λ _. ⊥) why
unmounted_of_untold (source.File name) why is = of_file_untold (string_bytes name) why is
unmounted_of_untold (source.Ringed name) why is = of_file_untold (string_bytes name) why is
unmounted_of_untold (source.New name) why is = there_untold (string_bytes name) why is
unmounted_of_untold source.Scratch why is = subst (IfStopped (λ _. ⊥)) (sym is) tt

unmounted_untold : (reels : List MountedReel) (why : RunFault) → IsUnmounted reels why → IfStopped (λ _. ⊥) why
unmounted_untold [] why is = subst (IfStopped (λ _. ⊥)) (sym is) tt
unmounted_untold (first ∷ reels) why (inl is) = unmounted_of_untold first.reel why is
unmounted_untold (first ∷ reels) why (inr is) = unmounted_untold reels why is

pub unmounted_of : (job : Job) (why : RunFault) → IsUnmounted job.reels.items why → IsNoStopOf job why
unmounted_of job why is = (inr (inl is), unmounted_untold job.reels.items why is)

-- or not written
unwritten_of_untold : (from : ReelSource) (why : RunFault) → IsUnwrittenOf from why → IfStopped (λ _. ⊥) why
unwritten_of_untold (source.File name) why is = absurd is
unwritten_of_untold (source.Ringed name) why (inl is) = not_put_untold (string_bytes name) why is
unwritten_of_untold (source.Ringed name) why (inr is) = replaced_untold (string_bytes name) why is
unwritten_of_untold (source.New name) why (inl is) = not_put_untold (string_bytes name) why is
unwritten_of_untold (source.New name) why (inr is) = there_untold (string_bytes name) why is
unwritten_of_untold source.Scratch why is = absurd is

pub unwritten_reel_untold : (reels : List MountedReel) (why : RunFault) → IsUnwrittenReel reels why
    → IfStopped (λ _. ⊥) why
unwritten_reel_untold [] why is = absurd is
unwritten_reel_untold (first ∷ reels) why (inl is) = unwritten_of_untold first.reel why is
unwritten_reel_untold (first ∷ reels) why (inr is) = unwritten_reel_untold reels why is

-- a fault that reports no stop reports none of any kind
pub no_stop : (Is : Ending → Type 0) (why : RunFault) → IfStopped (λ _. ⊥) why → IfStopped Is why
no_stop Is fault.Output is = tt
no_stop Is fault.Size is = tt
no_stop Is (fault.File name why) is = tt
no_stop Is (fault.Unwritten name) is = tt
no_stop Is (fault.OneFile first second) is = tt
no_stop Is (fault.Deck name why) is = tt
no_stop Is (fault.Unloaded why) is = tt
no_stop Is (fault.Stopped ending) is = absurd is
no_stop Is (fault.Source why) is = tt
no_stop Is (fault.Image why) is = tt
no_stop Is (fault.Reel name why) is = tt
no_stop Is (fault.Exists name) is = tt
no_stop Is (fault.Replaced name beside) is = tt
no_stop Is fault.Memory is = tt

pub no_stop_ran : (job : Job) (old new : KnownFiles) (why : RunFault) → IsNoStopOf job why
    → Ran job old new (Err why)
no_stop_ran job old new why is = (is.0, no_stop _ why is.1)
