-- The program that a run begins with, and the machine that has it (own).
use Rattle.std.specs.Prelude.{◌≡◌, ◌⊎◌, ℕ, ◌||◌, ◌==◌, Bool, List, [], ◌∷◌, Result, Ok, Err, codes}
use Rattle.std.specs.List.{starts_with}
use Rattle.autocoder_1401.specs.Assembly.{assembly_in}
use Rattle.autocoder_symbols.specs.Fault.{IsMemory}
use Rattle.autocoder_1401.specs.declared.assembly.Assembly.{Assembly}
use Rattle.cpu_1401.specs.CarryOut.{carry_out}
use Rattle.cpu_1401.specs.State.{State, power_on}
use Rattle.machine_image.specs.declared.fault.ImageFault.{ImageFault}
use Rattle.machine_image.specs.declared.image.Image.{Image}
use Rattle.machine_image.specs.ImageText.{IsTextOf}
use Rattle.machine_image.specs.Refusal.{IsRefused}
use Rattle.machine_image.specs.Loading.{load_commands}
use Rattle.machine_commands.specs.declared.command.Command.{Command}
use Rattle.autocoder_symbols.specs.declared.fault.AsmFault.{AsmFault}
use Rattle.autocoder_statements.specs.declared.language.Language.{Language}
use Rattle.program_run.specs.declared.fault.RunFault.{RunFault}
use Rattle.program_run.specs.declared.fault.RunFault.TheVariants as fault

-- whether a text is meant as that of an image: it begins as one
unfoldable pub is_meant_as_image : List ℕ → Bool
is_meant_as_image text =
    starts_with (λ a b. a == b) text (codes "IMAGE1 ") || starts_with (λ a b. a == b) text (codes "IMAGE2 ")

-- what a source stands for in core storage of this size: the image, or its fault, or that memory was refused
abbrev pub IsAssembled : Language → ℕ → List ℕ → Result Image RunFault → Type 0
IsAssembled language size source (Ok image) =
    (assembly : Assembly) × (assembly_in language size source ≡ Ok assembly) × (image ≡ assembly.image)
IsAssembled language size source (Err told) =
    (why : AsmFault) × (told ≡ fault.Source why) × (IsMemory why ⊎ (assembly_in language size source ≡ Err why))

-- the machine after commands
abbrev pub after_commands : State → List Command → State
after_commands s [] = s
after_commands s (command ∷ commands) = after_commands (carry_out s command).state commands

-- a machine of an image's size at power-on, after the commands that load the image
abbrev pub with_image : Image → State
with_image image = after_commands (power_on image.size) (load_commands image)

-- a machine that has the cells of the image of a text
abbrev pub IsImageMachine : List ℕ → State → Type 0
IsImageMachine text machine = (image : Image) × IsTextOf text image × (machine ≡ with_image image)

-- why there is none: the text's own fault, or that memory was refused
abbrev pub IsNoImage : List ℕ → RunFault → Type 0
IsNoImage text told =
    ((why : ImageFault) × (told ≡ fault.Image why) × IsRefused text why) ⊎ (told ≡ fault.Memory)

-- why a source is no program: its own fault, or that memory was refused
abbrev pub IsNoProgram : RunFault → Type 0
IsNoProgram told = ((why : AsmFault) × (told ≡ fault.Source why)) ⊎ (told ≡ fault.Memory)
