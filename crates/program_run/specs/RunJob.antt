-- What a run of files has run (own): a program and a deck that texts are read as. Nothing is said of which texts the
-- files have.
use Rattle.std.specs.Prelude.{◌≡◌, ℕ, ◌+◌, ⊤, true, false, Bool, List, [], ◌∷◌, ◌++◌, length, Option, None, Some, Ok}
use Rattle.std.specs.Prelude.{option_map, string_bytes, unwrap_or}
use Rattle.autocoder_1401.specs.Assembly.{assembly_in}
use Rattle.autocoder_1401.specs.declared.assembly.Assembly.{Assembly}
use Rattle.program_arguments.specs.declared.call.Job.{Job}
use Rattle.program_arguments.specs.declared.call.Start.{Start}
use Rattle.program_arguments.specs.declared.call.Start.TheVariants as start
use Rattle.program_arguments.specs.SourceSize.{size_for}
use Rattle.machine_tables.specs.declared.features.Features.{Features}
use Rattle.cpu_1401.specs.State.{State, fitted_with, power_on, with_switch}
use Rattle.autocoder_deck.specs.Entry.{loaded_deck}
use Rattle.autocoder_deck.specs.LoadedCore.{IsLoadedDeck}
use Rattle.autocoder_deck.specs.declared.loaded_core.LoadedDeck.{LoadedDeck}
use Rattle.devices_1401.specs.declared.card.Card.{Card}
use Rattle.machine_image.specs.ImageText.{IsTextOf, written_text}
use Rattle.machine_image.specs.declared.image.Image.{Image}
use Rattle.job_runner.specs.DeckText.{deck_of}
use Rattle.job_runner.specs.Unattended.{taped_with_deck, with_deck}
use Rattle.machine_tapes.specs.declared.taped_machine.TapedMachine.{TapedMachine}
use Rattle.machine_tapes.specs.Tapes.{Tapes, no_tapes}
use Rattle.machine_tables.specs.declared.stop.Stop.TheVariants as stop
use Rattle.autocoder_statements.specs.declared.language.Language.{Language}
use Rattle.program_run.specs.Program.{is_meant_as_image, with_image}
use Rattle.program_run.specs.RunDeck.{report_of, started_job}
use Rattle.program_run.specs.GivenReels.{GivenReel}
use Rattle.program_run.specs.RunReels.{AreMounted}
use Rattle.program_run.specs.declared.fault.RunFault.{RunFault}
use Rattle.program_run.specs.declared.fault.RunFault.TheVariants as fault
use Rattle.program_run.specs.declared.job_report.JobReport.{JobReport}

-- what a source stands for, in core storage of the size that is named or that it asks for
abbrev pub IsSourceOf : Language → Option ℕ → List ℕ → Image → Type 0
IsSourceOf language size text image =
    (assembly : Assembly) × (assembly_in language (size_for size language text) text ≡ Ok assembly)
    × (image ≡ assembly.image)

-- an image that a text is the text of, or the source
pub record IsProgramOf (language : Language) (size : Option ℕ) (text : List ℕ) (image : Image) : Type 0 where
  pub of_image : is_meant_as_image text ≡ true → IsTextOf text image
  pub of_source : is_meant_as_image text ≡ false → IsSourceOf language size text image

-- a machine with the program of a text, and no cards
pub record HasProgram (language : Language) (size : Option ℕ) (machine : State) (cards : List Card) : Type 0 where
  pub text : List ℕ
  pub image : Image
  pub program_of : IsProgramOf language size text image
  pub machine_is : machine ≡ with_image image
  pub cards_are : cards ≡ []

-- a machine at power-on, and the cards of a text
pub record HasLoader (size : Option ℕ) (machine : State) (cards : List Card) : Type 0 where
  pub text : List ℕ
  pub deck : deck_of text ≡ Ok cards
  pub machine_is : machine ≡ power_on (unwrap_or size 4000)

-- a machine at power-on, and no cards
abbrev pub IsBare : Option ℕ → State → List Card → Type 0
IsBare size machine cards = (machine ≡ power_on (unwrap_or size 4000)) × (cards ≡ [])

-- what the program's file gives: a machine, and its own cards; a reel gives none
abbrev pub HasFile : Start → Language → Option ℕ → State → List Card → Type 0
HasFile start.Entry language size machine cards = HasProgram language size machine cards
HasFile start.LoadKey language size machine cards = HasLoader size machine cards
HasFile (start.LoadTape unit) language size machine cards = IsBare size machine cards

-- the cards of some text
abbrev pub IsDeckText : List Card → Type 0
IsDeckText cards = (text : List ℕ) × (deck_of text ≡ Ok cards)

-- the cards of the deck's file, if there is one
abbrev pub HasCards : Option (List ℕ) → List Card → Type 0
HasCards None cards = cards ≡ []
HasCards (Some name) cards = IsDeckText cards

-- what a run begins with: a machine, and the cards of its program's file and then those of its deck's
pub record IsBegun (how : Start) (language : Language) (size : Option ℕ) (deck : Option (List ℕ)) (machine : State)
    (cards : List Card) : Type 0 where
  pub own : List Card
  pub beyond : List Card
  pub file : HasFile how language size machine own
  pub those : HasCards deck beyond
  pub cards_are : cards ≡ own ++ beyond

-- sense switches from a number on, each turned on or off
abbrev pub turned : ℕ → List Bool → State → State
turned number [] s = s
turned number (on ∷ others) s = turned (number + 1) others (with_switch s number on)

-- the sense switches as the call names them, from A on
abbrev pub with_switches : List Bool → State → State
with_switches switches s = turned 0 switches s

-- a machine that is fitted with features, and has its switches set
abbrev pub set_up : Features → List Bool → State → State
set_up features switches s = with_switches switches (fitted_with features s)

-- what is reported of a machine that is started so
abbrev pub report_on : Start → ℕ → TapedMachine → JobReport
report_on how limit t = report_of (length t.machine.devices.hopper) (started_job how limit t)

-- the image of what these cards load on a machine of this size with these features and switches, at the entry of their
-- program
abbrev pub IsLoadedImage : Option ℕ → Features → List Bool → List Card → Image → Type 0
IsLoadedImage size features switches cards image =
    (loaded : LoadedDeck) × (image ≡ loaded.image)
    × IsLoadedDeck
    (loaded_deck 1000000 (with_deck cards (set_up features switches (power_on (unwrap_or size 4000))))) loaded

-- the text of such an image
abbrev pub IsLoadedText : Option ℕ → Features → List Bool → List Card → List ℕ → Type 0
IsLoadedText size features switches cards text =
    (image : Image) × IsLoadedImage size features switches cards image × (text ≡ written_text image)

-- a machine with tape units, and a deck
abbrev pub begun_with : State → Tapes → List Card → TapedMachine
begun_with machine tapes cards = taped_with_deck cards (record { machine = machine; tapes = tapes })

-- the report of a job: its files are read, its reels are mounted, the machine is fitted, its switches are set, and it is
-- started and goes on to its limit at most
pub record IsReportOf (job : Job) (report : JobReport) : Type 0 where
  pub machine : State
  pub cards : List Card
  pub tapes : Tapes
  pub before : Option (List GivenReel)
  pub after : Option (List GivenReel)
  pub begun : IsBegun job.start job.language job.size (option_map string_bytes job.cards) machine cards
  pub reels : AreMounted job.reels.items before after no_tapes tapes
  pub report_is :
      report ≡ report_on job.start job.limit (begun_with (set_up job.features job.switches machine) tapes cards)

-- a job that ran to a halt
abbrev pub HasHalted : Job → Type 0
HasHalted job = (report : JobReport) × IsReportOf job report × (report.stop ≡ stop.Halt)

-- a fault that reports a stop has this report
abbrev pub ReportsStop : JobReport → RunFault → Type 0
ReportsStop report fault.Output = ⊤
ReportsStop report fault.Size = ⊤
ReportsStop report (fault.File name why) = ⊤
ReportsStop report (fault.Unwritten name) = ⊤
ReportsStop report (fault.OneFile first second) = ⊤
ReportsStop report (fault.Deck name why) = ⊤
ReportsStop report (fault.Unloaded why) = ⊤
ReportsStop report (fault.Stopped ending) = ending.report ≡ report
ReportsStop report (fault.Source why) = ⊤
ReportsStop report (fault.Image why) = ⊤
ReportsStop report (fault.Reel name why) = ⊤
ReportsStop report (fault.Exists name) = ⊤
ReportsStop report (fault.Replaced name beside) = ⊤
ReportsStop report fault.Memory = ⊤

-- a fault that reports a stop has the report of a job
abbrev pub ReportsJob : Job → RunFault → Type 0
ReportsJob job fault.Output = ⊤
ReportsJob job fault.Size = ⊤
ReportsJob job (fault.File name why) = ⊤
ReportsJob job (fault.Unwritten name) = ⊤
ReportsJob job (fault.OneFile first second) = ⊤
ReportsJob job (fault.Deck name why) = ⊤
ReportsJob job (fault.Unloaded why) = ⊤
ReportsJob job (fault.Stopped ending) = IsReportOf job ending.report
ReportsJob job (fault.Source why) = ⊤
ReportsJob job (fault.Image why) = ⊤
ReportsJob job (fault.Reel name why) = ⊤
ReportsJob job (fault.Exists name) = ⊤
ReportsJob job (fault.Replaced name beside) = ⊤
ReportsJob job fault.Memory = ⊤
