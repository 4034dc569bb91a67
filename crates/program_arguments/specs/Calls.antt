-- What a subcommand's options ask for, option by option (own).
use Rattle.std.specs.Prelude.{◌≡◌, ◌||◌, ◌&&◌, not, ℕ, Bool, true, false, List, [], Option, None, Some}
use Rattle.std.specs.Prelude.{String, codes, is_some, map, nat_eq, string_bytes, unwrap_or, if◌then◌else◌}
use Rattle.std.specs.Char.{to_ascii_lowercase}
use Rattle.std.specs.Global.{Global}
use Rattle.std.specs.List.{list_any}
use Rattle.std.specs.Str.{bytes_eq}
use Rattle.clap.specs.Words.{first_value, has_subcommand, rows_of, subcommand_rows_of}
use Rattle.clap.specs.declared.parser.matches.ArgMatches.{ArgMatches}
use Rattle.clap.specs.declared.parser.matches.Found.{Found}
use Rattle.program_arguments.specs.declared.call.Assembling.{Assembling}
use Rattle.program_arguments.specs.declared.call.Call.{Call}
use Rattle.program_arguments.specs.declared.call.Call.TheVariants as call
use Rattle.program_arguments.specs.declared.call.Job.{Job}
use Rattle.program_arguments.specs.declared.call.NewJournal.{NewJournal}
use Rattle.program_arguments.specs.declared.call.Opening.{Opening}
use Rattle.program_arguments.specs.declared.call.Opening.TheVariants as opening
use Rattle.program_arguments.specs.declared.call.Operating.{Operating}
use Rattle.program_arguments.specs.declared.call.Operators.{Operators}
use Rattle.program_arguments.specs.declared.call.Parity.{Parity}
use Rattle.program_arguments.specs.declared.call.Parity.TheVariants as parity
use Rattle.program_arguments.specs.declared.call.Product.{Product}
use Rattle.program_arguments.specs.declared.call.Product.TheVariants as product
use Rattle.program_arguments.specs.declared.call.ReelTask.{ReelTask}
use Rattle.program_arguments.specs.declared.call.ReelTask.TheVariants as task
use Rattle.program_arguments.specs.declared.call.Reeling.{Reeling}
use Rattle.program_arguments.specs.declared.call.Resuming.{Resuming}
use Rattle.program_arguments.specs.declared.call.Seating.{Seating}
use Rattle.program_arguments.specs.declared.call.PlainService.{PlainService}
use Rattle.program_arguments.specs.declared.call.Showing.{Showing}
use Rattle.program_arguments.specs.declared.call.Reported.{Reported}
use Rattle.program_arguments.specs.declared.call.Reported.TheVariants as told
use Rattle.serving_http.specs.declared.origins.Origin.{Origin}
use Rattle.bcd_1401.specs.declared.graphics.Graphics.{Graphics}
use Rattle.machine_tables.specs.Features.{no_features}
use Rattle.machine_tables.specs.declared.features.Features.{Features}
use Rattle.serving_http.specs.Origins.{is_text_of}
use Rattle.program_arguments.specs.Features.{features_in}
use Rattle.program_arguments.specs.Mounting.{AreReelsIn, IsStartIn, fitted_for, program_name}
use Rattle.program_arguments.specs.Options.{AreNumbersOf, IsFlagIn, IsNamedSizeIn, IsNameIn, IsNumberIn, IsNumberOr}
use Rattle.program_arguments.specs.Options.{graphics_by, graphics_in, language_in}

-- what is written: tables with or without the listing, or else the listing, or else the image
abbrev pub product_of : Bool → Bool → Bool → Product
product_of listing symbols references =
    if symbols || references then
    product.Tables (record { listing = listing; symbols = symbols; references = references })
    else if listing then product.Listing
    else product.Image

abbrev pub IsProductIn : Found → Product → Type 0
IsProductIn found what =
    (listing : Bool) × (symbols : Bool) × (references : Bool)
    × IsFlagIn found (codes "list") listing
    × IsFlagIn found (codes "symbols") symbols
    × IsFlagIn found (codes "xref") references
    × (what ≡ product_of listing symbols references)

-- whether two names are there, and are the same
abbrev pub are_one : Option (List ℕ) → Option (List ℕ) → Bool
are_one None other = false
are_one (Some one) None = false
are_one (Some one) (Some other) = bytes_eq one other

abbrev pub tells_all : Reported → Bool
tells_all told.First = false
tells_all told.All = true

-- `assemble` of a file
pub record IsAssembling (found : Found) (name : List ℕ) (fitted : Features) (asked : Assembling) : Type 0 where
  pub file : string_bytes asked.file ≡ name
  pub language : asked.language ≡ language_in (first_value found (codes "language"))
  pub source : asked.source_graphics ≡ graphics_by found (codes "source-graphics")
  pub made : asked.deck_graphics ≡ graphics_by found (codes "out-graphics")
  pub size : IsNamedSizeIn found asked.size
  pub product : IsProductIn found asked.product
  pub out : IsNameIn found (codes "output") asked.out
  pub deck : IsNameIn found (codes "deck") asked.deck
  pub all : IsFlagIn found (codes "all") (tells_all asked.told)
  pub features : asked.features ≡ fitted

-- and the call: the image and the deck aren't one file
abbrev pub IsAssembled : Found → List ℕ → Call → Type 0
IsAssembled found file asked =
    (assembling : Assembling) × (asked ≡ call.Assemble assembling) × IsAssembling found file (features_in found) assembling
    × (are_one (first_value found (codes "output")) (first_value found (codes "deck")) ≡ false)

-- `run` of a file, with these switches, on a machine with these features, and with tape units if it has reels
pub record IsJob (found : Found) (name : List ℕ) (on : List Bool) (fitted : Features) (asked : Job) : Type 0 where
  pub reels : AreReelsIn found asked.reels.items
  pub start : IsStartIn found asked.reels.items asked.start
  pub file : Some (string_bytes asked.file) ≡ program_name name asked.reels.items asked.start
  pub cards : IsNameIn found (codes "cards") asked.cards
  pub punch : IsNameIn found (codes "punch") asked.punch
  pub paper : IsNameIn found (codes "paper") asked.paper
  pub trace : IsNameIn found (codes "trace") asked.trace
  pub image : IsNameIn found (codes "image") asked.image
  pub language : asked.language ≡ language_in (first_value found (codes "language"))
  pub graphics : asked.graphics ≡ graphics_in (first_value found (codes "graphics"))
  pub source : asked.source_graphics ≡ graphics_by found (codes "source-graphics")
  pub punched : asked.punch_graphics ≡ graphics_by found (codes "out-graphics")
  pub size : IsNamedSizeIn found asked.size
  pub limit : IsNumberOr 32 found (codes "limit") 1000000000 asked.limit
  pub switches : asked.switches ≡ on
  pub features : asked.features ≡ fitted_for asked.reels.items fitted

-- the sense switches A to G: those are on that these letters name
abbrev pub switches_named : List ℕ → List Bool
switches_named letters = map (λ letter. list_any (λ each. nat_eq each letter) letters) (codes "ABCDEFG")

-- and the call
abbrev pub IsRunOn : Found → List ℕ → List Bool → Features → Call → Type 0
IsRunOn found file on fitted asked = (job : Job) × (asked ≡ call.Run job) × IsJob found file on fitted job

abbrev pub IsRun : Found → List ℕ → Call → Type 0
IsRun found file asked =
    IsRunOn found file (switches_named (unwrap_or (first_value found (codes "switches")) [])) (features_in found) asked

-- a new journal, if the options name its file
abbrev pub IsJournalIn : Found → Option NewJournal → Type 0
IsJournalIn found None = first_value found (codes "journal") ≡ None
IsJournalIn found (Some journal) =
    (first_value found (codes "journal") ≡ Some (string_bytes journal.file))
    × IsFlagIn found (codes "sync") journal.sync

-- `operate`, with these switches, on a machine with these features
pub record IsOperating (found : Found) (on : List Bool) (fitted : Features) (asked : Operating) : Type 0 where
  pub file : IsNameIn found (codes "file") asked.file
  pub load : IsFlagIn found (codes "load") asked.is_deck
  pub cards : IsNameIn found (codes "cards") asked.cards
  pub switches : asked.switches ≡ on
  pub journal : IsJournalIn found asked.journal
  pub resumed : IsNameIn found (codes "resume") asked.resumed
  pub language : asked.language ≡ language_in (first_value found (codes "language"))
  pub graphics : asked.graphics ≡ graphics_in (first_value found (codes "graphics"))
  pub source : asked.source_graphics ≡ graphics_by found (codes "source-graphics")
  pub size : IsNamedSizeIn found asked.size
  pub script : IsNameIn found (codes "do") asked.script
  pub echo : IsFlagIn found (codes "echo") asked.echo
  pub limit : IsNumberOr 32 found (codes "limit") 1000000000 asked.limit
  pub features : asked.features ≡ fitted

-- and the call
abbrev pub IsOperated : Found → Call → Type 0
IsOperated found asked =
    (operating : Operating) × (asked ≡ call.Operate operating)
    × IsOperating found (switches_named (unwrap_or (first_value found (codes "switches")) [])) (features_in found)
    operating

-- `journal` of a file
pub record IsShowing (found : Found) (name : List ℕ) (asked : Showing) : Type 0 where
  pub file : string_bytes asked.file ≡ name
  pub seat : IsNumberIn 8 found (codes "seat") asked.seat
  pub «from» : IsNumberOr 32 found (codes "from") 1 asked.«from»
  pub check : IsFlagIn found (codes "check") asked.check

-- and the call
abbrev pub IsShown : Found → List ℕ → Call → Type 0
IsShown found file asked =
    (showing : Showing) × (asked ≡ call.Journal showing) × IsShowing found file showing

-- a session that begins so, with the new journal that the options name, or without
abbrev pub IsSession : Found → Opening → Call → Type 0
IsSession found opening asked =
    (journal : Option NewJournal) × (asked ≡ call.Console (record { opening = opening; journal = journal }))
    × IsJournalIn found journal

-- `resume` of a file, but for the commands that are left out
pub record IsResuming (found : Found) (name : List ℕ) (asked : Resuming) : Type 0 where
  pub file : string_bytes asked.file ≡ name
  pub last : IsFlagIn found (codes "last") asked.last
  pub until : IsNumberIn 32 found (codes "until") asked.until
  pub without : AreNumbersOf (unwrap_or (first_value found (codes "without")) []) asked.without.items
  pub sync : IsFlagIn found (codes "sync") asked.sync

-- the operators, if there is a number of seats, and a port or a page
abbrev pub operators_of : Option ℕ → Option ℕ → Option ℕ → Option Operators
operators_of None port page = None
operators_of (Some seats) port page =
    if is_some port || is_some page then Some (record { seats = seats; port = port; page = page }) else None

abbrev pub AreOperatorsIn : Found → Option Operators → Type 0
AreOperatorsIn found operators =
    (seats : Option ℕ) × (port : Option ℕ) × (page : Option ℕ)
    × IsNumberIn 8 found (codes "seats") seats
    × IsNumberIn 16 found (codes "port") port
    × IsNumberIn 16 found (codes "page") page
    × (operators ≡ operators_of seats port page)

-- the origin outside that an option names, in letters of either case, if it names one
abbrev pub IsOriginIn : Found → Option Origin → Type 0
IsOriginIn found None = first_value found (codes "origin") ≡ None
IsOriginIn found (Some origin) =
    (text : List ℕ) × (first_value found (codes "origin") ≡ Some text)
    × (is_text_of (map to_ascii_lowercase text) origin ≡ true)

-- whether an option asks for a room with something of its own
abbrev pub asks_for_more : Found → Bool
asks_for_more found =
    is_some (first_value found (codes "image"))
    || (is_some (first_value found (codes "cards"))
    || (is_some (first_value found (codes "journal")) || is_some (first_value found (codes "fit"))))

-- whether a room is new, and gone with its first operators
abbrev pub IsPlainIn : Found → Bool → Type 0
IsPlainIn found is =
    (asks_for_more found ≡ true → is ≡ false)
    × (asks_for_more found ≡ false → IsFlagIn found (codes "keep-seats") (not is))

-- what a room begins with: an image, or else a machine at power-on
abbrev pub IsOpeningIn : Found → Opening → Type 0
IsOpeningIn found (opening.PowerOn size features) =
    (first_value found (codes "image") ≡ None) × IsNumberOr 16 found (codes "size") 4000 size
    × (features ≡ features_in found)
IsOpeningIn found (opening.Image file features) =
    (first_value found (codes "image") ≡ Some (string_bytes file)) × (features ≡ features_in found)
IsOpeningIn found (opening.Journal resuming) = ⊥

-- a room that begins so for these operators, where seats are taken again
pub record IsSeating (found : Found) (begins : Opening) (who : Operators) (asked : Seating) : Type 0 where
  pub opening : asked.opening ≡ begins
  pub operators : asked.operators ≡ who
  pub origin : IsOriginIn found asked.origin
  pub cards : IsNameIn found (codes "cards") asked.cards
  pub graphics : asked.graphics ≡ graphics_in (first_value found (codes "graphics"))
  pub journal : IsJournalIn found asked.journal
  pub renewal : IsNumberIn 16 found (codes "renew-after") asked.renewal

abbrev pub IsSeated : Found → Opening → Operators → Call → Type 0
IsSeated found begins operators asked =
    (seating : Seating) × (asked ≡ call.ServeSeats seating) × IsSeating found begins operators seating

-- `serve` for these operators: a plain room where they come by consoles alone is gone with them
abbrev pub IsRoomThat : Found → Operators → Bool → Call → Type 0
IsRoomThat found operators true asked =
    (service : PlainService) × (asked ≡ call.Serve service)
    × (Some service.port ≡ operators.port) × (service.seats ≡ operators.seats)
    × IsNumberOr 16 found (codes "size") 4000 service.size
IsRoomThat found operators false asked =
    (begins : Opening) × IsOpeningIn found begins × IsSeated found begins operators asked

abbrev pub IsRoom : Found → Operators → Call → Type 0
IsRoom found operators asked =
    (plain : Bool) × IsPlainIn found plain
    × IsRoomThat found operators (plain && (is_some operators.port && not (is_some operators.page))) asked

-- a machine that begins so: at seats if there are operators, or else at a console
abbrev pub IsOpened : Found → Opening → Option Operators → Call → Type 0
IsOpened found begins None asked = IsSession found begins asked
IsOpened found begins (Some operators) asked = IsSeated found begins operators asked

-- `resume` of a file
abbrev pub IsResumed : Found → List ℕ → Call → Type 0
IsResumed found file asked =
    (resuming : Resuming) × (operators : Option Operators) × IsResuming found file resuming
    × AreOperatorsIn found operators × IsOpened found (opening.Journal resuming) operators asked

-- `console`
abbrev pub IsConsole : Found → Call → Type 0
IsConsole found asked =
    (size : ℕ) × IsNumberOr 16 found (codes "size") 4000 size
    × IsSession found (opening.PowerOn size (features_in found)) asked

-- `load` of a file
abbrev pub IsLoad : Found → List ℕ → Call → Type 0
IsLoad found file asked =
    (name : String Global) × (string_bytes name ≡ file) × IsSession found (opening.Image name (features_in found)) asked

-- `disassemble` of a file: of an image, or of a deck
abbrev pub disassemble_call : Bool → String Global → Option Graphics → ℕ → Call
disassemble_call false file chain size = call.Disassemble file
disassemble_call true file chain size = call.DisassembleDeck file chain size

abbrev pub IsDisassembled : Found → List ℕ → Call → Type 0
IsDisassembled found file asked =
    (deck : Bool) × (name : String Global) × (size : ℕ)
    × (asked ≡ disassemble_call deck name (graphics_in (first_value found (codes "graphics"))) size)
    × (string_bytes name ≡ file) × IsFlagIn found (codes "load") deck × IsNumberOr 16 found (codes "size") 4000 size

-- what is done with a file of `reel`: it is a deck or not, and these names are given; without a name for its reel,
-- which clap lets nobody leave out, a deck is read as a reel
abbrev pub reel_task : Bool → Option (String Global) → Option (String Global) → ReelTask
reel_task true (Some output) deck = task.FromDeck output
reel_task true None deck = task.List
reel_task false output (Some deck) = task.IntoDeck deck
reel_task false output None = task.List

abbrev pub IsReelTask : Found → ReelTask → Type 0
IsReelTask found asked =
    (is_deck : Bool) × (output : Option (String Global)) × (deck : Option (String Global))
    × (asked ≡ reel_task is_deck output deck)
    × IsFlagIn found (codes "from-deck") is_deck
    × IsNameIn found (codes "output") output
    × IsNameIn found (codes "deck") deck

abbrev pub parity_of : Bool → Parity
parity_of false = parity.Odd
parity_of true = parity.Even

abbrev pub IsParityIn : Found → Parity → Type 0
IsParityIn found asked =
    (is_even : Bool) × (asked ≡ parity_of is_even) × IsFlagIn found (codes "even-parity") is_even

-- `reel` of a file
pub record IsReeling (found : Found) (name : List ℕ) (asked : Reeling) : Type 0 where
  pub file : string_bytes asked.file ≡ name
  pub task : IsReelTask found asked.task
  pub graphics : asked.graphics ≡ graphics_in (first_value found (codes "graphics"))
  pub parity : IsParityIn found asked.parity

abbrev pub IsReel : Found → List ℕ → Call → Type 0
IsReel found file asked = (reeling : Reeling) × (asked ≡ call.Reel reeling) × IsReeling found file reeling

-- a session on a machine of 4,000 places, whose journal isn't kept
abbrev pub bare_call : Call
bare_call = call.Console (record { opening = opening.PowerOn 4000 no_features; journal = None })

-- `serve`; without operators, which clap lets nobody leave out, it is a console of 4,000 places
abbrev pub IsServedBy : Found → Option Operators → Call → Type 0
IsServedBy found None asked = asked ≡ bare_call
IsServedBy found (Some operators) asked = IsRoom found operators asked

abbrev pub IsServed : Found → Call → Type 0
IsServed found asked =
    (operators : Option Operators) × AreOperatorsIn found operators × IsServedBy found operators asked

-- the subcommand of this name, with a file
pub record IsOfFile (name : List ℕ) (found : Found) (file : List ℕ) (asked : Call) : Type 0 where
  pub assemble : name ≡ codes "assemble" → IsAssembled found file asked
  pub load : name ≡ codes "load" → IsLoad found file asked
  pub disassemble : name ≡ codes "disassemble" → IsDisassembled found file asked
  pub reel : name ≡ codes "reel" → IsReel found file asked
  pub run : name ≡ codes "run" → IsRun found file asked
  pub journal : name ≡ codes "journal" → IsShown found file asked
  pub resume : name ≡ codes "resume" → IsResumed found file asked

-- the subcommand of this name
pub record IsOf (name : List ℕ) (found : Found) (asked : Call) : Type 0 where
  pub console : name ≡ codes "console" → IsConsole found asked
  pub operate : name ≡ codes "operate" → IsOperated found asked
  pub serve : name ≡ codes "serve" → IsServed found asked
  pub others : (name ≡ codes "console" → ⊥) → (name ≡ codes "operate" → ⊥) → (name ≡ codes "serve" → ⊥)
      → IsOfFile name found (unwrap_or (first_value found (codes "file")) []) asked

-- what the command line asks for by the subcommand that it names, and that one's options
abbrev pub IsAsked : ArgMatches → Call → Type 0
IsAsked matches asked =
    has_subcommand matches ≡ true → (name : List ℕ) × (found : Found)
    × (subcommand_rows_of matches ≡ Some (name, rows_of found)) × IsOf name found asked
