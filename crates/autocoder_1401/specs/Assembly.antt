-- The answer of the assembler, memory aside (Autocoder, "Assembler Control").
use Rattle.std.specs.Prelude.{◌⊎◌, ℕ, List, Option, None, Some, Result, Ok, Err}
use Rattle.machine_image.specs.declared.image.Image.{Image}
use Rattle.autocoder_statements.specs.SourceLine.{lines_of}
use Rattle.autocoder_statements.specs.declared.language.Language.{Language}
use Rattle.autocoder_statements.specs.declared.statement.Line.{Line}
use Rattle.autocoder_symbols.specs.Known.{declared_at}
use Rattle.autocoder_symbols.specs.Reading.{lines_in}
use Rattle.autocoder_symbols.specs.declared.fault.AsmFault.{AsmFault}
use Rattle.autocoder_diagnostics.specs.FirstFault.{first_fault, IsFaultless, IsFirstFault}
use Rattle.autocoder_placing.specs.Laws.{IsFirstOutside}
use Rattle.autocoder_placing.specs.Values.{first_outside}
use Rattle.autocoder_placing.specs.PlacedImage.{image_of}
use Rattle.autocoder_listing.specs.Listing.{listing_with, listing_of}
use Rattle.autocoder_1401.specs.declared.assembly.Assembly.{Assembly}

-- the image and the listing of lines without a fault, of which this is the source
abbrev pub assembly_with : ℕ → List Line → List ℕ → Assembly
assembly_with size lines source =
    record { image = image_of size lines; listing = listing_with lines (lines_of source) }

-- an image with the listing of a source
abbrev pub with_listing : Language → List ℕ → Image → Assembly
with_listing language source image = record { image = image; listing = listing_of language (lines_of source) }

-- the fault if there is one, and else the answer
abbrev pub fault_or : {X : Type 0} → Option AsmFault → Result X AsmFault → Result X AsmFault
fault_or None answer = answer
fault_or (Some fault) answer = Err fault

-- the image and the listing of a source without a fault
abbrev pub assembly_of : Language → ℕ → List ℕ → Assembly
assembly_of language size source = assembly_with size (lines_in language source) source

-- the first fault of lines, and else the answer
abbrev pub unless_fault : {X : Type 0} → Language → ℕ → List Line → X → Result X AsmFault
unless_fault language size lines answer =
    fault_or (first_fault language lines) (fault_or (first_outside size lines) (Ok answer))

-- the image and the listing of a source, or its fault
abbrev pub assembly_in : Language → ℕ → List ℕ → Result Assembly AsmFault
assembly_in language size source =
    unless_fault language size (lines_in language source) (assembly_of language size source)

-- a fault of lines: the first line that has one, and its lowest kind; or, of lines without a fault, the first of which
-- something isn't in core
abbrev pub IsFaultOf : Language → ℕ → List Line → AsmFault → Type 0
IsFaultOf language size lines fault =
    IsFirstFault (declared_at language lines) lines fault
    ⊎ (IsFaultless (declared_at language lines) lines × IsFirstOutside size lines fault)
