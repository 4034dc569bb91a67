-- The answer of the assembler, put together of what its passes answer.
use Rattle.std.proofs.Common.{◌≡◌, ℕ, List, Option, None, Some, true, Result, Ok, Err, IfOk, IfErr, OnOk, sym, ap}
use Rattle.std.proofs.Common.{refl, subst, ◌∙◌, ◌⊎◌, inl, inr}
use Rattle.core_1401.specs.Storage.{is_core_size}
use Rattle.machine_image.specs.Image.{IsInCore}
use Rattle.machine_image.specs.declared.image.Image.{Image}
use Rattle.autocoder_statements.specs.SourceLine.{lines_of}
use Rattle.autocoder_statements.specs.declared.language.Language.{Language}
use Rattle.autocoder_statements.specs.declared.statement.Line.{Line}
use Rattle.autocoder_symbols.specs.Known.{declared_at}
use Rattle.autocoder_symbols.specs.Reading.{lines_in}
use Rattle.autocoder_symbols.specs.Fault.{IsMemory, Gives}
use Rattle.autocoder_symbols.specs.declared.fault.AsmFault.{AsmFault}
use Rattle.autocoder_diagnostics.specs.FirstFault.{first_fault, IsFaultless, IsFirstFault}
use Rattle.autocoder_placing.specs.Laws.{IsFirstOutside, IsCutOf}
use Rattle.autocoder_placing.specs.PlacedImage.{image_of, placed_cells}
use Rattle.autocoder_placing.specs.Values.{first_outside}
use Rattle.autocoder_placing.proofs.CoreLemmas.{image_inside}
use Rattle.autocoder_placing.proofs.LawLemmas.{image_cut}
use Rattle.autocoder_listing.specs.Listing.{listing_with}
use Rattle.autocoder_1401.specs.Assembly.{assembly_with, assembly_of, assembly_in, with_listing, fault_or, unless_fault}
use Rattle.autocoder_1401.specs.Assembly.{IsFaultOf}
use Rattle.autocoder_1401.specs.declared.assembly.Assembly.{Assembly}

-- lines without a fault, of which nothing is outside or this is the first that is, are answered so
answered : (language : Language) (size : ℕ) (source : List ℕ) (lines : List Line) (outside : Option AsmFault)
    → lines ≡ lines_in language source → first_fault language lines ≡ None → first_outside size lines ≡ outside
    → assembly_in language size source ≡ fault_or outside (Ok (assembly_with size lines source))
answered language size source lines outside same none found =
    let answer = assembly_with size lines source in
    ap (λ (said : List Line). unless_fault language size said (assembly_with size said source)) (sym same)
    ∙ ap (λ (first : Option AsmFault). fault_or first (fault_or (first_outside size lines) (Ok answer))) none
    ∙ ap (λ (first : Option AsmFault). fault_or first (Ok answer)) found

-- lines of which nothing is outside have their assembly,
pub assembled : (language : Language) (size : ℕ) (source : List ℕ) (lines : List Line) (assembly : Assembly)
    → lines ≡ lines_in language source → first_fault language lines ≡ None → first_outside size lines ≡ None
    → assembly ≡ assembly_with size lines source → assembly_in language size source ≡ Ok assembly
assembled language size source lines assembly same none inside is =
    answered language size source lines None same none inside ∙ ap Ok (sym is)

-- with its image made alone,
pub assembled_alone : (language : Language) (size : ℕ) (source : List ℕ) (lines : List Line) (image : Image)
    → lines ≡ lines_in language source → first_fault language lines ≡ None → first_outside size lines ≡ None
    → image ≡ image_of size lines → assembly_in language size source ≡ Ok (with_listing language source image)
assembled_alone language size source lines image same none inside is =
    assembled language size source lines (with_listing language source image) same none inside
    (ap (with_listing language source) is
    ∙ ap
    (λ (said : List Line). record { image = image_of size lines; listing = listing_with said (lines_of source) })
    (sym same))

-- and others the first of which something is
pub not_assembled : {X : Type 0} (language : Language) (size : ℕ) (source : List ℕ) (lines : List Line)
    (fault : AsmFault) → lines ≡ lines_in language source → first_fault language lines ≡ None
    → IsMemory fault ⊎ ((first_outside size lines ≡ Some fault) × X)
    → IsMemory fault ⊎ (assembly_in language size source ≡ Err fault)
not_assembled {X} language size source lines fault same none found =
    elim found [
      | inl memory ↦ inl memory
      | inr outside ↦ inr (answered language size source lines (Some fault) same none outside.0)
    ]

-- lines with a fault are answered by the first
pub not_read : {X : Type 0} (language : Language) (size : ℕ) (source : List ℕ) (fault : AsmFault)
    → IsMemory fault ⊎ ((first_fault language (lines_in language source) ≡ Some fault) × X)
    → IsMemory fault ⊎ (assembly_in language size source ≡ Err fault)
not_read {X} language size source fault found =
    let rest = fault_or (first_outside size (lines_in language source)) (Ok (assembly_of language size source)) in
    elim found [
      | inl memory ↦ inl memory
      | inr first ↦ inr (ap (λ (told : Option AsmFault). fault_or told rest) first.0)
    ]

-- it is a fault of the lines,
pub fault_of_read : {X : Type 0} (language : Language) (size : ℕ) (lines : List Line) (fault : AsmFault)
    → IsMemory fault ⊎ (X × IsFirstFault (declared_at language lines) lines fault)
    → IsMemory fault ⊎ IsFaultOf language size lines fault
fault_of_read {X} language size lines fault found =
    elim found [
      | inl memory ↦ inl memory
      | inr first ↦ inr (inl first.1)
    ]

-- and so is the first that is partly outside core, among lines without a fault
pub fault_of_placed : {X : Type 0} (language : Language) (size : ℕ) (said lines : List Line) (fault : AsmFault)
    → said ≡ lines → IsFaultless (declared_at language lines) lines
    → IsMemory fault ⊎ (X × IsFirstOutside size said fault)
    → IsMemory fault ⊎ IsFaultOf language size lines fault
fault_of_placed {X} language size said lines fault same clean found =
    elim found [
      | inl memory ↦ inl memory
      | inr outside ↦
          inr (inr (clean, subst (λ (of : List Line). IsFirstOutside size of fault) same outside.1))
    ]

-- what is made of lines without a fault is the answer, by its image,
pub made : {X : Type 0} (image : X → Image) (language : Language) (size : ℕ) (source : List ℕ) (lines : List Line)
    (result : Result X AsmFault) → lines ≡ lines_in language source → first_fault language lines ≡ None
    → IfOk result (λ value. image value ≡ image_of size lines) → OnOk result (first_outside size lines ≡ None)
    → IfErr result (λ fault. IsMemory fault
    ⊎ ((first_outside size lines ≡ Some fault) × IsFirstOutside size lines fault))
    → Gives (λ value. with_listing language source (image value)) result (assembly_in language size source)
made {X} image language size source lines (Ok value) same none is inside outside =
    assembled_alone language size source lines (image value) same none inside is
made {X} image language size source lines (Err fault) same none is inside outside =
    not_assembled language size source lines fault same none outside

-- all of the image is in core,
pub made_in_core : {X : Type 0} (image : X → Image) (size : ℕ) (lines : List Line) (result : Result X AsmFault)
    → is_core_size size ≡ true → IfOk result (λ value. image value ≡ image_of size lines)
    → OnOk result (first_outside size lines ≡ None) → IfOk result (λ value. IsInCore (image value))
made_in_core {X} image size lines (Ok value) size_is is inside =
    subst IsInCore (sym is) (image_inside size lines size_is inside)
made_in_core {X} image size lines (Err fault) size_is is inside = tt

-- and it is cut as the lines are placed
pub made_cut : {X : Type 0} (image : X → Image) (size : ℕ) (said lines : List Line) (result : Result X AsmFault)
    → said ≡ lines → is_core_size size ≡ true → IfOk result (λ value. image value ≡ image_of size said)
    → OnOk result (first_outside size said ≡ None)
    → IfOk result (λ value. IsCutOf (placed_cells lines) (image value).segments)
made_cut {X} image size said lines (Ok value) same size_is is inside =
    subst (λ (of : List Line). IsCutOf (placed_cells of) (image value).segments) same
    (subst (λ (made : Image). IsCutOf (placed_cells said) made.segments) (sym is) (image_cut size said size_is inside))
made_cut {X} image size said lines (Err fault) same size_is is inside = tt

-- so is the image with its listing the answer
pub made_whole : (language : Language) (size : ℕ) (source : List ℕ) (lines : List Line)
    (result : Result Assembly AsmFault) → lines ≡ lines_in language source → first_fault language lines ≡ None
    → IfOk result (λ assembly. assembly ≡ assembly_with size lines source)
    → OnOk result (first_outside size lines ≡ None)
    → IfErr result (λ fault. IsMemory fault
    ⊎ ((first_outside size lines ≡ Some fault) × IsFirstOutside size lines fault))
    → Gives (λ assembly. assembly) result (assembly_in language size source)
made_whole language size source lines (Ok assembly) same none is inside outside =
    assembled language size source lines assembly same none inside is
made_whole language size source lines (Err fault) same none is inside outside =
    not_assembled language size source lines fault same none outside

-- a fault of what is made is one of the lines
pub made_fault : {X : Type 0} (language : Language) (size : ℕ) (said lines : List Line) (result : Result X AsmFault)
    → said ≡ lines → IsFaultless (declared_at language lines) lines
    → IfErr result (λ fault. IsMemory fault ⊎ ((first_outside size said ≡ Some fault) × IsFirstOutside size said fault))
    → IfErr result (λ fault. IsMemory fault ⊎ IsFaultOf language size lines fault)
made_fault {X} language size said lines (Ok value) same clean outside = tt
made_fault {X} language size said lines (Err fault) same clean outside =
    fault_of_placed language size said lines fault same clean outside

-- what holds anyway holds of what is made
pub on_made : {X P : Type 0} (result : Result X AsmFault) → P → OnOk result P
on_made {X} {P} (Ok value) holds = holds
on_made {X} {P} (Err fault) holds = tt

-- lines from which something is made have an assembly,
pub made_anyway : {X : Type 0} (language : Language) (size : ℕ) (source : List ℕ) (lines : List Line)
    (result : Result X AsmFault) → lines ≡ lines_in language source → first_fault language lines ≡ None
    → OnOk result (first_outside size lines ≡ None)
    → OnOk result (assembly_in language size source ≡ Ok (assembly_of language size source))
made_anyway {X} language size source lines (Ok value) same none inside =
    assembled language size source lines (assembly_with size lines source) same none inside refl
    ∙ ap (λ (of : List Line). Ok (assembly_with size of source)) same
made_anyway {X} language size source lines (Err fault) same none inside = tt

-- and others the fault that is reported
pub made_err : {X : Type 0} (language : Language) (size : ℕ) (source : List ℕ) (lines : List Line)
    (result : Result X AsmFault) → lines ≡ lines_in language source → first_fault language lines ≡ None
    → IfErr result (λ fault. IsMemory fault
    ⊎ ((first_outside size lines ≡ Some fault) × IsFirstOutside size lines fault))
    → IfErr result (λ fault. IsMemory fault ⊎ (assembly_in language size source ≡ Err fault))
made_err {X} language size source lines (Ok value) same none outside = tt
made_err {X} language size source lines (Err fault) same none outside =
    not_assembled language size source lines fault same none outside
