-- What the plain language takes means the same in each language.
use Rattle.std.proofs.Common.{◌≡◌, ℕ, Bool, true, false, not, ◌&&◌, List, [], ◌∷◌, Option, None, Some, refl, sym, ap}
use Rattle.std.proofs.Common.{◌∙◌}
use Rattle.std.specs.Prelude.{is_none, is_some}
use Rattle.std.proofs.lemmas.Bool.{or_parts, not-false, true≢false}
use Rattle.std.specs.List.{list_all}
use Rattle.autocoder_statements.specs.Description.{describe, is_of_field}
use Rattle.autocoder_statements.specs.Language.{cuts_no_text, is_sound, is_sound_statement}
use Rattle.autocoder_statements.specs.SourceLine.{lines_of}
use Rattle.autocoder_statements.specs.Statement.{has_bad_label, has_bad_operands, is_unlabelled, lacks_field_label}
use Rattle.autocoder_statements.specs.declared.language.Language.{Language}
use Rattle.autocoder_statements.specs.declared.language.Language.TheVariants.{Plain, Ibm}
use Rattle.autocoder_statements.specs.declared.statement.Body.{Body}
use Rattle.autocoder_statements.specs.declared.statement.Body.TheVariants as bodies
use Rattle.autocoder_statements.specs.declared.statement.Line.{Line}
use Rattle.autocoder_statements.specs.declared.statement.LineCheck.{LineCheck}
use Rattle.autocoder_statements.specs.declared.statement.LineCheck.TheVariants as bytes
use Rattle.autocoder_statements.specs.declared.statement.Statement.{Statement}
use Rattle.autocoder_statements.proofs.ContextLemmas.{sound_lines_said}
use Rattle.autocoder_symbols.specs.Reading.{lines_in}
use Rattle.autocoder_symbols.specs.Known.{Declared, declared_at}
use Rattle.autocoder_symbols.specs.declared.fault.AsmKind.{AsmKind}
use Rattle.autocoder_symbols.specs.declared.fault.AsmKind.TheVariants as kinds
use Rattle.autocoder_diagnostics.specs.FirstFault.{bad_label, bad_operation, bad_operands, is_field, lowest, or_beyond}
use Rattle.autocoder_diagnostics.specs.FirstFault.{place_beyond, first_place, first_fault_from, first_fault, IsClean}
use Rattle.autocoder_diagnostics.specs.declared.first_fault.LineContext.{LineContext}
use Rattle.autocoder_diagnostics.proofs.ChainsLemmas.{clean_in_wider}
use Rattle.autocoder_diagnostics.proofs.LowestLemmas.{clean_line}

all_four : (bad_label lacks_label known bad_operands : Bool) → bad_label ≡ false → lacks_label ≡ false → known ≡ true
    → bad_operands ≡ false → (not bad_label && not lacks_label && known && not bad_operands) ≡ true
all_four bad_label lacks_label known bad_operands label lacks operation operands =
    rw (label, lacks, operation, operands) refl

-- what needs a label under areas is a field of them
undivided : (body : Body) → is_field (describe body).areas ≡ false → is_of_field (describe body).label ≡ false
undivided bodies.Unknown e = refl
undivided (bodies.Instruction instruction of) e = refl
undivided (bodies.MarkedConstant constant) e = refl
undivided (bodies.Constant constant) e = refl
undivided (bodies.Space places) e = refl
undivided (bodies.Areas made) e = refl
undivided (bodies.Field None) e = absurd (true≢false e)
undivided (bodies.Field (Some span)) e = absurd (true≢false e)
undivided (bodies.Equate of) e = refl
undivided (bodies.Origin of) e = refl
undivided (bodies.Execute of) e = refl
undivided (bodies.End of) e = refl
undivided (bodies.Heading is_well_formed) e = refl
undivided (bodies.Control size) e = refl
undivided bodies.SecondControl e = refl
undivided (bodies.Suffix suffix) e = refl
undivided (bodies.Transfer of) e = refl
undivided (bodies.Chain chain) e = refl
undivided (bodies.AddressConstant constant) e = refl
undivided (bodies.Blanks places) e = refl
undivided (bodies.PlacedConstant placed) e = refl
undivided (bodies.LabelledOrigin of) e = refl
undivided (bodies.LiteralOrigin of) e = refl
undivided (bodies.WideField None) e = refl
undivided (bodies.WideField (Some span)) e = refl
undivided (bodies.WideEquate of) e = refl
undivided (bodies.WideExecute of) e = refl
undivided (bodies.WideEnd of) e = refl

-- a field of areas that has a label as it needs one, or no areas and so no field
has_label_needed : (areas : Option ℕ) (unlabelled of_field field : Bool) → (field ≡ false → of_field ≡ false)
    → ((unlabelled && of_field) && is_some areas) ≡ false → (field && is_none areas) ≡ false
    → (unlabelled && of_field) ≡ false
has_label_needed areas false of_field field undivided label operation = refl
has_label_needed areas true false field undivided label operation = refl
has_label_needed (Some length) true true field undivided label operation = label
has_label_needed None true true true undivided label operation = operation
has_label_needed None true true false undivided label operation = undivided refl

-- a statement without a fault has none by itself
sound_statement : (declared : Declared) (at : LineContext) (this : Statement)
    → IsClean declared at (record { bytes = bytes.Good; statement = Some this }) → is_sound_statement (Some this) ≡ true
sound_statement declared at this clean = by at.is_ended refl
  where
    by : (ended : Bool) → at.is_ended ≡ ended → is_sound_statement (Some this) ≡ true
    by true e = absurd (true≢false (sym (ap (λ ended. ended && true) e) ∙ clean kinds.AfterEnd))
    by false e =
        let label : bad_label at.areas this ≡ false =
        sym (ap (λ ended. not ended && bad_label at.areas this) e) ∙ clean kinds.Label in
        let operation : bad_operation at.areas this.body ≡ false =
        sym (ap (λ ended. not ended && bad_operation at.areas this.body) e) ∙ clean kinds.Operation in
        let operands : bad_operands at.areas this.body ≡ false =
        sym (ap (λ ended. not ended && bad_operands at.areas this.body) e) ∙ clean kinds.Operand in
        all_four (has_bad_label this) (lacks_field_label this) (describe this.body).is_known (has_bad_operands this.body)
        (or_parts (has_bad_label this) _ label).0
        (has_label_needed at.areas (is_unlabelled this.label) (is_of_field (describe this.body).label)
        (is_field (describe this.body).areas) (undivided this.body) (or_parts (has_bad_label this) _ label).1
        (or_parts (not (describe this.body).is_known) _ operation).1)
        (not-false (describe this.body).is_known (or_parts (not (describe this.body).is_known) _ operation).0)
        (or_parts (has_bad_operands this.body) _ operands).0

sound_by : (declared : Declared) (at : LineContext) (check : LineCheck) (statement : Option Statement)
    → IsClean declared at (record { bytes = check; statement = statement })
    → is_sound (record { bytes = check; statement = statement }) ≡ true
sound_by declared at bytes.Long statement clean = absurd (true≢false (clean kinds.LongLine))
sound_by declared at bytes.Foreign statement clean = absurd (true≢false (clean kinds.Graphic))
sound_by declared at bytes.Good None clean = refl
sound_by declared at bytes.Good (Some this) clean = sound_statement declared at this clean

-- a source without a fault has only sound lines
pub all_sound : (declared : Declared) (at : LineContext) (lines : List Line) → first_fault_from declared at lines ≡ None
    → list_all is_sound lines ≡ true
all_sound declared at [] none = refl
all_sound declared at (line ∷ lines) none =
    by (lowest declared at line) refl none (all_sound declared (place_beyond at line) lines)
  where
    by : (kind : Option AsmKind) → lowest declared at line ≡ kind
        → or_beyond at.number kind (first_fault_from declared (place_beyond at line) lines) ≡ None
        → (first_fault_from declared (place_beyond at line) lines ≡ None → list_all is_sound lines ≡ true)
        → list_all is_sound (line ∷ lines) ≡ true
    by None e beyond rest =
        rw (sound_by declared at line.bytes line.statement (clean_line declared at line None (sym e))) (rest beyond)
    by (Some kind) e beyond rest = cc

-- a source in which the plain language finds no fault, and in which it cuts no text, says the same in each language
pub lines_alike : (language : Language) (source : List ℕ) → first_fault Plain (lines_in Plain source) ≡ None
    → cuts_no_text source ≡ true → lines_in language source ≡ lines_in Plain source
lines_alike Plain source none uncut = refl
lines_alike Ibm source none uncut =
    sound_lines_said (lines_of source)
    (all_sound (declared_at Plain (lines_in Plain source)) first_place (lines_in Plain source) none) uncut

-- what the plain language takes has no fault in each language
pub clean_in_each : (language : Language) (lines : List Line) → first_fault Plain lines ≡ None
    → first_fault language lines ≡ None
clean_in_each Plain lines none = none
clean_in_each Ibm lines none = clean_in_wider lines none
