-- What is noted of a source's lines, without where it lies in memory.
use Rattle.indexmap.specs.IndexSet.{contains}
use Rattle.autocoder_symbols.specs.Symbols.{same_label}
use Rattle.autocoder_diagnostics.specs.Notes.{Known}
use Rattle.autocoder_diagnostics.specs.declared.notes.Notes.{Notes}

abbrev pub known_of : Notes → Known
known_of this =
    record {
      is_named = contains same_label this.named;
      is_number = contains same_label this.numbers;
      is_signed = contains same_label this.signed;
      compares = this.compares;
      adds = this.adds;
    }
