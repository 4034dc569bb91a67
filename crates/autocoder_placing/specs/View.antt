-- What the code holds of what is placed, without where it lies in memory.
use Rattle.std.specs.Prelude.{map}
use Rattle.autocoder_symbols.specs.View.{chains_view}
use Rattle.autocoder_placing.specs.Literals.{key_of}
use Rattle.autocoder_placing.specs.Placement.{Placement}
use Rattle.autocoder_placing.specs.declared.placing.Placing.{Placing}

abbrev pub places_of : Placing → Placement
places_of this =
    record {
      chains = chains_view this.chains.now;
      next = this.next;
      highest = this.highest;
      areas = this.areas;
      fields_from = this.fields_from;
      fields_index = this.fields_index;
      first_instruction = this.first_instruction;
      before_end = this.before_end;
      values = this.values;
      literals = map key_of this.literals.spellings;
      spellings = this.literals.spellings;
      addresses = this.literals.addresses;
    }
