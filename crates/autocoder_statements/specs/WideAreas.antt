-- The options of DA, and fields of areas (Autocoder, "Define Area", C24-3258 and J24-1434; that C changes nothing own).
use Rattle.std.specs.Prelude.{ℕ, ◌-◌, ◌==◌, nat_le, true, false, not, ◌&&◌, if◌then◌else◌, List, [], ◌∷◌, Option, None}
use Rattle.std.specs.Prelude.{Some}
use Rattle.std.specs.Option.{option_map, option_and_then, option_or}
use Rattle.std.specs.Str.{byte}
use Rattle.autocoder_statements.specs.Numbers.{number_between}
use Rattle.autocoder_statements.specs.Operands.{beyond_operand, lone_operand, operand_in}
use Rattle.autocoder_statements.specs.Punctuation.{blank, comma, letter_x}
use Rattle.autocoder_statements.specs.Statement.{areas_of, span_of}
use Rattle.autocoder_statements.specs.declared.statement.Areas.{Areas}
use Rattle.autocoder_statements.specs.declared.statement.Span.{Span}
use Rattle.autocoder_statements.specs.declared.wide_areas.AreaOptions.{AreaOptions}

abbrev pub no_options : AreaOptions
no_options =
    record {
      has_group_mark = false;
      has_record_marks = false;
      is_cleared = false;
      index = 0;
      counts_from_zero = false;
    }

-- these options and that of a letter, a record mark or a zero, if it isn't among them
abbrev pub option_and : AreaOptions → ℕ → Option AreaOptions
option_and these letter =
    if (letter == byte "G") && not these.has_group_mark then Some (record these { has_group_mark = true })
    else if (letter == byte "'") && not these.has_record_marks then Some (record these { has_record_marks = true })
    else if (letter == byte "C") && not these.is_cleared then Some (record these { is_cleared = true })
    else if (letter == byte "0") && not these.counts_from_zero then Some (record these { counts_from_zero = true })
    else None

-- these options and X1, X2 or X3, by its digit, if none of them is among them
abbrev pub register_and : AreaOptions → ℕ → Option AreaOptions
register_and these digit =
    if nat_le (byte "1") digit && nat_le digit (byte "3") && (these.index == 0)
    then Some (record these { index = digit - byte "0" })
    else None

-- these options, and those that a text has, each after a comma
abbrev pub options_and : AreaOptions → List ℕ → Option AreaOptions
options_and these [] = Some these
options_and these (parting ∷ []) = if parting == blank then Some these else None
options_and these (parting ∷ letter ∷ []) =
    if parting == blank then Some these else if parting == comma then option_and these letter else None
options_and these (parting ∷ letter ∷ digit ∷ more) =
    if parting == blank then Some these
    else if not (parting == comma) then None
    else if letter == letter_x then option_and_then (λ those. options_and those more) (register_and these digit)
    else option_and_then (λ those. options_and those (digit ∷ more)) (option_and these letter)

-- areas with their options; they are cleared in any case
abbrev pub areas_with : Areas → AreaOptions → Areas
areas_with areas options =
    record areas {
      has_group_mark = options.has_group_mark;
      has_record_marks = options.has_record_marks;
      index = options.index;
      counts_from_zero = options.counts_from_zero;
    }

-- what DA asks for
abbrev pub wide_areas_of : List ℕ → Option Areas
wide_areas_of columns =
    option_and_then
    (λ areas. option_map (areas_with areas) (options_and no_options (beyond_operand columns)))
    (areas_of (operand_in columns))

-- a place by itself sets no mark
abbrev pub place_alone : ℕ → Span
place_alone place = record { first = place; last = place; is_marked = false }

-- the places of a field, or its last alone
abbrev pub wide_span_of : List ℕ → Option Span
wide_span_of columns =
    option_or (span_of columns) (option_map place_alone (number_between 1 999 (lone_operand columns)))
