-- Addresses and fields (own): a number, a label, a line of the source or a register, with adjustments.
use Rattle.std.specs.Prelude.{ℕ, ◌+◌, ◌==◌, Bool, false, if◌then◌else◌, List, [], ◌∷◌}
use Rattle.std.specs.Prelude.{length, take, drop, Option, None, Some, codes}
use Rattle.std.specs.List.{position_or_len, list_all}
use Rattle.std.specs.Option.{option_map}
use Rattle.std.specs.Str.{bytes_eq}
use Rattle.bcd_1401.specs.Digits.{is_digit}
use Rattle.operate_orders.specs.Kind.{plus, is_sign, is_letter, is_of}
use Rattle.operate_orders.specs.Parts.{first_of, before_byte, from_byte, numeral_in}
use Rattle.operate_orders.specs.Text.{kept}
use Rattle.operate_orders.specs.declared.parts.Kind.TheVariants.{LetterOrDigit}
use Rattle.operate_orders.specs.declared.places.IndexRegister.{IndexRegister}
use Rattle.operate_orders.specs.declared.places.IndexRegister.TheVariants.{X1, X2, X3}
use Rattle.operate_orders.specs.declared.places.Register.{Register}
use Rattle.operate_orders.specs.declared.places.Register.TheVariants.{I, A, B}
use Rattle.operate_orders.specs.declared.places.Base.{Base}
use Rattle.operate_orders.specs.declared.places.Base.TheVariants.{Number, Label, Line, Index, Held}
use Rattle.operate_orders.specs.declared.places.Adjustment.{Adjustment}
use Rattle.operate_orders.specs.declared.places.Adjustment.TheVariants.{Plus, Minus, Indexed}
use Rattle.operate_orders.specs.declared.places.Place.{Place}

infixl 10 ◌>>=◌
-- what is on the left, and if it is there, what follows it
abbrev ◌>>=◌ : {X Y : Type 0} → Option X → (X → Option Y) → Option Y
None >>= beyond = None
Some x >>= beyond = beyond x

-- the signs and brackets of an address
abbrev pub colon : ℕ
colon = 58

abbrev pub dollar : ℕ
dollar = 36

abbrev pub left_parenthesis : ℕ
left_parenthesis = 40

abbrev pub right_parenthesis : ℕ
right_parenthesis = 41

-- a name is a letter, and then letters and digits
unfoldable pub is_name : List ℕ → Bool
is_name text = if is_letter (first_of text) then list_all (is_of LetterOrDigit) text else false

unfoldable pub index_named : List ℕ → Option IndexRegister
index_named text =
    if bytes_eq text (codes "X1") then Some X1
    else (if bytes_eq text (codes "X2") then Some X2
    else (if bytes_eq text (codes "X3") then Some X3 else None))

unfoldable pub register_named : List ℕ → Option Register
register_named text =
    if bytes_eq text (codes "I") then Some I
    else (if bytes_eq text (codes "A") then Some A
    else (if bytes_eq text (codes "B") then Some B else None))

-- a label is a name
unfoldable pub label_in : List ℕ → Option Base
label_in text = if is_name text then Some (Label (kept text)) else None

-- an index register, or else a label
abbrev index_or_label : List ℕ → Option IndexRegister → Option Base
index_or_label text (Some register) = Some (Index register)
index_or_label text None = label_in text

unfoldable pub named : List ℕ → Option Base
named text = index_or_label text (index_named text)

-- what is in parentheses is a label, though a word or a register has its name
unfoldable pub in_parentheses : List ℕ → Option Base
in_parentheses text =
    if bytes_eq (from_byte right_parenthesis text) (codes ")") then label_in (before_byte right_parenthesis text)
    else None

abbrev pub number_base : List ℕ → Option Base
number_base text = option_map Number (numeral_in text)

abbrev pub line_base : List ℕ → Option Base
line_base text = option_map Line (numeral_in text)

abbrev pub held_base : List ℕ → Option Base
held_base text = option_map Held (register_named text)

-- 400, :8, $I, (PAPER), X1 or TOTAL
unfoldable pub base_in : List ℕ → Option Base
base_in text =
    if is_digit (first_of text) then number_base text
    else (if first_of text == colon then line_base (drop 1 text)
    else (if first_of text == dollar then held_base (drop 1 text)
    else (if first_of text == left_parenthesis then in_parentheses (drop 1 text) else named text)))

-- an adjustment begins with a sign, and ends before the next
abbrev pub adjustment_len : List ℕ → ℕ
adjustment_len text = if length text == 0 then 0 else 1 + position_or_len is_sign (drop 1 text)

unfoldable pub adjustment_in : List ℕ → List ℕ
adjustment_in text = take (adjustment_len text) text

unfoldable pub beyond_adjustment : List ℕ → List ℕ
beyond_adjustment text = drop (adjustment_len text) text

-- after a plus an index register or a number, after a minus a number
abbrev index_or_number : List ℕ → Option IndexRegister → Option (Option Adjustment)
index_or_number term (Some register) = Some (Some (Indexed register))
index_or_number term None = option_map (λ number. Some (Plus number)) (numeral_in term)

unfoldable pub added : List ℕ → Option (Option Adjustment)
added term = index_or_number term (index_named term)

unfoldable pub subtracted : List ℕ → Option (Option Adjustment)
subtracted term = option_map (λ number. Some (Minus number)) (numeral_in term)

-- a text without a byte has no adjustment; else it begins with a sign
unfoldable pub adjustment_of : List ℕ → Option (Option Adjustment)
adjustment_of text =
    if length text == 0 then Some None
    else (if first_of text == plus then added (drop 1 text) else subtracted (drop 1 text))

-- up to three adjustments, and nothing after them
unfoldable pub adjustments_in : List ℕ → Option (List (Option Adjustment))
adjustments_in text = do
  first ← adjustment_of (adjustment_in text)
  second ← adjustment_of (adjustment_in (beyond_adjustment text))
  third ← adjustment_of (adjustment_in (beyond_adjustment (beyond_adjustment text)))
  if length (beyond_adjustment (beyond_adjustment (beyond_adjustment text))) == 0
      then Some (first ∷ second ∷ third ∷ []) else None

-- the place that a word is, in capitals: up to the first sign it says where it begins
unfoldable pub place_in : List ℕ → Option Place
place_in word = do
  base ← base_in (take (position_or_len is_sign word) word)
  adjustments ← adjustments_in (drop (position_or_len is_sign word) word)
  Some (record { base = base; adjustments = adjustments })
