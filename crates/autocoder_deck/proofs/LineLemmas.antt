-- A line that is a mnemonic and its operands.
use Rattle.std.proofs.Common.{◌≡◌, ℕ, zero, suc, ◌+◌, ◌-◌, ◌≤◌, nat_lt, Bool, true, false, not, List, []}
use Rattle.std.proofs.Common.{◌∷◌, ◌++◌, length}
use Rattle.std.proofs.Common.{take, drop, replicate, Some, refl, ap, ◌∙◌, arith}
use Rattle.std.specs.Prelude.{◌||◌}
use Rattle.std.specs.List.{list_all}
use Rattle.std.proofs.lemmas.List.{take_all, take-replicate, drop-replicate}
use Rattle.std.proofs.lemmas.Bool.Decides.{nat_tests}
use Rattle.std.proofs.Math.Seq.{take-append-add, drop-append-add}
use Rattle.std.proofs.lemmas.List.Folds.{list_all-append}
use Rattle.bcd_1401.specs.Graphic.{graphics}
use Rattle.autocoder_statements.specs.SourceLine.{columns_of, columns_in, is_blank, is_graphic, is_printable}
use Rattle.autocoder_statements.specs.SourceLine.{is_comment}
use Rattle.autocoder_statements.specs.SourceLine.{has_foreign_bytes}
use Rattle.autocoder_statements.specs.Mnemonic.{instruction_of}
use Rattle.autocoder_statements.specs.Operands.{operands_of}
use Rattle.autocoder_statements.specs.Statement.{line_of, line_with, statement_of, body_of}
use Rattle.autocoder_statements.specs.declared.mnemonic.Instruction.{Instruction}
use Rattle.autocoder_statements.specs.declared.label.LabelField.TheVariants as labels
use Rattle.autocoder_statements.specs.declared.operands.Operands.{Operands}
use Rattle.autocoder_statements.specs.declared.statement.Body.TheVariants as bodies
use Rattle.autocoder_statements.specs.declared.statement.LineCheck.TheVariants as bytes
use Rattle.autocoder_statements.specs.declared.statement.Statement.{Statement}
use Rattle.autocoder_statements.specs.declared.language.Language.TheVariants.{Plain}

-- the columns 21 to 80
abbrev rest_of : List ℕ → List ℕ
rest_of operands = operands ++ replicate (60 - length operands) 32

-- the 80 columns of a line without a label
abbrev columns_with : ℕ → ℕ → ℕ → ℕ → ℕ → List ℕ → List ℕ
columns_with a b c d e rest = replicate 15 32 ++ a ∷ b ∷ c ∷ d ∷ e ∷ rest

columns_again : (a b c d e : ℕ) (operands : List ℕ) → length operands ≤ 50
    → columns_of (columns_with a b c d e operands) ≡ columns_with a b c d e (rest_of operands)
unfolding columns_of
columns_again a b c d e operands few =
    let whole : take 60 operands ≡ operands = take_all 60 operands (omega (arith, few)) in
    let left : 80 - length (columns_with a b c d e operands) ≡ 60 - length operands = omega arith in
    rw whole (ap (λ (n : ℕ). columns_with a b c d e (operands ++ replicate n 32)) left)

-- the columns 21 to 72, and those after them
operands_columns : (operands : List ℕ) → length operands ≤ 50
    → take 52 (rest_of operands) ≡ operands ++ 32 ∷ replicate (51 - length operands) 32
operands_columns operands few =
    let n : 52 ≡ length operands + (52 - length operands) = omega (arith, few) in
    let one : 52 - length operands ≡ suc (51 - length operands) = omega (arith, few) in
    ap (λ (n : ℕ). take n (rest_of operands)) n
    ∙ take-append-add operands (replicate (60 - length operands) 32) (52 - length operands)
    ∙ ap (λ (blanks : List ℕ). operands ++ blanks)
    (take-replicate (52 - length operands) (60 - length operands) 32 (omega (arith, few))
    ∙ ap (λ (n : ℕ). replicate n 32) one)

last_columns : (operands : List ℕ) → length operands ≤ 50 → drop 52 (rest_of operands) ≡ replicate 8 32
last_columns operands few =
    let n : 52 ≡ length operands + (52 - length operands) = omega (arith, few) in
    let eight : 60 - length operands - (52 - length operands) ≡ 8 = omega (arith, few) in
    ap (λ (n : ℕ). drop n (rest_of operands)) n
    ∙ drop-append-add operands (replicate (60 - length operands) 32) (52 - length operands)
    ∙ drop-replicate (52 - length operands) (60 - length operands) 32
    ∙ ap (λ (n : ℕ). replicate n 32) eight

line_by : (len : ℕ) (columns : List ℕ) (statement : Statement) → nat_lt 80 len ≡ false
    → has_foreign_bytes columns ≡ false → is_comment columns ≡ false → statement_of columns ≡ statement
    → line_with len columns ≡ record { bytes = bytes.Good; statement = Some statement }
line_by len columns statement short good plain says = rw (short, good, plain, says) refl

no_comment : (a b c d e : ℕ) (rest : List ℕ) → is_blank a ≡ false
    → is_comment (columns_with a b c d e rest) ≡ false
no_comment a b c d e rest h = rw h refl

blanks_show : (n : ℕ) → list_all is_graphic (replicate n 32) ≡ true
unfolding graphics
blanks_show zero = refl
blanks_show (suc n) = blanks_show n

blank_shows : (rest : List ℕ) → list_all is_graphic rest ≡ true → list_all is_graphic (32 ∷ rest) ≡ true
unfolding graphics
blank_shows rest h = h

both_show : (front back : List ℕ) → list_all is_graphic front ≡ true → list_all is_graphic back ≡ true
    → list_all is_graphic (front ++ back) ≡ true
both_show front back f b = list_all-append is_graphic front back ∙ rw (f, b) refl

-- the columns 6 to 72
middle_shows : (a b c d e : ℕ) (operands : List ℕ) → length operands ≤ 50
    → list_all is_graphic (a ∷ b ∷ c ∷ d ∷ e ∷ []) ≡ true → list_all is_graphic operands ≡ true
    → list_all is_graphic (columns_in 6 72 (columns_with a b c d e (rest_of operands))) ≡ true
middle_shows a b c d e operands few columns shown =
    ap (λ (rest : List ℕ). list_all is_graphic (replicate 10 32 ++ a ∷ b ∷ c ∷ d ∷ e ∷ rest))
    (operands_columns operands few)
    ∙ both_show (replicate 10 32) (a ∷ b ∷ c ∷ d ∷ e ∷ (operands ++ 32 ∷ replicate (51 - length operands) 32))
    (blanks_show 10)
    (both_show (a ∷ b ∷ c ∷ d ∷ e ∷ []) (operands ++ 32 ∷ replicate (51 - length operands) 32) columns
    (both_show operands (32 ∷ replicate (51 - length operands) 32) shown
    (blank_shows (replicate (51 - length operands) 32) (blanks_show (51 - length operands)))))

last_print : (operands : List ℕ) → length operands ≤ 50
    → list_all is_printable (take 8 (drop 52 (rest_of operands))) ≡ true
last_print operands few = rw (last_columns operands few) refl

foreign_by : (first middle last : Bool) → first ≡ true → middle ≡ true → last ≡ true
    → (not first || not middle || not last) ≡ false
foreign_by first middle last f m l = rw (f, m, l) refl

no_foreign_bytes : (a b c d e : ℕ) (operands : List ℕ) → length operands ≤ 50 → is_blank a ≡ false
    → list_all is_graphic (a ∷ b ∷ c ∷ d ∷ e ∷ []) ≡ true → list_all is_graphic operands ≡ true
    → has_foreign_bytes (columns_with a b c d e (rest_of operands)) ≡ false
no_foreign_bytes a b c d e operands few h columns shown =
    rw (no_comment a b c d e (rest_of operands) h)
    (foreign_by (list_all is_printable (columns_in 1 5 (columns_with a b c d e (rest_of operands))))
    (list_all is_graphic (columns_in 6 72 (columns_with a b c d e (rest_of operands))))
    (list_all is_printable (columns_in 73 80 (columns_with a b c d e (rest_of operands)))) refl
    (middle_shows a b c d e operands few columns shown) (last_print operands few))

body_again : (columns operands : List ℕ) (instruction : Instruction) → instruction_of columns ≡ Some instruction
    → body_of columns operands ≡ bodies.Instruction instruction (operands_of Plain instruction.form operands)
body_again columns operands instruction is = rw is refl

-- what a line says that is a mnemonic and its operands
pub line_again : (a b c d e : ℕ) (operands : List ℕ) (instruction : Instruction) (of : Operands)
    → length operands ≤ 50
    → is_blank a ≡ false → list_all is_graphic (a ∷ b ∷ c ∷ d ∷ e ∷ []) ≡ true → list_all is_graphic operands ≡ true
    → instruction_of (a ∷ b ∷ c ∷ d ∷ e ∷ []) ≡ Some instruction
    → operands_of Plain instruction.form (operands ++ 32 ∷ replicate (51 - length operands) 32) ≡ of
    → line_of (columns_with a b c d e operands)
    ≡ record {
      bytes = bytes.Good;
      statement = Some (record { label = labels.Absent; body = bodies.Instruction instruction of });
    }
line_again a b c d e operands instruction of few h columns shown is read =
    let short : nat_lt 80 (length (columns_with a b c d e operands)) ≡ false = grind (arith, nat_tests, few) in
    ap (line_with (length (columns_with a b c d e operands))) (columns_again a b c d e operands few)
    ∙ line_by (length (columns_with a b c d e operands)) (columns_with a b c d e (rest_of operands))
    (record { label = labels.Absent; body = bodies.Instruction instruction of }) short
    (no_foreign_bytes a b c d e operands few h columns shown) (no_comment a b c d e (rest_of operands) h)
    (ap (λ body. record { label = labels.Absent; body = body })
    (body_again (a ∷ b ∷ c ∷ d ∷ e ∷ []) (take 52 (rest_of operands)) instruction is
    ∙ ap (λ (columns : List ℕ). bodies.Instruction instruction (operands_of Plain instruction.form columns))
    (operands_columns operands few)
    ∙ ap (bodies.Instruction instruction) read))
