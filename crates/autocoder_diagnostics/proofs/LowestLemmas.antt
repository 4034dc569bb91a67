-- The lowest kind of a line's faults: what is answered is one, and none is lower.
use Rattle.std.proofs.Common.{◌≡◌, ℕ, ◌<◌, ◌⊎◌, Bool, true, false, cond, List, [], ◌∷◌, Option, Some, None, IfNone}
use Rattle.std.proofs.Common.{IfSome, refl, sym, ap, ◌∙◌, inl, inr, arith}
use Rattle.autocoder_statements.specs.declared.statement.Line.{Line}
use Rattle.autocoder_symbols.specs.Fault.{rank}
use Rattle.autocoder_symbols.specs.Known.{Declared}
use Rattle.autocoder_symbols.specs.declared.fault.AsmKind.{AsmKind}
use Rattle.autocoder_symbols.specs.declared.fault.AsmKind.TheVariants as kinds
use Rattle.autocoder_diagnostics.specs.FirstFault.{has_fault, first_of, scanned, lowest, IsClean, IsLowest}
use Rattle.autocoder_diagnostics.specs.declared.first_fault.LineContext.{LineContext}

-- a kind is in a list
abbrev Stands : AsmKind → List AsmKind → Type 0
Stands kind [] = ⊥
Stands kind (first ∷ kinds) = (kind ≡ first) ⊎ Stands kind kinds

-- the kinds of a list ascend, all above a rank
abbrev Ascends : ℕ → List AsmKind → Type 0
Ascends n [] = Unit {0}
Ascends n (first ∷ kinds) = (n < rank first) × Ascends (rank first) kinds

above : (n : ℕ) (kinds : List AsmKind) (kind : AsmKind) → Ascends n kinds → Stands kind kinds → n < rank kind
above n [] kind ascends stands = absurd stands
above n (first ∷ kinds) kind ascends stands =
    elim stands [
      | inl same ↦ (let ranks : rank kind ≡ rank first = ap rank same in let low = ascends.0 in omega arith)
      | inr beyond ↦ (let low = ascends.0 in let high = above (rank first) kinds kind ascends.1 beyond in omega arith)
    ]

pub found : (test : AsmKind → Bool) (kinds : List AsmKind) (kind : AsmKind) → first_of test kinds ≡ Some kind
    → test kind ≡ true
found test [] kind e = cc
found test (first ∷ kinds) kind e = by (test first) refl e (found test kinds kind)
  where
    by : (b : Bool) → test first ≡ b → cond b (Some first) (first_of test kinds) ≡ Some kind
        → (first_of test kinds ≡ Some kind → test kind ≡ true) → test kind ≡ true
    by true passes e rest = let same : first ≡ kind = cc in ap test (sym same) ∙ passes
    by false fails e rest = rest e

passed : (test : AsmKind → Bool) (n : ℕ) (kinds : List AsmKind) (kind lower : AsmKind) → first_of test kinds ≡ Some kind
    → Ascends n kinds → Stands lower kinds
    → rank lower < rank kind → test lower ≡ false
passed test n [] kind lower e ascends stands h = absurd stands
passed test n (first ∷ kinds) kind lower e ascends stands h =
    by (test first) refl e (λ e beyond. passed test (rank first) kinds kind lower e ascends.1 beyond h)
  where
    by : (b : Bool) → test first ≡ b → cond b (Some first) (first_of test kinds) ≡ Some kind
        → (first_of test kinds ≡ Some kind → Stands lower kinds → test lower ≡ false) → test lower ≡ false
    by true passes e rest =
        let same : first ≡ kind = cc in
        let ranks : rank first ≡ rank kind = ap rank same in
        elim stands [
          | inl here ↦ (let equal : rank lower ≡ rank first = ap rank here in absurd (omega arith))
          | inr beyond ↦ (let high = above (rank first) kinds lower ascends.1 beyond in absurd (omega arith))
        ]
    by false fails e rest = elim stands [ inl here ↦ ap test here ∙ fails | inr beyond ↦ rest e beyond ]

none_passes : (test : AsmKind → Bool) (kinds : List AsmKind) (kind : AsmKind) → first_of test kinds ≡ None
    → Stands kind kinds → test kind ≡ false
none_passes test [] kind e stands = absurd stands
none_passes test (first ∷ kinds) kind e stands = by (test first) refl e (none_passes test kinds kind)
  where
    by : (b : Bool) → test first ≡ b → cond b (Some first) (first_of test kinds) ≡ None
        → (first_of test kinds ≡ None → Stands kind kinds → test kind ≡ false) → test kind ≡ false
    by true passes e rest = cc
    by false fails e rest = elim stands [ inl here ↦ ap test here ∙ fails | inr beyond ↦ rest e beyond ]

-- a kind is one that lines are looked at for, or no line has it
either : (declared : Declared) (at : LineContext) (line : Line) (kind : AsmKind)
    → (has_fault declared at line kind ≡ false)
    ⊎ Stands kind scanned
either declared at line kinds.Memory = inl refl
either declared at line kinds.OutOfCore = inl refl
either declared at line kinds.NoEnd = inl refl
either declared at line kinds.LongLine = inr (inl refl)
either declared at line kinds.Graphic = inr (inr (inl refl))
either declared at line kinds.Label = inr (inr (inr (inl refl)))
either declared at line kinds.DoubleLabel = inr (inr (inr (inr (inl refl))))
either declared at line kinds.Operation = inr (inr (inr (inr (inr (inl refl)))))
either declared at line kinds.Undefined = inr (inr (inr (inr (inr (inr (inl refl))))))
either declared at line kinds.Operand = inr (inr (inr (inr (inr (inr (inr (inl refl)))))))
either declared at line kinds.AfterEnd = inr (inr (inr (inr (inr (inr (inr (inr (inl refl))))))))

ascend : Ascends 1 scanned
ascend = (
  omega arith,
  (omega arith, (omega arith, (omega arith, (omega arith, (omega arith, (omega arith, (omega arith, tt))))))),
)

-- a line without a kind that it is looked at for is clean
pub clean_line : (declared : Declared) (at : LineContext) (line : Line) (kind : Option AsmKind) → kind
    ≡ lowest declared at line → IfNone kind (IsClean declared at line)
clean_line declared at line None e =
    λ kind. elim (either declared at line kind) [
      | inl never ↦ never
      | inr stands ↦ none_passes
          (has_fault declared at line) scanned kind (sym e) stands
    ]
clean_line declared at line (Some kind) e = tt

-- the first kind that it has is its lowest
pub lowest_line : (declared : Declared) (at : LineContext) (line : Line) (kind : Option AsmKind) → kind
    ≡ lowest declared at line → IfSome kind (λ k. IsLowest declared at line k)
lowest_line declared at line None e = tt
lowest_line declared at line (Some kind) e = (
  found (has_fault declared at line) scanned kind (sym e),
  λ lower h. elim (either declared at line lower) [
    | inl never ↦ never
    | inr stands ↦ passed
        (has_fault declared at line) 1 scanned kind lower (sym e) ascend stands h
  ],
)
