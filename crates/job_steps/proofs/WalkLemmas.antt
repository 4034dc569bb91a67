-- Core storage compared from its lowest place up, and brought up to date.
use Rattle.std.proofs.Common.{◌≡◌, ℕ, ◌+◌, ◌-◌, ◌<◌, ◌≤◌, suc, true, false, List, ◌∷◌, ◌++◌, length, drop}
use Rattle.std.proofs.Common.{refl, sym, ◌∙◌, ap, subst, arith, inl, inr, append_assoc}
use Rattle.std.proofs.lemmas.Bool.{cases_lt, false≢true}
use Rattle.std.proofs.lemmas.List.{append-nil, drop-drop}
use Rattle.std.proofs.lemmas.List.Concat.{flat_map-cons}
use Rattle.bcd_1401.specs.declared.cell.Cell.{Cell}
use Rattle.core_1401.specs.Storage.{Storage, cell_at}
use Rattle.job_steps.specs.Changes.{Change, IsEndOfChange, IsNextChange, change_at, change_text, changes_from}
use Rattle.job_steps.specs.Changes.{changes_of, changes_on, changes_text, is_changed}
use Rattle.job_steps.proofs.ChangeLemmas.{changed_places, nothing_on, same_places}
use Rattle.job_steps.proofs.PlaceLemmas.{is_same, same_rest, same_storage}

-- the places below an address are up to date, those from it on as they were, and the one there changed
pub record Walked (old before after : Storage) (at : ℕ) : Type 0 where
  pub size : length before ≡ length after
  pub within : at ≤ length after
  pub done : (i : ℕ) → i < at → cell_at before i ≡ cell_at after i
  pub left : drop at before ≡ drop at old
  pub other : at < length after → is_changed (cell_at before at) (cell_at after at) ≡ true

-- places that didn't change lead to the next one that did
up_to : (before after : Storage) (from at : ℕ) → length before ≡ length after → IsNextChange before after from at
    → changes_on from before after ≡ changes_on at before after
up_to before after from at size next =
    let e : from + (at - from) ≡ at = omega (arith, next.least) in
    same_places (at - from) before after from (omega (arith, e, next.most, size)) (omega (arith, e, next.most))
    (λ i least most. next.same i least (omega (arith, most, e)))
    ∙ ap (λ (k : ℕ). changes_on k before after) e

-- at the first change
pub at_first : (before after : Storage) (at : ℕ) → length before ≡ length after → IsNextChange before after 0 at
    → Walked before before after at
at_first before after at size next = record {
  size = size;
  within = next.most;
  done = λ i lt. is_same (cell_at before i) (cell_at after i) (next.same i (omega arith) lt);
  left = refl;
  other = next.other;
}

pub first_text : (text : List ℕ) (before after : Storage) (at : ℕ) → length before ≡ length after
    → IsNextChange before after 0 at
    → text ++ changes_text (changes_on at before after) ≡ text ++ changes_text (changes_of before after)
first_text text before after at size next =
    ap (λ (changes : List Change). text ++ changes_text changes) (sym (up_to before after 0 at size next))

-- a change takes a place at least
pub takes_one : (old before after : Storage) (at end : ℕ) → Walked old before after at → at < length after
    → IsEndOfChange before after at end → at < end
takes_one old before after at end walked lt ended = elim (cases_lt at end) [
  | inl more ↦ more
  | inr none ↦
      let e : end ≡ at = omega (arith, none, ended.least) in
      absurd (false≢true (sym (ended.other (omega (arith, lt, e)))
      ∙ ap (λ (k : ℕ). is_changed (cell_at before k) (cell_at after k)) e ∙ walked.other lt))
]

-- the change, and the changes after it
one_change : (old before after : Storage) (at end : ℕ) → Walked old before after at → at < length after
    → IsEndOfChange before after at end
    → changes_on at before after ≡ change_at at (end - at) before after ∷ changes_on end before after
one_change old before after at end walked lt ended =
    let more = takes_one old before after at end walked lt ended in
    let n = end - (at + 1) in
    let e : at + suc n ≡ end = omega (arith, more) in
    let count : suc n ≡ end - at = omega (arith, more) in
    changed_places n before after at walked.size (omega (arith, e, ended.most))
    (λ i least most. ended.changed i least (omega (arith, most, e)))
    (λ inside. subst (λ (k : ℕ). is_changed (cell_at before k) (cell_at after k) ≡ false) (sym e)
    (ended.other (omega (arith, inside, e))))
    ∙ ap (λ (k : ℕ). change_at at k before after ∷ changes_on (at + suc n) before after) count
    ∙ ap (λ (k : ℕ). change_at at (end - at) before after ∷ changes_on k before after) e

-- the cells of a change are copied
pub record IsCopied (before copied after : Storage) (at end : ℕ) : Type 0 where
  pub size : length copied ≡ length after
  pub inside : (i : ℕ) → at ≤ i → i < end → cell_at copied i ≡ cell_at after i
  pub below : (i : ℕ) → i < at → cell_at copied i ≡ cell_at before i
  pub above : (i : ℕ) → end ≤ i → cell_at copied i ≡ cell_at before i

drop_later : (xs ys : List Cell) (at end : ℕ) → at ≤ end → drop at xs ≡ drop at ys → drop end xs ≡ drop end ys
drop_later xs ys at end least e =
    let parts : at + (end - at) ≡ end = omega (arith, least) in
    ap (λ (k : ℕ). drop k xs) (sym parts)
    ∙ sym (drop-drop (end - at) at xs)
    ∙ ap (λ (zs : List Cell). drop (end - at) zs) e
    ∙ drop-drop (end - at) at ys
    ∙ ap (λ (k : ℕ). drop k ys) parts

-- at the next change
pub at_next : (old before copied after : Storage) (at end next : ℕ) → Walked old before after at
    → at < length after → IsEndOfChange before after at end → IsCopied before copied after at end
    → IsNextChange copied after end next → Walked old copied after next
at_next old before copied after at end next walked lt ended copy found =
    let rest : drop end copied ≡ drop end before =
    same_rest copied before end (copy.size ∙ sym walked.size) copy.above in
    record {
      size = copy.size;
      within = found.most;
      done = λ i most. elim (cases_lt i end) [
        | inr past ↦ is_same (cell_at copied i) (cell_at after i) (found.same i past most)
        | inl inside ↦ elim (cases_lt i at) [
          | inl below ↦ copy.below i below ∙ walked.done i below
          | inr least ↦ copy.inside i least inside
        ]
      ];
      left = drop_later copied old end next found.least (rest ∙ drop_later before old at end ended.least walked.left);
      other = found.other;
    }

-- the text of a change, and what is left
pub next_text : (text new : List ℕ) (old before copied after : Storage) (at end next : ℕ)
    → Walked old before after at → at < length after → IsEndOfChange before after at end
    → IsCopied before copied after at end → IsNextChange copied after end next
    → new ≡ text ++ change_text (change_at at (end - at) before after)
    → new ++ changes_text (changes_on next old after) ≡ text ++ changes_text (changes_on at old after)
next_text text new old before copied after at end next walked lt ended copy found added =
    let rest : drop end copied ≡ drop end before =
    same_rest copied before end (copy.size ∙ sym walked.size) copy.above in
    let one = change_text (change_at at (end - at) before after) in
    let left : drop next copied ≡ drop next old =
    drop_later copied old end next found.least (rest ∙ drop_later before old at end ended.least walked.left) in
    ap (λ (t : List ℕ). t ++ changes_text (changes_on next old after)) added
    ∙ append_assoc text one (changes_text (changes_on next old after))
    ∙ ap (λ (xs : List Cell). text ++ (one ++ changes_text (changes_from next xs (drop next after)))) (sym left)
    ∙ ap (λ (changes : List Change). text ++ (one ++ changes_text changes))
    (sym (up_to copied after end next copy.size found))
    ∙ ap (λ (xs : List Cell). text ++ (one ++ changes_text (changes_from end xs (drop end after)))) rest
    ∙ ap (λ (t : List ℕ). text ++ t)
    (sym (flat_map-cons change_text (change_at at (end - at) before after) (changes_on end before after)))
    ∙ ap (λ (changes : List Change). text ++ changes_text changes)
    (sym (one_change old before after at end walked lt ended))
    ∙ ap (λ (xs : List Cell). text ++ changes_text (changes_from at xs (drop at after))) walked.left

-- at the end of core
pub all_same : (old before after : Storage) (at : ℕ) → Walked old before after at → length after ≤ at → before ≡ after
all_same old before after at walked past =
    same_storage before after walked.size (λ i lt. walked.done i (omega (arith, lt, past, walked.size)))

pub all_text : (text : List ℕ) (old before after : Storage) (at : ℕ) → Walked old before after at → length after ≤ at
    → text ++ changes_text (changes_on at old after) ≡ text
all_text text old before after at walked past =
    ap (λ (xs : List Cell). text ++ changes_text (changes_from at xs (drop at after))) (sym walked.left)
    ∙ ap (λ (changes : List Change). text ++ changes_text changes)
    (nothing_on before after at (omega (arith, past, walked.size)))
    ∙ append-nil text
