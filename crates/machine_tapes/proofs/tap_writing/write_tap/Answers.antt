-- The text of one record more.
use Rattle.std.proofs.Common.{◌≡◌, ℕ, List, ◌++◌, sym, ap, subst, ◌∙◌}
use Rattle.std.proofs.lemmas.List.{append-nil, append_assoc}
use Rattle.machine_tapes.specs.TapGrammar.{IsTapOf}
use Rattle.machine_tapes.specs.TapReading.{records_read}
use Rattle.machine_tapes.specs.TapText.{record_text, tap_text}
use Rattle.machine_tapes.proofs.TapWriteLemmas.{is_written, tap_again, tap_text-first, tap_text-none}
use Rattle.machine_tapes.proofs.tap_writing.write_tap.Goals as goal

pub loop-record-preserved : goal.loop-record-preserved
loop-record-preserved c =
    let text : List ℕ = c.loop-record.text.items in
    let beyond : List (List ℕ) = c.in-Some.beyond in
    ap (λ (xs : List ℕ). xs ++ tap_text beyond) c.in_ok-put_record.ensures
    ∙ append_assoc text (record_text c.in-Some.record) (tap_text beyond)
    ∙ ap (λ (xs : List ℕ). text ++ xs) (sym (tap_text-first c.in-Some.record beyond))
    ∙ ap (λ (records : List (List ℕ)). text ++ tap_text records) (sym c.in-Some.ensures.first)
    ∙ c.loop-record.invariant

pub returns-clause-text : goal.returns-clause-text
returns-clause-text c =
    let text : List ℕ = c.loop-record.text.items in
    sym (append-nil text) ∙ ap (λ (xs : List ℕ). text ++ xs) (sym tap_text-none)
    ∙ ap (λ (records : List (List ℕ)). text ++ tap_text records) (sym c.in_default.ensures.first)
    ∙ c.loop-record.invariant

pub returns-clause-form : goal.returns-clause-form
returns-clause-form c =
    let text : List ℕ = c.loop-record.text.items in
    let all : tap_text c.args.records.now ≡ text =
    sym (sym (append-nil text) ∙ ap (λ (xs : List ℕ). text ++ xs) (sym tap_text-none)
    ∙ ap (λ (records : List (List ℕ)). text ++ tap_text records) (sym c.in_default.ensures.first)
    ∙ c.loop-record.invariant) in
    subst (λ (xs : List ℕ). IsTapOf xs c.args.records.now) all
    (is_written c.args.records.now c.again-rest.ensures.good)

pub returns-clause-again : goal.returns-clause-again
returns-clause-again c =
    let text : List ℕ = c.loop-record.text.items in
    let all : text ≡ tap_text c.args.records.now =
    sym (append-nil text) ∙ ap (λ (xs : List ℕ). text ++ xs) (sym tap_text-none)
    ∙ ap (λ (records : List (List ℕ)). text ++ tap_text records) (sym c.in_default.ensures.first)
    ∙ c.loop-record.invariant in
    ap records_read all ∙ tap_again c.args.records.now c.again-rest.ensures.good c.again-rest.ensures.most
