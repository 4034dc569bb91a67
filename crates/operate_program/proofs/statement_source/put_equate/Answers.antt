-- The language declares the label by this line.
use Rattle.std.proofs.Common.{rules, ◌≡◌, ℕ, Bool, true, List, [], ◌++◌, Some, sym, ap, subst, ◌∙◌}
use Rattle.std.specs.Prelude.{if◌then◌else◌, codes}
use Rattle.bytes_text.specs.Written.{Adds}
use Rattle.bytes_text.proofs.AddsLemmas.{adds}
use Rattle.operate_program.specs.Statement.{declares, equate, equate_line, equate_with}
use Rattle.operate_program.specs.Value.{place_of}
use Rattle.operate_program.proofs.statement_source.put_equate.Goals as goal

pub returns-then-declares : goal.returns-then-declares
returns-then-declares c =
    let language = c.args.language in
    let symbol = c.args.symbol.now in
    let line = equate_line symbol c.in-Some.value in
    let place : place_of symbol.value ≡ Some c.in-Some.value = search rules in
    let read : c.as_slice.result.now ≡ line = c.as_slice.ensures.value ∙ c.in-Ok.ensures in
    let put : c.as_slice-then-declares.result.now ≡ line = c.as_slice-then-declares.ensures.value ∙ c.in-Ok.ensures in
    let declared : declares language line symbol ≡ true =
    sym (ap (λ (text : List ℕ). declares language text symbol) read) ∙ sym c.declares.ensures ∙ c.if-declares.true in
    let made : equate language symbol ≡ line ++ codes "\n" =
    ap (equate_with language symbol) place
    ∙ ap (λ (is_so : Bool). if is_so then line ++ codes "\n" else []) declared in
    subst (λ (text : List ℕ). Adds c.args.text.now c.put_byte.new.self text)
    (ap (λ (text : List ℕ). text ++ codes "\n") put ∙ sym made)
    (adds c.args.text.now c.put.new.self c.put_byte.new.self _ _ c.put.ensures c.put_byte.ensures)
