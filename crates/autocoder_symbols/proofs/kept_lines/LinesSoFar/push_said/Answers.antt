-- The line is the last of those that are read again, and its place the last of all.
use Rattle.std.proofs.Common.{◌≡◌, ◌+◌, ◌⊎◌, inl, refl, ℕ, List, ◌∷◌, ◌++◌, [], length, drop, sym, ap, subst, ◌∙◌, arith}
use Rattle.std.proofs.lemmas.Grind.{common_steps}
use Rattle.std.proofs.lemmas.List.{length-map}
use Rattle.std.specs.Prelude.{OnOk, Result, Ok, Err}
use Rattle.autocoder_statements.specs.declared.statement.Line.{Line}
use Rattle.autocoder_symbols.specs.KeptLines.{LinesRead, AreKept, with_line}
use Rattle.autocoder_symbols.specs.Unread.{first_line, line_below, read_again, all_again}
use Rattle.autocoder_symbols.proofs.KeptLinesLemmas.{all_kept, all_held, all_lines, kept_in}
use Rattle.autocoder_symbols.proofs.UnreadLemmas.{again_more}
use Rattle.autocoder_symbols.proofs.kept_lines.LinesSoFar.push_said.Goals as goal

-- what holds holds on success
on_success : {T E : Type 0} (r : Result T E) (P : Type 0) → P → OnOk r P
on_success (Ok x) P p = p
on_success (Err e) P p = tt

pub invariant_of-self-in_err-push-2 : goal.invariant_of-self-in_err-push-2
invariant_of-self-in_err-push-2 c =
    let reading = c.self.inside.reading in
    let said : List Line =
    all_again reading.language reading.registers reading.source.now c.self.inside.unread.items in
    let new : List Line = all_again reading.language reading.registers reading.source.now c.push.new.self.items in
    let is : c.args.line
    ≡ line_below reading.language reading.registers c.args.context
    (first_line (drop c.args.start reading.source.now)) =
    c.requires
    ∙ sym (ap (λ (this : LinesRead). line_below this.language this.registers c.args.context
    (first_line (drop c.args.start this.source))) c.self.view_is) in
    let more : new ≡ said ++ c.args.line ∷ [] =
    again_more reading.language reading.registers reading.source.now c.self.inside.unread.items c.push.new.self.items
    c.in-Some.unread c.args.start c.args.context c.args.line c.in_ok-push.ensures.items c.in-Some.ensures.start
    c.in-Some.ensures.context is in (
      subst (λ (all : List ℕ). AreKept new all) (sym c.in_err-push-2.ensures.items)
          (kept_in said new c.args.line c.self.inside.places.items more c.self.invariant.0),
      all_held c.self.inside.held.items c.self.inside.held.items said new c.args.line more c.self.invariant.1 (inl refl),
    )

pub invariant_of-self-2 : goal.invariant_of-self-2
invariant_of-self-2 c =
    let reading = c.self.inside.reading in
    let said : List Line =
    all_again reading.language reading.registers reading.source.now c.self.inside.unread.items in
    let new : List Line = all_again reading.language reading.registers reading.source.now c.push.new.self.items in
    let is : c.args.line
    ≡ line_below reading.language reading.registers c.args.context
    (first_line (drop c.args.start reading.source.now)) =
    c.requires
    ∙ sym (ap (λ (this : LinesRead). line_below this.language this.registers c.args.context
    (first_line (drop c.args.start this.source))) c.self.view_is) in
    let more : new ≡ said ++ c.args.line ∷ [] =
    again_more reading.language reading.registers reading.source.now c.self.inside.unread.items c.push.new.self.items
    c.in-Some.unread c.args.start c.args.context c.args.line c.in_ok-push.ensures.items c.in-Some.ensures.start
    c.in-Some.ensures.context is in
    let count : c.len-count.result ≡ length c.self.inside.unread.items = grind (arith, common_steps) in
    let many : c.len-count.result ≡ length said =
    count
    ∙ sym (length-map c.self.inside.unread.items (read_again reading.language reading.registers reading.source.now)) in (
      all_kept said new c.args.line c.self.inside.places.items c.push-2.new.self.items (c.len-count.result + 1) more
          c.in_ok-push-2.ensures.items (ap (λ (n : ℕ). n + 1) many) c.self.invariant.0,
      all_held c.self.inside.held.items c.hold.new.held.items said new c.args.line more c.self.invariant.1
          (subst (λ (n : ℕ). (c.hold.new.held.items ≡ c.self.inside.held.items)
          ⊎ ((length c.self.inside.held.items ≡ n)
          × (c.hold.new.held.items ≡ c.self.inside.held.items ++ c.args.line ∷ []))) many c.hold.ensures.held),
    )

pub returns-clause-ok : goal.returns-clause-ok
returns-clause-ok c =
    let reading = c.self.inside.reading in
    let said : List Line =
    all_again reading.language reading.registers reading.source.now c.self.inside.unread.items in
    let new : List Line = all_again reading.language reading.registers reading.source.now c.push.new.self.items in
    let is : c.args.line
    ≡ line_below reading.language reading.registers c.args.context
    (first_line (drop c.args.start reading.source.now)) =
    c.requires
    ∙ sym (ap (λ (this : LinesRead). line_below this.language this.registers c.args.context
    (first_line (drop c.args.start this.source))) c.self.view_is) in
    let more : new ≡ said ++ c.args.line ∷ [] =
    again_more reading.language reading.registers reading.source.now c.self.inside.unread.items c.push.new.self.items
    c.in-Some.unread c.args.start c.args.context c.args.line c.in_ok-push.ensures.items c.in-Some.ensures.start
    c.in-Some.ensures.context is in
    let count : c.len-count.result ≡ length c.self.inside.unread.items = grind (arith, common_steps) in
    let many : c.len-count.result ≡ length said =
    count
    ∙ sym (length-map c.self.inside.unread.items (read_again reading.language reading.registers reading.source.now)) in
    let of : List Line → LinesRead = λ (lines : List Line). record {
      language = reading.language;
      registers = reading.registers;
      source = reading.source.now;
      lines = lines;
    } in
    on_success c.hold.result _
    (ap of (all_lines said new c.args.line c.self.inside.places.items c.push-2.new.self.items (c.len-count.result + 1) more
    c.in_ok-push-2.ensures.items (ap (λ (n : ℕ). n + 1) many) c.self.invariant.0)
    ∙ ap (λ (this : LinesRead). with_line this c.args.line) c.self.view_is)
