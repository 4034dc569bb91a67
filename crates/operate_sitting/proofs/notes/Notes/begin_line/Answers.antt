-- The mark takes the place of those that are not before it.
use Rattle.std.proofs.Common.{◌≡◌, ◌+◌, ◌≤◌, List, [], ◌∷◌, ◌++◌, length, take, ap, ◌∙◌, rules}
use Rattle.operate_sitting.specs.Notes.{Noted, end_at, lines_in}
use Rattle.operate_sitting.specs.declared.notes.Mark.{Mark}
use Rattle.operate_sitting.proofs.NotesLemmas.{inserted}
use Rattle.operate_sitting.proofs.notes.Notes.begin_line.Goals as goal

pub returns-clause-ok : goal.returns-clause-ok
returns-clause-ok c =
    let notes = c.self.inside in
    let marks = notes.marks.items in
    let lines = c.count_lines-lines.result in
    let end : Mark = c.end_at-end.result in
    let within : lines ≤ length marks = search rules in
    let before : take lines marks ≡ lines_in end marks = search rules in
    let made : c.truncate.new.self.items ≡ lines_in end marks ++ end ∷ [] =
    c.truncate.ensures.items
    ∙ ap (take (lines + 1)) c.in_ok-insert.ensures.items
    ∙ inserted marks lines end within
    ∙ ap (λ (ms : List Mark). ms ++ end ∷ []) before in
    let noted : List Mark → Noted = λ ms. record {
      marks = ms;
      loaded = notes.loaded;
      deck = notes.deck;
      given = notes.given.items;
    } in
    let now : Mark = end_at c.args.entries c.args.self.now in
    let begun_at : Noted → Noted = λ it. record it { marks = lines_in now it.marks ++ now ∷ [] } in
    ap noted made
    ∙ ap (λ (at : Mark). noted (lines_in at marks ++ at ∷ [])) c.end_at-end.ensures
    ∙ ap begun_at c.self.view_is
