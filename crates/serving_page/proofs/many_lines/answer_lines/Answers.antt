-- A line more is carried out; or the lines end here.
use Rattle.std.proofs.Common.{rules, ◌≡◌, ℕ, List, [], ◌∷◌, Option, None, Some, Bor, ap, ◌∙◌, refl, subst, sym}
use Rattle.std.specs.Prelude.{option_copied}
use Rattle.serving_page.specs.ManyLines.{LinesDone, line_feed, lines_of}
use Rattle.serving_page.specs.Pieces.{pieces_in}
use Rattle.serving_page.proofs.ManyLinesLemmas.{done_first, done_next, ends_kept_off, ends_told, said_or_not}
use Rattle.room_1401.proofs.PrefixLemmas.{prefix_trans}
use Rattle.serving_page.proofs.many_lines.answer_lines.Goals as goal

pub loop-rest-init : goal.loop-rest-init
loop-rest-init g c =
    let Text : List ℕ → Type 0 = λ text. LinesDone g.J.RoomId.size g.G.Gate.says c.args.seat.now
    (lines_of c.args.body.now) text c.args.seat.now (lines_of c.args.body.now) in
    record {
      done = subst Text (search rules) (done_first g.J.RoomId.size g.G.Gate.says c.args.seat.now
          (lines_of c.args.body.now));
      number = search rules;
      grows = search rules;
    }

pub returns-in-Some-keeps_off-clause-ok : goal.returns-in-Some-keeps_off-clause-ok
returns-in-Some-keeps_off-clause-ok g c =
    let more : List (List ℕ) = pieces_in line_feed (option_copied c.cut_piece.result.1) in
    let line : List ℕ = c.cut_piece.result.0.now in
    let pieces = λ (rest : Option (Bor (List ℕ))). pieces_in line_feed (option_copied rest) in
    let told : List ℕ = c.loop-rest.text.items in
    let why : List ℕ = c.in-Some-keeps_off.why.items in
    let Says : List (List ℕ) → Type 0 = λ these. g.G.Gate.says these (Some why) in
    ends_kept_off g.J.RoomId.size g.G.Gate.says c.args.seat.now c.loop-rest.seat c.loop-rest.seat
    (lines_of c.args.body.now) (pieces_in line_feed (option_copied c.loop-rest.rest)) (line ∷ more) told
    c.extend_from_slice-said.new.self.items c.loop-rest.invariant.done
    (ap pieces c.in-Some.is ∙ c.cut_piece.ensures.pieces) (
      why,
      subst Says c.cut_piece.ensures.pieces c.in-Some-keeps_off.ensures,
      said_or_not _ _ told c.as_slice.result.now why c.extend_from_slice-said.ensures.items c.as_slice.ensures.value,
      refl,
    )

pub loop-rest-preserved : goal.loop-rest-preserved
loop-rest-preserved g c =
    let left : List (List ℕ) = pieces_in line_feed (option_copied c.loop-rest.rest) in
    let more : List (List ℕ) = pieces_in line_feed (option_copied c.cut_piece.result.1) in
    let line : List ℕ = c.cut_piece.result.0.now in
    let reply : List ℕ = c.in_ok-reply.reply.items in
    let pieces = λ (rest : Option (Bor (List ℕ))). pieces_in line_feed (option_copied rest) in
    let parts : left ≡ line ∷ more = ap pieces c.in-Some.is ∙ c.cut_piece.ensures.pieces in
    let Lets : List (List ℕ) → Type 0 = λ these. g.G.Gate.says these None in
    let lets : Lets left = subst Lets (sym (ap pieces c.in-Some.is)) c.in_default-keeps_off.ensures in
    record {
      done = done_next g.J.RoomId.size g.G.Gate.says c.args.seat.now c.loop-rest.seat c.answer_line.new.seat
          (lines_of c.args.body.now) left more line c.loop-rest.text.items reply c.extend_from_slice.new.self.items
          c.loop-rest.invariant.done parts lets c.in_ok-reply.ensures.ok (search rules) (search rules);
      number = search rules;
      grows = prefix_trans c.args.seat.now.list c.loop-rest.seat.list c.answer_line.new.seat.list
          c.loop-rest.invariant.grows c.in_ok-reply.ensures.grows;
    }

pub returns-clause-ok : goal.returns-clause-ok
returns-clause-ok g c =
    let left : List (List ℕ) = pieces_in line_feed (option_copied c.loop-rest.rest) in
    let pieces = λ (rest : Option (Bor (List ℕ))). pieces_in line_feed (option_copied rest) in
    ends_told g.J.RoomId.size g.G.Gate.says c.args.seat.now c.loop-rest.seat c.loop-rest.seat (lines_of c.args.body.now)
    left [] c.loop-rest.text.items c.loop-rest.text.items c.loop-rest.invariant.done (ap pieces c.in_default.is)
    (refl, refl)
