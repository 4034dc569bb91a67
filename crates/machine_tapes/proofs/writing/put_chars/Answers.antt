-- A move writes a character for each cell.
use Rattle.std.proofs.Common.{◌≡◌, ℕ, ◌+◌, ◌==◌, Bool, List, length, take, drop, is_ok, ap, sym, ◌∙◌}
use Rattle.std.specs.Prelude.{if◌then◌else◌, nat_le, slice_range}
use Rattle.std.proofs.lemmas.List.{length-map}
use Rattle.machine_tapes.specs.Reel.{after_write, room_in}
use Rattle.machine_tapes.specs.TapeText.{text_of}
use Rattle.machine_tapes.proofs.WriteLemmas.{text_lent}
use Rattle.machine_tapes.proofs.writing.put_chars.Goals as goal

pub returns-clause-room : goal.returns-clause-room
returns-clause-room c =
    let from : ℕ = c.from-from.result in
    let chars : List ℕ = slice_range c.chars-chars.result.now from (from + c.from.result) in
    let same =
    text_lent c.args.mode c.args.is_odd c.args.core.now c.chars-chars.result.now c.args.at c.args.n
    c.written_char-blank.result from c.from.result c.requires.unmarked c.chars-chars.ensures
    c.written_char-blank.ensures c.from-from.ensures c.from.ensures in
    c.is_ok.ensures.value ∙ c.write_with_blank.ensures.refused
    ∙ ap (λ (k : ℕ). nat_le k (room_in c.args.reel.now))
    (sym (length-map chars (λ char. if char == 0 then c.written_char-blank.result else char)) ∙ ap length same)

pub returns-clause-reel : goal.returns-clause-reel
returns-clause-reel c =
    let text : List ℕ = text_of c.args.mode c.args.is_odd (take c.args.n (drop c.args.at c.args.core.now)) in
    let same =
    text_lent c.args.mode c.args.is_odd c.args.core.now c.chars-chars.result.now c.args.at c.args.n
    c.written_char-blank.result c.from-from.result c.from.result c.requires.unmarked c.chars-chars.ensures
    c.written_char-blank.ensures c.from-from.ensures c.from.ensures in
    c.write_with_blank.ensures.reel
    ∙ ap (λ (xs : List ℕ). if is_ok c.write_with_blank.result then after_write c.args.reel.now xs else c.args.reel.now)
    same
    ∙ ap (λ (b : Bool). if b then after_write c.args.reel.now text else c.args.reel.now) (sym c.is_ok.ensures.value)
