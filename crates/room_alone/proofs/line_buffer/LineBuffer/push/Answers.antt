-- The first 202 bytes, with one byte more.
use Rattle.std.proofs.Common.{◌≤◌, [], ◌∷◌, ◌++◌, take, length, arith, sym, ◌∙◌, length-append, length-take, take_all}
use Rattle.std.proofs.lemmas.List.{take_more_set, take-append-le}
use Rattle.room_alone.proofs.line_buffer.LineBuffer.push.Goals as goal

-- below 202 bytes nothing is cut off
pub returns-then-self-lt-KEPT_BYTES : goal.returns-then-self-lt-KEPT_BYTES
returns-then-self-lt-KEPT_BYTES c =
    let e =
    take_more_set c.self.inside.bytes c.self.inside.len c.args.byte
    (omega (arith, c.if-self-lt-KEPT_BYTES.true, c.self.told)) in
    let short : length (take c.self.inside.len c.self.inside.bytes ++ c.args.byte ∷ []) ≤ 202 =
    omega (
      arith,
      length-append (take c.self.inside.len c.self.inside.bytes)
          (c.args.byte ∷ []),
      length-take c.self.inside.len c.self.inside.bytes,
      c.if-self-lt-KEPT_BYTES.true,
    ) in
    rw (← c.self.view_is) (e ∙ sym (take_all 202
    (take c.self.inside.len c.self.inside.bytes ++ c.args.byte ∷ []) short))

-- with 202 bytes the next one is cut off
pub returns-else-self-lt-KEPT_BYTES : goal.returns-else-self-lt-KEPT_BYTES
returns-else-self-lt-KEPT_BYTES c =
    let kept = take c.self.inside.len c.self.inside.bytes in
    let full : 202 ≤ length kept =
    omega (arith, length-take c.self.inside.len c.self.inside.bytes, c.if-self-lt-KEPT_BYTES.false, c.self.told) in
    let exact : length kept ≤ 202 = omega (arith, length-take c.self.inside.len c.self.inside.bytes, c.self.told) in
    rw (← c.self.view_is) (sym (take-append-le 202 kept (c.args.byte ∷ []) full ∙ take_all 202 kept exact))
