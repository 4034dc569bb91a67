-- Texts of a line (own): as they are typed, or with capitals for small letters.
use Rattle.std.specs.Prelude.{◌≡◌, ℕ, ◌-◌, ◌≤◌, List, ◌++◌, length, map, take, drop, replicate}
use Rattle.std.specs.Char.{to_ascii_uppercase}
use Rattle.std.proofs.Common.{sym, ◌∙◌, ap, arith, length-take, take-append-drop}
use Rattle.console_text.specs.ConsoleLine.{most_line_bytes}
use Rattle.operate_orders.specs.declared.text.Text.TheInside.{Inside}

-- a text as it is typed; no line has more bytes
unfoldable pub kept : List ℕ → List ℕ
kept text = take most_line_bytes text

-- a text with capitals for its small letters
unfoldable pub capitals : List ℕ → List ℕ
capitals text = map to_ascii_uppercase (kept text)

-- the bytes that are held
abbrev pub held_bytes : Inside → List ℕ
held_bytes t = take t.len t.bytes

-- at most 200 bytes are held, and zeros after them
pub record IsHeld (t : Inside) : Type 0 where
  pub most : t.len ≤ most_line_bytes
  pub room : length t.bytes ≡ most_line_bytes
  pub zeros : drop t.len t.bytes ≡ replicate (most_line_bytes - t.len) 0

-- the bytes with zeros after them
abbrev pub holding : List ℕ → Inside
holding bytes = record { bytes = bytes ++ replicate (most_line_bytes - length bytes) 0; len = length bytes }

-- the bytes give back what held them
pub holding_again : (t : Inside) → IsHeld t → holding (held_bytes t) ≡ t
holding_again t h =
    let len : length (take t.len t.bytes) ≡ t.len = omega (arith, length-take t.len t.bytes, h.most, h.room) in
    let beyond : take t.len t.bytes ++ replicate (most_line_bytes - t.len) 0 ≡ t.bytes =
    ap (λ (more : List ℕ). take t.len t.bytes ++ more) (sym h.zeros) ∙ take-append-drop t.len t.bytes in
    ap (λ (n : ℕ). let made : Inside = record {
      bytes = take t.len t.bytes ++ replicate
          (most_line_bytes - n) 0;
      len = n;
    } in made) len
    ∙ ap (λ (bytes : List ℕ). let made : Inside = record { bytes = bytes; len = t.len } in made) beyond
