-- Bytes held in front of zeros, and their capitals.
use Rattle.std.proofs.Common.{◌≡◌, ℕ, zero, suc, ◌-◌, ◌≤◌, List, ◌∷◌, ◌++◌, length, map, drop, replicate, refl, ◌∙◌, ap, arith}
use Rattle.std.proofs.Common.{length-append}
use Rattle.std.specs.Char.{to_ascii_uppercase}
use Rattle.std.proofs.lemmas.List.{drop_at, drop-replicate, length-replicate, length-map, drop-map}
use Rattle.console_text.specs.ConsoleLine.{most_line_bytes}
use Rattle.operate_orders.specs.declared.text.Text.TheInside.{Inside}
use Rattle.operate_orders.specs.Text.{IsHeld}

-- at most 200 bytes in front of what is left of 200 zeros are held
pub in_front : (bytes front : List ℕ) → front ≡ bytes → length bytes ≤ most_line_bytes
    → IsHeld (record { bytes = front ++ drop (length bytes) (replicate most_line_bytes 0); len = length bytes })
in_front bytes front e most =
    let len : length front ≡ length bytes = ap length e in
    let beyond : drop (length bytes) (replicate {A = ℕ} most_line_bytes 0) ≡ replicate (most_line_bytes - length bytes) 0 =
    drop-replicate (length bytes) most_line_bytes 0 in
    record {
      most = most;
      room = omega (
        arith,
        length-append front (drop (length bytes) (replicate most_line_bytes 0)),
        ap length beyond,
        length-replicate {A = ℕ} (most_line_bytes - length bytes) 0,
        len,
      );
      zeros = drop_at front (drop (length bytes) (replicate most_line_bytes 0)) (length bytes) len ∙ beyond;
    }

capital_zeros : (n : ℕ) → map to_ascii_uppercase (replicate n 0) ≡ replicate n 0
capital_zeros zero = refl
capital_zeros (suc n) = ap (λ zeros. 0 ∷ zeros) (capital_zeros n)

-- capitals are held as their letters are: a zero has no capital
pub raised : (t : Inside) → IsHeld t → IsHeld (record { bytes = map to_ascii_uppercase t.bytes; len = t.len })
raised t h = record {
  most = h.most;
  room = length-map t.bytes to_ascii_uppercase ∙ h.room;
  zeros = drop-map to_ascii_uppercase t.len t.bytes ∙ ap (map to_ascii_uppercase) h.zeros
      ∙ capital_zeros (most_line_bytes - t.len);
}
