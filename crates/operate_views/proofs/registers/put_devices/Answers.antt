-- The counts, what is pending, and the end.
use Rattle.bytes_text.proofs.AddsLemmas.{adds}
use Rattle.operate_views.specs.Registers.{devices_text}
use Rattle.operate_views.proofs.registers.put_devices.Goals as goal

pub returns : goal.returns
unfolding devices_text
returns c =
    let old = c.args.text.now in
    let counts = c.put_pieces.new.self in
    let pending = c.put_pending.new.text in
    adds old pending c.put_byte.new.self _ _ (adds old counts pending _ _ c.put_pieces.ensures c.put_pending.ensures)
    c.put_byte.ensures
