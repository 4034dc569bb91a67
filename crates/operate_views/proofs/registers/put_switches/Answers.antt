-- The words, the letters, and the end.
use Rattle.bytes_text.proofs.AddsLemmas.{adds}
use Rattle.operate_views.specs.Registers.{switches_text}
use Rattle.operate_views.proofs.registers.put_switches.Goals as goal

pub returns : goal.returns
unfolding switches_text
returns c =
    let old = c.args.text.now in
    let on = c.put_switches_on.new.text in
    adds old on c.put_byte.new.self _ _ (adds old c.put.new.self on _ _ c.put.ensures c.put_switches_on.ensures)
    c.put_byte.ensures
