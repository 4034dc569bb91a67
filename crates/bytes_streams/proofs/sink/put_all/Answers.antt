-- What the sink received of the rest is added, and what is left of it is the rest.
use Rattle.std.proofs.Common.{ℕ, List, ◌++◌, take, drop, sym, ◌∙◌, ap, append_assoc, take-append-drop}
use Rattle.std.proofs.lemmas.List.{take_rest}
use Rattle.std.proofs.KnownBytes.{Appends-trans}
use Rattle.bytes_streams.proofs.sink.put_all.Goals as goal

pub loop-rest-preserved : goal.loop-rest-preserved
loop-rest-preserved g c =
    let inv = c.loop-rest.invariant in
    let rest : List ℕ = c.loop-rest.rest.now in
    let n = c.in-Ok.n in
    record {
      part = inv.part ++ take n rest;
      whole =
          inv.whole
          ∙ ap (λ (r : List ℕ). inv.part ++ r) (sym (take-append-drop n rest))
          ∙ sym (append_assoc inv.part (take n rest) (drop n rest))
          ∙ ap (λ (r : List ℕ). (inv.part ++ take n rest) ++ r) (sym (take_rest rest n));
      appended =
          Appends-trans (g.W.Sink.received c.args.writer.now) (g.W.Sink.received c.loop-rest.writer)
          (g.W.Sink.received c.put.new.self) inv.part (take n rest) inv.appended c.in-Ok.ensures.received;
      good = c.in-Ok.ensures.good ∙ sym inv.working ∙ inv.good;
      working = c.in-Ok.ensures.good;
    }
