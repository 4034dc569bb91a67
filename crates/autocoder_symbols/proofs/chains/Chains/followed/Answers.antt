-- The labels stay, and each link is joined and followed.
use Rattle.std.proofs.Common.{◌≡◌, ◌++◌, ℕ, List, ap, drop, length, map, take, ◌∙◌, arith}
use Rattle.std.proofs.Math.Seq.{take-append_seam}
use Rattle.std.proofs.lemmas.List.{length-map}
use Rattle.autocoder_symbols.specs.Chains.{Chains, joined, twice_over, doublings}
use Rattle.autocoder_symbols.specs.declared.chains.Link.{Link}
use Rattle.autocoder_symbols.proofs.chains.Chains.followed.Goals as goal

pub returns-clause-ok : goal.returns-clause-ok
returns-clause-ok c =
    let of : List Link → Chains = λ (links : List Link). record { labels = c.args.self.labels.keys; links = links } in
    let rest : List Link = drop (length c.join.new.links) c.args.self.links.items in
    let is : c.join.new.links ≡ map (joined c.args.self.labels.keys) c.args.self.links.items =
    c.in_ok-join.ensures.ok ∙ ap (map (joined c.args.self.labels.keys)) c.deref_mut.ensures.value in
    let len : c.args.self.links.len ≡ length c.join.new.links =
    omega (arith, ap length is, length-map c.args.self.links.items (joined c.args.self.labels.keys), c.args.self.links.ok) in
    ap of
    (c.in_ok-links.ensures.links
    ∙ ap (twice_over doublings)
    (ap (λ (n : ℕ). take n (c.join.new.links ++ rest)) len ∙ take-append_seam c.join.new.links rest ∙ is))
