-- What is met was due from the place on.
use Rattle.std.proofs.Common.{◌≡◌, ◌<◌, ℕ, List, length, take, drop, ap, ◌∙◌, arith, rules}
use Rattle.std.proofs.lemmas.List.{take_rest}
use Rattle.std.proofs.lemmas.Bool.Decides.{nat_tests}
use Rattle.room_files.proofs.VerifyingLemmas.{verified-grows}
use Rattle.room_files.proofs.verifier.VerifierSink.put.Goals as goal

pub returns-in-Ok-clause-received : goal.returns-in-Ok-clause-received
returns-in-Ok-clause-received g c =
    let self = c.args.self.now in
    let inside : self.at < length self.text.items =
    first_of (omega arith, search rules, grind (arith, nat_tests)) in
    let n = c.in-Ok.count in
    let all : List ℕ = c.deref.result.now in
    let same : take n c.args.bytes.now ≡ take n (drop self.at self.text.items) =
    c.in-Ok.ensures.same
    ∙ ap (λ (due : List ℕ). take n due) (take_rest all self.at)
    ∙ ap (λ (whole : List ℕ). take n (drop self.at whole)) c.deref.ensures.value in
    verified-grows self.text.items self.at c.in-Ok.count (g.S.Sink.received self.sink) c.args.bytes.now inside
    (self.held inside) same
