-- What is asked for is what the operation asks for.
use Rattle.std.proofs.Common.{ap, ◌∙◌, ◌≡◌}
use Rattle.cpu_1401.specs.CardsAndPrinter.{after_cards, asks}
use Rattle.cpu_1401.specs.State.{State}
use Rattle.cpu_1401.specs.declared.io_request.IoRequest.{IoRequest}
use Rattle.cpu_1401.proofs.machine.Machine.use_cards.Goals as goal

pub returns-clause-stop : goal.returns-clause-stop
returns-clause-stop c =
    let wanted : c.of-request.result ≡ asks c.args.work c.args.self.now.storage =
    c.of-request.ensures ∙ ap (λ (s : State). asks c.args.work s.storage) c.self.view_is in
    c.carry_cards.ensures.stop
    ∙ ap (λ (request : IoRequest). (after_cards request c.beyond_last.result c.args.this c.args.self.now).stop) wanted
    ∙ ap (λ b. (after_cards (asks c.args.work c.args.self.now.storage) b c.args.this c.args.self.now).stop)
    c.beyond_last.ensures.value

pub returns-clause-state : goal.returns-clause-state
returns-clause-state c =
    let wanted : c.of-request.result ≡ asks c.args.work c.args.self.now.storage =
    c.of-request.ensures ∙ ap (λ (s : State). asks c.args.work s.storage) c.self.view_is in
    c.carry_cards.ensures.state
    ∙ ap (λ (request : IoRequest). (after_cards request c.beyond_last.result c.args.this c.args.self.now).state) wanted
    ∙ ap (λ b. (after_cards (asks c.args.work c.args.self.now.storage) b c.args.this c.args.self.now).state)
    c.beyond_last.ensures.value
