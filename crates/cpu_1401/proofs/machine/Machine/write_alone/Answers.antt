-- What is asked for is the line alone.
use Rattle.std.proofs.Common.{ap, ◌∙◌, ◌≡◌}
use Rattle.cpu_1401.specs.CardsAndPrinter.{after_cards, beyond_print_area, line_alone}
use Rattle.cpu_1401.specs.State.{State}
use Rattle.cpu_1401.specs.declared.io_request.IoRequest.{IoRequest}
use Rattle.cpu_1401.proofs.machine.Machine.write_alone.Goals as goal

pub returns-clause-stop : goal.returns-clause-stop
returns-clause-stop c =
    let wanted : c.to_write-request.result ≡ line_alone c.args.marks c.args.self.now.storage =
    c.to_write-request.ensures ∙ ap (λ (s : State). line_alone c.args.marks s.storage) c.self.view_is in
    c.carry_cards.ensures.stop
    ∙ ap (λ (request : IoRequest). (after_cards request beyond_print_area c.args.this c.args.self.now).stop) wanted

pub returns-clause-state : goal.returns-clause-state
returns-clause-state c =
    let wanted : c.to_write-request.result ≡ line_alone c.args.marks c.args.self.now.storage =
    c.to_write-request.ensures ∙ ap (λ (s : State). line_alone c.args.marks s.storage) c.self.view_is in
    c.carry_cards.ensures.state
    ∙ ap (λ (request : IoRequest). (after_cards request beyond_print_area c.args.this c.args.self.now).state) wanted
