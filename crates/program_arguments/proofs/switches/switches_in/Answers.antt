-- Each switch is on if its letter is there.
use Rattle.std.proofs.Common.{◌≡◌, [], codes, refl, rules, unwrap_or}
use Rattle.clap.specs.Words.{first_value, found_of}
use Rattle.program_arguments.proofs.switches.switches_in.Goals as goal

pub returns : goal.returns
returns c = λ whole.
    let text : c.as_bytes-letters.result.now ≡ unwrap_or (first_value (found_of c.args.matches.now) (codes "switches")) [] =
    search rules in (
      (c.check.ensures whole).0,
      rw (
        c.contains.ensures.value,
        c.contains-2.ensures.value,
        c.contains-3.ensures.value,
        c.contains-4.ensures.value,
        c.contains-5.ensures.value,
        c.contains-6.ensures.value,
        c.contains-7.ensures.value,
        text,
      ) refl,
    )
