-- The commands of an image that is loaded, and the journal where some of them are carried out.
use Rattle.std.proofs.Common.{◌≡◌, ℕ, ◌+◌, ◌-◌, ◌<◌, ◌≤◌, true, List, [], ◌∷◌, ◌++◌, length, map, take, sym, ap, ◌∙◌, arith}
use Rattle.std.proofs.Common.{nat_lt, length-append, refl, subst}
use Rattle.std.proofs.lemmas.Bool.{and_parts}
use Rattle.std.proofs.lemmas.List.{length-map}
use Rattle.std.proofs.Math.Seq.{take-append_seam, take-append-add}
use Rattle.std.specs.List.{list_all}
use Rattle.cpu_1401.specs.CarryOut.{carry_out}
use Rattle.cpu_1401.specs.State.{State}
use Rattle.machine_image.specs.declared.image.Segment.{Segment}
use Rattle.machine_image.specs.Image.{is_inside}
use Rattle.machine_image.specs.Loading.{deposit_of}
use Rattle.room_alone.specs.declared.entry.Entry.{Entry}
use Rattle.machine_commands.specs.declared.answer.Answer.TheVariants.{Done}
use Rattle.machine_commands.specs.declared.command.Command.{Command}
use Rattle.machine_commands.specs.declared.command.Command.TheVariants.{Deposit, Examine, Registers, SetI, Switch, Feed}
use Rattle.machine_commands.specs.declared.command.Command.TheVariants.{LoadKey, Run, TakeLine, TakeCard, Fit}
use Rattle.console_1401.specs.ImageLoading.{done_entry, is_within, WentOnByFewer}

-- a command that lies in core storage is done
pub done_within : (s : State) (command : Command) → is_within (length s.storage) command ≡ true
    → (carry_out s command).answer ≡ Done
unfolding carry_out
done_within s (Deposit address cells) inside = rw inside refl
done_within s (SetI address) inside = rw inside refl
done_within s (Examine address count) inside = absurd cc
done_within s Registers inside = absurd cc
done_within s (Switch n on) inside = absurd cc
done_within s (Feed card) inside = absurd cc
done_within s LoadKey inside = absurd cc
done_within s (Run limit) inside = absurd cc
done_within s TakeLine inside = absurd cc
done_within s TakeCard inside = absurd cc
done_within s (Fit features) inside = refl

-- those of an image that lies in core storage lie in it
pub all_within : (size start : ℕ) (segments : List Segment) → list_all (is_inside size) segments ≡ true
    → nat_lt start size ≡ true → list_all (is_within size) (map deposit_of segments ++ SetI start ∷ []) ≡ true
all_within size start [] inside entry = rw entry refl
all_within size start (segment ∷ segments) inside entry =
    let both = and_parts (is_inside size segment) (list_all (is_inside size) segments) inside in
    rw both.0 (all_within size start segments both.1 entry)

-- some commands are carried out, and the next isn't
pub stopped_at : (before so_far after : List Entry) (all left rest : List Command) (command : Command)
    → so_far ++ map done_entry left ≡ before ++ map done_entry all → length left ≤ length all → left ≡ command ∷ rest
    → after ≡ so_far → WentOnByFewer before after (map done_entry all)
stopped_at before so_far after all left rest command whole most some same =
    let entries : List Entry = map done_entry all in
    let count : ℕ = length all - length left in
    let many = length-map all done_entry in
    let more : 0 < length left = subst (λ (them : List Command). 0 < length them) (sym some) (omega arith) in
    let lengths : length so_far + length left ≡ length before + length all =
    omega (
      arith,
      length-append so_far (map done_entry left),
      length-map left done_entry,
      ap length whole,
      length-append before entries,
      many,
    ) in
    let reach : length so_far ≡ length before + count = omega (arith, lengths, most) in
    record {
      count = count;
      fewer = omega (arith, most, more, many);
      after_is = same
          ∙ (sym (take-append_seam so_far (map done_entry left))
          ∙ (ap (λ n. take n (so_far ++ map done_entry left)) reach
          ∙ (ap (take (length before + count)) whole ∙ take-append-add before entries count)));
    }
