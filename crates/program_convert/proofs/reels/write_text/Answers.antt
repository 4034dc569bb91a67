-- The page is empty at first, and what is left of the text is written at last.
use Rattle.machine_tapes.specs.TapText.{tap_text}
use Rattle.program_convert.specs.Decks.{deck_records}
use Rattle.program_convert.proofs.PutsLemmas.{wrote_page, wrote_part}
use Rattle.program_convert.proofs.reels.write_text.Goals as goal

pub returns-in-Ok-clause-wrote : goal.returns-in-Ok-clause-wrote
returns-in-Ok-clause-wrote g c =
    wrote_page _ _ _ _ c.args.page.items (tap_text (deck_records c.args.parity c.args.cards.now))
    c.put_reel.new.page.items c.as_slice.result.now _ c.requires.none c.as_slice.ensures.value c.in-Ok.ensures.puts
    c.write_page.ensures

pub returns-clause-wrote : goal.returns-clause-wrote
returns-clause-wrote g c =
    wrote_part _ _ _ c.args.page.items (tap_text (deck_records c.args.parity c.args.cards.now)) c.requires.none
    c.in-Err.ensures.puts
