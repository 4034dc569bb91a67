-- The header, and what follows it.
use Rattle.machine_image.proofs.ContentsLemmas.{image_in-line}
use Rattle.machine_image.proofs.reading.image.Goals as goal

pub returns-in_default-header-clause-whole : goal.returns-in_default-header-clause-whole
returns-in_default-header-clause-whole c = rw (c.in-Some.ensures.0, image_in-line, ← c.in_default-header.ensures)

pub returns-clause-whole : goal.returns-clause-whole
returns-clause-whole c = rw (c.in-Some.ensures.0, image_in-line, ← c.in-Some-header.ensures) c.contents.ensures.whole
