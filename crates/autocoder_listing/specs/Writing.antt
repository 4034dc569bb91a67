-- A listing that is ready to be written, a page after the other (own).
use Rattle.std.specs.Prelude.{◌≡◌, ◌<◌, ◌≤◌, ◌^◌, ℕ, List, [], length, vec_capacity}
use Rattle.autocoder_statements.specs.SourceLine.{lines_of}
use Rattle.autocoder_listing.specs.Heads.{written}
use Rattle.autocoder_listing.specs.declared.writing.ReadyListing.{ReadyListing}

-- the most bytes that precede the line of the source
abbrev pub most_in_front : ℕ
most_in_front = 64

-- nothing is in the page, and there is room for what precedes a line of the source
abbrev pub HasRoom : ReadyListing → Type 0
HasRoom ready =
    (ready.page ≡ []) × (most_in_front ≤ vec_capacity ready.front)

-- ready for the lines of this source, which can be numbered
abbrev pub IsReadyFor : List ℕ → ReadyListing → Type 0
IsReadyFor source ready = HasRoom ready × (length (lines_of source) < 2 ^ 32)

-- the text that is written for this source
abbrev pub text_for : List ℕ → ReadyListing → List ℕ
text_for source ready = written 1 ready.heads.heads.items ready.heads.literals.items (lines_of source)
