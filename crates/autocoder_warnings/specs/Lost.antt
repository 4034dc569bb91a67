-- What isn't read of lines, and what they don't start, line by line (own): that is all that can be said of them before
-- anything is placed.
use Rattle.std.specs.Prelude.{ℕ, ◌+◌, List, [], ◌∷◌, ◌++◌, Option, None, Some}
use Rattle.autocoder_statements.specs.Description.{describe}
use Rattle.autocoder_statements.specs.declared.statement.Line.{Line}
use Rattle.autocoder_statements.specs.declared.statement.Statement.{Statement}
use Rattle.autocoder_warnings.specs.Warnings.{card_lost, cut_warned, loss_warned, starts_nothing, warned_if}
use Rattle.autocoder_warnings.specs.declared.loss.Loss.{Loss}
use Rattle.autocoder_warnings.specs.declared.warning.Warning.{Warning}
use Rattle.autocoder_warnings.specs.declared.warning.WarningKind.TheVariants as warnings

-- of a line with this number, which loses this
abbrev pub lost_with : ℕ → Option Loss → Option Statement → List Warning
lost_with number loss None = loss_warned (card_lost loss) number
lost_with number loss (Some this) =
    warned_if (starts_nothing (describe this.body).addressing) number warnings.StartsNothing
    ++ cut_warned number loss this

-- of lines, counting them from this number
abbrev pub lost_from : ℕ → List (Option Loss) → List Line → List Warning
lost_from number losses [] = []
lost_from number [] (line ∷ lines) = []
lost_from number (loss ∷ losses) (line ∷ lines) =
    lost_with number loss line.statement ++ lost_from (number + 1) losses lines
