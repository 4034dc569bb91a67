-- In the wider language the links of all lines are followed, each to the end of its chain.
use Rattle.std.proofs.Common.{sym, ap, ◌∙◌}
use Rattle.indexmap.specs.IndexMap.{get}
use Rattle.autocoder_statements.specs.declared.language.Language.{Language}
use Rattle.autocoder_symbols.specs.Chains.{Chains, chains_in, followed, links_from}
use Rattle.autocoder_symbols.specs.Symbols.{same_label, up_to_end}
use Rattle.autocoder_symbols.specs.View.{chains_view}
use Rattle.autocoder_symbols.proofs.ChainLawLemmas.{chains_followed}
use Rattle.autocoder_symbols.proofs.chains.chains_in.Goals as goal

pub returns-in_ok-followed-in-Ibm-clause-ok : goal.returns-in_ok-followed-in-Ibm-clause-ok
returns-in_ok-followed-in-Ibm-clause-ok c =
    c.in_ok-followed-in-Ibm.ensures.ok
    ∙ ap followed
    (c.in_ok-add_lines-in-Ibm.ensures.ok
    ∙ ap (λ (chains : Chains). links_from (get same_label c.args.sites.now) 1 chains (up_to_end c.args.lines.now))
    c.in_ok-chains-in-Ibm.ensures.ok)
    ∙ sym (ap (λ (language : Language). chains_in language (get same_label c.args.sites.now) c.args.lines.now) c.in-Ibm.is)

-- There are fewer links than lines may be, so the doublings reach the end of each.
pub returns-in_ok-followed-in-Ibm-clause-followed : goal.returns-in_ok-followed-in-Ibm-clause-followed
returns-in_ok-followed-in-Ibm-clause-followed c =
    chains_followed c.args.language (get same_label c.args.sites.now) c.args.lines.now
    (chains_view c.in_ok-followed-in-Ibm.followed) c.requires (returns-in_ok-followed-in-Ibm-clause-ok c)
