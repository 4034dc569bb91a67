-- A feature is named by the name of all features, or by its own.
use Rattle.std.proofs.Common.{◌≡◌, rules, codes}
use Rattle.std.specs.List.{list_any}
use Rattle.std.specs.Str.{bytes_eq}
use Rattle.machine_tables.specs.Features.{feature_name}
use Rattle.program_arguments.proofs.NameLemmas.{named}
use Rattle.program_arguments.proofs.features.is_named.Goals as goal

pub returns-then-contains : goal.returns-then-contains
returns-then-contains c =
    let all : c.contains.result ≡ list_any (λ each. bytes_eq each.now (codes "all")) c.args.names.now = c.contains.ensures.value in
    rw (named c.args.names.now (codes "all"), named c.args.names.now (feature_name c.args.feature), ← all) search rules

pub returns-else-contains : goal.returns-else-contains
returns-else-contains c =
    let all : c.contains.result ≡ list_any (λ each. bytes_eq each.now (codes "all")) c.args.names.now = c.contains.ensures.value in
    rw (named c.args.names.now (codes "all"), named c.args.names.now (feature_name c.args.feature), ← all) search rules
