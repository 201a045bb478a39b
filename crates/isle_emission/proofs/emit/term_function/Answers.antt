use Rattle.std.proofs.Common.{[], sym, subst}
use Rattle.isle_core.specs.BlockViews.{block}
use Rattle.isle_core.specs.RuleViews.{environment}
use Rattle.isle_core.specs.Setting.{setting}
use Rattle.isle_emission.specs.Built.{IsBuilt}
use Rattle.isle_emission.proofs.EmittedLaws.{all_built}
use Rattle.isle_emission.proofs.emit.term_function.Goals as goal

pub function-requires-clause-built : goal.function-requires-clause-built
function-requires-clause-built c =
    let s = c.args.sources.now in
    let env = environment s.typeenv.now s.termenv.now in
    subst (λ bs. IsBuilt (setting env c.args.term.now bs) [] (block c.args.block.now)) (sym c.as_slice.ensures)
    (all_built s.options.now s.files.now env c.args.term.now c.args.rules.now.bindings (block c.args.block.now) c.requires.lawful)
