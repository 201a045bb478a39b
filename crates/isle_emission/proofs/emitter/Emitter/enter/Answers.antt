use Rattle.std.proofs.Common.{sym, subst}
use Rattle.std.proofs.lemmas.Result.{on_ok_weaker}
use Rattle.isle_core.specs.BlockViews.{block}
use Rattle.isle_emission.specs.Built.{IsBuilt}
use Rattle.isle_emission.specs.Emitter.{setting_in}
use Rattle.isle_emission.proofs.emitter.Emitter.enter.Goals as goal

pub returns-clause-built : goal.returns-clause-built
returns-clause-built c =
    on_ok_weaker c.bind_places.result (λ more. subst (λ ls. IsBuilt (setting_in c.args.self.now) ls (block c.args._body.now)) (sym more) c.requires) c.bind_places.ensures.more
