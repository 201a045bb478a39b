use Rattle.std.proofs.Common.{refl}
use Rattle.isle_declarations.specs.Collected.{rule as seen}
use Rattle.isle_terms.specs.Whole.{whole}
use Rattle.isle_sema.proofs.RuleLaws.{sides_are}
use Rattle.isle_sema.proofs.sides.sides_of.Goals as goal

pub returns : goal.returns
returns c =
    sides_are (whole c.args.known.now) (seen c.args.given.now) c.args.own.now c.args.multis _ c.new-vars.result c.patterns_at.new.vars c.conditions_at.new.vars c.next.result c.in_ok-found.found c.new-left.result.rows c.patterns_at.new.judged.rows c.new-right.result.rows c.requires c.new-vars.ensures c.new-left.ensures c.next.ensures c.new-right.ensures refl
    c.in_ok-args.ensures c.in_ok-iflets.ensures c.in_ok-found.ensures
