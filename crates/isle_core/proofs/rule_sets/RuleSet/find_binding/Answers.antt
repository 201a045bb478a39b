use Rattle.std.proofs.Common.{rules}
use Rattle.isle_core.proofs.SameBindings.{found_at, none_so_far, none_of_all}
use Rattle.isle_core.proofs.rule_sets.RuleSet.find_binding.Goals as goal

pub returns-then-eq : goal.returns-then-eq
returns-then-eq c =
    (found_at c.args.self.now.bindings c.as_slice-known-items.result.now c.loop-place.place c.known-item.result c.args.binding.now c.eq.result (search rules) c.loop-place-test.true c.known-item.is c.eq.ensures c.if-eq.true, c.loop-place.invariant)

pub loop-place-preserved : goal.loop-place-preserved
loop-place-preserved c =
    none_so_far c.args.self.now.bindings c.as_slice-known-items.result.now c.loop-place.place c.known-item.result c.args.binding.now c.eq.result (search rules) c.loop-place-test.true c.known-item.is c.eq.ensures c.if-eq.false c.loop-place.invariant

pub returns : goal.returns
returns c = none_of_all c.args.self.now.bindings c.as_slice-known-items.result.now c.loop-place.place c.args.binding.now (search rules) (search rules) c.loop-place.invariant
