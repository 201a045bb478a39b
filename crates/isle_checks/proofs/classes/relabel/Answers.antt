use Rattle.std.proofs.Common.{get_or}
use Rattle.std.proofs.lemmas.List.{get_or_default}
use Rattle.isle_checks.proofs.ClassLaws.{relabel_more}
use Rattle.isle_checks.proofs.classes.relabel.Goals as goal

pub loop-binding-preserved : goal.loop-binding-preserved
loop-binding-preserved c =
    let x = get_or c.args.bindings.now c.loop-binding.binding-index (record { 0 = 0 }) in
    relabel_more c.args.representatives.now c.loop-binding.representatives c.insert.new.self c.args.bindings.now c.loop-binding.binding-index x c.args.to c.loop-binding-test.true
    (get_or_default c.args.bindings.now c.loop-binding.binding-index _ x c.loop-binding-test.true) c.in_ok-insert.ensures.updates c.loop-binding.invariant
