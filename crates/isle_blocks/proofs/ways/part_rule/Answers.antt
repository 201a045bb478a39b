use Rattle.std.proofs.Common.{refl, ◌∙◌}
use Rattle.isle_blocks.proofs.PartedTests.{early_more, late_more}
use Rattle.isle_blocks.proofs.ways.part_rule.Goals as goal

pub loop-constraint-preserved : goal.loop-constraint-preserved
loop-constraint-preserved c =
    let cs = c.as_slice-constraints.result.now in
    let l = c.loop-constraint in
    record {
      early = λ ps is. c.in_ok-push_if.ensures ∙ early_more c.args.several ps cs l.early.items l.constraint-index _ _ c.is_shared-shared.result c.loop-constraint-test.true refl (c.is_shared-shared.ensures ps is) (l.invariant.early ps is);
      late = λ ps is. c.in_ok-push_if-2.ensures ∙ late_more c.args.several ps cs l.late.items l.constraint-index _ _ c.is_shared-shared.result c.loop-constraint-test.true refl (c.is_shared-shared.ensures ps is) (l.invariant.late ps is);
    }
