use Rattle.std.proofs.Common.{take}
use Rattle.isle_core.specs.ValueViews.{meaning}
use Rattle.isle_tree.specs.Views.{function, program}
use Rattle.isle_interpreter.specs.Entries.{entries}
use Rattle.isle_interpreter.specs.EntryViews.{entry}
use Rattle.isle_interpreter.proofs.EntryTests.{upto_more, first_wrong}
use Rattle.isle_interpreter.proofs.entries.all_right.Goals as goal

pub loop-index-preserved : goal.loop-index-preserved
loop-index-preserved c =
    let f = function c.args.f.now in
    let m = meaning c.args.answers.now in
    upto_more (program c.args.signatures.now) f m (entries m) c.loop-index.index (entry c.entry_at-given.result) c.loop-index.served c.is_right.new.served c.in_ok-is_right.field-0 c.entry_at-given.ensures c.loop-index.invariant c.if-not-branch.false
    (λ earlier serves. c.in_ok-is_right.ensures.right earlier f m serves c.in_ok-clashing.ensures) c.in_ok-is_right.ensures.serves

pub returns-then-not-branch-clause-wrong : goal.returns-then-not-branch-clause-wrong
returns-then-not-branch-clause-wrong c =
    let f = function c.args.f.now in
    let m = meaning c.args.answers.now in
    first_wrong (program c.args.signatures.now) f m c.loop-index.index (entry c.entry_at-given.result) c.in_ok-is_right.field-0 c.entry_at-given.ensures c.loop-index.invariant.0 c.if-not-branch.true
    (c.in_ok-is_right.ensures.right (take c.loop-index.index (entries m)) f m c.loop-index.invariant.1 c.in_ok-clashing.ensures)
