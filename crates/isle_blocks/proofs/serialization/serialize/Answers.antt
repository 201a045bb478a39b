use Rattle.isle_core.specs.BlockViews.{block}
use Rattle.isle_blocks.proofs.Grown.{grown_by, tree_of_lawful, tree_of_loops, tree_of_makes, tree_of_means, tree_of_merged, tree_of_once_merged, tree_of_returns, tree_of_several, tree_of_tests}
use Rattle.isle_blocks.proofs.AskedSets.{tree_of_asks}
use Rattle.isle_blocks.proofs.serialization.serialize.Goals as goal

pub returns-clause-means : goal.returns-clause-means
returns-clause-means c =
    let s = c.args.rules.now in
    tree_of_means c.args.iterator s (block c.in_ok-tree_of.field-0)
    (grown_by c.args.iterator s.bindings c.as_slice.result.now c.as_slice-2.result.now c.as_slice-3.result.now c.as_slice-4.result.now s.rules c.as_slice-5.result.now (block c.in_ok-tree_of.field-0) c.in_ok-fields.fields c.in_ok-inners.inners c.in_ok-items.items
    c.as_slice.ensures c.as_slice-2.ensures c.as_slice-3.ensures c.as_slice-4.ensures c.as_slice-5.ensures c.in_ok-fields.ensures c.in_ok-inners.ensures c.in_ok-items.ensures c.in_ok-tree_of.ensures)

pub returns-clause-tests : goal.returns-clause-tests
returns-clause-tests c =
    let s = c.args.rules.now in
    tree_of_tests c.args.iterator s (block c.in_ok-tree_of.field-0)
    (grown_by c.args.iterator s.bindings c.as_slice.result.now c.as_slice-2.result.now c.as_slice-3.result.now c.as_slice-4.result.now s.rules c.as_slice-5.result.now (block c.in_ok-tree_of.field-0) c.in_ok-fields.fields c.in_ok-inners.inners c.in_ok-items.items
    c.as_slice.ensures c.as_slice-2.ensures c.as_slice-3.ensures c.as_slice-4.ensures c.as_slice-5.ensures c.in_ok-fields.ensures c.in_ok-inners.ensures c.in_ok-items.ensures c.in_ok-tree_of.ensures)

pub returns-clause-makes : goal.returns-clause-makes
returns-clause-makes c =
    let s = c.args.rules.now in
    tree_of_makes c.args.iterator s (block c.in_ok-tree_of.field-0)
    (grown_by c.args.iterator s.bindings c.as_slice.result.now c.as_slice-2.result.now c.as_slice-3.result.now c.as_slice-4.result.now s.rules c.as_slice-5.result.now (block c.in_ok-tree_of.field-0) c.in_ok-fields.fields c.in_ok-inners.inners c.in_ok-items.items
    c.as_slice.ensures c.as_slice-2.ensures c.as_slice-3.ensures c.as_slice-4.ensures c.as_slice-5.ensures c.in_ok-fields.ensures c.in_ok-inners.ensures c.in_ok-items.ensures c.in_ok-tree_of.ensures)

pub returns-clause-returns : goal.returns-clause-returns
returns-clause-returns c =
    let s = c.args.rules.now in
    tree_of_returns c.args.iterator s (block c.in_ok-tree_of.field-0)
    (grown_by c.args.iterator s.bindings c.as_slice.result.now c.as_slice-2.result.now c.as_slice-3.result.now c.as_slice-4.result.now s.rules c.as_slice-5.result.now (block c.in_ok-tree_of.field-0) c.in_ok-fields.fields c.in_ok-inners.inners c.in_ok-items.items
    c.as_slice.ensures c.as_slice-2.ensures c.as_slice-3.ensures c.as_slice-4.ensures c.as_slice-5.ensures c.in_ok-fields.ensures c.in_ok-inners.ensures c.in_ok-items.ensures c.in_ok-tree_of.ensures)

pub returns-clause-lawful : goal.returns-clause-lawful
returns-clause-lawful c =
    let s = c.args.rules.now in
    tree_of_lawful c.args.iterator s (block c.in_ok-tree_of.field-0)
    (grown_by c.args.iterator s.bindings c.as_slice.result.now c.as_slice-2.result.now c.as_slice-3.result.now c.as_slice-4.result.now s.rules c.as_slice-5.result.now (block c.in_ok-tree_of.field-0) c.in_ok-fields.fields c.in_ok-inners.inners c.in_ok-items.items
    c.as_slice.ensures c.as_slice-2.ensures c.as_slice-3.ensures c.as_slice-4.ensures c.as_slice-5.ensures c.in_ok-fields.ensures c.in_ok-inners.ensures c.in_ok-items.ensures c.in_ok-tree_of.ensures)

pub returns-clause-several : goal.returns-clause-several
returns-clause-several c =
    let s = c.args.rules.now in
    tree_of_several c.args.iterator s (block c.in_ok-tree_of.field-0)
    (grown_by c.args.iterator s.bindings c.as_slice.result.now c.as_slice-2.result.now c.as_slice-3.result.now c.as_slice-4.result.now s.rules c.as_slice-5.result.now (block c.in_ok-tree_of.field-0) c.in_ok-fields.fields c.in_ok-inners.inners c.in_ok-items.items
    c.as_slice.ensures c.as_slice-2.ensures c.as_slice-3.ensures c.as_slice-4.ensures c.as_slice-5.ensures c.in_ok-fields.ensures c.in_ok-inners.ensures c.in_ok-items.ensures c.in_ok-tree_of.ensures)

pub returns-clause-merged : goal.returns-clause-merged
returns-clause-merged c =
    let s = c.args.rules.now in
    tree_of_merged c.args.iterator s (block c.in_ok-tree_of.field-0)
    (grown_by c.args.iterator s.bindings c.as_slice.result.now c.as_slice-2.result.now c.as_slice-3.result.now c.as_slice-4.result.now s.rules c.as_slice-5.result.now (block c.in_ok-tree_of.field-0) c.in_ok-fields.fields c.in_ok-inners.inners c.in_ok-items.items
    c.as_slice.ensures c.as_slice-2.ensures c.as_slice-3.ensures c.as_slice-4.ensures c.as_slice-5.ensures c.in_ok-fields.ensures c.in_ok-inners.ensures c.in_ok-items.ensures c.in_ok-tree_of.ensures)

pub returns-clause-once_merged : goal.returns-clause-once_merged
returns-clause-once_merged c =
    let s = c.args.rules.now in
    tree_of_once_merged c.args.iterator s (block c.in_ok-tree_of.field-0)
    (grown_by c.args.iterator s.bindings c.as_slice.result.now c.as_slice-2.result.now c.as_slice-3.result.now c.as_slice-4.result.now s.rules c.as_slice-5.result.now (block c.in_ok-tree_of.field-0) c.in_ok-fields.fields c.in_ok-inners.inners c.in_ok-items.items
    c.as_slice.ensures c.as_slice-2.ensures c.as_slice-3.ensures c.as_slice-4.ensures c.as_slice-5.ensures c.in_ok-fields.ensures c.in_ok-inners.ensures c.in_ok-items.ensures c.in_ok-tree_of.ensures)

pub returns-clause-loops : goal.returns-clause-loops
returns-clause-loops c =
    let s = c.args.rules.now in
    tree_of_loops c.args.iterator s (block c.in_ok-tree_of.field-0)
    (grown_by c.args.iterator s.bindings c.as_slice.result.now c.as_slice-2.result.now c.as_slice-3.result.now c.as_slice-4.result.now s.rules c.as_slice-5.result.now (block c.in_ok-tree_of.field-0) c.in_ok-fields.fields c.in_ok-inners.inners c.in_ok-items.items
    c.as_slice.ensures c.as_slice-2.ensures c.as_slice-3.ensures c.as_slice-4.ensures c.as_slice-5.ensures c.in_ok-fields.ensures c.in_ok-inners.ensures c.in_ok-items.ensures c.in_ok-tree_of.ensures)

pub returns-clause-asks : goal.returns-clause-asks
returns-clause-asks c =
    let s = c.args.rules.now in
    tree_of_asks c.args.iterator s (block c.in_ok-tree_of.field-0)
    (grown_by c.args.iterator s.bindings c.as_slice.result.now c.as_slice-2.result.now c.as_slice-3.result.now c.as_slice-4.result.now s.rules c.as_slice-5.result.now (block c.in_ok-tree_of.field-0) c.in_ok-fields.fields c.in_ok-inners.inners c.in_ok-items.items
    c.as_slice.ensures c.as_slice-2.ensures c.as_slice-3.ensures c.as_slice-4.ensures c.as_slice-5.ensures c.in_ok-fields.ensures c.in_ok-inners.ensures c.in_ok-items.ensures c.in_ok-tree_of.ensures)
