use Rattle.std.proofs.Common.{◌≡◌, map, length, ap, ◌∙◌, sym}
use Rattle.std.proofs.lemmas.List.{length-map}
use Rattle.isle_tree.specs.Views.{function}
use Rattle.isle_target.specs.TreeCounts.{functions_tests, saturated}
use Rattle.isle_target.proofs.CountedTests.{functions_counted}
use Rattle.isle_target.proofs.counting.tree_counts.Goals as goal

pub returns : goal.returns
returns c =
    let fns = c.as_slice-functions.result.now in
    let is = c.as_slice-functions.ensures in
    let tests : c.loop-f.tests ≡ saturated (functions_tests (map function fns)) =
    functions_counted c.loop-f.tests fns c.loop-f.f-index _ c.loop-f.invariant.fits c.loop-f-test.false c.loop-f.invariant.left in
    let functions : length fns ≡ length (map function c.args.p.now.fns) = sym (length-map fns function) ∙ ap (λ xs. length (map function xs)) is in
    let all : c.loop-f.tests ≡ saturated (functions_tests (map function c.args.p.now.fns)) = tests ∙ ap (λ xs. saturated (functions_tests (map function xs))) is in
    λ i. record { functions = functions i; tests = all i }
