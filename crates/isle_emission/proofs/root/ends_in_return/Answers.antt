use Rattle.std.proofs.Common.{◌-◌, length, map, sym, ap, ◌∙◌}
use Rattle.isle_core.specs.declared.blocks.EvalStep.{EvalStep as CodeStep}
use Rattle.isle_core.specs.declared.blocks.ControlFlow.TheViews.{out-EvalStep}
use Rattle.isle_core.specs.BlockViews.{block_of, step, control}
use Rattle.isle_core.proofs.SeesBlocks.{block-steps, step-parts}
use Rattle.isle_simulation.specs.TermFunction.{is_return, ends_in_return}
use Rattle.isle_emission.proofs.Roots.{one_less, ends_at}
use Rattle.isle_emission.proofs.root.ends_in_return.Goals as goal

pub returns : goal.returns
returns c =
    let xs = c.as_slice-steps.result.now in
    let x = c.index-steps-steps.result in
    c.is_return.ensures
    ∙ ap (λ (y : CodeStep). is_return (control (out-EvalStep y).check)) (sym c.index-steps-steps.is)
    ∙ sym (ap (λ s. is_return s.1) (step-parts x))
    ∙ sym (ends_at xs (length xs - 1) x (one_less (length xs) c.if-is_empty.ensures) c.index-steps-steps.is)
    ∙ ap (λ ys. ends_in_return (block_of (map step ys))) c.as_slice-steps.ensures
    ∙ ap ends_in_return (sym (block-steps c.args.block.now))
