use Rattle.std.proofs.Common.{◌∙◌, ap, map, sym}
use Rattle.isle_core.specs.declared.types.TypeEnv.{TypeEnv}
use Rattle.isle_core.specs.ValueViews.{meaning}
use Rattle.isle_operand_names.specs.Names.{function_names}
use Rattle.isle_tree.specs.Views.{function}
use Rattle.isle_run.proofs.LeftOut.{sets_tell}
use Rattle.isle_run.proofs.left_out.function_leaves_out.Goals as goal

pub returns : goal.returns
returns c =
    λ env types.
    c.any_left_out.ensures env types
    ∙ sets_tell env (function c.args.f.now) (meaning c.args.answers.now) c.in_ok-standing.standing c.in_ok-given.given c.as_slice.result.now (function_names (map function c.from_ref.result.now)) (ap (λ fs. function_names (map function fs)) c.from_ref.ensures.value)
    c.in_ok-standing.ensures c.in_ok-given.ensures (c.as_slice.ensures ∙ ap (λ (ts : TypeEnv). ts.consts) (sym types))
