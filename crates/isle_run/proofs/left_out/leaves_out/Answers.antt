use Rattle.std.proofs.Common.{rules, refl}
use Rattle.isle_core.specs.ValueViews.{meaning}
use Rattle.isle_tree.specs.Views.{function}
use Rattle.isle_run.specs.Compiled.{env_of, attempt}
use Rattle.isle_run.proofs.LeftOut.{function_tells}
use Rattle.isle_run.proofs.left_out.leaves_out.Goals as goal

pub returns-in-Some : goal.returns-in-Some
returns-in-Some c =
    function_tells (λ args. attempt c.args.compiled.now c.args.term.now args) (env_of c.args.compiled.now) (function c.in-Some.f.now) (meaning c.args.answers.now) c.function_leaves_out.result (λ args. refl) (λ args. search rules) c.function_leaves_out.ensures
