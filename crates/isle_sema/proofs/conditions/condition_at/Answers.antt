use Rattle.std.proofs.Common.{rules}
use Rattle.isle_ast.specs.Views.{iflet}
use Rattle.isle_terms.specs.Whole.{whole}
use Rattle.isle_sema.proofs.ConditionSteps.{condition_is}
use Rattle.isle_sema.proofs.conditions.condition_at.Goals as goal

pub returns : goal.returns
returns c =
    condition_is (whole c.args.known.now) (iflet c.args.given.now) c.args.vars.now c.pattern_at.new.vars c.leave.new.self c.in-Some.next c.args.judged.now.rows c.expr_over.new.judged.rows c.pattern_at.new.judged.rows c.in_ok-ty.ty _ c.in_ok-lhs.lhs c.condition_of.result (search rules) (search rules)
    c.in_ok-ty.ensures c.in_ok-lhs.ensures c.leave.ensures c.condition_of.ensures
