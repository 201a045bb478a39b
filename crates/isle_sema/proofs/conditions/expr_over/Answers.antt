use Rattle.isle_ast.specs.Views.{expr}
use Rattle.isle_terms.specs.Whole.{whole}
use Rattle.isle_sema.proofs.ConditionSteps.{expr_is_over}
use Rattle.isle_sema.proofs.conditions.expr_over.Goals as goal

pub returns : goal.returns
returns c =
    expr_is_over (whole c.args.known.now) c.args.expected (expr c.args.e.now) c.args.vars.now c.args.next c.next.result c.new-locals.result c.expr_at.new.vars c.args.judged.now.rows c.expr_at.new.judged.rows c.in_ok-found.found c.new-locals.ensures c.next.ensures c.in_ok-found.ensures
