-- What contracts say of the code's heads and forms.
use Rattle.isle_ast.specs.declared.tree.AstLet.{AstLet}
use Rattle.isle_ast.specs.declared.tree.AstExpr.TheFolds.{fold-AstLet}
use Rattle.isle_ast.specs.Tree.{Expr, IfLet}
use Rattle.isle_ast.specs.Views.{pattern, SeenBinding, expr, expr_step, bound_step, iflet}
use Rattle.isle_reading.specs.Combinators.{Both, OnlyFirst, OnlySecond, BothGot}
use Rattle.isle_expressions.specs.declared.pattern.First.{First as CodeFirst}
use Rattle.isle_expressions.specs.declared.pattern.First.TheVariants as code_first
use Rattle.isle_expressions.specs.declared.pattern.PatternHead.{PatternHead as CodePatternHead}
use Rattle.isle_expressions.specs.declared.pattern.PatternHead.TheVariants as code_pattern_head
use Rattle.isle_expressions.specs.declared.expression.ExprHead.{ExprHead as CodeExprHead}
use Rattle.isle_expressions.specs.declared.expression.ExprHead.TheVariants as code_expr_head
use Rattle.isle_expressions.specs.declared.iflet.IfHead.{IfHead as CodeIfHead}
use Rattle.isle_expressions.specs.declared.iflet.IfHead.TheVariants as code_if_head
use Rattle.isle_expressions.specs.declared.iflet.Form.{Form as CodeForm}
use Rattle.isle_expressions.specs.declared.iflet.Form.TheVariants as code_form
use Rattle.isle_expressions.specs.declared.iflet.Step.{Step as CodeStep}
use Rattle.isle_expressions.specs.declared.iflet.Step.TheVariants as code_step
use Rattle.isle_grammar.specs.Grammar.{PatternHead, IsAnd, IsTerm, ExprHead, IsLet, IsCall, IfHead, IsIfLet, IsIf}
use Rattle.isle_grammar.specs.Reading.{First, Leaf, Symbol, Step, Last, More}

-- a pattern's first word
abbrev pub first_seen : CodeFirst → First
first_seen (code_first.Leaf p) = Leaf (pattern p)
first_seen (code_first.Symbol w) = Symbol w

-- what a pattern's list is
abbrev pub pattern_head_seen : CodePatternHead → PatternHead
pattern_head_seen code_pattern_head.And = IsAnd
pattern_head_seen (code_pattern_head.Term name) = IsTerm name

-- what an expression's list is
abbrev pub expr_head_seen : CodeExprHead → ExprHead
expr_head_seen code_expr_head.Let = IsLet
expr_head_seen (code_expr_head.Call name) = IsCall name

-- a variable of a `let`
abbrev pub binding_seen : AstLet → SeenBinding
binding_seen = fold-AstLet Expr SeenBinding expr_step bound_step

-- what a condition is
abbrev pub if_head_seen : CodeIfHead → IfHead
if_head_seen code_if_head.IfLet = IsIfLet
if_head_seen code_if_head.If = IsIf

-- a form after a rule's head
abbrev pub form_seen : CodeForm → Both Expr IfLet
form_seen (code_form.Right e) = OnlyFirst (expr e)
form_seen (code_form.Condition i) = OnlySecond (iflet i)
form_seen (code_form.Either e i) = BothGot (expr e) (iflet i)

-- what a form after a rule's head is, by what follows it
abbrev pub step_seen : CodeStep → Step
step_seen (code_step.Last e) = Last (expr e)
step_seen (code_step.More i) = More (iflet i)
