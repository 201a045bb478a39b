-- What contracts see of the code's definitions.
use Rattle.std.specs.Prelude.{ℕ, List, [], ◌∷◌, map}
use Rattle.isle_ast.specs.declared.tree.AstPattern.{AstPattern}
use Rattle.isle_ast.specs.declared.tree.AstPattern.TheOpen.{AstPattern-F}
use Rattle.isle_ast.specs.declared.tree.AstPattern.TheOpen as code_pattern
use Rattle.isle_ast.specs.declared.tree.AstPattern.TheFolds.{fold-AstPattern}
use Rattle.isle_ast.specs.declared.tree.AstExpr.{AstExpr}
use Rattle.isle_ast.specs.declared.tree.AstExpr.TheOpen.{AstExpr-F, AstLet-F}
use Rattle.isle_ast.specs.declared.tree.AstExpr.TheOpen as code_expr
use Rattle.isle_ast.specs.declared.tree.AstExpr.TheFolds.{fold-AstExpr}
use Rattle.isle_ast.specs.declared.tree.AstIfLet.{AstIfLet}
use Rattle.isle_ast.specs.declared.tree.Def.{Def as CodeDef}
use Rattle.isle_ast.specs.declared.tree.Def.TheVariants as code_def
use Rattle.isle_ast.specs.Tree as tree
use Rattle.isle_ast.specs.Tree.{Pattern, Patterns, NoPattern, APattern, Expr, Exprs, NoExpr, AnExpr, Lets, NoLet, ALet, IfLet, Def}

-- patterns of a list
abbrev pub patterns_of : List Pattern → Patterns
patterns_of [] = NoPattern
patterns_of (p ∷ ps) = APattern p (patterns_of ps)

-- one pattern, if those inside it are seen already
abbrev pub pattern_step : AstPattern-F Pattern → Pattern
pattern_step (code_pattern.Int n) = tree.Int n
pattern_step (code_pattern.Bool b) = tree.Truth b
pattern_step (code_pattern.Const name) = tree.Const name
pattern_step code_pattern.Wildcard = tree.Wildcard
pattern_step (code_pattern.Var name) = tree.Var name
pattern_step (code_pattern.Bind name inner) = tree.Bind name inner
pattern_step (code_pattern.And parts) = tree.And (patterns_of parts)
pattern_step (code_pattern.Term name args) = tree.Term name (patterns_of args)

-- a pattern
abbrev pub pattern : AstPattern → Pattern
pattern = fold-AstPattern Pattern pattern_step

-- expressions of a list
abbrev pub exprs_of : List Expr → Exprs
exprs_of [] = NoExpr
exprs_of (e ∷ es) = AnExpr e (exprs_of es)

-- a variable of a `let`, its value seen already
abbrev pub SeenBinding : Type 0
SeenBinding = List ℕ × List ℕ × Expr

-- variables of a list
abbrev pub lets_of : List SeenBinding → Lets
lets_of [] = NoLet
lets_of (l ∷ ls) = ALet l.0 l.1 l.2 (lets_of ls)

-- one expression, if those inside it are seen already
abbrev pub expr_step : AstExpr-F Expr SeenBinding → Expr
expr_step (code_expr.Int n) = tree.Number n
expr_step (code_expr.Bool b) = tree.Fact b
expr_step (code_expr.Const name) = tree.Constant name
expr_step (code_expr.Var name) = tree.Name name
expr_step (code_expr.Let lets inner) = tree.Let (lets_of lets) inner
expr_step (code_expr.Term name args) = tree.Call name (exprs_of args)

-- one variable of a `let`
abbrev pub bound_step : AstLet-F Expr SeenBinding → SeenBinding
bound_step l = (l.var, l.ty, l.val)

-- an expression
abbrev pub expr : AstExpr → Expr
expr = fold-AstExpr Expr SeenBinding expr_step bound_step

-- a condition
abbrev pub iflet : AstIfLet → IfLet
iflet c = record { lhs = pattern c.lhs; rhs = expr c.rhs }

-- a definition
abbrev pub def : CodeDef → Def
def (code_def.TypeDecl name is_extern is_nodebug body pos) = tree.TypeDecl name is_extern is_nodebug body pos
def (code_def.Decl term pure multi partial recursive args ret pos) = tree.Decl term pure multi partial recursive args ret pos
def (code_def.ExternConstructor term func pos) = tree.ExternConstructor term func pos
def (code_def.ExternExtractor term func infallible pos) = tree.ExternExtractor term func infallible pos
def (code_def.ExternConst name ty pos) = tree.ExternConst name ty pos
def (code_def.Extractor term params template pos) = tree.Extractor term params (pattern template) pos
def (code_def.Converter from to term pos) = tree.Converter from to term pos
def (code_def.Rule name prio term args iflets rhs pos) = tree.Rule name prio term (map pattern args) (map iflet iflets) (expr rhs) pos
def (code_def.Passed head pos) = tree.Passed head pos

-- definitions in order
abbrev pub defs : List CodeDef → List Def
defs = map def
