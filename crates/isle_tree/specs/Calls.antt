-- What a function calls.
use Rattle.std.specs.Prelude.{List, [], ◌∷◌}
use Rattle.isle_core.specs.declared.values.Callee.{Callee}
use Rattle.isle_tree.specs.declared.tree.TExpr.{TExpr}
use Rattle.isle_tree.specs.declared.tree.TExpr.TheVariants as expr
use Rattle.isle_tree.specs.Program.{Stmt, Let, LetList, IfEq, IfLet, Match, Loop, Return, Extend, Overflow, Log, Split, Tail, Body, Arms}
use Rattle.isle_tree.specs.Walk.{of_stmt, of_body, of_arms}

-- what is computed calls
abbrev pub expr_calls : TExpr → List Callee
expr_calls (expr.Read r) = []
expr_calls (expr.Call borrow call) = call.callee ∷ []
expr_calls (expr.Variant ty variant fields) = []
expr_calls (expr.Struct ty fields) = []
expr_calls (expr.Some r) = []
expr_calls (expr.Try source as_ref) = []
expr_calls (expr.Tuple o n) = []

-- a statement calls, those inside it left aside
abbrev pub own_calls : Stmt → List Callee
own_calls (Let n e) = expr_calls e
own_calls (LetList n call) = call.callee ∷ []
own_calls (IfEq a b inside) = []
own_calls (IfLet pat read inside) = []
own_calls (Match read arms) = []
own_calls (Loop list item inside) = []
own_calls (Return e) = expr_calls e
own_calls (Extend read) = []
own_calls (Overflow within limit) = []
own_calls (Log term place) = []
own_calls (Split inside within) = []
own_calls (Tail texts) = []

-- a statement and those inside it call
abbrev pub stmt_calls : Stmt → List Callee
stmt_calls s = of_stmt own_calls s

-- the statements of a body call
abbrev pub body_calls : Body → List Callee
body_calls b = of_body own_calls b

-- those of the arms of a match call
abbrev pub arms_calls : Arms → List Callee
arms_calls arms = of_arms own_calls arms
