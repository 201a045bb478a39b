-- The operands that stand in statements.
use Rattle.std.proofs.Common.{List, [], ◌∷◌, ◌++◌}
use Rattle.isle_tree.specs.declared.tree.Operand.{Operand}
use Rattle.isle_tree.specs.declared.tree.Read.{Read}
use Rattle.isle_tree.specs.declared.tree.Read.TheVariants as read
use Rattle.isle_tree.specs.declared.tree.TExpr.{TExpr}
use Rattle.isle_tree.specs.declared.tree.TExpr.TheVariants as expr
use Rattle.isle_tree.specs.declared.tree.TPat.{TPat}
use Rattle.isle_tree.specs.declared.tree.TPat.TheVariants as pattern
use Rattle.isle_tree.specs.Program.{Stmt, Let, LetList, IfEq, IfLet, Match, Loop, Return, Extend, Overflow, Log, Split, Tail, Body, Arms, NoArm, Arm}
use Rattle.isle_tree.specs.Walk.{of_body}

-- the operand of a read
abbrev pub read_operand : Read → Operand
read_operand (read.Plain o) = o
read_operand (read.Borrow o) = o
read_operand (read.Clone o) = o

abbrev pub reads_operands : List Read → List Operand
reads_operands [] = []
reads_operands (r ∷ rs) = read_operand r ∷ reads_operands rs

-- those of the fields of a made value
abbrev pub fields_operands : {A : Type 0} → List (A × Read) → List Operand
fields_operands [] = []
fields_operands (f ∷ fs) = read_operand f.1 ∷ fields_operands fs

-- those of what is computed
abbrev pub expr_operands : TExpr → List Operand
expr_operands (expr.Read r) = read_operand r ∷ []
expr_operands (expr.Call borrow call) = reads_operands call.args
expr_operands (expr.Variant ty variant fields) = fields_operands fields
expr_operands (expr.Struct ty fields) = fields_operands fields
expr_operands (expr.Some r) = read_operand r ∷ []
expr_operands (expr.Try source as_ref) = source ∷ []
expr_operands (expr.Tuple source part) = source ∷ []

-- that of a pattern, if it is a constant
abbrev pub pattern_operands : TPat → List Operand
pattern_operands (pattern.Const o) = o ∷ []
pattern_operands (pattern.Variant ty variant binds more) = []
pattern_operands (pattern.Struct ty binds more) = []
pattern_operands (pattern.Some local) = []

-- those of the patterns of arms
abbrev pub patterns_operands : Arms → List Operand
patterns_operands NoArm = []
patterns_operands (Arm pat inside arms) = pattern_operands pat ++ patterns_operands arms

-- those of a statement, the statements inside it left aside
abbrev pub own_operands : Stmt → List Operand
own_operands (Let n e) = expr_operands e
own_operands (LetList n call) = reads_operands call.args
own_operands (IfEq a b inside) = a ∷ b ∷ []
own_operands (IfLet pat r inside) = read_operand r ∷ pattern_operands pat
own_operands (Match r arms) = read_operand r ∷ patterns_operands arms
own_operands (Loop list item inside) = []
own_operands (Return e) = expr_operands e
own_operands (Extend r) = read_operand r ∷ []
own_operands (Overflow within limit) = []
own_operands (Log term place) = []
own_operands (Split inside within) = []
own_operands (Tail texts) = []

-- those of a body
abbrev pub body_operands : Body → List Operand
body_operands b = of_body own_operands b
