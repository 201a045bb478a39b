-- The names that stand for values in statements: those of constants and of unit structs.
use Rattle.std.specs.Prelude.{ℕ, List, [], ◌∷◌, ◌++◌, Bool}
use Rattle.std.specs.List.{list_any}
use Rattle.std.specs.Str.{bytes_eq}
use Rattle.isle_tree.specs.declared.tree.Operand.{Operand}
use Rattle.isle_tree.specs.declared.tree.Operand.TheVariants as operand
use Rattle.isle_tree.specs.declared.tree.Read.{Read}
use Rattle.isle_tree.specs.declared.tree.Read.TheVariants as read
use Rattle.isle_tree.specs.declared.tree.TExpr.{TExpr}
use Rattle.isle_tree.specs.declared.tree.TExpr.TheVariants as expr
use Rattle.isle_tree.specs.declared.tree.TPat.{TPat}
use Rattle.isle_tree.specs.declared.tree.TPat.TheVariants as pattern
use Rattle.isle_tree.specs.Program.{Stmt, Let, LetList, IfEq, IfLet, Match, Loop, Return, Extend, Overflow, Log, Split, Tail, Body, Arms, NoArm, Arm, Function}
use Rattle.isle_tree.specs.Walk.{of_stmt, of_body, of_arms}

-- the name that an operand is
abbrev pub operand_names : Operand → List (List ℕ)
operand_names (operand.Name name) = name ∷ []
operand_names (operand.Local n) = []
operand_names (operand.Arg n) = []
operand_names (operand.Bool b) = []
operand_names (operand.Int ty z) = []
operand_names (operand.Raw z) = []

-- that of a read
abbrev pub read_names : Read → List (List ℕ)
read_names (read.Plain o) = operand_names o
read_names (read.Borrow o) = operand_names o
read_names (read.Clone o) = operand_names o

-- those of reads
abbrev pub reads_names : List Read → List (List ℕ)
reads_names [] = []
reads_names (r ∷ rs) = read_names r ++ reads_names rs

-- those of the fields of a made value
abbrev pub fields_names : List (List ℕ × Read) → List (List ℕ)
fields_names [] = []
fields_names (f ∷ fs) = read_names f.1 ++ fields_names fs

-- those of what is computed
abbrev pub expr_names : TExpr → List (List ℕ)
expr_names (expr.Read r) = read_names r
expr_names (expr.Call borrow call) = reads_names call.args
expr_names (expr.Variant ty variant fields) = fields_names fields
expr_names (expr.Struct ty fields) = fields_names fields
expr_names (expr.Some r) = read_names r
expr_names (expr.Try source as_ref) = operand_names source
expr_names (expr.Tuple source part) = operand_names source

-- that of a pattern, if it is a constant
abbrev pub pattern_names : TPat → List (List ℕ)
pattern_names (pattern.Const o) = operand_names o
pattern_names (pattern.Variant ty variant binds more) = []
pattern_names (pattern.Struct ty binds more) = []
pattern_names (pattern.Some local) = []

-- those of the patterns of arms
abbrev pub patterns_names : Arms → List (List ℕ)
patterns_names NoArm = []
patterns_names (Arm pat inside arms) = pattern_names pat ++ patterns_names arms

-- those of a statement, the statements inside it left aside
abbrev pub own_names : Stmt → List (List ℕ)
own_names (Let n e) = expr_names e
own_names (LetList n call) = reads_names call.args
own_names (IfEq a b inside) = operand_names a ++ operand_names b
own_names (IfLet pat r inside) = pattern_names pat ++ read_names r
own_names (Match r arms) = read_names r ++ patterns_names arms
own_names (Loop list item inside) = []
own_names (Return e) = expr_names e
own_names (Extend r) = read_names r
own_names (Overflow within limit) = []
own_names (Log term place) = []
own_names (Split inside within) = []
own_names (Tail texts) = []

-- those of a statement and of the statements inside it
abbrev pub stmt_names : Stmt → List (List ℕ)
stmt_names s = of_stmt own_names s

-- those of a body
abbrev pub body_names : Body → List (List ℕ)
body_names b = of_body own_names b

-- those of the bodies of arms
abbrev pub arms_names : Arms → List (List ℕ)
arms_names arms = of_arms own_names arms

-- those of functions
abbrev pub function_names : List Function → List (List ℕ)
function_names [] = []
function_names (f ∷ fs) = body_names f.body ++ function_names fs

-- whether a name is among names
abbrev pub is_among : List ℕ → List (List ℕ) → Bool
is_among name names = list_any (bytes_eq name) names
