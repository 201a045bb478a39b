-- The types that occur in a program, by their names.
use Rattle.std.specs.Prelude.{ℕ, List, [], ◌∷◌, ◌++◌, Bool, map, flat_map}
use Rattle.isle_tree.specs.declared.tree.TExpr.{TExpr}
use Rattle.isle_tree.specs.declared.tree.TExpr.TheVariants as expr
use Rattle.isle_tree.specs.declared.tree.TFields.{TFields}
use Rattle.isle_tree.specs.declared.tree.TFields.TheVariants as shape
use Rattle.isle_tree.specs.declared.tree.TPat.{TPat}
use Rattle.isle_tree.specs.declared.tree.TPat.TheVariants as pattern
use Rattle.isle_tree.specs.declared.tree.TraitFn.{TraitFn}
use Rattle.isle_tree.specs.declared.tree.Ty.{Ty}
use Rattle.isle_tree.specs.declared.tree.TypeBody.{TypeBody}
use Rattle.isle_tree.specs.declared.tree.TypeBody.TheVariants as type_body
use Rattle.isle_tree.specs.declared.tree.TypeItem.{TypeItem}
use Rattle.isle_tree.specs.Program.{Stmt, Let, LetList, IfEq, IfLet, Match, Loop, Return, Extend, Overflow, Log, Split, Tail, Body, Arms, NoArm, Arm, Function, Program}
use Rattle.isle_tree.specs.Walk.{of_stmt, of_body, of_arms}
use Rattle.isle_operand_names.specs.Names.{is_among}

-- ---- declared types

-- the types of named fields
abbrev pub second_names : List (List ℕ × List ℕ) → List (List ℕ)
second_names fs = map (λ (f : List ℕ × List ℕ). f.1) fs

-- the types of fields
abbrev pub shape_types : TFields → List (List ℕ)
shape_types shape.Unit = []
shape_types (shape.Named fs) = second_names fs
shape_types (shape.Tuple tys) = tys

-- those of the fields of variants
abbrev pub variants_types : List (List ℕ × TFields) → List (List ℕ)
variants_types vs = flat_map (λ (v : List ℕ × TFields). shape_types v.1) vs

-- those of the fields of a type
abbrev pub body_types : TypeBody → List (List ℕ)
body_types (type_body.Enum vs) = variants_types vs
body_types (type_body.Struct fs) = shape_types fs

-- a declared type and those of its fields
abbrev pub item_types : TypeItem → List (List ℕ)
item_types t = t.name ∷ body_types t.body

-- ---- functions

-- those of parameters
abbrev pub param_types : List Ty → List (List ℕ)
param_types tys = map (λ (ty : Ty). ty.name) tys

-- what a function of the trait takes and answers
abbrev pub trait_types : TraitFn → List (List ℕ)
trait_types f = param_types f.params ++ f.results

-- the type of a made value
abbrev pub expr_types : TExpr → List (List ℕ)
expr_types (expr.Variant ty variant fields) = ty ∷ []
expr_types (expr.Struct ty fields) = ty ∷ []
expr_types (expr.Read r) = []
expr_types (expr.Call borrow call) = []
expr_types (expr.Some r) = []
expr_types (expr.Try source as_ref) = []
expr_types (expr.Tuple source part) = []

-- the type whose variant or struct a pattern is
abbrev pub pattern_types : TPat → List (List ℕ)
pattern_types (pattern.Variant ty variant binds more) = ty ∷ []
pattern_types (pattern.Struct ty binds more) = ty ∷ []
pattern_types (pattern.Const o) = []
pattern_types (pattern.Some local) = []

-- those of the patterns of arms
abbrev pub arms_types : Arms → List (List ℕ)
arms_types NoArm = []
arms_types (Arm pat inside arms) = pattern_types pat ++ arms_types arms

-- the types in a statement, the statements inside it left aside
abbrev pub own_types : Stmt → List (List ℕ)
own_types (Let n e) = expr_types e
own_types (LetList n call) = []
own_types (IfEq a b inside) = []
own_types (IfLet pat r inside) = pattern_types pat
own_types (Match r arms) = arms_types arms
own_types (Loop list item inside) = []
own_types (Return e) = expr_types e
own_types (Extend r) = []
own_types (Overflow inside limit) = []
own_types (Log term place) = []
own_types (Split inner inside) = []
own_types (Tail texts) = []

-- those in a statement and in the statements inside it
abbrev pub stmt_types : Stmt → List (List ℕ)
stmt_types s = of_stmt own_types s

-- those in a body
abbrev pub all_types : Body → List (List ℕ)
all_types b = of_body own_types b

-- those in the bodies of arms
abbrev pub inner_types : Arms → List (List ℕ)
inner_types arms = of_arms own_types arms

-- what a function takes and gives, and the types in its body
abbrev pub function_types : Function → List (List ℕ)
function_types f = param_types f.params ++ (f.result ∷ all_types f.body)

-- ---- programs

-- the types of a program
abbrev pub program_types : Program → List (List ℕ)
program_types p = flat_map item_types p.types ++ (flat_map trait_types p.trait_fns ++ flat_map function_types p.fns)

-- whether a type of this name occurs
abbrev pub occurs : Program → List ℕ → Bool
occurs p name = is_among name (program_types p)
