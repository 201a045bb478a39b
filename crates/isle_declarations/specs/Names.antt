-- The names in definitions, from left to right.
use Rattle.std.specs.Prelude.{ℕ, List, [], ◌∷◌, ◌++◌, Option, flat_map, option_to_list}
use Rattle.isle_ast.specs.declared.tree.AstBody.{AstBody}
use Rattle.isle_ast.specs.declared.tree.AstBody.TheVariants.{Primitive, Enum, Struct}
use Rattle.isle_ast.specs.declared.tree.AstFields.{AstFields}
use Rattle.isle_ast.specs.declared.tree.AstFields.TheVariants.{Unit, Named, Tuple}
use Rattle.isle_ast.specs.declared.tree.AstVariant.{AstVariant}
use Rattle.isle_ast.specs.Tree.{Pattern, Patterns, NoPattern, APattern, Expr, Exprs, NoExpr, AnExpr, Lets, NoLet, ALet, IfLet, Def, TypeDecl, Decl, ExternConstructor, ExternExtractor, ExternConst, Extractor, Converter, Rule, Passed}
use Rattle.isle_ast.specs.Tree as tree

-- the names in a pattern, its own before those of its parts; `_` is none
abbrev mutual
  pub pattern_names : Pattern → List (List ℕ)
  pattern_names (tree.Int n) = []
  pattern_names (tree.Truth b) = []
  pattern_names (tree.Const name) = name ∷ []
  pattern_names tree.Wildcard = []
  pattern_names (tree.Var name) = name ∷ []
  pattern_names (tree.Bind name p) = name ∷ pattern_names p
  pattern_names (tree.And ps) = patterns_names ps
  pattern_names (tree.Term name ps) = name ∷ patterns_names ps

  -- the names in patterns
  pub patterns_names : Patterns → List (List ℕ)
  patterns_names NoPattern = []
  patterns_names (APattern p ps) = pattern_names p ++ patterns_names ps

-- the names in an expression, a call's own before those of its arguments
abbrev mutual
  pub expr_names : Expr → List (List ℕ)
  expr_names (tree.Number n) = []
  expr_names (tree.Fact b) = []
  expr_names (tree.Constant name) = name ∷ []
  expr_names (tree.Name name) = name ∷ []
  expr_names (tree.Let ls e) = lets_names ls ++ expr_names e
  expr_names (tree.Call name es) = name ∷ exprs_names es

  -- the names in expressions
  pub exprs_names : Exprs → List (List ℕ)
  exprs_names NoExpr = []
  exprs_names (AnExpr e es) = expr_names e ++ exprs_names es

  -- the names in variables of a `let`: of each its own, its type's, and those in its value
  pub lets_names : Lets → List (List ℕ)
  lets_names NoLet = []
  lets_names (ALet var ty e ls) = var ∷ ty ∷ expr_names e ++ lets_names ls

-- the names in a condition
abbrev pub iflet_names : IfLet → List (List ℕ)
iflet_names c = pattern_names c.lhs ++ expr_names c.rhs

-- the names in the fields of a variant or a struct: each field's, before its type's
abbrev pub shape_names : AstFields → List (List ℕ)
shape_names Unit = []
shape_names (Named fields) = flat_map (λ (f : List ℕ × List ℕ). f.0 ∷ f.1 ∷ []) fields
shape_names (Tuple types) = types

-- the names in a variant
abbrev pub shaped_names : AstVariant → List (List ℕ)
shaped_names v = v.name ∷ shape_names v.fields

-- the names in what a type is declared as
abbrev pub body_names : AstBody → List (List ℕ)
body_names (Primitive rust) = rust ∷ []
body_names (Enum variants) = flat_map shaped_names variants
body_names (Struct fields) = shape_names fields

-- the names in a rule: its own, its term's, and those in its patterns, its conditions and its right side
abbrev pub rule_names : Option (List ℕ) → List ℕ → List Pattern → List IfLet → Expr → List (List ℕ)
rule_names name term args iflets rhs = option_to_list name ++ term ∷ flat_map pattern_names args ++ flat_map iflet_names iflets ++ expr_names rhs

-- the names in a definition; a list that is passed over has none
abbrev pub def_names : Def → List (List ℕ)
def_names (TypeDecl name is_extern is_nodebug body pos) = name ∷ body_names body
def_names (Decl term pure multi partial recursive args ret pos) = term ∷ args ++ ret ∷ []
def_names (ExternConstructor term func pos) = term ∷ func ∷ []
def_names (ExternExtractor term func infallible pos) = term ∷ func ∷ []
def_names (ExternConst name ty pos) = name ∷ ty ∷ []
def_names (Extractor term params template pos) = term ∷ params ++ pattern_names template
def_names (Converter from to term pos) = from ∷ to ∷ term ∷ []
def_names (Rule name prio term args iflets rhs pos) = rule_names name term args iflets rhs
def_names (Passed head pos) = []
