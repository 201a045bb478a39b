-- Patterns and expressions of lists can be written, and how deep they nest.
use Rattle.std.proofs.Common.{ℕ, suc, ◌≤◌, List, [], ◌∷◌, arith}
use Rattle.std.specs.List.{AllByRecursion}
use Rattle.isle_ast.specs.Tree.{Pattern, Expr}
use Rattle.isle_ast.specs.Tree as tree
use Rattle.isle_ast.specs.Views.{exprs_of, patterns_of}
use Rattle.isle_spelling.specs.Identifier.{IsIdentifier}
use Rattle.isle_writing.specs.Height.{expr_height, exprs_height, pattern_height, patterns_height}
use Rattle.isle_writing.specs.Writable.{AreExprs, ArePatterns, IsExpr, IsPattern}
use Rattle.isle_prelude.specs.ClifFiles.{call_on, term_over, variable_exprs, variables}
use Rattle.isle_prelude.proofs.FixedNames.{IsHead}
use Rattle.isle_meta.proofs.NameWords.{identifier_name, identifier_variable}

-- ---- patterns

-- a pattern that can be written, and nests no deeper
pub record Takes (most : ℕ) (p : Pattern) : Type 0 where
  pub here : IsPattern p
  pub shallow : pattern_height p ≤ most

-- so are these
abbrev pub AllTake : ℕ → List Pattern → Type 0
AllTake most = AllByRecursion (Takes most)

pub patterns_take : (most : ℕ) (ps : List Pattern) → AllTake most ps → ArePatterns (patterns_of ps)
patterns_take most [] h = tt
patterns_take most (p ∷ ps) h = (h.0.here, patterns_take most ps h.1)

pub patterns_shallow : (most : ℕ) (ps : List Pattern) → AllTake most ps → patterns_height (patterns_of ps) ≤ most
patterns_shallow most [] h = omega arith
patterns_shallow most (p ∷ ps) h = omega (arith, h.0.shallow, patterns_shallow most ps h.1)

-- a term over such patterns
pub term_takes : (most : ℕ) (term : List ℕ) (ps : List Pattern) → IsHead term → AllTake most ps → Takes (suc most) (tree.Term term (patterns_of ps))
term_takes most term ps h k = record { here = (h.word, h.taken, patterns_take most ps k); shallow = omega (arith, patterns_shallow most ps k) }

pub variable_takes : (most : ℕ) (name : List ℕ) → IsIdentifier name → Takes most (tree.Var name)
variable_takes most name h = record { here = identifier_variable name h; shallow = omega arith }

pub variables_take : (most : ℕ) (names : List (List ℕ)) → AllByRecursion IsIdentifier names → AllTake most (variables names)
variables_take most [] h = tt
variables_take most (name ∷ names) h = (variable_takes most name h.0, variables_take most names h.1)

-- a term over variables
pub over_takes : (most : ℕ) (term : List ℕ) (names : List (List ℕ)) → IsHead term → AllByRecursion IsIdentifier names → Takes (suc most) (term_over term names)
over_takes most term names h k = term_takes most term (variables names) h (variables_take most names k)

-- ---- expressions

-- an expression that can be written, and nests no deeper
pub record Makes (most : ℕ) (e : Expr) : Type 0 where
  pub here : IsExpr e
  pub shallow : expr_height e ≤ most

-- so are these
abbrev pub AllMake : ℕ → List Expr → Type 0
AllMake most = AllByRecursion (Makes most)

exprs_make : (most : ℕ) (es : List Expr) → AllMake most es → AreExprs (exprs_of es)
exprs_make most [] h = tt
exprs_make most (e ∷ es) h = (h.0.here, exprs_make most es h.1)

exprs_shallow : (most : ℕ) (es : List Expr) → AllMake most es → exprs_height (exprs_of es) ≤ most
exprs_shallow most [] h = omega arith
exprs_shallow most (e ∷ es) h = omega (arith, h.0.shallow, exprs_shallow most es h.1)

-- a call on such expressions
pub call_makes : (most : ℕ) (term : List ℕ) (es : List Expr) → IsHead term → AllMake most es → Makes (suc most) (tree.Call term (exprs_of es))
call_makes most term es h k = record { here = (h.word, h.made, exprs_make most es k); shallow = omega (arith, exprs_shallow most es k) }

pub name_makes : (most : ℕ) (name : List ℕ) → IsIdentifier name → Makes most (tree.Name name)
name_makes most name h = record { here = identifier_name name h; shallow = omega arith }

pub names_make : (most : ℕ) (names : List (List ℕ)) → AllByRecursion IsIdentifier names → AllMake most (variable_exprs names)
names_make most [] h = tt
names_make most (name ∷ names) h = (name_makes most name h.0, names_make most names h.1)

-- a call on variables
pub call_on_makes : (most : ℕ) (term : List ℕ) (names : List (List ℕ)) → IsHead term → AllByRecursion IsIdentifier names → Makes (suc most) (call_on term names)
call_on_makes most term names h k = call_makes most term (variable_exprs names) h (names_make most names k)
