-- The forms of definitions that the rules of an assembler are made of, without their places.
use Rattle.std.specs.Prelude.{ℕ, pos, List, [], map, None, false}
use Rattle.isle_ast.specs.Tree.{Def, Expr, Pattern}
use Rattle.isle_ast.specs.Tree as tree
use Rattle.isle_ast.specs.Views.{patterns_of, exprs_of}
use Rattle.isle_writing.specs.Erased.{no_place}

-- variables as patterns
abbrev pub variables : List (List ℕ) → List Pattern
variables names = map (λ (name : List ℕ). tree.Var name) names

-- a term over these names
abbrev pub term_over : List ℕ → List (List ℕ) → Pattern
term_over term names = tree.Term term (patterns_of (variables names))

-- variables as expressions
abbrev pub named : List (List ℕ) → List Expr
named names = map (λ (name : List ℕ). tree.Name name) names

-- a call on these names
abbrev pub call_on : List ℕ → List (List ℕ) → Expr
call_on term names = tree.Call term (exprs_of (named names))

-- ( decl N ( T* ) T )
abbrev pub plain_decl : (term : List ℕ) (args : List (List ℕ)) (ret : List ℕ) → Def
plain_decl term args ret = tree.Decl term false false false false args ret no_place

-- ( extern constructor N N )
abbrev pub made_by_itself : List ℕ → Def
made_by_itself term = tree.ExternConstructor term term no_place

-- ( rule ( N P* ) E )
abbrev pub plain_rule : (term : List ℕ) → List Pattern → Expr → Def
plain_rule term args rhs = tree.Rule None (pos 0) term args [] rhs no_place
