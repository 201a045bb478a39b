-- The type of an expression where none is expected, whether its parts are right or not.
use Rattle.std.specs.Prelude.{List, Option, Some, None}
use Rattle.isle_core.specs.declared.TypeId.{TypeId}
use Rattle.isle_core.specs.RightSide.{bool_type}
use Rattle.isle_ast.specs.Tree as tree
use Rattle.isle_ast.specs.Tree.{Expr, Lets, NoLet, ALet}
use Rattle.isle_terms.specs.Locals.{local_named, bound_local}
use Rattle.isle_terms.specs.Scope.{Local}
use Rattle.isle_terms.specs.TypeNames.{type_named}
use Rattle.isle_terms.specs.Whole.{Whole, termed, ret_type, constant_type}
use Rattle.isle_sema.specs.ExprPass.{known_type}

-- the variables of a `let` after others, each with the type that is written; their numbers tell nothing here
abbrev pub typed_lets : Whole → List Local → Lets → List Local
typed_lets w locals NoLet = locals
typed_lets w locals (ALet var ty e ls) = typed_lets w (bound_local locals var (type_named w.defs ty) 0) ls

-- an integer has none; a variable has the type that it was bound at, a constant its own, a call that of its term, and a `let` that of its
-- inner expression
abbrev pub own_type : Whole → List Local → Expr → Option TypeId
own_type w locals (tree.Number n) = None
own_type w locals (tree.Fact b) = Some bool_type
own_type w locals (tree.Name name) = known_type (local_named locals name)
own_type w locals (tree.Call name es) = ret_type w (termed w name)
own_type w locals (tree.Constant name) = constant_type w name
own_type w locals (tree.Let ls inner) = own_type w (typed_lets w locals ls) inner
