use Rattle.std.proofs.Common.{◌≡◌, map}
use Rattle.isle_ast.specs.Views.{lets_of}
use Rattle.isle_declarations.specs.Bindings.{binding}
use Rattle.isle_terms.specs.Whole.{whole}
use Rattle.isle_terms.specs.Locals.{locals_of}
use Rattle.isle_sema.specs.ExprType.{typed_lets}
use Rattle.isle_sema.proofs.TypesOwned.{typed_left}
use Rattle.isle_sema.proofs.expr_types.bind_each.Given as goal

abbrev pub invariant-loop-l : goal.invariant-loop-l
invariant-loop-l l = typed_lets (whole l.known) (locals_of l.fn.vars) (lets_of (map binding l.lets)) ≡ typed_left (whole l.known) (locals_of l.vars) l.lets l.l-index
