use Rattle.std.proofs.Common.{◌≡◌, fold, map}
use Rattle.std.specs.Prelude.{drop}
use Rattle.isle_ast.specs.Views.{expr, exprs_of, lets_of}
use Rattle.isle_declarations.specs.Symbols.{added}
use Rattle.isle_declarations.specs.Names.{exprs_names, lets_names}
use Rattle.isle_declarations.specs.Bindings.{binding}
use Rattle.isle_declarations.proofs.expr_interning.+names.Given as goal

abbrev pub invariant-intern_exprs-loop-e : goal.invariant-intern_exprs-loop-e
invariant-intern_exprs-loop-e l = fold added l.fn.names (exprs_names (exprs_of (map expr l.fn.es))) ≡ fold added l.names (exprs_names (exprs_of (map expr (drop l.e-index l.fn.es))))

abbrev pub invariant-intern_lets-loop-l : goal.invariant-intern_lets-loop-l
invariant-intern_lets-loop-l l = fold added l.fn.names (lets_names (lets_of (map binding l.fn.lets))) ≡ fold added l.names (lets_names (lets_of (map binding (drop l.l-index l.fn.lets))))
