use Rattle.std.proofs.Common.{◌≡◌, ◌++◌, drop}
use Rattle.isle_core.specs.Rule.{Environment}
use Rattle.isle_core.specs.ValueViews.{values}
use Rattle.isle_values.specs.Views.{seen}
use Rattle.isle_run_inputs.specs.ValuesAt.{values_at}
use Rattle.isle_run_inputs.proofs.values.each_at.Given as goal

abbrev pub invariant-loop-index : goal.invariant-loop-index
invariant-loop-index l =
    (env : Environment) → env.types ≡ l.fn.makers → values_at env l.fn.tys (seen l.fn.given) ≡ values l.found.items ++ values_at env (drop l.index l.fn.tys) (seen (drop l.index l.fn.given))
