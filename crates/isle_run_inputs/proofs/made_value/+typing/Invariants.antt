use Rattle.std.proofs.Common.{◌≡◌}
use Rattle.std.specs.Prelude.{option_map}
use Rattle.isle_core.specs.HasType.{typed_fields}
use Rattle.isle_core.specs.Rule.{Environment}
use Rattle.isle_values.specs.Views.{seen}
use Rattle.isle_run_inputs.specs.MakerViews.{fields_onto}
use Rattle.isle_run_inputs.specs.ValuesAt.{fields_in}
use Rattle.isle_run_inputs.proofs.InFields.{left}
use Rattle.isle_run_inputs.proofs.made_value.+typing.Given as goal

-- what was found stands in front of what is left
abbrev pub invariant-fields_in-loop-index : goal.invariant-fields_in-loop-index
invariant-fields_in-loop-index l =
    (env : Environment) → env.types ≡ l.fn.makers → fields_in env (typed_fields env l.fn.given) (seen l.fn.parts) ≡ option_map (fields_onto l.found.items) (left env (typed_fields env l.fn.given) l.fn.parts l.index)
