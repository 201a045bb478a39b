-- What has no fields.
use Rattle.std.proofs.Common.{◌≡◌, ℕ, List, [], ◌∷◌, length, refl, sym, arith, ne_eqb}
use Rattle.std.specs.Prelude.{◌==◌}
use Rattle.isle_core.specs.declared.values.Value.{Value as CodeValue}
use Rattle.isle_core.specs.SameInRun.{same_fields_in_run}
use Rattle.isle_core.specs.Value.{NoField}
use Rattle.isle_outcomes.specs.Fields.{fields}

pub no_fields : (fs : List (List ℕ × CodeValue)) → same_fields_in_run (fields fs) NoField ≡ (length fs == 0)
unfolding same_fields_in_run
no_fields [] = refl
no_fields (f ∷ fs) = sym (ne_eqb (length (f ∷ fs)) 0 (omega arith))
