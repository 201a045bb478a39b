-- Values of another number are not equal.
use Rattle.std.proofs.Common.{◌≡◌, suc, List, [], ◌∷◌, length, Bool, true, false, ◌&&◌, refl, ap, ◌∙◌}
use Rattle.isle_core.specs.declared.values.Value.{Value as CodeValue}
use Rattle.isle_core.specs.SameInRun.{same_in_run}
use Rattle.isle_core.specs.Meaning.{same_values}
use Rattle.isle_core.specs.ValueViews.{value, values}

and_false : (b : Bool) → (b && false) ≡ false
and_false true = refl
and_false false = refl

pub values_apart : (vs ws : List CodeValue) → (length vs ≡ length ws → ⊥) → same_values (values vs) (values ws) ≡ false
values_apart [] [] h = absurd (h refl)
values_apart [] (w ∷ ws) h = refl
values_apart (v ∷ vs) [] h = refl
values_apart (v ∷ vs) (w ∷ ws) h =
    ap (λ b. same_in_run (value v) (value w) && b) (values_apart vs ws (λ e. h (ap suc e))) ∙ and_false (same_in_run (value v) (value w))
