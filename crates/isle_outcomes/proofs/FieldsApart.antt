-- Fields of another number are not equal.
use Rattle.std.proofs.Common.{◌≡◌, ℕ, suc, List, [], ◌∷◌, length, Bool, true, false, ◌&&◌, refl, ap, ◌∙◌}
use Rattle.std.specs.Str.{bytes_eq}
use Rattle.isle_core.specs.declared.values.Value.{Value as CodeValue}
use Rattle.isle_core.specs.SameInRun.{same_in_run, same_fields_in_run}
use Rattle.isle_core.specs.ValueViews.{value}
use Rattle.isle_outcomes.specs.Fields.{fields}

and_false : (b : Bool) → (b && false) ≡ false
and_false true = refl
and_false false = refl

pub fields_apart : (fs gs : List (List ℕ × CodeValue)) → (length fs ≡ length gs → ⊥) → same_fields_in_run (fields fs) (fields gs) ≡ false
unfolding same_fields_in_run
fields_apart [] [] h = absurd (h refl)
fields_apart [] (g ∷ gs) h = refl
fields_apart (f ∷ fs) [] h = refl
fields_apart (f ∷ fs) (g ∷ gs) h =
    ap (λ b. bytes_eq f.0 g.0 && same_in_run (value f.1) (value g.1) && b) (fields_apart fs gs (λ e. h (ap suc e))) ∙ and_false (bytes_eq f.0 g.0 && same_in_run (value f.1) (value g.1))
