-- Terms that the preludes give to something else.
use Rattle.std.proofs.Common.{◌≡◌, ℕ, List, Bool, true, false, sym, ap, ◌∙◌}
use Rattle.std.specs.Prelude.{◌||◌}
use Rattle.isle_numerics.specs.Definitions.{numeric_terms}
use Rattle.isle_meta.specs.TableNames.{is_among, is_array_term, is_reserved_term, prelude_terms}

-- a term of the numeric prelude is reserved
pub numeric_reserved : (name : List ℕ) → is_among name prelude_terms ≡ false → is_among name numeric_terms ≡ true → true ≡ is_reserved_term name
numeric_reserved name e f = sym (ap (λ b. (b || is_among name numeric_terms) || is_array_term name) e ∙ ap (λ b. b || is_array_term name) f)

-- else it is reserved if it is a term of arrays
pub array_reserved : (name : List ℕ) (array : Bool) → is_among name prelude_terms ≡ false → is_among name numeric_terms ≡ false
    → array ≡ is_array_term name → array ≡ is_reserved_term name
array_reserved name array e f a = a ∙ sym (ap (λ b. (b || is_among name numeric_terms) || is_array_term name) e ∙ ap (λ b. b || is_array_term name) f)
