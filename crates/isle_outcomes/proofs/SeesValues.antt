-- What a contract sees of each value.
use Rattle.std.proofs.Common.{◌≡◌, ℕ, ℤ, List, [], ◌∷◌, map, Bool, refl, sym, ap, ◌∙◌}
use Rattle.isle_core.specs.declared.types.IntType.{IntType}
use Rattle.isle_core.specs.declared.values.Value.{Value as CodeValue}
use Rattle.isle_core.specs.declared.values.Value.TheVariants as code
use Rattle.isle_core.specs.declared.values.Value.TheFolds.{fold-roll-Value}
use Rattle.isle_core.specs.declared.values.Value.TheShapes.{former-Value-Variant-2-at-2}
use Rattle.isle_core.specs.Value.{Value, Truth, Int, Opaque, Variant, Struct, Field}
use Rattle.isle_core.specs.ValueViews.{value, value_step, fields_of}
use Rattle.isle_outcomes.specs.Fields.{fields}

pub value-bool : (b : Bool) → value (code.Bool b) ≡ Truth b
value-bool b = ap value (sym (code.rolls-Bool b)) ∙ fold-roll-Value Value value_step _

pub value-int : (ty : IntType) (n : ℤ) → value (code.Int ty n) ≡ Int ty n
value-int ty n = ap value (sym (code.rolls-Int ty n)) ∙ fold-roll-Value Value value_step _

pub value-opaque : (ty : List ℕ) (n : ℤ) → value (code.Opaque ty n) ≡ Opaque ty n
value-opaque ty n = ap value (sym (code.rolls-Opaque ty n)) ∙ fold-roll-Value Value value_step _

variant_map : (xs : List (List ℕ × CodeValue)) → fields_of (map ((former-Value-Variant-2-at-2).map CodeValue Value value) xs) ≡ fields xs
variant_map [] = refl
variant_map (x ∷ more) = ap (λ m. Field x.0 (value x.1) m) (variant_map more)

pub value-variant : (ty variant : List ℕ) (xs : List (List ℕ × CodeValue)) → value (code.Variant ty variant xs) ≡ Variant ty variant (fields xs)
value-variant ty variant xs = ap value (sym (code.rolls-Variant ty variant xs)) ∙ fold-roll-Value Value value_step _ ∙ ap (Variant ty variant) (variant_map xs)

pub value-struct : (ty : List ℕ) (xs : List (List ℕ × CodeValue)) → value (code.Struct ty xs) ≡ Struct ty (fields xs)
value-struct ty xs = ap value (sym (code.rolls-Struct ty xs)) ∙ fold-roll-Value Value value_step _ ∙ ap (Struct ty) (variant_map xs)

pub ruleset sees_values = (value-bool, value-int, value-opaque, value-variant, value-struct)
