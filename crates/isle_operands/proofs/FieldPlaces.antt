-- The types of the fields of variants and structs, by number.
use Rattle.std.proofs.Common.{◌≡◌, ℕ, zero, suc, List, [], ◌∷◌, map, Option, refl, sym, ap, ◌∙◌}
use Rattle.std.specs.Prelude.{slice_get, option_map}
use Rattle.isle_core.specs.declared.TypeId.{TypeId}
use Rattle.isle_core.specs.declared.types.Field.{Field as FieldDef}
use Rattle.isle_core.specs.declared.types.Fields.{Fields}
use Rattle.isle_core.specs.declared.types.Fields.TheVariants as fields
use Rattle.isle_core.specs.HasType.{tuple_fields, typed_fields}
use Rattle.isle_core.specs.Rule.{Environment}

-- the types of the fields of a tuple
tuple_types : (k : ℕ) (tys : List TypeId) (i : ℕ) → slice_get tys i ≡ slice_get (map (λ (f : List ℕ × TypeId). f.1) (tuple_fields k tys)) i
tuple_types k [] zero = refl
tuple_types k [] (suc i) = refl
tuple_types k (ty ∷ tys) zero = refl
tuple_types k (ty ∷ tys) (suc i) = tuple_types (suc k) tys i

-- of named ones
named_types : (env : Environment) (named : List FieldDef) (i : ℕ) → option_map (λ (f : FieldDef). f.ty) (slice_get named i) ≡ slice_get (map (λ (f : List ℕ × TypeId). f.1) (typed_fields env (fields.Struct named))) i
named_types env [] zero = refl
named_types env [] (suc i) = refl
named_types env (f ∷ fs) zero = refl
named_types env (f ∷ fs) (suc i) = named_types env fs i

pub type_in_tuple : (env : Environment) (fs : Fields) (tys : List TypeId) (i : ℕ) (r : Option TypeId) → fs ≡ fields.Tuple tys → r ≡ slice_get tys i → r ≡ slice_get (map (λ (f : List ℕ × TypeId). f.1) (typed_fields env fs)) i
type_in_tuple env fs tys i r is at = at ∙ tuple_types 0 tys i ∙ ap (λ f. slice_get (map (λ (g : List ℕ × TypeId). g.1) (typed_fields env f)) i) (sym is)

pub type_in_named : (env : Environment) (fs : Fields) (named : List FieldDef) (i : ℕ) (r : Option TypeId) → fs ≡ fields.Struct named → r ≡ option_map (λ (f : FieldDef). f.ty) (slice_get named i) → r ≡ slice_get (map (λ (f : List ℕ × TypeId). f.1) (typed_fields env fs)) i
type_in_named env fs named i r is at = at ∙ named_types env named i ∙ ap (λ f. slice_get (map (λ (g : List ℕ × TypeId). g.1) (typed_fields env f)) i) (sym is)
