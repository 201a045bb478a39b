-- The fields of a tuple, by number.
use Rattle.std.proofs.Common.{◌≡◌, ℕ, zero, suc, ◌+◌, List, [], ◌∷◌, length, Option, Some, None, refl, sym, ap, ◌∙◌, arith}
use Rattle.std.specs.Prelude.{slice_get, option_map}
use Rattle.std.specs.Fmt.{decimal}
use Rattle.isle_base.specs.declared.ids.TypeId.{TypeId}
use Rattle.isle_core.specs.declared.types.Fields.{Fields}
use Rattle.isle_core.specs.declared.types.Fields.TheVariants as fields
use Rattle.isle_core.specs.HasType.{tuple_fields, typed_fields}
use Rattle.isle_core.specs.Rule.{Environment}

-- as many as types
pub tuple_length : (k : ℕ) (tys : List TypeId) → length tys ≡ length (tuple_fields k tys)
tuple_length k [] = refl
tuple_length k (ty ∷ tys) = ap suc (tuple_length (suc k) tys)

-- the i-th from k on is named by its number
tuple_at : (k : ℕ) (tys : List TypeId) (i : ℕ) → option_map (λ (ty : TypeId). (decimal (k + i), ty)) (slice_get tys i) ≡ slice_get (tuple_fields k tys) i
tuple_at k [] zero = refl
tuple_at k [] (suc i) = refl
tuple_at k (ty ∷ tys) zero = ap (λ j. Some (decimal j, ty)) (omega arith)
tuple_at k (ty ∷ tys) (suc i) = ap (λ j. option_map (λ (t : TypeId). (decimal j, t)) (slice_get tys i)) next ∙ tuple_at (suc k) tys i
  where
    next : k + suc i ≡ suc k + i
    next = omega arith

-- the fields of a tuple are as many as its types
pub tuple_count : (env : Environment) (fs : Fields) (tys : List TypeId) (n : ℕ) → fs ≡ fields.Tuple tys → n ≡ length tys → n ≡ length (typed_fields env fs)
tuple_count env fs tys n is same = same ∙ tuple_length 0 tys ∙ ap (λ f. length (typed_fields env f)) (sym is)

-- what stands at a number
placed : (env : Environment) (fs : Fields) (tys : List TypeId) (i : ℕ) → fs ≡ fields.Tuple tys → option_map (λ (ty : TypeId). (decimal i, ty)) (slice_get tys i) ≡ slice_get (typed_fields env fs) i
placed env fs tys i is = ap (λ j. option_map (λ (ty : TypeId). (decimal j, ty)) (slice_get tys i)) own ∙ tuple_at 0 tys i ∙ ap (λ f. slice_get (typed_fields env f) i) (sym is)
  where
    own : i ≡ 0 + i
    own = omega arith

-- a field of a tuple that is there
pub tuple_found : (env : Environment) (fs : Fields) (tys : List TypeId) (i : ℕ) (text : List ℕ) (ty : TypeId) → fs ≡ fields.Tuple tys → Some ty ≡ slice_get tys i → text ≡ decimal i → ◌≡◌ {A = Option (List ℕ × TypeId)} (Some (text, ty)) (slice_get (typed_fields env fs) i)
tuple_found env fs tys i text ty is there named = ap (λ t. Some (t, ty)) named ∙ ap (option_map (λ (t : TypeId). (decimal i, t))) there ∙ placed env fs tys i is

-- one that is not
pub tuple_absent : (env : Environment) (fs : Fields) (tys : List TypeId) (i : ℕ) → fs ≡ fields.Tuple tys → None ≡ slice_get tys i → ◌≡◌ {A = Option (List ℕ × TypeId)} None (slice_get (typed_fields env fs) i)
tuple_absent env fs tys i is there = ap (option_map (λ (t : TypeId). (decimal i, t))) there ∙ placed env fs tys i is
