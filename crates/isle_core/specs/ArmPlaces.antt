-- The places of an arm: bindings of the parts that its constraint shows.
use Rattle.std.specs.Prelude.{◌≡◌, ℕ, suc, ◌≤◌, List, [], ◌∷◌, ◌++◌, length, Option, Some, None, IsSomeAnd, slice_get}
use Rattle.isle_base.specs.declared.ids.BindingId.{BindingId}
use Rattle.isle_base.specs.declared.ids.VariantId.{VariantId}
use Rattle.isle_core.specs.declared.rule_sets.Binding.{Binding}
use Rattle.isle_core.specs.declared.rule_sets.Binding.TheVariants as binding
use Rattle.isle_core.specs.declared.rule_sets.Constraint.{Constraint}
use Rattle.isle_core.specs.declared.rule_sets.Constraint.TheVariants as constraint
use Rattle.isle_core.specs.declared.types.Fields.{Fields}
use Rattle.isle_core.specs.declared.types.Fields.TheVariants as fields
use Rattle.isle_core.specs.declared.types.TypeDef.{TypeDef}
use Rattle.isle_core.specs.declared.types.TypeDef.TheVariants as def
use Rattle.isle_core.specs.declared.types.Variant.{Variant}
use Rattle.isle_core.specs.Setting.{Setting}

-- how many fields there are
abbrev pub field_count : Fields → ℕ
field_count fields.Unit = 0
field_count (fields.Struct named) = length named
field_count (fields.Tuple tys) = length tys

-- a variant of an enum of this number
abbrev pub variant_of : TypeDef → VariantId → Option Variant
variant_of (def.Enum name is_extern is_nodebug variants pos) variant = slice_get variants variant.0
variant_of (def.Builtin ty) variant = None
variant_of (def.Primitive name rust pos) variant = None
variant_of (def.Struct name is_extern is_nodebug fields pos) variant = None

-- a variant of an enum that has at least this many fields
abbrev pub HasFields : TypeDef → VariantId → ℕ → Type 0
HasFields d variant n = IsSomeAnd (variant_of d variant) (λ (v : Variant). n ≤ field_count v.fields)

-- a struct that has at least this many
abbrev pub IsStructOf : TypeDef → ℕ → Type 0
IsStructOf (def.Struct name is_extern is_nodebug fields pos) n = n ≤ field_count fields
IsStructOf (def.Builtin ty) n = ⊥
IsStructOf (def.Primitive name rust pos) n = ⊥
IsStructOf (def.Enum name is_extern is_nodebug variants pos) n = ⊥

-- what stands in a place, if anything, is this binding
abbrev pub IsPart : Setting → Option BindingId → Binding → Type 0
IsPart s None part = Unit {0}
IsPart s (Some b) part = slice_get s.bindings b.0 ≡ Some part

-- the places from the i-th on are of the parts of these numbers
abbrev pub AreParts : Setting → (ℕ → Binding) → ℕ → List (Option BindingId) → Type 0
AreParts s part i [] = Unit {0}
AreParts s part i (p ∷ places) = IsPart s p (part i) × AreParts s part (suc i) places

-- the places of a constraint on the source: at most one for each field, at most one with Some, none with a constant
abbrev pub ArePlacesOf : Setting → BindingId → Constraint → List (Option BindingId) → Type 0
ArePlacesOf s source (constraint.Variant ty variant) places =
    IsSomeAnd (slice_get s.env.types.types ty.0) (λ d. HasFields d variant (length places)) × AreParts s (λ i. binding.MatchVariant source variant (record { 0 = i })) 0 places
ArePlacesOf s source (constraint.Struct ty) places = IsSomeAnd (slice_get s.env.types.types ty.0) (λ d. IsStructOf d (length places)) × AreParts s (λ i. binding.ExtractStruct source (record { 0 = i })) 0 places
ArePlacesOf s source constraint.Some places = (length places ≤ 1) × AreParts s (λ i. binding.MatchSome source) 0 places
ArePlacesOf s source (constraint.ConstBool val) places = places ≡ []
ArePlacesOf s source (constraint.ConstInt val ty) places = places ≡ []
ArePlacesOf s source (constraint.ConstPrim val) places = places ≡ []

-- the bindings that are bound within an arm
abbrev pub bound_within : List ℕ → List (Option BindingId) → List ℕ
bound_within bound [] = bound
bound_within bound (None ∷ places) = bound_within bound places
bound_within bound (Some b ∷ places) = bound_within (bound ++ b.0 ∷ []) places
