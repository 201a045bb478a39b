-- Where a binding stands among others.
use Rattle.std.specs.Prelude.{◌≡◌, ℕ, ◌<◌, List, Option, Some, None, Contains, slice_get}
use Rattle.isle_base.specs.declared.ids.BindingId.{BindingId}
use Rattle.isle_core.specs.declared.rule_sets.Binding.{Binding}

-- the first place of a binding, or that it is none of these
abbrev pub IsPlaceOf : List Binding → Binding → Option BindingId → Type 0
IsPlaceOf bindings b None = Contains bindings b → ⊥
IsPlaceOf bindings b (Some place) = (slice_get bindings place.0 ≡ Some b) × ((earlier : ℕ) → earlier < place.0 → slice_get bindings earlier ≡ Some b → ⊥)
