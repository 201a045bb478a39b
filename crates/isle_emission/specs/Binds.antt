-- The field of one number in a pattern.
use Rattle.std.specs.Prelude.{◌≡◌, ℕ, ◌+◌, List, ◌∷◌, ◌++◌, drop, Bool, true, false, Option, Some, None, option_map, slice_get}
use Rattle.isle_core.specs.declared.BindingId.{BindingId}
use Rattle.isle_core.specs.declared.TypeId.{TypeId}
use Rattle.isle_core.specs.Rule.{Environment}
use Rattle.isle_tree.specs.declared.tree.TBind.{TBind}
use Rattle.isle_simulation.specs.Patterns.{field_binds}
use Rattle.isle_simulation.specs.References.{is_declared}

-- a field bound to a local
abbrev pub bind_of : Environment → BindingId → List ℕ × TypeId → TBind
bind_of env local f = record { field = f.0; by_ref = is_declared env f.1; local = local.0 }

-- that of this number, if there is one
abbrev pub field_bind : Environment → List (List ℕ × TypeId) → ℕ → BindingId → Option TBind
field_bind env fields i local = option_map (bind_of env local) (slice_get fields i)

-- a place binds nothing, or there is none
abbrev pub is_unbound : Option (Option BindingId) → Bool
is_unbound (Some (Some b)) = false
is_unbound (Some None) = true
is_unbound None = true

-- no place binds the field of this number
abbrev pub is_left_out : List (Option BindingId) → ℕ → Bool
is_left_out places i = is_unbound (slice_get places i)

-- binds before others
abbrev pub onto_binds : List TBind → Option (List TBind) → Option (List TBind)
onto_binds binds None = None
onto_binds binds (Some others) = Some (binds ++ others)

-- what a place binds of the field of this number was put after binds
abbrev pub IsBoundAt : Environment → List (List ℕ × TypeId) → ℕ → Option BindingId → (old new : List TBind) → Type 0
IsBoundAt env fields i place old new =
    (places : List (Option BindingId)) → onto_binds new (field_binds env (drop (i + 1) fields) places) ≡ onto_binds old (field_binds env (drop i fields) (place ∷ places))
