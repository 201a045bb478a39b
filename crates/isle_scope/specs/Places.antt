-- Where each local was bound last, as the code keeps it.
use Rattle.std.specs.Prelude.{◌≡◌, ℕ, List, Option, Some, None, ◌==◌, nat_lt, slice_get, if◌then◌else◌}
use Rattle.std.specs.Ordering.{nat_cmp}
use Rattle.std.specs.BTreeMap.{get}
use Rattle.isle_scope.specs.declared.places.Places.{Places}

-- locals of smaller numbers stand in the list, others in the map
unfoldable pub near_limit : ℕ
near_limit = 4096

-- what may stand at a number, if it does
abbrev pub flat : Option (Option ℕ) → Option ℕ
flat None = None
flat (Some place) = place

-- the place that a list has of a local
abbrev pub look_near : List (Option ℕ) → ℕ → Option ℕ
look_near near n = flat (slice_get near n)

-- the place of a local
abbrev pub look_in : Places → ℕ → Option ℕ
look_in p n = if nat_lt n near_limit then look_near p.near.items n else get nat_cmp p.far n

-- a local gets this place, or none, and each other one keeps its own
abbrev pub Sets : (old new : ℕ → Option ℕ) → (local : ℕ) → Option ℕ → Type 0
Sets old new local place = (n : ℕ) → new n ≡ (if local == n then place else old n)

-- each local keeps its place
abbrev pub AreSame : (old new : ℕ → Option ℕ) → Type 0
AreSame old new = (n : ℕ) → new n ≡ old n
