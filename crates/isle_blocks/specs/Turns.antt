-- In which order the tests of a rule are made that rules may share.
use Rattle.std.specs.Prelude.{◌≡◌, ℕ, ◌+◌, ◌*◌, ◌<◌, ◌≤◌, List, Some, Contains, slice_get, slice_index_or}
use Rattle.isle_core.specs.declared.BindingId.{BindingId}
use Rattle.isle_core.specs.declared.rule_sets.Binding.{Binding}
use Rattle.isle_core.specs.BindingParts.{over}

-- the turn at a place; the first if none stands there
abbrev pub turn_at : List ℕ → ℕ → ℕ
turn_at turns n = slice_index_or turns n 0

-- no binding has a turn before those of what it is made over
abbrev pub TurnsRise : List Binding → List ℕ → Type 0
TurnsRise bs turns =
    (i : ℕ) (b : Binding) (part : BindingId) → slice_get bs i ≡ Some b → Contains (over b) part → part.0 < i → turn_at turns part.0 ≤ turn_at turns i

-- where a binding stands among all: by its turn, and those of one turn by their numbers
abbrev pub rank : List ℕ → BindingId → ℕ
rank turns b = turn_at turns b.0 * 18446744073709551616 + b.0
