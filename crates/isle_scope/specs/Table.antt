-- A table of locals: what each binding holds.
use Rattle.std.specs.Prelude.{ℕ, List, fold, Option, Some, None, ◌==◌, slice_get, if◌then◌else◌}

-- what is bound last counts
abbrev pub newest : {A : Type 0} → ℕ → Option A → ℕ × A → Option A
newest n x pair = if pair.0 == n then Some pair.1 else x

-- what a local holds, among the bindings in their order
abbrev pub held : {A : Type 0} → List (ℕ × A) → ℕ → Option A
held bound n = fold (newest n) None bound

-- what stands beside a scope at a place
abbrev pub at_place : {A : Type 0} → List A → Option ℕ → Option A
at_place xs None = None
at_place xs (Some place) = slice_get xs place
