-- How often each parameter stands in a template.
use Rattle.std.specs.Prelude.{◌==◌, ◌+◌, ℕ, suc, List, [], ◌∷◌, slice_get, if◌then◌else◌}
use Rattle.std.specs.Option.{unwrap_or}
use Rattle.isle_templates.specs.SameCount.{SameCount}

-- how often a number stands among these
abbrev pub times_in : List ℕ → ℕ → ℕ
times_in [] x = 0
times_in (y ∷ ys) x = if y == x then suc (times_in ys x) else times_in ys x

-- how often a number stands by a list with a count for each number, which ends where none stands any more
abbrev pub times_kept : List ℕ → ℕ → ℕ
times_kept times x = unwrap_or (slice_get times x) 0

-- the second list has for each number so many more than the first
pub record AreAdded (more : ℕ → ℕ) (old new : List ℕ) : Type 0 where
  pub added : (x : ℕ) → SameCount (times_kept new x) (times_kept old x + more x)

-- the list has for each number how often it stands among these
pub record CountsTimes (all times : List ℕ) : Type 0 where
  pub counts : (x : ℕ) → SameCount (times_kept times x) (times_in all x)
