-- What a sink is, apart from how it is kept.
use Rattle.std.specs.Prelude.{◌≡◌, ℕ, ◌<◌, List, ◌++◌, length, take, Option}
use Rattle.std.specs.Option.{option_map}

-- a sink has these bytes after what it had, if it tells
abbrev pub Took : Option (List ℕ) → Option (List ℕ) → List ℕ → Type 0
Took old new bytes = new ≡ option_map (λ had. had ++ bytes) old

-- a sink has a front of these bytes after what it had, and not all of them
abbrev pub TookPart : Option (List ℕ) → Option (List ℕ) → List ℕ → Type 0
TookPart old new bytes = (n : ℕ) × (n < length bytes) × Took old new (take n bytes)
