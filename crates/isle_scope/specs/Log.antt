-- How the code finds where a local was bound.
use Rattle.std.specs.Prelude.{◌≡◌, ℕ, List, [], ◌∷◌, ◌++◌, map, Option}
use Rattle.isle_scope.specs.declared.entry.Entry.{Entry}
use Rattle.isle_scope.specs.Scope.{last_place}

-- the locals of a log
abbrev pub locals_of : List Entry → List ℕ
locals_of log = map (λ (e : Entry). e.local) log

-- each entry after these locals has where its local was bound before it
abbrev pub Undoes : List ℕ → List Entry → Type 0
Undoes bound [] = Unit {0}
Undoes bound (e ∷ es) = (e.hidden ≡ last_place bound e.local) × Undoes (bound ++ e.local ∷ []) es

-- each local has the place where it is bound last, and the log where it was bound before
pub record Finds (log : List Entry) (place : ℕ → Option ℕ) : Type 0 where
  pub now : (n : ℕ) → place n ≡ last_place (locals_of log) n
  pub before : Undoes [] log
