-- Which unit has a name: the first of them.
use Rattle.std.specs.Prelude.{◌≡◌, ◌≢◌, ◌<◌, ℕ, List, Option, Some, None, find, slice_get}
use Rattle.std.specs.Str.{bytes_eq}
use Rattle.isle_units.specs.declared.compilation.IsleCompilation.{IsleCompilation}
use Rattle.isle_units.specs.declared.compilations.IsleCompilations.{IsleCompilations}

-- the first unit of the name
abbrev pub first_named : List ℕ → IsleCompilations → Option IsleCompilation
first_named name units = find (λ (u : IsleCompilation). bytes_eq u.name name) units.items

-- a unit of these has the name, and none in front of it has
pub record IsFirstNamed (name : List ℕ) (units : List IsleCompilation) (u : IsleCompilation) : Type 0 where
  pub place : ℕ
  pub there : slice_get units place ≡ Some u
  pub named : u.name ≡ name
  pub before : (earlier : ℕ) (v : IsleCompilation) → earlier < place → slice_get units earlier ≡ Some v → v.name ≢ name

-- no unit of these has the name
abbrev pub AreNamedElse : List ℕ → List IsleCompilation → Type 0
AreNamedElse name units = (place : ℕ) (v : IsleCompilation) → slice_get units place ≡ Some v → v.name ≢ name

-- what a look-up gives: the first unit of the name, or nothing just where none has it
abbrev pub LooksUp : List ℕ → IsleCompilations → Option IsleCompilation → Type 0
LooksUp name units None = AreNamedElse name units.items
LooksUp name units (Some u) = IsFirstNamed name units.items u
