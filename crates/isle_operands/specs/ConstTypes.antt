-- The types of named constants, and a map of them.
use Rattle.std.specs.Prelude.{◌≡◌, ◌==◌, ℕ, List, Option, find, option_map}
use Rattle.std.specs.Ordering.{nat_cmp}
use Rattle.std.specs.BTreeMap.{BTreeMap, get}
use Rattle.isle_core.specs.declared.Sym.{Sym}
use Rattle.isle_core.specs.declared.TypeId.{TypeId}

-- the type of the first constant of a symbol of this number
abbrev pub type_in : List (Sym × TypeId) → ℕ → Option TypeId
type_in consts n = option_map (λ (c : Sym × TypeId). c.1) (find (λ (c : Sym × TypeId). c.0.0 == n) consts)

-- the map has the type of each
pub record FindsTypes (consts : List (Sym × TypeId)) (found : BTreeMap ℕ TypeId) : Type 0 where
  pub finds : (n : ℕ) → get nat_cmp found n ≡ type_in consts n
