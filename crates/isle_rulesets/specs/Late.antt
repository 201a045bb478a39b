-- Paths with an impure call within them, and how the code tells them.
use Rattle.std.specs.Prelude.{◌≡◌, ℕ, zero, suc, List, Bool, true, false, ◌||◌, Some, slice_index_or}
use Rattle.std.specs.List.{list_any}
use Rattle.isle_core.specs.declared.BindingId.{BindingId}
use Rattle.isle_core.specs.Path.{Path, Nowhere, Arg, ConstBool, ConstInt, ConstPrim, Extracted, Called, Chosen, MadeVariant, MadeStruct, VariantField, StructField, Wrapped, Inner, Part, Paths, NoPath, APath}
use Rattle.isle_core.specs.RightSide.{Places}
use Rattle.isle_rulesets.specs.declared.keys.Key.{Key}
use Rattle.isle_rulesets.specs.declared.keys.Key.TheVariants as key

-- whether a call has an occurrence of its own
abbrev pub is_own : ℕ → Bool
is_own zero = false
is_own (suc n) = true

-- a call of an occurrence of its own, or what has one within it
abbrev mutual
  pub has_turn : Path → Bool
  has_turn (Called term ps instance) = is_own instance || have_turn ps
  has_turn Nowhere = false
  has_turn (Arg i) = false
  has_turn (ConstBool of b) = false
  has_turn (ConstInt of n) = false
  has_turn (ConstPrim name) = false
  has_turn (Extracted term p) = has_turn p
  has_turn (Chosen p) = has_turn p
  has_turn (MadeVariant of variant ps) = have_turn ps
  has_turn (MadeStruct of ps) = have_turn ps
  has_turn (VariantField variant field p) = has_turn p
  has_turn (StructField field p) = has_turn p
  has_turn (Wrapped p) = has_turn p
  has_turn (Inner p) = has_turn p
  has_turn (Part part p) = has_turn p

  -- so any of several
  pub have_turn : Paths → Bool
  have_turn NoPath = false
  have_turn (APath p ps) = has_turn p || have_turn ps

-- whether that of a number is so
abbrev pub turn_at : List Bool → BindingId → Bool
turn_at late b = slice_index_or late b.0 false

-- whether that of any of these numbers is so
abbrev pub any_turn : List Bool → List BindingId → Bool
any_turn late bs = list_any (turn_at late) bs

-- whether the path of a key is so, by those of its parts
abbrev pub key_turn : List Bool → Key → Bool
key_turn late (key.Argument index) = false
key_turn late (key.ConstBool val) = false
key_turn late (key.ConstInt ty val) = false
key_turn late (key.ConstPrim val) = false
key_turn late (key.Extractor term parameter) = turn_at late parameter
key_turn late (key.Constructor term parameters) = any_turn late parameters
key_turn late (key.MatchVariant source variant field) = turn_at late source
key_turn late (key.ExtractStruct source field) = turn_at late source
key_turn late (key.MakeVariant ty variant fields) = any_turn late fields
key_turn late (key.MakeStruct ty fields) = any_turn late fields
key_turn late (key.Iterator source) = turn_at late source
key_turn late (key.MatchSome source) = turn_at late source
key_turn late (key.MatchTuple source field) = turn_at late source

-- no variable stands at a path with an impure call within it
abbrev pub HasNoTurns : Places → Type 0
HasNoTurns places = (x : ℕ) (p : Path) → places x ≡ Some p → has_turn p ≡ false
