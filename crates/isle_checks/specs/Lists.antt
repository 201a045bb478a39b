-- Rules under keys, in the order of their places.
use Rattle.std.specs.Prelude.{◌≡◌, ◌⊎◌, ◌<◌, List, [], ◌∷◌, ◌++◌, Option, Some, None, IfSome, Contains}
use Rattle.std.specs.declared.cmp.Ordering.{Ordering}
use Rattle.std.specs.List.{AllByRecursion}
use Rattle.std.specs.Option.{unwrap_or}
use Rattle.std.specs.BTreeMap.{BTreeMap, get}
use Rattle.isle_core.specs.declared.rule_sets.FlatRule.{FlatRule}
use Rattle.isle_checks.specs.contracts.lists.KeyOrd.TheImpl as key_ord
use Rattle.isle_checks.specs.declared.lists.Key.{Key}
use Rattle.isle_checks.specs.declared.lists.Lists.{Lists}
use Rattle.isle_checks.specs.declared.placed.Placed.{Placed}

-- places rise
abbrev pub Rises : List Placed → Type 0
Rises [] = Unit {0}
Rises (a ∷ later) = AllByRecursion (λ (b : Placed). a.place < b.place) later × Rises later

-- the order of keys
abbrev pub key_cmp : Key → Key → Ordering
key_cmp = (key_ord.ghosts).cmp

-- the rules under each key, and under none
abbrev pub Listing : Type 0
Listing = Option Key → List Placed

-- the rules that a map has under a key
abbrev pub under_key : BTreeMap Key (List Placed) → Key → List Placed
under_key map key = unwrap_or (get key_cmp map key) []

-- the rules that the code's lists have under a key, or under none
abbrev pub listing : Lists → Listing
listing lists None = lists.rest
listing lists (Some key) = under_key lists.under key

-- a list stayed, or got one rule more
abbrev pub MayGet : Placed → (old new : List Placed) → Type 0
MayGet b old new = (new ≡ old) ⊎ (new ≡ old ++ b ∷ [])

-- a rule joined those that a map has under a key, and each other list stayed, or got it too
abbrev pub AddsUnder : Key → Placed → (old new : BTreeMap Key (List Placed)) → Type 0
AddsUnder key b old new = (under_key new key ≡ under_key old key ++ b ∷ []) × ((other : Key) → MayGet b (under_key old other) (under_key new other))

-- so of the rules under a key, or under none
abbrev pub Adds : Option Key → Placed → (old new : Listing) → Type 0
Adds key b old new = (new key ≡ old key ++ b ∷ []) × ((other : Option Key) → MayGet b (old other) (new other))

-- a rule has this key, if it is one
abbrev pub MayHave : (FlatRule → Key → Type 0) → FlatRule → Option Key → Type 0
MayHave Has f key = IfSome key (Has f)

-- a rule is listed under a key that it has, or under none
pub record IsListed (Has : FlatRule → Key → Type 0) (lists : Listing) (a : Placed) : Type 0 where
  pub key : Option Key
  pub has : MayHave Has a.rule.now key
  pub among : Contains (lists key) a

-- the rules of a group are listed, and no others, their places rising
pub record AreLists (Has : FlatRule → Key → Type 0) (group : List Placed) (lists : Listing) : Type 0 where
  pub from : (key : Option Key) (a : Placed) → Contains (lists key) a → Contains group a
  pub rise : (key : Option Key) → Rises (lists key)
  pub all : (a : Placed) → Contains group a → IsListed Has lists a
