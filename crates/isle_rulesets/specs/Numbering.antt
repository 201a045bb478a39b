-- Bindings numbered in order, each path once.
use Rattle.std.specs.Prelude.{◌≡◌, ◌⊎◌, ◌<◌, ◌≤◌, ℕ, suc, List, [], ◌∷◌, ◌++◌, length, map, Bool, false, Option, Some, ◌==◌, ◌&&◌, nat_lt, if◌then◌else◌, slice_get, Contains}
use Rattle.std.specs.BTreeMap.{BTreeMap, get}
use Rattle.isle_core.specs.declared.BindingId.{BindingId}
use Rattle.isle_core.specs.declared.TermId.{TermId}
use Rattle.isle_core.specs.declared.rule_sets.Binding.{Binding}
use Rattle.isle_core.specs.declared.types.ReturnKind.{ReturnKind}
use Rattle.isle_core.specs.declared.types.ReturnKind.TheVariants as return_kind
use Rattle.isle_core.specs.Path.{Path, Nowhere, Arg, ConstBool, ConstInt, ConstPrim, Extracted, Called, Chosen, MadeVariant, MadeStruct, VariantField, StructField, Wrapped, Inner, Part, at, at_all, paths_of}
use Rattle.isle_core.specs.StandsFor.{EachOnce}
use Rattle.isle_rulesets.specs.declared.keys.Key.{Key}
use Rattle.isle_rulesets.specs.declared.keys.Key.TheVariants as key
use Rattle.isle_rulesets.specs.Keys.{key_cmp, key_path, HasParts}
use Rattle.isle_rulesets.specs.Late.{has_turn}

-- each path stands where it stood
pub record Extends (ps qs : List Path) : Type 0 where
  pub kept : (b : ℕ) (p : Path) → slice_get ps b ≡ Some p → slice_get qs b ≡ Some p

-- bindings, how many of them are impure calls, and the lists that the rule at hand met
pub record Numbered : Type 0 where
  pub bindings : List Binding
  pub calls : ℕ
  pub lists : List BindingId

-- the lists of the second stand at these paths, after those of the first
abbrev pub MeetsLists : (old new : Numbered) → List Path → Type 0
MeetsLists old new ls = (qs : List Path) → Extends (paths_of new.bindings) qs → map (at qs) new.lists ≡ map (at qs) old.lists ++ ls

-- these paths are numbered, and nothing else was added; these lists were met
pub record Joins (old new : Numbered) (ps ls : List Path) : Type 0 where
  pub extends : Extends (paths_of old.bindings) (paths_of new.bindings)
  pub only : (p : Path) → Contains (paths_of new.bindings) p → Contains (paths_of old.bindings) p ⊎ Contains ps p
  pub all : (p : Path) → Contains ps p → Contains (paths_of new.bindings) p
  pub calls : new.calls ≡ old.calls
  pub lists : MeetsLists old new ls

-- the path has this number, and nothing else was added
pub record Numbers (old new : Numbered) (p : Path) (b : BindingId) : Type 0 where
  pub found : slice_get (paths_of new.bindings) b.0 ≡ Some p
  pub extends : Extends (paths_of old.bindings) (paths_of new.bindings)
  pub only : (q : Path) → Contains (paths_of new.bindings) q → Contains (paths_of old.bindings) q ⊎ (q ≡ p)
  pub calls : new.calls ≡ old.calls
  pub lists : new.lists ≡ old.lists

-- the next impure call of a term on numbers
abbrev pub next_call : Numbered → TermId → List BindingId → Path
next_call old term parameters = Called term (at_all (paths_of old.bindings) parameters) (suc old.calls)

-- the pure call of a term on numbers
abbrev pub same_call : Numbered → TermId → List BindingId → Path
same_call old term parameters = Called term (at_all (paths_of old.bindings) parameters) 0

-- what stands at a call's value: its inner value if it may be nothing, an item of it if it answers several times
abbrev pub value_by : ReturnKind → Path → Path
value_by return_kind.Plain p = p
value_by return_kind.Option p = Inner p
value_by return_kind.Iterator p = Chosen p

-- a call and its value
abbrev pub with_value : ReturnKind → Path → List Path
with_value return_kind.Plain p = p ∷ []
with_value return_kind.Option p = p ∷ Inner p ∷ []
with_value return_kind.Iterator p = p ∷ Chosen p ∷ []

-- a call that answers several times
abbrev pub listed_by : {A : Type 0} → ReturnKind → A → List A
listed_by return_kind.Plain x = []
listed_by return_kind.Option x = []
listed_by return_kind.Iterator x = x ∷ []

-- the call has a number and its value one, nothing else was added, so many calls were counted, and a list was met
pub record Calls (old new : Numbered) (p : Path) (kind : ReturnKind) (count : ℕ) (call result : BindingId) : Type 0 where
  pub found : slice_get (paths_of new.bindings) call.0 ≡ Some p
  pub value : slice_get (paths_of new.bindings) result.0 ≡ Some (value_by kind p)
  pub extends : Extends (paths_of old.bindings) (paths_of new.bindings)
  pub only : (q : Path) → Contains (paths_of new.bindings) q → Contains (paths_of old.bindings) q ⊎ Contains (with_value kind p) q
  pub calls : new.calls ≡ count
  pub lists : new.lists ≡ old.lists ++ listed_by kind call

-- the number of a key: an argument below the count has its index, and any other key what the map has
abbrev pub known : ℕ → BTreeMap Key BindingId → Key → Option BindingId
known count numbers (key.Argument index) = if nat_lt index count then Some (record { 0 = index }) else get key_cmp numbers (key.Argument index)
known count numbers (key.ConstBool val) = get key_cmp numbers (key.ConstBool val)
known count numbers (key.ConstInt ty val) = get key_cmp numbers (key.ConstInt ty val)
known count numbers (key.ConstPrim val) = get key_cmp numbers (key.ConstPrim val)
known count numbers (key.Extractor term parameter) = get key_cmp numbers (key.Extractor term parameter)
known count numbers (key.Constructor term parameters) = get key_cmp numbers (key.Constructor term parameters)
known count numbers (key.MatchVariant source variant field) = get key_cmp numbers (key.MatchVariant source variant field)
known count numbers (key.ExtractStruct source field) = get key_cmp numbers (key.ExtractStruct source field)
known count numbers (key.MakeVariant ty variant fields) = get key_cmp numbers (key.MakeVariant ty variant fields)
known count numbers (key.MakeStruct ty fields) = get key_cmp numbers (key.MakeStruct ty fields)
known count numbers (key.Iterator source) = get key_cmp numbers (key.Iterator source)
known count numbers (key.MatchSome source) = get key_cmp numbers (key.MatchSome source)
known count numbers (key.MatchTuple source field) = get key_cmp numbers (key.MatchTuple source field)

-- whether the key is that argument, and its number would be its index
abbrev pub is_next : ℕ → ℕ → Key → Bool
is_next count number (key.Argument index) = (index == count) && (number == count)
is_next count number (key.ConstBool val) = false
is_next count number (key.ConstInt ty val) = false
is_next count number (key.ConstPrim val) = false
is_next count number (key.Extractor term parameter) = false
is_next count number (key.Constructor term parameters) = false
is_next count number (key.MatchVariant source variant field) = false
is_next count number (key.ExtractStruct source field) = false
is_next count number (key.MakeVariant ty variant fields) = false
is_next count number (key.MakeStruct ty fields) = false
is_next count number (key.Iterator source) = false
is_next count number (key.MatchSome source) = false
is_next count number (key.MatchTuple source field) = false

-- the path of a key that has this number, over these paths
abbrev pub IsKeyed : List Path → (Key → Option BindingId) → ℕ → Path → Type 0
IsKeyed ps numbers b p = (k : Key) × (p ≡ key_path ps k) × (numbers k ≡ Some (record { 0 = b }))

-- an impure call, of an occurrence up to this one
abbrev pub IsCallUpTo : ℕ → Path → Type 0
IsCallUpTo n (Called term ps instance) = (0 < instance) × (instance ≤ n)
IsCallUpTo n Nowhere = ⊥
IsCallUpTo n (Arg i) = ⊥
IsCallUpTo n (ConstBool of b) = ⊥
IsCallUpTo n (ConstInt of val) = ⊥
IsCallUpTo n (ConstPrim name) = ⊥
IsCallUpTo n (Extracted term q) = ⊥
IsCallUpTo n (Chosen q) = ⊥
IsCallUpTo n (MadeVariant of variant ps) = ⊥
IsCallUpTo n (MadeStruct of ps) = ⊥
IsCallUpTo n (VariantField variant field q) = ⊥
IsCallUpTo n (StructField field q) = ⊥
IsCallUpTo n (Wrapped q) = ⊥
IsCallUpTo n (Inner q) = ⊥
IsCallUpTo n (Part part q) = ⊥

-- the parts of a key that is found are there, and so is its path, at its number; each other path is of a call that was
-- counted, no path stands twice, and there are no more calls than bindings
pub record AreNumbered (n : Numbered) (numbers : Key → Option BindingId) : Type 0 where
  pub parts : (k : Key) (b : BindingId) → numbers k ≡ Some b → HasParts (paths_of n.bindings) k
  pub found : (k : Key) (b : BindingId) → numbers k ≡ Some b → slice_get (paths_of n.bindings) b.0 ≡ Some (key_path (paths_of n.bindings) k)
  pub kinds : (b : ℕ) (p : Path) → slice_get (paths_of n.bindings) b ≡ Some p → IsKeyed (paths_of n.bindings) numbers b p ⊎ IsCallUpTo n.calls p
  pub once : EachOnce (paths_of n.bindings)
  pub counted : n.calls ≤ length n.bindings

-- and the flags say which paths have an impure call within them
pub record KeepsNumbers (n : Numbered) (numbers : Key → Option BindingId) (late : List Bool) : Type 0 where
  pub numbered : AreNumbered n numbers
  pub told : late ≡ map has_turn (paths_of n.bindings)
