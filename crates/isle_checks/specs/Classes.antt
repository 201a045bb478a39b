-- The classes into which equalities join bindings.
use Rattle.std.specs.Prelude.{◌≡◌, List, [], ◌∷◌, ◌++◌, Contains, if◌then◌else◌}
use Rattle.std.specs.declared.cmp.Ordering.{Ordering}
use Rattle.std.specs.Ordering.{is_eq, nat_cmp}
use Rattle.std.specs.Option.{option_map_or, unwrap_or}
use Rattle.std.specs.BTreeMap.{BTreeMap, get}
use Rattle.std.specs.Global.{Vec}
use Rattle.isle_core.specs.declared.BindingId.{BindingId}
use Rattle.isle_core.specs.declared.rule_sets.Constraint.{Constraint}
use Rattle.isle_checks.specs.Bears.{Constraints}
use Rattle.isle_checks.specs.Joined.{Equalities, AreJoined}
use Rattle.isle_checks.specs.declared.classes.Classes.{Classes}

-- the order of bindings
abbrev pub binding_cmp : BindingId → BindingId → Ordering
binding_cmp a b = nat_cmp a.0 b.0

-- the representative of a binding: itself, if it has no entry
abbrev pub representative : BTreeMap BindingId BindingId → BindingId → BindingId
representative map b = unwrap_or (get binding_cmp map b) b

-- the bindings of a representative: itself alone, if it has no entry
abbrev pub members : BTreeMap BindingId (Vec BindingId) → BindingId → List BindingId
members map r = option_map_or (λ (v : Vec BindingId). v.items) (get binding_cmp map r) (r ∷ [])

-- each binding is joined with its representative, both sides of each equality have one, and its members are the bindings
-- that have it
pub record AreClassesOf (es : Equalities) (rep : BindingId → BindingId) (mem : BindingId → List BindingId) : Type 0 where
  pub joined : (b : BindingId) → AreJoined es b (rep b)
  pub one : (x : BindingId × BindingId) → Contains es x → rep x.0 ≡ rep x.1
  pub each : (b : BindingId) → Contains (mem (rep b)) b
  pub only : (r b : BindingId) → Contains (mem r) b → rep b ≡ r

-- so of the code's classes
abbrev pub AreClasses : Equalities → Classes → Type 0
AreClasses es c = AreClassesOf es (representative c.representatives) (members c.members)

-- these bindings got a representative, and the others kept theirs
pub record Relabels (old new : BTreeMap BindingId BindingId) (bindings : List BindingId) (to : BindingId) : Type 0 where
  pub moved : (b : BindingId) → Contains bindings b → representative new b ≡ to
  pub kept : (b : BindingId) → (Contains bindings b → ⊥) → representative new b ≡ representative old b

-- a representative got these members, and the others kept theirs
abbrev pub Puts : (old new : BTreeMap BindingId (Vec BindingId)) → BindingId → List BindingId → Type 0
Puts old new r bindings = (q : BindingId) → members new q ≡ (if is_eq (binding_cmp r q) then bindings else members old q)

-- these bindings joined the others, which have this representative
pub record Moves (old new : Classes) (bindings others : List BindingId) (to : BindingId) : Type 0 where
  pub relabels : Relabels old.representatives new.representatives bindings to
  pub puts : Puts old.members new.members to (others ++ bindings)

-- two different constraints on bindings of one representative
pub record HaveClash (rep : BindingId → BindingId) (xs : Constraints) : Type 0 where
  pub one : BindingId × Constraint
  pub other : BindingId × Constraint
  pub among : Contains xs one
  pub also_among : Contains xs other
  pub together : rep one.0 ≡ rep other.0
  pub differ : one.1 ≡ other.1 → ⊥
