-- The first rule that makes an error of each rule.
use Rattle.std.specs.Prelude.{◌≡◌, ◌⊎◌, ℕ, ◌<◌, ◌≤◌, List, length, min, Bool, false, Option, Some, None, slice_get, Contains}
use Rattle.isle_core.specs.declared.rule_sets.FlatRule.{FlatRule}
use Rattle.isle_checks.specs.declared.placed.Check.{Check}
use Rattle.isle_checks.specs.declared.placed.Placed.{Placed}
use Rattle.isle_checks.specs.Makes.{Makes, MakesAt}
use Rattle.isle_checks.specs.Lists.{Rises}

-- of each rule the place of a rule that makes an error of it, if one was found
abbrev pub Found : Type 0
Found = List (Option ℕ)

-- the earlier of two places
abbrev pub earlier : Option ℕ → ℕ → ℕ
earlier None place = place
earlier (Some before) place = min before place

-- this place was found for a rule
abbrev pub Has : Found → ℕ → ℕ → Type 0
Has found j i = slice_get found j ≡ Some (Some i)

-- this place or an earlier one was found
pub record HasUpTo (found : Found) (j i : ℕ) : Type 0 where
  pub k : ℕ
  pub le : k ≤ i
  pub has : Has found j k

-- what a place that is noted leaves
pub record Notes (old new : Found) (j p : ℕ) : Type 0 where
  pub long : length new ≡ length old
  pub sound : (k i : ℕ) → Has new k i → Has old k i ⊎ ((k ≡ j) × (i ≡ p))
  pub kept : (k i : ℕ) → Has old k i → HasUpTo new k i
  pub here : HasUpTo new j p

-- what was found once a maker of a rule was noted, if there was one
abbrev pub After : (old new : Found) (j : ℕ) → Option ℕ → Type 0
After old new j None = new ≡ old
After old new j (Some p) = Notes old new j p

-- a rule among these makes an error of one among those, and they have these places
pub record IsMade (check : Check) (makers others : List Placed) (i j : ℕ) : Type 0 where
  pub maker : Placed
  pub other : Placed
  pub maker_among : Contains makers maker
  pub other_among : Contains others other
  pub maker_place : maker.place ≡ i
  pub other_place : other.place ≡ j
  pub makes : Makes check maker other

-- the first of these rules that makes an error of a rule
abbrev pub IsFirstMaker : Check → List Placed → Placed → Option ℕ → Type 0
IsFirstMaker check makers b None = (a : Placed) → Contains makers a → Makes check a b → ⊥
IsFirstMaker check makers b (Some i) = ((a : Placed) × Contains makers a × (a.place ≡ i) × Makes check a b) × ((a : Placed) → Contains makers a → Makes check a b → i ≤ a.place)

-- the first of these rules that makes an error of a rule was noted
abbrev pub NotesFirst : Check → List Placed → Placed → (old new : Found) → Type 0
NotesFirst check makers b old new = (r : Option ℕ) × IsFirstMaker check makers b r × After old new b.place r

-- what was found before stays or gets earlier, what is found is made by these, and nothing that they make is missed
pub record Finds (check : Check) (makers others : List Placed) (old new : Found) : Type 0 where
  pub long : length new ≡ length old
  pub sound : (j i : ℕ) → Has new j i → Has old j i ⊎ IsMade check makers others i j
  pub kept : (j i : ℕ) → Has old j i → HasUpTo new j i
  pub complete : (a b : Placed) → Contains makers a → Contains others b → Makes check a b → HasUpTo new b.place a.place

-- all places lie below the number
abbrev pub AreBelow : ℕ → List Placed → Type 0
AreBelow n group = (a : Placed) → Contains group a → a.place < n

-- the rules of a list with their places, each once
pub record ArePlaced (rules : List FlatRule) (group : List Placed) : Type 0 where
  pub each : (a : Placed) → Contains group a → slice_get rules a.place ≡ Some a.rule.now
  pub all : (i : ℕ) (f : FlatRule) → slice_get rules i ≡ Some f → (a : Placed) × Contains group a × (a.place ≡ i) × (a.rule.now ≡ f)
  pub rise : Rises group

-- the first place of which something holds
abbrev pub IsFirst : (ℕ → Type 0) → Option ℕ → Type 0
IsFirst P None = (i : ℕ) → P i → ⊥
IsFirst P (Some i) = P i × ((k : ℕ) → P k → i ≤ k)

-- for each rule of a list the first that makes an error of it
pub record AreFirstMakers (check : Check) (rules : List FlatRule) (found : Found) : Type 0 where
  pub long : length found ≡ length rules
  pub each : (j : ℕ) (o : Option ℕ) → slice_get found j ≡ Some o → IsFirst (λ i. MakesAt check rules i j) o

-- for each rule of a term the same; no rule makes an error of another if the term answers several times (multi)
pub record AreFirstsOfTerm (check : Check) (multi : Bool) (rules : List FlatRule) (found : Found) : Type 0 where
  pub long : length found ≡ length rules
  pub each : (j : ℕ) (o : Option ℕ) → slice_get found j ≡ Some o
      → IsFirst (λ i. (multi ≡ false) × MakesAt check rules i j) o
