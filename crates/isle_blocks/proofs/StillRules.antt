-- When the steps of rules make no impure call but those of the rules themselves.
use Rattle.std.proofs.Common.{◌≡◌, ℕ, List, [], ◌∷◌, Bool, Option, Some, true}
use Rattle.std.specs.Prelude.{slice_get, Contains}
use Rattle.isle_core.specs.declared.BindingId.{BindingId}
use Rattle.isle_core.specs.declared.rule_sets.Binding.{Binding}
use Rattle.isle_core.specs.declared.rule_sets.Constraint.{Constraint}
use Rattle.isle_core.specs.declared.rule_sets.Constraint.TheVariants as constraint
use Rattle.isle_core.specs.declared.rule_sets.FlatRule.{FlatRule}
use Rattle.isle_core.specs.ArmPlaces.{bound_within}
use Rattle.isle_core.specs.Bindable.{bound_by}
use Rattle.isle_core.specs.Occurrences.{occurrence_at}
use Rattle.isle_core.specs.Path.{Inner, at, paths_of}
use Rattle.isle_core.specs.Rule.{Environment}
use Rattle.isle_core.specs.Serializable.{constraint_tests}
use Rattle.isle_core.specs.Tests.{Test, Is}
use Rattle.isle_blocks.specs.Needed.{needs, parameters_of}
use Rattle.isle_blocks.specs.Nest.{Shows, call_binds, binds, was_bound, left_calls, left_items}
use Rattle.isle_blocks.proofs.NeededRuns.{AreStill}

-- what is needed for calls in order makes none
abbrev pub StillBinds : Environment → List Binding → (ℕ → Option BindingId) → List BindingId → List ℕ → Type 0
StillBinds env bs next [] bound = Unit {0}
StillBinds env bs next (c ∷ cs) bound = AreStill env (paths_of bs) (needs bs bound (parameters_of (slice_get bs c.0))) × StillBinds env bs next cs (bound_by bound (call_binds bs next bound c))

-- a call that tests bound is pure, and if it has an inner value, it was tested that there is one
pub record WasTested (env : Environment) (bs : List Binding) (next : ℕ → Option BindingId) (tests : List Test) (c : BindingId) : Type 0 where
  pub uncalled : occurrence_at env (at (paths_of bs) c) ≡ []
  pub found : (b : BindingId) → next c.0 ≡ Some b → at (paths_of bs) b ≡ Inner (at (paths_of bs) c) → Contains tests (Is (at (paths_of bs) c) constraint.Some)

-- so of each call that is bound
abbrev pub AreTested : Environment → List Binding → (ℕ → Option BindingId) → List Test → List ℕ → Type 0
AreTested env bs next tests bound = (c : BindingId) → was_bound next bound c ≡ true → WasTested env bs next tests c

-- what is needed for a rule's calls and its result makes none, and those that are bound were tested
abbrev pub StillBehind : Environment → List Binding → (ℕ → Option BindingId) → FlatRule → List ℕ → Type 0
StillBehind env bs next f bound =
    StillBinds env bs next (left_calls next bound f.ordered) bound × AreStill env (paths_of bs) (needs bs (bound_by bound (binds bs next bound (left_calls next bound f.ordered))) (f.result ∷ []))
    × AreTested env bs next (constraint_tests (paths_of bs) f) bound

-- so with its lists before
abbrev pub StillLast : (several : Bool) → Environment → List Binding → (next items : ℕ → Option BindingId) → FlatRule → List ℕ → Type 0
StillLast several env bs next items f bound = AreStill env (paths_of bs) (needs bs bound (left_items several items f)) × StillBehind env bs next f (bound_by bound (needs bs bound (left_items several items f)))

-- of equalities, round something of which this holds
abbrev pub StillEquated : Environment → List Binding → List (BindingId × BindingId) → (List ℕ → Type 0) → List ℕ → Type 0
StillEquated env bs [] P bound = P bound
StillEquated env bs (e ∷ es) P bound = AreStill env (paths_of bs) (needs bs bound (e.0 ∷ e.1 ∷ [])) × StillEquated env bs es P (bound_by bound (needs bs bound (e.0 ∷ e.1 ∷ [])))

-- of matches, round something of which this holds
abbrev pub StillMatched : Environment → List Binding → Shows → List (BindingId × Constraint) → (List ℕ → Type 0) → List ℕ → Type 0
StillMatched env bs shows [] P bound = P bound
StillMatched env bs shows (c ∷ cs) P bound =
    AreStill env (paths_of bs) (needs bs bound (c.0 ∷ [])) × StillMatched env bs shows cs P (bound_within (bound_by bound (needs bs bound (c.0 ∷ []))) (shows c.0 c.1))

-- of a rule
abbrev pub StillRule : (several : Bool) → Environment → List Binding → Shows → (next items : ℕ → Option BindingId) → FlatRule → Type 0
StillRule several env bs shows next items f = StillMatched env bs shows f.constraints (StillEquated env bs f.equals (StillLast several env bs next items f)) []
