-- What rules read.
use Rattle.std.specs.Prelude.{ℕ, ◌+◌, List, [], ◌∷◌, length, Contains, map}
use Rattle.std.specs.List.{AllByRecursion}
use Rattle.isle_core.specs.declared.BindingId.{BindingId}
use Rattle.isle_core.specs.declared.TermId.{TermId}
use Rattle.isle_core.specs.declared.rule_sets.Constraint.{Constraint}
use Rattle.isle_core.specs.declared.rule_sets.FlatRule.{FlatRule}
use Rattle.isle_core.specs.declared.types.ReturnKind.TheVariants as return_kind
use Rattle.isle_core.specs.Calling.{Calling, ByTurns, ByCases, NoCall, calling}
use Rattle.isle_core.specs.Path.{Path, Nowhere, Arg, ConstBool, ConstInt, ConstPrim, Extracted, Called, Chosen, MadeVariant, MadeStruct, VariantField, StructField, Wrapped, Inner, Part, Paths, NoPath, APath, at}
use Rattle.isle_core.specs.Rule.{Environment}
use Rattle.isle_core.specs.StandsFor.{EachOnce}

-- ---- paths with what they are made over

-- each of these paths is one of the list
abbrev pub AllAmong : List Path → Paths → Type 0
AllAmong l NoPath = Unit {0}
AllAmong l (APath p ps) = Contains l p × AllAmong l ps

-- the path is somewhere, and what it is made over stands in the list
abbrev pub IsOver : List Path → Path → Type 0
IsOver l Nowhere = ⊥
IsOver l (Arg i) = Unit {0}
IsOver l (ConstBool ty b) = Unit {0}
IsOver l (ConstInt ty n) = Unit {0}
IsOver l (ConstPrim name) = Unit {0}
IsOver l (Extracted term p) = Contains l p
IsOver l (Called term ps instance) = AllAmong l ps
IsOver l (Chosen p) = Contains l p
IsOver l (MadeVariant ty variant ps) = AllAmong l ps
IsOver l (MadeStruct ty ps) = AllAmong l ps
IsOver l (VariantField variant field p) = Contains l p
IsOver l (StructField field p) = Contains l p
IsOver l (Wrapped p) = Contains l p
IsOver l (Inner p) = Contains l p
IsOver l (Part part p) = Contains l p

-- ---- rules

-- a call is in the list, with its inner value if the set has that
pub record IsCallAmong (ps l : List Path) (p : Path) : Type 0 where
  pub itself : Contains l p
  pub inner : Contains ps (Inner p) → Contains l (Inner p)

-- a list is in the list, with its item if the set has that
pub record IsListAmong (ps l : List Path) (p : Path) : Type 0 where
  pub itself : Contains l p
  pub item : Contains ps (Chosen p) → Contains l (Chosen p)

-- the list holds each path that a rule reads: those that it tests and compares, its lists with their items, its ordered calls with their inner
-- values, and its result, and with each path those that it is made over
pub record HoldsReads (ps l : List Path) (f : FlatRule) : Type 0 where
  pub over : AllByRecursion (IsOver l) l
  pub tests : AllByRecursion (λ (c : BindingId × Constraint). Contains l (at ps c.0)) f.constraints
  pub equals : AllByRecursion (λ (e : BindingId × BindingId). Contains l (at ps e.0) × Contains l (at ps e.1)) f.equals
  pub lists : AllByRecursion (λ (b : BindingId). IsListAmong ps l (at ps b)) f.iterators
  pub calls : AllByRecursion (λ (b : BindingId). IsCallAmong ps l (at ps b)) f.ordered
  pub result : Contains l (at ps f.result)

-- a list for each rule, in order
abbrev pub HoldAllReads : (ps : List Path) → List FlatRule → List (List Path) → Type 0
HoldAllReads ps [] [] = Unit {0}
HoldAllReads ps (f ∷ fs) (l ∷ ls) = HoldsReads ps l f × HoldAllReads ps fs ls
HoldAllReads ps [] (l ∷ ls) = ⊥
HoldAllReads ps (f ∷ fs) [] = ⊥

-- how long lists are together
abbrev pub lengths : {A : Type 0} → List (List A) → ℕ
lengths [] = 0
lengths (l ∷ ls) = length l + lengths ls

-- ---- ordered calls

-- a pure call that always answers
abbrev pub AlwaysAnswers : Calling → Type 0
AlwaysAnswers (ByCases callee return_kind.Plain) = Unit {0}
AlwaysAnswers (ByCases callee return_kind.Option) = ⊥
AlwaysAnswers (ByCases callee return_kind.Iterator) = ⊥
AlwaysAnswers (ByTurns callee kind) = ⊥
AlwaysAnswers NoCall = ⊥

-- none of a rule's ordered calls stands twice, and none is pure and always answers
pub record OrdersCallsOnce (env : Environment) (ps : List Path) (f : FlatRule) : Type 0 where
  pub once : EachOnce (map (at ps) f.ordered)
  pub apart : (term : TermId) (qs : Paths) (instance : ℕ) → Contains (map (at ps) f.ordered) (Called term qs instance) → AlwaysAnswers (calling env term) → ⊥
