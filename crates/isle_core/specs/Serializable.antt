-- Which rule sets have lawful blocks.
use Rattle.std.specs.Prelude.{◌≡◌, ◌↔◌, ◌⊎◌, ℕ, List, [], ◌∷◌, ◌++◌, true, false, Some, IsTrue, Contains, map, slice_get}
use Rattle.std.specs.List.{AllByRecursion}
use Rattle.isle_base.specs.declared.ids.BindingId.{BindingId}
use Rattle.isle_base.specs.declared.ids.TermId.{TermId}
use Rattle.isle_base.specs.declared.ids.TypeId.{TypeId}
use Rattle.isle_core.specs.declared.rule_sets.Constraint.{Constraint}
use Rattle.isle_core.specs.declared.rule_sets.FlatRule.{FlatRule}
use Rattle.isle_core.specs.declared.rule_sets.RuleSet.{RuleSet}
use Rattle.isle_core.specs.declared.types.Term.{Term}
use Rattle.isle_core.specs.declared.types.ReturnKind.{ReturnKind}
use Rattle.isle_core.specs.Calling.{Calling, ByTurns, ByCases, NoCall, calling, is_several, kind_of, may_be_nothing}
use Rattle.isle_core.specs.HoldsImpure.{holds_impure}
use Rattle.isle_core.specs.Path.{Path, Nowhere, Arg, ConstBool, ConstInt, ConstPrim, Extracted, Called, Chosen, MadeVariant, MadeStruct, VariantField, StructField, Wrapped, Inner, Part, Paths, NoPath, APath, at, paths_of}
use Rattle.isle_core.specs.StandsFor.{EachOnce}
use Rattle.isle_core.specs.ConstraintType.{IsConstraintOf}
use Rattle.isle_core.specs.ExternalCall.{IsCall}
use Rattle.isle_core.specs.Occurrences.{occurrences}
use Rattle.isle_core.specs.PathType.{IsPathOf, IsListOf, IsOptionOf, ArePathsOf}
use Rattle.isle_core.specs.RuleSet.{is_test}
use Rattle.isle_core.specs.Tests.{Test, Is}
use Rattle.isle_core.specs.declared.rule_sets.Constraint.TheVariants as constraint
use Rattle.isle_core.specs.Rule.{Environment}

-- ---- what may be read

-- an inner value may be read after the call that answers it, or after the test that the answer is something
abbrev pub StandsWithin : (tests : List Test) → (done : List Path) → Path → Type 0
StandsWithin tests done (Called term ps instance) = Contains done (Called term ps instance) ⊎ Contains tests (Is (Called term ps instance) constraint.Some)
StandsWithin tests done (Extracted term q) = Contains tests (Is (Extracted term q) constraint.Some)
StandsWithin tests done Nowhere = Unit {0}
StandsWithin tests done (Arg i) = Unit {0}
StandsWithin tests done (ConstBool of b) = Unit {0}
StandsWithin tests done (ConstInt of n) = Unit {0}
StandsWithin tests done (ConstPrim name) = Unit {0}
StandsWithin tests done (Chosen q) = Unit {0}
StandsWithin tests done (MadeVariant of variant ps) = Unit {0}
StandsWithin tests done (MadeStruct of ps) = Unit {0}
StandsWithin tests done (VariantField variant field q) = Unit {0}
StandsWithin tests done (StructField field q) = Unit {0}
StandsWithin tests done (Wrapped q) = Unit {0}
StandsWithin tests done (Inner q) = Unit {0}
StandsWithin tests done (Part part q) = Unit {0}

-- an impure call may be read after itself, a pure one if its arguments may be
abbrev pub StandsCalled : Calling → (itself arguments : Type 0) → Type 0
StandsCalled (ByTurns callee kind) itself arguments = itself
StandsCalled (ByCases callee kind) itself arguments = arguments
StandsCalled NoCall itself arguments = ⊥

-- a path may be read after these tests and these calls: a field after the test that shows it, an impure call after itself, a pure call
-- if its arguments may be read, an extractor's answer if what it takes apart may be, an item if its list may be, but after the list's
-- own call if that holds an impure one, a part if its tuple may be, and a made value if its parts may be
abbrev mutual
  pub StandsOn : Environment → (tests : List Test) → (done : List Path) → Path → Type 0
  StandsOn env tests done (Called term ps instance) = StandsCalled (calling env term) (Contains done (Called term ps instance)) (AllStandOn env tests done ps)
  StandsOn env tests done (Inner p) = StandsWithin tests done p
  StandsOn env tests done (VariantField variant field q) = (ty : TypeId) × Contains tests (Is q (constraint.Variant ty variant))
  StandsOn env tests done (StructField field q) = (ty : TypeId) × Contains tests (Is q (constraint.Struct ty))
  StandsOn env tests done (MadeVariant of variant ps) = AllStandOn env tests done ps
  StandsOn env tests done (MadeStruct of ps) = AllStandOn env tests done ps
  StandsOn env tests done Nowhere = Unit {0}
  StandsOn env tests done (Arg i) = Unit {0}
  StandsOn env tests done (ConstBool of b) = Unit {0}
  StandsOn env tests done (ConstInt of n) = Unit {0}
  StandsOn env tests done (ConstPrim name) = Unit {0}
  StandsOn env tests done (Extracted term q) = StandsOn env tests done q
  StandsOn env tests done (Chosen q) = StandsOn env tests done q × (IsTrue (holds_impure env q) → Contains done q)
  StandsOn env tests done (Wrapped q) = Unit {0}
  StandsOn env tests done (Part part q) = StandsOn env tests done q

  -- so of each
  pub AllStandOn : Environment → (tests : List Test) → (done : List Path) → Paths → Type 0
  AllStandOn env tests done NoPath = Unit {0}
  AllStandOn env tests done (APath p ps) = StandsOn env tests done p × AllStandOn env tests done ps

-- ---- tests

-- a value of some type at a path, and a constraint on such
pub record IsValueTest (env : Environment) (t : Term) (p : Path) (c : Constraint) : Type 0 where
  pub ty : TypeId
  pub path : IsPathOf env t p ty
  pub constraint : IsConstraintOf env c ty

-- what a constraint tests: a value, or whether an answer that may be nothing is something
abbrev pub IsTest : Environment → Term → Path → Constraint → Type 0
IsTest env t p constraint.Some = (tys : List TypeId) × IsOptionOf env t p tys
IsTest env t p (constraint.ConstBool val) = IsValueTest env t p (constraint.ConstBool val)
IsTest env t p (constraint.ConstInt val of) = IsValueTest env t p (constraint.ConstInt val of)
IsTest env t p (constraint.ConstPrim val) = IsValueTest env t p (constraint.ConstPrim val)
IsTest env t p (constraint.Variant of variant) = IsValueTest env t p (constraint.Variant of variant)
IsTest env t p (constraint.Struct of) = IsValueTest env t p (constraint.Struct of)

-- a test of its binding's path, which may be read after the tests before
pub record IsTestable (env : Environment) (t : Term) (ps : List Path) (before : List Test) (c : BindingId × Constraint) : Type 0 where
  pub test : IsTest env t (at ps c.0) c.1
  pub stands : StandsOn env before [] (at ps c.0)

-- constraints in order, after these tests
abbrev pub AreTestable : Environment → Term → List Path → (before : List Test) → List (BindingId × Constraint) → Type 0
AreTestable env t ps before [] = Unit {0}
AreTestable env t ps before (c ∷ cs) = IsTestable env t ps before c × AreTestable env t ps (is_test ps c ∷ before) cs

-- two bindings whose paths are of one type and may be read after these tests
pub record AreComparable (env : Environment) (t : Term) (ps : List Path) (tests : List Test) (e : BindingId × BindingId) : Type 0 where
  pub ty : TypeId
  pub left : IsPathOf env t (at ps e.0) ty
  pub left_stands : StandsOn env tests [] (at ps e.0)
  pub right : IsPathOf env t (at ps e.1) ty
  pub right_stands : StandsOn env tests [] (at ps e.1)

-- ---- calls

-- a call of a term on values of its types, which stand on earlier calls; it has an inner value exactly if it may be nothing, which is only so in
-- a term that may be nothing, and an item exactly if it answers several times, which is only so in a term that does so, too
pub record IsSerializableCall (env : Environment) (t : Term) (tests : List Test) (ps done : List Path) (p : Path) : Type 0 where
  pub term : TermId
  pub parameters : Paths
  pub instance : ℕ
  pub path : p ≡ Called term parameters instance
  pub called : Term
  pub found : slice_get env.terms term.0 ≡ Some called
  pub args : ArePathsOf env t parameters called.arg_tys
  pub stand : AllStandOn env tests done parameters
  pub kind : ReturnKind
  pub external : IsCall kind (calling env term)
  pub inner : IsTrue (may_be_nothing kind) ↔ Contains ps (Inner p)
  pub fits : IsTrue (may_be_nothing kind) → IsTrue (may_be_nothing (kind_of t.kind))
  pub item : IsTrue (is_several kind) ↔ Contains ps (Chosen p)
  pub often : IsTrue (is_several kind) → is_several (kind_of t.kind) ≡ true

-- calls in order, after those that were made
abbrev pub AreSerializableCalls : Environment → Term → (tests : List Test) → (ps done : List Path) → List Path → Type 0
AreSerializableCalls env t tests ps done [] = Unit {0}
AreSerializableCalls env t tests ps done (p ∷ more) = IsSerializableCall env t tests ps done p × AreSerializableCalls env t tests ps (p ∷ done) more

-- ---- lists

-- a list of a term that answers several times, which has an item; it may be read after the tests, or is one of the rule's ordered calls
pub record IsSerializableList (env : Environment) (t : Term) (tests : List Test) (ps ordered : List Path) (b : BindingId) : Type 0 where
  pub tys : List TypeId
  pub list : IsListOf env t (at ps b) tys
  pub item : Contains ps (Chosen (at ps b))
  pub often : is_several (kind_of t.kind) ≡ true
  pub stands : ((holds_impure env (at ps b) ≡ false) × StandsOn env tests [] (at ps b)) ⊎ Contains ordered (at ps b)

-- ---- rules

-- the tests of a rule that are constraints
abbrev pub constraint_tests : List Path → FlatRule → List Test
constraint_tests ps f = map (is_test ps) f.constraints

-- the tests of a rule fit the types of what they test, which may be read where they stand; its calls are ready, so are its lists, none of which
-- stands twice, and its result is of the term's type and stands on them
pub record IsSerializableRule (env : Environment) (t : Term) (ps : List Path) (f : FlatRule) : Type 0 where
  pub constraints : AreTestable env t ps [] f.constraints
  pub equals : AllByRecursion (AreComparable env t ps (constraint_tests ps f)) f.equals
  pub lists : AllByRecursion (IsSerializableList env t (constraint_tests ps f) ps (map (at ps) f.ordered)) f.iterators
  pub lists_once : EachOnce (map (at ps) f.iterators)
  pub calls : AreSerializableCalls env t (constraint_tests ps f) ps [] (map (at ps) f.ordered)
  pub result : IsPathOf env t (at ps f.result) t.ret_ty
  pub stands : StandsOn env (constraint_tests ps f) (map (at ps) f.ordered) (at ps f.result)

-- the impure calls of rules, by the numbers of their occurrences
abbrev pub occurrences_of : Environment → List Path → List FlatRule → List ℕ
occurrences_of env ps [] = []
occurrences_of env ps (f ∷ fs) = occurrences env ps f.ordered ++ occurrences_of env ps fs

-- a field of a path
abbrev pub IsFieldPath : Path → Type 0
IsFieldPath (VariantField variant field q) = Unit {0}
IsFieldPath (StructField field q) = Unit {0}
IsFieldPath Nowhere = ⊥
IsFieldPath (Arg i) = ⊥
IsFieldPath (ConstBool of b) = ⊥
IsFieldPath (ConstInt of n) = ⊥
IsFieldPath (ConstPrim name) = ⊥
IsFieldPath (Extracted term q) = ⊥
IsFieldPath (Called term ps instance) = ⊥
IsFieldPath (Chosen q) = ⊥
IsFieldPath (MadeVariant of variant ps) = ⊥
IsFieldPath (MadeStruct of ps) = ⊥
IsFieldPath (Wrapped q) = ⊥
IsFieldPath (Inner q) = ⊥
IsFieldPath (Part part q) = ⊥

-- no path stands twice, each field has a type, each rule of the set is ready, each impure call has its own occurrence, and items stand only where
-- the term answers several times
pub record IsSerializable (env : Environment) (t : Term) (s : RuleSet) : Type 0 where
  pub once : EachOnce (paths_of s.bindings)
  pub fields : (p : Path) → Contains (paths_of s.bindings) p → IsFieldPath p → (ty : TypeId) × IsPathOf env t p ty
  pub rules : AllByRecursion (IsSerializableRule env t (paths_of s.bindings)) s.rules
  pub apart : EachOnce (occurrences_of env (paths_of s.bindings) s.rules)
  pub items : (p : Path) → Contains (paths_of s.bindings) (Chosen p) → is_several (kind_of t.kind) ≡ true
