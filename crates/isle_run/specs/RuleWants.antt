-- What the rules of a term want of the constants that are given values, by the source alone.
use Rattle.std.specs.Prelude.{◌≡◌, ◌⊎◌, ℕ, List, Bool, true, false, Option, Some, None, Contains, slice_get, IsSomeAnd}
use Rattle.std.specs.List.{AllByRecursion}
use Rattle.std.specs.Ordering.{int_cmp, is_lt}
use Rattle.std.specs.Str.{bytes_eq}
use Rattle.isle_core.specs.declared.Sym.{Sym}
use Rattle.isle_core.specs.declared.TermId.{TermId}
use Rattle.isle_core.specs.declared.TypeId.{TypeId}
use Rattle.isle_core.specs.declared.rule_sets.Constraint.TheVariants as constraint
use Rattle.isle_core.specs.declared.types.Term.{Term}
use Rattle.isle_core.specs.declared.types.TypeDef.{TypeDef}
use Rattle.isle_core.specs.declared.types.TypeDef.TheVariants as def
use Rattle.isle_core.specs.declared.values.Callee.{Callee}
use Rattle.isle_core.specs.Calling.{is_several, kind_of}
use Rattle.isle_core.specs.Constants.{int_value}
use Rattle.isle_core.specs.Having.{const_of}
use Rattle.isle_core.specs.Meaning.{Meaning}
use Rattle.isle_core.specs.Path.{Path, Nowhere, Arg, ConstBool, ConstInt, ConstPrim, Extracted, Called, Chosen, MadeVariant, MadeStruct, VariantField, StructField, Wrapped, Inner, Part, NoPath}
use Rattle.isle_core.specs.Rule.{Environment, Rule, rules_of}
use Rattle.isle_core.specs.SameInRun.{same_in_run}
use Rattle.isle_core.specs.StandsFor.{IsTrivial}
use Rattle.isle_core.specs.Terms.{sym_text, with_rules}
use Rattle.isle_core.specs.Tests.{Test, Is, is_constraint, rule_result, rule_tests}
use Rattle.isle_core.specs.Value.{Value, Truth}
use Rattle.isle_codegen.specs.CalledBy.{IsCalledBy}
use Rattle.isle_codegen.specs.Spoken.{IsSpoken}
use Rattle.isle_run.specs.PathConstants.{StandsIn}
use Rattle.isle_run.specs.Valid.{HasNoCases, HasNoTurns, HasNoValue}

-- the value of a constant, written or named
abbrev pub constant_held : Environment → Meaning → Path → Option Value
constant_held env m (ConstBool ty b) = Some (Truth b)
constant_held env m (ConstInt ty n) = Some (int_value env ty n)
constant_held env m (ConstPrim name) = const_of m (sym_text env name)
constant_held env m Nowhere = None
constant_held env m (Arg i) = None
constant_held env m (Extracted term p) = None
constant_held env m (Called term ps instance) = None
constant_held env m (Chosen p) = None
constant_held env m (MadeVariant ty variant ps) = None
constant_held env m (MadeStruct ty ps) = None
constant_held env m (VariantField variant field p) = None
constant_held env m (StructField field p) = None
constant_held env m (Wrapped p) = None
constant_held env m (Inner p) = None
constant_held env m (Part part p) = None

-- whether a path is the constant of this name
abbrev pub is_constant : Environment → List ℕ → Path → Bool
is_constant env name (ConstPrim other) = bytes_eq name (sym_text env other)
is_constant env name (ConstBool ty b) = false
is_constant env name (ConstInt ty n) = false
is_constant env name Nowhere = false
is_constant env name (Arg i) = false
is_constant env name (Extracted term p) = false
is_constant env name (Called term ps instance) = false
is_constant env name (Chosen p) = false
is_constant env name (MadeVariant ty variant ps) = false
is_constant env name (MadeStruct ty ps) = false
is_constant env name (VariantField variant field p) = false
is_constant env name (StructField field p) = false
is_constant env name (Wrapped p) = false
is_constant env name (Inner p) = false
is_constant env name (Part part p) = false

-- the constant of this name has another value in a run than each other one that the rules speak of, opaque numbers of all types being
-- told apart by their numbers alone
abbrev pub IsApartIn : Environment → List Rule → Meaning → List ℕ → Type 0
IsApartIn env rules m name = (q : Path) (v w : Value) → IsSpoken env rules q → is_constant env name q ≡ false
    → const_of m name ≡ Some v → constant_held env m q ≡ Some w → same_in_run v w ≡ false

-- a struct that is declared in the emitted text
abbrev pub IsOwnStruct : TypeDef → Type 0
IsOwnStruct (def.Struct name is_extern is_nodebug fields place) = is_extern ≡ false
IsOwnStruct (def.Enum name is_extern is_nodebug variants place) = ⊥
IsOwnStruct (def.Primitive name rust place) = ⊥
IsOwnStruct (def.Builtin ty) = ⊥

-- each constant that the rules name has a value; each constant with a value has another one than all others that the rules speak of;
-- structs without fields that the rules make are declared in the text; and each callee of the rules has cases or turns
pub record AreWantedBy (env : Environment) (id : TermId) (m : Meaning) : Type 0 where
  pub given : (name : Sym) → IsSpoken env (rules_of env id) (ConstPrim name) → HasNoValue (sym_text env name) m.consts → ⊥
  pub apart : AllByRecursion (λ (c : List ℕ × Value). IsApartIn env (rules_of env id) m c.0) m.consts
  pub structs : (ty : TypeId) → IsSpoken env (rules_of env id) (MadeStruct ty NoPath) → IsSomeAnd (slice_get env.types.types ty.0) IsOwnStruct
  pub answered : (c : Callee) → IsCalledBy env id c → HasNoCases c m.pure → HasNoTurns c m.turns → ⊥

-- a rule has a lower priority than another one
abbrev pub is_below : Rule → Rule → Bool
is_below g r = is_lt (int_cmp g.prio r.prio)

-- each test of a rule is trivial, or a constraint that the other makes, too
abbrev pub TestsWithin : Environment → Rule → Rule → Type 0
TestsWithin env g r = AllByRecursion (λ (x : Test). IsTrivial x ⊎ ((is_constraint x ≡ true) × Contains (rule_tests env r) x)) (rule_tests env g)

-- a rule of a term tests for the constant of this name, and is tried: if the term answers at most once, each rule of it whose tests are all the
-- rule's constraints tests for the constant, too, or has a lower priority
pub record IsTestedFor (env : Environment) (name : List ℕ) : Type 0 where
  pub id : TermId
  pub ruled : Contains (with_rules env) id
  pub rule : Rule
  pub there : Contains (rules_of env id) rule
  pub path : Path
  pub constant : Sym
  pub tests : Contains (rule_tests env rule) (Is path (constraint.ConstPrim constant))
  pub named : sym_text env constant ≡ name
  pub tried : (t : Term) → slice_get env.terms id.0 ≡ Some t → is_several (kind_of t.kind) ≡ false → (g : Rule) → Contains (rules_of env id) g
      → TestsWithin env g rule → Contains (rule_tests env g) (Is path (constraint.ConstPrim constant)) ⊎ (is_below g rule ≡ true)

-- the constant of this name stands in what a rule of a term gives, also as an argument of a call that it is made from, and the rule is
-- reached: if the term answers at most once, each other rule of it whose tests are all the rule's constraints has a lower priority
pub record IsReturnedFor (env : Environment) (name : List ℕ) : Type 0 where
  pub id : TermId
  pub ruled : Contains (with_rules env) id
  pub place : ℕ
  pub rule : Rule
  pub there : slice_get (rules_of env id) place ≡ Some rule
  pub constant : Sym
  pub named : sym_text env constant ≡ name
  pub stands : (before : ℕ) → StandsIn constant (rule_result env rule before)
  pub reached : (t : Term) → slice_get env.terms id.0 ≡ Some t → is_several (kind_of t.kind) ≡ false → (other : ℕ) (g : Rule) → slice_get (rules_of env id) other ≡ Some g
      → TestsWithin env g rule → (other ≡ place) ⊎ (is_below g rule ≡ true)

-- the constant of this name is tested for, or stands in a result
abbrev pub IsUsedFor : Environment → (name : List ℕ) → Type 0
IsUsedFor env name = IsTestedFor env name ⊎ IsReturnedFor env name
