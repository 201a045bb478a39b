-- The impure calls that a block binds, by the numbers of their occurrences.
use Rattle.std.specs.Prelude.{ℕ, List, [], ◌∷◌, ◌++◌, Bool, Contains, if◌then◌else◌}
use Rattle.isle_base.specs.declared.ids.BindingId.{BindingId}
use Rattle.isle_core.specs.Calling.{Calling, ByTurns, ByCases, NoCall, calling}
use Rattle.isle_core.specs.Path.{Path, Nowhere, Arg, ConstBool, ConstInt, ConstPrim, Extracted, Called, Chosen, MadeVariant, MadeStruct, VariantField, StructField, Wrapped, Inner, Part, at}
use Rattle.isle_core.specs.StandsFor.{EachOnce}
use Rattle.isle_core.specs.Block.{Block, Stop, Step, Control, Match, Equal, Loop, Return, Arms, NoArm, Arm}
use Rattle.isle_core.specs.Rule.{Environment}

-- the occurrence of an impure call
abbrev pub occurrence : Calling → ℕ → List ℕ
occurrence (ByTurns callee kind) instance = instance ∷ []
occurrence (ByCases callee kind) instance = []
occurrence NoCall instance = []

-- that of a path
abbrev pub occurrence_at : Environment → Path → List ℕ
occurrence_at env (Called term ps instance) = occurrence (calling env term) instance
occurrence_at env Nowhere = []
occurrence_at env (Arg i) = []
occurrence_at env (ConstBool of b) = []
occurrence_at env (ConstInt of n) = []
occurrence_at env (ConstPrim name) = []
occurrence_at env (Extracted term q) = []
occurrence_at env (Chosen q) = []
occurrence_at env (MadeVariant of variant ps) = []
occurrence_at env (MadeStruct of ps) = []
occurrence_at env (VariantField variant field q) = []
occurrence_at env (StructField field q) = []
occurrence_at env (Wrapped q) = []
occurrence_at env (Inner q) = []
occurrence_at env (Part part q) = []

-- the impure calls of a bind order
abbrev pub occurrences : Environment → List Path → List BindingId → List ℕ
occurrences env ps [] = []
occurrences env ps (b ∷ bs) = occurrence_at env (at ps b) ++ occurrences env ps bs

-- the impure calls that may have been bound where a block goes on, after these: those of the ways through it that go on, which in a block of a
-- term that answers several times is every way
abbrev mutual
  pub after_block : (several : Bool) → Environment → List Path → List ℕ → Block → List ℕ
  after_block several env ps made Stop = made
  after_block several env ps made (Step binds c more) = after_block several env ps (after_control several env ps (made ++ occurrences env ps binds) c) more

  -- a Match may take no arm, an Equal may not enter its body, a Loop may have no turn
  pub after_control : (several : Bool) → Environment → List Path → List ℕ → Control → List ℕ
  after_control several env ps made (Match source arms) = made ++ after_arms several env ps made arms
  after_control several env ps made (Equal a b body) = made ++ after_block several env ps made body
  after_control several env ps made (Loop result body) = made ++ after_block several env ps made body
  after_control several env ps made (Return pos result) = if several then made else []

  -- of any of the arms
  pub after_arms : (several : Bool) → Environment → List Path → List ℕ → Arms → List ℕ
  after_arms several env ps made NoArm = []
  after_arms several env ps made (Arm c places body arms) = after_block several env ps made body ++ after_arms several env ps made arms

-- impure calls that may be bound after these: no occurrence is bound twice
pub record AreNew (made more : List ℕ) : Type 0 where
  pub once : EachOnce more
  pub apart : (k : ℕ) → Contains made k → Contains more k → ⊥
