-- When a meaning takes apart again what the constructor of an instruction made.
use Rattle.std.specs.Prelude.{◌≡◌, ℕ, List, [], ◌∷◌, Contains, Option, Some, None, codes}
use Rattle.isle_base.specs.declared.ids.TermId.{TermId}
use Rattle.isle_core.specs.Calling.{Calling, ByTurns, ByCases, NoCall, extracting}
use Rattle.isle_core.specs.Choice.{first_items}
use Rattle.isle_core.specs.Match.{Names}
use Rattle.isle_core.specs.Meaning.{Meaning, case}
use Rattle.isle_core.specs.Outcome.{IsHighest}
use Rattle.isle_core.specs.Rule.{Environment, Rule, rules_of}
use Rattle.isle_core.specs.Terms.{term_name}
use Rattle.isle_core.specs.Tests.{rule_places}
use Rattle.isle_core.specs.Value.{Value, Answer, Plain, Found, Several, Made}
use Rattle.isle_prelude.specs.NumberedNames.{value_array, value_array_ctor, block_array}
use Rattle.isle_prelude_laws.specs.GivenCalls.{GivenCall, given_calls}

-- what is made of parts and taken apart again: an instruction with a result, any other one, so many values, so many blocks
pub data Whole : Type 0 where
  ValuedInst : Whole
  SkeletonInst : Whole
  ValueArray : ℕ → Whole
  BlockArray : ℕ → Whole

-- the term that makes it
abbrev pub maker : Whole → List ℕ
maker ValuedInst = codes "make_inst"
maker SkeletonInst = codes "make_skeleton_inst"
maker (ValueArray n) = value_array_ctor n
maker (BlockArray n) = block_array n

-- the term that takes it apart
abbrev pub taker : Whole → List ℕ
taker ValuedInst = codes "inst_data_value"
taker SkeletonInst = codes "inst_data"
taker (ValueArray n) = value_array n
taker (BlockArray n) = block_array n

-- the answer that gives exactly these parts: the only item of a list, what is found, or what is always there
abbrev pub gives_back : Whole → List Value → Answer
gives_back ValuedInst vs = Several (vs ∷ [])
gives_back SkeletonInst vs = Found vs
gives_back (ValueArray n) vs = Plain vs
gives_back (BlockArray n) vs = Plain vs

-- what an extractor answers to a value
abbrev pub answer_to : Meaning → Calling → Value → Option Answer
answer_to m (ByCases callee kind) v = Some (case m callee (v ∷ []))
answer_to m (ByTurns callee kind) v = None
answer_to m NoCall v = None

-- what the call made is taken apart into the call's arguments
abbrev pub IsTakenBack : Environment → Meaning → GivenCall → Type 0
IsTakenBack env m c =
    (w : Whole) (by : TermId) → term_name env c.term ≡ maker w → term_name env by ≡ taker w
    → answer_to m (extracting env by) c.gave ≡ Some (gives_back w c.args)

-- so is what each of these calls made
abbrev pub AreTakenBack : Environment → Meaning → List GivenCall → Type 0
AreTakenBack env m calls = (c : GivenCall) → Contains calls c → IsTakenBack env m c

-- the meaning is honest on these operands: so is what the calls made that the term's constructor makes on them, after those made before
abbrev pub IsHonest : Environment → Meaning → TermId → List Value → List Made → Type 0
IsHonest env m term operands made =
    (r : Rule) (names : Names) → IsHighest env m operands (rules_of env term) r names
    → AreTakenBack env m (given_calls env m first_items r.rhs names (rule_places env r) 0 made)
