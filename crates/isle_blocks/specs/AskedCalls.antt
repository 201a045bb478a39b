-- How many calls of extractors and pure terms a block has.
use Rattle.std.specs.Prelude.{ℕ, ◌+◌, List, [], ◌∷◌, Bool, true, false, Option, Some, None, slice_get}
use Rattle.isle_core.specs.declared.BindingId.{BindingId}
use Rattle.isle_core.specs.declared.rule_sets.Binding.{Binding}
use Rattle.isle_core.specs.declared.rule_sets.Binding.TheVariants as binding
use Rattle.isle_core.specs.Block.{Block, Stop, Step, Control, Match, Equal, Loop, Return, Arms, NoArm, Arm}
use Rattle.isle_core.specs.Calling.{calling}
use Rattle.isle_core.specs.HoldsImpure.{takes_turn}
use Rattle.isle_core.specs.Rule.{Environment}

-- a call of a term counts if it isn't impure
abbrev pub if_pure : (impure : Bool) → ℕ
if_pure true = 0
if_pure false = 1

-- whether a binding is a call of an extractor or of a pure term: 1 if it is, and 0 if not
abbrev pub asked_one : Environment → Option Binding → ℕ
asked_one env (Some (binding.Extractor term parameter)) = 1
asked_one env (Some (binding.Constructor term parameters instance)) = if_pure (takes_turn (calling env term))
asked_one env (Some (binding.ConstBool val ty)) = 0
asked_one env (Some (binding.ConstInt val ty)) = 0
asked_one env (Some (binding.ConstPrim val)) = 0
asked_one env (Some (binding.Argument index)) = 0
asked_one env (Some (binding.Iterator source)) = 0
asked_one env (Some (binding.MakeVariant ty variant fields)) = 0
asked_one env (Some (binding.MakeStruct ty fields)) = 0
asked_one env (Some (binding.MatchVariant source variant field)) = 0
asked_one env (Some (binding.ExtractStruct source field)) = 0
asked_one env (Some (binding.MakeSome inner)) = 0
asked_one env (Some (binding.MatchSome source)) = 0
asked_one env (Some (binding.MatchTuple source field)) = 0
asked_one env None = 0

-- how many of a bind order are
abbrev pub asked_binds : Environment → List Binding → List BindingId → ℕ
asked_binds env bs [] = 0
asked_binds env bs (b ∷ order) = asked_one env (slice_get bs b.0) + asked_binds env bs order

-- how many of the bind orders of a block and of all blocks within it are
abbrev mutual
  pub asked_calls : Environment → List Binding → Block → ℕ
  asked_calls env bs Stop = 0
  asked_calls env bs (Step order c more) = asked_binds env bs order + (asked_control env bs c + asked_calls env bs more)

  pub asked_control : Environment → List Binding → Control → ℕ
  asked_control env bs (Match source arms) = asked_arms env bs arms
  asked_control env bs (Equal a b body) = asked_calls env bs body
  asked_control env bs (Loop result body) = asked_calls env bs body
  asked_control env bs (Return pos result) = 0

  pub asked_arms : Environment → List Binding → Arms → ℕ
  asked_arms env bs NoArm = 0
  asked_arms env bs (Arm c places body arms) = asked_calls env bs body + asked_arms env bs arms
