-- What the rules of a term prescribe.
use Rattle.std.specs.Prelude.{◌≡◌, ◌<ℤ◌, ◌⊎◌, List, Option, Some, None, Contains, option_and_then}
use Rattle.isle_core.specs.declared.types.ReturnKind.{ReturnKind}
use Rattle.isle_core.specs.declared.types.ReturnKind.TheVariants as return_kind
use Rattle.isle_core.specs.Value.{Value, Made}
use Rattle.isle_core.specs.Meaning.{Meaning}
pub use Rattle.isle_core.specs.Calling.{kind_of}
use Rattle.isle_core.specs.Choice.{Choice, first_items}
use Rattle.isle_core.specs.Match.{Names, no_names, matches_all}
use Rattle.isle_core.specs.Eval.{Evaluated, Answered, Failed, evaluated, iflets_names}
use Rattle.isle_core.specs.Rule.{Environment, Rule}
use Rattle.isle_core.specs.Tests.{no_places, args_after, rule_places}

-- a value, a failure, or that no rule of a term that must answer matches
pub data Result : Type 0 where
  Value' : Value → Result
  Failure : Result
  Unmatched : Result

-- the result, and all impure calls so far, in order
pub record Prescription : Type 0 where
  pub result : Result
  pub calls : List Made

-- the names of a rule that matches with these items chosen: its patterns match the arguments and its conditions hold
abbrev pub chosen_names : Environment → Meaning → Choice → List Value → Rule → Option Names
chosen_names env m choice args r = option_and_then (iflets_names env m choice r.iflets (args_after env r.args 0 no_places)) (matches_all env m choice r.args 0 args no_names)

-- those of a rule that calls nothing which answers several times
abbrev pub rule_names : Environment → Meaning → List Value → Rule → Option Names
rule_names env m args r = chosen_names env m first_items args r

-- what the right side of such a rule gives, after the calls made before
abbrev pub rule_value : Environment → Meaning → Rule → Names → List Made → Evaluated
rule_value env m r names made = evaluated env m first_items r.rhs names (rule_places env r) 0 made

-- no rule matches
abbrev pub NoneMatches : Environment → Meaning → List Value → List Rule → Type 0
NoneMatches env m args rules = (r : Rule) → Contains rules r → rule_names env m args r ≡ None

-- the rule matches with these names, and each other that matches has a lower priority
pub record IsHighest (env : Environment) (m : Meaning) (args : List Value) (rules : List Rule) (r : Rule) (names : Names) : Type 0 where
  pub among : Contains rules r
  pub matched : rule_names env m args r ≡ Some names
  pub above : (q : Rule) (others : Names) → Contains rules q → rule_names env m args q ≡ Some others → (q ≡ r) ⊎ (q.prio <ℤ r.prio)

-- if no rule matches: a term that must answer is not to be called so, any other one gives nothing
abbrev pub unmatched : ReturnKind → Result
unmatched return_kind.Plain = Unmatched
unmatched return_kind.Option = Failure
unmatched return_kind.Iterator = Failure

-- what the evaluation of a right side gives
abbrev pub prescription_of : Evaluated → Prescription
prescription_of (Answered v calls) = record { result = Value' v; calls = calls }
prescription_of (Failed calls) = record { result = Failure; calls = calls }

-- what the rules of a term without `multi` prescribe, after the calls made before: no rule matches, or the one highest that does answers or fails
pub data Prescribed (env : Environment) (m : Meaning) (args : List Value) (rules : List Rule) (kind : ReturnKind) (made : List Made) : Prescription → Type 0 where
  no_rule : NoneMatches env m args rules → Prescribed env m args rules kind made (record { result = unmatched kind; calls = made })
  one_rule : (r : Rule) (names : Names) → IsHighest env m args rules r names → Prescribed env m args rules kind made (prescription_of (rule_value env m r names made))
