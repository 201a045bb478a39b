-- The matching rule of highest priority, and what it gives.
use Rattle.std.specs.Prelude.{◌≡◌, List, [], ◌∷◌, Option, Some, None, if◌then◌else◌, Contains}
use Rattle.std.specs.Ordering.{int_cmp, is_lt}
use Rattle.isle_core.specs.declared.types.ReturnKind.{ReturnKind}
use Rattle.isle_core.specs.Value.{Value, Made}
use Rattle.isle_core.specs.Meaning.{Meaning}
use Rattle.isle_core.specs.Match.{Names}
use Rattle.isle_core.specs.Outcome.{Prescription, prescription_of, rule_names, rule_value, unmatched}
use Rattle.isle_core.specs.Rule.{Environment, Rule}

-- a rule that matches, or a higher one after it
abbrev pub better : Rule → Names → Option (Rule × Names) → Rule × Names
better r names None = (r, names)
better r names (Some o) = if is_lt (int_cmp r.prio o.0.prio) then o else (r, names)

-- a rule if it matches, and those after it
abbrev pub or_later : Rule → Option Names → Option (Rule × Names) → Option (Rule × Names)
or_later r None later = later
or_later r (Some names) later = Some (better r names later)

-- the highest rule that matches with its names, the first of equals
abbrev pub highest_match : Environment → Meaning → List Value → List Rule → Option (Rule × Names)
highest_match env m args [] = None
highest_match env m args (r ∷ rs) = or_later r (rule_names env m args r) (highest_match env m args rs)

-- what the highest rule gives after the calls made before, or that none matches
abbrev pub given_by : Environment → Meaning → ReturnKind → Option (Rule × Names) → List Made → Prescription
given_by env m kind None made = record { result = unmatched kind; calls = made }
given_by env m kind (Some o) made = prescription_of (rule_value env m o.0 o.1 made)

-- what the rules of a term give after the calls made before
abbrev pub outcome_of : Environment → Meaning → List Value → List Rule → ReturnKind → List Made → Prescription
outcome_of env m args rules kind made = given_by env m kind (highest_match env m args rules) made

-- two rules that match and have one priority are one
abbrev pub AreApart : Environment → Meaning → List Value → List Rule → Type 0
AreApart env m args rules =
    (q r : Rule) (names others : Names) → Contains rules q → Contains rules r → rule_names env m args q ≡ Some names → rule_names env m args r ≡ Some others → q.prio ≡ r.prio → q ≡ r

-- no other rule that matches has the priority of the highest
pub record HighestIsOne (env : Environment) (m : Meaning) (args : List Value) (rules : List Rule) : Type 0 where
  pub one : (r q : Rule) (names others : Names) → highest_match env m args rules ≡ Some (r, names) → Contains rules q → rule_names env m args q ≡ Some others → q.prio ≡ r.prio → q ≡ r
