-- What a rule set means: the highest rule that holds makes its calls in order and gives its result.
use Rattle.std.specs.Prelude.{List, [], ◌∷◌, ◌++◌, Bool, Option, Some, None, if◌then◌else◌, map}
use Rattle.std.specs.Ordering.{int_cmp, is_lt}
use Rattle.isle_base.specs.declared.ids.BindingId.{BindingId}
use Rattle.isle_core.specs.declared.rule_sets.Constraint.{Constraint}
use Rattle.isle_core.specs.declared.rule_sets.FlatRule.{FlatRule}
use Rattle.isle_core.specs.declared.types.ReturnKind.{ReturnKind}
use Rattle.isle_core.specs.Value.{Value}
use Rattle.isle_core.specs.Meaning.{Meaning}
use Rattle.isle_core.specs.Outcome.{Prescription, unmatched}
use Rattle.isle_core.specs.Path.{Path, at}
use Rattle.isle_core.specs.Tests.{Test, Is, Equal}
use Rattle.isle_core.specs.ValueAt.{nothing_known, value_at, all_hold}
use Rattle.isle_core.specs.CallRun.{Went, Goes, Ends, then_go, returns, run_calls}
use Rattle.isle_core.specs.Rule.{Environment}

-- a constraint of a binding, as a test of its path
abbrev pub is_test : List Path → BindingId × Constraint → Test
is_test ps c = Is (at ps c.0) c.1

-- an equality of bindings, as a test of their paths
abbrev pub equal_test : List Path → BindingId × BindingId → Test
equal_test ps e = Equal (at ps e.0) (at ps e.1)

-- the tests of a flat rule whose bindings have these paths
abbrev pub flat_tests : List Path → FlatRule → List Test
flat_tests ps f = map (is_test ps) f.constraints ++ map (equal_test ps) f.equals

-- a flat rule holds
abbrev pub flat_holds : Environment → Meaning → List Value → List Path → FlatRule → Bool
flat_holds env m args ps f = all_hold env m (value_at env m args nothing_known) (flat_tests ps f)

-- what a run gives; one that goes on after the last step matched nothing
abbrev pub gave : ReturnKind → Went → Prescription
gave kind (Goes known made) = record { result = unmatched kind; calls = made }
gave kind (Ends o) = o

-- the ordered calls of a flat rule, a failure ending them, then its result
abbrev pub flat_run : Environment → Meaning → List Value → List Path → FlatRule → Went
flat_run env m args ps f = then_go (run_calls env m args (map (at ps) f.ordered) nothing_known []) (returns env m args (at ps f.result))

-- the higher of a rule and another after it
abbrev pub higher : FlatRule → Option FlatRule → FlatRule
higher f None = f
higher f (Some g) = if is_lt (int_cmp f.prio g.prio) then g else f

-- the highest rule that holds, the first of equals
abbrev pub highest : (FlatRule → Bool) → List FlatRule → Option FlatRule
highest ok [] = None
highest ok (f ∷ fs) = if ok f then Some (higher f (highest ok fs)) else highest ok fs

-- what a rule gives, or that none holds
abbrev pub given : Environment → Meaning → List Value → List Path → ReturnKind → Option FlatRule → Prescription
given env m args ps kind None = record { result = unmatched kind; calls = [] }
given env m args ps kind (Some f) = gave kind (flat_run env m args ps f)

-- what the rules of a set give whose bindings have these paths
abbrev pub set_outcome : Environment → Meaning → List Value → List Path → List FlatRule → ReturnKind → Prescription
set_outcome env m args ps fs kind = given env m args ps kind (highest (flat_holds env m args ps) fs)
