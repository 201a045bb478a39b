-- What is tested, and the statement of it.
use Rattle.std.specs.Prelude.{◌≡◌, ℕ, List, Option, Some}
use Rattle.isle_core.specs.declared.BindingId.{BindingId}
use Rattle.isle_core.specs.declared.rule_sets.Constraint.{Constraint}
use Rattle.isle_core.specs.Setting.{Setting}
use Rattle.isle_tree.specs.Program.{Stmt, Body}
use Rattle.isle_emission.specs.declared.tests.Test.{Test}
use Rattle.isle_emission.specs.declared.tests.Test.TheVariants as test
use Rattle.isle_simulation.specs.Statements.{if_eq, if_let, arm_stmt}

-- the statement of a test within which this body stands
abbrev pub test_stmt : Test → Option Body → Option Stmt
test_stmt (test.Equal a b) inside = if_eq (Some a) (Some b) inside
test_stmt (test.Fits pat read) inside = if_let (Some pat) (Some read) inside

-- the test is that of a binding against a constraint
abbrev pub IsTestOf : Setting → List ℕ → BindingId → Constraint → List (Option BindingId) → Test → Type 0
IsTestOf s bound source c places t = (inside : Option Body) → test_stmt t inside ≡ arm_stmt s bound source c places inside
