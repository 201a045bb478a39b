-- The arms of a match of several, as they are made before others.
use Rattle.std.specs.Prelude.{◌≡◌, ℕ, List, [], ◌∷◌, Option, Some}
use Rattle.isle_core.specs.ArmPlaces.{bound_within}
use Rattle.isle_core.specs.BlockViews.{SeenArm}
use Rattle.isle_core.specs.Setting.{Setting}
use Rattle.isle_tree.specs.declared.tree.Stmt.{Stmt as CodeStmt}
use Rattle.isle_tree.specs.declared.tree.TPat.{TPat}
use Rattle.isle_tree.specs.Program.{Arms, Body}
use Rattle.isle_tree.specs.Views.{body}
use Rattle.isle_emission.specs.MadeBodies.{made_in_arm}
use Rattle.isle_simulation.specs.Manner.{Manner}
use Rattle.isle_simulation.specs.Patterns.{arm_pattern}
use Rattle.isle_simulation.specs.Statements.{arm_before}

-- an arm as the code has it: its pattern, and its statements
abbrev pub Case : Type 0
Case = TPat × List CodeStmt

-- arms before others
abbrev pub cases_onto : List Case → Option Arms → Option Arms
cases_onto [] others = others
cases_onto (x ∷ xs) others = arm_before (Some x.0) (Some (body x.1)) (cases_onto xs others)

-- an arm with this body stands after the arms before
abbrev pub PushesArm : Setting → SeenArm → Option Body → (old new : List Case) → Type 0
PushesArm s a inside old new = (others : Option Arms) → cases_onto new others ≡ cases_onto old (arm_before (arm_pattern s.env a.0 a.1) inside others)

-- so of an arm of a block
abbrev pub PushesCase : Manner → Setting → List ℕ → SeenArm → (old new : List Case) → Type 0
PushesCase manner s bound a old new = PushesArm s a (made_in_arm manner s (bound_within bound a.1) a.2) old new
