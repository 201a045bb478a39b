-- The ways of rules, and what contracts see of the code's.
use Rattle.std.specs.Prelude.{ℕ, suc, List, [], ◌∷◌, ◌++◌, Bool, true, false, not, Option, Some, None, map, option_map, if◌then◌else◌}
use Rattle.std.specs.List.{filter}
use Rattle.std.specs.declared.cmp.Ordering.{Ordering}
use Rattle.std.specs.Ordering.{is_eq}
use Rattle.isle_core.specs.declared.BindingId.{BindingId}
use Rattle.isle_core.specs.declared.rule_sets.Constraint.{Constraint}
use Rattle.isle_core.specs.declared.rule_sets.FlatRule.{FlatRule}
use Rattle.isle_core.specs.contracts.rule_sets.ConstraintOrd.TheImpl as constraint_ord
use Rattle.isle_core.specs.Path.{Path, at}
use Rattle.isle_blocks.specs.Free.{is_free}
use Rattle.isle_blocks.specs.Tree.{Way}
use Rattle.isle_blocks.specs.declared.ways.Parted.{Parted}
use Rattle.isle_blocks.specs.declared.ways.Way.{Way as CodeWay}
use Rattle.isle_blocks.specs.declared.gathering.Group.{Group}

-- whether rules may share a test of this source: of a term that answers once always, and else if no item is chosen for it
abbrev pub is_shared : (several : Bool) → List Path → BindingId → Bool
is_shared true ps source = is_free (at ps source)
is_shared false ps source = true

-- the tests that rules may share, in order
abbrev pub early_tests : (several : Bool) → List Path → List (BindingId × Constraint) → List (BindingId × Constraint)
early_tests several ps cs = filter (λ (c : BindingId × Constraint). is_shared several ps c.0) cs

-- the others
abbrev pub late_tests : (several : Bool) → List Path → List (BindingId × Constraint) → List (BindingId × Constraint)
late_tests several ps cs = filter (λ (c : BindingId × Constraint). not (is_shared several ps c.0)) cs

-- a test, if it is wanted
abbrev pub one_if : (wanted : Bool) → BindingId × Constraint → List (BindingId × Constraint)
one_if true c = c ∷ []
one_if false c = []

-- a rule none of whose tests is made
abbrev pub way_of : (several : Bool) → List Path → FlatRule → Way
way_of several ps f = record { rule = f; early = early_tests several ps f.constraints; late = late_tests several ps f.constraints }

-- the code's
abbrev pub way : CodeWay → Way
way w = record { rule = w.rule.now; early = w.early.now; late = w.late.now }

-- the code's with its tests parted
abbrev pub parted_way : Parted → Way
parted_way p = record { rule = p.rule.now; early = p.early.items; late = p.late.items }

-- ---- ways by their constraints

-- the order of constraints
abbrev pub constraint_cmp : Constraint → Constraint → Ordering
constraint_cmp = (constraint_ord.ghosts).cmp

-- a way after those of its constraint
abbrev pub add_to : {W : Type 0} → Constraint → W → List (Constraint × List W) → List (Constraint × List W)
add_to c w [] = (c, w ∷ []) ∷ []
add_to c w (g ∷ gs) = if is_eq (constraint_cmp c g.0) then (g.0, g.1 ++ w ∷ []) ∷ gs else g ∷ add_to c w gs

-- the place of the group of a constraint
abbrev pub place_of : {W : Type 0} → Constraint → List (Constraint × List W) → Option ℕ
place_of c [] = None
place_of c (g ∷ gs) = if is_eq (constraint_cmp c g.0) then Some 0 else option_map suc (place_of c gs)

-- the code's groups
abbrev pub group : Group → Constraint × List Way
group g = (g.constraint, map way g.ways.items)
