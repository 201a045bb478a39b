-- Where each Return of a block is that of a rule, it has the position of one.
use Rattle.std.proofs.Common.{◌≡◌, ⊎_elim, List, [], ◌∷◌, ◌++◌, map, subst}
use Rattle.std.specs.Prelude.{Contains}
use Rattle.isle_core.specs.declared.BindingId.{BindingId}
use Rattle.isle_core.specs.declared.position.Pos.{Pos}
use Rattle.isle_core.specs.declared.rule_sets.FlatRule.{FlatRule}
use Rattle.isle_core.specs.declared.rule_sets.RuleSet.{RuleSet}
use Rattle.isle_core.specs.Block.{Block, Stop, Step, Control, Match, Equal, Loop, Return, Arms, NoArm, Arm}
use Rattle.isle_core.proofs.Contained.{head_contained, tail_contained, contained_cases, none_contained}
use Rattle.isle_core.specs.ReturnPositions.{return_positions, control_positions, arms_positions, ArePositionsOf}
use Rattle.isle_blocks.specs.RuleTests.{TestsRules, DoesRules, ArmsTestRules}

both : (fs : List FlatRule) (ps qs : List Pos) → ArePositionsOf fs ps → ArePositionsOf fs qs → ArePositionsOf fs (ps ++ qs)
both fs [] qs h k = k
both fs (p ∷ ps) qs h k = (h.0, both fs ps qs h.1 k)

-- the position of a rule is among those of the rules
has_position : (fs : List FlatRule) (f : FlatRule) → Contains fs f → Contains (map (λ (g : FlatRule). g.pos) fs) f.pos
has_position [] f c = absurd (none_contained f c)
has_position (g ∷ fs) f c =
    let ps = map (λ (h : FlatRule). h.pos) fs in
    ⊎_elim (λ (e : g ≡ f). subst (λ (h : FlatRule). Contains (g.pos ∷ ps) h.pos) e (head_contained g.pos ps)) (λ d. tail_contained g.pos ps f.pos (has_position fs f d)) (contained_cases g fs f c)

mutual
  pub tests_positions : (s : RuleSet) (b : Block) → TestsRules s b → ArePositionsOf s.rules (return_positions b)
  tests_positions s Stop h = tt
  tests_positions s (Step binds c more) h = both s.rules (control_positions c) (return_positions more) (does_positions s c h.0) (tests_positions s more h.1)

  does_positions : (s : RuleSet) (c : Control) → DoesRules s c → ArePositionsOf s.rules (control_positions c)
  does_positions s (Match source arms) h = arms_test_positions s source arms h
  does_positions s (Equal a b body) h = tests_positions s body h.1
  does_positions s (Loop result body) h = tests_positions s body h
  does_positions s (Return pos result) h = (subst (Contains (map (λ (f : FlatRule). f.pos) s.rules)) h.position (has_position s.rules h.rule h.there), tt)

  arms_test_positions : (s : RuleSet) (source : BindingId) (arms : Arms) → ArmsTestRules s source arms → ArePositionsOf s.rules (arms_positions arms)
  arms_test_positions s source NoArm h = tt
  arms_test_positions s source (Arm c places body arms) h = both s.rules (return_positions body) (arms_positions arms) (tests_positions s body h.1) (arms_test_positions s source arms h.2)
