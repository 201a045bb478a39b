-- A tree holds the Return of each rule that is reached.
use Rattle.std.proofs.Common.{◌≡◌, inl, inr, ⊎_elim, ℕ, List, [], ◌∷◌, Bool, true, false, refl, sym, ap, ◌∙◌, subst, true≢false}
use Rattle.std.specs.Prelude.{Contains}
use Rattle.std.specs.List.{AllByRecursion}
use Rattle.std.proofs.lemmas.List.Elements.{Contains-append_cases}
use Rattle.isle_core.specs.declared.BindingId.{BindingId}
use Rattle.isle_core.specs.declared.rule_sets.Binding.{Binding}
use Rattle.isle_core.specs.declared.rule_sets.Constraint.{Constraint}
use Rattle.isle_core.specs.declared.rule_sets.FlatRule.{FlatRule}
use Rattle.isle_core.specs.ArmPlaces.{bound_within}
use Rattle.isle_core.specs.Bindable.{bound_by}
use Rattle.isle_core.specs.Block.{Block, Control, Match, Equal, Return, Arms, NoArm, Arm}
use Rattle.isle_core.proofs.RulePairs.{all_at}
use Rattle.isle_core.proofs.Contained.{contained_cases, none_contained}
use Rattle.isle_blocks.specs.AllReturns.{HoldsReturn, DoesReturn, HasReturnWithin, IsReached}
use Rattle.isle_blocks.specs.Arranged.{rules_of}
use Rattle.isle_blocks.specs.Needed.{needs}
use Rattle.isle_blocks.specs.Nest.{Shows, Behind, alone, opened, last_binds, last_step, all_matched, all_equated}
use Rattle.isle_blocks.specs.Order.{is_above, Falls}
use Rattle.isle_blocks.specs.Tree.{Way, Ground, way_step, IsTree, none, own, last, shared, AreTrees, no_arm, arm}
use Rattle.isle_blocks.proofs.OpenedSteps.{opened_holds}
use Rattle.isle_blocks.proofs.TreeRules.{IsGood, AreLeft, left_rules, has_left, all_left, left_fall, parts_of, falls_first, falls_second, rules_append, both_good, made_among, below_all, rule_in}

-- ---- a rule's own step

module _ (f : FlatRule) (several : Bool) (bs : List Binding) where
  opened_returns : (order : List BindingId) (c : Control) → DoesReturn f c → DoesReturn f (opened several bs order c).1
  opened_returns order c h = opened_holds (DoesReturn f) (λ b s k. inl k) several bs order c h

  equated_returns : (es : List (BindingId × BindingId)) (inner : Behind) → ((bound : List ℕ) → DoesReturn f (inner bound).1) → (bound : List ℕ)
      → DoesReturn f (all_equated several bs es inner bound).1
  equated_returns [] inner h bound = h bound
  equated_returns (e ∷ es) inner h bound =
      let order = needs bs bound (e.0 ∷ e.1 ∷ []) in
      opened_returns order (Equal e.0 e.1 (alone (all_equated several bs es inner (bound_by bound order)))) (inl (equated_returns es inner h (bound_by bound order)))

  matched_returns : (shows : Shows) (cs : List (BindingId × Constraint)) (inner : Behind) → ((bound : List ℕ) → DoesReturn f (inner bound).1)
      → (bound : List ℕ) → DoesReturn f (all_matched several bs shows cs inner bound).1
  matched_returns shows [] inner h bound = h bound
  matched_returns shows (c ∷ cs) inner h bound =
      let order = needs bs bound (c.0 ∷ []) in
      let now = bound_within (bound_by bound order) (shows c.0 c.1) in
      opened_returns order (Match c.0 (Arm c.1 (shows c.0 c.1) (alone (all_matched several bs shows cs inner now)) NoArm)) (inl (inl (matched_returns shows cs inner h now)))

-- a way's step holds its rule's Return
way_returns : (g : Ground) (w : Way) (bound : List ℕ) → DoesReturn w.rule (way_step g w bound).1
way_returns g w bound =
    matched_returns w.rule g.several g.bindings g.shows w.late (all_equated g.several g.bindings w.rule.equals (last_step g.several g.bindings g.next g.items w.rule))
    (equated_returns w.rule g.several g.bindings w.rule.equals (last_step g.several g.bindings g.next g.items w.rule)
    (λ now. opened_returns w.rule g.several g.bindings (last_binds g.several g.bindings g.next g.items now w.rule) (Return w.rule.pos w.rule.result) (refl, refl))) bound

-- ---- trees

module _ (g : Ground) (rules : List FlatRule) (f : FlatRule) (reached : IsReached g.several rules f) where
  -- so of the way of this rule
  step_returns : (w : Way) (bound : List ℕ) → w.rule ≡ f → DoesReturn f (way_step g w bound).1
  step_returns w bound e = subst (λ r. DoesReturn r (way_step g w bound).1) e (way_returns g w bound)

  -- a way without tests that stands before a way of the rule is the rule's too
  same_rule : (made : List (BindingId × Constraint)) (v : Way) → g.several ≡ false → IsGood rules made v → v.early ≡ [] → v.late ≡ [] → v.rule.equals ≡ []
      → ((x : BindingId × Constraint) → Contains made x → Contains f.constraints x) → is_above f v.rule ≡ false → v.rule ≡ f
  same_rule made v once h early late equals among below = pick g.several once reached
    where
      pick : (b : Bool) → b ≡ false → IsReached b rules f → v.rule ≡ f
      pick true e k = absurd cc
      pick false e k = ⊎_elim (λ same. same) (λ above. absurd (true≢false (sym above ∙ below))) (k v.rule h.there equals (made_among rules f made v h early late among))

  mutual
    pub tree_returned : (ws : List Way) (bound : List ℕ) (b : Block) (made : List (BindingId × Constraint)) → IsTree g ws bound b
        → AllByRecursion (IsGood rules made) ws → Falls (rules_of ws) → (w : Way) → Contains ws w → w.rule ≡ f → HoldsReturn f b
    tree_returned ws bound b made (none bound') h fall w i of = absurd (none_contained w i)
    tree_returned ws bound b made (own v vs bound' more early tested k) h fall w i of = ⊎_elim
        (λ (e : v ≡ w). inl (step_returns v bound (ap (λ (x : Way). x.rule) e ∙ of)))
        (λ l. inr (tree_returned vs bound more made k h.1 fall.1 w l of)) (contained_cases v vs w i)
    tree_returned ws bound b made (last v vs bound' once early late equals) h fall w i of = ⊎_elim
        (λ (e : v ≡ w). inl (step_returns v bound (ap (λ (x : Way). x.rule) e ∙ of)))
        (λ l.
        let among : (x : BindingId × Constraint) → Contains made x → Contains f.constraints x = λ y j. subst (λ r. Contains r.constraints y) of ((all_at (IsGood rules made) vs w h.1 l).on.tests y j) in
        inl (step_returns v bound (same_rule made v once h.0 early late equals among (below_all rules f v.rule (rules_of vs) fall.0 (subst (Contains (rules_of vs)) of (rule_in rules vs w l))))))
        (contained_cases v vs w i)
    tree_returned ws bound b made (shared over v vs rest j js bound' arms more tests starts trees k) h fall w i of =
        let good = both_good rules made (v ∷ vs) rest h in
        let falls = subst Falls (rules_append rules (v ∷ vs) rest) fall in
        ⊎_elim
        (λ l.
        let r = has_left rules over (v ∷ vs) (j ∷ js) w tests l in
        inl (arms_returned over (j ∷ js) _ arms made trees (all_left rules over made (v ∷ vs) (j ∷ js) tests good.0) (subst Falls (sym (left_fall rules over (v ∷ vs) (j ∷ js) tests)) (falls_first rules (rules_of (v ∷ vs)) (rules_of rest) falls)) r.one r.in' (r.tests.rule ∙ of)))
        (λ l. inr (tree_returned rest _ more made k good.1 (falls_second rules (rules_of (v ∷ vs)) (rules_of rest) falls) w l of))
        (Contains-append_cases (v ∷ vs) rest w i)

    arms_returned : (over : BindingId) (js : List (Constraint × Way)) (bound : List ℕ) (arms : Arms) (made : List (BindingId × Constraint))
        → AreTrees g over js bound arms → AreLeft rules over made js → Falls (left_rules rules js) → (j : Constraint × Way) → Contains js j → j.1.rule ≡ f
        → HasReturnWithin f arms
    arms_returned over js bound arms made (no_arm over' bound') h fall j i of = absurd (none_contained j i)
    arms_returned over js bound arms made (arm over' d js' others u us bound' body more parts tree trees) h fall j i of =
        let split = parts_of rules over made d js others (u ∷ us) parts h fall in
        ⊎_elim
        (λ p. inl (tree_returned (u ∷ us) _ body ((over, d) ∷ made) tree split.same_good split.same_fall j.1 p.1 of))
        (λ q. inr (arms_returned over others bound more made trees split.others_good split.others_fall j q of))
        (split.cases' j i)
