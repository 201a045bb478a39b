-- A tree makes each test that is tried.
use Rattle.std.proofs.Common.{◌≡◌, ◌⊎◌, inl, inr, ⊎_elim, ℕ, List, [], ◌∷◌, ◌++◌, Bool, true, false, Option, sym, ap, ◌∙◌, subst, true≢false}
use Rattle.std.specs.Prelude.{Contains}
use Rattle.std.specs.List.{AllByRecursion}
use Rattle.std.proofs.lemmas.List.Elements.{Contains-append_cases}
use Rattle.isle_core.specs.declared.BindingId.{BindingId}
use Rattle.isle_core.specs.declared.rule_sets.Binding.{Binding}
use Rattle.isle_core.specs.declared.rule_sets.Constraint.{Constraint}
use Rattle.isle_core.specs.declared.rule_sets.FlatRule.{FlatRule}
use Rattle.isle_core.specs.Block.{Block, Arms}
use Rattle.isle_core.proofs.RulePairs.{all_at}
use Rattle.isle_core.proofs.Contained.{contained_cases, none_contained}
use Rattle.isle_blocks.specs.AllTests.{HoldsTest, HasTestWithin, HasArm, IsTried}
use Rattle.isle_blocks.specs.Arranged.{rules_of}
use Rattle.isle_blocks.specs.Nest.{Shows, last_step, all_equated}
use Rattle.isle_blocks.specs.Order.{is_above, Falls}
use Rattle.isle_blocks.specs.Tree.{Way, Ground, IsTree, none, own, last, shared, AreTrees, no_arm, arm}
use Rattle.isle_blocks.proofs.LawAllTests.{matched_makes}
use Rattle.isle_blocks.proofs.TreeRules.{left, IsGood, AreLeft, left_rules, has_left, all_left, left_fall, parts_of, falls_first, falls_second, rules_append, both_good, made_by, made_among, below_all, rule_in}

-- ---- trees

module _ (several : Bool) (bs : List Binding) (shows : Shows) (next items : ℕ → Option BindingId) (rules : List FlatRule) (f : FlatRule) (source : BindingId) (c : Constraint) (tried : IsTried several rules f (source, c)) where
  abbrev g : Ground
  g = record { several = several; bindings = bs; shows = shows; next = next; items = items }

  -- the test stands in the block, or was made before
  abbrev Stands : List (BindingId × Constraint) → Block → Type 0
  Stands made b = HoldsTest source c b ⊎ Contains made (source, c)

  abbrev StandsIn : BindingId → List (BindingId × Constraint) → Arms → Type 0
  StandsIn over made arms = (((over ≡ source) × HasArm c arms) ⊎ HasTestWithin source c arms) ⊎ Contains made (source, c)

  -- a way without tests that stands before a way of the rule makes the test itself
  cut : (made : List (BindingId × Constraint)) (v : Way) → several ≡ false → IsGood rules made v → v.early ≡ [] → v.late ≡ [] → v.rule.equals ≡ [] → ((x : BindingId × Constraint) → Contains made x → Contains f.constraints x) → is_above f v.rule ≡ false → Contains made (source, c)
  cut made v once h early late equals among below = pick several once tried
    where
      pick : (b : Bool) → b ≡ false → IsTried b rules f (source, c) → Contains made (source, c)
      pick true e k = absurd cc
      pick false e k = ⊎_elim (λ i. made_by rules made v h early late (source, c) i) (λ above. absurd (true≢false (sym above ∙ below))) (k v.rule h.there equals (made_among rules f made v h early late among))

  mutual
    pub tree_makes : (ws : List Way) (bound : List ℕ) (b : Block) (made : List (BindingId × Constraint)) → IsTree g ws bound b → AllByRecursion (IsGood rules made) ws → Falls (rules_of ws) → (w : Way) → Contains ws w → w.rule ≡ f → Contains (left w) (source, c) → Stands made b
    tree_makes ws bound b made (none bound') h fall w i of x = absurd (none_contained w i)
    tree_makes ws bound b made (own v vs bound' more early tested k) h fall w i of x = ⊎_elim
        (λ (e : v ≡ w).
        let none_left : left w ≡ v.late = ap left (sym e) ∙ ap (λ xs. xs ++ v.late) early in
        inl (inl (matched_makes source c bs several shows v.late (all_equated several bs v.rule.equals (last_step several bs next items v.rule)) (subst (λ xs. Contains xs (source, c)) none_left x) bound)))
        (λ l. ⊎_elim (λ p. inl (inr p)) (λ q. inr q) (tree_makes vs bound more made k h.1 fall.1 w l of x)) (contained_cases v vs w i)
    tree_makes ws bound b made (last v vs bound' once early late equals) h fall w i of x = ⊎_elim
        (λ (e : v ≡ w).
        let none_left : left w ≡ [] = ap left (sym e) ∙ ap (λ xs. xs ++ v.late) early ∙ late in
        absurd (none_contained (source, c) (subst (λ xs. Contains xs (source, c)) none_left x)))
        (λ l. inr (cut made v once h.0 early late equals (λ y j. subst (λ r. Contains r.constraints y) of ((all_at (IsGood rules made) vs w h.1 l).on.tests y j)) (below_all rules f v.rule (rules_of vs) fall.0 (subst (Contains (rules_of vs)) of (rule_in rules vs w l)))))
        (contained_cases v vs w i)
    tree_makes ws bound b made (shared over v vs rest j js bound' arms more tests starts trees k) h fall w i of x =
        let good = both_good rules made (v ∷ vs) rest h in
        let falls = subst Falls (rules_append rules (v ∷ vs) rest) fall in
        ⊎_elim
        (λ l.
        let r = has_left rules over (v ∷ vs) (j ∷ js) w tests l in
        let here : Contains ((over, r.one.0) ∷ left r.one.1) (source, c) = subst (λ xs. Contains ((over, r.one.0) ∷ (r.one.1.early ++ xs)) (source, c)) (sym r.tests.late) (subst (λ xs. Contains (xs ++ w.late) (source, c)) r.tests.tests x) in
        ⊎_elim (λ p. inl (inl p)) (λ q. inr q)
        (arms_make over (j ∷ js) _ arms made trees (all_left rules over made (v ∷ vs) (j ∷ js) tests good.0) (subst Falls (sym (left_fall rules over (v ∷ vs) (j ∷ js) tests)) (falls_first rules (rules_of (v ∷ vs)) (rules_of rest) falls)) r.one r.in' (r.tests.rule ∙ of) here))
        (λ l. ⊎_elim (λ p. inl (inr p)) (λ q. inr q) (tree_makes rest _ more made k good.1 (falls_second rules (rules_of (v ∷ vs)) (rules_of rest) falls) w l of x))
        (Contains-append_cases (v ∷ vs) rest w i)

    arms_make : (over : BindingId) (js : List (Constraint × Way)) (bound : List ℕ) (arms : Arms) (made : List (BindingId × Constraint)) → AreTrees g over js bound arms → AreLeft rules over made js → Falls (left_rules rules js) → (j : Constraint × Way) → Contains js j → j.1.rule ≡ f
        → Contains ((over, j.0) ∷ left j.1) (source, c) → StandsIn over made arms
    arms_make over js bound arms made (no_arm over' bound') h fall j i of x = absurd (none_contained j i)
    arms_make over js bound arms made (arm over' d js' others u us bound' body more parts tree trees) h fall j i of x =
        let split = parts_of rules over made d js others (u ∷ us) parts h fall in
        ⊎_elim
        (λ p.
        ⊎_elim
        (λ (e : (over, j.0) ≡ (source, c)). inl (inl (ap (λ (y : BindingId × Constraint). y.0) e, inl (sym p.0 ∙ ap (λ (y : BindingId × Constraint). y.1) e))))
        (λ l. ⊎_elim
        (λ q. inl (inr (inl q)))
        (λ q. ⊎_elim
        (λ (e : (over, d) ≡ (source, c)). inl (inl (ap (λ (y : BindingId × Constraint). y.0) e, inl (ap (λ (y : BindingId × Constraint). y.1) e))))
        (λ y. inr y) (contained_cases (over, d) made (source, c) q))
        (tree_makes (u ∷ us) _ body ((over, d) ∷ made) tree split.same_good split.same_fall j.1 p.1 of l))
        (contained_cases (over, j.0) (left j.1) (source, c) x))
        (λ q. ⊎_elim
        (λ y. inl (⊎_elim (λ z. inl (z.0, inr z.1)) (λ z. inr (inr z)) y))
        (λ y. inr y)
        (arms_make over others bound more made trees split.others_good split.others_fall j q of x))
        (split.cases' j i)
