-- Ways after tests, of rules none of which is above one before it.
use Rattle.std.proofs.Common.{◌≡◌, ◌⊎◌, inl, inr, ⊎_elim, List, [], ◌∷◌, ◌++◌, false, map, refl, sym, ap, ◌∙◌, subst}
use Rattle.std.specs.Prelude.{Contains}
use Rattle.std.specs.List.{AllByRecursion}
use Rattle.isle_core.specs.declared.BindingId.{BindingId}
use Rattle.isle_core.specs.declared.rule_sets.Constraint.{Constraint}
use Rattle.isle_core.specs.declared.rule_sets.FlatRule.{FlatRule}
use Rattle.isle_core.proofs.RulePairs.{all_from}
use Rattle.isle_core.proofs.Contained.{head_contained, tail_contained, contained_cases, none_contained}
use Rattle.isle_blocks.specs.AllTests.{AreAmong}
use Rattle.isle_blocks.specs.Arranged.{rules_of}
use Rattle.isle_blocks.specs.Order.{is_above, NoneAbove, Falls}
use Rattle.isle_blocks.specs.Tree.{Way, Tests, AllTest, Parts, none, same, other}

-- ---- ways after tests

-- what is left of a way's tests
abbrev pub left : Way → List (BindingId × Constraint)
left w = w.early ++ w.late

-- a way's rule makes these tests, and what else it tests is left
pub record IsOn (made : List (BindingId × Constraint)) (w : Way) : Type 0 where
  pub tests : (c : BindingId × Constraint) → Contains made c → Contains w.rule.constraints c
  pub all : (c : BindingId × Constraint) → Contains w.rule.constraints c → Contains made c ⊎ Contains (left w) c

on_left : (made : List (BindingId × Constraint)) (source : BindingId) (w : Way) (c : Constraint) (after : Way) → Tests source w c after
    → Contains w.rule.constraints (source, c) → IsOn made w → IsOn ((source, c) ∷ made) after
on_left made source w c after k here h = record {
  tests = λ x i. subst (λ f. Contains f.constraints x) (sym k.rule) (⊎_elim (λ (e : (source, c) ≡ x). subst (Contains w.rule.constraints) e here) (λ j. h.tests x j) (contained_cases (source, c) made x i));
  all = λ x i. ⊎_elim
      (λ j. inl (tail_contained (source, c) made x j))
      (λ j. ⊎_elim
      (λ (e : (source, c) ≡ x). inl (subst (Contains ((source, c) ∷ made)) e (head_contained (source, c) made)))
      (λ l. inr (subst (λ xs. Contains (after.early ++ xs) x) (sym k.late) l))
      (contained_cases (source, c) (after.early ++ w.late) x (subst (λ xs. Contains (xs ++ w.late) x) k.tests j)))
      (h.all x (subst (λ f. Contains f.constraints x) k.rule i));
}

-- the test against which a way stands is its rule's
first_of : (made : List (BindingId × Constraint)) (source : BindingId) (w : Way) (c : Constraint) (after : Way) → Tests source w c after
    → AreAmong (left w) w.rule.constraints → Contains w.rule.constraints (source, c)
first_of made source w c after k h = (subst (λ xs. AreAmong (xs ++ w.late) w.rule.constraints) k.tests h).0

-- ---- ways of these rules

module _ (rules : List FlatRule) where
  -- the way's rule is one of these, its tests are made or left, and none is made that isn't its rule's
  pub record IsGood (made : List (BindingId × Constraint)) (w : Way) : Type 0 where
    pub there : Contains rules w.rule
    pub on : IsOn made w
    pub own' : AreAmong (left w) w.rule.constraints

  -- if no test of a way is left, all tests of its rule were made
  pub made_by : (made : List (BindingId × Constraint)) (w : Way) → IsGood made w → w.early ≡ [] → w.late ≡ [] → (x : BindingId × Constraint)
      → Contains w.rule.constraints x → Contains made x
  made_by made w h early late x i = ⊎_elim (λ j. j) (λ j. absurd (none_contained x (subst (λ xs. Contains xs x) (ap (λ xs. xs ++ w.late) early ∙ late) j))) (h.on.all x i)

  -- so they are among those of a rule that makes these
  pub made_among : (f : FlatRule) (made : List (BindingId × Constraint)) (w : Way) → IsGood made w → w.early ≡ [] → w.late ≡ []
      → ((x : BindingId × Constraint) → Contains made x → Contains f.constraints x) → AreAmong w.rule.constraints f.constraints
  made_among f made w h early late among = all_from (Contains f.constraints) w.rule.constraints (λ x i. among x (made_by made w h early late x i))

  -- none of these rules is above one that stands before them
  pub below_all : (f v : FlatRule) (fs : List FlatRule) → NoneAbove v fs → Contains fs f → is_above f v ≡ false
  below_all f v [] h i = absurd (none_contained f i)
  below_all f v (x ∷ fs) h i = ⊎_elim (λ (e : x ≡ f). subst (λ y. is_above y v ≡ false) e h.0) (λ j. below_all f v fs h.1 j) (contained_cases x fs f i)

  pub rule_in : (ws : List Way) (w : Way) → Contains ws w → Contains (rules_of ws) w.rule
  rule_in [] w i = absurd (none_contained w i)
  rule_in (v ∷ ws) w i = ⊎_elim (λ (e : v ≡ w). subst (λ (x : Way). Contains (v.rule ∷ rules_of ws) x.rule) e (head_contained v.rule (rules_of ws))) (λ j. tail_contained v.rule (rules_of ws) w.rule (rule_in ws w j)) (contained_cases v ws w i)

  abbrev pub left_rules : List (Constraint × Way) → List FlatRule
  left_rules js = map (λ (j : Constraint × Way). j.1.rule) js

  -- ways that are left after their tests of a source
  abbrev pub AreLeft : BindingId → List (BindingId × Constraint) → List (Constraint × Way) → Type 0
  AreLeft over made js = AllByRecursion (λ (j : Constraint × Way). IsGood ((over, j.0) ∷ made) j.1) js

  -- ways and what is left of them
  pub record HasLeft (over : BindingId) (w : Way) (js : List (Constraint × Way)) : Type 0 where
    pub one : Constraint × Way
    pub in' : Contains js one
    pub tests : Tests over w one.0 one.1

  pub has_left : (over : BindingId) (ws : List Way) (js : List (Constraint × Way)) (w : Way) → AllTest over ws js → Contains ws w → HasLeft over w js
  has_left over [] js w k i = absurd (none_contained w i)
  has_left over (v ∷ ws) [] w k i = absurd k
  has_left over (v ∷ ws) (j ∷ js) w k i = ⊎_elim
      (λ (e : v ≡ w). record { one = j; in' = head_contained j js; tests = subst (λ (x : Way). Tests over x j.0 j.1) e k.0 })
      (λ l. let r = has_left over ws js w k.1 l in record { one = r.one; in' = tail_contained j js r.one r.in'; tests = r.tests })
      (contained_cases v ws w i)

  pub all_left : (over : BindingId) (made : List (BindingId × Constraint)) (ws : List Way) (js : List (Constraint × Way)) → AllTest over ws js
      → AllByRecursion (IsGood made) ws → AreLeft over made js
  all_left over made [] [] k h = tt
  all_left over made (w ∷ ws) (j ∷ js) k h =
      let here = first_of made over w j.0 j.1 k.0 h.0.own' in (
        record {
          there = subst (Contains rules) (sym k.0.rule) h.0.there;
          on = on_left made over w j.0 j.1 k.0 here h.0.on;
          own' = subst (λ r. AreAmong (left j.1) r.constraints) (sym k.0.rule) (subst (λ xs. AreAmong (j.1.early ++ xs) w.rule.constraints) (sym k.0.late) (subst (λ xs. AreAmong (xs ++ w.late) w.rule.constraints) k.0.tests h.0.own').1);
        },
        all_left over made ws js k.1 h.1,
      )
  all_left over made [] (j ∷ js) k h = absurd k
  all_left over made (w ∷ ws) [] k h = absurd k

  pub left_fall : (over : BindingId) (ws : List Way) (js : List (Constraint × Way)) → AllTest over ws js → left_rules js ≡ rules_of ws
  left_fall over [] [] k = refl
  left_fall over (w ∷ ws) (j ∷ js) k = ap (λ x. x ∷ left_rules js) k.0.rule ∙ ap (λ xs. w.rule ∷ xs) (left_fall over ws js k.1)
  left_fall over [] (j ∷ js) k = absurd k
  left_fall over (w ∷ ws) [] k = absurd k

  -- those of one constraint and the others
  pub record HaveParts (over : BindingId) (made : List (BindingId × Constraint)) (d : Constraint) (js others : List (Constraint × Way)) (ws : List Way) : Type 0 where
    pub same_good : AllByRecursion (IsGood ((over, d) ∷ made)) ws
    pub others_good : AreLeft over made others
    pub same_fall : Falls (rules_of ws)
    pub others_fall : Falls (left_rules others)
    pub same_none : (x : FlatRule) → NoneAbove x (left_rules js) → NoneAbove x (rules_of ws)
    pub others_none : (x : FlatRule) → NoneAbove x (left_rules js) → NoneAbove x (left_rules others)
    pub cases' : (j : Constraint × Way) → Contains js j → ((j.0 ≡ d) × Contains ws j.1) ⊎ Contains others j

  pub parts_of : (over : BindingId) (made : List (BindingId × Constraint)) (d : Constraint) (js others : List (Constraint × Way)) (ws : List Way)
      → Parts d js ws others → AreLeft over made js → Falls (left_rules js) → HaveParts over made d js others ws
  parts_of over made d js others ws none h fall = record { same_good = tt; others_good = tt; same_fall = tt; others_fall = tt; same_none = λ x n. n; others_none = λ x n. n; cases' = λ j i. absurd (none_contained j i) }
  parts_of over made d js others ws (same j more rest vs e k) h fall =
      let r = parts_of over made d more rest vs k h.1 fall.1 in
      record {
        same_good = (subst (λ x. IsGood ((over, x) ∷ made) j.1) e h.0, r.same_good);
        others_good = r.others_good;
        same_fall = (r.same_none j.1.rule fall.0, r.same_fall);
        others_fall = r.others_fall;
        same_none = λ x n. (n.0, r.same_none x n.1);
        others_none = λ x n. r.others_none x n.1;
        cases' = λ i l. ⊎_elim
            (λ (e' : j ≡ i). inl (ap (λ (y : Constraint × Way). y.0) (sym e') ∙ e, subst (λ (y : Constraint × Way). Contains (j.1 ∷ vs) y.1) e' (head_contained j.1 vs)))
            (λ l'. ⊎_elim (λ p. inl (p.0, tail_contained j.1 vs i.1 p.1)) (λ q. inr q) (r.cases' i l')) (contained_cases j more i l);
      }
  parts_of over made d js others ws (other j more rest vs e k) h fall =
      let r = parts_of over made d more rest vs k h.1 fall.1 in
      record {
        same_good = r.same_good;
        others_good = (h.0, r.others_good);
        same_fall = r.same_fall;
        others_fall = (r.others_none j.1.rule fall.0, r.others_fall);
        same_none = λ x n. r.same_none x n.1;
        others_none = λ x n. (n.0, r.others_none x n.1);
        cases' = λ i l. ⊎_elim
            (λ (e' : j ≡ i). inr (subst (Contains (j ∷ rest)) e' (head_contained j rest)))
            (λ l'. ⊎_elim (λ p. inl p) (λ q. inr (tail_contained j rest i q)) (r.cases' i l')) (contained_cases j more i l);
      }

  pub falls_first : (fs gs : List FlatRule) → Falls (fs ++ gs) → Falls fs
  falls_first [] gs h = tt
  falls_first (x ∷ fs) gs h = (none_first fs h.0, falls_first fs gs h.1)
    where
      none_first : (ys : List FlatRule) → NoneAbove x (ys ++ gs) → NoneAbove x ys
      none_first [] n = tt
      none_first (y ∷ ys) n = (n.0, none_first ys n.1)

  pub falls_second : (fs gs : List FlatRule) → Falls (fs ++ gs) → Falls gs
  falls_second [] gs h = h
  falls_second (x ∷ fs) gs h = falls_second fs gs h.1

  pub rules_append : (vs ws : List Way) → rules_of (vs ++ ws) ≡ rules_of vs ++ rules_of ws
  rules_append [] ws = refl
  rules_append (v ∷ vs) ws = ap (λ fs. v.rule ∷ fs) (rules_append vs ws)

  pub both_good : (made : List (BindingId × Constraint)) (vs ws : List Way) → AllByRecursion (IsGood made) (vs ++ ws)
      → AllByRecursion (IsGood made) vs × AllByRecursion (IsGood made) ws
  both_good made [] ws h = (tt, h)
  both_good made (v ∷ vs) ws h = let k = both_good made vs ws h.1 in ((h.0, k.0), k.1)
