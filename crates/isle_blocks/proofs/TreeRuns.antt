-- A tree of rules of a term that answers once gives what the first of them gives that holds.
use Rattle.std.proofs.Common.{◌≡◌, ◌⊎◌, inl, inr, ℕ, List, [], ◌∷◌, ◌++◌, Bool, true, false, cond, ◌&&◌, Option, Some, None, map, refl, sym, ap, ◌∙◌, subst}
use Rattle.std.specs.Prelude.{Contains}
use Rattle.std.specs.List.{AllByRecursion, list_all}
use Rattle.isle_core.specs.declared.BindingId.{BindingId}
use Rattle.isle_core.specs.declared.rule_sets.Binding.{Binding}
use Rattle.isle_core.specs.declared.rule_sets.Constraint.{Constraint}
use Rattle.isle_core.specs.declared.rule_sets.FlatRule.{FlatRule}
use Rattle.isle_core.specs.declared.rule_sets.RuleSet.{RuleSet}
use Rattle.isle_core.specs.declared.types.Term.{Term}
use Rattle.isle_core.specs.Answered.{Held}
use Rattle.isle_core.specs.ApartTests.{AreTestsApart, IsPut}
use Rattle.isle_core.specs.ArmPlaces.{bound_within}
use Rattle.isle_core.specs.Bindable.{bound_by}
use Rattle.isle_core.specs.Block.{Block, Stop, Match, Arms}
use Rattle.isle_core.specs.BlockRun.{block_run, control_run, arms_run}
use Rattle.isle_core.specs.CallRun.{Went, Goes, then_go, run_calls}
use Rattle.isle_core.specs.Value.{Made}
use Rattle.isle_core.specs.Calling.{kind_of, is_several}
use Rattle.isle_core.specs.Meaning.{Meaning}
use Rattle.isle_core.specs.Path.{Path, Chosen, at, paths_of}
use Rattle.isle_core.specs.Rule.{Environment}
use Rattle.isle_core.specs.RuleSet.{is_test, equal_test, flat_holds, flat_run}
use Rattle.isle_core.specs.Serializable.{AreTestable, IsTestable, constraint_tests}
use Rattle.isle_core.specs.StandsFor.{EachOnce}
use Rattle.isle_core.specs.Tests.{Test, Is}
use Rattle.isle_core.specs.Value.{Value}
use Rattle.isle_core.specs.ValueAt.{Known, nothing_known, value_at, holds, meets}
use Rattle.isle_core.proofs.Contained.{head_contained, tail_contained, none_contained, contained_cases}
use Rattle.isle_blocks.specs.declared.fields.Shown.{Shown}
use Rattle.isle_blocks.specs.Fields.{FieldKey, FindsFields, shows}
use Rattle.isle_blocks.specs.Followers.{FindsInners, FindsItems}
use Rattle.isle_blocks.specs.Nest.{last_step, all_equated}
use Rattle.isle_blocks.specs.Tree.{Way, Ground, way_step, source_needs, Parts, none, same, other, IsTree, own, last, shared, AreTrees, no_arm, arm}
use Rattle.isle_blocks.proofs.FieldPlaces.{AreFieldsTyped}
use Rattle.isle_blocks.proofs.LawBound.{came_behind, came_holds}
use Rattle.isle_blocks.proofs.LawNest.{step_run, matched_does, equated_does, last_runs, result_ends}
use Rattle.isle_blocks.proofs.LawFirst.{first}
use Rattle.isle_blocks.proofs.LawSerializable.{IsTestReady, test_ready, within_arm, matched_still, equated_still, last_still}
use Rattle.isle_blocks.proofs.MadeBefore.{IsWithin, within_same, within_needs}
use Rattle.isle_blocks.proofs.NeededRuns.{needs_still}
use Rattle.isle_blocks.proofs.NextLaws.{FindsNext}
use Rattle.isle_blocks.proofs.StillRules.{StillLast, StillEquated}
use Rattle.isle_blocks.proofs.TreeWays.{left_tests, IsAfter, AreAfter, AreLeft, left_after, left_rules, same_after, others_left, some_left}
use Rattle.isle_blocks.specs.Arranged.{rules_of}

-- ---- runs

-- what the first way gives that holds; if none does, a run goes on
abbrev pub went : Environment → Meaning → List Value → List Path → Option FlatRule → Went
went env m args ps None = Goes nothing_known []
went env m args ps (Some f) = flat_run env m args ps f

-- a test of a list of tests that hold, holds
pub one_holds : (p : Test → Bool) (xs : List Test) (x : Test) → list_all p xs ≡ true → Contains xs x → p x ≡ true
one_holds p [] x e c = absurd (none_contained x c)
one_holds p (y ∷ xs) x e c = split (p y) refl e (contained_cases y xs x c) (λ e' c'. one_holds p xs x e' c')
  where
    split : (b : Bool) → p y ≡ b → (b && list_all p xs) ≡ true → (y ≡ x) ⊎ Contains xs x → (list_all p xs ≡ true → Contains xs x → p x ≡ true) → p x ≡ true
    split true is e (inl k) more = subst (λ z. p z ≡ true) k is
    split true is e (inr k) more = more e k
    split false is e k more = absurd cc

-- tests hold if each does
pub each_holds : (p : Test → Bool) (xs : List Test) → ((x : Test) → Contains xs x → p x ≡ true) → list_all p xs ≡ true
each_holds p [] h = refl
each_holds p (x ∷ xs) h = ap (λ b. b && list_all p xs) (h x (head_contained x xs)) ∙ each_holds p xs (λ y c. h y (tail_contained x xs y c))

-- tests that hold, one after the other
pub came_hold : (p : Test → Bool) (before xs : List Test) → list_all p before ≡ true → list_all p xs ≡ true → list_all p (came_behind before xs) ≡ true
came_hold p before [] e k = e
came_hold p before (x ∷ xs) e k = split (p x) refl k (λ e' k'. came_hold p (x ∷ before) xs e' k')
  where
    split : (b : Bool) → p x ≡ b → (b && list_all p xs) ≡ true → (list_all p (x ∷ before) ≡ true → list_all p xs ≡ true → list_all p (came_behind (x ∷ before) xs) ≡ true) → list_all p (came_behind (x ∷ before) xs) ≡ true
    split true is k more = more (ap (λ b. b && list_all p before) is ∙ e) k
    split false is k more = absurd cc

pub all_both : (p : Test → Bool) (xs ys : List Test) → list_all p (xs ++ ys) ≡ list_all p xs && list_all p ys
all_both p [] ys = refl
all_both p (x ∷ xs) ys = split (p x) (all_both p xs ys)
  where
    split : (b : Bool) → list_all p (xs ++ ys) ≡ list_all p xs && list_all p ys → (b && list_all p (xs ++ ys)) ≡ (b && list_all p xs) && list_all p ys
    split true e = e
    split false e = refl

-- two truths that follow from each other
pub same_truth : (a b : Bool) → (a ≡ true → b ≡ true) → (b ≡ true → a ≡ true) → a ≡ b
same_truth true b f g = sym (f refl)
same_truth false true f g = g refl
same_truth false false f g = refl

module _ (env : Environment) (t : Term) (m : Meaning) (args : List Value) (s : RuleSet) (answers_once : is_several (kind_of t.kind) ≡ false) (apart : AreTestsApart env m args s)
    (found : FieldKey → Option BindingId) (counts : Shown → Option ℕ) (inners next items : ℕ → Option BindingId) (finds : FindsFields s.bindings found counts)
    (found_inners : FindsInners s.bindings inners) (found_items : FindsItems s.bindings items) (found_next : FindsNext s.bindings next) (once : EachOnce (paths_of s.bindings)) (typed : AreFieldsTyped env t s.bindings)
    (fits : (p : Path) → Contains (paths_of s.bindings) (Chosen p) → is_several (kind_of t.kind) ≡ true) where
  abbrev bs : List Binding
  bs = s.bindings

  abbrev ps : List Path
  ps = paths_of s.bindings

  abbrev g : Ground
  g = record { several = false; bindings = s.bindings; shows = shows found counts inners; next = next; items = items }

  abbrev holds_now : Test → Bool
  holds_now x = holds env m (value_at env m args nothing_known) x

  abbrev ok : FlatRule → Bool
  ok f = flat_holds env m args ps f

  -- if the tests made hold, a rule holds if those that are left do
  pub way_holds : (before : List Test) (w : Way) → IsAfter env t s before w → list_all holds_now before ≡ true
      → ok w.rule ≡ list_all holds_now (left_tests ps w) && list_all holds_now (map (equal_test ps) w.rule.equals)
  way_holds before w h e =
      all_both holds_now (constraint_tests ps w.rule) (map (equal_test ps) w.rule.equals)
      ∙ ap (λ b. b && list_all holds_now (map (equal_test ps) w.rule.equals))
      (same_truth (list_all holds_now (constraint_tests ps w.rule)) (list_all holds_now (left_tests ps w))
      (λ all. each_holds holds_now (left_tests ps w) (λ x c. one_holds holds_now (constraint_tests ps w.rule) x all (h.only x (came_holds before (left_tests ps w) x (inr c)))))
      (λ all. each_holds holds_now (constraint_tests ps w.rule) (λ x c. one_holds holds_now (came_behind before (left_tests ps w)) x (came_hold holds_now before (left_tests ps w) e all) (h.made x c))))

  -- a way without early tests: its step gives what its rule does if it holds
  pub own_does : (before : List Test) (bound : List ℕ) (w : Way) → IsWithin env ps before bound → IsAfter env t s before w → list_all holds_now before ≡ true → w.early ≡ []
      → step_run env m args ps (way_step g w bound) ≡ cond (ok w.rule) (flat_run env m args ps w.rule) (Goes nothing_known [])
  own_does before bound w k h e none_left =
      let y = flat_run env m args ps w.rule in
      let es = w.rule.equals in
      let tests = constraint_tests ps w.rule in
      let all : w.early ++ w.late ≡ w.late = ap (λ xs. xs ++ w.late) none_left in
      let late = subst (AreTestable env t ps before) all h.testable in
      let made = λ (x : Test) (c : Contains tests x). subst (λ (xs : List (BindingId × Constraint)). Contains (came_behind before (map (is_test ps) xs)) x) all (h.made x c) in
      let only = λ (x : Test) (c : Contains (came_behind before (map (is_test ps) w.late)) x). h.only x (subst (λ (xs : List (BindingId × Constraint)). Contains (came_behind before (map (is_test ps) xs)) x) (sym all) c) in
      let stays = matched_still false env t bs found counts inners next items answers_once finds found_inners found_items found_next once typed fits w.late (StillEquated env bs es (StillLast false env bs next items w.rule)) before bound k late
      (λ within j. equated_still false env t bs found counts inners next items answers_once finds found_inners found_items found_next once typed fits es (StillLast false env bs next items w.rule) tests within
      (within_same env ps tests (came_behind before (map (is_test ps) w.late)) within made only j) h.rule.equals
      (λ bound' j'. last_still false env t bs found counts inners next items answers_once finds found_inners found_items found_next once typed fits w.rule bound' h.rule j')) in
      matched_does (shows found counts inners) w.late (map (equal_test ps) es) (all_equated false bs es (last_step false bs next items w.rule)) y env m args bs (StillEquated env bs es (StillLast false env bs next items w.rule))
      (λ bound' j late_hold. equated_does es (last_step false bs next items w.rule) y env m args bs (StillLast false env bs next items w.rule)
      (last_runs env t answers_once m args bs next items w.rule found_next once h.rule
      (each_holds holds_now tests (λ x c. one_holds holds_now (came_behind before (map (is_test ps) w.late)) x (came_hold holds_now before (map (is_test ps) w.late) e late_hold) (made x c)))) bound' j) bound stays
      ∙ ap (λ b. cond b y (Goes nothing_known []))
      (all_both holds_now (map (is_test ps) w.late) (map (equal_test ps) es)
      ∙ sym (way_holds before w h e ∙ ap (λ (xs : List (BindingId × Constraint)). list_all holds_now (map (is_test ps) xs) && list_all holds_now (map (equal_test ps) es)) all))

  -- ---- arms

  abbrev pub left_of : List (Constraint × Way) → List FlatRule
  left_of js = map (λ (j : Constraint × Way). j.1.rule) js

  abbrev here : BindingId → Held
  here source = value_at env m args nothing_known (at ps source)

  -- a way whose test doesn't hold, doesn't
  pub fails : (before : List Test) (source : BindingId) (d : Constraint) (w : Way) → IsAfter env t s (is_test ps (source, d) ∷ before) w → meets env m d (here source) ≡ false → ok w.rule ≡ false
  fails before source d w h e = split (ok w.rule) refl
    where
      x : Test
      x = Is (at ps source) d

      among : Contains (constraint_tests ps w.rule) x
      among = h.only x (came_holds (x ∷ before) (left_tests ps w) x (inl (head_contained x before)))

      first_true : (a b : Bool) → (a && b) ≡ true → a ≡ true
      first_true true b k = refl
      first_true false b k = absurd cc

      split : (b : Bool) → ok w.rule ≡ b → ok w.rule ≡ false
      split false k = k
      split true k =
          let all = sym (all_both holds_now (constraint_tests ps w.rule) (map (equal_test ps) w.rule.equals)) ∙ k in
          let is = one_holds holds_now (constraint_tests ps w.rule) x (first_true (list_all holds_now (constraint_tests ps w.rule)) (list_all holds_now (map (equal_test ps) w.rule.equals)) all) among in
          absurd cc

  -- where the constraint is met, those of others don't hold
  pub met_same : (before : List Test) (source : BindingId) (c : Constraint) (js others : List (Constraint × Way)) (ws : List Way) → Parts c js ws others → AreLeft env t s before source js → IsPut s (at ps source) c → meets env m c (here source) ≡ true
      → first ok (left_of js) ≡ first ok (rules_of ws)
  met_same before source c js others ws none h put e = refl
  met_same before source c js others ws (same j more rest vs is k) h put e = ap (cond (ok j.1.rule) (Some j.1.rule)) (met_same before source c more rest vs k h.1 put e)
  met_same before source c js others ws (other j more rest vs not_is k) h put e =
      ap (λ b. cond b (Some j.1.rule) (first ok (left_of more))) (fails before source j.0 j.1 h.0.2 (unmet (meets env m j.0 (here source)) refl)) ∙ met_same before source c more rest vs k h.1 put e
    where
      unmet : (b : Bool) → meets env m j.0 (here source) ≡ b → meets env m j.0 (here source) ≡ false
      unmet false e' = e'
      unmet true e' = absurd (not_is (apart nothing_known (at ps source) j.0 c h.0.1 put e' e))

  -- if it isn't, those of it don't
  pub unmet_others : (before : List Test) (source : BindingId) (c : Constraint) (js others : List (Constraint × Way)) (ws : List Way) → Parts c js ws others → AreLeft env t s before source js → meets env m c (here source) ≡ false
      → first ok (left_of js) ≡ first ok (left_of others)
  unmet_others before source c js others ws none h e = refl
  unmet_others before source c js others ws (same j more rest vs is k) h e =
      ap (λ b. cond b (Some j.1.rule) (first ok (left_of more))) (fails before source j.0 j.1 h.0.2 (subst (λ d. meets env m d (here source) ≡ false) (sym is) e)) ∙ unmet_others before source c more rest vs k h.1 e
  unmet_others before source c js others ws (other j more rest vs not_is k) h e = ap (cond (ok j.1.rule) (Some j.1.rule)) (unmet_others before source c more rest vs k h.1 e)

  -- ---- trees

  abbrev pub some : Option FlatRule → Bool
  some None = false
  some (Some f) = true

  pub first_append : (fs gs : List FlatRule) → first ok (fs ++ gs) ≡ cond (some (first ok fs)) (first ok fs) (first ok gs)
  first_append [] gs = refl
  first_append (f ∷ fs) gs = split (ok f) (first_append fs gs)
    where
      split : (b : Bool) → first ok (fs ++ gs) ≡ cond (some (first ok fs)) (first ok fs) (first ok gs) → cond b (Some f) (first ok (fs ++ gs)) ≡ cond (some (cond b (Some f) (first ok fs))) (cond b (Some f) (first ok fs)) (first ok gs)
      split true e = refl
      split false e = e

  pub rules_append : (vs ws : List Way) → rules_of (vs ++ ws) ≡ rules_of vs ++ rules_of ws
  rules_append [] ws = refl
  rules_append (v ∷ vs) ws = ap (λ fs. v.rule ∷ fs) (rules_append vs ws)

  -- a run that goes on if no rule holds
  pub then_first : (o p : Option FlatRule) (more : Known → List Made → Went) → more nothing_known [] ≡ went env m args ps p → then_go (went env m args ps o) more ≡ went env m args ps (cond (some o) o p)
  then_first None p more e = e
  then_first (Some f) p more e = result_ends (run_calls env m args (map (at ps) f.ordered) nothing_known []) env m args (at ps f.result) more

  -- a step that ends or goes on, and what follows it
  own_then : (w : Went) (f : FlatRule) (b : Bool) (p : Option FlatRule) (more : Known → List Made → Went) → w ≡ cond b (flat_run env m args ps f) (Goes nothing_known []) → more nothing_known [] ≡ went env m args ps p
      → then_go w more ≡ went env m args ps (cond b (Some f) p)
  own_then w f true p more e k = ap (λ x. then_go x more) e ∙ result_ends (run_calls env m args (map (at ps) f.ordered) nothing_known []) env m args (at ps f.result) more
  own_then w f false p more e k = ap (λ x. then_go x more) e ∙ k

  -- a way without tests holds
  pub untested_holds : (before : List Test) (w : Way) → IsAfter env t s before w → list_all holds_now before ≡ true → w.early ≡ [] → w.late ≡ [] → w.rule.equals ≡ [] → ok w.rule ≡ true
  untested_holds before w h e a b c =
      way_holds before w h e
      ∙ ap (λ (xs : List (BindingId × Constraint)). list_all holds_now (map (is_test ps) (xs ++ w.late)) && list_all holds_now (map (equal_test ps) w.rule.equals)) a
      ∙ ap (λ (xs : List (BindingId × Constraint)). list_all holds_now (map (is_test ps) xs) && list_all holds_now (map (equal_test ps) w.rule.equals)) b
      ∙ ap (λ (xs : List (BindingId × BindingId)). list_all holds_now (map (equal_test ps) xs)) c

  pub after_first : (vs ws : List Way) (P : Way → Type 0) → AllByRecursion P (vs ++ ws) → AllByRecursion P vs × AllByRecursion P ws
  after_first [] ws P h = (tt, h)
  after_first (v ∷ vs) ws P h = let k = after_first vs ws P h.1 in ((h.0, k.0), k.1)

  abbrev pub ready_at : (before : List Test) (bound : List ℕ) (source : BindingId) (c : Constraint) → IsWithin env ps before bound → IsTestable env t ps before (source, c) → IsTestReady env t bs bound source c (shows found counts inners source c)
  ready_at before bound source c k one = test_ready false env t bs found counts inners next items answers_once finds found_inners found_items found_next once typed fits before bound source c k.behind one.test one.stands

  mutual
    pub tree_run : (ws : List Way) (bound : List ℕ) (b : Block) (before : List Test) → IsTree g ws bound b → IsWithin env ps before bound → AreAfter env t s before ws → list_all holds_now before ≡ true
        → block_run env m args ps b nothing_known [] ≡ went env m args ps (first ok (rules_of ws))
    tree_run ws bound b before (none bound') k h e = refl
    tree_run ws bound b before (own w vs bound' more early tested k') k h e =
        own_then (step_run env m args ps (way_step g w bound)) w.rule (ok w.rule) (first ok (rules_of vs)) (block_run env m args ps more) (own_does before bound w k h.0 e early) (tree_run vs bound more before k' k h.1 e)
    tree_run ws bound b before (last w vs bound' several early late equals) k h e =
        own_then (step_run env m args ps (way_step g w bound)) w.rule true None (block_run env m args ps Stop)
        (own_does before bound w k h.0 e early ∙ ap (λ x. cond x (flat_run env m args ps w.rule) (Goes nothing_known [])) (untested_holds before w h.0 e early late equals)) refl
        ∙ ap (λ x. went env m args ps (cond x (Some w.rule) (first ok (rules_of vs)))) (sym (untested_holds before w h.0 e early late equals))
    tree_run ws bound b before (shared source w vs rest j js bound' arms more tests starts trees k') k h e =
        let ns = source_needs g bound source in
        let parts = after_first (w ∷ vs) rest (IsAfter env t s before) h in
        let lefts = left_after env t s before source (w ∷ vs) (j ∷ js) tests parts.0 in
        let ready = ready_at before bound source j.0 k lefts.0.0 in
        ap (λ x. then_go (then_go x (control_run env m args ps (Match source arms))) (block_run env m args ps more)) (needs_still env m args ps ns nothing_known [] ready.still)
        ∙ ap (λ x. then_go x (block_run env m args ps more)) (arms_runs source (j ∷ js) bound (bound_by bound ns) arms before trees refl k lefts e)
        ∙ then_first (first ok (left_of (j ∷ js))) (first ok (rules_of rest)) (block_run env m args ps more) (tree_run rest (bound_by bound ns) more before k' (within_needs env ps before ns bound ready.still k) parts.1 e)
        ∙ ap (λ fs. went env m args ps (cond (some (first ok fs)) (first ok fs) (first ok (rules_of rest)))) (left_rules env t s source (w ∷ vs) (j ∷ js) tests)
        ∙ ap (went env m args ps) (sym (first_append (rules_of (w ∷ vs)) (rules_of rest)))
        ∙ ap (λ fs. went env m args ps (first ok fs)) (sym (rules_append (w ∷ vs) rest))

    pub arms_runs : (source : BindingId) (js : List (Constraint × Way)) (bound inner : List ℕ) (arms : Arms) (before : List Test) → AreTrees g source js inner arms → inner ≡ bound_by bound (source_needs g bound source) → IsWithin env ps before bound → AreLeft env t s before source js → list_all holds_now before ≡ true
        → arms_run env m args ps arms (here source) nothing_known [] ≡ went env m args ps (first ok (left_of js))
    arms_runs source js bound inner arms before (no_arm source' bound') at_source k h e = refl
    arms_runs source js bound inner arms before (arm source' c js' others w vs bound' body more parts tree trees) at_source k h e =
        let some' = some_left env t s before source c js others w vs parts h in
        let ready = ready_at before bound source c k some'.0 in
        let inside = within_arm false env t bs found counts inners next items answers_once finds found_inners found_items found_next once typed fits before bound (source, c) k ready in
        pick (meets env m c (here source)) refl
        (λ met. tree_run (w ∷ vs) (bound_within inner (shows found counts inners source c)) body (is_test ps (source, c) ∷ before) tree
        (subst (λ now. IsWithin env ps (is_test ps (source, c) ∷ before) (bound_within now (shows found counts inners source c))) (sym at_source) inside) (same_after env t s before source c js others (w ∷ vs) parts h) (ap (λ b. b && list_all holds_now before) met ∙ e)
        ∙ ap (went env m args ps) (sym (met_same before source c js others (w ∷ vs) parts h some'.1 met)))
        (λ unmet. arms_runs source others bound inner more before trees at_source k (others_left env t s before source c js others (w ∷ vs) parts h) e ∙ ap (went env m args ps) (sym (unmet_others before source c js others (w ∷ vs) parts h unmet)))
      where
        pick : (b : Bool) → meets env m c (here source) ≡ b → (meets env m c (here source) ≡ true → block_run env m args ps body nothing_known [] ≡ went env m args ps (first ok (left_of js)))
            → (meets env m c (here source) ≡ false → arms_run env m args ps more (here source) nothing_known [] ≡ went env m args ps (first ok (left_of js)))
            → cond b (block_run env m args ps body nothing_known []) (arms_run env m args ps more (here source) nothing_known []) ≡ went env m args ps (first ok (left_of js))
        pick true is f g' = f is
        pick false is f g' = g' is
