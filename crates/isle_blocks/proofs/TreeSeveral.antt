-- A tree of ways of a term that answers several times adds what the rules of its ways add, in some order.
use Rattle.std.proofs.Common.{◌≡◌, ◌⊎◌, inl, inr, ⊎_elim, ℕ, List, [], ◌∷◌, ◌++◌, true, false, cond, ◌&&◌, Option, map, refl, sym, ap, ◌∙◌, subst, append_assoc}
use Rattle.std.specs.Prelude.{Contains}
use Rattle.std.specs.List.{AllByRecursion}
use Rattle.std.proofs.lemmas.List.{append-nil}
use Rattle.std.proofs.lemmas.List.Elements.{Contains-append_left, Contains-append_right, Contains-append_cases}
use Rattle.isle_core.specs.declared.BindingId.{BindingId}
use Rattle.isle_core.specs.declared.rule_sets.Binding.{Binding}
use Rattle.isle_core.specs.declared.rule_sets.Constraint.{Constraint}
use Rattle.isle_core.specs.declared.rule_sets.FlatRule.{FlatRule}
use Rattle.isle_core.specs.declared.rule_sets.RuleSet.{RuleSet}
use Rattle.isle_core.specs.declared.types.Term.{Term}
use Rattle.isle_core.specs.ApartTests.{AreTestsApart, IsPut}
use Rattle.isle_core.specs.ArmPlaces.{bound_within}
use Rattle.isle_core.specs.Bindable.{bound_by}
use Rattle.isle_core.specs.Block.{Block, Step, Match, Arms}
use Rattle.isle_core.specs.BlockRun.{bind_all}
use Rattle.isle_core.specs.Calling.{kind_of, is_several}
use Rattle.isle_core.specs.Choices.{each_choice, flat_adds}
use Rattle.isle_core.specs.ListOrder.{ListsWithin}
use Rattle.isle_core.specs.Meaning.{Meaning}
use Rattle.isle_core.specs.Occurrences.{occurrences, after_control}
use Rattle.isle_core.specs.Parts.{Given, nothing_given}
use Rattle.isle_core.specs.Path.{Path, Chosen, at, paths_of}
use Rattle.isle_core.specs.Rule.{Environment}
use Rattle.isle_core.specs.RuleSet.{is_test}
use Rattle.isle_core.specs.Serializable.{constraint_tests, occurrences_of}
use Rattle.isle_core.specs.SeveralRun.{behind_calls, several_run, several_control, several_arms}
use Rattle.isle_core.specs.Setting.{setting}
use Rattle.isle_core.specs.StandsFor.{EachOnce}
use Rattle.isle_core.specs.Tests.{Test, Is}
use Rattle.isle_core.specs.Value.{Value}
use Rattle.isle_core.specs.ValueAt.{Known, nothing_known, value_at, all_hold, meets}
use Rattle.isle_core.proofs.Contained.{head_contained, none_contained}
use Rattle.isle_core.proofs.HeldStays.{Grows}
use Rattle.isle_core.proofs.TakenItems.{by_truth}
use Rattle.isle_blocks.specs.declared.fields.Shown.{Shown}
use Rattle.isle_blocks.specs.Added.{AreEarlyLists, Over, rules_over, flats_add, KnowsOnly, AddAnew, AddsSeveral}
use Rattle.isle_blocks.specs.Fields.{FieldKey, FindsFields, shows}
use Rattle.isle_blocks.specs.Followers.{FindsInners, FindsItems}
use Rattle.isle_blocks.specs.Free.{is_free}
use Rattle.isle_blocks.specs.Reordered.{here, IsReordered, nothing, more}
use Rattle.isle_blocks.specs.Several.{HasItsLists}
use Rattle.isle_blocks.specs.Tree.{Way, Ground, way_step, source_needs, Tests, AllTest, Parts, none, same, other, IsTree, own, last, shared, AreTrees, no_arm, arm}
use Rattle.isle_blocks.proofs.FieldPlaces.{AreFieldsTyped}
use Rattle.isle_blocks.proofs.LawBound.{came_holds}
use Rattle.isle_blocks.proofs.LawSerializable.{test_ready, within_arm}
use Rattle.isle_blocks.proofs.ListsRead.{HasOpened, opened_none}
use Rattle.isle_blocks.proofs.MadeBefore.{IsWithin, within_none, within_needs}
use Rattle.isle_blocks.proofs.NeededRuns.{needs_still}
use Rattle.isle_blocks.proofs.NextLaws.{FindsNext}
use Rattle.isle_blocks.proofs.FreeSources.{free_source}
use Rattle.isle_blocks.proofs.OpenedRuns.{order_free}
use Rattle.isle_blocks.proofs.OpenedSteps.{Within, only_none}
use Rattle.isle_blocks.proofs.PlacesOpened.{places_opened}
use Rattle.isle_blocks.proofs.Reorders.{put_behind, put_before, reorder_append, reorder_all, reorder_twice}
use Rattle.isle_blocks.proofs.StepCalls.{WentOn, went_both, grows_none, bind_knows, bind_grows, step_then, knows_more, all_not_inner, after_has}
use Rattle.isle_blocks.proofs.TreeLawful.{own_good}
use Rattle.isle_blocks.proofs.TreeWays.{left_tests, IsAfter, AreAfter, AreLeft, left_after, left_rules, same_after, others_left, some_left}
use Rattle.isle_blocks.specs.Arranged.{rules_of}
use Rattle.isle_blocks.proofs.UnlistedTests.{IsUnlisted, holds_at, unlisted_free, adds_nothing, test_stays, tests_stay}
use Rattle.isle_blocks.proofs.WaySteps.{way_lists, way_early, way_run}

-- ---- lists

-- what is so of each of two lists
all_split : {A : Type 0} (P : A → Type 0) (xs ys : List A) → AllByRecursion P (xs ++ ys) → AllByRecursion P xs × AllByRecursion P ys
all_split P [] ys h = (tt, h)
all_split P (x ∷ xs) ys h = let k = all_split P xs ys h.1 in ((h.0, k.0), k.1)

all_append : {A : Type 0} (P : A → Type 0) (xs ys : List A) → AllByRecursion P xs → AllByRecursion P ys → AllByRecursion P (xs ++ ys)
all_append P [] ys h k = k
all_append P (x ∷ xs) ys h k = (h.0, all_append P xs ys h.1 k)

over_append : (xs ys : List Over) → rules_over (xs ++ ys) ≡ rules_over xs ++ rules_over ys
over_append [] ys = refl
over_append (x ∷ xs) ys = ap (λ fs. x.rule ∷ fs) (over_append xs ys)

ways_append : (vs ws : List Way) → rules_of (vs ++ ws) ≡ rules_of vs ++ rules_of ws
ways_append [] ws = refl
ways_append (v ∷ vs) ws = ap (λ fs. v.rule ∷ fs) (ways_append vs ws)

-- rules that add after others
flats_append : (env : Environment) (m : Meaning) (args : List Value) (ps : List Path) (xs ys : List Over) (so : Given) → flats_add env m args ps (xs ++ ys) so ≡ flats_add env m args ps ys (flats_add env m args ps xs so)
flats_append env m args ps [] ys so = refl
flats_append env m args ps (x ∷ xs) ys so = flats_append env m args ps xs ys (each_choice env m args x.lists nothing_known so (flat_adds env m args ps x.rule))

-- impure calls of rules and of more
calls_over : (env : Environment) (ps : List Path) (xs ys : List Over) (k : ℕ) → Contains (occurrences_of env ps (rules_over xs)) k ⊎ Contains (occurrences_of env ps (rules_over ys)) k → Contains (occurrences_of env ps (rules_over (xs ++ ys))) k
calls_over env ps [] ys k c = ⊎_elim (λ none. absurd (none_contained k none)) (λ j. j) c
calls_over env ps (x ∷ xs) ys k c =
    let here' = occurrences env ps x.rule.ordered in
    let rest = occurrences_of env ps (rules_over (xs ++ ys)) in
    ⊎_elim
    (λ j. ⊎_elim (λ i. Contains-append_left here' rest k i) (λ i. Contains-append_right here' rest k (calls_over env ps xs ys k (inl i))) (Contains-append_cases here' (occurrences_of env ps (rules_over xs)) k j))
    (λ j. Contains-append_right here' rest k (calls_over env ps xs ys k (inr j))) c

-- ---- ways

-- its early tests are of paths without a chosen item, its rule has its lists, and each impure call of the rule stands once
pub record IsSeveralWay (env : Environment) (ps : List Path) (w : Way) : Type 0 where
  pub free : AllByRecursion (λ (c : BindingId × Constraint). is_free (at ps c.0) ≡ true) w.early
  pub lists : HasItsLists env ps w.rule
  pub once : EachOnce (occurrences env ps w.rule.ordered)

-- so after a test
several_left : (env : Environment) (ps : List Path) (source : BindingId) (w : Way) (c : Constraint) (left : Way) → Tests source w c left → IsSeveralWay env ps w → IsSeveralWay env ps left
several_left env ps source w c left k h = record {
  free = (subst (AllByRecursion (λ (x : BindingId × Constraint). is_free (at ps x.0) ≡ true)) k.tests h.free).1;
  lists = subst (HasItsLists env ps) (sym k.rule) h.lists;
  once = subst (λ (f : FlatRule). EachOnce (occurrences env ps f.ordered)) (sym k.rule) h.once;
}

all_left : (env : Environment) (ps : List Path) (source : BindingId) (ws : List Way) (js : List (Constraint × Way)) → AllTest source ws js → AllByRecursion (IsSeveralWay env ps) ws → AllByRecursion (λ (j : Constraint × Way). IsSeveralWay env ps j.1) js
all_left env ps source [] [] k h = tt
all_left env ps source (w ∷ ws) (j ∷ js) k h = (several_left env ps source w j.0 j.1 k.0 h.0, all_left env ps source ws js k.1 h.1)
all_left env ps source [] (j ∷ js) k h = absurd k
all_left env ps source (w ∷ ws) [] k h = absurd k

all_same : (P : Way → Type 0) (c : Constraint) (js others : List (Constraint × Way)) (ws : List Way) → Parts c js ws others → AllByRecursion (λ (j : Constraint × Way). P j.1) js → AllByRecursion P ws
all_same P c js others ws none h = tt
all_same P c js others ws (same j rest os vs e k) h = (h.0, all_same P c rest os vs k h.1)
all_same P c js others ws (other j rest os vs e k) h = all_same P c rest os vs k h.1

all_others : (P : Way → Type 0) (c : Constraint) (js others : List (Constraint × Way)) (ws : List Way) → Parts c js ws others → AllByRecursion (λ (j : Constraint × Way). P j.1) js → AllByRecursion (λ (j : Constraint × Way). P j.1) others
all_others P c js others ws none h = tt
all_others P c js others ws (same j rest os vs e k) h = all_others P c rest os vs k h.1
all_others P c js others ws (other j rest os vs e k) h = (h.0, all_others P c rest os vs k h.1)

-- the rules of ways that are left
abbrev pub left_of : List (Constraint × Way) → List FlatRule
left_of js = map (λ (j : Constraint × Way). j.1.rule) js

-- those of one constraint and then the others are an order of all
parts_order : (c : Constraint) (js others : List (Constraint × Way)) (ws : List Way) (xs ys : List FlatRule) → Parts c js ws others → IsReordered (rules_of ws) xs → IsReordered (left_of others) ys → IsReordered (left_of js) (xs ++ ys)
parts_order c js others ws xs ys none a b = reorder_append [] xs [] ys a b
parts_order c js others ws xs ys (same j rest os vs e k) (more x us xs' xs'' a i) b = more j.1.rule (left_of rest) (xs' ++ ys) (xs ++ ys) (parts_order c rest os vs xs' ys k a b) (put_before ys j.1.rule xs' xs i)
parts_order c js others ws xs ys (other j rest os vs e k) a (more y us ys' ys'' b i) = more j.1.rule (left_of rest) (xs ++ ys') (xs ++ ys) (parts_order c rest os vs xs ys' k a b) (put_behind xs j.1.rule ys' ys i)

-- ---- trees

module _ (env : Environment) (t : Term) (s : RuleSet) (found : FieldKey → Option BindingId) (counts : Shown → Option ℕ) (inners next items : ℕ → Option BindingId) (is : is_several (kind_of t.kind) ≡ true) (finds : FindsFields s.bindings found counts)
    (found_inners : FindsInners s.bindings inners) (found_items : FindsItems s.bindings items) (found_next : FindsNext s.bindings next) (once : EachOnce (paths_of s.bindings)) (typed : AreFieldsTyped env t s.bindings)
    (fits : (p : Path) → Contains (paths_of s.bindings) (Chosen p) → is_several (kind_of t.kind) ≡ true) where
  abbrev bs : List Binding
  bs = s.bindings

  abbrev ps : List Path
  ps = paths_of s.bindings

  abbrev pub g : Ground
  g = record { several = true; bindings = s.bindings; shows = shows found counts inners; next = next; items = items }

  abbrev occurs : List Over → List ℕ
  occurs xs = occurrences_of env (paths_of s.bindings) (rules_over xs)

  -- a rule has a test that doesn't hold at first, and that no choice changes
  record IsOut (m : Meaning) (args : List Value) (f : FlatRule) : Type 0 where
    pub test : Test
    pub unlisted : IsUnlisted test
    pub there : Contains (constraint_tests (paths_of s.bindings) f) test
    pub fails : holds_at env m args nothing_known test ≡ false

  -- such rules add nothing
  out_adds : (m : Meaning) (args : List Value) (xs : List Over) (so : Given) → AllByRecursion (IsOut m args) (rules_over xs) → AllByRecursion (λ (x : Over). AreEarlyLists env (paths_of s.bindings) x.rule x.lists) xs → flats_add env m args (paths_of s.bindings) xs so ≡ so
  out_adds m args [] so h early = refl
  out_adds m args (x ∷ xs) so h early =
      ap (flats_add env m args ps xs) (adds_nothing env m args ps x.rule x.lists h.0.test nothing_known so (order_free env m args x.lists [] (λ k. holds_at env m args k h.0.test) early.0.order (unlisted_free env m args h.0.test h.0.unlisted)) h.0.there h.0.fails)
      ∙ out_adds m args xs so h.1 early.1

  -- if impure calls of other rules are known
  module _ (m : Meaning) (args : List Value) (known : Known) (ks : List ℕ) (knows : KnowsOnly ks known) where
    -- a test that holds at first holds
    holds_first : (x : Test) → IsUnlisted x → holds_at env m args nothing_known x ≡ true → holds_at env m args known x ≡ true
    holds_first x unlisted e = test_stays env m args x nothing_known known (record { by = λ k a e'. absurd cc; choice = knows.choice }) unlisted e

    -- where the constraint is met, the rules of others are out
    others_out : AreTestsApart env m args s → (before : List Test) (source : BindingId) (c : Constraint) (js others : List (Constraint × Way)) (ws : List Way) → Parts c js ws others → AreLeft env t s before source js → ListsWithin [] (at (paths_of s.bindings) source)
        → IsPut s (at (paths_of s.bindings) source) c → meets env m c (value_at env m args known (at (paths_of s.bindings) source)) ≡ true → AllByRecursion (IsOut m args) (left_of others)
    others_out apart before source c js others ws none h unlisted put met = tt
    others_out apart before source c js others ws (same j rest os vs e k) h unlisted put met = others_out apart before source c rest os vs k h.1 unlisted put met
    others_out apart before source c js others ws (other j rest os vs not_is k) h unlisted put met =
        let x = Is (at ps source) j.0 in (
          record {
            test = x;
            unlisted = unlisted;
            there = h.0.2.only x (came_holds (x ∷ before) (left_tests ps j.1) x (inl (head_contained x before)));
            fails = by_truth (holds_at env m args nothing_known x) (λ yes. absurd (not_is (apart known (at ps source) j.0 c h.0.1 put (holds_first x unlisted yes) met))) (λ fails'. fails');
          },
          others_out apart before source c rest os vs k h.1 unlisted put met,
        )

    -- if it isn't, its own are
    same_out : (before : List Test) (source : BindingId) (c : Constraint) (js others : List (Constraint × Way)) (ws : List Way) → Parts c js ws others → AreLeft env t s before source js → ListsWithin [] (at (paths_of s.bindings) source)
        → meets env m c (value_at env m args known (at (paths_of s.bindings) source)) ≡ false → AllByRecursion (IsOut m args) (rules_of ws)
    same_out before source c js others ws none h unlisted unmet = tt
    same_out before source c js others ws (same j rest os vs e k) h unlisted unmet =
        let x = Is (at ps source) j.0 in (
          record {
            test = x;
            unlisted = unlisted;
            there = h.0.2.only x (came_holds (x ∷ before) (left_tests ps j.1) x (inl (head_contained x before)));
            fails = by_truth (holds_at env m args nothing_known x)
                (λ yes. let met = holds_first x unlisted yes in let bad = sym met ∙ ap (λ d. meets env m d (value_at env m args known (at ps source))) e ∙ unmet in absurd cc) (λ fails'. fails');
          },
          same_out before source c rest os vs k h.1 unlisted unmet,
        )
    same_out before source c js others ws (other j rest os vs not_is k) h unlisted unmet = same_out before source c rest os vs k h.1 unlisted unmet

  -- ---- a way's own step

  -- the impure calls made before it are its rule's
  way_calls : (before : List Test) (bound : List ℕ) (w : Way) → IsWithin env (paths_of s.bindings) before bound → IsAfter env t s before w → IsSeveralWay env (paths_of s.bindings) w → w.early ≡ []
      → Within (Contains (occurrences env (paths_of s.bindings) w.rule.ordered)) (occurrences env (paths_of s.bindings) (way_step g w bound).0)
  way_calls before bound w k h way early n c =
      let step = way_step g w bound in
      let good = own_good true env t s found counts inners next items is finds found_inners found_items found_next once typed fits before bound [] w k h early (record { once = way.once; apart = λ n i j. none_contained n i }) in
      let P : ℕ → Type 0 = λ n. Contains [] n ⊎ Contains (occurrences env ps w.rule.ordered) n in
      let all = after_has env ps P step.1 (occurrences env ps step.0) (subst (λ b. Within P (after_control b env ps (occurrences env ps step.0) step.1)) is (good.only [] (only_none P))) in
      ⊎_elim (λ none'. absurd (none_contained n none')) (λ j. j) (all n c)

  -- it goes on, and then its rule's impure calls may be known too
  way_goes : (before : List Test) (bound : List ℕ) (w : Way) → IsWithin env (paths_of s.bindings) before bound → IsAfter env t s before w → IsSeveralWay env (paths_of s.bindings) w → w.early ≡ [] → (m : Meaning) (args : List Value) (first : List Over) (x : Over) (known : Known) (so : Given) → x.rule ≡ w.rule → KnowsOnly (occurs first) known
      → WentOn (λ now. KnowsOnly (occurs (first ++ x ∷ [])) now × Grows known now) (bind_all env m args (paths_of s.bindings) (way_step g w bound).0 known so.calls)
  way_goes before bound w k h way early m args first x known so e knows =
      let order = (way_step g w bound).0 in
      let after = occurs (first ++ x ∷ []) in
      let good = own_good true env t s found counts inners next items is finds found_inners found_items found_next once typed fits before bound [] w k h early (record { once = way.once; apart = λ n i j. none_contained n i }) in
      let plain = all_not_inner (setting env t bs) order bound is good.lawful.0 in
      let own_calls = occurrences env ps x.rule.ordered in
      went_both (KnowsOnly after) (Grows known) (bind_all env m args ps order known so.calls)
      (bind_knows env m args ps order known so.calls after plain
      (λ n c. calls_over env ps first (x ∷ []) n (inr (Contains-append_left own_calls [] n (subst (λ (f : FlatRule). Contains (occurrences env ps f.ordered) n) (sym e) (way_calls before bound w k h way early n c)))))
      (knows_more (occurs first) after known (λ n c. calls_over env ps first (x ∷ []) n (inl c)) knows))
      (bind_grows env m args ps order known known so.calls plain (grows_none known))

  -- ---- what is added

  -- these rules in some order, each over its lists, are what a block adds if the tests made hold
  pub record IsAdded (before : List Test) (fs : List FlatRule) (b : Block) : Type 0 where
    pub order : List Over
    pub rules : IsReordered fs (rules_over order)
    pub early : AllByRecursion (λ (x : Over). AreEarlyLists env (paths_of s.bindings) x.rule x.lists) order
    pub adds : (m : Meaning) (args : List Value) → AreTestsApart env m args s → (first later : List Over) → AddAnew env m args (paths_of s.bindings) (first ++ (order ++ later)) → (known : Known) (so : Given) → KnowsOnly (occurs first) known
        → all_hold env m (value_at env m args known) before ≡ true → several_run env m args (paths_of s.bindings) b known so ≡ flats_add env m args (paths_of s.bindings) order so

  -- so of arms over a source
  pub record AreAdded (before : List Test) (source : BindingId) (fs : List FlatRule) (arms : Arms) : Type 0 where
    pub order : List Over
    pub rules : IsReordered fs (rules_over order)
    pub early : AllByRecursion (λ (x : Over). AreEarlyLists env (paths_of s.bindings) x.rule x.lists) order
    pub adds : (m : Meaning) (args : List Value) → AreTestsApart env m args s → (first later : List Over) → AddAnew env m args (paths_of s.bindings) (first ++ (order ++ later)) → (known : Known) (so : Given) → KnowsOnly (occurs first) known
        → all_hold env m (value_at env m args known) before ≡ true → several_arms env m args (paths_of s.bindings) arms (value_at env m args known (at (paths_of s.bindings) source)) known so ≡ flats_add env m args (paths_of s.bindings) order so

  -- a way's step before others
  own_added : (before : List Test) (bound : List ℕ) (w : Way) (fs : List FlatRule) (b : Block) → IsWithin env (paths_of s.bindings) before bound → HasOpened s.bindings bound [] → AllByRecursion IsUnlisted before → IsAfter env t s before w → IsSeveralWay env (paths_of s.bindings) w → w.early ≡ []
      → IsAdded before fs b → IsAdded before (w.rule ∷ fs) (Step (way_step g w bound).0 (way_step g w bound).1 b)
  own_added before bound w fs b k opens unlisted h way early rest =
      let step = way_step g w bound in
      let x : Over = record { rule = w.rule; lists = way_lists bs (shows found counts inners) items w bound } in
      record {
        order = x ∷ rest.order;
        rules = more w.rule fs (rules_over rest.order) (w.rule ∷ rules_over rest.order) rest.rules (here (rules_over rest.order));
        early = (way_early env t s found counts inners next items is finds found_inners found_items found_next once typed fits before bound w k opens h way.lists early, rest.early);
        adds = λ m args apart first later anew known so knows held.
            step_then env m args (λ now. KnowsOnly (occurs (first ++ x ∷ [])) now × Grows known now) (bind_all env m args ps step.0 known so.calls) so (several_control env m args ps step.1) (several_run env m args ps b) (flats_add env m args ps rest.order)
            (way_goes before bound w k h way early m args first x known so refl knows)
            (λ now so' p. rest.adds m args apart (first ++ x ∷ []) later (subst (AddAnew env m args ps) (sym (append_assoc first (x ∷ []) (rest.order ++ later))) anew) now so' p.0 (tests_stay env m args before known now p.1 unlisted held))
            ∙ ap (flats_add env m args ps rest.order)
            (way_run env t s found counts inners next items is finds found_inners found_items found_next once typed fits before bound w k opens h way.lists early m args known so unlisted held ∙ anew first x (rest.order ++ later) known so refl knows);
      }

  mutual
    pub tree_added : (ws : List Way) (bound : List ℕ) (b : Block) (before : List Test) → IsTree g ws bound b → IsWithin env (paths_of s.bindings) before bound → HasOpened s.bindings bound [] → AllByRecursion IsUnlisted before → AreAfter env t s before ws → AllByRecursion (IsSeveralWay env (paths_of s.bindings)) ws
        → IsAdded before (rules_of ws) b
    tree_added ws bound b before (none bound') k opens unlisted h ways = record { order = []; rules = nothing; early = tt; adds = λ m args apart first later anew known so knows held. refl }
    tree_added ws bound b before (own w vs bound' b' early tested k') k opens unlisted h ways =
        own_added before bound w (rules_of vs) b' k opens unlisted h.0 ways.0 early (tree_added vs bound b' before k' k opens unlisted h.1 ways.1)
    tree_added ws bound b before (last w vs bound' once' early late equals) k opens unlisted h ways = absurd cc
    tree_added ws bound b before (shared source w vs rest j js bound' arms b' tests starts trees k') k opens unlisted h ways =
        let ns = source_needs g bound source in
        let parts = all_split (IsAfter env t s before) (w ∷ vs) rest h in
        let readys = all_split (IsSeveralWay env ps) (w ∷ vs) rest ways in
        let lefts = left_after env t s before source (w ∷ vs) (j ∷ js) tests parts.0 in
        let free = (subst (AllByRecursion (λ (x : BindingId × Constraint). is_free (at ps x.0) ≡ true)) tests.0.tests readys.0.0.free).0 in
        let src = free_source env t s found counts inners next items is finds found_inners found_items found_next once typed fits before bound source j.0 k opens lefts.0.0 free in
        let now = arms_added source (j ∷ js) bound (bound_by bound ns) arms before trees refl k src.opens unlisted lefts (all_left env ps source (w ∷ vs) (j ∷ js) tests readys.0) in
        let behind = tree_added rest (bound_by bound ns) b' before k' (within_needs env ps before ns bound src.still k) src.opens unlisted parts.1 readys.1 in
        record {
          order = now.order ++ behind.order;
          rules = subst (λ fs. IsReordered fs (rules_over (now.order ++ behind.order))) (sym (ways_append (w ∷ vs) rest))
              (subst (IsReordered (rules_of (w ∷ vs) ++ rules_of rest)) (sym (over_append now.order behind.order))
              (reorder_append (rules_of (w ∷ vs)) (rules_over now.order) (rules_of rest) (rules_over behind.order) (subst (λ fs. IsReordered fs (rules_over now.order)) (left_rules env t s source (w ∷ vs) (j ∷ js) tests) now.rules) behind.rules));
          early = all_append (λ (x : Over). AreEarlyLists env ps x.rule x.lists) now.order behind.order now.early behind.early;
          adds = λ m args apart first later anew known so knows held.
              ap (λ x. behind_calls x so (λ k1 s1. several_run env m args ps b' k1 (several_control env m args ps (Match source arms) k1 s1))) (needs_still env m args ps ns known so.calls src.still)
              ∙ ap (several_run env m args ps b' known) (now.adds m args apart first (behind.order ++ later) (subst (λ xs. AddAnew env m args ps (first ++ xs)) (append_assoc now.order behind.order later) anew) known so knows held)
              ∙ behind.adds m args apart (first ++ now.order) later
              (subst (AddAnew env m args ps) (sym (append_assoc first now.order (behind.order ++ later))) (subst (λ xs. AddAnew env m args ps (first ++ xs)) (append_assoc now.order behind.order later) anew)) known (flats_add env m args ps now.order so)
              (knows_more (occurs first) (occurs (first ++ now.order)) known (λ n c. calls_over env ps first now.order n (inl c)) knows) held
              ∙ sym (flats_append env m args ps now.order behind.order so);
        }

    arms_added : (source : BindingId) (js : List (Constraint × Way)) (bound inner : List ℕ) (arms : Arms) (before : List Test) → AreTrees g source js inner arms → inner ≡ bound_by bound (source_needs g bound source) → IsWithin env (paths_of s.bindings) before bound → HasOpened s.bindings inner []
        → AllByRecursion IsUnlisted before → AreLeft env t s before source js → AllByRecursion (λ (j : Constraint × Way). IsSeveralWay env (paths_of s.bindings) j.1) js → AreAdded before source (left_of js) arms
    arms_added source js bound inner arms before (no_arm source' bound') at_source k opens unlisted h ways = record { order = []; rules = nothing; early = tt; adds = λ m args apart first later anew known so knows held. refl }
    arms_added source js bound inner arms before (arm source' c js' others w vs bound' body arms' parts tree trees) at_source k opens unlisted h ways =
        let some' = some_left env t s before source c js others w vs parts h in
        let ready = test_ready true env t bs found counts inners next items is finds found_inners found_items found_next once typed fits before bound source c k.behind some'.0.test some'.0.stands in
        let places = shows found counts inners source c in
        let inside = within_arm true env t bs found counts inners next items is finds found_inners found_items found_next once typed fits before bound (source, c) k ready in
        let mine = same_after env t s before source c js others (w ∷ vs) parts h in
        let ways' = all_same (IsSeveralWay env ps) c js others (w ∷ vs) parts ways in
        let free = ready.within [] (subst (λ now. HasOpened bs now []) at_source opens) in
        let opened = places_opened env t bs [] source c places inner free ready.places' opens in
        let one = tree_added (w ∷ vs) (bound_within inner places) body (is_test ps (source, c) ∷ before) tree (subst (λ now. IsWithin env ps (is_test ps (source, c) ∷ before) (bound_within now places)) (sym at_source) inside) opened (free, unlisted) mine ways' in
        let rest = arms_added source others bound inner arms' before trees at_source k opens unlisted (others_left env t s before source c js others (w ∷ vs) parts h) (all_others (IsSeveralWay env ps) c js others (w ∷ vs) parts ways) in
        record {
          order = one.order ++ rest.order;
          rules = subst (IsReordered (left_of js)) (sym (over_append one.order rest.order)) (parts_order c js others (w ∷ vs) (rules_over one.order) (rules_over rest.order) parts one.rules rest.rules);
          early = all_append (λ (x : Over). AreEarlyLists env ps x.rule x.lists) one.order rest.order one.early rest.early;
          adds = λ m args apart first later anew known so knows held.
              let held' = value_at env m args known (at ps source) in
              let anew' = subst (λ xs. AddAnew env m args ps (first ++ xs)) (append_assoc one.order rest.order later) anew in
              by_truth (meets env m c held')
              (λ met.
              ap (λ b. cond b (several_run env m args ps body known so) (several_arms env m args ps arms' held' known so)) met
              ∙ one.adds m args apart first (rest.order ++ later) anew' known so knows (ap (λ b. b && all_hold env m (value_at env m args known) before) met ∙ held)
              ∙ sym (out_adds m args rest.order (flats_add env m args ps one.order so)
              (reorder_all (IsOut m args) (left_of others) (rules_over rest.order) rest.rules (others_out m args known (occurs first) knows apart before source c js others (w ∷ vs) parts h free some'.1 met)) rest.early)
              ∙ sym (flats_append env m args ps one.order rest.order so))
              (λ unmet.
              ap (λ b. cond b (several_run env m args ps body known so) (several_arms env m args ps arms' held' known so)) unmet
              ∙ rest.adds m args apart (first ++ one.order) later (subst (AddAnew env m args ps) (sym (append_assoc first one.order (rest.order ++ later))) anew') known so
              (knows_more (occurs first) (occurs (first ++ one.order)) known (λ n i. calls_over env ps first one.order n (inl i)) knows) held
              ∙ ap (flats_add env m args ps rest.order)
              (sym (out_adds m args one.order so (reorder_all (IsOut m args) (rules_of (w ∷ vs)) (rules_over one.order) one.rules (same_out m args known (occurs first) knows before source c js others (w ∷ vs) parts h free unmet)) one.early))
              ∙ sym (flats_append env m args ps one.order rest.order so));
        }

  -- a tree of ways none of whose tests is made adds what the rules of the set add, if the ways are those of the set's rules
  pub tree_adds : (ws : List Way) (b : Block) → IsTree g ws [] b → IsReordered s.rules (rules_of ws) → AreAfter env t s [] ws → AllByRecursion (IsSeveralWay env (paths_of s.bindings)) ws → AddsSeveral env s b
  tree_adds ws b tree rules h ways =
      let all = tree_added ws [] b [] tree (within_none env ps) (opened_none bs) tt h ways in
      record {
        order = all.order;
        rules = reorder_twice s.rules (rules_of ws) (rules_over all.order) rules all.rules;
        early = all.early;
        adds = λ m args apart anew. all.adds m args apart [] [] (subst (AddAnew env m args ps) (sym (append-nil all.order)) anew) nothing_known nothing_given (record { answers = λ n a e. absurd cc; choice = refl }) refl;
      }
