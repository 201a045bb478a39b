-- What tests, lists and calls of a rule of a term that answers several times add, after others.
use Rattle.std.proofs.Common.{◌≡◌, ⊎_elim, ℕ, List, [], ◌∷◌, ◌++◌, Bool, true, false, cond, ◌&&◌, Option, Some, None, map, refl, sym, ap, ◌∙◌, subst, inr}
use Rattle.std.specs.Prelude.{Contains}
use Rattle.std.specs.List.{AllByRecursion}
use Rattle.std.proofs.lemmas.List.{append-nil}
use Rattle.isle_core.specs.declared.BindingId.{BindingId}
use Rattle.isle_core.specs.declared.rule_sets.Binding.{Binding}
use Rattle.isle_core.specs.declared.rule_sets.Constraint.{Constraint}
use Rattle.isle_core.specs.declared.rule_sets.FlatRule.{FlatRule}
use Rattle.isle_core.specs.declared.types.Term.{Term}
use Rattle.isle_core.specs.ArmPlaces.{bound_within}
use Rattle.isle_core.specs.Bindable.{bound_by}
use Rattle.isle_core.specs.Block.{Control, Match, Equal, Return, Arm, NoArm}
use Rattle.isle_core.specs.BlockViews.{SeenStep}
use Rattle.isle_core.specs.Calling.{kind_of, is_several}
use Rattle.isle_core.specs.Choices.{each_choice}
use Rattle.isle_core.specs.HoldsImpure.{holds_impure}
use Rattle.isle_core.specs.Meaning.{Meaning}
use Rattle.isle_core.specs.Parts.{Given}
use Rattle.isle_core.specs.Path.{Path, Chosen, at, paths_of}
use Rattle.isle_core.specs.Rule.{Environment}
use Rattle.isle_core.specs.RuleSet.{is_test, equal_test}
use Rattle.isle_core.specs.Serializable.{StandsOn, AreTestable, AreComparable, IsSerializableList, constraint_tests, IsSerializableRule}
use Rattle.isle_core.specs.Setting.{setting}
use Rattle.isle_core.specs.SeveralRun.{choosing, several_run, several_control}
use Rattle.isle_core.specs.SeveralSet.{flat_part}
use Rattle.isle_core.specs.StandsFor.{EachOnce}
use Rattle.isle_core.specs.Tests.{Test, Is, Equal}
use Rattle.isle_core.specs.Value.{Value}
use Rattle.isle_core.specs.ValueAt.{Known, value_at, holds, all_hold, equal_held, meets}
use Rattle.isle_core.specs.ListOrder.{ListsWithin, AreListsInOrder}
use Rattle.isle_core.proofs.Contained.{head_contained, tail_contained, none_contained, contained_cases}
use Rattle.isle_core.proofs.TestsOut.{test_out}
use Rattle.isle_blocks.specs.Followers.{FindsInners, FindsItems}
use Rattle.isle_blocks.specs.declared.fields.Shown.{Shown}
use Rattle.isle_blocks.specs.Fields.{FieldKey, FindsFields, shows}
use Rattle.isle_blocks.specs.Needed.{is_bound, needs}
use Rattle.isle_blocks.specs.Nest.{Behind, alone, opening, opened, binds, left_calls, left_item, items_left, left_items, behind_lists, last_step, all_matched, all_equated}
use Rattle.isle_blocks.specs.Several.{HasItsLists}
use Rattle.isle_blocks.proofs.FieldPlaces.{AreFieldsTyped}
use Rattle.isle_blocks.proofs.FreshLists.{ordered_plain}
use Rattle.isle_blocks.proofs.ItemPaths.{item_path}
use Rattle.isle_blocks.proofs.LawBound.{came_behind, came_holds, came_from, stands_more, binds_all}
use Rattle.isle_blocks.proofs.LawSerializable.{bound_has, list_there, left_ready, behind_still, test_ready, within_arm}
use Rattle.isle_blocks.proofs.ListsRead.{need_lists, loops, came_append, order_append, HasOpened, read_within, OpensOrder, order_opens}
use Rattle.isle_blocks.proofs.MadeBefore.{IsWithin, within_needs, was_tested}
use Rattle.isle_blocks.proofs.MoreBound.{by_kept}
use Rattle.isle_blocks.proofs.OrderItems.{NeedLists}
use Rattle.isle_blocks.proofs.NeededBound.{is_marked, all_read_as, needs_read, items_needed}
use Rattle.isle_blocks.proofs.NeededRuns.{AreStill}
use Rattle.isle_blocks.proofs.NextLaws.{FindsNext}
use Rattle.isle_blocks.proofs.Openable.{AreOpenable}
use Rattle.isle_blocks.proofs.OpenedRuns.{choosing_within, ReadsOnly, order_free, each_append, each_same, order_run}
use Rattle.isle_blocks.proofs.OrderedPlain.{no_items, items_made, early_made, late_made, binds_plain}
use Rattle.isle_blocks.proofs.PartRuns.{ordered_run}
use Rattle.isle_blocks.proofs.PlacesOpened.{places_opened}
use Rattle.isle_blocks.proofs.RuleLists.{Within, last_lists, equated_lists, matched_lists, early_of, early_in, early_from, all_opened}

-- tests after one another
and_cond : (a b : Bool) (x g : Given) → cond a (cond b x g) g ≡ cond (a && b) x g
and_cond true b x g = refl
and_cond false b x g = refl

module _ (env : Environment) (t : Term) (bs : List Binding) (found : FieldKey → Option BindingId) (counts : Shown → Option ℕ) (inners next items : ℕ → Option BindingId) (is : is_several (kind_of t.kind) ≡ true) (finds : FindsFields bs found counts)
    (found_inners : FindsInners bs inners) (found_items : FindsItems bs items) (found_next : FindsNext bs next) (once : EachOnce (paths_of bs)) (typed : AreFieldsTyped env t bs) (fits : (p : Path) → Contains (paths_of bs) (Chosen p) → is_several (kind_of t.kind) ≡ true)
    (f : FlatRule) (h : IsSerializableRule env t (paths_of bs) f) (lists : HasItsLists env (paths_of bs) f) where
  abbrev ps : List Path
  ps = paths_of bs

  abbrev tests : List Test
  tests = constraint_tests (paths_of bs) f

  abbrev all : List Path
  all = map (at (paths_of bs)) f.iterators

  abbrev early : List Path
  early = early_of env (map (at (paths_of bs)) f.iterators)

  abbrev holds_at : Meaning → List Value → Known → Test → Bool
  holds_at m args known x = holds env m (value_at env m args known) x

  abbrev all_at : Meaning → List Value → Known → List Test → Bool
  all_at m args known xs = all_hold env m (value_at env m args known) xs

  -- a step loops over these lists after those that were opened, and adds there what the rule's part adds if these tests hold
  pub record Adds (opened' : List Path) (step : SeenStep) (left : List Test) (qs : List Path) : Type 0 where
    pub run : (m : Meaning) (args : List Value) (known : Known) (g : Given) → several_run env m args ps (alone step) known g ≡ each_choice env m args qs known g (λ now so. cond (all_at m args now left) (flat_part env m args ps f now so) so)
    pub order' : AreListsInOrder opened' qs
    pub each : AllByRecursion (Contains early) qs
    pub ends : (q : Path) → Contains early q → Contains (came_behind opened' qs) q

  all_both : (xs ys : List Path) → AllByRecursion (Contains early) xs → AllByRecursion (Contains early) ys → AllByRecursion (Contains early) (xs ++ ys)
  all_both [] ys a b = b
  all_both (x ∷ xs) ys a b = (a.0, all_both xs ys a.1 b)

  -- after what is needed for a test, the test, and inside it what adds so
  test_adds : (bound : List ℕ) (opened' : List Path) (ns : List BindingId) (c : Control) (inner : SeenStep) (x : Test) (left : List Test) (qs : List Path) → AreOpenable (setting env t bs) bound ns → AreStill env ps ns → OpensOrder env t bs early bound opened' ns
      → ((m : Meaning) (args : List Value) (known : Known) (g : Given) → several_control env m args ps c known g ≡ cond (holds_at m args known x) (several_run env m args ps (alone inner) known g) g)
      → ((m : Meaning) (args : List Value) → ReadsOnly env m args (came_behind opened' (loops bs ns)) (λ known. holds_at m args known x))
      → Adds (came_behind opened' (loops bs ns)) inner left qs → Adds opened' (opened true bs ns c) (x ∷ left) (loops bs ns ++ qs)
  test_adds bound opened' ns c inner x left qs ready still opens control reads within = record {
    run = λ m args known g.
        let told : Known → Given → Given = λ now so. cond (all_at m args now left) (flat_part env m args ps f now so) so in
        let both : Known → Given → Given = λ now so. cond (holds_at m args now x && all_at m args now left) (flat_part env m args ps f now so) so in
        ap (λ order. several_run env m args ps (alone (opening bs order c)) known g) (sym (append-nil ns))
        ∙ order_run env m args t bs ns [] c bound ready still known g
        ∙ each_same env m args (loops bs ns) known g (several_run env m args ps (alone (opening bs [] c))) (λ now so. each_choice env m args qs now so both)
        (λ now so.
        control m args now so
        ∙ ap (λ y. cond (holds_at m args now x) y so) (within.run m args now so)
        ∙ test_out env m args qs (λ k. holds_at m args k x) now so told (order_free env m args qs (came_behind opened' (loops bs ns)) (λ k. holds_at m args k x) within.order' (reads m args))
        ∙ each_same env m args qs now so (λ k s. cond (holds_at m args k x) (told k s) s) both (λ k s. and_cond (holds_at m args k x) (all_at m args k left) (flat_part env m args ps f k s) s))
        ∙ sym (each_append env m args (loops bs ns) qs known g both);
    order' = order_append opened' (loops bs ns) qs opens.order' within.order';
    each = all_both (loops bs ns) qs opens.each within.each;
    ends = λ q k. subst (λ rs. Contains rs q) (sym (came_append opened' (loops bs ns) qs)) (within.ends q k);
  }

  -- what a test reads
  constraint_reads : (opened' : List Path) (source : BindingId) (c : Constraint) → ListsWithin opened' (at ps source) → (m : Meaning) (args : List Value) → ReadsOnly env m args opened' (λ known. holds_at m args known (Is (at ps source) c))
  constraint_reads opened' source c within m args q place known new = ap (meets env m c) (choosing_within env m args (at ps source) opened' q place known new within)

  equal_reads : (opened' : List Path) (a b : BindingId) → ListsWithin opened' (at ps a) → ListsWithin opened' (at ps b) → (m : Meaning) (args : List Value) → ReadsOnly env m args opened' (λ known. holds_at m args known (Equal (at ps a) (at ps b)))
  equal_reads opened' a b one other m args q place known new =
      ap (λ v. equal_held v (value_at env m args (choosing known q place) (at ps b))) (choosing_within env m args (at ps a) opened' q place known new one)
      ∙ ap (equal_held (value_at env m args known (at ps a))) (choosing_within env m args (at ps b) opened' q place known new other)

  -- after these tests
  pub record IsAt (behind : List Test) (bound : List ℕ) (opened' : List Path) : Type 0 where
    pub within : IsWithin env ps behind bound
    pub opens : HasOpened bs bound opened'
    pub each : (q : Path) → Contains opened' q → Contains early q

  pub all_contained : (qs : List Path) → AllByRecursion (Contains early) qs → (q : Path) → Contains qs q → Contains early q
  all_contained [] k q c = absurd (none_contained q c)
  all_contained (p ∷ qs) k q c = ⊎_elim (λ (e : p ≡ q). subst (Contains early) e k.0) (λ j. all_contained qs k.1 q j) (contained_cases p qs q c)

  each_came : (opened' qs : List Path) → ((q : Path) → Contains opened' q → Contains early q) → AllByRecursion (Contains early) qs → (q : Path) → Contains (came_behind opened' qs) q → Contains early q
  each_came opened' qs e k q c = ⊎_elim (λ j. e q j) (λ j. all_contained qs k q j) (came_from opened' qs q c)

  -- after an order
  at_order : (behind : List Test) (bound : List ℕ) (opened' : List Path) (ns : List BindingId) → IsAt behind bound opened' → AreStill env ps ns → OpensOrder env t bs early bound opened' ns → IsAt behind (bound_by bound ns) (came_behind opened' (loops bs ns))
  at_order behind bound opened' ns k still opens = record { within = within_needs env ps behind ns bound still k.within; opens = opens.opens; each = each_came opened' (loops bs ns) k.each opens.each }

  -- what is needed at a path that is read after tests
  needed_at : (behind : List Test) (p : Path) → StandsOn env behind [] p → ListsWithin all p → NeedLists env early p
  needed_at behind p stands within = need_lists env behind [] all early (λ q c e. early_in env all q c e) (λ q c. absurd (none_contained q c)) p stands within

  -- ---- equalities

  -- what stands inside tests
  abbrev pub Inside : (behind left : List Test) → Behind → Within → Type 0
  Inside behind left inner after = (bound : List ℕ) (opened' : List Path) → IsAt behind bound opened' → Adds opened' (inner bound) left (after bound)

  pub equated_adds : (es : List (BindingId × BindingId)) (last : Behind) (after : Within) → Inside tests [] last after → AllByRecursion (AreComparable env t ps tests) es → AllByRecursion (λ (e : BindingId × BindingId). ListsWithin all (at ps e.0) × ListsWithin all (at ps e.1)) es
      → Inside tests (map (equal_test ps) es) (all_equated true bs es last) (equated_lists bs es after)
  equated_adds [] last after inside ready within bound opened' k = inside bound opened' k
  equated_adds (e ∷ es) last after inside ready within bound opened' k =
      let one : AreComparable env t ps tests e = ready.0 in
      let reads = e.0 ∷ e.1 ∷ [] in
      let ns = needs bs bound reads in
      let behind = bound_by bound ns in
      let r = needs_read env t bs tests [] fits bound reads (one.ty ∷ one.ty ∷ []) k.within.behind (one.left, (one.right, tt)) (one.left_stands, (one.right_stands, tt)) in
      let read = all_read_as (setting env t bs) behind (one.ty ∷ one.ty ∷ []) (one.left, (one.right, tt)) r.read in
      let new = r.items early (needed_at tests (at ps e.0) one.left_stands within.0.0, (needed_at tests (at ps e.1) one.right_stands within.0.1, tt)) in
      let opens = order_opens env t bs ns early bound opened' once k.opens r.binds new in
      let opened1 = came_behind opened' (loops bs ns) in
      test_adds bound opened' ns (Equal e.0 e.1 (alone (all_equated true bs es last behind))) (all_equated true bs es last behind) (Equal (at ps e.0) (at ps e.1)) (map (equal_test ps) es) (equated_lists bs es after behind) r.binds r.still opens
      (λ m args known g. refl)
      (equal_reads opened1 e.0 e.1 (read_within env t bs behind opened1 opens.opens read.0.read one.ty one.left) (read_within env t bs behind opened1 opens.opens read.1.0.read one.ty one.right))
      (equated_adds es last after inside ready.1 within.1 behind opened1 (at_order tests bound opened' ns k r.still opens))

  -- ---- constraints

  pub matched_adds : (cs : List (BindingId × Constraint)) (before left : List Test) (inner : Behind) (after : Within) → Inside (came_behind before (map (is_test ps) cs)) left inner after → AreTestable env t ps before cs
      → AllByRecursion (λ (c : BindingId × Constraint). ListsWithin all (at ps c.0)) cs → Inside before (map (is_test ps) cs ++ left) (all_matched true bs (shows found counts inners) cs inner) (matched_lists bs (shows found counts inners) cs after)
  matched_adds [] before left inner after inside ready within bound opened' k = inside bound opened' k
  matched_adds (c ∷ cs) before left inner after inside ready within bound opened' k =
      let ns = needs bs bound (c.0 ∷ []) in
      let behind = bound_by bound ns in
      let places = shows found counts inners c.0 c.1 in
      let arm = bound_within behind places in
      let r = test_ready true env t bs found counts inners next items is finds found_inners found_items found_next once typed fits before bound c.0 c.1 k.within.behind ready.0.test ready.0.stands in
      let new = r.items early (needed_at before (at ps c.0) ready.0.stands within.0) in
      let opens = order_opens env t bs ns early bound opened' once k.opens r.binds new in
      let opened1 = came_behind opened' (loops bs ns) in
      let source = r.within opened1 opens.opens in
      let shown = within_arm true env t bs found counts inners next items is finds found_inners found_items found_next once typed fits before bound c k.within r in
      let inside_arm : IsAt (is_test ps c ∷ before) arm opened1 = record { within = shown; opens = places_opened env t bs opened1 c.0 c.1 places behind source r.places' opens.opens; each = each_came opened' (loops bs ns) k.each opens.each } in
      let step = all_matched true bs (shows found counts inners) cs inner arm in
      test_adds bound opened' ns (Match c.0 (Arm c.1 places (alone step) NoArm)) step (Is (at ps c.0) c.1) (map (is_test ps) cs ++ left) (matched_lists bs (shows found counts inners) cs after arm) r.binds r.still opens
      (λ m args known g. refl) (constraint_reads opened1 c.0 c.1 source) (matched_adds cs (is_test ps c ∷ before) left inner after inside ready.1 within.1 arm opened1 inside_arm)

  -- ---- lists and calls

  -- the item of a list that is no ordered call
  item_needed : (l : BindingId) → IsSerializableList env t tests ps (map (at ps) f.ordered) l → Contains all (at ps l) → ListsWithin all (at ps l) → (called : Bool) → is_bound (bound_by [] f.ordered) l ≡ called → (o : Option BindingId) → items l.0 ≡ o
      → AllByRecursion (λ (b : BindingId). NeedLists env early (at ps b)) (left_item called o)
  item_needed l k among within true e o is = tt
  item_needed l k among within false e None is = tt
  item_needed l k among within false e (Some b) is =
      let stands = found_items.found l.0 b is in
      let there = list_there env t (at ps l) k.tys k.list in (
        ⊎_elim
            (λ early'. subst (NeedLists env early) (sym (item_path bs l b stands.0 stands.1)) (early_in env all (at ps l) among early'.0, needed_at tests (at ps l) early'.1 within))
            (λ late. let marked = is_marked (bound_by [] f.ordered) l.0 (bound_has ps l once there f.ordered [] late) in absurd cc)
            k.stands,
        tt,
      )

  all_needed : (xs ys : List BindingId) → AllByRecursion (λ (b : BindingId). NeedLists env early (at ps b)) xs → AllByRecursion (λ (b : BindingId). NeedLists env early (at ps b)) ys → AllByRecursion (λ (b : BindingId). NeedLists env early (at ps b)) (xs ++ ys)
  all_needed [] ys a b = b
  all_needed (x ∷ xs) ys a b = (a.0, all_needed xs ys a.1 b)

  items_needed_at : (ls : List BindingId) → AllByRecursion (IsSerializableList env t tests ps (map (at ps) f.ordered)) ls → ((q : Path) → Contains (map (at ps) ls) q → Contains all q) → AllByRecursion (λ (l : BindingId). ListsWithin all (at ps l)) ls
      → AllByRecursion (λ (b : BindingId). NeedLists env early (at ps b)) (items_left items (bound_by [] f.ordered) ls)
  items_needed_at [] k among within = tt
  items_needed_at (l ∷ ls) k among within =
      let called = is_bound (bound_by [] f.ordered) l in
      all_needed (left_item called (items l.0)) (items_left items (bound_by [] f.ordered) ls)
      (item_needed l k.0 (among (at ps l) (head_contained (at ps l) (map (at ps) ls))) within.0 called refl (items l.0) refl)
      (items_needed_at ls k.1 (λ q c. among q (tail_contained (at ps l) (map (at ps) ls) q c)) within.1)

  -- after them the rule's part
  part_same : (bound : List ℕ) (opened' : List Path) → IsAt tests bound opened' → ((q : Path) → Contains early q → Contains opened' q) → (m : Meaning) (args : List Value) (known : Known) (g : Given)
      → several_run env m args ps (alone (opening bs (behind_lists bs next bound f) (Return f.pos f.result))) known g ≡ flat_part env m args ps f known g
  part_same bound opened' k ends m args known g =
      let calls = map (at ps) f.ordered in
      let order = binds bs next bound (left_calls next bound f.ordered) in
      let behind = bound_by bound order in
      let done = came_behind [] calls in
      let ns = needs bs behind (f.result ∷ []) in
      let still = behind_still true env t bs found counts inners next items is finds found_inners found_items found_next once typed fits f bound h k.within in
      let opens' = λ (q : Path) (c : Contains all q) (e : holds_impure env q ≡ false). ends q (early_in env all q c e) in
      let plain = binds_plain env t bs fits tests next found_next once all opened' opens' bound k.opens.items f.ordered [] bound (λ n j. j) k.within.behind h.calls lists.calls in
      let made = binds_all env t bs fits tests next found_next once bound f.ordered [] bound (λ n j. j) k.within.behind h.calls in
      let stands = stands_more env tests calls done (λ p j. came_holds [] calls p (inr j)) (at ps f.result) h.stands in
      let r = needs_read env t bs tests done fits behind (f.result ∷ []) (t.ret_ty ∷ []) made.behind (h.result, tt) (stands, tt) in
      let at_result = need_lists env tests done all (opened' ++ done) (early_made env t bs fits tests next found_next once all opened' opens' bound k.opens.items done) (late_made env t bs fits tests next found_next once all opened' opens' bound k.opens.items done) (at ps f.result) stands lists.result in
      let none = no_items env t bs (opened' ++ done) ns behind (items_made env t bs fits tests next found_next once all opened' opens' bound k.opens.items done behind (by_kept order bound) made.behind) r.binds (r.items (opened' ++ done) (at_result, tt)) in
      ordered_run env t is m args bs next found_next once tests bound opened' k.opens (was_tested env bs next tests bound k.within.tested) (λ q c. (early_from env all q (k.each q c)).1) f.pos f.result
      ns r.still none f.ordered bound [] h.calls (ordered_plain env t tests bs f.ordered h.calls) still.0 plain lists.ordered.once (λ q c d. none_contained q c) (λ q c e. lists.ordered.late q c e) known g

  pub last_adds : Inside tests [] (last_step true bs next items f) (last_lists bs items f)
  last_adds bound opened' k =
      let ns = needs bs bound (left_items true items f) in
      let behind = bound_by bound ns in
      let r = items_needed env t bs tests [] fits bound (left_items true items f) k.within.behind (left_ready true env t bs found counts inners next items is finds found_inners found_items found_next once typed fits true f h) in
      let new = r.new early (items_needed_at f.iterators h.lists (λ q c. c) lists.lists) in
      let opens = order_opens env t bs ns early bound opened' once k.opens r.binds new in
      let opened1 = came_behind opened' (loops bs ns) in
      let k' = at_order tests bound opened' ns k r.still opens in
      let ends : (q : Path) → Contains early q → Contains opened1 q = λ q c. let e = early_from env all q c in all_opened env t bs items found_items once f tests lists.ordered.late behind opened1 opens.opens f.iterators h.lists r.there q e.0 e.1 in
      record {
        run = λ m args known g.
            let behind_lists' = behind_lists bs next behind f in
            order_run env m args t bs ns behind_lists' (Return f.pos f.result) bound r.binds r.still known g
            ∙ each_same env m args (loops bs ns) known g (several_run env m args ps (alone (opening bs behind_lists' (Return f.pos f.result)))) (flat_part env m args ps f) (λ now so. part_same behind opened1 k' ends m args now so);
        order' = opens.order';
        each = opens.each;
        ends = ends;
      }
