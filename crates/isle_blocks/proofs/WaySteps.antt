-- The step of a way whose early tests are made, in a term that answers several times: it adds what the way's rule adds over lists of its own.
use Rattle.std.proofs.Common.{◌≡◌, inr, ⊎_elim, ℕ, List, [], ◌∷◌, ◌++◌, Bool, true, cond, ◌&&◌, Option, map, sym, ap, ◌∙◌, subst}
use Rattle.std.specs.Prelude.{Contains}
use Rattle.std.specs.List.{AllByRecursion, list_all}
use Rattle.isle_core.specs.declared.BindingId.{BindingId}
use Rattle.isle_core.specs.declared.rule_sets.Binding.{Binding}
use Rattle.isle_core.specs.declared.rule_sets.Constraint.{Constraint}
use Rattle.isle_core.specs.declared.rule_sets.RuleSet.{RuleSet}
use Rattle.isle_core.specs.declared.types.Term.{Term}
use Rattle.isle_core.specs.Calling.{kind_of, is_several}
use Rattle.isle_core.specs.Choices.{each_choice, flat_adds}
use Rattle.isle_core.specs.ListOrder.{ListsWithin}
use Rattle.isle_core.specs.Meaning.{Meaning}
use Rattle.isle_core.specs.Parts.{Given}
use Rattle.isle_core.specs.Path.{Path, Chosen, at, paths_of}
use Rattle.isle_core.specs.Rule.{Environment}
use Rattle.isle_core.specs.RuleSet.{is_test, equal_test, flat_tests}
use Rattle.isle_core.specs.Serializable.{AreTestable, constraint_tests}
use Rattle.isle_core.specs.SeveralRun.{several_run}
use Rattle.isle_core.specs.SeveralSet.{flat_part}
use Rattle.isle_core.specs.StandsFor.{EachOnce}
use Rattle.isle_core.specs.Tests.{Test, Is, Equal, HasItem}
use Rattle.isle_core.specs.Value.{Value}
use Rattle.isle_core.specs.ValueAt.{Known, value_at, all_hold}
use Rattle.isle_core.proofs.Contained.{head_contained, tail_contained, none_contained, contained_cases}
use Rattle.isle_blocks.specs.declared.fields.Shown.{Shown}
use Rattle.isle_blocks.specs.Added.{AreEarlyLists}
use Rattle.isle_blocks.specs.Fields.{FieldKey, FindsFields, shows}
use Rattle.isle_blocks.specs.Followers.{FindsInners, FindsItems}
use Rattle.isle_blocks.specs.Nest.{Shows, alone, last_step, all_equated}
use Rattle.isle_blocks.specs.Several.{HasItsLists}
use Rattle.isle_blocks.specs.Tree.{Way, Ground, way_step}
use Rattle.isle_blocks.proofs.FieldPlaces.{AreFieldsTyped}
use Rattle.isle_blocks.proofs.LawBound.{came_behind, came_holds, came_from}
use Rattle.isle_blocks.proofs.ListsRead.{HasOpened}
use Rattle.isle_blocks.proofs.MadeBefore.{IsWithin, within_same}
use Rattle.isle_blocks.proofs.NextLaws.{FindsNext}
use Rattle.isle_blocks.proofs.OpenedRuns.{order_free}
use Rattle.isle_blocks.proofs.RuleLists.{Within, last_lists, equated_lists, matched_lists, early_in, early_from}
use Rattle.isle_blocks.proofs.RuleRuns.{Adds, all_contained, equated_adds, matched_adds, last_adds}
use Rattle.isle_blocks.proofs.TreeRuns.{one_holds, each_holds, came_hold, all_both, same_truth}
use Rattle.isle_blocks.proofs.TreeWays.{left_tests, IsAfter}
use Rattle.isle_blocks.proofs.UnlistedTests.{IsUnlisted, holds_at, unlisted_all, same_where}

-- ---- tests that are left

-- if the tests made hold, a rule's tests hold if those that are left do
same_tests : (env : Environment) (t : Term) (s : RuleSet) (p : Test → Bool) (before : List Test) (w : Way) → IsAfter env t s before w → list_all p before ≡ true
    → list_all p (flat_tests (paths_of s.bindings) w.rule) ≡ list_all p (left_tests (paths_of s.bindings) w ++ map (equal_test (paths_of s.bindings)) w.rule.equals)
same_tests env t s p before w h e =
    let ps = paths_of s.bindings in
    all_both p (constraint_tests ps w.rule) (map (equal_test ps) w.rule.equals)
    ∙ ap (λ b. b && list_all p (map (equal_test ps) w.rule.equals))
    (same_truth (list_all p (constraint_tests ps w.rule)) (list_all p (left_tests ps w))
    (λ all. each_holds p (left_tests ps w) (λ x c. one_holds p (constraint_tests ps w.rule) x all (h.only x (came_holds before (left_tests ps w) x (inr c)))))
    (λ all. each_holds p (constraint_tests ps w.rule) (λ x c. one_holds p (came_behind before (left_tests ps w)) x (came_hold p before (left_tests ps w) e all) (h.made x c))))
    ∙ sym (all_both p (left_tests ps w) (map (equal_test ps) w.rule.equals))

-- the lists within a test's path are these
abbrev TestWithin : List Path → Test → Type 0
TestWithin all (Is p c) = ListsWithin all p
TestWithin all (Equal p q) = Unit {0}
TestWithin all (HasItem p) = Unit {0}

within_of : (ps all : List Path) (cs : List (BindingId × Constraint)) (x : Test) → AllByRecursion (λ (c : BindingId × Constraint). ListsWithin all (at ps c.0)) cs → Contains (map (is_test ps) cs) x → TestWithin all x
within_of ps all [] x h c = absurd (none_contained x c)
within_of ps all (d ∷ cs) x h c = ⊎_elim (λ (e : is_test ps d ≡ x). subst (TestWithin all) e h.0) (λ j. within_of ps all cs x h.1 j) (contained_cases (is_test ps d) (map (is_test ps) cs) x c)

within_all : (ps all : List Path) (cs : List (BindingId × Constraint)) → ((x : Test) → Contains (map (is_test ps) cs) x → TestWithin all x) → AllByRecursion (λ (c : BindingId × Constraint). ListsWithin all (at ps c.0)) cs
within_all ps all [] h = tt
within_all ps all (d ∷ cs) h = (h (is_test ps d) (head_contained (is_test ps d) (map (is_test ps) cs)), within_all ps all cs (λ x c. h x (tail_contained (is_test ps d) (map (is_test ps) cs) x c)))

-- ---- the step

-- the lists over which the step of a way loops before its calls
abbrev pub way_lists : List Binding → Shows → (items : ℕ → Option BindingId) → Way → Within
way_lists bs places items w = matched_lists bs places w.late (equated_lists bs w.rule.equals (last_lists bs items w.rule))

module _ (env : Environment) (t : Term) (s : RuleSet) (found : FieldKey → Option BindingId) (counts : Shown → Option ℕ) (inners next items : ℕ → Option BindingId) (is : is_several (kind_of t.kind) ≡ true) (finds : FindsFields s.bindings found counts)
    (found_inners : FindsInners s.bindings inners) (found_items : FindsItems s.bindings items) (found_next : FindsNext s.bindings next) (once : EachOnce (paths_of s.bindings)) (typed : AreFieldsTyped env t s.bindings)
    (fits : (p : Path) → Contains (paths_of s.bindings) (Chosen p) → is_several (kind_of t.kind) ≡ true)
    (before : List Test) (bound : List ℕ) (w : Way) (within : IsWithin env (paths_of s.bindings) before bound) (opens : HasOpened s.bindings bound []) (h : IsAfter env t s before w) (lists : HasItsLists env (paths_of s.bindings) w.rule) (none_left : w.early ≡ []) where
  abbrev bs : List Binding
  bs = s.bindings

  abbrev ps : List Path
  ps = paths_of s.bindings

  abbrev g : Ground
  g = record { several = true; bindings = s.bindings; shows = shows found counts inners; next = next; items = items }

  abbrev tests : List Test
  tests = constraint_tests (paths_of s.bindings) w.rule

  abbrev all : List Path
  all = map (at (paths_of s.bindings)) w.rule.iterators

  all_late : w.early ++ w.late ≡ w.late
  all_late = ap (λ xs. xs ++ w.late) none_left

  made : (x : Test) → Contains (constraint_tests (paths_of s.bindings) w.rule) x → Contains (came_behind before (map (is_test (paths_of s.bindings)) w.late)) x
  made x c = subst (λ (xs : List (BindingId × Constraint)). Contains (came_behind before (map (is_test ps) xs)) x) all_late (h.made x c)

  only : (x : Test) → Contains (came_behind before (map (is_test (paths_of s.bindings)) w.late)) x → Contains (constraint_tests (paths_of s.bindings) w.rule) x
  only x c = h.only x (subst (λ (xs : List (BindingId × Constraint)). Contains (came_behind before (map (is_test ps) xs)) x) (sym all_late) c)

  late_within : AllByRecursion (λ (c : BindingId × Constraint). ListsWithin (map (at (paths_of s.bindings)) w.rule.iterators) (at (paths_of s.bindings) c.0)) w.late
  late_within = within_all ps all w.late (λ x c. within_of ps all w.rule.constraints x lists.tests (only x (came_holds before (map (is_test ps) w.late) x (inr c))))

  way_adds : Adds env t s.bindings found counts inners next items is finds found_inners found_items found_next once typed fits w.rule h.rule lists [] (way_step g w bound)
      (map (is_test (paths_of s.bindings)) w.late ++ map (equal_test (paths_of s.bindings)) w.rule.equals) (way_lists s.bindings (shows found counts inners) items w bound)
  way_adds =
      let es = w.rule.equals in
      matched_adds env t bs found counts inners next items is finds found_inners found_items found_next once typed fits w.rule h.rule lists w.late before (map (equal_test ps) es) (all_equated true bs es (last_step true bs next items w.rule)) (equated_lists bs es (last_lists bs items w.rule))
      (λ bound' opened' k. equated_adds env t bs found counts inners next items is finds found_inners found_items found_next once typed fits w.rule h.rule lists es (last_step true bs next items w.rule) (last_lists bs items w.rule)
      (last_adds env t bs found counts inners next items is finds found_inners found_items found_next once typed fits w.rule h.rule lists) h.rule.equals lists.equals bound' opened'
      (record { within = within_same env ps tests (came_behind before (map (is_test ps) w.late)) bound' made only k.within; opens = k.opens; each = k.each }))
      (subst (AreTestable env t ps before) all_late h.testable) late_within bound [] (record { within = within; opens = opens; each = λ q c. absurd (none_contained q c) })

  -- these are the rule's lists that hold no impure call
  pub way_early : AreEarlyLists env (paths_of s.bindings) w.rule (way_lists s.bindings (shows found counts inners) items w bound)
  way_early =
      let qs = way_lists bs (shows found counts inners) items w bound in
      record {
        order = way_adds.order';
        early = λ q. (
          λ c. early_from env all q (all_contained env t bs found counts inners next items is finds found_inners found_items found_next once typed fits w.rule h.rule lists qs way_adds.each q c),
          λ k. ⊎_elim (λ none. absurd (none_contained q none)) (λ j. j) (came_from [] qs q (way_adds.ends q (early_in env all q k.0 k.1))),
        );
      }

  -- if the tests made hold, which no choice changes, the step adds what the rule adds
  pub way_run : (m : Meaning) (args : List Value) (known : Known) (so : Given) → AllByRecursion IsUnlisted before → all_hold env m (value_at env m args known) before ≡ true
      → several_run env m args (paths_of s.bindings) (alone (way_step g w bound)) known so ≡ each_choice env m args (way_lists s.bindings (shows found counts inners) items w bound) known so (flat_adds env m args (paths_of s.bindings) w.rule)
  way_run m args known so unlisted e =
      let qs = way_lists bs (shows found counts inners) items w bound in
      let left = map (is_test ps) w.late ++ map (equal_test ps) w.rule.equals in
      let one : Known → Given → Given = λ now so'. cond (all_hold env m (value_at env m args now) left) (flat_part env m args ps w.rule now so') so' in
      way_adds.run m args known so
      ∙ same_where env m args qs before known so one (flat_adds env m args ps w.rule) (order_free env m args qs [] (λ k. list_all (holds_at env m args k) before) way_adds.order' (unlisted_all env m args before unlisted)) e
      (λ now so' held. told now so' (same_tests env t s (holds_at env m args now) before w h held ∙ ap (λ (xs : List (BindingId × Constraint)). list_all (holds_at env m args now) (map (is_test ps) xs ++ map (equal_test ps) w.rule.equals)) all_late))
    where
      told : (now : Known) (so' : Given) → all_hold env m (value_at env m args now) (flat_tests (paths_of s.bindings) w.rule) ≡ all_hold env m (value_at env m args now) (map (is_test (paths_of s.bindings)) w.late ++ map (equal_test (paths_of s.bindings)) w.rule.equals)
          → cond (all_hold env m (value_at env m args now) (map (is_test (paths_of s.bindings)) w.late ++ map (equal_test (paths_of s.bindings)) w.rule.equals)) (flat_part env m args (paths_of s.bindings) w.rule now so') so' ≡ flat_adds env m args (paths_of s.bindings) w.rule now so'
      told now so' same = ap (λ b. cond b (flat_part env m args ps w.rule now so') so') (sym same)
