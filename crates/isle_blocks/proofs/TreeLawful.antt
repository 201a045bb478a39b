-- A tree of ready rules is lawful.
use Rattle.std.proofs.Common.{◌≡◌, ◌⊎◌, inl, inr, ⊎_elim, ℕ, List, [], ◌∷◌, ◌++◌, Bool, true, false, ◌&&◌, Option, Some, None, map, refl, sym, ap, ◌∙◌, subst, append_assoc}
use Rattle.std.specs.Prelude.{slice_get, Contains}
use Rattle.std.specs.List.{AllByRecursion}
use Rattle.std.proofs.lemmas.List.{append-nil}
use Rattle.std.proofs.lemmas.List.Elements.{Contains-append_left, Contains-append_right, Contains-append_cases}
use Rattle.isle_core.specs.declared.BindingId.{BindingId}
use Rattle.isle_core.specs.declared.TypeId.{TypeId}
use Rattle.isle_core.specs.declared.rule_sets.Binding.{Binding}
use Rattle.isle_core.specs.declared.rule_sets.Binding.TheVariants as binding
use Rattle.isle_core.specs.declared.rule_sets.Constraint.{Constraint}
use Rattle.isle_core.specs.declared.rule_sets.FlatRule.{FlatRule}
use Rattle.isle_core.specs.declared.rule_sets.RuleSet.{RuleSet}
use Rattle.isle_core.specs.declared.types.Term.{Term}
use Rattle.isle_core.specs.ArmPlaces.{bound_within}
use Rattle.isle_core.specs.Bindable.{IsBindable, AreBindable, bound_by}
use Rattle.isle_core.specs.Block.{Block, Stop, Match, Arms}
use Rattle.isle_core.specs.BlockLawful.{Source, AValue, AnOption, IsReadIn, IsConstraintOver, IsLawfulFrom, AreLawfulArms, HasArm, LoopsOnce, ArmsLoopOnce, looped_by, without}
use Rattle.isle_core.specs.Calling.{Calling, ByTurns, ByCases, NoCall, calling, extracting, kind_of, is_several}
use Rattle.isle_core.specs.ExternalCall.{IsCall, IsExtraction}
use Rattle.isle_core.specs.PathType.{IsPathOf, IsOptionOf}
use Rattle.isle_core.specs.declared.types.ReturnKind.TheVariants as return_kind
use Rattle.isle_core.specs.Occurrences.{AreNew, occurrences, after_block, after_control, after_arms}
use Rattle.isle_core.specs.Path.{Path, Nowhere, Arg, ConstBool, ConstInt, ConstPrim, Extracted, Called, Chosen, MadeVariant, MadeStruct, VariantField, StructField, Wrapped, Inner, Part, Paths, NoPath, APath, at, paths_of}
use Rattle.isle_core.specs.Rule.{Environment}
use Rattle.isle_core.specs.RuleSet.{is_test}
use Rattle.isle_core.specs.Serializable.{AreTestable, IsTestable, constraint_tests, occurrences_of}
use Rattle.isle_core.specs.Setting.{Setting, setting, gives_several, paths_in}
use Rattle.isle_core.specs.StandsFor.{EachOnce}
use Rattle.isle_core.specs.Tests.{Test}
use Rattle.isle_core.proofs.Contained.{none_contained}
use Rattle.isle_blocks.specs.declared.fields.Shown.{Shown}
use Rattle.isle_blocks.specs.Fields.{FieldKey, FindsFields, shows}
use Rattle.isle_blocks.specs.Followers.{FindsInners, FindsItems}
use Rattle.isle_blocks.specs.Free.{is_free, are_free}
use Rattle.isle_blocks.specs.Needed.{list_before}
use Rattle.isle_blocks.specs.Tree.{no_tests}
use Rattle.isle_blocks.specs.Nest.{last_step, all_matched, all_equated}
use Rattle.isle_blocks.specs.Tree.{Way, Ground, way_step, source_needs, Tests, AllTest, Parts, none, same, other, IsTree, own, last, shared, AreTrees, no_arm, arm}
use Rattle.isle_blocks.proofs.FieldPlaces.{AreFieldsTyped}
use Rattle.isle_blocks.proofs.LawBound.{came_behind}
use Rattle.isle_blocks.proofs.LawSerializable.{IsReturn, before_others, matched_ends, IsTestReady, IsGoodStep, test_ready, within_arm, matched_good, equated_good, last_good}
use Rattle.isle_blocks.proofs.MadeBefore.{IsWithin, within_same, within_needs}
use Rattle.isle_blocks.proofs.MoreBound.{by_kept, still_lawful}
use Rattle.isle_blocks.proofs.NeededRuns.{needs_uncalled}
use Rattle.isle_blocks.proofs.NextLaws.{FindsNext}
use Rattle.isle_blocks.proofs.OncePairs.{each_first, each_second, each_apart, each_both}
use Rattle.isle_blocks.proofs.Openable.{IsOpenable, AreOpenable, all_once_bindable}
use Rattle.isle_blocks.proofs.OrderItems.{NeedCalled, NeedLists, AllNeedLists}
use Rattle.isle_blocks.proofs.OrderedPlain.{NoItems, no_items}
use Rattle.isle_blocks.proofs.PathTypes.{path_type_once}
use Rattle.isle_blocks.proofs.TreeWays.{IsAfter, AreAfter, AreLeft, left_after, left_rules, same_after, others_left, some_left}
use Rattle.isle_blocks.specs.Arranged.{rules_of}

-- ---- what is read without a chosen item

needs_called : (c : Calling) (X : Type 0) → X → NeedCalled c X
needs_called (ByTurns callee kind) X h = tt
needs_called (ByCases callee kind) X h = h
needs_called NoCall X h = h

pub both_free : (a b : Bool) → (a && b) ≡ true → (a ≡ true) × (b ≡ true)
both_free true b e = (refl, e)
both_free false b e = absurd cc

mutual
  -- no list is needed for it
  pub free_lists : (p : Path) (env : Environment) (qs : List Path) → is_free p ≡ true → NeedLists env qs p
  free_lists Nowhere env qs e = tt
  free_lists (Arg i) env qs e = tt
  free_lists (ConstBool ty b) env qs e = tt
  free_lists (ConstInt ty n) env qs e = tt
  free_lists (ConstPrim name) env qs e = tt
  free_lists (Extracted term p) env qs e = free_lists p env qs e
  free_lists (Called term ps k) env qs e = needs_called (calling env term) (AllNeedLists env qs ps) (all_free_lists ps env qs e)
  free_lists (Chosen p) env qs e = absurd cc
  free_lists (MadeVariant ty variant ps) env qs e = all_free_lists ps env qs e
  free_lists (MadeStruct ty ps) env qs e = all_free_lists ps env qs e
  free_lists (VariantField variant field p) env qs e = tt
  free_lists (StructField field p) env qs e = tt
  free_lists (Wrapped p) env qs e = tt
  free_lists (Inner p) env qs e = tt
  free_lists (Part part p) env qs e = free_lists p env qs e

  all_free_lists : (ps : Paths) (env : Environment) (qs : List Path) → are_free ps ≡ true → AllNeedLists env qs ps
  all_free_lists NoPath env qs e = tt
  all_free_lists (APath p ps) env qs e = let k = both_free (is_free p) (are_free ps) e in (free_lists p env qs k.0, all_free_lists ps env qs k.1)

-- what may be opened and is no item may stand in a bind order
plain_bindable : (s : Setting) (bound : List ℕ) (p : Path) (o : Option Binding) → list_before o ≡ None → IsOpenable s bound p o → IsBindable s bound p o
plain_bindable s bound p (Some (binding.Iterator source)) e h = absurd cc
plain_bindable s bound p o e h = h

pub all_plain_bindable : (s : Setting) (order : List BindingId) (bound : List ℕ) → NoItems s.bindings order → AreOpenable s bound order → AreBindable s bound order
all_plain_bindable s [] bound e h = tt
all_plain_bindable s (b ∷ order) bound e h = (plain_bindable s bound (at (paths_in s) b) (slice_get s.bindings b.0) e.0 h.0, all_plain_bindable s order (bound ++ b.0 ∷ []) e.1 h.1)

-- no value is an option
plain_no_option : (c : Calling) → IsCall return_kind.Plain c → IsCall return_kind.Option c → ⊥
plain_no_option (ByTurns callee kind) h k = let bad = sym h ∙ k in cc
plain_no_option (ByCases callee kind) h k = let bad = sym h ∙ k in cc
plain_no_option NoCall h k = h

plain_no_extraction : (c : Calling) → IsExtraction return_kind.Plain c → IsExtraction return_kind.Option c → ⊥
plain_no_extraction (ByCases callee kind) h k = let bad = sym h.0 ∙ k.0 in cc
plain_no_extraction (ByTurns callee kind) h k = h
plain_no_extraction NoCall h k = h

value_no_option : (env : Environment) (t : Term) (p : Path) (ty : TypeId) (tys : List TypeId) → IsPathOf env t p ty → IsOptionOf env t p tys → ⊥
value_no_option env t (Called term ps instance) ty tys h k = plain_no_option (calling env term) h.0 k.0
value_no_option env t (Extracted term q) ty tys h k = plain_no_extraction (extracting env term) h.0 k.0
value_no_option env t p ty tys h k = k

-- the constraints of one source are over one thing
over_same : (s : Setting) (bound : List ℕ) (source : BindingId) (over new : Source) (c : Constraint) → IsReadIn s bound source over → IsReadIn s bound source new → IsConstraintOver s.env c new → IsConstraintOver s.env c over
over_same s bound source (AValue ty) (AValue tz) c h k d = subst (λ x. IsConstraintOver s.env c (AValue x)) (path_type_once s.env s.term (at (paths_in s) source) tz ty k.path h.path) d
over_same s bound source (AnOption tys) (AnOption tzs) c h k d = d
over_same s bound source (AValue ty) (AnOption tys) c h k d = absurd (value_no_option s.env s.term (at (paths_in s) source) ty tys h.path k.path)
over_same s bound source (AnOption tys) (AValue ty) c h k d = absurd (value_no_option s.env s.term (at (paths_in s) source) ty tys k.path h.path)

-- ---- impure calls of rules

module _ (env : Environment) (ps : List Path) where
  abbrev pub occurs : List FlatRule → List ℕ
  occurs fs = occurrences_of env ps fs

  abbrev pub left_of : List (Constraint × Way) → List FlatRule
  left_of js = map (λ (j : Constraint × Way). j.1.rule) js

  occurs_append : (fs gs : List FlatRule) → occurs (fs ++ gs) ≡ occurs fs ++ occurs gs
  occurs_append [] gs = refl
  occurs_append (f ∷ fs) gs = ap (λ ks. occurrences env ps f.ordered ++ ks) (occurs_append fs gs) ∙ sym (append_assoc (occurrences env ps f.ordered) (occurs fs) (occurs gs))

  -- those of one constraint, and of the others, are among all, and apart
  pub record ArePartsOnce (js others : List (Constraint × Way)) (ws : List Way) : Type 0 where
    pub same_in : (k : ℕ) → Contains (occurs (rules_of ws)) k → Contains (occurs (left_of js)) k
    pub others_in : (k : ℕ) → Contains (occurs (left_of others)) k → Contains (occurs (left_of js)) k
    pub same_once : EachOnce (occurs (rules_of ws))
    pub others_once : EachOnce (occurs (left_of others))
    pub apart : (k : ℕ) → Contains (occurs (rules_of ws)) k → Contains (occurs (left_of others)) k → ⊥

  pub parts_once : (c : Constraint) (js others : List (Constraint × Way)) (ws : List Way) → Parts c js ws others → EachOnce (occurs (left_of js)) → ArePartsOnce js others ws
  parts_once c js others ws none h = record { same_in = λ k i. i; others_in = λ k i. i; same_once = tt; others_once = tt; apart = λ k i j. none_contained k i }
  parts_once c js others ws (same j more rest vs e d) h =
      let here = occurrences env ps j.1.rule.ordered in
      let all = occurs (left_of more) in
      let k = parts_once c more rest vs d (each_second here all h) in
      record {
        same_in = λ n i. ⊎_elim (λ x. Contains-append_left here all n x) (λ x. Contains-append_right here all n (k.same_in n x)) (Contains-append_cases here (occurs (rules_of vs)) n i);
        others_in = λ n i. Contains-append_right here all n (k.others_in n i);
        same_once = each_both here (occurs (rules_of vs)) (each_first here all h) k.same_once (λ n i x. each_apart here all h n i (k.same_in n x));
        others_once = k.others_once;
        apart = λ n i x. ⊎_elim (λ y. each_apart here all h n y (k.others_in n x)) (λ y. k.apart n y x) (Contains-append_cases here (occurs (rules_of vs)) n i);
      }
  parts_once c js others ws (other j more rest vs e d) h =
      let here = occurrences env ps j.1.rule.ordered in
      let all = occurs (left_of more) in
      let k = parts_once c more rest vs d (each_second here all h) in
      record {
        same_in = λ n i. Contains-append_right here all n (k.same_in n i);
        others_in = λ n i. ⊎_elim (λ x. Contains-append_left here all n x) (λ x. Contains-append_right here all n (k.others_in n x)) (Contains-append_cases here (occurs (left_of rest)) n i);
        same_once = k.same_once;
        others_once = each_both here (occurs (left_of rest)) (each_first here all h) k.others_once (λ n i x. each_apart here all h n i (k.others_in n x));
        apart = λ n i x. ⊎_elim (λ y. each_apart here all h n y (k.same_in n i)) (λ y. k.apart n i y) (Contains-append_cases here (occurs (left_of rest)) n x);
      }

-- ---- trees

-- of a term that answers several times, the early tests are of free paths
abbrev pub AreFreeTests : (several : Bool) → List Path → Way → Type 0
AreFreeTests several ps w = several ≡ true → AllByRecursion (λ (c : BindingId × Constraint). is_free (at ps c.0) ≡ true) w.early

module _ (several : Bool) (env : Environment) (t : Term) (s : RuleSet) (found : FieldKey → Option BindingId) (counts : Shown → Option ℕ) (inners next items : ℕ → Option BindingId) (is : is_several (kind_of t.kind) ≡ several) (finds : FindsFields s.bindings found counts)
    (found_inners : FindsInners s.bindings inners) (found_items : FindsItems s.bindings items) (found_next : FindsNext s.bindings next) (once : EachOnce (paths_of s.bindings)) (typed : AreFieldsTyped env t s.bindings)
    (fits : (p : Path) → Contains (paths_of s.bindings) (Chosen p) → is_several (kind_of t.kind) ≡ true) where
  abbrev bs : List Binding
  bs = s.bindings

  abbrev ps : List Path
  ps = paths_of s.bindings

  abbrev st : Setting
  st = setting env t s.bindings

  abbrev g : Ground
  g = record { several = several; bindings = s.bindings; shows = shows found counts inners; next = next; items = items }

  abbrev often : Bool
  often = is_several (kind_of t.kind)

  -- impure calls that are none of these rules'
  abbrev AreOthers : List ℕ → List FlatRule → Type 0
  AreOthers made fs = (k : ℕ) → Contains made k → Contains (occurs env ps fs) k → ⊥

  -- those that may have been made: before, or by these rules
  abbrev IsMade : List ℕ → List FlatRule → ℕ → Type 0
  IsMade made fs k = Contains made k ⊎ Contains (occurs env ps fs) k

  -- the step of a way without early tests
  pub own_good : (before : List Test) (bound made : List ℕ) (w : Way) → IsWithin env ps before bound → IsAfter env t s before w → w.early ≡ [] → AreNew made (occurrences env ps w.rule.ordered) → IsGoodStep several env t bs found counts inners next items is finds found_inners found_items found_next once typed fits w.rule made bound (way_step g w bound)
  own_good before bound made w k h none_left new =
      let es = w.rule.equals in
      let tests = constraint_tests ps w.rule in
      let all : w.early ++ w.late ≡ w.late = ap (λ xs. xs ++ w.late) none_left in
      let late = subst (AreTestable env t ps before) all h.testable in
      let made' = λ (x : Test) (c : Contains tests x). subst (λ (xs : List (BindingId × Constraint)). Contains (came_behind before (map (is_test ps) xs)) x) all (h.made x c) in
      let only = λ (x : Test) (c : Contains (came_behind before (map (is_test ps) w.late)) x). h.only x (subst (λ (xs : List (BindingId × Constraint)). Contains (came_behind before (map (is_test ps) xs)) x) (sym all) c) in
      matched_good several env t bs found counts inners next items is finds found_inners found_items found_next once typed fits w.rule made w.late (all_equated several bs es (last_step several bs next items w.rule)) before bound k late
      (λ within j. equated_good several env t bs found counts inners next items is finds found_inners found_items found_next once typed fits w.rule made es (last_step several bs next items w.rule) tests within
      (within_same env ps tests (came_behind before (map (is_test ps) w.late)) within made' only j) h.rule.equals
      (λ bound' j'. last_good several env t bs found counts inners next items is finds found_inners found_items found_next once typed fits w.rule made bound' h.rule new j'))

  ready_at : (before : List Test) (bound : List ℕ) (source : BindingId) (c : Constraint) → IsWithin env ps before bound → IsTestable env t ps before (source, c) → IsTestReady env t bs bound source c (shows found counts inners source c)
  ready_at before bound source c k one = test_ready several env t bs found counts inners next items is finds found_inners found_items found_next once typed fits before bound source c k.behind one.test one.stands

  -- what a shared test is read with may stand in a bind order
  source_bindable : (bound : List ℕ) (source : BindingId) (c : Constraint) → IsTestReady env t bs bound source c (shows found counts inners source c) → (several ≡ true → is_free (at ps source) ≡ true) → AreBindable st bound (source_needs g bound source)
  source_bindable bound source c ready free = pick several refl
    where
      ns : List BindingId
      ns = source_needs g bound source

      pick : (b : Bool) → several ≡ b → AreBindable st bound ns
      pick false e = all_once_bindable st ns bound (is ∙ e) ready.binds
      pick true e = all_plain_bindable st ns bound (no_items env t bs [] ns bound (λ q c' b' e'. absurd (none_contained q c')) ready.binds (ready.items [] (free_lists (at ps source) env [] (free e)))) ready.binds

  -- lawful, where it goes on, it made no impure call but those of the rules, and it loops over each list once
  pub record IsGood (fs : List FlatRule) (made bound : List ℕ) (b : Block) : Type 0 where
    pub lawful : IsLawfulFrom st bound made b
    pub only : (k : ℕ) → Contains (after_block often env ps made b) k → IsMade made fs k
    pub loops : (fresh : List ℕ) → LoopsOnce st fresh b

  -- so of arms over a source
  pub record AreGood (source : BindingId) (over : Source) (fs : List FlatRule) (made bound : List ℕ) (arms : Arms) : Type 0 where
    pub lawful : AreLawfulArms st bound made source over arms
    pub only : (k : ℕ) → Contains (after_arms often env ps made arms) k → IsMade made fs k
    pub loops : (fresh : List ℕ) → ArmsLoopOnce st fresh arms

  first_free : (source : BindingId) (w : Way) (c : Constraint) (left : Way) → Tests source w c left → AreFreeTests several ps w → several ≡ true → is_free (at ps source) ≡ true
  first_free source w c left k h e = (subst (AllByRecursion (λ (x : BindingId × Constraint). is_free (at ps x.0) ≡ true)) k.tests (h e)).0

  left_free : (source : BindingId) (ws : List Way) (js : List (Constraint × Way)) → AllTest source ws js → AllByRecursion (AreFreeTests several ps) ws → AllByRecursion (λ (j : Constraint × Way). AreFreeTests several ps j.1) js
  left_free source [] [] k h = tt
  left_free source (w ∷ ws) (j ∷ js) k h = (λ e. (subst (AllByRecursion (λ (x : BindingId × Constraint). is_free (at ps x.0) ≡ true)) k.0.tests (h.0 e)).1, left_free source ws js k.1 h.1)
  left_free source [] (j ∷ js) k h = absurd k
  left_free source (w ∷ ws) [] k h = absurd k

  same_free : (c : Constraint) (js others : List (Constraint × Way)) (ws : List Way) → Parts c js ws others → AllByRecursion (λ (j : Constraint × Way). AreFreeTests several ps j.1) js → AllByRecursion (AreFreeTests several ps) ws
  same_free c js others ws none h = tt
  same_free c js others ws (same j more rest vs e k) h = (h.0, same_free c more rest vs k h.1)
  same_free c js others ws (other j more rest vs e k) h = same_free c more rest vs k h.1

  others_free : (c : Constraint) (js others : List (Constraint × Way)) (ws : List Way) → Parts c js ws others → AllByRecursion (λ (j : Constraint × Way). AreFreeTests several ps j.1) js → AllByRecursion (λ (j : Constraint × Way). AreFreeTests several ps j.1) others
  others_free c js others ws none h = tt
  others_free c js others ws (same j more rest vs e k) h = others_free c more rest vs k h.1
  others_free c js others ws (other j more rest vs e k) h = (h.0, others_free c more rest vs k h.1)

  both_after : (vs ws : List Way) (P : Way → Type 0) → AllByRecursion P (vs ++ ws) → AllByRecursion P vs × AllByRecursion P ws
  both_after [] ws P h = (tt, h)
  both_after (v ∷ vs) ws P h = let k = both_after vs ws P h.1 in ((h.0, k.0), k.1)

  pub rules_append : (vs ws : List Way) → rules_of (vs ++ ws) ≡ rules_of vs ++ rules_of ws
  rules_append [] ws = refl
  rules_append (v ∷ vs) ws = ap (λ fs. v.rule ∷ fs) (rules_append vs ws)

  -- if a way's step is a Return in a term that answers once, nothing follows it
  own_ends : (w : Way) (bound : List ℕ) (more : Block) → (several ≡ false → no_tests w.late w.rule.equals ≡ false) → IsReturn (way_step g w bound).1 → gives_several st ≡ false → more ≡ Stop
  own_ends w bound more tested = pick several refl tested
    where
      pick : (b : Bool) → several ≡ b → (b ≡ false → no_tests w.late w.rule.equals ≡ false) → IsReturn (all_matched b bs (shows found counts inners) w.late (all_equated b bs w.rule.equals (last_step b bs next items w.rule)) bound).1 → gives_several st ≡ false → more ≡ Stop
      pick true e k r a = let bad = sym a ∙ is ∙ e in absurd cc
      pick false e k r a = let bad = sym (matched_ends bs (shows found counts inners) w.late w.rule.equals (last_step false bs next items w.rule) bound r) ∙ k refl in absurd cc

  has_arm : (source : BindingId) (j : Constraint × Way) (js : List (Constraint × Way)) (bound : List ℕ) (arms : Arms) → AreTrees g source (j ∷ js) bound arms → HasArm arms
  has_arm source j js bound arms (arm source' c js' others w ws bound' body more parts tree trees) = tt

  mutual
    pub tree_good : (ws : List Way) (bound : List ℕ) (b : Block) (before : List Test) (made : List ℕ) → IsTree g ws bound b → IsWithin env ps before bound → AreAfter env t s before ws → AllByRecursion (AreFreeTests several ps) ws
        → EachOnce (occurs env ps (rules_of ws)) → AreOthers made (rules_of ws) → IsGood (rules_of ws) made bound b
    tree_good ws bound b before made (none bound') k h free apart others = record { lawful = tt; only = λ n c. inl c; loops = λ fresh. tt }
    tree_good ws bound b before made (own w vs bound' more early tested k') k h free apart others =
        let calls = occurrences env ps w.rule.ordered in
        let rest = occurs env ps (rules_of vs) in
        let step = way_step g w bound in
        let good = own_good before bound made w k h.0 early (record { once = each_first calls rest apart; apart = λ n c d. others n c (Contains-append_left calls rest n d) }) in
        let after = after_control often env ps (made ++ occurrences env ps step.0) step.1 in
        let new : AreOthers after (rules_of vs) = λ n c d. ⊎_elim (λ j. others n j (Contains-append_right calls rest n d)) (λ j. each_apart calls rest apart n j d) (good.only made (λ i j. inl j) n c) in
        let all = tree_good vs bound more before after k' k h.1 free.1 (each_second calls rest apart) new in
        record {
          lawful = (good.lawful.0, good.lawful.1, before_others step.1 st (bound_by bound step.0) (made ++ occurrences env ps step.0) more (own_ends w bound more tested) good.lawful.2, still_lawful more st bound (bound_by bound step.0) after (by_kept step.0 bound) all.lawful);
          only = λ n c. ⊎_elim
              (λ j. ⊎_elim (λ i. inl i) (λ i. inr (Contains-append_left calls rest n i)) (good.only made (λ i x. inl x) n j))
              (λ j. inr (Contains-append_right calls rest n j)) (all.only n c);
          loops = λ fresh. ((good.loops fresh).0, all.loops (without (fresh ++ map (λ (b' : BindingId). b'.0) step.0) (looped_by st step.1)));
        }
    tree_good ws bound b before made (last w vs bound' once' early late equals) k h free apart others =
        let calls = occurrences env ps w.rule.ordered in
        let rest = occurs env ps (rules_of vs) in
        let good = own_good before bound made w k h.0 early (record { once = each_first calls rest apart; apart = λ n c d. others n c (Contains-append_left calls rest n d) }) in
        record {
          lawful = good.lawful;
          only = λ n c. ⊎_elim (λ i. inl i) (λ i. inr (Contains-append_left calls rest n i)) (good.only made (λ i x. inl x) n c);
          loops = good.loops;
        }
    tree_good ws bound b before made (shared source w vs rest j js bound' arms more tests starts trees k') k h free apart others =
        let ns = source_needs g bound source in
        let parts = both_after (w ∷ vs) rest (IsAfter env t s before) h in
        let frees = both_after (w ∷ vs) rest (AreFreeTests several ps) free in
        let lefts = left_after env t s before source (w ∷ vs) (j ∷ js) tests parts.0 in
        let ready = ready_at before bound source j.0 k lefts.0.0 in
        let uncalled = needs_uncalled env ps ns ready.still in
        let rules : occurs env ps (left_of env ps (j ∷ js)) ≡ occurs env ps (rules_of (w ∷ vs)) = ap (occurs env ps) (left_rules env t s source (w ∷ vs) (j ∷ js) tests) in
        let mine = occurs env ps (rules_of (w ∷ vs)) in
        let theirs = occurs env ps (rules_of rest) in
        let all : occurs env ps (rules_of (w ∷ vs ++ rest)) ≡ mine ++ theirs = ap (occurs env ps) (rules_append (w ∷ vs) rest) ∙ occurs_append env ps (rules_of (w ∷ vs)) (rules_of rest) in
        let apart' : EachOnce (mine ++ theirs) = subst EachOnce all apart in
        let here : made ++ occurrences env ps ns ≡ made = ap (λ ks. made ++ ks) uncalled ∙ append-nil made in
        let now = arms_good source (j ∷ js) bound (bound_by bound ns) arms before made ready.over trees refl k lefts (left_free source (w ∷ vs) (j ∷ js) tests frees.0) ready.read (subst EachOnce (sym rules) (each_first mine theirs apart')) (λ n c d. others n c (subst (λ ks. Contains ks n) (sym all) (Contains-append_left mine theirs n (subst (λ ks. Contains ks n) rules d)))) in
        let after = after_control often env ps (made ++ occurrences env ps ns) (Match source arms) in
        let only : (n : ℕ) → Contains after n → IsMade made (rules_of (w ∷ vs)) n = λ n c.
        let c' : Contains (made ++ after_arms often env ps made arms) n = subst (λ ks. Contains (ks ++ after_arms often env ps ks arms) n) here c in
        ⊎_elim (λ i. inl i) (λ i. ⊎_elim (λ x. inl x) (λ x. inr (subst (λ ks. Contains ks n) rules x)) (now.only n i)) (Contains-append_cases made (after_arms often env ps made arms) n c') in
        let others' : AreOthers after (rules_of rest) = λ n c d. ⊎_elim (λ i. others n i (subst (λ ks. Contains ks n) (sym all) (Contains-append_right mine theirs n d))) (λ i. each_apart mine theirs apart' n i d) (only n c) in
        let behind = tree_good rest (bound_by bound ns) more before after k' (within_needs env ps before ns bound ready.still k) parts.1 frees.1 (each_second mine theirs apart') others' in
        record {
          lawful = (
            source_bindable bound source j.0 ready (first_free source w j.0 j.1 tests.0 frees.0.0),
            subst (AreNew made) (sym uncalled) (record { once = tt; apart = λ n c d. none_contained n d }),
            (has_arm source j js (bound_by bound ns) arms trees, (ready.over, ready.read, subst (λ ks. AreLawfulArms st (bound_by bound ns) ks source ready.over arms) (sym here) now.lawful)),
            behind.lawful,
          );
          only = λ n c. ⊎_elim
              (λ i. ⊎_elim (λ x. inl x) (λ x. inr (subst (λ ks. Contains ks n) (sym all) (Contains-append_left mine theirs n x))) (only n i))
              (λ i. inr (subst (λ ks. Contains ks n) (sym all) (Contains-append_right mine theirs n i))) (behind.only n c);
          loops = λ fresh. (now.loops (fresh ++ map (λ (b' : BindingId). b'.0) ns), behind.loops (without (fresh ++ map (λ (b' : BindingId). b'.0) ns) (looped_by st (Match source arms))));
        }

    arms_good : (source : BindingId) (js : List (Constraint × Way)) (bound inner : List ℕ) (arms : Arms) (before : List Test) (made : List ℕ) (over : Source) → AreTrees g source js inner arms → inner ≡ bound_by bound (source_needs g bound source) → IsWithin env ps before bound
        → AreLeft env t s before source js → AllByRecursion (λ (j : Constraint × Way). AreFreeTests several ps j.1) js → IsReadIn st (bound_by bound (source_needs g bound source)) source over
        → EachOnce (occurs env ps (left_of env ps js)) → AreOthers made (left_of env ps js) → AreGood source over (left_of env ps js) made inner arms
    arms_good source js bound inner arms before made over (no_arm source' bound') at_source k h free read apart others = record { lawful = tt; only = λ n c. absurd (none_contained n c); loops = λ fresh. tt }
    arms_good source js bound inner arms before made over (arm source' c js' rest w vs bound' body more parts tree trees) at_source k h free read apart others =
        let some' = some_left env t s before source c js rest w vs parts h in
        let ready = ready_at before bound source c k some'.0 in
        let places = shows found counts inners source c in
        let inside = within_arm several env t bs found counts inners next items is finds found_inners found_items found_next once typed fits before bound (source, c) k ready in
        let split = parts_once env ps c js rest (w ∷ vs) parts apart in
        let one = tree_good (w ∷ vs) (bound_within inner places) body (is_test ps (source, c) ∷ before) made tree (subst (λ now. IsWithin env ps (is_test ps (source, c) ∷ before) (bound_within now places)) (sym at_source) inside)
        (same_after env t s before source c js rest (w ∷ vs) parts h) (same_free c js rest (w ∷ vs) parts free) split.same_once (λ n i d. others n i (split.same_in n d)) in
        let all = arms_good source rest bound inner more before made over trees at_source k (others_left env t s before source c js rest (w ∷ vs) parts h) (others_free c js rest (w ∷ vs) parts free) read split.others_once (λ n i d. others n i (split.others_in n d)) in
        record {
          lawful = (over_same st (bound_by bound (source_needs g bound source)) source over ready.over c read ready.read ready.constraint', ready.places', one.lawful, all.lawful);
          only = λ n i. ⊎_elim
              (λ x. ⊎_elim (λ y. inl y) (λ y. inr (split.same_in n y)) (one.only n x))
              (λ x. ⊎_elim (λ y. inl y) (λ y. inr (split.others_in n y)) (all.only n x)) (Contains-append_cases (after_block often env ps made body) (after_arms often env ps made more) n i);
          loops = λ fresh. (one.loops fresh, all.loops fresh);
        }
