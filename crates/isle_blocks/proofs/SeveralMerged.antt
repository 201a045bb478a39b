-- Ways of a term that answers several times: what is bound before the step of one opened no list, so a late test stands within a Loop.
use Rattle.std.proofs.Common.{◌≡◌, ◌⊎◌, inl, inr, ⊎_elim, ℕ, List, [], ◌∷◌, ◌++◌, Bool, true, false, ◌&&◌, Option, Some, None, refl, sym, ap, ◌∙◌, subst, true≢false}
use Rattle.std.specs.Prelude.{slice_get, Contains}
use Rattle.std.specs.List.{AllByRecursion}
use Rattle.isle_core.specs.declared.BindingId.{BindingId}
use Rattle.isle_core.specs.declared.rule_sets.Binding.{Binding}
use Rattle.isle_core.specs.declared.rule_sets.Constraint.{Constraint}
use Rattle.isle_core.specs.declared.rule_sets.RuleSet.{RuleSet}
use Rattle.isle_core.specs.declared.types.Term.{Term}
use Rattle.isle_core.specs.ArmPlaces.{bound_within}
use Rattle.isle_core.specs.Bindable.{bound_by}
use Rattle.isle_core.specs.Block.{Control, Match, Arm, NoArm}
use Rattle.isle_core.specs.Calling.{kind_of, is_several}
use Rattle.isle_core.specs.ListOrder.{ListsWithin, AllListsWithin}
use Rattle.isle_core.specs.Path.{Path, Nowhere, Arg, ConstBool, ConstInt, ConstPrim, Extracted, Called, Chosen, MadeVariant, MadeStruct, VariantField, StructField, Wrapped, Inner, Part, Paths, NoPath, APath, at, paths_of}
use Rattle.isle_core.specs.Rule.{Environment}
use Rattle.isle_core.specs.RuleSet.{is_test}
use Rattle.isle_core.specs.Serializable.{AreTestable, IsTestable}
use Rattle.isle_core.specs.Setting.{setting}
use Rattle.isle_core.specs.StandsFor.{EachOnce}
use Rattle.isle_core.specs.Tests.{Test}
use Rattle.isle_core.proofs.Contained.{none_contained}
use Rattle.isle_blocks.specs.declared.fields.Shown.{Shown}
use Rattle.isle_blocks.specs.Fields.{FieldKey, FindsFields, shows}
use Rattle.isle_blocks.specs.Followers.{FindsInners, FindsItems}
use Rattle.isle_blocks.specs.Free.{is_free, are_free}
use Rattle.isle_blocks.specs.Needed.{list_before, needs}
use Rattle.isle_blocks.specs.Nest.{alone, open_by, opening, last_step, all_matched, all_equated}
use Rattle.isle_blocks.specs.Tree.{Way, Ground, way_step, source_needs, Tests}
use Rattle.isle_blocks.proofs.FieldPlaces.{AreFieldsTyped}
use Rattle.isle_blocks.proofs.FreeSources.{free_source}
use Rattle.isle_blocks.proofs.LawSerializable.{test_ready, within_arm}
use Rattle.isle_blocks.proofs.ListsRead.{HasOpened, opened_push, open_within}
use Rattle.isle_blocks.proofs.MadeBefore.{IsWithin, within_needs}
use Rattle.isle_blocks.proofs.NextLaws.{FindsNext}
use Rattle.isle_blocks.proofs.Openable.{AreOpenable}
use Rattle.isle_blocks.proofs.OrderedPlain.{NoItems}
use Rattle.isle_blocks.proofs.PlacesOpened.{places_opened}
use Rattle.isle_blocks.proofs.TreeMerged.{IsNoMatch, untested_no_match}
use Rattle.isle_blocks.proofs.TreeWays.{IsAfter, after_test, first_test}

-- ---- a path within which no list is opened

both_true : (a b : Bool) → a ≡ true → b ≡ true → (a && b) ≡ true
both_true true b e h = h
both_true false b e h = absurd cc

mutual
  within_free : (p : Path) → ListsWithin [] p → is_free p ≡ true
  within_free Nowhere h = refl
  within_free (Arg i) h = refl
  within_free (ConstBool ty b) h = refl
  within_free (ConstInt ty n) h = refl
  within_free (ConstPrim name) h = refl
  within_free (Extracted term p) h = within_free p h
  within_free (Called term ps instance) h = each_within_free ps h
  within_free (Chosen p) h = absurd (none_contained p h.0)
  within_free (MadeVariant ty variant ps) h = each_within_free ps h
  within_free (MadeStruct ty ps) h = each_within_free ps h
  within_free (VariantField variant field p) h = within_free p h
  within_free (StructField field p) h = within_free p h
  within_free (Wrapped p) h = within_free p h
  within_free (Inner p) h = within_free p h
  within_free (Part part p) h = within_free p h

  each_within_free : (ps : Paths) → AllListsWithin [] ps → are_free ps ≡ true
  each_within_free NoPath h = refl
  each_within_free (APath p ps) h = both_true (is_free p) (are_free ps) (within_free p h.0) (each_within_free ps h.1)

-- ---- orders

-- an order without items is bound, and one with an item becomes a Loop
no_items_or : (bs : List Binding) (order : List BindingId) (c : Control) → NoItems bs order ⊎ IsNoMatch (opening bs order c).1
no_items_or bs [] c = inl tt
no_items_or bs (b ∷ order) c = pick (list_before (slice_get bs b.0)) refl (no_items_or bs order c)
  where
    pick : (list : Option BindingId) → list_before (slice_get bs b.0) ≡ list → NoItems bs order ⊎ IsNoMatch (opening bs order c).1
        → NoItems bs (b ∷ order) ⊎ IsNoMatch (open_by list b (opening bs order c)).1
    pick (Some list) e more = inr tt
    pick None e more = ⊎_elim (λ none. inl (e, none)) (λ no_match. inr no_match) more

-- after an order without items no list was opened
plain_opens : (env : Environment) (t : Term) (bs : List Binding) (order : List BindingId) (bound : List ℕ) → HasOpened bs bound []
    → AreOpenable (setting env t bs) bound order → NoItems bs order → HasOpened bs (bound_by bound order) []
plain_opens env t bs [] bound h ready none = h
plain_opens env t bs (b ∷ order) bound h ready none =
    plain_opens env t bs order (bound ++ b.0 ∷ []) (opened_push bs bound [] b h (open_within env t bs bound [] h b (slice_get bs b.0) refl none.0 ready.0)) ready.1 none.1

-- ---- ways

module _ (env : Environment) (t : Term) (s : RuleSet) (found : FieldKey → Option BindingId) (counts : Shown → Option ℕ) (inners next items : ℕ → Option BindingId) (is : is_several (kind_of t.kind) ≡ true) (finds : FindsFields s.bindings found counts)
    (found_inners : FindsInners s.bindings inners) (found_items : FindsItems s.bindings items) (found_next : FindsNext s.bindings next) (once : EachOnce (paths_of s.bindings)) (typed : AreFieldsTyped env t s.bindings)
    (fits : (p : Path) → Contains (paths_of s.bindings) (Chosen p) → is_several (kind_of t.kind) ≡ true) where
  abbrev bs : List Binding
  bs = s.bindings

  abbrev ps : List Path
  ps = paths_of s.bindings

  abbrev pub g : Ground
  g = record { several = true; bindings = s.bindings; shows = shows found counts inners; next = next; items = items }

  -- a way after tests of free paths, where these are bound: its early tests are of free paths, its late ones are not
  pub record IsListedWay (before : List Test) (bound : List ℕ) (w : Way) : Type 0 where
    pub within : IsWithin env (paths_of s.bindings) before bound
    pub opens : HasOpened s.bindings bound []
    pub after : IsAfter env t s before w
    pub free : AllByRecursion (λ (c : BindingId × Constraint). is_free (at (paths_of s.bindings) c.0) ≡ true) w.early
    pub chosen : AllByRecursion (λ (c : BindingId × Constraint). is_free (at (paths_of s.bindings) c.0) ≡ false) w.late

  first_free : (source : BindingId) (w : Way) (c : Constraint) (left : Way) → Tests source w c left
      → AllByRecursion (λ (x : BindingId × Constraint). is_free (at (paths_of s.bindings) x.0) ≡ true) w.early
      → (is_free (at (paths_of s.bindings) source) ≡ true) × AllByRecursion (λ (x : BindingId × Constraint). is_free (at (paths_of s.bindings) x.0) ≡ true) left.early
  first_free source w c left k h = subst (AllByRecursion (λ (x : BindingId × Constraint). is_free (at ps x.0) ≡ true)) k.tests h

  -- it stays so after its first test
  pub listed_left : (before : List Test) (bound : List ℕ) (source : BindingId) (w : Way) (c : Constraint) (left : Way) → Tests source w c left
      → IsListedWay before bound w
      → IsListedWay (is_test (paths_of s.bindings) (source, c) ∷ before)
      (bound_within (bound_by bound (source_needs g bound source)) (shows found counts inners source c)) left
  listed_left before bound source w c left k h =
      let one = first_test env t s before source w c left k h.after in
      let free = first_free source w c left k h.free in
      let src = free_source env t s found counts inners next items is finds found_inners found_items found_next once typed fits before bound source c h.within h.opens one free.0 in
      let ready = test_ready true env t bs found counts inners next items is finds found_inners found_items found_next once typed fits before bound source c h.within.behind one.test one.stands in
      record {
        within = within_arm true env t bs found counts inners next items is finds found_inners found_items found_next once typed fits before bound (source, c) h.within ready;
        opens = places_opened env t bs [] source c (shows found counts inners source c) (bound_by bound (source_needs g bound source)) (ready.within [] src.opens) ready.places' src.opens;
        after = after_test env t s before source w c left k h.after;
        free = free.1;
        chosen = subst (AllByRecursion (λ (x : BindingId × Constraint). is_free (at ps x.0) ≡ false)) (sym k.late) h.chosen;
      }

  -- and where the source of another's first test may be read
  pub listed_more : (before : List Test) (bound : List ℕ) (source : BindingId) (v : Way) (c : Constraint) (left w : Way) → Tests source v c left
      → IsListedWay before bound v → IsListedWay before bound w → IsListedWay before (bound_by bound (source_needs g bound source)) w
  listed_more before bound source v c left w k one h =
      let src = free_source env t s found counts inners next items is finds found_inners found_items found_next once typed fits before bound source c h.within h.opens (first_test env t s before source v c left k one.after) (first_free source v c left k one.free).0 in
      record { within = within_needs env ps before (source_needs g bound source) bound src.still h.within; opens = src.opens; after = h.after; free = h.free; chosen = h.chosen }

  -- if its early tests are made, its step is no Match
  pub listed_no_match : (before : List Test) (bound : List ℕ) (w : Way) → IsListedWay before bound w → w.early ≡ [] → IsNoMatch (way_step g w bound).1
  listed_no_match before bound w h early = pick w.late refl h.chosen
    where
      all_late : w.early ++ w.late ≡ w.late
      all_late = ap (λ xs. xs ++ w.late) early

      pick : (cs : List (BindingId × Constraint)) → w.late ≡ cs
          → AllByRecursion (λ (c : BindingId × Constraint). is_free (at (paths_of s.bindings) c.0) ≡ false) cs
          → IsNoMatch (all_matched true s.bindings (shows found counts inners) cs (all_equated true s.bindings w.rule.equals (last_step true s.bindings next items w.rule)) bound).1
      pick [] e k = subst (λ cs. IsNoMatch (all_matched true bs (shows found counts inners) cs (all_equated true bs w.rule.equals (last_step true bs next items w.rule)) bound).1) e (untested_no_match g w bound e)
      pick (c ∷ cs) e k =
          let one : IsTestable env t ps before c = (subst (AreTestable env t ps before) (all_late ∙ e) h.after.testable).0 in
          let ns = needs bs bound (c.0 ∷ []) in
          let ready = test_ready true env t bs found counts inners next items is finds found_inners found_items found_next once typed fits before bound c.0 c.1 h.within.behind one.test one.stands in
          let now = bound_within (bound_by bound ns) (shows found counts inners c.0 c.1) in
          let inside = all_matched true bs (shows found counts inners) cs (all_equated true bs w.rule.equals (last_step true bs next items w.rule)) now in
          let control = Match c.0 (Arm c.1 (shows found counts inners c.0 c.1) (alone inside) NoArm) in
          ⊎_elim
          (λ none. absurd (true≢false (sym (within_free (at ps c.0) (ready.within [] (plain_opens env t bs ns bound h.opens ready.binds none))) ∙ k.0)))
          (λ no_match. no_match) (no_items_or bs ns control)
