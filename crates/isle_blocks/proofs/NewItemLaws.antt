-- The Loops of a chain of ready rules go through new items.
use Rattle.std.proofs.Common.{◌≡◌, inr, ⊎_elim, ℕ, zero, suc, List, [], ◌∷◌, ◌++◌, Bool, true, false, Option, Some, None, map, refl, sym, ◌∙◌, subst}
use Rattle.std.specs.Prelude.{Contains, unwrap_or}
use Rattle.std.specs.List.{AllByRecursion}
use Rattle.isle_core.specs.declared.BindingId.{BindingId}
use Rattle.isle_core.specs.declared.rule_sets.Binding.{Binding}
use Rattle.isle_core.specs.declared.rule_sets.Constraint.{Constraint}
use Rattle.isle_core.specs.declared.rule_sets.Constraint.TheVariants as constraint
use Rattle.isle_core.specs.declared.rule_sets.FlatRule.{FlatRule}
use Rattle.isle_core.specs.declared.types.Term.{Term}
use Rattle.isle_core.specs.ArmPlaces.{bound_within}
use Rattle.isle_core.specs.Bindable.{bound_by}
use Rattle.isle_core.specs.Block.{Match, Equal, Return, Arm, NoArm}
use Rattle.isle_core.specs.Calling.{kind_of, is_several}
use Rattle.isle_core.specs.HoldsImpure.{holds_impure}
use Rattle.isle_core.specs.Path.{Path, Chosen, at, at_all, paths_of}
use Rattle.isle_core.specs.Rule.{Environment}
use Rattle.isle_core.specs.Serializable.{StandsOn, IsTest, AreTestable, AreComparable, IsSerializableList, constraint_tests, IsSerializableRule}
use Rattle.isle_core.specs.RuleSet.{is_test}
use Rattle.isle_core.specs.Setting.{setting}
use Rattle.isle_core.specs.StandsFor.{EachOnce}
use Rattle.isle_core.specs.Tests.{Test}
use Rattle.isle_core.proofs.Contained.{none_contained}
use Rattle.isle_blocks.specs.CallsOnce.{HasCallsOnce}
use Rattle.isle_blocks.specs.declared.fields.Shown.{Shown}
use Rattle.isle_blocks.specs.declared.fields.Shown.TheVariants as shown
use Rattle.isle_blocks.specs.Fields.{FieldKey, FindsFields, first_places, inner_place, shows}
use Rattle.isle_blocks.specs.Followers.{FindsInners, FindsItems}
use Rattle.isle_blocks.specs.Needed.{is_bound, needs}
use Rattle.isle_blocks.specs.Nest.{Behind, alone, binds, left_calls, left_item, items_left, left_items, last_binds, last_step, all_matched, all_equated}
use Rattle.isle_blocks.proofs.CalledItems.{OfAny, once_left, AreEarly, early_needs, IsPlainPlace, early_within, behind_start, binds_anew}
use Rattle.isle_blocks.proofs.ItemPaths.{item_path}
use Rattle.isle_blocks.proofs.LawBound.{came_behind, came_holds, stands_more}
use Rattle.isle_blocks.proofs.LawSerializable.{bound_has, list_there}
use Rattle.isle_blocks.proofs.NeededBound.{is_marked}
use Rattle.isle_blocks.proofs.NeededItems.{anew_append, anew_more, IsNeedable, AreNeedable, path_needable, list_needable, option_needable, needs_anew}
use Rattle.isle_blocks.proofs.NextLaws.{FindsNext}
use Rattle.isle_blocks.proofs.OpenedItems.{covers_within, IsNewStep, opened_new}

-- ---- places

places_append : (bs : List Binding) (xs ys : List (Option BindingId)) → AllByRecursion (IsPlainPlace bs) xs → AllByRecursion (IsPlainPlace bs) ys → AllByRecursion (IsPlainPlace bs) (xs ++ ys)
places_append bs [] ys h k = k
places_append bs (x ∷ xs) ys h k = (h.0, places_append bs xs ys h.1 k)

-- neither a field nor an inner value is an item
pub shows_plain : (bs : List Binding) (found : FieldKey → Option BindingId) (counts : Shown → Option ℕ) (inners : ℕ → Option BindingId) → FindsFields bs found counts → FindsInners bs inners → (source : BindingId) (c : Constraint) → AllByRecursion (IsPlainPlace bs) (shows found counts inners source c)
shows_plain bs found counts inners f g source c = by_form c
  where
    field_plain : (s : Shown) (field : ℕ) (o : Option BindingId) → found (s, field) ≡ o → IsPlainPlace bs o
    field_plain s field None e = tt
    field_plain (shown.Variant from variant) field (Some b) e = λ list is. (let bad = sym (f.is_field (shown.Variant from variant) field b e).0 ∙ is in cc)
    field_plain (shown.Struct from) field (Some b) e = λ list is. (let bad = sym (f.is_field (shown.Struct from) field b e).0 ∙ is in cc)

    fields_plain : (s : Shown) (n : ℕ) → AllByRecursion (IsPlainPlace bs) (first_places (λ field. found (s, field)) n)
    fields_plain s zero = tt
    fields_plain s (suc n) = places_append bs (first_places (λ field. found (s, field)) n) (found (s, n) ∷ []) (fields_plain s n) (field_plain s n (found (s, n)) refl, tt)

    inner_plain : (o : Option BindingId) → inners source.0 ≡ o → AllByRecursion (IsPlainPlace bs) (inner_place o)
    inner_plain None e = tt
    inner_plain (Some b) e = (λ list is. (let bad = sym (g.found source.0 b e).0 ∙ is in cc), tt)

    by_form : (d : Constraint) → AllByRecursion (IsPlainPlace bs) (shows found counts inners source d)
    by_form constraint.Some = inner_plain (inners source.0) refl
    by_form (constraint.Variant ty variant) = fields_plain (shown.Variant source variant) (unwrap_or (counts (shown.Variant source variant)) 0)
    by_form (constraint.Struct ty) = fields_plain (shown.Struct source) (unwrap_or (counts (shown.Struct source)) 0)
    by_form (constraint.ConstBool val) = tt
    by_form (constraint.ConstInt val ty) = tt
    by_form (constraint.ConstPrim val) = tt

-- ---- what is read

-- what is tested may be needed
pub test_needable : (env : Environment) (t : Term) (tests : List Test) (p : Path) (c : Constraint) → IsTest env t p c → StandsOn env tests [] p → IsNeedable env [] p
test_needable env t tests p constraint.Some h st = option_needable env t tests [] p h.0 h.1 st
test_needable env t tests p (constraint.ConstBool val) h st = path_needable env t tests [] p h.ty h.path st
test_needable env t tests p (constraint.ConstInt val of) h st = path_needable env t tests [] p h.ty h.path st
test_needable env t tests p (constraint.ConstPrim val) h st = path_needable env t tests [] p h.ty h.path st
test_needable env t tests p (constraint.Variant of variant) h st = path_needable env t tests [] p h.ty h.path st
test_needable env t tests p (constraint.Struct of) h st = path_needable env t tests [] p h.ty h.path st

needable_append : (env : Environment) (ps done : List Path) (xs ys : List BindingId) → AreNeedable env done (at_all ps xs) → AreNeedable env done (at_all ps ys) → AreNeedable env done (at_all ps (xs ++ ys))
needable_append env ps done [] ys h k = k
needable_append env ps done (x ∷ xs) ys h k = (h.0, needable_append env ps done xs ys h.1 k)

-- ---- rules

module _ (several : Bool) (env : Environment) (t : Term) (bs : List Binding) (found : FieldKey → Option BindingId) (counts : Shown → Option ℕ) (inners next items : ℕ → Option BindingId) (is : is_several (kind_of t.kind) ≡ several) (finds : FindsFields bs found counts)
    (found_inners : FindsInners bs inners) (found_items : FindsItems bs items) (found_next : FindsNext bs next) (once : EachOnce (paths_of bs)) (fits : (p : Path) → Contains (paths_of bs) (Chosen p) → is_several (kind_of t.kind) ≡ true) where
  -- the term answers several times
  abbrev Several : Type 0
  Several = is_several (kind_of t.kind) ≡ true

  -- the items of lists that are no ordered calls may be needed
  item_needable : (f : FlatRule) (l : BindingId) → IsSerializableList env t (constraint_tests (paths_of bs) f) (paths_of bs) (map (at (paths_of bs)) f.ordered) l → (b : Bool) → is_bound (bound_by [] f.ordered) l ≡ b → (o : Option BindingId) → items l.0 ≡ o
      → AreNeedable env [] (at_all (paths_of bs) (left_item b o))
  item_needable f l h true e o k = tt
  item_needable f l h false e None k = tt
  item_needable f l h false e (Some b) k =
      let ps = paths_of bs in
      let stands = found_items.found l.0 b k in
      ⊎_elim
      (λ j. (subst (IsNeedable env []) (sym (item_path bs l b stands.0 stands.1)) (list_needable env t (constraint_tests ps f) [] (at ps l) h.tys h.list j.1, λ late. (let bad = sym late ∙ j.0 in absurd cc)), tt))
      (λ j. let marked = is_marked (bound_by [] f.ordered) l.0 (bound_has ps l once (list_there env t (at ps l) h.tys h.list) f.ordered [] j) in absurd cc) h.stands

  items_needable : (f : FlatRule) (ls : List BindingId) → AllByRecursion (IsSerializableList env t (constraint_tests (paths_of bs) f) (paths_of bs) (map (at (paths_of bs)) f.ordered)) ls → AreNeedable env [] (at_all (paths_of bs) (items_left items (bound_by [] f.ordered) ls))
  items_needable f [] h = tt
  items_needable f (l ∷ ls) h =
      needable_append env (paths_of bs) [] (left_item (is_bound (bound_by [] f.ordered) l) (items l.0)) (items_left items (bound_by [] f.ordered) ls)
      (item_needable f l h.0 (is_bound (bound_by [] f.ordered) l) refl (items l.0) refl) (items_needable f ls h.1)

  left_needable : (flag : Bool) (f : FlatRule) → IsSerializableRule env t (paths_of bs) f → AreNeedable env [] (at_all (paths_of bs) (left_items flag items f))
  left_needable true f h = items_needable f f.iterators h.lists
  left_needable false f h = tt

  -- ---- steps

  pub last_new : (f : FlatRule) (bound : List ℕ) → IsSerializableRule env t (paths_of bs) f → (Several → HasCallsOnce env (paths_of bs) f) → AreEarly env bs [] bound → IsNewStep (setting env t bs) bound (last_step several bs next items f bound)
  last_new f bound h calls early =
      let ps = paths_of bs in
      let tests = constraint_tests ps f in
      let made = came_behind [] (map (at ps) f.ordered) in
      let lists = needs bs bound (left_items several items f) in
      let first = needs_anew env bs [] [] bound (left_items several items f) (behind_start ps bound) (left_needable several f h) in
      let within = bound_by bound lists in
      let order = binds bs next within (left_calls next within f.ordered) in
      let left = λ (several' : Several). once_left [] (map (at ps) f.ordered) (calls several').once (λ p k j. none_contained p k) in
      let all = binds_anew env t bs tests next found_next once within f.ordered [] within (λ n j. j) (behind_start ps within) (early_needs env bs [] lists bound first early) left (λ several'. (calls several').late) h.calls in
      let behind = bound_by within order in
      let ns = needs bs behind (f.result ∷ []) in
      let stands = stands_more env tests (map (at ps) f.ordered) made (λ p j. came_holds [] (map (at ps) f.ordered) p (inr j)) (at ps f.result) h.stands in
      let last = needs_anew env bs made [] behind (f.result ∷ []) all.behind (path_needable env t tests made (at ps f.result) t.ret_ty h.result stands, tt) in
      opened_new (setting env t bs) once fits OfAny several is (last_binds several bs next items bound f) (Return f.pos f.result) bound
      (anew_append OfAny bs lists (order ++ ns) bound (anew_more (λ p. holds_impure env p ≡ false) OfAny bs lists bound (λ p e. tt) first) (anew_append OfAny bs order ns within all.items (anew_more (λ p. holds_impure env p ≡ false) OfAny bs ns behind (λ p e. tt) last)))
      (λ more cover. tt)

  -- what stands inside tests
  abbrev IsNewBehind : Behind → Type 0
  IsNewBehind inner = (bound : List ℕ) → AreEarly env bs [] bound → IsNewStep (setting env t bs) bound (inner bound)

  -- equalities round it
  pub equated_new : (es : List (BindingId × BindingId)) (inner : Behind) (tests : List Test) (bound : List ℕ) → AreEarly env bs [] bound → AllByRecursion (AreComparable env t (paths_of bs) tests) es → IsNewBehind inner → IsNewStep (setting env t bs) bound (all_equated several bs es inner bound)
  equated_new [] inner tests bound early h k = k bound early
  equated_new (e ∷ es) inner tests bound early h k =
      let ps = paths_of bs in
      let one : AreComparable env t ps tests e = h.0 in
      let reads = e.0 ∷ e.1 ∷ [] in
      let ns = needs bs bound reads in
      let behind = bound_by bound ns in
      let need = needs_anew env bs [] [] bound reads (behind_start ps bound) (path_needable env t tests [] (at ps e.0) one.ty one.left one.left_stands, (path_needable env t tests [] (at ps e.1) one.ty one.right one.right_stands, tt)) in
      let body = equated_new es inner tests behind (early_needs env bs [] ns bound need early) h.1 k in
      opened_new (setting env t bs) once fits (λ p. holds_impure env p ≡ false) several is ns (Equal e.0 e.1 (alone (all_equated several bs es inner behind))) bound need (λ more cover. body.items more cover)

  -- and constraints round these
  pub matched_new : (cs : List (BindingId × Constraint)) (inner : Behind) (tests : List Test) (bound : List ℕ) → AreEarly env bs [] bound → AreTestable env t (paths_of bs) tests cs → IsNewBehind inner → IsNewStep (setting env t bs) bound (all_matched several bs (shows found counts inners) cs inner bound)
  matched_new [] inner tests bound early h k = k bound early
  matched_new (c ∷ cs) inner tests bound early h k =
      let ps = paths_of bs in
      let ns = needs bs bound (c.0 ∷ []) in
      let behind = bound_by bound ns in
      let places = shows found counts inners c.0 c.1 in
      let need = needs_anew env bs [] [] bound (c.0 ∷ []) (behind_start ps bound) (test_needable env t tests (at ps c.0) c.1 h.0.test h.0.stands, tt) in
      let within = bound_within behind places in
      let body = matched_new cs inner (is_test ps c ∷ tests) within (early_within env bs [] places behind (shows_plain bs found counts inners finds found_inners c.0 c.1) (early_needs env bs [] ns bound need early)) h.1 k in
      opened_new (setting env t bs) once fits (λ p. holds_impure env p ≡ false) several is ns (Match c.0 (Arm c.1 places (alone (all_matched several bs (shows found counts inners) cs inner within)) NoArm)) bound need
      (λ more cover. (body.items (bound_within more places) (covers_within bs places behind more cover), tt))
