-- The step of a rule that is ready is lawful.
use Rattle.std.proofs.Common.{◌≡◌, ◌⊎◌, inr, ⊎_elim, ℕ, List, [], ◌∷◌, ◌++◌, Bool, true, false, cond, Option, Some, None, map, refl, sym, ap, ◌∙◌, subst}
use Rattle.std.specs.Prelude.{Contains}
use Rattle.std.specs.List.{AllByRecursion}
use Rattle.std.proofs.lemmas.List.{append-nil}
use Rattle.std.proofs.lemmas.List.Elements.{Contains-push}
use Rattle.isle_core.specs.declared.BindingId.{BindingId}
use Rattle.isle_core.specs.declared.TypeId.{TypeId}
use Rattle.isle_core.specs.declared.rule_sets.Binding.{Binding}
use Rattle.isle_core.specs.declared.rule_sets.Constraint.{Constraint}
use Rattle.isle_core.specs.declared.rule_sets.Constraint.TheVariants as constraint
use Rattle.isle_core.specs.declared.rule_sets.FlatRule.{FlatRule}
use Rattle.isle_core.specs.declared.types.Term.{Term}
use Rattle.isle_core.specs.Calling.{kind_of, is_several}
use Rattle.isle_core.specs.Path.{Path, Nowhere, Chosen, at, paths_of}
use Rattle.isle_core.specs.PathType.{IsListOf}
use Rattle.isle_core.specs.Block.{Block, Stop, Control, Match, Equal, Loop, Return, Arm, NoArm}
use Rattle.isle_core.specs.BlockViews.{SeenStep}
use Rattle.isle_core.specs.ArmPlaces.{ArePlacesOf, bound_within}
use Rattle.isle_core.specs.Bindable.{bound_by}
use Rattle.isle_core.specs.BlockLawful.{Source, AValue, AnOption, IsReadIn, IsConstraintOver, IsLawfulControl, LoopsOnce}
use Rattle.isle_core.specs.Readable.{IsReadAs}
use Rattle.isle_core.specs.StandsFor.{EachOnce}
use Rattle.isle_core.specs.Serializable.{StandsOn, IsValueTest, IsTest, AreTestable, AreComparable, IsSerializableList, constraint_tests, IsSerializableRule}
use Rattle.isle_core.specs.Rule.{Environment}
use Rattle.isle_core.specs.RuleSet.{is_test}
use Rattle.isle_core.specs.Setting.{Setting, setting, gives_several}
use Rattle.isle_core.specs.Tests.{Test}
use Rattle.isle_core.specs.Occurrences.{AreNew, occurrences, after_control}
use Rattle.isle_core.proofs.BindingPaths.{IsThere, path_there, option_there, place_once}
use Rattle.isle_core.proofs.Contained.{none_contained, contained_cases}
use Rattle.isle_blocks.specs.Followers.{FindsInners, FindsItems}
use Rattle.isle_blocks.specs.declared.fields.Shown.{Shown}
use Rattle.isle_blocks.specs.Fields.{FieldKey, FindsFields, shows}
use Rattle.isle_blocks.specs.Needed.{is_bound, needs}
use Rattle.isle_blocks.specs.Nest.{Shows, Behind, alone, opened, binds, left_calls, left_item, items_left, left_items, last_binds, last_step, all_matched, all_equated}
use Rattle.isle_blocks.specs.Tree.{no_tests}
use Rattle.isle_blocks.proofs.Behind.{IsBehind, behind_test}
use Rattle.isle_blocks.proofs.FieldPlaces.{AreFieldsTyped, fields_lawful, inner_lawful}
use Rattle.isle_blocks.proofs.FreshLists.{needs_fresh, last_fresh, ordered_plain}
use Rattle.isle_blocks.proofs.ItemPaths.{item_path}
use Rattle.isle_core.specs.ListOrder.{ListsWithin}
use Rattle.isle_blocks.proofs.LawBinds.{last_occurrences}
use Rattle.isle_blocks.proofs.ListsRead.{HasOpened, read_within}
use Rattle.isle_blocks.proofs.OrderItems.{NeedLists, AreItemsNew}
use Rattle.isle_blocks.proofs.LawBound.{came_behind, came_holds, stands_more, binds_all, binds_still}
use Rattle.isle_blocks.proofs.MadeBefore.{IsWithin, within_needs, within_places, was_tested}
use Rattle.isle_blocks.proofs.MoreBound.{by_kept}
use Rattle.isle_blocks.proofs.NeededBound.{is_marked, all_read_as, first_read, needs_read, option_needs, IsItemReady, items_needed}
use Rattle.isle_blocks.proofs.NeededRuns.{AreStill, needs_uncalled}
use Rattle.isle_blocks.proofs.NextLaws.{FindsNext}
use Rattle.isle_blocks.proofs.Openable.{AreOpenable, openable_append}
use Rattle.isle_blocks.proofs.OpenedSteps.{Within, only_append, only_none, MakesOnly, DoesOnly, opened_only, IsLawfulAlone, opened_lawful, LoopsAlways, opened_loops}
use Rattle.isle_blocks.proofs.PushedBinds.{bound_append}
use Rattle.isle_blocks.proofs.StillRules.{StillBehind, StillLast, StillEquated, StillMatched}

-- ---- controls

-- a Return
abbrev pub IsReturn : Control → Type 0
IsReturn (Return pos result) = Unit {0}
IsReturn (Match source arms) = ⊥
IsReturn (Equal a b body) = ⊥
IsReturn (Loop result body) = ⊥

-- what is lawful alone is so before others
pub before_others : (c : Control) (s : Setting) (bound made : List ℕ) (more : Block) → (IsReturn c → gives_several s ≡ false → more ≡ Stop) → IsLawfulControl s bound made c Stop → IsLawfulControl s bound made c more
before_others (Match source arms) s bound made more ends h = h
before_others (Equal a b body) s bound made more ends h = h
before_others (Loop result body) s bound made more ends h = h
before_others (Return pos result) s bound made more ends h = (h.0, ends tt)

-- a Return goes on with what was made, or not at all
return_only : (several : Bool) (P : ℕ → Type 0) (made : List ℕ) → Within P made → Within P (cond several made [])
return_only true P made h = h
return_only false P made h = only_none P

-- a step with no test before its Return, in a term that answers once
equated_ends : (bs : List Binding) (es : List (BindingId × BindingId)) (inner : Behind) (bound : List ℕ) → IsReturn (all_equated false bs es inner bound).1 → no_tests [] es ≡ true
equated_ends bs [] inner bound h = refl
equated_ends bs (e ∷ es) inner bound h = absurd h

pub matched_ends : (bs : List Binding) (places : Shows) (cs : List (BindingId × Constraint)) (es : List (BindingId × BindingId)) (inner : Behind) (bound : List ℕ) → IsReturn (all_matched false bs places cs (all_equated false bs es inner) bound).1 → no_tests cs es ≡ true
matched_ends bs places [] es inner bound h = equated_ends bs es inner bound h
matched_ends bs places (c ∷ cs) es inner bound h = absurd h

-- a binding whose path is that of one that was bound
pub bound_has : (ps : List Path) (l : BindingId) → EachOnce ps → IsThere (at ps l) → (cs : List BindingId) (bound : List ℕ) → Contains (map (at ps) cs) (at ps l) → Contains (bound_by bound cs) l.0
bound_has ps l once there [] bound k = absurd (none_contained (at ps l) k)
bound_has ps l once there (c ∷ cs) bound k = ⊎_elim
    (λ (e : at ps c ≡ at ps l). by_kept cs (bound ++ c.0 ∷ []) l.0 (subst (Contains (bound ++ c.0 ∷ [])) (sym (place_once ps l.0 c.0 once there (sym e))) (Contains-push bound c.0)))
    (λ j. bound_has ps l once there cs (bound ++ c.0 ∷ []) j)
    (contained_cases (at ps c) (map (at ps) cs) (at ps l) k)

pub list_there : (env : Environment) (t : Term) (p : Path) (tys : List TypeId) → IsListOf env t p tys → IsThere p
list_there env t Nowhere tys h = absurd h
list_there env t p tys h = tt

-- ---- rules

-- a test that may stand after what its source is read with
pub record IsTestReady (env : Environment) (t : Term) (bs : List Binding) (bound : List ℕ) (source : BindingId) (c : Constraint) (places : List (Option BindingId)) : Type 0 where
  pub binds : AreOpenable (setting env t bs) bound (needs bs bound (source ∷ []))
  pub still : AreStill env (paths_of bs) (needs bs bound (source ∷ []))
  pub over : Source
  pub read : IsReadIn (setting env t bs) (bound_by bound (needs bs bound (source ∷ []))) source over
  pub constraint' : IsConstraintOver env c over
  pub places' : ArePlacesOf (setting env t bs) source c places
  pub there : IsThere (at (paths_of bs) source)
  pub items : (qs : List Path) → NeedLists env qs (at (paths_of bs) source) → AreItemsNew qs bs bound (needs bs bound (source ∷ []))
  pub within : (opened : List Path) → HasOpened bs (bound_by bound (needs bs bound (source ∷ []))) opened → ListsWithin opened (at (paths_of bs) source)

module _ (several : Bool) (env : Environment) (t : Term) (bs : List Binding) (found : FieldKey → Option BindingId) (counts : Shown → Option ℕ) (inners next items : ℕ → Option BindingId) (is : is_several (kind_of t.kind) ≡ several) (finds : FindsFields bs found counts)
    (found_inners : FindsInners bs inners) (found_items : FindsItems bs items) (found_next : FindsNext bs next) (once : EachOnce (paths_of bs)) (typed : AreFieldsTyped env t bs) (fits : (p : Path) → Contains (paths_of bs) (Chosen p) → is_several (kind_of t.kind) ≡ true) where
  -- ---- lists

  -- the item of a list that is no ordered call
  item_ready : (f : FlatRule) (l : BindingId) → IsSerializableList env t (constraint_tests (paths_of bs) f) (paths_of bs) (map (at (paths_of bs)) f.ordered) l → (b : Bool) → is_bound (bound_by [] f.ordered) l ≡ b → (o : Option BindingId) → items l.0 ≡ o
      → AllByRecursion (IsItemReady env t bs (constraint_tests (paths_of bs) f) [] fits) (left_item b o)
  item_ready f l h true e o k = tt
  item_ready f l h false e None k = tt
  item_ready f l h false e (Some b) k =
      let ps = paths_of bs in
      let stands = found_items.found l.0 b k in (
        record {
          source = l;
          is = stands.0;
          path = item_path bs l b stands.0 stands.1;
          below = stands.1;
          tys = h.tys;
          list = h.list;
          stands = ⊎_elim (λ j. j.1) (λ j. let marked = is_marked (bound_by [] f.ordered) l.0 (bound_has ps l once (list_there env t (at ps l) h.tys h.list) f.ordered [] j) in absurd cc) h.stands;
        },
        tt,
      )

  all_append : {A : Type 0} (P : A → Type 0) (xs ys : List A) → AllByRecursion P xs → AllByRecursion P ys → AllByRecursion P (xs ++ ys)
  all_append P [] ys h k = k
  all_append P (x ∷ xs) ys h k = (h.0, all_append P xs ys h.1 k)

  items_ready : (f : FlatRule) (ls : List BindingId) → AllByRecursion (IsSerializableList env t (constraint_tests (paths_of bs) f) (paths_of bs) (map (at (paths_of bs)) f.ordered)) ls
      → AllByRecursion (IsItemReady env t bs (constraint_tests (paths_of bs) f) [] fits) (items_left items (bound_by [] f.ordered) ls)
  items_ready f [] h = tt
  items_ready f (l ∷ ls) h =
      all_append (IsItemReady env t bs (constraint_tests (paths_of bs) f) [] fits) (left_item (is_bound (bound_by [] f.ordered) l) (items l.0)) (items_left items (bound_by [] f.ordered) ls)
      (item_ready f l h.0 (is_bound (bound_by [] f.ordered) l) refl (items l.0) refl) (items_ready f ls h.1)

  pub left_ready : (flag : Bool) (f : FlatRule) → IsSerializableRule env t (paths_of bs) f → AllByRecursion (IsItemReady env t bs (constraint_tests (paths_of bs) f) [] fits) (left_items flag items f)
  left_ready true f h = items_ready f f.iterators h.lists
  left_ready false f h = tt

  -- ---- what is read makes no impure call

  pub behind_still : (f : FlatRule) (bound : List ℕ) → IsSerializableRule env t (paths_of bs) f → IsWithin env (paths_of bs) (constraint_tests (paths_of bs) f) bound → StillBehind env bs next f bound
  behind_still f bound h k =
      let ps = paths_of bs in
      let tests = constraint_tests ps f in
      let calls = map (at ps) f.ordered in
      let all = binds_all env t bs fits tests next found_next once bound f.ordered [] bound (λ n j. j) k.behind h.calls in
      let stands = stands_more env tests calls (came_behind [] calls) (λ p j. came_holds [] calls p (inr j)) (at ps f.result) h.stands in
      let r = needs_read env t bs tests (came_behind [] calls) fits (bound_by bound (binds bs next bound (left_calls next bound f.ordered))) (f.result ∷ []) (t.ret_ty ∷ []) all.behind (h.result, tt) (stands, tt) in
      (binds_still env t bs fits tests next found_next once bound f.ordered [] bound (λ n j. j) k.behind h.calls, r.still, was_tested env bs next tests bound k.tested)

  pub last_still : (f : FlatRule) (bound : List ℕ) → IsSerializableRule env t (paths_of bs) f → IsWithin env (paths_of bs) (constraint_tests (paths_of bs) f) bound → StillLast several env bs next items f bound
  last_still f bound h k =
      let ps = paths_of bs in
      let tests = constraint_tests ps f in
      let lists = needs bs bound (left_items several items f) in
      let r = items_needed env t bs tests [] fits bound (left_items several items f) k.behind (left_ready several f h) in
      (r.still, behind_still f (bound_by bound lists) h (within_needs env ps tests lists bound r.still k))

  -- ---- steps

  -- an impure call that was made before, or is the rule's
  abbrev pub OfRule : FlatRule → List ℕ → ℕ → Type 0
  OfRule f made k = Contains made k ⊎ Contains (occurrences env (paths_of bs) f.ordered) k

  -- it is lawful, makes no impure call but those of the rule, and loops over each list once
  pub record IsGoodStep (f : FlatRule) (made bound : List ℕ) (step : SeenStep) : Type 0 where
    pub lawful : IsLawfulAlone (setting env t bs) bound made step
    pub only : MakesOnly (is_several (kind_of t.kind)) env (paths_of bs) (OfRule f made) step
    pub loops : (fresh : List ℕ) → LoopsOnce (setting env t bs) fresh (alone step)

  -- the step of what is read, before what is done then
  good_needs : (f : FlatRule) (made bound : List ℕ) (reads : List BindingId) (c : Control) → AreOpenable (setting env t bs) bound (needs bs bound reads) → AreStill env (paths_of bs) (needs bs bound reads)
      → IsLawfulControl (setting env t bs) (bound_by bound (needs bs bound reads)) made c Stop → DoesOnly (is_several (kind_of t.kind)) env (paths_of bs) (OfRule f made) c → LoopsAlways (setting env t bs) c
      → IsGoodStep f made bound (opened several bs (needs bs bound reads) c)
  good_needs f made bound reads c binds still lawful only loops =
      let s = setting env t bs in
      let ps = paths_of bs in
      let ns = needs bs bound reads in
      let none = needs_uncalled env ps ns still in
      let here : IsLawfulControl s (bound_by bound ns) (made ++ occurrences env ps ns) c Stop = subst (λ ks. IsLawfulControl s (bound_by bound ns) ks c Stop) (sym (ap (λ ks. made ++ ks) none ∙ append-nil made)) lawful in
      let new : AreNew made (occurrences env ps ns) = subst (AreNew made) (sym none) (record { once = tt; apart = λ k c d. absurd (none_contained k d) }) in
      record {
        lawful = opened_lawful s several is ns c bound made binds new here;
        only = opened_only (is_several (kind_of t.kind)) env bs ps (OfRule f made) several ns c (subst (Within (OfRule f made)) (sym none) (only_none (OfRule f made))) only;
        loops = opened_loops s several ns c (needs_fresh bs bound reads) loops;
      }

  -- impure calls that a rule may make
  abbrev pub IsNewTo : FlatRule → List ℕ → Type 0
  IsNewTo f made = AreNew made (occurrences env (paths_of bs) f.ordered)

  pub last_good : (f : FlatRule) (made bound : List ℕ) → IsSerializableRule env t (paths_of bs) f → IsNewTo f made → IsWithin env (paths_of bs) (constraint_tests (paths_of bs) f) bound → IsGoodStep f made bound (last_step several bs next items f bound)
  last_good f made bound h new k =
      let s = setting env t bs in
      let ps = paths_of bs in
      let tests = constraint_tests ps f in
      let calls = map (at ps) f.ordered in
      let lists = needs bs bound (left_items several items f) in
      let first = items_needed env t bs tests [] fits bound (left_items several items f) k.behind (left_ready several f h) in
      let within = bound_by bound lists in
      let k' = within_needs env ps tests lists bound first.still k in
      let order = binds bs next within (left_calls next within f.ordered) in
      let behind = bound_by within order in
      let ns = needs bs behind (f.result ∷ []) in
      let all = binds_all env t bs fits tests next found_next once within f.ordered [] within (λ n j. j) k'.behind h.calls in
      let stands = stands_more env tests calls (came_behind [] calls) (λ p j. came_holds [] calls p (inr j)) (at ps f.result) h.stands in
      let r = needs_read env t bs tests (came_behind [] calls) fits behind (f.result ∷ []) (t.ret_ty ∷ []) all.behind (h.result, tt) (stands, tt) in
      let read : IsReadAs s (bound_by behind ns) f.result t.ret_ty = record { path = h.result; read = first_read s (bound_by behind ns) r.read } in
      let whole = last_binds several bs next items bound f in
      let here : IsReadAs s (bound_by bound whole) f.result t.ret_ty = subst (λ m. IsReadAs s m f.result t.ret_ty) (sym (bound_append bound lists (order ++ ns) ∙ bound_append within order ns)) read in
      let made_of = last_occurrences several env bs next items found_next f bound (last_still f bound h k) in
      record {
        lawful = opened_lawful s several is whole (Return f.pos f.result) bound made (openable_append s lists (order ++ ns) bound first.binds (openable_append s order ns within all.bindable r.binds)) (subst (AreNew made) (sym made_of) new) (here, λ e. refl);
        only = opened_only (is_several (kind_of t.kind)) env bs ps (OfRule f made) several whole (Return f.pos f.result) (subst (Within (OfRule f made)) (sym made_of) (λ n c. inr c)) (λ ks w. return_only (is_several (kind_of t.kind)) (OfRule f made) ks w);
        loops = opened_loops s several whole (Return f.pos f.result) (last_fresh several bs next items found_next f bound (ordered_plain env t tests bs f.ordered h.calls)) (λ fresh. tt);
      }

  -- what stands inside tests, after which these are bound
  abbrev pub IsGoodBehind : FlatRule → List ℕ → List Test → Behind → Type 0
  IsGoodBehind f made tests inner = (bound : List ℕ) → IsWithin env (paths_of bs) tests bound → IsGoodStep f made bound (inner bound)

  -- a step that goes on alone
  alone_only : (f : FlatRule) (made bound : List ℕ) (step : SeenStep) → IsGoodStep f made bound step → DoesOnly (is_several (kind_of t.kind)) env (paths_of bs) (OfRule f made) (Equal (record { 0 = 0 }) (record { 0 = 0 }) (alone step))
  alone_only f made bound step h ks w = only_append (OfRule f made) ks (after_control (is_several (kind_of t.kind)) env (paths_of bs) (ks ++ occurrences env (paths_of bs) step.0) step.1) w (h.only ks w)

  -- equalities round it
  pub equated_good : (f : FlatRule) (made : List ℕ) (es : List (BindingId × BindingId)) (last : Behind) (tests : List Test) (bound : List ℕ) → IsWithin env (paths_of bs) tests bound → AllByRecursion (AreComparable env t (paths_of bs) tests) es → IsGoodBehind f made tests last
      → IsGoodStep f made bound (all_equated several bs es last bound)
  equated_good f made [] last tests bound k h l = l bound k
  equated_good f made (e ∷ es) last tests bound k h l =
      let one : AreComparable env t (paths_of bs) tests e = h.0 in
      let reads = e.0 ∷ e.1 ∷ [] in
      let ns = needs bs bound reads in
      let behind = bound_by bound ns in
      let all = needs_read env t bs tests [] fits bound reads (one.ty ∷ one.ty ∷ []) k.behind (one.left, (one.right, tt)) (one.left_stands, (one.right_stands, tt)) in
      let read = all_read_as (setting env t bs) behind (one.ty ∷ one.ty ∷ []) (one.left, (one.right, tt)) all.read in
      let body = equated_good f made es last tests behind (within_needs env (paths_of bs) tests ns bound all.still k) h.1 l in
      good_needs f made bound reads (Equal e.0 e.1 (alone (all_equated several bs es last behind))) all.binds all.still ((one.ty, read.0, read.1.0), body.lawful) (alone_only f made behind (all_equated several bs es last behind) body) body.loops

  -- what they are read with
  pub equated_still : (es : List (BindingId × BindingId)) (P : List ℕ → Type 0) (tests : List Test) (bound : List ℕ) → IsWithin env (paths_of bs) tests bound → AllByRecursion (AreComparable env t (paths_of bs) tests) es
      → ((within : List ℕ) → IsWithin env (paths_of bs) tests within → P within) → StillEquated env bs es P bound
  equated_still [] P tests bound k h l = l bound k
  equated_still (e ∷ es) P tests bound k h l =
      let one : AreComparable env t (paths_of bs) tests e = h.0 in
      let reads = e.0 ∷ e.1 ∷ [] in
      let ns = needs bs bound reads in
      let all = needs_read env t bs tests [] fits bound reads (one.ty ∷ one.ty ∷ []) k.behind (one.left, (one.right, tt)) (one.left_stands, (one.right_stands, tt)) in
      (all.still, equated_still es P tests (bound_by bound ns) (within_needs env (paths_of bs) tests ns bound all.still k) h.1 l)

  -- ---- constraints

  value_ready : (tests : List Test) (bound : List ℕ) (source : BindingId) (c : Constraint) → IsBehind (paths_of bs) tests [] bound → IsValueTest env t (at (paths_of bs) source) c → StandsOn env tests [] (at (paths_of bs) source)
      → IsTestReady env t bs bound source c (shows found counts inners source c)
  value_ready tests bound source c k h st =
      let s = setting env t bs in
      let r = needs_read env t bs tests [] fits bound (source ∷ []) (h.ty ∷ []) k (h.path, tt) (st, tt) in
      record {
        binds = r.binds;
        still = r.still;
        over = AValue h.ty;
        read = record { path = h.path; read = first_read s (bound_by bound (needs bs bound (source ∷ []))) r.read };
        constraint' = h.constraint;
        places' = fields_lawful env t bs found counts inners finds typed source c h.ty h.path h.constraint;
        there = path_there env t (at (paths_of bs) source) h.ty h.path;
        items = λ qs lists. r.items qs (lists, tt);
        within = λ opened ready. read_within env t bs (bound_by bound (needs bs bound (source ∷ []))) opened ready (first_read s (bound_by bound (needs bs bound (source ∷ []))) r.read) h.ty h.path;
      }

  pub test_ready : (tests : List Test) (bound : List ℕ) (source : BindingId) (c : Constraint) → IsBehind (paths_of bs) tests [] bound → IsTest env t (at (paths_of bs) source) c → StandsOn env tests [] (at (paths_of bs) source)
      → IsTestReady env t bs bound source c (shows found counts inners source c)
  test_ready tests bound source constraint.Some k h st =
      let r = option_needs env t bs tests [] fits bound source h.0 k h.1 st in
      record {
        binds = r.binds;
        still = r.still;
        over = AnOption h.0;
        read = record { path = h.1; bound' = r.there };
        constraint' = refl;
        places' = inner_lawful env t bs inners found_inners source;
        there = option_there env t (at (paths_of bs) source) h.0 h.1;
        items = λ qs lists. r.items qs lists;
        within = λ opened ready. ready.within source r.there;
      }
  test_ready tests bound source (constraint.ConstBool val) k h st = value_ready tests bound source (constraint.ConstBool val) k h st
  test_ready tests bound source (constraint.ConstInt val of) k h st = value_ready tests bound source (constraint.ConstInt val of) k h st
  test_ready tests bound source (constraint.ConstPrim val) k h st = value_ready tests bound source (constraint.ConstPrim val) k h st
  test_ready tests bound source (constraint.Variant of variant) k h st = value_ready tests bound source (constraint.Variant of variant) k h st
  test_ready tests bound source (constraint.Struct of) k h st = value_ready tests bound source (constraint.Struct of) k h st

  -- what is bound within the arm of a test
  pub within_arm : (tests : List Test) (bound : List ℕ) (c : BindingId × Constraint) → IsWithin env (paths_of bs) tests bound → (ready : IsTestReady env t bs bound c.0 c.1 (shows found counts inners c.0 c.1))
      → IsWithin env (paths_of bs) (is_test (paths_of bs) c ∷ tests) (bound_within (bound_by bound (needs bs bound (c.0 ∷ []))) (shows found counts inners c.0 c.1))
  within_arm tests bound c k ready =
      let ps = paths_of bs in
      let ns = needs bs bound (c.0 ∷ []) in
      let behind = bound_by bound ns in
      let grown = within_needs env ps tests ns bound ready.still k in
      let shown = behind_test bs found counts inners finds found_inners once tests behind c ready.there grown.behind in
      within_places env t bs found counts inners found_inners tests behind c.0 c.1 ready.places' grown shown

  -- and constraints round these
  pub matched_good : (f : FlatRule) (made : List ℕ) (cs : List (BindingId × Constraint)) (inner : Behind) (tests : List Test) (bound : List ℕ) → IsWithin env (paths_of bs) tests bound → AreTestable env t (paths_of bs) tests cs
      → IsGoodBehind f made (came_behind tests (map (is_test (paths_of bs)) cs)) inner → IsGoodStep f made bound (all_matched several bs (shows found counts inners) cs inner bound)
  matched_good f made [] inner tests bound k h l = l bound k
  matched_good f made (c ∷ cs) inner tests bound k h l =
      let ps = paths_of bs in
      let ns = needs bs bound (c.0 ∷ []) in
      let places = shows found counts inners c.0 c.1 in
      let within = bound_within (bound_by bound ns) places in
      let ready = test_ready tests bound c.0 c.1 k.behind h.0.test h.0.stands in
      let step = all_matched several bs (shows found counts inners) cs inner within in
      let body = matched_good f made cs inner (is_test ps c ∷ tests) within (within_arm tests bound c k ready) h.1 l in
      good_needs f made bound (c.0 ∷ []) (Match c.0 (Arm c.1 places (alone step) NoArm)) ready.binds ready.still (tt, (ready.over, ready.read, (ready.constraint', ready.places', body.lawful, tt)))
      (λ ks w. only_append (OfRule f made) ks (after_control (is_several (kind_of t.kind)) env ps (ks ++ occurrences env ps step.0) step.1 ++ []) w (only_append (OfRule f made) (after_control (is_several (kind_of t.kind)) env ps (ks ++ occurrences env ps step.0) step.1) [] (body.only ks w) (only_none (OfRule f made))))
      (λ fresh. (body.loops fresh, tt))

  -- what constraints are read with
  pub matched_still : (cs : List (BindingId × Constraint)) (P : List ℕ → Type 0) (tests : List Test) (bound : List ℕ) → IsWithin env (paths_of bs) tests bound → AreTestable env t (paths_of bs) tests cs
      → ((within : List ℕ) → IsWithin env (paths_of bs) (came_behind tests (map (is_test (paths_of bs)) cs)) within → P within) → StillMatched env bs (shows found counts inners) cs P bound
  matched_still [] P tests bound k h l = l bound k
  matched_still (c ∷ cs) P tests bound k h l =
      let ready = test_ready tests bound c.0 c.1 k.behind h.0.test h.0.stands in
      (ready.still, matched_still cs P (is_test (paths_of bs) c ∷ tests) (bound_within (bound_by bound (needs bs bound (c.0 ∷ []))) (shows found counts inners c.0 c.1)) (within_arm tests bound c k ready) h.1 l)
