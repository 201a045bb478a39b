-- The lists within what is read: their items were opened.
use Rattle.std.proofs.Common.{◌≡◌, ⊎_elim, ℕ, List, [], ◌∷◌, ◌++◌, false, Option, Some, None, take, refl, sym, ap, ◌∙◌, subst}
use Rattle.std.specs.Prelude.{slice_get, IsSomeAnd, Contains}
use Rattle.std.specs.List.{AllByRecursion}
use Rattle.std.proofs.lemmas.List.Elements.{Contains-push, Contains-push_cases, Contains-append_left}
use Rattle.isle_core.specs.declared.BindingId.{BindingId}
use Rattle.isle_core.specs.declared.TypeId.{TypeId}
use Rattle.isle_core.specs.declared.rule_sets.Binding.{Binding}
use Rattle.isle_core.specs.declared.rule_sets.Binding.TheVariants as binding
use Rattle.isle_core.specs.declared.types.Term.{Term}
use Rattle.isle_core.specs.Bindable.{bound_by}
use Rattle.isle_core.specs.Calling.{Calling, ByTurns, ByCases, NoCall, calling}
use Rattle.isle_core.specs.Form.{Form, form, form_types}
use Rattle.isle_core.specs.HoldsImpure.{holds_impure}
use Rattle.isle_core.specs.Making.{MakesVariant, MakesStruct}
use Rattle.isle_core.specs.Path.{Path, Called, Chosen, Inner, MadeVariant, MadeStruct, VariantField, StructField, Extracted, Wrapped, Part, Paths, NoPath, APath, at, at_all, path_over, paths_of}
use Rattle.isle_core.specs.PathType.{IsPathOf, ArePathsOf}
use Rattle.isle_core.specs.Readable.{IsReadable, is_bound, argument, truth, number, named, made_variant, made_struct, AreReadable, none_read, one_read, AreReadAs}
use Rattle.isle_core.specs.Rule.{Environment}
use Rattle.isle_core.specs.Serializable.{StandsOn, AllStandOn, StandsCalled}
use Rattle.isle_core.specs.Setting.{setting}
use Rattle.isle_core.specs.StandsFor.{EachOnce}
use Rattle.isle_core.specs.Tests.{Test}
use Rattle.isle_core.proofs.BindingPaths.{IsThere, at_before, path_at, place_once, typed_parts}
use Rattle.isle_core.specs.ListOrder.{ListsWithin, AllListsWithin, AreListsInOrder}
use Rattle.isle_core.proofs.TakenItems.{by_truth}
use Rattle.isle_blocks.specs.Needed.{list_before}
use Rattle.isle_blocks.proofs.Behind.{none_in, cons_cases, cons_here, cons_later}
use Rattle.isle_blocks.proofs.LawBound.{came_behind}
use Rattle.isle_blocks.proofs.Openable.{IsOpenable, AreOpenable}
use Rattle.isle_blocks.proofs.OrderItems.{NeedCalled, NeedLists, AllNeedLists, AreItemsNew}

-- ---- lists within paths

mutual
  pub lists_more : (p : Path) (before more : List Path) → ((q : Path) → Contains before q → Contains more q) → ListsWithin before p → ListsWithin more p
  lists_more (Chosen p) before more k h = (k p h.0, lists_more p before more k h.1)
  lists_more (Called term ps i) before more k h = all_lists_more ps before more k h
  lists_more (Inner p) before more k h = lists_more p before more k h
  lists_more (MadeVariant ty variant ps) before more k h = all_lists_more ps before more k h
  lists_more (MadeStruct ty ps) before more k h = all_lists_more ps before more k h
  lists_more (VariantField variant i p) before more k h = lists_more p before more k h
  lists_more (StructField i p) before more k h = lists_more p before more k h
  lists_more (Extracted term p) before more k h = lists_more p before more k h
  lists_more (Wrapped p) before more k h = lists_more p before more k h
  lists_more (Part i p) before more k h = lists_more p before more k h
  lists_more p before more k h = tt

  pub all_lists_more : (ps : Paths) (before more : List Path) → ((q : Path) → Contains before q → Contains more q) → AllListsWithin before ps → AllListsWithin more ps
  all_lists_more NoPath before more k h = tt
  all_lists_more (APath p ps) before more k h = (lists_more p before more k h.0, all_lists_more ps before more k h.1)

-- what is needed for a path that stands there: a list that holds no impure call, or one whose call was made
module _ (env : Environment) (tests : List Test) (done all qs : List Path) (early : (q : Path) → Contains all q → holds_impure env q ≡ false → Contains qs q) (late : (q : Path) → Contains done q → Contains qs q) where
  called_needed : (c : Calling) (X Y Z : Type 0) → (Y → Z) → StandsCalled c X Y → NeedCalled c Z
  called_needed (ByTurns callee kind) X Y Z f h = tt
  called_needed (ByCases callee kind) X Y Z f h = f h
  called_needed NoCall X Y Z f h = absurd h

  mutual
    pub need_lists : (p : Path) → StandsOn env tests done p → ListsWithin all p → NeedLists env qs p
    need_lists (Chosen p) st h = (by_truth (holds_impure env p) (λ yes. late p (st.1 yes)) (λ fails. early p h.0 fails), need_lists p st.0 h.1)
    need_lists (Called term ps i) st h = called_needed (calling env term) (Contains done (Called term ps i)) (AllStandOn env tests done ps) (AllNeedLists env qs ps) (λ each. all_need_lists ps each h) st
    need_lists (MadeVariant ty variant ps) st h = all_need_lists ps st h
    need_lists (MadeStruct ty ps) st h = all_need_lists ps st h
    need_lists (Extracted term p) st h = need_lists p st h
    need_lists (Part i p) st h = need_lists p st h
    need_lists p st h = tt

    pub all_need_lists : (ps : Paths) → AllStandOn env tests done ps → AllListsWithin all ps → AllNeedLists env qs ps
    all_need_lists NoPath st h = tt
    all_need_lists (APath p ps) st h = (need_lists p st.0 h.0, all_need_lists ps st.1 h.1)

-- ---- what was opened

-- the list of an item
abbrev pub loop_of : List Binding → Option BindingId → List Path
loop_of bs None = []
loop_of bs (Some source) = at (paths_of bs) source ∷ []

-- the lists whose items an order opens
abbrev pub loops : List Binding → List BindingId → List Path
loops bs [] = []
loops bs (b ∷ order) = loop_of bs (list_before (slice_get bs b.0)) ++ loops bs order

-- lists in order after one another
pub order_append : (before qs rs : List Path) → AreListsInOrder before qs → AreListsInOrder (came_behind before qs) rs → AreListsInOrder before (qs ++ rs)
order_append before [] rs h k = k
order_append before (q ∷ qs) rs h k = (h.0, h.1, order_append (q ∷ before) qs rs h.2 k)

pub came_append : {A : Type 0} (before qs rs : List A) → came_behind before (qs ++ rs) ≡ came_behind (came_behind before qs) rs
came_append before [] rs = refl
came_append before (q ∷ qs) rs = came_append (q ∷ before) qs rs

-- the lists within what is bound were opened, and their items are bound
pub record HasOpened (bs : List Binding) (bound : List ℕ) (opened : List Path) : Type 0 where
  pub within : (b : BindingId) → Contains bound b.0 → ListsWithin opened (at (paths_of bs) b)
  pub items : (q : Path) → Contains opened q → (b : BindingId) → at (paths_of bs) b ≡ Chosen q → Contains bound b.0

pub opened_none : (bs : List Binding) → HasOpened bs [] []
opened_none bs = record { within = λ b k. absurd (none_in b.0 k); items = λ q k b e. absurd (none_in q k) }

-- with one more that is bound
pub opened_push : (bs : List Binding) (bound : List ℕ) (opened : List Path) (b : BindingId) → HasOpened bs bound opened → ListsWithin opened (at (paths_of bs) b) → HasOpened bs (bound ++ b.0 ∷ []) opened
opened_push bs bound opened b h k = record {
  within = λ q c. ⊎_elim (λ j. h.within q j) (λ (e : b.0 ≡ q.0). subst (λ n. ListsWithin opened (at (paths_of bs) (record { 0 = n }))) e k) (Contains-push_cases bound b.0 q.0 c);
  items = λ q c i e. Contains-append_left bound (b.0 ∷ []) i.0 (h.items q c i e);
}

module _ (env : Environment) (t : Term) (bs : List Binding) where
  -- the parts of a form that is there
  parts_typed : (o : Option Form) (ps : Paths) → IsSomeAnd o (λ f. ArePathsOf env t ps (form_types env f)) → (tys : List TypeId) × ArePathsOf env t ps tys
  parts_typed None ps h = absurd h
  parts_typed (Some f) ps h = (form_types env f, h)

  -- a path made over none
  plain_within : (opened : List Path) (b : BindingId) (x : Binding) → slice_get bs b.0 ≡ Some x → ListsWithin opened (path_over (take b.0 (paths_of bs)) x) → ListsWithin opened (at (paths_of bs) b)
  plain_within opened b x e h = subst (ListsWithin opened) (sym (at_before bs b x e)) h

  module _ (bound : List ℕ) (opened : List Path) (h : HasOpened bs bound opened) where
    mutual
      -- what may be read
      pub read_within : {b : BindingId} → IsReadable (setting env t bs) bound b → (ty : TypeId) → IsPathOf env t (at (paths_of bs) b) ty → ListsWithin opened (at (paths_of bs) b)
      read_within (is_bound b c) ty p = h.within b c
      read_within (argument b index e) ty p = plain_within opened b (binding.Argument index) e tt
      read_within (truth b val of e) ty p = plain_within opened b (binding.ConstBool val of) e tt
      read_within (number b val of e) ty p = plain_within opened b (binding.ConstInt val of) e tt
      read_within (named b val e) ty p = plain_within opened b (binding.ConstPrim val) e tt
      read_within (made_variant b of variant fields e r) ty p =
          let path = path_at bs b (binding.MakeVariant of variant fields) e (typed_parts env t (at (paths_of bs) b) ty p) in
          let typed : IsPathOf env t (MadeVariant of variant (at_all (paths_of bs) fields)) ty = subst (λ q. IsPathOf env t q ty) path p in
          let parts = parts_typed (form env (MakesVariant of variant)) (at_all (paths_of bs) fields) typed.1 in
          subst (ListsWithin opened) (sym path) (all_read_within r parts.0 parts.1)
      read_within (made_struct b of fields e r) ty p =
          let path = path_at bs b (binding.MakeStruct of fields) e (typed_parts env t (at (paths_of bs) b) ty p) in
          let typed : IsPathOf env t (MadeStruct of (at_all (paths_of bs) fields)) ty = subst (λ q. IsPathOf env t q ty) path p in
          let parts = parts_typed (form env (MakesStruct of)) (at_all (paths_of bs) fields) typed.1 in
          subst (ListsWithin opened) (sym path) (all_read_within r parts.0 parts.1)

      all_read_within : {reads : List BindingId} → AreReadable (setting env t bs) bound reads → (tys : List TypeId) → ArePathsOf env t (at_all (paths_of bs) reads) tys → AllListsWithin opened (at_all (paths_of bs) reads)
      all_read_within none_read tys p = tt
      all_read_within (one_read b more r rs) [] p = absurd p
      all_read_within (one_read b more r rs) (ty ∷ tys) p = (read_within r ty p.0, all_read_within rs tys p.1)

    all_as_within : (reads : List BindingId) (tys : List TypeId) → AreReadAs (setting env t bs) bound reads tys → AllListsWithin opened (at_all (paths_of bs) reads)
    all_as_within [] [] r = tt
    all_as_within (b ∷ reads) (ty ∷ tys) r = (read_within r.0.read ty r.0.path, all_as_within reads tys r.1)
    all_as_within [] (ty ∷ tys) r = absurd r
    all_as_within (b ∷ reads) [] r = absurd r

    -- what may be opened, but for items
    pub open_within : (b : BindingId) (o : Option Binding) → slice_get bs b.0 ≡ o → list_before o ≡ None → IsOpenable (setting env t bs) bound (at (paths_of bs) b) o → ListsWithin opened (at (paths_of bs) b)
    open_within b (Some (binding.Constructor term parameters instance)) e none one = subst (ListsWithin opened) (sym one.path) (all_as_within parameters one.called.arg_tys one.args)
    open_within b (Some (binding.Extractor term parameter)) e none one = subst (ListsWithin opened) (sym one.path) (read_within one.arg.read one.called.ret_ty one.arg.path)
    open_within b (Some (binding.MatchTuple source field)) e none one = subst (ListsWithin opened) (sym one.path) (h.within source one.bound')
    open_within b (Some (binding.MatchSome source)) e none one = subst (ListsWithin opened) (sym one.path) (h.within source one.bound')
    open_within b (Some (binding.MakeVariant of variant fields)) e none one = read_within (made_variant b of variant fields e one.parts) one.ty one.path
    open_within b (Some (binding.MakeStruct of fields)) e none one = read_within (made_struct b of fields e one.parts) one.ty one.path
    open_within b (Some (binding.Argument index)) e none one = plain_within opened b (binding.Argument index) e tt
    open_within b (Some (binding.ConstBool val of)) e none one = plain_within opened b (binding.ConstBool val of) e tt
    open_within b (Some (binding.ConstInt val of)) e none one = plain_within opened b (binding.ConstInt val of) e tt
    open_within b (Some (binding.ConstPrim val)) e none one = plain_within opened b (binding.ConstPrim val) e tt
    open_within b (Some (binding.Iterator source)) e none one = cc
    open_within b o e none one = absurd one

  -- after an order: its lists are in order after those that were opened, and each is one of these
  pub record OpensOrder (qs : List Path) (bound : List ℕ) (opened : List Path) (order : List BindingId) : Type 0 where
    pub opens : HasOpened bs (bound_by bound order) (came_behind opened (loops bs order))
    pub order' : AreListsInOrder opened (loops bs order)
    pub each : AllByRecursion (Contains qs) (loops bs order)

  -- with an item of a list
  item_push : (bound : List ℕ) (opened : List Path) (b source : BindingId) → EachOnce (paths_of bs) → at (paths_of bs) b ≡ Chosen (at (paths_of bs) source) → HasOpened bs bound opened → ListsWithin opened (at (paths_of bs) source)
      → HasOpened bs (bound ++ b.0 ∷ []) (at (paths_of bs) source ∷ opened)
  item_push bound opened b source once path h k =
      let q = at (paths_of bs) source in
      let later : (r : Path) → Contains opened r → Contains (q ∷ opened) r = λ r c. cons_later q r opened c in
      record {
        within = λ i c. ⊎_elim (λ j. lists_more (at (paths_of bs) i) opened (q ∷ opened) later (h.within i j))
            (λ (e : b.0 ≡ i.0). subst (λ n. ListsWithin (q ∷ opened) (at (paths_of bs) (record { 0 = n }))) e (subst (ListsWithin (q ∷ opened)) (sym path) (cons_here q q opened refl, lists_more q opened (q ∷ opened) later k)))
            (Contains-push_cases bound b.0 i.0 c);
        items = λ r c i e. ⊎_elim
            (λ same. subst (Contains (bound ++ b.0 ∷ [])) (place_once (paths_of bs) b.0 i.0 once (subst IsThere (sym path) tt) (path ∙ ap Chosen same ∙ sym e)) (Contains-push bound b.0))
            (λ j. Contains-append_left bound (b.0 ∷ []) i.0 (h.items r j i e))
            (cons_cases q r opened c);
      }

  pub order_opens : (order : List BindingId) (qs : List Path) (bound : List ℕ) (opened : List Path) → EachOnce (paths_of bs) → HasOpened bs bound opened → AreOpenable (setting env t bs) bound order → AreItemsNew qs bs bound order → OpensOrder qs bound opened order
  order_opens [] qs bound opened once h ready new = record { opens = h; order' = tt; each = tt }
  order_opens (b ∷ order) qs bound opened once h ready new = pick (slice_get bs b.0) refl ready.0 (λ more j. order_opens order qs (bound ++ b.0 ∷ []) more once j ready.1 new.1)
    where
      Goal : List Path → Type 0
      Goal rs = (HasOpened bs (bound_by (bound ++ b.0 ∷ []) order) (came_behind opened rs)) × AreListsInOrder opened rs × AllByRecursion (Contains qs) rs

      as_record : Goal (loops bs (b ∷ order)) → OpensOrder qs bound opened (b ∷ order)
      as_record g = record { opens = g.0; order' = g.1; each = g.2 }

      pick : (o : Option Binding) → slice_get bs b.0 ≡ o → IsOpenable (setting env t bs) bound (at (paths_of bs) b) o → ((more : List Path) → HasOpened bs (bound ++ b.0 ∷ []) more → OpensOrder qs (bound ++ b.0 ∷ []) more order) → OpensOrder qs bound opened (b ∷ order)
      pick (Some (binding.Iterator source)) e one rest =
          let q = at (paths_of bs) source in
          let item = new.0 source e in
          let within = h.within source one.bound' in
          let r = rest (q ∷ opened) (item_push bound opened b source once one.path h within) in
          as_record (subst (λ x. Goal (loop_of bs x ++ loops bs order)) (sym (ap list_before e)) (r.opens, (within, λ c. item.1 (h.items q c b one.path), r.order'), (item.0, r.each)))
      pick o e one rest =
          let r = rest opened (opened_push bs bound opened b h (open_within bound opened h b o e refl one)) in
          as_record (subst (λ x. Goal (loop_of bs x ++ loops bs order)) (sym (ap list_before e)) (r.opens, r.order', r.each))
