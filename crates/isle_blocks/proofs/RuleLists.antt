-- The lists over which the step of a rule loops before its calls, and that they are all of its lists that hold no impure call.
use Rattle.std.proofs.Common.{◌≡◌, ◌⊎◌, inl, inr, ⊎_elim, ℕ, List, [], ◌∷◌, ◌++◌, Bool, true, false, cond, not, Option, Some, None, map, refl, sym, ap, ◌∙◌, subst}
use Rattle.std.specs.Prelude.{Contains}
use Rattle.std.specs.List.{filter, AllByRecursion}
use Rattle.std.proofs.lemmas.List.Elements.{Contains-push_cases}
use Rattle.isle_core.specs.declared.BindingId.{BindingId}
use Rattle.isle_core.specs.declared.TypeId.{TypeId}
use Rattle.isle_core.specs.declared.rule_sets.Binding.{Binding}
use Rattle.isle_core.specs.declared.rule_sets.Constraint.{Constraint}
use Rattle.isle_core.specs.declared.rule_sets.FlatRule.{FlatRule}
use Rattle.isle_core.specs.declared.types.ReturnKind.TheVariants as return_kind
use Rattle.isle_core.specs.declared.types.Term.{Term}
use Rattle.isle_core.specs.ArmPlaces.{bound_within}
use Rattle.isle_core.specs.Bindable.{bound_by}
use Rattle.isle_core.specs.Calling.{Calling, ByTurns, ByCases, NoCall, calling, extracting, answers_often}
use Rattle.isle_core.specs.ExternalCall.{IsExtraction}
use Rattle.isle_core.specs.HoldsImpure.{holds_impure}
use Rattle.isle_core.specs.Iterators.{calls_multi}
use Rattle.isle_core.specs.Path.{Path, Called, Extracted, Chosen, at, paths_of}
use Rattle.isle_core.specs.PathType.{IsListOf}
use Rattle.isle_core.specs.Rule.{Environment}
use Rattle.isle_core.specs.Serializable.{IsSerializableList}
use Rattle.isle_core.specs.StandsFor.{EachOnce}
use Rattle.isle_core.specs.Tests.{Test}
use Rattle.isle_core.proofs.BindingPaths.{placed, place_once}
use Rattle.isle_core.specs.ListOrder.{ListsWithin}
use Rattle.isle_core.proofs.Contained.{head_contained, tail_contained, contained_cases, none_contained}
use Rattle.isle_blocks.specs.Followers.{FindsItems}
use Rattle.isle_blocks.specs.Needed.{is_bound, needs}
use Rattle.isle_blocks.specs.Nest.{Shows, left_item, items_left, left_items}
use Rattle.isle_blocks.proofs.ItemPaths.{item_path, item_at}
use Rattle.isle_blocks.proofs.LawSerializable.{list_there}
use Rattle.isle_blocks.proofs.ListsRead.{HasOpened, loops}
use Rattle.isle_blocks.proofs.NeededBound.{contained}
use Rattle.isle_blocks.proofs.OrderedRuns.{often_is}

-- ---- in the order in which they are gone through

-- in front of something
abbrev pub Within : Type 0
Within = List ℕ → List Path

abbrev pub last_lists : List Binding → (items : ℕ → Option BindingId) → FlatRule → Within
last_lists bs items f bound = loops bs (needs bs bound (left_items true items f))

abbrev pub equated_lists : List Binding → List (BindingId × BindingId) → Within → Within
equated_lists bs [] last bound = last bound
equated_lists bs (e ∷ es) last bound = loops bs (needs bs bound (e.0 ∷ e.1 ∷ [])) ++ equated_lists bs es last (bound_by bound (needs bs bound (e.0 ∷ e.1 ∷ [])))

abbrev pub matched_lists : List Binding → Shows → List (BindingId × Constraint) → Within → Within
matched_lists bs shows [] last bound = last bound
matched_lists bs shows (c ∷ cs) last bound = loops bs (needs bs bound (c.0 ∷ [])) ++ matched_lists bs shows cs last (bound_within (bound_by bound (needs bs bound (c.0 ∷ []))) (shows c.0 c.1))

-- ---- lists that hold no impure call

abbrev pub early_of : Environment → List Path → List Path
early_of env all = filter (λ (q : Path). not (holds_impure env q)) all

not_true : (b : Bool) → not b ≡ true → b ≡ false
not_true false e = refl
not_true true e = cc

not_false : (b : Bool) → b ≡ false → not b ≡ true
not_false false e = refl
not_false true e = cc

pub early_in : (env : Environment) (all : List Path) (q : Path) → Contains all q → holds_impure env q ≡ false → Contains (early_of env all) q
early_in env [] q c e = absurd (none_contained q c)
early_in env (p ∷ all) q c e = ⊎_elim
    (λ (same : p ≡ q). subst (λ b. Contains (cond b (p ∷ early_of env all) (early_of env all)) q) (sym (not_false (holds_impure env p) (ap (holds_impure env) same ∙ e))) (subst (Contains (p ∷ early_of env all)) same (head_contained p (early_of env all))))
    (λ j. later (not (holds_impure env p)) (early_in env all q j e))
    (contained_cases p all q c)
  where
    later : (b : Bool) → Contains (early_of env all) q → Contains (cond b (p ∷ early_of env all) (early_of env all)) q
    later true k = tail_contained p (early_of env all) q k
    later false k = k

pub early_from : (env : Environment) (all : List Path) (q : Path) → Contains (early_of env all) q → Contains all q × (holds_impure env q ≡ false)
early_from env [] q c = absurd (none_contained q c)
early_from env (p ∷ all) q c = pick (not (holds_impure env p)) refl c (λ j. early_from env all q j)
  where
    pick : (b : Bool) → not (holds_impure env p) ≡ b → Contains (cond b (p ∷ early_of env all) (early_of env all)) q → (Contains (early_of env all) q → Contains all q × (holds_impure env q ≡ false)) → Contains (p ∷ all) q × (holds_impure env q ≡ false)
    pick false e k more = let r = more k in (tail_contained p all q r.0, r.1)
    pick true e k more = ⊎_elim
        (λ (same : p ≡ q). (subst (Contains (p ∷ all)) same (head_contained p all), ap (holds_impure env) (sym same) ∙ not_true (holds_impure env p) e))
        (λ j. let r = more j in (tail_contained p all q r.0, r.1))
        (contained_cases p (early_of env all) q k)

-- ---- all of them

-- a list answers several times
often_extracted : (c : Calling) → IsExtraction return_kind.Iterator c → answers_often c ≡ true
often_extracted (ByCases callee of) e = subst (λ k. answers_often (ByCases callee k) ≡ true) (sym e.0) refl
often_extracted (ByTurns callee of) e = absurd e
often_extracted NoCall e = absurd e

list_multi : (env : Environment) (t : Term) (p : Path) (tys : List TypeId) → IsListOf env t p tys → calls_multi env p ≡ true
list_multi env t (Called term ps i) tys h = often_is (calling env term) h.0
list_multi env t (Extracted term q) tys h = often_extracted (extracting env term) h.0
list_multi env t p tys h = absurd h

-- what was bound is one of these
bound_from : (ps : List Path) (cs : List BindingId) (bound : List ℕ) (l : BindingId) → Contains (bound_by bound cs) l.0 → Contains bound l.0 ⊎ Contains (map (at ps) cs) (at ps l)
bound_from ps [] bound l k = inl k
bound_from ps (c ∷ cs) bound l k = ⊎_elim
    (λ j. ⊎_elim (λ i. inl i) (λ (e : c.0 ≡ l.0). inr (subst (λ n. Contains (at ps c ∷ map (at ps) cs) (at ps (record { 0 = n }))) e (head_contained (at ps c) (map (at ps) cs)))) (Contains-push_cases bound c.0 l.0 j))
    (λ j. inr (tail_contained (at ps c) (map (at ps) cs) (at ps l) j))
    (bound_from ps cs (bound ++ c.0 ∷ []) l k)

module _ (env : Environment) (t : Term) (bs : List Binding) (items : ℕ → Option BindingId) (found : FindsItems bs items) (once : EachOnce (paths_of bs)) (f : FlatRule) (tests : List Test)
    (late : (q : Path) → Contains (map (at (paths_of bs)) f.ordered) q → calls_multi env q ≡ true → holds_impure env q ≡ true) (bound : List ℕ) (opened : List Path) (open' : HasOpened bs bound opened) where
  -- bound are these
  abbrev pub AllBound : List BindingId → Type 0
  AllBound bs' = AllByRecursion (λ (b : BindingId). Contains bound b.0) bs'

  split : (xs ys : List BindingId) → AllBound (xs ++ ys) → AllBound xs × AllBound ys
  split [] ys h = (tt, h)
  split (x ∷ xs) ys h = let r = split xs ys h.1 in ((h.0, r.0), r.1)

  -- a list that holds no impure call is opened if its item is bound
  one_opened : (l : BindingId) → IsSerializableList env t tests (paths_of bs) (map (at (paths_of bs)) f.ordered) l → holds_impure env (at (paths_of bs) l) ≡ false → (called : Bool) → is_bound (bound_by [] f.ordered) l ≡ called → (o : Option BindingId) → items l.0 ≡ o
      → AllBound (left_item called o) → Contains opened (at (paths_of bs) l)
  one_opened l h e true is o k all =
      let ps = paths_of bs in
      let among = ⊎_elim (λ none. absurd (none_contained l.0 none)) (λ j. j) (bound_from ps f.ordered [] l (contained (bound_by [] f.ordered) l.0 is)) in
      let bad = sym (late (at ps l) among (list_multi env t (at ps l) h.tys h.list)) ∙ e in
      absurd cc
  one_opened l h e false is None k all =
      let ps = paths_of bs in
      let there = list_there env t (at ps l) h.tys h.list in
      let b = placed ps (Chosen (at ps l)) h.item in
      let s = item_at bs b.0 (at ps l) there b.1 in
      let same : l.0 ≡ s.0.0 = place_once ps l.0 s.0.0 once there (sym s.3) in
      let one = found.all s.0 b.0 s.1 s.2 in
      let is' : items l.0 ≡ Some one.0 = ap items same ∙ one.1 in
      let bad = sym k ∙ is' in
      absurd cc
  one_opened l h e false is (Some b) k all =
      let stands = found.found l.0 b k in
      let within : ListsWithin opened (Chosen (at (paths_of bs) l)) = subst (ListsWithin opened) (item_path bs l b stands.0 stands.1) (open'.within b all.0) in
      within.0

  pub all_opened : (ls : List BindingId) → AllByRecursion (IsSerializableList env t tests (paths_of bs) (map (at (paths_of bs)) f.ordered)) ls → AllBound (items_left items (bound_by [] f.ordered) ls)
      → (q : Path) → Contains (map (at (paths_of bs)) ls) q → holds_impure env q ≡ false → Contains opened q
  all_opened [] h all q c e = absurd (none_contained q c)
  all_opened (l ∷ ls) h all q c e =
      let parts = split (left_item (is_bound (bound_by [] f.ordered) l) (items l.0)) (items_left items (bound_by [] f.ordered) ls) all in
      ⊎_elim
      (λ (same : at (paths_of bs) l ≡ q). subst (Contains opened) same (one_opened l h.0 (ap (holds_impure env) same ∙ e) (is_bound (bound_by [] f.ordered) l) refl (items l.0) refl parts.0))
      (λ j. all_opened ls h.1 parts.1 q j e)
      (contained_cases (at (paths_of bs) l) (map (at (paths_of bs)) ls) q c)
