-- What stands directly after an ordered call: its inner value, or its item.
use Rattle.std.proofs.Common.{◌≡◌, ◌↔◌, ◌⊎◌, inl, inr, ⊎_elim, ℕ, ◌<◌, List, false, IsTrue, Option, Some, None, refl, sym, ap, ◌∙◌, subst}
use Rattle.std.specs.Prelude.{slice_get, Contains}
use Rattle.isle_core.specs.Calling.{may_be_nothing, is_several}
use Rattle.isle_core.specs.declared.BindingId.{BindingId}
use Rattle.isle_core.specs.declared.rule_sets.Binding.{Binding}
use Rattle.isle_core.specs.declared.rule_sets.Binding.TheVariants as binding
use Rattle.isle_core.specs.declared.types.ReturnKind.{ReturnKind}
use Rattle.isle_core.specs.declared.types.ReturnKind.TheVariants as return_kind
use Rattle.isle_core.specs.declared.types.Term.{Term}
use Rattle.isle_core.specs.Path.{Path, Inner, Chosen, at, paths_of}
use Rattle.isle_core.specs.StandsFor.{EachOnce}
use Rattle.isle_core.specs.Tests.{Test}
use Rattle.isle_core.specs.Serializable.{IsSerializableCall}
use Rattle.isle_core.specs.Rule.{Environment}
use Rattle.isle_core.proofs.BindingPaths.{IsThere, contains_at, placed, place_once, inner_path, inner_at}
use Rattle.isle_blocks.specs.Followers.{FindsInners, FindsItems}
use Rattle.isle_blocks.specs.Nest.{next_of, or_later}
use Rattle.isle_blocks.proofs.ItemPaths.{item_path, item_at}

-- by the number of a call, the number of its inner value or of its item, if there is one after it
pub record FindsNext (bs : List Binding) (next : ℕ → Option BindingId) : Type 0 where
  pub found : (c b : BindingId) → next c.0 ≡ Some b → ((slice_get bs b.0 ≡ Some (binding.MatchSome c)) ⊎ (slice_get bs b.0 ≡ Some (binding.Iterator c))) × (c.0 < b.0)
  pub inner : (source b : BindingId) → slice_get bs b.0 ≡ Some (binding.MatchSome source) → source.0 < b.0 → (e : BindingId) × (next source.0 ≡ Some e)
  pub item : (source b : BindingId) → slice_get bs b.0 ≡ Some (binding.Iterator source) → source.0 < b.0 → (e : BindingId) × (next source.0 ≡ Some e)

pub finds_next : (bs : List Binding) (inners items : ℕ → Option BindingId) → FindsInners bs inners → FindsItems bs items → FindsNext bs (next_of inners items)
finds_next bs inners items f g = record {
  found = λ c b e. pick c b (inners c.0) refl e;
  inner = λ source b e lt. let k = f.all source b e lt in (k.0, ap (λ o. or_later o (items source.0)) k.1);
  item = λ source b e lt. behind source b e lt (inners source.0);
}
  where
    pick : (c b : BindingId) (o : Option BindingId) → inners c.0 ≡ o → or_later o (items c.0) ≡ Some b → ((slice_get bs b.0 ≡ Some (binding.MatchSome c)) ⊎ (slice_get bs b.0 ≡ Some (binding.Iterator c))) × (c.0 < b.0)
    pick c b None e h = let k = g.found c.0 b h in (inr k.0, k.1)
    pick c b (Some d) e h = let k = f.found c.0 b (e ∙ h) in (inl k.0, k.1)

    behind : (source b : BindingId) → slice_get bs b.0 ≡ Some (binding.Iterator source) → source.0 < b.0 → (o : Option BindingId) → (e : BindingId) × (or_later o (items source.0) ≡ Some e)
    behind source b e lt None = g.all source b e lt
    behind source b e lt (Some d) = (d, refl)

-- a call has an inner value exactly if it may be nothing, and an item exactly if it answers several times
pub data HasNext (bs : List Binding) (next : ℕ → Option BindingId) (c : BindingId) : ReturnKind → Type 0 where
  has_none : next c.0 ≡ None → (Contains (paths_of bs) (Inner (at (paths_of bs) c)) → ⊥) → (Contains (paths_of bs) (Chosen (at (paths_of bs) c)) → ⊥) → HasNext bs next c return_kind.Plain
  has_inner : (b : BindingId) → next c.0 ≡ Some b → slice_get bs b.0 ≡ Some (binding.MatchSome c) → at (paths_of bs) b ≡ Inner (at (paths_of bs) c) → (Contains (paths_of bs) (Chosen (at (paths_of bs) c)) → ⊥)
      → HasNext bs next c return_kind.Option
  has_item : (b : BindingId) → next c.0 ≡ Some b → slice_get bs b.0 ≡ Some (binding.Iterator c) → at (paths_of bs) b ≡ Chosen (at (paths_of bs) c) → (Contains (paths_of bs) (Inner (at (paths_of bs) c)) → ⊥)
      → HasNext bs next c return_kind.Iterator

pub has_next : (env : Environment) (t : Term) (tests : List Test) (bs : List Binding) (next : ℕ → Option BindingId) (done : List Path) (c : BindingId) → FindsNext bs next → EachOnce (paths_of bs)
    → (h : IsSerializableCall env t tests (paths_of bs) done (at (paths_of bs) c)) → HasNext bs next c h.kind
has_next env t tests bs next done c f once h = pick (next c.0) refl h.kind h.inner h.item
  where
    ps : List Path
    ps = paths_of bs

    there : IsThere (at ps c)
    there = subst IsThere (sym h.path) tt

    -- an inner value is found
    inner_found : next c.0 ≡ None → Contains ps (Inner (at ps c)) → ⊥
    inner_found e k =
        let b = placed ps (Inner (at ps c)) k in
        let s = inner_at bs b.0 (at ps c) there b.1 in
        let same : c.0 ≡ s.0.0 = place_once ps c.0 s.0.0 once there (sym s.3) in
        let found = f.inner s.0 b.0 s.1 s.2 in
        let is : next c.0 ≡ Some found.0 = ap next same ∙ found.1 in
        cc

    -- and so is an item
    item_found : next c.0 ≡ None → Contains ps (Chosen (at ps c)) → ⊥
    item_found e k =
        let b = placed ps (Chosen (at ps c)) k in
        let s = item_at bs b.0 (at ps c) there b.1 in
        let same : c.0 ≡ s.0.0 = place_once ps c.0 s.0.0 once there (sym s.3) in
        let found = f.item s.0 b.0 s.1 s.2 in
        let is : next c.0 ≡ Some found.0 = ap next same ∙ found.1 in
        cc

    has_inner_path : (b : BindingId) → slice_get bs b.0 ≡ Some (binding.MatchSome c) → c.0 < b.0 → Contains ps (Inner (at ps c))
    has_inner_path b e lt = contains_at ps b.0 (Inner (at ps c)) tt (inner_path bs c b e lt)

    has_item_path : (b : BindingId) → slice_get bs b.0 ≡ Some (binding.Iterator c) → c.0 < b.0 → Contains ps (Chosen (at ps c))
    has_item_path b e lt = contains_at ps b.0 (Chosen (at ps c)) tt (item_path bs c b e lt)

    false_true : IsTrue false → ⊥
    false_true e = cc

    pick : (o : Option BindingId) → next c.0 ≡ o → (kind : ReturnKind) → IsTrue (may_be_nothing kind) ↔ Contains ps (Inner (at ps c)) → IsTrue (is_several kind) ↔ Contains ps (Chosen (at ps c)) → HasNext bs next c kind
    pick None e return_kind.Plain i j = has_none e (inner_found e) (item_found e)
    pick None e return_kind.Option i j = absurd (inner_found e (i.0 refl))
    pick None e return_kind.Iterator i j = absurd (item_found e (j.0 refl))
    pick (Some b) e return_kind.Plain i j =
        let k = f.found c b e in
        absurd (⊎_elim (λ is. false_true (i.1 (has_inner_path b is k.1))) (λ is. false_true (j.1 (has_item_path b is k.1))) k.0)
    pick (Some b) e return_kind.Option i j =
        let k = f.found c b e in
        ⊎_elim (λ is. has_inner b e is (inner_path bs c b is k.1) (λ x. false_true (j.1 x))) (λ is. absurd (false_true (j.1 (has_item_path b is k.1)))) k.0
    pick (Some b) e return_kind.Iterator i j =
        let k = f.found c b e in
        ⊎_elim (λ is. absurd (false_true (i.1 (has_inner_path b is k.1)))) (λ is. has_item b e is (item_path bs c b is k.1) (λ x. false_true (i.1 x))) k.0
