-- What is bound for a rule opens each item directly after its list.
use Rattle.std.proofs.Common.{◌≡◌, ◌⊎◌, inl, inr, ⊎_elim, ℕ, List, [], ◌∷◌, ◌++◌, Bool, true, false, Option, Some, None, map, refl, sym, ap, ◌∙◌, subst}
use Rattle.std.specs.Prelude.{slice_get, Contains}
use Rattle.std.specs.List.{AllByRecursion}
use Rattle.std.proofs.lemmas.List.Elements.{Contains-push}
use Rattle.isle_core.specs.declared.BindingId.{BindingId}
use Rattle.isle_core.specs.declared.rule_sets.Binding.{Binding}
use Rattle.isle_core.specs.declared.rule_sets.FlatRule.{FlatRule}
use Rattle.isle_core.specs.declared.types.Term.{Term}
use Rattle.isle_core.specs.Bindable.{bound_by}
use Rattle.isle_core.specs.Path.{Path, at, paths_of}
use Rattle.isle_core.specs.Rule.{Environment}
use Rattle.isle_core.specs.Serializable.{IsSerializableCall, AreSerializableCalls}
use Rattle.isle_core.specs.Tests.{Test}
use Rattle.isle_core.proofs.BindingPaths.{paths_there, call_at}
use Rattle.isle_core.proofs.OptionLaws.{some_same}
use Rattle.isle_blocks.specs.Needed.{list_before, needs, parameters_of}
use Rattle.isle_blocks.specs.Nest.{with_inner, call_binds, binds, was_bound, left_one, left_calls, left_items, behind_lists, last_binds}
use Rattle.isle_blocks.proofs.NeedsSo.{list_plain, needs_so}
use Rattle.isle_blocks.proofs.NextLaws.{FindsNext}
use Rattle.isle_blocks.proofs.OpenedSteps.{FreshBy, AlwaysFresh, fresh_append}

fresh_none : (bs : List Binding) → AlwaysFresh bs []
fresh_none bs = λ fresh. tt

-- ---- what is needed

-- no item
abbrev pub IsPlainAt : List Binding → BindingId → Type 0
IsPlainAt bs b = list_before (slice_get bs b.0) ≡ None

-- a binding that is no item, alone
plain_fresh : (bs : List Binding) (b : BindingId) → IsPlainAt bs b → AlwaysFresh bs (b ∷ [])
plain_fresh bs b none = λ fresh. pick fresh (list_before (slice_get bs b.0)) none
  where
    pick : (fresh : List ℕ) (list : Option BindingId) → list ≡ None → FreshBy list fresh b (λ ks. Unit {0})
    pick fresh None e = tt
    pick fresh (Some list) e = cc

-- what stands directly after a call, and is its item if it is one
pair_fresh : (bs : List Binding) (c b : BindingId) → IsPlainAt bs c → (list_before (slice_get bs b.0) ≡ None) ⊎ (list_before (slice_get bs b.0) ≡ Some c) → AlwaysFresh bs (c ∷ b ∷ [])
pair_fresh bs c b plain which = λ fresh. pick fresh (list_before (slice_get bs c.0)) (list_before (slice_get bs b.0)) plain which
  where
    pick : (fresh : List ℕ) (l m : Option BindingId) → l ≡ None → (m ≡ None) ⊎ (m ≡ Some c) → FreshBy l fresh c (λ ks. FreshBy m ks b (λ js. Unit {0}))
    pick fresh None None d w = tt
    pick fresh None (Some list) d (inl none) = cc
    pick fresh None (Some list) d (inr is) = (subst (λ (x : BindingId). Contains (fresh ++ c.0 ∷ []) x.0) (sym (some_same list c is)) (Contains-push fresh c.0), tt)
    pick fresh (Some list) m d w = cc

pub needs_fresh : (bs : List Binding) (bound : List ℕ) (reads : List BindingId) → AlwaysFresh bs (needs bs bound reads)
needs_fresh bs bound reads =
    needs_so bs (AlwaysFresh bs) (fresh_none bs) (fresh_append bs)
    (λ b source parts e is. pair_fresh bs source b (list_plain (slice_get bs source.0) parts is) (inr (ap list_before e)))
    (λ b o parts e none is. plain_fresh bs b (ap list_before e ∙ none)) bound reads

-- ---- calls

-- none is an item
abbrev pub ArePlainAt : List Binding → List BindingId → Type 0
ArePlainAt bs cs = AllByRecursion (IsPlainAt bs) cs

calls_plain : (env : Environment) (t : Term) (tests : List Test) (bs : List Binding) (cs : List BindingId) (done : List Path) → AreSerializableCalls env t tests (paths_of bs) done (map (at (paths_of bs)) cs) → ArePlainAt bs cs
calls_plain env t tests bs [] done h = tt
calls_plain env t tests bs (c ∷ cs) done h =
    let call : IsSerializableCall env t tests (paths_of bs) done (at (paths_of bs) c) = h.0 in
    let is = call_at bs c call.term call.parameters call.instance (paths_there env t call.parameters call.called.arg_tys call.args) call.path in
    (ap list_before is.1, calls_plain env t tests bs cs (at (paths_of bs) c ∷ done) h.1)

left_plain : (bs : List Binding) (next : ℕ → Option BindingId) (start : List ℕ) (cs : List BindingId) → ArePlainAt bs cs → ArePlainAt bs (left_calls next start cs)
left_plain bs next start [] h = tt
left_plain bs next start (c ∷ cs) h = pick (was_bound next start c) (left_plain bs next start cs h.1)
  where
    pick : (b : Bool) → ArePlainAt bs (left_calls next start cs) → ArePlainAt bs (left_one b c ++ left_calls next start cs)
    pick true k = k
    pick false k = (h.0, k)

next_fresh : (bs : List Binding) (next : ℕ → Option BindingId) → FindsNext bs next → (c : BindingId) → IsPlainAt bs c → (o : Option BindingId) → next c.0 ≡ o → AlwaysFresh bs (with_inner o c)
next_fresh bs next f c h None e = plain_fresh bs c h
next_fresh bs next f c h (Some b) e = pair_fresh bs c b h (⊎_elim (λ is. inl (ap list_before is)) (λ is. inr (ap list_before is)) (f.found c b e).0)

binds_fresh : (bs : List Binding) (next : ℕ → Option BindingId) → FindsNext bs next → (cs : List BindingId) (bound : List ℕ) → ArePlainAt bs cs → AlwaysFresh bs (binds bs next bound cs)
binds_fresh bs next f [] bound h = fresh_none bs
binds_fresh bs next f (c ∷ cs) bound h =
    let reads = needs bs bound (parameters_of (slice_get bs c.0)) in
    let one = call_binds bs next bound c in
    fresh_append bs one (binds bs next (bound_by bound one) cs) (fresh_append bs reads (with_inner (next c.0) c) (needs_fresh bs bound (parameters_of (slice_get bs c.0))) (next_fresh bs next f c h.0 (next c.0) refl)) (binds_fresh bs next f cs (bound_by bound one) h.1)

-- what is bound in a rule's last step
pub last_fresh : (several : Bool) (bs : List Binding) (next items : ℕ → Option BindingId) → FindsNext bs next → (f : FlatRule) (bound : List ℕ) → ArePlainAt bs f.ordered → AlwaysFresh bs (last_binds several bs next items bound f)
last_fresh several bs next items found f bound h =
    let lists = needs bs bound (left_items several items f) in
    let behind = bound_by bound lists in
    let left = left_calls next behind f.ordered in
    let order = binds bs next behind left in
    fresh_append bs lists (behind_lists bs next behind f) (needs_fresh bs bound (left_items several items f))
    (fresh_append bs order (needs bs (bound_by behind order) (f.result ∷ [])) (binds_fresh bs next found left behind (left_plain bs next behind f.ordered h)) (needs_fresh bs (bound_by behind order) (f.result ∷ [])))

pub ordered_plain : (env : Environment) (t : Term) (tests : List Test) (bs : List Binding) (cs : List BindingId) → AreSerializableCalls env t tests (paths_of bs) [] (map (at (paths_of bs)) cs) → ArePlainAt bs cs
ordered_plain env t tests bs cs h = calls_plain env t tests bs cs [] h
