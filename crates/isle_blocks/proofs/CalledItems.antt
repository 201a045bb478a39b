-- The items after ordered calls are new.
use Rattle.std.proofs.Common.{◌≡◌, ◌⊎◌, inl, inr, ⊎_elim, ℕ, List, [], ◌∷◌, ◌++◌, Bool, true, false, Option, Some, None, map, refl, sym, ap, ◌∙◌, subst, arith}
use Rattle.std.specs.Prelude.{slice_get, Contains}
use Rattle.std.specs.List.{AllByRecursion}
use Rattle.std.proofs.lemmas.List.Elements.{Contains-push, Contains-push_cases}
use Rattle.isle_core.specs.declared.BindingId.{BindingId}
use Rattle.isle_core.specs.declared.rule_sets.Binding.{Binding}
use Rattle.isle_core.specs.declared.rule_sets.Binding.TheVariants as binding
use Rattle.isle_core.specs.declared.types.ReturnKind.{ReturnKind}
use Rattle.isle_core.specs.declared.types.ReturnKind.TheVariants as return_kind
use Rattle.isle_core.specs.declared.types.Term.{Term}
use Rattle.isle_core.specs.ArmPlaces.{bound_within}
use Rattle.isle_core.specs.Bindable.{bound_by}
use Rattle.isle_core.specs.Calling.{Calling, ByTurns, ByCases, NoCall, calling, kind_of, is_several, answers_often}
use Rattle.isle_core.specs.ExternalCall.{IsCall}
use Rattle.isle_core.specs.HoldsImpure.{holds_impure}
use Rattle.isle_core.specs.Iterators.{calls_multi}
use Rattle.isle_core.specs.Path.{Path, Chosen, Inner, at, at_all, paths_of}
use Rattle.isle_core.specs.Rule.{Environment}
use Rattle.isle_core.specs.Serializable.{IsSerializableCall, AreSerializableCalls}
use Rattle.isle_core.specs.StandsFor.{EachOnce}
use Rattle.isle_core.specs.Tests.{Test}
use Rattle.isle_core.proofs.BindingPaths.{IsThere, call_at, paths_there}
use Rattle.isle_core.proofs.Contained.{head_contained, tail_contained, contained_cases, none_contained}
use Rattle.isle_core.proofs.OptionLaws.{some_same}
use Rattle.isle_blocks.specs.Needed.{list_before, needs, parameters_of}
use Rattle.isle_blocks.specs.Nest.{with_inner, call_binds, binds, was_bound, left_one, left_calls}
use Rattle.isle_blocks.proofs.Behind.{IsBehind, behind_none, behind_grows, behind_next, adds_none, adds_one}
use Rattle.isle_blocks.proofs.LawBound.{came_behind}
use Rattle.isle_blocks.proofs.MadeBefore.{behind_bound}
use Rattle.isle_blocks.proofs.MoreBound.{Keeps, by_kept}
use Rattle.isle_blocks.proofs.NeededItems.{IsAnew, AreAnew, anew_append, anew_more, plain_anew, AreNeedable, paths_needable, needs_anew}
use Rattle.isle_blocks.proofs.NextLaws.{FindsNext, HasNext, has_none, has_inner, has_item, has_next}
use Rattle.isle_blocks.proofs.OpenedItems.{IsNoItem}
use Rattle.isle_blocks.proofs.PushedBinds.{bound_append}

-- whatever list
abbrev pub OfAny : Path → Type 0
OfAny p = Unit {0}

-- ---- calls that are left

-- each is none of those that were made, nor of those before it
abbrev pub AreLeft : (done : List Path) → List Path → Type 0
AreLeft done [] = Unit {0}
AreLeft done (p ∷ ps) = (Contains done p → ⊥) × AreLeft (p ∷ done) ps

pub once_left : (done ps : List Path) → EachOnce ps → ((p : Path) → Contains done p → Contains ps p → ⊥) → AreLeft done ps
once_left done [] once apart = tt
once_left done (p ∷ ps) once apart = (
  λ k. apart p k (head_contained p ps),
  once_left (p ∷ done) ps once.1 (λ q k j. ⊎_elim (λ e. once.0 (subst (Contains ps) (sym e) j)) (λ i. apart q i (tail_contained p ps q j)) (contained_cases p done q k)),
)

-- each that answers several times holds an impure call
abbrev pub AreLate : Environment → List Path → Type 0
AreLate env ps = (q : Path) → Contains ps q → calls_multi env q ≡ true → holds_impure env q ≡ true

often : (c : Calling) → IsCall return_kind.Iterator c → answers_often c ≡ true
often (ByTurns callee kind) e = ap is_several e
often (ByCases callee kind) e = ap is_several e
often NoCall e = absurd e

-- ---- items that are bound

-- each is of a list that holds no impure call, or of a call that was made
abbrev pub AreEarly : Environment → List Binding → (done : List Path) → (bound : List ℕ) → Type 0
AreEarly env bs done bound = (b source : BindingId) → slice_get bs b.0 ≡ Some (binding.Iterator source) → Contains bound b.0 → (holds_impure env (at (paths_of bs) source) ≡ false) ⊎ Contains done (at (paths_of bs) source)

pub early_none : (env : Environment) (bs : List Binding) (done : List Path) → AreEarly env bs done []
early_none env bs done b source e k = absurd (none_contained b.0 k)

-- with one that is bound then
early_push : (env : Environment) (bs : List Binding) (done : List Path) (bound : List ℕ) (c : BindingId)
    → ((source : BindingId) → slice_get bs c.0 ≡ Some (binding.Iterator source) → (holds_impure env (at (paths_of bs) source) ≡ false) ⊎ Contains done (at (paths_of bs) source)) → AreEarly env bs done bound → AreEarly env bs done (bound ++ c.0 ∷ [])
early_push env bs done bound c one h b source e k = ⊎_elim (λ j. h b source e j) (λ (same : c.0 ≡ b.0). one source (ap (slice_get bs) same ∙ e)) (Contains-push_cases bound c.0 b.0 k)

-- after more calls
early_more : (env : Environment) (bs : List Binding) (done : List Path) (p : Path) (bound : List ℕ) → AreEarly env bs done bound → AreEarly env bs (p ∷ done) bound
early_more env bs done p bound h b source e k = ⊎_elim (λ j. inl j) (λ j. inr (tail_contained p done (at (paths_of bs) source) j)) (h b source e k)

-- with what is needed
pub early_needs : (env : Environment) (bs : List Binding) (done : List Path) (ns : List BindingId) (bound : List ℕ) → AreAnew (λ p. holds_impure env p ≡ false) bs bound ns → AreEarly env bs done bound → AreEarly env bs done (bound_by bound ns)
early_needs env bs done [] bound new h = h
early_needs env bs done (n ∷ ns) bound new h = early_needs env bs done ns (bound ++ n.0 ∷ []) new.1 (early_push env bs done bound n (λ source e. inl (new.0 source e).0) h)

-- a place with no item
abbrev pub IsPlainPlace : List Binding → Option BindingId → Type 0
IsPlainPlace bs None = Unit {0}
IsPlainPlace bs (Some b) = IsNoItem bs b.0

-- with what stands in such places
pub early_within : (env : Environment) (bs : List Binding) (done : List Path) (places : List (Option BindingId)) (bound : List ℕ) → AllByRecursion (IsPlainPlace bs) places → AreEarly env bs done bound → AreEarly env bs done (bound_within bound places)
early_within env bs done [] bound plain h = h
early_within env bs done (None ∷ places) bound plain h = early_within env bs done places bound plain.1 h
early_within env bs done (Some b ∷ places) bound plain h = early_within env bs done places (bound ++ b.0 ∷ []) plain.1 (early_push env bs done bound b (λ source e. absurd (plain.0 source e)) h)

-- ---- calls in order

-- after no tests and no calls
pub behind_start : (ps : List Path) (bound : List ℕ) → IsBehind ps [] [] bound
behind_start ps bound = behind_grows ps [] [] [] bound (λ n k. absurd (none_contained n k)) (behind_none ps)

-- a bind order opens new items, and after it these calls were made
pub record BindsAnew (bs : List Binding) (bound : List ℕ) (made : List Path) (order : List BindingId) : Type 0 where
  pub items : AreAnew OfAny bs bound order
  pub behind : IsBehind (paths_of bs) [] made (bound_by bound order)

module _ (env : Environment) (t : Term) (bs : List Binding) (tests : List Test) (next : ℕ → Option BindingId) (f : FindsNext bs next) (once : EachOnce (paths_of bs)) where
  -- the term answers several times
  abbrev Several : Type 0
  Several = is_several (kind_of t.kind) ≡ true

  -- what a call is made on may be needed, and a call is no item
  record IsCalledOn (done : List Path) (c : BindingId) : Type 0 where
    need : AreNeedable env done (at_all (paths_of bs) (parameters_of (slice_get bs c.0)))
    plain : list_before (slice_get bs c.0) ≡ None

  called_on : (done : List Path) (c : BindingId) → IsSerializableCall env t tests (paths_of bs) done (at (paths_of bs) c) → IsCalledOn done c
  called_on done c h =
      let is = call_at bs c h.term h.parameters h.instance (paths_there env t h.parameters h.called.arg_tys h.args) h.path in
      record {
        need = subst (λ o. AreNeedable env done (at_all (paths_of bs) (parameters_of o))) (sym is.1) (subst (AreNeedable env done) is.2 (paths_needable env t tests done h.parameters h.called.arg_tys h.args h.stand));
        plain = ap list_before is.1;
      }

  -- what stands after a call, if its item is not bound yet
  next_anew : (c : BindingId) (bound : List ℕ) (kind : ReturnKind) → list_before (slice_get bs c.0) ≡ None → HasNext bs next c kind → (kind ≡ return_kind.Iterator → (b : BindingId) → slice_get bs b.0 ≡ Some (binding.Iterator c) → Contains bound b.0 → ⊥) → AreAnew OfAny bs bound (with_inner (next c.0) c)
  next_anew c bound return_kind.Plain plain (has_none e no_inner no_item) new = subst (λ o. AreAnew OfAny bs bound (with_inner o c)) (sym e) (plain_anew OfAny bs bound c plain, tt)
  next_anew c bound return_kind.Option plain (has_inner b e is path no_item) new =
      subst (λ o. AreAnew OfAny bs bound (with_inner o c)) (sym e) (plain_anew OfAny bs bound c plain, (plain_anew OfAny bs (bound ++ c.0 ∷ []) b (ap list_before is), tt))
  next_anew c bound return_kind.Iterator plain (has_item b e is path no_inner) new = subst (λ o. AreAnew OfAny bs bound (with_inner o c)) (sym e) (plain_anew OfAny bs bound c plain, (here, tt))
    where
      here : IsAnew OfAny bs (bound ++ c.0 ∷ []) b
      here other k =
          let same : binding.Iterator c ≡ binding.Iterator other = some_same (binding.Iterator c) (binding.Iterator other) (sym is ∙ k) in
          let one : c ≡ other = cc in
          let lt = (f.found c b e).1 in
          (tt, subst (λ (x : BindingId). at (paths_of bs) b ≡ Chosen (at (paths_of bs) x)) one path, λ j. ⊎_elim (λ i. new refl b is i) (λ (i : c.0 ≡ b.0). absurd (omega (arith, lt, i))) (Contains-push_cases bound c.0 b.0 j))

  -- the call was made then
  next_behind : (c : BindingId) (done : List Path) (bound : List ℕ) (kind : ReturnKind) → IsThere (at (paths_of bs) c) → HasNext bs next c kind → IsBehind (paths_of bs) [] done bound → IsBehind (paths_of bs) [] (at (paths_of bs) c ∷ done) (bound_by bound (with_inner (next c.0) c))
  next_behind c done bound kind there has k = pick kind has
    where
      ps : List Path
      ps = paths_of bs

      p : Path
      p = at ps c

      with_call : List ℕ
      with_call = bound ++ c.0 ∷ []

      All : Option BindingId → Type 0
      All o = IsBehind ps [] (p ∷ done) (bound_by bound (with_inner o c))

      pick : (any : ReturnKind) → HasNext bs next c any → All (next c.0)
      pick return_kind.Plain (has_none e no_inner no_item) =
          subst All (sym e) (behind_next ps [] done bound with_call c once there (by_kept (c ∷ []) bound) (Contains-push bound c.0) (adds_none ps c (Inner p) with_call tt no_inner) (adds_none ps c (Chosen p) with_call tt no_item) k)
      pick return_kind.Option (has_inner b e is path no_item) =
          let more = with_call ++ b.0 ∷ [] in
          subst All (sym e)
          (behind_next ps [] done bound more c once there (by_kept (c ∷ b ∷ []) bound) (by_kept (b ∷ []) with_call c.0 (Contains-push bound c.0)) (adds_one ps c b (Inner p) more once tt path (Contains-push with_call b.0)) (adds_none ps c (Chosen p) more tt no_item) k)
      pick return_kind.Iterator (has_item b e is path no_inner) =
          let more = with_call ++ b.0 ∷ [] in
          subst All (sym e)
          (behind_next ps [] done bound more c once there (by_kept (c ∷ b ∷ []) bound) (by_kept (b ∷ []) with_call c.0 (Contains-push bound c.0)) (adds_none ps c (Inner p) more tt no_inner) (adds_one ps c b (Chosen p) more once tt path (Contains-push with_call b.0)) k)

  -- and the items that are bound then are of calls that were made
  call_early : (c : BindingId) (done : List Path) (bound : List ℕ) → list_before (slice_get bs c.0) ≡ None → AreEarly env bs done bound → AreEarly env bs (at (paths_of bs) c ∷ done) (bound ++ c.0 ∷ [])
  call_early c done bound plain h = early_push env bs (at (paths_of bs) c ∷ done) bound c (λ source is. (let bad = sym plain ∙ ap list_before is in absurd cc)) (early_more env bs done (at (paths_of bs) c) bound h)

  next_early : (c : BindingId) (done : List Path) (bound : List ℕ) (o : Option BindingId) → next c.0 ≡ o → list_before (slice_get bs c.0) ≡ None → AreEarly env bs done bound → AreEarly env bs (at (paths_of bs) c ∷ done) (bound_by bound (with_inner o c))
  next_early c done bound None e plain h = call_early c done bound plain h
  next_early c done bound (Some b) e plain h = early_push env bs (at (paths_of bs) c ∷ done) (bound ++ c.0 ∷ []) b here (call_early c done bound plain h)
    where
      here : (source : BindingId) → slice_get bs b.0 ≡ Some (binding.Iterator source) → (holds_impure env (at (paths_of bs) source) ≡ false) ⊎ Contains (at (paths_of bs) c ∷ done) (at (paths_of bs) source)
      here source is =
          ⊎_elim (λ inner. let bad = sym inner ∙ is in absurd cc)
          (λ item. let same : binding.Iterator c ≡ binding.Iterator source = some_same (binding.Iterator c) (binding.Iterator source) (sym item ∙ is) in
          let one : c ≡ source = cc in inr (subst (λ (x : BindingId). Contains (at (paths_of bs) c ∷ done) (at (paths_of bs) x)) one (head_contained (at (paths_of bs) c) done))) (f.found c b e).0

  -- the item of a call that holds an impure one and was not made is not bound
  not_yet : (done : List Path) (c : BindingId) (bound : List ℕ) → (h : IsSerializableCall env t tests (paths_of bs) done (at (paths_of bs) c)) → (Several → Contains done (at (paths_of bs) c) → ⊥)
      → (Several → calls_multi env (at (paths_of bs) c) ≡ true → holds_impure env (at (paths_of bs) c) ≡ true) → AreEarly env bs done bound → h.kind ≡ return_kind.Iterator → (b : BindingId) → slice_get bs b.0 ≡ Some (binding.Iterator c) → Contains bound b.0 → ⊥
  not_yet done c bound h new late early is b item k =
      let external : IsCall return_kind.Iterator (calling env h.term) = subst (λ x. IsCall x (calling env h.term)) is h.external in
      let several = h.often (ap is_several is) in
      let holds = late several (ap (calls_multi env) h.path ∙ often (calling env h.term) external) in
      ⊎_elim (λ none. let bad = sym none ∙ holds in cc) (λ j. new several j) (early b c item k)

  -- what is bound for a call that was not made
  record CallAnew (done : List Path) (bound : List ℕ) (c : BindingId) : Type 0 where
    items : AreAnew OfAny bs bound (call_binds bs next bound c)
    behind : IsBehind (paths_of bs) [] (at (paths_of bs) c ∷ done) (bound_by bound (call_binds bs next bound c))
    early : AreEarly env bs (at (paths_of bs) c ∷ done) (bound_by bound (call_binds bs next bound c))

  call_anew : (done : List Path) (bound : List ℕ) (c : BindingId) → IsSerializableCall env t tests (paths_of bs) done (at (paths_of bs) c) → (Several → Contains done (at (paths_of bs) c) → ⊥)
      → (Several → calls_multi env (at (paths_of bs) c) ≡ true → holds_impure env (at (paths_of bs) c) ≡ true) → IsBehind (paths_of bs) [] done bound → AreEarly env bs done bound → CallAnew done bound c
  call_anew done bound c h new late k early =
      let ps = paths_of bs in
      let ns = needs bs bound (parameters_of (slice_get bs c.0)) in
      let on = called_on done c h in
      let has = has_next env t tests bs next done c f once h in
      let needed = needs_anew env bs done [] bound (parameters_of (slice_get bs c.0)) k on.need in
      let within = bound_by bound ns in
      let early' = early_needs env bs done ns bound needed early in
      let all = bound_append bound ns (with_inner (next c.0) c) in
      record {
        items = anew_append OfAny bs ns (with_inner (next c.0) c) bound (anew_more (λ p. holds_impure env p ≡ false) OfAny bs ns bound (λ p e. tt) needed) (next_anew c within h.kind on.plain has (not_yet done c within h new late early'));
        behind = subst (IsBehind ps [] (at ps c ∷ done)) (sym all) (next_behind c done within h.kind (subst IsThere (sym h.path) tt) has (behind_grows ps [] done bound within (by_kept ns bound) k));
        early = subst (AreEarly env bs (at ps c ∷ done)) (sym all) (next_early c done within (next c.0) refl on.plain early');
      }

  -- calls that were not bound at the start
  pub binds_anew : (start : List ℕ) (cs : List BindingId) (done : List Path) (bound : List ℕ) → Keeps start bound → IsBehind (paths_of bs) [] done bound → AreEarly env bs done bound → (Several → AreLeft done (map (at (paths_of bs)) cs)) → (Several → AreLate env (map (at (paths_of bs)) cs))
      → AreSerializableCalls env t tests (paths_of bs) done (map (at (paths_of bs)) cs) → BindsAnew bs bound (came_behind done (map (at (paths_of bs)) cs)) (binds bs next bound (left_calls next start cs))
  binds_anew start [] done bound keeps k early left late h = record { items = tt; behind = k }
  binds_anew start (c ∷ cs) done bound keeps k early left late h =
      pick (was_bound next start c) refl
      (λ more keeps' k' early'. binds_anew start cs (at (paths_of bs) c ∷ done) more keeps' k' early' (λ several. (left several).1) (λ several q j. late several q (tail_contained (at (paths_of bs) c) (map (at (paths_of bs)) cs) q j)) h.1)
    where
      made : List Path
      made = at (paths_of bs) c ∷ done

      call : IsSerializableCall env t tests (paths_of bs) done (at (paths_of bs) c)
      call = h.0

      All : List ℕ → List BindingId → Type 0
      All more order = BindsAnew bs more (came_behind made (map (at (paths_of bs)) cs)) order

      pick : (b : Bool) → was_bound next start c ≡ b → ((more : List ℕ) → Keeps start more → IsBehind (paths_of bs) [] made more → AreEarly env bs made more → All more (binds bs next more (left_calls next start cs)))
          → All bound (binds bs next bound (left_one b c ++ left_calls next start cs))
      pick true e rest =
          rest bound keeps (behind_bound [] done bs next start bound c call.kind once (subst IsThere (sym call.path) tt) (has_next env t tests bs next done c f once call) e keeps k)
          (early_more env bs done (at (paths_of bs) c) bound early)
      pick false e rest =
          let order = call_binds bs next bound c in
          let more = binds bs next (bound_by bound order) (left_calls next start cs) in
          let one = call_anew done bound c call (λ several. (left several).0) (λ several. late several (at (paths_of bs) c) (head_contained (at (paths_of bs) c) (map (at (paths_of bs)) cs))) k early in
          let all = rest (bound_by bound order) (λ n j. by_kept order bound n (keeps n j)) one.behind one.early in
          record {
            items = anew_append OfAny bs order more bound one.items all.items;
            behind = subst (IsBehind (paths_of bs) [] (came_behind made (map (at (paths_of bs)) cs))) (sym (bound_append bound order more)) all.behind;
          }
