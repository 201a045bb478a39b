-- Calls that are ready may be bound in order, each after what it is made on.
use Rattle.std.proofs.Common.{◌≡◌, ◌⊎◌, inl, inr, ⊎_elim, ℕ, List, [], ◌∷◌, ◌++◌, Bool, true, false, IsTrue, Option, Some, map, refl, sym, ap, ◌∙◌, subst}
use Rattle.std.specs.Prelude.{slice_get, IsSomeAnd, Contains}
use Rattle.std.proofs.lemmas.List.Elements.{Contains-push}
use Rattle.isle_core.specs.declared.BindingId.{BindingId}
use Rattle.isle_core.specs.declared.rule_sets.Binding.{Binding}
use Rattle.isle_core.specs.declared.rule_sets.Binding.TheVariants as binding
use Rattle.isle_core.specs.declared.types.ReturnKind.{ReturnKind}
use Rattle.isle_core.specs.declared.types.ReturnKind.TheVariants as return_kind
use Rattle.isle_core.specs.declared.types.Term.{Term}
use Rattle.isle_core.specs.Bindable.{IsCallBound, IsInnerBound, bound_by}
use Rattle.isle_core.specs.Calling.{Calling, ByTurns, ByCases, NoCall, calling, kind_of, is_several, may_be_nothing}
use Rattle.isle_core.specs.ExternalCall.{IsCall}
use Rattle.isle_core.specs.Path.{Path, Called, Extracted, Chosen, Inner, VariantField, StructField, MadeVariant, MadeStruct, Part, Paths, NoPath, APath, at, at_all, paths_of}
use Rattle.isle_core.specs.PathType.{IsListOf, IsOptionOf, ArePathsOf}
use Rattle.isle_core.specs.Rule.{Environment}
use Rattle.isle_core.specs.Serializable.{StandsWithin, StandsCalled, StandsOn, AllStandOn, IsSerializableCall, AreSerializableCalls}
use Rattle.isle_core.specs.Setting.{setting}
use Rattle.isle_core.specs.StandsFor.{EachOnce}
use Rattle.isle_core.specs.Tests.{Test}
use Rattle.isle_core.proofs.BindingPaths.{IsThere, call_at, paths_there}
use Rattle.isle_blocks.specs.Needed.{needs, parameters_of}
use Rattle.isle_blocks.specs.Nest.{with_inner, call_binds, binds, was_bound, left_one, left_calls}
use Rattle.isle_blocks.proofs.Behind.{IsBehind, none_in, cons_cases, cons_here, cons_later, behind_grows, behind_next, adds_none, adds_one}
use Rattle.isle_blocks.proofs.NextLaws.{FindsNext, HasNext, has_none, has_inner, has_item, has_next}
use Rattle.isle_blocks.proofs.MadeBefore.{behind_bound}
use Rattle.isle_blocks.proofs.MoreBound.{Keeps, by_kept}
use Rattle.isle_blocks.proofs.Openable.{IsItemBound, IsOpenable, AreOpenable, openable_append}
use Rattle.isle_blocks.proofs.NeededBound.{ReadsAll, all_read_as, needs_read}
use Rattle.isle_blocks.proofs.NeededRuns.{AreStill}
use Rattle.isle_blocks.proofs.OrderItems.{AllNeedLists, AreItemsNew}
use Rattle.isle_blocks.proofs.PushedBinds.{bound_append}
use Rattle.isle_blocks.proofs.StillRules.{StillBinds}

-- ---- what may be bound

-- a call after what it is made on
pub record BindsCall (env : Environment) (t : Term) (bs : List Binding) (bound : List ℕ) (c : BindingId) (parameters : Paths) (needed : List BindingId) : Type 0 where
  pub needed' : AreOpenable (setting env t bs) bound needed
  pub still : AreStill env (paths_of bs) needed
  pub new : (qs : List Path) → AllNeedLists env qs parameters → AreItemsNew qs bs bound needed
  pub call : IsOpenable (setting env t bs) (bound_by bound needed) (at (paths_of bs) c) (slice_get bs c.0)

pub call_bound : (env : Environment) (t : Term) (bs : List Binding) (fits : (p : Path) → Contains (paths_of bs) (Chosen p) → is_several (kind_of t.kind) ≡ true) (tests : List Test) (done : List Path) (bound : List ℕ) (c : BindingId) → IsBehind (paths_of bs) tests done bound → (h : IsSerializableCall env t tests (paths_of bs) done (at (paths_of bs) c))
    → BindsCall env t bs bound c h.parameters (needs bs bound (parameters_of (slice_get bs c.0)))
call_bound env t bs fits tests done bound c k h =
    let s = setting env t bs in
    let is = call_at bs c h.term h.parameters h.instance (paths_there env t h.parameters h.called.arg_tys h.args) h.path in
    let typed : ArePathsOf env t (at_all (paths_of bs) is.0) h.called.arg_tys = subst (λ q. ArePathsOf env t q h.called.arg_tys) is.2 h.args in
    let r : ReadsAll s bound is.0 (needs bs bound is.0) = needs_read env t bs tests done fits bound is.0 h.called.arg_tys k typed (subst (AllStandOn env tests done) is.2 h.stand) in
    let mid = bound_by bound (needs bs bound is.0) in
    let bound_call : IsCallBound s mid (at (paths_of bs) c) h.term is.0 h.instance = record {
      path = h.path ∙ ap (λ q. Called h.term q h.instance) is.2;
      called = h.called;
      found = h.found;
      args = all_read_as s mid h.called.arg_tys typed r.read;
      kind = h.kind;
      external = h.external;
    } in
    let all : BindsCall env t bs bound c h.parameters (needs bs bound is.0) = record { needed' = r.binds; still = r.still; new = λ qs lists. r.items qs (subst (AllNeedLists env qs) is.2 lists); call = subst (IsOpenable s mid (at (paths_of bs) c)) (sym is.1) bound_call } in
    subst (λ o. BindsCall env t bs bound c h.parameters (needs bs bound (parameters_of o))) (sym is.1) all

-- the inner value of a call that may be nothing
inner_opened : (env : Environment) (t : Term) (bs : List Binding) (tests : List Test) (done : List Path) (bound : List ℕ) (c b : BindingId) → (h : IsSerializableCall env t tests (paths_of bs) done (at (paths_of bs) c)) → h.kind ≡ return_kind.Option
    → slice_get bs b.0 ≡ Some (binding.MatchSome c) → at (paths_of bs) b ≡ Inner (at (paths_of bs) c) → Contains bound c.0 → IsOpenable (setting env t bs) bound (at (paths_of bs) b) (slice_get bs b.0)
inner_opened env t bs tests done bound c b h is there path k =
    let external : IsCall return_kind.Option (calling env h.term) = subst (λ x. IsCall x (calling env h.term)) is h.external in
    let typed : IsSomeAnd (slice_get env.terms h.term.0) (λ (x : Term). (x.ret_ty ∷ [] ≡ h.called.ret_ty ∷ []) × ArePathsOf env t h.parameters x.arg_tys) =
    subst (λ o. IsSomeAnd o (λ (x : Term). (x.ret_ty ∷ [] ≡ h.called.ret_ty ∷ []) × ArePathsOf env t h.parameters x.arg_tys)) (sym h.found) (refl, h.args) in
    let opened : IsInnerBound (setting env t bs) bound (at (paths_of bs) b) c = record {
      path = path;
      tys = h.called.ret_ty ∷ [];
      option = subst (λ q. IsOptionOf env t q (h.called.ret_ty ∷ [])) (sym h.path) (external, typed);
      bound' = k;
      fits = h.fits (subst (λ x. IsTrue (may_be_nothing x)) (sym is) refl);
    } in
    subst (IsOpenable (setting env t bs) bound (at (paths_of bs) b)) (sym there) opened

-- the item of a call that answers several times
item_opened : (env : Environment) (t : Term) (bs : List Binding) (tests : List Test) (done : List Path) (bound : List ℕ) (c b : BindingId) → (h : IsSerializableCall env t tests (paths_of bs) done (at (paths_of bs) c)) → h.kind ≡ return_kind.Iterator
    → slice_get bs b.0 ≡ Some (binding.Iterator c) → at (paths_of bs) b ≡ Chosen (at (paths_of bs) c) → Contains bound c.0 → IsOpenable (setting env t bs) bound (at (paths_of bs) b) (slice_get bs b.0)
item_opened env t bs tests done bound c b h is there path k =
    let external : IsCall return_kind.Iterator (calling env h.term) = subst (λ x. IsCall x (calling env h.term)) is h.external in
    let typed : IsSomeAnd (slice_get env.terms h.term.0) (λ (x : Term). (x.ret_ty ∷ [] ≡ h.called.ret_ty ∷ []) × ArePathsOf env t h.parameters x.arg_tys) =
    subst (λ o. IsSomeAnd o (λ (x : Term). (x.ret_ty ∷ [] ≡ h.called.ret_ty ∷ []) × ArePathsOf env t h.parameters x.arg_tys)) (sym h.found) (refl, h.args) in
    let opened : IsItemBound (setting env t bs) bound (at (paths_of bs) b) c = record {
      path = path;
      tys = h.called.ret_ty ∷ [];
      list = subst (λ q. IsListOf env t q (h.called.ret_ty ∷ [])) (sym h.path) (external, typed);
      bound' = k;
      fits = h.often (subst (λ x. IsTrue (is_several x)) (sym is) refl);
    } in
    subst (IsOpenable (setting env t bs) bound (at (paths_of bs) b)) (sym there) opened

-- ---- calls in order

-- the items that came, after these
abbrev pub came_behind : {A : Type 0} → List A → List A → List A
came_behind done [] = done
came_behind done (p ∷ ps) = came_behind (p ∷ done) ps

pub came_holds : {A : Type 0} (done ps : List A) (p : A) → Contains done p ⊎ Contains ps p → Contains (came_behind done ps) p
came_holds done [] p (inl k) = k
came_holds done [] p (inr k) = absurd (none_in p k)
came_holds done (q ∷ ps) p (inl k) = came_holds (q ∷ done) ps p (inl (cons_later q p done k))
came_holds done (q ∷ ps) p (inr k) = came_holds (q ∷ done) ps p (⊎_elim (λ e. inl (cons_here q p done e)) (λ j. inr j) (cons_cases q p ps k))

-- ---- after more calls

within_more : (tests : List Test) (done more : List Path) → ((p : Path) → Contains done p → Contains more p) → (p : Path) → StandsWithin tests done p → StandsWithin tests more p
within_more tests done more h (Called term ps instance) s = ⊎_elim (λ made. inl (h (Called term ps instance) made)) (λ test. inr test) s
within_more tests done more h (Extracted term p) s = s
within_more tests done more h p s = tt

called_more : (c : Calling) (A B X Y : Type 0) → (A → X) → (B → Y) → StandsCalled c A B → StandsCalled c X Y
called_more (ByTurns callee kind) A B X Y f g s = f s
called_more (ByCases callee kind) A B X Y f g s = g s
called_more NoCall A B X Y f g s = absurd s

mutual
  pub stands_more : (env : Environment) (tests : List Test) (done more : List Path) → ((p : Path) → Contains done p → Contains more p) → (p : Path) → StandsOn env tests done p → StandsOn env tests more p
  stands_more env tests done more h (Called term ps instance) s =
      let p = Called term ps instance in
      called_more (calling env term) (Contains done p) (AllStandOn env tests done ps) (Contains more p) (AllStandOn env tests more ps) (h p) (λ each. all_stand_more env tests done more h ps each) s
  stands_more env tests done more h (Extracted term p) s = stands_more env tests done more h p s
  stands_more env tests done more h (Part part p) s = stands_more env tests done more h p s
  stands_more env tests done more h (Inner p) s = within_more tests done more h p s
  stands_more env tests done more h (VariantField variant field p) s = s
  stands_more env tests done more h (StructField field p) s = s
  stands_more env tests done more h (Chosen p) s = (stands_more env tests done more h p s.0, λ late. h p (s.1 late))
  stands_more env tests done more h (MadeVariant of variant ps) s = all_stand_more env tests done more h ps s
  stands_more env tests done more h (MadeStruct of ps) s = all_stand_more env tests done more h ps s
  stands_more env tests done more h p s = tt

  -- so of each
  all_stand_more : (env : Environment) (tests : List Test) (done more : List Path) → ((p : Path) → Contains done p → Contains more p) → (ps : Paths) → AllStandOn env tests done ps → AllStandOn env tests more ps
  all_stand_more env tests done more h NoPath s = tt
  all_stand_more env tests done more h (APath p ps) s = (stands_more env tests done more h p s.0, all_stand_more env tests done more h ps s.1)

pub came_from : {A : Type 0} (done ps : List A) (p : A) → Contains (came_behind done ps) p → Contains done p ⊎ Contains ps p
came_from done [] p k = inl k
came_from done (q ∷ ps) p k = ⊎_elim (λ j. ⊎_elim (λ e. inr (cons_here q p ps e)) (λ i. inl i) (cons_cases q p done j)) (λ j. inr (cons_later q p ps j)) (came_from (q ∷ done) ps p k)

-- a bind order may stand there, and after it these calls were made
pub record BindsAll (env : Environment) (t : Term) (bs : List Binding) (tests : List Test) (bound : List ℕ) (made : List Path) (order : List BindingId) : Type 0 where
  pub bindable : AreOpenable (setting env t bs) bound order
  pub behind : IsBehind (paths_of bs) tests made (bound_by bound order)

-- so of two after one another
binds_both : (env : Environment) (t : Term) (bs : List Binding) (tests : List Test) (bound : List ℕ) (made : List Path) (xs ys : List BindingId) → AreOpenable (setting env t bs) bound xs → BindsAll env t bs tests (bound_by bound xs) made ys → BindsAll env t bs tests bound made (xs ++ ys)
binds_both env t bs tests bound made xs ys h k = record { bindable = openable_append (setting env t bs) xs ys bound h k.bindable; behind = subst (IsBehind (paths_of bs) tests made) (sym (bound_append bound xs ys)) k.behind }

-- a call that may be bound, and what stands after it
next_binds : (env : Environment) (t : Term) (bs : List Binding) (tests : List Test) (next : ℕ → Option BindingId) (done : List Path) (bound : List ℕ) (c : BindingId) → EachOnce (paths_of bs) → IsBehind (paths_of bs) tests done bound
    → IsOpenable (setting env t bs) bound (at (paths_of bs) c) (slice_get bs c.0) → (h : IsSerializableCall env t tests (paths_of bs) done (at (paths_of bs) c))
    → HasNext bs next c h.kind → BindsAll env t bs tests bound (at (paths_of bs) c ∷ done) (with_inner (next c.0) c)
next_binds env t bs tests next done bound c once k call h has = pick h.kind refl has
  where
    ps : List Path
    ps = paths_of bs

    p : Path
    p = at ps c

    there : IsThere p
    there = subst IsThere (sym h.path) tt

    with_call : List ℕ
    with_call = bound ++ c.0 ∷ []

    All : Option BindingId → Type 0
    All o = BindsAll env t bs tests bound (p ∷ done) (with_inner o c)

    pick : (kind : ReturnKind) → h.kind ≡ kind → HasNext bs next c kind → All (next c.0)
    pick return_kind.Plain is (has_none e no_inner no_item) =
        subst All (sym e)
        (record { bindable = (call, tt); behind = behind_next ps tests done bound with_call c once there (by_kept (c ∷ []) bound) (Contains-push bound c.0) (adds_none ps c (Inner p) with_call tt no_inner) (adds_none ps c (Chosen p) with_call tt no_item) k })
    pick return_kind.Option is (has_inner b e stands path no_item) =
        let more = with_call ++ b.0 ∷ [] in
        subst All (sym e)
        (record {
          bindable = (call, (inner_opened env t bs tests done with_call c b h is stands path (Contains-push bound c.0), tt));
          behind = behind_next ps tests done bound more c once there (by_kept (c ∷ b ∷ []) bound) (by_kept (b ∷ []) with_call c.0 (Contains-push bound c.0)) (adds_one ps c b (Inner p) more once tt path (Contains-push with_call b.0)) (adds_none ps c (Chosen p) more tt no_item) k;
        })
    pick return_kind.Iterator is (has_item b e stands path no_inner) =
        let more = with_call ++ b.0 ∷ [] in
        subst All (sym e)
        (record {
          bindable = (call, (item_opened env t bs tests done with_call c b h is stands path (Contains-push bound c.0), tt));
          behind = behind_next ps tests done bound more c once there (by_kept (c ∷ b ∷ []) bound) (by_kept (b ∷ []) with_call c.0 (Contains-push bound c.0)) (adds_none ps c (Inner p) more tt no_inner) (adds_one ps c b (Chosen p) more once tt path (Contains-push with_call b.0)) k;
        })

module _ (env : Environment) (t : Term) (bs : List Binding) (fits : (p : Path) → Contains (paths_of bs) (Chosen p) → is_several (kind_of t.kind) ≡ true) (tests : List Test) (next : ℕ → Option BindingId) (f : FindsNext bs next) (once : EachOnce (paths_of bs)) where
  pub one_binds : (c : BindingId) (done : List Path) (bound : List ℕ) → IsBehind (paths_of bs) tests done bound → IsSerializableCall env t tests (paths_of bs) done (at (paths_of bs) c) → BindsAll env t bs tests bound (at (paths_of bs) c ∷ done) (call_binds bs next bound c)
  one_binds c done bound k h =
      let ns = needs bs bound (parameters_of (slice_get bs c.0)) in
      let r = call_bound env t bs fits tests done bound c k h in
      binds_both env t bs tests bound (at (paths_of bs) c ∷ done) ns (with_inner (next c.0) c) r.needed'
      (next_binds env t bs tests next done (bound_by bound ns) c once (behind_grows (paths_of bs) tests done bound (bound_by bound ns) (by_kept ns bound) k) r.call h (has_next env t tests bs next done c f once h))

  -- a call that was bound at the start
  pub skips_one : (start : List ℕ) (c : BindingId) (done : List Path) (bound : List ℕ) → Keeps start bound → IsBehind (paths_of bs) tests done bound → IsSerializableCall env t tests (paths_of bs) done (at (paths_of bs) c) → was_bound next start c ≡ true
      → IsBehind (paths_of bs) tests (at (paths_of bs) c ∷ done) bound
  skips_one start c done bound keeps k h e = behind_bound tests done bs next start bound c h.kind once (subst IsThere (sym h.path) tt) (has_next env t tests bs next done c f once h) e keeps k

  -- those that weren't are bound, and after them all calls were made
  pub binds_all : (start : List ℕ) (cs : List BindingId) (done : List Path) (bound : List ℕ) → Keeps start bound → IsBehind (paths_of bs) tests done bound → AreSerializableCalls env t tests (paths_of bs) done (map (at (paths_of bs)) cs)
      → BindsAll env t bs tests bound (came_behind done (map (at (paths_of bs)) cs)) (binds bs next bound (left_calls next start cs))
  binds_all start [] done bound keeps k h = record { bindable = tt; behind = k }
  binds_all start (c ∷ cs) done bound keeps k h =
      pick (was_bound next start c) refl (λ more keeps' k'. binds_all start cs (at (paths_of bs) c ∷ done) more keeps' k' h.1)
    where
      made : List Path
      made = at (paths_of bs) c ∷ done

      pick : (b : Bool) → was_bound next start c ≡ b
          → ((more : List ℕ) → Keeps start more → IsBehind (paths_of bs) tests made more → BindsAll env t bs tests more (came_behind made (map (at (paths_of bs)) cs)) (binds bs next more (left_calls next start cs)))
          → BindsAll env t bs tests bound (came_behind made (map (at (paths_of bs)) cs)) (binds bs next bound (left_one b c ++ left_calls next start cs))
      pick true e rest = rest bound keeps (skips_one start c done bound keeps k h.0 e)
      pick false e rest =
          let one = one_binds c done bound k h.0 in
          let order = call_binds bs next bound c in
          binds_both env t bs tests bound (came_behind made (map (at (paths_of bs)) cs)) order (binds bs next (bound_by bound order) (left_calls next start cs)) one.bindable
          (rest (bound_by bound order) (λ n j. by_kept order bound n (keeps n j)) one.behind)

  -- what is needed for them makes no impure call
  pub binds_still : (start : List ℕ) (cs : List BindingId) (done : List Path) (bound : List ℕ) → Keeps start bound → IsBehind (paths_of bs) tests done bound → AreSerializableCalls env t tests (paths_of bs) done (map (at (paths_of bs)) cs)
      → StillBinds env bs next (left_calls next start cs) bound
  binds_still start [] done bound keeps k h = tt
  binds_still start (c ∷ cs) done bound keeps k h =
      pick (was_bound next start c) refl (λ more keeps' k'. binds_still start cs (at (paths_of bs) c ∷ done) more keeps' k' h.1)
    where
      made : List Path
      made = at (paths_of bs) c ∷ done

      pick : (b : Bool) → was_bound next start c ≡ b → ((more : List ℕ) → Keeps start more → IsBehind (paths_of bs) tests made more → StillBinds env bs next (left_calls next start cs) more)
          → StillBinds env bs next (left_one b c ++ left_calls next start cs) bound
      pick true e rest = rest bound keeps (skips_one start c done bound keeps k h.0 e)
      pick false e rest =
          let one = one_binds c done bound k h.0 in
          let order = call_binds bs next bound c in
          ((call_bound env t bs fits tests done bound c k h.0).still, rest (bound_by bound order) (λ n j. by_kept order bound n (keeps n j)) one.behind)
