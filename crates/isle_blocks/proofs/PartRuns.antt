-- Behind the tests and the lists of a rule, its ordered calls and its result add what its part adds.
use Rattle.std.proofs.Common.{◌≡◌, ⊎_elim, ℕ, List, [], ◌∷◌, ◌++◌, Bool, true, false, IsTrue, Option, map, refl, sym, ap, ◌∙◌, subst, append_assoc}
use Rattle.std.specs.Prelude.{slice_get, Contains}
use Rattle.std.proofs.lemmas.List.{append-nil}
use Rattle.isle_core.specs.declared.BindingId.{BindingId}
use Rattle.isle_core.specs.declared.position.Pos.{Pos}
use Rattle.isle_core.specs.declared.rule_sets.Binding.{Binding}
use Rattle.isle_core.specs.declared.types.ReturnKind.{ReturnKind}
use Rattle.isle_core.specs.declared.types.ReturnKind.TheVariants as return_kind
use Rattle.isle_core.specs.declared.types.Term.{Term}
use Rattle.isle_core.specs.Bindable.{bound_by}
use Rattle.isle_core.specs.Block.{Return}
use Rattle.isle_core.specs.BlockViews.{SeenStep}
use Rattle.isle_core.specs.Calling.{calling, kind_of, is_several, may_be_nothing}
use Rattle.isle_core.specs.CallRun.{Goes, make}
use Rattle.isle_core.specs.ExternalCall.{IsCall}
use Rattle.isle_core.specs.HoldsImpure.{holds_impure}
use Rattle.isle_core.specs.Iterators.{calls_multi}
use Rattle.isle_core.specs.Meaning.{Meaning}
use Rattle.isle_core.specs.Occurrences.{occurrence_at}
use Rattle.isle_core.specs.Parts.{Given}
use Rattle.isle_core.specs.Path.{Path, Chosen, at, paths_of}
use Rattle.isle_core.specs.Rule.{Environment}
use Rattle.isle_core.specs.Serializable.{IsSerializableCall, AreSerializableCalls}
use Rattle.isle_core.specs.SeveralRun.{choosing, give_held, behind_calls, on_items, several_run}
use Rattle.isle_core.specs.SeveralSet.{Rest, behind_answer, behind_ordered}
use Rattle.isle_core.specs.StandsFor.{EachOnce}
use Rattle.isle_core.specs.Tests.{Test}
use Rattle.isle_core.specs.Value.{Value}
use Rattle.isle_core.specs.ValueAt.{Known, value_at, values_at}
use Rattle.isle_core.specs.ListOrder.{ListsWithin}
use Rattle.isle_core.proofs.Contained.{head_contained, tail_contained}
use Rattle.isle_blocks.specs.Needed.{needs, parameters_of}
use Rattle.isle_blocks.specs.Nest.{alone, opening, with_inner, call_binds, binds, was_bound, left_one, left_calls}
use Rattle.isle_blocks.proofs.Behind.{cons_cases}
use Rattle.isle_blocks.proofs.FreshLists.{IsPlainAt, ArePlainAt}
use Rattle.isle_blocks.proofs.LawBinds.{made_anyway}
use Rattle.isle_blocks.proofs.ListsRead.{HasOpened}
use Rattle.isle_blocks.proofs.MadeBefore.{next_there}
use Rattle.isle_blocks.proofs.NeededRuns.{AreStill}
use Rattle.isle_blocks.proofs.NextLaws.{FindsNext, HasNext, has_none, has_inner, has_item, has_next}
use Rattle.isle_blocks.proofs.OrderedPlain.{NoItems, PlainBinds}
use Rattle.isle_blocks.proofs.OrderedRuns.{behind_same, called_behind, by_kind, answered, often_is, items_alike, plain_run, call_run, item_run}
use Rattle.isle_blocks.proofs.StillRules.{StillBinds, AreTested}

-- a term that answers several times answers never nothing
never_nothing : (kind : ReturnKind) → is_several kind ≡ true → IsTrue (may_be_nothing kind) → ⊥
never_nothing return_kind.Plain e h = cc
never_nothing return_kind.Option e h = cc
never_nothing return_kind.Iterator e h = cc

module _ (env : Environment) (t : Term) (often : is_several (kind_of t.kind) ≡ true) (m : Meaning) (args : List Value) (bs : List Binding) (next : ℕ → Option BindingId) (found : FindsNext bs next) (once : EachOnce (paths_of bs)) (tests : List Test) (start : List ℕ) (opened : List Path) (open' : HasOpened bs start opened)
    (tested : AreTested env bs next tests start) (early : (q : Path) → Contains opened q → holds_impure env q ≡ false) (pos : Pos) (result : BindingId) where
  -- ---- a call that was bound at the start

  -- its answer is gone through already
  skipped : (c : BindingId) (done : List Path) (call : IsSerializableCall env t tests (paths_of bs) done (at (paths_of bs) c)) → was_bound next start c ≡ true → (calls_multi env (at (paths_of bs) c) ≡ true → holds_impure env (at (paths_of bs) c) ≡ true)
      → (known : Known) (g : Given) (rest : Rest) → (kind : ReturnKind) → (IsTrue (may_be_nothing kind) → ⊥) → IsCall kind (calling env call.term) → HasNext bs next c kind
      → by_kind kind (at (paths_of bs) c) (value_at env m args known (at (paths_of bs) c)) (at (paths_of bs) c ∷ done) known g rest ≡ rest (at (paths_of bs) c ∷ done) known g
  skipped c done call e late known g rest return_kind.Plain never is (has_none one no_inner no_item) = refl
  skipped c done call e late known g rest return_kind.Option never is (has_inner b one stands path no_item) = absurd (never refl)
  skipped c done call e late known g rest return_kind.Iterator never is (has_item b one stands path no_inner) =
      let p = at (paths_of bs) c in
      let within : ListsWithin opened (Chosen p) = subst (ListsWithin opened) path (open'.within b (next_there next start c b one e)) in
      let often' : calls_multi env p ≡ true = subst (λ q. calls_multi env q ≡ true) (sym call.path) (often_is (calling env call.term) is) in
      let bad : true ≡ false = sym (late often') ∙ early p within.0 in
      absurd cc

  -- and it takes no turn
  untaken : (c : BindingId) (done : List Path) (call : IsSerializableCall env t tests (paths_of bs) done (at (paths_of bs) c)) → was_bound next start c ≡ true → (known : Known) (g : Given) → make env m args (at (paths_of bs) c) known g.calls ≡ Goes known g.calls
  untaken c done call e known g =
      ap (λ q. make env m args q known g.calls) call.path ∙ made_anyway m (calling env call.term) call.instance (values_at env m args known call.parameters) known g.calls (sym (ap (occurrence_at env) call.path) ∙ (tested c e).uncalled)

  -- ---- a call that is bound here

  -- what follows a call in the order
  abbrev pub step_of : List BindingId → SeenStep
  step_of order = opening bs order (Return pos result)

  abbrev pub run_of : SeenStep → Known → Given → Given
  run_of s known g = several_run env m args (paths_of bs) (alone s) known g

  call_here : (c : BindingId) (done : List Path) (tail : List BindingId) (rest : Rest) (call : IsSerializableCall env t tests (paths_of bs) done (at (paths_of bs) c)) → IsPlainAt bs c
      → ((now : Known) (so : Given) → run_of (step_of tail) now so ≡ rest (at (paths_of bs) c ∷ done) now so) → (kind : ReturnKind) → (IsTrue (may_be_nothing kind) → ⊥) → HasNext bs next c kind → (known : Known) (g : Given)
      → run_of (step_of (with_inner (next c.0) c ++ tail)) known g
      ≡ behind_calls (make env m args (at (paths_of bs) c) known g.calls) g (λ now so. by_kind kind (at (paths_of bs) c) (value_at env m args now (at (paths_of bs) c)) (at (paths_of bs) c ∷ done) now so rest)
  call_here c done tail rest call plain h return_kind.Plain never (has_none one no_inner no_item) known g =
      let p = at (paths_of bs) c in
      ap (λ o. run_of (step_of (with_inner o c ++ tail)) known g) one
      ∙ call_run env m args bs c (step_of tail) call.term call.parameters call.instance known g plain call.path
      ∙ behind_same (make env m args p known g.calls) g (run_of (step_of tail)) (λ now so. rest (p ∷ done) now so) h
  call_here c done tail rest call plain h return_kind.Option never (has_inner b one stands path no_item) known g = absurd (never refl)
  call_here c done tail rest call plain h return_kind.Iterator never (has_item b one stands path no_inner) known g =
      let p = at (paths_of bs) c in
      ap (λ o. run_of (step_of (with_inner o c ++ tail)) known g) one
      ∙ call_run env m args bs c (step_of (b ∷ tail)) call.term call.parameters call.instance known g plain call.path
      ∙ behind_same (make env m args p known g.calls) g (run_of (step_of (b ∷ tail))) (λ now so. on_items p (value_at env m args now p) now so (rest (p ∷ done)))
      (λ k so. item_run env m args bs c b (step_of tail) k so stands path ∙ items_alike p (value_at env m args k p) k so (run_of (step_of tail)) (rest (p ∷ done)) (λ j x. h (choosing k p j) x))

  -- ---- calls in order

  -- what the result's value adds
  abbrev pub gives : Rest
  gives done now so = give_held (value_at env m args now (at (paths_of bs) result)) so

  pub ordered_run : (ns : List BindingId) → AreStill env (paths_of bs) ns → NoItems bs ns → (cs : List BindingId) (bound : List ℕ) (done : List Path) → AreSerializableCalls env t tests (paths_of bs) done (map (at (paths_of bs)) cs) → ArePlainAt bs cs
      → StillBinds env bs next (left_calls next start cs) bound → PlainBinds bs next (left_calls next start cs) bound → EachOnce (map (at (paths_of bs)) cs) → ((q : Path) → Contains done q → Contains (map (at (paths_of bs)) cs) q → ⊥)
      → ((q : Path) → Contains (map (at (paths_of bs)) cs) q → calls_multi env q ≡ true → holds_impure env q ≡ true) → (known : Known) (g : Given)
      → run_of (step_of (binds bs next bound (left_calls next start cs) ++ ns)) known g ≡ behind_ordered env m args (map (at (paths_of bs)) cs) done known g gives
  ordered_run ns ns_still ns_plain [] bound done calls plain still none apart new late known g =
      ap (λ xs. run_of (step_of xs) known g) (sym (append-nil ns)) ∙ plain_run env m args bs ns [] (Return pos result) ns_still ns_plain known g
  ordered_run ns ns_still ns_plain (c ∷ cs) bound done calls plain still none apart new late known g =
      pick (was_bound next start c) refl still none
      (λ more still' none' now so. ordered_run ns ns_still ns_plain cs more (p ∷ done) calls.1 plain.1 still' none' apart.1 fresh (λ q j. late q (tail_contained p (map (at (paths_of bs)) cs) q j)) now so)
    where
      p : Path
      p = at (paths_of bs) c

      left : List BindingId
      left = left_calls next start cs

      call : IsSerializableCall env t tests (paths_of bs) done p
      call = calls.0

      rest : Rest
      rest here now so = behind_ordered env m args (map (at (paths_of bs)) cs) here now so gives

      fresh : (q : Path) → Contains (p ∷ done) q → Contains (map (at (paths_of bs)) cs) q → ⊥
      fresh q j k = ⊎_elim (λ e. apart.0 (subst (Contains (map (at (paths_of bs)) cs)) (sym e) k)) (λ i. new q i (tail_contained p (map (at (paths_of bs)) cs) q k)) (cons_cases p q done j)

      late_here : calls_multi env p ≡ true → holds_impure env p ≡ true
      late_here e = late p (head_contained p (map (at (paths_of bs)) cs)) e

      never : IsTrue (may_be_nothing call.kind) → ⊥
      never nothing = never_nothing (kind_of t.kind) often (call.fits nothing)

      has : HasNext bs next c call.kind
      has = has_next env t tests bs next done c found once call

      -- in the rule's part
      goes : behind_ordered env m args (p ∷ map (at (paths_of bs)) cs) done known g gives
          ≡ behind_calls (make env m args p known g.calls) g (λ now so. by_kind call.kind p (value_at env m args now p) (p ∷ done) now so rest)
      goes =
          called_behind env m args p call.term call.parameters call.instance done known g rest call.path (λ j. new p j (head_contained p (map (at (paths_of bs)) cs)))
          ∙ behind_same (make env m args p known g.calls) g (λ now so. behind_answer (calling env call.term) p (value_at env m args now p) (p ∷ done) now so rest) (λ now so. by_kind call.kind p (value_at env m args now p) (p ∷ done) now so rest)
          (λ k so. answered call.kind (calling env call.term) p (value_at env m args k p) (p ∷ done) k so rest call.external)

      pick : (b : Bool) → was_bound next start c ≡ b → StillBinds env bs next (left_one b c ++ left) bound → PlainBinds bs next (left_one b c ++ left) bound
          → ((more : List ℕ) → StillBinds env bs next left more → PlainBinds bs next left more → (now : Known) (so : Given) → run_of (step_of (binds bs next more left ++ ns)) now so ≡ rest (p ∷ done) now so)
          → run_of (step_of (binds bs next bound (left_one b c ++ left) ++ ns)) known g ≡ behind_ordered env m args (p ∷ map (at (paths_of bs)) cs) done known g gives
      pick true e k n h =
          h bound k n known g
          ∙ sym (skipped c done call e late_here known g rest call.kind never call.external has)
          ∙ sym (ap (λ w. behind_calls w g (λ now so. by_kind call.kind p (value_at env m args now p) (p ∷ done) now so rest)) (untaken c done call e known g))
          ∙ sym goes
      pick false e k n h =
          let reads = needs bs bound (parameters_of (slice_get bs c.0)) in
          let more = bound_by bound (call_binds bs next bound c) in
          let tail = binds bs next more left ++ ns in
          ap (λ xs. run_of (step_of xs) known g) (append_assoc (reads ++ with_inner (next c.0) c) (binds bs next more left) ns ∙ append_assoc reads (with_inner (next c.0) c) tail)
          ∙ plain_run env m args bs reads (with_inner (next c.0) c ++ tail) (Return pos result) k.0 n.0 known g
          ∙ call_here c done tail rest call plain.0 (h more k.1 n.1) call.kind never has known g
          ∙ sym goes
