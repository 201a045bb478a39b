-- What follows an answer, with each item of a list, is what follows the call.
use Rattle.std.proofs.Common.{◌≡◌, inl, inr, ℕ, suc, ◌+◌, ◌≤◌, List, [], ◌∷◌, map, true, false, cond, Option, Some, None, refl, sym, ap, ◌∙◌, arith}
use Rattle.std.specs.Prelude.{◌||◌, option_map, slice_get}
use Rattle.std.proofs.lemmas.Option.{slice_get-map}
use Rattle.isle_base.specs.declared.ids.TermId.{TermId}
use Rattle.isle_core.specs.declared.types.ReturnKind.{ReturnKind}
use Rattle.isle_core.specs.declared.types.ReturnKind.TheVariants as return_kind
use Rattle.isle_core.specs.declared.values.Callee.{Callee}
use Rattle.isle_core.specs.Answered.{Item, AValue, Held, Listed, a_value, an_option, answer_held}
use Rattle.isle_core.specs.Calling.{ByTurns, ByCases, calling, answers_often, is_fallible, is_several, may_be_nothing}
use Rattle.isle_core.specs.CallRun.{take_turn, make_call}
use Rattle.isle_core.specs.Choice.{Choice}
use Rattle.isle_core.specs.HoldsImpure.{takes_turn, holds_impure, hold_impure}
use Rattle.isle_core.specs.Iterators.{calls_multi}
use Rattle.isle_core.specs.Meaning.{Meaning, turn, case}
use Rattle.isle_core.specs.Opening.{answer_path}
use Rattle.isle_core.specs.OrderedCalls.{if_ordered}
use Rattle.isle_core.specs.Parts.{Given, call_made, Taken, take_item, Next, on_item, on_each, on_taken, on_answer, on_call}
use Rattle.isle_core.specs.Path.{Path, Called, Chosen, Inner, Paths}
use Rattle.isle_core.specs.Rule.{Environment}
use Rattle.isle_core.specs.SeveralRun.{choosing, behind_calls, on_turns, on_items}
use Rattle.isle_core.specs.SeveralSet.{is_among, Rest, behind_answer, behind_call, behind_ordered}
use Rattle.isle_core.specs.Value.{Value}
use Rattle.isle_core.specs.ValueAt.{Known, answered_too, held_of, case_held, call_held, item_at, chosen_held, inner_held, is_found, value_at, values_at}
use Rattle.isle_core.proofs.AnsweredTerms.{IsOfKind}
use Rattle.isle_core.proofs.CallsFollow.{with_here, with_else}
use Rattle.isle_core.proofs.KnownAnswers.{IsUpTo, AreUpTo, up_to_more, all_up_to_more}
use Rattle.isle_core.proofs.SamePathLaws.{same_self}
use Rattle.isle_core.proofs.TakenItems.{TakesOf, AllTake, GoesThrough, through_self, through_more, takes_on, KeptTo, kept_to_self, kept_to_on, settled_stays, GoesSo, IsNewList, fallible_at, by_truth, choosing_kept, chosen_here, item_taken, call_done}

item_is : (o : Option Item) (v : Value) → item_at o ≡ a_value v → o ≡ Some (AValue v)
item_is None v e = cc
item_is (Some i) v e = let same : i ≡ AValue v = cc in ap Some same

module _ (env : Environment) (m : Meaning) (args : List Value) (choice : Choice) where
  -- a value that was reached stands at its path, what was known is kept, and what goes along is so
  pub record ReachedEach (n n' : ℕ) (done later : List Path) (known known' : Known) (taken : Taken) (p : Path) (v : Value) : Type 0 where
    pub held : value_at env m args known' p ≡ a_value v
    pub kept : KeptTo env n done known known'
    pub state : GoesSo env m args choice n' taken later known'
    pub takes : TakesOf env later p
    pub through : GoesThrough done later

  -- what follows each value is what follows the calls
  abbrev pub NextSo : (n n' : ℕ) → List Path → Known → Path → Next → Rest → Type 0
  NextSo n n' done known p next rest =
      (v : Value) (taken : Taken) (later : List Path) (known' : Known) (g : Given) → ReachedEach n n' done later known known' taken p v → next v taken g ≡ rest later known' g

  -- ---- the items of a list

  module _ (n n' : ℕ) (done : List Path) (known known1 : Known) (p : Path) (taken : Taken) (vs : List Value) (next : Next) (rest : Rest) (le : n ≤ n') (kept : KeptTo env n done known known1) (state : GoesSo env m args choice n' taken done known1)
      (new : IsNewList env n' done p) (is : value_at env m args known1 p ≡ Listed (map AValue vs)) (so : NextSo n n' done known (Chosen p) next rest) where
    here : (place : ℕ) (v : Value) → slice_get vs place ≡ Some v → value_at env m args (choosing known1 p place) (Chosen p) ≡ a_value v
    here place v there = chosen_here env m args n' done p place known1 new ∙ ap (chosen_held place) is ∙ ap item_at (slice_get-map AValue vs place) ∙ ap (λ o. item_at (option_map AValue o)) there

    turn_so : (place : ℕ) (v : Value) (g : Given) → slice_get vs place ≡ Some v → next v (take_item taken p place) g ≡ rest (p ∷ done) (choosing known1 p place) g
    turn_so place v g there = so v (take_item taken p place) (p ∷ done) (choosing known1 p place) g (record {
      held = here place v there;
      kept = kept_to_on env n n' done done known known1 (choosing known1 p place) le (through_self done) kept (choosing_kept env n' done p place known1 new);
      state = item_taken env m args choice n' taken done known1 p place v state new (here place v there);
      takes = (inr (ap (λ b. b || is_among p done) (same_self p)), takes_on p env done (p ∷ done) (through_more p done) new.reads);
      through = through_more p done;
    })

    from_place : (us : List Value) (place : ℕ) (g : Given) → ((i : ℕ) (v : Value) → slice_get us i ≡ Some v → slice_get vs (i + place) ≡ Some v)
        → on_each p (map AValue us) place taken g next ≡ on_turns p (map AValue us) place known1 g (rest (p ∷ done))
    from_place [] place g at = refl
    from_place (u ∷ us) place g at =
        ap (λ x. on_each p (map AValue us) (place + 1) taken x next) (turn_so place u g (ap (slice_get vs) (first place) ∙ at 0 u refl))
        ∙ from_place us (place + 1) (rest (p ∷ done) (choosing known1 p place) g) (λ i v e. ap (slice_get vs) (later i place) ∙ at (suc i) v e)
      where
        first : (k : ℕ) → k ≡ 0 + k
        first k = omega arith

        later : (i k : ℕ) → i + (k + 1) ≡ suc i + k
        later i k = omega arith

    pub loop_follows : (g : Given) → on_each p (map AValue vs) 0 taken g next ≡ on_turns p (map AValue vs) 0 known1 g (rest (p ∷ done))
    loop_follows g = from_place vs 0 g (λ i v e. ap (slice_get vs) (none i) ∙ e)
      where
        none : (i : ℕ) → i + 0 ≡ i
        none i = omega arith

  -- ---- an answer

  -- what follows an answer of this kind, at a path that holds an impure call
  abbrev after_kind : ReturnKind → Path → Held → List Path → Known → Given → Rest → Given
  after_kind kind p h done known g rest =
      cond (is_several kind) (on_items p h known g (rest (p ∷ done))) (cond (may_be_nothing kind) (cond (is_found h) (rest (p ∷ done) known g) g) (rest (p ∷ done) known g))

  abbrev kind_path : ReturnKind → Path → Path
  kind_path kind p = cond (is_several kind) (Chosen p) (cond (may_be_nothing kind) (Inner p) p)

  -- a list that is gone through already gives the item that is taken
  again_so : (n n' : ℕ) (done : List Path) (known known1 : Known) (p : Path) (taken : Taken) (is : List Item) (g : Given) (next : Next) (rest : Rest) (place : ℕ) → KeptTo env n done known known1 → GoesSo env m args choice n' taken done known1 → TakesOf env done (Chosen p) → known1.choice p ≡ place
      → value_at env m args known1 p ≡ Listed is → (v : Value) × (value_at env m args known1 (Chosen p) ≡ a_value v) → NextSo n n' done known (Chosen p) next rest → on_item (slice_get is place) taken g next ≡ rest done known1 g
  again_so n n' done known known1 p taken is g next rest place kept state takes e at there so =
      let item : slice_get is place ≡ Some (AValue there.0) = item_is (slice_get is place) there.0 (ap (λ i. item_at (slice_get is i)) (sym e) ∙ sym (ap (chosen_held (known1.choice p)) at) ∙ there.1) in
      ap (λ o. on_item o taken g next) item ∙ so there.0 taken done known1 g (record { held = there.1; kept = kept; state = state; takes = takes; through = through_self done })

  -- a call of this kind at a path
  abbrev IsOfCalling : ReturnKind → Path → Type 0
  IsOfCalling kind p = (calls_multi env p ≡ is_several kind) × (fallible_at env p ≡ may_be_nothing kind)

  answer_each : (n n' : ℕ) (done : List Path) (known known1 : Known) (taken : Taken) (g : Given) (p : Path) (kind : ReturnKind) (h : Held) (next : Next) (rest : Rest) → IsOfKind kind h → value_at env m args known1 p ≡ h → n ≤ n' → KeptTo env n done known known1
      → GoesSo env m args choice n' taken done known1 → IsUpTo n' p → TakesOf env done p → holds_impure env p ≡ true → is_among p done ≡ false → IsOfCalling kind p → NextSo n n' done known (kind_path kind p) next rest
      → on_answer true choice p h taken g next ≡ after_kind kind p h done known1 g rest
  answer_each n n' done known known1 taken g p return_kind.Plain h next rest (v, e) at le kept state up takes late new of so =
      ap (λ x. on_answer true choice p x taken g next) e
      ∙ so v taken (p ∷ done) known1 g (record {
        held = at ∙ e;
        kept = kept;
        state = call_done env m args choice n' taken done known1 p state up takes of.0 (λ f. let bad : true ≡ false = sym f ∙ of.1 in absurd cc);
        takes = takes_on p env done (p ∷ done) (through_more p done) takes;
        through = through_more p done;
      })
  answer_each n n' done known known1 taken g p return_kind.Option h next rest (None, e) at le kept state up takes late new of so = rw e refl
  answer_each n n' done known known1 taken g p return_kind.Option h next rest (Some v, e) at le kept state up takes late new of so =
      ap (λ x. on_answer true choice p x taken g next) e
      ∙ so v taken (p ∷ done) known1 g (record {
        held = ap inner_held (at ∙ e);
        kept = kept;
        state = call_done env m args choice n' taken done known1 p state up takes of.0 (λ f. (v, ap inner_held (at ∙ e)));
        takes = takes_on p env done (p ∷ done) (through_more p done) takes;
        through = through_more p done;
      })
      ∙ sym (ap (λ x. cond (is_found x) (rest (p ∷ done) known1 g) g) e)
  answer_each n n' done known known1 taken g p return_kind.Iterator h next rest (vs, e) at le kept state up takes late new of so =
      ap (λ x. on_answer true choice p x taken g next) e ∙ ap (λ o. on_taken o p (map AValue vs) taken g next) (state.none p new)
      ∙ loop_follows n n' done known known1 p taken vs next rest le kept state (record { late = late; list = of.1; new = new; up_to = up; reads = takes }) (at ∙ e) so g
      ∙ sym (ap (λ x. on_items p x known1 g (rest (p ∷ done))) e)

  -- ---- an impure call

  call_late : (term : TermId) (ps : Paths) (k : ℕ) (callee : Callee) (kind : ReturnKind) → calling env term ≡ ByTurns callee kind → holds_impure env (Called term ps k) ≡ true
  call_late term ps k callee kind e = ap (λ c. takes_turn c || hold_impure env ps) e

  pub turn_each : (n : ℕ) (done : List Path) (known : Known) (taken : Taken) (g : Given) (term : TermId) (ps : Paths) (callee : Callee) (kind : ReturnKind) (vs : List Value) (next : Next) (rest : Rest) → calling env term ≡ ByTurns callee kind → IsOfKind kind (answer_held (turn m callee g.calls))
      → values_at env m args known ps ≡ Some vs → AreUpTo n ps → AllTake env done ps → GoesSo env m args choice n taken done known → NextSo n (suc n) done known (answer_path (ByTurns callee kind) (Called term ps (suc n))) next rest
      → on_call env m choice (ByTurns callee kind) (Called term ps (suc n)) vs taken g next ≡ behind_call env m args (Called term ps (suc n)) done known g rest
  turn_each n done known taken g term ps callee kind vs next rest e of_kind is up takes state so =
      let a = turn m callee g.calls in
      let p = Called term ps (suc n) in
      let known1 = answered_too known (suc n) a in
      let g1 = call_made g (record { callee = callee; args = vs }) in
      let late = call_late term ps (suc n) callee kind e in
      let new : is_among p done ≡ false = by_truth (is_among p done) (λ among. let up_p = state.up_to p among in let high : suc n ≤ n = up_p.0 in let bad : ⊥ = omega arith in absurd bad) (λ f. f) in
      let of : IsOfCalling kind p = (ap answers_often e, ap is_fallible e) in
      let here : known1.answers (suc n) ≡ Some a = with_here known.answers (suc n) a in
      let run : behind_call env m args p done known g rest ≡ after_kind kind p (answer_held a) done known1 g1 rest =
      ap (λ b. cond b (rest done known g) (behind_calls (make_call m (calling env term) (suc n) (values_at env m args known ps) known g.calls) g (λ now made. behind_answer (calling env term) p (value_at env m args now p) (p ∷ done) now made rest))) new
      ∙ ap (λ c. behind_calls (make_call m c (suc n) (values_at env m args known ps) known g.calls) g (λ now made. behind_answer c p (call_held m c (now.answers (suc n)) (values_at env m args now ps)) (p ∷ done) now made rest)) e
      ∙ ap (λ o. behind_calls (take_turn m callee (suc n) (known.answers (suc n)) o known g.calls) g (λ now made. behind_answer (ByTurns callee kind) p (held_of (now.answers (suc n))) (p ∷ done) now made rest)) is
      ∙ ap (λ o. behind_calls (take_turn m callee (suc n) o (Some vs) known g.calls) g (λ now made. behind_answer (ByTurns callee kind) p (held_of (now.answers (suc n))) (p ∷ done) now made rest)) (state.fresh.by (suc n) (omega arith))
      ∙ ap (λ o. behind_answer (ByTurns callee kind) p (held_of o) (p ∷ done) known1 g1 rest) here in
      let at : value_at env m args known1 p ≡ answer_held a = ap (λ c. call_held m c (known1.answers (suc n)) (values_at env m args known1 ps)) e ∙ ap held_of here in
      let kept : KeptTo env n done known known1 = record { by = λ j low. with_else known.answers (suc n) j a (λ (q : suc n ≡ j). let bad : ⊥ = omega arith in bad); choice = λ q s. refl } in
      let state1 : GoesSo env m args choice (suc n) taken done known1 = record {
        fresh = record { by = λ j lt. with_else known.answers (suc n) j a (λ (q : suc n ≡ j). let bad : ⊥ = omega arith in bad) ∙ state.fresh.by j (omega arith) };
        up_to = λ q among. up_to_more q n (suc n) (omega arith) (state.up_to q among);
        reads = state.reads;
        some = state.some;
        none = state.none;
        early = state.early;
        there = λ q among list. let old = state.there q among list in (old.0, settled_stays (Chosen q) env m args n done known known1 (state.up_to q among) (inr among, state.reads q among) kept ∙ old.1);
        found = λ q among fallible. let old = state.found q among fallible in (old.0, settled_stays (Inner q) env m args n done known known1 (state.up_to q among) (state.reads q among) kept ∙ old.1);
      } in
      let up1 : suc n ≤ suc n = omega arith in
      ap (λ b. on_answer b choice p (answer_held a) taken g1 next) late
      ∙ answer_each n (suc n) done known known1 taken g1 p kind (answer_held a) next rest of_kind at (omega arith) kept state1 (up1, all_up_to_more ps n (suc n) (omega arith) up) takes late new of so
      ∙ sym run

  -- ---- a pure call

  -- of a list without an impure call the chosen item is there
  abbrev pub HasItem : ReturnKind → Known → Path → Type 0
  HasItem kind known p = is_several kind ≡ true → holds_impure env p ≡ false → (v : Value) × (value_at env m args known (Chosen p) ≡ a_value v)

  module _ (n : ℕ) (done : List Path) (known : Known) (taken : Taken) (g : Given) (term : TermId) (ps : Paths) (callee : Callee) (vs : List Value) (next : Next) (rest : Rest) (is : values_at env m args known ps ≡ Some vs) (up : AreUpTo n ps) (takes : AllTake env done ps)
      (state : GoesSo env m args choice n taken done known) where
    abbrev p : Path
    p = Called term ps 0

    abbrev h : Held
    h = answer_held (case m callee vs)

    at_kind : (of : ReturnKind) → calling env term ≡ ByCases callee of → value_at env m args known p ≡ h
    at_kind of q = ap (λ c. call_held m c (known.answers 0) (values_at env m args known ps)) q ∙ ap (case_held m (ByCases callee of)) is

    of_calling : (of : ReturnKind) → calling env term ≡ ByCases callee of → IsOfCalling of p
    of_calling of q = (ap answers_often q, ap is_fallible q)

    -- the call makes none, and its answer stands at its path
    call_runs : (of : ReturnKind) → calling env term ≡ ByCases callee of → is_among p done ≡ false → behind_call env m args p done known g rest ≡ after_kind of p h done known g rest
    call_runs of q new =
        ap (λ b. cond b (rest done known g) (behind_calls (make_call m (calling env term) 0 (values_at env m args known ps) known g.calls) g (λ now made. behind_answer (calling env term) p (value_at env m args now p) (p ∷ done) now made rest))) new
        ∙ ap (λ c. behind_calls (make_call m c 0 (values_at env m args known ps) known g.calls) g (λ now made. behind_answer c p (value_at env m args now p) (p ∷ done) now made rest)) q
        ∙ ap (λ x. behind_answer (ByCases callee of) p x (p ∷ done) known g rest) (at_kind of q)

    -- one that is made already is passed over
    passes : is_among p done ≡ true → behind_call env m args p done known g rest ≡ rest done known g
    passes among = ap (λ b. cond b (rest done known g) (behind_calls (make_call m (calling env term) 0 (values_at env m args known ps) known g.calls) g (λ now made. behind_answer (calling env term) p (value_at env m args now p) (p ∷ done) now made rest))) among

    kept : KeptTo env n done known known
    kept = kept_to_self env n done known

    up_p : IsUpTo n p
    up_p = let least : 0 ≤ n = omega arith in (least, up)

    -- what is found again
    found_again : (o : Option Value) (v : Value) → inner_held (an_option o) ≡ a_value v → o ≡ Some v
    found_again None v a = cc
    found_again (Some w) v a = let same : w ≡ v = cc in ap Some same

    pub case_each : (of : ReturnKind) → calling env term ≡ ByCases callee of → IsOfKind of h → HasItem of known p → NextSo n n done known (answer_path (ByCases callee of) p) next rest
        → on_call env m choice (ByCases callee of) p vs taken g next ≡ behind_ordered env m args (if_ordered env (ByCases callee of) p) done known g rest
    case_each return_kind.Plain q (v, a) there s =
        ap (λ x. on_answer (holds_impure env p) choice p x taken g next) a ∙ s v taken done known g (record { held = at_kind return_kind.Plain q ∙ a; kept = kept; state = state; takes = takes; through = through_self done })
    case_each return_kind.Option q (o, a) there s = by_truth (is_among p done)
        (λ among.
        let old = state.found p among (ap is_fallible q) in
        let e : o ≡ Some old.0 = found_again o old.0 (sym (ap inner_held (at_kind return_kind.Option q ∙ a)) ∙ old.1) in
        ap (λ x. on_answer (holds_impure env p) choice p x taken g next) (a ∙ ap an_option e) ∙ s old.0 taken done known g (record { held = old.1; kept = kept; state = state; takes = takes; through = through_self done }) ∙ sym (passes among))
        (λ new. option_new o a new)
      where
        option_new : (o : Option Value) → h ≡ an_option o → is_among p done ≡ false → on_call env m choice (ByCases callee return_kind.Option) p vs taken g next ≡ behind_call env m args p done known g rest
        option_new None a new = ap (λ x. on_answer (holds_impure env p) choice p x taken g next) a ∙ sym (call_runs return_kind.Option q new ∙ ap (λ x. cond (is_found x) (rest (p ∷ done) known g) g) a)
        option_new (Some v) a new =
            ap (λ x. on_answer (holds_impure env p) choice p x taken g next) a
            ∙ s v taken (p ∷ done) known g (record {
              held = ap inner_held (at_kind return_kind.Option q ∙ a);
              kept = kept;
              state = call_done env m args choice n taken done known p state up_p takes (of_calling return_kind.Option q).0 (λ f. (v, ap inner_held (at_kind return_kind.Option q ∙ a)));
              takes = takes_on p env done (p ∷ done) (through_more p done) takes;
              through = through_more p done;
            })
            ∙ sym (call_runs return_kind.Option q new ∙ ap (λ x. cond (is_found x) (rest (p ∷ done) known g) g) a)
    case_each return_kind.Iterator q (us, a) there s =
        let low : n ≤ n = omega arith in
        by_truth (holds_impure env p)
        (λ late. by_truth (is_among p done)
        (λ among. ap (λ b. on_answer b choice p h taken g next) late ∙ ap (λ x. on_answer true choice p x taken g next) a ∙ ap (λ o. on_taken o p (map AValue us) taken g next) (state.some p among (of_calling return_kind.Iterator q).0)
        ∙ again_so n n done known known p taken (map AValue us) g next rest (known.choice p) kept state (inr among, takes) refl (at_kind return_kind.Iterator q ∙ a) (state.there p among (of_calling return_kind.Iterator q).0) s
        ∙ sym (passes among) ∙ sym (ap (λ b. behind_ordered env m args (cond b (p ∷ []) []) done known g rest) late))
        (λ new. ap (λ b. on_answer b choice p h taken g next) late
        ∙ answer_each n n done known known taken g p return_kind.Iterator h next rest (us, a) (at_kind return_kind.Iterator q) low kept state up_p takes late new (of_calling return_kind.Iterator q) s
        ∙ sym (call_runs return_kind.Iterator q new) ∙ sym (ap (λ b. behind_ordered env m args (cond b (p ∷ []) []) done known g rest) late)))
        (λ early. ap (λ b. on_answer b choice p h taken g next) early ∙ ap (λ x. on_answer false choice p x taken g next) a
        ∙ again_so n n done known known p taken (map AValue us) g next rest (choice p) kept state (inl early, takes) (state.early p early) (at_kind return_kind.Iterator q ∙ a) (there refl early) s
        ∙ sym (ap (λ b. behind_ordered env m args (cond b (p ∷ []) []) done known g rest) early))
