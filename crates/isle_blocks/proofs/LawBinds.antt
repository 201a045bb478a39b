-- Binding calls, each with its inner value, is running them.
use Rattle.std.proofs.Common.{◌≡◌, ⊎_elim, ℕ, List, [], ◌∷◌, ◌++◌, Bool, true, false, cond, Option, Some, None, map, refl, sym, ap, ◌∙◌, subst, append_assoc}
use Rattle.std.specs.Prelude.{◌&&◌, slice_get, Contains}
use Rattle.std.specs.List.{list_all}
use Rattle.std.proofs.lemmas.List.{append-nil}
use Rattle.isle_core.specs.declared.types.ReturnKind.{ReturnKind}
use Rattle.isle_core.specs.declared.types.ReturnKind.TheVariants as return_kind
use Rattle.isle_core.specs.declared.values.Callee.{Callee}
use Rattle.isle_core.specs.Choice.{Choice, first_items}
use Rattle.isle_core.specs.declared.BindingId.{BindingId}
use Rattle.isle_core.specs.declared.TermId.{TermId}
use Rattle.isle_core.specs.declared.rule_sets.Binding.{Binding}
use Rattle.isle_core.specs.declared.rule_sets.Constraint.TheVariants as constraint
use Rattle.isle_core.specs.declared.rule_sets.FlatRule.{FlatRule}
use Rattle.isle_core.specs.declared.types.Term.{Term}
use Rattle.isle_core.specs.Value.{Value, Answer, Made}
use Rattle.isle_core.specs.Meaning.{Meaning}
use Rattle.isle_core.specs.Calling.{Calling, ByTurns, ByCases, NoCall, calling, kind_of, is_several, may_be_nothing, is_fallible}
use Rattle.isle_core.specs.Path.{Path, Called, Paths, at, paths_of}
use Rattle.isle_core.specs.ValueAt.{Held, Absent, One, Optional, Listed, Known, nothing_known, value_at, values_at, is_found, holds, all_hold}
use Rattle.isle_core.specs.Bindable.{bound_by}
use Rattle.isle_core.specs.CallRun.{Went, Goes, Ends, then_go, take_turn, make_call, make, unless_nothing, check_call, run_call, run_calls}
use Rattle.isle_core.specs.BlockRun.{bind_one, bind_all}
use Rattle.isle_core.specs.ExternalCall.{IsCall}
use Rattle.isle_core.specs.Occurrences.{occurrence, occurrence_at, occurrences}
use Rattle.isle_core.specs.StandsFor.{EachOnce}
use Rattle.isle_core.specs.Tests.{Test, Is}
use Rattle.isle_core.specs.Serializable.{IsSerializableCall, AreSerializableCalls, constraint_tests}
use Rattle.isle_core.specs.Rule.{Environment}
use Rattle.isle_blocks.specs.Needed.{needs, parameters_of}
use Rattle.isle_blocks.specs.Nest.{with_inner, call_binds, binds, was_bound, left_one, left_calls, left_items, behind_lists, last_binds}
use Rattle.isle_core.proofs.BindingPaths.{inner_path}
use Rattle.isle_core.proofs.Contained.{contained_cases, none_contained}
use Rattle.isle_core.proofs.FirstCalls.{IfGoes}
use Rattle.isle_core.proofs.HeldStays.{IsThere as IsHeld, held_stays}
use Rattle.isle_blocks.proofs.NeededRuns.{AreStill, goes_on, then_twice, before_still, behind_still, needs_uncalled, occurrences_append}
use Rattle.isle_blocks.proofs.NextLaws.{FindsNext, HasNext, has_none, has_inner, has_item, has_next}
use Rattle.isle_blocks.proofs.ItemPaths.{item_path}
use Rattle.isle_blocks.proofs.StillRules.{StillBinds, WasTested, AreTested, StillBehind, StillLast}

-- ---- one call

-- binding a call makes it
pub call_made : (env : Environment) (m : Meaning) (args : List Value) (p : Path) (term : TermId) (ps : Paths) (instance : ℕ) (known : Known) (made : List Made) → p ≡ Called term ps instance
    → bind_one env m args p known made ≡ make env m args p known made
call_made env m args p term ps instance known made e =
    subst (λ q. bind_one env m args q known made ≡ make env m args q known made) (sym e) (goes_on (make env m args (Called term ps instance) known made))

fallible_is : (kind : ReturnKind) (c : Calling) → IsCall kind c → is_fallible c ≡ may_be_nothing kind
fallible_is kind (ByTurns callee of) h = ap may_be_nothing h
fallible_is kind (ByCases callee of) h = ap may_be_nothing h
fallible_is kind NoCall h = absurd h

-- a call may fail or is not checked
checked : (partial : Bool) (kind : ReturnKind) (env : Environment) (m : Meaning) (args : List Value) (p : Path) (term : TermId) (ps : Paths) (instance : ℕ) (known : Known) (made : List Made) → p ≡ Called term ps instance → may_be_nothing kind ≡ partial → IsCall kind (calling env term)
    → check_call env m args p known made ≡ cond partial (unless_nothing (value_at env m args known p) known made) (Goes known made)
checked partial kind env m args p term ps instance known made e is h =
    subst (λ q. check_call env m args q known made ≡ cond partial (unless_nothing (value_at env m args known q) known made) (Goes known made)) (sym e)
    (ap (λ b. cond b (unless_nothing (value_at env m args known (Called term ps instance)) known made) (Goes known made)) (fallible_is kind (calling env term) h ∙ is))

-- ---- items that are chosen stay so

-- these items are chosen
abbrev pub Chooses : Choice → Known → List Made → Type 0
Chooses choice known made = known.choice ≡ choice

turn_chooses : (m : Meaning) (callee : Callee) (instance : ℕ) (o : Option Answer) (vs : Option (List Value)) (known : Known) (made : List Made) → IfGoes (take_turn m callee instance o vs known made) (Chooses known.choice)
turn_chooses m callee instance (Some a) vs known made = refl
turn_chooses m callee instance None (Some vs) known made = refl
turn_chooses m callee instance None None known made = refl

call_chooses : (m : Meaning) (c : Calling) (instance : ℕ) (vs : Option (List Value)) (known : Known) (made : List Made) → IfGoes (make_call m c instance vs known made) (Chooses known.choice)
call_chooses m (ByTurns callee kind) instance vs known made = turn_chooses m callee instance (known.answers instance) vs known made
call_chooses m (ByCases callee kind) instance vs known made = refl
call_chooses m NoCall instance vs known made = refl

pub make_chooses : (env : Environment) (m : Meaning) (args : List Value) (p : Path) (known : Known) (made : List Made) → IfGoes (make env m args p known made) (Chooses known.choice)
make_chooses env m args (Called term ps instance) known made = call_chooses m (calling env term) instance (values_at env m args known ps) known made
make_chooses env m args p known made = refl

-- a check changes nothing
unless_goes : (h : Held) (known : Known) (made : List Made) (P : Known → List Made → Type 0) → P known made → IfGoes (unless_nothing h known made) P
unless_goes (Optional None) known made P is = tt
unless_goes (Optional (Some i)) known made P is = is
unless_goes Absent known made P is = is
unless_goes (One i) known made P is = is
unless_goes (Listed is') known made P is = is

-- two runs that are the same if this holds
then_kept : (w : Went) (P : Known → List Made → Type 0) (f g : Known → List Made → Went) → IfGoes w P → ((known : Known) (made : List Made) → P known made → f known made ≡ g known made) → then_go w f ≡ then_go w g
then_kept (Goes known made) P f g p h = h known made p
then_kept (Ends o) P f g p h = refl

-- a call with what stands after it, before others
one_run : (env : Environment) (m : Meaning) (args : List Value) (bs : List Binding) (next : ℕ → Option BindingId) (c : BindingId) (term : TermId) (parameters : Paths) (instance : ℕ) (rest : List BindingId) (more : List Path) (choice : Choice)
    → at (paths_of bs) c ≡ Called term parameters instance
    → ((known : Known) (made : List Made) → Chooses choice known made → bind_all env m args (paths_of bs) rest known made ≡ run_calls env m args more known made)
    → (kind : ReturnKind) → is_several kind ≡ false → IsCall kind (calling env term) → HasNext bs next c kind
    → (known : Known) (made : List Made) → Chooses choice known made → bind_all env m args (paths_of bs) (with_inner (next c.0) c ++ rest) known made ≡ run_calls env m args (at (paths_of bs) c ∷ more) known made
one_run env m args bs next c term parameters instance rest more choice is same return_kind.Plain once call (has_none e no_inner no_item) known made chooses =
    let ps = paths_of bs in
    let p = at ps c in
    ap (λ o. bind_all env m args ps (with_inner o c ++ rest) known made) e
    ∙ ap (λ w. then_go w (bind_all env m args ps rest)) (call_made env m args p term parameters instance known made is)
    ∙ then_kept (make env m args p known made) (Chooses known.choice) (bind_all env m args ps rest) (λ k d. then_go (check_call env m args p k d) (run_calls env m args more)) (make_chooses env m args p known made)
    (λ k d h. same k d (h ∙ chooses) ∙ sym (ap (λ w. then_go w (run_calls env m args more)) (checked false return_kind.Plain env m args p term parameters instance k d is refl call)))
    ∙ sym (then_twice (make env m args p known made) (check_call env m args p) (run_calls env m args more))
one_run env m args bs next c term parameters instance rest more choice is same return_kind.Option once call (has_inner b e there path no_item) known made chooses =
    let ps = paths_of bs in
    let p = at ps c in
    ap (λ o. bind_all env m args ps (with_inner o c ++ rest) known made) e
    ∙ ap (λ w. then_go w (bind_all env m args ps (b ∷ rest))) (call_made env m args p term parameters instance known made is)
    ∙ then_kept (make env m args p known made) (Chooses known.choice) (bind_all env m args ps (b ∷ rest)) (λ k d. then_go (check_call env m args p k d) (run_calls env m args more)) (make_chooses env m args p known made)
    (λ k d h. ap (λ q. then_go (bind_one env m args q k d) (bind_all env m args ps rest)) path
    ∙ then_kept (unless_nothing (value_at env m args k p) k d) (Chooses choice) (bind_all env m args ps rest) (run_calls env m args more) (unless_goes (value_at env m args k p) k d (Chooses choice) (h ∙ chooses)) same
    ∙ ap (λ w. then_go w (run_calls env m args more)) (sym (checked true return_kind.Option env m args p term parameters instance k d is refl call)))
    ∙ sym (then_twice (make env m args p known made) (check_call env m args p) (run_calls env m args more))
one_run env m args bs next c term parameters instance rest more choice is same return_kind.Iterator once call (has_item b e there path no_inner) known made chooses = cc

-- ---- a call that was tested

-- all that hold
pub one_holds : {A : Type 0} (p : A → Bool) (xs : List A) (x : A) → list_all p xs ≡ true → Contains xs x → p x ≡ true
one_holds p [] x e k = absurd (none_contained x k)
one_holds p (y ∷ xs) x e k = ⊎_elim (λ is. subst (λ z. p z ≡ true) is (both (p y) e).0) (λ j. one_holds p xs x (both (p y) e).1 j) (contained_cases y xs x k)
  where
    both : (b : Bool) → (b && list_all p xs) ≡ true → (b ≡ true) × (list_all p xs ≡ true)
    both true h = (refl, h)
    both false h = cc

-- what was found goes on
found_goes : (h g : Held) (known : Known) (made : List Made) → is_found h ≡ true → (IsHeld h → g ≡ h) → unless_nothing g known made ≡ Goes known made
found_goes (Optional (Some i)) g known made e stays = ap (λ x. unless_nothing x known made) (stays tt)
found_goes (Optional None) g known made e stays = cc
found_goes Absent g known made e stays = cc
found_goes (One i) g known made e stays = cc
found_goes (Listed is) g known made e stays = cc

-- a call that takes no turn
pub made_anyway : (m : Meaning) (c : Calling) (instance : ℕ) (vs : Option (List Value)) (known : Known) (made : List Made) → occurrence c instance ≡ [] → make_call m c instance vs known made ≡ Goes known made
made_anyway m (ByTurns callee kind) instance vs known made e = cc
made_anyway m (ByCases callee kind) instance vs known made e = refl
made_anyway m NoCall instance vs known made e = refl

-- it goes on
run_tested : (env : Environment) (m : Meaning) (args : List Value) (tests : List Test) (bs : List Binding) (next : ℕ → Option BindingId) (c : BindingId) (term : TermId) (parameters : Paths) (instance : ℕ)
    → all_hold env m (value_at env m args nothing_known) tests ≡ true → WasTested env bs next tests c → at (paths_of bs) c ≡ Called term parameters instance
    → (kind : ReturnKind) → is_several kind ≡ false → IsCall kind (calling env term) → HasNext bs next c kind → (known : Known) (made : List Made) → Chooses first_items known made → run_call env m args (at (paths_of bs) c) known made ≡ Goes known made
run_tested env m args tests bs next c term parameters instance all w is kind once call has known made chooses =
    ap (λ x. then_go x (check_call env m args p)) makes ∙ checked (may_be_nothing kind) kind env m args p term parameters instance known made is refl call ∙ pick kind once has
  where
    p : Path
    p = at (paths_of bs) c

    makes : make env m args p known made ≡ Goes known made
    makes = ap (λ q. make env m args q known made) is ∙ made_anyway m (calling env term) instance (values_at env m args known parameters) known made (sym (ap (occurrence_at env) is) ∙ w.uncalled)

    pick : (any : ReturnKind) → is_several any ≡ false → HasNext bs next c any → cond (may_be_nothing any) (unless_nothing (value_at env m args known p) known made) (Goes known made) ≡ Goes known made
    pick return_kind.Plain o (has_none none no_inner no_item) = refl
    pick return_kind.Option o (has_inner b one stands path no_item) =
        found_goes (value_at env m args nothing_known p) (value_at env m args known p) known made
        (one_holds (holds env m (value_at env m args nothing_known)) tests (Is p constraint.Some) all (w.found b one path))
        (λ there. held_stays p env m args nothing_known known (record { by = λ k a e. cc; choice = chooses }) there)
    pick return_kind.Iterator o (has_item b one stands path no_inner) = cc

-- ---- calls in order

-- in a term that answers once no call answers several times
once_kind : (env : Environment) (t : Term) (tests : List Test) (ps done : List Path) (p : Path) (h : IsSerializableCall env t tests ps done p) → is_several (kind_of t.kind) ≡ false → is_several h.kind ≡ false
once_kind env t tests ps done p h e = pick (is_several h.kind) refl
  where
    pick : (b : Bool) → is_several h.kind ≡ b → is_several h.kind ≡ false
    pick false is = is
    pick true is = let bad = sym (h.often is) ∙ e in cc

-- each was bound at the start and tested, or is bound here
pub binds_run : (env : Environment) (t : Term) (answers_once : is_several (kind_of t.kind) ≡ false) (tests : List Test) (m : Meaning) (args : List Value) (bs : List Binding) (next : ℕ → Option BindingId) → FindsNext bs next → EachOnce (paths_of bs)
    → all_hold env m (value_at env m args nothing_known) tests ≡ true → (start : List ℕ) → AreTested env bs next tests start
    → (cs : List BindingId) (bound : List ℕ) (done : List Path) → AreSerializableCalls env t tests (paths_of bs) done (map (at (paths_of bs)) cs) → StillBinds env bs next (left_calls next start cs) bound → (known : Known) (made : List Made) → Chooses first_items known made
    → bind_all env m args (paths_of bs) (binds bs next bound (left_calls next start cs)) known made ≡ run_calls env m args (map (at (paths_of bs)) cs) known made
binds_run env t answers_once tests m args bs next f once all start tested [] bound done h still known made chooses = refl
binds_run env t answers_once tests m args bs next f once all start tested (c ∷ cs) bound done h still known made chooses =
    pick (was_bound next start c) refl still (λ behind k known' made' chooses'. binds_run env t answers_once tests m args bs next f once all start tested cs behind (at (paths_of bs) c ∷ done) h.1 k known' made' chooses')
  where
    ps : List Path
    ps = paths_of bs

    left : List BindingId
    left = left_calls next start cs

    call : IsSerializableCall env t tests ps done (at ps c)
    call = h.0

    pick : (b : Bool) → was_bound next start c ≡ b → StillBinds env bs next (left_one b c ++ left) bound
        → ((behind : List ℕ) → StillBinds env bs next left behind → (known' : Known) (made' : List Made) → Chooses first_items known' made' → bind_all env m args ps (binds bs next behind left) known' made' ≡ run_calls env m args (map (at ps) cs) known' made')
        → bind_all env m args ps (binds bs next bound (left_one b c ++ left)) known made ≡ run_calls env m args (at ps c ∷ map (at ps) cs) known made
    pick true e k more =
        more bound k known made chooses
        ∙ sym (ap (λ w. then_go w (run_calls env m args (map (at ps) cs)))
        (run_tested env m args tests bs next c call.term call.parameters call.instance all (tested c e) call.path call.kind (once_kind env t tests ps done (at ps c) call answers_once) call.external (has_next env t tests bs next done c f once call) known made chooses))
    pick false e k more =
        let reads = parameters_of (slice_get bs c.0) in
        let behind = bound_by bound (call_binds bs next bound c) in
        let rest = binds bs next behind left in
        ap (λ xs. bind_all env m args ps xs known made) (append_assoc (needs bs bound reads) (with_inner (next c.0) c) rest)
        ∙ before_still env m args ps (needs bs bound reads) (with_inner (next c.0) c ++ rest) known made k.0
        ∙ one_run env m args bs next c call.term call.parameters call.instance rest (map (at ps) cs) first_items call.path
        (more behind k.1)
        call.kind (once_kind env t tests ps done (at ps c) call answers_once) call.external (has_next env t tests bs next done c f once call) known made chooses

-- so with what a result is read with after them
pub last_binds_run : (env : Environment) (t : Term) (answers_once : is_several (kind_of t.kind) ≡ false) (m : Meaning) (args : List Value) (bs : List Binding) (next : ℕ → Option BindingId) → FindsNext bs next → EachOnce (paths_of bs)
    → (f : FlatRule) (bound : List ℕ) → all_hold env m (value_at env m args nothing_known) (constraint_tests (paths_of bs) f) ≡ true → AreSerializableCalls env t (constraint_tests (paths_of bs) f) (paths_of bs) [] (map (at (paths_of bs)) f.ordered)
    → StillBehind env bs next f bound → (known : Known) (made : List Made) → Chooses first_items known made → bind_all env m args (paths_of bs) (behind_lists bs next bound f) known made ≡ run_calls env m args (map (at (paths_of bs)) f.ordered) known made
last_binds_run env t answers_once m args bs next found once f bound all h still known made chooses =
    let order = binds bs next bound (left_calls next bound f.ordered) in
    behind_still env m args (paths_of bs) order (needs bs (bound_by bound order) (f.result ∷ [])) known made still.1
    ∙ binds_run env t answers_once (constraint_tests (paths_of bs) f) m args bs next found once all bound still.2 f.ordered bound [] h still.0 known made chooses

-- ---- impure calls

before_uncalled : (env : Environment) (ps : List Path) (ns more : List BindingId) → AreStill env ps ns → occurrences env ps (ns ++ more) ≡ occurrences env ps more
before_uncalled env ps ns more h = occurrences_append env ps ns more ∙ ap (λ ks. ks ++ occurrences env ps more) (needs_uncalled env ps ns h)

-- neither an inner value nor an item is an impure call
next_uncalled : (env : Environment) (bs : List Binding) (next : ℕ → Option BindingId) → FindsNext bs next → (c b : BindingId) → next c.0 ≡ Some b → occurrence_at env (at (paths_of bs) b) ≡ []
next_uncalled env bs next f c b e =
    let k = f.found c b e in
    ⊎_elim (λ is. ap (occurrence_at env) (inner_path bs c b is k.1)) (λ is. ap (occurrence_at env) (item_path bs c b is k.1)) k.0

binds_occurrences : (env : Environment) (bs : List Binding) (next : ℕ → Option BindingId) → FindsNext bs next → (cs : List BindingId) (bound : List ℕ) → StillBinds env bs next cs bound → occurrences env (paths_of bs) (binds bs next bound cs) ≡ occurrences env (paths_of bs) cs
binds_occurrences env bs next f [] bound still = refl
binds_occurrences env bs next f (c ∷ cs) bound still =
    ap (occurrences env ps) (append_assoc (needs bs bound reads) (with_inner (next c.0) c) rest) ∙ before_uncalled env ps (needs bs bound reads) (with_inner (next c.0) c ++ rest) still.0 ∙ pick (next c.0) refl (binds_occurrences env bs next f cs behind still.1)
  where
    ps : List Path
    ps = paths_of bs

    reads : List BindingId
    reads = parameters_of (slice_get bs c.0)

    behind : List ℕ
    behind = bound_by bound (call_binds bs next bound c)

    rest : List BindingId
    rest = binds bs next behind cs

    pick : (o : Option BindingId) → next c.0 ≡ o → occurrences env ps rest ≡ occurrences env ps cs → occurrences env ps (with_inner o c ++ rest) ≡ occurrence_at env (at ps c) ++ occurrences env ps cs
    pick None e r = ap (λ x. occurrence_at env (at ps c) ++ x) r
    pick (Some b) e r =
        ap (λ ks. occurrence_at env (at ps c) ++ (ks ++ occurrences env ps rest)) (next_uncalled env bs next f c b e)
        ∙ ap (λ x. occurrence_at env (at ps c) ++ x) r

-- a call that was bound at the start is none
left_occurrences : (env : Environment) (tests : List Test) (bs : List Binding) (next : ℕ → Option BindingId) (start : List ℕ) → AreTested env bs next tests start → (cs : List BindingId) → occurrences env (paths_of bs) (left_calls next start cs) ≡ occurrences env (paths_of bs) cs
left_occurrences env tests bs next start tested [] = refl
left_occurrences env tests bs next start tested (c ∷ cs) = pick (was_bound next start c) refl (left_occurrences env tests bs next start tested cs)
  where
    ps : List Path
    ps = paths_of bs

    pick : (b : Bool) → was_bound next start c ≡ b → occurrences env ps (left_calls next start cs) ≡ occurrences env ps cs → occurrences env ps (left_one b c ++ left_calls next start cs) ≡ occurrence_at env (at ps c) ++ occurrences env ps cs
    pick true e more = more ∙ sym (ap (λ ks. ks ++ occurrences env ps cs) (tested c e).uncalled)
    pick false e more = ap (λ ks. occurrence_at env (at ps c) ++ ks) more

pub last_occurrences : (several : Bool) (env : Environment) (bs : List Binding) (next items : ℕ → Option BindingId) → FindsNext bs next → (f : FlatRule) (bound : List ℕ) → StillLast several env bs next items f bound
    → occurrences env (paths_of bs) (last_binds several bs next items bound f) ≡ occurrences env (paths_of bs) f.ordered
last_occurrences several env bs next items found f bound still =
    let lists = needs bs bound (left_items several items f) in
    let behind = bound_by bound lists in
    let left = left_calls next behind f.ordered in
    let order = binds bs next behind left in
    before_uncalled env (paths_of bs) lists (behind_lists bs next behind f) still.0
    ∙ occurrences_append env (paths_of bs) order (needs bs (bound_by behind order) (f.result ∷ []))
    ∙ ap (λ ks. occurrences env (paths_of bs) order ++ ks) (needs_uncalled env (paths_of bs) (needs bs (bound_by behind order) (f.result ∷ [])) still.1.1)
    ∙ append-nil (occurrences env (paths_of bs) order)
    ∙ binds_occurrences env bs next found left behind still.1.0
    ∙ left_occurrences env (constraint_tests (paths_of bs) f) bs next behind still.1.2 f.ordered
