-- The calls of an expression, run in order, do what its evaluation does.
use Rattle.std.proofs.Common.{◌≡◌, ℕ, suc, ◌+◌, ◌≤◌, List, [], ◌∷◌, ◌++◌, Bool, true, false, cond, eqb, Option, Some, None, T, refl, sym, ap, ◌∙◌, subst, arith}
use Rattle.std.proofs.Math.Dec.{eqb_refl}
use Rattle.std.proofs.lemmas.Bool.{ne_eqb}
use Rattle.isle_base.specs.declared.ids.TermId.{TermId}
use Rattle.isle_core.specs.declared.values.Callee.{Callee}
use Rattle.isle_core.specs.declared.types.ReturnKind.{ReturnKind}
use Rattle.isle_core.specs.declared.types.ReturnKind.TheVariants as return_kind
use Rattle.isle_core.specs.Value.{Value, Answer, Made}
use Rattle.std.specs.Prelude.{IsSome}
use Rattle.std.proofs.lemmas.List.{append-nil}
use Rattle.isle_core.specs.Having.{const_of}
use Rattle.isle_core.specs.Terms.{sym_text}
use Rattle.isle_core.specs.Making.{Making, MakesVariant, MakesStruct, MakesNothing, making}
use Rattle.isle_core.specs.Form.{made_value}
use Rattle.isle_core.specs.Meaning.{Meaning, turn, case}
use Rattle.isle_core.specs.Answered.{Held, a_value, answer_held}
use Rattle.isle_core.specs.Calling.{Calling, ByTurns, ByCases, NoCall, AnswersOnce, calling, is_several, may_be_nothing, is_fallible, instance_of, one_more, impure, impure_all, impure_bindings}
use Rattle.isle_core.specs.Choice.{Choice}
use Rattle.isle_core.specs.Expr as expr
use Rattle.isle_core.specs.Expr.{Expr, Exprs, NoExpr, AnExpr, LetBindings, NoBinding, ABinding}
use Rattle.isle_core.specs.Match.{Names, with}
use Rattle.isle_core.specs.Eval.{Evaluated, Answered, Failed, EvaluatedAll, AllAnswered, OneFailed, Bound, AllBound, NotBound, named, then_all, before, then_one, then_bind, then_within, answered, called_with, made_or_called, evaluated, evaluated_all, bound}
use Rattle.isle_core.specs.Outcome.{Failure}
use Rattle.isle_core.specs.Path.{Path, ConstPrim, Called, Chosen, Inner, MadeVariant, MadeStruct, Paths, APath}
use Rattle.isle_core.specs.OrderedCalls.{if_ordered, calls, calls_all, calls_bindings}
use Rattle.isle_core.specs.RightSide.{path_or, term_path, answer_path, call_path, path, paths, let_places}
use Rattle.isle_core.specs.Tests.{Places}
use Rattle.isle_core.specs.ValueAt.{Known, answered_too, held as held_value, held_of, made_held, inner_held, value_before, call_held, value_at, values_at}
use Rattle.isle_core.specs.CallRun.{Went, Goes, Ends, then_go, take_turn, make_call, check_call, unless_nothing, run_call, run_calls}
use Rattle.isle_core.specs.Rule.{Environment}
use Rattle.isle_core.proofs.PatternTests.{StandsAt, Agree, with_agrees}
use Rattle.isle_core.proofs.AnsweredTerms.{IsOfKind, IsAnswered, IsTermAnswered, IsPlaced, HasAnsweredCalls, AreAnsweredCalls, HaveAnsweredBindings}
use Rattle.isle_core.proofs.KnownAnswers.{IsUpTo, Kept, Fresh, kept_on, kept_self, fresh_more, stable, PlacesUpTo, places_more, agree_still, path_up_to, with_up_to, let_up_to}

-- ---- evaluation against calls

-- a value that was reached stands at its path, and no call but the next ones was made
pub record Reached (env : Environment) (m : Meaning) (args : List Value) (n n' : ℕ) (known known' : Known) (p : Path) (v : Value) : Type 0 where
  pub held : value_at env m args known' p ≡ a_value v
  pub kept : Kept n known known'
  pub fresh : Fresh n' known'

-- so of values in order
pub record ReachedAll (env : Environment) (m : Meaning) (args : List Value) (n n' : ℕ) (known known' : Known) (ps : Paths) (vs : List Value) : Type 0 where
  pub held : values_at env m args known' ps ≡ Some vs
  pub kept : Kept n known known'
  pub fresh : Fresh n' known'

-- evaluation and calls end alike
abbrev pub Follows : Environment → Meaning → List Value → ℕ → ℕ → Known → Path → Evaluated → Went → Type 0
Follows env m args n n' known p (Answered v made) (Goes known' made') = Reached env m args n n' known known' p v × (made' ≡ made)
Follows env m args n n' known p (Failed made) (Ends o) = o ≡ record { result = Failure; calls = made }
Follows env m args n n' known p (Answered v made) (Ends o) = ⊥
Follows env m args n n' known p (Failed made) (Goes known' made') = ⊥

-- so of expressions in order
abbrev pub FollowsAll : Environment → Meaning → List Value → ℕ → ℕ → Known → Paths → EvaluatedAll → Went → Type 0
FollowsAll env m args n n' known ps (AllAnswered vs made) (Goes known' made') = ReachedAll env m args n n' known known' ps vs × (made' ≡ made)
FollowsAll env m args n n' known ps (OneFailed made) (Ends o) = o ≡ record { result = Failure; calls = made }
FollowsAll env m args n n' known ps (AllAnswered vs made) (Ends o) = ⊥
FollowsAll env m args n n' known ps (OneFailed made) (Goes known' made') = ⊥

-- names that were reached stand at their places, and no call but the next ones was made
pub record ReachedNames (env : Environment) (m : Meaning) (args : List Value) (n n' : ℕ) (known known' : Known) (names : Names) (places : Places) : Type 0 where
  pub agree : Agree (value_at env m args known') names places
  pub kept : Kept n known known'
  pub fresh : Fresh n' known'

-- so of the values of a `let`
abbrev pub FollowsBound : Environment → Meaning → List Value → ℕ → ℕ → Known → Places → Bound → Went → Type 0
FollowsBound env m args n n' known places (AllBound names made) (Goes known' made') = ReachedNames env m args n n' known known' names places × (made' ≡ made)
FollowsBound env m args n n' known places (NotBound made) (Ends o) = o ≡ record { result = Failure; calls = made }
FollowsBound env m args n n' known places (AllBound names made) (Ends o) = ⊥
FollowsBound env m args n n' known places (NotBound made) (Goes known' made') = ⊥

-- ---- calls one after the other

goes_append : (f : Went) (one two more : Known → List Made → Went) → ((known : Known) (made : List Made) → two known made ≡ then_go (one known made) more) → then_go f two ≡ then_go (then_go f one) more
goes_append (Goes known made) one two more h = h known made
goes_append (Ends o) one two more h = refl

run_append : (env : Environment) (m : Meaning) (args : List Value) (ps qs : List Path) (known : Known) (made : List Made) → run_calls env m args (ps ++ qs) known made ≡ then_go (run_calls env m args ps known made) (run_calls env m args qs)
run_append env m args [] qs known made = refl
run_append env m args (p ∷ ps) qs known made = goes_append (run_call env m args p known made) (run_calls env m args ps) (run_calls env m args (ps ++ qs)) (run_calls env m args qs) (run_append env m args ps qs)

goes_end : (f : Went) → then_go f Goes ≡ f
goes_end (Goes known made) = refl
goes_end (Ends o) = refl

run_last : (env : Environment) (m : Meaning) (args : List Value) (ps : List Path) (p : Path) (known : Known) (made : List Made) → run_calls env m args (ps ++ p ∷ []) known made ≡ then_go (run_calls env m args ps known made) (run_call env m args p)
run_last env m args ps p known made = run_append env m args ps (p ∷ []) known made ∙ same_went (run_calls env m args ps known made)
  where
    same_went : (f : Went) → then_go f (run_calls env m args (p ∷ [])) ≡ then_go f (run_call env m args p)
    same_went (Goes known' made') = goes_end (run_call env m args p known' made')
    same_went (Ends o) = refl

follows_back : (env : Environment) (m : Meaning) (args : List Value) (n n1 n2 : ℕ) (known known' : Known) (p : Path) (r : Evaluated) (f : Went) → n ≤ n1 → Kept n known known' → Follows env m args n1 n2 known' p r f → Follows env m args n n2 known p r f
follows_back env m args n n1 n2 known known' p (Answered v made) (Goes known'' made') le k h = (record { held = h.0.held; kept = kept_on n n1 known known' known'' le k h.0.kept; fresh = h.0.fresh }, h.1)
follows_back env m args n n1 n2 known known' p (Failed made) (Ends o) le k h = h
follows_back env m args n n1 n2 known known' p (Answered v made) (Ends o) le k h = absurd h
follows_back env m args n n1 n2 known known' p (Failed made) (Goes known'' made') le k h = absurd h

-- all arguments, then the call
args_follow : (env : Environment) (m : Meaning) (args : List Value) (n n1 n2 : ℕ) (known : Known) (ps : Paths) (q : Path) (r : EvaluatedAll) (f : Went) (go : List Value → List Made → Evaluated) (run : Known → List Made → Went) → n ≤ n1 → FollowsAll env m args n n1 known ps r f
    → ((vs : List Value) (known' : Known) (made : List Made) → ReachedAll env m args n n1 known known' ps vs → Follows env m args n1 n2 known' q (go vs made) (run known' made)) → Follows env m args n n2 known q (then_one r go) (then_go f run)
args_follow env m args n n1 n2 known ps q (AllAnswered vs made) (Goes known' made') go run le h k =
    follows_back env m args n n1 n2 known known' q (go vs made) (run known' made') le h.0.kept (rw h.1 (k vs known' made h.0))
args_follow env m args n n1 n2 known ps q (OneFailed made) (Ends o) go run le h k = h
args_follow env m args n n1 n2 known ps q (AllAnswered vs made) (Ends o) go run le h k = absurd h
args_follow env m args n n1 n2 known ps q (OneFailed made) (Goes known' made') go run le h k = absurd h

-- one argument, then the others
before_follows : (env : Environment) (m : Meaning) (args : List Value) (n n1 n2 : ℕ) (known known' : Known) (p : Path) (ps : Paths) (v : Value) (r : EvaluatedAll) (f : Went) → n ≤ n1 → IsUpTo n1 p → Reached env m args n n1 known known' p v → FollowsAll env m args n1 n2 known' ps r f → FollowsAll env m args n n2 known (APath p ps) (before v r) f
before_follows env m args n n1 n2 known known' p ps v (AllAnswered vs made) (Goes known'' made') le b h k = (
  record {
    held = ap (λ x. value_before x (values_at env m args known'' ps)) (stable p env m args n1 known' known'' b k.0.kept ∙ h.held) ∙ ap (value_before (a_value v)) k.0.held;
    kept = kept_on n n1 known known' known'' le h.kept k.0.kept;
    fresh = k.0.fresh;
  },
  k.1,
)
before_follows env m args n n1 n2 known known' p ps v (OneFailed made) (Ends o) le b h k = k
before_follows env m args n n1 n2 known known' p ps v (AllAnswered vs made) (Ends o) le b h k = absurd k
before_follows env m args n n1 n2 known known' p ps v (OneFailed made) (Goes known'' made') le b h k = absurd k

first_follows : (env : Environment) (m : Meaning) (args : List Value) (n n1 n2 : ℕ) (known : Known) (p : Path) (ps : Paths) (r : Evaluated) (f : Went) (go : Value → List Made → EvaluatedAll) (run : Known → List Made → Went) → n ≤ n1 → IsUpTo n1 p → Follows env m args n n1 known p r f
    → ((v : Value) (known' : Known) (made : List Made) → Reached env m args n n1 known known' p v → FollowsAll env m args n1 n2 known' ps (go v made) (run known' made)) → FollowsAll env m args n n2 known (APath p ps) (then_all r (λ v made. before v (go v made))) (then_go f run)
first_follows env m args n n1 n2 known p ps (Answered v made) (Goes known' made') go run le b h k =
    before_follows env m args n n1 n2 known known' p ps v (go v made) (run known' made') le b h.0 (rw h.1 (k v known' made h.0))
first_follows env m args n n1 n2 known p ps (Failed made) (Ends o) go run le b h k = h
first_follows env m args n n1 n2 known p ps (Answered v made) (Ends o) go run le b h k = absurd h
first_follows env m args n n1 n2 known p ps (Failed made) (Goes known' made') go run le b h k = absurd h

-- one value of a `let`, then the others
bound_back : (env : Environment) (m : Meaning) (args : List Value) (n n1 n2 : ℕ) (known known' : Known) (places : Places) (r : Bound) (f : Went) → n ≤ n1 → Kept n known known' → FollowsBound env m args n1 n2 known' places r f → FollowsBound env m args n n2 known places r f
bound_back env m args n n1 n2 known known' places (AllBound names made) (Goes known'' made') le k h = (record { agree = h.0.agree; kept = kept_on n n1 known known' known'' le k h.0.kept; fresh = h.0.fresh }, h.1)
bound_back env m args n n1 n2 known known' places (NotBound made) (Ends o) le k h = h
bound_back env m args n n1 n2 known known' places (AllBound names made) (Ends o) le k h = absurd h
bound_back env m args n n1 n2 known known' places (NotBound made) (Goes known'' made') le k h = absurd h

bind_follows : (env : Environment) (m : Meaning) (args : List Value) (n n1 n2 : ℕ) (known : Known) (p : Path) (places : Places) (r : Evaluated) (f : Went) (go : Value → List Made → Bound) (run : Known → List Made → Went) → n ≤ n1 → Follows env m args n n1 known p r f
    → ((v : Value) (known' : Known) (made : List Made) → Reached env m args n n1 known known' p v → FollowsBound env m args n1 n2 known' places (go v made) (run known' made)) → FollowsBound env m args n n2 known places (then_bind r go) (then_go f run)
bind_follows env m args n n1 n2 known p places (Answered v made) (Goes known' made') go run le h k = bound_back env m args n n1 n2 known known' places (go v made) (run known' made') le h.0.kept (rw h.1 (k v known' made h.0))
bind_follows env m args n n1 n2 known p places (Failed made) (Ends o) go run le h k = h
bind_follows env m args n n1 n2 known p places (Answered v made) (Ends o) go run le h k = absurd h
bind_follows env m args n n1 n2 known p places (Failed made) (Goes known' made') go run le h k = absurd h

-- all values of a `let`, then what it gives
within_follows : (env : Environment) (m : Meaning) (args : List Value) (n n1 n2 : ℕ) (known : Known) (places : Places) (q : Path) (r : Bound) (f : Went) (go : Names → List Made → Evaluated) (run : Known → List Made → Went) → n ≤ n1 → FollowsBound env m args n n1 known places r f
    → ((names : Names) (known' : Known) (made : List Made) → ReachedNames env m args n n1 known known' names places → Follows env m args n1 n2 known' q (go names made) (run known' made)) → Follows env m args n n2 known q (then_within r go) (then_go f run)
within_follows env m args n n1 n2 known places q (AllBound names made) (Goes known' made') go run le h k = follows_back env m args n n1 n2 known known' q (go names made) (run known' made') le h.0.kept (rw h.1 (k names known' made h.0))
within_follows env m args n n1 n2 known places q (NotBound made) (Ends o) go run le h k = h
within_follows env m args n n1 n2 known places q (AllBound names made) (Ends o) go run le h k = absurd h
within_follows env m args n n1 n2 known places q (NotBound made) (Goes known' made') go run le h k = absurd h

-- ---- a call

-- what is known of a call that was answered, and of any other
pub with_here : (known : ℕ → Option Answer) (k : ℕ) (a : Answer) → with known k a k ≡ Some a
with_here known k a = ap (λ b. cond b (Some a) (known k)) (true_of (eqb k k) (eqb_refl k))
  where
    true_of : (b : Bool) → T b → b ≡ true
    true_of true t = refl
    true_of false t = absurd t

pub with_else : (known : ℕ → Option Answer) (k j : ℕ) (a : Answer) → (k ≡ j → ⊥) → with known k a j ≡ known j
with_else known k j a ne = ap (λ b. cond b (Some a) (known j)) (ne_eqb k j ne)

-- an answer of the term's kind gives a value, or it is nothing
answer_follows : (env : Environment) (m : Meaning) (args : List Value) (n n' : ℕ) (known known' : Known) (made : List Made) (p : Path) (place : ℕ) (kind : ReturnKind) (h : Held) → AnswersOnce kind → IsOfKind kind h → value_at env m args known' p ≡ h → Kept n known known' → Fresh n' known'
    → Follows env m args n n' known (cond (is_several kind) (Chosen p) (cond (may_be_nothing kind) (Inner p) p)) (answered place h made) (cond (may_be_nothing kind) (unless_nothing h known' made) (Goes known' made))
answer_follows env m args n n' known known' made p place return_kind.Plain h once (v, e) is k f = rw e (record { held = is ∙ e; kept = k; fresh = f }, refl)
answer_follows env m args n n' known known' made p place return_kind.Option h once (None, e) is k f = rw e refl
answer_follows env m args n n' known known' made p place return_kind.Option h once (Some v, e) is k f = rw e (record { held = ap inner_held (is ∙ e); kept = k; fresh = f }, refl)
answer_follows env m args n n' known known' made p place return_kind.Iterator h once i is k f = absurd once

turn_follows : (env : Environment) (m : Meaning) (args : List Value) (n n' : ℕ) (known : Known) (made : List Made) (term : TermId) (ps : Paths) (callee : Callee) (kind : ReturnKind) (vs : List Value) (place : ℕ) → calling env term ≡ ByTurns callee kind → n' ≡ suc n → AnswersOnce kind → IsOfKind kind (answer_held (turn m callee made)) → Fresh n known
    → values_at env m args known ps ≡ Some vs
    → Follows env m args n n' known (answer_path (ByTurns callee kind) (Called term ps (suc n))) (called_with m place (ByTurns callee kind) vs made) (run_call env m args (Called term ps (suc n)) known made)
turn_follows env m args n n' known made term ps callee kind vs place e next once of_kind fr is =
    let a = turn m callee made in
    let known' = answered_too known (suc n) a in
    let made' = made ++ record { callee = callee; args = vs } ∷ [] in
    let p = Called term ps (suc n) in
    let here : known'.answers (suc n) ≡ Some a = with_here known.answers (suc n) a in
    let made_now : run_call env m args p known made ≡ check_call env m args p known' made' =
    ap (λ c. then_go (make_call m c (suc n) (values_at env m args known ps) known made) (check_call env m args p)) e
    ∙ ap (λ o. then_go (take_turn m callee (suc n) (known.answers (suc n)) o known made) (check_call env m args p)) is
    ∙ ap (λ o. then_go (take_turn m callee (suc n) o (Some vs) known made) (check_call env m args p)) (fr.by (suc n) (omega arith)) in
    let checked : check_call env m args p known' made' ≡ cond (may_be_nothing kind) (unless_nothing (answer_held a) known' made') (Goes known' made') =
    ap (λ c. cond (is_fallible c) (unless_nothing (call_held m c (known'.answers (suc n)) (values_at env m args known' ps)) known' made') (Goes known' made')) e
    ∙ ap (λ o. cond (may_be_nothing kind) (unless_nothing (held_of o) known' made') (Goes known' made')) here in
    let held : value_at env m args known' p ≡ answer_held a = ap (λ c. call_held m c (known'.answers (suc n)) (values_at env m args known' ps)) e ∙ ap held_of here in
    subst (λ f. Follows env m args n n' known (answer_path (ByTurns callee kind) p) (called_with m place (ByTurns callee kind) vs made) f) (sym (made_now ∙ checked))
    (answer_follows env m args n n' known known' made' p place kind (answer_held a) once of_kind held
    (record { by = λ j low. with_else known.answers (suc n) j a (λ (q : suc n ≡ j). let bad : ⊥ = omega arith in bad); choice = refl })
    (record { by = λ j lt. with_else known.answers (suc n) j a (λ (q : suc n ≡ j). let bad : ⊥ = omega arith in bad) ∙ fr.by j (omega arith) }))

-- a pure call makes no call: if it may be nothing, it is checked
case_run : (env : Environment) (m : Meaning) (args : List Value) (term : TermId) (ps : Paths) (callee : Callee) (kind : ReturnKind) (cs : List Path) (known : Known) (made : List Made) → AnswersOnce kind → calling env term ≡ ByCases callee kind
    → run_calls env m args (cs ++ if_ordered env (ByCases callee kind) (Called term ps 0)) known made
    ≡ then_go (run_calls env m args cs known made) (λ known' made'. cond (may_be_nothing kind) (unless_nothing (value_at env m args known' (Called term ps 0)) known' made') (Goes known' made'))
case_run env m args term ps callee return_kind.Plain cs known made once e = ap (λ qs. run_calls env m args qs known made) (append-nil cs) ∙ sym (goes_end (run_calls env m args cs known made))
case_run env m args term ps callee return_kind.Iterator cs known made once e = absurd once
case_run env m args term ps callee return_kind.Option cs known made once e = run_last env m args cs (Called term ps 0) known made ∙ same_went (run_calls env m args cs known made)
  where
    same_went : (f : Went) → then_go f (run_call env m args (Called term ps 0)) ≡ then_go f (λ known' made'. unless_nothing (value_at env m args known' (Called term ps 0)) known' made')
    same_went (Goes known' made') =
        ap (λ c. then_go (make_call m c 0 (values_at env m args known' ps) known' made') (check_call env m args (Called term ps 0))) e
        ∙ ap (λ c. cond (is_fallible c) (unless_nothing (value_at env m args known' (Called term ps 0)) known' made') (Goes known' made')) e
    same_went (Ends o) = refl

-- a pure call's answer to its arguments
case_follows : (env : Environment) (m : Meaning) (args : List Value) (n : ℕ) (known : Known) (made : List Made) (term : TermId) (ps : Paths) (callee : Callee) (kind : ReturnKind) (vs : List Value) (place : ℕ) → calling env term ≡ ByCases callee kind → AnswersOnce kind → IsOfKind kind (answer_held (case m callee vs)) → Fresh n known
    → values_at env m args known ps ≡ Some vs
    → Follows env m args n n known (answer_path (ByCases callee kind) (Called term ps 0)) (called_with m place (ByCases callee kind) vs made) (cond (may_be_nothing kind) (unless_nothing (value_at env m args known (Called term ps 0)) known made) (Goes known made))
case_follows env m args n known made term ps callee kind vs place e once of_kind fr is =
    let p = Called term ps 0 in
    let c = ByCases callee kind in
    let held : value_at env m args known p ≡ answer_held (case m callee vs) = ap (λ x. call_held m x (known.answers 0) (values_at env m args known ps)) e ∙ ap (call_held m c (known.answers 0)) is in
    subst (λ h. Follows env m args n n known (answer_path c p) (called_with m place c vs made) (cond (may_be_nothing kind) (unless_nothing h known made) (Goes known made))) (sym held)
    (answer_follows env m args n n known known made p place kind (answer_held (case m callee vs)) once of_kind held (kept_self n known) fr)

-- the calls of the arguments, then that of the term
term_follows : (c : Calling) (env : Environment) (m : Meaning) (args : List Value) (n k : ℕ) (known : Known) (made : List Made) (term : TermId) (ps : Paths) (cs : List Path) (r : EvaluatedAll) (place : ℕ) → calling env term ≡ c → IsAnswered AnswersOnce m c → FollowsAll env m args n (n + k) known ps r (run_calls env m args cs known made)
    → Follows env m args n (n + one_more c k) known (answer_path c (Called term ps (instance_of c (n + k)))) (then_one r (called_with m place c)) (run_calls env m args (cs ++ if_ordered env c (Called term ps (instance_of c (n + k)))) known made)
term_follows (ByTurns callee kind) env m args n k known made term ps cs r place e t h =
    let c = ByTurns callee kind in
    let p = Called term ps (suc (n + k)) in
    let le : n ≤ n + k = omega arith in
    let last : n + suc k ≡ suc (n + k) = omega arith in
    subst (λ f. Follows env m args n (n + suc k) known (answer_path c p) (then_one r (called_with m place c)) f) (sym (run_last env m args cs p known made))
    (args_follow env m args n (n + k) (n + suc k) known ps (answer_path c p) r (run_calls env m args cs known made) (called_with m place c) (run_call env m args p) le h
    (λ vs known' made' a. turn_follows env m args (n + k) (n + suc k) known' made' term ps callee kind vs place e last t.0 (t.1 made') a.fresh a.held))
term_follows (ByCases callee kind) env m args n k known made term ps cs r place e t h =
    let c = ByCases callee kind in
    let p = Called term ps 0 in
    let le : n ≤ n + k = omega arith in
    subst (λ f. Follows env m args n (n + k) known (answer_path c p) (then_one r (called_with m place c)) f) (sym (case_run env m args term ps callee kind cs known made t.0 e))
    (args_follow env m args n (n + k) (n + k) known ps (answer_path c p) r (run_calls env m args cs known made) (called_with m place c)
    (λ known' made'. cond (may_be_nothing kind) (unless_nothing (value_at env m args known' p) known' made') (Goes known' made')) le h
    (λ vs known' made' a. case_follows env m args (n + k) known' made' term ps callee kind vs place e t.0 (t.1 vs) a.fresh a.held))
term_follows NoCall env m args n k known made term ps cs r place e t h = absurd t

made_now : (mk : Making) (env : Environment) (m : Meaning) (args : List Value) (n n' : ℕ) (known : Known) (p : Path) (ps : Paths) (r : EvaluatedAll) (f : Went) → ((known' : Known) → value_at env m args known' p ≡ made_held env mk (values_at env m args known' ps)) → FollowsAll env m args n n' known ps r f
    → Follows env m args n n' known p (then_one r (λ vs made. Answered (made_value env mk vs) made)) f
made_now mk env m args n n' known p ps (AllAnswered vs made) (Goes known' made') is h = (record { held = is known' ∙ ap (made_held env mk) h.0.held; kept = h.0.kept; fresh = h.0.fresh }, h.1)
made_now mk env m args n n' known p ps (OneFailed made) (Ends o) is h = h
made_now mk env m args n n' known p ps (AllAnswered vs made) (Ends o) is h = absurd h
made_now mk env m args n n' known p ps (OneFailed made) (Goes known' made') is h = absurd h

-- what is made of the arguments; no call follows theirs
made_follows : (mk : Making) (c : Calling) (env : Environment) (m : Meaning) (args : List Value) (n k : ℕ) (known : Known) (made : List Made) (p : Path) (ps : Paths) (cs : List Path) (r : EvaluatedAll) → c ≡ NoCall
    → ((known' : Known) → value_at env m args known' p ≡ made_held env mk (values_at env m args known' ps)) → FollowsAll env m args n (n + k) known ps r (run_calls env m args cs known made)
    → Follows env m args n (n + one_more c k) known (answer_path c p) (then_one r (λ vs made'. Answered (made_value env mk vs) made')) (run_calls env m args (cs ++ if_ordered env c p) known made)
made_follows mk (ByTurns callee kind) env m args n k known made p ps cs r e is h = cc
made_follows mk (ByCases callee kind) env m args n k known made p ps cs r e is h = cc
made_follows mk NoCall env m args n k known made p ps cs r e is h =
    subst (λ qs. Follows env m args n (n + k) known p (then_one r (λ vs made'. Answered (made_value env mk vs) made')) (run_calls env m args qs known made)) (sym (append-nil cs))
    (made_now mk env m args n (n + k) known p ps r (run_calls env m args cs known made) is h)

-- the calls of the arguments, then what the term makes, or its call
making_follows : (mk : Making) (c : Calling) (env : Environment) (m : Meaning) (args : List Value) (n k : ℕ) (known : Known) (made : List Made) (term : TermId) (ps : Paths) (cs : List Path) (r : EvaluatedAll) (place : ℕ) → calling env term ≡ c → IsTermAnswered AnswersOnce m mk c
    → FollowsAll env m args n (n + k) known ps r (run_calls env m args cs known made)
    → Follows env m args n (n + one_more c k) known (answer_path c (term_path mk term ps (instance_of c (n + k)))) (then_one r (made_or_called env m place mk c))
    (run_calls env m args (cs ++ if_ordered env c (term_path mk term ps (instance_of c (n + k)))) known made)
making_follows (MakesVariant ty variant) c env m args n k known made term ps cs r place e t h = made_follows (MakesVariant ty variant) c env m args n k known made (MadeVariant ty variant ps) ps cs r t (λ known'. refl) h
making_follows (MakesStruct ty) c env m args n k known made term ps cs r place e t h = made_follows (MakesStruct ty) c env m args n k known made (MadeStruct ty ps) ps cs r t (λ known'. refl) h
making_follows MakesNothing c env m args n k known made term ps cs r place e t h = term_follows c env m args n k known made term ps cs r place e t h

-- ---- expressions

const_follows : (env : Environment) (m : Meaning) (args : List Value) (n n' : ℕ) (known : Known) (made : List Made) (p : Path) (o : Option Value) → n ≤ n' → Fresh n known → IsSome o → ((known' : Known) → value_at env m args known' p ≡ held_value o)
    → Follows env m args n n' known p (named o made) (Goes known made)
const_follows env m args n n' known made p (Some v) le fr i is = (record { held = is known; kept = kept_self n known; fresh = fresh_more n n' known le fr }, refl)
const_follows env m args n n' known made p None le fr i is = cc

var_follows : (env : Environment) (m : Meaning) (args : List Value) (n n' : ℕ) (known : Known) (made : List Made) (o : Option Value) (q : Option Path) → n ≤ n' → Fresh n known → IsPlaced q → StandsAt (value_at env m args known) o q → Follows env m args n n' known (path_or q) (named o made) (Goes known made)
var_follows env m args n n' known made (Some v) (Some p) le fr i h = (record { held = h; kept = kept_self n known; fresh = fresh_more n n' known le fr }, refl)
var_follows env m args n n' known made None (Some p) le fr i h = absurd h
var_follows env m args n n' known made o None le fr i h = absurd i

mutual
  -- the calls of an expression do what its evaluation does
  pub expr_follows : (e : Expr) (choice : Choice) (others : Places) (j : ℕ) (env : Environment) (m : Meaning) (args : List Value) (n : ℕ) (known : Known) (names : Names) (places : Places) (made : List Made) → HasAnsweredCalls AnswersOnce env m places n e → Agree (value_at env m args known) names places → PlacesUpTo n places → Fresh n known
      → Follows env m args n (n + impure env e) known (path env e places n) (evaluated env m choice e names others j made) (run_calls env m args (calls env e places n) known made)
  expr_follows (expr.Var ty x) choice others j env m args n known names places made t a b fr = var_follows env m args n (n + 0) known made (names x.0) (places x.0) (omega arith) fr t (a.by x.0)
  expr_follows (expr.ConstBool c) choice others j env m args n known names places made t a b fr = (record { held = refl; kept = kept_self n known; fresh = fresh_more n (n + 0) known (omega arith) fr }, refl)
  expr_follows (expr.ConstInt ty k) choice others j env m args n known names places made t a b fr = (record { held = refl; kept = kept_self n known; fresh = fresh_more n (n + 0) known (omega arith) fr }, refl)
  expr_follows (expr.Term ty term es) choice others j env m args n known names places made t a b fr =
      making_follows (making env term) (calling env term) env m args n (impure_all env es) known made term (paths env es places n) (calls_all env es places n) (evaluated_all env m choice es names others j made) (choice (call_path env term (paths env es others j) (j + impure_all env es))) refl t.0 (exprs_follow es choice others j env m args n known names places made t.1 a b fr)
  expr_follows (expr.ConstPrim ty name) choice others j env m args n known names places made t a b fr = const_follows env m args n (n + 0) known made (ConstPrim name) (const_of m (sym_text env name)) (omega arith) fr t (λ known'. refl)
  expr_follows (expr.Let ty bs inner) choice others j env m args n known names places made t a b fr =
      let n1 = n + impure_bindings env bs in
      let mid = let_places env bs places n in
      let p = path env inner mid n1 in
      let le : n ≤ n + impure_bindings env bs = omega arith in
      let assoc : n + impure_bindings env bs + impure env inner ≡ n + (impure_bindings env bs + impure env inner) = omega arith in
      subst (λ f. Follows env m args n (n + (impure_bindings env bs + impure env inner)) known p (evaluated env m choice (expr.Let ty bs inner) names others j made) f) (sym (run_append env m args (calls_bindings env bs places n) (calls env inner mid n1) known made))
      (within_follows env m args n n1 (n + (impure_bindings env bs + impure env inner)) known mid p (bound env m choice bs names others j made) (run_calls env m args (calls_bindings env bs places n) known made) (λ all made'. evaluated env m choice inner all (let_places env bs others j) (j + impure_bindings env bs) made') (run_calls env m args (calls env inner mid n1)) le
      (bindings_follow bs choice others j env m args n known names places made t.0 a b fr)
      (λ names' known' made' h. subst (λ q. Follows env m args n1 q known' p (evaluated env m choice inner names' (let_places env bs others j) (j + impure_bindings env bs) made') (run_calls env m args (calls env inner mid n1) known' made')) assoc
      (expr_follows inner choice (let_places env bs others j) (j + impure_bindings env bs) env m args n1 known' names' mid made' t.1 h.agree (let_up_to bs env places n b) h.fresh)))

  -- so of expressions in order
  pub exprs_follow : (es : Exprs) (choice : Choice) (others : Places) (j : ℕ) (env : Environment) (m : Meaning) (args : List Value) (n : ℕ) (known : Known) (names : Names) (places : Places) (made : List Made) → AreAnsweredCalls AnswersOnce env m places n es → Agree (value_at env m args known) names places → PlacesUpTo n places → Fresh n known
      → FollowsAll env m args n (n + impure_all env es) known (paths env es places n) (evaluated_all env m choice es names others j made) (run_calls env m args (calls_all env es places n) known made)
  exprs_follow NoExpr choice others j env m args n known names places made t a b fr = (record { held = refl; kept = kept_self n known; fresh = fresh_more n (n + 0) known (omega arith) fr }, refl)
  exprs_follow (AnExpr e es) choice others j env m args n known names places made t a b fr =
      let n1 = n + impure env e in
      let p = path env e places n in
      let le : n ≤ n + impure env e = omega arith in
      let assoc : n + impure env e + impure_all env es ≡ n + (impure env e + impure_all env es) = omega arith in
      subst (λ f. FollowsAll env m args n (n + (impure env e + impure_all env es)) known (APath p (paths env es places n1)) (evaluated_all env m choice (AnExpr e es) names others j made) f) (sym (run_append env m args (calls env e places n) (calls_all env es places n1) known made))
      (first_follows env m args n n1 (n + (impure env e + impure_all env es)) known p (paths env es places n1) (evaluated env m choice e names others j made) (run_calls env m args (calls env e places n) known made) (λ v made'. evaluated_all env m choice es names others (j + impure env e) made') (run_calls env m args (calls_all env es places n1)) le
      (path_up_to e env places n b)
      (expr_follows e choice others j env m args n known names places made t.0 a b fr)
      (λ v known' made' h. subst (λ q. FollowsAll env m args n1 q known' (paths env es places n1) (evaluated_all env m choice es names others (j + impure env e) made') (run_calls env m args (calls_all env es places n1) known' made')) assoc
      (exprs_follow es choice others (j + impure env e) env m args n1 known' names places made' t.1 (agree_still env m args n known known' names places b h.kept a) (places_more places n n1 le b) h.fresh)))

  -- so of the values of a `let`
  pub bindings_follow : (bs : LetBindings) (choice : Choice) (others : Places) (j : ℕ) (env : Environment) (m : Meaning) (args : List Value) (n : ℕ) (known : Known) (names : Names) (places : Places) (made : List Made) → HaveAnsweredBindings AnswersOnce env m places n bs → Agree (value_at env m args known) names places → PlacesUpTo n places → Fresh n known
      → FollowsBound env m args n (n + impure_bindings env bs) known (let_places env bs places n) (bound env m choice bs names others j made) (run_calls env m args (calls_bindings env bs places n) known made)
  bindings_follow NoBinding choice others j env m args n known names places made t a b fr = (record { agree = a; kept = kept_self n known; fresh = fresh_more n (n + 0) known (omega arith) fr }, refl)
  bindings_follow (ABinding x ty e more) choice others j env m args n known names places made t a b fr =
      let n1 = n + impure env e in
      let p = path env e places n in
      let mid = with places x.0 p in
      let le : n ≤ n + impure env e = omega arith in
      let assoc : n + impure env e + impure_bindings env more ≡ n + (impure env e + impure_bindings env more) = omega arith in
      subst (λ f. FollowsBound env m args n (n + (impure env e + impure_bindings env more)) known (let_places env more mid n1) (bound env m choice (ABinding x ty e more) names others j made) f) (sym (run_append env m args (calls env e places n) (calls_bindings env more mid n1) known made))
      (bind_follows env m args n n1 (n + (impure env e + impure_bindings env more)) known p (let_places env more mid n1) (evaluated env m choice e names others j made) (run_calls env m args (calls env e places n) known made) (λ v made'. bound env m choice more (with names x.0 v) (with others x.0 (path env e others j)) (j + impure env e) made') (run_calls env m args (calls_bindings env more mid n1)) le
      (expr_follows e choice others j env m args n known names places made t.0 a b fr)
      (λ v known' made' h. subst (λ q. FollowsBound env m args n1 q known' (let_places env more mid n1) (bound env m choice more (with names x.0 v) (with others x.0 (path env e others j)) (j + impure env e) made') (run_calls env m args (calls_bindings env more mid n1) known' made')) assoc
      (bindings_follow more choice (with others x.0 (path env e others j)) (j + impure env e) env m args n1 known' (with names x.0 v) mid made' t.1 (with_agrees (value_at env m args known') names places x.0 v p h.held (agree_still env m args n known known' names places b h.kept a)) (with_up_to n1 x.0 p places (path_up_to e env places n b) (places_more places n n1 le b)) h.fresh)))
