-- Running the firsts of calls is running all of them: a call that went on before goes on again, with nothing changed.
use Rattle.std.proofs.Common.{◌≡◌, ◌⊎◌, inl, inr, ⊎_elim, ℕ, List, [], ◌∷◌, ◌++◌, Bool, true, false, cond, Option, Some, None, refl, sym, ap, ◌∙◌, subst}
use Rattle.std.specs.Prelude.{Contains}
use Rattle.isle_base.specs.declared.ids.TermId.{TermId}
use Rattle.isle_core.specs.declared.values.Callee.{Callee}
use Rattle.isle_core.specs.declared.types.ReturnKind.{ReturnKind}
use Rattle.isle_core.specs.Value.{Value, Answer, Made}
use Rattle.isle_core.specs.Meaning.{Meaning, turn}
use Rattle.isle_core.specs.Answered.{Held, Absent, One, Optional, Listed, answer_held}
use Rattle.isle_core.specs.Calling.{Calling, ByTurns, ByCases, NoCall, calling, may_be_nothing, is_fallible}
use Rattle.isle_core.specs.Outcome.{Failure}
use Rattle.isle_core.specs.Path.{Path, Called, Paths}
use Rattle.isle_core.specs.StandsFor.{AreFirsts, no_more, again, first}
use Rattle.isle_core.specs.ValueAt.{Known, answered_too, held_of, case_held, call_held, values_at}
use Rattle.isle_core.specs.CallRun.{Went, Goes, Ends, then_go, take_turn, make_call, unless_nothing, run_call, run_calls}
use Rattle.isle_core.specs.Rule.{Environment}
use Rattle.isle_core.proofs.Contained.{contained_cases, none_contained}
use Rattle.isle_core.proofs.CallsFollow.{with_here, with_else}
use Rattle.isle_core.proofs.HeldStays.{AreThere, Grows, values_stay}

-- ---- a call that may be run

-- the arguments of a call are there
abbrev pub IsReady : Environment → Meaning → List Value → Path → Known → Type 0
IsReady env m args (Called term ps k) known = AreThere (values_at env m args known ps)
IsReady env m args p known = Unit {0}

-- where a run goes on, this holds
abbrev pub IfGoes : Went → (Known → List Made → Type 0) → Type 0
IfGoes (Goes known made) P = P known made
IfGoes (Ends o) P = Unit {0}

-- each call that is reached has its arguments
abbrev pub AreReady : Environment → Meaning → List Value → List Path → Known → List Made → Type 0
AreReady env m args [] known made = Unit {0}
AreReady env m args (p ∷ ps) known made = IsReady env m args p known × IfGoes (run_call env m args p known made) (AreReady env m args ps)

ready_behind : (env : Environment) (m : Meaning) (args : List Value) (ps qs rs : List Path) (w : Went) → ((known : Known) (made : List Made) → AreReady env m args ps known made → IfGoes (run_calls env m args ps known made) (AreReady env m args qs) → AreReady env m args rs known made)
    → IfGoes w (AreReady env m args ps) → IfGoes (then_go w (run_calls env m args ps)) (AreReady env m args qs) → IfGoes w (AreReady env m args rs)
ready_behind env m args ps qs rs (Goes known made) f a b = f known made a b
ready_behind env m args ps qs rs (Ends o) f a b = tt

-- calls in front of others
pub ready_append : (env : Environment) (m : Meaning) (args : List Value) (ps qs : List Path) (known : Known) (made : List Made) → AreReady env m args ps known made → IfGoes (run_calls env m args ps known made) (AreReady env m args qs) → AreReady env m args (ps ++ qs) known made
ready_append env m args [] qs known made h k = k
ready_append env m args (p ∷ ps) qs known made h k = (h.0, ready_behind env m args ps qs (ps ++ qs) (run_call env m args p known made) (λ known' made' a b. ready_append env m args ps qs known' made' a b) h.1 k)

-- ---- a call that went on

-- the answers known stay
grows_on : {a b c : Known} → Grows a b → Grows b c → Grows a c
grows_on g h = record { by = λ k x e. h.by k x (g.by k x e); choice = h.choice ∙ g.choice }

grows_self : (a : Known) → Grows a a
grows_self a = record { by = λ k x e. e; choice = refl }

none_some : (o : Option Answer) (a : Answer) → o ≡ None → o ≡ Some a → ⊥
none_some None a e h = cc
none_some (Some b) a e h = cc

with_new : (known : Known) (n : ℕ) (a : Answer) → known.answers n ≡ None → Grows known (answered_too known n a)
with_new known n a e = record { by = λ k x is. with_else known.answers n k a (λ (q : n ≡ k). none_some (known.answers n) x e (ap known.answers q ∙ is)) ∙ is; choice = refl }

-- a call goes on with nothing changed, under these answers and under more
record Stays (env : Environment) (m : Meaning) (args : List Value) (known : Known) (p : Path) : Type 0 where
  by : (later : Known) (made : List Made) → Grows known later → run_call env m args p later made ≡ Goes later made

stays_on : (env : Environment) (m : Meaning) (args : List Value) (a b : Known) (p : Path) → Grows a b → Stays env m args a p → Stays env m args b p
stays_on env m args a b p g s = record { by = λ later made h. s.by later made (grows_on g h) }

-- what a run goes on to after a call: more answers, under which the call stays
abbrev Behind : Environment → Meaning → List Value → Path → Known → Known → List Made → Type 0
Behind env m args p known known' made' = Grows known known' × Stays env m args known' p

-- the check of an answer
abbrev checked : Bool → Held → Known → List Made → Went
checked b h known made = cond b (unless_nothing h known made) (Goes known made)

-- it goes on, or it ends, whatever is known
passes_or : (b : Bool) (h : Held) → ((known : Known) (made : List Made) → checked b h known made ≡ Goes known made) ⊎ ((known : Known) (made : List Made) → checked b h known made ≡ Ends (record { result = Failure; calls = made }))
passes_or false h = inl (λ known made. refl)
passes_or true Absent = inl (λ known made. refl)
passes_or true (One i) = inl (λ known made. refl)
passes_or true (Optional None) = inr (λ known made. refl)
passes_or true (Optional (Some i)) = inl (λ known made. refl)
passes_or true (Listed is) = inl (λ known made. refl)

if_passes : (b : Bool) (h : Held) (w : Went) (known : Known) (made : List Made) (P : Known → List Made → Type 0) → w ≡ checked b h known made → (((later : Known) (more : List Made) → checked b h later more ≡ Goes later more) → P known made) → IfGoes w P
if_passes b h w known made P e f = ⊎_elim
    (λ pass. subst (λ (x : Went). IfGoes x P) (sym (e ∙ pass known made)) (f pass))
    (λ ended. subst (λ (x : Went). IfGoes x P) (sym (e ∙ ended known made)) tt)
    (passes_or b h)

-- what running a call does, by how its term is called
called_run : (env : Environment) (m : Meaning) (args : List Value) (term : TermId) (ps : Paths) (k : ℕ) (c : Calling) (known : Known) (made : List Made) → calling env term ≡ c
    → run_call env m args (Called term ps k) known made ≡ then_go (make_call m c k (values_at env m args known ps) known made) (λ known' made'. checked (is_fallible c) (call_held m c (known'.answers k) (values_at env m args known' ps)) known' made')
called_run env m args term ps k c known made e =
    ap (λ x. then_go (make_call m x k (values_at env m args known ps) known made) (λ known' made'. checked (is_fallible x) (call_held m x (known'.answers k) (values_at env m args known' ps)) known' made')) e

-- a turn that is known
known_run : (env : Environment) (m : Meaning) (args : List Value) (term : TermId) (ps : Paths) (k : ℕ) (callee : Callee) (kind : ReturnKind) (a : Answer) (known : Known) (made : List Made) → calling env term ≡ ByTurns callee kind → known.answers k ≡ Some a
    → run_call env m args (Called term ps k) known made ≡ checked (may_be_nothing kind) (answer_held a) known made
known_run env m args term ps k callee kind a known made e is =
    called_run env m args term ps k (ByTurns callee kind) known made e
    ∙ ap (λ o. then_go (take_turn m callee k o (values_at env m args known ps) known made) (λ known' made'. checked (may_be_nothing kind) (held_of (known'.answers k)) known' made')) is
    ∙ ap (λ o. checked (may_be_nothing kind) (held_of o) known made) is

-- one that is taken
new_run : (env : Environment) (m : Meaning) (args : List Value) (term : TermId) (ps : Paths) (k : ℕ) (callee : Callee) (kind : ReturnKind) (vs : List Value) (known : Known) (made : List Made) → calling env term ≡ ByTurns callee kind → known.answers k ≡ None → values_at env m args known ps ≡ Some vs
    → run_call env m args (Called term ps k) known made ≡ checked (may_be_nothing kind) (answer_held (turn m callee made)) (answered_too known k (turn m callee made)) (made ++ record { callee = callee; args = vs } ∷ [])
new_run env m args term ps k callee kind vs known made e none is =
    let go : Known → List Made → Went = λ known' made'. checked (may_be_nothing kind) (held_of (known'.answers k)) known' made' in
    called_run env m args term ps k (ByTurns callee kind) known made e
    ∙ ap (λ o. then_go (take_turn m callee k o (values_at env m args known ps) known made) go) none
    ∙ ap (λ o. then_go (take_turn m callee k None o known made) go) is
    ∙ ap (λ o. checked (may_be_nothing kind) (held_of o) (answered_too known k (turn m callee made)) (made ++ record { callee = callee; args = vs } ∷ [])) (with_here known.answers k (turn m callee made))

-- a pure one
case_run : (env : Environment) (m : Meaning) (args : List Value) (term : TermId) (ps : Paths) (k : ℕ) (callee : Callee) (kind : ReturnKind) (o : Option (List Value)) (known : Known) (made : List Made) → calling env term ≡ ByCases callee kind → values_at env m args known ps ≡ o
    → run_call env m args (Called term ps k) known made ≡ checked (may_be_nothing kind) (case_held m (ByCases callee kind) o) known made
case_run env m args term ps k callee kind o known made e is =
    called_run env m args term ps k (ByCases callee kind) known made e ∙ ap (λ x. checked (may_be_nothing kind) (case_held m (ByCases callee kind) x) known made) is

turn_behind : (env : Environment) (m : Meaning) (args : List Value) (term : TermId) (ps : Paths) (k : ℕ) (callee : Callee) (kind : ReturnKind) (o : Option Answer) (vs : Option (List Value)) (known : Known) (made : List Made) → calling env term ≡ ByTurns callee kind → known.answers k ≡ o → values_at env m args known ps ≡ vs → AreThere vs
    → IfGoes (run_call env m args (Called term ps k) known made) (Behind env m args (Called term ps k) known)
turn_behind env m args term ps k callee kind (Some a) vs known made e is at t =
    if_passes (may_be_nothing kind) (answer_held a) (run_call env m args (Called term ps k) known made) known made (Behind env m args (Called term ps k) known) (known_run env m args term ps k callee kind a known made e is)
    (λ pass. (grows_self known, record { by = λ later more g. known_run env m args term ps k callee kind a later more e (g.by k a is) ∙ pass later more }))
turn_behind env m args term ps k callee kind None (Some vs) known made e is at t =
    let a = turn m callee made in
    let known' = answered_too known k a in
    if_passes (may_be_nothing kind) (answer_held a) (run_call env m args (Called term ps k) known made) known' (made ++ record { callee = callee; args = vs } ∷ []) (Behind env m args (Called term ps k) known) (new_run env m args term ps k callee kind vs known made e is at)
    (λ pass. (with_new known k a is, record { by = λ later more g. known_run env m args term ps k callee kind a later more e (g.by k a (with_here known.answers k a)) ∙ pass later more }))
turn_behind env m args term ps k callee kind None None known made e is at t = absurd t

called_behind : (env : Environment) (m : Meaning) (args : List Value) (term : TermId) (ps : Paths) (k : ℕ) (c : Calling) (known : Known) (made : List Made) → calling env term ≡ c → AreThere (values_at env m args known ps)
    → IfGoes (run_call env m args (Called term ps k) known made) (Behind env m args (Called term ps k) known)
called_behind env m args term ps k (ByTurns callee kind) known made e t = turn_behind env m args term ps k callee kind (known.answers k) (values_at env m args known ps) known made e refl refl t
called_behind env m args term ps k (ByCases callee kind) known made e t =
    let vs = values_at env m args known ps in
    if_passes (may_be_nothing kind) (case_held m (ByCases callee kind) vs) (run_call env m args (Called term ps k) known made) known made (Behind env m args (Called term ps k) known) (case_run env m args term ps k callee kind vs known made e refl)
    (λ pass. (grows_self known, record { by = λ later more g. case_run env m args term ps k callee kind vs later more e (values_stay ps env m args known later g t) ∙ pass later more }))
called_behind env m args term ps k NoCall known made e t =
    subst (λ (w : Went). IfGoes w (Behind env m args (Called term ps k) known)) (sym (called_run env m args term ps k NoCall known made e)) (grows_self known, record { by = λ later more g. called_run env m args term ps k NoCall later more e })

-- a call that may be run stays after itself
call_behind : (env : Environment) (m : Meaning) (args : List Value) (p : Path) (known : Known) (made : List Made) → IsReady env m args p known → IfGoes (run_call env m args p known made) (Behind env m args p known)
call_behind env m args (Called term ps k) known made h = called_behind env m args term ps k (calling env term) known made refl h
call_behind env m args p known made h = (grows_self known, record { by = λ later more g. refl })

-- ---- the firsts

then_same : (w : Went) (P Q : Known → List Made → Type 0) (f g : Known → List Made → Went) → IfGoes w P → IfGoes w Q → ((known : Known) (made : List Made) → P known made → Q known made → f known made ≡ g known made) → then_go w f ≡ then_go w g
then_same (Goes known made) P Q f g p q h = h known made p q
then_same (Ends o) P Q f g p q h = refl

seen_more : (env : Environment) (m : Meaning) (args : List Value) (known known' : Known) (x : Path) (seen : List Path) → ((p : Path) → Contains seen p → Stays env m args known p) → Behind env m args x known known' [] → (p : Path) → Contains (x ∷ seen) p → Stays env m args known' p
seen_more env m args known known' x seen s b p c =
    ⊎_elim (λ (is : x ≡ p). subst (Stays env m args known') is b.1) (λ d. stays_on env m args known known' p b.0 (s p d)) (contained_cases x seen p c)

firsts_run : {seen xs ys : List Path} → AreFirsts seen xs ys → (env : Environment) (m : Meaning) (args : List Value) (known : Known) (made : List Made) → ((p : Path) → Contains seen p → Stays env m args known p) → AreReady env m args xs known made
    → run_calls env m args ys known made ≡ run_calls env m args xs known made
firsts_run (no_more seen) env m args known made s r = refl
firsts_run (again seen x xs ys c more) env m args known made s r =
    let same : run_call env m args x known made ≡ Goes known made = (s x c).by known made (grows_self known) in
    firsts_run more env m args known made s (subst (λ (w : Went). IfGoes w (AreReady env m args xs)) same r.1) ∙ sym (ap (λ w. then_go w (run_calls env m args xs)) same)
firsts_run (first seen x xs ys new more) env m args known made s r =
    then_same (run_call env m args x known made) (Behind env m args x known) (AreReady env m args xs) (run_calls env m args ys) (run_calls env m args xs) (call_behind env m args x known made r.0) r.1
    (λ known' made' b q. firsts_run more env m args known' made' (seen_more env m args known known' x seen s b) q)

-- running the firsts of calls that may be run is running all of them
pub firsts_run_all : (env : Environment) (m : Meaning) (args : List Value) (xs ys : List Path) (known : Known) (made : List Made) → AreFirsts [] xs ys → AreReady env m args xs known made → run_calls env m args ys known made ≡ run_calls env m args xs known made
firsts_run_all env m args xs ys known made f r = firsts_run f env m args known made (λ p c. absurd (none_contained p c)) r
