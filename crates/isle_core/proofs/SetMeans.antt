-- A rule set that stands for rules gives what they give.
use Rattle.std.proofs.Common.{◌≡◌, ⊎_elim, ℕ, ◌+◌, List, [], ◌∷◌, ◌++◌, Bool, true, false, cond, get_or, map, Option, Some, None, refl, sym, ap, ◌∙◌, subst}
use Rattle.std.specs.Prelude.{Contains, IsSome, IsSomeAnd}
use Rattle.std.specs.Ordering.{int_cmp, is_lt}
use Rattle.std.specs.List.{list_all, AllByRecursion}
use Rattle.std.proofs.lemmas.List.Elements.{All-contains, Contains-get_or, Contains-append_left, Contains-append_right}
use Rattle.std.proofs.lemmas.List.Sums.{AllPass-from_list_all, list_all-from_AllPass}
use Rattle.isle_core.specs.declared.rule_sets.FlatRule.{FlatRule}
use Rattle.isle_core.specs.declared.types.ReturnKind.{ReturnKind}
use Rattle.isle_core.specs.Value.{Value}
use Rattle.isle_core.specs.Meaning.{Meaning}
use Rattle.isle_core.specs.Calling.{AnswersOnce, impure}
use Rattle.isle_core.specs.Match.{Names}
use Rattle.isle_core.specs.Choice.{first_items}
use Rattle.isle_core.specs.Eval.{Evaluated, Answered, Failed}
use Rattle.isle_core.specs.Outcome.{prescription_of, rule_names, rule_value}
use Rattle.isle_core.specs.Single.{AreSingle}
use Rattle.isle_core.proofs.Contained.{none_contained, contained_cases}
use Rattle.isle_core.proofs.SingleTests.{IsPlainTest, rule_plain}
use Rattle.isle_core.specs.HighestMatch.{better, or_later, highest_match, given_by, outcome_of}
use Rattle.isle_core.specs.Path.{Path, at}
use Rattle.isle_core.specs.OrderedCalls.{rule_calls}
use Rattle.isle_core.specs.Tests.{Test, Is, Equal, HasItem, rule_tests, rule_places, rule_result}
use Rattle.isle_core.specs.ValueAt.{Item, AValue, ATuple, Held, Absent, One, Optional, Listed, Known, nothing_known, value_at, equal_values, equal_item, equal_items, equal_held, holds, all_hold}
use Rattle.isle_core.specs.CallRun.{Went, Goes, Ends, then_go, returns, run_calls}
use Rattle.isle_core.specs.RuleSet.{flat_tests, flat_holds, gave, flat_run, higher, highest, given, set_outcome}
use Rattle.isle_core.specs.StandsFor.{IsTrivial, IsFlat, AreFlat}
use Rattle.isle_core.specs.HasType.{HaveTypes}
use Rattle.isle_core.specs.OccurringConstants.{TypedConstant, expr_constants, args_constants, iflets_constants, rule_constants, rules_constants}
use Rattle.isle_core.specs.PatternType.{AreVariantsApart}
use Rattle.isle_base.specs.declared.ids.TypeId.{TypeId}
use Rattle.isle_core.specs.CalledTerms.{CalledTerm, extracted_in, called_in_iflets, called_by, called_in, called}
use Rattle.isle_core.specs.BuiltRule.{IsBuiltRule, CallsBuiltTerms}
use Rattle.isle_core.specs.Rule.{Environment, Rule}
use Rattle.isle_core.proofs.SameValueLaws.{same_value-self}
use Rattle.isle_core.proofs.PatternTests.{Agree, Both}
use Rattle.isle_core.proofs.AnsweredTerms.{HasAnsweredCalls, Supplies, supplies_less, calls_answered}
use Rattle.isle_core.proofs.PlacedVariables.{rule_placed}
use Rattle.isle_core.proofs.RuleMatches.{rule_both, rule_up_to}
use Rattle.isle_core.proofs.ConditionTests.{supplied_less}
use Rattle.isle_core.specs.Having.{const_of}
use Rattle.isle_core.specs.Terms.{sym_text}
use Rattle.isle_core.specs.Scope.{all_variables, iflets_scope, IsScopedRule}
use Rattle.isle_core.specs.Served.{AreServed, IsSupplied, IsTested}
use Rattle.isle_core.proofs.KnownAnswers.{nothing_fresh}
use Rattle.isle_core.proofs.CallsFollow.{Follows, expr_follows}
use Rattle.isle_core.proofs.FirstCalls.{firsts_run_all}
use Rattle.isle_core.proofs.ReadyCalls.{expr_ready}

-- ---- the same tests

iff_same : (a b : Bool) → (a ≡ true → b ≡ true) → (b ≡ true → a ≡ true) → a ≡ b
iff_same true b h k = sym (h refl)
iff_same false true h k = k refl
iff_same false false h k = refl

all_at : {A : Type 0} (p : A → Bool) (xs : List A) → list_all p xs ≡ true → (x : A) → Contains xs x → p x ≡ true
all_at p xs e x c = All-contains (λ y. p y ≡ true) xs x (AllPass-from_list_all p xs e) c

all_from : {A : Type 0} (p : A → Bool) (xs : List A) → ((x : A) → Contains xs x → p x ≡ true) → list_all p xs ≡ true
all_from p xs h = list_all-from_AllPass p xs (λ k d lt. h (get_or xs k d) (Contains-get_or xs k d lt))

equal_values-self : (vs : List Value) → equal_values vs vs ≡ true
equal_values-self [] = refl
equal_values-self (v ∷ vs) = rw (same_value-self v) (equal_values-self vs)

equal_item-self : (i : Item) → equal_item i i ≡ true
equal_item-self (AValue v) = same_value-self v
equal_item-self (ATuple vs) = equal_values-self vs

equal_items-self : (is : List Item) → equal_items is is ≡ true
equal_items-self [] = refl
equal_items-self (i ∷ is) = rw (equal_item-self i) (equal_items-self is)

pub equal_held-self : (h : Held) → equal_held h h ≡ true
equal_held-self Absent = refl
equal_held-self (One i) = equal_item-self i
equal_held-self (Optional None) = refl
equal_held-self (Optional (Some i)) = equal_item-self i
equal_held-self (Listed is) = equal_items-self is

-- a path holds what it holds itself
trivial_holds : (env : Environment) (m : Meaning) (val : Path → Held) (t : Test) → IsPlainTest t → IsTrivial t → holds env m val t ≡ true
trivial_holds env m val (Is p c) plain e = absurd e
trivial_holds env m val (Equal p q) plain e = subst (λ x. equal_held (val p) (val x) ≡ true) e (equal_held-self (val p))
trivial_holds env m val (HasItem p) plain e = absurd plain

plain_at : (ts : List Test) → AllByRecursion IsPlainTest ts → (t : Test) → Contains ts t → IsPlainTest t
plain_at [] h t c = absurd (none_contained t c)
plain_at (x ∷ ts) h t c = ⊎_elim (λ (e : x ≡ t). subst IsPlainTest e h.0) (λ d. plain_at ts h.1 t d) (contained_cases x ts t c)

-- a flat rule holds if its rule's tests do, if the trivial ones hold
pub flat_same_at : (env : Environment) (m : Meaning) (val : Path → Held) (ps : List Path) (r : Rule) (n : ℕ) (f : FlatRule) → ((t : Test) → Contains (rule_tests env r) t → IsTrivial t → holds env m val t ≡ true) → IsFlat env ps r n f → all_hold env m val (flat_tests ps f) ≡ all_hold env m val (rule_tests env r)
flat_same_at env m val ps r n f trivial h =
    iff_same (list_all (holds env m val) (flat_tests ps f)) (list_all (holds env m val) (rule_tests env r))
    (λ e. all_from (holds env m val) (rule_tests env r) (λ t c. ⊎_elim (λ d. all_at (holds env m val) (flat_tests ps f) e t d) (λ k. trivial t c k) (h.tested t c)))
    (λ e. all_from (holds env m val) (flat_tests ps f) (λ t c. all_at (holds env m val) (rule_tests env r) e t (h.no_other t c).0))

flat_same : (env : Environment) (m : Meaning) (args : List Value) (ps : List Path) (r : Rule) (n : ℕ) (f : FlatRule) → AllByRecursion IsPlainTest (rule_tests env r) → IsFlat env ps r n f → flat_holds env m args ps f ≡ all_hold env m (value_at env m args nothing_known) (rule_tests env r)
flat_same env m args ps r n f plain h =
    flat_same_at env m (value_at env m args nothing_known) ps r n f (λ t c k. trivial_holds env m (value_at env m args nothing_known) t (plain_at (rule_tests env r) plain t c) k) h

-- ---- one rule

-- a rule's calls are answered
abbrev HasAnswers : Environment → Meaning → Rule → Type 0
HasAnswers env m r = (n : ℕ) → HasAnsweredCalls AnswersOnce env m (rule_places env r) n r.rhs

rule_answers : (env : Environment) (m : Meaning) (r : Rule) → IsBuiltRule env.terms r → IsScopedRule r → CallsBuiltTerms env.terms r → Supplies AnswersOnce env m (called_in env r) (rule_constants r) → HasAnswers env m r
rule_answers env m r b v i h n =
    calls_answered r.rhs AnswersOnce env m (iflets_scope (all_variables r.args) r.iflets) (rule_places env r) n (rule_placed env env.terms r b) b.rhs v.rhs i
    (supplies_less AnswersOnce env m (called_in env r) (called_by env r.rhs) (rule_constants r) (expr_constants r.rhs) (λ o k. Contains-append_right (extracted_in env r.args ++ called_in_iflets env r.iflets) (called_by env r.rhs) o k)
    (λ c k. Contains-append_right (args_constants r.args ++ iflets_constants r.iflets) (expr_constants r.rhs) c k) h)

follows_returns : (env : Environment) (m : Meaning) (args : List Value) (n n' : ℕ) (known : Known) (p : Path) (r : Evaluated) (w : Went) → Follows env m args n n' known p r w → then_go w (returns env m args p) ≡ Ends (prescription_of r)
follows_returns env m args n n' known p (Answered v made) (Goes known' made') h = rw (h.0.held, h.1) refl
follows_returns env m args n n' known p (Failed made) (Ends o) h = ap Ends h
follows_returns env m args n n' known p (Answered v made) (Ends o) h = absurd h
follows_returns env m args n n' known p (Failed made) (Goes known' made') h = absurd h

-- a flat rule's calls and result are what the evaluation of its right side gives
flat_gives : (env : Environment) (m : Meaning) (args : List Value) (ps : List Path) (r : Rule) (n : ℕ) (f : FlatRule) (names : Names) (tys : List TypeId) → IsTested env tys r → HasAnswers env m r → IsFlat env ps r n f → Agree (value_at env m args nothing_known) names (rule_places env r)
    → flat_run env m args ps f ≡ Ends (prescription_of (rule_value env m r names []))
flat_gives env m args ps r n f names tys tested t h a =
    let places = rule_places env r in
    let up = rule_up_to env tys r n tested in
    ap (λ w. then_go w (returns env m args (at ps f.result))) (firsts_run_all env m args (rule_calls env r n) (map (at ps) f.ordered) nothing_known [] h.ordered (expr_ready r.rhs env m args n nothing_known names places [] (t n) a up (nothing_fresh n first_items)))
    ∙ ap (λ p. then_go (run_calls env m args (rule_calls env r n) nothing_known []) (returns env m args p)) h.result
    ∙ follows_returns env m args n (n + impure env r.rhs) nothing_known (rule_result env r n) (rule_value env m r names []) (run_calls env m args (rule_calls env r n) nothing_known [])
    (expr_follows r.rhs first_items places 0 env m args n nothing_known names places [] (t n) a up (nothing_fresh n first_items))

-- ---- the highest

-- none, or a rule and a flat rule of one priority that give the same
abbrev Alike : Environment → Meaning → List Value → List Path → Option FlatRule → Option (Rule × Names) → Type 0
Alike env m args ps None None = Unit {0}
Alike env m args ps (Some f) (Some o) = (f.prio ≡ o.0.prio) × (flat_run env m args ps f ≡ Ends (prescription_of (rule_value env m o.0 o.1 [])))
Alike env m args ps None (Some o) = ⊥
Alike env m args ps (Some f) None = ⊥

alike_if : (env : Environment) (m : Meaning) (args : List Value) (ps : List Path) (b : Bool) (f g : FlatRule) (o p : Rule × Names) → Alike env m args ps (Some f) (Some o) → Alike env m args ps (Some g) (Some p) → Alike env m args ps (Some (cond b g f)) (Some (cond b p o))
alike_if env m args ps true f g o p h k = k
alike_if env m args ps false f g o p h k = h

alike_higher : (env : Environment) (m : Meaning) (args : List Value) (ps : List Path) (r : Rule) (names : Names) (f : FlatRule) (later : Option FlatRule) (best : Option (Rule × Names)) → Alike env m args ps (Some f) (Some (r, names)) → Alike env m args ps later best
    → Alike env m args ps (Some (higher f later)) (Some (better r names best))
alike_higher env m args ps r names f None None h k = h
alike_higher env m args ps r names f (Some g) (Some p) h k =
    let e : is_lt (int_cmp f.prio g.prio) ≡ is_lt (int_cmp r.prio p.0.prio) = ap (λ x. is_lt (int_cmp x g.prio)) h.0 ∙ ap (λ x. is_lt (int_cmp r.prio x)) k.0 in
    subst (λ b. Alike env m args ps (Some (higher f (Some g))) (Some (cond b p (r, names)))) e (alike_if env m args ps (is_lt (int_cmp f.prio g.prio)) f g (r, names) p h k)
alike_higher env m args ps r names f None (Some p) h k = absurd k
alike_higher env m args ps r names f (Some g) None h k = absurd k

alike_more : (env : Environment) (m : Meaning) (args : List Value) (ps : List Path) (r : Rule) (n : ℕ) (f : FlatRule) (b : Bool) (here : Option Names) (later : Option FlatRule) (best : Option (Rule × Names)) (tys : List TypeId) → IsTested env tys r → HasAnswers env m r → IsFlat env ps r n f
    → Both (value_at env m args nothing_known) here b (rule_places env r) → Alike env m args ps later best → Alike env m args ps (cond b (Some (higher f later)) later) (or_later r here best)
alike_more env m args ps r n f b None later best tys tested t h k s = subst (λ x. Alike env m args ps (cond x (Some (higher f later)) later) best) (sym k) s
alike_more env m args ps r n f b (Some names) later best tys tested t h k s =
    subst (λ x. Alike env m args ps (cond x (Some (higher f later)) later) (Some (better r names best))) (sym k.0) (alike_higher env m args ps r names f later best (h.prio, flat_gives env m args ps r n f names tys tested t h k.1) s)

-- what the rules of a term are like that call no term that answers several times
pub record AreMet (env : Environment) (m : Meaning) (tys : List TypeId) (rules : List Rule) : Type 0 where
  pub built : AllByRecursion (IsBuiltRule env.terms) rules
  pub scoped : AllByRecursion IsScopedRule rules
  pub terms : AllByRecursion (CallsBuiltTerms env.terms) rules
  pub typed : AllByRecursion (IsTested env tys) rules
  pub served : IsSupplied env m (called env rules) (rules_constants rules)
  pub single : AreSingle env (called env rules)

pub first_served : (env : Environment) (m : Meaning) (r : Rule) (rs : List Rule) → IsSupplied env m (called env (r ∷ rs)) (rules_constants (r ∷ rs)) → IsSupplied env m (called_in env r) (rule_constants r)
first_served env m r rs h = supplied_less env m (called env (r ∷ rs)) (called_in env r) (rules_constants (r ∷ rs)) (rule_constants r) (λ o k. Contains-append_left (called_in env r) (called env rs) o k) (λ c k. Contains-append_left (rule_constants r) (rules_constants rs) c k) h

pub patterns_served : (env : Environment) (m : Meaning) (r : Rule) → IsSupplied env m (called_in env r) (rule_constants r) → AreServed env m (extracted_in env r.args)
patterns_served env m r h o c = h.answers o (Contains-append_left (extracted_in env r.args ++ called_in_iflets env r.iflets) (called_by env r.rhs) o (Contains-append_left (extracted_in env r.args) (called_in_iflets env r.iflets) o c))

pub conditions_served : (env : Environment) (m : Meaning) (r : Rule) → IsSupplied env m (called_in env r) (rule_constants r) → IsSupplied env m (called_in_iflets env r.iflets) (iflets_constants r.iflets)
conditions_served env m r h = supplied_less env m (called_in env r) (called_in_iflets env r.iflets) (rule_constants r) (iflets_constants r.iflets)
    (λ o k. Contains-append_left (extracted_in env r.args ++ called_in_iflets env r.iflets) (called_by env r.rhs) o (Contains-append_right (extracted_in env r.args) (called_in_iflets env r.iflets) o k))
    (λ c k. Contains-append_left (args_constants r.args ++ iflets_constants r.iflets) (expr_constants r.rhs) c (Contains-append_right (args_constants r.args) (iflets_constants r.iflets) c k)) h

pub has_some : {A : Type 0} (o : Option A) (P : A → Type 0) → IsSomeAnd o P → IsSome o
has_some None P h = absurd h
has_some (Some x) P h = refl

supplies_all : (env : Environment) (m : Meaning) (terms : List CalledTerm) (constants : List TypedConstant) → IsSupplied env m terms constants → AreSingle env terms → Supplies AnswersOnce env m terms constants
supplies_all env m terms constants h single = record { answers = h.answers; often = single; named = λ ty name k. has_some (const_of m (sym_text env name)) _ (h.named ty name k) }

rest_met : (env : Environment) (m : Meaning) (tys : List TypeId) (r : Rule) (rs : List Rule) → AreMet env m tys (r ∷ rs) → AreMet env m tys rs
rest_met env m tys r rs h = record {
  built = h.built.1;
  scoped = h.scoped.1;
  terms = h.terms.1;
  typed = h.typed.1;
  served = supplied_less env m (called env (r ∷ rs)) (called env rs) (rules_constants (r ∷ rs)) (rules_constants rs) (λ o k. Contains-append_right (called_in env r) (called env rs) o k) (λ c k. Contains-append_right (rule_constants r) (rules_constants rs) c k) h.served;
  single = λ o k. h.single o (Contains-append_right (called_in env r) (called env rs) o k);
}

highest_alike : (rules : List Rule) (fs : List FlatRule) (env : Environment) (m : Meaning) (args : List Value) (tys : List TypeId) (ps : List Path) (n : ℕ) → AreVariantsApart env → HaveTypes env args tys → AreMet env m tys rules → AreFlat env ps rules n fs
    → Alike env m args ps (highest (flat_holds env m args ps) fs) (highest_match env m args rules)
highest_alike [] [] env m args tys ps n apart t met h = tt
highest_alike (r ∷ rs) (f ∷ fs) env m args tys ps n apart t met h =
    let val = value_at env m args nothing_known in
    let served = first_served env m r rs met.served in
    let single : AreSingle env (called_in env r) = λ o k. met.single o (Contains-append_left (called_in env r) (called env rs) o k) in
    alike_more env m args ps r n f (flat_holds env m args ps f) (rule_names env m args r) (highest (flat_holds env m args ps) fs) (highest_match env m args rs) tys
    met.typed.0 (rule_answers env m r met.built.0 met.scoped.0 met.terms.0 (supplies_all env m (called_in env r) (rule_constants r) served single)) h.0
    (subst (λ x. Both val (rule_names env m args r) x (rule_places env r)) (sym (flat_same env m args ps r n f (rule_plain env r single) h.0)) (rule_both env m first_items args tys r apart met.typed.0 t (patterns_served env m r served) (conditions_served env m r served)))
    (highest_alike rs fs env m args tys ps (n + impure env r.rhs) apart t (rest_met env m tys r rs met) h.1)
highest_alike [] (f ∷ fs) env m args tys ps n apart t met h = absurd h
highest_alike (r ∷ rs) [] env m args tys ps n apart t met h = absurd h

alike_given : (env : Environment) (m : Meaning) (args : List Value) (ps : List Path) (kind : ReturnKind) (o : Option FlatRule) (best : Option (Rule × Names)) → Alike env m args ps o best → given env m args ps kind o ≡ given_by env m kind best []
alike_given env m args ps kind None None h = refl
alike_given env m args ps kind (Some f) (Some o) h = ap (gave kind) h.1
alike_given env m args ps kind None (Some o) h = absurd h
alike_given env m args ps kind (Some f) None h = absurd h

-- flat rules that are the rules give what the rules give
pub set_means : (env : Environment) (m : Meaning) (args : List Value) (tys : List TypeId) (ps : List Path) (rules : List Rule) (fs : List FlatRule) (kind : ReturnKind) → AreVariantsApart env → HaveTypes env args tys → AreMet env m tys rules → AreFlat env ps rules 0 fs
    → set_outcome env m args ps fs kind ≡ outcome_of env m args rules kind []
set_means env m args tys ps rules fs kind apart t met h =
    alike_given env m args ps kind (highest (flat_holds env m args ps) fs) (highest_match env m args rules) (highest_alike rules fs env m args tys ps 0 apart t met h)
