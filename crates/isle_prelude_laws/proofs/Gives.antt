-- What an expression gives if each of its calls is answered by a fixed value.
use Rattle.std.proofs.Common.{◌≡◌, ℕ, ◌+◌, List, [], ◌∷◌, ◌++◌, Bool, true, false, cond, Option, Some, None, refl, sym, ap, ◌∙◌, subst, ⊎_elim}
use Rattle.std.specs.Prelude.{Contains, slice_get}
use Rattle.std.proofs.lemmas.List.Elements.{Contains-append_cases}
use Rattle.isle_base.specs.declared.ids.TermId.{TermId}
use Rattle.isle_base.specs.declared.ids.TypeId.{TypeId}
use Rattle.isle_base.specs.declared.ids.VarId.{VarId}
use Rattle.isle_core.specs.declared.types.Term.{Term}
use Rattle.isle_core.specs.declared.types.TermKind.{TermKind}
use Rattle.isle_core.specs.declared.types.TermKind.TheVariants as kind
use Rattle.isle_core.specs.Calling.{Calling, calling, impure, impure_all}
use Rattle.isle_core.specs.CalledTerms.{Constructor, CalledTerm, is_made_kind, is_made_term, is_made, unless_made, called_by, called_by_all}
use Rattle.isle_core.specs.Choice.{Choice}
use Rattle.isle_core.specs.Eval.{Evaluated, Answered, EvaluatedAll, AllAnswered, named, then_all, before, then_one, called_with, made_or_called, evaluated, evaluated_all}
use Rattle.isle_core.specs.Expr as expr
use Rattle.isle_core.specs.Expr.{Expr, Exprs, NoExpr, AnExpr}
use Rattle.isle_core.specs.Form.{made_value}
use Rattle.isle_core.specs.HasType.{HasType}
use Rattle.isle_core.specs.Making.{MakesVariant, MakesNothing, making_kind, making_of, making}
use Rattle.isle_core.specs.Match.{Names}
use Rattle.isle_core.specs.Meaning.{Meaning}
use Rattle.isle_core.specs.OccurringConstants.{expr_constants, exprs_constants}
use Rattle.isle_core.specs.RightSide.{Places, call_path, paths}
use Rattle.isle_core.specs.Rule.{Environment}
use Rattle.isle_core.specs.Terms.{term_name}
use Rattle.isle_core.specs.Value.{Value, Made}
use Rattle.isle_core.proofs.Contained.{contained_cases, none_contained}
use Rattle.isle_prelude_laws.specs.GivenCalls.{GivenCall, call_with, call_on, own_call, after_value, given_calls, all_given}
use Rattle.isle_prelude_laws.specs.HonestMeaning.{Whole, maker}
use Rattle.isle_prelude_laws.proofs.Mirror.{count, MakesOf}

-- which arguments each whole may be made of
abbrev pub Allows : Type 1
Allows = Whole → List Value → Type 0

-- the value that each whole is
abbrev pub Values : Type 0
Values = Whole → Value

-- a term that makes the whole: called so, with a result that may be this value
pub record IsMaker (env : Environment) (val : Values) (calls : Calling) (a : TermId) (w : Whole) : Type 0 where
  pub made : making env a ≡ MakesNothing
  pub called : calling env a ≡ calls
  pub named : term_name env a ≡ maker w
  pub decl : Term
  pub there : slice_get env.terms a.0 ≡ Some decl
  pub typed : HasType env (val w) decl.ret_ty

-- the expression gives the value, each of its calls making a whole of arguments that are allowed
mutual
  pub data Gives (env : Environment) (names : Names) (val : Values) (calls : Whole → Calling) (P : Allows) : Expr → Value → Type 0 where
    a_variable : (ty : TypeId) (x : VarId) (v : Value) → names x.0 ≡ Some v → Gives env names val calls P (expr.Var ty x) v
    a_made : (ty : TypeId) (term : TermId) (es : Exprs) (vs : List Value) (k : MakesOf env term (count es)) → GivesAll env names val calls P es vs
        → Gives env names val calls P (expr.Term ty term es) (made_value env (MakesVariant k.ty k.variant) vs)
    a_call : (ty : TypeId) (a : TermId) (es : Exprs) (w : Whole) (vs : List Value) → IsMaker env val (calls w) a w → P w vs
        → GivesAll env names val calls P es vs → Gives env names val calls P (expr.Term ty a es) (val w)

  -- values in order
  pub data GivesAll (env : Environment) (names : Names) (val : Values) (calls : Whole → Calling) (P : Allows) : Exprs → List Value → Type 0 where
    gives_none : GivesAll env names val calls P NoExpr []
    gives_one : (e : Expr) (es : Exprs) (v : Value) (vs : List Value) → Gives env names val calls P e v → GivesAll env names val calls P es vs
        → GivesAll env names val calls P (AnExpr e es) (v ∷ vs)

-- ---- more is allowed

mutual
  pub gives_more : {env : Environment} {names : Names} {val : Values} {calls : Whole → Calling} {P Q : Allows} {e : Expr} {v : Value}
      → ((w : Whole) (vs : List Value) → P w vs → Q w vs) → Gives env names val calls P e v → Gives env names val calls Q e v
  gives_more more (a_variable ty x v is) = a_variable ty x v is
  gives_more more (a_made ty term es vs k all) = a_made ty term es vs k (all_more more all)
  gives_more more (a_call ty a es w vs k p all) = a_call ty a es w vs k (more w vs p) (all_more more all)

  pub all_more : {env : Environment} {names : Names} {val : Values} {calls : Whole → Calling} {P Q : Allows} {es : Exprs} {vs : List Value}
      → ((w : Whole) (vs : List Value) → P w vs → Q w vs) → GivesAll env names val calls P es vs → GivesAll env names val calls Q es vs
  all_more more gives_none = gives_none
  all_more more (gives_one e es v vs one rest) = gives_one e es v vs (gives_more more one) (all_more more rest)

-- ---- evaluation

-- the meaning answers the makers of allowed wholes by their values
abbrev pub AnswersSo : Meaning → Values → (Whole → Calling) → Allows → Type 0
AnswersSo m val calls P = (w : Whole) (vs : List Value) → P w vs → (place : ℕ) (made : List Made) → (after : List Made) × (called_with m place (calls w) vs made ≡ Answered (val w) after)

-- a call that made a whole of allowed arguments
pub record IsAllowedCall (env : Environment) (val : Values) (P : Allows) (c : GivenCall) : Type 0 where
  pub whole : Whole
  pub allowed : P whole c.args
  pub named : term_name env c.term ≡ maker whole
  pub gave : c.gave ≡ val whole

-- each of these calls did
abbrev pub AreAllowed : Environment → Values → Allows → List GivenCall → Type 0
AreAllowed env val P calls = (c : GivenCall) → Contains calls c → IsAllowedCall env val P c

-- what an evaluation comes to
pub record ComesTo (env : Environment) (val : Values) (P : Allows) (e : Evaluated) (v : Value) (given : List GivenCall) : Type 0 where
  pub calls : List Made
  pub is : e ≡ Answered v calls
  pub allowed : AreAllowed env val P given

-- so of expressions in order
record AllComeTo (env : Environment) (val : Values) (P : Allows) (e : EvaluatedAll) (vs : List Value) (given : List GivenCall) : Type 0 where
  calls : List Made
  is : e ≡ AllAnswered vs calls
  allowed : AreAllowed env val P given

none_allowed : (env : Environment) (val : Values) (P : Allows) → AreAllowed env val P []
none_allowed env val P c k = absurd (none_contained c k)

both_allowed : (env : Environment) (val : Values) (P : Allows) (xs ys : List GivenCall) → AreAllowed env val P xs → AreAllowed env val P ys
    → AreAllowed env val P (xs ++ ys)
both_allowed env val P xs ys h k c among = ⊎_elim (λ l. h c l) (λ r. k c r) (Contains-append_cases xs ys c among)

one_allowed : (env : Environment) (val : Values) (P : Allows) (c : GivenCall) → IsAllowedCall env val P c → AreAllowed env val P (c ∷ [])
one_allowed env val P c h d among = ⊎_elim (λ (same : c ≡ d). subst (IsAllowedCall env val P) same h) (λ none. absurd (none_contained d none)) (contained_cases c [] d among)

mutual
  pub comes_to : {env : Environment} {names : Names} {val : Values} {callings : Whole → Calling} {P : Allows} {e : Expr} {v : Value}
      → Gives env names val callings P e v → (m : Meaning) → AnswersSo m val callings P
      → (choice : Choice) (places : Places) (n : ℕ) (made : List Made)
      → ComesTo env val P (evaluated env m choice e names places n made) v (given_calls env m choice e names places n made)
  comes_to {env = env} {val = val} {P = P} (a_variable ty x v is) m so choice places n made = record { calls = made; is = ap (λ o. named o made) is; allowed = none_allowed env val P }
  comes_to {env = env} {names = names} {val = val} {P = P} (a_made ty term es vs k all) m so choice places n made =
      let r = all_come all m so choice places n made in
      let place = choice (call_path env term (paths env es places n) (n + impure_all env es)) in
      let own : own_call (making env term) term (evaluated_all env m choice es names places n made) (evaluated env m choice (expr.Term ty term es) names places n made) ≡ [] =
      ap (λ mk. own_call mk term (evaluated_all env m choice es names places n made) (evaluated env m choice (expr.Term ty term es) names places n made)) k.made in
      record {
        calls = r.calls;
        is = ap (λ x. then_one x (made_or_called env m place (making env term) (calling env term))) r.is ∙ ap (λ mk. made_or_called env m place mk (calling env term) vs r.calls) k.made;
        allowed = both_allowed env val P (all_given env m choice es names places n made) (own_call (making env term) term (evaluated_all env m choice es names places n made) (evaluated env m choice (expr.Term ty term es) names places n made)) r.allowed
            (subst (AreAllowed env val P) (sym own) (none_allowed env val P));
      }
  comes_to {env = env} {names = names} {val = val} {callings = callings} {P = P} (a_call ty a es w vs k p all) m so choice places n made =
      let r = all_come all m so choice places n made in
      let place = choice (call_path env a (paths env es places n) (n + impure_all env es)) in
      let s = so w vs p place r.calls in
      let is : evaluated env m choice (expr.Term ty a es) names places n made ≡ Answered (val w) s.0 =
      ap (λ x. then_one x (made_or_called env m place (making env a) (calling env a))) r.is ∙ ap (λ mk. made_or_called env m place mk (calling env a) vs r.calls) k.made ∙ ap (λ c. called_with m place c vs r.calls) k.called ∙ s.1 in
      let one : GivenCall = record { term = a; args = vs; gave = val w } in
      let own : own_call (making env a) a (evaluated_all env m choice es names places n made) (evaluated env m choice (expr.Term ty a es) names places n made) ≡ one ∷ [] =
      ap (λ mk. own_call mk a (evaluated_all env m choice es names places n made) (evaluated env m choice (expr.Term ty a es) names places n made)) k.made
      ∙ ap (λ x. call_on a x (evaluated env m choice (expr.Term ty a es) names places n made)) r.is ∙ ap (call_with a vs) is in
      record {
        calls = s.0;
        is = is;
        allowed = both_allowed env val P (all_given env m choice es names places n made) (own_call (making env a) a (evaluated_all env m choice es names places n made) (evaluated env m choice (expr.Term ty a es) names places n made)) r.allowed
            (subst (AreAllowed env val P) (sym own) (one_allowed env val P one (record { whole = w; allowed = p; named = k.named; gave = refl })));
      }

  all_come : {env : Environment} {names : Names} {val : Values} {callings : Whole → Calling} {P : Allows} {es : Exprs} {vs : List Value}
      → GivesAll env names val callings P es vs → (m : Meaning) → AnswersSo m val callings P
      → (choice : Choice) (places : Places) (n : ℕ) (made : List Made)
      → AllComeTo env val P (evaluated_all env m choice es names places n made) vs (all_given env m choice es names places n made)
  all_come {env = env} {val = val} {P = P} gives_none m so choice places n made = record { calls = made; is = refl; allowed = none_allowed env val P }
  all_come {env = env} {names = names} {val = val} {P = P} (gives_one e es v vs one rest) m so choice places n made =
      let a = comes_to one m so choice places n made in
      let b = all_come rest m so choice places (n + impure env e) a.calls in
      let later : List Made → EvaluatedAll = λ after. evaluated_all env m choice es names places (n + impure env e) after in
      let go : Value → List Made → List GivenCall = λ u after. all_given env m choice es names places (n + impure env e) after in
      record {
        calls = b.calls;
        is = ap (λ x. then_all x (λ u after. before u (later after))) a.is ∙ ap (before v) b.is;
        allowed = both_allowed env val P (given_calls env m choice e names places n made) (after_value (evaluated env m choice e names places n made) go) a.allowed
            (subst (λ x. AreAllowed env val P (after_value x go)) (sym a.is) b.allowed);
      }

-- ---- what is called

-- a term that makes an allowed whole
abbrev pub IsCalledMaker : Environment → Values → (Whole → Calling) → Allows → CalledTerm → Type 0
IsCalledMaker env val calls P o = (w : Whole) × (vs : List Value) × P w vs × IsMaker env val (calls w) o.term w × (o.role ≡ Constructor)

pub made_term : (o : Option Term) (ty : _) (variant : _) → making_of o ≡ MakesVariant ty variant → is_made_term o ≡ true
made_term None ty variant h = absurd cc
made_term (Some t) ty variant h = by t.kind h
  where
    by : (k : TermKind) → making_kind k ≡ MakesVariant ty variant → is_made_kind k ≡ true
    by (kind.Variant of number) e = refl
    by (kind.Struct of) e = refl
    by (kind.Decl pure multi partial recursive constructor extractor) e = absurd cc

mutual
  pub called_makers : {env : Environment} {names : Names} {val : Values} {calls : Whole → Calling} {P : Allows} {e : Expr} {v : Value}
      → Gives env names val calls P e v → (o : CalledTerm) → Contains (called_by env e) o → IsCalledMaker env val calls P o
  called_makers (a_variable ty x v is) o c = absurd (none_contained o c)
  called_makers {env = env} (a_made ty term es vs k all) o c =
      ⊎_elim (λ inside. all_makers all o inside) (λ own. absurd (none_contained o (subst (λ b. Contains (cond b [] (record { term = term; role = Constructor } ∷ [])) o) (made_term (slice_get env.terms term.0) k.ty k.variant k.made) own))) (Contains-append_cases (called_by_all env es) (unless_made env Constructor term) o c)
  called_makers {env = env} {val = val} {calls = calls} {P = P} (a_call ty a es w vs k p all) o c =
      ⊎_elim (λ inside. all_makers all o inside) (λ own. of_own (is_made env a) own) (Contains-append_cases (called_by_all env es) (unless_made env Constructor a) o c)
    where
      of_own : (b : Bool) → Contains (cond b [] (record { term = a; role = Constructor } ∷ [])) o → IsCalledMaker env val calls P o
      of_own true own = absurd (none_contained o own)
      of_own false own =
          let one : CalledTerm = record { term = a; role = Constructor } in
          ⊎_elim (λ (same : one ≡ o). subst (IsCalledMaker env val calls P) same (w, vs, p, k, refl)) (λ none. absurd (none_contained o none)) (contained_cases one [] o own)

  all_makers : {env : Environment} {names : Names} {val : Values} {calls : Whole → Calling} {P : Allows} {es : Exprs} {vs : List Value}
      → GivesAll env names val calls P es vs → (o : CalledTerm) → Contains (called_by_all env es) o → IsCalledMaker env val calls P o
  all_makers gives_none o c = absurd (none_contained o c)
  all_makers {env = env} (gives_one e es v vs one rest) o c = ⊎_elim (λ here. called_makers one o here) (λ there. all_makers rest o there) (Contains-append_cases (called_by env e) (called_by_all env es) o c)

mutual
  pub no_constants : {env : Environment} {names : Names} {val : Values} {calls : Whole → Calling} {P : Allows} {e : Expr} {v : Value}
      → Gives env names val calls P e v → expr_constants e ≡ []
  no_constants (a_variable ty x v is) = refl
  no_constants (a_made ty term es vs k all) = none_within all
  no_constants (a_call ty a es w vs k p all) = none_within all

  none_within : {env : Environment} {names : Names} {val : Values} {calls : Whole → Calling} {P : Allows} {es : Exprs} {vs : List Value}
      → GivesAll env names val calls P es vs → exprs_constants es ≡ []
  none_within gives_none = refl
  none_within (gives_one e es v vs one rest) = ap (λ xs. xs ++ exprs_constants es) (no_constants one) ∙ none_within rest
