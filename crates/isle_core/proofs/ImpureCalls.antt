-- The calls that rules prescribe go to impure terms.
use Rattle.std.proofs.Common.{◌≡◌, ℕ, zero, suc, ◌+◌, List, [], ◌∷◌, ◌++◌, Bool, true, false, Option, Some, None, refl, sym, ap, ◌∙◌, subst}
use Rattle.std.specs.Prelude.{◌||◌, filter, slice_get}
use Rattle.std.specs.List.{AllByRecursion, list_any}
use Rattle.std.specs.Str.{bytes_eq}
use Rattle.std.proofs.lemmas.Slice.Eq.{bytes_eq-Decides}
use Rattle.isle_base.specs.declared.ids.TermId.{TermId}
use Rattle.isle_core.specs.declared.types.Term.{Term}
use Rattle.isle_core.specs.declared.values.Callee.{Callee}
use Rattle.isle_core.specs.declared.values.Callee.TheVariants.{External, Internal}
use Rattle.isle_core.specs.declared.types.ReturnKind.{ReturnKind}
use Rattle.isle_core.specs.Value.{Value, Made}
use Rattle.isle_core.specs.Answered.{Item, AValue, ATuple, Held, Absent, One, Optional, Listed, answer_held}
use Rattle.isle_core.specs.Meaning.{Meaning, turn, case}
use Rattle.isle_core.specs.Calling.{Calling, ByTurns, ByCases, NoCall, calling, calling_of, calling_by, pure_callee, kind_of, impure, impure_all, impure_bindings}
use Rattle.isle_core.specs.Choice.{Choice, first_items}
use Rattle.isle_core.specs.Match.{Names, with}
use Rattle.isle_core.specs.Expr as expr
use Rattle.isle_core.specs.Expr.{Expr, Exprs, NoExpr, AnExpr, LetBindings, NoBinding, ABinding}
use Rattle.isle_core.specs.Eval.{Evaluated, Answered, Failed, EvaluatedAll, AllAnswered, OneFailed, Bound, AllBound, NotBound, named, answered_item, answered, then_all, before, then_one, then_bind, then_within, called_with, made_or_called, evaluated, evaluated_all, bound}
use Rattle.isle_core.specs.HighestMatch.{highest_match, given_by, outcome_of}
use Rattle.isle_core.specs.Outcome.{prescription_of, rule_value}
use Rattle.isle_core.specs.RightSide.{call_path, path, paths, let_places}
use Rattle.isle_core.specs.Tests.{Places, rule_places}
use Rattle.isle_core.specs.Having.{const_of}
use Rattle.isle_core.specs.Making.{Making, MakesVariant, MakesStruct, MakesNothing, making}
use Rattle.isle_core.specs.Terms.{sym_text, goes_to, impure_callee, is_impure}
use Rattle.isle_core.specs.Rule.{Environment, Rule}
use Rattle.isle_core.proofs.OptionLaws.{some_same}

-- each call goes to an impure term
abbrev pub AreImpure : Environment → List Made → Type 0
AreImpure env calls = AllByRecursion (λ (c : Made). is_impure env c.callee ≡ true) calls

one_more : (env : Environment) (made : List Made) (c : Made) → AreImpure env made → is_impure env c.callee ≡ true → AreImpure env (made ++ c ∷ [])
one_more env [] c h k = (k, tt)
one_more env (d ∷ made) c h k = (h.0, one_more env made c h.1 k)

same_bytes : (xs : List ℕ) → bytes_eq xs xs ≡ true
same_bytes xs = (bytes_eq-Decides xs xs).1 refl

pub goes_there : (callee : Callee) → goes_to callee (Some callee) ≡ true
goes_there (External name) = same_bytes name
goes_there (Internal name) = same_bytes name

or_true : (b c : Bool) → c ≡ true → (b || c) ≡ true
or_true true c e = refl
or_true false c e = e

any_there : (env : Environment) (callee : Callee) (ts : List Term) (i : ℕ) (t : Term) → slice_get ts i ≡ Some t → goes_to callee (impure_callee env t t.kind) ≡ true → list_any (λ (u : Term). goes_to callee (impure_callee env u u.kind)) ts ≡ true
any_there env callee [] i t e h = cc
any_there env callee (u ∷ ts) zero t e h =
    let here : goes_to callee (impure_callee env u u.kind) ≡ true = subst (λ (x : Term). goes_to callee (impure_callee env x x.kind) ≡ true) (sym (some_same u t e)) h in
    ap (λ b. b || list_any (λ (x : Term). goes_to callee (impure_callee env x x.kind)) ts) here
any_there env callee (u ∷ ts) (suc i) t e h = or_true (goes_to callee (impure_callee env u u.kind)) _ (any_there env callee ts i t e h)

by_turns : (kind : ReturnKind) (o p : Option Callee) (callee : Callee) (other : ReturnKind) → calling_by kind o p ≡ ByTurns callee other → o ≡ Some callee
by_turns kind (Some c) p callee b e = cc
by_turns kind None (Some c) callee b e = cc
by_turns kind None None callee b e = cc

-- what takes turns is impure
turned_impure : (env : Environment) (term : TermId) (callee : Callee) (kind : ReturnKind) → calling env term ≡ ByTurns callee kind → is_impure env callee ≡ true
turned_impure env term callee kind e = one (slice_get env.terms term.0) refl
  where
    one : (o : Option Term) → slice_get env.terms term.0 ≡ o → is_impure env callee ≡ true
    one None at_term = let bad : NoCall ≡ ByTurns callee kind = sym (ap (calling_of env) at_term) ∙ e in cc
    one (Some t) at_term =
        let goes = by_turns (kind_of t.kind) (impure_callee env t t.kind) (pure_callee env t t.kind) callee kind (sym (ap (calling_of env) at_term) ∙ e) in
        any_there env callee env.terms term.0 t at_term (ap (goes_to callee) goes ∙ goes_there callee)

-- ---- evaluation

calls_in : Evaluated → List Made
calls_in (Answered v made) = made
calls_in (Failed made) = made

calls_in_all : EvaluatedAll → List Made
calls_in_all (AllAnswered vs made) = made
calls_in_all (OneFailed made) = made

calls_in_bound : Bound → List Made
calls_in_bound (AllBound names made) = made
calls_in_bound (NotBound made) = made

named_impure : (env : Environment) (o : Option Value) (made : List Made) → AreImpure env made → AreImpure env (calls_in (named o made))
unfolding calls_in
named_impure env None made h = h
named_impure env (Some v) made h = h

item_impure : (env : Environment) (i : Option Item) (made : List Made) → AreImpure env made → AreImpure env (calls_in (answered_item i made))
unfolding calls_in
item_impure env (Some (AValue v)) made k = k
item_impure env (Some (ATuple vs)) made k = k
item_impure env None made k = k

answered_impure : (env : Environment) (place : ℕ) (h : Held) (made : List Made) → AreImpure env made → AreImpure env (calls_in (answered place h made))
unfolding calls_in
answered_impure env place (One i) made k = item_impure env (Some i) made k
answered_impure env place (Optional o) made k = item_impure env o made k
answered_impure env place Absent made k = k
answered_impure env place (Listed is) made k = item_impure env (slice_get is place) made k

called_impure : (env : Environment) (m : Meaning) (place : ℕ) (c : Calling) (vs : List Value) (made : List Made) → ((callee : Callee) (kind : ReturnKind) → c ≡ ByTurns callee kind → is_impure env callee ≡ true) → AreImpure env made → AreImpure env (calls_in (called_with m place c vs made))
unfolding calls_in
called_impure env m place (ByTurns callee kind) vs made h k = answered_impure env place (answer_held (turn m callee made)) (made ++ record { callee = callee; args = vs } ∷ []) (one_more env made (record { callee = callee; args = vs }) k (h callee kind refl))
called_impure env m place (ByCases callee kind) vs made h k = answered_impure env place (answer_held (case m callee vs)) made k
called_impure env m place NoCall vs made h k = k

made_impure : (env : Environment) (m : Meaning) (place : ℕ) (mk : Making) (c : Calling) (vs : List Value) (made : List Made) → ((callee : Callee) (kind : ReturnKind) → c ≡ ByTurns callee kind → is_impure env callee ≡ true) → AreImpure env made → AreImpure env (calls_in (made_or_called env m place mk c vs made))
unfolding calls_in
made_impure env m place (MakesVariant ty variant) c vs made h k = k
made_impure env m place (MakesStruct ty) c vs made h k = k
made_impure env m place MakesNothing c vs made h k = called_impure env m place c vs made h k

then_impure : (env : Environment) (r : EvaluatedAll) (go : List Value → List Made → Evaluated) → AreImpure env (calls_in_all r) → ((vs : List Value) (made : List Made) → AreImpure env made → AreImpure env (calls_in (go vs made))) → AreImpure env (calls_in (then_one r go))
unfolding calls_in calls_in_all
then_impure env (AllAnswered vs made) go h k = k vs made h
then_impure env (OneFailed made) go h k = h

all_impure : (env : Environment) (r : Evaluated) (go : Value → List Made → EvaluatedAll) → AreImpure env (calls_in r) → ((v : Value) (made : List Made) → AreImpure env made → AreImpure env (calls_in_all (go v made))) → AreImpure env (calls_in_all (then_all r go))
unfolding calls_in calls_in_all
all_impure env (Answered v made) go h k = k v made h
all_impure env (Failed made) go h k = h

before_impure : (env : Environment) (v : Value) (r : EvaluatedAll) → AreImpure env (calls_in_all r) → AreImpure env (calls_in_all (before v r))
unfolding calls_in_all
before_impure env v (AllAnswered vs made) h = h
before_impure env v (OneFailed made) h = h

bind_impure : (env : Environment) (r : Evaluated) (go : Value → List Made → Bound) → AreImpure env (calls_in r) → ((v : Value) (made : List Made) → AreImpure env made → AreImpure env (calls_in_bound (go v made))) → AreImpure env (calls_in_bound (then_bind r go))
unfolding calls_in calls_in_bound
bind_impure env (Answered v made) go h k = k v made h
bind_impure env (Failed made) go h k = h

within_impure : (env : Environment) (r : Bound) (go : Names → List Made → Evaluated) → AreImpure env (calls_in_bound r) → ((names : Names) (made : List Made) → AreImpure env made → AreImpure env (calls_in (go names made))) → AreImpure env (calls_in (then_within r go))
unfolding calls_in calls_in_bound
within_impure env (AllBound names made) go h k = k names made h
within_impure env (NotBound made) go h k = h

mutual
  unfolding calls_in calls_in_all calls_in_bound

  expr_impure : (e : Expr) (env : Environment) (m : Meaning) (choice : Choice) (names : Names) (places : Places) (n : ℕ) (made : List Made) → AreImpure env made → AreImpure env (calls_in (evaluated env m choice e names places n made))
  expr_impure (expr.Var ty x) env m choice names places n made h = named_impure env (names x.0) made h
  expr_impure (expr.ConstBool b) env m choice names places n made h = h
  expr_impure (expr.ConstInt ty k) env m choice names places n made h = h
  expr_impure (expr.ConstPrim ty name) env m choice names places n made h = named_impure env (const_of m (sym_text env name)) made h
  expr_impure (expr.Let ty bs inner) env m choice names places n made h =
      let mid = let_places env bs places n in
      let after = n + impure_bindings env bs in
      within_impure env (bound env m choice bs names places n made) (λ all calls. evaluated env m choice inner all mid after calls) (bindings_impure bs env m choice names places n made h)
      (λ all calls k. expr_impure inner env m choice all mid after calls k)
  expr_impure (expr.Term ty term es) env m choice names places n made h =
      let place = choice (call_path env term (paths env es places n) (n + impure_all env es)) in
      then_impure env (evaluated_all env m choice es names places n made) (made_or_called env m place (making env term) (calling env term)) (exprs_impure es env m choice names places n made h)
      (λ vs calls k. made_impure env m place (making env term) (calling env term) vs calls (turned_impure env term) k)

  exprs_impure : (es : Exprs) (env : Environment) (m : Meaning) (choice : Choice) (names : Names) (places : Places) (n : ℕ) (made : List Made) → AreImpure env made → AreImpure env (calls_in_all (evaluated_all env m choice es names places n made))
  exprs_impure NoExpr env m choice names places n made h = h
  exprs_impure (AnExpr e es) env m choice names places n made h =
      let after = n + impure env e in
      all_impure env (evaluated env m choice e names places n made) (λ v calls. before v (evaluated_all env m choice es names places after calls)) (expr_impure e env m choice names places n made h)
      (λ v calls k. before_impure env v (evaluated_all env m choice es names places after calls) (exprs_impure es env m choice names places after calls k))

  bindings_impure : (bs : LetBindings) (env : Environment) (m : Meaning) (choice : Choice) (names : Names) (places : Places) (n : ℕ) (made : List Made) → AreImpure env made → AreImpure env (calls_in_bound (bound env m choice bs names places n made))
  bindings_impure NoBinding env m choice names places n made h = h
  bindings_impure (ABinding x ty e more) env m choice names places n made h =
      let mid = with places x.0 (path env e places n) in
      let after = n + impure env e in
      bind_impure env (evaluated env m choice e names places n made) (λ v calls. bound env m choice more (with names x.0 v) mid after calls) (expr_impure e env m choice names places n made h)
      (λ v calls k. bindings_impure more env m choice (with names x.0 v) mid after calls k)

prescribed_impure : (env : Environment) (r : Evaluated) → AreImpure env (calls_in r) → AreImpure env (prescription_of r).calls
unfolding calls_in
prescribed_impure env (Answered v made) h = h
prescribed_impure env (Failed made) h = h

given_impure : (env : Environment) (m : Meaning) (kind : ReturnKind) (o : Option (Rule × Names)) (made : List Made) → AreImpure env made → AreImpure env (given_by env m kind o made).calls
given_impure env m kind None made h = h
given_impure env m kind (Some o) made h = prescribed_impure env (rule_value env m o.0 o.1 made) (expr_impure o.0.rhs env m first_items o.1 (rule_places env o.0) 0 made h)

-- the calls of an outcome, if those made before are
pub outcome_impure : (env : Environment) (m : Meaning) (args : List Value) (rules : List Rule) (kind : ReturnKind) (made : List Made) → AreImpure env made → AreImpure env (outcome_of env m args rules kind made).calls
outcome_impure env m args rules kind made h = given_impure env m kind (highest_match env m args rules) made h

-- none of them is left out
pub all_kept : (env : Environment) (calls : List Made) → AreImpure env calls → filter (λ (c : Made). is_impure env c.callee) calls ≡ calls
all_kept env [] h = refl
all_kept env (c ∷ calls) h = rw h.0 (ap (λ cs. c ∷ cs) (all_kept env calls h.1))
