-- Under the meaning of a plan an instruction's constructor makes its value, lawfully and honestly.
use Rattle.std.proofs.Common.{◌≡◌, ℕ, suc, ◌+◌, List, [], ◌∷◌, ◌++◌, length, false, cond, Option, Some, None, refl, sym, ap, ◌∙◌, subst, ⊎_elim, inl, arith}
use Rattle.std.specs.Prelude.{◌==◌, Contains, IsSomeAnd, option_and_then, slice_get}
use Rattle.std.proofs.lemmas.List.{append-nil}
use Rattle.isle_base.specs.declared.ids.TermId.{TermId}
use Rattle.isle_base.specs.declared.ids.TypeId.{TypeId}
use Rattle.isle_core.specs.declared.types.Term.{Term}
use Rattle.isle_core.specs.Calling.{extracting}
use Rattle.isle_core.specs.CalledTerms.{Role, Constructor, CalledTerm, extracted_in, called_in_iflets, called_in, called_by, called}
use Rattle.isle_core.specs.Choice.{Choice, first_items}
use Rattle.isle_core.specs.Eval.{iflets_names}
use Rattle.isle_core.specs.Lawful.{CallingFits, result_types, called_as, RoleFits, CalledTermFits, IsLawful}
use Rattle.isle_core.specs.Match.{Names, no_names, with, met, matches_all}
use Rattle.isle_core.specs.Meaning.{Meaning}
use Rattle.isle_core.specs.OccurringConstants.{TypedConstant, args_constants, iflets_constants, expr_constants, rule_constants, rules_constants}
use Rattle.isle_core.specs.Outcome.{rule_names, rule_value, IsHighest, prescription_of, one_rule}
use Rattle.isle_core.specs.Rule.{Environment, Rule, rules_of}
use Rattle.isle_core.specs.Terms.{term_name}
use Rattle.isle_core.specs.Tests.{no_places, args_after, rule_places}
use Rattle.isle_core.specs.Value.{Value, Made}
use Rattle.isle_core.proofs.Contained.{head_contained, contained_cases, none_contained}
use Rattle.isle_prelude_laws.specs.GivenCalls.{GivenCall, given_calls}
use Rattle.isle_prelude_laws.specs.HonestMeaning.{Whole, taker, answer_to, IsTakenBack, IsHonest}
use Rattle.isle_ast.specs.Tree.{Def}
use Rattle.isle_prelude_laws.specs.RoundTrip.{extractor_pattern, IsMadeOf, AnswersPattern, IsHonestlyMade}
use Rattle.isle_prelude_laws.proofs.Gives.{Gives, IsAllowedCall, IsCalledMaker, ComesTo, comes_to, called_makers, no_constants}
use Rattle.isle_prelude_laws.proofs.Operands.{variables_from, IsPlainRule, rule_operands, not_yet}
use Rattle.isle_prelude_laws.proofs.Plan.{Plan, plan_value, Planned, maker_calling, taker_calling, planned, makers_answer, takers_answer, makers_fit, makers_alike}

-- ---- variables match as many values

variables_match : (env : Environment) (m : Meaning) (choice : Choice) (i : ℕ) (tys : List TypeId) (vs : List Value) (before : Names)
    → length vs ≡ length tys → ((k : ℕ) → before (i + k) ≡ None)
    → (after : Names) × (matches_all env m choice (variables_from i tys) i vs before ≡ Some after)
variables_match env m choice i [] [] before long none = (before, refl)
variables_match env m choice i [] (v ∷ vs) before long none = absurd (omega (arith, long))
variables_match env m choice i (ty ∷ tys) [] before long none = absurd (omega (arith, long))
variables_match env m choice i (ty ∷ tys) (v ∷ vs) before long none =
    let here : i + 0 ≡ i = omega arith in
    let new : before i ≡ None = ap before (sym here) ∙ none 0 in
    let unset : (k : ℕ) → with before i v (suc i + k) ≡ None = λ k.
    let past : i == (suc i + k) ≡ false = not_yet i (suc i + k) (omega arith) in
    let at : suc i + k ≡ i + suc k = omega arith in
    ap (λ b. cond b (Some v) (before (suc i + k))) past ∙ ap before at ∙ none (suc k) in
    let rest = variables_match env m choice (suc i) tys vs (with before i v) (omega (arith, long)) unset in
    (rest.0, ap (λ o. option_and_then (λ (n : Names). matches_all env m choice (variables_from (suc i) tys) (suc i) vs n) (met o i v before)) new ∙ rest.1)

-- ---- variables call nothing and are no constants

no_extracted : (env : Environment) (i : ℕ) (tys : List TypeId) → extracted_in env (variables_from i tys) ≡ []
no_extracted env i [] = refl
no_extracted env i (ty ∷ tys) = no_extracted env (suc i) tys

no_argument_constants : (i : ℕ) (tys : List TypeId) → args_constants (variables_from i tys) ≡ []
no_argument_constants i [] = refl
no_argument_constants i (ty ∷ tys) = no_argument_constants (suc i) tys

-- what a plan rests on: the rule gives a value whose calls are planned, and their wholes are taken apart as is known
pub record IsPlanFor (env : Environment) (term : TermId) (operands : List Value) (p : Plan) : Type 0 where
  pub rule : Rule
  pub rules : rules_of env term ≡ rule ∷ []
  pub tys : List TypeId
  pub plain : IsPlainRule rule tys
  pub many : length operands ≡ length tys
  pub value : Value
  pub gives : (names : Names) → ((k : ℕ) → names k ≡ slice_get operands k) → Gives env names (plan_value p) maker_calling (Planned p) rule.rhs value
  pub takes : (w : Whole) (vs : List Value) → Planned p w vs → (y : TermId) → term_name env y ≡ taker w → extracting env y ≡ taker_calling w

module _ (env : Environment) (term : TermId) (operands : List Value) (p : Plan) (h : IsPlanFor env term operands p) where
  -- ---- lawful

  called_are : called env (rules_of env term) ≡ called_by env h.rule.rhs
  called_are =
      ap (called env) h.rules ∙ append-nil (called_in env h.rule)
      ∙ ap (λ ps. (extracted_in env ps ++ called_in_iflets env h.rule.iflets) ++ called_by env h.rule.rhs) h.plain.args
      ∙ ap (λ xs. (xs ++ called_in_iflets env h.rule.iflets) ++ called_by env h.rule.rhs) (no_extracted env 0 h.tys)
      ∙ ap (λ cs. called_in_iflets env cs ++ called_by env h.rule.rhs) h.plain.iflets

  constants_are : rules_constants (rules_of env term) ≡ []
  constants_are =
      let all = h.gives (slice_get operands) (λ k. refl) in
      ap rules_constants h.rules ∙ append-nil (rule_constants h.rule)
      ∙ ap (λ ps. (args_constants ps ++ iflets_constants h.rule.iflets) ++ expr_constants h.rule.rhs) h.plain.args
      ∙ ap (λ xs. (xs ++ iflets_constants h.rule.iflets) ++ expr_constants h.rule.rhs) (no_argument_constants 0 h.tys)
      ∙ ap (λ cs. iflets_constants cs ++ expr_constants h.rule.rhs) h.plain.iflets
      ∙ no_constants all

  maker_fits : (o : CalledTerm) → IsCalledMaker env (plan_value p) maker_calling (Planned p) o → CalledTermFits env (planned p) o
  maker_fits o c =
      let k = c.3 in
      subst (λ (role : Role). RoleFits env (planned p) o.term role) (sym c.4)
      (subst (λ (t : Option Term). IsSomeAnd t (λ (x : Term). CallingFits env (planned p) (result_types Constructor x) (called_as env o.term Constructor))) (sym k.there)
      (subst (CallingFits env (planned p) (k.decl.ret_ty ∷ [])) (sym k.called) (makers_fit p env k.decl.ret_ty c.0 c.1 c.2 k.typed)))

  no_constant : {X : Type 0} (c : TypedConstant) → Contains (rules_constants (rules_of env term)) c → X
  no_constant c k = absurd (none_contained c (subst (λ cs. Contains cs c) constants_are k))

  plan_lawful : IsLawful env term (planned p)
  plan_lawful = record {
    answers = λ o c. maker_fits o (called_makers (h.gives (slice_get operands) (λ k. refl)) o (subst (λ os. Contains os o) called_are c));
    named = λ ty name c. no_constant (ty, _) c;
    apart = λ ty c d k j same. no_constant (ty, c) k;
    declared = λ name v is. absurd (nothing v is);
  }
    where
      nothing : (v : Value) → None ≡ Some v → ⊥
      nothing v is = cc

  -- ---- honest

  only : (r : Rule) → Contains (rules_of env term) r → h.rule ≡ r
  only r c = ⊎_elim (λ (e : h.rule ≡ r). e) (λ none. absurd (none_contained r none)) (contained_cases h.rule [] r (subst (λ (rs : List Rule). Contains rs r) h.rules c))

  taken_back : (c : GivenCall) → IsAllowedCall env (plan_value p) (Planned p) c → IsTakenBack env (planned p) c
  taken_back c a w y made taken =
      let alike = makers_alike a.whole w (sym a.named ∙ made) in
      let calls = h.takes a.whole c.args a.allowed y (taken ∙ sym alike.taken) in
      ap (λ x. answer_to (planned p) x c.gave) calls ∙ ap (answer_to (planned p) (taker_calling a.whole)) a.gave ∙ takers_answer p a.whole c.args a.allowed ∙ ap Some (alike.back c.args)

  comes : (names : Names) (made : List Made) → ((k : ℕ) → names k ≡ slice_get operands k)
      → ComesTo env (plan_value p) (Planned p)
      (rule_value env (planned p) h.rule names made) h.value (given_calls env (planned p) first_items h.rule.rhs names (rule_places env h.rule) 0 made)
  comes names made are = comes_to (h.gives names are) (planned p) (makers_answer p) first_items (rule_places env h.rule) 0 made

  plan_honest : (made : List Made) → IsHonest env (planned p) term operands made
  plan_honest made r names highest =
      let one = only r highest.among in
      let matched : rule_names env (planned p) operands h.rule ≡ Some names = subst (λ (x : Rule). rule_names env (planned p) operands x ≡ Some names) (sym one) highest.matched in
      let are = (rule_operands env (planned p) h.rule h.tys operands names h.plain matched).0 in
      let all = (comes names made are).allowed in
      subst (λ (x : Rule). (c : GivenCall) → Contains (given_calls env (planned p) first_items x.rhs names (rule_places env x) 0 made) c → IsTakenBack env (planned p) c) one (λ c k. taken_back c (all c k))

  -- ---- what the constructor makes

  plan_matches : (names : Names) × (rule_names env (planned p) operands h.rule ≡ Some names)
  plan_matches =
      let s = variables_match env (planned p) first_items 0 h.tys operands no_names h.many (λ k. refl) in (
        s.0,
        ap (λ ps. option_and_then (iflets_names env (planned p) first_items h.rule.iflets (args_after env h.rule.args 0 no_places)) (matches_all env (planned p) first_items ps 0 operands no_names)) h.plain.args
            ∙ ap (option_and_then (iflets_names env (planned p) first_items h.rule.iflets (args_after env h.rule.args 0 no_places))) s.1
            ∙ ap (λ cs. iflets_names env (planned p) first_items cs (args_after env h.rule.args 0 no_places) s.0) h.plain.iflets,
      )

  plan_gives : (made : List Made) → IsMadeOf env (planned p) term operands made h.value
  plan_gives made =
      let s = plan_matches in
      let are = (rule_operands env (planned p) h.rule h.tys operands s.0 h.plain s.1).0 in
      let highest : IsHighest env (planned p) operands (rules_of env term) h.rule s.0 = record {
        among = subst (λ (rs : List Rule). Contains rs h.rule) (sym h.rules) (head_contained h.rule []);
        matched = s.1;
        above = λ q others c k. inl (sym (only q c));
      } in
      let c = comes s.0 made are in
      (prescription_of (rule_value env (planned p) h.rule s.0 made), one_rule h.rule s.0 highest, ap (λ e. (prescription_of e).result) c.is)

  -- all of it
  pub plan_holds : (defs : List Def) → IsSomeAnd (extractor_pattern defs term) (AnswersPattern env (planned p)) → (made : List Made)
      → IsHonestlyMade defs env term operands made (planned p)
  plan_holds defs answers made = record { lawful = plan_lawful; answers = answers; honest = plan_honest made; value = h.value; gives = plan_gives made }
