-- The rule sets of terms use what their rules use.
use Rattle.std.proofs.Common.{◌≡◌, ◌↔◌, ⊎_elim, ℕ, zero, suc, ◌<◌, List, [], ◌∷◌, length, map, Bool, true, false, cond, eqb, ◌||◌, not, refl, sym, ap, subst, arith, true≢false}
use Rattle.std.specs.Prelude.{All, Contains, filter, slice_get}
use Rattle.std.specs.List.{AllByRecursion, list_any}
use Rattle.std.proofs.lemmas.Bool.{eqb-true}
use Rattle.std.proofs.lemmas.List.Elements.{All-contains, recursion_from_All}
use Rattle.std.proofs.lemmas.List.FromFn.{get_or-map-range_with_len, length-map-range_with_len}
use Rattle.isle_core.specs.declared.TermId.{TermId}
use Rattle.isle_core.specs.declared.rule_sets.RuleSet.{RuleSet}
use Rattle.isle_core.specs.declared.types.Term.{Term}
use Rattle.isle_core.specs.CalledTerms.{CalledTerm, is_made_term, called}
use Rattle.isle_core.specs.Rule.{Environment, Rule, rules_of}
use Rattle.isle_core.specs.StandsFor.{StandsFor}
use Rattle.isle_core.specs.Terms.{has_rules, term_ids}
use Rattle.isle_core.proofs.Contained.{head_contained, tail_contained, contained_cases, none_contained}
use Rattle.isle_core.proofs.ListLaws.{filter_from, filter_keeps}
use Rattle.isle_rulesets.specs.Grouping.{AreRuleSets}
use Rattle.isle_checks.specs.ClosedWalks.{is_declared, IsListed, Uses}
use Rattle.isle_checks.specs.RuleWalks.{RulesUse}
use Rattle.isle_checks.proofs.BoundCalls.{use_call, call_use}
use Rattle.isle_checks.proofs.CallPaths.{rules_call}
use Rattle.isle_checks.proofs.PathCalls.{path_called}

-- ---- terms with rules

-- the heads of all rules are terms that are there
abbrev pub HaveHeads : Environment → Type 0
HaveHeads env = All (λ (r : Rule). r.root_term.0 < length env.terms) env.rules

head_there : (rules : List Rule) (id : TermId) (count : ℕ) → AllByRecursion (λ (r : Rule). r.root_term.0 < count) rules → list_any (λ (r : Rule). eqb r.root_term.0 id.0) rules ≡ true → id.0 < count
head_there [] id count h e = absurd (true≢false (sym e))
head_there (r ∷ rules) id count h e = by (eqb r.root_term.0 id.0) refl (head_there rules id count h.1) e
  where
    by : (b : Bool) → eqb r.root_term.0 id.0 ≡ b → (list_any (λ (x : Rule). eqb x.root_term.0 id.0) rules ≡ true → id.0 < count) → (b || list_any (λ (x : Rule). eqb x.root_term.0 id.0) rules) ≡ true → id.0 < count
    by true is rest k = subst (λ n. n < count) (eqb-true r.root_term.0 id.0 is) h.0
    by false is rest k = rest k

-- a term with rules is there
pub rules_there : (env : Environment) (id : TermId) → HaveHeads env → has_rules env id ≡ true → id.0 < length env.terms
rules_there env id heads e = head_there env.rules id (length env.terms) (recursion_from_All (λ (r : Rule). r.root_term.0 < length env.terms) env.rules heads) e

id_contained : (env : Environment) (id : TermId) → id.0 < length env.terms → Contains (term_ids env) id
id_contained env id lt =
    let numbered : ℕ → TermId = λ i. record { 0 = i } in
    let long = length-map-range_with_len numbered 0 (length env.terms) in
    (id.0, subst (λ n. id.0 < n) (sym long) lt, get_or-map-range_with_len numbered 0 (length env.terms) id.0 id.0 id lt (omega arith))

no_rules : (rules : List Rule) (id : TermId) → list_any (λ (r : Rule). eqb r.root_term.0 id.0) rules ≡ false → filter (λ (r : Rule). eqb r.root_term.0 id.0) rules ≡ []
no_rules [] id e = refl
no_rules (r ∷ rules) id e = by (eqb r.root_term.0 id.0) (no_rules rules id) e
  where
    by : (b : Bool) → (list_any (λ (x : Rule). eqb x.root_term.0 id.0) rules ≡ false → filter (λ (x : Rule). eqb x.root_term.0 id.0) rules ≡ []) → (b || list_any (λ (x : Rule). eqb x.root_term.0 id.0) rules) ≡ false → cond b (r ∷ filter (λ (x : Rule). eqb x.root_term.0 id.0) rules) (filter (λ (x : Rule). eqb x.root_term.0 id.0) rules) ≡ []
    by true rest k = absurd (true≢false k)
    by false rest k = rest k

-- a term whose rules call another has rules
caller_has_rules : (env : Environment) (id : TermId) (o : CalledTerm) → Contains (called env (rules_of env id)) o → has_rules env id ≡ true
caller_has_rules env id o c = by (has_rules env id) refl
  where
    by : (b : Bool) → has_rules env id ≡ b → b ≡ true
    by true e = refl
    by false e = absurd (none_contained o (subst (λ rs. Contains (called env rs) o) (no_rules env.rules id e) c))

-- ---- terms with rule sets

set_listed : (sets : List (TermId × RuleSet)) (s : TermId × RuleSet) → Contains sets s → Contains (map (λ (x : TermId × RuleSet). x.0) sets) s.0
set_listed [] s c = absurd (none_contained s c)
set_listed (x ∷ sets) s c = ⊎_elim
    (λ (e : x ≡ s). subst (λ (y : TermId × RuleSet). Contains (x.0 ∷ map (λ (z : TermId × RuleSet). z.0) sets) y.0) e (head_contained x.0 (map (λ (z : TermId × RuleSet). z.0) sets)))
    (λ d. tail_contained x.0 (map (λ (z : TermId × RuleSet). z.0) sets) s.0 (set_listed sets s d))
    (contained_cases x sets s c)

listed_set : (sets : List (TermId × RuleSet)) (id : TermId) → Contains (map (λ (x : TermId × RuleSet). x.0) sets) id → IsListed sets id
listed_set [] id c = absurd (none_contained id c)
listed_set (x ∷ sets) id c = ⊎_elim
    (λ (e : x.0 ≡ id). (x.1, subst (λ (y : TermId). Contains (x ∷ sets) (y, x.1)) e (head_contained x sets)))
    (λ d. let l = listed_set sets id d in (l.0, tail_contained x sets (id, l.0) l.1))
    (contained_cases x.0 (map (λ (y : TermId × RuleSet). y.0) sets) id c)

-- a called term that is there is declared
unmade_declared : (terms : List Term) (n : ℕ) → n < length terms → is_made_term (slice_get terms n) ≡ false → is_declared (slice_get terms n) ≡ true
unmade_declared [] n lt e = absurd (omega (arith, lt))
unmade_declared (t ∷ terms) zero lt e = ap not e
unmade_declared (t ∷ terms) (suc n) lt e = unmade_declared terms n (omega (arith, lt)) e

module _ (env : Environment) (sets : List (TermId × RuleSet)) (stand : AreRuleSets env sets) (heads : HaveHeads env) where
  -- a term with a rule set has rules
  listed_rules : (id : TermId) → IsListed sets id → has_rules env id ≡ true
  listed_rules id l = (filter_from (has_rules env) (term_ids env) id (subst (λ ids. Contains ids id) stand.ids (set_listed sets (id, l.0) l.1))).1

  -- a term with rules has a rule set
  rules_listed : (id : TermId) → has_rules env id ≡ true → IsListed sets id
  rules_listed id e = listed_set sets id (subst (λ ids. Contains ids id) (sym stand.ids) (filter_keeps (has_rules env) (term_ids env) id (id_contained env id (rules_there env id heads e)) e))

  stands : (id : TermId) (set : RuleSet) → Contains sets (id, set) → StandsFor env set (rules_of env id)
  stands id set c = All-contains (λ (s : TermId × RuleSet). StandsFor env s.1 (rules_of env s.0)) sets (id, set) stand.stand c

  -- what a rule set uses is used by the rules of its term
  pub set_uses : (one other : TermId) → Uses env.terms sets one other → RulesUse env one other
  set_uses one other u =
      let call = use_call env u.0.bindings other u.2 in
      let path = ((stands one u.0 u.1).paths call.1.answer).0 call.1.among in
      (call.0, path_called env (rules_of env one) 0 (record { term = other; role = call.0 }) call.1.answer path call.1.calls, listed_rules other u.3)

  -- what the rules of a term use is used by its rule set
  pub rules_use : (one other : TermId) → RulesUse env one other → Uses env.terms sets one other
  rules_use one other u =
      let o : CalledTerm = record { term = other; role = u.0 } in
      let l = rules_listed one (caller_has_rules env one o u.1) in
      let call = rules_call env o (rules_of env one) 0 u.1 in
      let among = ((stands one l.0 l.1).paths call.answer).1 call.among in
      let declared = unmade_declared env.terms other.0 (rules_there env other heads u.2) call.unmade in
      (l.0, l.1, call_use env l.0.bindings o declared (record { answer = call.answer; among = among; calls = call.calls; unmade = call.unmade }), rules_listed other u.2)

  -- rule sets that stand for the rules of terms use what the rules use
  pub same_uses : (one other : TermId) → Uses env.terms sets one other ↔ RulesUse env one other
  same_uses one other = (set_uses one other, rules_use one other)
