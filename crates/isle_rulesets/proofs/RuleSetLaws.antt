-- Rules become a rule set that stands for them.
use Rattle.std.proofs.Common.{◌≡◌, inl, inr, ⊎_elim, ℕ, ◌<◌, ◌≤◌, ◌+◌, List, [], ◌∷◌, ◌++◌, length, map, take, get_or, Bool, true, false, cond, refl, sym, ap, ◌∙◌, subst, arith, append_assoc, append-nil, Bor}
use Rattle.std.specs.Prelude.{◌↔◌, Contains, All, filter}
use Rattle.std.specs.List.{AllByRecursion}
use Rattle.std.proofs.lemmas.List.{map_more, length-map, get_or-map, take_all}
use Rattle.std.proofs.lemmas.List.Elements.{Contains-append_left, Contains-append_right, Contains-append_cases}
use Rattle.isle_core.specs.declared.BindingId.{BindingId}
use Rattle.isle_core.specs.declared.rule_sets.Binding.{Binding}
use Rattle.isle_core.specs.declared.rule_sets.FlatRule.{FlatRule}
use Rattle.isle_core.specs.declared.rule_sets.RuleSet.{RuleSet}
use Rattle.isle_core.specs.declared.rules.Rule.{Rule as CodeRule}
use Rattle.isle_core.specs.declared.types.Term.{Term}
use Rattle.isle_core.specs.Path.{Path, Nowhere, at, paths_of}
use Rattle.isle_core.specs.Calling.{impure}
use Rattle.isle_core.specs.Iterators.{calls_multi, rule_iterators}
use Rattle.isle_core.specs.RulePaths.{args_paths, expr_paths, iflets_paths, rule_paths}
use Rattle.isle_core.specs.Tests.{Test, Places, no_places, args_after, rule_places, rule_tests}
use Rattle.isle_core.specs.RuleViews.{rule, rules}
use Rattle.isle_core.specs.RulePaths.{rules_paths}
use Rattle.isle_core.specs.StandsFor.{EachOnce, AreFirsts, IsFlat, AreFlat, StandsFor}
use Rattle.isle_core.specs.BuiltRule.{IsBuiltRule, CallsBuiltTerms}
use Rattle.isle_core.specs.Rule.{Environment, Rule}
use Rattle.isle_core.specs.Scope.{IsScopedRule}
use Rattle.isle_rulesets.specs.declared.pattern_tests.PatternTests.{PatternTests}
use Rattle.isle_rulesets.specs.Keys.{IsThere}
use Rattle.isle_rulesets.specs.Met.{args_lists, iflets_lists, expr_lists}
use Rattle.isle_rulesets.specs.Numbering.{Numbered, Extends}
use Rattle.isle_rulesets.specs.Conditions.{NumbersRule}
use Rattle.isle_rulesets.specs.Firsts.{are_two}
use Rattle.isle_rulesets.specs.RightSides.{NumbersExpr, Given}
use Rattle.isle_rulesets.specs.FlatRules.{Adds, rules_impure, Covers}
use Rattle.isle_rulesets.proofs.PlacedPaths.{extends_self, extends_more, at_get, contains_kept, all_there_kept}
use Rattle.isle_rulesets.proofs.RuleTests.{Stands, rule_stands}
use Rattle.isle_rulesets.proofs.FlatTests.{at_there, calls_first, constraints_first, tests_kept, tests_from, tests_once}
use Rattle.isle_rulesets.proofs.MetCalls.{rule_met}
use Rattle.isle_rulesets.proofs.MetLists.{lists_met}
use Rattle.isle_rulesets.proofs.ConditionLaws.{NumbersRuleIn}

-- ---- a rule

-- a flat rule of the first ones of a pattern's tests, of calls and of lists, and a result
pub record IsMade (r : Rule) (d : PatternTests) (calls lists : List BindingId) (b : BindingId) (f : FlatRule) : Type 0 where
  pub constraints : AreFirsts [] d.constraints.items f.constraints
  pub equals : AreFirsts [] (filter are_two d.equals.items) f.equals
  pub prio : f.prio ≡ r.prio
  pub pos : f.pos ≡ r.pos
  pub iterators : AreFirsts [] lists f.iterators
  pub ordered : AreFirsts [] calls f.ordered
  pub result : f.result ≡ b

-- numbers that stand at lists are there
multi_there : (env : Environment) (ps qs : List Path) (bs : List BindingId) → map (at ps) bs ≡ qs → AllByRecursion (λ q. calls_multi env q ≡ true) qs → AllByRecursion (IsThere ps) bs
multi_there env ps qs [] e h = tt
multi_there env ps [] (b ∷ bs) e h = cc
multi_there env ps (q ∷ qs) (b ∷ bs) e h =
    let here : at ps b ≡ q = first_same (at ps b) q (map (at ps) bs) qs e in
    ((q, at_there ps b.0 q (λ nowhere. no_list q nowhere h.0) here), multi_there env ps qs bs (rest_same (at ps b) q (map (at ps) bs) qs e) h.1)
  where
    first_same : (x y : Path) (xs ys : List Path) → x ∷ xs ≡ y ∷ ys → x ≡ y
    first_same x y xs ys e' = cc

    rest_same : (x y : Path) (xs ys : List Path) → x ∷ xs ≡ y ∷ ys → xs ≡ ys
    rest_same x y xs ys e' = cc

    no_list : (x : Path) → x ≡ Nowhere → calls_multi env x ≡ true → ⊥
    no_list x nowhere k = let bad : calls_multi env Nowhere ≡ true = sym (ap (calls_multi env) nowhere) ∙ k in cc

kept_one : (keep : Path → Bool) (x : Path) (xs : List Path) (b : Bool) → keep x ≡ b → AllByRecursion (λ q. keep q ≡ true) xs → AllByRecursion (λ q. keep q ≡ true) (cond b (x ∷ xs) xs)
kept_one keep x xs true e h = (e, h)
kept_one keep x xs false e h = h

kept_so : (keep : Path → Bool) (xs : List Path) → AllByRecursion (λ q. keep q ≡ true) (filter keep xs)
kept_so keep [] = tt
kept_so keep (x ∷ xs) = kept_one keep x (filter keep xs) (keep x) refl (kept_so keep xs)

-- a rule that begins with no list
rule_begun : (terms : List Term) (old mid new : Numbered) (r : Rule) (d : PatternTests) (none calls : List BindingId) (b : BindingId) (f : FlatRule) → IsBuiltRule terms r → IsScopedRule r → CallsBuiltTerms terms r → NumbersRuleIn terms old mid r d → none ≡ []
    → Given terms d.variables mid new none calls r.rhs b → IsMade r d calls new.lists b f → old.lists ≡ [] → (env : Environment) → env.terms ≡ terms → Adds env old new r f
rule_begun terms old mid new r d none calls b f built bound built_terms numbered start given is fresh env same = record {
  extends = extends_more (paths_of old.bindings) (paths_of mid.bindings) (paths_of new.bindings) h.joins.extends g.grows.extends;
  only = λ p c. ⊎_elim (λ k. ⊎_elim (λ x. inl x) (λ x. inr (whole p (Contains-append_left front own p x))) (h.joins.only p k))
      (λ k. inr (whole p (Contains-append_right front own p k))) (g.grows.only p c);
  all = λ p c. ⊎_elim (λ k. contains_kept (paths_of mid.bindings) (paths_of new.bindings) p g.grows.extends (h.joins.all p k)) (λ k. g.grows.all p k)
      (Contains-append_cases front own p (subst (λ qs. Contains qs p) paths c));
  flat = λ ps x once. flat ps x once;
  calls = g.grows.calls;
}
  where
    h : NumbersRule env old mid r d
    h = numbered env same

    places : Places
    places = rule_places env r

    front : List Path
    front = args_paths env r.args 0 ++ iflets_paths env r.iflets (args_after env r.args 0 no_places)

    own : List Path
    own = expr_paths env r.rhs (rule_places env r) old.calls

    paths : rule_paths env r old.calls ≡ (args_paths env r.args 0 ++ iflets_paths env r.iflets (args_after env r.args 0 no_places)) ++ expr_paths env r.rhs (rule_places env r) old.calls
    paths = sym (append_assoc (args_paths env r.args 0) (iflets_paths env r.iflets (args_after env r.args 0 no_places)) (expr_paths env r.rhs (rule_places env r) old.calls))

    whole : (p : Path) → Contains ((args_paths env r.args 0 ++ iflets_paths env r.iflets (args_after env r.args 0 no_places)) ++ expr_paths env r.rhs (rule_places env r) old.calls) p → Contains (rule_paths env r old.calls) p
    whole p c = subst (λ qs. Contains qs p) (sym paths) c

    built_env : IsBuiltRule env.terms r
    built_env = subst (λ ts. IsBuiltRule ts r) (sym same) built

    g : NumbersExpr env (rule_places env r) (record { bindings = mid.bindings; calls = old.calls; lists = mid.lists }) new [] calls r.rhs b
    g =
        let first = given env (rule_places env r) same h.stand in
        let second = subst (λ ms. NumbersExpr env (rule_places env r) mid new ms calls r.rhs b) start first in
        subst (λ n. NumbersExpr env (rule_places env r) (record { bindings = mid.bindings; calls = n; lists = mid.lists }) new [] calls r.rhs b) h.joins.calls second

    early : List Path
    early = args_lists env r.args 0 ++ iflets_lists env r.iflets (args_after env r.args 0 no_places)

    late : List Path
    late = expr_lists env r.rhs (rule_places env r) old.calls

    lists : (ps : List Path) → Extends (paths_of new.bindings) ps → map (at ps) new.lists ≡ rule_iterators env r old.calls
    lists ps x =
        g.grows.lists ps x
        ∙ ap (λ ls. ls ++ late) (h.joins.lists ps (extends_more (paths_of mid.bindings) (paths_of new.bindings) ps g.grows.extends x) ∙ ap (λ ls. map (at ps) ls ++ early) fresh)
        ∙ append_assoc (args_lists env r.args 0) (iflets_lists env r.iflets (args_after env r.args 0 no_places)) late
        ∙ sym (lists_met env terms r old.calls same built_env bound built_terms)

    flat : (ps : List Path) → Extends (paths_of new.bindings) ps → EachOnce ps → IsFlat env ps r old.calls f
    flat ps x once =
        let dr = h.tests ps (extends_more (paths_of mid.bindings) (paths_of new.bindings) ps g.grows.extends x) in
        let ts = rule_tests env r in
        let cs = dr.constraints in
        let es = dr.equals in
        let stand : (t : Test) → Contains ts t → Stands t = λ t c. rule_stands env r t built_env bound c in
        let there = multi_there env ps (rule_iterators env r old.calls) new.lists (lists ps x) (kept_so (calls_multi env) (rule_paths env r old.calls)) in
        record {
          tested = tests_kept ps once ts stand d.constraints.items f.constraints d.equals.items f.equals cs es is.constraints is.equals;
          no_other = tests_from ps once ts stand d.constraints.items f.constraints d.equals.items f.equals cs es is.constraints is.equals;
          once = tests_once ps once ts stand d.constraints.items f.constraints d.equals.items f.equals cs es is.constraints is.equals;
          constraints = constraints_first ps once ts stand d.constraints.items f.constraints cs is.constraints;
          prio = is.prio;
          pos = is.pos;
          iterators = subst (λ qs. AreFirsts [] qs (map (at ps) f.iterators)) (lists ps x) (calls_first ps new.lists f.iterators once there is.iterators);
          ordered = subst (λ cs. AreFirsts [] cs (map (at ps) f.ordered)) (g.grows.ordered ps x ∙ rule_met env r old.calls) (calls_first ps calls f.ordered once (all_there_kept (paths_of new.bindings) ps calls x (g.grows.there tt)) is.ordered);
          result = ap (at ps) is.result ∙ at_get ps b.0 _ (x.kept b.0 _ g.found);
        }

-- the lists that a rule before has met don't count
pub rule_added : (terms : List Term) (old begun mid new : Numbered) (r : Rule) (d : PatternTests) (none calls lists : List BindingId) (b : BindingId) (f : FlatRule) → IsBuiltRule terms r → IsScopedRule r → CallsBuiltTerms terms r → begun ≡ record { bindings = old.bindings; calls = old.calls; lists = [] }
    → NumbersRuleIn terms begun mid r d → none ≡ [] → Given terms d.variables mid new none calls r.rhs b → lists ≡ new.lists → IsMade r d calls lists b f → (env : Environment) → env.terms ≡ terms → Adds env old new r f
rule_added terms old begun mid new r d none calls lists b f built bound built_terms begins numbered start given all is env same =
    let first : Numbered = record { bindings = old.bindings; calls = old.calls; lists = [] } in
    let made : IsMade r d calls new.lists b f = subst (λ ls. IsMade r d calls ls b f) all is in
    let a : Adds env first new r f = rule_begun terms first mid new r d none calls b f built bound built_terms (subst (λ n. NumbersRuleIn terms n mid r d) begins numbered) start given made refl env same in
    record { extends = a.extends; only = a.only; all = a.all; flat = a.flat; calls = a.calls }

-- ---- rules

behind : (n k l : ℕ) → (n + k) + l ≡ n + (k + l)
behind n k l = omega arith

paths_push : (env : Environment) (rs : List Rule) (r : Rule) (n : ℕ) → rules_paths env (rs ++ r ∷ []) n ≡ rules_paths env rs n ++ rule_paths env r (n + rules_impure env rs)
paths_push env [] r n = append-nil (rule_paths env r n) ∙ ap (rule_paths env r) (none n)
  where
    none : (k : ℕ) → k ≡ k + 0
    none k = omega arith
paths_push env (q ∷ rs) r n =
    ap (λ ps. rule_paths env q n ++ ps) (paths_push env rs r (n + impure env q.rhs) ∙ ap (λ k. rules_paths env rs (n + impure env q.rhs) ++ rule_paths env r k) (behind n (impure env q.rhs) (rules_impure env rs)))
    ∙ sym (append_assoc (rule_paths env q n) (rules_paths env rs (n + impure env q.rhs)) (rule_paths env r (n + rules_impure env (q ∷ rs))))

flat_push : (env : Environment) (ps : List Path) (rs : List Rule) (fs : List FlatRule) (r : Rule) (f : FlatRule) (n : ℕ) → AreFlat env ps rs n fs → IsFlat env ps r (n + rules_impure env rs) f → AreFlat env ps (rs ++ r ∷ []) n (fs ++ f ∷ [])
flat_push env ps [] [] r f n h k = (subst (λ m. IsFlat env ps r m f) (none n) k, tt)
  where
    none : (k : ℕ) → k + 0 ≡ k
    none k = omega arith
flat_push env ps (q ∷ rs) (g ∷ fs) r f n h k = (h.0, flat_push env ps rs fs r f (n + impure env q.rhs) h.1 (subst (λ m. IsFlat env ps r m f) (sym (behind n (impure env q.rhs) (rules_impure env rs))) k))
flat_push env ps [] (g ∷ fs) r f n h k = absurd h
flat_push env ps (q ∷ rs) [] r f n h k = absurd h

impure_push : (env : Environment) (rs : List Rule) (r : Rule) → rules_impure env (rs ++ r ∷ []) ≡ rules_impure env rs + impure env r.rhs
impure_push env [] r = omega arith
impure_push env (q ∷ rs) r = ap (λ n. impure env q.rhs + n) (impure_push env rs r) ∙ sym (behind (impure env q.rhs) (rules_impure env rs) (impure env r.rhs))

covers_push : (env : Environment) (old new : Numbered) (rs : List Rule) (fs : List FlatRule) (r : Rule) (f : FlatRule) → Covers env old rs fs → Adds env old new r f → Covers env new (rs ++ r ∷ []) (fs ++ f ∷ [])
covers_push env old new rs fs r f h a = record {
  only = λ p c. subst (λ ps. Contains ps p) (sym paths) (⊎_elim (λ k. Contains-append_left (rules_paths env rs 0) (rule_paths env r old.calls) p (h.only p k)) (λ k. Contains-append_right (rules_paths env rs 0) (rule_paths env r old.calls) p k) (a.only p c));
  all = λ p c. ⊎_elim (λ k. contains_kept (paths_of old.bindings) (paths_of new.bindings) p a.extends (h.all p k)) (λ k. a.all p k) (Contains-append_cases (rules_paths env rs 0) (rule_paths env r old.calls) p (subst (λ ps. Contains ps p) paths c));
  flat = λ ps x once. flat_push env ps rs fs r f 0 (h.flat ps (extends_more (paths_of old.bindings) (paths_of new.bindings) ps a.extends x) once) (subst (λ m. IsFlat env ps r m f) from_none (a.flat ps x once));
  calls = a.calls ∙ ap (λ n. n + impure env r.rhs) h.calls ∙ sym (impure_push env rs r);
}
  where
    from_none : old.calls ≡ 0 + rules_impure env rs
    from_none = h.calls ∙ none (rules_impure env rs)
      where
        none : (k : ℕ) → k ≡ 0 + k
        none k = omega arith

    paths : rules_paths env (rs ++ r ∷ []) 0 ≡ rules_paths env rs 0 ++ rule_paths env r old.calls
    paths = paths_push env rs r 0 ∙ ap (λ n. rules_paths env rs 0 ++ rule_paths env r n) (sym from_none)

-- no rule
pub covers_none : (env : Environment) → Covers env (record { bindings = []; calls = 0; lists = [] }) [] []
covers_none env = record { only = λ p c. c; all = λ p c. c; flat = λ ps x once. tt; calls = refl }

-- so for each environment of these terms
abbrev pub CoversIn : List Term → Numbered → List Rule → List FlatRule → Type 0
CoversIn terms n rs fs = (env : Environment) → env.terms ≡ terms → Covers env n rs fs

-- the next rule of the code's list
pub covers_more : (terms : List Term) (old new : Numbered) (rs : List (Bor CodeRule)) (i : ℕ) (x : Bor CodeRule) (fs items : List FlatRule) (f : FlatRule) → i < length rs → x ≡ get_or rs i x → CoversIn terms old (rules (take i rs)) fs
    → ((env : Environment) → env.terms ≡ terms → Adds env old new (rule x.now) f) → items ≡ fs ++ f ∷ [] → CoversIn terms new (rules (take (i + 1) rs)) items
covers_more terms old new rs i x fs items f lt is h a more env same =
    let one = map_more (λ (r : Bor CodeRule). rule r.now) rs i x lt ∙ ap (λ (y : Bor CodeRule). rules (take i rs) ++ rule y.now ∷ []) (sym is) in
    subst (Covers env new (rules (take (i + 1) rs))) (sym more) (subst (λ qs. Covers env new qs (fs ++ f ∷ [])) (sym one) (covers_push env old new (rules (take i rs)) fs (rule x.now) f (h env same) (a env same)))

-- after the last rule of the code's list
pub covers_all : (terms : List Term) (n : Numbered) (rs : List (Bor CodeRule)) (i : ℕ) (fs : List FlatRule) → length rs ≤ i → CoversIn terms n (rules (take i rs)) fs → CoversIn terms n (rules rs) fs
covers_all terms n rs i fs le h = subst (λ xs. CoversIn terms n (rules xs) fs) (take_all i rs le) h

-- all rules
pub covers_stands : (terms : List Term) (s : RuleSet) (bs : List Binding) (n : Numbered) (rs : List Rule) (fs : List FlatRule) → CoversIn terms n rs fs → EachOnce (paths_of bs) → bs ≡ n.bindings → s.bindings ≡ bs → s.rules ≡ fs → (env : Environment) → env.terms ≡ terms → StandsFor env s rs
covers_stands terms s bs n rs fs covers once are is is_fs env same =
    let h = covers env same in
    let is_bs = is ∙ are in
    record {
      once = subst (λ x. EachOnce (paths_of x)) (sym is) once;
      paths = λ p. subst (λ x. Contains (paths_of x) p ↔ Contains (rules_paths env rs 0) p) (sym is_bs) (h.only p, h.all p);
      flat = subst (λ x. AreFlat env (paths_of s.bindings) rs 0 x) (sym is_fs) (subst (λ x. AreFlat env (paths_of x) rs 0 fs) (sym is_bs) (h.flat (paths_of n.bindings) (extends_self (paths_of n.bindings)) (subst (λ x. EachOnce (paths_of x)) are once)));
    }

-- a rule of a list of rules of a kind
pub rule_at : (P : Rule → Type 0) (rs : List (Bor CodeRule)) (i : ℕ) (x : Bor CodeRule) → All P (rules rs) → i < length rs → x ≡ get_or rs i x → P (rule x.now)
rule_at P rs i x h lt is =
    let within : i < length (rules rs) = omega (arith, length-map rs (λ (r : Bor CodeRule). rule r.now)) in
    subst P (get_or-map (λ (r : Bor CodeRule). rule r.now) rs i x (rule x.now) lt ∙ ap (λ (r : Bor CodeRule). rule r.now) (sym is)) (h i (rule x.now) within)
