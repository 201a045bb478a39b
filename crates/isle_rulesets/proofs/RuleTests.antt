-- The paths of a rule's tests stand somewhere.
use Rattle.std.proofs.Common.{◌≡◌, ◌⊎◌, inl, inr, ⊎_elim, ℕ, suc, List, [], ◌∷◌, ◌++◌, Bool, true, false, cond, Option, Some, None, refl, sym, ap, ◌∙◌, subst}
use Rattle.std.specs.Prelude.{Contains, filter}
use Rattle.std.specs.List.{AllByRecursion}
use Rattle.std.proofs.lemmas.Bool.{false≢true}
use Rattle.std.proofs.lemmas.List.Elements.{All-contains, All-from_recursion, recursion_from_All}
use Rattle.isle_core.specs.BuiltRule.{IsBuiltPattern, AreBuiltPatterns, IsBuiltIfLet, IsBuiltRule, HasBuiltTerms, AllHaveBuiltTerms, BindingsHaveBuiltTerms}
use Rattle.isle_core.specs.declared.types.Term.{Term}
use Rattle.isle_core.specs.Calling.{Calling, calling, instance_of, is_fallible, answers_often}
use Rattle.isle_core.specs.declared.rule_sets.Constraint.TheVariants as constraint
use Rattle.isle_core.specs.Expr as expr
use Rattle.isle_core.specs.Expr.{Expr, Exprs, NoExpr, AnExpr, LetBindings, NoBinding, ABinding}
use Rattle.isle_core.specs.Making.{making}
use Rattle.isle_core.specs.Match.{with}
use Rattle.isle_core.specs.RightSide.{call_path, path, paths, let_places}
use Rattle.isle_core.specs.Opening.{Opening, AsVariant, AsStruct, ByExtractor, opening, part_path}
use Rattle.isle_core.specs.Pattern as pattern
use Rattle.isle_core.specs.Pattern.{Pattern, Patterns, NoPattern, APattern, Var, ConstBool, ConstInt, ConstPrim, Wildcard, BindPattern, And}
use Rattle.isle_core.specs.Path.{Path, Nowhere, Arg, Extracted}
use Rattle.isle_core.specs.Tests.{Test, Is, Equal, HasItem, Places, no_places, met_tests, met_after, found_tests, opening_tests, tests, parts_tests, each_tests, after, args_tests, args_after, called_tests, all_called_tests, bindings_called_tests, iflets_tests, rule_tests}
use Rattle.isle_core.specs.Scope.{IsScopedRule}
use Rattle.isle_core.specs.Rule.{Environment, IfLet, Rule}
use Rattle.isle_core.proofs.Contained.{head_contained, tail_contained, contained_cases, none_contained}
use Rattle.isle_rulesets.proofs.VariablePlaces.{IsLone, AreLone, IsLoneOpening, opening_lone, part_lone, after_lone, arg_lone, none_lone, place_lone}
use Rattle.isle_rulesets.proofs.ConditionCalls.{terms_built}
use Rattle.isle_rulesets.proofs.ExprPlaces.{term_somewhere, all_both, AreReached, rule_reached}

-- ---- tests of what stands somewhere

-- it stands somewhere
abbrev pub IsSomewhere : Path → Type 0
IsSomewhere p = p ≡ Nowhere → ⊥

-- so does what a test speaks of
abbrev pub Stands : Test → Type 0
Stands (Is q c) = IsSomewhere q
Stands (Equal r q) = IsSomewhere r × IsSomewhere q
Stands (HasItem q) = Unit {0}

met_stand : (o : Option Path) (p : Path) → ((r : Path) → o ≡ Some r → IsSomewhere r) → IsSomewhere p → AllByRecursion Stands (met_tests o p)
met_stand None p w a = tt
met_stand (Some r) p w a = ((w r refl, a), tt)

found_stand : (c : Calling) (p : Path) → IsSomewhere p → AllByRecursion Stands (found_tests c p)
found_stand c p a = pick (answers_often c) (is_fallible c)
  where
    pick : (often fallible : Bool) → AllByRecursion Stands (cond often (HasItem p ∷ []) (cond fallible (Is p constraint.Some ∷ []) []))
    pick true fallible = (tt, tt)
    pick false true = (a, tt)
    pick false false = tt

opening_stand : (env : Environment) (opened : Opening) (p : Path) → IsLoneOpening env opened → IsSomewhere p → AllByRecursion Stands (opening_tests opened p)
opening_stand env (AsVariant ty variant) p o a = (a, tt)
opening_stand env (AsStruct ty) p o a = (a, tt)
opening_stand env (ByExtractor term c count) p o a = found_stand c (Extracted term p) (λ f. cc)

mutual
  tests_stand : (q : Pattern) (env : Environment) (p : Path) (places : Places) → IsBuiltPattern env.terms q → IsLone env p → AreLone env places → AllByRecursion Stands (tests env q p places)
  tests_stand (Var ty x) env p places b a w = met_stand (places x.0) p (λ r e. (w x.0 r e).0) a.0
  tests_stand (ConstBool v) env p places b a w = (a.0, tt)
  tests_stand (ConstInt ty v) env p places b a w = (a.0, tt)
  tests_stand (ConstPrim ty name) env p places b a w = (a.0, tt)
  tests_stand (Wildcard ty) env p places b a w = tt
  tests_stand (pattern.Term ty term qs) env p places b a w =
      let o = opening_lone env term b.0 in
      all_both Stands (opening_tests (opening env term) p) (parts_tests env (opening env term) qs 0 p places) (opening_stand env (opening env term) p o a.0) (parts_stand qs env (opening env term) 0 p places o b.2 w)
  tests_stand (BindPattern ty x q) env p places b a w =
      let mid = met_after (places x.0) x.0 p places in
      all_both Stands (met_tests (places x.0) p) (tests env q p mid) (met_stand (places x.0) p (λ r e. (w x.0 r e).0) a.0) (tests_stand q env p mid b a (after_lone (Var ty x) env p places tt a w))
  tests_stand (And ty qs) env p places b a w = each_stand qs env p places b a w

  each_stand : (qs : Patterns) (env : Environment) (p : Path) (places : Places) → AreBuiltPatterns env.terms qs → IsLone env p → AreLone env places → AllByRecursion Stands (each_tests env qs p places)
  each_stand NoPattern env p places b a w = tt
  each_stand (APattern q qs) env p places b a w =
      all_both Stands (tests env q p places) (each_tests env qs p (after env q p places)) (tests_stand q env p places b.0 a w) (each_stand qs env p (after env q p places) b.1 a (after_lone q env p places b.0 a w))

  parts_stand : (qs : Patterns) (env : Environment) (opened : Opening) (i : ℕ) (p : Path) (places : Places) → IsLoneOpening env opened → AreBuiltPatterns env.terms qs → AreLone env places → AllByRecursion Stands (parts_tests env opened qs i p places)
  parts_stand NoPattern env opened i p places o b w = tt
  parts_stand (APattern q qs) env opened i p places o b w =
      let fp = part_path opened i p in
      let rest = after env q fp places in
      let at : IsLone env fp = part_lone env opened i p o in
      all_both Stands (tests env q fp places) (parts_tests env opened qs (suc i) p rest) (tests_stand q env fp places b.0 at w) (parts_stand qs env opened (suc i) p rest o b.1 (after_lone q env fp places b.0 at w))

args_stand : (env : Environment) (qs : List Pattern) (i : ℕ) (places : Places) → AllByRecursion (IsBuiltPattern env.terms) qs → AreLone env places → AllByRecursion Stands (args_tests env qs i places)
args_stand env [] i places b w = tt
args_stand env (q ∷ qs) i places b w =
    let rest = after env q (Arg i) places in
    all_both Stands (tests env q (Arg i) places) (args_tests env qs (suc i) rest) (tests_stand q env (Arg i) places b.0 (arg_lone env i) w) (args_stand env qs (suc i) rest b.1 (after_lone q env (Arg i) places b.0 (arg_lone env i) w))

-- that calls find something is said of what stands somewhere
mutual
  called_stand : (e : Expr) (env : Environment) (terms : List Term) (places : Places) → env.terms ≡ terms → HasBuiltTerms terms e → AllByRecursion Stands (called_tests env e places)
  called_stand (expr.Var ty x) env terms places same i = tt
  called_stand (expr.ConstBool v) env terms places same i = tt
  called_stand (expr.ConstInt ty v) env terms places same i = tt
  called_stand (expr.ConstPrim ty name) env terms places same i = tt
  called_stand (expr.Term ty term es) env terms places same i =
      let p = call_path env term (paths env es places 0) 0 in
      all_both Stands (all_called_tests env es places) (found_tests (calling env term) p) (all_called_stand es env terms places same i.1)
      (found_stand (calling env term) p (term_somewhere (making env term) term (paths env es places 0) (instance_of (calling env term) 0)))
  called_stand (expr.Let ty bs inner) env terms places same i =
      all_both Stands (bindings_called_tests env bs places) (called_tests env inner (let_places env bs places 0)) (bindings_called_stand bs env terms places same i.0) (called_stand inner env terms (let_places env bs places 0) same i.1)

  all_called_stand : (es : Exprs) (env : Environment) (terms : List Term) (places : Places) → env.terms ≡ terms → AllHaveBuiltTerms terms es → AllByRecursion Stands (all_called_tests env es places)
  all_called_stand NoExpr env terms places same i = tt
  all_called_stand (AnExpr e es) env terms places same i = all_both Stands (called_tests env e places) (all_called_tests env es places) (called_stand e env terms places same i.0) (all_called_stand es env terms places same i.1)

  bindings_called_stand : (bs : LetBindings) (env : Environment) (terms : List Term) (places : Places) → env.terms ≡ terms → BindingsHaveBuiltTerms terms bs → AllByRecursion Stands (bindings_called_tests env bs places)
  bindings_called_stand NoBinding env terms places same i = tt
  bindings_called_stand (ABinding x ty e bs) env terms places same i =
      let mid = with places x.0 (path env e places 0) in
      all_both Stands (called_tests env e places) (bindings_called_tests env bs mid) (called_stand e env terms places same i.0) (bindings_called_stand bs env terms mid same i.1)

iflets_stand : (env : Environment) (cs : List IfLet) (places : Places) → AllByRecursion (IsBuiltIfLet env.terms) cs → AreReached env cs places → AreLone env places → AllByRecursion Stands (iflets_tests env cs places)
iflets_stand env [] places b r w = tt
iflets_stand env (c ∷ cs) places b r w =
    let p = path env c.rhs places 0 in
    let rest = after env c.lhs p places in
    all_both Stands (called_tests env c.rhs places ++ tests env c.lhs p places) (iflets_tests env cs rest)
    (all_both Stands (called_tests env c.rhs places) (tests env c.lhs p places) (called_stand c.rhs env env.terms places refl (terms_built c.rhs env.terms b.0.calls)) (tests_stand c.lhs env p places b.0.lhs r.0 w))
    (iflets_stand env cs rest b.1 r.1 (after_lone c.lhs env p places b.0.lhs r.0 w))

-- each test of a rule is one of what stands somewhere
pub rule_stands : (env : Environment) (r : Rule) (t : Test) → IsBuiltRule env.terms r → IsScopedRule r → Contains (rule_tests env r) t → Stands t
rule_stands env r t b s c =
    let args = recursion_from_All (IsBuiltPattern env.terms) r.args b.args in
    let ts = args_tests env r.args 0 no_places in
    let places = args_after env r.args 0 no_places in
    let us = iflets_tests env r.iflets places in
    All-contains Stands (ts ++ us) t
    (All-from_recursion Stands (ts ++ us)
    (all_both Stands ts us (args_stand env r.args 0 no_places args (none_lone env)) (iflets_stand env r.iflets places (recursion_from_All (IsBuiltIfLet env.terms) r.iflets b.iflets) (rule_reached env r b s.iflets) (place_lone env r.args args)))) c

-- ---- what is left of a list

cases_at : {A : Type 0} (p : A → Bool) (y : A) (xs : List A) (x : A) (b : Bool) → p y ≡ b → (Contains (filter p xs) x → Contains xs x × (p x ≡ true)) → Contains (cond b (y ∷ filter p xs) (filter p xs)) x → Contains (y ∷ xs) x × (p x ≡ true)
cases_at p y xs x true e rest c =
    ⊎_elim (λ (s : y ≡ x). (subst (Contains (y ∷ xs)) s (head_contained y xs), ap p (sym s) ∙ e)) (λ d. let h = rest d in (tail_contained y xs x h.0, h.1)) (contained_cases y (filter p xs) x c)
cases_at p y xs x false e rest c = let h = rest c in (tail_contained y xs x h.0, h.1)

-- what is left passes
pub filter_cases : {A : Type 0} (p : A → Bool) (xs : List A) (x : A) → Contains (filter p xs) x → Contains xs x × (p x ≡ true)
filter_cases p [] x c = absurd (none_contained x c)
filter_cases p (y ∷ xs) x c = cases_at p y xs x (p y) refl (filter_cases p xs x) c

keeps_at : {A : Type 0} (p : A → Bool) (y : A) (xs : List A) (x : A) (b : Bool) → p y ≡ b → p x ≡ true → (Contains xs x → Contains (filter p xs) x) → (y ≡ x) ⊎ Contains xs x → Contains (cond b (y ∷ filter p xs) (filter p xs)) x
keeps_at p y xs x true e t rest (inl s) = subst (Contains (y ∷ filter p xs)) s (head_contained y (filter p xs))
keeps_at p y xs x true e t rest (inr d) = tail_contained y (filter p xs) x (rest d)
keeps_at p y xs x false e t rest (inl s) = let bad : false ≡ true = sym e ∙ ap p s ∙ t in absurd (false≢true bad)
keeps_at p y xs x false e t rest (inr d) = rest d

-- what passes is left
pub filter_keeps : {A : Type 0} (p : A → Bool) (xs : List A) (x : A) → p x ≡ true → Contains xs x → Contains (filter p xs) x
filter_keeps p [] x t c = absurd (none_contained x c)
filter_keeps p (y ∷ xs) x t c = keeps_at p y xs x (p y) refl t (filter_keeps p xs x t) (contained_cases y xs x c)
