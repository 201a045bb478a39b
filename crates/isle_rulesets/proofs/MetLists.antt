-- The lists that are met are the calls of a rule's paths that answer several times.
use Rattle.std.proofs.Common.{◌≡◌, ℕ, suc, ◌+◌, List, [], ◌∷◌, ◌++◌, Bool, true, false, cond, Option, Some, refl, sym, ap, ◌∙◌}
use Rattle.std.specs.Prelude.{filter}
use Rattle.std.specs.List.{AllByRecursion}
use Rattle.std.proofs.lemmas.List.Elements.{filter-append, recursion_from_All}
use Rattle.isle_core.specs.declared.TermId.{TermId}
use Rattle.isle_core.specs.declared.types.Term.{Term}
use Rattle.isle_core.specs.Expr as expr
use Rattle.isle_core.specs.Expr.{Expr, Exprs, NoExpr, AnExpr, LetBindings, NoBinding, ABinding}
use Rattle.isle_core.specs.Making.{Making, MakesVariant, MakesStruct, MakesNothing, making}
use Rattle.isle_core.specs.Pattern as pattern
use Rattle.isle_core.specs.Pattern.{Pattern, Patterns, NoPattern, APattern}
use Rattle.isle_core.specs.Path.{Path, Paths, Arg, Extracted, Chosen, Inner}
use Rattle.isle_core.specs.Opening.{Opening, AsVariant, AsStruct, ByExtractor, opening, part_path}
use Rattle.isle_core.specs.Calling.{Calling, calling, answers_often, is_fallible, instance_of, impure, impure_all, impure_bindings}
use Rattle.isle_core.specs.Tests.{Places, no_places, after, args_after, rule_places}
use Rattle.isle_core.specs.RightSide.{path_or, term_path, call_path, path, paths, let_places}
use Rattle.isle_core.specs.Match.{with}
use Rattle.isle_core.specs.RulePaths.{opening_paths, pattern_paths, parts_paths, each_paths, args_paths, iflets_paths, with_inner, expr_paths, exprs_paths, bindings_paths}
use Rattle.isle_core.specs.Iterators.{calls_multi, rule_iterators}
use Rattle.isle_core.specs.BuiltRule.{IsBuiltPattern, AreBuiltPatterns, IsBuiltIfLet, IsBuiltRule, HasBuiltTerms, AllHaveBuiltTerms, BindingsHaveBuiltTerms, CallsBuiltTerms}
use Rattle.isle_core.specs.Rule.{Environment, IfLet, Rule}
use Rattle.isle_core.specs.Scope.{IsScopedRule}
use Rattle.isle_rulesets.specs.declared.made.Made.TheVariants as made
use Rattle.isle_rulesets.specs.Met.{list_met, expr_lists, exprs_lists, bindings_lists, opening_lists, pattern_lists, parts_lists, each_lists, args_lists, condition_lists, iflets_lists}
use Rattle.isle_rulesets.proofs.ConditionCalls.{terms_built}
use Rattle.isle_rulesets.proofs.ExprPlaces.{variable_plain, ArePlain, with_plain, value_none, lets_plain, AreReached, rule_reached, rule_lone}
use Rattle.isle_rulesets.proofs.RightSideLaws.{no_call}
use Rattle.isle_rulesets.proofs.VariablePlaces.{AreLone, IsLoneOpening, opening_lone, part_lone, after_lone, place_lone}

skipped : (env : Environment) (p : Path) (ps : List Path) → calls_multi env p ≡ false → filter (calls_multi env) (p ∷ ps) ≡ filter (calls_multi env) ps
skipped env p ps e = ap (λ b. cond b (p ∷ filter (calls_multi env) ps) (filter (calls_multi env) ps)) e

-- one after the other
both : (env : Environment) (ps qs ls ms : List Path) → filter (calls_multi env) ps ≡ ls → filter (calls_multi env) qs ≡ ms → filter (calls_multi env) (ps ++ qs) ≡ ls ++ ms
both env ps qs ls ms h k = filter-append (calls_multi env) ps qs ∙ ap (λ rs. rs ++ filter (calls_multi env) qs) h ∙ ap (λ rs. ls ++ rs) k

-- no variable is one
variable_none : (env : Environment) (o : Option Path) → ((p : Path) → o ≡ Some p → calls_multi env p ≡ false) → filter (calls_multi env) (path_or o ∷ []) ≡ []
variable_none env o h = skipped env (path_or o) [] (variable_plain env o h)

-- a call that answers several times is one; its value is none
called_lists : (env : Environment) (c : Calling) (p : Path) → calls_multi env p ≡ answers_often c → filter (calls_multi env) (with_inner c p) ≡ list_met c p
called_lists env c p e = pick (answers_often c) (is_fallible c) e
  where
    pick : (often fallible : Bool) → calls_multi env p ≡ often → filter (calls_multi env) (cond often (p ∷ Chosen p ∷ []) (cond fallible (p ∷ Inner p ∷ []) (p ∷ []))) ≡ cond often (p ∷ []) []
    pick true fallible f = ap (λ b. cond b (p ∷ []) []) f
    pick false true f = ap (λ b. cond b (p ∷ []) []) f
    pick false false f = ap (λ b. cond b (p ∷ []) []) f

-- what is made calls nothing
made_called : (env : Environment) (mk : Making) (term : TermId) (ps : Paths) (n : ℕ) → making env term ≡ mk → calls_multi env (term_path mk term ps n) ≡ answers_often (calling env term)
made_called env (MakesVariant ty variant) term ps n e = sym (ap answers_often (no_call env env.terms term (made.Variant ty variant) refl e))
made_called env (MakesStruct ty) term ps n e = sym (ap answers_often (no_call env env.terms term (made.Struct ty) refl e))
made_called env MakesNothing term ps n e = refl

call_met : (env : Environment) (term : TermId) (ps : Paths) (n : ℕ) → filter (calls_multi env) (with_inner (calling env term) (call_path env term ps n)) ≡ list_met (calling env term) (call_path env term ps n)
call_met env term ps n = called_lists env (calling env term) (call_path env term ps n) (made_called env (making env term) term ps (instance_of (calling env term) n) refl)

opening_met : (env : Environment) (opened : Opening) (p : Path) → IsLoneOpening env opened → filter (calls_multi env) (opening_paths opened p) ≡ opening_lists opened p
opening_met env (AsVariant ty variant) p o = refl
opening_met env (AsStruct ty) p o = refl
opening_met env (ByExtractor term c count) p o = called_lists env c (Extracted term p) (sym (ap answers_often o))

-- ---- patterns

mutual
  pattern_met : (q : Pattern) (env : Environment) (p : Path) → IsBuiltPattern env.terms q → filter (calls_multi env) (pattern_paths env q p) ≡ pattern_lists env q p
  pattern_met (pattern.Term ty term qs) env p b =
      let o = opening_lone env term b.0 in
      both env (opening_paths (opening env term) p) (parts_paths env (opening env term) qs 0 p) (opening_lists (opening env term) p) (parts_lists env (opening env term) qs 0 p) (opening_met env (opening env term) p o) (parts_met qs env (opening env term) 0 p o b.2)
  pattern_met (pattern.Var ty x) env p b = refl
  pattern_met (pattern.ConstBool v) env p b = refl
  pattern_met (pattern.ConstInt ty v) env p b = refl
  pattern_met (pattern.ConstPrim ty name) env p b = refl
  pattern_met (pattern.Wildcard ty) env p b = refl
  pattern_met (pattern.BindPattern ty x q) env p b = pattern_met q env p b
  pattern_met (pattern.And ty qs) env p b = each_met qs env p b

  each_met : (qs : Patterns) (env : Environment) (p : Path) → AreBuiltPatterns env.terms qs → filter (calls_multi env) (each_paths env qs p) ≡ each_lists env qs p
  each_met NoPattern env p b = refl
  each_met (APattern q qs) env p b = both env (pattern_paths env q p) (each_paths env qs p) (pattern_lists env q p) (each_lists env qs p) (pattern_met q env p b.0) (each_met qs env p b.1)

  parts_met : (qs : Patterns) (env : Environment) (opened : Opening) (i : ℕ) (p : Path) → IsLoneOpening env opened → AreBuiltPatterns env.terms qs → filter (calls_multi env) (parts_paths env opened qs i p) ≡ parts_lists env opened qs i p
  parts_met NoPattern env opened i p o b = refl
  parts_met (APattern q qs) env opened i p o b =
      let part = part_path opened i p in
      skipped env part (pattern_paths env q part ++ parts_paths env opened qs (suc i) p) (part_lone env opened i p o).1
      ∙ both env (pattern_paths env q part) (parts_paths env opened qs (suc i) p) (pattern_lists env q part) (parts_lists env opened qs (suc i) p) (pattern_met q env part b.0) (parts_met qs env opened (suc i) p o b.1)

args_met : (env : Environment) (qs : List Pattern) (i : ℕ) → AllByRecursion (IsBuiltPattern env.terms) qs → filter (calls_multi env) (args_paths env qs i) ≡ args_lists env qs i
args_met env [] i b = refl
args_met env (q ∷ qs) i b = both env (pattern_paths env q (Arg i)) (args_paths env qs (suc i)) (pattern_lists env q (Arg i)) (args_lists env qs (suc i)) (pattern_met q env (Arg i) b.0) (args_met env qs (suc i) b.1)

-- ---- expressions

-- what stands somewhere is none
lone_plain : (env : Environment) (places : Places) → AreLone env places → ArePlain env places
lone_plain env places w x p e = (w x p e).1

mutual
  expr_met : (e : Expr) (env : Environment) (terms : List Term) (places : Places) (n : ℕ) → env.terms ≡ terms → ArePlain env places → HasBuiltTerms terms e → filter (calls_multi env) (expr_paths env e places n) ≡ expr_lists env e places n
  expr_met (expr.Var ty x) env terms places n same w i = variable_none env (places x.0) (w x.0)
  expr_met (expr.ConstBool v) env terms places n same w i = refl
  expr_met (expr.ConstInt ty v) env terms places n same w i = refl
  expr_met (expr.ConstPrim ty name) env terms places n same w i = refl
  expr_met (expr.Term ty term es) env terms places n same w i =
      let k = n + impure_all env es in
      let p = call_path env term (paths env es places n) k in
      both env (exprs_paths env es places n) (with_inner (calling env term) p) (exprs_lists env es places n) (list_met (calling env term) p) (exprs_met es env terms places n same w i.1) (call_met env term (paths env es places n) k)
  expr_met (expr.Let ty bs inner) env terms places n same w i =
      let k = n + impure_bindings env bs in
      let after = let_places env bs places n in
      both env (bindings_paths env bs places n) (expr_paths env inner after k) (bindings_lists env bs places n) (expr_lists env inner after k) (bindings_met bs env terms places n same w i.0)
      (expr_met inner env terms after k same (lets_plain bs env terms places n same w i.0) i.1)

  bindings_met : (bs : LetBindings) (env : Environment) (terms : List Term) (places : Places) (n : ℕ) → env.terms ≡ terms → ArePlain env places → BindingsHaveBuiltTerms terms bs → filter (calls_multi env) (bindings_paths env bs places n) ≡ bindings_lists env bs places n
  bindings_met NoBinding env terms places n same w i = refl
  bindings_met (ABinding x ty e bs) env terms places n same w i =
      let next = with places x.0 (path env e places n) in
      let k = n + impure env e in
      both env (expr_paths env e places n) (bindings_paths env bs next k) (expr_lists env e places n) (bindings_lists env bs next k) (expr_met e env terms places n same w i.0)
      (bindings_met bs env terms next k same (with_plain env places x.0 (path env e places n) w (value_none e env terms places n same w i.0)) i.1)

  exprs_met : (es : Exprs) (env : Environment) (terms : List Term) (places : Places) (n : ℕ) → env.terms ≡ terms → ArePlain env places → AllHaveBuiltTerms terms es → filter (calls_multi env) (exprs_paths env es places n) ≡ exprs_lists env es places n
  exprs_met NoExpr env terms places n same w i = refl
  exprs_met (AnExpr e es) env terms places n same w i =
      let k = n + impure env e in
      both env (expr_paths env e places n) (exprs_paths env es places k) (expr_lists env e places n) (exprs_lists env es places k) (expr_met e env terms places n same w i.0) (exprs_met es env terms places k same w i.1)

-- ---- rules

iflets_met : (env : Environment) (cs : List IfLet) (places : Places) → AllByRecursion (IsBuiltIfLet env.terms) cs → AreReached env cs places → AreLone env places → filter (calls_multi env) (iflets_paths env cs places) ≡ iflets_lists env cs places
iflets_met env [] places b r w = refl
iflets_met env (c ∷ cs) places b r w =
    let p = path env c.rhs places 0 in
    let rest = after env c.lhs p places in
    both env (expr_paths env c.rhs places 0 ++ pattern_paths env c.lhs p) (iflets_paths env cs rest) (condition_lists env c places) (iflets_lists env cs rest)
    (both env (expr_paths env c.rhs places 0) (pattern_paths env c.lhs p) (expr_lists env c.rhs places 0) (pattern_lists env c.lhs p) (expr_met c.rhs env env.terms places 0 refl (lone_plain env places w) (terms_built c.rhs env.terms b.0.calls)) (pattern_met c.lhs env p b.0.lhs))
    (iflets_met env cs rest b.1 r.1 (after_lone c.lhs env p places b.0.lhs r.0 w))

-- those of a rule, after n impure calls
pub lists_met : (env : Environment) (terms : List Term) (r : Rule) (n : ℕ) → env.terms ≡ terms → IsBuiltRule env.terms r → IsScopedRule r → CallsBuiltTerms terms r
    → rule_iterators env r n ≡ args_lists env r.args 0 ++ (iflets_lists env r.iflets (args_after env r.args 0 no_places) ++ expr_lists env r.rhs (rule_places env r) n)
lists_met env terms r n same b s i =
    let args = recursion_from_All (IsBuiltPattern env.terms) r.args b.args in
    let places = args_after env r.args 0 no_places in
    let own = expr_paths env r.rhs (rule_places env r) n in
    both env (args_paths env r.args 0) (iflets_paths env r.iflets places ++ own) (args_lists env r.args 0) (iflets_lists env r.iflets places ++ expr_lists env r.rhs (rule_places env r) n) (args_met env r.args 0 args)
    (both env (iflets_paths env r.iflets places) own (iflets_lists env r.iflets places) (expr_lists env r.rhs (rule_places env r) n)
    (iflets_met env r.iflets places (recursion_from_All (IsBuiltIfLet env.terms) r.iflets b.iflets) (rule_reached env r b s.iflets) (place_lone env r.args args))
    (expr_met r.rhs env terms (rule_places env r) n same (lone_plain env (rule_places env r) (rule_lone env r b s.iflets)) i))
