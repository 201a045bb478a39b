-- Whether a rule matches hangs on the items of its own lists alone.
use Rattle.std.proofs.Common.{◌≡◌, ℕ, suc, ◌+◌, List, [], ◌∷◌, ◌++◌, Bool, true, false, Option, Some, refl, ap, ◌∙◌, subst}
use Rattle.std.specs.Prelude.{Contains, IsSomeAnd, slice_get, option_and_then}
use Rattle.std.proofs.lemmas.List.Elements.{Contains-append_left, Contains-append_right}
use mathlib.Core.Path.{fun_ext}
use Rattle.isle_base.specs.declared.ids.TermId.{TermId}
use Rattle.isle_base.specs.declared.ids.TypeId.{TypeId}
use Rattle.isle_core.specs.declared.types.ReturnKind.{ReturnKind}
use Rattle.isle_core.specs.declared.types.ReturnKind.TheVariants as return_kind
use Rattle.isle_core.specs.declared.types.Term.{Term}
use Rattle.isle_core.specs.Answered.{answer_held}
use Rattle.isle_core.specs.Calling.{Calling, ByTurns, ByCases, NoCall, answers_often, is_fallible, is_several, calling, extracting, instance_of, impure, impure_all, impure_bindings}
use Rattle.isle_core.specs.CalledTerms.{Extractor, Constructor, CalledTerm, unless_made, extracted_by, extracted_by_all, extracted_in, called_by, called_by_all, called_by_bindings, called_in_iflets}
use Rattle.isle_core.specs.Choice.{Choice}
use Rattle.isle_core.specs.Eval.{then_one, then_all, before, then_bind, then_within, answered, made_or_called, evaluated, evaluated_all, bound, value_of, iflet_names, iflets_names}
use Rattle.isle_core.specs.Expr as expr
use Rattle.isle_core.specs.Expr.{Expr, Exprs, NoExpr, AnExpr, LetBindings, NoBinding, ABinding}
use Rattle.isle_core.specs.ExprType.{IsExprOf, AreExprsOf, AreBindingsOf, AreIfLetsOf, in_condition}
use Rattle.isle_core.specs.HoldsImpure.{holds_impure, hold_impure}
use Rattle.isle_core.specs.Iterators.{calls_multi}
use Rattle.isle_core.specs.Lawful.{Fits, CallingFits, CalledTermFits}
use Rattle.isle_core.specs.Making.{Making, MakesVariant, MakesStruct, MakesNothing, making}
use Rattle.isle_core.specs.Match.{Names, no_names, with, met, results, extracted, taken_apart, matches, matches_parts, matches_each, matches_all}
use Rattle.isle_core.specs.Meaning.{Meaning, case, cases_of}
use Rattle.isle_core.specs.Opening.{Opening, opening_by, opening, part_path}
use Rattle.isle_core.specs.Outcome.{chosen_names}
use Rattle.isle_core.specs.Path.{Path, Arg, Extracted, Called, Paths}
use Rattle.isle_core.specs.Pattern as pattern
use Rattle.isle_core.specs.Pattern.{Pattern, Patterns, NoPattern, APattern}
use Rattle.isle_core.specs.RightSide.{term_path, call_path, path, paths, let_places}
use Rattle.isle_core.specs.Rule.{Environment, IfLet, Rule}
use Rattle.isle_core.specs.RulePaths.{with_inner, expr_paths, exprs_paths, bindings_paths, opening_paths, pattern_paths, parts_paths, each_paths, args_paths, iflets_paths, rule_paths}
use Rattle.isle_core.specs.Tests.{Places, no_places, after, args_after, rule_places}
use Rattle.isle_core.specs.TypedVariables.{typed_variables, let_variables, all_typed}
use Rattle.isle_core.specs.Value.{Value, Answer, Plain, Found, Nothing, Several, Made}
use Rattle.isle_core.specs.Served.{AreServed, IsTested}
use Rattle.isle_core.proofs.AnsweredTerms.{called_here}
use Rattle.isle_core.proofs.ChosenItems.{call_first}
use Rattle.isle_core.proofs.ConditionTests.{IsAsked, has_cases, makes_variant, makes_struct, asked, some_of}
use Rattle.isle_core.proofs.EarlyPlaces.{AreEarly, after_early, part_early, args_early, term_early, expr_early, exprs_early, with_early, bindings_early}
use Rattle.isle_core.proofs.PatternTests.{served_first, served_rest, extractor_of, extracted_here, not_made, case_fits}

-- an answer that isn't a list has its results at any place
results_same : (env : Environment) (tys : List TypeId) (kind : ReturnKind) (a : Answer) (i j : ℕ) → Fits env kind tys a → is_several kind ≡ false → results i a ≡ results j a
results_same env tys kind (Plain vs) i j h e = refl
results_same env tys kind (Found vs) i j h e = refl
results_same env tys kind Nothing i j h e = refl
results_same env tys return_kind.Plain (Several items) i j h e = absurd h
results_same env tys return_kind.Option (Several items) i j h e = absurd h
results_same env tys return_kind.Iterator (Several items) i j h e = absurd cc

by_truth : {C : Type 0} (b : Bool) → (b ≡ true → C) → (b ≡ false → C) → C
by_truth true f g = f refl
by_truth false f g = g refl

module _ (env : Environment) (m : Meaning) (c d : Choice) where
  -- two choices agree on the lists among these paths that hold no impure call
  abbrev pub AgreeAt : List Path → Type 0
  AgreeAt ps = (p : Path) → Contains ps p → calls_multi env p ≡ true → holds_impure env p ≡ false → c p ≡ d p

  left : (xs ys : List Path) → AgreeAt (xs ++ ys) → AgreeAt xs
  left xs ys h p there = h p (Contains-append_left xs ys p there)

  right : (xs ys : List Path) → AgreeAt (xs ++ ys) → AgreeAt ys
  right xs ys h p there = h p (Contains-append_right xs ys p there)

  -- ---- patterns

  extracted_same : (term : TermId) (at : Path) (cl : Calling) (tys : List TypeId) (v : Value) → calls_multi env (Extracted term at) ≡ answers_often cl → holds_impure env at ≡ false → CallingFits env m tys cl → AgreeAt (with_inner cl (Extracted term at))
      → extracted m (c (Extracted term at)) cl v ≡ extracted m (d (Extracted term at)) cl v
  extracted_same term at (ByCases callee kind) tys v multi early fits agree = by_truth (is_several kind)
      (λ several. ap (λ i. results i (case m callee (v ∷ []))) (agree (Extracted term at) (call_first (answers_often (ByCases callee kind)) (is_fallible (ByCases callee kind)) (Extracted term at)) (multi ∙ several) early))
      (λ single. results_same env tys kind (case m callee (v ∷ [])) (c (Extracted term at)) (d (Extracted term at)) (case_fits env tys kind (cases_of m callee) (v ∷ []) fits.0) single)
  extracted_same term at (ByTurns callee kind) tys v multi early fits agree = refl
  extracted_same term at NoCall tys v multi early fits agree = refl

  taken_same : (term : TermId) (at : Path) (mk : Making) (t : Option Term) (v : Value) → holds_impure env at ≡ false → (mk ≡ MakesNothing → IsSomeAnd t (λ (x : Term). CallingFits env m x.arg_tys (extracting env term))) → AgreeAt (opening_paths (opening_by term mk (extracting env term) t) at)
      → taken_apart env m (c (Extracted term at)) mk (extracting env term) v ≡ taken_apart env m (d (Extracted term at)) mk (extracting env term) v
  taken_same term at (MakesVariant ty variant) t v early served agree = refl
  taken_same term at (MakesStruct ty) t v early served agree = refl
  taken_same term at MakesNothing t v early served agree = let f = some_of t _ (served refl) in extracted_same term at (extracting env term) f.0.arg_tys v refl early f.2 agree

  mutual
    pattern_same : (p : Pattern) (at : Path) (v : Value) (names : Names) → AreServed env m (extracted_by env p) → holds_impure env at ≡ false → AgreeAt (pattern_paths env p at) → matches env m c p at v names ≡ matches env m d p at v names
    pattern_same (pattern.Var of x) at v names s early h = refl
    pattern_same (pattern.ConstBool b) at v names s early h = refl
    pattern_same (pattern.ConstInt of n) at v names s early h = refl
    pattern_same (pattern.ConstPrim of name) at v names s early h = refl
    pattern_same (pattern.Wildcard of) at v names s early h = refl
    pattern_same (pattern.Term of term ps) at v names s early h =
        let o = opening env term in
        let own = unless_made env Extractor term in
        ap (option_and_then (λ vs. matches_parts env m c o ps 0 at vs names))
        (taken_same term at (making env term) (slice_get env.terms term.0) v early (λ none. s (extractor_of term) (Contains-append_left own (extracted_by_all env ps) (extractor_of term) (extracted_here env term (not_made (slice_get env.terms term.0) none)))) (left (opening_paths o at) (parts_paths env o ps 0 at) h))
        ∙ ap (λ f. option_and_then f (taken_apart env m (d (Extracted term at)) (making env term) (extracting env term) v)) (fun_ext (λ vs. parts_same ps o 0 at vs names (served_rest env m own (extracted_by_all env ps) s) early (right (opening_paths o at) (parts_paths env o ps 0 at) h)))
    pattern_same (pattern.BindPattern of x p) at v names s early h = ap (λ f. option_and_then f (met (names x.0) x.0 v names)) (fun_ext (λ more. pattern_same p at v more s early h))
    pattern_same (pattern.And of ps) at v names s early h = each_same ps at v names s early h

    each_same : (ps : Patterns) (at : Path) (v : Value) (names : Names) → AreServed env m (extracted_by_all env ps) → holds_impure env at ≡ false → AgreeAt (each_paths env ps at) → matches_each env m c ps at v names ≡ matches_each env m d ps at v names
    each_same NoPattern at v names s early h = refl
    each_same (APattern p ps) at v names s early h =
        ap (option_and_then (matches_each env m c ps at v)) (pattern_same p at v names (served_first env m (extracted_by env p) (extracted_by_all env ps) s) early (left (pattern_paths env p at) (each_paths env ps at) h))
        ∙ ap (λ f. option_and_then f (matches env m d p at v names)) (fun_ext (λ more. each_same ps at v more (served_rest env m (extracted_by env p) (extracted_by_all env ps) s) early (right (pattern_paths env p at) (each_paths env ps at) h)))

    parts_same : (ps : Patterns) (o : Opening) (i : ℕ) (at : Path) (vs : List Value) (names : Names) → AreServed env m (extracted_by_all env ps) → holds_impure env at ≡ false → AgreeAt (parts_paths env o ps i at) → matches_parts env m c o ps i at vs names ≡ matches_parts env m d o ps i at vs names
    parts_same NoPattern o i at [] names s early h = refl
    parts_same NoPattern o i at (v ∷ vs) names s early h = refl
    parts_same (APattern p ps) o i at [] names s early h = refl
    parts_same (APattern p ps) o i at (v ∷ vs) names s early h =
        let q = part_path o i at in
        let own = right (q ∷ []) (pattern_paths env p q ++ parts_paths env o ps (suc i) at) h in
        ap (option_and_then (matches_parts env m c o ps (suc i) at vs)) (pattern_same p q v names (served_first env m (extracted_by env p) (extracted_by_all env ps) s) (part_early env o i at early) (left (pattern_paths env p q) (parts_paths env o ps (suc i) at) own))
        ∙ ap (λ f. option_and_then f (matches env m d p q v names)) (fun_ext (λ more. parts_same ps o (suc i) at vs more (served_rest env m (extracted_by env p) (extracted_by_all env ps) s) early (right (pattern_paths env p q) (parts_paths env o ps (suc i) at) own)))

  args_same : (ps : List Pattern) (i : ℕ) (vs : List Value) (names : Names) → AreServed env m (extracted_in env ps) → AgreeAt (args_paths env ps i) → matches_all env m c ps i vs names ≡ matches_all env m d ps i vs names
  args_same [] i [] names s h = refl
  args_same [] i (v ∷ vs) names s h = refl
  args_same (p ∷ ps) i [] names s h = refl
  args_same (p ∷ ps) i (v ∷ vs) names s h =
      let own = right (Arg i ∷ []) (pattern_paths env p (Arg i) ++ args_paths env ps (suc i)) h in
      ap (option_and_then (matches_all env m c ps (suc i) vs)) (pattern_same p (Arg i) v names (served_first env m (extracted_by env p) (extracted_in env ps) s) refl (left (pattern_paths env p (Arg i)) (args_paths env ps (suc i)) own))
      ∙ ap (λ f. option_and_then f (matches env m d p (Arg i) v names)) (fun_ext (λ more. args_same ps (suc i) vs more (served_rest env m (extracted_by env p) (extracted_in env ps) s) (right (pattern_paths env p (Arg i)) (args_paths env ps (suc i)) own)))

  -- ---- conditions

  answered_same : (ty : TypeId) (kind : ReturnKind) (a : Answer) (i j : ℕ) (made : List Made) → Fits env kind (ty ∷ []) a → is_several kind ≡ false → answered i (answer_held a) made ≡ answered j (answer_held a) made
  answered_same ty kind (Plain vs) i j made h e = refl
  answered_same ty kind (Found vs) i j made h e = refl
  answered_same ty kind Nothing i j made h e = refl
  answered_same ty return_kind.Plain (Several items) i j made h e = absurd h
  answered_same ty return_kind.Option (Several items) i j made h e = absurd h
  answered_same ty return_kind.Iterator (Several items) i j made h e = absurd cc

  call_same : {mk : Making} {cl : Calling} (x : Term) (term : TermId) (ps : Paths) (k : ℕ) (vs : List Value) (made : List Made) → IsAsked env x mk cl → calling env term ≡ cl → hold_impure env ps ≡ false → (mk ≡ MakesNothing → CallingFits env m (x.ret_ty ∷ []) cl)
      → AgreeAt (with_inner cl (term_path mk term ps (instance_of cl k))) → made_or_called env m (c (term_path mk term ps (instance_of cl k))) mk cl vs made ≡ made_or_called env m (d (term_path mk term ps (instance_of cl k))) mk cl vs made
  call_same x term ps k vs made (has_cases callee kind) e early fits agree =
      let p = Called term ps 0 in
      by_truth (is_several kind)
      (λ several. ap (λ i. answered i (answer_held (case m callee vs)) made)
      (agree p (call_first (answers_often (ByCases callee kind)) (is_fallible (ByCases callee kind)) p) (ap answers_often e ∙ several) (term_early {c = x} env term ps 0 (has_cases callee kind) e early)))
      (λ single. answered_same x.ret_ty kind (case m callee vs) (c p) (d p) made (case_fits env (x.ret_ty ∷ []) kind (cases_of m callee) vs (fits refl).0) single)
  call_same x term ps k vs made (makes_variant ty variant typed) e early fits agree = refl
  call_same x term ps k vs made (makes_struct ty typed) e early fits agree = refl

  served_call : (term : TermId) (es : Exprs) (x : Term) → slice_get env.terms term.0 ≡ Some x → AreServed env m (called_by_all env es ++ unless_made env Constructor term) → making env term ≡ MakesNothing → CallingFits env m (x.ret_ty ∷ []) (calling env term)
  served_call term es x there served none =
      let o : CalledTerm = record { term = term; role = Constructor } in
      let fits : CalledTermFits env m o = served o (Contains-append_right (called_by_all env es) (unless_made env Constructor term) o (called_here env term (not_made (slice_get env.terms term.0) none))) in
      subst (λ t. IsSomeAnd t (λ (y : Term). CallingFits env m (y.ret_ty ∷ []) (calling env term))) there fits

  mutual
    expr_same : (vars : List (TypeId × ℕ)) (ty : TypeId) (e : Expr) (names : Names) (places : Places) (n : ℕ) (made : List Made) → IsExprOf env in_condition vars ty e → AreServed env m (called_by env e) → AreEarly env places → AgreeAt (expr_paths env e places n)
        → evaluated env m c e names places n made ≡ evaluated env m d e names places n made
    expr_same vars ty (expr.Var of x) names places n made h s k a = refl
    expr_same vars ty (expr.ConstBool b) names places n made h s k a = refl
    expr_same vars ty (expr.ConstInt of j) names places n made h s k a = refl
    expr_same vars ty (expr.ConstPrim of name) names places n made h s k a = refl
    expr_same vars ty (expr.Term of term es) names places n made h s k a =
        let x = some_of (slice_get env.terms term.0) _ h.1 in
        let ps = paths env es places n in
        let cl = calling env term in
        let p = call_path env term ps (n + impure_all env es) in
        let own = with_inner cl p in
        ap (λ r. then_one r (made_or_called env m (c p) (making env term) cl)) (exprs_same vars x.0.arg_tys es names places n made x.2.2 (served_first env m (called_by_all env es) (unless_made env Constructor term) s) k (left (exprs_paths env es places n) own a))
        ∙ ap (then_one (evaluated_all env m d es names places n made)) (fun_ext (λ vs. fun_ext (λ calls.
        call_same x.0 term ps (n + impure_all env es) vs calls (asked env term x.0 x.1 x.2.0) refl (exprs_early env vars x.0.arg_tys es places n x.2.2 k) (served_call term es x.0 x.1 s) (right (exprs_paths env es places n) own a))))
    expr_same vars ty (expr.Let of bs inner) names places n made h s k a =
        let mid = let_places env bs places n in
        let n1 = n + impure_bindings env bs in
        ap (λ r. then_within r (λ all calls. evaluated env m c inner all mid n1 calls)) (bindings_same vars bs names places n made h.1 (served_first env m (called_by_bindings env bs) (called_by env inner) s) k (left (bindings_paths env bs places n) (expr_paths env inner mid n1) a))
        ∙ ap (then_within (bound env m d bs names places n made)) (fun_ext (λ all. fun_ext (λ calls.
        expr_same (let_variables vars bs) ty inner all mid n1 calls h.2 (served_rest env m (called_by_bindings env bs) (called_by env inner) s) (bindings_early env vars bs places n h.1 k) (right (bindings_paths env bs places n) (expr_paths env inner mid n1) a))))

    exprs_same : (vars : List (TypeId × ℕ)) (tys : List TypeId) (es : Exprs) (names : Names) (places : Places) (n : ℕ) (made : List Made) → AreExprsOf env in_condition vars tys es → AreServed env m (called_by_all env es) → AreEarly env places → AgreeAt (exprs_paths env es places n)
        → evaluated_all env m c es names places n made ≡ evaluated_all env m d es names places n made
    exprs_same vars tys NoExpr names places n made h s k a = refl
    exprs_same vars (ty ∷ tys) (AnExpr e es) names places n made h s k a =
        let n1 = n + impure env e in
        ap (λ r. then_all r (λ v calls. before v (evaluated_all env m c es names places n1 calls))) (expr_same vars ty e names places n made h.0 (served_first env m (called_by env e) (called_by_all env es) s) k (left (expr_paths env e places n) (exprs_paths env es places n1) a))
        ∙ ap (then_all (evaluated env m d e names places n made)) (fun_ext (λ v. fun_ext (λ calls.
        ap (before v) (exprs_same vars tys es names places n1 calls h.1 (served_rest env m (called_by env e) (called_by_all env es) s) k (right (expr_paths env e places n) (exprs_paths env es places n1) a)))))
    exprs_same vars [] (AnExpr e es) names places n made h s k a = absurd h

    bindings_same : (vars : List (TypeId × ℕ)) (bs : LetBindings) (names : Names) (places : Places) (n : ℕ) (made : List Made) → AreBindingsOf env in_condition vars bs → AreServed env m (called_by_bindings env bs) → AreEarly env places → AgreeAt (bindings_paths env bs places n)
        → bound env m c bs names places n made ≡ bound env m d bs names places n made
    bindings_same vars NoBinding names places n made h s k a = refl
    bindings_same vars (ABinding x ty e bs) names places n made h s k a =
        let p = path env e places n in
        let mid = with places x.0 p in
        let n1 = n + impure env e in
        ap (λ r. then_bind r (λ v calls. bound env m c bs (with names x.0 v) mid n1 calls)) (expr_same vars ty e names places n made h.1 (served_first env m (called_by env e) (called_by_bindings env bs) s) k (left (expr_paths env e places n) (bindings_paths env bs mid n1) a))
        ∙ ap (then_bind (evaluated env m d e names places n made)) (fun_ext (λ v. fun_ext (λ calls.
        bindings_same ((ty, x.0) ∷ vars) bs (with names x.0 v) mid n1 calls h.2 (served_rest env m (called_by env e) (called_by_bindings env bs) s) (with_early env places x.0 p (expr_early env vars ty e places n h.1 k) k) (right (expr_paths env e places n) (bindings_paths env bs mid n1) a))))

  iflets_same : (cs : List IfLet) (vars : List (TypeId × ℕ)) (places : Places) (names : Names) → AreIfLetsOf env vars cs → AreServed env m (called_in_iflets env cs) → AreEarly env places → AgreeAt (iflets_paths env cs places) → iflets_names env m c cs places names ≡ iflets_names env m d cs places names
  iflets_same [] vars places names h s k a = refl
  iflets_same (x ∷ xs) vars places names h s k a =
      let q = path env x.rhs places 0 in
      let early = expr_early env vars h.0.ty x.rhs places 0 h.0.rhs k in
      let mid = after env x.lhs q places in
      let own = called_by env x.rhs ++ extracted_by env x.lhs in
      let served = served_first env m own (called_in_iflets env xs) s in
      let agree = left (expr_paths env x.rhs places 0 ++ pattern_paths env x.lhs q) (iflets_paths env xs mid) a in
      let one : iflet_names env m c x places names ≡ iflet_names env m d x places names =
      ap (λ r. option_and_then (λ v. matches env m c x.lhs q v names) (value_of r)) (expr_same vars h.0.ty x.rhs names places 0 [] h.0.rhs (served_first env m (called_by env x.rhs) (extracted_by env x.lhs) served) k (left (expr_paths env x.rhs places 0) (pattern_paths env x.lhs q) agree))
      ∙ ap (λ f. option_and_then f (value_of (evaluated env m d x.rhs names places 0 []))) (fun_ext (λ v. pattern_same x.lhs q v names (served_rest env m (called_by env x.rhs) (extracted_by env x.lhs) served) early (right (expr_paths env x.rhs places 0) (pattern_paths env x.lhs q) agree))) in
      ap (option_and_then (iflets_names env m c xs mid)) one
      ∙ ap (λ f. option_and_then f (iflet_names env m d x places names))
      (fun_ext (λ more. iflets_same xs (vars ++ typed_variables x.lhs) mid more h.1 (served_rest env m own (called_in_iflets env xs) s) (after_early x.lhs env q places early k) (right (expr_paths env x.rhs places 0 ++ pattern_paths env x.lhs q) (iflets_paths env xs mid) a)))

  -- a rule matches alike with two choices that agree on its lists
  pub names_same : (args : List Value) (tys : List TypeId) (r : Rule) (n : ℕ) → IsTested env tys r → AreServed env m (extracted_in env r.args) → AreServed env m (called_in_iflets env r.iflets) → AgreeAt (rule_paths env r n) → chosen_names env m c args r ≡ chosen_names env m d args r
  names_same args tys r n h s t a =
      let mid = args_after env r.args 0 no_places in
      let first = args_paths env r.args 0 in
      let second = iflets_paths env r.iflets mid in
      let last = expr_paths env r.rhs (rule_places env r) n in
      ap (option_and_then (iflets_names env m c r.iflets mid)) (args_same r.args 0 args no_names s (left first (second ++ last) a))
      ∙ ap (λ f. option_and_then f (matches_all env m d r.args 0 args no_names))
      (fun_ext (λ names. iflets_same r.iflets (all_typed r.args) mid names h.iflets t (args_early env r.args 0 no_places (record { by = λ x. tt })) (left second last (right first (second ++ last) a))))
