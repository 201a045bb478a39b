-- In a rule of a term without `multi` no expression calls a `multi` term.
use Rattle.std.proofs.Common.{◌≡◌, ⊎_elim, ℕ, ℤ, suc, ◌+◌, Bool, true, false, cond, List, [], ◌∷◌, ◌++◌, Option, Some, None, refl, sym, ap, ◌∙◌, subst}
use Rattle.std.specs.Prelude.{IsSomeAnd, option_map, slice_get}
use Rattle.std.specs.List.{AllByRecursion, list_any}
use Rattle.std.proofs.lemmas.Bool.{or_parts}
use Rattle.std.proofs.lemmas.List.Elements.{Contains-append_cases}
use Rattle.std.proofs.lemmas.Option.{same_Some}
use Rattle.isle_core.specs.declared.TermId.{TermId}
use Rattle.isle_core.specs.declared.TypeId.{TypeId}
use Rattle.isle_core.specs.declared.VarId.{VarId}
use Rattle.isle_core.specs.declared.types.ReturnKind.{ReturnKind}
use Rattle.isle_core.specs.declared.types.Term.{Term}
use Rattle.isle_core.specs.declared.types.TermKind.{TermKind}
use Rattle.isle_core.specs.declared.values.Callee.{Callee}
use Rattle.isle_core.specs.BuiltRule.{HasTerms, AllHaveTerms, BindingsHaveTerms}
use Rattle.isle_core.specs.CalledTerms.{Constructor, CalledTerm, is_made, unless_made, called_by as terms_called, called_by_all, called_by_bindings}
use Rattle.isle_core.specs.Calling.{HasKind, calling, calling_by, calling_of, is_several, kind_of, pure_callee}
use Rattle.isle_core.specs.Expr as core_expr
use Rattle.isle_core.specs.Expr.{Expr as CoreExpr, Exprs as CoreExprs, NoExpr as CoreNoExpr, AnExpr as CoreAnExpr, LetBindings, NoBinding, ABinding}
use Rattle.isle_core.specs.Lawful.{called_as}
use Rattle.isle_core.specs.Pattern.{Pattern as CorePattern}
use Rattle.isle_core.specs.Rule.{Environment, IfLet as CoreIfLet}
use Rattle.isle_core.specs.Single.{AreOften}
use Rattle.isle_core.specs.Terms.{impure_callee}
use Rattle.isle_core.proofs.Contained.{contained_cases, none_contained}
use Rattle.isle_ast.specs.Tree as tree
use Rattle.isle_ast.specs.Tree.{Def, IfLet, Expr, Exprs, NoExpr, AnExpr, Lets, NoLet, ALet}
use Rattle.isle_declarations.specs.Signatures.{Signature, term_named}
use Rattle.isle_declarations.specs.Symbols.{sym_of}
use Rattle.isle_declarations.specs.Terms.{terms}
use Rattle.isle_templates.specs.Renumbered.{expr_renamed, exprs_renamed, bindings_renamed}
use Rattle.isle_terms.specs.Converters.{conversion, within}
use Rattle.isle_terms.specs.Reduced.{typed_integer}
use Rattle.isle_terms.specs.TypeNames.{type_named}
use Rattle.isle_terms.specs.Whole.{whole_of, termed, arg_types, ret_type, constant_type}
use Rattle.isle_terms.proofs.MadeTerms.{first_there, term_made}
use Rattle.isle_types.specs.TypeEnvironment.{type_env_of}
use Rattle.isle_terms.specs.Locals.{local_named, bound_local, of_patterns}
use Rattle.isle_terms.specs.NewVariables.{new_count}
use Rattle.isle_terms.specs.Scope.{Local, Scope, local_type, typed_local}
use Rattle.isle_sema.specs.ExprPass.{local_tree, constant_tree, call_tree, expr_within, called_by, known_type, expr_pass, exprs_pass, lets_pass, count_of}
use Rattle.isle_sema.specs.Judging.{is_multi_call}
use Rattle.isle_sema.specs.PatternPass.{first_expected, later_expected}
use Rattle.isle_sema.specs.RulePass.{iflet_tree, condition_expr, condition_pattern, condition_pass, conditions_pass}
use Rattle.isle_sema.specs.Site.{CalledAt, ConstantAt, UsedAt}
use Rattle.isle_sema.proofs.BuiltForms.{no_both}
use Rattle.isle_sema.proofs.AnsweringTerms.{term_answers}
use Rattle.isle_sema.proofs.Conversions.{conversion_is}
use Rattle.isle_sema.proofs.Firsts.{any_parts}
use Rattle.isle_sema.proofs.OftenTerms.{Often}
use Rattle.isle_sema.proofs.RuleRoots.{mapped, signature_at}
use Rattle.isle_sema.proofs.TypedExprs.{before_is, call_is, let_is, lets_are}
use Rattle.isle_sema.proofs.TypedParts.{IsGivenIn}

-- a term of this kind does not answer several times
abbrev pub IsSingleKind : TermKind → Type 0
IsSingleKind k = is_several (kind_of k) ≡ false

-- each condition's expression has such terms
abbrev pub AreSingleConditions : Environment → List CoreIfLet → Type 0
AreSingleConditions env cs = AllByRecursion (λ (c : CoreIfLet). HasTerms IsSingleKind env.terms c.rhs) cs

-- ---- what stands in parts stands in trees

module _ (defs : List Def) (env : Environment) (g : IsGivenIn defs env) where
  -- the term of a declaration without `multi`
  single_term : (name : List ℕ) (s : Signature) (number : TermId) → termed (whole_of defs) name ≡ Some s → term_named (terms defs) name ≡ Some number → s.multi ≡ false → IsSomeAnd (slice_get env.terms number.0) (λ (t : Term). IsSingleKind t.kind)
  single_term name s number is numbered single =
      let w = whole_of defs in
      let at = signature_at w name s number is numbered in
      let m = term_made w (terms defs) env.terms number.0 s g.terms at in
      let a = term_answers defs env number.0 s m.term g at m.made in
      subst (λ (o : Option Term). IsSomeAnd o (λ (t : Term). IsSingleKind t.kind)) (sym m.there) (a.several ∙ single)

  -- what stands within a converter, and the converter
  within_single : (of expected : Option TypeId) (by : Option Signature) (e : Option CoreExpr) (x : CoreExpr) → conversion (whole_of defs) of expected ≡ by → ((y : CoreExpr) → e ≡ Some y → HasTerms IsSingleKind env.terms y) → expr_within (whole_of defs) by e ≡ Some x
      → list_any is_multi_call (called_by by expected) ≡ false → HasTerms IsSingleKind env.terms x
  within_single of expected None e x is go h none = go x h
  within_single None expected (Some s) e x is go h none = absurd cc
  within_single (Some of) None (Some s) e x is go h none = absurd cc
  within_single (Some of) (Some ty) (Some s) e x is go h none =
      let c = conversion_is defs env of ty s g is in
      let t = call_is (type_named defs s.ret) (term_named (terms defs) s.term) (option_map (λ (y : CoreExpr). CoreAnExpr y CoreNoExpr) e) x h in
      let m = mapped (λ (y : CoreExpr). CoreAnExpr y CoreNoExpr) e t.args t.args_are in
      subst (HasTerms IsSingleKind env.terms) t.is (single_term s.term s t.number c.there t.number_is (or_parts s.multi false none).0, subst (AllHaveTerms IsSingleKind env.terms) m.is (go m.from m.there, tt))

  -- a call
  call_single : (name : List ℕ) (o : Option Signature) (expected : Option TypeId) (count : ℕ) (trees : Option CoreExprs) (y : CoreExpr) → termed (whole_of defs) name ≡ o → call_tree (ret_type (whole_of defs) o) (term_named (terms defs) name) trees ≡ Some y → is_multi_call (CalledAt expected o count) ≡ false
      → ((xs : CoreExprs) → trees ≡ Some xs → AllHaveTerms IsSingleKind env.terms xs) → HasTerms IsSingleKind env.terms y
  call_single name None expected count trees y is h none go = absurd cc
  call_single name (Some s) expected count trees y is h none go =
      let c = call_is (type_named defs s.ret) (term_named (terms defs) name) trees y h in
      subst (HasTerms IsSingleKind env.terms) c.is (single_term name s c.number is c.number_is none, go c.args c.args_are)

  mutual
    -- an expression none of whose calls is of a `multi` term
    pub expr_single : (locals : List Local) (next : ℕ) (expected : Option TypeId) (e : Expr) (x : CoreExpr) → (expr_pass (whole_of defs) locals next expected e).tree ≡ Some x → list_any is_multi_call (expr_pass (whole_of defs) locals next expected e).sites ≡ false → HasTerms IsSingleKind env.terms x
    expr_single locals next expected (tree.Number n) x h none =
        let m = mapped (λ (v : TypeId × ℤ). core_expr.ConstInt v.0 v.1) (typed_integer (type_env_of defs) expected n) x h in
        subst (HasTerms IsSingleKind env.terms) m.is tt
    expr_single locals next expected (tree.Fact b) x h none = subst (HasTerms IsSingleKind env.terms) (same_Some (core_expr.ConstBool b) x h) tt
    expr_single locals next expected (tree.Name name) x h none =
        let found = local_named locals name in
        let of = known_type found in
        let by = conversion (whole_of defs) of expected in
        let k = any_parts is_multi_call (called_by by expected) (UsedAt (within by of expected) (local_type found) ∷ []) none in
        within_single of expected by (local_tree found) x refl
        (λ y e. let m = mapped (λ (v : TypeId × VarId). core_expr.Var v.0 v.1) (typed_local found) y e in subst (HasTerms IsSingleKind env.terms) m.is tt) h k.0
    expr_single locals next expected (tree.Call name es) x h none =
        let w = whole_of defs in
        let o = termed w name in
        let of = ret_type w o in
        let by = conversion w of expected in
        let args = exprs_pass w locals next (arg_types w o) es in
        let k = any_parts is_multi_call (called_by by expected) (CalledAt (within by of expected) o (count_of es) ∷ args.sites) none in
        let j = or_parts (is_multi_call (CalledAt (within by of expected) o (count_of es))) (list_any is_multi_call args.sites) k.1 in
        within_single of expected by (call_tree of (term_named (terms defs) name) args.trees) x refl
        (λ y e. call_single name o (within by of expected) (count_of es) args.trees y refl e j.0 (λ xs f. exprs_single locals next (arg_types w o) es xs f j.1)) h k.0
    expr_single locals next expected (tree.Constant name) x h none =
        let w = whole_of defs in
        let of = constant_type w name in
        let by = conversion w of expected in
        let k = any_parts is_multi_call (called_by by expected) (ConstantAt false (within by of expected) of ∷ []) none in
        within_single of expected by (constant_tree (type_env_of defs) of name) x refl
        (λ y e. let m = mapped (λ (t : TypeId). core_expr.ConstPrim t (sym_of (type_env_of defs).syms name)) of y e in subst (HasTerms IsSingleKind env.terms) m.is tt) h k.0
    expr_single locals next expected (tree.Let ls inner) x h none =
        let w = whole_of defs in
        let bound = lets_pass w locals next ls in
        let result = expr_pass w bound.locals bound.next expected inner in
        let m = let_is bound.trees result.tree x h in
        let k = any_parts is_multi_call bound.sites result.sites none in
        subst (HasTerms IsSingleKind env.terms) m.is (lets_single locals next ls m.bindings m.bindings_are k.0, expr_single bound.locals bound.next expected inner m.inner m.inner_is k.1)

    -- so of expressions in order
    exprs_single : (locals : List Local) (next : ℕ) (expected : List (Option TypeId)) (es : Exprs) (xs : CoreExprs) → (exprs_pass (whole_of defs) locals next expected es).trees ≡ Some xs → list_any is_multi_call (exprs_pass (whole_of defs) locals next expected es).sites ≡ false → AllHaveTerms IsSingleKind env.terms xs
    exprs_single locals next expected NoExpr xs h none = subst (AllHaveTerms IsSingleKind env.terms) (same_Some CoreNoExpr xs h) tt
    exprs_single locals next expected (AnExpr e es) xs h none =
        let w = whole_of defs in
        let one = expr_pass w locals next (first_expected expected) e in
        let rest = exprs_pass w locals one.next (later_expected expected) es in
        let m = before_is one.tree rest.trees xs h in
        let k = any_parts is_multi_call one.sites rest.sites none in
        subst (AllHaveTerms IsSingleKind env.terms) m.all (expr_single locals next (first_expected expected) e m.first m.here k.0, exprs_single locals one.next (later_expected expected) es m.others m.found k.1)

    -- so of the values of a `let`
    lets_single : (locals : List Local) (next : ℕ) (ls : Lets) (bs : LetBindings) → (lets_pass (whole_of defs) locals next ls).trees ≡ Some bs → list_any is_multi_call (lets_pass (whole_of defs) locals next ls).sites ≡ false → BindingsHaveTerms IsSingleKind env.terms bs
    lets_single locals next NoLet bs h none = subst (BindingsHaveTerms IsSingleKind env.terms) (same_Some NoBinding bs h) tt
    lets_single locals next (ALet var ty e ls) bs h none =
        let w = whole_of defs in
        let of = type_named defs ty in
        let value = expr_pass w locals (suc next) of e in
        let more = bound_local locals var of next in
        let rest = lets_pass w more value.next ls in
        let m = lets_are next of value.tree rest.trees bs h in
        let k = any_parts is_multi_call value.sites rest.sites none in
        subst (BindingsHaveTerms IsSingleKind env.terms) m.are (expr_single locals (suc next) of e m.value m.value_is k.0, lets_single more value.next ls m.others m.others_are k.1)

  -- the expression of a condition's tree
  rhs_of : (p : Option CorePattern) (e : Option CoreExpr) (c : CoreIfLet) → iflet_tree p e ≡ Some c → e ≡ Some c.rhs
  rhs_of None e c h = absurd cc
  rhs_of (Some p) None c h = absurd cc
  rhs_of (Some p) (Some e) c h = ap (λ (x : CoreIfLet). Some x.rhs) (same_Some (record { lhs = p; rhs = e }) c h)

  -- so of the expressions of conditions
  pub conditions_single : (scope : Scope) (cs : List IfLet) (xs : List CoreIfLet) → (conditions_pass (whole_of defs) scope cs).trees ≡ Some xs → list_any is_multi_call (conditions_pass (whole_of defs) scope cs).sites ≡ false → AreSingleConditions env xs
  conditions_single scope [] xs h none = subst (AreSingleConditions env) (same_Some [] xs h) tt
  conditions_single scope (c ∷ cs) xs h none =
      let w = whole_of defs in
      let one = condition_pass w scope c in
      let rest = conditions_pass w one.scope cs in
      let f = first_there one.tree rest.trees xs h in
      let k = any_parts is_multi_call one.sites rest.sites none in
      let own = any_parts is_multi_call (condition_expr w scope c).sites (condition_pattern w scope c).sites k.0 in
      subst (AreSingleConditions env) (sym f.all)
      (expr_single (of_patterns scope) (scope.next + new_count scope c.lhs) None c.rhs f.first.rhs (rhs_of (condition_pattern w scope c).tree (condition_expr w scope c).tree f.first f.here) own.0, conditions_single one.scope cs f.others f.found k.1)

-- ---- new numbers of variables change nothing

mutual
  pub renamed_terms : (K : TermKind → Type 0) (terms : List Term) (order : List ℕ) (e : CoreExpr) → HasTerms K terms e → HasTerms K terms (expr_renamed order e)
  renamed_terms K terms order (core_expr.Var ty x) h = tt
  renamed_terms K terms order (core_expr.ConstBool b) h = tt
  renamed_terms K terms order (core_expr.ConstInt ty n) h = tt
  renamed_terms K terms order (core_expr.ConstPrim ty name) h = tt
  renamed_terms K terms order (core_expr.Term ty term es) h = (h.0, all_renamed_terms K terms order es h.1)
  renamed_terms K terms order (core_expr.Let ty bs e) h = (bindings_renamed_terms K terms order bs h.0, renamed_terms K terms order e h.1)

  all_renamed_terms : (K : TermKind → Type 0) (terms : List Term) (order : List ℕ) (es : CoreExprs) → AllHaveTerms K terms es → AllHaveTerms K terms (exprs_renamed order es)
  all_renamed_terms K terms order CoreNoExpr h = tt
  all_renamed_terms K terms order (CoreAnExpr e es) h = (renamed_terms K terms order e h.0, all_renamed_terms K terms order es h.1)

  bindings_renamed_terms : (K : TermKind → Type 0) (terms : List Term) (order : List ℕ) (bs : LetBindings) → BindingsHaveTerms K terms bs → BindingsHaveTerms K terms (bindings_renamed order bs)
  bindings_renamed_terms K terms order NoBinding h = tt
  bindings_renamed_terms K terms order (ABinding x ty e bs) h = (renamed_terms K terms order e h.0, bindings_renamed_terms K terms order bs h.1)

-- ---- the terms that are called

module _ (env : Environment) (t : Term) where
  by_single : (k : ReturnKind) (a b : Option Callee) → is_several k ≡ false → HasKind (Often t) (calling_by k a b)
  by_single k (Some callee) b single = λ e. absurd (no_both e single)
  by_single k None (Some callee) single = λ e. absurd (no_both e single)
  by_single k None None single = tt

  of_single : (o : Option Term) → IsSomeAnd o (λ (c : Term). IsSingleKind c.kind) → HasKind (Often t) (calling_of env o)
  of_single None h = absurd h
  of_single (Some c) h = by_single (kind_of c.kind) (impure_callee env c c.kind) (pure_callee env c c.kind) h

  unless_often : (term : TermId) (made : Bool) → HasKind (Often t) (calling env term) → AreOften (Often t) env (cond made [] (record { term = term; role = Constructor } ∷ []))
  unless_often term true h o c = absurd (none_contained o c)
  unless_often term false h o c =
      let own : CalledTerm = record { term = term; role = Constructor } in
      ⊎_elim (λ (e : own ≡ o). subst (λ (x : CalledTerm). HasKind (Often t) (called_as env x.term x.role)) e h) (λ d. absurd (none_contained o d)) (contained_cases own [] o c)

  pub both_often : (xs ys : List CalledTerm) → AreOften (Often t) env xs → AreOften (Often t) env ys → AreOften (Often t) env (xs ++ ys)
  both_often xs ys h k o c = ⊎_elim (λ d. h o d) (λ d. k o d) (Contains-append_cases xs ys o c)

  mutual
    pub expr_often : (e : CoreExpr) → HasTerms IsSingleKind env.terms e → AreOften (Often t) env (terms_called env e)
    expr_often (core_expr.Var ty x) h o c = absurd (none_contained o c)
    expr_often (core_expr.ConstBool b) h o c = absurd (none_contained o c)
    expr_often (core_expr.ConstInt ty n) h o c = absurd (none_contained o c)
    expr_often (core_expr.ConstPrim ty name) h o c = absurd (none_contained o c)
    expr_often (core_expr.Term ty term es) h o c = both_often (called_by_all env es) (unless_made env Constructor term) (exprs_often es h.1) (unless_often term (is_made env term) (of_single (slice_get env.terms term.0) h.0)) o c
    expr_often (core_expr.Let ty bs e) h o c = both_often (called_by_bindings env bs) (terms_called env e) (bindings_often bs h.0) (expr_often e h.1) o c

    exprs_often : (es : CoreExprs) → AllHaveTerms IsSingleKind env.terms es → AreOften (Often t) env (called_by_all env es)
    exprs_often CoreNoExpr h o c = absurd (none_contained o c)
    exprs_often (CoreAnExpr e es) h o c = both_often (terms_called env e) (called_by_all env es) (expr_often e h.0) (exprs_often es h.1) o c

    bindings_often : (bs : LetBindings) → BindingsHaveTerms IsSingleKind env.terms bs → AreOften (Often t) env (called_by_bindings env bs)
    bindings_often NoBinding h o c = absurd (none_contained o c)
    bindings_often (ABinding x ty e bs) h o c = both_often (terms_called env e) (called_by_bindings env bs) (expr_often e h.0) (bindings_often bs h.1) o c
