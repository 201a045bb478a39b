-- An expression of the right types has a tree of as many nodes, calls only what functions and variants make, and breaks no row.
use Rattle.std.proofs.Common.{◌≡◌, ℕ, suc, ◌+◌, true, false, List, [], ◌∷◌, ◌++◌, map, length, Option, Some, None, refl, sym, ap, ap₂, ◌∙◌, subst}
use Rattle.std.specs.Prelude.{not, ◌==◌, option_map}
use Rattle.std.specs.List.{AllByRecursion}
use Rattle.std.proofs.lemmas.Bool.{or_from, eq-eqb}
use Rattle.isle_core.proofs.AllLaws.{all_append}
use Rattle.isle_core.specs.declared.TermId.{TermId}
use Rattle.isle_core.specs.declared.TypeId.{TypeId}
use Rattle.isle_core.specs.declared.VarId.{VarId}
use Rattle.isle_core.specs.Expr as core_expr
use Rattle.isle_core.specs.Expr.{Expr as CoreExpr, Exprs as CoreExprs, NoExpr as CoreNoExpr, AnExpr as CoreAnExpr}
use Rattle.isle_ast.specs.Tree as tree
use Rattle.isle_ast.specs.Tree.{Def, Expr, Exprs, NoExpr, AnExpr}
use Rattle.isle_declarations.specs.Heads.{heads_of}
use Rattle.isle_declarations.specs.Signatures.{Signature, rule_defs, term_named}
use Rattle.isle_declarations.specs.Terms.{terms}
use Rattle.isle_templates.specs.NodeCount.{expr_nodes, exprs_nodes}
use Rattle.isle_terms.specs.Converters.{conversion, within}
use Rattle.isle_terms.specs.Locals.{local_named}
use Rattle.isle_terms.specs.Scope.{Local, local_type}
use Rattle.isle_terms.specs.TypeNames.{type_named}
use Rattle.isle_terms.specs.Whole.{Whole, arg_types, ret_type, has_constructor}
use Rattle.isle_sema.specs.ExprPass.{ExprPass, ExprsPass, expr_pass, exprs_pass, call_tree, expr_within, called_by, local_tree, known_type, expr_before, count_of}
use Rattle.isle_sema.specs.RuleRows.{is_untaken, is_mistaken, is_misplaced, is_undeclared, is_met_otherwise, is_unknown, is_mistyped, is_call_of}
use Rattle.isle_sema.specs.Site.{Site, UsedAt, CalledAt}
use Rattle.isle_prelude_accepted.proofs.Has.{Has}
use Rattle.isle_prelude_accepted.proofs.Simple.{Makes, Variables, IsExprOf, AreExprsOf, expr_size, exprs_size}
use Rattle.isle_prelude_accepted.proofs.Callees.{IsKnown, IsMadeBy}
use Rattle.isle_prelude_accepted.proofs.TypedPatterns.{known_differ, no_conversion}

-- ---- what is asked

-- a part of a rule that breaks no row
pub record IsGoodSite (w : Whole) (site : Site) : Type 0 where
  pub taken : is_untaken w site ≡ false
  pub typed : is_mistaken w site ≡ false
  pub placed : is_misplaced w site ≡ false
  pub declared : is_undeclared site ≡ false
  pub met : is_met_otherwise site ≡ false
  pub known : is_unknown w site ≡ false
  pub fits : is_mistyped w site ≡ false
  pub whole : is_call_of (λ (t : Signature). t.partial) site ≡ false
  pub once : is_call_of (λ (t : Signature). t.multi) site ≡ false

-- the term of this number has a name that no rule's head has
abbrev pub IsUnruled : Whole → ℕ → Type 0
IsUnruled w n = (name : List ℕ) × (term_named (terms w.defs) name ≡ Some (record { 0 = n })) × (Has (heads_of (rule_defs w.defs)) name → ⊥)

-- each term that an expression calls is so
abbrev mutual
  pub CallsOnly : (ℕ → Type 0) → CoreExpr → Type 0
  CallsOnly P (core_expr.Term ty term es) = P term.0 × AllCallOnly P es
  CallsOnly P (core_expr.Var ty x) = Unit {0}
  CallsOnly P (core_expr.ConstBool b) = Unit {0}
  CallsOnly P (core_expr.ConstInt ty n) = Unit {0}
  CallsOnly P (core_expr.ConstPrim ty name) = Unit {0}
  CallsOnly P (core_expr.Let ty bindings e) = ⊥

  pub AllCallOnly : (ℕ → Type 0) → CoreExprs → Type 0
  AllCallOnly P CoreNoExpr = Unit {0}
  AllCallOnly P (CoreAnExpr e es) = CallsOnly P e × AllCallOnly P es

-- what comes of an expression of so many parts
pub record IsRight (w : Whole) (size : ℕ) (x : ExprPass) : Type 0 where
  pub made : CoreExpr
  pub treed : x.tree ≡ Some made
  pub nodes : expr_nodes made ≡ size
  pub calls : CallsOnly (IsUnruled w) made
  pub parts : AllByRecursion (IsGoodSite w) x.sites

-- so of expressions
pub record AreRight (w : Whole) (size : ℕ) (x : ExprsPass) : Type 0 where
  pub made : CoreExprs
  pub treed : x.trees ≡ Some made
  pub nodes : exprs_nodes made ≡ size
  pub calls : AllCallOnly (IsUnruled w) made
  pub parts : AllByRecursion (IsGoodSite w) x.sites

-- each variable is known at its type
abbrev pub AreLocals : Whole → Variables → List Local → Type 0
AreLocals w vars locals = (name ty : List ℕ) → Has vars (name, ty) → (l : Local) × (local_named locals name ≡ Some l) × (l.ty ≡ type_named w.defs ty)

-- ---- variables

-- what comes of a variable, by what is found of it and the converter around it
abbrev name_pass_by : Whole → (next : ℕ) → (expected : Option TypeId) → Option Local → Option Signature → ExprPass
name_pass_by w next expected found by =
    record { tree = expr_within w by (local_tree found); next = next; sites = called_by by expected ++ UsedAt (within by (known_type found) expected) (local_type found) ∷ [] }

used_good : (w : Whole) (l : Local) (expected : Option TypeId) (k : TypeId) → expected ≡ Some k → l.ty ≡ Some k → IsGoodSite w (UsedAt expected (Some l.ty))
used_good w l expected k e f = record {
  taken = refl;
  typed = refl;
  placed = refl;
  declared = refl;
  met = refl;
  known = refl;
  fits = known_differ l.ty expected k f e;
  whole = refl;
  once = refl;
}

variable_right : (w : Whole) (locals : List Local) (next : ℕ) (name : List ℕ) (expected : Option TypeId) (l : Local) (k : TypeId)
    → local_named locals name ≡ Some l → expected ≡ Some k → l.ty ≡ Some k
    → IsRight w 1 (expr_pass w locals next expected (tree.Name name))
variable_right w locals next name expected l k found e f =
    let form : expr_pass w locals next expected (tree.Name name) ≡ name_pass_by w next expected (Some l) None =
    ap (λ (o : Option Local). name_pass_by w next expected o (conversion w (known_type o) expected)) found
    ∙ ap (name_pass_by w next expected (Some l)) (ap₂ (conversion w) f e ∙ no_conversion w k) in
    subst (IsRight w 1) (sym form) (record {
      made = core_expr.Var k (record { 0 = l.number });
      treed =
          ap (λ (o : Option TypeId). option_map (λ (v : TypeId × VarId). core_expr.Var v.0 v.1) (option_map {U = TypeId × VarId} (λ (ty : TypeId). (ty, record { 0 = l.number })) o)) f;
      nodes = refl;
      calls = tt;
      parts = (used_good w l expected k e f, tt);
    })

-- ---- calls

-- what comes of a call, by what is known of its term, the type that it gives, and the converter around it
abbrev call_pass_by : Whole → (expected of : Option TypeId) → (by callee : Option Signature) → Option TermId → ℕ → ExprsPass → ExprPass
call_pass_by w expected of by callee number count args = record {
  tree = expr_within w by (call_tree of number args.trees);
  next = args.next;
  sites = called_by by expected ++ CalledAt (within by of expected) callee count ∷ args.sites;
}

called_good : (w : Whole) (s : Signature) (expected : Option TypeId) (count : ℕ) (k : TypeId) → type_named w.defs s.ret ≡ Some k → expected ≡ Some k
    → count ≡ length s.args → has_constructor w s ≡ true
    → s.partial ≡ false → s.multi ≡ false → IsGoodSite w (CalledAt expected (Some s) count)
called_good w s expected count k gives e many made whole once = record {
  taken = refl;
  typed = refl;
  placed = refl;
  declared = refl;
  met = refl;
  known = or_from (not (count == length s.args)) (not (has_constructor w s)) (ap not (eq-eqb count (length s.args) many)) (ap not made);
  fits = known_differ (type_named w.defs s.ret) expected k gives e;
  whole = whole;
  once = once;
}

many_exprs : (E : List Def) (vars : Variables) (args : List (List ℕ)) (es : Exprs) → AreExprsOf E vars args es → count_of es ≡ length args
many_exprs E vars [] NoExpr h = refl
many_exprs E vars (ty ∷ tys) (AnExpr e es) h = ap suc (many_exprs E vars tys es h.1)
many_exprs E vars [] (AnExpr e es) h = absurd h
many_exprs E vars (ty ∷ tys) NoExpr h = absurd h

module _ (w : Whole) (E : List Def) (makes : (name : List ℕ) (args : List (List ℕ)) (ret : List ℕ) → Makes E name args ret → IsMadeBy w name args ret)
    (vars : Variables) (locals : List Local) (known : AreLocals w vars locals) where
  call_right : (next : ℕ) (name ty : List ℕ) (args : List (List ℕ)) (es : Exprs) → IsMadeBy w name args ty → count_of es ≡ length args
      → AreRight w (exprs_size es) (exprs_pass w locals next (map (type_named w.defs) args) es)
      → IsRight w (suc (exprs_size es)) (expr_pass w locals next (type_named w.defs ty) (tree.Call name es))
  call_right next name ty args es m many inner =
      let c = m.callee in
      let s = c.signature in
      let expected = type_named w.defs ty in
      let k = c.ret_known.0 in
      let there : expected ≡ Some k = c.ret_known.1 in
      let given : type_named w.defs s.ret ≡ Some k = ap (type_named w.defs) c.gives ∙ there in
      let after = exprs_pass w locals next (map (type_named w.defs) s.args) es in
      let right : AreRight w (exprs_size es) after =
      subst (λ ts. AreRight w (exprs_size es) (exprs_pass w locals next (map (type_named w.defs) ts) es)) (sym c.takes) inner in
      let form : expr_pass w locals next expected (tree.Call name es) ≡ call_pass_by w expected (Some k) None (Some s) (Some c.number) (count_of es) after =
      ap₂ (λ (x : Option Signature) (n : Option TermId). call_pass_by w expected (ret_type w x) (conversion w (ret_type w x) expected) x n (count_of es) (exprs_pass w locals next (arg_types w x) es)) c.there c.numbered
      ∙ ap₂ (λ (of e : Option TypeId). call_pass_by w expected of (conversion w of e) (Some s) (Some c.number) (count_of es) after) given there
      ∙ ap (λ by. call_pass_by w expected (Some k) by (Some s) (Some c.number) (count_of es) after) (no_conversion w k) in
      subst (IsRight w (suc (exprs_size es))) (sym form) (record {
        made = core_expr.Term k c.number right.made;
        treed = ap (call_tree (Some k) (Some c.number)) right.treed;
        nodes = ap suc right.nodes;
        calls = ((name, c.numbered, m.unruled), right.calls);
        parts = (called_good w s expected (count_of es) k given there (many ∙ sym (ap length c.takes)) m.made m.whole m.once, right.parts);
      })

  mutual
    pub expr_right : (next : ℕ) (ty : List ℕ) (e : Expr) → IsKnown w.defs ty → IsExprOf E vars ty e
        → IsRight w (expr_size e) (expr_pass w locals next (type_named w.defs ty) e)
    expr_right next ty (tree.Name name) there h =
        let b = known name ty h in
        variable_right w locals next name (type_named w.defs ty) b.0 there.0 b.1 there.1 (b.2 ∙ there.1)
    expr_right next ty (tree.Call name es) there h =
        let m = makes name h.0 ty h.1 in
        call_right next name ty h.0 es m (many_exprs E vars h.0 es h.2) (exprs_right next h.0 es m.callee.args_known h.2)
    expr_right next ty (tree.Number n) there h = absurd h
    expr_right next ty (tree.Fact b) there h = absurd h
    expr_right next ty (tree.Constant name) there h = absurd h
    expr_right next ty (tree.Let ls e) there h = absurd h

    pub exprs_right : (next : ℕ) (tys : List (List ℕ)) (es : Exprs) → AllByRecursion (IsKnown w.defs) tys → AreExprsOf E vars tys es
        → AreRight w (exprs_size es) (exprs_pass w locals next (map (type_named w.defs) tys) es)
    exprs_right next [] NoExpr there h = record { made = CoreNoExpr; treed = refl; nodes = refl; calls = tt; parts = tt }
    exprs_right next (ty ∷ tys) (AnExpr e es) there h =
        let first = expr_right next ty e there.0 h.0 in
        let one = expr_pass w locals next (type_named w.defs ty) e in
        let rest = exprs_right one.next tys es there.1 h.1 in
        let later = exprs_pass w locals one.next (map (type_named w.defs) tys) es in
        record {
          made = CoreAnExpr first.made rest.made;
          treed = ap₂ expr_before first.treed rest.treed;
          nodes = ap₂ (λ m n. m + n) first.nodes rest.nodes;
          calls = (first.calls, rest.calls);
          parts = all_append (IsGoodSite w) one.sites later.sites first.parts rest.parts;
        }
    exprs_right next [] (AnExpr e es) there h = absurd h
    exprs_right next (ty ∷ tys) NoExpr there h = absurd h
