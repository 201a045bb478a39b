-- In a rule of a term without `multi` no pattern uses a `multi` term, its templates replaced.
use Rattle.std.proofs.Common.{◌≡◌, ℕ, Bool, true, false, List, [], ◌∷◌, ◌++◌, map, Option, Some, None, refl, sym, ap, ◌∙◌, subst}
use Rattle.std.specs.Prelude.{◌&&◌, ◌||◌, not}
use Rattle.std.specs.List.{list_any}
use Rattle.std.proofs.lemmas.Bool.{or_parts, or_from}
use Rattle.std.proofs.lemmas.List.Folds.{list_any-append}
use Rattle.std.proofs.lemmas.Option.{same_Some}
use Rattle.isle_core.specs.Expr.{Expr as CoreExpr}
use Rattle.isle_core.specs.Pattern as core_pattern
use Rattle.isle_core.specs.Pattern.{Pattern as CorePattern, Patterns as CorePatterns, NoPattern as CoreNoPattern, APattern as CoreAPattern}
use Rattle.isle_core.specs.Rule.{Rule, IfLet as CoreIfLet}
use Rattle.isle_core.specs.RuleViews.{patterns_of as core_patterns}
use Rattle.isle_ast.specs.Tree.{IfLet}
use Rattle.isle_ast.specs.Views.{patterns_of as seen_patterns}
use Rattle.isle_declarations.specs.Signatures.{Signature, RuleDef}
use Rattle.isle_templates.specs.Multi.{marked, uses_one, uses_any, is_multi}
use Rattle.isle_templates.proofs.ExpandedUses.{expanded_uses}
use Rattle.isle_templates.specs.Elaborated.{condition_expanded, rule_expanded}
use Rattle.isle_templates.specs.Renumbered.{condition_renamed, order_of, renamed, all_renamed}
use Rattle.isle_templates.specs.Substituted.{expanded, whole_templates}
use Rattle.isle_terms.specs.Whole.{Whole, termed, arg_types}
use Rattle.isle_terms.proofs.MadeTerms.{first_there}
use Rattle.isle_types.specs.TypeRows.{on}
use Rattle.isle_terms.specs.Scope.{Scope, no_variables}
use Rattle.isle_sema.specs.RulePass.{iflet_tree, condition_expr, condition_pattern, condition_pass, conditions_pass, patterns_of, conditions_of, left_of, rule_pass}
use Rattle.isle_sema.specs.RuleRows.{declared_multis}
use Rattle.isle_sema.specs.Site.{Site}
use Rattle.isle_sema.specs.Taken.{row_of}
use Rattle.isle_sema.specs.Templates.{templates}
use Rattle.isle_sema.proofs.Judgements.{row_fails}
use Rattle.isle_sema.proofs.RuleRoots.{rule_made}
use Rattle.isle_sema.proofs.TreeUses.{is_use, tree_uses, trees_use}

-- no pattern of a rule or of its conditions uses a term of which this holds
pub record UsesNone (test : ℕ → Bool) (r : Rule) : Type 0 where
  pub args : list_any (uses_one test) r.args ≡ false
  pub iflets : list_any (λ (c : CoreIfLet). uses_one test c.lhs) r.iflets ≡ false

-- ---- new numbers of variables change nothing

mutual
  renamed_uses : (test : ℕ → Bool) (order : List ℕ) (p : CorePattern) → uses_one test (renamed order p) ≡ uses_one test p
  renamed_uses test order (core_pattern.BindPattern ty x p) = renamed_uses test order p
  renamed_uses test order (core_pattern.Var ty x) = refl
  renamed_uses test order (core_pattern.ConstBool b) = refl
  renamed_uses test order (core_pattern.ConstInt ty n) = refl
  renamed_uses test order (core_pattern.ConstPrim ty name) = refl
  renamed_uses test order (core_pattern.Term ty term ps) = ap (λ b. test term.0 || b) (all_renamed_use test order ps)
  renamed_uses test order (core_pattern.Wildcard ty) = refl
  renamed_uses test order (core_pattern.And ty ps) = all_renamed_use test order ps

  all_renamed_use : (test : ℕ → Bool) (order : List ℕ) (ps : CorePatterns) → uses_any test (all_renamed order ps) ≡ uses_any test ps
  all_renamed_use test order CoreNoPattern = refl
  all_renamed_use test order (CoreAPattern p ps) = ap (λ b. b || uses_any test (all_renamed order ps)) (renamed_uses test order p) ∙ ap (λ b. uses_one test p || b) (all_renamed_use test order ps)

-- ---- nor do templates add a use

fails_where : (a b : Bool) → (a ≡ true → b ≡ true) → b ≡ false → a ≡ false
fails_where false b h e = refl
fails_where true b h e = let bad : true ≡ false = sym (h refl) ∙ e in absurd cc

module _ (w : Whole) (order : List ℕ) where
  abbrev by_templates : ℕ → Bool
  by_templates = is_multi (templates w) (declared_multis w)

  abbrev by_itself : ℕ → Bool
  by_itself = marked (declared_multis w)

  elaborated_uses : (p : CorePattern) → uses_one by_templates p ≡ false → uses_one by_itself (renamed order (expanded (whole_templates (templates w)) p)) ≡ false
  elaborated_uses p h =
      let whole = expanded (whole_templates (templates w)) p in
      renamed_uses by_itself order whole ∙ fails_where (uses_one by_itself whole) (uses_one by_templates p) (expanded_uses (templates w) (declared_multis w) p) h

  elaborated_args : (ps : List CorePattern) → uses_any by_templates (core_patterns ps) ≡ false → list_any (uses_one by_itself) (map (renamed order) (map (expanded (whole_templates (templates w))) ps)) ≡ false
  elaborated_args [] h = refl
  elaborated_args (p ∷ ps) h =
      let k = or_parts (uses_one by_templates p) (uses_any by_templates (core_patterns ps)) h in
      or_from (uses_one by_itself (renamed order (expanded (whole_templates (templates w)) p))) (list_any (uses_one by_itself) (map (renamed order) (map (expanded (whole_templates (templates w))) ps))) (elaborated_uses p k.0) (elaborated_args ps k.1)

  abbrev lhs_uses : (ℕ → Bool) → CoreIfLet → Bool
  lhs_uses test c = uses_one test c.lhs

  elaborated_iflets : (cs : List CoreIfLet) → list_any (lhs_uses by_templates) cs ≡ false → list_any (lhs_uses by_itself) (map (condition_renamed order) (map (condition_expanded (whole_templates (templates w))) cs)) ≡ false
  elaborated_iflets [] h = refl
  elaborated_iflets (c ∷ cs) h =
      let k = or_parts (lhs_uses by_templates c) (list_any (lhs_uses by_templates) cs) h in
      or_from (lhs_uses by_itself (condition_renamed order (condition_expanded (whole_templates (templates w)) c))) (list_any (lhs_uses by_itself) (map (condition_renamed order) (map (condition_expanded (whole_templates (templates w))) cs))) (elaborated_uses c.lhs k.0) (elaborated_iflets cs k.1)

-- ---- what stands in parts stands in trees

-- parts of which none is such a use, in order
none_apart : (test : Site → Bool) (xs ys : List Site) → list_any test (xs ++ ys) ≡ false → (list_any test xs ≡ false) × (list_any test ys ≡ false)
none_apart test xs ys h = or_parts (list_any test xs) (list_any test ys) (sym (list_any-append test xs ys) ∙ h)

-- the pattern of a condition's tree
lhs_of : (p : Option CorePattern) (e : Option CoreExpr) (c : CoreIfLet) → iflet_tree p e ≡ Some c → p ≡ Some c.lhs
lhs_of None e c h = absurd cc
lhs_of (Some p) None c h = absurd cc
lhs_of (Some p) (Some e) c h = ap (λ (x : CoreIfLet). Some x.lhs) (same_Some (record { lhs = p; rhs = e }) c h)

conditions_use : (w : Whole) (test : ℕ → Bool) (scope : Scope) (cs : List IfLet) (xs : List CoreIfLet) → (conditions_pass w scope cs).trees ≡ Some xs → list_any (is_use w test) (conditions_pass w scope cs).sites ≡ false → list_any (λ (c : CoreIfLet). uses_one test c.lhs) xs ≡ false
conditions_use w test scope [] xs h none = ap (list_any (λ (c : CoreIfLet). uses_one test c.lhs)) (sym (same_Some [] xs h))
conditions_use w test scope (c ∷ cs) xs h none =
    let one = condition_pass w scope c in
    let rest = conditions_pass w one.scope cs in
    let f = first_there one.tree rest.trees xs h in
    let halves = none_apart (is_use w test) one.sites rest.sites none in
    let own = none_apart (is_use w test) (condition_expr w scope c).sites (condition_pattern w scope c).sites halves.0 in
    let lhs = lhs_of (condition_pattern w scope c).tree (condition_expr w scope c).tree f.first f.here in
    ap (list_any (λ (y : CoreIfLet). uses_one test y.lhs)) f.all
    ∙ or_from (uses_one test f.first.lhs) (list_any (λ (y : CoreIfLet). uses_one test y.lhs) f.others) (tree_uses w test _ scope c.lhs f.first.lhs lhs ∙ own.1) (conditions_use w test one.scope cs f.others f.found halves.1)

-- ---- rules

-- a rule of a term without `multi` that breaks no row uses no `multi` term, once it is elaborated
pub single_rule : (w : Whole) (i : ℕ) (r : RuleDef) (s : Signature) (x : Rule) → termed w r.term ≡ Some s → s.multi ≡ false → row_of w r ≡ None → rule_pass w i r ≡ Some x → UsesNone (marked (declared_multis w)) x
single_rule w i r s x is single row h =
    let m = rule_made w i r x h in
    let y = m.written in
    let test = is_multi (templates w) (declared_multis w) in
    let used = ap (λ b. not b && list_any (is_use w test) (left_of w r)) (sym single) ∙ ap (λ (o : Option Signature). on o (λ (t : Signature). not t.multi && list_any (is_use w test) (left_of w r))) (sym is) ∙ (row_fails w r row).used in
    let halves = none_apart (is_use w test) (patterns_of w r).sites (conditions_of w r).sites used in
    let order = order_of (rule_expanded (whole_templates (templates w)) y) in
    subst (UsesNone (marked (declared_multis w))) m.is (record {
      args = elaborated_args w order y.args (trees_use w test (arg_types w (termed w r.term)) no_variables (seen_patterns r.args) y.args m.args ∙ halves.0);
      iflets = elaborated_iflets w order y.iflets (conditions_use w test (patterns_of w r).scope r.iflets y.iflets m.iflets halves.1);
    })
