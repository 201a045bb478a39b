-- A rule that breaks no row has a tree, if no definition breaks a row of types or of terms.
use Rattle.std.proofs.Common.{◌≡◌, ℕ, ◌+◌, false, cond, List, [], ◌∷◌, ◌++◌, length, map, Option, Some, None, refl, sym, ap, ◌∙◌, subst}
use Rattle.std.specs.Prelude.{◌==◌, not, is_some, Contains, option_map, option_and_then}
use Rattle.std.specs.List.{list_any}
use Rattle.std.proofs.lemmas.Bool.{or_parts, eqb-true, not-false}
use Rattle.std.proofs.lemmas.List.{length-map}
use Rattle.isle_core.specs.declared.TermId.{TermId}
use Rattle.isle_core.specs.Expr.{Expr as CoreExpr}
use Rattle.isle_core.specs.Pattern.{Pattern as CorePattern}
use Rattle.isle_core.specs.Rule.{Rule as CoreRule, IfLet as CoreIfLet}
use Rattle.isle_ast.specs.Tree.{IfLet, Def}
use Rattle.isle_ast.specs.Views.{patterns_of as seen_patterns}
use Rattle.isle_declarations.specs.Signatures.{Signature, RuleDef, externs, rule_defs, func_named, term_named}
use Rattle.isle_declarations.specs.Terms.{terms}
use Rattle.isle_terms.specs.Locals.{of_patterns}
use Rattle.isle_terms.specs.NewVariables.{new_count}
use Rattle.isle_terms.specs.Scope.{Scope, no_variables}
use Rattle.isle_types.specs.TypeRows.{on}
use Rattle.isle_types.specs.Fault.{or_later}
use Rattle.isle_types.specs.declared.row.Row.TheVariants as row
use Rattle.isle_terms.specs.TypeNames.{type_named}
use Rattle.isle_terms.specs.Whole.{Whole, whole_of, declared, termed, arg_types}
use Rattle.isle_terms.proofs.MadeTerms.{before_both}
use Rattle.isle_sema.specs.ExprPass.{expr_type}
use Rattle.isle_sema.specs.ExprType.{own_type}
use Rattle.isle_sema.proofs.TypesOwned.{type_is}
use Rattle.isle_sema.specs.PatternPass.{count_of, pattern_pass}
use Rattle.isle_sema.specs.RulePass.{ConditionsPass, iflet_tree, condition_expr, condition_pattern, condition_pass, conditions_pass, patterns_of, conditions_of, right_side_of, left_of, rule_from, written_pass}
use Rattle.isle_sema.specs.RuleRows.{is_untaken, is_mistaken, is_misplaced, is_undeclared, is_met_otherwise, is_unknown, is_mistyped, is_large}
use Rattle.isle_sema.specs.RulesFound.{AreHeadsDeclared}
use Rattle.isle_sema.specs.Taken.{row_of}
use Rattle.isle_sema.proofs.DeclaredWell.{AreDeclaredWell, declarations_kept, knows_types, declared_term}
use Rattle.isle_sema.proofs.Firsts.{any_parts}
use Rattle.isle_sema.proofs.Judgements.{row_fails}
use Rattle.isle_sema.proofs.NamedExtractors.{fails_at}
use Rattle.isle_sema.proofs.RuleLaws.{untreed_row}
use Rattle.isle_sema.proofs.TermFaults.{is_headless}
use Rattle.isle_sema.proofs.TreedExprs.{AreUsedWell, used_parts, patterns_typed, expr_treed}
use Rattle.isle_sema.proofs.TreedPatterns.{KnowsTypes, numbered, AreTypedIn, none_typed, AreExpected, as_many_expected, pattern_treed, patterns_treed}
use Rattle.isle_sema.proofs.TypedPatterns.{AreTakenWell, taken_parts}
use Rattle.isle_sema.proofs.TypedRules.{counted}

-- ---- conditions

-- conditions have trees, and each variable after them a type
pub record AreTreedConditions (p : ConditionsPass) : Type 0 where
  pub trees : List CoreIfLet
  pub are : p.trees ≡ Some trees
  pub after : AreTypedIn p.scope

iflet_there : (lhs : Option CorePattern) (rhs : Option CoreExpr) (p : CorePattern) (e : CoreExpr) → lhs ≡ Some p → rhs ≡ Some e → iflet_tree lhs rhs ≡ Some (record { lhs = p; rhs = e })
iflet_there lhs rhs p e a b = ap (λ o. iflet_tree o rhs) a ∙ ap (iflet_tree (Some p)) b

-- conditions whose parts break no row have trees
pub conditions_treed : (w : Whole) (scope : Scope) (cs : List IfLet) → KnowsTypes w → AreTypedIn scope → AreUsedWell w (conditions_pass w scope cs).sites → AreTakenWell w (conditions_pass w scope cs).sites → AreTreedConditions (conditions_pass w scope cs)
conditions_treed w scope [] knows typed used taken = record { trees = []; are = refl; after = typed }
conditions_treed w scope (c ∷ cs) knows typed used taken =
    let one = condition_pass w scope c in
    let rest = conditions_pass w one.scope cs in
    let right = condition_expr w scope c in
    let left = condition_pattern w scope c in
    let u = used_parts w one.sites rest.sites used in
    let t = taken_parts w one.sites rest.sites taken in
    let e = expr_treed w (of_patterns scope) (scope.next + new_count scope c.lhs) None c.rhs knows (patterns_typed scope typed) (used_parts w right.sites left.sites u.0).0 in
    let ty = expr_type e.tree in
    let expected : own_type w (of_patterns scope) c.rhs ≡ Some ty = type_is w (of_patterns scope) (of_patterns scope) (scope.next + new_count scope c.lhs) c.rhs e.tree (λ name. refl) e.is in
    let p = pattern_treed w ty scope c.lhs knows typed (subst (λ o. AreTakenWell w (pattern_pass w o scope c.lhs).sites) expected (taken_parts w right.sites left.sites t.0).1) in
    let lhs : left.tree ≡ Some p.tree = ap (λ o. (pattern_pass w o scope c.lhs).tree) expected ∙ p.is in
    let first : one.tree ≡ Some (record { lhs = p.tree; rhs = e.tree }) = iflet_there left.tree right.tree p.tree e.tree lhs e.is in
    let known : AreTypedIn left.scope = subst (λ o. AreTypedIn (pattern_pass w o scope c.lhs).scope) (sym expected) p.after in
    let others = conditions_treed w one.scope cs knows (record { by = known.by }) u.1 t.1 in
    record { trees = record { lhs = p.tree; rhs = e.tree } ∷ others.trees; are = before_both one.tree rest.trees (record { lhs = p.tree; rhs = e.tree }) others.trees first others.are; after = others.after }

-- ---- rules

-- a rule has a tree if its parts have
rule_there : (w : Whole) (i : ℕ) (r : RuleDef) (o : Option TermId) (ps : Option (List CorePattern)) (cs : Option (List CoreIfLet)) (e : Option CoreExpr) (term : TermId) (args : List CorePattern) (iflets : List CoreIfLet) (rhs : CoreExpr)
    → o ≡ Some term → ps ≡ Some args → cs ≡ Some iflets → e ≡ Some rhs
    → option_and_then (λ (t : TermId). option_and_then (λ (xs : List CorePattern). option_and_then (λ (ys : List CoreIfLet). option_map (rule_from w i r t xs ys) e) cs) ps) o ≡ Some (rule_from w i r term args iflets rhs)
rule_there w i r o ps cs e term args iflets rhs a b c d =
    ap (option_and_then (λ (t : TermId). option_and_then (λ (xs : List CorePattern). option_and_then (λ (ys : List CoreIfLet). option_map (rule_from w i r t xs ys) e) cs) ps)) a
    ∙ ap (option_and_then (λ (xs : List CorePattern). option_and_then (λ (ys : List CoreIfLet). option_map (rule_from w i r term xs ys) e) cs)) b
    ∙ ap (option_and_then (λ (ys : List CoreIfLet). option_map (rule_from w i r term args ys) e)) c
    ∙ ap (option_map (rule_from w i r term args iflets)) d

-- a rule of a term that is there, with as many patterns as it has arguments
parts_treed : (w : Whole) (i : ℕ) (r : RuleDef) (s : Signature) → KnowsTypes w → termed w r.term ≡ Some s → length r.args ≡ length s.args → AreTakenWell w (left_of w r) → AreUsedWell w (left_of w r) → AreUsedWell w (right_side_of w r).sites
    → (x : CoreRule) × (written_pass w i r ≡ Some x)
parts_treed w i r s knows is many taken used right =
    let n = numbered (terms w.defs) r.term s is in
    let t = knows.typed r.term s is in
    let types : arg_types w (termed w r.term) ≡ map Some t.args = ap (arg_types w) is ∙ t.args_are in
    let count : count_of (seen_patterns r.args) ≡ length t.args = counted r.args ∙ many ∙ sym (length-map s.args (type_named w.defs)) ∙ ap length t.args_are ∙ length-map t.args Some in
    let each : AreExpected (arg_types w (termed w r.term)) (seen_patterns r.args) = subst (λ os. AreExpected os (seen_patterns r.args)) (sym types) (as_many_expected t.args (seen_patterns r.args) count) in
    let split = taken_parts w (patterns_of w r).sites (conditions_of w r).sites taken in
    let ps = patterns_treed w (arg_types w (termed w r.term)) no_variables (seen_patterns r.args) knows none_typed each split.0 in
    let cs = conditions_treed w (patterns_of w r).scope r.iflets knows ps.after (used_parts w (patterns_of w r).sites (conditions_of w r).sites used).1 split.1 in
    let scope = (conditions_of w r).scope in
    let e = expr_treed w (of_patterns scope) scope.next _ r.rhs knows (patterns_typed scope cs.after) right in
    (rule_from w i r n.0 ps.trees cs.trees e.tree, rule_there w i r (term_named (terms w.defs) r.term) (patterns_of w r).trees (conditions_of w r).trees (right_side_of w r).tree n.0 ps.trees cs.trees e.tree n.1 ps.are cs.are e.is)

-- the term of each rule is there
pub heads_declared : (defs : List Def) → AreDeclaredWell defs → AreHeadsDeclared (whole_of defs)
heads_declared defs d r c =
    let head = or_parts (not (is_some (declared (whole_of defs) r.term))) (is_some (func_named (externs defs) r.term)) (fails_at (is_headless defs) (rule_defs defs) r (declarations_kept defs d).heads c) in
    ap is_some (declared_term defs r.term d head.0).there

-- a rule of a term that is there has a tree if it breaks no row
row_treed : (w : Whole) (i : ℕ) (r : RuleDef) (s : Signature) → KnowsTypes w → termed w r.term ≡ Some s → row_of w r ≡ None → (x : CoreRule) × (written_pass w i r ≡ Some x)
row_treed w i r s knows there row =
    let f = row_fails w r row in
    let rs = (right_side_of w r).sites in
    let a = or_parts (on (termed w r.term) (λ (y : Signature). not (length r.args == length y.args))) (list_any (is_untaken w) (left_of w r ++ rs)) f.arity in
    let p = any_parts (is_misplaced w) (left_of w r) rs f.literal in
    let u = any_parts (is_unknown w) (left_of w r) rs f.name in
    let v = any_parts (is_mistyped w) (left_of w r) rs f.typing in
    let k = any_parts is_undeclared (left_of w r) rs f.constants in
    let arity : not (length r.args == length s.args) ≡ false = ap (λ (o : Option Signature). on o (λ (y : Signature). not (length r.args == length y.args))) (sym there) ∙ a.0 in
    let taken : AreTakenWell w (left_of w r) = record { taken = (any_parts (is_untaken w) (left_of w r) rs a.1).0; types = (any_parts (is_mistaken w) (left_of w r) rs f.taken).0; placed = p.0; declared = k.0; again = (any_parts is_met_otherwise (left_of w r) rs f.met).0 } in
    parts_treed w i r s knows there (eqb-true (length r.args) (length s.args) (not-false (length r.args == length s.args) arity)) taken
    (record { placed = p.0; known = u.0; typed = v.0; declared = k.0 }) (record { placed = p.1; known = u.1; typed = v.1; declared = k.1 })

-- so a rule that breaks no row before that of its nodes has one
pub never_untreed : (defs : List Def) (i : ℕ) (r : RuleDef) (s : Signature) → AreDeclaredWell defs → termed (whole_of defs) r.term ≡ Some s → or_later None (cond (is_large (whole_of defs) r) (Some row.ManyNodes) None) ≡ row_of (whole_of defs) r → written_pass (whole_of defs) i r ≡ None → ⊥
never_untreed defs i r s d there lowest none =
    let w = whole_of defs in
    let treed = row_treed w i r s (knows_types defs d) there (untreed_row w i r lowest none) in
    let bad : None ≡ Some treed.0 = sym none ∙ treed.1 in
    cc

-- and so has one of definitions that breaks no row
pub rule_treed : (defs : List Def) (i : ℕ) (r : RuleDef) → AreDeclaredWell defs → Contains (rule_defs defs) r → row_of (whole_of defs) r ≡ None → (x : CoreRule) × (written_pass (whole_of defs) i r ≡ Some x)
rule_treed defs i r d c row =
    let head = or_parts (not (is_some (declared (whole_of defs) r.term))) (is_some (func_named (externs defs) r.term)) (fails_at (is_headless defs) (rule_defs defs) r (declarations_kept defs d).heads c) in
    let s = declared_term defs r.term d head.0 in
    row_treed (whole_of defs) i r s.signature (knows_types defs d) s.there row
