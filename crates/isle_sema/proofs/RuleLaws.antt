-- What the code finds of rules: the rows that they break, and their trees.
use denote.Ref.{Bor}
use Rattle.std.proofs.Common.{◌≡◌, ℕ, zero, suc, ◌+◌, ◌<◌, ◌≤◌, length, arith, Bool, true, false, cond, List, [], ◌∷◌, ◌++◌, map, Option, Some, None, Result, Ok, Err, refl, sym, ap, ◌∙◌}
use Rattle.std.specs.Prelude.{IfOk, not, nat_le, is_some, option_map, option_and_then, slice_get}
use Rattle.std.specs.List.{list_any}
use Rattle.std.proofs.lemmas.List.{length-map}
use Rattle.std.proofs.lemmas.Option.{same_Some}
use Rattle.std.proofs.lemmas.List.Sums.{fold-append}
use Rattle.isle_core.specs.declared.rules.Expr.{Expr as CodeExpr}
use Rattle.isle_core.specs.RuleViews.{expr as elaborated_expr}
use Rattle.std.proofs.lemmas.Bool.{or_parts, or_from, leb-true, le-leb}
use Rattle.isle_core.specs.declared.TermId.{TermId}
use Rattle.isle_core.specs.declared.TypeId.{TypeId}
use Rattle.isle_core.specs.Pattern.{Pattern as CorePattern}
use Rattle.isle_core.specs.Expr.{Expr as CoreExpr}
use Rattle.isle_core.specs.Rule.{Rule as CoreRule, IfLet as CoreIfLet}
use Rattle.isle_ast.specs.Views.{patterns_of as seen_patterns}
use Rattle.isle_ast.specs.Tree as tree
use Rattle.isle_ast.specs.Tree.{Def}
use Rattle.isle_declarations.specs.Terms.{terms}
use Rattle.isle_declarations.specs.Signatures.{Signature, RuleDef, rule_defs, signature_named, term_named}
use Rattle.isle_types.specs.declared.row.Row.TheVariants as row
use Rattle.isle_types.specs.declared.row.Row.{Row}
use Rattle.isle_types.specs.Fault.{or_later}
use Rattle.isle_types.specs.TypeRows.{on}
use Rattle.isle_terms.specs.Locals.{of_patterns}
use Rattle.isle_terms.specs.Scope.{Scope, no_variables}
use Rattle.isle_terms.specs.Whole.{Whole, arg_types, ret_type}
use Rattle.isle_sema.specs.PatternPass.{PatternsPass, patterns_pass}
use Rattle.isle_sema.specs.ExprPass.{ExprPass, expr_pass}
use Rattle.isle_sema.specs.RulePass.{ConditionsPass, patterns_of, conditions_pass, conditions_of, right_side_of, left_of, rule_from, written_from, written_pass}
use Rattle.isle_sema.specs.RuleRows.{is_large}
use Rattle.isle_sema.specs.RulesFound.{found_rule, IsRuleFound, rules_fault}
use Rattle.isle_sema.specs.Templates.{templates}
use Rattle.isle_core.specs.declared.rules.Rule.{Rule as CodeRule}
use Rattle.isle_templates.specs.Elaborated.{rule_expanded, elaborated}
use Rattle.isle_templates.specs.ElaboratedRule.{IsElaborated}
use Rattle.isle_templates.specs.NodeCount.{rule_nodes}
use Rattle.isle_templates.specs.Substituted.{whole_templates}
use Rattle.isle_sema.specs.Fault.{OfRules, broken_in, fault_after}
use Rattle.isle_sema.specs.Judging.{unjudged, judge, judge_all, lowest}
use Rattle.isle_sema.specs.Known.{IsHead, MayBeCalled}
use Rattle.isle_sema.specs.ElaboratedAt.{pattern_trees, condition_trees, ArePatternsAt, AreConditionsAt, IsExprOver, AreSides}
use Rattle.isle_terms.specs.declared.judged.Judged.{Judged}
use Rattle.isle_sema.specs.declared.sides.Sides.{Sides}
use Rattle.isle_sema.specs.declared.known.Called.{Called}
use Rattle.isle_declarations.specs.Symbols.{index_of}
use Rattle.isle_declarations.specs.Heads.{terms_of}
use Rattle.isle_sema.specs.Taken.{row_of}
use Rattle.isle_sema.proofs.Firsts.{later_none, none_later}
use Rattle.isle_sema.proofs.Judgements.{AreMultis, lowest_is}
use Rattle.isle_declarations.proofs.LookUps.{at_place, named_at, named_is}
use Rattle.isle_declarations.proofs.SymbolLaws.{index_below}

-- a rule breaks a row
abbrev pub is_broken : Whole → RuleDef → Bool
is_broken w r = is_some (row_of w r)

pub none_is : (o : Option Row) → is_some o ≡ false → o ≡ None
none_is None h = refl
none_is (Some r) h = absurd cc

-- ---- no rule breaks a row

pub fault_none : (w : Whole) (before ds : List Def) → list_any (is_broken w) (rule_defs ds) ≡ false → fault_after OfRules w before ds ≡ None
fault_none w before [] h = refl
fault_none w before (tree.Rule name prio term args iflets rhs pos ∷ ds) h =
    let d = tree.Rule name prio term args iflets rhs pos in
    let r : RuleDef = record { name = name; prio = prio; term = term; args = args; iflets = iflets; rhs = rhs; pos = pos } in
    let k = or_parts (is_broken w r) (list_any (is_broken w) (rule_defs ds)) h in
    none_later (λ (x : Row). (x, pos)) (broken_in OfRules (record { whole = w; before = before }) d) (fault_after OfRules w (before ++ d ∷ []) ds) (none_is (row_of w r) k.0) (fault_none w (before ++ d ∷ []) ds k.1)
fault_none w before (tree.Decl term pure multi partial recursive args ret pos ∷ ds) h = fault_none w (before ++ tree.Decl term pure multi partial recursive args ret pos ∷ []) ds h
fault_none w before (tree.ExternConstructor term func pos ∷ ds) h = fault_none w (before ++ tree.ExternConstructor term func pos ∷ []) ds h
fault_none w before (tree.TypeDecl name is_extern is_nodebug body pos ∷ ds) h = fault_none w (before ++ tree.TypeDecl name is_extern is_nodebug body pos ∷ []) ds h
fault_none w before (tree.ExternExtractor term func infallible pos ∷ ds) h = fault_none w (before ++ tree.ExternExtractor term func infallible pos ∷ []) ds h
fault_none w before (tree.ExternConst name ty pos ∷ ds) h = fault_none w (before ++ tree.ExternConst name ty pos ∷ []) ds h
fault_none w before (tree.Extractor term params template pos ∷ ds) h = fault_none w (before ++ tree.Extractor term params template pos ∷ []) ds h
fault_none w before (tree.Converter from to term pos ∷ ds) h = fault_none w (before ++ tree.Converter from to term pos ∷ []) ds h
fault_none w before (tree.Passed head pos ∷ ds) h = fault_none w (before ++ tree.Passed head pos ∷ []) ds h

pub none_fault : (w : Whole) (before ds : List Def) → fault_after OfRules w before ds ≡ None → list_any (is_broken w) (rule_defs ds) ≡ false
none_fault w before [] h = refl
none_fault w before (tree.Rule name prio term args iflets rhs pos ∷ ds) h =
    let d = tree.Rule name prio term args iflets rhs pos in
    let r : RuleDef = record { name = name; prio = prio; term = term; args = args; iflets = iflets; rhs = rhs; pos = pos } in
    let l = later_none (λ (x : Row). (x, pos)) (broken_in OfRules (record { whole = w; before = before }) d) (fault_after OfRules w (before ++ d ∷ []) ds) h in
    let own : row_of w r ≡ None = l.0 in
    or_from (is_broken w r) (list_any (is_broken w) (rule_defs ds)) (ap is_some own) (none_fault w (before ++ d ∷ []) ds l.1)
none_fault w before (tree.Decl term pure multi partial recursive args ret pos ∷ ds) h = none_fault w (before ++ tree.Decl term pure multi partial recursive args ret pos ∷ []) ds h
none_fault w before (tree.ExternConstructor term func pos ∷ ds) h = none_fault w (before ++ tree.ExternConstructor term func pos ∷ []) ds h
none_fault w before (tree.TypeDecl name is_extern is_nodebug body pos ∷ ds) h = none_fault w (before ++ tree.TypeDecl name is_extern is_nodebug body pos ∷ []) ds h
none_fault w before (tree.ExternExtractor term func infallible pos ∷ ds) h = none_fault w (before ++ tree.ExternExtractor term func infallible pos ∷ []) ds h
none_fault w before (tree.ExternConst name ty pos ∷ ds) h = none_fault w (before ++ tree.ExternConst name ty pos ∷ []) ds h
none_fault w before (tree.Extractor term params template pos ∷ ds) h = none_fault w (before ++ tree.Extractor term params template pos ∷ []) ds h
none_fault w before (tree.Converter from to term pos ∷ ds) h = none_fault w (before ++ tree.Converter from to term pos ∷ []) ds h
none_fault w before (tree.Passed head pos ∷ ds) h = none_fault w (before ++ tree.Passed head pos ∷ []) ds h

-- the fault of the stage is the first of its rules
pub rules_fault_is : (w : Whole) (before ds : List Def) → fault_after OfRules w before ds ≡ rules_fault w (rule_defs ds)
rules_fault_is w before [] = refl
rules_fault_is w before (tree.Rule name prio term args iflets rhs pos ∷ ds) =
    let d = tree.Rule name prio term args iflets rhs pos in
    let r : RuleDef = record { name = name; prio = prio; term = term; args = args; iflets = iflets; rhs = rhs; pos = pos } in
    ap (or_later (option_map (λ (row : Row). (row, pos)) (row_of w r))) (rules_fault_is w (before ++ d ∷ []) ds)
rules_fault_is w before (tree.Decl term pure multi partial recursive args ret pos ∷ ds) = rules_fault_is w (before ++ tree.Decl term pure multi partial recursive args ret pos ∷ []) ds
rules_fault_is w before (tree.ExternConstructor term func pos ∷ ds) = rules_fault_is w (before ++ tree.ExternConstructor term func pos ∷ []) ds
rules_fault_is w before (tree.TypeDecl name is_extern is_nodebug body pos ∷ ds) = rules_fault_is w (before ++ tree.TypeDecl name is_extern is_nodebug body pos ∷ []) ds
rules_fault_is w before (tree.ExternExtractor term func infallible pos ∷ ds) = rules_fault_is w (before ++ tree.ExternExtractor term func infallible pos ∷ []) ds
rules_fault_is w before (tree.ExternConst name ty pos ∷ ds) = rules_fault_is w (before ++ tree.ExternConst name ty pos ∷ []) ds
rules_fault_is w before (tree.Extractor term params template pos ∷ ds) = rules_fault_is w (before ++ tree.Extractor term params template pos ∷ []) ds
rules_fault_is w before (tree.Converter from to term pos ∷ ds) = rules_fault_is w (before ++ tree.Converter from to term pos ∷ []) ds
rules_fault_is w before (tree.Passed head pos ∷ ds) = rules_fault_is w (before ++ tree.Passed head pos ∷ []) ds

-- ---- what the code knows of a rule

beyond : (xs : List Signature) (n : ℕ) → slice_get xs n ≡ None → length xs ≤ n
beyond [] n e = omega arith
beyond (x ∷ xs) zero e = absurd cc
beyond (x ∷ xs) (suc n) e = let h = beyond xs n e in omega (arith, h)

none_named : (sigs : List Signature) (name : List ℕ) → signature_named sigs name ≡ None → term_named sigs name ≡ None
none_named sigs name h = by (index_of (terms_of sigs) name) refl
  where
    by : (o : Option ℕ) → index_of (terms_of sigs) name ≡ o → term_named sigs name ≡ None
    by None e = ap (option_map (λ (n : ℕ). record { 0 = n })) e
    by (Some n) e =
        let lt = index_below (terms_of sigs) name n e in
        let past = beyond sigs n (sym (named_at sigs name ∙ ap (at_place sigs) e) ∙ h) in
        let long = length-map sigs (λ (s : Signature). s.term) in
        absurd (omega (arith, lt, past, long))

-- the number of a declared term
pub number_is : (sigs : List Signature) (name : List ℕ) → option_and_then (λ (d : Signature). term_named sigs d.term) (signature_named sigs name) ≡ term_named sigs name
number_is sigs name = by (signature_named sigs name) refl
  where
    by : (o : Option Signature) → signature_named sigs name ≡ o → option_and_then (λ (d : Signature). term_named sigs d.term) o ≡ term_named sigs name
    by None e = sym (none_named sigs name e)
    by (Some s) e = ap (term_named sigs) (named_is sigs name s e)

-- what is elaborated at the types of a declared head are both sides of the rule, and its conditions
pub sides_are : (w : Whole) (r : RuleDef) (own : Called) (multis : Bor (List Bool)) (sides : Sides) (old bound vars : Scope) (next : ℕ) (found : Option CodeExpr × ℕ) (before middle first : Judged) → IsHead w r.term own → old ≡ no_variables → before ≡ unjudged multis → next ≡ vars.next → first ≡ unjudged multis → sides.rhs ≡ found.0
    → ArePatternsAt w own.args.now (seen_patterns r.args) old bound before middle sides.args → AreConditionsAt w r.iflets bound vars middle sides.left.rows sides.iflets → IsExprOver w (Some own.ret) r.rhs vars next first sides.right.rows found → AreSides w r multis sides
sides_are w r own multis sides old bound vars next found before middle first h none start begun again whole ps cs e =
    let is = h.there in
    let patterns : patterns_pass w (map Some own.args.now) old (seen_patterns r.args) ≡ patterns_of w r =
    ap (λ (scope : Scope). patterns_pass w (map Some own.args.now) scope (seen_patterns r.args)) none ∙ ap (λ os. patterns_pass w os no_variables (seen_patterns r.args)) (sym h.called.args) ∙ ap (λ o. patterns_pass w (arg_types w o) no_variables (seen_patterns r.args)) (sym is) in
    let conditions : conditions_pass w bound r.iflets ≡ conditions_of w r = ap (λ (scope : Scope). conditions_pass w scope r.iflets) (ps.scope ∙ ap (λ (p : PatternsPass). p.scope) patterns) in
    let scope : vars ≡ (conditions_of w r).scope = cs.scope ∙ ap (λ (c : ConditionsPass). c.scope) conditions in
    let own_side : Option TypeId → ExprPass = λ ty. expr_pass w (of_patterns (conditions_of w r).scope) (conditions_of w r).scope.next ty r.rhs in
    let right : expr_pass w (of_patterns vars) next (Some own.ret) r.rhs ≡ right_side_of w r =
    ap (λ n. expr_pass w (of_patterns vars) n (Some own.ret) r.rhs) begun ∙ ap (λ (s : Scope). expr_pass w (of_patterns s) s.next (Some own.ret) r.rhs) scope ∙ ap own_side (sym h.called.ret) ∙ ap (λ o. own_side (ret_type w o)) (sym is) in
    let argued : middle ≡ judge_all w (unjudged multis) (patterns_of w r).sites = ps.sites ∙ ap (λ (p : PatternsPass). judge_all w before p.sites) patterns ∙ ap (λ (j : Judged). judge_all w j (patterns_of w r).sites) start in
    record {
      trees = ps.trees ∙ ap (λ (p : PatternsPass). p.trees) patterns;
      tree = ap (option_map elaborated_expr) whole ∙ e.tree ∙ ap (λ (x : ExprPass). x.tree) right;
      conditions = cs.trees ∙ ap (λ (c : ConditionsPass). c.trees) conditions;
      left = cs.sites ∙ ap (λ (c : ConditionsPass). judge_all w middle c.sites) conditions ∙ ap (λ (j : Judged). judge_all w j (conditions_of w r).sites) argued ∙ sym (fold-append (judge w) (unjudged multis) (patterns_of w r).sites (conditions_of w r).sites);
      right = e.sites ∙ ap (λ (x : ExprPass). judge_all w first x.sites) right ∙ ap (λ (j : Judged). judge_all w j (right_side_of w r).sites) again;
    }

-- what the code finds is a row that the rule breaks, before that of its nodes
pub lowest_found : (w : Whole) (r : RuleDef) (own : Called) (multis : Bor (List Bool)) (sides : Sides) (found : Option Row) (count : ℕ) → AreMultis w multis.now → IsHead w r.term own → AreSides w r multis sides → count ≡ length r.args → found ≡ lowest own count sides.left.rows sides.right.rows → or_later found (cond (is_large w r) (Some row.ManyNodes) None) ≡ row_of w r
lowest_found w r own multis sides found count marks h p as_many f =
    ap (λ o. or_later o (cond (is_large w r) (Some row.ManyNodes) None)) (f ∙ ap (λ n. lowest own n sides.left.rows sides.right.rows) as_many ∙ ap (λ (j : Judged). lowest own (length r.args) j sides.right.rows) p.left
    ∙ ap (λ (j : Judged). lowest own (length r.args) (judge_all w (unjudged multis) (left_of w r)) j) p.right)
    ∙ lowest_is w r h.signature own multis marks h.there h.called

-- the tree of a rule of these parts
abbrev made : Whole → ℕ → RuleDef → Option TermId → Option (List CorePattern) → Option (List CoreIfLet) → Option CoreExpr → Option CoreRule
made w i r term trees cs e = option_and_then (λ (term : TermId). written_from w i r term trees cs e) term

-- whether it is there does not hang on the rule's number
never_made : (w : Whole) (i n : ℕ) (r : RuleDef) (term : Option TermId) (trees : Option (List CorePattern)) (cs : Option (List CoreIfLet)) (e : Option CoreExpr) → made w i r term trees cs e ≡ None → made w n r term trees cs e ≡ None
never_made w i n r None trees cs e h = refl
never_made w i n r (Some term) None cs e h = refl
never_made w i n r (Some term) (Some args) None e h = refl
never_made w i n r (Some term) (Some args) (Some iflets) None h = refl
never_made w i n r (Some term) (Some args) (Some iflets) (Some rhs) h = absurd cc

-- a rule that has no tree breaks no row by its nodes
pub untreed_row : (w : Whole) (i : ℕ) (r : RuleDef) → or_later None (cond (is_large w r) (Some row.ManyNodes) None) ≡ row_of w r → written_pass w i r ≡ None → row_of w r ≡ None
untreed_row w i r lowest none =
    let first : written_pass w 0 r ≡ None = never_made w i 0 r (term_named (terms w.defs) r.term) (patterns_of w r).trees (conditions_of w r).trees (right_side_of w r).tree none in
    sym lowest ∙ ap (λ b. cond b (Some row.ManyNodes) None) (ap (λ o. on o (λ (x : CoreRule). not (nat_le (rule_nodes (rule_expanded (whole_templates (templates w)) x)) 4096))) first)

-- the rule of the parts that the code finds is the rule as it is written
pub written_is : (w : Whole) (i : ℕ) (r : RuleDef) (own : Called) (multis : Bor (List Bool)) (sides : Sides) → IsHead w r.term own → AreSides w r multis sides
    → written_from w i r own.term (pattern_trees sides.args) (condition_trees sides.iflets) (option_map elaborated_expr sides.rhs) ≡ written_pass w i r
written_is w i r own multis sides h p =
    let number : term_named (terms w.defs) r.term ≡ Some own.term = ap (term_named (terms w.defs)) (sym (named_is (terms w.defs) r.term h.signature h.there)) ∙ h.called.term in
    ap (λ o. written_from w i r own.term o (condition_trees sides.iflets) (option_map elaborated_expr sides.rhs)) p.trees
    ∙ ap (λ o. written_from w i r own.term (patterns_of w r).trees o (option_map elaborated_expr sides.rhs)) p.conditions
    ∙ ap (written_from w i r own.term (patterns_of w r).trees (conditions_of w r).trees) p.tree
    ∙ ap (λ o. made w i r o (patterns_of w r).trees (conditions_of w r).trees (right_side_of w r).tree) (sym number)

-- the parts of a rule that is there, whatever its number
pub record IsMadeOf (w : Whole) (i : ℕ) (r : RuleDef) (o : Option TermId) (trees : Option (List CorePattern)) (cs : Option (List CoreIfLet)) (e : Option CoreExpr) (x : CoreRule) : Type 0 where
  pub term : TermId
  pub args : List CorePattern
  pub iflets : List CoreIfLet
  pub rhs : CoreExpr
  pub is : rule_from w i r term args iflets rhs ≡ x
  pub each : (n : ℕ) → made w n r o trees cs e ≡ Some (rule_from w n r term args iflets rhs)

made_of : (w : Whole) (i : ℕ) (r : RuleDef) (o : Option TermId) (trees : Option (List CorePattern)) (cs : Option (List CoreIfLet)) (e : Option CoreExpr) (x : CoreRule) → made w i r o trees cs e ≡ Some x → IsMadeOf w i r o trees cs e x
made_of w i r None trees cs e x h = absurd cc
made_of w i r (Some term) None cs e x h = absurd cc
made_of w i r (Some term) (Some args) None e x h = absurd cc
made_of w i r (Some term) (Some args) (Some iflets) None x h = absurd cc
made_of w i r (Some term) (Some args) (Some iflets) (Some rhs) x h =
    record { term = term; args = args; iflets = iflets; rhs = rhs; is = same_Some (rule_from w i r term args iflets rhs) x h; each = λ n. refl }

above : (m n : ℕ) → n < m → nat_le m n ≡ false
above m n lt = by (nat_le m n) refl
  where
    by : (b : Bool) → nat_le m n ≡ b → b ≡ false
    by true k = absurd (let le = leb-true m n k in omega (arith, le, lt))
    by false k = refl

-- a rule of few nodes is elaborated; one of more breaks the row of nodes
pub found_made : (w : Whole) (i : ℕ) (r : RuleDef) (x : CoreRule) (found : Option CodeRule) → or_later None (cond (is_large w r) (Some row.ManyNodes) None) ≡ row_of w r → written_pass w i r ≡ Some x → IsElaborated (templates w) x found → IsRuleFound w i r (found_rule found)
found_made w i r x found lowest written e = by found e
  where
    m : IsMadeOf w i r (term_named (terms w.defs) r.term) (patterns_of w r).trees (conditions_of w r).trees (right_side_of w r).tree x
    m = made_of w i r (term_named (terms w.defs) r.term) (patterns_of w r).trees (conditions_of w r).trees (right_side_of w r).tree x written

    count : CoreRule → ℕ
    count = λ y. rule_nodes (rule_expanded (whole_templates (templates w)) y)

    large : is_large w r ≡ not (nat_le (count x) 4096)
    large = ap (λ o. on o (λ (y : CoreRule). not (nat_le (count y) 4096))) (m.each 0) ∙ ap (λ y. not (nat_le (count y) 4096)) m.is

    few : count x ≤ 4096 → row_of w r ≡ None
    few le = sym lowest ∙ ap (λ b. cond b (Some row.ManyNodes) None) (large ∙ ap not (le-leb (count x) 4096 le))

    by : (o : Option CodeRule) → IsElaborated (templates w) x o → IsRuleFound w i r (found_rule o)
    by None more = sym lowest ∙ ap (λ b. cond b (Some row.ManyNodes) None) (large ∙ ap not (above (count x) 4096 more))
    by (Some y) is = record { sound = few is.1; made = ap (option_map (elaborated (templates w))) written ∙ ap Some (sym is.0) }

-- what holds of each good answer
pub ok_map : {X E : Type 0} {P Q : X → Type 0} (r : Result X E) → ((x : X) → P x → Q x) → IfOk r P → IfOk r Q
ok_map (Ok x) f h = f x h
ok_map (Err e) f h = h

-- a term that is there is not none
pub no_term : (o : Option Signature) → o ≡ None → is_some o ≡ true → ⊥
no_term None none there = cc
no_term (Some s) none there = cc

pub none_called : (w : Whole) (o : Option Signature) → MayBeCalled w o None → o ≡ None
none_called w None h = refl
none_called w (Some s) h = absurd h
