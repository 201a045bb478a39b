-- The rules of an environment have the types of their terms.
use Rattle.std.proofs.Common.{◌≡◌, ℕ, suc, ◌+◌, Bool, true, false, cond, List, [], ◌∷◌, ◌++◌, length, map, Option, Some, None, refl, sym, ap, ◌∙◌, subst, arith}
use Rattle.std.specs.Prelude.{◌==◌, ◌&&◌, not, All, slice_get, filter}
use Rattle.std.specs.List.{AllByRecursion, list_any}
use Rattle.std.proofs.lemmas.Bool.{or_parts, eqb-true, not-false}
use Rattle.std.proofs.lemmas.List.{length-map}
use Rattle.std.proofs.lemmas.List.Elements.{All-from_recursion, recursion_from_All}
use Rattle.std.proofs.lemmas.Option.{same_Some}
use Rattle.isle_core.specs.declared.TermId.{TermId}
use Rattle.isle_core.specs.declared.types.Term.{Term}
use Rattle.isle_core.specs.Rule.{Rule, Environment, rules_of}
use Rattle.isle_ast.specs.Tree.{Pattern, Def}
use Rattle.isle_ast.specs.Views.{patterns_of as seen_patterns}
use Rattle.isle_declarations.specs.Heads.{terms_of}
use Rattle.isle_declarations.specs.Signatures.{Signature, RuleDef, rule_defs, term_named}
use Rattle.isle_declarations.specs.Terms.{terms}
use Rattle.isle_declarations.proofs.LookUps.{at_place, named_at}
use Rattle.isle_declarations.proofs.SymbolLaws.{index_below}
use Rattle.isle_types.specs.TypeRows.{on}
use Rattle.isle_terms.specs.Locals.{of_patterns}
use Rattle.isle_terms.specs.Scope.{no_variables}
use Rattle.isle_terms.specs.TypeNames.{type_named}
use Rattle.isle_terms.specs.Whole.{Whole, termed, arg_types, ret_type}
use Rattle.isle_sema.specs.PatternPass.{PatternsPass, patterns_pass, count_of}
use Rattle.isle_sema.specs.ExprPass.{ExprPass, expr_pass}
use Rattle.isle_sema.specs.RulePass.{patterns_of, right_side_of, conditions_of, left_of, rule_pass, rules_pass}
use Rattle.isle_sema.specs.RuleRows.{is_untaken, is_mistaken, is_misplaced, is_undeclared, is_met_otherwise, is_unknown, is_mistyped}
use Rattle.isle_terms.specs.Whole.{whole_of}
use Rattle.isle_sema.specs.Judging.{is_partial_call}
use Rattle.isle_sema.specs.Taken.{row_of}
use Rattle.isle_sema.specs.Typing.{Typed}
use Rattle.isle_core.specs.ExprType.{in_condition, in_right_side, IsExprOf}
use Rattle.isle_core.specs.TypedVariables.{all_typed, rule_typed}
use Rattle.isle_templates.specs.TypedRule.{IsRuleOf, IsTypedRule}
use Rattle.isle_sema.proofs.AnsweringTerms.{term_answers}
use Rattle.isle_sema.proofs.Firsts.{any_parts}
use Rattle.isle_sema.proofs.Judgements.{row_fails}
use Rattle.isle_sema.proofs.KeptParts.{AreKept, kept_parts}
use Rattle.isle_terms.proofs.MadeTerms.{first_there, term_made, term_is, types_are}
use Rattle.isle_sema.proofs.RuleLaws.{is_broken, none_fault, none_is}
use Rattle.isle_sema.proofs.RuleRoots.{place_of, signature_at, rule_made}
use Rattle.isle_sema.proofs.TypedConditions.{patterns_stage, stage_over, conditions_typed}
use Rattle.isle_sema.proofs.TypedExprs.{expr_typed}
use Rattle.isle_sema.proofs.TypedParts.{IsGivenIn, given_in}
use Rattle.isle_sema.proofs.TypedPatterns.{AreTakenWell, taken_parts, patterns_typed}
use Rattle.isle_sema.proofs.VariableTypes.{have_one_type}
use Rattle.isle_sema.proofs.TypedTemplates.{knows, templates_typed, templates_short}
use Rattle.isle_sema.proofs.TypedTerms.{is_there}
use Rattle.isle_sema.specs.Templates.{templates}
use Rattle.isle_templates.specs.WrittenRule.{IsWrittenRuleOf}
use Rattle.isle_templates.proofs.ElaboratedTypes.{rule_elaborated}

-- ---- what a rule's term is

-- a term that has a number is there
pub signature_there : (w : Whole) (name : List ℕ) (term : TermId) → term_named (terms w.defs) name ≡ Some term → (s : Signature) × (termed w name ≡ Some s)
signature_there w name term h =
    let sigs = terms w.defs in
    let at = place_of sigs name term h in
    let lt = index_below (terms_of sigs) name term.0 at in
    let long = length-map sigs (λ (s : Signature). s.term) in
    let s = is_there sigs term.0 (omega (arith, lt, long)) in
    (s.0, named_at sigs name ∙ ap (at_place sigs) at ∙ s.1)

-- ---- a rule that breaks no row

pub counted : (ps : List Pattern) → count_of (seen_patterns ps) ≡ length ps
counted [] = refl
counted (p ∷ ps) = ap suc (counted ps)

rule_is_typed : (defs : List Def) (env : Environment) (i : ℕ) (r : RuleDef) (x : Rule) → IsGivenIn defs env → row_of (whole_of defs) r ≡ None → rule_pass (whole_of defs) i r ≡ Some x → IsTypedRule env x
rule_is_typed defs env i r x g row h =
    let w = whole_of defs in
    let m = rule_made w i r x h in
    let y = m.written in
    let d = signature_there w r.term x.root_term m.root in
    let s = d.0 in
    let at = signature_at w r.term s x.root_term d.1 m.root in
    let t = term_made w (terms defs) env.terms x.root_term.0 s g.terms at in
    let is = term_is w s t.term t.made in
    let tys = types_are defs s.args t.term.arg_tys is.args in
    let f = row_fails w r row in
    let ps = (patterns_of w r).sites in
    let cs = (conditions_of w r).sites in
    let rs = (right_side_of w r).sites in
    let a = or_parts (on (termed w r.term) (λ (y : Signature). not (length r.args == length y.args))) (list_any (is_untaken w) (left_of w r ++ rs)) f.arity in
    let p = any_parts (is_misplaced w) (left_of w r) rs f.literal in
    let u = any_parts (is_unknown w) (left_of w r) rs f.name in
    let v = any_parts (is_mistyped w) (left_of w r) rs f.typing in
    let patterns : patterns_pass w (map Some t.term.arg_tys) no_variables (seen_patterns r.args) ≡ patterns_of w r =
    ap (λ os. patterns_pass w os no_variables (seen_patterns r.args)) (sym tys) ∙ ap (λ o. patterns_pass w (arg_types w o) no_variables (seen_patterns r.args)) (sym d.1) in
    let scope = (conditions_of w r).scope in
    let right : expr_pass w (of_patterns scope) scope.next (Some t.term.ret_ty) r.rhs ≡ right_side_of w r =
    ap (λ o. expr_pass w (of_patterns scope) scope.next o r.rhs) (sym is.ret) ∙ ap (λ o. expr_pass w (of_patterns scope) scope.next (ret_type w o) r.rhs) (sym d.1) in
    let arity : not (length r.args == length s.args) ≡ false = ap (λ (o : Option Signature). on o (λ (y : Signature). not (length r.args == length y.args))) (sym d.1) ∙ a.0 in
    let count : count_of (seen_patterns r.args) ≡ length t.term.arg_tys =
    counted r.args ∙ eqb-true (length r.args) (length s.args) (not-false (length r.args == length s.args) arity) ∙ sym (length-map s.args (type_named defs)) ∙ ap length tys ∙ length-map t.term.arg_tys Some in
    let allowed = (term_answers defs env x.root_term.0 s t.term g at t.made).nothing in
    let calls : not s.partial && list_any is_partial_call rs ≡ false = ap (λ (o : Option Signature). on o (λ (y : Signature). not y.partial && list_any is_partial_call rs)) (sym d.1) ∙ f.partial in
    let well : AreTakenWell w (left_of w r) = record {
      taken = (any_parts (is_untaken w) (left_of w r) rs a.1).0;
      types = (any_parts (is_mistaken w) (left_of w r) rs f.taken).0;
      placed = p.0;
      declared = (any_parts is_undeclared (left_of w r) rs f.constants).0;
      again = (any_parts is_met_otherwise (left_of w r) rs f.met).0;
    } in
    let before : AreKept w in_condition (left_of w r) = record { placed = p.0; known = u.0; typed = v.0; partial = refl; impure = f.condition } in
    let kept : AreKept w (in_right_side s.partial) rs = record { placed = p.1; known = u.1; typed = v.1; partial = calls; impure = refl } in
    let halves = taken_parts w ps cs well in
    let k = knows defs env g in
    let conditions = conditions_typed defs env (patterns_of w r).scope (all_typed y.args) r.iflets y.iflets g k (patterns_stage w (arg_types w (termed w r.term)) (seen_patterns r.args) y.args m.args) m.iflets (kept_parts w in_condition ps cs before).1 halves.1 in
    let over = stage_over defs env scope (rule_typed y) scope.next g conditions.stage (omega arith) in
    let written : IsWrittenRuleOf env (templates w) t.term y = record {
      args = patterns_typed defs env t.term.arg_tys no_variables (seen_patterns r.args) y.args k g.types count (ap (λ (z : PatternsPass). z.trees) patterns ∙ m.args) (subst (λ (z : PatternsPass). AreTakenWell w z.sites) (sym patterns) halves.0);
      variables = have_one_type scope (rule_typed y) conditions.stage.numbered conditions.stage.stand;
      iflets = conditions.typed;
      rhs = subst (λ b. IsExprOf env (in_right_side b) (rule_typed y) t.term.ret_ty y.rhs) (sym allowed)
          (expr_typed defs env (in_right_side s.partial) (of_patterns scope) (rule_typed y) scope.next t.term.ret_ty r.rhs y.rhs over (ap (λ (z : ExprPass). z.tree) right ∙ m.rhs) (subst (λ (z : ExprPass). AreKept w (in_right_side s.partial) z.sites) (sym right) kept));
    } in
    record {
      term = t.term;
      root = t.there;
      typed = subst (IsRuleOf env t.term) m.is (rule_elaborated env (templates w) (templates_typed defs env g) (λ term lt. templates_short defs env g term lt) t.term y written);
    }

rules_typed : (defs : List Def) (env : Environment) (i : ℕ) (rules : List RuleDef) (xs : List Rule) → IsGivenIn defs env → list_any (is_broken (whole_of defs)) rules ≡ false
    → rules_pass (whole_of defs) i rules ≡ Some xs → AllByRecursion (IsTypedRule env) xs
rules_typed defs env i [] xs g rows h = subst (AllByRecursion (IsTypedRule env)) (same_Some [] xs h) tt
rules_typed defs env i (r ∷ rules) xs g rows h =
    let w = whole_of defs in
    let f = first_there (rule_pass w i r) (rules_pass w (i + 1) rules) xs h in
    let k = or_parts (is_broken w r) (list_any (is_broken w) rules) rows in
    subst (AllByRecursion (IsTypedRule env)) (sym f.all)
    (rule_is_typed defs env i r f.first g (none_is (row_of w r) k.0) f.here, rules_typed defs env (i + 1) rules f.others g k.1 f.found)

-- the rules of an environment are typed
pub typed_rules : (defs : List Def) (env : Environment) → Typed defs env → All (IsTypedRule env) env.rules
typed_rules defs env t =
    let g = given_in t in
    All-from_recursion (IsTypedRule env) env.rules (rules_typed defs env 0 (rule_defs defs) env.rules g (none_fault (whole_of defs) [] defs g.rules_kept) g.rules)

-- ---- the rules of a term

of_term : (env : Environment) (id : TermId) (t : Term) (r : Rule) → slice_get env.terms id.0 ≡ Some t → r.root_term.0 == id.0 ≡ true → IsTypedRule env r → IsRuleOf env t r
of_term env id t r at same h =
    let one : Some h.term ≡ Some t = sym h.root ∙ ap (slice_get env.terms) (eqb-true r.root_term.0 id.0 same) ∙ at in
    subst (λ x. IsRuleOf env x r) (same_Some h.term t one) h.typed

among : (env : Environment) (id : TermId) (t : Term) (r : Rule) (rs : List Rule) (b : Bool) → slice_get env.terms id.0 ≡ Some t → r.root_term.0 == id.0 ≡ b → IsTypedRule env r → AllByRecursion (IsRuleOf env t) rs
    → AllByRecursion (IsRuleOf env t) (cond b (r ∷ rs) rs)
among env id t r rs true at same h rest = (of_term env id t r at same h, rest)
among env id t r rs false at same h rest = rest

of_terms : (env : Environment) (id : TermId) (t : Term) (rs : List Rule) → slice_get env.terms id.0 ≡ Some t → AllByRecursion (IsTypedRule env) rs → AllByRecursion (IsRuleOf env t) (filter (λ (r : Rule). r.root_term.0 == id.0) rs)
of_terms env id t [] at h = tt
of_terms env id t (r ∷ rs) at h = among env id t r (filter (λ (r : Rule). r.root_term.0 == id.0) rs) (r.root_term.0 == id.0) at refl h.0 (of_terms env id t rs at h.1)

-- the rules of a term have its types
pub typed_of : (defs : List Def) (env : Environment) (id : TermId) (t : Term) → Typed defs env → slice_get env.terms id.0 ≡ Some t → All (IsRuleOf env t) (rules_of env id)
typed_of defs env id t h at = All-from_recursion (IsRuleOf env t) (rules_of env id) (of_terms env id t env.rules at (recursion_from_All (IsTypedRule env) env.rules (typed_rules defs env h)))
