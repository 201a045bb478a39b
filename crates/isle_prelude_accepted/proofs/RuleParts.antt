-- The parts of a rule of simple definitions: its patterns are variables, and its right side has a tree.
use Rattle.std.proofs.Common.{◌≡◌, inl, ℕ, suc, ◌+◌, ◌≤◌, pos, false, cond, List, [], ◌∷◌, map, length, Option, Some, None, refl, sym, ap, ap₂, ◌∙◌, subst, arith}
use Rattle.std.specs.Prelude.{option_map, option_and_then}
use Rattle.std.specs.List.{AllByRecursion}
use Rattle.isle_core.specs.declared.TermId.{TermId}
use Rattle.isle_core.specs.declared.TypeId.{TypeId}
use Rattle.isle_core.specs.declared.VarId.{VarId}
use Rattle.isle_core.specs.declared.position.Pos.{Pos}
use Rattle.isle_core.specs.Expr.{Expr as CoreExpr, Exprs as CoreExprs, NoExpr as CoreNoExpr, AnExpr as CoreAnExpr}
use Rattle.isle_core.specs.Expr as core_expr
use Rattle.isle_core.specs.Pattern as core_pattern
use Rattle.isle_core.specs.Pattern.{Pattern as CorePattern}
use Rattle.isle_core.specs.Rule.{Rule as CoreRule}
use Rattle.isle_ast.specs.Tree as tree
use Rattle.isle_ast.specs.Tree.{Def, Pattern, Expr}
use Rattle.isle_ast.specs.Views.{patterns_of as seen_patterns}
use Rattle.isle_declarations.specs.Signatures.{RuleDef, term_named}
use Rattle.isle_declarations.specs.Terms.{terms}
use Rattle.isle_templates.specs.Elaborated.{elaborated, rule_expanded}
use Rattle.isle_templates.specs.NodeCount.{pattern_nodes, expr_nodes, rule_nodes, total}
use Rattle.isle_templates.specs.Renumbered.{renamed, expr_renamed, exprs_renamed, order_of}
use Rattle.isle_templates.specs.Substituted.{expanded, whole_templates}
use Rattle.isle_terms.specs.Locals.{of_patterns}
use Rattle.isle_terms.specs.Scope.{Local, Scope, found_in, local_type, met, no_variables, typed_local}
use Rattle.isle_terms.specs.TermPass.{tree_before}
use Rattle.isle_terms.specs.TypeNames.{type_named}
use Rattle.isle_terms.specs.Whole.{Whole, whole_of, termed, arg_types, ret_type}
use Rattle.isle_terms.proofs.LocalLaws.{latest_found}
use Rattle.isle_sema.specs.ExprPass.{expr_pass}
use Rattle.isle_sema.specs.PatternPass.{PatternsPass, patterns_pass, variable_tree}
use Rattle.isle_sema.specs.RulePass.{patterns_of, right_side_of, rule_from, written_from, written_pass, rule_pass}
use Rattle.isle_sema.specs.Site.{Site, MetAt}
use Rattle.isle_sema.specs.Templates.{params_met, templates}
use Rattle.isle_writing.specs.Erased.{all_erased}
use Rattle.isle_prelude_accepted.proofs.Has.{AreApart, own_bytes}
use Rattle.isle_prelude_accepted.proofs.Simple.{AreSimple, IsSoundRule, with_types, expr_size}
use Rattle.isle_prelude_accepted.proofs.Callees.{IsKnown, declared_callee, made_by_function}
use Rattle.isle_prelude_accepted.proofs.Parameters.{AreFree, first_met, met_first, found_more, still_free, params_bound, variables_bind}
use Rattle.isle_prelude_accepted.proofs.TypedExprs.{IsUnruled, CallsOnly, AllCallOnly, IsRight, AreLocals, expr_right}

-- ---- patterns that are variables

-- a variable as a pattern
abbrev pub variable_of : List ℕ → Pattern
variable_of name = tree.Var name

-- it is a variable
abbrev pub IsVariable : CorePattern → Type 0
IsVariable p = (ty : TypeId) × (x : VarId) × (p ≡ core_pattern.Var ty x)

-- it is a variable that is met first
abbrev pub IsFresh : Site → Type 0
IsFresh site = (ty : Option TypeId) × (site ≡ MetAt ty None)

-- what comes of patterns that are variables
pub record AreVariables (many : ℕ) (p : PatternsPass) : Type 0 where
  pub made : List CorePattern
  pub treed : p.trees ≡ Some made
  pub each : AllByRecursion IsVariable made
  pub count : length made ≡ many
  pub fresh : AllByRecursion IsFresh p.sites

first_tree : (scope : Scope) (name : List ℕ) (ty : Option TypeId) (k : TypeId) → found_in scope.variables name ≡ None → ty ≡ Some k
    → variable_tree (first_met scope name ty) name ≡ Some (core_pattern.Var k (record { 0 = scope.next }))
first_tree scope name ty k free e =
    let x : Local = record { name = name; ty = ty; number = scope.next } in
    ap (λ (o : Option Local). option_map (λ (v : TypeId × VarId). core_pattern.Var v.0 v.1) (typed_local o))
    (found_more scope.variables x name free ∙ ap (λ b. cond b (Some x) None) (own_bytes name))
    ∙ ap (λ (o : Option TypeId). option_map (λ (v : TypeId × VarId). core_pattern.Var v.0 v.1) (option_map {U = TypeId × VarId} (λ (t : TypeId). (t, record { 0 = scope.next })) o)) e

module _ (w : Whole) where
  pub variables_right : (scope : Scope) (params args : List (List ℕ)) → length params ≡ length args → AreApart params → AreFree params scope
      → AllByRecursion (IsKnown w.defs) args
      → AreVariables (length params) (patterns_pass w (map (type_named w.defs) args) scope (seen_patterns (map variable_of params)))
  variables_right scope [] args many apart free known = record { made = []; treed = refl; each = tt; count = refl; fresh = tt }
  variables_right scope (p ∷ ps) [] many apart free known = absurd (let e : suc (length ps) ≡ 0 = many in omega arith)
  variables_right scope (p ∷ ps) (t ∷ ts) many apart free known =
      let ty = type_named w.defs t in
      let k = known.0.0 in
      let unbound = free p (inl refl) in
      let first = met_first scope p ty unbound in
      let later = λ (s : Scope). patterns_pass w (map (type_named w.defs) ts) s (seen_patterns (map variable_of ps)) in
      let rest =
      variables_right (first_met scope p ty) ps ts (let e : suc (length ps) ≡ suc (length ts) = many in omega arith) apart.1
      (still_free scope p ps ty apart free) known.1 in
      let own = core_pattern.Var k (record { 0 = scope.next }) in
      let made : variable_tree (met scope p ty) p ≡ Some own = ap (λ (s : Scope). variable_tree s p) first ∙ first_tree scope p ty k unbound known.0.1 in
      let behind : AreVariables (length ps) (later (met scope p ty)) = subst (λ s. AreVariables (length ps) (later s)) (sym first) rest in
      record {
        made = own ∷ behind.made;
        treed = ap₂ tree_before made behind.treed;
        each = ((k, record { 0 = scope.next }, refl), behind.each);
        count = ap suc behind.count;
        fresh = ((ty, ap (MetAt ty) (ap local_type unbound)), behind.fresh);
      }

-- ---- elaborated rules

-- a rule that is made of a definition's: its patterns are variables, it has no conditions, and it calls only what no rule makes
pub record IsMadeRule (w : Whole) (term : List ℕ) (x : CoreRule) : Type 0 where
  pub root : term_named (terms w.defs) term ≡ Some x.root_term
  pub variables : AllByRecursion IsVariable x.args
  pub free : x.iflets ≡ []
  pub calls : CallsOnly (IsUnruled w) x.rhs
  pub prio : x.prio ≡ pos 0

same_expanded : (ts : List (Option CorePattern)) (ps : List CorePattern) → AllByRecursion IsVariable ps → map (expanded ts) ps ≡ ps
same_expanded ts [] h = refl
same_expanded ts (p ∷ ps) h = ap₂ (λ q qs. q ∷ qs) (ap (expanded ts) h.0.2 ∙ sym h.0.2) (same_expanded ts ps h.1)

still_variables : (order : List ℕ) (ps : List CorePattern) → AllByRecursion IsVariable ps → AllByRecursion IsVariable (map (renamed order) ps)
still_variables order [] h = tt
still_variables order (p ∷ ps) h = ((h.0.0, _, ap (renamed order) h.0.2), still_variables order ps h.1)

one_node : (ps : List CorePattern) → AllByRecursion IsVariable ps → total (map pattern_nodes ps) ≡ length ps
one_node [] h = refl
one_node (p ∷ ps) h = ap₂ (λ m n. m + n) (ap pattern_nodes h.0.2) (one_node ps h.1) ∙ (let e : 1 + length ps ≡ suc (length ps) = omega arith in e)

mutual
  still_calls : (P : ℕ → Type 0) (order : List ℕ) (e : CoreExpr) → CallsOnly P e → CallsOnly P (expr_renamed order e)
  still_calls P order (core_expr.Term ty term es) h = (h.0, still_call P order es h.1)
  still_calls P order (core_expr.Var ty x) h = tt
  still_calls P order (core_expr.ConstBool b) h = tt
  still_calls P order (core_expr.ConstInt ty n) h = tt
  still_calls P order (core_expr.ConstPrim ty name) h = tt
  still_calls P order (core_expr.Let ty bindings e) h = absurd h

  still_call : (P : ℕ → Type 0) (order : List ℕ) (es : CoreExprs) → AllCallOnly P es → AllCallOnly P (exprs_renamed order es)
  still_call P order CoreNoExpr h = tt
  still_call P order (CoreAnExpr e es) h = (still_calls P order e h.0, still_call P order es h.1)

-- a rule on variables without conditions
abbrev pub rule_on : Option (List ℕ) → (term : List ℕ) → (params : List (List ℕ)) → Expr → Pos → RuleDef
rule_on name term params rhs at = record { name = name; prio = pos 0; term = term; args = map variable_of params; iflets = []; rhs = rhs; pos = at }

-- what is found of it
pub record IsRuleFit (w : Whole) (r : RuleDef) (params : List (List ℕ)) : Type 0 where
  pub left : AreVariables (length params) (patterns_of w r)
  pub right : IsRight w (expr_size r.rhs) (right_side_of w r)
  pub number : TermId
  pub numbered : term_named (terms w.defs) r.term ≡ Some number
  pub few : length params + expr_size r.rhs ≤ 4096

module _ (defs : List Def) (h : AreSimple (all_erased defs)) where
  pub rule_fit : (name : Option (List ℕ)) (term : List ℕ) (patterns : List Pattern) (rhs : Expr) (at : Pos) (s : IsSoundRule (all_erased defs) term patterns rhs)
      → IsRuleFit (whole_of defs) (rule_on name term s.params rhs at) s.params
  rule_fit name term patterns rhs at s =
      let w = whole_of defs in
      let r = rule_on name term s.params rhs at in
      let c = declared_callee defs h term false false false false s.args s.ret s.declared in
      let seen = seen_patterns (map variable_of s.params) in
      let left_at = λ (ts : List (Option TypeId)). patterns_pass w ts no_variables seen in
      let takes : arg_types w (termed w term) ≡ map (type_named defs) s.args = ap (arg_types w) c.1.there ∙ ap (map (type_named defs)) c.1.takes in
      let gives : ret_type w (termed w term) ≡ type_named defs s.ret = ap (ret_type w) c.1.there ∙ ap (type_named defs) c.1.gives in
      let scope = params_met no_variables s.params (map (type_named defs) s.args) in
      let bound = params_bound w no_variables s.params s.args s.many s.apart (λ n i. refl) in
      let after : (patterns_of w r).scope ≡ scope = ap (λ ts. (left_at ts).scope) takes ∙ variables_bind w no_variables s.params (map (type_named defs) s.args) in
      let locals : AreLocals w (with_types s.params s.args) (of_patterns scope) =
      λ n ty i. (let b = bound n ty i in (b.0, latest_found scope.variables n ∙ b.1, b.2)) in
      let form : right_side_of w r ≡ expr_pass w (of_patterns scope) scope.next (type_named defs s.ret) rhs =
      ap₂ (λ (z : Scope) (ty : Option TypeId). expr_pass w (of_patterns z) z.next ty rhs) after gives in
      record {
        left =
            subst (λ ts. AreVariables (length s.params) (left_at ts)) (sym takes)
            (variables_right w no_variables s.params s.args s.many s.apart (λ n i. refl) c.1.args_known);
        right = subst (IsRight w (expr_size rhs)) (sym form)
            (expr_right w (all_erased defs) (made_by_function defs h) (with_types s.params s.args) (of_patterns scope) locals scope.next s.ret rhs c.1.ret_known s.whole);
        number = c.1.number;
        numbered = c.1.numbered;
        few = s.few;
      }

module _ (w : Whole) (name : Option (List ℕ)) (term : List ℕ) (params : List (List ℕ)) (rhs : Expr) (at : Pos) (f : IsRuleFit w (rule_on name term params rhs at) params) where
  -- the rule as it is written
  abbrev pub rule_made : ℕ → CoreRule
  rule_made i = rule_from w i (rule_on name term params rhs at) f.number f.left.made [] f.right.made

  pub rule_written : (i : ℕ) → written_pass w i (rule_on name term params rhs at) ≡ Some (rule_made i)
  rule_written i =
      let r = rule_on name term params rhs at in
      ap (option_and_then (λ (n : TermId). written_from w i r n (patterns_of w r).trees (Some []) (right_side_of w r).tree)) f.numbered
      ∙ ap₂ (λ (ps : Option (List CorePattern)) (e : Option CoreExpr). written_from w i r f.number ps (Some []) e) f.left.treed f.right.treed

  -- it has few nodes
  pub few_nodes : (ts : List (Option CorePattern)) (i : ℕ) → rule_nodes (rule_expanded ts (rule_made i)) ≤ 4096
  few_nodes ts i =
      let few = f.few in
      let many : total (map pattern_nodes (map (expanded ts) f.left.made)) ≡ length params =
      ap (λ ps. total (map pattern_nodes ps)) (same_expanded ts f.left.made f.left.each) ∙ one_node f.left.made f.left.each ∙ f.left.count in
      let size : expr_nodes f.right.made ≡ expr_size rhs = f.right.nodes in
      subst (λ n. n + 0 + expr_nodes f.right.made ≤ 4096) (sym many) (subst (λ n. length params + 0 + n ≤ 4096) (sym size) (omega (arith, few)))

  -- what is made of it in the end
  pub rule_is_made : (i : ℕ) → (x : CoreRule) × (rule_pass w i (rule_on name term params rhs at) ≡ Some x) × IsMadeRule w term x
  rule_is_made i =
      let ts = whole_templates (templates w) in
      let x = rule_expanded ts (rule_made i) in
      let same = same_expanded ts f.left.made f.left.each in (
        elaborated (templates w) (rule_made i),
        ap (option_map (elaborated (templates w))) (rule_written i),
        record {
          root = f.numbered;
          variables = still_variables (order_of x) x.args (subst (AllByRecursion IsVariable) (sym same) f.left.each);
          free = refl;
          calls = still_calls (IsUnruled w) (order_of x) f.right.made f.right.calls;
          prio = refl;
        },
      )
