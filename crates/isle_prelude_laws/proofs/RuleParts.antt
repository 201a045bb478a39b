-- The parts of a rule over variables alone, as an environment has it.
use Rattle.std.proofs.Common.{◌≡◌, ℕ, suc, ◌+◌, Bool, true, false, cond, List, [], ◌∷◌, ◌++◌, length, map, Option, Some, None, refl, sym, ap, ◌∙◌, subst, arith}
use Rattle.std.specs.Prelude.{option_map}
use Rattle.std.specs.List.{AllByRecursion, IsDistinct}
use Rattle.std.specs.Str.{bytes_eq}
use Rattle.std.proofs.lemmas.Slice.Eq.{bytes_eq-Decides}
use Rattle.isle_base.specs.declared.ids.TypeId.{TypeId}
use Rattle.isle_base.specs.declared.ids.VarId.{VarId}
use Rattle.isle_core.specs.Expr.{Expr, Exprs}
use Rattle.isle_core.specs.Pattern as pattern
use Rattle.isle_core.specs.Pattern.{Pattern}
use Rattle.isle_core.specs.Rule.{Rule}
use Rattle.isle_core.proofs.OptionLaws.{some_same}
use Rattle.isle_ast.specs.Tree as tree
use Rattle.isle_ast.specs.Views.{patterns_of as seen_patterns}
use Rattle.isle_declarations.specs.Signatures.{RuleDef}
use Rattle.isle_declarations.specs.Symbols.{index_of}
use Rattle.isle_prelude.specs.ClifFiles.{variables}
use Rattle.isle_sema.specs.PatternPass.{first_expected, later_expected, pattern_pass, patterns_pass}
use Rattle.isle_sema.specs.RulePass.{rule_pass, patterns_of, conditions_of, conditions_pass}
use Rattle.isle_sema.specs.Templates.{params_met, templates}
use Rattle.isle_sema.proofs.ParameterScopes.{listed, params_listed}
use Rattle.isle_sema.proofs.RuleRoots.{rule_made}
use Rattle.isle_templates.specs.Renumbered.{bound_in, all_bound_in}
use Rattle.isle_terms.specs.Converters.{converters}
use Rattle.isle_terms.specs.Locals.{of_patterns}
use Rattle.isle_terms.specs.Scope.{Local, Scope, no_variables, found_in, met_by, met, typed_local}
use Rattle.isle_terms.specs.Whole.{Whole, termed, arg_types, ret_type}
use Rattle.isle_terms.proofs.LocalLaws.{latest_found}
use Rattle.isle_terms.proofs.ScopeLaws.{found_end}
use Rattle.isle_prelude_laws.proofs.NamedTrees.{Numbers, ExprNamed, ExprsNamed}
use Rattle.isle_prelude_laws.proofs.Operands.{variables_from, IsPlainRule}
use Rattle.isle_prelude_laws.proofs.PassedTrees.{numbers, IsSimple, AtPlaces, listed_at_place, expr_named, trees_there}
use Rattle.isle_prelude_laws.proofs.Renumbered.{plain_elaborated}

-- ---- patterns

-- none of these names is bound
abbrev AreNew : List Local → List (List ℕ) → Type 0
AreNew ls names = AllByRecursion (λ (name : List ℕ). found_in ls name ≡ None) names

new_more : (ls : List Local) (l : Local) (names : List (List ℕ)) → AreNew ls names
    → AllByRecursion (λ (name : List ℕ). bytes_eq l.name name ≡ false) names → AreNew (ls ++ l ∷ []) names
new_more ls l [] h k = tt
new_more ls l (name ∷ names) h k = (found_end ls l name h.0 ∙ ap (λ b. cond b (Some l) None) k.0, new_more ls l names h.1 k.1)

none_bound : (names : List (List ℕ)) → AreNew [] names
none_bound [] = tt
none_bound (name ∷ names) = (refl, none_bound names)

-- variables are numbered in a row
variables_passed : (w : Whole) (names : List (List ℕ)) (tys : List TypeId) (scope : Scope) (qs : List Pattern) → IsDistinct bytes_eq names
    → AreNew scope.variables names → length names ≡ length tys
    → (patterns_pass w (map Some tys) scope (seen_patterns (variables names))).trees ≡ Some qs → qs ≡ variables_from scope.next tys
unfolding IsDistinct
variables_passed w [] [] scope qs apart new long h = sym (some_same [] qs h)
variables_passed w [] (ty ∷ tys) scope qs apart new long h = absurd (omega (arith, long))
variables_passed w (name ∷ names) [] scope qs apart new long h = absurd (omega (arith, long))
variables_passed w (name ∷ names) (ty ∷ tys) scope qs apart new long h =
    let l : Local = record { name = name; ty = Some ty; number = scope.next } in
    let mid : Scope = record { variables = scope.variables ++ l ∷ []; next = suc scope.next } in
    let one : met scope name (Some ty) ≡ mid = ap (λ o. met_by o scope name (Some ty)) new.0 in
    let first = pattern_pass w (Some ty) scope (tree.Var name) in
    let rest = patterns_pass w (map Some tys) first.scope (seen_patterns (variables names)) in
    let b = trees_there first.tree rest.trees qs h in
    let found : found_in mid.variables name ≡ Some l = found_end scope.variables l name new.0 ∙ ap (λ t. cond t (Some l) None) ((bytes_eq-Decides name name).1 refl) in
    let tree_is : first.tree ≡ Some (pattern.Var ty (record { 0 = scope.next })) =
    ap (λ (s : Scope). option_map (λ (v : TypeId × VarId). pattern.Var v.0 v.1) (typed_local (found_in s.variables name))) one ∙ ap (λ o. option_map (λ (v : TypeId × VarId). pattern.Var v.0 v.1) (typed_local o)) found in
    let here : b.one ≡ pattern.Var ty (record { 0 = scope.next }) = some_same b.one (pattern.Var ty (record { 0 = scope.next })) (sym b.one_is ∙ tree_is) in
    let others : (patterns_pass w (map Some tys) mid (seen_patterns (variables names))).trees ≡ Some b.others = ap (λ (s : Scope). (patterns_pass w (map Some tys) s (seen_patterns (variables names))).trees) (sym one) ∙ b.others_are in
    b.whole ∙ ap (λ q. q ∷ b.others) here ∙ ap (λ more. pattern.Var ty (record { 0 = scope.next }) ∷ more) (variables_passed w names tys mid b.others apart.1 (new_more scope.variables l names new.1 apart.0) (omega (arith, long)) others)

-- they bind these parameters
scope_passed : (w : Whole) (names : List (List ℕ)) (types : List (Option TypeId)) (scope : Scope)
    → (patterns_pass w types scope (seen_patterns (variables names))).scope ≡ params_met scope names types
scope_passed w [] types scope = refl
scope_passed w (name ∷ names) types scope = scope_passed w names (later_expected types) (met scope name (first_expected types))

-- ---- the right side

-- a variable that is found among parameters has its name's place
found_place : (params : List (List ℕ)) (types : List (Option TypeId)) (name : List ℕ) (l : Local) → found_in (listed 0 params types) name ≡ Some l
    → index_of params name ≡ Some l.number
found_place params types name l h = by (index_of params name) refl
  where
    absent : (ps : List (List ℕ)) (ts : List (Option TypeId)) (j : ℕ) → index_of ps name ≡ None → found_in (listed j ps ts) name ≡ None
    absent [] ts j none = refl
    absent (p ∷ ps) ts j none = first (bytes_eq p name) (λ e. absent ps (later_expected ts) (suc j) e) none
      where
        first : (b : Bool) → (index_of ps name ≡ None → found_in (listed (suc j) ps (later_expected ts)) name ≡ None)
            → cond b (Some 0) (option_map (λ (n : ℕ). n + 1) (index_of ps name)) ≡ None
            → cond b (Some (record { name = p; ty = first_expected ts; number = j })) (found_in (listed (suc j) ps (later_expected ts)) name) ≡ None
        first true go e = absurd cc
        first false go e = go (empty (index_of ps name) e)
          where
            empty : (o : Option ℕ) → option_map (λ (n : ℕ). n + 1) o ≡ None → o ≡ None
            empty None e = refl
            empty (Some n) e = absurd cc

    by : (o : Option ℕ) → index_of params name ≡ o → index_of params name ≡ Some l.number
    by None is = let bad : None ≡ Some l = sym (absent params types 0 is) ∙ h in absurd cc
    by (Some k) is =
        let f = listed_at_place params types 0 k name is in
        let same : f.0 ≡ l = some_same f.0 l (sym f.1 ∙ h) in
        let at = f.2 in
        let number : k ≡ l.number = (let one : f.0.number ≡ k = omega (arith, at) in sym one ∙ ap (λ (x : Local). x.number) same) in
        is ∙ ap Some number

-- what is named binds nothing
mutual
  named_unbound : (number : Numbers) (params : List (List ℕ)) (e : tree.Expr) (x : Expr) → ExprNamed number params e x → bound_in x ≡ []
  named_unbound number params (tree.Name name) x h = ap bound_in h.2
  named_unbound number params (tree.Call name es) x h = ap bound_in h.3 ∙ all_unbound number params es h.2 h.5
  named_unbound number params (tree.Number n) x h = absurd h
  named_unbound number params (tree.Fact b) x h = absurd h
  named_unbound number params (tree.Constant name) x h = absurd h
  named_unbound number params (tree.Let lets inner) x h = absurd h

  all_unbound : (number : Numbers) (params : List (List ℕ)) (es : tree.Exprs) (xs : Exprs) → ExprsNamed number params es xs → all_bound_in xs ≡ []
  all_unbound number params tree.NoExpr xs h = ap all_bound_in h
  all_unbound number params (tree.AnExpr e es) xs h = ap all_bound_in h.2 ∙ ap (λ ys. ys ++ all_bound_in h.1) (named_unbound number params e h.0 h.3) ∙ all_unbound number params es h.1 h.4

-- ---- the rule

-- a rule over variables of these types alone, whose right side is of these names
pub record HasParts (w : Whole) (params : List (List ℕ)) (r : RuleDef) (x : Rule) (tys : List TypeId) : Type 0 where
  pub plain : IsPlainRule x tys
  pub rhs : ExprNamed (numbers w) params r.rhs x.rhs

pub given_parts : (w : Whole) (i : ℕ) (params : List (List ℕ)) (r : RuleDef) (x : Rule) (tys : List TypeId) → converters w.defs ≡ []
    → rule_pass w i r ≡ Some x → r.args ≡ variables params → r.iflets ≡ [] → IsSimple r.rhs → IsDistinct bytes_eq params
    → length params ≡ length tys → arg_types w (termed w r.term) ≡ map Some tys → HasParts w params r x tys
given_parts w i params r x tys none given args iflets simple apart long types =
    let m = rule_made w i r x given in
    let y = m.written in
    let passed = λ (ts : List (Option TypeId)) (ps : List tree.Pattern). patterns_pass w ts no_variables (seen_patterns ps) in
    let same : patterns_of w r ≡ passed (map Some tys) (variables params) = ap (λ ts. passed ts r.args) types ∙ ap (passed (map Some tys)) args in
    let y_args : y.args ≡ variables_from 0 tys = variables_passed w params tys no_variables y.args apart (none_bound params) long (ap (λ p. p.trees) (sym same) ∙ m.args) in
    let y_iflets : y.iflets ≡ [] = sym (some_same [] y.iflets (ap (λ cs. (conditions_pass w (patterns_of w r).scope cs).trees) (sym iflets) ∙ m.iflets)) in
    let scope = (conditions_of w r).scope in
    let scope_is : scope.variables ≡ listed 0 params (map Some tys) =
    ap (λ cs. (conditions_pass w (patterns_of w r).scope cs).scope.variables) iflets ∙ ap (λ p. p.scope.variables) same ∙ ap (λ (s : Scope). s.variables) (scope_passed w params (map Some tys) no_variables) ∙ params_listed params (map Some tys) apart in
    let places : AtPlaces params (of_patterns scope) = λ name l h. found_place params (map Some tys) name l (ap (λ ls. found_in ls name) (sym scope_is) ∙ sym (latest_found scope.variables name) ∙ h) in
    let named : ExprNamed (numbers w) params r.rhs y.rhs = expr_named w none params (of_patterns scope) places scope.next (ret_type w (termed w r.term)) r.rhs y.rhs simple m.rhs in
    let e = plain_elaborated (templates w) y tys (record { args = y_args; iflets = y_iflets }) (named_unbound (numbers w) params r.rhs y.rhs named) in
    record {
      plain = subst (λ (z : Rule). IsPlainRule z tys) m.is e.plain;
      rhs = subst (λ (z : Expr). ExprNamed (numbers w) params r.rhs z) (sym e.rhs ∙ ap (λ (z : Rule). z.rhs) m.is) named;
    }
