-- What the code gives of parts that may stand within a converter is what the pass gives.
use Rattle.std.proofs.Common.{◌≡◌, List, ◌∷◌, ◌++◌, Option, Result, Ok, Err, sym, ap, ◌∙◌}
use Rattle.std.specs.Prelude.{ℕ, IfOk, option_map}
use Rattle.std.proofs.lemmas.List.Sums.{fold-append}
use Rattle.isle_core.specs.declared.TypeId.{TypeId}
use Rattle.isle_core.specs.declared.rules.Expr.{Expr as CodeExpr}
use Rattle.isle_core.specs.declared.rules.Pattern.{Pattern as CodePattern}
use Rattle.isle_core.specs.Expr.{Expr as CoreExpr}
use Rattle.isle_core.specs.Pattern.{Pattern as CorePattern}
use Rattle.isle_core.specs.RuleViews.{pattern as elaborated_pattern, expr as elaborated_expr}
use Rattle.isle_ast.specs.Tree as tree
use Rattle.isle_ast.specs.Tree.{Patterns, Expr}
use Rattle.isle_declarations.specs.Signatures.{Signature, term_named}
use Rattle.isle_declarations.specs.Terms.{terms}
use Rattle.isle_terms.specs.Converters.{conversion, within}
use Rattle.isle_terms.specs.Whole.{Whole, termed, arg_types, ret_type}
use Rattle.isle_terms.specs.declared.judged.Judged.{Judged}
use Rattle.isle_sema.specs.ElaboratedAt.{IsPatternAt, IsExprAt}
use Rattle.isle_sema.specs.ExprPass.{expr_within, called_by, expr_pass}
use Rattle.isle_sema.specs.Judging.{judge, judge_all}
use Rattle.isle_terms.specs.Locals.{Bound, locals_of}
use Rattle.isle_sema.specs.PatternPass.{pattern_within, taken_by, term_tree, count_of, patterns_pass}
use Rattle.isle_terms.specs.Scope.{Scope}
use Rattle.isle_sema.specs.Site.{Site, TakenAt}

-- a term in a pattern
pub term_within : {E : Type 0} (r : Result (Option CodePattern) E) (w : Whole) (expected : Option TypeId) (name : List ℕ) (ps : Patterns) (old new : Scope) (before around between after : Judged) (inside : Option TypeId) (made : Option CorePattern)
    → around ≡ judge_all w before (taken_by (conversion w (ret_type w (termed w name)) expected) expected) → inside ≡ within (conversion w (ret_type w (termed w name)) expected) (ret_type w (termed w name)) expected → between ≡ judge w around (TakenAt inside (termed w name) (count_of ps))
    → new ≡ (patterns_pass w (arg_types w (termed w name)) old ps).scope → after ≡ judge_all w between (patterns_pass w (arg_types w (termed w name)) old ps).sites
    → made ≡ term_tree (ret_type w (termed w name)) (term_named (terms w.defs) name) (patterns_pass w (arg_types w (termed w name)) old ps).trees → IfOk r (λ p. option_map elaborated_pattern p ≡ pattern_within w (conversion w (ret_type w (termed w name)) expected) made)
    → IfOk r (λ p. IsPatternAt w expected (tree.Term name ps) old new before after p)
term_within (Err e) w expected name ps old new before around between after inside made a i b n f m h = tt
term_within (Ok p) w expected name ps old new before around between after inside made a i b n f m h =
    let o = termed w name in
    let by = conversion w (ret_type w o) expected in
    let sites = (patterns_pass w (arg_types w o) old ps).sites in
    let step : judge_all w around (TakenAt (within by (ret_type w o) expected) o (count_of ps) ∷ sites) ≡ after =
    ap (λ t. judge_all w (judge w around (TakenAt t o (count_of ps))) sites) (sym i) ∙ ap (λ j. judge_all w j sites) (sym b) ∙ sym f in
    record {
      tree = h ∙ ap (pattern_within w by) m;
      scope = n;
      sites = sym step ∙ ap (λ j. judge_all w j (TakenAt (within by (ret_type w o) expected) o (count_of ps) ∷ sites)) a ∙ sym (fold-append (judge w) before (taken_by by expected) (TakenAt (within by (ret_type w o) expected) o (count_of ps) ∷ sites));
    }

-- a variable, a constant or a call
pub expr_converted : {E : Type 0} (r : Result (Option CodeExpr) E) (w : Whole) (expected : Option TypeId) (e : Expr) (old new : Bound) (before around after : Judged) (by : Option Signature) (made : Option CoreExpr) (inner : List Site)
    → expr_within w by made ≡ (expr_pass w (locals_of old) old.next expected e).tree → called_by by expected ++ inner ≡ (expr_pass w (locals_of old) old.next expected e).sites → new.next ≡ (expr_pass w (locals_of old) old.next expected e).next → new.patterns ≡ old.patterns → new.lets ≡ old.lets
    → around ≡ judge_all w before (called_by by expected) → after ≡ judge_all w around inner → IfOk r (λ x. option_map elaborated_expr x ≡ expr_within w by made) → IfOk r (λ x. IsExprAt w expected e old new before after x)
expr_converted (Err x) w expected e old new before around after by made inner t s n p l a f h = tt
expr_converted (Ok x) w expected e old new before around after by made inner t s n p l a f h = record {
  tree = h ∙ t;
  patterns = p;
  lets = l;
  next = n;
  sites = f ∙ ap (λ j. judge_all w j inner) a ∙ sym (fold-append (judge w) before (called_by by expected) inner) ∙ ap (judge_all w before) s;
}
