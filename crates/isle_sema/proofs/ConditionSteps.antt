-- Conditions that are passed one after the other: what is left.
use Rattle.std.proofs.Common.{◌≡◌, ℕ, ◌+◌, ◌<◌, ◌≤◌, Bool, true, false, cond, List, [], ◌∷◌, ◌++◌, length, map, get_or, Option, Some, None, refl, sym, ap, ◌∙◌}
use Rattle.std.specs.Prelude.{drop, option_map}
use Rattle.std.proofs.lemmas.List.{drop_all, drop_more, map-append, append-nil}
use Rattle.std.proofs.lemmas.List.Sums.{fold-append}
use Rattle.isle_core.specs.declared.TypeId.{TypeId}
use Rattle.isle_core.specs.declared.rules.Expr.{Expr as CodeExpr}
use Rattle.isle_core.specs.declared.rules.IfLet.{IfLet as CodeIfLet}
use Rattle.isle_core.specs.declared.rules.Pattern.{Pattern as CodePattern}
use Rattle.isle_core.specs.Rule.{IfLet as CoreIfLet}
use Rattle.isle_core.specs.RuleViews.{pattern as elaborated_pattern, expr as elaborated_expr, iflet as elaborated_iflet}
use Rattle.isle_ast.specs.declared.tree.AstIfLet.{AstIfLet}
use Rattle.isle_ast.specs.Tree.{Expr, IfLet}
use Rattle.isle_ast.specs.Views.{iflet}
use Rattle.isle_terms.proofs.TermSteps.{before, one_before}
use Rattle.isle_terms.specs.TermPass.{tree_before}
use Rattle.isle_terms.specs.Whole.{Whole}
use Rattle.isle_terms.specs.declared.judged.Judged.{Judged}
use Rattle.isle_sema.specs.ElaboratedAt.{condition_tree, IsPatternAt, IsExprAt, IsExprOver, IsConditionAt}
use Rattle.isle_sema.specs.ExprPass.{ExprPass, expr_pass}
use Rattle.isle_sema.specs.ExprType.{own_type}
use Rattle.isle_sema.specs.Judging.{judge, judge_all}
use Rattle.isle_terms.specs.Locals.{Bound, of_patterns, locals_of}
use Rattle.isle_terms.specs.NewVariables.{new_count}
use Rattle.isle_sema.specs.PatternPass.{PatternPass, pattern_pass}
use Rattle.isle_sema.specs.RulePass.{iflet_tree, condition_expr, condition_pattern, condition_pass, ConditionsPass, conditions_pass, condition_before}
use Rattle.isle_terms.specs.Scope.{behind}
use Rattle.isle_terms.specs.Scope.{Local, Scope}

-- ---- one condition

-- an expression over the variables of patterns alone
pub expr_is_over : (w : Whole) (expected : Option TypeId) (e : Expr) (scope : Scope) (next after : ℕ) (old new : Bound) (before_it after_it : Judged) (found : Option CodeExpr) → old ≡ record { patterns = scope; lets = []; next = next } → after ≡ new.next → IsExprAt w expected e old new before_it after_it found
    → IsExprOver w expected e scope next before_it after_it (found, after)
expr_is_over w expected e scope next after old new before_it after_it found is stands k =
    let same : expr_pass w (locals_of old) old.next expected e ≡ expr_pass w (of_patterns scope) next expected e =
    ap (λ (b : Bound). expr_pass w (locals_of b) b.next expected e) is ∙ ap (λ (ls : List Local). expr_pass w ls next expected e) (append-nil (of_patterns scope)) in
    record { tree = k.tree ∙ ap (λ (x : ExprPass). x.tree) same; next = stands ∙ k.next ∙ ap (λ (x : ExprPass). x.next) same; sites = k.sites ∙ ap (λ (x : ExprPass). judge_all w before_it x.sites) same }

-- a condition's expression, and then its pattern
pub condition_is : (w : Whole) (c : IfLet) (old mid new : Scope) (next : ℕ) (first between last : Judged) (ty : Option TypeId) (rhs : Option CodeExpr × ℕ) (lhs : Option CodePattern) (found : Option CodeIfLet) → next ≡ old.next + new_count old c.lhs → IsExprOver w None c.rhs old next first between rhs
    → ty ≡ own_type w (of_patterns old) c.rhs → IsPatternAt w ty c.lhs old mid between last lhs → new ≡ behind mid rhs.1 → condition_tree found ≡ iflet_tree (option_map elaborated_pattern lhs) (option_map elaborated_expr rhs.0) → IsConditionAt w c old new first last found
condition_is w c old mid new next first between last ty rhs lhs found starts e typed p leaves made =
    let right : expr_pass w (of_patterns old) next None c.rhs ≡ condition_expr w old c = ap (λ n. expr_pass w (of_patterns old) n None c.rhs) starts in
    let left : pattern_pass w ty old c.lhs ≡ condition_pattern w old c = ap (λ o. pattern_pass w o old c.lhs) typed in
    record {
      tree = made ∙ ap (λ o. iflet_tree o (option_map elaborated_expr rhs.0)) (p.tree ∙ ap (λ (x : PatternPass). x.tree) left) ∙ ap (iflet_tree (condition_pattern w old c).tree) (e.tree ∙ ap (λ (x : ExprPass). x.tree) right);
      scope = leaves ∙ ap (λ (s : Scope). behind s rhs.1) (p.scope ∙ ap (λ (x : PatternPass). x.scope) left) ∙ ap (behind (condition_pattern w old c).scope) (e.next ∙ ap (λ (x : ExprPass). x.next) right);
      sites = p.sites ∙ ap (λ (x : PatternPass). judge_all w between x.sites) left ∙ ap (λ (j : Judged). judge_all w j (condition_pattern w old c).sites) (e.sites ∙ ap (λ (x : ExprPass). judge_all w first x.sites) right)
          ∙ sym (fold-append (judge w) first (condition_expr w old c).sites (condition_pattern w old c).sites);
    }

-- ---- conditions in order

-- what all conditions come to is what was made and what is left
pub record AreConditionsMade (w : Whole) (all left : ConditionsPass) (first now : Judged) (made : List CodeIfLet) (complete : Bool) : Type 0 where
  pub trees : all.trees ≡ cond complete (before (map elaborated_iflet made) left.trees) None
  pub scope : all.scope ≡ left.scope
  pub sites : judge_all w first all.sites ≡ judge_all w now left.sites

-- one condition more
pub conditions_more : (w : Whole) (vars new : Scope) (cs : List AstIfLet) (i : ℕ) (first now next : Judged) (made more : List CodeIfLet) (complete after : Bool) (c d : AstIfLet) (all : ConditionsPass) → i < length cs → c ≡ get_or cs i d → new ≡ (condition_pass w vars (iflet c)).scope
    → next ≡ judge_all w now (condition_pass w vars (iflet c)).sites
    → ((rest : Option (List CoreIfLet)) → cond complete (before (map elaborated_iflet made) (tree_before (condition_pass w vars (iflet c)).tree rest)) None ≡ cond after (before (map elaborated_iflet more) rest) None)
    → AreConditionsMade w all (conditions_pass w vars (map iflet (drop i cs))) first now made complete → AreConditionsMade w all (conditions_pass w new (map iflet (drop (i + 1) cs))) first next more after
conditions_more w vars new cs i first now next made more complete after c d all lt is scope sites tree h =
    let one = condition_pass w vars (iflet c) in
    let rest = conditions_pass w one.scope (map iflet (drop (i + 1) cs)) in
    let step : conditions_pass w vars (map iflet (drop i cs)) ≡ condition_before one rest = ap (λ xs. conditions_pass w vars (map iflet xs)) (drop_more cs i d lt ∙ ap (λ y. y ∷ drop (i + 1) cs) (sym is)) in
    rw scope (record {
      trees = h.trees ∙ ap (λ (x : ConditionsPass). cond complete (before (map elaborated_iflet made) x.trees) None) step ∙ tree rest.trees;
      scope = h.scope ∙ ap (λ (x : ConditionsPass). x.scope) step;
      sites = h.sites ∙ ap (λ (x : ConditionsPass). judge_all w now x.sites) step ∙ fold-append (judge w) now one.sites rest.sites ∙ ap (λ (j : Judged). judge_all w j rest.sites) (sym sites);
    })

-- a condition with a tree
pub condition_more : (made more : List CodeIfLet) (x : CodeIfLet) (complete : Bool) (o : Option CoreIfLet) → more ≡ made ++ x ∷ [] → Some (elaborated_iflet x) ≡ o → (rest : Option (List CoreIfLet))
    → cond complete (before (map elaborated_iflet made) (tree_before o rest)) None ≡ cond complete (before (map elaborated_iflet more) rest) None
condition_more made more x complete o added is rest =
    ap (λ y. cond complete (before (map elaborated_iflet made) (tree_before y rest)) None) (sym is)
    ∙ ap (λ y. cond complete y None) (one_before (map elaborated_iflet made) (elaborated_iflet x) rest ∙ ap (λ ys. before ys rest) (sym (map-append elaborated_iflet made (x ∷ [])) ∙ ap (map elaborated_iflet) (sym added)))

nothing_there : {X : Type 0} (b : Bool) (o : Option X) → o ≡ None → cond b o None ≡ None
nothing_there true o h = h
nothing_there false o h = refl

-- a condition without one
pub condition_missing : (made : List CodeIfLet) (complete : Bool) (o : Option CoreIfLet) → None ≡ o → (rest : Option (List CoreIfLet)) → cond complete (before (map elaborated_iflet made) (tree_before o rest)) None ≡ cond false (before (map elaborated_iflet made) rest) None
condition_missing made complete o is rest = ap (λ y. cond complete (before (map elaborated_iflet made) (tree_before y rest)) None) (sym is) ∙ nothing_there complete (before (map elaborated_iflet made) (tree_before None rest)) refl

-- after the last
pub conditions_all : (w : Whole) (vars : Scope) (cs : List AstIfLet) (i : ℕ) (first now : Judged) (made : List CodeIfLet) (complete : Bool) (all : ConditionsPass) → length cs ≤ i → AreConditionsMade w all (conditions_pass w vars (map iflet (drop i cs))) first now made complete
    → (all.trees ≡ cond complete (Some (map elaborated_iflet made)) None) × (all.scope ≡ vars) × (judge_all w first all.sites ≡ now)
conditions_all w vars cs i first now made complete all le h =
    let none : conditions_pass w vars (map iflet (drop i cs)) ≡ record { trees = Some []; scope = vars; sites = [] } = ap (λ xs. conditions_pass w vars (map iflet xs)) (drop_all i cs le) in (
      h.trees ∙ ap (λ (x : ConditionsPass). cond complete (before (map elaborated_iflet made) x.trees) None) none ∙ ap (λ xs. cond complete (Some xs) None) (append-nil (map elaborated_iflet made)),
      h.scope ∙ ap (λ (x : ConditionsPass). x.scope) none,
      h.sites ∙ ap (λ (x : ConditionsPass). judge_all w now x.sites) none,
    )
