-- What the code gives of `@` and `and` is what the pass gives.
use Rattle.std.proofs.Common.{◌≡◌, Bool, false, List, [], ◌∷◌, ◌++◌, map, Option, Some, None, Result, Ok, Err, refl, sym, ap, ◌∙◌}
use Rattle.std.specs.Prelude.{ℕ, IfOk, option_map, replicate}
use Rattle.isle_core.specs.declared.TypeId.{TypeId}
use Rattle.isle_core.specs.declared.rules.Pattern.{Pattern as CodePattern}
use Rattle.isle_core.specs.RuleViews.{pattern as elaborated}
use Rattle.isle_ast.specs.Tree as tree
use Rattle.isle_ast.specs.Tree.{Pattern, Patterns, NoPattern, APattern}
use Rattle.isle_terms.specs.declared.judged.Judged.{Judged}
use Rattle.isle_sema.specs.ElaboratedAt.{copies, IsPatternAt}
use Rattle.isle_sema.specs.Judging.{judge, judge_all}
use Rattle.isle_sema.specs.PatternPass.{PatternsPass, bound_tree, count_of, of_each, pattern_pass, patterns_pass}
use Rattle.isle_terms.specs.Scope.{is_blank}
use Rattle.isle_terms.specs.TermPass.{tree_before}
use Rattle.isle_terms.specs.Scope.{Scope, bound_at, met, variable}
use Rattle.isle_sema.specs.Site.{MetAt}
use Rattle.isle_terms.specs.Whole.{Whole}
use Rattle.isle_sema.proofs.TypedPatterns.{bind_pass}

-- ---- `and`

none_expected : (w : Whole) (scope : Scope) (ps : Patterns) → patterns_pass w [] scope ps ≡ patterns_pass w (of_each None ps) scope ps
none_expected w scope NoPattern = refl
none_expected w scope (APattern p ps) =
    let one = pattern_pass w None scope p in
    ap (λ (rest : PatternsPass). record { trees = tree_before one.tree rest.trees; scope = rest.scope; sites = one.sites ++ rest.sites }) (none_expected w one.scope ps)

some_expected : (ty : TypeId) (ps : Patterns) → map Some (replicate (count_of ps) ty) ≡ of_each (Some ty) ps
some_expected ty NoPattern = refl
some_expected ty (APattern p ps) = ap (λ os. Some ty ∷ os) (some_expected ty ps)

-- patterns on one value are patterns at copies of its type
pub each_expected : (w : Whole) (expected : Option TypeId) (scope : Scope) (ps : Patterns) → patterns_pass w (map Some (copies expected (count_of ps))) scope ps ≡ patterns_pass w (of_each expected ps) scope ps
each_expected w None scope ps = none_expected w scope ps
each_expected w (Some ty) scope ps = ap (λ os. patterns_pass w os scope ps) (some_expected ty ps)

-- ---- `@`

-- after another name the variable is met first
pub bound_is : {E : Type 0} (r : Result (Option CodePattern) E) (w : Whole) (expected : Option TypeId) (old mid new : Scope) (before between after : Judged) (name : List ℕ) (p : Pattern) (found : Option CodePattern) (blank : Bool) → blank ≡ is_blank name → blank ≡ false
    → mid ≡ met old name expected → between ≡ judge w before (MetAt expected (bound_at old name)) → IsPatternAt w expected p mid new between after found
    → IfOk r (λ q. option_map elaborated q ≡ bound_tree (variable mid name) (option_map elaborated found)) → IfOk r (λ q. IsPatternAt w expected (tree.Bind name p) old new before after q)
bound_is (Err e) w expected old mid new before between after name p found blank b f m j k h = tt
bound_is (Ok q) w expected old mid new before between after name p found blank b f m j k h =
    let is : false ≡ is_blank name = sym f ∙ b in
    let last = met old name expected in
    record {
      tree = h ∙ ap (bound_tree (variable mid name)) k.tree ∙ ap (λ (s : Scope). bound_tree (variable s name) (pattern_pass w expected s p).tree) m ∙ ap (λ x. (bind_pass w expected old name p x).tree) is;
      scope = k.scope ∙ ap (λ (s : Scope). (pattern_pass w expected s p).scope) m ∙ ap (λ x. (bind_pass w expected old name p x).scope) is;
      sites = k.sites ∙ ap (λ (s : Scope). judge_all w between (pattern_pass w expected s p).sites) m ∙ ap (λ (x : Judged). judge_all w x (pattern_pass w expected last p).sites) j ∙ ap (λ x. judge_all w before (bind_pass w expected old name p x).sites) is;
    }
