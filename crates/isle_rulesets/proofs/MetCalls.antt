-- The calls that are met if their place counts are the rule's calls in order.
use Rattle.std.proofs.Common.{◌≡◌, ℕ, ◌+◌, List, [], ◌∷◌, ◌++◌, Bool, cond, refl, ap, ◌∙◌}
use Rattle.std.specs.Prelude.{◌||◌, ◌&&◌}
use Rattle.isle_core.specs.Calling.{Calling, calling, answers_often, is_ordered, impure, impure_all, impure_bindings}
use Rattle.isle_core.specs.Expr as expr
use Rattle.isle_core.specs.Expr.{Expr, Exprs, NoExpr, AnExpr, LetBindings, NoBinding, ABinding}
use Rattle.isle_core.specs.Match.{with}
use Rattle.isle_core.specs.OrderedCalls.{if_ordered, calls, calls_all, calls_bindings, rule_calls}
use Rattle.isle_core.specs.Path.{Path}
use Rattle.isle_core.specs.RightSide.{call_path, path, paths, let_places}
use Rattle.isle_core.specs.Rule.{Environment, Rule}
use Rattle.isle_core.specs.Tests.{Places, rule_places}
use Rattle.isle_core.proofs.ExprPaths.{ArePlacedSo, with_placed}
use Rattle.isle_rulesets.specs.Met.{call_met, expr_calls, exprs_calls, bindings_calls}
use Rattle.isle_rulesets.proofs.ToldPaths.{IsTold, told_same, call_told, path_told, paths_told, let_told, rule_told}

module _ (env : Environment) where
  call_is : (c : Calling) (p : Path) → IsTold env p → call_met c p ≡ if_ordered env c p
  call_is c p h = ap (λ (t : Bool). cond (is_ordered c || (answers_often c && t)) (p ∷ []) []) (told_same env p h)

  both : (ps bs cs ds : List Path) → ps ≡ bs → cs ≡ ds → ps ++ cs ≡ bs ++ ds
  both ps bs cs ds e f = ap (λ xs. xs ++ cs) e ∙ ap (λ xs. bs ++ xs) f

  mutual
    pub calls_are : (e : Expr) (places : Places) (n : ℕ) → ArePlacedSo (IsTold env) places → expr_calls env e places n ≡ calls env e places n
    calls_are (expr.Var ty x) places n b = refl
    calls_are (expr.ConstBool v) places n b = refl
    calls_are (expr.ConstInt ty v) places n b = refl
    calls_are (expr.ConstPrim ty name) places n b = refl
    calls_are (expr.Term ty term es) places n b =
        let p = call_path env term (paths env es places n) (n + impure_all env es) in
        both (exprs_calls env es places n) (calls_all env es places n) (call_met (calling env term) p) (if_ordered env (calling env term) p) (all_are es places n b)
        (call_is (calling env term) p (call_told env term (paths env es places n) (n + impure_all env es) (paths_told env es places n b)))
    calls_are (expr.Let ty bs inner) places n b =
        let k = n + impure_bindings env bs in
        let after = let_places env bs places n in
        both (bindings_calls env bs places n) (calls_bindings env bs places n) (expr_calls env inner after k) (calls env inner after k) (bindings_are bs places n b) (calls_are inner after k (let_told env bs places n b))

    all_are : (es : Exprs) (places : Places) (n : ℕ) → ArePlacedSo (IsTold env) places → exprs_calls env es places n ≡ calls_all env es places n
    all_are NoExpr places n b = refl
    all_are (AnExpr e es) places n b =
        let k = n + impure env e in
        both (expr_calls env e places n) (calls env e places n) (exprs_calls env es places k) (calls_all env es places k) (calls_are e places n b) (all_are es places k b)

    bindings_are : (bs : LetBindings) (places : Places) (n : ℕ) → ArePlacedSo (IsTold env) places → bindings_calls env bs places n ≡ calls_bindings env bs places n
    bindings_are NoBinding places n b = refl
    bindings_are (ABinding x ty e bs) places n b =
        let k = n + impure env e in
        let next = with places x.0 (path env e places n) in
        both (expr_calls env e places n) (calls env e places n) (bindings_calls env bs next k) (calls_bindings env bs next k) (calls_are e places n b)
        (bindings_are bs next k (with_placed (IsTold env) places x.0 (path env e places n) (path_told env e places n b) b))

  -- those of a rule's right side
  pub rule_met : (r : Rule) (n : ℕ) → expr_calls env r.rhs (rule_places env r) n ≡ rule_calls env r n
  rule_met r n = calls_are r.rhs (rule_places env r) n (rule_told env r)
