-- What is so of each ordered call of a right side.
use Rattle.std.proofs.Common.{⊎_elim, ℕ, ◌+◌, List, [], ◌++◌}
use Rattle.std.specs.Prelude.{Contains}
use Rattle.std.proofs.lemmas.List.Elements.{Contains-append_cases}
use Rattle.isle_core.specs.declared.TermId.{TermId}
use Rattle.isle_core.specs.Calling.{calling, instance_of, impure, impure_all, impure_bindings}
use Rattle.isle_core.specs.Expr as expr
use Rattle.isle_core.specs.Expr.{Expr, Exprs, NoExpr, AnExpr, LetBindings, NoBinding, ABinding}
use Rattle.isle_core.specs.Making.{Making, making}
use Rattle.isle_core.specs.Match.{with}
use Rattle.isle_core.specs.OrderedCalls.{if_ordered, calls, calls_all, calls_bindings, rule_calls}
use Rattle.isle_core.specs.Path.{Path, Paths}
use Rattle.isle_core.specs.RightSide.{Places, term_path, call_path, path, paths, let_places}
use Rattle.isle_core.specs.Rule.{Environment, Rule}
use Rattle.isle_core.specs.Tests.{rule_places}
use Rattle.isle_core.proofs.Contained.{none_contained}

-- so of each of some paths
abbrev pub IsEach : (Path → Type 0) → List Path → Type 0
IsEach P xs = (q : Path) → Contains xs q → P q

-- so of the one call of a term, if it is ordered
abbrev pub IsOfCalls : Environment → (Path → Type 0) → Type 0
IsOfCalls env P = (term : TermId) (made : Making) (ps : Paths) (instance : ℕ) → IsEach P (if_ordered env (calling env term) (term_path made term ps instance))

pub each_append : (P : Path → Type 0) (xs ys : List Path) → IsEach P xs → IsEach P ys → IsEach P (xs ++ ys)
each_append P xs ys h k q c = ⊎_elim (λ j. h q j) (λ j. k q j) (Contains-append_cases xs ys q c)

pub each_none : (P : Path → Type 0) → IsEach P []
each_none P q c = absurd (none_contained q c)

module _ (env : Environment) (P : Path → Type 0) (one : IsOfCalls env P) where
  mutual
    calls_each : (e : Expr) (places : Places) (n : ℕ) → IsEach P (calls env e places n)
    calls_each (expr.Term ty term es) places n =
        each_append P (calls_all env es places n) (if_ordered env (calling env term) (call_path env term (paths env es places n) (n + impure_all env es))) (all_each es places n)
        (one term (making env term) (paths env es places n) (instance_of (calling env term) (n + impure_all env es)))
    calls_each (expr.ConstBool b) places n = each_none P
    calls_each (expr.ConstInt ty k) places n = each_none P
    calls_each (expr.Var ty x) places n = each_none P
    calls_each (expr.ConstPrim ty name) places n = each_none P
    calls_each (expr.Let ty bindings inner) places n =
        each_append P (calls_bindings env bindings places n) (calls env inner (let_places env bindings places n) (n + impure_bindings env bindings)) (bindings_each bindings places n)
        (calls_each inner (let_places env bindings places n) (n + impure_bindings env bindings))

    all_each : (es : Exprs) (places : Places) (n : ℕ) → IsEach P (calls_all env es places n)
    all_each NoExpr places n = each_none P
    all_each (AnExpr e es) places n = each_append P (calls env e places n) (calls_all env es places (n + impure env e)) (calls_each e places n) (all_each es places (n + impure env e))

    bindings_each : (bindings : LetBindings) (places : Places) (n : ℕ) → IsEach P (calls_bindings env bindings places n)
    bindings_each NoBinding places n = each_none P
    bindings_each (ABinding x ty e more) places n =
        each_append P (calls env e places n) (calls_bindings env more (with places x.0 (path env e places n)) (n + impure env e)) (calls_each e places n) (bindings_each more (with places x.0 (path env e places n)) (n + impure env e))

  -- so of those of a rule
  pub rule_calls_each : (r : Rule) (n : ℕ) → IsEach P (rule_calls env r n)
  rule_calls_each r n = calls_each r.rhs (rule_places env r) n
