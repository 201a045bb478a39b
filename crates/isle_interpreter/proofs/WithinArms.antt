-- Whether the arms of a match call only callees that are known.
use Rattle.std.proofs.Common.{◌≡◌, ℕ, ◌+◌, ◌<◌, ◌≤◌, List, ◌∷◌, length, drop, get_or, Bool, true, false, ◌&&◌, sym, ap, ◌∙◌}
use Rattle.std.specs.List.{list_all}
use Rattle.std.proofs.lemmas.List.{drop_more, drop_all}
use Rattle.std.proofs.lemmas.List.Folds.{list_all-append}
use Rattle.isle_core.specs.declared.values.Callee.{Callee}
use Rattle.isle_tree.specs.declared.tree.Read.{Read}
use Rattle.isle_tree.specs.declared.tree.TPat.{TPat}
use Rattle.isle_tree.specs.declared.tree.Stmt.{Stmt as CodeStmt}
use Rattle.isle_tree.specs.declared.tree.Stmt.TheVariants as code
use Rattle.isle_tree.specs.Views.{stmt, body, arms}
use Rattle.isle_tree.proofs.Sees.{stmt-match}
use Rattle.isle_tree.specs.Calls.{stmt_calls, body_calls, arms_calls}

pub match_within : (test : Callee → Bool) (r : Read) (xs ys : List (TPat × List CodeStmt)) (s : CodeStmt) (b : Bool) → s ≡ code.Match r xs → ys ≡ xs → b ≡ list_all test (arms_calls (arms ys)) → b ≡ list_all test (stmt_calls (stmt s))
match_within test r xs ys s b is same e =
    e ∙ ap (λ zs. list_all test (arms_calls (arms zs))) same ∙ ap (λ t. list_all test (stmt_calls t)) (sym (ap stmt is ∙ stmt-match r xs))

-- an arm that calls another one
pub arm_without : (test : Callee → Bool) (xs : List (TPat × List CodeStmt)) (i : ℕ) (x : TPat × List CodeStmt) → i < length xs → x ≡ get_or xs i x → list_all test (body_calls (body x.1)) ≡ false
    → list_all test (arms_calls (arms (drop i xs))) ≡ list_all test (arms_calls (arms xs)) → false ≡ list_all test (arms_calls (arms xs))
arm_without test xs i x lt is without left =
    sym (
    ap (λ ys. list_all test (arms_calls (arms ys))) (drop_more xs i x lt ∙ ap (λ y. y ∷ drop (i + 1) xs) (sym is))
    ∙ list_all-append test (body_calls (body x.1)) (arms_calls (arms (drop (i + 1) xs)))
    ∙ ap (λ b. b && list_all test (arms_calls (arms (drop (i + 1) xs)))) without)
    ∙ left

-- after all arms
pub arms_within : (test : Callee → Bool) (xs : List (TPat × List CodeStmt)) (i : ℕ) → length xs ≤ i → list_all test (arms_calls (arms (drop i xs))) ≡ list_all test (arms_calls (arms xs)) → true ≡ list_all test (arms_calls (arms xs))
arms_within test xs i le left = sym (ap (λ ys. list_all test (arms_calls (arms ys))) (drop_all i xs le)) ∙ left
