-- Tests that are counted one part after another.
use Rattle.std.proofs.Common.{◌≡◌, ℕ, ◌+◌, ◌<◌, ◌≤◌, ◌^◌, List, length, drop, map, ap, ◌∙◌, sym, arith}
use Rattle.std.proofs.lemmas.List.{drop_all}
use Rattle.isle_tree.specs.declared.tree.Stmt.{Stmt as CodeStmt}
use Rattle.isle_tree.specs.declared.tree.TPat.{TPat}
use Rattle.isle_tree.specs.declared.tree.Function.{Function as CodeFunction}
use Rattle.isle_tree.specs.Views.{body, arms, function}
use Rattle.isle_target.specs.TreeCounts.{body_tests, arms_tests, functions_tests, saturated}

-- a count to which nothing is added stays as it is
none_more : (count left whole : ℕ) → count < 2 ^ 64 → left ≡ 0 → saturated (count + left) ≡ whole → count ≡ whole
none_more count left whole fits none before = sym (ap (λ n. saturated (count + n)) none ∙ unchanged count fits) ∙ before
  where
    unchanged : (n : ℕ) → n < 2 ^ 64 → saturated (n + 0) ≡ n
    unchanged n lt = omega (arith, lt)

-- all statements were gone through
pub body_counted : (count : ℕ) (statements : List CodeStmt) (i whole : ℕ) → count < 2 ^ 64 → length statements ≤ i → saturated (count + body_tests (body (drop i statements))) ≡ whole → count ≡ whole
body_counted count statements i whole fits le before = none_more count (body_tests (body (drop i statements))) whole fits (ap (λ xs. body_tests (body xs)) (drop_all i statements le)) before

-- all arms were
pub arms_counted : (count : ℕ) (given : List (TPat × List CodeStmt)) (i whole : ℕ) → count < 2 ^ 64 → length given ≤ i → saturated (count + arms_tests (arms (drop i given))) ≡ whole → count ≡ whole
arms_counted count given i whole fits le before = none_more count (arms_tests (arms (drop i given))) whole fits (ap (λ xs. arms_tests (arms xs)) (drop_all i given le)) before

-- all functions were
pub functions_counted : (count : ℕ) (fns : List CodeFunction) (i whole : ℕ) → count < 2 ^ 64 → length fns ≤ i → saturated (count + functions_tests (map function (drop i fns))) ≡ whole → count ≡ whole
functions_counted count fns i whole fits le before = none_more count (functions_tests (map function (drop i fns))) whole fits (ap (λ xs. functions_tests (map function xs)) (drop_all i fns le)) before
