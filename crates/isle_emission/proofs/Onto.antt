-- Statements before a body, as statements are pushed; and the locals that lets bind.
use Rattle.std.proofs.Common.{◌≡◌, ◌∙◌, ℕ, option_map, List, [], ◌∷◌, ◌++◌, Bool, true, Option, Some, None, map, refl, sym, ap}
use Rattle.isle_tree.specs.declared.tree.Stmt.{Stmt as CodeStmt}
use Rattle.isle_tree.specs.declared.tree.Stmt.TheVariants as code
use Rattle.isle_tree.specs.Program.{Stmt, Log, Overflow, Body, Done, Then}
use Rattle.isle_tree.proofs.Sees.{stmt-log, stmt-overflow, stmt-split}
use Rattle.isle_simulation.specs.LogLines.{LogLine}
use Rattle.isle_simulation.specs.Manner.{closed_if}
use Rattle.isle_simulation.specs.Telling.{line_before}
use Rattle.isle_tree.specs.Views.{stmt, body_of}
use Rattle.isle_emission.specs.BodyOnto.{body_onto, PushesStmt}
use Rattle.isle_simulation.specs.Statements.{stmt_before}

pub onto_pushed : (xs : List CodeStmt) (x : CodeStmt) (end : Option Body) → body_onto (map stmt (xs ++ x ∷ [])) end ≡ body_onto (map stmt xs) (stmt_before (Some (stmt x)) end)
onto_pushed [] x end = refl
onto_pushed (y ∷ xs) x end = ap (stmt_before (Some (stmt y))) (onto_pushed xs x end)

-- one that was to be made is pushed
pub made_pushed : (old new : List CodeStmt) (x : CodeStmt) (o : Option Stmt) → Some (stmt x) ≡ o → new ≡ old ++ x ∷ [] → PushesStmt old new o
made_pushed old new x o is pushed = λ end. ap (λ ys. body_onto (map stmt ys) end) pushed ∙ onto_pushed old x end ∙ ap (λ y. body_onto (map stmt old) (stmt_before y end)) is

-- under another name
pub pushed_so : (old new : List CodeStmt) (x y : Option Stmt) → x ≡ y → PushesStmt old new x → PushesStmt old new y
pushed_so old new x y is p = λ end. p end ∙ ap (λ o. body_onto (map stmt old) (stmt_before o end)) is

-- a log line is pushed
pub onto_line : (old new : List CodeStmt) (term place : List ℕ) (l : LogLine) (end : Option Body) → new ≡ old ++ code.Log term place ∷ [] → (term, place) ≡ l
    → body_onto (map stmt new) end ≡ body_onto (map stmt old) (option_map (line_before l) end)
onto_line old new term place l end pushed is =
    ap (λ ys. body_onto (map stmt ys) end) pushed ∙ onto_pushed old (code.Log term place) end ∙ ap (λ y. body_onto (map stmt old) (stmt_before (Some y) end)) (stmt-log term place)
    ∙ ap (body_onto (map stmt old)) (before end) ∙ ap (λ (k : LogLine). body_onto (map stmt old) (option_map (line_before k) end)) is
  where
    before : (o : Option Body) → stmt_before (Some (Log term place)) o ≡ option_map (line_before (term, place)) o
    before None = refl
    before (Some b) = refl

-- a stop is pushed
pub onto_overflow : (inside : Bool) (limit : ℕ) (old new : List CodeStmt) (end : Option Body) → new ≡ old ++ code.Overflow inside limit ∷ [] → body_onto (map stmt new) end ≡ body_onto (map stmt old) (stmt_before (Some (Overflow inside limit)) end)
onto_overflow inside limit old new end pushed =
    ap (λ ys. body_onto (map stmt ys) end) pushed ∙ onto_pushed old (code.Overflow inside limit) end ∙ ap (λ y. body_onto (map stmt old) (stmt_before (Some y) end)) (stmt-overflow inside limit)

pub onto_done : (ss : List Stmt) → body_onto ss (Some Done) ≡ Some (body_of ss)
onto_done [] = refl
onto_done (s ∷ ss) = ap (stmt_before (Some s)) (onto_done ss)

-- statements are put into a closure of their own
pub onto_closed : (own inside : Bool) (ss none closed : List CodeStmt) → own ≡ true → none ≡ [] → closed ≡ none ++ code.Split ss inside ∷ []
    → body_onto (map stmt closed) (Some Done) ≡ option_map (closed_if own inside) (body_onto (map stmt ss) (Some Done))
onto_closed own inside ss none closed has empty is =
    ap (λ ys. body_onto (map stmt ys) (Some Done)) (is ∙ ap (λ ys. ys ++ code.Split ss inside ∷ []) empty) ∙ ap (λ x. Some (Then x Done)) (stmt-split ss inside)
    ∙ ap (option_map (closed_if true inside)) (sym (onto_done (map stmt ss)))
    ∙ ap (λ x. option_map (closed_if x inside) (body_onto (map stmt ss) (Some Done))) (sym has)
