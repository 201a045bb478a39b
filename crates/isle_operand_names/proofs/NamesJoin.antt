-- Names that are appended one part after another.
use Rattle.std.proofs.Common.{◌≡◌, ℕ, ◌≤◌, List, ◌++◌, length, drop, map, sym, ap, ◌∙◌, append_assoc, append-nil}
use Rattle.std.specs.Prelude.{OnOk}
use Rattle.std.proofs.lemmas.List.{drop_all}
use Rattle.std.specs.declared.result.Result.{Result}
use Rattle.std.specs.declared.result.Result.TheVariants as result
use Rattle.isle_tree.specs.declared.tree.Function.{Function as CodeFunction}
use Rattle.isle_tree.specs.declared.tree.Operand.{Operand}
use Rattle.isle_tree.specs.declared.tree.Read.{Read}
use Rattle.isle_tree.specs.declared.tree.TPat.{TPat}
use Rattle.isle_tree.specs.declared.tree.Stmt.{Stmt as CodeStmt}
use Rattle.isle_tree.specs.declared.tree.Stmt.TheVariants as code
use Rattle.isle_tree.specs.Views.{function, stmt, body, arms}
use Rattle.isle_tree.proofs.Sees.{stmt-if_eq, stmt-if_let, stmt-match}
use Rattle.isle_operand_names.specs.Occurring.{pattern_types, arms_types, inner_types, all_types, stmt_types}
use Rattle.isle_operand_names.specs.Names.{operand_names, read_names, pattern_names, patterns_names, arms_names, body_names, stmt_names, function_names}

-- three parts in order
pub parts : {A : Type 0} (old one two new a b c whole : List A) → one ≡ old ++ a → two ≡ one ++ b → new ≡ two ++ c → whole ≡ (a ++ b) ++ c → new ≡ old ++ whole
parts old one two new a b c whole e f g h =
    g
    ∙ ap (λ xs. xs ++ c) (f ∙ ap (λ xs. xs ++ b) e)
    ∙ append_assoc (old ++ a) b c
    ∙ append_assoc old a (b ++ c)
    ∙ ap (λ xs. old ++ xs) (sym (append_assoc a b c) ∙ sym h)

-- two parts
pub both : {A : Type 0} (old one new a b whole : List A) → one ≡ old ++ a → new ≡ one ++ b → whole ≡ a ++ b → new ≡ old ++ whole
both old one new a b whole e f h = f ∙ ap (λ xs. xs ++ b) e ∙ append_assoc old a b ∙ ap (λ xs. old ++ xs) (sym h)

-- if the last one was appended
pub both_ok : {A B E : Type 0} (r : Result B E) (old one new a b whole : List A) → one ≡ old ++ a → OnOk r (new ≡ one ++ b) → whole ≡ a ++ b → OnOk r (new ≡ old ++ whole)
both_ok (result.Ok v) old one new a b whole e f h = both old one new a b whole e f h
both_ok (result.Err x) old one new a b whole e f h = tt

-- so of three
pub parts_ok : {A B E : Type 0} (r : Result B E) (old one two new a b c whole : List A) → one ≡ old ++ a → two ≡ one ++ b → OnOk r (new ≡ two ++ c) → whole ≡ (a ++ b) ++ c → OnOk r (new ≡ old ++ whole)
parts_ok (result.Ok v) old one two new a b c whole e f g h = parts old one two new a b c whole e f g h
parts_ok (result.Err x) old one two new a b c whole e f g h = tt

pub test_names : (a b : Operand) (inside slice : List CodeStmt) (s : CodeStmt) → s ≡ code.IfEq a b inside → slice ≡ inside → stmt_names (stmt s) ≡ (operand_names a ++ operand_names b) ++ body_names (body slice)
test_names a b inside slice s is same = ap stmt_names (ap stmt is ∙ stmt-if_eq a b inside) ∙ ap (λ ss. (operand_names a ++ operand_names b) ++ body_names (body ss)) (sym same)

pub pattern_and_names : (pat : TPat) (r : Read) (inside slice : List CodeStmt) (s : CodeStmt) → s ≡ code.IfLet pat r inside → slice ≡ inside → stmt_names (stmt s) ≡ (pattern_names pat ++ read_names r) ++ body_names (body slice)
pattern_and_names pat r inside slice s is same = ap stmt_names (ap stmt is ∙ stmt-if_let pat r inside) ∙ ap (λ ss. (pattern_names pat ++ read_names r) ++ body_names (body ss)) (sym same)

pub match_names : (r : Read) (xs ys zs : List (TPat × List CodeStmt)) (s : CodeStmt) → s ≡ code.Match r xs → ys ≡ xs → zs ≡ xs → stmt_names (stmt s) ≡ (read_names r ++ patterns_names (arms ys)) ++ arms_names (arms zs)
match_names r xs ys zs s is one two =
    ap stmt_names (ap stmt is ∙ stmt-match r xs)
    ∙ ap (λ ws. (read_names r ++ patterns_names (arms ws)) ++ arms_names (arms xs)) (sym one)
    ∙ ap (λ ws. (read_names r ++ patterns_names (arms ys)) ++ arms_names (arms ws)) (sym two)

-- ---- types

pub pattern_and_types : (pat : TPat) (r : Read) (inside slice : List CodeStmt) (s : CodeStmt) → s ≡ code.IfLet pat r inside → slice ≡ inside → stmt_types (stmt s) ≡ pattern_types pat ++ all_types (body slice)
pattern_and_types pat r inside slice s is same = ap stmt_types (ap stmt is ∙ stmt-if_let pat r inside) ∙ ap (λ ss. pattern_types pat ++ all_types (body ss)) (sym same)

pub match_types : (r : Read) (xs ys zs : List (TPat × List CodeStmt)) (s : CodeStmt) → s ≡ code.Match r xs → ys ≡ xs → zs ≡ xs → stmt_types (stmt s) ≡ arms_types (arms ys) ++ inner_types (arms zs)
match_types r xs ys zs s is one two =
    ap stmt_types (ap stmt is ∙ stmt-match r xs)
    ∙ ap (λ ws. arms_types (arms ws) ++ inner_types (arms xs)) (sym one)
    ∙ ap (λ ws. arms_types (arms ys) ++ inner_types (arms ws)) (sym two)

-- ---- functions

-- all functions were gone through
pub all_gathered : (fns : List CodeFunction) (i : ℕ) (names : List (List ℕ)) → length fns ≤ i → names ++ function_names (map function (drop i fns)) ≡ function_names (map function fns) → names ≡ function_names (map function fns)
all_gathered fns i names le e = sym (append-nil names) ∙ ap (λ fs. names ++ function_names (map function fs)) (sym (drop_all i fns le)) ∙ e
