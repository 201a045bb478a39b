-- The end of a term's function.
use Rattle.std.proofs.Common.{◌≡◌, ℕ, zero, suc, ◌+◌, List, [], ◌∷◌, ◌++◌, length, get_or, map, eqb, ◌-◌, true, false, cond, Option, Some, None, refl, sym, ap, ◌∙◌, arith}
use Rattle.std.specs.Prelude.{option_map}
use Rattle.isle_core.specs.declared.blocks.EvalStep.{EvalStep as CodeStep}
use Rattle.isle_core.specs.declared.files.Files.{Files}
use Rattle.isle_core.specs.declared.types.Term.{Term}
use Rattle.isle_core.specs.Block.{Block}
use Rattle.isle_core.specs.BlockViews.{block_of, step}
use Rattle.isle_core.specs.Rule.{Environment}
use Rattle.isle_tree.specs.declared.tree.Stmt.{Stmt as CodeStmt}
use Rattle.isle_tree.specs.Program.{Tail, Done}
use Rattle.isle_tree.specs.Views.{stmt, body}
use Rattle.isle_emission.specs.BodyOnto.{body_onto}
use Rattle.isle_simulation.specs.Statements.{stmt_before}
use Rattle.isle_simulation.specs.TermFunction.{is_return, ends_in_return, mark_in, tail_body, tail_in}
use Rattle.isle_emission.proofs.Onto.{onto_pushed, onto_done}

pub one_less : (n : ℕ) → false ≡ eqb n 0 → (n - 1) + 1 ≡ n
one_less zero e = absurd cc
one_less (suc n) e = omega arith

-- the last step says how a block ends
pub ends_at : (xs : List CodeStep) (i : ℕ) (x : CodeStep) → i + 1 ≡ length xs → x ≡ get_or xs i x → ends_in_return (block_of (map step xs)) ≡ is_return (step x).1
ends_at [] i x n is = absurd (omega (arith, n))
ends_at (y ∷ []) zero x n is = ap (λ z. is_return (step z).1) (sym is)
ends_at (y ∷ []) (suc i) x n is = absurd (omega (arith, n))
ends_at (y ∷ z ∷ ys) zero x n is = absurd (omega (arith, n))
ends_at (y ∷ z ∷ ys) (suc i) x n is = ends_at (z ∷ ys) i x (omega (arith, n)) is

-- what stands after the statements of a block: nothing where it ends in a result
pub root_ended : (files : Files) (env : Environment) (t : Term) (b : Block) (ss : List CodeStmt) → ends_in_return b ≡ true → Some (body ss) ≡ body_onto (map stmt ss) (Some (tail_in files env t b))
root_ended files env t b ss ends =
    sym (onto_done (map stmt ss)) ∙ ap (λ e. body_onto (map stmt ss) (Some (cond e Done (tail_body (mark_in files env t))))) (sym ends)

-- after a block that goes on stands the tail
pub root_open : (files : Files) (env : Environment) (t : Term) (b : Block) (ss new : List CodeStmt) (last : CodeStmt)
    → ends_in_return b ≡ false → Some (stmt last) ≡ option_map Tail (mark_in files env t) → new ≡ ss ++ last ∷ [] → Some (body new) ≡ body_onto (map stmt ss) (Some (tail_in files env t b))
root_open files env t b ss new last ends is_last pushed =
    ap (λ xs. Some (body xs)) pushed
    ∙ sym (onto_done (map stmt (ss ++ last ∷ [])))
    ∙ onto_pushed ss last (Some Done)
    ∙ ap (body_onto (map stmt ss)) (tail_last (mark_in files env t) is_last)
    ∙ ap (λ e. body_onto (map stmt ss) (Some (cond e Done (tail_body (mark_in files env t))))) (sym ends)
  where
    tail_last : (mark : Option (Option (List ℕ × List ℕ))) → Some (stmt last) ≡ option_map Tail mark → stmt_before (Some (stmt last)) (Some Done) ≡ Some (tail_body mark)
    tail_last (Some m) e = ap (λ o. stmt_before o (Some Done)) e
    tail_last None e = cc

-- or none, if the kind has none
pub root_bare : (files : Files) (env : Environment) (t : Term) (b : Block) (ss : List CodeStmt)
    → ends_in_return b ≡ false → None ≡ option_map Tail (mark_in files env t) → Some (body ss) ≡ body_onto (map stmt ss) (Some (tail_in files env t b))
root_bare files env t b ss ends none =
    sym (onto_done (map stmt ss))
    ∙ ap (λ x. body_onto (map stmt ss) (Some x)) (no_tail (mark_in files env t) none)
    ∙ ap (λ e. body_onto (map stmt ss) (Some (cond e Done (tail_body (mark_in files env t))))) (sym ends)
  where
    no_tail : (mark : Option (Option (List ℕ × List ℕ))) → None ≡ option_map Tail mark → Done ≡ tail_body mark
    no_tail None e = refl
    no_tail (Some m) e = cc
