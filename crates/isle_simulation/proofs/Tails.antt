-- The function of a term is as the term is declared.
use Rattle.std.proofs.Common.{◌≡◌, ℕ, List, [], Bool, true, false, cond, Option, Some, None, refl, sym, subst, ◌∙◌}
use Rattle.std.specs.List.{AllByRecursion}
use Rattle.std.specs.Prelude.{slice_get}
use Rattle.isle_core.specs.declared.options.CodegenOptions.{CodegenOptions}
use Rattle.isle_core.specs.declared.BindingId.{BindingId}
use Rattle.isle_core.specs.declared.files.Files.{Files}
use Rattle.isle_core.specs.declared.rule_sets.Binding.{Binding}
use Rattle.isle_core.specs.declared.rule_sets.Constraint.{Constraint}
use Rattle.isle_core.specs.declared.rule_sets.Constraint.TheVariants as constraint
use Rattle.isle_core.specs.declared.types.ReturnKind.{ReturnKind}
use Rattle.isle_core.specs.declared.types.ReturnKind.TheVariants as return_kind
use Rattle.isle_core.specs.declared.types.Term.{Term}
use Rattle.isle_core.specs.Calling.{kind_of}
use Rattle.isle_core.specs.Block.{Block}
use Rattle.isle_core.specs.BlockLawful.{IsLawfulBlock}
use Rattle.isle_core.specs.Rule.{Environment}
use Rattle.isle_core.specs.Setting.{Setting, setting}
use Rattle.isle_tree.specs.Program.{Body, Done}
use Rattle.isle_tree.specs.declared.tree.Read.{Read}
use Rattle.isle_tree.specs.declared.tree.TExpr.{TExpr}
use Rattle.isle_tree.specs.Walk.{of_stmt}
use Rattle.isle_simulation.specs.Completed.{completed}
use Rattle.isle_simulation.specs.Manner.{bare_manner}
use Rattle.isle_simulation.specs.OfTerm.{own_marks, marks, IsOfTerm}
use Rattle.isle_simulation.specs.TermFunction.{ends_in_return, mark_in, tail_body, tail_in, function_with, log_lines}
use Rattle.isle_simulation.proofs.CompletedReady.{completed_ready}
use Rattle.isle_simulation.proofs.MadeStatements.{EachMade, Anything, any_tested, block_holds}
use Rattle.isle_simulation.proofs.Written.{arm_stmt, bound_expr, result_stmt, written_body, written_read, logged_function}
use Rattle.isle_simulation.proofs.LocalStmts.{local_by}
use Rattle.isle_simulation.specs.Statements.{binds_list, local_stmt}
use Rattle.isle_simulation.proofs.Closed.{Closes}
use Rattle.isle_simulation.proofs.ClosedLaws.{IsOpen, closed_of}
use Rattle.isle_simulation.proofs.LoggedLaws.{IsOwn, logged_of}

local_marks : (P : Option (List ℕ × List ℕ) → Type 0) (often : Bool) (n : ℕ) (e : TExpr) → AllByRecursion P (of_stmt own_marks (local_stmt often n e))
local_marks P often n e = local_by (λ st. AllByRecursion P (of_stmt own_marks st)) often n e tt (λ borrow call is. tt)

result_marks : (P : Option (List ℕ × List ℕ) → Type 0) (kind : ReturnKind) (r : Read) → AllByRecursion P (of_stmt own_marks (result_stmt kind r))
result_marks P return_kind.Plain r = tt
result_marks P return_kind.Option r = tt
result_marks P return_kind.Iterator r = tt

arm_marks : (P : Option (List ℕ × List ℕ) → Type 0) (s : Setting) (locals : List ℕ) (source : BindingId) (c : Constraint) (places : List (Option BindingId)) (inside : Body) → AllByRecursion P (own_marks (arm_stmt s locals source c places inside))
arm_marks P s locals source (constraint.ConstBool val) places inside = tt
arm_marks P s locals source (constraint.ConstInt val ty) places inside = tt
arm_marks P s locals source (constraint.ConstPrim val) places inside = tt
arm_marks P s locals source (constraint.Variant ty variant) places inside = tt
arm_marks P s locals source (constraint.Struct ty) places inside = tt
arm_marks P s locals source constraint.Some places inside = tt

-- no statement of a block has a mark
marks_made : (P : Option (List ℕ × List ℕ) → Type 0) (s : Setting) → EachMade own_marks P s Anything
marks_made P s = record {
  bound = λ locals b h. local_marks P (binds_list s b) b.0 (bound_expr s locals b (slice_get s.bindings b.0));
  result = λ locals result h. result_marks P (kind_of s.term.kind) (written_read s locals false result);
  stop = λ inside limit. tt;
  split = λ inside within. tt;
  log = λ line. tt;
  equal = λ locals a b ty inside h k. tt;
  arm = λ locals source over c places inside h is k w. arm_marks P s locals source c places inside;
  several = λ locals source over c arms h is k. tt;
  loop = λ list item inside. tt;
}

tail_marks : (mark : Option (Option (List ℕ × List ℕ))) (x : Bool) → AllByRecursion (λ (m : Option (List ℕ × List ℕ)). Some m ≡ mark) (marks (cond x Done (tail_body mark)))
tail_marks mark true = tt
tail_marks None false = tt
tail_marks (Some mark) false = (refl, tt)

marks_own : IsOwn own_marks
marks_own = record { if_eq = λ a b x y. refl; if_let = λ pat r x y. refl; arms = λ r x y. refl; loop = λ list item x y. refl; split = λ within x y. refl; log = λ term place. refl }

marks_open : IsOpen own_marks
marks_open = record { if_eq = λ a b x y. refl; if_let = λ pat r x y. refl; arms = λ r x y. refl; loop = λ list item x y. refl; split = λ b inside. refl; stop = λ inside limit. refl }

-- the function of a term has its name, its types and its kind, and says where it is declared
pub written_of_term : (options : CodegenOptions) (files : Files) (env : Environment) (t : Term) (bs : List Binding) (b : Block) → IsLawfulBlock (setting env t bs) b
    → (written : Body) → Closes (kind_of t.kind) false (logged_function options files env t bs b).body written → IsOfTerm files env t (function_with env t written)
written_of_term options files env t bs b h written closes =
    let s = setting env t bs in
    let d = completed s [] b in
    let end = tail_in files env t b in
    let So : Option (List ℕ × List ℕ) → Type 0 = λ m. Some m ≡ mark_in files env t in
    record {
      name = refl;
      params = refl;
      result = refl;
      kind = refl;
      tails =
          subst (AllByRecursion So) (sym (closed_of (kind_of t.kind) own_marks marks_open closes ∙ logged_of own_marks marks_own (written_body options files env t bs b) (log_lines options files s b)))
          (block_holds own_marks So s Anything (marks_made So s) (bare_manner options.max_returns) d [] [] end (completed_ready s b h) (any_tested d) (tail_marks (mark_in files env t) (ends_in_return b)));
    }
