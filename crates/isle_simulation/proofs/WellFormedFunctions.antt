-- The function of a term is well formed in every program.
use Rattle.std.proofs.Common.{◌≡◌, ℕ, List, [], length, map, Bool, true, false, cond, Option, Some, None, sym, subst}
use Rattle.std.proofs.lemmas.List.{length-map}
use Rattle.isle_core.specs.declared.options.CodegenOptions.{CodegenOptions}
use Rattle.isle_core.specs.Calling.{kind_of}
use Rattle.isle_core.specs.declared.files.Files.{Files}
use Rattle.isle_core.specs.declared.types.Term.{Term}
use Rattle.isle_core.specs.declared.rule_sets.Binding.{Binding}
use Rattle.isle_core.specs.Places.{place_in}
use Rattle.isle_core.specs.Block.{Block}
use Rattle.isle_core.specs.BlockLawful.{IsLawfulBlock}
use Rattle.isle_core.specs.Terms.{sym_text}
use Rattle.isle_core.specs.Rule.{Environment}
use Rattle.isle_core.specs.Setting.{setting}
use Rattle.isle_tree.specs.Program.{Body, Done, Program}
use Rattle.isle_tree.specs.WellFormed.{Locals, Callables, callables, IsBody, IsBodyScoped, IsFunction}
use Rattle.isle_core.specs.declared.types.ReturnKind.{ReturnKind}
use Rattle.isle_simulation.specs.Completed.{completed}
use Rattle.isle_simulation.specs.RustNames.{HasRustNames}
use Rattle.isle_simulation.specs.TermFunction.{ends_in_return, mark_of, tail_body, tail_of, function_with, log_lines}
use Rattle.isle_simulation.specs.TypeTexts.{parameter}
use Rattle.isle_simulation.proofs.CompletedReady.{completed_ready}
use Rattle.isle_simulation.specs.Emitted.{IsEmittable}
use Rattle.isle_simulation.specs.TermFns.{callables_of}
use Rattle.isle_simulation.proofs.CalledTerms.{HasCallees}
use Rattle.isle_simulation.proofs.Logged.{logged}
use Rattle.isle_simulation.proofs.Closed.{Closes}
use Rattle.isle_simulation.proofs.ClosedLaws.{closed_is, closed_scoped, closed_fits_function}
use Rattle.isle_simulation.proofs.LoggedLaws.{logged_is, logged_scoped, logged_fits_function}
use Rattle.isle_simulation.proofs.Written.{written_body, logged_function}
use Rattle.isle_simulation.proofs.TermNames.{has_names}
use Rattle.isle_simulation.proofs.BlockForms.{block_is}
use Rattle.isle_simulation.proofs.BlockScoped.{root_scoped}
use Rattle.isle_simulation.proofs.BlockFits.{function_fits}

mark_is : (mark : Option (Option (List ℕ × List ℕ))) → IsBody (tail_body mark)
mark_is None = tt
mark_is (Some mark) = (tt, tt)

tail_is : (mark : Option (Option (List ℕ × List ℕ))) (x : Bool) → IsBody (cond x Done (tail_body mark))
tail_is mark true = tt
tail_is mark false = mark_is mark

tail_scoped : (mark : Option (Option (List ℕ × List ℕ))) (x : Bool) (fns : Callables) (kind : ReturnKind) (params : ℕ) (locals : Locals) → IsBodyScoped fns kind params locals (cond x Done (tail_body mark))
tail_scoped mark true fns kind params locals = tt
tail_scoped (Some mark) false fns kind params locals = (tt, tt)
tail_scoped None false fns kind params locals = tt

-- the function of a term that may be emitted and whose block is lawful, in a program with the functions that the environment gives
pub written_well_formed : (options : CodegenOptions) (files : Files) (env : Environment) (t : Term) (bs : List Binding) (b : Block) → IsEmittable env t → HasRustNames env → IsLawfulBlock (setting env t bs) b → HasCallees env
    → (p : Program) → callables p ≡ callables_of env → (written : Body) → Closes (kind_of t.kind) false (logged_function options files env t bs b).body written → IsFunction p (function_with env t written)
written_well_formed options files env t bs b h names k fns p same written closes =
    let s = setting env t bs in
    let kind = kind_of t.kind in
    let name = sym_text env t.name in
    let place = place_in files t.decl_pos in
    let mark = mark_of kind name place in
    let c = completed s [] b in
    let ready = completed_ready s b k in
    let body = written_body options files env t bs b in
    let lines = log_lines options files s b in
    record {
      names = has_names env t written h;
      forms = closed_is kind closes (logged_is body lines (block_is options.max_returns c s [] [] (tail_of kind name place b) names fns ready (tail_is mark (ends_in_return b))));
      scoped = closed_scoped kind (callables p) (length (map (parameter env) t.arg_tys)) closes [] (logged_scoped body lines (callables p) kind (length (map (parameter env) t.arg_tys)) [] (subst (λ (ts : Callables). IsBodyScoped ts kind (length (map (parameter env) t.arg_tys)) [] body) (sym same)
          (subst (λ n. IsBodyScoped (callables_of env) kind n [] body) (sym (length-map t.arg_tys (parameter env)))
          (root_scoped options.max_returns c s (tail_of kind name place b) fns ready (λ locals. tail_scoped mark (ends_in_return b) (callables_of env) kind (length t.arg_tys) locals)))));
      fits = closed_fits_function kind (logged lines body) written closes (logged_fits_function body lines kind (function_fits options.max_returns b s name place ready));
    }
