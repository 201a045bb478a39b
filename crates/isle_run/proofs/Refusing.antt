-- Why there are no lines.
use Rattle.std.proofs.Common.{◌≡◌, ◌⊎◌, inl, inr, ℕ, List, sym, subst}
use Rattle.isle_core.specs.declared.files.Files.{Files}
use Rattle.isle_core.specs.declared.options.CodegenOptions.{CodegenOptions}
use Rattle.isle_core.specs.Rule.{Environment}
use Rattle.isle_core.specs.Value.{Value}
use Rattle.isle_values.specs.Written.{Writtens}
use Rattle.isle_tree.specs.Program.{Program}
use Rattle.isle_codegen.specs.Checked.{IsChecked}
use Rattle.isle_run.specs.declared.run_fail.RunFail.{RunFail}
use Rattle.isle_run.specs.declared.run_fail.RunFail.TheVariants as run
use Rattle.isle_run.specs.Conforming.{Conforms}
use Rattle.isle_run.specs.NoLines.{IsRunRefused, IsNotRun, memory}
use Rattle.isle_run.specs.NoLines as no_lines
use Rattle.isle_run.specs.Trial.{args_given}

-- memory ran out
pub by_memory : {options : CodegenOptions} {files : Files} {term : List ℕ} {ws : Writtens} {text : List ℕ} (e : RunFail) → e ≡ run.Memory → IsNotRun options files term ws text e
by_memory {options} {files} {term} {ws} {text} e is = subst (IsNotRun options files term ws text) (sym is) memory

-- or a program that conforms is not run
pub by_refusal : (options : CodegenOptions) (files : Files) (env : Environment) (p : Program) (term : List ℕ) (ws : Writtens) (args : List Value) (text : List ℕ) (e : RunFail)
    → IsChecked files env → Conforms options files env p → args ≡ args_given env term ws → (e ≡ run.Memory) ⊎ IsRunRefused (record { program = p; env = env; term = term; args = args }) text e → IsNotRun options files term ws text e
by_refusal options files env p term ws args text e checked conforms given (inl is) = by_memory e is
by_refusal options files env p term ws args text e checked conforms given (inr refused) =
    no_lines.refused e (record { env = env; checked = checked; program = p; conforms = conforms; refused = subst (λ vs. IsRunRefused (record { program = p; env = env; term = term; args = vs }) text e) given refused })
