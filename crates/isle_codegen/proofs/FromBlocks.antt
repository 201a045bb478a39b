-- The function that is made from a block is the one that the block gives.
use Rattle.std.proofs.Common.{◌≡◌, Some}
use Rattle.isle_core.specs.declared.TermId.{TermId}
use Rattle.isle_core.specs.declared.files.Files.{Files}
use Rattle.isle_core.specs.declared.options.CodegenOptions.{CodegenOptions}
use Rattle.isle_core.specs.Rule.{Environment}
use Rattle.isle_core.specs.Setting.{setting}
use Rattle.isle_tree.specs.Program.{Function}
use Rattle.isle_simulation.specs.TermFunction.{term_function}
use Rattle.isle_simulation.proofs.StatementsFound.{function_found}
use Rattle.isle_codegen.specs.FromBlock.{IsFromBlock}

-- so of a term's function
pub given_from : (options : CodegenOptions) (files : Files) (env : Environment) (id : TermId) (f : Function) (b : IsFromBlock options files env id f) → term_function options files (setting env b.term b.set.bindings) b.block ≡ Some f
given_from options files env id f b = function_found options files (setting env b.term b.set.bindings) b.block f b.statements
