-- What a program is that conforms to its source.
use Rattle.isle_core.specs.declared.options.CodegenOptions.{CodegenOptions}
use Rattle.isle_core.specs.declared.files.Files.{Files}
use Rattle.isle_core.specs.Rule.{Environment}
use Rattle.isle_tree.specs.Program.{Program}
use Rattle.isle_tree.specs.WellFormed.{IsWellFormed}
use Rattle.isle_codegen.specs.Emission.{IsFrame}
use Rattle.isle_codegen.specs.Headline.{FunctionsMean}

-- a well-formed program with the frame of the environment, whose functions mean the rules of their terms
pub record Conforms (options : CodegenOptions) (files : Files) (env : Environment) (p : Program) : Type 0 where
  pub well_formed : IsWellFormed p
  pub frame : IsFrame options env p
  pub functions : FunctionsMean options files env p
