-- The program that is emitted for an environment.
use Rattle.std.specs.Prelude.{◌≡◌, List, not}
use Rattle.std.specs.List.{AllByRecursion}
use Rattle.isle_core.specs.declared.options.CodegenOptions.{CodegenOptions}
use Rattle.isle_core.specs.declared.files.Files.{Files}
use Rattle.isle_core.specs.declared.types.Term.{Term}
use Rattle.isle_core.specs.Places.{LiesIn}
use Rattle.isle_core.specs.Rule.{Environment}
use Rattle.isle_ast.specs.Tree.{Def}
use Rattle.isle_ast.specs.Positions.{place_of}
use Rattle.isle_lawful_names.specs.TypeItems.{type_items_of}
use Rattle.isle_simulation.specs.TraitFns.{trait_fns_of}
use Rattle.isle_tree.specs.Program.{Program}

-- the declarations of the terms lie in the files
abbrev pub ArePlaced : Files → Environment → Type 0
ArePlaced files env = AllByRecursion (λ (t : Term). LiesIn files t.decl_pos) env.terms

-- the definitions stand in the files
abbrev pub DefsArePlaced : Files → List Def → Type 0
DefsArePlaced files defs = AllByRecursion (λ (d : Def). LiesIn files (place_of d)) defs

-- what stands round the functions of a program
pub record IsFrame (options : CodegenOptions) (env : Environment) (p : Program) : Type 0 where
  pub allow : p.allow ≡ not options.exclude_global_allow_pragmas
  pub trait_fns : p.trait_fns ≡ trait_fns_of env
  pub types : p.types ≡ type_items_of env
