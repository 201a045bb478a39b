use Rattle.std.proofs.Common.{ap, ◌∙◌}
use Rattle.isle_core.specs.RuleViews.{environment}
use Rattle.isle_codegen.specs.Names.{are_file_names}
use Rattle.isle_tree.specs.Views.{program}
use Rattle.isle_codegen.proofs.LawfulNames.{files_named}
use Rattle.isle_codegen.proofs.text.codegen.Goals as goal

pub program_text-requires-clause-names : goal.program_text-requires-clause-names
program_text-requires-clause-names c =
    ap are_file_names c.as_slice.ensures ∙ files_named c.args.files.now.file_names (environment c.args.typeenv.now c.args.termenv.now) c.requires.given.lawful.names

pub returns-clause-program : goal.returns-clause-program
returns-clause-program c = record {
  program = program c.in_ok-tree.tree;
  spells = c.in_ok-text.ensures.spells;
  frame = c.in_ok-tree.ensures.frame;
  functions = c.in_ok-tree.ensures.functions;
}
