use Rattle.std.proofs.Common.{◌∙◌, refl}
use Rattle.std.specs.String.{string_bytes}
use Rattle.isle_tree.specs.Views.{program}
use Rattle.isle_codegen.proofs.Headers.{spells_behind}
use Rattle.isle_codegen.proofs.text.program_text.Goals as goal

pub returns-clause-header : goal.returns-clause-header
returns-clause-header c = record {
  print = string_bytes c.in_ok-print.print;
  behind = c.in_ok-push_str.ensures.bytes ∙ rw (c.in_ok-text.ensures, c.as_str.ensures.value) refl;
  alone = c.in_ok-print.ensures.no_comment;
}

pub returns-clause-spells : goal.returns-clause-spells
returns-clause-spells c =
    spells_behind c.args.names.now (string_bytes c.in_ok-print.print) _ (program c.args.tree.now) c.requires.names
    (c.in_ok-push_str.ensures.bytes ∙ rw (c.in_ok-text.ensures, c.as_str.ensures.value))
    c.in_ok-print.ensures.spells
