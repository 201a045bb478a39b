use Rattle.std.proofs.Common.{◌≡◌, take, length}
use Rattle.isle_ast.specs.Views.{defs}
use Rattle.isle_codegen.specs.Source.{Source}
use Rattle.isle_codegen.proofs.source.parse_all.Given as goal

abbrev pub invariant-loop-file : goal.invariant-loop-file
invariant-loop-file l = record {
  source : Source 0 (take l.file l.texts) (defs l.all.items);
  count : length (take l.file l.texts) ≡ l.file;
}
