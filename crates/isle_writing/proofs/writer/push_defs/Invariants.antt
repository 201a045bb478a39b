use Rattle.std.proofs.Common.{◌≡◌, ◌++◌, drop, string_bytes}
use Rattle.isle_ast.specs.Views.{defs as seen}
use Rattle.isle_writing.specs.Text.{def_texts}
use Rattle.isle_writing.proofs.writer.push_defs.Given as goal

abbrev pub invariant-loop-def : goal.invariant-loop-def
invariant-loop-def l = string_bytes l.text ++ def_texts (seen (drop l.def-index l.fn.defs)) ≡ string_bytes l.fn.text ++ def_texts (seen l.fn.defs)
