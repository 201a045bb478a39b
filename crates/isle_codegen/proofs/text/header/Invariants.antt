use Rattle.std.proofs.Common.{◌≡◌, ◌++◌, take, map}
use Rattle.std.specs.String.{string_bytes}
use Rattle.isle_printer.specs.Comment.{comment_lines}
use Rattle.isle_codegen.specs.Header.{first_lines, file_line}
use Rattle.isle_codegen.proofs.text.header.Given as goal

abbrev pub invariant-loop-name : goal.invariant-loop-name
invariant-loop-name l = string_bytes l.text ≡ comment_lines (first_lines ++ map file_line (take l.name-index l.names))
