use Rattle.std.proofs.Common.{◌≡◌, ◌++◌, map, drop, string_bytes}
use Rattle.isle_ast.specs.Views.{iflet}
use Rattle.isle_writing.specs.Text.{iflets_text}
use Rattle.isle_writing.proofs.rule.push_iflets.Given as goal

abbrev pub invariant-loop-condition : goal.invariant-loop-condition
invariant-loop-condition l = string_bytes l.text ++ iflets_text (map iflet (drop l.condition-index l.fn.iflets)) ≡ string_bytes l.fn.text ++ iflets_text (map iflet l.fn.iflets)
