use Rattle.std.proofs.Common.{◌≡◌, ◌++◌, map, drop, string_bytes}
use Rattle.isle_ast.specs.Views.{pattern, patterns_of}
use Rattle.isle_writing.specs.Text.{patterns_text}
use Rattle.isle_writing.proofs.pattern.+pushing.Given as goal

abbrev pub invariant-push_patterns-loop-p : goal.invariant-push_patterns-loop-p
invariant-push_patterns-loop-p l = string_bytes l.text ++ patterns_text (patterns_of (map pattern (drop l.p-index l.patterns))) ≡ string_bytes l.fn.text ++ patterns_text (patterns_of (map pattern l.patterns))
