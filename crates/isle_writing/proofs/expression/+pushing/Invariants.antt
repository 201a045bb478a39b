use denote.Shadow.{shadow}
use denote.Text.{Utf8}
use Rattle.std.proofs.Common.{◌≡◌, ◌++◌, map, [], drop, string_bytes}
use Rattle.isle_ast.specs.Views.{expr, exprs_of, lets_of}
use Rattle.isle_writing.specs.Seen.{bound}
use Rattle.isle_writing.specs.Text.{exprs_text, lets_text}
use Rattle.isle_writing.proofs.expression.+pushing.Given as goal

abbrev pub invariant-push_exprs-loop-e : goal.invariant-push_exprs-loop-e
invariant-push_exprs-loop-e l = string_bytes l.text ++ exprs_text (exprs_of (map expr (drop l.e-index l.exprs))) ≡ string_bytes l.fn.text ++ exprs_text (exprs_of (map expr l.exprs))

abbrev pub invariant-push_lets-loop-l : goal.invariant-push_lets-loop-l
invariant-push_lets-loop-l l = shadow (Utf8 l.before) × (string_bytes l.text ++ lets_text l.before (lets_of (map bound (drop l.l-index l.lets))) ≡ string_bytes l.fn.text ++ lets_text [] (lets_of (map bound l.lets)))
