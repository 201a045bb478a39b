use denote.Shadow.{shadow}
use denote.Text.{Utf8}
use Rattle.std.proofs.Common.{◌≡◌, ◌++◌, drop, string_bytes}
use Rattle.isle_writing.specs.Text.{spaced}
use Rattle.isle_writing.proofs.word.push_spaced.Given as goal

abbrev pub invariant-loop-name : goal.invariant-loop-name
invariant-loop-name l = shadow (Utf8 l.before) × (string_bytes l.text ++ spaced l.before (drop l.name-index l.fn.names) ≡ string_bytes l.fn.text ++ spaced l.fn.gap l.fn.names)
