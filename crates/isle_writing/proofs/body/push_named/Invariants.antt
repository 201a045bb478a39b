use Rattle.std.proofs.Common.{◌≡◌, ◌++◌, drop, string_bytes}
use Rattle.isle_writing.specs.Text.{named_text}
use Rattle.isle_writing.proofs.body.push_named.Given as goal

abbrev pub invariant-loop-field : goal.invariant-loop-field
invariant-loop-field l = string_bytes l.text ++ named_text (drop l.field-index l.fn.fields) ≡ string_bytes l.fn.text ++ named_text l.fn.fields
