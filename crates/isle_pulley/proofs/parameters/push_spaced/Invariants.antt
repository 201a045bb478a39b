use denote.Shadow.{shadow}
use denote.Text.{Utf8}
use Rattle.std.proofs.Common.{◌≡◌, ◌++◌, drop, [], string_bytes}
use Rattle.isle_meta.specs.TableNames.{texts}
use Rattle.isle_writing.specs.Text.{spaced}
use Rattle.isle_pulley.proofs.parameters.push_spaced.Given as goal

abbrev pub invariant-loop-ty : goal.invariant-loop-ty
invariant-loop-ty l = shadow (Utf8 l.before) × (string_bytes l.text ++ spaced l.before (texts (drop l.ty-index l.fn.types)) ≡ string_bytes l.fn.text ++ spaced [] (texts l.fn.types))
