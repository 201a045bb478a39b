use Rattle.std.proofs.Common.{◌≡◌, ◌++◌, drop, string_bytes}
use Rattle.isle_writing.specs.Text.{variants_text}
use Rattle.isle_writing.proofs.body.push_variants.Given as goal

abbrev pub invariant-loop-variant : goal.invariant-loop-variant
invariant-loop-variant l = string_bytes l.text ++ variants_text (drop l.variant-index l.fn.variants) ≡ string_bytes l.fn.text ++ variants_text l.fn.variants
