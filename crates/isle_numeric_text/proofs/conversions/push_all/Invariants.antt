use Rattle.std.proofs.Common.{◌≡◌, ◌++◌, take, string_bytes}
use Rattle.std.specs.List.{flat_map}
use Rattle.isle_numerics.specs.declared.conversion.Conversion.{Conversion}
use Rattle.isle_numerics.specs.Definitions.{conversion_defs}
use Rattle.isle_writing.specs.Text.{def_texts}
use Rattle.isle_numeric_text.proofs.conversions.push_all.Given as goal

abbrev pub invariant-loop-c : goal.invariant-loop-c
invariant-loop-c l = string_bytes l.text ≡ string_bytes l.fn.text ++ flat_map (λ (c : Conversion). def_texts (conversion_defs l.from l.to c)) (take l.c-index l.all)
