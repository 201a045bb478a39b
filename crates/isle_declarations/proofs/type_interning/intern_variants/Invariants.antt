use Rattle.std.proofs.Common.{◌≡◌, fold}
use Rattle.std.specs.Prelude.{drop, flat_map}
use Rattle.isle_declarations.specs.Symbols.{added}
use Rattle.isle_declarations.specs.Names.{shaped_names}
use Rattle.isle_declarations.proofs.type_interning.intern_variants.Given as goal

abbrev pub invariant-loop-variant : goal.invariant-loop-variant
invariant-loop-variant l = fold added l.fn.names (flat_map shaped_names l.fn.variants) ≡ fold added l.names (flat_map shaped_names (drop l.variant-index l.fn.variants))
