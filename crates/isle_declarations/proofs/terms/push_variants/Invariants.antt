use Rattle.std.proofs.Common.{◌≡◌, ◌++◌, map}
use Rattle.std.specs.Prelude.{drop}
use Rattle.isle_declarations.specs.Terms.{variant_signatures}
use Rattle.isle_declarations.specs.TermViews.{term_def}
use Rattle.isle_declarations.proofs.terms.push_variants.Given as goal

abbrev pub invariant-loop-index : goal.invariant-loop-index
invariant-loop-index l =
    map term_def l.terms.items ++ variant_signatures l.ty l.pos l.index (drop l.index l.variants) ≡ map term_def l.fn.terms.items ++ variant_signatures l.ty l.pos 0 l.variants
