use Rattle.std.proofs.Common.{◌≡◌, fold}
use Rattle.std.specs.Prelude.{drop, flat_map}
use Rattle.isle_declarations.specs.Symbols.{added}
use Rattle.isle_declarations.proofs.text_interning.intern_lists.Given as goal

abbrev pub invariant-loop-texts : goal.invariant-loop-texts
invariant-loop-texts l = fold added l.fn.names (flat_map (λ texts. texts) l.fn.lists) ≡ fold added l.names (flat_map (λ texts. texts) (drop l.texts-index l.fn.lists))
