use Rattle.std.proofs.Common.{◌≡◌, fold}
use Rattle.std.specs.Prelude.{drop}
use Rattle.isle_declarations.specs.Symbols.{added}
use Rattle.isle_declarations.proofs.text_interning.intern_names.Given as goal

abbrev pub invariant-loop-name : goal.invariant-loop-name
invariant-loop-name l = fold added l.fn.names l.fn.given ≡ fold added l.names (drop l.name-index l.fn.given)
