use Rattle.std.proofs.Common.{◌≡◌, fold}
use Rattle.std.specs.Prelude.{drop}
use Rattle.isle_declarations.specs.Symbols.{added}
use Rattle.isle_declarations.proofs.text_interning.intern_texts.Given as goal

abbrev pub invariant-loop-text : goal.invariant-loop-text
invariant-loop-text l = fold added l.fn.names l.fn.texts ≡ fold added l.names (drop l.text-index l.fn.texts)
