use Rattle.std.proofs.Common.{ap, sym, ◌∙◌, ◌+◌, fold}
use Rattle.std.specs.Prelude.{drop}
use Rattle.isle_declarations.specs.Symbols.{added}
use Rattle.isle_declarations.proofs.Interned.{texts_more}
use Rattle.isle_declarations.proofs.text_interning.intern_names.Goals as goal

pub loop-name-preserved : goal.loop-name-preserved
loop-name-preserved c =
    c.loop-name.invariant ∙ texts_more c.args.given.now c.loop-name.name-index c.name-item.result _ c.loop-name.names c.loop-name-test.true c.name-item.is
    ∙ ap (λ names. fold added names (drop (c.loop-name.name-index + 1) c.args.given.now)) (sym c.in_ok-intern.ensures)
