use Rattle.std.proofs.Common.{ap, sym, ◌∙◌, ◌+◌, fold}
use Rattle.std.specs.Prelude.{drop}
use Rattle.isle_declarations.specs.Symbols.{added}
use Rattle.isle_declarations.proofs.Interned.{texts_more}
use Rattle.isle_declarations.proofs.text_interning.intern_texts.Goals as goal

pub loop-text-preserved : goal.loop-text-preserved
loop-text-preserved c =
    c.loop-text.invariant ∙ texts_more c.args.texts.now c.loop-text.text-index c.text-item.result _ c.loop-text.names c.loop-text-test.true c.text-item.is
    ∙ ap (λ names. fold added names (drop (c.loop-text.text-index + 1) c.args.texts.now)) (sym (c.in_ok-intern.ensures.names ∙ ap (added c.loop-text.names) c.as_str.ensures))
