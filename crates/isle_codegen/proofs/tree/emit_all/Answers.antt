use Rattle.std.proofs.Common.{◌+◌, take, map, subst, sym, ◌∙◌, ap, [], ◌∷◌}
use Rattle.std.proofs.lemmas.List.{map-append}
use Rattle.isle_core.specs.RuleViews.{environment}
use Rattle.isle_tree.specs.Views.{function}
use Rattle.isle_codegen.specs.Emits.{AreEmitted}
use Rattle.isle_codegen.proofs.Emissions.{emitted_more}
use Rattle.isle_codegen.proofs.tree.emit_all.Goals as goal

pub loop-term-preserved : goal.loop-term-preserved
loop-term-preserved c =
    let env = environment c.args.typeenv.now c.args.termenv.now in
    subst (λ fs. AreEmitted c.args.options.now c.args.files.now env (take (c.loop-term.term-index + 1) c.args.terms.now) fs)
    (sym (ap (map function) c.in_ok-push.ensures.items ∙ map-append function c.loop-term.fns.items (c.in_ok-emit_one.field-0 ∷ [])))
    (emitted_more c.args.options.now c.args.files.now env c.args.terms.now c.loop-term.term-index c.loop-term-item.result (map function c.loop-term.fns.items) (function c.in_ok-emit_one.field-0)
    c.loop-term-test.true c.loop-term-item.is c.loop-term.invariant c.in_ok-emit_one.ensures)
