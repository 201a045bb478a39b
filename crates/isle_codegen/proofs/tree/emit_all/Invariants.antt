use Rattle.std.proofs.Common.{take, map}
use Rattle.isle_core.specs.RuleViews.{environment}
use Rattle.isle_tree.specs.Views.{function}
use Rattle.isle_codegen.specs.Emits.{AreEmitted}
use Rattle.isle_codegen.proofs.tree.emit_all.Given as goal

abbrev pub invariant-loop-term : goal.invariant-loop-term
invariant-loop-term l = AreEmitted l.fn.options l.fn.files (environment l.fn.typeenv l.fn.termenv) (take l.term-index l.fn.terms) (map function l.fns.items)
