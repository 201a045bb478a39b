use Rattle.std.proofs.Common.{[], map, drop}
use Rattle.isle_core.specs.ValueViews.{pure_answers, turn_answers}
use Rattle.isle_running.specs.Sources.{FindsSources}
use Rattle.isle_running.proofs.sources.sources_of.Given as goal

abbrev pub invariant-loop-index : goal.invariant-loop-index
invariant-loop-index l = FindsSources [] (map pure_answers (drop l.index l.pure)) [] l.sources

abbrev pub invariant-loop-index-2 : goal.invariant-loop-index-2
invariant-loop-index-2 l = FindsSources (map turn_answers (drop l.index l.impure)) (map pure_answers l.answers.pure) [] l.sources
