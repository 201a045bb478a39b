use Rattle.std.proofs.Common.{◌≤◌, ◌*◌, ℕ, List, length, map, take}
use Rattle.std.specs.Prelude.{Option}
use Rattle.isle_core.specs.Pattern.{Pattern}
use Rattle.isle_core.specs.RuleViews.{pattern as elaborated, patterns_of}
use Rattle.isle_templates.specs.Occurrences.{AreAdded, times_in}
use Rattle.isle_templates.specs.Renumbered.{patterns_variables}
use Rattle.isle_templates.specs.Standing.{StandFor}
use Rattle.isle_templates.specs.Substituted.{expanded}
use Rattle.isle_templates.proofs.OccurrenceSteps.{of_first}
use Rattle.isle_templates.proofs.occurrences.+noting.Given as goal

abbrev pub invariant-note_each-loop-p : goal.invariant-note_each-loop-p
invariant-note_each-loop-p l = (whole : List (Option Pattern)) → StandFor whole l.known.table.now l.known.below
    → AreAdded (λ (x : ℕ). l.often * times_in (patterns_variables (patterns_of (map (expanded whole) (map elaborated (take l.p-index l.parts))))) x) l.fn.times.items l.times.items

abbrev pub invariant-note_opened-loop-parameter : goal.invariant-note_opened-loop-parameter
invariant-note_opened-loop-parameter l = (whole : List (Option Pattern)) → StandFor whole l.known.table.now l.known.below
    → AreAdded (of_first l.often (map (expanded whole) (map elaborated l.args)) l.kept.times.items l.parameter) l.fn.times.items l.times.items

abbrev pub invariant-note_opened-loop-own : goal.invariant-note_opened-loop-own
invariant-note_opened-loop-own l = (length l.args ≤ l.own) × ((whole : List (Option Pattern)) → StandFor whole l.known.table.now l.known.below
    → AreAdded (of_first l.often (map (expanded whole) (map elaborated l.args)) l.kept.times.items l.own) l.fn.times.items l.times.items)
