use Rattle.isle_walks.specs.Parts.{IsSearched, left_of}
use Rattle.isle_walks.proofs.parts.closed_walks.Given as goal

abbrev pub invariant-loop-search : goal.invariant-loop-search
invariant-loop-search l = IsSearched l.graph l.search

abbrev pub decreases-loop-search : goal.decreases-loop-search
decreases-loop-search l = left_of l.graph l.search
