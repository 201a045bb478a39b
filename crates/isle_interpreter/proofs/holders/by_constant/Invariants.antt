use Rattle.std.proofs.Common.{◌≡◌, ℕ, List, map, drop}
use Rattle.isle_core.specs.ValueViews.{const}
use Rattle.isle_interpreter.specs.Clashes.{const_in, at_constant}
use Rattle.isle_interpreter.proofs.holders.by_constant.Given as goal

abbrev pub invariant-loop-index : goal.invariant-loop-index
invariant-loop-index l = (name : List ℕ) → at_constant l.found name ≡ const_in (map const (drop l.index l.fn.consts)) name
