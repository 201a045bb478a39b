-- How the statements of a block are written.
use Rattle.std.specs.Prelude.{ℕ, nat_lt, Bool, true, false, ◌&&◌, ◌||◌, Option, Some, None, if◌then◌else◌, option_map}
use Rattle.isle_core.specs.declared.options.CodegenOptions.{CodegenOptions}
use Rattle.isle_core.specs.declared.files.Files.{Files}
use Rattle.isle_core.specs.declared.position.Pos.{Pos}
use Rattle.isle_core.specs.Block.{Block}
use Rattle.isle_core.specs.Setting.{Setting, gives_several}
use Rattle.isle_tree.specs.Program.{Split, Body, Done, Then}
use Rattle.isle_simulation.specs.BlockWeight.{block_weight}
use Rattle.isle_simulation.specs.LogLines.{LogLine}
use Rattle.isle_simulation.specs.Telling.{Telling, telling_of}

-- which lines stand before results, at which length the list of results is full, above which weight the body of an arm stands in a closure of
-- its own, if any does, and whether the statements stand in a closure, which they leave if that list is full
pub record Manner : Type 0 where
  pub telling : Telling
  pub limit : ℕ
  pub above : Option ℕ
  pub inside : Bool

-- without lines and closures
abbrev pub bare_manner : (limit : ℕ) → Manner
bare_manner limit = record { telling = None; limit = limit; above = None; inside = false }

-- with these lines, without closures
abbrev pub lined_manner : (Pos → LogLine) → (limit : ℕ) → Manner
lined_manner line limit = record { telling = Some line; limit = limit; above = None; inside = false }

-- a number that is given, or this
abbrev pub given_or : ℕ → Option ℕ → ℕ
given_or otherwise None = otherwise
given_or otherwise (Some n) = n

-- above which weight a body stands in a closure: none does unless that is asked for, and the term answers several times; 256 if no weight is given
abbrev pub closes_above : CodegenOptions → Setting → Option ℕ
closes_above options s = if options.split_match_arms && gives_several s then Some (given_or 256 options.match_arm_split_threshold) else None

-- as the options ask for it, in no closure yet
abbrev pub manner_of : (options : CodegenOptions) → Files → Setting → Manner
manner_of options files s = record { telling = telling_of options files s; limit = options.max_returns; above = closes_above options s; inside = false }

-- the weight is above such a one
abbrev pub is_above : Option ℕ → (weight : ℕ) → Bool
is_above None weight = false
is_above (Some n) weight = nat_lt n weight

-- the body of an arm stands in a closure of its own
abbrev pub has_closure : Manner → Block → Bool
has_closure manner b = is_above manner.above (block_weight b)

-- how the statements within are written that have a closure of their own, or none
abbrev pub within : (own : Bool) → Manner → Manner
within own manner = record manner { inside = manner.inside || own }

-- how those of an arm's body are written
abbrev pub arm_manner : Manner → Block → Manner
arm_manner manner b = within (has_closure manner b) manner

-- statements in a closure, if they have one, whose own stop is that of what stands around it
abbrev pub closed_if : Bool → (inside : Bool) → Body → Body
closed_if true inside made = Then (Split made inside) Done
closed_if false inside made = made

-- how they stand in the arm
abbrev pub arm_body : Manner → Block → Option Body → Option Body
arm_body manner b made = option_map (closed_if (has_closure manner b) manner.inside) made
