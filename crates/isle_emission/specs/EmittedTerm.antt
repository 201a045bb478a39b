-- What the function is that is emitted for a term.
use Rattle.std.specs.Prelude.{◌≡◌, Bool, true, false}
use Rattle.isle_core.specs.declared.files.Files.{Files}
use Rattle.isle_core.specs.declared.options.CodegenOptions.{CodegenOptions}
use Rattle.isle_core.specs.Block.{Block}
use Rattle.isle_core.specs.Setting.{Setting, gives_several}
use Rattle.isle_tree.specs.Program.{Function, Program}
use Rattle.isle_tree.specs.WellFormed.{callables, IsFunction}
use Rattle.isle_emission.specs.Origin.{Origin, InSetting}
use Rattle.isle_simulation.specs.Emitted.{RunAlike, RunsAsBlock, RunsAsSeveral}
use Rattle.isle_simulation.specs.Shape.{HasShape}
use Rattle.isle_simulation.specs.LogLines.{lines_of}
use Rattle.isle_simulation.specs.StatementsOf.{IsFunctionOf}
use Rattle.isle_simulation.specs.TermFunction.{log_lines}
use Rattle.isle_simulation.specs.TermFns.{callables_of}

-- the function is that of the term with its block, as the options ask for it
abbrev pub IsGiven : (options : CodegenOptions) → Origin → Function → Type 0
IsGiven options o f = InSetting o (λ (s : Setting). IsFunctionOf options o.files s o.block f)

-- its log lines are, if they are asked for, one for each Return of the block, in order
abbrev pub HasLogLines : (options : CodegenOptions) → Origin → Function → Type 0
HasLogLines options o f = InSetting o (λ (s : Setting). lines_of f.body ≡ log_lines options o.files s o.block)

-- it is well formed in every program in which the functions may be called that the environment gives: those of the trait, and those of
-- terms with rules
abbrev pub IsWellFormedIn : Origin → Function → Type 0
IsWellFormedIn o f = (p : Program) → callables p ≡ callables_of o.env → IsFunction p f

-- it has the shape of the block
abbrev pub HasBlockShape : Origin → Function → Type 0
HasBlockShape o f = InSetting o (λ (s : Setting). HasShape s f.body o.block)

-- a function runs as the block of a term that answers several times, or at most once
abbrev pub RunsAs : (several : Bool) → CodegenOptions → Setting → Block → Function → Type 0
RunsAs true options s b f = RunsAsSeveral options s.env s.term s.bindings b f
RunsAs false options s b f = RunsAsBlock s.env s.term s.bindings b f

-- it runs as its block does
abbrev pub RunsAsItsBlock : (options : CodegenOptions) → Origin → Function → Type 0
RunsAsItsBlock options o f = InSetting o (λ (s : Setting). RunsAs (gives_several s) options s o.block f)

-- it runs like each function that the block gives under other options with the same limit, whatever names and texts the files have then:
-- everywhere to the same end, with the same calls, also of pure terms
abbrev pub RunsUnderAll : (options : CodegenOptions) → Origin → Function → Type 0
RunsUnderAll options o f = (other : CodegenOptions) (files : Files) (g : Function)
    → options.max_returns ≡ other.max_returns → IsGiven other (record o { files = files }) g → RunAlike f g
