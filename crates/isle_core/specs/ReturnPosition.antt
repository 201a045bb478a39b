-- The position of the Return that a run reaches.
use Rattle.std.specs.Prelude.{List, [], Option, Some, None, if◌then◌else◌, map}
use Rattle.isle_core.specs.declared.position.Pos.{Pos}
use Rattle.isle_core.specs.declared.rule_sets.FlatRule.{FlatRule}
use Rattle.isle_core.specs.Value.{Value, Made}
use Rattle.isle_core.specs.Meaning.{Meaning}
use Rattle.isle_core.specs.Path.{Path, at}
use Rattle.isle_core.specs.Answered.{Held}
use Rattle.isle_core.specs.ValueAt.{Known, nothing_known, value_at, meets, equal_held}
use Rattle.isle_core.specs.CallRun.{Went, Goes, Ends, run_calls}
use Rattle.isle_core.specs.RuleSet.{flat_holds, highest}
use Rattle.isle_core.specs.Block.{Block, Stop, Step, Control, Match, Equal, Loop, Return, Arms, NoArm, Arm}
use Rattle.isle_core.specs.BlockRun.{bind_all, control_run}
use Rattle.isle_core.specs.Rule.{Environment}

-- what follows, where a run goes on
abbrev pub then_position : Went → (Known → List Made → Option Pos) → Option Pos
then_position (Goes known made) go = go known made
then_position (Ends o) go = None

-- the first of two, if there is one
abbrev pub or_else : Option Pos → Option Pos → Option Pos
or_else (Some p) o = Some p
or_else None o = o

-- of a block: none where it goes on, or a call fails before a Return; no Loop is built
abbrev mutual
  pub block_position : Environment → Meaning → List Value → List Path → Block → Known → List Made → Option Pos
  block_position env m args ps Stop known made = None
  block_position env m args ps (Step bs c more) known made =
      then_position (bind_all env m args ps bs known made) (λ k d. or_else (control_position env m args ps c k d) (then_position (control_run env m args ps c k d) (block_position env m args ps more)))

  pub control_position : Environment → Meaning → List Value → List Path → Control → Known → List Made → Option Pos
  control_position env m args ps (Match source arms) known made = arms_position env m args ps arms (value_at env m args known (at ps source)) known made
  control_position env m args ps (Equal a b body) known made = if equal_held (value_at env m args known (at ps a)) (value_at env m args known (at ps b)) then block_position env m args ps body known made else None
  control_position env m args ps (Loop result body) known made = None
  control_position env m args ps (Return pos result) known made = Some pos

  pub arms_position : Environment → Meaning → List Value → List Path → Arms → Held → Known → List Made → Option Pos
  arms_position env m args ps NoArm h known made = None
  arms_position env m args ps (Arm c places body arms) h known made = if meets env m c h then block_position env m args ps body known made else arms_position env m args ps arms h known made

-- that of the rule whose result is given: none if no rule holds, or one of its calls fails
abbrev pub rule_position : Environment → Meaning → List Value → List Path → Option FlatRule → Option Pos
rule_position env m args ps None = None
rule_position env m args ps (Some f) = then_position (run_calls env m args (map (at ps) f.ordered) nothing_known []) (λ known made. Some f.pos)

-- that of the rules of a set whose bindings have these paths
abbrev pub set_position : Environment → Meaning → List Value → List Path → List FlatRule → Option Pos
set_position env m args ps fs = rule_position env m args ps (highest (flat_holds env m args ps) fs)
