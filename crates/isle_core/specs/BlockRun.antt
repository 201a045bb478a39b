-- What a block does.
use Rattle.std.specs.Prelude.{List, [], ◌∷◌, if◌then◌else◌}
use Rattle.isle_base.specs.declared.ids.BindingId.{BindingId}
use Rattle.isle_core.specs.declared.types.ReturnKind.{ReturnKind}
use Rattle.isle_core.specs.Value.{Value, Made}
use Rattle.isle_core.specs.Meaning.{Meaning}
use Rattle.isle_core.specs.Outcome.{Prescription}
use Rattle.isle_core.specs.Path.{Path, Nowhere, Arg, ConstBool, ConstInt, ConstPrim, Extracted, Called, Chosen, MadeVariant, MadeStruct, VariantField, StructField, Wrapped, Inner, Part, at}
use Rattle.isle_core.specs.Answered.{Held}
use Rattle.isle_core.specs.ValueAt.{Known, nothing_known, value_at, meets, equal_held}
use Rattle.isle_core.specs.CallRun.{Went, Goes, then_go, returns, make, unless_nothing}
use Rattle.isle_core.specs.RuleSet.{gave}
use Rattle.isle_core.specs.Block.{Block, Stop, Step, Control, Match, Equal, Loop, Return, Arms, NoArm, Arm}
use Rattle.isle_core.specs.Rule.{Environment}

-- nothing in place of an inner value is a failure
abbrev pub check_inner : Environment → Meaning → List Value → Path → Known → List Made → Went
check_inner env m args (Inner p) known made = unless_nothing (value_at env m args known p) known made
check_inner env m args Nowhere known made = Goes known made
check_inner env m args (Arg i) known made = Goes known made
check_inner env m args (ConstBool of b) known made = Goes known made
check_inner env m args (ConstInt of n) known made = Goes known made
check_inner env m args (ConstPrim name) known made = Goes known made
check_inner env m args (Extracted term q) known made = Goes known made
check_inner env m args (Called term ps instance) known made = Goes known made
check_inner env m args (Chosen q) known made = Goes known made
check_inner env m args (MadeVariant of variant ps) known made = Goes known made
check_inner env m args (MadeStruct of ps) known made = Goes known made
check_inner env m args (VariantField variant field q) known made = Goes known made
check_inner env m args (StructField field q) known made = Goes known made
check_inner env m args (Wrapped q) known made = Goes known made
check_inner env m args (Part part q) known made = Goes known made

-- binding a path: a call is made, an inner value must be there
abbrev pub bind_one : Environment → Meaning → List Value → Path → Known → List Made → Went
bind_one env m args p known made = then_go (make env m args p known made) (check_inner env m args p)

-- binding paths in order
abbrev pub bind_all : Environment → Meaning → List Value → List Path → List BindingId → Known → List Made → Went
bind_all env m args ps [] known made = Goes known made
bind_all env m args ps (b ∷ bs) known made = then_go (bind_one env m args (at ps b) known made) (bind_all env m args ps bs)

-- steps in order; a Match runs the first arm whose constraint holds, an Equal its body if the two are equal; no Loop is built
abbrev mutual
  pub block_run : Environment → Meaning → List Value → List Path → Block → Known → List Made → Went
  block_run env m args ps Stop known made = Goes known made
  block_run env m args ps (Step bs c more) known made = then_go (then_go (bind_all env m args ps bs known made) (control_run env m args ps c)) (block_run env m args ps more)

  pub control_run : Environment → Meaning → List Value → List Path → Control → Known → List Made → Went
  control_run env m args ps (Match source arms) known made = arms_run env m args ps arms (value_at env m args known (at ps source)) known made
  control_run env m args ps (Equal a b body) known made =
      if equal_held (value_at env m args known (at ps a)) (value_at env m args known (at ps b)) then block_run env m args ps body known made else Goes known made
  control_run env m args ps (Loop result body) known made = Goes known made
  control_run env m args ps (Return pos result) known made = returns env m args (at ps result) known made

  pub arms_run : Environment → Meaning → List Value → List Path → Arms → Held → Known → List Made → Went
  arms_run env m args ps NoArm h known made = Goes known made
  arms_run env m args ps (Arm c places body arms) h known made = if meets env m c h then block_run env m args ps body known made else arms_run env m args ps arms h known made

-- what a block gives whose bindings have these paths
abbrev pub block_outcome : Environment → Meaning → List Value → List Path → Block → ReturnKind → Prescription
block_outcome env m args ps b kind = gave kind (block_run env m args ps b nothing_known [])
