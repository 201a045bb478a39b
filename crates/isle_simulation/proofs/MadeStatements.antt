-- What holds of each single statement that emission makes holds of all statements of a lawful block: one walk, over which the laws of
-- calls, marks, operands and types go.
use Rattle.std.proofs.Common.{◌≡◌, refl, ℕ, List, [], ◌∷◌, ◌++◌, Bool, true, false, Option, Some, None}
use Rattle.std.specs.Prelude.{slice_get}
use Rattle.std.specs.List.{AllByRecursion}
use Rattle.isle_core.specs.declared.BindingId.{BindingId}
use Rattle.isle_core.specs.declared.TypeId.{TypeId}
use Rattle.isle_core.specs.declared.rule_sets.Constraint.{Constraint}
use Rattle.isle_core.specs.declared.rule_sets.Constraint.TheVariants as constraint
use Rattle.isle_core.specs.ArmPlaces.{ArePlacesOf, bound_within}
use Rattle.isle_core.specs.Bindable.{bound_by}
use Rattle.isle_core.specs.Block.{Block, Stop, Step, Control, Match, Equal, Loop, Return, Arms, NoArm, Arm}
use Rattle.isle_core.specs.BlockLawful.{Source, IsConstraintOver}
use Rattle.isle_core.specs.Calling.{kind_of}
use Rattle.isle_core.specs.Path.{at}
use Rattle.isle_core.specs.Setting.{Setting, gives_several, paths_in}
use Rattle.isle_core.proofs.AllLaws.{all_append}
use Rattle.isle_tree.specs.Program as tree
use Rattle.isle_tree.specs.Program.{Stmt, IfEq, Overflow, Log, Body, Done, Then}
use Rattle.isle_tree.specs.declared.tree.TPat.{TPat}
use Rattle.isle_tree.specs.Walk.{of_stmt, of_body, of_arms}
use Rattle.isle_simulation.specs.LogLines.{LogLine}
use Rattle.isle_simulation.specs.Manner.{Manner, has_closure, closed_if, arm_manner}
use Rattle.isle_simulation.specs.Telling.{Telling}
use Rattle.isle_simulation.proofs.Ready.{IsReady, IsReadyIn, IsReadyBind, AreReadyBinds, IsReadyFrom, IsReadyControl, AreReadyArms}
use Rattle.isle_simulation.proofs.Written.{arm_body, written_operand, written_read, bound_stmt, lets, result_stmt, stop_before, arm_stmt, written_arm, match_read, told_before, told_body, told_control, told_each}

-- what the arms of a block test
abbrev mutual
  pub AllTested : (BindingId → Constraint → Type 0) → Block → Type 0
  AllTested Tested Stop = Unit {0}
  AllTested Tested (Step binds c more) = AllTestedBy Tested c × AllTested Tested more

  pub AllTestedBy : (BindingId → Constraint → Type 0) → Control → Type 0
  AllTestedBy Tested (Match source arms) = AllTestedIn Tested source arms
  AllTestedBy Tested (Equal a b body) = AllTested Tested body
  AllTestedBy Tested (Loop result body) = AllTested Tested body
  AllTestedBy Tested (Return pos result) = Unit {0}

  pub AllTestedIn : (BindingId → Constraint → Type 0) → BindingId → Arms → Type 0
  AllTestedIn Tested source NoArm = Unit {0}
  AllTestedIn Tested source (Arm c places body arms) = Tested source c × AllTested Tested body × AllTestedIn Tested source arms

-- any constraint
abbrev pub Anything : BindingId → Constraint → Type 0
Anything source c = Unit {0}

mutual
  pub any_tested : (b : Block) → AllTested Anything b
  any_tested Stop = tt
  any_tested (Step binds c more) = (any_tested_by c, any_tested more)

  any_tested_by : (c : Control) → AllTestedBy Anything c
  any_tested_by (Match source arms) = any_tested_in source arms
  any_tested_by (Equal a b body) = any_tested body
  any_tested_by (Loop result body) = any_tested body
  any_tested_by (Return pos result) = tt

  any_tested_in : (source : BindingId) (arms : Arms) → AllTestedIn Anything source arms
  any_tested_in source NoArm = tt
  any_tested_in source (Arm c places body arms) = (tt, any_tested body, any_tested_in source arms)

-- a pattern is that of a constraint over what is matched, which is tested
pub record IsArmOf (s : Setting) (Tested : BindingId → Constraint → Type 0) (source : BindingId) (over : Source) (pat : TPat) : Type 0 where
  pub c : Constraint
  pub places : List (Option BindingId)
  pub is : pat ≡ written_arm s.env c places
  pub over' : IsConstraintOver s.env c over
  pub parts : ArePlacesOf s source c places
  pub tested : Tested source c

-- so of each arm, whatever stands inside
abbrev pub AreArmsOf : Setting → (BindingId → Constraint → Type 0) → BindingId → Source → tree.Arms → Type 0
AreArmsOf s Tested source over tree.NoArm = Unit {0}
AreArmsOf s Tested source over (tree.Arm pat inside arms) = IsArmOf s Tested source over pat × AreArmsOf s Tested source over arms

-- what a single statement gives is so, of each that emission makes: the statements inside it left aside
pub record EachMade {A : Type 0} (each : Stmt → List A) (P : A → Type 0) (s : Setting) (Tested : BindingId → Constraint → Type 0) : Type 0 where
  pub bound : (locals : List ℕ) (b : BindingId) → IsReadyBind s locals (at (paths_in s) b) (slice_get s.bindings b.0) → AllByRecursion P (of_stmt each (bound_stmt s locals b))
  pub result : (locals : List ℕ) (result : BindingId) → IsReady s locals result s.term.ret_ty → AllByRecursion P (of_stmt each (result_stmt (kind_of s.term.kind) (written_read s locals false result)))
  pub stop : (inside : Bool) (limit : ℕ) → AllByRecursion P (each (Overflow inside limit))
  pub split : (inside : Body) (within : Bool) → AllByRecursion P (each (tree.Split inside within))
  pub log : (line : LogLine) → AllByRecursion P (each (Log line.0 line.1))
  pub equal : (locals : List ℕ) (a b : BindingId) (ty : TypeId) (inside : Body) → IsReady s locals a ty → IsReady s locals b ty → AllByRecursion P (each (IfEq (written_operand s locals a) (written_operand s locals b) inside))
  pub arm : (locals : List ℕ) (source : BindingId) (over : Source) (c : Constraint) (places : List (Option BindingId)) (inside : Body)
      → IsReadyIn s locals source over → IsConstraintOver s.env c over → ArePlacesOf s source c places → Tested source c → AllByRecursion P (each (arm_stmt s locals source c places inside))
  pub several : (locals : List ℕ) (source : BindingId) (over : Source) (c : Constraint) (arms : tree.Arms) → IsReadyIn s locals source over → IsConstraintOver s.env c over → AreArmsOf s Tested source over arms → AllByRecursion P (each (tree.Match (match_read s locals source c) arms))
  pub loop : (list item : ℕ) (inside : Body) → AllByRecursion P (each (tree.Loop list item inside))

module _ {A : Type 0} (each : Stmt → List A) (P : A → Type 0) (s : Setting) (Tested : BindingId → Constraint → Type 0) (made : EachMade each P s Tested) where
  abbrev Holds : List A → Type 0
  Holds = AllByRecursion P

  both : (xs ys : List A) → Holds xs → Holds ys → Holds (xs ++ ys)
  both = all_append P

  lets_hold : (locals : List ℕ) (binds : List BindingId) (more : Body) → AreReadyBinds s locals binds → Holds (of_body each more) → Holds (of_body each (lets s locals binds more))
  lets_hold locals [] more h k = k
  lets_hold locals (b ∷ binds) more h k = both (of_stmt each (bound_stmt s locals b)) (of_body each (lets s (locals ++ b.0 ∷ []) binds more)) (made.bound locals b h.0) (lets_hold (locals ++ b.0 ∷ []) binds more h.1 k)

  told_holds : (telling : Telling) (c : Control) (after : Body) → Holds (of_body each after) → Holds (of_body each (told_before telling c after))
  told_holds None c after h = h
  told_holds (Some line) (Match source arms) after h = h
  told_holds (Some line) (Equal a b body) after h = h
  told_holds (Some line) (Loop result body) after h = h
  told_holds (Some line) (Return pos result) after h = both (each (Log (line pos).0 (line pos).1)) (of_body each after) (made.log (line pos)) h

  stop_holds : (manner : Manner) (several : Bool) (c : Control) (after : Body) → Holds (of_body each after) → Holds (of_body each (stop_before manner several c after))
  stop_holds manner true (Return pos result) after h = both (each (Overflow manner.inside manner.limit)) (of_body each after) (made.stop manner.inside manner.limit) h
  stop_holds manner true (Match source arms) after h = h
  stop_holds manner true (Equal a b body) after h = h
  stop_holds manner true (Loop result body) after h = h
  stop_holds manner false c after h = h

  -- statements in a closure of their own, or not
  closure_holds : (own within : Bool) (inside : Body) → Holds (of_body each inside) → Holds (of_body each (closed_if own within inside))
  closure_holds true within inside h = both (each (tree.Split inside within) ++ of_body each inside) [] (both (each (tree.Split inside within)) (of_body each inside) (made.split inside within) h) tt
  closure_holds false within inside h = h

  -- an arm's test, and what is inside it
  arm_holds : (locals : List ℕ) (source : BindingId) (c : Constraint) (places : List (Option BindingId)) (inside : Body)
      → Holds (each (arm_stmt s locals source c places inside)) → Holds (of_body each inside) → Holds (of_stmt each (arm_stmt s locals source c places inside))
  arm_holds locals source (constraint.ConstBool val) places inside h k = both _ (of_body each inside) h k
  arm_holds locals source (constraint.ConstInt val ty) places inside h k = both _ (of_body each inside) h k
  arm_holds locals source (constraint.ConstPrim val) places inside h k = both _ (of_body each inside) h k
  arm_holds locals source (constraint.Variant ty variant) places inside h k = both _ (of_body each inside) h k
  arm_holds locals source (constraint.Struct ty) places inside h k = both _ (of_body each inside) h k
  arm_holds locals source constraint.Some places inside h k = both _ (of_body each inside) h k

  -- the arms of a match are of the block's
  arms_of : (manner : Manner) (arms : Arms) (locals calls : List ℕ) (source : BindingId) (over : Source) → AreReadyArms s locals calls source over arms → AllTestedIn Tested source arms → AreArmsOf s Tested source over (told_each manner s locals arms)
  arms_of manner NoArm locals calls source over h w = tt
  arms_of manner (Arm c places body arms) locals calls source over h w = (record { c = c; places = places; is = refl; over' = h.0; parts = h.1; tested = w.0 }, arms_of manner arms locals calls source over h.3 w.2)

  mutual
    pub block_holds : (manner : Manner) (b : Block) (locals calls : List ℕ) (end : Body) → IsReadyFrom s locals calls b → AllTested Tested b → Holds (of_body each end) → Holds (of_body each (told_body manner s locals b end))
    block_holds manner Stop locals calls end h w k = k
    block_holds manner (Step binds c more) locals calls end h w k =
        let now = bound_by locals binds in
        let rest = stop_before manner (gives_several s) c (told_body manner s now more end) in
        lets_hold locals binds _ h.0
        (told_holds manner.telling c (Then (told_control manner s now c) rest)
        (both (of_stmt each (told_control manner s now c)) (of_body each rest) (control_holds manner c now _ h.2 w.0) (stop_holds manner (gives_several s) c (told_body manner s now more end) (block_holds manner more now _ end h.3 w.1 k))))

    control_holds : (manner : Manner) (c : Control) (locals calls : List ℕ) → IsReadyControl s locals calls c → AllTestedBy Tested c → Holds (of_stmt each (told_control manner s locals c))
    control_holds manner (Match source (Arm c places body NoArm)) locals calls h w =
        let inside = arm_body manner body (told_body (arm_manner manner body) s (bound_within locals places) body Done) in
        arm_holds locals source c places inside (made.arm locals source h.1.0 c places inside h.1.1 h.1.2.0 h.1.2.1 w.0) (closure_holds (has_closure manner body) manner.inside _ (block_holds (arm_manner manner body) body (bound_within locals places) calls Done h.1.2.2 w.1 tt))
    control_holds manner (Match source (Arm c places body (Arm d others inside arms))) locals calls h w =
        let those = told_each manner s locals (Arm c places body (Arm d others inside arms)) in
        both (each (tree.Match (match_read s locals source c) those)) (of_arms each those)
        (made.several locals source h.1.0 c those h.1.1 h.1.2.0 (arms_of manner (Arm c places body (Arm d others inside arms)) locals calls source h.1.0 h.1.2 w))
        (each_holds manner (Arm c places body (Arm d others inside arms)) locals calls source h.1.0 h.1.2 w)
    control_holds manner (Match source NoArm) locals calls h w = absurd h.0
    control_holds manner (Equal a b body) locals calls h w =
        both _ (of_body each (told_body manner s locals body Done)) (made.equal locals a b h.0.0 _ h.0.1 h.0.2) (block_holds manner body locals calls Done h.1 w tt)
    control_holds manner (Loop result body) locals calls h w = both _ (of_body each (told_body manner s (locals ++ result.0 ∷ []) body Done)) (made.loop _ result.0 _) (block_holds manner body (locals ++ result.0 ∷ []) calls Done h.1 w tt)
    control_holds manner (Return pos result) locals calls h w = made.result locals result h

    -- what is inside each of several arms
    each_holds : (manner : Manner) (arms : Arms) (locals calls : List ℕ) (source : BindingId) (over : Source) → AreReadyArms s locals calls source over arms → AllTestedIn Tested source arms → Holds (of_arms each (told_each manner s locals arms))
    each_holds manner NoArm locals calls source over h w = tt
    each_holds manner (Arm c places body arms) locals calls source over h w =
        both (of_body each (arm_body manner body (told_body (arm_manner manner body) s (bound_within locals places) body Done))) (of_arms each (told_each manner s locals arms))
        (closure_holds (has_closure manner body) manner.inside _ (block_holds (arm_manner manner body) body (bound_within locals places) calls Done h.2 w.1 tt)) (each_holds manner arms locals calls source over h.3 w.2)
