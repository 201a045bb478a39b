-- When a block is lawful for a rule set of a term.
use Rattle.std.specs.Prelude.{◌≡◌, ◌==◌, ℕ, List, [], ◌∷◌, ◌++◌, true, false, not, Option, Some, None, Contains, map, filter, slice_get}
use Rattle.std.specs.List.{AllByRecursion, list_any}
use Rattle.isle_core.specs.declared.rule_sets.Constraint.{Constraint}
use Rattle.isle_core.specs.declared.rule_sets.Constraint.TheVariants as constraint
use Rattle.isle_core.specs.Rule.{Environment}
use Rattle.isle_base.specs.declared.ids.BindingId.{BindingId}
use Rattle.isle_base.specs.declared.ids.TypeId.{TypeId}
use Rattle.isle_core.specs.ArmPlaces.{ArePlacesOf, bound_within}
use Rattle.isle_core.specs.Bindable.{AreBindable, bound_by}
use Rattle.isle_core.specs.Block.{Block, Stop, Step, Control, Match, Equal, Loop, Return, Arms, NoArm, Arm}
use Rattle.isle_core.specs.ConstraintType.{IsConstraintOf}
use Rattle.isle_core.specs.Occurrences.{AreNew, occurrences, after_control}
use Rattle.isle_core.specs.Readable.{IsReadAs, IsOptionRead}
use Rattle.isle_core.specs.declared.rule_sets.Binding.{Binding}
use Rattle.isle_core.specs.declared.rule_sets.Binding.TheVariants as binding
use Rattle.isle_core.specs.Path.{at}
use Rattle.isle_core.specs.NewItems.{HasNewItems}
use Rattle.isle_core.specs.PathType.{IsListOf}
use Rattle.isle_core.specs.Setting.{Setting, gives_several, paths_in}

-- what a Match is over: a value of a type, or an option of what has these types
pub data Source : Type 0 where
  AValue : TypeId → Source
  AnOption : List TypeId → Source

-- the binding is read as such
abbrev pub IsReadIn : Setting → List ℕ → BindingId → Source → Type 0
IsReadIn s bound b (AValue ty) = IsReadAs s bound b ty
IsReadIn s bound b (AnOption tys) = IsOptionRead s bound b tys

-- a constraint over such: one of the value's type, or Some
abbrev pub IsConstraintOver : Environment → Constraint → Source → Type 0
IsConstraintOver env c (AValue ty) = IsConstraintOf env c ty
IsConstraintOver env c (AnOption tys) = c ≡ constraint.Some

-- at least one arm
abbrev pub HasArm : Arms → Type 0
HasArm NoArm = ⊥
HasArm (Arm c places body arms) = Unit {0}

-- the result of a Loop is the item of a list that is bound
pub record IsLoopOver (s : Setting) (bound : List ℕ) (result : BindingId) : Type 0 where
  pub source : BindingId
  pub is : slice_get s.bindings result.0 ≡ Some (binding.Iterator source)
  pub tys : List TypeId
  pub list : IsListOf s.env s.term (at (paths_in s) source) tys
  pub bound' : Contains bound source.0

-- each step binds what may be bound, no impure call twice on one way through the block, and reads what may be read; a
-- Return is last in its block, but for a term that answers several times, to which alone Loops belong. Bound are these bindings, and these
-- impure calls may have been bound before
abbrev mutual
  pub IsLawfulFrom : Setting → (bound made : List ℕ) → Block → Type 0
  IsLawfulFrom s bound made Stop = Unit {0}
  IsLawfulFrom s bound made (Step binds c more) =
      AreBindable s bound binds × AreNew made (occurrences s.env (paths_in s) binds)
      × IsLawfulControl s (bound_by bound binds) (made ++ occurrences s.env (paths_in s) binds) c more
      × IsLawfulFrom s (bound_by bound binds) (after_control (gives_several s) s.env (paths_in s) (made ++ occurrences s.env (paths_in s) binds) c) more

  -- what a step does, and the steps after it
  pub IsLawfulControl : Setting → (bound made : List ℕ) → Control → Block → Type 0
  IsLawfulControl s bound made (Match source arms) more = HasArm arms × ((over : Source) × IsReadIn s bound source over × AreLawfulArms s bound made source over arms)
  IsLawfulControl s bound made (Equal a b body) more = ((ty : TypeId) × IsReadAs s bound a ty × IsReadAs s bound b ty) × IsLawfulFrom s bound made body
  IsLawfulControl s bound made (Loop result body) more = (gives_several s ≡ true) × IsLoopOver s bound result × IsLawfulFrom s (bound ++ result.0 ∷ []) made body
  IsLawfulControl s bound made (Return pos result) more = IsReadAs s bound result s.term.ret_ty × (gives_several s ≡ false → more ≡ Stop)

  -- arms over such a source
  pub AreLawfulArms : Setting → (bound made : List ℕ) → BindingId → Source → Arms → Type 0
  AreLawfulArms s bound made source over NoArm = Unit {0}
  AreLawfulArms s bound made source over (Arm c places body arms) =
      IsConstraintOver s.env c over × ArePlacesOf s source c places × IsLawfulFrom s (bound_within bound places) made body × AreLawfulArms s bound made source over arms

-- ---- lists

-- the list whose item a binding is
abbrev pub list_at : Option Binding → List ℕ
list_at (Some (binding.Iterator source)) = source.0 ∷ []
list_at (Some (binding.ConstBool val ty)) = []
list_at (Some (binding.ConstInt val ty)) = []
list_at (Some (binding.ConstPrim val)) = []
list_at (Some (binding.Argument index)) = []
list_at (Some (binding.Extractor term parameter)) = []
list_at (Some (binding.Constructor term parameters instance)) = []
list_at (Some (binding.MakeVariant ty variant fields)) = []
list_at (Some (binding.MakeStruct ty fields)) = []
list_at (Some (binding.MatchVariant source variant field)) = []
list_at (Some (binding.ExtractStruct source field)) = []
list_at (Some (binding.MakeSome inner)) = []
list_at (Some (binding.MatchSome source)) = []
list_at (Some (binding.MatchTuple source field)) = []
list_at None = []

-- the lists that a block loops over
abbrev mutual
  pub looped : Setting → Block → List ℕ
  looped s Stop = []
  looped s (Step binds c more) = looped_by s c ++ looped s more

  pub looped_by : Setting → Control → List ℕ
  looped_by s (Match source arms) = looped_in s arms
  looped_by s (Equal a b body) = looped s body
  looped_by s (Loop result body) = list_at (slice_get s.bindings result.0) ++ looped s body
  looped_by s (Return pos result) = []

  pub looped_in : Setting → Arms → List ℕ
  looped_in s NoArm = []
  looped_in s (Arm c places body arms) = looped s body ++ looped_in s arms

-- these without those
abbrev pub without : List ℕ → List ℕ → List ℕ
without xs ys = filter (λ (x : ℕ). not (list_any (λ (y : ℕ). x == y) ys)) xs

-- each Loop is over a list that is bound, and not looped over since; none that is bound outside a Loop is looped over within it, if there is a
-- later turn. These lists are bound and not looped over
abbrev mutual
  pub LoopsOnce : Setting → (fresh : List ℕ) → Block → Type 0
  LoopsOnce s fresh Stop = Unit {0}
  LoopsOnce s fresh (Step binds c more) =
      ControlLoopsOnce s (fresh ++ map (λ (b : BindingId). b.0) binds) c × LoopsOnce s (without (fresh ++ map (λ (b : BindingId). b.0) binds) (looped_by s c)) more

  pub ControlLoopsOnce : Setting → (fresh : List ℕ) → Control → Type 0
  ControlLoopsOnce s fresh (Match source arms) = ArmsLoopOnce s fresh arms
  ControlLoopsOnce s fresh (Equal a b body) = LoopsOnce s fresh body
  ControlLoopsOnce s fresh (Loop result body) = AllByRecursion (Contains fresh) (list_at (slice_get s.bindings result.0)) × LoopsOnce s [] body
  ControlLoopsOnce s fresh (Return pos result) = Unit {0}

  pub ArmsLoopOnce : Setting → (fresh : List ℕ) → Arms → Type 0
  ArmsLoopOnce s fresh NoArm = Unit {0}
  ArmsLoopOnce s fresh (Arm c places body arms) = LoopsOnce s fresh body × ArmsLoopOnce s fresh arms

-- if nothing is bound yet; Loops are over new items
pub record IsLawfulBlock (s : Setting) (b : Block) : Type 0 where
  pub from : IsLawfulFrom s [] [] b
  pub loops : LoopsOnce s [] b
  pub items : HasNewItems s b
