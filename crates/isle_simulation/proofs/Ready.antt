-- Blocks that are lawful and in which each binding that is read has a local or is spelled if it is read.
use Rattle.std.specs.Prelude.{◌≡◌, ◌⊎◌, ℕ, List, [], ◌∷◌, ◌++◌, true, Option, Some, slice_get}
use Rattle.isle_core.specs.declared.BindingId.{BindingId}
use Rattle.isle_core.specs.declared.TermId.{TermId}
use Rattle.isle_core.specs.declared.TypeId.{TypeId}
use Rattle.isle_core.specs.declared.rule_sets.Binding.{Binding}
use Rattle.isle_core.specs.declared.rule_sets.Binding.TheVariants as binding
use Rattle.isle_core.specs.declared.types.ReturnKind.{ReturnKind}
use Rattle.isle_core.specs.declared.types.Term.{Term}
use Rattle.isle_core.specs.ArmPlaces.{ArePlacesOf, bound_within}
use Rattle.isle_core.specs.Bindable.{IsInnerBound, IsPartBound, IsPlain, bound_by}
use Rattle.isle_core.specs.Block.{Block, Stop, Step, Control, Match, Equal, Loop, Return, Arms, NoArm, Arm}
use Rattle.isle_core.specs.BlockLawful.{Source, AValue, AnOption, IsConstraintOver, HasArm}
use Rattle.isle_core.specs.Calling.{calling, extracting}
use Rattle.isle_core.specs.ExternalCall.{IsCall, IsExtraction}
use Rattle.isle_core.specs.Form.{Form, form, form_types}
use Rattle.isle_core.specs.Making.{Making, MakesVariant, MakesStruct}
use Rattle.isle_core.specs.Occurrences.{AreNew, occurrences, after_control}
use Rattle.isle_core.specs.Path.{Path, Arg, ConstBool, ConstInt, ConstPrim, Extracted, Called, MadeVariant, MadeStruct, Paths, NoPath, at, at_all}
use Rattle.isle_core.specs.PathType.{IsPathOf, IsOptionOf, IsListOf}
use Rattle.isle_core.specs.Setting.{Setting, gives_several, paths_in}
use Rattle.isle_simulation.specs.Operands.{is_bound}

-- an argument, a constant, or a struct without fields
abbrev pub IsSpelled : Path → Type 0
IsSpelled (Arg i) = Unit {0}
IsSpelled (ConstBool ty b) = Unit {0}
IsSpelled (ConstInt ty n) = Unit {0}
IsSpelled (ConstPrim name) = Unit {0}
IsSpelled (MadeStruct ty NoPath) = Unit {0}
IsSpelled p = ⊥

-- a binding of the type that has a local or is spelled
pub record IsReady (s : Setting) (bound : List ℕ) (b : BindingId) (ty : TypeId) : Type 0 where
  pub path : IsPathOf s.env s.term (at (paths_in s) b) ty
  pub place : (is_bound bound b ≡ true) ⊎ IsSpelled (at (paths_in s) b)

-- an option of what has these types that has a local
pub record IsOptionReady (s : Setting) (bound : List ℕ) (b : BindingId) (tys : List TypeId) : Type 0 where
  pub path : IsOptionOf s.env s.term (at (paths_in s) b) tys
  pub bound' : is_bound bound b ≡ true

-- what a match is over is ready
abbrev pub IsReadyIn : Setting → List ℕ → BindingId → Source → Type 0
IsReadyIn s bound b (AValue ty) = IsReady s bound b ty
IsReadyIn s bound b (AnOption tys) = IsOptionReady s bound b tys

-- as many bindings as types
abbrev pub AreReady : Setting → List ℕ → List BindingId → List TypeId → Type 0
AreReady s bound [] [] = Unit {0}
AreReady s bound (b ∷ more) (ty ∷ tys) = IsReady s bound b ty × AreReady s bound more tys
AreReady s bound [] (ty ∷ tys) = ⊥
AreReady s bound (b ∷ more) [] = ⊥

-- a call whose arguments are ready
pub record IsCallReady (s : Setting) (bound : List ℕ) (p : Path) (term : TermId) (parameters : List BindingId) (instance : ℕ) : Type 0 where
  pub path : p ≡ Called term (at_all (paths_in s) parameters) instance
  pub called : Term
  pub found : slice_get s.env.terms term.0 ≡ Some called
  pub args : AreReady s bound parameters called.arg_tys
  pub kind : ReturnKind
  pub external : IsCall kind (calling s.env term)

-- a call of an extractor, on what is ready
pub record IsExtractorReady (s : Setting) (bound : List ℕ) (p : Path) (term : TermId) (parameter : BindingId) : Type 0 where
  pub path : p ≡ Extracted term (at (paths_in s) parameter)
  pub called : Term
  pub found : slice_get s.env.terms term.0 ≡ Some called
  pub arg : IsReady s bound parameter called.ret_ty
  pub kind : ReturnKind
  pub external : IsExtraction kind (extracting s.env term)

-- a made value whose parts are ready
pub record IsMadeReady (s : Setting) (bound : List ℕ) (p : Path) (over : Paths → Path) (mk : Making) (fields : List BindingId) : Type 0 where
  pub path : p ≡ over (at_all (paths_in s) fields)
  pub f : Form
  pub found : form s.env mk ≡ Some f
  pub parts : AreReady s bound fields (form_types s.env f)

-- a binding that may be bound, and what it is computed from is ready
abbrev pub IsReadyBind : Setting → List ℕ → Path → Option Binding → Type 0
IsReadyBind s bound p (Some (binding.Constructor term parameters instance)) = IsCallReady s bound p term parameters instance
IsReadyBind s bound p (Some (binding.Extractor term parameter)) = IsExtractorReady s bound p term parameter
IsReadyBind s bound p (Some (binding.MatchSome source)) = IsInnerBound s bound p source
IsReadyBind s bound p (Some (binding.MatchTuple source field)) = IsPartBound s bound p source field
IsReadyBind s bound p (Some (binding.Argument index)) = IsPlain s.env s.term p
IsReadyBind s bound p (Some (binding.ConstBool val ty)) = IsPlain s.env s.term p
IsReadyBind s bound p (Some (binding.ConstInt val ty)) = IsPlain s.env s.term p
IsReadyBind s bound p (Some (binding.ConstPrim val)) = IsPlain s.env s.term p
IsReadyBind s bound p (Some (binding.MakeVariant ty variant fields)) = IsMadeReady s bound p (MadeVariant ty variant) (MakesVariant ty variant) fields
IsReadyBind s bound p (Some (binding.MakeStruct ty fields)) = IsMadeReady s bound p (MadeStruct ty) (MakesStruct ty) fields
IsReadyBind s bound p o = ⊥

-- so each of a bind order
abbrev pub AreReadyBinds : Setting → List ℕ → List BindingId → Type 0
AreReadyBinds s bound [] = Unit {0}
AreReadyBinds s bound (b ∷ more) = IsReadyBind s bound (at (paths_in s) b) (slice_get s.bindings b.0) × AreReadyBinds s (bound ++ b.0 ∷ []) more

-- a loop over a list that has a local, in a function that answers several times
pub record IsLoopReady (s : Setting) (bound : List ℕ) (result : BindingId) : Type 0 where
  pub several : gives_several s ≡ true
  pub source : BindingId
  pub is : slice_get s.bindings result.0 ≡ Some (binding.Iterator source)
  pub tys : List TypeId
  pub list : IsListOf s.env s.term (at (paths_in s) source) tys
  pub bound' : is_bound bound source ≡ true

-- a lawful block in which all that is read is ready
abbrev mutual
  pub IsReadyFrom : Setting → (bound made : List ℕ) → Block → Type 0
  IsReadyFrom s bound made Stop = Unit {0}
  IsReadyFrom s bound made (Step binds c more) =
      AreReadyBinds s bound binds × AreNew made (occurrences s.env (paths_in s) binds)
      × IsReadyControl s (bound_by bound binds) (made ++ occurrences s.env (paths_in s) binds) c
      × IsReadyFrom s (bound_by bound binds) (after_control (gives_several s) s.env (paths_in s) (made ++ occurrences s.env (paths_in s) binds) c) more

  pub IsReadyControl : Setting → (bound made : List ℕ) → Control → Type 0
  IsReadyControl s bound made (Match source arms) = HasArm arms × ((over : Source) × IsReadyIn s bound source over × AreReadyArms s bound made source over arms)
  IsReadyControl s bound made (Equal a b body) = ((ty : TypeId) × IsReady s bound a ty × IsReady s bound b ty) × IsReadyFrom s bound made body
  IsReadyControl s bound made (Loop result body) = IsLoopReady s bound result × IsReadyFrom s (bound ++ result.0 ∷ []) made body
  IsReadyControl s bound made (Return pos result) = IsReady s bound result s.term.ret_ty

  pub AreReadyArms : Setting → (bound made : List ℕ) → BindingId → Source → Arms → Type 0
  AreReadyArms s bound made source over NoArm = Unit {0}
  AreReadyArms s bound made source over (Arm c places body arms) =
      IsConstraintOver s.env c over × ArePlacesOf s source c places × IsReadyFrom s (bound_within bound places) made body × AreReadyArms s bound made source over arms
