-- Bindings that may stand in a bind order.
use Rattle.std.specs.Prelude.{◌≡◌, ℕ, List, [], ◌∷◌, ◌++◌, true, Option, Some, None, Contains, slice_get}
use Rattle.isle_base.specs.declared.ids.BindingId.{BindingId}
use Rattle.isle_base.specs.declared.ids.TermId.{TermId}
use Rattle.isle_base.specs.declared.ids.TupleIndex.{TupleIndex}
use Rattle.isle_base.specs.declared.ids.TypeId.{TypeId}
use Rattle.isle_core.specs.declared.rule_sets.Binding.{Binding}
use Rattle.isle_core.specs.declared.rule_sets.Binding.TheVariants as binding
use Rattle.isle_core.specs.declared.types.ReturnKind.{ReturnKind}
use Rattle.isle_core.specs.declared.types.Term.{Term}
use Rattle.isle_core.specs.Calling.{calling, extracting, kind_of, may_be_nothing}
use Rattle.isle_core.specs.ExternalCall.{IsCall, IsExtraction}
use Rattle.isle_core.specs.Path.{Path, Extracted, Called, Inner, Part, at, at_all}
use Rattle.isle_core.specs.PathType.{IsPathOf, IsTupleOf, IsOptionOf}
use Rattle.isle_core.specs.Readable.{IsInPlace, AreReadable, IsReadAs, AreReadAs}
use Rattle.isle_core.specs.Rule.{Environment}
use Rattle.isle_core.specs.Setting.{Setting, paths_in}

-- a call of a term whose arguments may be read
pub record IsCallBound (s : Setting) (bound : List ℕ) (p : Path) (term : TermId) (parameters : List BindingId) (instance : ℕ) : Type 0 where
  pub path : p ≡ Called term (at_all (paths_in s) parameters) instance
  pub called : Term
  pub found : slice_get s.env.terms term.0 ≡ Some called
  pub args : AreReadAs s bound parameters called.arg_tys
  pub kind : ReturnKind
  pub external : IsCall kind (calling s.env term)

-- a call of an external extractor, on a value that may be read
pub record IsExtractorBound (s : Setting) (bound : List ℕ) (p : Path) (term : TermId) (parameter : BindingId) : Type 0 where
  pub path : p ≡ Extracted term (at (paths_in s) parameter)
  pub called : Term
  pub found : slice_get s.env.terms term.0 ≡ Some called
  pub arg : IsReadAs s bound parameter called.ret_ty
  pub kind : ReturnKind
  pub external : IsExtraction kind (extracting s.env term)

-- an inner value of a bound option; only in a term that may answer nothing
pub record IsInnerBound (s : Setting) (bound : List ℕ) (p : Path) (source : BindingId) : Type 0 where
  pub path : p ≡ Inner (at (paths_in s) source)
  pub tys : List TypeId
  pub option : IsOptionOf s.env s.term (at (paths_in s) source) tys
  pub bound' : Contains bound source.0
  pub fits : may_be_nothing (kind_of s.term.kind) ≡ true

-- a part of a bound tuple
pub record IsPartBound (s : Setting) (bound : List ℕ) (p : Path) (source : BindingId) (field : TupleIndex) : Type 0 where
  pub path : p ≡ Part field.0 (at (paths_in s) source)
  pub tys : List TypeId
  pub tuple : IsTupleOf s.env s.term (at (paths_in s) source) tys
  pub ty : TypeId
  pub there : slice_get tys field.0 ≡ Some ty
  pub bound' : Contains bound source.0

-- a made value of some type, whose parts may be read
pub record IsMadeBound (s : Setting) (bound : List ℕ) (p : Path) (fields : List BindingId) : Type 0 where
  pub ty : TypeId
  pub path : IsPathOf s.env s.term p ty
  pub parts : AreReadable s bound fields

-- an argument or a constant of some type
abbrev pub IsPlain : Environment → Term → Path → Type 0
IsPlain env t p = IsInPlace p × ((ty : TypeId) × IsPathOf env t p ty)

-- a binding that may stand in a bind order, where these are bound: a call, also of an extractor, an inner value, a part of a tuple, an argument, a
-- constant or a made value
abbrev pub IsBindable : Setting → List ℕ → Path → Option Binding → Type 0
IsBindable s bound p (Some (binding.Constructor term parameters instance)) = IsCallBound s bound p term parameters instance
IsBindable s bound p (Some (binding.MatchSome source)) = IsInnerBound s bound p source
IsBindable s bound p (Some (binding.Argument index)) = IsPlain s.env s.term p
IsBindable s bound p (Some (binding.ConstBool val ty)) = IsPlain s.env s.term p
IsBindable s bound p (Some (binding.ConstInt val ty)) = IsPlain s.env s.term p
IsBindable s bound p (Some (binding.ConstPrim val)) = IsPlain s.env s.term p
IsBindable s bound p (Some (binding.MakeVariant ty variant fields)) = IsMadeBound s bound p fields
IsBindable s bound p (Some (binding.MakeStruct ty fields)) = IsMadeBound s bound p fields
IsBindable s bound p None = ⊥
IsBindable s bound p (Some (binding.Extractor term parameter)) = IsExtractorBound s bound p term parameter
IsBindable s bound p (Some (binding.Iterator source)) = ⊥
IsBindable s bound p (Some (binding.MatchVariant source variant field)) = ⊥
IsBindable s bound p (Some (binding.ExtractStruct source field)) = ⊥
IsBindable s bound p (Some (binding.MakeSome inner)) = ⊥
IsBindable s bound p (Some (binding.MatchTuple source field)) = IsPartBound s bound p source field

-- the bindings that are bound after a bind order
abbrev pub bound_by : List ℕ → List BindingId → List ℕ
bound_by bound [] = bound
bound_by bound (b ∷ more) = bound_by (bound ++ b.0 ∷ []) more

-- each binding of a bind order may stand there
abbrev pub AreBindable : Setting → List ℕ → List BindingId → Type 0
AreBindable s bound [] = Unit {0}
AreBindable s bound (b ∷ more) = IsBindable s bound (at (paths_in s) b) (slice_get s.bindings b.0) × AreBindable s (bound ++ b.0 ∷ []) more
