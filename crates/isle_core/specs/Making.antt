-- What the terms of types make.
use Rattle.std.specs.Prelude.{List, Option, Some, None, slice_get}
use Rattle.isle_base.specs.declared.ids.TermId.{TermId}
use Rattle.isle_base.specs.declared.ids.TypeId.{TypeId}
use Rattle.isle_base.specs.declared.ids.VariantId.{VariantId}
use Rattle.isle_core.specs.declared.types.Term.{Term}
use Rattle.isle_core.specs.declared.types.TermKind.{TermKind}
use Rattle.isle_core.specs.declared.types.TermKind.TheVariants as term_kind
use Rattle.isle_core.specs.Rule.{Environment}

-- a term makes a variant or a struct, or it is declared and makes nothing
pub data Making : Type 0 where
  MakesVariant : TypeId → VariantId → Making
  MakesStruct : TypeId → Making
  MakesNothing : Making

-- what a term of this kind makes
abbrev pub making_kind : TermKind → Making
making_kind (term_kind.Variant ty variant) = MakesVariant ty variant
making_kind (term_kind.Struct ty) = MakesStruct ty
making_kind (term_kind.Decl pure multi partial recursive constructor extractor) = MakesNothing

-- so of one that is there
abbrev pub making_of : Option Term → Making
making_of None = MakesNothing
making_of (Some t) = making_kind t.kind

-- what a term makes
abbrev pub making_in : List Term → TermId → Making
making_in terms term = making_of (slice_get terms term.0)

-- so of one of an environment
abbrev pub making : Environment → TermId → Making
making env term = making_in env.terms term
