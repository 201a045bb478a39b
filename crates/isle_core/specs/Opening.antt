-- How a term's pattern takes apart what stands at a path.
use Rattle.std.specs.Prelude.{ℕ, zero, suc, length, Option, Some, None, if◌then◌else◌, slice_get}
use Rattle.isle_base.specs.declared.ids.TermId.{TermId}
use Rattle.isle_base.specs.declared.ids.TypeId.{TypeId}
use Rattle.isle_base.specs.declared.ids.VariantId.{VariantId}
use Rattle.isle_core.specs.declared.types.Term.{Term}
use Rattle.isle_core.specs.Calling.{Calling, answers_often, is_fallible, extracting}
use Rattle.isle_core.specs.Making.{Making, MakesVariant, MakesStruct, MakesNothing, making}
use Rattle.isle_core.specs.Path.{Path, Extracted, Chosen, VariantField, StructField, Inner, Part}
use Rattle.isle_core.specs.Rule.{Environment}

-- as a variant, as a struct, or by an extractor that gives so many results
pub data Opening : Type 0 where
  AsVariant : TypeId → VariantId → Opening
  AsStruct : TypeId → Opening
  ByExtractor : TermId → Calling → (results : ℕ) → Opening

-- how many results the extractor of a term gives: as many as its constructor takes arguments
abbrev pub result_count : Option Term → ℕ
result_count None = 0
result_count (Some t) = length t.arg_tys

-- by what the term makes, or how it is called as an extractor
abbrev pub opening_by : TermId → Making → Calling → Option Term → Opening
opening_by term (MakesVariant ty variant) c t = AsVariant ty variant
opening_by term (MakesStruct ty) c t = AsStruct ty
opening_by term MakesNothing c t = ByExtractor term c (result_count t)

-- how the term takes a value apart
abbrev pub opening : Environment → TermId → Opening
opening env term = opening_by term (making env term) (extracting env term) (slice_get env.terms term.0)

-- the path of a call's value: the chosen item of a list, or the inner value of what may be nothing
abbrev pub answer_path : Calling → Path → Path
answer_path c p = if answers_often c then Chosen p else if is_fallible c then Inner p else p

-- the path of a result: of one it is the answer's, of several a part of it
abbrev pub result_path : (count : ℕ) → ℕ → Path → Path
result_path zero i p = Part i p
result_path (suc zero) i p = p
result_path (suc (suc count)) i p = Part i p

-- the path of a part
abbrev pub part_path : Opening → ℕ → Path → Path
part_path (AsVariant ty variant) i p = VariantField variant i p
part_path (AsStruct ty) i p = StructField i p
part_path (ByExtractor term c count) i p = result_path count i (answer_path c (Extracted term p))
