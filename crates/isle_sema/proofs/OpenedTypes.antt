-- What a typed pattern's term takes values apart into: the fields of what a type makes, or what an extractor gives.
use Rattle.std.proofs.Common.{◌≡◌, ℕ, List, length, true, false, Option, Some, None, refl, sym, ap, ◌∙◌, subst}
use Rattle.std.specs.Prelude.{option_map, slice_get}
use Rattle.std.proofs.lemmas.Option.{same_Some}
use Rattle.isle_core.specs.declared.TermId.{TermId}
use Rattle.isle_core.specs.declared.TypeId.{TypeId}
use Rattle.isle_core.specs.declared.types.ExtractorKind.TheVariants as extractor
use Rattle.isle_core.specs.declared.types.ReturnKind.TheVariants as return_kind
use Rattle.isle_core.specs.declared.types.Term.{Term}
use Rattle.isle_core.specs.declared.types.TermKind.{TermKind}
use Rattle.isle_core.specs.declared.types.TermKind.TheVariants as kind
use Rattle.isle_core.specs.declared.values.Callee.TheVariants.{External}
use Rattle.isle_core.specs.BuiltRule.{IsExtractorKind}
use Rattle.isle_core.specs.Calling.{Calling, ByCases, extracting_kind, extracting_of, extracting}
use Rattle.isle_core.specs.Form.{form, form_types}
use Rattle.isle_core.specs.Making.{Making, MakesVariant, MakesStruct, MakesNothing, making}
use Rattle.isle_core.specs.Opening.{Opening, AsVariant, AsStruct, ByExtractor, opening_by, opening}
use Rattle.isle_core.specs.PatternType.{OpensType, part_types}
use Rattle.isle_core.specs.Rule.{Environment}
use Rattle.isle_core.specs.Terms.{sym_text}

-- a call of an external extractor that always finds something, that may find nothing, or that finds several things
pub data IsFinding : Calling → Type 0 where
  finds : (name : List ℕ) → IsFinding (ByCases (External name) return_kind.Plain)
  may_find : (name : List ℕ) → IsFinding (ByCases (External name) return_kind.Option)
  lists : (name : List ℕ) → IsFinding (ByCases (External name) return_kind.Iterator)

-- an extractor is called so
finding_kind : (env : Environment) (k : TermKind) → IsExtractorKind k → IsFinding (extracting_kind env k)
finding_kind env (kind.Decl pure false partial recursive by (extractor.External func true)) h = finds (sym_text env func)
finding_kind env (kind.Decl pure false partial recursive by (extractor.External func false)) h = may_find (sym_text env func)
finding_kind env (kind.Decl pure true partial recursive by (extractor.External func infallible)) h = lists (sym_text env func)
finding_kind env k h = absurd h

-- an extractor that takes values of the type apart into results of these types
pub record IsExtracting (env : Environment) (ty : TypeId) (term : TermId) (c : Calling) (count : ℕ) (tys : List TypeId) : Type 0 where
  pub called : Term
  pub found : slice_get env.terms term.0 ≡ Some called
  pub taken : called.ret_ty ≡ ty
  pub gives : called.arg_tys ≡ tys
  pub many : count ≡ length tys
  pub is : extracting env term ≡ c
  pub finding : IsFinding c

-- values of the type are taken apart into parts of these types: the fields of a form, or results
abbrev pub OpensInto : Environment → TypeId → Opening → List TypeId → Type 0
OpensInto env ty (AsVariant of variant) tys = (of ≡ ty) × (option_map (form_types env) (form env (MakesVariant of variant)) ≡ Some tys)
OpensInto env ty (AsStruct of) tys = (of ≡ ty) × (option_map (form_types env) (form env (MakesStruct of)) ≡ Some tys)
OpensInto env ty (ByExtractor term c count) tys = IsExtracting env ty term c count tys

opens_by : (env : Environment) (ty : TypeId) (term : TermId) (mk : Making) (c : Calling) (o : Option Term) (tys : List TypeId) → slice_get env.terms term.0 ≡ o → extracting env term ≡ c → OpensType ty mk o → part_types env mk o ≡ Some tys
    → OpensInto env ty (opening_by term mk c o) tys
opens_by env ty term (MakesVariant of variant) c o tys at called is e = (is, e)
opens_by env ty term (MakesStruct of) c o tys at called is e = (is, e)
opens_by env ty term MakesNothing c None tys at called is e = absurd is
opens_by env ty term MakesNothing c (Some t) tys at called is e =
    let gives = same_Some t.arg_tys tys e in
    record {
      called = t;
      found = at;
      taken = is.1;
      gives = gives;
      many = ap length gives;
      is = called;
      finding = subst IsFinding (sym (ap (extracting_of env) at) ∙ called) (finding_kind env t.kind is.0);
    }

-- so a typed pattern's term takes values apart
pub opens_into : (env : Environment) (ty : TypeId) (term : TermId) (tys : List TypeId) → OpensType ty (making env term) (slice_get env.terms term.0) → part_types env (making env term) (slice_get env.terms term.0) ≡ Some tys → OpensInto env ty (opening env term) tys
opens_into env ty term tys is e = opens_by env ty term (making env term) (extracting env term) (slice_get env.terms term.0) tys refl refl is e
