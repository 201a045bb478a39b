-- The functions of a term: which it has, and their signatures.
use Rattle.std.specs.Prelude.{ℕ, List, [], ◌∷◌, ◌++◌, Bool, true, false, Option, Some, None, codes}
use Rattle.isle_base.specs.declared.ids.Sym.{Sym}
use Rattle.isle_core.specs.declared.types.Term.{Term}
use Rattle.isle_core.specs.declared.types.TypeEnv.{TypeEnv}
use Rattle.isle_core.specs.declared.types.ExternalSig.{ExternalSig}
use Rattle.isle_core.specs.declared.types.TermKind.{TermKind}
use Rattle.isle_core.specs.declared.types.TermKind.TheVariants as kind
use Rattle.isle_core.specs.declared.types.ConstructorKind.{ConstructorKind}
use Rattle.isle_core.specs.declared.types.ConstructorKind.TheVariants as constructor
use Rattle.isle_core.specs.declared.types.ExtractorKind.{ExtractorKind}
use Rattle.isle_core.specs.declared.types.ExtractorKind.TheVariants as extractor
use Rattle.isle_core.specs.declared.types.ReturnKind.{ReturnKind}
use Rattle.isle_core.specs.Calling.{kind_by, extractor_kind}
use Rattle.isle_core.specs.Terms.{symbol_text}

-- by a function that takes values apart
abbrev pub is_external_extractor : ExtractorKind → Bool
is_external_extractor extractor.Absent = false
is_external_extractor extractor.Internal = false
is_external_extractor (extractor.External func infallible) = true

-- a term has one
abbrev pub has_external_extractor : TermKind → Bool
has_external_extractor (kind.Variant ty variant) = false
has_external_extractor (kind.Struct ty) = false
has_external_extractor (kind.Decl pure multi partial recursive by taken) = is_external_extractor taken

-- by a function that makes values
abbrev pub is_external_constructor : ConstructorKind → Bool
is_external_constructor constructor.Absent = false
is_external_constructor constructor.Internal = false
is_external_constructor (constructor.External func) = true

-- a term has one
abbrev pub has_external_constructor : TermKind → Bool
has_external_constructor (kind.Variant ty variant) = false
has_external_constructor (kind.Struct ty) = false
has_external_constructor (kind.Decl pure multi partial recursive by taken) = is_external_constructor by

-- the symbol of the function that makes values
abbrev pub func_by : ConstructorKind → Option Sym
func_by constructor.Absent = None
func_by constructor.Internal = None
func_by (constructor.External func) = Some func

-- that of a term of this kind
abbrev pub func_of : TermKind → Option Sym
func_of (kind.Decl pure multi partial recursive by taken) = func_by by
func_of (kind.Variant ty variant) = None
func_of (kind.Struct ty) = None

-- the symbol of the function that takes values apart, and how often it answers
abbrev pub extracted_by : (multi : Bool) → ExtractorKind → Option (Sym × ReturnKind)
extracted_by multi extractor.Absent = None
extracted_by multi extractor.Internal = None
extracted_by multi (extractor.External func infallible) = Some (func, extractor_kind multi infallible)

-- those of a term of this kind
abbrev pub extracted_of : TermKind → Option (Sym × ReturnKind)
extracted_of (kind.Decl pure multi partial recursive by taken) = extracted_by multi taken
extracted_of (kind.Variant ty variant) = None
extracted_of (kind.Struct ty) = None

-- a term is declared with `rec`
abbrev pub is_recursive : TermKind → Bool
is_recursive (kind.Variant ty variant) = false
is_recursive (kind.Struct ty) = false
is_recursive (kind.Decl pure multi partial recursive by taken) = recursive

-- the path of a function of the trait
abbrev pub context_path : List ℕ → List ℕ
context_path func = codes "C::" ++ func

-- the name of the function that a term with rules becomes
abbrev pub constructor_name : List ℕ → List ℕ
constructor_name term = codes "constructor_" ++ term

-- the function of an extractor takes the term's result and gives its arguments
abbrev pub extractor_sig_by : TypeEnv → Term → (multi : Bool) → ExtractorKind → Option ExternalSig
extractor_sig_by types t multi extractor.Absent = None
extractor_sig_by types t multi extractor.Internal = None
extractor_sig_by types t multi (extractor.External func infallible) = Some (record {
  func_name = symbol_text types func;
  full_name = context_path (symbol_text types func);
  param_tys = t.ret_ty ∷ [];
  ret_tys = t.arg_tys;
  ret_kind = extractor_kind multi infallible;
})

-- that of a term, if it has an external one
abbrev pub extractor_sig : TypeEnv → Term → TermKind → Option ExternalSig
extractor_sig types t (kind.Variant ty variant) = None
extractor_sig types t (kind.Struct ty) = None
extractor_sig types t (kind.Decl pure multi partial recursive by taken) = extractor_sig_by types t multi taken

-- the function of a constructor takes the term's arguments and gives its result
abbrev pub constructor_of : Term → (func full : List ℕ) → ReturnKind → ExternalSig
constructor_of t func full answers = record { func_name = func; full_name = full; param_tys = t.arg_tys; ret_tys = t.ret_ty ∷ []; ret_kind = answers }

abbrev pub constructor_sig_by : TypeEnv → Term → ReturnKind → ConstructorKind → Option ExternalSig
constructor_sig_by types t answers constructor.Absent = None
constructor_sig_by types t answers constructor.Internal = Some (constructor_of t (constructor_name (symbol_text types t.name)) (constructor_name (symbol_text types t.name)) answers)
constructor_sig_by types t answers (constructor.External func) = Some (constructor_of t (symbol_text types func) (context_path (symbol_text types func)) answers)

-- that of a term, if it has one of its rules or an external one
abbrev pub constructor_sig : TypeEnv → Term → TermKind → Option ExternalSig
constructor_sig types t (kind.Variant ty variant) = None
constructor_sig types t (kind.Struct ty) = None
constructor_sig types t (kind.Decl pure multi partial recursive by taken) = constructor_sig_by types t (kind_by multi partial) by
