-- The functions of the trait.
use Rattle.std.specs.Prelude.{List, [], ◌∷◌, Option, map, option_map}
use Rattle.std.specs.List.{AllByRecursion, IsDistinct, cons_option}
use Rattle.std.specs.Str.{bytes_eq}
use Rattle.isle_base.specs.declared.ids.Sym.{Sym}
use Rattle.isle_core.specs.declared.types.Term.{Term}
use Rattle.isle_core.specs.declared.types.ReturnKind.{ReturnKind}
use Rattle.isle_core.specs.Calling.{kind_of}
pub use Rattle.isle_core.specs.ExternalSig.{func_by, func_of, extracted_of}
use Rattle.isle_core.specs.Terms.{sym_text}
use Rattle.isle_core.specs.Rule.{Environment}
use Rattle.isle_tree.specs.declared.tree.TraitFn.{TraitFn}
use Rattle.isle_spelling.specs.Identifier.{IsIdentifier}
use Rattle.isle_tree.specs.WellFormed.{fn_names}
use Rattle.isle_simulation.specs.TypeTexts.{type_text, parameter}

-- ---- constructors

-- the function of this name that makes what a term gives
abbrev pub constructor_fn : Environment → Term → Sym → TraitFn
constructor_fn env t func = record {
  name = sym_text env func;
  params = map (parameter env) t.arg_tys;
  results = type_text env t.ret_ty ∷ [];
  kind = kind_of t.kind;
}

-- the function of a term's external constructor, if it has one
abbrev pub constructor_fn_of : Environment → Term → Option TraitFn
constructor_fn_of env t = option_map (constructor_fn env t) (func_of t.kind)

-- ---- extractors

-- the function of this name that takes what a term gives apart, into what it is made of
abbrev pub extractor_fn : Environment → Term → Sym × ReturnKind → TraitFn
extractor_fn env t extracted = record {
  name = sym_text env extracted.0;
  params = parameter env t.ret_ty ∷ [];
  results = map (type_text env) t.arg_tys;
  kind = extracted.1;
}

-- the function of a term's external extractor, if it has one
abbrev pub extractor_fn_of : Environment → Term → Option TraitFn
extractor_fn_of env t = option_map (extractor_fn env t) (extracted_of t.kind)

-- ---- terms

-- the extractor's function of a term, then the constructor's, before others
abbrev pub fns_before : Environment → Term → List TraitFn → List TraitFn
fns_before env t fns = cons_option (extractor_fn_of env t) (cons_option (constructor_fn_of env t) fns)

-- the functions of terms, in order
abbrev pub trait_fns_in : Environment → List Term → List TraitFn
trait_fns_in env [] = []
trait_fns_in env (t ∷ ts) = fns_before env t (trait_fns_in env ts)

-- those of the environment
abbrev pub trait_fns_of : Environment → List TraitFn
trait_fns_of env = trait_fns_in env env.terms

-- names of functions of the trait: names of Rust, no two of them equal
pub record AreFnNames (fns : List TraitFn) : Type 0 where
  pub identifiers : AllByRecursion (λ (f : TraitFn). IsIdentifier f.name) fns
  pub distinct : IsDistinct bytes_eq (fn_names fns)

-- so of those of the environment
abbrev pub HasFnNames : Environment → Type 0
HasFnNames env = AreFnNames (trait_fns_of env)
