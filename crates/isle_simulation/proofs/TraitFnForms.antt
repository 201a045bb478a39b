-- The functions of the trait are well formed.
use Rattle.std.proofs.Common.{List, [], ◌∷◌, map, Option, Some, None}
use Rattle.std.specs.Prelude.{option_map}
use Rattle.std.specs.List.{AllByRecursion, cons_option}
use Rattle.isle_base.specs.declared.ids.Sym.{Sym}
use Rattle.isle_base.specs.declared.ids.TypeId.{TypeId}
use Rattle.isle_core.specs.declared.types.ReturnKind.{ReturnKind}
use Rattle.isle_core.specs.declared.types.Term.{Term}
use Rattle.isle_core.specs.Rule.{Environment}
use Rattle.isle_tree.specs.declared.tree.TraitFn.{TraitFn}
use Rattle.isle_spelling.specs.Identifier.{IsIdentifier}
use Rattle.isle_tree.specs.WellFormed.{AreResults, IsTraitFn}
use Rattle.isle_simulation.specs.TraitFns.{constructor_fn, extractor_fn, func_of, extracted_of, trait_fns_in}
use Rattle.isle_simulation.specs.TypeTexts.{type_text}
use Rattle.isle_simulation.proofs.TermNames.{params_are}

-- a term of types with names of Rust
abbrev pub HasNamedTypes : Environment → Term → Type 0
HasNamedTypes env t = AllByRecursion (λ ty. IsIdentifier (type_text env ty)) (t.ret_ty ∷ t.arg_tys)

-- each function whose name is one, of such a term
pub fns_are : (env : Environment) (ts : List Term) → AllByRecursion (λ (f : TraitFn). IsIdentifier f.name) (trait_fns_in env ts) → AllByRecursion (HasNamedTypes env) ts → AllByRecursion IsTraitFn (trait_fns_in env ts)
fns_are env [] names terms = tt
fns_are env (t ∷ ts) names terms = by_extractor (extracted_of t.kind) (λ named. fns_are env ts named terms.1) names
  where
    results_are : (tys : List TypeId) → AllByRecursion (λ ty. IsIdentifier (type_text env ty)) tys → AreResults (map (type_text env) tys)
    results_are [] all = tt
    results_are (ty ∷ tys) all = (all.0, results_are tys all.1)

    by_constructor : (o : Option Sym) → (AllByRecursion (λ (f : TraitFn). IsIdentifier f.name) (trait_fns_in env ts) → AllByRecursion IsTraitFn (trait_fns_in env ts)) → AllByRecursion (λ (f : TraitFn). IsIdentifier f.name) (cons_option (option_map (constructor_fn env t) o) (trait_fns_in env ts)) → AllByRecursion IsTraitFn (cons_option (option_map (constructor_fn env t) o) (trait_fns_in env ts))
    by_constructor None rest named = rest named
    by_constructor (Some func) rest named = (record { name = named.0; params = params_are env t.arg_tys terms.0.1; results = (terms.0.0, tt) }, rest named.1)

    by_extractor : (x : Option (Sym × ReturnKind)) → (AllByRecursion (λ (f : TraitFn). IsIdentifier f.name) (trait_fns_in env ts) → AllByRecursion IsTraitFn (trait_fns_in env ts))
        → AllByRecursion (λ (f : TraitFn). IsIdentifier f.name) (cons_option (option_map (extractor_fn env t) x) (cons_option (option_map (constructor_fn env t) (func_of t.kind)) (trait_fns_in env ts)))
        → AllByRecursion IsTraitFn (cons_option (option_map (extractor_fn env t) x) (cons_option (option_map (constructor_fn env t) (func_of t.kind)) (trait_fns_in env ts)))
    by_extractor None rest named = by_constructor (func_of t.kind) rest named
    by_extractor (Some extracted) rest named = (
      record { name = named.0; params = (terms.0.0, tt); results = results_are t.arg_tys terms.0.1 },
      by_constructor (func_of t.kind) rest named.1,
    )
