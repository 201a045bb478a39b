-- Terms with external constructors or extractors, and their functions of the trait.
use Rattle.std.proofs.Common.{◌≡◌, ℕ, zero, suc, List, [], ◌∷◌, Some, refl, sym, ap, ◌∙◌, subst}
use Rattle.std.specs.Prelude.{Contains, slice_get, option_map}
use Rattle.std.specs.List.{cons_option}
use Rattle.std.proofs.lemmas.List.Elements.{All-contains, All-from_recursion}
use Rattle.isle_core.specs.declared.types.ReturnKind.{ReturnKind}
use Rattle.isle_base.specs.declared.ids.Sym.{Sym}
use Rattle.isle_core.specs.declared.TermId.{TermId}
use Rattle.isle_core.specs.declared.types.ExtractorKind.TheVariants as extractor
use Rattle.isle_core.specs.declared.types.Term.{Term}
use Rattle.isle_core.specs.declared.types.TermKind.{TermKind}
use Rattle.isle_core.specs.declared.types.TermKind.TheVariants as kind
use Rattle.isle_core.specs.declared.values.Callee.TheVariants.{External}
use Rattle.isle_core.specs.Calling.{Calling, calling, kind_of, extracting, extracting_of, extracting_kind}
use Rattle.isle_core.specs.Terms.{sym_text}
use Rattle.isle_core.specs.ExternalCall.{IsExtraction}
use Rattle.isle_core.specs.Rule.{Environment}
use Rattle.isle_tree.specs.declared.tree.TraitFn.{TraitFn}
use Rattle.isle_spelling.specs.Identifier.{IsIdentifier}
use Rattle.isle_tree.specs.WellFormed.{IsCallee, trait_fn}
use Rattle.isle_simulation.proofs.FoundByName.{after_option, at_option, found_by_name}
use Rattle.isle_simulation.proofs.Written.{callee_of}
use Rattle.isle_simulation.specs.TraitFns.{constructor_fn, constructor_fn_of, extractor_fn, extracted_of, extractor_fn_of, fns_before, trait_fns_in, trait_fns_of, HasFnNames}

-- what an external term's call is
pub record IsExternalTerm (env : Environment) (t : Term) (of : ReturnKind) (c : Calling) : Type 0 where
  pub func : Sym
  pub fn : constructor_fn_of env t ≡ Some (constructor_fn env t func)
  pub callee : callee_of c ≡ External (sym_text env func)
  pub answers : kind_of t.kind ≡ of

-- what the call of an external term's extractor is
pub record IsExternalExtractor (env : Environment) (t : Term) (of : ReturnKind) (c : Calling) : Type 0 where
  pub func : Sym
  pub fn : extractor_fn_of env t ≡ Some (extractor_fn env t (func, of))
  pub callee : callee_of c ≡ External (sym_text env func)

extractor_by_kind : (env : Environment) (t : Term) (k : TermKind) (of : ReturnKind) → t.kind ≡ k → IsExtraction of (extracting_kind env k) → IsExternalExtractor env t of (extracting_kind env k)
extractor_by_kind env t (kind.Decl pure multi p recursive by (extractor.External func infallible)) of e h =
    record { func = func; fn = ap (λ x. option_map (extractor_fn env t) (extracted_of x)) e ∙ ap (λ x. Some (extractor_fn env t (func, x))) h.0; callee = refl }
extractor_by_kind env t (kind.Decl pure multi p recursive by extractor.Internal) of e h = absurd h
extractor_by_kind env t (kind.Decl pure multi p recursive by extractor.Absent) of e h = absurd h
extractor_by_kind env t (kind.Variant ty variant) of e h = absurd h
extractor_by_kind env t (kind.Struct ty) of e h = absurd h

-- a call of an external term's extractor
pub external_extractor : (env : Environment) (term : TermId) (t : Term) (of : ReturnKind) → slice_get env.terms term.0 ≡ Some t → IsExtraction of (extracting env term) → IsExternalExtractor env t of (extracting env term)
external_extractor env term t of there h =
    let is : extracting env term ≡ extracting_of env (Some t) = ap (extracting_of env) there in
    subst (IsExternalExtractor env t of) (sym is) (extractor_by_kind env t t.kind of refl (subst (IsExtraction of) is h))

-- ---- functions of the trait by their names

-- the functions of a term are among those of all
term_contained : (env : Environment) (ts : List Term) (i : ℕ) (t : Term) (f : TraitFn) → slice_get ts i ≡ Some t → ((fs : List TraitFn) → Contains (fns_before env t fs) f) → Contains (trait_fns_in env ts) f
term_contained env [] i t f e h = cc
term_contained env (u ∷ ts) zero t f e h = subst (λ x. Contains (fns_before env x (trait_fns_in env ts)) f) (sym (same u t e)) (h (trait_fns_in env ts))
  where
    same : (a b : Term) → Some a ≡ Some b → a ≡ b
    same a b e = cc
term_contained env (u ∷ ts) (suc i) t f e h =
    after_option (extractor_fn_of env u) (cons_option (constructor_fn_of env u) (trait_fns_in env ts)) f
    (after_option (constructor_fn_of env u) (trait_fns_in env ts) f (term_contained env ts i t f e h))

pub fn_contained : (env : Environment) (ts : List Term) (i : ℕ) (t : Term) (f : TraitFn) → slice_get ts i ≡ Some t → constructor_fn_of env t ≡ Some f → Contains (trait_fns_in env ts) f
fn_contained env ts i t f e is = term_contained env ts i t f e (λ fs. after_option (extractor_fn_of env t) (cons_option (constructor_fn_of env t) fs) f (at_option (constructor_fn_of env t) fs f is))

pub extractor_contained : (env : Environment) (ts : List Term) (i : ℕ) (t : Term) (f : TraitFn) → slice_get ts i ≡ Some t → extractor_fn_of env t ≡ Some f → Contains (trait_fns_in env ts) f
extractor_contained env ts i t f e is = term_contained env ts i t f e (λ fs. at_option (extractor_fn_of env t) (cons_option (constructor_fn_of env t) fs) f is)

-- the function of an external term is found by its name
pub term_fn_found : (env : Environment) (term : TermId) (t : Term) (of : ReturnKind) → HasFnNames env → slice_get env.terms term.0 ≡ Some t → (x : IsExternalTerm env t of (calling env term))
    → trait_fn (trait_fns_of env) (sym_text env x.func) ≡ Some (constructor_fn env t x.func)
term_fn_found env term t of names there x = found_by_name (λ (f : TraitFn). f.name) (trait_fns_of env) (constructor_fn env t x.func) names.distinct (fn_contained env env.terms term.0 t (constructor_fn env t x.func) there x.fn)

-- so is that of its extractor
pub extractor_found : (env : Environment) (term : TermId) (t : Term) (of : ReturnKind) → HasFnNames env → slice_get env.terms term.0 ≡ Some t → (x : IsExternalExtractor env t of (extracting env term))
    → trait_fn (trait_fns_of env) (sym_text env x.func) ≡ Some (extractor_fn env t (x.func, of))
extractor_found env term t of names there x =
    let f = extractor_fn env t (x.func, of) in
    found_by_name (λ (g : TraitFn). g.name) (trait_fns_of env) f names.distinct (extractor_contained env env.terms term.0 t f there x.fn)

-- a function of the trait has a name of Rust
pub fn_named : (env : Environment) (f : TraitFn) → HasFnNames env → Contains (trait_fns_of env) f → IsIdentifier f.name
fn_named env f names c = All-contains (λ (g : TraitFn). IsIdentifier g.name) (trait_fns_of env) f (All-from_recursion (λ (g : TraitFn). IsIdentifier g.name) (trait_fns_of env) names.identifiers) c

-- what the call of an external extractor goes to has a name of Rust
pub extracted_is : (env : Environment) (term : TermId) (t : Term) (of : ReturnKind) → HasFnNames env → slice_get env.terms term.0 ≡ Some t → IsExtraction of (extracting env term) → IsCallee (callee_of (extracting env term))
extracted_is env term t of names there call =
    let x = external_extractor env term t of there call in
    let f = extractor_fn env t (x.func, of) in
    subst IsCallee (sym x.callee) (fn_named env f names (extractor_contained env env.terms term.0 t f there x.fn))
