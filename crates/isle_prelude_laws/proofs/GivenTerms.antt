-- What the terms of typed definitions are in their environment.
use Rattle.std.proofs.Common.{◌≡◌, ℕ, List, [], Some, sym, ap, ◌∙◌}
use Rattle.std.specs.Prelude.{Contains, slice_get}
use Rattle.std.specs.List.{IsDistinct}
use Rattle.std.specs.Option.{option_map_or}
use Rattle.std.specs.Str.{bytes_eq}
use Rattle.std.proofs.lemmas.Option.{slice_get-get_or}
use Rattle.isle_base.specs.declared.ids.TermId.{TermId}
use Rattle.isle_core.specs.declared.types.Term.{Term}
use Rattle.isle_core.specs.declared.types.TypeEnv.{TypeEnv}
use Rattle.isle_core.specs.Making.{MakesVariant, MakesNothing, making_kind, making_of, making}
use Rattle.isle_core.specs.Rule.{Environment}
use Rattle.isle_core.specs.Terms.{symbol_text, sym_text, term_name}
use Rattle.isle_ast.specs.Tree.{Def}
use Rattle.isle_declarations.specs.declared.terms.Origin.TheVariants as origin
use Rattle.isle_declarations.specs.Heads.{terms_of}
use Rattle.isle_declarations.specs.Signatures.{Signature, signatures, term_named}
use Rattle.isle_declarations.specs.Symbols.{index_of, sym_of, symbols}
use Rattle.isle_declarations.specs.Terms.{terms}
use Rattle.isle_declarations.proofs.DeclaredNames.{text_of}
use Rattle.isle_declarations.proofs.DistinctNames.{distinct_names}
use Rattle.isle_declarations.proofs.TermNames.{are_terms_among}
use Rattle.isle_sema.proofs.Conversions.{term_alone}
use Rattle.isle_sema.proofs.NamesApart.{terms_apart, made_apart, declared_unmade}
use Rattle.isle_sema.proofs.RuleRoots.{signature_at}
use Rattle.isle_sema.proofs.TermFaults.{terms_kept}
use Rattle.isle_sema.proofs.TypedParts.{IsGivenIn}
use Rattle.isle_sema.proofs.TypedTemplates.{number_at}
use Rattle.isle_terms.specs.TermPass.{types_named, term_from, kind_from}
use Rattle.isle_terms.specs.TypeNames.{type_named}
use Rattle.isle_terms.specs.Whole.{whole_of}
use Rattle.isle_terms.proofs.MadeTerms.{term_made, term_is, all_at}

-- the names of declared terms are apart
pub signatures_apart : (defs : List Def) (env : Environment) → IsGivenIn defs env → IsDistinct bytes_eq (terms_of (signatures defs))
signatures_apart defs env g = distinct_names (terms_of (signatures defs)) (terms_kept defs [] defs g.terms_kept).apart

-- and so are those of all terms
pub names_apart : (defs : List Def) (env : Environment) → IsGivenIn defs env → IsDistinct bytes_eq (terms_of (terms defs))
names_apart defs env g = terms_apart defs (signatures_apart defs env g) (made_apart defs g.types_kept) (declared_unmade defs (signatures defs) (terms_kept defs [] defs g.terms_kept).unmade)

-- the term of a signature
pub record IsGivenTerm (defs : List Def) (env : Environment) (s : Signature) (term : TermId) : Type 0 where
  pub decl : Term
  pub there : slice_get env.terms term.0 ≡ Some decl
  pub at : slice_get (terms defs) term.0 ≡ Some s
  pub args : types_named defs s.args ≡ Some decl.arg_tys
  pub ret : type_named defs s.ret ≡ Some decl.ret_ty
  pub is : term_from (whole_of defs) s decl.arg_tys decl.ret_ty ≡ decl

pub given_term : (defs : List Def) (env : Environment) (s : Signature) (term : TermId) → IsGivenIn defs env → Contains (terms defs) s
    → term_named (terms defs) s.term ≡ Some term → IsGivenTerm defs env s term
given_term defs env s term g c number =
    let w = whole_of defs in
    let alone = term_alone (terms defs) s (names_apart defs env g) c in
    let at = signature_at w s.term s term alone number in
    let t = term_made w (terms defs) env.terms term.0 s g.terms at in
    let is = term_is w s t.term t.made in
    record { decl = t.term; there = t.there; at = at; args = is.args; ret = is.ret; is = is.is }

-- the number of a signature
pub given_number : (defs : List Def) (env : Environment) (s : Signature) → IsGivenIn defs env → Contains (terms defs) s
    → (term : TermId) × (term_named (terms defs) s.term ≡ Some term)
given_number defs env s g c =
    let lt = c.1 in
    (record { 0 = c.0 }, number_at defs env c.0 s g (slice_get-get_or (terms defs) c.0 s lt ∙ ap Some c.2))

-- ---- what it makes

pub makes_nothing : {defs : List Def} {env : Environment} {s : Signature} {term : TermId} → IsGivenTerm defs env s term → s.origin ≡ origin.Declared
    → making env term ≡ MakesNothing
makes_nothing {defs = defs} {s = s} k declared =
    ap making_of k.there ∙ ap (λ (t : Term). making_kind t.kind) (sym k.is) ∙ ap (λ o. making_kind (kind_from (whole_of defs) s k.decl.ret_ty o)) declared

pub makes_variant : {defs : List Def} {env : Environment} {s : Signature} {term : TermId} (n : ℕ) (k : IsGivenTerm defs env s term)
    → s.origin ≡ origin.Variant n → making env term ≡ MakesVariant k.decl.ret_ty (record { 0 = n })
makes_variant {defs = defs} {s = s} n k variant =
    ap making_of k.there ∙ ap (λ (t : Term). making_kind t.kind) (sym k.is) ∙ ap (λ o. making_kind (kind_from (whole_of defs) s k.decl.ret_ty o)) variant

-- ---- its name

pub given_name : (defs : List Def) (env : Environment) (s : Signature) (term : TermId) → IsGivenIn defs env → IsGivenTerm defs env s term
    → term_name env term ≡ s.term
given_name defs env s term g k =
    let among = all_at (λ (x : Signature). (n : ℕ) × (index_of (symbols defs) x.term ≡ Some n)) (terms defs) term.0 s (are_terms_among defs) k.at in
    ap (λ o. option_map_or (λ (t : Term). sym_text env t.name) o []) k.there
    ∙ ap (λ (t : Term). sym_text env t.name) (sym k.is)
    ∙ ap (λ (ts : TypeEnv). symbol_text ts (sym_of (symbols defs) s.term)) g.types
    ∙ text_of (symbols defs) s.term among.0 among.1
