-- The templates of typed definitions have the types of their terms, and none reaches itself.
use Rattle.std.proofs.Common.{◌≡◌, ℕ, zero, suc, ◌+◌, ◌<◌, Bool, true, false, cond, List, [], ◌∷◌, length, map, Option, Some, None, refl, sym, ap, ◌∙◌, subst, arith}
use Rattle.std.specs.Prelude.{◌==◌, ◌||◌, not, is_some, Contains, option_map, option_and_then, slice_get}
use Rattle.std.specs.List.{list_any, IsDistinct}
use Rattle.std.specs.Str.{bytes_eq}
use Rattle.std.proofs.lemmas.Bool.{or_parts, eqb-true, not-false}
use Rattle.std.proofs.lemmas.List.{length-map}
use Rattle.std.proofs.lemmas.Option.{same_Some, slice_get-map}
use Rattle.std.proofs.lemmas.Slice.Eq.{bytes_eq-Decides}
use Rattle.isle_core.specs.declared.TermId.{TermId}
use Rattle.isle_core.specs.declared.types.Term.{Term}
use Rattle.isle_core.specs.declared.types.TypeEnv.{TypeEnv}
use Rattle.isle_core.specs.Constants.{const_type}
use Rattle.isle_core.specs.Pattern.{Pattern as CorePattern}
use Rattle.isle_core.specs.Rule.{Environment}
use Rattle.isle_core.proofs.Contained.{head_contained, tail_contained}
use Rattle.isle_ast.specs.Tree.{Def}
use Rattle.isle_declarations.specs.Heads.{terms_of}
use Rattle.isle_declarations.specs.Repeats.{repeats}
use Rattle.isle_declarations.specs.Signatures.{Signature, Template, Extracting, ByFunction, ByTemplate, ExtractorDef, signatures, extractors, signature_named, extractor_named, term_named}
use Rattle.isle_declarations.specs.Symbols.{index_of, sym_of}
use Rattle.isle_declarations.specs.Terms.{terms}
use Rattle.isle_declarations.proofs.DistinctNames.{distinct_names}
use Rattle.isle_declarations.proofs.LookUps.{named_is}
use Rattle.isle_terms.specs.NewVariables.{variables_in}
use Rattle.isle_sema.specs.PatternPass.{pattern_pass}
use Rattle.isle_terms.specs.Scope.{Local, Scope, found_in, typed_local}
use Rattle.isle_sema.specs.Templates.{parameters, template_pass, template_tree, template_for, templates}
use Rattle.isle_sema.specs.TemplateUses.{template_uses}
use Rattle.isle_sema.proofs.Conversions.{conversion_is, term_alone, declared_there}
use Rattle.isle_sema.proofs.ExtractorLaws.{IsWellBuilt, well_built, kept_in}
use Rattle.isle_sema.proofs.MadeForms.{constant_typed}
use Rattle.isle_sema.proofs.NamedExtractors.{is_named, fails_at, template_there}
use Rattle.isle_sema.proofs.NamesApart.{terms_apart, made_apart, declared_unmade, place_is}
use Rattle.isle_sema.proofs.OpenedTerms.{opened_term}
use Rattle.isle_sema.proofs.ParameterScopes.{listed, params_listed, listed_at, listed_found, name_at}
use Rattle.isle_sema.proofs.TemplateScopes.{pattern_stays, named_stands}
use Rattle.isle_sema.proofs.TermFaults.{terms_kept}
use Rattle.isle_sema.proofs.TypedParts.{IsGivenIn}
use Rattle.isle_sema.proofs.TypedPatterns.{KnowsTerms, AreTakenWell, pattern_typed}
use Rattle.isle_sema.proofs.UsesSeen.{uses_same}
use Rattle.isle_sema.proofs.VariableTypes.{pattern_stand}
use Rattle.isle_templates.specs.Substituted.{template_of}
use Rattle.isle_templates.specs.Uses.{used_by, uses}
use Rattle.isle_templates.proofs.UsesKept.{uses_at}
use Rattle.isle_templates.proofs.TemplateOrder.{uses_there}
use Rattle.isle_templates.specs.WrittenType.{IsWrittenTemplate, AreWrittenTemplates}
use Rattle.isle_terms.specs.DeclarationRows.{template_misfit}
use Rattle.isle_terms.specs.Whole.{Whole, whole_of, declared, termed, arg_types, ret_type}
use Rattle.isle_terms.specs.TypeNames.{type_named}
use Rattle.isle_terms.proofs.MadeTerms.{made_of, term_is, types_are}
use Rattle.isle_types.specs.TypeRows.{on}
use Rattle.isle_walks.specs.Walks.{next_of, reaches, on_closed_walk, walks}
use Rattle.isle_walks.proofs.ClosedWalks.{no_long_walk}

-- what terms that take values apart, converters and constants are in an environment
pub knows : (defs : List Def) (env : Environment) → IsGivenIn defs env → KnowsTerms defs env
knows defs env g = record {
  opened = λ name s number ty is at has ret. opened_term defs env name s number ty g is at has ret;
  converts = λ of ty s h. conversion_is defs env of ty s g h;
  constant = λ name ty h. ap (λ (ts : TypeEnv). const_type env (sym_of ts.syms name)) (sym g.types) ∙ constant_typed defs env name ty g.types h;
}

-- ---- the term of a template

-- the names of terms are apart
names_apart : (defs : List Def) (env : Environment) → IsGivenIn defs env → IsDistinct bytes_eq (terms_of (terms defs))
names_apart defs env g =
    let kept = terms_kept defs [] defs g.terms_kept in
    terms_apart defs (distinct_names (terms_of (signatures defs)) kept.apart) (made_apart defs g.types_kept) (declared_unmade defs (signatures defs) kept.unmade)

contained_at : {X : Type 0} (xs : List X) (i : ℕ) (x : X) → slice_get xs i ≡ Some x → Contains xs x
contained_at [] i x h = cc
contained_at (y ∷ xs) zero x h = subst (Contains (y ∷ xs)) (same_Some y x h) (head_contained y xs)
contained_at (y ∷ xs) (suc i) x h = tail_contained y xs x (contained_at xs i x h)

-- a term that stands there is the one of its name
alone_at : (defs : List Def) (env : Environment) (i : ℕ) (s : Signature) → IsGivenIn defs env → slice_get (terms defs) i ≡ Some s → termed (whole_of defs) s.term ≡ Some s
alone_at defs env i s g at = term_alone (terms defs) s (names_apart defs env g) (contained_at (terms defs) i s at)

-- and its name's number is its place
pub number_at : (defs : List Def) (env : Environment) (i : ℕ) (s : Signature) → IsGivenIn defs env → slice_get (terms defs) i ≡ Some s → term_named (terms defs) s.term ≡ Some (record { 0 = i })
number_at defs env i s g at =
    ap (option_map (λ (n : ℕ). record { 0 = n }))
    (place_is (terms_of (terms defs)) i s.term (names_apart defs env g) (slice_get-map (λ (y : Signature). y.term) (terms defs) i ∙ ap (option_map (λ (y : Signature). y.term)) at))

-- where a template comes from
record IsFrom (defs : List Def) (s : Signature) (q : CorePattern) : Type 0 where
  by : ExtractorDef
  template : Template
  among : Contains (extractors defs) by
  named : by.term ≡ s.term
  how : by.by ≡ ByTemplate template
  tree : (template_pass (whole_of defs) s.term template).tree ≡ Some q

from : (defs : List Def) (s : Signature) (q : CorePattern) → template_for (whole_of defs) s ≡ Some q → IsFrom defs s q
from defs s q h = by (extractor_named (extractors defs) s.term) refl h
  where
    made : (x : ExtractorDef) (how : Extracting) → extractor_named (extractors defs) s.term ≡ Some x → x.by ≡ how → template_tree (whole_of defs) s.term how ≡ Some q → IsFrom defs s q
    made x (ByFunction func infallible) is e k = absurd cc
    made x (ByTemplate t) is e k = let n = is_named (extractors defs) s.term x is in record { by = x; template = t; among = n.among; named = n.named; how = e; tree = k }

    by : (o : Option ExtractorDef) → extractor_named (extractors defs) s.term ≡ o → option_and_then (λ (x : ExtractorDef). template_tree (whole_of defs) s.term x.by) o ≡ Some q → IsFrom defs s q
    by None is k = absurd cc
    by (Some x) is k = made x x.by is refl k

-- ---- its parameters

-- they are apart, and as many as the term has arguments
record AreParams (s : Signature) (params : List (List ℕ)) : Type 0 where
  apart : IsDistinct bytes_eq params
  many : length params ≡ length s.args

params_are : (defs : List Def) (env : Environment) (s : Signature) (q : CorePattern) (f : IsFrom defs s q) → IsGivenIn defs env → termed (whole_of defs) s.term ≡ Some s → AreParams s f.template.params
params_are defs env s q f g alone =
    let kept = terms_kept defs [] defs g.terms_kept in
    let w = whole_of defs in
    let misfit : template_misfit w (record { term = s.term; by = ByTemplate f.template; pos = f.by.pos }) ≡ false =
    ap (λ (how : Extracting). template_misfit w (record { term = s.term; by = how; pos = f.by.pos })) (sym f.how) ∙ ap (λ (name : List ℕ). template_misfit w (record { term = name; by = f.by.by; pos = f.by.pos })) (sym f.named)
    ∙ fails_at (template_misfit w) (extractors defs) f.by kept.fitted f.among in
    let unknown : not (is_some (signature_named (signatures defs) s.term)) ≡ false = ap (λ (name : List ℕ). not (is_some (signature_named (signatures defs) name))) (sym f.named) ∙ fails_at (λ (x : ExtractorDef). not (is_some (signature_named (signatures defs) x.term))) (extractors defs) f.by kept.extracted f.among in
    let p = or_parts (on (declared w s.term) (λ (d : Signature). not (length f.template.params == length d.args))) (repeats f.template.params) misfit in
    record { apart = distinct_names f.template.params p.1; many = as_many (signature_named (signatures defs) s.term) refl unknown p.0 }
  where
    as_many : (o : Option Signature) → signature_named (signatures defs) s.term ≡ o → not (is_some o) ≡ false → on o (λ (d : Signature). not (length f.template.params == length d.args)) ≡ false → length f.template.params ≡ length s.args
    as_many None is u e = absurd cc
    as_many (Some d) is u e =
        let named : d.term ≡ s.term = named_is (signatures defs) s.term d is in
        let own = term_alone (terms defs) d (names_apart defs env g) (declared_there defs s.term d is) in
        let same : d ≡ s = same_Some d s (sym own ∙ ap (termed (whole_of defs)) named ∙ alone) in
        eqb-true (length f.template.params) (length d.args) (not-false (length f.template.params == length d.args) e) ∙ ap (λ (y : Signature). length y.args) same

-- ---- a template of its term

-- its extractor breaks no row
built_from : (defs : List Def) (env : Environment) (s : Signature) (q : CorePattern) (f : IsFrom defs s q) → IsGivenIn defs env → IsWellBuilt (whole_of defs) s.term (ByTemplate f.template)
built_from defs env s q f g =
    let w = whole_of defs in
    let k = kept_in w [] defs g.extractors_kept in
    subst (λ (how : Extracting). IsWellBuilt w s.term how) f.how (subst (λ (name : List ℕ). IsWellBuilt w name f.by.by) f.named (well_built w f.by (fails_at _ (extractors defs) f.by k.built f.among)))

index_contained : (names : List (List ℕ)) (name : List ℕ) → is_some (index_of names name) ≡ true → Contains names name
index_contained [] name h = absurd cc
index_contained (n ∷ names) name h = by (bytes_eq n name) refl (λ k. index_contained names name k) h
  where
    later : (o : Option ℕ) → is_some (option_map (λ (m : ℕ). m + 1) o) ≡ true → is_some o ≡ true
    later None k = absurd cc
    later (Some m) k = refl

    by : (b : Bool) → bytes_eq n name ≡ b → (is_some (index_of names name) ≡ true → Contains names name) → is_some (cond b (Some 0) (option_map (λ (m : ℕ). m + 1) (index_of names name))) ≡ true → Contains (n ∷ names) name
    by true e rest k = subst (Contains (n ∷ names)) ((bytes_eq-Decides n name).0 e) (head_contained n names)
    by false e rest k = tail_contained n names name (rest (later (index_of names name) k))

-- a parameter that stands in a template is one of its variables
param_stands : (params : List (List ℕ)) (names : List (List ℕ)) (i : ℕ) (name : List ℕ) → list_any (λ (param : List ℕ). not (is_some (index_of names param))) params ≡ false → slice_get params i ≡ Some name → Contains names name
param_stands params names i name h at = index_contained names name (not-false (is_some (index_of names name)) (fails_at (λ (param : List ℕ). not (is_some (index_of names param))) params name h (contained_at params i name at)))

template_sound : (defs : List Def) (env : Environment) (i : ℕ) (t : Term) (s : Signature) (q : CorePattern) (f : IsFrom defs s q) → IsGivenIn defs env → termed (whole_of defs) s.term ≡ Some s → type_named defs s.ret ≡ Some t.ret_ty → map (type_named defs) s.args ≡ map Some t.arg_tys
    → IsWrittenTemplate env (templates (whole_of defs)) t q
template_sound defs env i t s q f g alone ret tys =
    let w = whole_of defs in
    let scope = parameters w s.term f.template.params in
    let own : ret_type w (termed w s.term) ≡ Some t.ret_ty = ap (ret_type w) alone ∙ ret in
    let types : arg_types w (termed w s.term) ≡ map Some t.arg_tys = ap (arg_types w) alone ∙ tys in
    let built = built_from defs env s q f g in
    let tree : (pattern_pass w (Some t.ret_ty) scope f.template.pattern).tree ≡ Some q = ap (λ o. (pattern_pass w o scope f.template.pattern).tree) (sym own) ∙ f.tree in
    let well = subst (λ o. AreTakenWell w (pattern_pass w o scope f.template.pattern).sites) own built.well in
    let p = params_are defs env s q f g alone in
    let stays : (template_pass w s.term f.template).scope ≡ scope = pattern_stays w (ret_type w (termed w s.term)) scope f.template.pattern built.bound in
    let vars : scope.variables ≡ listed 0 f.template.params (map Some t.arg_tys) = params_listed f.template.params (arg_types w (termed w s.term)) p.apart ∙ ap (listed 0 f.template.params) types in
    let long : length f.template.params ≡ length t.arg_tys = p.many ∙ sym (length-map s.args (type_named defs)) ∙ ap length tys ∙ length-map t.arg_tys Some in
    let stand = pattern_stand w (ret_type w (termed w s.term)) scope f.template.pattern q f.tree in
    record {
      whole = pattern_typed defs env t.ret_ty scope f.template.pattern q (knows defs env g) g.types tree well;
      params = λ ty n c.
          let a = stand.by ty n c in
          let there : Contains (listed 0 f.template.params (map Some t.arg_tys)) a.local = subst (λ (ls : List Local). Contains ls a.local) (ap (λ (x : Scope). x.variables) stays ∙ vars) a.there in
          let h = listed_at f.template.params t.arg_tys 0 a.local ty there a.typed in
          let number = h.1 in
          let numbered = a.numbered in
          let same : n ≡ h.0 = omega (arith, number, numbered) in
          ap (slice_get t.arg_tys) same ∙ h.2;
      occurs = λ ty n at.
          let name = name_at f.template.params t.arg_tys n ty long at in
          let put : ℕ → Option Local = λ m. Some (record { name = name.0; ty = Some ty; number = m }) in
          let same : 0 + n ≡ n = omega arith in
          let found : found_in scope.variables name.0 ≡ put n = ap (λ (ls : List Local). found_in ls name.0) vars ∙ listed_found f.template.params t.arg_tys 0 n name.0 ty p.apart name.1 at ∙ ap put same in
          named_stands w (ret_type w (termed w s.term)) scope f.template.pattern q name.0 built.bound f.tree (param_stands f.template.params (variables_in f.template.pattern) n name.0 built.whole name.1) (ty, record { 0 = n }) (ap typed_local found);
    }

-- each template of typed definitions is one of its term
pub templates_typed : (defs : List Def) (env : Environment) → IsGivenIn defs env → AreWrittenTemplates env (templates (whole_of defs))
templates_typed defs env g term t q there is =
    let w = whole_of defs in
    let m = made_of w (terms defs) env.terms term.0 t g.terms there in
    let s = m.signature in
    let k = term_is w s t m.made in
    let f = from defs s q (sym (template_there w term s m.there) ∙ is) in
    template_sound defs env term.0 t s q f g (alone_at defs env term.0 s g m.there) k.ret (types_are defs s.args t.arg_tys k.args)

-- ---- no template reaches itself

-- a term without a template uses none
unused : (graph : List (List ℕ)) (i to steps : ℕ) → next_of graph i ≡ [] → reaches graph steps i to ≡ false
unused graph i to zero h = refl
unused graph i to (suc steps) h = ap (list_any (λ (next : ℕ). (next == to) || reaches graph steps next to)) h

-- no term of typed definitions reaches itself
pub templates_apart : (defs : List Def) (env : Environment) → IsGivenIn defs env → (i : ℕ) → on_closed_walk (uses (templates (whole_of defs))) i ≡ false
templates_apart defs env g i = by (slice_get (terms defs) i) refl
  where
    w : Whole
    w = whole_of defs

    term : TermId
    term = record { 0 = i }

    none : template_of (templates w) term ≡ None → on_closed_walk (uses (templates w)) i ≡ false
    none h = unused (uses (templates w)) i i (length (uses (templates w))) (uses_at (templates w) term ∙ ap (used_by (templates w)) h)

    some : (s : Signature) (o : Option CorePattern) → slice_get (terms defs) i ≡ Some s → template_for w s ≡ o → on_closed_walk (uses (templates w)) i ≡ false
    some s None at is = none (template_there w term s at ∙ is)
    some s (Some q) at is =
        let f = from defs s q is in
        let k = (kept_in w [] defs g.extractors_kept).walks f.by f.among f.template f.how in
        ap (λ graph. on_closed_walk graph i) (sym (uses_same w g.treed))
        ∙ ap (λ (o : Option TermId). on o (λ (n : TermId). on_closed_walk (template_uses w) n.0)) (sym (number_at defs env i s g at) ∙ ap (term_named (terms defs)) (sym f.named)) ∙ k

    by : (o : Option Signature) → slice_get (terms defs) i ≡ o → on_closed_walk (uses (templates w)) i ≡ false
    by None at = none (ap (option_and_then (λ (t : Option CorePattern). t)) (slice_get-map (template_for w) (terms defs) i ∙ ap (option_map (template_for w)) at))
    by (Some s) at = some s (template_for w s) at refl

-- so no walk through templates has as many steps as there are terms
pub templates_short : (defs : List Def) (env : Environment) → IsGivenIn defs env → (term : ℕ) → term < length (templates (whole_of defs)) → walks (uses (templates (whole_of defs))) (length (templates (whole_of defs))) term ≡ false
templates_short defs env g term lt =
    let ts = templates (whole_of defs) in
    let long : length (uses ts) ≡ length ts = length-map ts (used_by ts) in
    ap (λ n. walks (uses ts) n term) (sym long) ∙ no_long_walk (uses ts) (uses_there ts) (templates_apart defs env g) term (omega (arith, lt, long))
