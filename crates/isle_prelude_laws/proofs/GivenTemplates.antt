-- The templates of typed definitions, as their environment has them.
use Rattle.std.proofs.Common.{◌≡◌, ℕ, Bool, true, false, cond, List, [], ◌∷◌, length, Option, Some, None, refl, sym, ap, ◌∙◌, subst, ⊎_elim}
use Rattle.std.specs.Prelude.{◌==◌, not, is_some, Contains, option_and_then}
use Rattle.std.specs.List.{AllByRecursion, IsDistinct}
use Rattle.std.specs.Str.{bytes_eq}
use Rattle.std.proofs.lemmas.Bool.{or_parts, eqb-true, not-false}
use Rattle.std.proofs.lemmas.Slice.Eq.{bytes_eq-Decides}
use Rattle.isle_base.specs.declared.ids.TermId.{TermId}
use Rattle.isle_core.specs.Pattern.{Pattern as CorePattern}
use Rattle.isle_core.specs.Rule.{Environment}
use Rattle.isle_core.proofs.Contained.{contained_cases, none_contained}
use Rattle.isle_core.proofs.OptionLaws.{some_same}
use Rattle.isle_ast.specs.Tree as tree
use Rattle.isle_ast.specs.Tree.{Def}
use Rattle.isle_declarations.specs.declared.terms.Origin.TheVariants as origin
use Rattle.isle_declarations.specs.Heads.{extractor_terms}
use Rattle.isle_declarations.specs.Repeats.{repeats}
use Rattle.isle_declarations.specs.Signatures.{Signature, Template, Extracting, ByFunction, ByTemplate, ExtractorDef, signatures, extractors, signature_named, extractor_named}
use Rattle.isle_declarations.specs.Terms.{terms}
use Rattle.isle_declarations.proofs.DistinctNames.{distinct_names}
use Rattle.isle_declarations.proofs.LookUps.{named_is}
use Rattle.isle_sema.specs.Templates.{template_pass, template_tree, templates, is_treed, has_tree}
use Rattle.isle_sema.proofs.Conversions.{term_alone, declared_there}
use Rattle.isle_sema.proofs.NamedExtractors.{is_named, holds_at, fails_at, template_there}
use Rattle.isle_sema.proofs.TermFaults.{terms_kept}
use Rattle.isle_sema.proofs.TypedParts.{IsGivenIn}
use Rattle.isle_templates.specs.Substituted.{template_of}
use Rattle.isle_terms.specs.DeclarationRows.{template_misfit}
use Rattle.isle_terms.specs.Whole.{whole_of, declared, termed}
use Rattle.isle_types.specs.TypeRows.{on}
use Rattle.isle_prelude_laws.proofs.GivenTerms.{names_apart, IsGivenTerm}

-- ---- the extractor of a term

differs_from : (name : List ℕ) (xs : List ExtractorDef) (x : ExtractorDef)
    → AllByRecursion (λ (n : List ℕ). bytes_eq name n ≡ false) (extractor_terms xs) → Contains xs x → bytes_eq name x.term ≡ false
differs_from name [] x h c = absurd (none_contained x c)
differs_from name (y ∷ xs) x h c = ⊎_elim (λ (same : y ≡ x). subst (λ (z : ExtractorDef). bytes_eq name z.term ≡ false) same h.0) (λ there. differs_from name xs x h.1 there) (contained_cases y xs x c)

extractor_alone : (xs : List ExtractorDef) (x : ExtractorDef) → IsDistinct bytes_eq (extractor_terms xs) → Contains xs x → extractor_named xs x.term ≡ Some x
unfolding IsDistinct
extractor_alone [] x d c = absurd (none_contained x c)
extractor_alone (y ∷ xs) x d c =
    ⊎_elim
    (λ (same : y ≡ x). ap (λ b. cond b (Some y) (extractor_named xs x.term)) ((bytes_eq-Decides y.term x.term).1 (ap (λ (z : ExtractorDef). z.term) same)) ∙ ap Some same)
    (λ there. ap (λ b. cond b (Some y) (extractor_named xs x.term)) (differs_from y.term xs x d.0 there) ∙ extractor_alone xs x d.1 there)
    (contained_cases y xs x c)

pub given_extractor : (defs : List Def) (env : Environment) (x : ExtractorDef) → IsGivenIn defs env → Contains (extractors defs) x
    → extractor_named (extractors defs) x.term ≡ Some x
given_extractor defs env x g c = extractor_alone (extractors defs) x (distinct_names (extractor_terms (extractors defs)) (terms_kept defs [] defs g.terms_kept).extractors_apart) c

-- ---- terms without a template

-- one that a function takes apart
pub by_function : (defs : List Def) (env : Environment) (s : Signature) (term : TermId) (x : ExtractorDef) (func : List ℕ) (infallible : Bool)
    → IsGivenIn defs env → IsGivenTerm defs env s term → Contains (extractors defs) x → x.term ≡ s.term → x.by ≡ ByFunction func infallible
    → template_of (templates (whole_of defs)) term ≡ None
by_function defs env s term x func infallible g k c named by =
    template_there (whole_of defs) term s k.at
    ∙ ap (option_and_then (λ (y : ExtractorDef). template_tree (whole_of defs) s.term y.by)) (ap (extractor_named (extractors defs)) (sym named) ∙ given_extractor defs env x g c)
    ∙ ap (template_tree (whole_of defs) s.term) by

first_declared : (b : Bool) (x d : Signature) (rest : Option Signature) → x.origin ≡ origin.Declared → (rest ≡ Some d → d.origin ≡ origin.Declared)
    → cond b (Some x) rest ≡ Some d → d.origin ≡ origin.Declared
first_declared true x d rest own later h = ap (λ (y : Signature). y.origin) (sym (some_same x d h)) ∙ own
first_declared false x d rest own later h = later h

-- what a declaration gives is declared
named_declared : (ds : List Def) (name : List ℕ) (d : Signature) → signature_named (signatures ds) name ≡ Some d → d.origin ≡ origin.Declared
named_declared [] name d h = absurd cc
named_declared (tree.Decl term pure multi partial recursive args ret pos ∷ ds) name d h =
    let x : Signature = record { term = term; pure = pure; multi = multi; partial = partial; recursive = recursive; args = args; ret = ret; pos = pos; origin = origin.Declared } in
    first_declared (bytes_eq term name) x d (signature_named (signatures ds) name) refl (named_declared ds name d) h
named_declared (tree.TypeDecl n is_extern is_nodebug body pos ∷ ds) name d h = named_declared ds name d h
named_declared (tree.ExternConstructor term func pos ∷ ds) name d h = named_declared ds name d h
named_declared (tree.ExternExtractor term func infallible pos ∷ ds) name d h = named_declared ds name d h
named_declared (tree.ExternConst n ty pos ∷ ds) name d h = named_declared ds name d h
named_declared (tree.Extractor term params template pos ∷ ds) name d h = named_declared ds name d h
named_declared (tree.Converter from to term pos ∷ ds) name d h = named_declared ds name d h
named_declared (tree.Rule n prio term args iflets rhs pos ∷ ds) name d h = named_declared ds name d h
named_declared (tree.Passed head pos ∷ ds) name d h = named_declared ds name d h

-- one that a type makes: extractors are of declared terms
pub by_making : (defs : List Def) (env : Environment) (s : Signature) (term : TermId) (n : ℕ) → IsGivenIn defs env → IsGivenTerm defs env s term
    → Contains (terms defs) s → s.origin ≡ origin.Variant n → template_of (templates (whole_of defs)) term ≡ None
by_making defs env s term n g k c made = template_there (whole_of defs) term s k.at ∙ by (extractor_named (extractors defs) s.term) refl
  where
    declared_alone : (d : Signature) → d.origin ≡ origin.Declared → Contains (terms defs) d → d.term ≡ s.term → ⊥
    declared_alone d own there named =
        let one : Some d ≡ Some s = sym (term_alone (terms defs) d (names_apart defs env g) there) ∙ ap (signature_named (terms defs)) named ∙ term_alone (terms defs) s (names_apart defs env g) c in
        let same : origin.Declared ≡ origin.Variant n = sym own ∙ ap (λ (x : Signature). x.origin) (some_same d s one) ∙ made in
        absurd cc

    by : (o : Option ExtractorDef) → extractor_named (extractors defs) s.term ≡ o
        → option_and_then (λ (y : ExtractorDef). template_tree (whole_of defs) s.term y.by) o ≡ None
    by None is = refl
    by (Some x) is =
        let i = is_named (extractors defs) s.term x is in
        let known : not (is_some (signature_named (signatures defs) s.term)) ≡ false = ap (λ (name : List ℕ). not (is_some (signature_named (signatures defs) name))) (sym i.named) ∙ fails_at (λ (y : ExtractorDef). not (is_some (signature_named (signatures defs) y.term))) (extractors defs) x (terms_kept defs [] defs g.terms_kept).extracted i.among in
        absurd (of_declared (signature_named (signatures defs) s.term) refl known)
      where
        of_declared : (o : Option Signature) → signature_named (signatures defs) s.term ≡ o → not (is_some o) ≡ false → ⊥
        of_declared None at u = absurd cc
        of_declared (Some d) at u = declared_alone d (named_declared defs s.term d at) (declared_there defs s.term d at) (named_is (signatures defs) s.term d at)

-- ---- the template of a term

some_there : {X : Type 0} (o : Option X) → is_some o ≡ true → (x : X) × (o ≡ Some x)
some_there None h = absurd cc
some_there (Some x) h = (x, refl)

-- it has a tree, which is its template in the environment
pub given_template : (defs : List Def) (env : Environment) (s : Signature) (term : TermId) (x : ExtractorDef) (t : Template) → IsGivenIn defs env
    → IsGivenTerm defs env s term → Contains (extractors defs) x → x.term ≡ s.term → x.by ≡ ByTemplate t
    → (q : CorePattern) × ((template_pass (whole_of defs) s.term t).tree ≡ Some q) × (template_of (templates (whole_of defs)) term ≡ Some q)
given_template defs env s term x t g k c named by =
    let w = whole_of defs in
    let treed : is_some (template_pass w s.term t).tree ≡ true =
    ap (λ how. is_treed w s.term how) (sym by) ∙ ap (λ (name : List ℕ). is_treed w name x.by) (sym named) ∙ holds_at (has_tree w) (extractors defs) x g.treed c in
    let q = some_there (template_pass w s.term t).tree treed in (
      q.0,
      q.1,
      template_there w term s k.at
          ∙ ap (option_and_then (λ (y : ExtractorDef). template_tree w s.term y.by)) (ap (extractor_named (extractors defs)) (sym named) ∙ given_extractor defs env x g c)
          ∙ ap (template_tree w s.term) by ∙ q.1,
    )

-- ---- its parameters

-- they are apart, and as many as the term has arguments
pub record AreParams (s : Signature) (params : List (List ℕ)) : Type 0 where
  pub apart : IsDistinct bytes_eq params
  pub many : length params ≡ length s.args

pub given_params : (defs : List Def) (env : Environment) (s : Signature) (x : ExtractorDef) (t : Template) → IsGivenIn defs env
    → termed (whole_of defs) s.term ≡ Some s → Contains (extractors defs) x → x.term ≡ s.term → x.by ≡ ByTemplate t → AreParams s t.params
given_params defs env s x t g alone c named how =
    let kept = terms_kept defs [] defs g.terms_kept in
    let w = whole_of defs in
    let misfit : template_misfit w (record { term = s.term; by = ByTemplate t; pos = x.pos }) ≡ false =
    ap (λ (by : Extracting). template_misfit w (record { term = s.term; by = by; pos = x.pos })) (sym how) ∙ ap (λ (name : List ℕ). template_misfit w (record { term = name; by = x.by; pos = x.pos })) (sym named)
    ∙ fails_at (template_misfit w) (extractors defs) x kept.fitted c in
    let unknown : not (is_some (signature_named (signatures defs) s.term)) ≡ false = ap (λ (name : List ℕ). not (is_some (signature_named (signatures defs) name))) (sym named) ∙ fails_at (λ (y : ExtractorDef). not (is_some (signature_named (signatures defs) y.term))) (extractors defs) x kept.extracted c in
    let p = or_parts (on (declared w s.term) (λ (d : Signature). not (length t.params == length d.args))) (repeats t.params) misfit in
    record { apart = distinct_names t.params p.1; many = as_many (signature_named (signatures defs) s.term) refl unknown p.0 }
  where
    as_many : (o : Option Signature) → signature_named (signatures defs) s.term ≡ o → not (is_some o) ≡ false
        → on o (λ (d : Signature). not (length t.params == length d.args)) ≡ false → length t.params ≡ length s.args
    as_many None is u e = absurd cc
    as_many (Some d) is u e =
        let own = term_alone (terms defs) d (names_apart defs env g) (declared_there defs s.term d is) in
        let same : d ≡ s = some_same d s (sym own ∙ ap (termed (whole_of defs)) (named_is (signatures defs) s.term d is) ∙ alone) in
        eqb-true (length t.params) (length d.args) (not-false (length t.params == length d.args) e) ∙ ap (λ (y : Signature). length y.args) same
