-- The names of simple definitions' external functions may be emitted.
use Rattle.std.proofs.Common.{◌≡◌, ◌⊎◌, inl, inr, ℕ, List, [], ◌∷◌, ◌++◌, map, Bool, true, false, Option, Some, None, refl, sym, ap, ap₂, ◌∙◌, subst}
use Rattle.std.specs.Prelude.{filter_map, flat_map, option_map, find}
use Rattle.std.specs.List.{AllByRecursion, IsDistinct, cons_option}
use Rattle.std.specs.Str.{bytes_eq}
use Rattle.std.proofs.lemmas.Option.{same_Some}
use Rattle.isle_core.specs.declared.TypeId.{TypeId}
use Rattle.isle_core.specs.declared.types.Term.{Term}
use Rattle.isle_core.specs.ExternalSig.{func_by, func_of, extracted_by, extracted_of}
use Rattle.isle_core.specs.Rule.{Environment}
use Rattle.isle_core.specs.Terms.{sym_text, symbol_text}
use Rattle.isle_ast.specs.Tree.{Def, TypeDecl, Decl, ExternConstructor, ExternExtractor, ExternConst, Extractor, Converter, Rule, Passed}
use Rattle.isle_declarations.specs.declared.terms.Origin.{Origin}
use Rattle.isle_declarations.specs.declared.terms.Origin.TheVariants as origin
use Rattle.isle_declarations.specs.Signatures.{Signature, Extern, Extracting, ByFunction, ByTemplate, ExtractorDef, extern_of, extractor_of, externs}
use Rattle.isle_declarations.specs.Signatures.{extractors, func_named, extractor_named}
use Rattle.isle_declarations.specs.Symbols.{sym_of, symbols}
use Rattle.isle_declarations.specs.Terms.{terms}
use Rattle.isle_simulation.specs.TraitFns.{constructor_fn, extractor_fn, fns_before, trait_fns_in, HasFnNames}
use Rattle.isle_spelling.specs.Identifier.{IsIdentifier}
use Rattle.isle_terms.specs.TermPass.{constructor_of, extractor_from, kind_from, term_from}
use Rattle.isle_terms.specs.Whole.{whole_of}
use Rattle.isle_tree.specs.declared.tree.TraitFn.{TraitFn}
use Rattle.isle_tree.specs.WellFormed.{fn_names}
use Rattle.isle_types.specs.TypeEnvironment.{type_env_of}
use Rattle.isle_writing.specs.Erased.{all_erased}
use Rattle.isle_prelude_accepted.proofs.Has.{Has, AreApart, has_either, has_map, has_found, has_source, has_flattened, has_all, apart_append, apart_parts}
use Rattle.isle_prelude_accepted.proofs.Has.{apart_flat, apart_distinct, same_bytes}
use Rattle.isle_prelude_accepted.proofs.AtPlaces.{externs_same}
use Rattle.isle_prelude_accepted.proofs.Simple.{AreSimple, IsSound, function_of}
use Rattle.isle_prelude_accepted.proofs.Callees.{sound_in, terms_once}
use Rattle.isle_prelude_accepted.proofs.Symbols.{is_symbol, text_is}
use Rattle.isle_prelude_accepted.proofs.TemplateFaults.{find_is}
use Rattle.isle_prelude_accepted.proofs.TypedEnvironment.{AreTermsOf}

-- ---- nothing twice

pub apart_unmap : {A B : Type 0} (f : A → B) (xs : List A) → AreApart (map f xs) → AreApart xs
apart_unmap f [] h = tt
apart_unmap f (x ∷ xs) h = ((λ i. h.0 (has_map f xs x i)), apart_unmap f xs h.1)

-- of things that are apart by this, two of one kind are one
pub apart_same : {A B : Type 0} (f : A → B) (xs : List A) (x y : A) → AreApart (map f xs) → Has xs x → Has xs y → f x ≡ f y → x ≡ y
apart_same f [] x y h i j e = absurd i
apart_same {A} {B} f (z ∷ zs) x y h i j e = by (λ k l. apart_same f zs x y h.1 k l e) i j
  where
    by : (Has zs x → Has zs y → x ≡ y) → (z ≡ x) ⊎ Has zs x → (z ≡ y) ⊎ Has zs y → x ≡ y
    by rest (inl a) (inl b) = sym a ∙ b
    by rest (inl a) (inr b) = absurd (h.0 (subst (Has (map f zs)) (sym (ap f a ∙ e)) (has_map f zs y b)))
    by rest (inr a) (inl b) = absurd (h.0 (subst (Has (map f zs)) (e ∙ sym (ap f b)) (has_map f zs x a)))
    by rest (inr a) (inr b) = rest a b

-- so of things that may have none
apart_one : {A B : Type 0} (f : A → Option B) (xs : List A) (x y : A) (z : B) → AreApart (filter_map f xs) → Has xs x → Has xs y → f x ≡ Some z
    → f y ≡ Some z → x ≡ y
apart_one f [] x y z h i j e g = absurd i
apart_one {A} {B} f (a ∷ as') x y z h i j e g = by (f a) refl (λ r k l. apart_one f as' x y z r k l e g) h i j
  where
    by : (o : Option B) → f a ≡ o → (AreApart (filter_map f as') → Has as' x → Has as' y → x ≡ y) → AreApart (cons_option o (filter_map f as'))
        → (a ≡ x) ⊎ Has as' x → (a ≡ y) ⊎ Has as' y → x ≡ y
    by o s rest k (inl p) (inl q) = sym p ∙ q
    by None s rest k (inl p) (inr q) = absurd (let both : None ≡ Some z = sym s ∙ ap f p ∙ e in cc)
    by None s rest k (inr p) (inl q) = absurd (let both : None ≡ Some z = sym s ∙ ap f q ∙ g in cc)
    by None s rest k (inr p) (inr q) = rest k p q
    by (Some b) s rest k (inl p) (inr q) = absurd (k.0 (subst (Has (filter_map f as')) (same_Some z b (sym (ap f p ∙ e) ∙ s)) (has_found f as' y z q g)))
    by (Some b) s rest k (inr p) (inl q) = absurd (k.0 (subst (Has (filter_map f as')) (same_Some z b (sym (ap f q ∙ g) ∙ s)) (has_found f as' x z p e)))
    by (Some b) s rest k (inr p) (inr q) = rest k.1 p q

-- ---- the functions of a term

-- the function of an extractor, if it is one
abbrev taken_by_name : Option ExtractorDef → List (List ℕ)
taken_by_name None = []
taken_by_name (Some x) = cons_option (function_of x.by) []

-- the function of an external constructor, if there is one
abbrev made_by_name : Option (List ℕ) → List (List ℕ)
made_by_name o = cons_option o []

-- the functions of a term of this origin: a made one has none
abbrev functions_at : List Def → List ℕ → Origin → List (List ℕ)
functions_at defs term origin.Declared = taken_by_name (extractor_named (extractors defs) term) ++ made_by_name (func_named (externs defs) term)
functions_at defs term (origin.Variant n) = []
functions_at defs term origin.Struct = []

-- those of a signature
abbrev functions_of_term : List Def → Signature → List (List ℕ)
functions_of_term defs s = functions_at defs s.term s.origin

-- the functions that take values apart
abbrev takers : List Def → List (List ℕ)
takers ds = filter_map (λ (x : ExtractorDef). function_of x.by) (extractors ds)

takers_same : (ds : List Def) → takers (all_erased ds) ≡ takers ds
takers_same [] = refl
takers_same (ExternExtractor term func infallible at ∷ ds) = ap (λ names. func ∷ names) (takers_same ds)
takers_same (Extractor term params template at ∷ ds) = takers_same ds
takers_same (TypeDecl name x n body at ∷ ds) = takers_same ds
takers_same (Decl term pure multi partial recursive args ret at ∷ ds) = takers_same ds
takers_same (ExternConstructor term func at ∷ ds) = takers_same ds
takers_same (ExternConst name ty at ∷ ds) = takers_same ds
takers_same (Converter from to term at ∷ ds) = takers_same ds
takers_same (Rule name prio term args iflets rhs at ∷ ds) = takers_same ds
takers_same (Passed head at ∷ ds) = takers_same ds

-- where the name of a term's function comes from
abbrev IsTaken : List Def → List ℕ → List ℕ → Type 0
IsTaken defs term func = (x : ExtractorDef) × Has (extractors defs) x × (x.term ≡ term) × (function_of x.by ≡ Some func)

-- an external constructor of the term, by this function
abbrev IsMade : List Def → List ℕ → List ℕ → Type 0
IsMade defs term func = (x : Extern) × Has (externs defs) x × (x.term ≡ term) × (x.func ≡ func)

taken_from : (defs : List Def) (term func : List ℕ) (o : Option ExtractorDef) → extractor_named (extractors defs) term ≡ o
    → Has (taken_by_name o) func → IsTaken defs term func
taken_from defs term func None e i = absurd i
taken_from defs term func (Some x) e i =
    let found = find_is (λ (y : ExtractorDef). bytes_eq y.term term) (extractors defs) x e in
    (x, found.0, same_bytes x.term term found.1, by (function_of x.by) i)
  where
    by : (p : Option (List ℕ)) → Has (cons_option p []) func → p ≡ Some func
    by None j = absurd j
    by (Some g) (inl s) = ap Some s
    by (Some g) (inr j) = absurd j

made_from : (defs : List Def) (term func : List ℕ) → Has (made_by_name (func_named (externs defs) term)) func → IsMade defs term func
made_from defs term func i = by (find (λ (y : Extern). bytes_eq y.term term) (externs defs)) refl i
  where
    by : (o : Option Extern) → find (λ (y : Extern). bytes_eq y.term term) (externs defs) ≡ o
        → Has (made_by_name (option_map (λ (y : Extern). y.func) o)) func → IsMade defs term func
    by None e j = absurd j
    by (Some x) e (inl s) = let found = find_is (λ (y : Extern). bytes_eq y.term term) (externs defs) x e in (x, found.0, same_bytes x.term term found.1, s)
    by (Some x) e (inr j) = absurd j

functions_from : (defs : List Def) (term func : List ℕ) (o : Origin) → Has (functions_at defs term o) func → IsTaken defs term func ⊎ IsMade defs term func
functions_from defs term func origin.Declared i =
    by (has_either (taken_by_name (extractor_named (extractors defs) term)) (made_by_name (func_named (externs defs) term)) func i)
  where
    by : Has (taken_by_name (extractor_named (extractors defs) term)) func ⊎ Has (made_by_name (func_named (externs defs) term)) func
        → IsTaken defs term func ⊎ IsMade defs term func
    by (inl j) = inl (taken_from defs term func (extractor_named (extractors defs) term) refl j)
    by (inr j) = inr (made_from defs term func j)
functions_from defs term func (origin.Variant n) i = absurd i
functions_from defs term func origin.Struct i = absurd i

-- at most one
one_apart : {A : Type 0} (o : Option A) → AreApart (cons_option o [])
one_apart None = tt
one_apart (Some x) = ((λ i. i), tt)

taken_apart : (o : Option ExtractorDef) → AreApart (taken_by_name o)
taken_apart None = tt
taken_apart (Some x) = one_apart (function_of x.by)

module _ (defs : List Def) (h : AreSimple (all_erased defs)) where
  -- the functions that make values, those that take them apart, and that none is both
  apart_functions : AreApart (map (λ (x : Extern). x.func) (externs defs)) × AreApart (takers defs) × ((f : List ℕ) → Has (map (λ (x : Extern). x.func) (externs defs)) f → Has (takers defs) f → ⊥)
  apart_functions =
      apart_parts (map (λ (x : Extern). x.func) (externs defs)) (takers defs)
      (subst AreApart (ap₂ (λ (xs : List Extern) (ts : List (List ℕ)). map (λ (x : Extern). x.func) xs ++ ts) (externs_same defs) (takers_same defs)) h.functions_apart)

  never_both : (a b func : List ℕ) → IsTaken defs a func → IsMade defs b func → ⊥
  never_both a b func t m =
      apart_functions.2 func (subst (Has (map (λ (x : Extern). x.func) (externs defs))) m.3 (has_map (λ (x : Extern). x.func) (externs defs) m.0 m.1))
      (has_found (λ (x : ExtractorDef). function_of x.by) (extractors defs) t.0 func t.1 t.3)

  one_term : (a b func : List ℕ) → IsTaken defs a func ⊎ IsMade defs a func → IsTaken defs b func ⊎ IsMade defs b func → a ≡ b
  one_term a b func (inl s) (inl t) =
      sym s.2
      ∙ ap (λ (x : ExtractorDef). x.term) (apart_one (λ (x : ExtractorDef). function_of x.by) (extractors defs) s.0 t.0 func apart_functions.1 s.1 t.1 s.3 t.3)
      ∙ t.2
  one_term a b func (inl s) (inr t) = absurd (never_both a b func s t)
  one_term a b func (inr s) (inl t) = absurd (never_both b a func t s)
  one_term a b func (inr s) (inr t) =
      sym s.2 ∙ ap (λ (x : Extern). x.term) (apart_same (λ (x : Extern). x.func) (externs defs) s.0 t.0 apart_functions.0 s.1 t.1 (s.3 ∙ sym t.3)) ∙ t.2

  each_apart : (term : List ℕ) (o : Origin) → AreApart (functions_at defs term o)
  each_apart term origin.Declared =
      apart_append (taken_by_name (extractor_named (extractors defs) term)) (made_by_name (func_named (externs defs) term))
      (taken_apart (extractor_named (extractors defs) term)) (one_apart (func_named (externs defs) term))
      (λ func i j. never_both term term func (taken_from defs term func (extractor_named (extractors defs) term) refl i) (made_from defs term func j))
  each_apart term (origin.Variant n) = tt
  each_apart term origin.Struct = tt

  -- no two terms have one function
  all_apart : AreApart (flat_map (functions_of_term defs) (terms defs))
  all_apart =
      apart_flat (functions_of_term defs) (terms defs) (apart_unmap (λ (s : Signature). s.term) (terms defs) (terms_once defs h)) (λ s i. each_apart s.term s.origin)
      (λ s t func i j k l. apart_same (λ (x : Signature). x.term) (terms defs) s t (terms_once defs h) i j
      (one_term s.term t.term func (functions_from defs s.term func s.origin k) (functions_from defs t.term func t.origin l)))

  -- ---- each is an identifier, and a symbol

  -- an identifier that is a symbol
  abbrev IsNamed : List ℕ → Type 0
  IsNamed func = IsIdentifier func × Has (symbols defs) func

  taker_named : (d : Def) (x : ExtractorDef) (func : List ℕ) → Has defs d → extractor_of d ≡ Some x → function_of x.by ≡ Some func → IsNamed func
  taker_named (ExternExtractor term f infallible at) x func i e g =
      let s : IsSound (all_erased defs) (ExternExtractor term f infallible at) = sound_in defs h (ExternExtractor term f infallible at) i in
      let is : f ≡ func = same_Some f func (ap (λ (y : ExtractorDef). function_of y.by) (same_Some _ x e) ∙ g) in
      subst IsNamed is (s.named, is_symbol defs (ExternExtractor term f infallible at) f i (inr (inl refl)))
  taker_named (Extractor term params template at) x func i e g =
      absurd (let none : None ≡ Some func = ap (λ (y : ExtractorDef). function_of y.by) (same_Some _ x e) ∙ g in cc)
  taker_named (TypeDecl name y n body at) x func i e g = absurd cc
  taker_named (Decl term pure multi partial recursive args ret at) x func i e g = absurd cc
  taker_named (ExternConstructor term f at) x func i e g = absurd cc
  taker_named (ExternConst name ty at) x func i e g = absurd cc
  taker_named (Converter from to term at) x func i e g = absurd cc
  taker_named (Rule name prio term args iflets rhs at) x func i e g = absurd cc
  taker_named (Passed head at) x func i e g = absurd cc

  maker_named : (d : Def) (x : Extern) (func : List ℕ) → Has defs d → extern_of d ≡ Some x → x.func ≡ func → IsNamed func
  maker_named (ExternConstructor term f at) x func i e g =
      let s : IsSound (all_erased defs) (ExternConstructor term f at) = sound_in defs h (ExternConstructor term f at) i in
      let is : f ≡ func = ap (λ (y : Extern). y.func) (same_Some _ x e) ∙ g in
      subst IsNamed is (s.named, is_symbol defs (ExternConstructor term f at) f i (inr (inl refl)))
  maker_named (ExternExtractor term f infallible at) x func i e g = absurd cc
  maker_named (Extractor term params template at) x func i e g = absurd cc
  maker_named (TypeDecl name y n body at) x func i e g = absurd cc
  maker_named (Decl term pure multi partial recursive args ret at) x func i e g = absurd cc
  maker_named (ExternConst name ty at) x func i e g = absurd cc
  maker_named (Converter from to term at) x func i e g = absurd cc
  maker_named (Rule name prio term args iflets rhs at) x func i e g = absurd cc
  maker_named (Passed head at) x func i e g = absurd cc

  function_named : (term func : List ℕ) → IsTaken defs term func ⊎ IsMade defs term func → IsNamed func
  function_named term func (inl t) = let d = has_source extractor_of defs t.0 t.1 in taker_named d.0 t.0 func d.1 d.2 t.3
  function_named term func (inr m) = let d = has_source extern_of defs m.0 m.1 in maker_named d.0 m.0 func d.1 d.2 m.3

  -- ---- the functions of the trait

  module _ (env : Environment) (types_are : env.types ≡ type_env_of defs) where
    function_text : (func : List ℕ) → Has (symbols defs) func → sym_text env (sym_of (symbols defs) func) ≡ func
    function_text func i = ap (λ types. symbol_text types (sym_of (symbols defs) func)) types_are ∙ text_is defs func i

    -- the symbol of each of these has it as its text
    abbrev AreTexts : List (List ℕ) → Type 0
    AreTexts names = (func : List ℕ) → Has names func → sym_text env (sym_of (symbols defs) func) ≡ func

    names_by : (t : Term) (fns : List TraitFn) (multi : Bool) (x : Option ExtractorDef) (f : Option (List ℕ)) (ruled : Bool)
        → AreTexts (taken_by_name x ++ made_by_name f)
        → fn_names (cons_option (option_map (extractor_fn env t) (extracted_by multi (extractor_from (symbols defs) x))) (cons_option (option_map (constructor_fn env t) (func_by (constructor_of (symbols defs) f ruled))) fns))
        ≡ (taken_by_name x ++ made_by_name f) ++ fn_names fns
    names_by t fns multi None None true k = refl
    names_by t fns multi None None false k = refl
    names_by t fns multi None (Some f) ruled k = ap (λ n. n ∷ fn_names fns) (k f (inl refl))
    names_by t fns multi (Some x) f ruled k = with_taker x.by f ruled k
      where
        with_taker : (by : Extracting) (g : Option (List ℕ)) (r : Bool) → AreTexts (cons_option (function_of by) [] ++ made_by_name g)
            → fn_names (cons_option (option_map (extractor_fn env t) (extracted_by multi (extractor_from (symbols defs) (Some (record { term = x.term; by = by; pos = x.pos })))))
            (cons_option (option_map (constructor_fn env t) (func_by (constructor_of (symbols defs) g r))) fns))
            ≡ (cons_option (function_of by) [] ++ made_by_name g) ++ fn_names fns
        with_taker (ByFunction func infallible) None true l = ap (λ n. n ∷ fn_names fns) (l func (inl refl))
        with_taker (ByFunction func infallible) None false l = ap (λ n. n ∷ fn_names fns) (l func (inl refl))
        with_taker (ByFunction func infallible) (Some g) r l = ap₂ (λ m n. m ∷ n ∷ fn_names fns) (l func (inl refl)) (l g (inr (inl refl)))
        with_taker (ByTemplate template) None true l = refl
        with_taker (ByTemplate template) None false l = refl
        with_taker (ByTemplate template) (Some g) r l = ap (λ n. n ∷ fn_names fns) (l g (inl refl))

    names_at : (t : Term) (fns : List TraitFn) (s : Signature) (ret : TypeId) (o : Origin) → AreTexts (functions_at defs s.term o)
        → fn_names (cons_option (option_map (extractor_fn env t) (extracted_of (kind_from (whole_of defs) s ret o))) (cons_option (option_map (constructor_fn env t) (func_of (kind_from (whole_of defs) s ret o))) fns))
        ≡ functions_at defs s.term o ++ fn_names fns
    names_at t fns s ret origin.Declared k = names_by t fns s.multi (extractor_named (extractors defs) s.term) (func_named (externs defs) s.term) _ k
    names_at t fns s ret (origin.Variant n) k = refl
    names_at t fns s ret origin.Struct k = refl

    all_names : (sigs : List Signature) (ts : List Term) → AreTermsOf (whole_of defs) sigs ts
        → fn_names (trait_fns_in env ts) ≡ flat_map (functions_of_term defs) sigs
    all_names [] [] k = refl
    all_names [] (t ∷ ts) k = absurd k
    all_names (s ∷ sigs) [] k = absurd k
    all_names (s ∷ sigs) (t ∷ ts) k =
        ap (λ x. fn_names (fns_before env x (trait_fns_in env ts))) k.0.is
        ∙ names_at (term_from (whole_of defs) s k.0.args k.0.ret) (trait_fns_in env ts) s k.0.ret s.origin
        (λ func i. function_text func (function_named s.term func (functions_from defs s.term func s.origin i)).1)
        ∙ ap (λ names. functions_of_term defs s ++ names) (all_names sigs ts k.1)

    all_identifiers : (fns : List TraitFn) → AllByRecursion IsIdentifier (fn_names fns) → AllByRecursion (λ (f : TraitFn). IsIdentifier f.name) fns
    all_identifiers [] k = tt
    all_identifiers (f ∷ fns) k = (k.0, all_identifiers fns k.1)

    -- they may be emitted
    pub functions_named : AreTermsOf (whole_of defs) (terms defs) env.terms → HasFnNames env
    functions_named k =
        let names = all_names (terms defs) env.terms k in
        record {
          identifiers =
              all_identifiers (trait_fns_in env env.terms)
              (subst (AllByRecursion IsIdentifier) (sym names) (has_all IsIdentifier (flat_map (functions_of_term defs) (terms defs))
              (λ func i. (let r = has_flattened (functions_of_term defs) (terms defs) func i in (function_named r.0.term func (functions_from defs r.0.term func r.0.origin r.2)).0))));
          distinct = subst (IsDistinct bytes_eq) (sym names) (apart_distinct (flat_map (functions_of_term defs) (terms defs)) all_apart);
        }
