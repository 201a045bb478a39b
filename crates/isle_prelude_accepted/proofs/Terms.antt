-- The terms of simple definitions: no two have one name, and each is found by its name.
use Rattle.std.proofs.Common.{◌≡◌, ◌⊎◌, inl, inr, ℕ, ◌+◌, List, [], ◌∷◌, ◌++◌, map, refl, sym, ap, ◌∙◌, subst}
use Rattle.std.proofs.lemmas.List.{map-append}
use Rattle.isle_core.specs.declared.position.Pos.{Pos}
use Rattle.isle_ast.specs.Tree.{Def, TypeDecl, Decl, ExternConstructor, ExternExtractor, ExternConst, Extractor, Converter, Rule, Passed}
use Rattle.isle_ast.specs.declared.tree.AstBody.TheVariants.{Primitive, Enum, Struct}
use Rattle.isle_ast.specs.declared.tree.AstVariant.{AstVariant}
use Rattle.isle_declarations.specs.declared.terms.Origin.TheVariants as origin
use Rattle.isle_declarations.specs.DeclaredTypes.{variant_term, made_by, made_terms}
use Rattle.isle_declarations.specs.Heads.{terms_of}
use Rattle.isle_declarations.specs.Signatures.{Signature, signatures}
use Rattle.isle_declarations.specs.Terms.{made_signature, variant_signatures, terms}
use Rattle.isle_prelude_accepted.proofs.Has.{Has, AreApart, has_front, has_back, has_either, apart_append, apart_parts}

-- ---- names of terms

variants_named : (ty : List ℕ) (at : Pos) (i : ℕ) (vs : List AstVariant)
    → terms_of (variant_signatures ty at i vs) ≡ map (λ (v : AstVariant). variant_term ty v.name) vs
variants_named ty at i [] = refl
variants_named ty at i (v ∷ vs) = ap (λ names. variant_term ty v.name ∷ names) (variants_named ty at (i + 1) vs)

-- the terms of definitions behind the first
more_named : (first rest : List Signature) → terms_of (first ++ rest) ≡ terms_of first ++ terms_of rest
more_named first rest = map-append (λ (s : Signature). s.term) first rest

-- the name of a term is that of one that is made or declared
abbrev Names : List Def → List ℕ → Type 0
Names ds name = Has (made_terms ds) name ⊎ Has (terms_of (signatures ds)) name

made_later : (ms : List (List ℕ)) (ds : List Def) (name : List ℕ) → Names ds name → Has (ms ++ made_terms ds) name ⊎ Has (terms_of (signatures ds)) name
made_later ms ds name (inl i) = inl (has_back ms (made_terms ds) name i)
made_later ms ds name (inr i) = inr i

of_body : (ms : List (List ℕ)) (first : List Signature) (ds : List Def) (name : List ℕ) → terms_of first ≡ ms → (Has (terms_of (terms ds)) name → Names ds name)
    → Has (terms_of (first ++ terms ds)) name → Has (ms ++ made_terms ds) name ⊎ Has (terms_of (signatures ds)) name
of_body ms first ds name are rest i =
    by (has_either ms (terms_of (terms ds)) name (subst (λ names. Has names name) (more_named first (terms ds) ∙ ap (λ ns. ns ++ terms_of (terms ds)) are) i))
  where
    by : Has ms name ⊎ Has (terms_of (terms ds)) name → Has (ms ++ made_terms ds) name ⊎ Has (terms_of (signatures ds)) name
    by (inl k) = inl (has_front ms (made_terms ds) name k)
    by (inr k) = made_later ms ds name (rest k)

pub term_names : (ds : List Def) (name : List ℕ) → Has (terms_of (terms ds)) name → Names ds name
term_names [] name i = absurd i
term_names (TypeDecl ty is_extern is_nodebug (Primitive rust) at ∷ ds) name i = term_names ds name i
term_names (TypeDecl ty is_extern is_nodebug (Enum vs) at ∷ ds) name i =
    of_body (made_by ty (Enum vs)) (variant_signatures ty at 0 vs) ds name (variants_named ty at 0 vs) (term_names ds name) i
term_names (TypeDecl ty is_extern is_nodebug (Struct fields) at ∷ ds) name i =
    of_body (ty ∷ []) (made_signature ty ty fields origin.Struct at ∷ []) ds name refl (term_names ds name) i
term_names (Decl term pure multi partial recursive args ret at ∷ ds) name i = by (term_names ds name) i
  where
    by : (Has (terms_of (terms ds)) name → Names ds name) → (term ≡ name) ⊎ Has (terms_of (terms ds)) name
        → Has (made_terms ds) name ⊎ ((term ≡ name) ⊎ Has (terms_of (signatures ds)) name)
    by rest (inl e) = inr (inl e)
    by rest (inr k) = to (rest k)
      where
        to : Names ds name → Has (made_terms ds) name ⊎ ((term ≡ name) ⊎ Has (terms_of (signatures ds)) name)
        to (inl j) = inl j
        to (inr j) = inr (inr j)
term_names (ExternConstructor term func at ∷ ds) name i = term_names ds name i
term_names (ExternExtractor term func infallible at ∷ ds) name i = term_names ds name i
term_names (ExternConst name' ty at ∷ ds) name i = term_names ds name i
term_names (Extractor term params template at ∷ ds) name i = term_names ds name i
term_names (Converter from to term at ∷ ds) name i = term_names ds name i
term_names (Rule name' prio term args iflets rhs at ∷ ds) name i = term_names ds name i
term_names (Passed head at ∷ ds) name i = term_names ds name i

-- made names and declared ones are apart
abbrev pub AreNamesApart : List Def → Type 0
AreNamesApart ds =
    AreApart (made_terms ds) × AreApart (terms_of (signatures ds)) × ((name : List ℕ) → Has (made_terms ds) name → Has (terms_of (signatures ds)) name → ⊥)

body_apart : (ms : List (List ℕ)) (first : List Signature) (ds : List Def) → terms_of first ≡ ms → AreApart (ms ++ made_terms ds) → AreApart (terms_of (terms ds))
    → ((name : List ℕ) → Has (ms ++ made_terms ds) name → Has (terms_of (signatures ds)) name → ⊥) → AreApart (terms_of (first ++ terms ds))
body_apart ms first ds are made rest unmade =
    let parts = apart_parts ms (made_terms ds) made in
    subst AreApart (sym (more_named first (terms ds) ∙ ap (λ ns. ns ++ terms_of (terms ds)) are))
    (apart_append ms (terms_of (terms ds)) parts.0 rest (λ name i j. by parts.2 name i (term_names ds name j)))
  where
    by : ((x : List ℕ) → Has ms x → Has (made_terms ds) x → ⊥) → (name : List ℕ) → Has ms name → Names ds name → ⊥
    by other name i (inl k) = other name i k
    by other name i (inr k) = unmade name (has_front ms (made_terms ds) name i) k

pub terms_apart : (ds : List Def) → AreNamesApart ds → AreApart (terms_of (terms ds))
terms_apart [] h = tt
terms_apart (TypeDecl ty is_extern is_nodebug (Primitive rust) at ∷ ds) h = terms_apart ds h
terms_apart (TypeDecl ty is_extern is_nodebug (Enum vs) at ∷ ds) h =
    let ms = made_by ty (Enum vs) in
    let parts = apart_parts ms (made_terms ds) h.0 in
    body_apart ms (variant_signatures ty at 0 vs) ds (variants_named ty at 0 vs) h.0
    (terms_apart ds (parts.1, h.1, λ name i. h.2 name (has_back ms (made_terms ds) name i))) h.2
terms_apart (TypeDecl ty is_extern is_nodebug (Struct fields) at ∷ ds) h =
    body_apart (ty ∷ []) (made_signature ty ty fields origin.Struct at ∷ []) ds refl h.0
    (terms_apart ds (h.0.1, h.1, λ name i. h.2 name (inr i))) h.2
terms_apart (Decl term pure multi partial recursive args ret at ∷ ds) h =
    (λ i. by (term_names ds term i), terms_apart ds (h.0, h.1.1, λ name i j. h.2 name i (inr j)))
  where
    by : Names ds term → ⊥
    by (inl i) = h.2 term i (inl refl)
    by (inr i) = h.1.0 i
terms_apart (ExternConstructor term func at ∷ ds) h = terms_apart ds h
terms_apart (ExternExtractor term func infallible at ∷ ds) h = terms_apart ds h
terms_apart (ExternConst name ty at ∷ ds) h = terms_apart ds h
terms_apart (Extractor term params template at ∷ ds) h = terms_apart ds h
terms_apart (Converter from to term at ∷ ds) h = terms_apart ds h
terms_apart (Rule name prio term args iflets rhs at ∷ ds) h = terms_apart ds h
terms_apart (Passed head at ∷ ds) h = terms_apart ds h

-- ---- variants

-- a variant's term, at its place among those of its enum
pub variant_there : (ty : List ℕ) (at : Pos) (i : ℕ) (vs : List AstVariant) (v : AstVariant) → Has vs v
    → (k : ℕ) × Has (variant_signatures ty at i vs) (made_signature (variant_term ty v.name) ty v.fields (origin.Variant k) at)
variant_there ty at i [] v h = absurd h
variant_there ty at i (x ∷ vs) v (inl e) = (i, inl (ap (λ (a : AstVariant). made_signature (variant_term ty a.name) ty a.fields (origin.Variant i) at) e))
variant_there ty at i (x ∷ vs) v (inr h) = let r = variant_there ty at (i + 1) vs v h in (r.0, inr r.1)
