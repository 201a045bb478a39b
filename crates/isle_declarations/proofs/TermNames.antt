-- The names of terms are symbols.
use Rattle.std.proofs.Common.{◌≡◌, ℕ, ◌+◌, ◌<◌, List, [], ◌∷◌, ◌++◌, length, map, get_or, Some, None, refl, sym, ap, ◌∙◌}
use Rattle.std.specs.Prelude.{fold, flat_map}
use Rattle.std.specs.List.{AllByRecursion}
use Rattle.std.proofs.lemmas.List.{get_or-map}
use Rattle.isle_core.specs.declared.position.Pos.{Pos}
use Rattle.isle_ast.specs.Tree as tree
use Rattle.isle_ast.specs.Tree.{Def}
use Rattle.isle_ast.specs.declared.tree.Def.{Def as CodeDef}
use Rattle.isle_ast.specs.declared.tree.AstBody.{AstBody}
use Rattle.isle_ast.specs.declared.tree.AstBody.TheVariants.{Primitive, Enum, Struct}
use Rattle.isle_ast.specs.declared.tree.AstVariant.{AstVariant}
use Rattle.isle_ast.specs.Views.{def}
use Rattle.isle_declarations.specs.DeclaredTypes.{variant_term, made_by, made_of, made_terms}
use Rattle.isle_declarations.specs.Heads.{terms_of}
use Rattle.isle_declarations.specs.Names.{def_names}
use Rattle.isle_declarations.specs.Numbered.{AreNumbered}
use Rattle.isle_declarations.specs.Signatures.{Signature, signatures}
use Rattle.isle_declarations.specs.Symbols.{index_of, added, number_or, symbols}
use Rattle.isle_declarations.specs.Terms.{variant_signatures, body_signatures, terms}
use Rattle.isle_declarations.specs.declared.terms.TermDef.{TermDef}
use Rattle.isle_declarations.specs.TermViews.{term_def}
use Rattle.isle_declarations.proofs.DeclaredNames.{AreAmong, are_among, all_absent}
use Rattle.isle_declarations.proofs.NumberLaws.{map_seen}
use Rattle.isle_declarations.proofs.SymbolLaws.{met, kept}

-- the terms that the type of a definition makes, among those of all
pub made_here : (made : List (List (List ℕ))) (ds : List CodeDef) (i : ℕ) (x d : CodeDef) (y e : List (List ℕ)) → made ≡ map made_of (map def ds) → i < length ds → x ≡ get_or ds i d → y ≡ get_or made i e → y ≡ made_of (def x)
made_here made ds i x d y e of lt is at =
    at ∙ ap (λ ys. get_or ys i e) (of ∙ map_seen made_of def ds) ∙ get_or-map (λ (z : CodeDef). made_of (def z)) ds i d e lt ∙ ap (λ z. made_of (def z)) (sym is)

-- ---- names that are there

-- each name is among these
abbrev AreFound : List (List ℕ) → List (List ℕ) → Type 0
AreFound syms names = AllByRecursion (λ (name : List ℕ). (n : ℕ) × (index_of syms name ≡ Some n)) names

all_found : (more names : List (List ℕ)) → AreFound (fold added names more) more
all_found [] names = tt
all_found (term ∷ more) names = let m = met names term in ((m.0, kept more (added names term) term m.0 m.1), all_found more (added names term))

variants_among : (syms : List (List ℕ)) (ty : List ℕ) (pos : Pos) (i : ℕ) (vs : List AstVariant) (rest : List (List ℕ)) (sigs : List Signature) → AreFound syms (map (λ (v : AstVariant). variant_term ty v.name) vs ++ rest)
    → (AreFound syms rest → AreAmong syms sigs) → AreAmong syms (variant_signatures ty pos i vs ++ sigs)
variants_among syms ty pos i [] rest sigs h more = more h
variants_among syms ty pos i (v ∷ vs) rest sigs h more = (h.0, variants_among syms ty pos (i + 1) vs rest sigs h.1 more)

body_among : (syms : List (List ℕ)) (ty : List ℕ) (body : AstBody) (pos : Pos) (rest : List (List ℕ)) (sigs : List Signature) → AreFound syms (made_by ty body ++ rest) → (AreFound syms rest → AreAmong syms sigs)
    → AreAmong syms (body_signatures ty body pos ++ sigs)
body_among syms ty (Primitive rust) pos rest sigs h more = more h
body_among syms ty (Enum variants) pos rest sigs h more = variants_among syms ty pos 0 variants rest sigs h more
body_among syms ty (Struct fields) pos rest sigs h more = (h.0, more h.1)

terms_among : (syms : List (List ℕ)) (defs : List Def) → AreAmong syms (signatures defs) → AreFound syms (made_terms defs) → AreAmong syms (terms defs)
terms_among syms [] h k = tt
terms_among syms (tree.TypeDecl name is_extern is_nodebug body pos ∷ defs) h k = body_among syms name body pos (made_terms defs) (terms defs) k (terms_among syms defs h)
terms_among syms (tree.Decl term pure multi partial recursive args ret pos ∷ defs) h k = (h.0, terms_among syms defs h.1 k)
terms_among syms (tree.ExternConstructor term func pos ∷ defs) h k = terms_among syms defs h k
terms_among syms (tree.ExternExtractor term func infallible pos ∷ defs) h k = terms_among syms defs h k
terms_among syms (tree.ExternConst name ty pos ∷ defs) h k = terms_among syms defs h k
terms_among syms (tree.Extractor term params template pos ∷ defs) h k = terms_among syms defs h k
terms_among syms (tree.Converter from to term pos ∷ defs) h k = terms_among syms defs h k
terms_among syms (tree.Rule name prio term args iflets rhs pos ∷ defs) h k = terms_among syms defs h k
terms_among syms (tree.Passed head pos ∷ defs) h k = terms_among syms defs h k

-- the name of each term is a symbol
pub are_terms_among : (defs : List Def) → AreAmong (symbols defs) (terms defs)
are_terms_among defs = terms_among (symbols defs) defs (are_among defs) (all_found (made_terms defs) (fold added [] (flat_map def_names defs)))

-- what is no symbol is no term
pub no_term : (defs : List Def) (name : List ℕ) → index_of (symbols defs) name ≡ None → index_of (terms_of (terms defs)) name ≡ None
no_term defs name none = all_absent (symbols defs) name (terms defs) (are_terms_among defs) none

-- ---- their numbers

all_numbered : (syms : List (List ℕ)) (sigs : List Signature) → AreAmong syms sigs → AreNumbered syms (terms_of sigs) (map (λ (s : Signature). number_or (index_of syms s.term)) sigs)
all_numbered syms [] h = refl
all_numbered syms (s ∷ sigs) h = ap (λ o. o ∷ map (index_of syms) (terms_of sigs)) (h.0.1 ∙ ap (λ o. Some (number_or o)) (sym h.0.1)) ∙ ap (λ os. Some (number_or (index_of syms s.term)) ∷ os) (all_numbered syms sigs h.1)

-- the numbers of their names
pub numbers_seen : (defs : List Def) (ts : List TermDef) (numbers : List ℕ) → map term_def ts ≡ terms defs → numbers ≡ map (λ (t : TermDef). number_or (index_of (symbols defs) t.term.now)) ts → AreNumbered (symbols defs) (terms_of (terms defs)) numbers
numbers_seen defs ts numbers is given =
    let same : numbers ≡ map (λ (s : Signature). number_or (index_of (symbols defs) s.term)) (terms defs) =
    given ∙ sym (map_seen (λ (s : Signature). number_or (index_of (symbols defs) s.term)) term_def ts) ∙ ap (map (λ (s : Signature). number_or (index_of (symbols defs) s.term))) is in
    rw same (all_numbered (symbols defs) (terms defs) (are_terms_among defs))
