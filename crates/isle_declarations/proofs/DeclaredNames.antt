-- Declared names are symbols.
use Rattle.std.proofs.Common.{◌≡◌, ℕ, ◌+◌, Bool, true, false, cond, List, [], ◌∷◌, ◌++◌, get_or, Option, Some, None, refl, sym, ap, ◌∙◌, subst}
use Rattle.std.specs.Prelude.{fold, flat_map, option_map}
use Rattle.std.specs.List.{AllByRecursion}
use Rattle.std.specs.Str.{bytes_eq}
use Rattle.std.proofs.lemmas.Slice.Eq.{bytes_eq-Decides}
use Rattle.std.proofs.lemmas.List.Sums.{fold-append}
use Rattle.isle_ast.specs.Tree as tree
use Rattle.isle_ast.specs.Tree.{Def}
use Rattle.isle_declarations.specs.Names.{def_names}
use Rattle.isle_declarations.specs.DeclaredTypes.{made_terms}
use Rattle.isle_declarations.specs.Symbols.{index_of, added, number_or, symbols}
use Rattle.isle_declarations.specs.Signatures.{Signature, signatures}
use Rattle.isle_declarations.specs.Heads.{terms_of}
use Rattle.isle_declarations.proofs.SymbolLaws.{met, stands, kept}

-- each declared name is among these
abbrev pub AreAmong : List (List ℕ) → List Signature → Type 0
AreAmong names sigs = AllByRecursion (λ (s : Signature). (n : ℕ) × (index_of names s.term ≡ Some n)) sigs

among_after : (names : List (List ℕ)) (d : Def) (defs : List Def) → AreAmong (fold added (fold added names (def_names d)) (flat_map def_names defs)) (signatures defs) → AreAmong (fold added names (flat_map def_names (d ∷ defs))) (signatures defs)
among_after names d defs h = subst (λ ns. AreAmong ns (signatures defs)) (sym (fold-append added names (def_names d) (flat_map def_names defs))) h

declared_here : (names : List (List ℕ)) (term : List ℕ) (more : List (List ℕ)) → (n : ℕ) × (index_of (fold added names (term ∷ more)) term ≡ Some n)
declared_here names term more = let m = met names term in (m.0, kept more (added names term) term m.0 m.1)

all_among : (defs : List Def) (names : List (List ℕ)) → AreAmong (fold added names (flat_map def_names defs)) (signatures defs)
all_among [] names = tt
all_among (tree.Decl term pure multi partial recursive args ret pos ∷ defs) names =
    let d = tree.Decl term pure multi partial recursive args ret pos in
    (declared_here names term ((args ++ ret ∷ []) ++ flat_map def_names defs), among_after names d defs (all_among defs (fold added names (def_names d))))
all_among (tree.Rule name prio term args iflets rhs pos ∷ defs) names =
    let d = tree.Rule name prio term args iflets rhs pos in
    among_after names d defs (all_among defs (fold added names (def_names d)))
all_among (tree.TypeDecl name is_extern is_nodebug body pos ∷ defs) names =
    let d = tree.TypeDecl name is_extern is_nodebug body pos in
    among_after names d defs (all_among defs (fold added names (def_names d)))
all_among (tree.ExternConstructor term func pos ∷ defs) names =
    let d = tree.ExternConstructor term func pos in
    among_after names d defs (all_among defs (fold added names (def_names d)))
all_among (tree.ExternExtractor term func infallible pos ∷ defs) names =
    let d = tree.ExternExtractor term func infallible pos in
    among_after names d defs (all_among defs (fold added names (def_names d)))
all_among (tree.ExternConst name ty pos ∷ defs) names =
    let d = tree.ExternConst name ty pos in
    among_after names d defs (all_among defs (fold added names (def_names d)))
all_among (tree.Extractor term params template pos ∷ defs) names =
    let d = tree.Extractor term params template pos in
    among_after names d defs (all_among defs (fold added names (def_names d)))
all_among (tree.Converter from to term pos ∷ defs) names =
    let d = tree.Converter from to term pos in
    among_after names d defs (all_among defs (fold added names (def_names d)))
all_among (tree.Passed head pos ∷ defs) names = all_among defs names

-- what is among names stays so while names are added
among_more : (more names : List (List ℕ)) (sigs : List Signature) → AreAmong names sigs → AreAmong (fold added names more) sigs
among_more more names [] h = tt
among_more more names (s ∷ sigs) h = ((h.0.0, kept more names s.term h.0.0 h.0.1), among_more more names sigs h.1)

-- each declared name is a symbol
pub are_among : (defs : List Def) → AreAmong (symbols defs) (signatures defs)
are_among defs = among_more (made_terms defs) (fold added [] (flat_map def_names defs)) (signatures defs) (all_among defs [])

-- the text of a name's symbol is the name
pub text_of : (syms : List (List ℕ)) (name : List ℕ) (n : ℕ) → index_of syms name ≡ Some n → get_or syms (number_or (index_of syms name)) [] ≡ name
text_of syms name n e = ap (λ o. get_or syms (number_or o) []) e ∙ stands syms name n e

absent_first : (syms : List (List ℕ)) (first name : List ℕ) (n : ℕ) (o : Option ℕ) (b : Bool) → bytes_eq first name ≡ b → index_of syms first ≡ Some n → index_of syms name ≡ None → o ≡ None → cond b (Some 0) (option_map (λ (p : ℕ). p + 1) o) ≡ None
absent_first syms first name n o true same at none h = let both : None ≡ Some n = sym none ∙ ap (index_of syms) (sym ((bytes_eq-Decides first name).0 same)) ∙ at in absurd cc
absent_first syms first name n o false same at none h = ap (option_map (λ (p : ℕ). p + 1)) h

-- what is none of these names none of the terms
pub all_absent : (syms : List (List ℕ)) (name : List ℕ) (sigs : List Signature) → AreAmong syms sigs → index_of syms name ≡ None → index_of (terms_of sigs) name ≡ None
all_absent syms name [] among none = refl
all_absent syms name (s ∷ sigs) among none = absent_first syms s.term name among.0.0 (index_of (terms_of sigs) name) (bytes_eq s.term name) refl among.0.1 none (all_absent syms name sigs among.1 none)

-- what is no symbol is not declared
pub undeclared : (defs : List Def) (name : List ℕ) → index_of (symbols defs) name ≡ None → index_of (terms_of (signatures defs)) name ≡ None
undeclared defs name none = all_absent (symbols defs) name (signatures defs) (are_among defs) none
