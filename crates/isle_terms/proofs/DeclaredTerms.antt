-- The declaration of a term, as it is looked up; and that a declared term is one of all terms.
use Rattle.std.proofs.Common.{◌≡◌, ℕ, ◌+◌, ◌<◌, ◌≤◌, Bool, true, false, cond, List, [], ◌∷◌, ◌++◌, length, get_or, Option, Some, None, refl, sym, ap, ◌∙◌}
use Rattle.std.specs.Prelude.{is_some, slice_get, option_map, IfSome, MatchOption}
use Rattle.std.specs.List.{HoldsAt}
use Rattle.std.specs.Str.{bytes_eq}
use denote.Ref.{Bor}
use Rattle.isle_ast.specs.Tree as tree
use Rattle.isle_ast.specs.Tree.{Def}
use Rattle.isle_declarations.specs.declared.collected.Signature.{Signature as CodeSignature}
use Rattle.isle_declarations.specs.Collected.{signature, AreSignatures}
use Rattle.isle_declarations.specs.Heads.{terms_of}
use Rattle.isle_declarations.specs.Signatures.{Signature, signatures, signature_named}
use Rattle.isle_declarations.specs.Symbols.{index_of, symbols}
use Rattle.isle_declarations.specs.Terms.{body_signatures, terms}
use Rattle.isle_declarations.proofs.LookUps.{got, named_is}
use Rattle.isle_declarations.proofs.NumberLaws.{number_at}
use Rattle.isle_terms.specs.Misfits.{IsDeclared}
use Rattle.isle_terms.proofs.ConverterLaws.{signature_placed}

-- what stands at the place of a name's first declaration
pub declared_at : (defs : List Def) (given : List CodeSignature) (name : List ℕ) (number place : ℕ) (found : Option (Bor CodeSignature)) → AreSignatures defs given → index_of (symbols defs) name ≡ Some number → index_of (terms_of (signatures defs)) name ≡ Some place
    → IfSome found (λ x. x.now ≡ get_or given place x.now) → MatchOption found (length given ≤ place) (λ x. (place < length given) × HoldsAt (λ y. x.now ≡ y) given place) → IsDeclared defs name found
declared_at defs given name number place None are numbered at is held =
    signature_placed (signatures defs) given name place None are.seen at (sym (got given place None is held))
declared_at defs given name number place (Some s) are numbered at is held =
    let stands : slice_get given place ≡ Some s.now = sym (got given place (Some s) is held) in
    let named : signature_named (signatures defs) name ≡ Some (signature s.now) = signature_placed (signatures defs) given name place (Some s.now) are.seen at stands in
    let own : index_of (symbols defs) s.now.term.now ≡ Some s.now.number = number_at (λ (x : CodeSignature). x.term.now) (λ (x : CodeSignature). x.number) (symbols defs) given place s.now are.numbered stands in
    (named, ap (index_of (symbols defs)) (sym (named_is (signatures defs) name (signature s.now) named)) ∙ own)

-- if something is found of a term, it is declared
pub found_declared : (defs : List Def) (name : List ℕ) (found : Option (Bor CodeSignature)) → is_some found ≡ true → IsDeclared defs name found → is_some (signature_named (signatures defs) name) ≡ true
found_declared defs name None some h = absurd cc
found_declared defs name (Some s) some h = ap is_some h.0

-- ---- among all terms

one_later : (b : Bool) (o : Option ℕ) → is_some o ≡ true → is_some (cond b (Some 0) (option_map (λ (n : ℕ). n + 1) o)) ≡ true
one_later true o h = refl
one_later false None h = h
one_later false (Some n) h = refl

-- a name among terms is among more terms
found_behind : (sigs more : List Signature) (name : List ℕ) → is_some (index_of (terms_of more) name) ≡ true → is_some (index_of (terms_of (sigs ++ more)) name) ≡ true
found_behind [] more name h = h
found_behind (s ∷ sigs) more name h = one_later (bytes_eq s.term name) (index_of (terms_of (sigs ++ more)) name) (found_behind sigs more name h)

first_found : (b : Bool) (s : Signature) (o : Option Signature) (p : Option ℕ) → (is_some o ≡ true → is_some p ≡ true) → is_some (cond b (Some s) o) ≡ true → is_some (cond b (Some 0) (option_map (λ (n : ℕ). n + 1) p)) ≡ true
first_found true s o p rest h = refl
first_found false s o p rest h = one_later false p (rest h)

-- a declared term is one of all terms
pub declared_term : (defs : List Def) (name : List ℕ) → is_some (signature_named (signatures defs) name) ≡ true → is_some (index_of (terms_of (terms defs)) name) ≡ true
declared_term [] name h = absurd cc
declared_term (tree.TypeDecl ty is_extern is_nodebug body pos ∷ defs) name h = found_behind (body_signatures ty body pos) (terms defs) name (declared_term defs name h)
declared_term (tree.Decl term pure multi partial recursive args ret pos ∷ defs) name h = first_found (bytes_eq term name) _ (signature_named (signatures defs) name) (index_of (terms_of (terms defs)) name) (declared_term defs name) h
declared_term (tree.ExternConstructor term func pos ∷ defs) name h = declared_term defs name h
declared_term (tree.ExternExtractor term func infallible pos ∷ defs) name h = declared_term defs name h
declared_term (tree.ExternConst const ty pos ∷ defs) name h = declared_term defs name h
declared_term (tree.Extractor term params template pos ∷ defs) name h = declared_term defs name h
declared_term (tree.Converter from to term pos ∷ defs) name h = declared_term defs name h
declared_term (tree.Rule rule prio term args iflets rhs pos ∷ defs) name h = declared_term defs name h
declared_term (tree.Passed head pos ∷ defs) name h = declared_term defs name h
