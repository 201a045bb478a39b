-- Terms that are made one after the other: what is left.
use Rattle.std.proofs.Common.{◌≡◌, ℕ, zero, suc, true, ◌+◌, ◌<◌, Bool, List, [], ◌∷◌, ◌++◌, length, map, get_or, Option, Some, None, refl, sym, ap, ◌∙◌}
use Rattle.std.specs.Prelude.{is_some, option_map, drop, slice_get}
use Rattle.std.proofs.lemmas.Option.{same_Some, slice_get-map, slice_get-get_or}
use Rattle.isle_ast.specs.Tree.{Def}
use Rattle.std.proofs.lemmas.List.{drop_more, append_assoc}
use Rattle.isle_core.specs.declared.TypeId.{TypeId}
use Rattle.isle_core.specs.declared.types.Term.{Term}
use Rattle.isle_declarations.specs.declared.terms.TermDef.{TermDef}
use Rattle.isle_declarations.specs.TermViews.{term_def}
use Rattle.isle_declarations.specs.Heads.{heads_of}
use Rattle.isle_declarations.specs.Signatures.{externs, rule_defs, func_named, has_rule}
use Rattle.isle_declarations.specs.Symbols.{index_of, number_or, symbols}
use Rattle.isle_declarations.specs.Terms.{terms}
use Rattle.isle_declarations.specs.Signatures.{Signature}
use Rattle.isle_declarations.proofs.DeclaredNames.{AreAmong}
use Rattle.isle_declarations.proofs.TermNames.{are_terms_among}
use Rattle.isle_declarations.proofs.NumberLaws.{has_head}
use Rattle.isle_terms.specs.Whole.{Whole}
use Rattle.isle_terms.specs.TermPass.{tree_before}
use Rattle.isle_terms.specs.TypeNames.{type_named}
use Rattle.isle_terms.specs.TermPass.{types_named, constructor_of, constructor_named, term_pass, terms_pass}

-- ---- in order

-- trees before others
abbrev pub before : {X : Type 0} → List X → Option (List X) → Option (List X)
before xs o = option_map (λ (ys : List _). xs ++ ys) o

pub one_before : {X : Type 0} (xs : List X) (x : X) (o : Option (List X)) → before xs (tree_before (Some x) o) ≡ before (xs ++ x ∷ []) o
one_before xs x None = refl
one_before xs x (Some r) = ap Some (sym (append_assoc xs (x ∷ []) r))

-- ---- constructors

no_func : (number : List ℕ → ℕ) (o : Option (List ℕ)) → None ≡ option_map number o → None ≡ o
no_func number None h = refl
no_func number (Some func) h = absurd cc

-- a term without an external constructor comes from its rules, if it has some
pub inside : (w : Whole) (name : List ℕ) (rule : Option ℕ) (ruled : Bool) → None ≡ option_map (λ (func : List ℕ). number_or (index_of w.types.syms func)) (func_named (externs w.defs) name) → rule ≡ index_of (heads_of (rule_defs w.defs)) name → is_some rule ≡ ruled
    → constructor_of w.types.syms None ruled ≡ constructor_named w name
inside w name rule ruled none at is =
    ap (constructor_of w.types.syms None) (sym is ∙ ap is_some at ∙ has_head (rule_defs w.defs) name)
    ∙ ap (λ o. constructor_of w.types.syms o (has_rule (rule_defs w.defs) name)) (no_func (λ (func : List ℕ). number_or (index_of w.types.syms func)) (func_named (externs w.defs) name) none)

-- ---- what is left

-- the items from a place on are the one there and those after it
pub next_is : {A : Type 0} (xs : List A) (i : ℕ) (x d : A) → i < length xs → x ≡ get_or xs i d → drop i xs ≡ x ∷ drop (i + 1) xs
next_is xs i x d lt is = drop_more xs i d lt ∙ ap (λ y. y ∷ drop (i + 1) xs) (sym is)

-- one type more
pub type_more : (defs : List Def) (types more : List TypeId) (name : List ℕ) (ty : TypeId) (left rest : List (List ℕ)) (all : Option (List TypeId)) → left ≡ name ∷ rest → more ≡ types ++ ty ∷ [] → Some ty ≡ type_named defs name
    → all ≡ before types (types_named defs left) → all ≡ before more (types_named defs rest)
type_more defs types more name ty left rest all is added one h =
    h ∙ ap (λ names. before types (types_named defs names)) is ∙ ap (λ o. before types (tree_before o (types_named defs rest))) (sym one) ∙ one_before types ty (types_named defs rest) ∙ ap (λ tys. before tys (types_named defs rest)) (sym added)

-- a type that is not declared
pub type_none : (defs : List Def) (types : List TypeId) (name : List ℕ) (left rest : List (List ℕ)) (all : Option (List TypeId)) → left ≡ name ∷ rest → None ≡ type_named defs name → all ≡ before types (types_named defs left) → None ≡ all
type_none defs types name left rest all is none h = sym (h ∙ ap (λ names. before types (types_named defs names)) is ∙ ap (λ o. before types (tree_before o (types_named defs rest))) (sym none))

-- one term more
pub term_more : (w : Whole) (sigs : List TermDef) (i : ℕ) (typed more : List Term) (s d : TermDef) (t : Term) (all : Option (List Term)) → i < length sigs → s ≡ get_or sigs i d → more ≡ typed ++ t ∷ [] → Some t ≡ term_pass w (term_def s)
    → all ≡ before typed (terms_pass w (map term_def (drop i sigs))) → all ≡ before more (terms_pass w (map term_def (drop (i + 1) sigs)))
term_more w sigs i typed more s d t all lt is added one h =
    let rest = terms_pass w (map term_def (drop (i + 1) sigs)) in
    h ∙ ap (λ xs. before typed (terms_pass w (map term_def xs))) (next_is sigs i s d lt is) ∙ ap (λ o. before typed (tree_before o rest)) (sym one) ∙ one_before typed t rest ∙ ap (λ ys. before ys rest) (sym added)

-- a term whose types are not all declared
pub term_none : (w : Whole) (ts : List TermDef) (i : ℕ) (typed : List Term) (t d : TermDef) (all : Option (List Term)) → i < length ts → t ≡ get_or ts i d → None ≡ term_pass w (term_def t) → all ≡ before typed (terms_pass w (map term_def (drop i ts))) → None ≡ all
term_none w ts i typed t d all lt is none h =
    let rest = terms_pass w (map term_def (drop (i + 1) ts)) in
    sym (h ∙ ap (λ xs. before typed (terms_pass w (map term_def xs))) (next_is ts i t d lt is) ∙ ap (λ o. before typed (tree_before o rest)) (sym none))

-- the name of a term is a symbol
pub named_here : (defs : List Def) (ts : List TermDef) (i : ℕ) (t d : TermDef) → map term_def ts ≡ terms defs → i < length ts → t ≡ get_or ts i d → is_some (index_of (symbols defs) t.term.now) ≡ true
named_here defs ts i t d is lt at =
    let here : slice_get (terms defs) i ≡ Some (term_def t) = ap (λ xs. slice_get xs i) (sym is) ∙ slice_get-map term_def ts i ∙ ap (option_map term_def) (slice_get-get_or ts i d lt ∙ ap Some (sym at)) in
    found_in (terms defs) i (term_def t) (are_terms_among defs) here
  where
    found_in : (sigs : List Signature) (i : ℕ) (s : Signature) → AreAmong (symbols defs) sigs → slice_get sigs i ≡ Some s → is_some (index_of (symbols defs) s.term) ≡ true
    found_in [] zero s h e = absurd cc
    found_in [] (suc i) s h e = absurd cc
    found_in (x ∷ sigs) zero s h e = let same = same_Some x s e in ap (λ (y : Signature). is_some (index_of (symbols defs) y.term)) (sym same) ∙ ap is_some h.0.1
    found_in (x ∷ sigs) (suc i) s h e = found_in sigs i s h.1 e
