-- The terms of a sample, with their types and symbols.
use Rattle.std.proofs.Common.{◌≡◌, ℕ, ◌+◌, ◌<◌, false, List, [], ◌∷◌, length, Option, Some, None, refl, sym, ap, ap₂, ◌∙◌, arith}
use Rattle.std.specs.Prelude.{option_map, option_and_then, slice_get}
use Rattle.std.proofs.lemmas.Option.{slice_get-get_or}
use Rattle.isle_core.specs.declared.TypeId.{TypeId}
use Rattle.isle_core.specs.declared.position.Pos.{Pos}
use Rattle.isle_core.specs.declared.types.ConstructorKind.{ConstructorKind}
use Rattle.isle_core.specs.declared.types.ConstructorKind.TheVariants as constructor
use Rattle.isle_core.specs.declared.types.ExtractorKind.{ExtractorKind}
use Rattle.isle_core.specs.declared.types.ExtractorKind.TheVariants as extractor
use Rattle.isle_core.specs.declared.types.TermKind.TheVariants as kind
use Rattle.isle_ast.specs.Tree.{Def}
use Rattle.isle_declarations.specs.Heads.{terms_of}
use Rattle.isle_declarations.specs.Signatures.{Extern, ExtractorDef, signatures, rule_defs, func_named, extractor_named, has_rule}
use Rattle.isle_declarations.specs.Symbols.{index_of, number_or, symbols, sym_of}
use Rattle.isle_declarations.specs.Terms.{terms}
use Rattle.isle_declarations.proofs.SymbolLaws.{index_below, stands}
use Rattle.isle_declarations.proofs.DeclaredNames.{undeclared}
use Rattle.isle_terms.specs.TermPass.{tree_before, constructor_of, constructor_named, extractor_from, extracting_named, term_from, term_pass, terms_pass}
use Rattle.isle_terms.specs.Whole.{Whole}
use Rattle.isle_terms.proofs.MadeTerms.{before_both}
use Rattle.isle_sample.specs.Sample.{term_name}
use Rattle.isle_sample.proofs.SampleLines.{Line, Declares, Gives, Otherwise, line_text, place, defs_at}
use Rattle.isle_sample.proofs.SampleEnvironment.{u8, line_term, terms_at}
use Rattle.isle_sample.proofs.TypedLines.{AreTyped}
use Rattle.isle_sample.proofs.TypedDefinitions.{line_signature}
use Rattle.isle_sample.proofs.TypedWhole.{IsTypedWhole}

-- ---- terms

-- a term comes from its rules
from_rules : (n : ℕ) (w : Whole) (i : ℕ) → IsTypedWhole n w → i < n → constructor_named w (term_name i) ≡ constructor.Internal
from_rules n w i h lt =
    ap (λ (xs : List Extern). constructor_of w.types.syms (func_named xs (term_name i)) (has_rule (rule_defs w.defs) (term_name i))) h.own
    ∙ ap (constructor_of w.types.syms None) (h.ruled i lt)

-- nothing takes its values apart
not_taken : (n : ℕ) (w : Whole) (i : ℕ) → IsTypedWhole n w → extracting_named w (term_name i) ≡ extractor.Absent
not_taken n w i h = ap (λ (xs : List ExtractorDef). extractor_from w.types.syms (extractor_named xs (term_name i))) h.untaken

-- the term of a declaration
term_made : (n : ℕ) (w : Whole) (i : ℕ) (at : Pos) → IsTypedWhole n w → i < n → term_pass w (line_signature (term_name i) at) ≡ Some (line_term w.types.syms i at)
term_made n w i at h lt =
    let s = line_signature (term_name i) at in
    ap (λ (o : Option TypeId). option_and_then (λ (args : List TypeId). option_map (term_from w s args) o) (tree_before o (tree_before o (Some [])))) h.known
    ∙ ap₂ (λ (c : ConstructorKind) (x : ExtractorKind). Some (record { name = sym_of w.types.syms (term_name i); decl_pos = at; arg_tys = u8 ∷ u8 ∷ []; ret_ty = u8; kind = kind.Decl false false false false c x }))
    (from_rules n w i h lt) (not_taken n w i h)

-- the terms of lines are those of the environment
pub terms_made : (n next : ℕ) (w : Whole) (at : ℕ) (ls : List Line) → IsTypedWhole n w → AreTyped n next ls → terms_pass w (terms (defs_at at ls)) ≡ Some (terms_at w.types.syms at ls)
terms_made n next w at [] h t = refl
terms_made n next w at (Declares i ∷ ls) h t =
    let own : i ≡ next = t.0 in
    let rest = at + length (line_text (Declares i)) in
    let lt : i < n = (let below = t.1 in omega (arith, own, below)) in
    before_both (term_pass w (line_signature (term_name i) (place at))) (terms_pass w (terms (defs_at rest ls))) (line_term w.types.syms i (place at)) (terms_at w.types.syms rest ls)
    (term_made n w i (place at) h lt) (terms_made n (next + 1) w rest ls h t.2)
terms_made n next w at (Gives i a b ∷ ls) h t = terms_made n next w (at + length (line_text (Gives i a b))) ls h t.3
terms_made n next w at (Otherwise i ∷ ls) h t = terms_made n next w (at + length (line_text (Otherwise i))) ls h t.1

-- ---- symbols

-- a name that has a place among symbols stands at the place that its symbol tells
pub symbol_stands : (syms : List (List ℕ)) (name : List ℕ) (k : ℕ) → index_of syms name ≡ Some k → slice_get syms (sym_of syms name).0 ≡ Some name
symbol_stands syms name k e =
    ap (λ (o : Option ℕ). slice_get syms (number_or o)) e
    ∙ slice_get-get_or syms k [] (index_below syms name k e)
    ∙ ap Some (stands syms name k e)

-- a name that is declared is a symbol
pub declared_stands : (defs : List Def) (name : List ℕ) (k : ℕ) → index_of (terms_of (signatures defs)) name ≡ Some k → slice_get (symbols defs) (sym_of (symbols defs) name).0 ≡ Some name
declared_stands defs name k e = by (index_of (symbols defs) name) refl
  where
    by : (o : Option ℕ) → index_of (symbols defs) name ≡ o → slice_get (symbols defs) (sym_of (symbols defs) name).0 ≡ Some name
    by None none = absurd (let both : None ≡ Some k = sym (undeclared defs name none) ∙ e in cc)
    by (Some m) there = symbol_stands (symbols defs) name m there
