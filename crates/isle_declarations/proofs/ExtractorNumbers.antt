-- What is known of a term's extractor stands at the extractor's place.
use Rattle.std.proofs.Common.{◌≡◌, ℕ, List, [], ◌∷◌, map, zero, suc, Option, Some, None, refl, sym, ap, ◌∙◌}
use Rattle.std.specs.Prelude.{option_map, slice_get}
use Rattle.std.specs.List.{AllByRecursion}
use Rattle.isle_ast.specs.Tree.{Def}
use Rattle.isle_declarations.specs.declared.collected.Extracting.{Extracting as CodeExtracting}
use Rattle.isle_declarations.specs.declared.collected.Extracting.TheVariants as by
use Rattle.isle_declarations.specs.declared.collected.ExtractorDef.{ExtractorDef as CodeExtractor}
use Rattle.isle_declarations.specs.declared.collected.KnownExtractor.TheVariants as known
use Rattle.isle_declarations.specs.declared.collected.Definitions.{Definitions}
use Rattle.isle_declarations.specs.Symbols.{index_of, number_or, symbols}
use Rattle.isle_declarations.specs.Signatures.{ExtractorDef, extractors, extractor_named}
use Rattle.isle_declarations.specs.Collected.{extracting, extractor, known_by, IsFunctionNumbered, AreCollected}
use Rattle.isle_declarations.specs.Heads.{extractor_terms}
use Rattle.isle_declarations.specs.Tables.{extracting_known, extractor_known}
use Rattle.isle_declarations.proofs.LookUps.{at_place, found_at}

-- each function has its name's number
abbrev AreFunctions : List (List ℕ) → List CodeExtractor → Type 0
AreFunctions syms xs = AllByRecursion (λ (x : CodeExtractor). IsFunctionNumbered syms x.by) xs

-- what is known of one whose function has its name's number
known_is : (syms : List (List ℕ)) (x : CodeExtracting) → IsFunctionNumbered syms x → known_by x ≡ extracting_known syms (extracting x)
known_is syms (by.Function func_number func infallible) h = ap (λ o. known.Function (number_or o) infallible) (sym h)
known_is syms (by.Template params template) h = refl

known_at : (syms : List (List ℕ)) (xs : List CodeExtractor) (p : ℕ) → AreFunctions syms xs
    → option_map (λ (x : CodeExtractor). known_by x.by) (slice_get xs p) ≡ option_map (extractor_known syms) (slice_get (map extractor xs) p)
known_at syms [] p h = refl
known_at syms (x ∷ xs) zero h = ap Some (known_is syms x.by h.0)
known_at syms (x ∷ xs) (suc p) h = known_at syms xs p h.1

known_at_place : (syms : List (List ℕ)) (xs : List CodeExtractor) (o : Option ℕ) → AreFunctions syms xs
    → option_map (λ (x : CodeExtractor). known_by x.by) (at_place xs o) ≡ option_map (extractor_known syms) (at_place (map extractor xs) o)
known_at_place syms xs None h = refl
known_at_place syms xs (Some p) h = known_at syms xs p h

-- what is known of a name's extractor, whose place is known
pub extractor_found : (defs : List Def) (given : Definitions) (name : List ℕ) (o : Option ℕ) → AreCollected defs given → o ≡ index_of (extractor_terms (extractors defs)) name
    → option_map (λ (x : CodeExtractor). known_by x.by) (at_place given.extractors.items o) ≡ option_map (extractor_known (symbols defs)) (extractor_named (extractors defs) name)
extractor_found defs given name o k at =
    known_at_place given.symbols given.extractors.items o k.numbers.of_extracting
    ∙ ap (λ (syms : List (List ℕ)). option_map (extractor_known syms) (at_place (map extractor given.extractors.items) o)) k.named
    ∙ ap (option_map (extractor_known (symbols defs))) (ap (λ (xs : List ExtractorDef). at_place xs o) k.extracting ∙ ap (at_place (extractors defs)) at ∙ sym (found_at (λ (x : ExtractorDef). x.term) (extractors defs) name))

-- a name without one
pub extractor_absent : (defs : List Def) (name : List ℕ) → index_of (extractor_terms (extractors defs)) name ≡ None → None ≡ option_map (extractor_known (symbols defs)) (extractor_named (extractors defs) name)
extractor_absent defs name none = sym (ap (option_map (extractor_known (symbols defs))) (found_at (λ (x : ExtractorDef). x.term) (extractors defs) name ∙ ap (at_place (extractors defs)) none))
