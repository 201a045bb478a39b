-- The first places of names by their numbers.
use Rattle.std.specs.Prelude.{◌≡◌, ℕ, List, Option, Some, map, option_map}
use Rattle.isle_ast.specs.Tree.{Def}
use Rattle.isle_declarations.specs.declared.collected.Definitions.{Definitions}
use Rattle.isle_declarations.specs.declared.collected.KnownExtractor.{KnownExtractor}
use Rattle.isle_declarations.specs.declared.collected.KnownExtractor.TheVariants as known
use Rattle.isle_declarations.specs.declared.first_places.FirstPlaces.{FirstPlaces}
use Rattle.isle_declarations.specs.Symbols.{index_of, number_or, symbols}
use Rattle.isle_declarations.specs.Numbered.{place_in}
use Rattle.isle_declarations.specs.Signatures.{ExtractorDef, Extracting, ByFunction, ByTemplate, signatures, externs, extractors, rule_defs, func_named, extractor_named}
use Rattle.isle_declarations.specs.Heads.{terms_of, extern_terms, extractor_terms, heads_of}
use Rattle.isle_declarations.specs.Collected.{signature, extern, extractor, rule, AreCollected}

-- the names of the declarations that were gathered
abbrev pub declared_names : Definitions → List (List ℕ)
declared_names given = terms_of (map signature given.signatures.items)

-- the terms of the external constructors
abbrev pub external_names : Definitions → List (List ℕ)
external_names given = extern_terms (map extern given.externs.items)

-- the terms of the extractors
abbrev pub extracting_names : Definitions → List (List ℕ)
extracting_names given = extractor_terms (map extractor given.extractors.items)

-- the heads of the rules
abbrev pub ruled_names : Definitions → List (List ℕ)
ruled_names given = heads_of (map rule given.rules.items)

-- the table has the first place of each name, by its number
pub record HasFirsts (syms names : List (List ℕ)) (found : FirstPlaces) : Type 0 where
  pub firsts : (name : List ℕ) → index_of names name ≡ place_in found.table.items (index_of syms name)

-- what was gathered of definitions, and the first places of its names
pub record AreTables (defs : List Def) (given : Definitions) (declared external extracting ruled : FirstPlaces) : Type 0 where
  pub collected : AreCollected defs given
  pub declared_at : HasFirsts given.symbols (terms_of (signatures defs)) declared
  pub external_at : HasFirsts given.symbols (extern_terms (externs defs)) external
  pub extracting_at : HasFirsts given.symbols (extractor_terms (extractors defs)) extracting
  pub ruled_at : HasFirsts given.symbols (heads_of (rule_defs defs)) ruled

-- what is found by a number is the first place of its name among these
abbrev pub IsFirstPlace : List Def → ℕ → List (List ℕ) → Option ℕ → Type 0
IsFirstPlace defs number names found = (name : List ℕ) → index_of (symbols defs) name ≡ Some number → found ≡ index_of names name

-- what is found by a number is the number of the function of its name's external constructor
abbrev pub IsFuncNumber : List Def → ℕ → Option ℕ → Type 0
IsFuncNumber defs number found = (name : List ℕ) → index_of (symbols defs) name ≡ Some number → found ≡ option_map (λ (func : List ℕ). number_or (index_of (symbols defs) func)) (func_named (externs defs) name)

-- what is known of how values are taken apart: the number of the function, and whether it is infallible; or that it is a template
abbrev pub extracting_known : List (List ℕ) → Extracting → KnownExtractor
extracting_known syms (ByFunction func infallible) = known.Function (number_or (index_of syms func)) infallible
extracting_known syms (ByTemplate template) = known.Template

-- what is known of an extractor
abbrev pub extractor_known : List (List ℕ) → ExtractorDef → KnownExtractor
extractor_known syms x = extracting_known syms x.by

-- what is found by a number is what is known of its name's extractor
abbrev pub IsExtractorKnown : List Def → ℕ → Option KnownExtractor → Type 0
IsExtractorKnown defs number found = (name : List ℕ) → index_of (symbols defs) name ≡ Some number → found ≡ option_map (extractor_known (symbols defs)) (extractor_named (extractors defs) name)
