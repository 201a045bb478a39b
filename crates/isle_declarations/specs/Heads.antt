-- The names of declarations, and of the terms of rules, external constructors, and extractors.
use Rattle.std.specs.Prelude.{ℕ, List, map}
use Rattle.isle_declarations.specs.Signatures.{Signature, Extern, ExtractorDef, RuleDef}

-- the names of declarations
abbrev pub terms_of : List Signature → List (List ℕ)
terms_of sigs = map (λ (s : Signature). s.term) sigs

-- the heads of rules
abbrev pub heads_of : List RuleDef → List (List ℕ)
heads_of rules = map (λ (r : RuleDef). r.term) rules

-- the terms of external constructors
abbrev pub extern_terms : List Extern → List (List ℕ)
extern_terms xs = map (λ (x : Extern). x.term) xs

-- the terms of extractors
abbrev pub extractor_terms : List ExtractorDef → List (List ℕ)
extractor_terms xs = map (λ (x : ExtractorDef). x.term) xs
