-- What is wrong with external constructors, extractors and converters.
use Rattle.std.specs.Prelude.{List, [], ◌∷◌, ◌++◌, Bool, false, ◌||◌, not, is_some}
use Rattle.std.specs.List.{list_any}
use Rattle.isle_declarations.specs.Signatures.{Signature, Extern, ExtractorDef, signatures, signature_named}
use Rattle.isle_ast.specs.Tree.{Def}
use Rattle.isle_terms.specs.Converters.{Conversion, is_misfit}

-- an external constructor is of a term that is not declared
abbrev pub has_undeclared : List Signature → List Extern → Bool
has_undeclared sigs xs = list_any (λ (x : Extern). not (is_some (signature_named sigs x.term))) xs

-- an extractor is of a term that is not declared
abbrev pub has_unknown : List Signature → List ExtractorDef → Bool
has_unknown sigs xs = list_any (λ (x : ExtractorDef). not (is_some (signature_named sigs x.term))) xs

-- a converter that follows these is of a term that is not declared, or breaks its row
abbrev pub is_misconverting : List Def → List Conversion → Conversion → Bool
is_misconverting defs before c = not (is_some (signature_named (signatures defs) c.term)) || is_misfit defs before c

-- one of these does so
abbrev pub have_misfit : List Def → (before : List Conversion) → List Conversion → Bool
have_misfit defs before [] = false
have_misfit defs before (c ∷ cs) = is_misconverting defs before c || have_misfit defs (before ++ c ∷ []) cs
