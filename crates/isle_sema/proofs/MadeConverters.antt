-- A converter that breaks no row has its types and its term, if no definition breaks a row of types or of terms.
use Rattle.std.proofs.Common.{◌≡◌, false, List, [], ◌∷◌, ◌++◌, Option, Some, None, refl, ap, ◌∙◌}
use Rattle.std.specs.Prelude.{not, is_some, option_map, option_and_then}
use Rattle.std.proofs.lemmas.Bool.{or_parts}
use Rattle.isle_core.specs.declared.TermId.{TermId}
use Rattle.isle_core.specs.declared.TypeId.{TypeId}
use Rattle.isle_ast.specs.Tree.{Def}
use Rattle.isle_declarations.specs.Signatures.{Signature, signatures, signature_named, term_named}
use Rattle.isle_declarations.specs.Terms.{terms}
use Rattle.isle_types.specs.TypeRows.{on}
use Rattle.isle_terms.specs.Converters.{Conversion, converters, types_of, fits, repeats_after, is_misfit, converter_pass, converters_pass}
use Rattle.isle_terms.specs.Tests.{is_misconverting, have_misfit}
use Rattle.isle_terms.specs.Whole.{whole_of}
use Rattle.isle_terms.proofs.MadeTerms.{before_both}
use Rattle.isle_sema.proofs.DeclaredWell.{AreDeclaredWell, declared_term}
use Rattle.isle_sema.proofs.TermFaults.{converters_kept}
use Rattle.isle_sema.proofs.TreedPatterns.{numbered}

some_types : (defs : List Def) (done : List Conversion) (o : Option (TypeId × TypeId)) → repeats_after defs done o ≡ false → (found : TypeId × TypeId) × (o ≡ Some found)
some_types defs done None h = absurd cc
some_types defs done (Some found) h = (found, refl)

-- one that breaks no row
converter_made : (defs : List Def) (done : List Conversion) (c : Conversion) → AreDeclaredWell defs → is_misconverting defs done c ≡ false → (x : TypeId × TypeId × TermId) × (converter_pass (whole_of defs) c ≡ Some x)
converter_made defs done c d h =
    let a = or_parts (not (is_some (signature_named (signatures defs) c.term))) (is_misfit defs done c) h in
    let b = or_parts (repeats_after defs done (types_of defs c)) (on (signature_named (signatures defs) c.term) (λ (s : Signature). not (fits c s))) a.1 in
    let types = some_types defs done (types_of defs c) b.0 in
    let s = declared_term defs c.term d a.0 in
    let n = numbered (terms defs) c.term s.signature s.there in (
      (types.0.0, types.0.1, n.0),
      ap (option_and_then (λ (found : TypeId × TypeId). option_map (λ (term : TermId). (found.0, found.1, term)) (term_named (terms defs) c.term))) types.1 ∙ ap (option_map (λ (term : TermId). (types.0.0, types.0.1, term))) n.1,
    )

-- so in order
all_made : (defs : List Def) (done cs : List Conversion) → AreDeclaredWell defs → have_misfit defs done cs ≡ false → (xs : List (TypeId × TypeId × TermId)) × (converters_pass (whole_of defs) cs ≡ Some xs)
all_made defs done [] d h = ([], refl)
all_made defs done (c ∷ cs) d h =
    let k = or_parts (is_misconverting defs done c) (have_misfit defs (done ++ c ∷ []) cs) h in
    let first = converter_made defs done c d k.0 in
    let rest = all_made defs (done ++ c ∷ []) cs d k.1 in
    (first.0 ∷ rest.0, before_both (converter_pass (whole_of defs) c) (converters_pass (whole_of defs) cs) first.0 rest.0 first.1 rest.1)

-- the converters of such definitions are made
pub converters_made : (defs : List Def) → AreDeclaredWell defs → (xs : List (TypeId × TypeId × TermId)) × (converters_pass (whole_of defs) (converters defs) ≡ Some xs)
converters_made defs d = all_made defs [] (converters defs) d (converters_kept defs [] defs d.terms)
