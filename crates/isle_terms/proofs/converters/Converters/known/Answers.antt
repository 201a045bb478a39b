use Rattle.std.proofs.Common.{◌≡◌, rules, Some, None, true, false, ap, sym, ◌∙◌, subst}
use Rattle.std.specs.Prelude.{is_some, slice_get}
use Rattle.std.specs.Option.{option_copied}
use Rattle.isle_ast.specs.Views.{defs as seen_defs}
use Rattle.isle_declarations.specs.Collected.{signature as seen_signature}
use Rattle.isle_declarations.specs.Signatures.{signatures}
use Rattle.isle_declarations.specs.Symbols.{index_of, symbols}
use Rattle.isle_declarations.specs.Terms.{terms}
use Rattle.isle_declarations.proofs.LookUps.{got, there}
use Rattle.isle_terms.specs.ConverterViews.{seen, IsKnown}
use Rattle.isle_terms.proofs.ConverterLaws.{no_signature, signature_placed, undeclared_untaken, unfit_untaken, right_taken, numbered_term}
use Rattle.isle_terms.proofs.converters.Converters.known.Goals as goal

pub returns-in_err-place : goal.returns-in_err-place
returns-in_err-place c =
    λ cs found.
    let defs = seen_defs c.args.declarations.now in
    let name = c.args.given.term.now in
    let none : c.from_residual-in_err-place.result ≡ None = search rules in
    let number : index_of (symbols defs) name ≡ Some c.in_ok-number.number = search rules in
    let absent : c.declaration.result ≡ None = search rules in
    let unnamed = no_signature (signatures defs) name (sym (c.declaration.ensures name number) ∙ absent) in
    subst (λ o. IsKnown defs cs (seen c.args.given) o) (sym none) (undeclared_untaken defs cs (seen c.args.given) unnamed)

pub returns-in_err-signature : goal.returns-in_err-signature
returns-in_err-signature c =
    λ cs found.
    let defs = seen_defs c.args.declarations.now in
    let name = c.args.given.term.now in
    let none : c.from_residual-in_err-signature.result ≡ None = search rules in
    let number : index_of (symbols defs) name ≡ Some c.in_ok-number.number = search rules in
    let placed : c.declaration.result ≡ Some c.in_ok-place.place = search rules in
    let nothing : c.get.result ≡ None = search rules in
    let h = c.get.ensures.lookup in
    let past : slice_get c.signatures.result.now c.in_ok-place.place ≡ None = sym (got c.signatures.result.now c.in_ok-place.place c.get.result h.1 h.3) ∙ ap option_copied nothing in
    let unnamed = signature_placed (signatures defs) c.signatures.result.now name c.in_ok-place.place None c.signatures.ensures.seen (sym (c.declaration.ensures name number) ∙ placed) past in
    subst (λ o. IsKnown defs cs (seen c.args.given) o) (sym none) (undeclared_untaken defs cs (seen c.args.given) unnamed)

pub returns-then-not-fits : goal.returns-then-not-fits
returns-then-not-fits c =
    λ cs found.
    let defs = seen_defs c.args.declarations.now in
    let name = c.args.given.term.now in
    let number : index_of (symbols defs) name ≡ Some c.in_ok-number.number = search rules in
    let placed : c.declaration.result ≡ Some c.in_ok-place.place = search rules in
    let h = c.get.ensures.lookup in
    let here = there c.signatures.result.now c.in_ok-place.place c.get.result c.in_ok-signature.signature h.1 h.3 (search rules) in
    let named = signature_placed (signatures defs) c.signatures.result.now name c.in_ok-place.place (Some c.in_ok-signature.signature.now) c.signatures.ensures.seen (sym (c.declaration.ensures name number) ∙ placed) here in
    let unfit : c.fits.result ≡ false = search rules in
    unfit_untaken defs cs (seen c.args.given) (seen_signature c.in_ok-signature.signature.now) named (sym c.fits.ensures ∙ unfit)

pub returns : goal.returns
returns c =
    λ cs found.
    let defs = seen_defs c.args.declarations.now in
    let name = c.args.given.term.now in
    let types : c.types_of.result ≡ Some (c.in_ok-from.from, c.in_ok-from.to) = search rules in
    let alone : is_some c.between.result ≡ false = search rules in
    let number : index_of (symbols defs) name ≡ Some c.in_ok-number.number = search rules in
    let placed : c.declaration.result ≡ Some c.in_ok-place.place = search rules in
    let h = c.get.ensures.lookup in
    let here = there c.signatures.result.now c.in_ok-place.place c.get.result c.in_ok-signature.signature h.1 h.3 (search rules) in
    let named = signature_placed (signatures defs) c.signatures.result.now name c.in_ok-place.place (Some c.in_ok-signature.signature.now) c.signatures.ensures.seen (sym (c.declaration.ensures name number) ∙ placed) here in
    let fit : c.fits.result ≡ true = search rules in
    let at : c.place.result ≡ Some c.in_ok-place-2.field-0 = search rules in
    let term = numbered_term (terms defs) name c.in_ok-place-2.field-0 (sym (c.place.ensures defs c.requires.terms name number) ∙ at) in
    right_taken defs cs (seen c.args.given) (seen_signature c.in_ok-signature.signature.now) c.in_ok-from.from c.in_ok-from.to c.in_ok-number.number (record { 0 = c.in_ok-place-2.field-0 }) c.between.result (sym (c.types_of.ensures defs c.requires.before) ∙ types)
    (c.between.ensures defs cs found) alone named (sym c.fits.ensures ∙ fit) term number
