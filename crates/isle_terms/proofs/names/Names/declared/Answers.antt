use Rattle.std.proofs.Common.{rules, ◌≡◌, Some, None, sym, ◌∙◌, subst}
use Rattle.isle_ast.specs.Views.{defs as seen}
use Rattle.isle_declarations.specs.Signatures.{signatures}
use Rattle.isle_declarations.specs.Symbols.{index_of, symbols}
use Rattle.isle_declarations.proofs.DeclaredNames.{undeclared}
use Rattle.isle_terms.specs.Misfits.{IsDeclared}
use Rattle.isle_terms.proofs.ConverterLaws.{no_signature}
use Rattle.isle_terms.proofs.DeclaredTerms.{declared_at}
use Rattle.isle_terms.proofs.names.Names.declared.Goals as goal

pub returns-in_err-number : goal.returns-in_err-number
returns-in_err-number c =
    let defs = seen c.args.self.now.declarations.now in
    let name = c.args.term.now in
    let none : index_of (symbols defs) name ≡ None = search rules in
    subst (IsDeclared defs name) (sym c.from_residual.ensures) (no_signature (signatures defs) name (undeclared defs name none))

pub returns-in_err-place : goal.returns-in_err-place
returns-in_err-place c =
    let defs = seen c.args.self.now.declarations.now in
    let name = c.args.term.now in
    let number : index_of (symbols defs) name ≡ Some c.in_ok-number.number = search rules in
    let absent : c.declaration.result ≡ None = search rules in
    subst (IsDeclared defs name) (sym c.from_residual-in_err-place.ensures) (no_signature (signatures defs) name (sym (c.declaration.ensures name number) ∙ absent))

pub returns : goal.returns
returns c =
    let defs = seen c.args.self.now.declarations.now in
    let name = c.args.term.now in
    let number : index_of (symbols defs) name ≡ Some c.in_ok-number.number = search rules in
    let placed : c.declaration.result ≡ Some c.in_ok-place.place = search rules in
    let h = c.get.ensures.lookup in
    declared_at defs c.signatures.result.now name c.in_ok-number.number c.in_ok-place.place c.get.result c.signatures.ensures number (sym (c.declaration.ensures name number) ∙ placed) h.1 h.3
