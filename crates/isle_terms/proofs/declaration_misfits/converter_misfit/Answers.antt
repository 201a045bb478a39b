use Rattle.std.proofs.Common.{rules, ◌≡◌, true, subst}
use Rattle.std.specs.Prelude.{is_some, Option}
use Rattle.isle_ast.specs.Views.{defs as defs_seen}
use Rattle.isle_terms.specs.declared.converters.Converter.{Converter}
use Rattle.isle_terms.specs.Converters.{converters}
use Rattle.isle_terms.specs.ConverterViews.{seen, IsKnown}
use Rattle.isle_terms.proofs.DeclaredTerms.{found_declared}
use Rattle.isle_terms.proofs.DeclarationFaults.{converter_met, converter_refused}
use Rattle.isle_terms.proofs.declaration_misfits.converter_misfit.Goals as goal

pub returns-in_ok-add-in-Some : goal.returns-in_ok-add-in-Some
returns-in_ok-add-in-Some c =
    λ bs pos met.
    let all = defs_seen c.args.names.now.declarations.now in
    let right = subst (λ (o : Option Converter). IsKnown all (converters bs) (seen c.args.given) o) c.in-Some.is (c.known.ensures (converters bs) met.finds) in
    converter_met all bs (seen c.args.given) pos c.in-Some.converter c.args.found.now c.add.new.self right c.in_ok-add-in-Some.ensures met

pub returns-in-None : goal.returns-in-None
returns-in-None c =
    λ bs pos met.
    let all = defs_seen c.args.names.now.declarations.now in
    let none = subst (λ (o : Option Converter). IsKnown all (converters bs) (seen c.args.given) o) c.in-None.is (c.known.ensures (converters bs) met.finds) in
    let some : is_some c.declared.result ≡ true = search rules in
    converter_refused all bs (seen c.args.given) pos c.converter_unfit.result c.args.found.now c.converter_unfit.ensures (found_declared all c.args.given.term.now c.declared.result some c.declared.ensures) none
