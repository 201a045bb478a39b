use Rattle.std.proofs.Common.{◌≡◌, rules, Some}
use Rattle.isle_ast.specs.Views.{defs as seen}
use Rattle.isle_terms.specs.Whole.{whole}
use Rattle.isle_sema.specs.Fault.{OfExtractors, fault_in}
use Rattle.isle_sema.specs.TemplatesChecked.{AreTaken}
use Rattle.isle_sema.proofs.LaterFaults.{extractors_first, rules_given}
use Rattle.isle_sema.proofs.RuleLaws.{ok_map}
use Rattle.isle_sema.proofs.TreedRules.{heads_declared}
use Rattle.isle_sema.proofs.term_env.rules_of.Goals as goal

pub rules_at-requires-clause-declared : goal.rules_at-requires-clause-declared
rules_at-requires-clause-declared c =
    heads_declared (seen c.args.declarations.now) (record { types = c.requires.sound; terms = c.requires.declared })

pub returns-in-Err : goal.returns-in-Err
returns-in-Err c =
    let w = whole c.args.declarations.now in
    let fault : fault_in OfExtractors w ≡ Some (c.in-Err.fault.row, c.in-Err.fault.pos) = search rules in
    extractors_first w (c.in-Err.fault.row, c.in-Err.fault.pos) fault

pub returns : goal.returns
returns c =
    let w = whole c.args.declarations.now in
    let taken : AreTaken w c.in-Ok.extractors = search rules in
    ok_map c.rules_at.result (λ found h. rules_given w c.in-Ok.extractors found taken h) c.rules_at.ensures
