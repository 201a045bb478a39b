use Rattle.std.proofs.Common.{rules, ◌≡◌, true, false, cond, Some, None, sym, ap, subst}
use Rattle.std.specs.Prelude.{is_some}
use Rattle.isle_ast.specs.Views.{defs as seen}
use Rattle.isle_declarations.specs.Collected.{signature}
use Rattle.isle_types.specs.declared.row.Row.TheVariants as row
use Rattle.isle_terms.specs.Misfits.{IsDeclared}
use Rattle.isle_terms.proofs.DeclarationFaults.{headed}
use Rattle.isle_terms.proofs.declaration_misfits.head_misfit.Goals as goal

pub returns-then-is_some : goal.returns-then-is_some
returns-then-is_some c =
    λ bs name prio args iflets rhs pos.
    let all = seen c.args.names.now.declarations.now in
    let term = c.args.term.now in
    let known = subst (IsDeclared all term) c.in-Some.is c.declared.ensures in
    let given : is_some c.external.result ≡ true = search rules in
    ap (λ b. cond b (Some row.HeadMisfit) None) (sym (headed all term (signature c.in-Some.declared.now) c.external.result true known.0 (c.external.ensures term known.1) given))

pub returns : goal.returns
returns c =
    λ bs name prio args iflets rhs pos.
    let all = seen c.args.names.now.declarations.now in
    let term = c.args.term.now in
    let known = subst (IsDeclared all term) c.in-Some.is c.declared.ensures in
    let given : is_some c.external.result ≡ false = search rules in
    ap (λ b. cond b (Some row.HeadMisfit) None) (sym (headed all term (signature c.in-Some.declared.now) c.external.result false known.0 (c.external.ensures term known.1) given))
