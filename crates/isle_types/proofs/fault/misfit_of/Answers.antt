use Rattle.std.proofs.Common.{rules, ◌≡◌, Some, None}
use Rattle.isle_ast.specs.Views.{def}
use Rattle.isle_declarations.specs.DeclaredTypes.{DeclaredType, Constant, type_of, constant_of}
use Rattle.isle_types.proofs.BeforeLaws.{of_type, of_constant, other_judged}
use Rattle.isle_types.proofs.fault.misfit_of.Goals as goal

pub returns-in-Some : goal.returns-in-Some
returns-in-Some c =
    let t : DeclaredType = record { name = c.in-Some.name.now; body = c.in-Some.body.now } in
    let is : Some t ≡ type_of (def c.args.given.now) = search rules in
    of_type c.type_misfit.result c.args.known.now c.args.before.now c.type_misfit.new.before (def c.args.given.now) t is c.type_misfit.ensures

pub returns-in-Some-constant_of : goal.returns-in-Some-constant_of
returns-in-Some-constant_of c =
    let x : Constant = record { name = c.in-Some-constant_of.name.now; ty = c.in-Some-constant_of.ty.now } in
    let is : Some x ≡ constant_of (def c.args.given.now) = search rules in
    of_constant c.constant_misfit.result c.args.known.now c.args.before.now c.constant_misfit.new.before (def c.args.given.now) x is c.constant_misfit.ensures

pub returns-in-None : goal.returns-in-None
returns-in-None c =
    λ all bs known before.
    let no_type : type_of (def c.args.given.now) ≡ None = search rules in
    let no_constant : constant_of (def c.args.given.now) ≡ None = search rules in
    other_judged all bs (def c.args.given.now) c.args.before.now no_type no_constant before
