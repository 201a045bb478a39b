use Rattle.std.proofs.Common.{rules, map}
use Rattle.isle_ast.specs.Views.{lets_of, defs as seen}
use Rattle.isle_declarations.specs.Bindings.{binding}
use Rattle.isle_terms.specs.Whole.{whole}
use Rattle.isle_types.specs.Gathered.{IsBefore}
use Rattle.isle_terms.specs.Locals.{locals_of}
use Rattle.isle_sema.specs.ExprType.{typed_lets}
use Rattle.isle_sema.proofs.TypesOwned.{typed_more, typed_all}
use Rattle.isle_sema.proofs.expr_types.bind_each.Goals as goal

pub loop-l-preserved : goal.loop-l-preserved
loop-l-preserved c =
    let before : IsBefore (seen c.args.known.now) c.known.inside.before.now = search rules in
    let w = whole c.args.known.now in
    typed_more w (typed_lets w (locals_of c.args.vars.now) (lets_of (map binding c.args.lets.now))) c.args.lets.now c.loop-l.l-index c.loop-l.vars c.bind.new.self c.l-item.result _ c.type_named.result c.loop-l-test.true c.l-item.is
    (c.type_named.ensures (seen c.args.known.now) before) (search rules) c.loop-l.invariant

pub returns : goal.returns
returns c =
    let w = whole c.args.known.now in
    typed_all w (typed_lets w (locals_of c.args.vars.now) (lets_of (map binding c.args.lets.now))) c.args.lets.now c.loop-l.l-index c.loop-l.vars (search rules) c.loop-l.invariant
