use Rattle.std.proofs.Common.{sym, ap, ◌∙◌}
use Rattle.std.specs.Prelude.{slice_get}
use Rattle.std.specs.Option.{option_copied}
use Rattle.isle_operands.specs.Contexts.{env_of}
use Rattle.isle_simulation.specs.Operands as Operands
use Rattle.isle_core.proofs.Got.{got}
use Rattle.isle_operands.proofs.PathAt.{path_of, path_none}
use Rattle.isle_operands.proofs.operands.in_place.Goals as goal

pub returns-in_ok-of_binding-in-Some : goal.returns-in_ok-of_binding-in-Some
returns-in_ok-of_binding-in-Some c =
    let bs = c.args.context.now.bindings.now in
    let at = c.get.ensures.lookup in
    let there = sym (got bs c.index.result c.get.result at.1 at.3) ∙ ap option_copied c.in-Some.is in
    let h = path_of bs c.args.binding.0 c.in-Some.of.now (ap (slice_get bs) (sym c.index.ensures) ∙ there) in
    c.in_ok-of_binding-in-Some.ensures h.0 ∙ ap (Operands.in_place (env_of c.args.context.now) c.args.binding.0) (sym h.1)

pub returns-in-None : goal.returns-in-None
returns-in-None c =
    let bs = c.args.context.now.bindings.now in
    let at = c.get.ensures.lookup in
    let there = sym (got bs c.index.result c.get.result at.1 at.3) ∙ ap option_copied c.in-None.is in
    ap (Operands.in_place (env_of c.args.context.now) c.args.binding.0) (sym (path_none bs c.args.binding.0 (ap (slice_get bs) (sym c.index.ensures) ∙ there)))
