use Rattle.std.specs.Prelude.{codes}
use Rattle.isle_core.proofs.Prefixes.{strip_is}
use Rattle.isle_run_inputs.proofs.VariantPart.{part_after, part_none}
use Rattle.isle_run_inputs.proofs.maker.variant_part.Goals as goal

pub returns-in-Some : goal.returns-in-Some
returns-in-Some c =
    part_after c.args.ty.now c.args.name.now c.strip_prefix.result c.strip_prefix-in-Some.result c.in-Some.rest (strip_is c.args.ty.now c.args.name.now c.strip_prefix.result c.strip_prefix.ensures.cases) c.in-Some.is
    (strip_is (codes ".") c.in-Some.rest.now c.strip_prefix-in-Some.result c.strip_prefix-in-Some.ensures.cases)

pub returns-in-None : goal.returns-in-None
returns-in-None c = part_none c.args.ty.now c.args.name.now c.strip_prefix.result (strip_is c.args.ty.now c.args.name.now c.strip_prefix.result c.strip_prefix.ensures.cases) c.in-None.is
