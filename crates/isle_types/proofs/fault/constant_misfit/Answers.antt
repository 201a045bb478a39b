use Rattle.std.proofs.Common.{rules, ◌≡◌, false, refl, sym, ◌∙◌}
use Rattle.std.specs.Prelude.{is_some}
use Rattle.isle_declarations.specs.Symbols.{index_of, added}
use Rattle.isle_types.proofs.BeforeLaws.{constant_judged}
use Rattle.isle_types.proofs.fault.constant_misfit.Goals as goal

pub returns-then-is_scalar : goal.returns-then-is_scalar
returns-then-is_scalar c =
    λ all bs pos known before.
    let absent : is_some (index_of c.args.before.now.constants c.args.name.now) ≡ false = search rules in
    let met : c.meets.new.before ≡ added c.args.before.now.constants c.args.name.now = search rules in
    constant_judged all bs c.args.name.now c.args.ty.now pos c.args.before.now (record { types = c.args.before.now.types; made = c.args.before.now.made; constants = c.meets.new.before }) before absent (sym (c.is_scalar.ensures all known) ∙ c.if-is_scalar.true) refl refl met
