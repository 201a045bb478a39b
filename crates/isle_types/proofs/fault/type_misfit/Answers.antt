use Rattle.std.proofs.Common.{rules, ◌≡◌, ◌++◌, false, None, refl, ap, sym, ◌∙◌}
use Rattle.std.specs.Prelude.{is_some, option_map}
use Rattle.isle_declarations.specs.Symbols.{index_of, added}
use Rattle.isle_declarations.specs.Repeats.{repeats_after}
use Rattle.isle_declarations.specs.DeclaredTypes.{made_by}
use Rattle.isle_types.specs.Gathered.{misfit_row}
use Rattle.isle_types.proofs.BeforeLaws.{type_judged}
use Rattle.isle_types.proofs.fault.type_misfit.Goals as goal

pub returns-in-None : goal.returns-in-None
returns-in-None c =
    λ all bs is_extern is_nodebug pos known before.
    let absent : is_some (index_of c.args.before.now.types c.args.name.now) ≡ false = search rules in
    let met : c.meets.new.before ≡ added c.args.before.now.types c.args.name.now = search rules in
    let found : c.in_ok-misfit.field-0 ≡ None = search rules in
    let terms : c.args.made.now ≡ made_by c.args.name.now c.args.body.now = c.requires in
    let apart : repeats_after c.args.before.now.made c.args.made.now ≡ false = search rules in
    let made : c.repeated_term.new.before ≡ c.args.before.now.made ++ c.args.made.now = search rules in
    type_judged all bs c.args.name.now is_extern is_nodebug c.args.body.now pos c.args.before.now (record { types = c.meets.new.before; made = c.repeated_term.new.before; constants = c.args.before.now.constants }) before absent
    (ap (option_map misfit_row) (sym found) ∙ c.in_ok-misfit.ensures all known) (ap (repeats_after c.args.before.now.made) (sym terms) ∙ apart) met (made ∙ ap (λ ns. c.args.before.now.made ++ ns) terms) refl
