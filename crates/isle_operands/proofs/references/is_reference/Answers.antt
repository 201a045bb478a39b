use Rattle.std.proofs.Common.{sym, ap, ◌∙◌, false}
use Rattle.std.specs.Option.{option_map_or}
use Rattle.isle_core.specs.Setting.{paths_in}
use Rattle.isle_operands.specs.Typed.{setting_in}
use Rattle.isle_simulation.specs.References.{is_declared}
use Rattle.isle_operands.proofs.BindingReferences.{owned_is_none, others_by_type}
use Rattle.isle_operands.proofs.references.is_reference.Goals as goal

pub returns-then-is_owned : goal.returns-then-is_owned
returns-then-is_owned c = owned_is_none (setting_in c.args.typed.now) c.args.binding (sym c.is_owned.ensures ∙ c.if-is_owned.true)

pub returns : goal.returns
returns c =
    let s = setting_in c.args.typed.now in
    c.is_declared.ensures ∙ ap (λ ty. option_map_or (is_declared s.env) ty false) (c.type_of.ensures s.env s.term (paths_in s) c.args.typed.now.typed)
    ∙ others_by_type s c.args.binding (sym c.is_owned.ensures ∙ c.if-is_owned.false)
