use Rattle.std.proofs.Common.{◌≡◌, ◌++◌, sym, subst}
use Rattle.std.specs.Prelude.{OnOk}
use Rattle.isle_core.specs.declared.types.ReturnKind.TheVariants.{Iterator}
use Rattle.isle_target.specs.Spelling.{list_type}
use Rattle.isle_target.proofs.context.print_list_type.Goals as goal

pub returns-in_ok-line-in-Iterator : goal.returns-in_ok-line-in-Iterator
returns-in_ok-line-in-Iterator c =
    let new = c.print_list.new.out in
    subst (λ k. OnOk c.print_list.result (new ≡ c.args.out.now ++ list_type k c.args.name.now c.args.tys.now)) (sym c.in-Iterator.is)
    (subst (λ l. OnOk c.print_list.result (new ≡ l ++ list_type Iterator c.args.name.now c.args.tys.now)) c.in_ok-line-in-Iterator.ensures c.print_list.ensures)
