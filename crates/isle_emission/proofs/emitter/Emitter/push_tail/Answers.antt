use Rattle.std.proofs.Common.{sym, ap, ◌∙◌}
use Rattle.std.specs.Prelude.{option_map}
use Rattle.isle_core.specs.BlockViews.{block}
use Rattle.isle_tree.specs.Views.{stmt}
use Rattle.isle_emission.specs.Emitter.{setting_in}
use Rattle.isle_emission.proofs.Roots.{root_ended, root_open, root_bare}
use Rattle.isle_emission.proofs.emitter.Emitter.push_tail.Goals as goal

pub returns-then-ends_in_return : goal.returns-then-ends_in_return
returns-then-ends_in_return c =
    let s = setting_in c.args.self.now in
    root_ended c.args.self.now.files.now s.env s.term (block c.args.block.now) c.args.stmts.now.items (sym c.ends_in_return.ensures ∙ c.if-ends_in_return.true)

pub returns-in_default : goal.returns-in_default
returns-in_default c =
    let s = setting_in c.args.self.now in
    root_bare c.args.self.now.files.now s.env s.term (block c.args.block.now) c.args.stmts.now.items (sym c.ends_in_return.ensures ∙ c.if-ends_in_return.false)
    (ap (option_map stmt) (sym c.in_default.is) ∙ c.in_ok-last.ensures)

pub returns : goal.returns
returns c =
    let s = setting_in c.args.self.now in
    root_open c.args.self.now.files.now s.env s.term (block c.args.block.now) c.args.stmts.now.items c.push.new.self.items c.in-Some.last (sym c.ends_in_return.ensures ∙ c.if-ends_in_return.false)
    (ap (option_map stmt) (sym c.in-Some.is) ∙ c.in_ok-last.ensures) c.in_ok-push.ensures.items
