use Rattle.std.proofs.Common.{rules, ◌≡◌, Some, None}
use Rattle.isle_core.specs.ValueViews.{const}
use Rattle.isle_tree.specs.Run.{read_value}
use Rattle.isle_running.specs.RunViews.{locals, within}
use Rattle.isle_running.specs.Steps.{field_read}
use Rattle.isle_running.proofs.MadeFields.{made_more, made_none, made_done}
use Rattle.isle_running.proofs.making.read_fields.Goals as goal

pub loop-next-preserved : goal.loop-next-preserved
loop-next-preserved c =
    let w = within c.args.around.now c.args.frame.now in
    let env = locals c.args.frame.now.locals in
    let r = c.next-item.result in
    let read : Some (const c.in-Some.field) ≡ field_read r.0 (read_value w env r.1) = search rules in
    made_more w env c.args.reads.now c.loop-next.next-index r _ c.loop-next.read.items c.loop-next-test.true c.next-item.is c.loop-next.invariant c.in-Some.field c.push.new.self.items read (search rules)

pub returns-in-None : goal.returns-in-None
returns-in-None c =
    let w = within c.args.around.now c.args.frame.now in
    let env = locals c.args.frame.now.locals in
    let r = c.next-item.result in
    let none : None ≡ field_read r.0 (read_value w env r.1) = search rules in
    made_none w env c.args.reads.now c.loop-next.next-index r _ c.loop-next.read.items c.loop-next-test.true c.next-item.is c.loop-next.invariant none

pub returns : goal.returns
returns c =
    made_done (within c.args.around.now c.args.frame.now) (locals c.args.frame.now.locals) c.args.reads.now c.loop-next.next-index c.loop-next.read.items c.loop-next-test.false c.loop-next.invariant
