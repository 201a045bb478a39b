use Rattle.std.proofs.Common.{rules, ◌≡◌, length, ◌∙◌}
use Rattle.isle_outcomes.specs.Fields.{fields}
use Rattle.isle_tree.specs.Run.{field_of}
use Rattle.isle_running.proofs.BoundFields.{left_more, follows_more, none_bound, cut_follows}
use Rattle.isle_running.proofs.fields.bind_fields.Goals as goal

pub loop-bind-preserved : goal.loop-bind-preserved
loop-bind-preserved c =
    let b = c.bind-item.result in
    let fs = fields c.args.found.now in (
      left_more c.args.binds.now c.loop-bind.bind-index b _ fs c.args.frame.now c.loop-bind.frame c.bind_field.new.frame c.in_ok-bind_field.field-0 c.loop-bind-test.true c.bind-item.is c.loop-bind.invariant.0 c.in_ok-bind_field.ensures.binds c.if-not-branch.false,
      c.bind_field.ensures.calls ∙ c.loop-bind.invariant.1,
      c.bind_field.ensures.given ∙ c.loop-bind.invariant.2,
      follows_more b.local (field_of b.field fs) c.args.frame.now c.loop-bind.frame c.bind_field.new.frame c.in_ok-bind_field.field-0 c.loop-bind.invariant.3 c.in_ok-bind_field.ensures.binds c.if-not-branch.false,
    )

pub returns-then-not-branch-clause-follows : goal.returns-then-not-branch-clause-follows
returns-then-not-branch-clause-follows c =
    let b = c.bind-item.result in
    let bound : c.len-count.result ≡ length c.args.frame.now.locals = search rules in
    cut_follows c.args.frame.now c.loop-bind.frame c.bind_field.new.frame c.len-count.result c.truncate.new.self c.loop-bind.invariant.3
    (none_bound b.local (field_of b.field (fields c.args.found.now)) c.loop-bind.frame c.bind_field.new.frame c.in_ok-bind_field.field-0 c.in_ok-bind_field.ensures.binds c.if-not-branch.true)
    c.bind_field.ensures.calls bound c.truncate.ensures
