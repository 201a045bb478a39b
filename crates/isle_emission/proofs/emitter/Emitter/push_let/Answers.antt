use Rattle.isle_emission.specs.Emitter.{setting_in}
use Rattle.isle_emission.proofs.PushedLets.{pushed_one}
use Rattle.isle_emission.proofs.emitter.Emitter.push_let.Goals as goal

pub returns : goal.returns
returns c =
    pushed_one (setting_in c.args.self.now) c.args.binding c.in_ok-made.made c.index.result c.args.bound.now c.bind.new.self c.args.out.now.items c.push.new.self.items
    c.index.ensures c.in_ok-made.ensures c.in_ok-push.ensures.items c.in_ok-bind.ensures.more
