use Rattle.isle_emission.proofs.Onto.{made_pushed}
use Rattle.isle_emission.proofs.emitter.Emitter.push_return.Goals as goal

pub returns : goal.returns
returns c = made_pushed c.args.out.now.items c.push.new.self.items c.in_ok-made.made _ c.in_ok-made.ensures c.in_ok-push.ensures.items
