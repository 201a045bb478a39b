use Rattle.isle_emission.proofs.Onto.{onto_overflow}
use Rattle.isle_emission.proofs.stops.push_overflow.Goals as goal

pub returns : goal.returns
returns c = λ end. onto_overflow c.args.inside c.args.limit c.args.out.now.items c.push.new.self.items end c.in_ok-push.ensures.items
