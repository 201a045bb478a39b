use Rattle.std.proofs.Common.{rules, ◌≡◌}
use Rattle.isle_simulation.specs.Telling.{log_line}
use Rattle.isle_emission.specs.Emitter.{setting_in}
use Rattle.isle_emission.proofs.Onto.{onto_line}
use Rattle.isle_emission.proofs.emitter.Emitter.push_line.Goals as goal

pub returns : goal.returns
returns c = λ end.
    let line = log_line c.args.self.now.files.now (setting_in c.args.self.now) c.args.pos in
    let is : (c.in_ok-term.term, c.in_ok-term.place) ≡ line = search rules in
    onto_line c.args.out.now.items c.push.new.self.items c.in_ok-term.term c.in_ok-term.place line end c.in_ok-push.ensures.items is
