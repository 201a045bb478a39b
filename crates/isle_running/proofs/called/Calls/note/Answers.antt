use Rattle.std.proofs.Common.{rules, ◌≡◌, ◌++◌, ◌∷◌, [], List, map, sym, subst}
use Rattle.isle_core.specs.Value.{Made}
use Rattle.isle_core.specs.ValueViews.{values, made, pure_answers, turn_answers}
use Rattle.isle_running.specs.Sources.{FindsSources}
use Rattle.isle_running.proofs.SourceLaws.{made_more, finds_later}
use Rattle.isle_running.proofs.called.Calls.note.Goals as goal

pub invariant_of-self-2 : goal.invariant_of-self-2
invariant_of-self-2 c =
    let inside = c.self.inside in
    let turns = map turn_answers inside.answers.now.turns in
    let pure = map pure_answers inside.answers.now.pure in
    let x : Made = record { callee = c.args.callee.now; args = values c.args.args.items } in
    let more : map made c.push.new.self.items ≡ map made inside.calls.items ++ x ∷ [] =
    made_more inside.calls.items c.push.new.self.items _ c.args.callee.now c.args.args.items c.in_ok-push.ensures.items (search rules) (search rules) in (
      subst (λ (ms : List Made). FindsSources turns pure ms c.take.new.self) (sym more)
          (finds_later turns pure (map made inside.calls.items) x inside.sources c.take.new.self c.self.invariant.0 c.take.ensures),
      c.self.invariant.1,
    )
