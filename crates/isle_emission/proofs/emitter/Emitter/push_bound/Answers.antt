use Rattle.std.proofs.Common.{[], ◌∷◌, ◌++◌, sym, ap, subst}
use Rattle.std.proofs.lemmas.Result.{on_ok_weaker}
use Rattle.isle_simulation.specs.Completed.{needs}
use Rattle.isle_emission.specs.Built.{AreComputed}
use Rattle.isle_emission.specs.Emitter.{setting_in}
use Rattle.isle_emission.proofs.PushedLets.{pushed_then, computed_both, computed_after, so_named}
use Rattle.isle_emission.proofs.emitter.Emitter.push_bound.Goals as goal

pub push_needs-requires : goal.push_needs-requires
push_needs-requires c =
    let s = setting_in c.args.self.now in
    let all = subst (λ bs. AreComputed s c.args.bound.now (needs s c.args.bound.now bs ++ c.args.binding ∷ [])) (sym c.read_for-sources.ensures) c.requires in
    (computed_both s c.args.bound.now (needs s c.args.bound.now c.read_for-sources.result.now) (c.args.binding ∷ []) all).0

pub push_let-requires : goal.push_let-requires
push_let-requires c =
    let s = setting_in c.args.self.now in
    let all = subst (λ bs. AreComputed s c.args.bound.now (needs s c.args.bound.now bs ++ c.args.binding ∷ [])) (sym c.read_for-sources.ensures) c.requires in
    (computed_after s (needs s c.args.bound.now c.read_for-sources.result.now) (λ ls. c.args.binding ∷ []) c.args.bound.now c.push_needs.new.bound c.args.out.now.items c.push_needs.new.out.items c.in_ok-push_needs.ensures all).0

pub returns : goal.returns
returns c =
    let s = setting_in c.args.self.now in
    on_ok_weaker c.push_let.result
    (λ last. so_named (ap (λ bs. needs s c.args.bound.now bs ++ c.args.binding ∷ []) c.read_for-sources.ensures)
    (pushed_then s (needs s c.args.bound.now c.read_for-sources.result.now) (c.args.binding ∷ []) c.args.bound.now c.push_needs.new.bound c.push_let.new.bound
    c.args.out.now.items c.push_needs.new.out.items c.push_let.new.out.items c.in_ok-push_needs.ensures last))
    c.push_let.ensures
