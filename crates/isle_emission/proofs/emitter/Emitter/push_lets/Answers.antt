use Rattle.std.proofs.Common.{sym, subst}
use Rattle.std.proofs.lemmas.Result.{on_ok_weaker}
use Rattle.isle_core.specs.Bindable.{bound_by}
use Rattle.isle_core.specs.BlockViews.{control}
use Rattle.isle_emission.specs.Built.{IsBuiltControl}
use Rattle.isle_emission.specs.Emitter.{setting_in}
use Rattle.isle_simulation.specs.Completed.{needs, read_by, completed_binds}
use Rattle.isle_emission.proofs.PushedLets.{pushed_after, computed_both, computed_after}
use Rattle.isle_emission.proofs.emitter.Emitter.push_lets.Goals as goal

pub push_binds-requires : goal.push_binds-requires
push_binds-requires c =
    let s = setting_in c.args.self.now in
    let binds = completed_binds s c.args.bound.now c.args.bindings.now in
    (computed_both s c.args.bound.now binds (needs s (bound_by c.args.bound.now binds) (read_by (control c.args.control.now))) c.requires.0).0

pub push_read_by-requires : goal.push_read_by-requires
push_read_by-requires c =
    let s = setting_in c.args.self.now in
    let binds = completed_binds s c.args.bound.now c.args.bindings.now in
    computed_after s binds (λ ls. needs s ls (read_by (control c.args.control.now))) c.args.bound.now c.push_binds.new.bound c.args.out.now.items c.push_binds.new.out.items c.in_ok-push_binds.ensures c.requires.0

pub returns-clause-lets : goal.returns-clause-lets
returns-clause-lets c =
    let s = setting_in c.args.self.now in
    let binds = completed_binds s c.args.bound.now c.args.bindings.now in
    on_ok_weaker c.push_read_by.result
    (λ last. pushed_after s binds (λ ls. needs s ls (read_by (control c.args.control.now))) c.args.bound.now c.push_binds.new.bound c.push_read_by.new.bound
    c.args.out.now.items c.push_binds.new.out.items c.push_read_by.new.out.items c.in_ok-push_binds.ensures last)
    c.push_read_by.ensures

pub returns-clause-built : goal.returns-clause-built
returns-clause-built c =
    let s = setting_in c.args.self.now in
    on_ok_weaker c.push_read_by.result (λ lets. subst (λ ls. IsBuiltControl s ls (control c.args.control.now)) (sym lets.bound) c.requires.1) (returns-clause-lets c)
