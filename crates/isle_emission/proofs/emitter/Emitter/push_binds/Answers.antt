use Rattle.std.proofs.Common.{◌≡◌, [], drop, refl, ap}
use Rattle.std.proofs.lemmas.List.{drop_all}
use Rattle.isle_emission.specs.Emitter.{setting_in}
use Rattle.isle_simulation.specs.Completed.{with_needs, completed_binds}
use Rattle.isle_emission.proofs.PushedLets.{first_there, left_more, left_none}
use Rattle.isle_emission.proofs.emitter.Emitter.push_binds.Goals as goal

pub loop-binding-init : goal.loop-binding-init
loop-binding-init c = record { rest = λ new after p. p; there = c.requires }

pub push_bound-requires : goal.push_bound-requires
push_bound-requires c =
    let s = setting_in c.args.self.now in
    first_there s (with_needs s) (completed_binds s) c.args.bindings.now c.loop-binding.binding-index _ _ c.loop-binding.bound
    (λ bound b more. refl) c.loop-binding-test.true refl c.loop-binding.invariant.there

pub loop-binding-preserved : goal.loop-binding-preserved
loop-binding-preserved c =
    let s = setting_in c.args.self.now in
    let bs = c.args.bindings.now in
    left_more s (with_needs s) (completed_binds s) (completed_binds s c.args.bound.now bs) bs c.loop-binding.binding-index _ _ c.args.bound.now c.loop-binding.bound c.push_bound.new.bound c.args.out.now.items c.loop-binding.out.items c.push_bound.new.out.items
    (λ bound b more. refl) c.loop-binding-test.true refl c.in_ok-push_bound.ensures c.loop-binding.invariant

pub returns : goal.returns
returns c =
    let s = setting_in c.args.self.now in
    let bs = c.args.bindings.now in
    let none : drop c.loop-binding.binding-index bs ≡ [] = drop_all c.loop-binding.binding-index bs c.loop-binding-test.false in
    left_none s (completed_binds s c.args.bound.now bs) (completed_binds s c.loop-binding.bound (drop c.loop-binding.binding-index bs)) c.args.bound.now c.loop-binding.bound c.args.out.now.items c.loop-binding.out.items
    (ap (completed_binds s c.loop-binding.bound) none) c.loop-binding.invariant
