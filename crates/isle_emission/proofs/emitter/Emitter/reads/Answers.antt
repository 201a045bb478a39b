use Rattle.std.proofs.Common.{get_or, refl, ap, ◌∙◌}
use Rattle.isle_simulation.specs.Statements.{read_in}
use Rattle.isle_emission.specs.Emitter.{setting_in}
use Rattle.isle_emission.proofs.ReadSteps.{type_there, binding_there, reads_step, reads_all}
use Rattle.isle_emission.proofs.emitter.Emitter.reads.Goals as goal

pub bounds-tys-index : goal.bounds-tys-index
bounds-tys-index c = type_there (setting_in c.args.self.now) c.args.bound.now c.args.tys.now c.args.bindings.now c.loop-index.index c.loop-index-test.true c.requires

pub read-requires : goal.read-requires
read-requires c =
    binding_there (setting_in c.args.self.now) c.args.bound.now c.args.tys.now c.args.bindings.now c.loop-index.index _ _ c.loop-index-test.true refl c.requires

pub loop-index-preserved : goal.loop-index-preserved
loop-index-preserved c =
    let s = setting_in c.args.self.now in
    let lt = type_there s c.args.bound.now c.args.tys.now c.args.bindings.now c.loop-index.index c.loop-index-test.true c.requires in
    let b = get_or c.args.bindings.now c.loop-index.index (record { 0 = 0 }) in
    let ty = get_or c.args.tys.now c.loop-index.index (record { 0 = 0 }) in
    reads_step s c.args.bound.now c.args.tys.now c.args.bindings.now c.loop-index.index ty (record { 0 = 0 }) b (record { 0 = 0 }) c.loop-index.reads.items c.push.new.self.items c.in_ok-read.field-0
    lt refl c.loop-index-test.true refl (c.in_ok-read.ensures ∙ ap (λ w. read_in s c.args.bound.now w b) c.is_by_ref-wanted.ensures) c.in_ok-push.ensures.items
    ∙ c.loop-index.invariant

pub returns : goal.returns
returns c =
    reads_all (setting_in c.args.self.now) c.args.bound.now c.args.tys.now c.args.bindings.now c.loop-index.index c.loop-index.reads.items c.loop-index-test.false c.requires c.loop-index.invariant
