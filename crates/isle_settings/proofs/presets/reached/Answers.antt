use Rattle.std.proofs.Common.{◌∙◌, ap, length, rules, set, subst, sym, true}
use Rattle.std.specs.Prelude.{◌↔◌}
use Rattle.isle_settings.specs.Marks.{IsMarked}
use Rattle.isle_settings.specs.PresetClosure.{Reaches}
use Rattle.isle_settings.proofs.ReachLaws.{found, written_back}
use Rattle.isle_settings.proofs.presets.reached.Goals as goal

pub returns : goal.returns
returns c = λ flag.
    let left = written_back c.in_ok-flags.flags.len c.mark_all.new.flags c.in_ok-flags.flags.items (c.in_ok-flags.flags.ok.0 ∙ sym (c.mark_all.auto.flags ∙ ap length c.deref_mut-2.ensures.value)) in
    subst (λ marks. IsMarked marks flag ↔ Reaches c.args.group.now.presets c.args.preset flag) (sym left)
    (found c.args.group.now.presets c.as_slice-3.result.now (length c.as_slice-2.result.now) (length c.as_slice.result.now) c.args.preset flag c.deref_mut.result.now c.deref_mut-2.result.now c.mark_all.new.flags
    (search rules) (search rules) (c.deref_mut.ensures.value ∙ ap (λ marks. set marks c.args.preset true) (c.in_ok-presets.ensures.items_if_clones_equal (λ y e. e)))
    (c.deref_mut-2.ensures.value ∙ c.in_ok-flags.ensures.items_if_clones_equal (λ y e. e)) (c.mark_all.ensures flag))
