use Rattle.std.proofs.Common.{arith, ◌≡◌, ◌-◌, suc, [], ◌∷◌, drop, refl, sym, ap, ◌∙◌, subst}
use Rattle.std.specs.Prelude.{option_map}
use Rattle.std.proofs.lemmas.List.{drop_all}
use Rattle.std.proofs.lemmas.Result.{on_ok_weaker}
use Rattle.isle_emission.specs.Built.{AreComputed}
use Rattle.isle_emission.specs.Emitter.{setting_in}
use Rattle.isle_simulation.specs.Completed.{needed, each_needed}
use Rattle.isle_emission.proofs.NeededLets.{needed_parts}
use Rattle.isle_emission.proofs.PushedLets.{pushed_then, computed_both, computed_after, so_named, first_there, left_more, left_none}
use Rattle.isle_emission.proofs.emitter.Emitter.+needed.Goals as goal

pub push_each-loop-binding-init : goal.push_each-loop-binding-init
push_each-loop-binding-init t c = record { rest = λ new after p. p; there = c.requires }

pub push_each-push_needed-requires : goal.push_each-push_needed-requires
push_each-push_needed-requires t c =
    let s = setting_in c.args.self.now in
    let one = needed s c.args.depth in (
      omega (arith, c.decreases),
      first_there s one (each_needed one) c.args.bindings.now c.loop-binding.binding-index _ _ c.loop-binding.bound
          (λ bound b more. refl) c.loop-binding-test.true refl c.loop-binding.invariant.there,
    )

pub push_each-loop-binding-preserved : goal.push_each-loop-binding-preserved
push_each-loop-binding-preserved t c =
    let s = setting_in c.args.self.now in
    let one = needed s c.args.depth in
    let bs = c.args.bindings.now in
    left_more s one (each_needed one) (each_needed one c.args.bound.now bs) bs c.loop-binding.binding-index _ _ c.args.bound.now c.loop-binding.bound c.push_needed.new.bound c.args.out.now.items c.loop-binding.out.items c.push_needed.new.out.items
    (λ bound b more. refl) c.loop-binding-test.true refl c.in_ok-push_needed.ensures c.loop-binding.invariant

pub push_each-returns : goal.push_each-returns
push_each-returns t c =
    let s = setting_in c.args.self.now in
    let one = needed s c.args.depth in
    let bs = c.args.bindings.now in
    let none : drop c.loop-binding.binding-index bs ≡ [] = drop_all c.loop-binding.binding-index bs c.loop-binding-test.false in
    left_none s (each_needed one c.args.bound.now bs) (each_needed one c.loop-binding.bound (drop c.loop-binding.binding-index bs)) c.args.bound.now c.loop-binding.bound c.args.out.now.items c.loop-binding.out.items
    (ap (each_needed one c.loop-binding.bound) none) c.loop-binding.invariant

pub push_needed-push_each-requires : goal.push_needed-push_each-requires
push_needed-push_each-requires t c =
    let s = setting_in c.args.self.now in
    let less = c.args.depth - 1 in
    let is : c.args.depth ≡ suc less = omega (arith, c.if-depth-eq0.false) in
    let parts = needed_parts s c.args.depth less c.args.bound.now c.args.binding c.in-Some.parts.now is (sym c.is_bound.ensures ∙ c.if-is_bound.false) (ap (option_map (λ parts. parts.now)) (sym c.in-Some.is) ∙ c.local_parts.ensures) in (
      omega (arith, c.if-depth-eq0.false, c.decreases),
      (computed_both s c.args.bound.now (each_needed (needed s less) c.args.bound.now c.in-Some.parts.now) (c.args.binding ∷ []) (subst (AreComputed s c.args.bound.now) (sym parts) c.requires)).0,
    )

pub push_needed-push_let-requires : goal.push_needed-push_let-requires
push_needed-push_let-requires t c =
    let s = setting_in c.args.self.now in
    let less = c.args.depth - 1 in
    let is : c.args.depth ≡ suc less = omega (arith, c.if-depth-eq0.false) in
    let parts = needed_parts s c.args.depth less c.args.bound.now c.args.binding c.in-Some.parts.now is (sym c.is_bound.ensures ∙ c.if-is_bound.false) (ap (option_map (λ parts. parts.now)) (sym c.in-Some.is) ∙ c.local_parts.ensures) in
    (computed_after s (each_needed (needed s less) c.args.bound.now c.in-Some.parts.now) (λ ls. c.args.binding ∷ []) c.args.bound.now c.push_each.new.bound c.args.out.now.items c.push_each.new.out.items
    c.in_ok-push_each.ensures (subst (AreComputed s c.args.bound.now) (sym parts) c.requires)).0

pub push_needed-returns : goal.push_needed-returns
push_needed-returns t c =
    let s = setting_in c.args.self.now in
    let less = c.args.depth - 1 in
    let is : c.args.depth ≡ suc less = omega (arith, c.if-depth-eq0.false) in
    on_ok_weaker c.push_let.result
    (λ last. so_named
    (needed_parts s c.args.depth less c.args.bound.now c.args.binding c.in-Some.parts.now is (sym c.is_bound.ensures ∙ c.if-is_bound.false) (ap (option_map (λ parts. parts.now)) (sym c.in-Some.is) ∙ c.local_parts.ensures))
    (pushed_then s (each_needed (needed s less) c.args.bound.now c.in-Some.parts.now) (c.args.binding ∷ []) c.args.bound.now c.push_each.new.bound c.push_let.new.bound c.args.out.now.items c.push_each.new.out.items c.push_let.new.out.items
    c.in_ok-push_each.ensures last))
    c.push_let.ensures
