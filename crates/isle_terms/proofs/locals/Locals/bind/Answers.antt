use Rattle.std.proofs.Common.{◌≡◌, rules, refl, ◌∷◌, ◌++◌, [], Some}
use Rattle.isle_declarations.specs.Symbols.{index_of, added}
use Rattle.isle_terms.proofs.LocalLaws.{numbered_same, numbered_bound, popped}
use Rattle.isle_terms.proofs.locals.Locals.bind.Goals as goal

pub invariant_of-self-in_err-push : goal.invariant_of-self-in_err-push
invariant_of-self-in_err-push c =
    let named : c.intern.new.self ≡ added c.self.inside.names c.args.name.now = search rules in
    let same : c.push.new.self.items ≡ c.self.inside.lets.items = search rules in
    numbered_same c.self.inside.names c.intern.new.self c.args.name.now c.self.inside.lets.items c.push.new.self.items c.self.inside.scope c.self.inside.scope named same refl c.self.invariant

pub invariant_of-self-in-Ok : goal.invariant_of-self-in-Ok
invariant_of-self-in-Ok c =
    let named : c.intern.new.self ≡ added c.self.inside.names c.args.name.now = search rules in
    let at : index_of c.intern.new.self c.args.name.now ≡ Some c.in_ok-place.place = search rules in
    let behind : c.bind.new.self ≡ c.self.inside.scope ++ c.in_ok-place.place ∷ [] = search rules in
    numbered_bound c.self.inside.names c.intern.new.self c.args.name.now c.in_ok-place.place _ c.self.inside.lets.items c.push.new.self.items c.self.inside.scope c.bind.new.self named at refl c.in_ok-push.ensures.items behind c.self.invariant

pub invariant_of-self-in-Err : goal.invariant_of-self-in-Err
invariant_of-self-in-Err c =
    let named : c.intern.new.self ≡ added c.self.inside.names c.args.name.now = search rules in
    let same : c.pop.new.self.items ≡ c.self.inside.lets.items = popped c.self.inside.lets.items c.push.new.self.items c.pop.new.self.items _ _ (search rules) c.in_ok-push.ensures.items c.pop.ensures.rest in
    let still : c.bind.new.self ≡ c.self.inside.scope = search rules in
    numbered_same c.self.inside.names c.intern.new.self c.args.name.now c.self.inside.lets.items c.pop.new.self.items c.self.inside.scope c.bind.new.self named same still c.self.invariant
