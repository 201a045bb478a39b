use Rattle.std.proofs.Common.{◌≡◌, rules, List, map, take, ap, ◌∙◌}
use Rattle.isle_terms.specs.declared.locals.LetVariable.{LetVariable}
use Rattle.isle_terms.specs.LocalViews.{local}
use Rattle.isle_terms.specs.Locals.{Bound}
use Rattle.isle_terms.specs.Scope.{Local}
use Rattle.isle_terms.proofs.LocalLaws.{map_take, numbered_fewer}
use Rattle.isle_terms.proofs.locals.Locals.truncate.Goals as goal

pub invariant_of-self : goal.invariant_of-self
invariant_of-self c =
    let lets : c.truncate-2.new.self.items ≡ take c.args.len c.self.inside.lets.items = search rules in
    let scope : c.truncate.new.self ≡ take c.args.len c.self.inside.scope = search rules in
    numbered_fewer c.self.inside.names c.self.inside.lets.items c.truncate-2.new.self.items c.self.inside.scope c.truncate.new.self c.args.len lets scope c.self.invariant

pub returns : goal.returns
returns c =
    let lets : c.truncate-2.new.self.items ≡ take c.args.len c.self.inside.lets.items = search rules in
    let all : List LetVariable → Bound = λ xs. record { patterns = c.self.inside.patterns.now; lets = map local xs; next = c.self.inside.next } in
    let view : all c.self.inside.lets.items ≡ c.args.self.now = search rules in
    ap all lets ∙ ap (λ (xs : List Local). record { patterns = c.self.inside.patterns.now; lets = xs; next = c.self.inside.next }) (map_take local c.args.len c.self.inside.lets.items)
    ∙ ap (λ (b : Bound). record { patterns = b.patterns; lets = take c.args.len b.lets; next = b.next }) view
