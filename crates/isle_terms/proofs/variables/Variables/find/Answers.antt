use Rattle.std.proofs.Common.{◌≡◌, rules, ap, sym, ◌∙◌, Some, None, length, ◌≤◌, arith}
use Rattle.std.specs.Prelude.{option_map, slice_get}
use Rattle.isle_declarations.specs.Symbols.{index_of}
use Rattle.isle_terms.specs.LocalViews.{entries}
use Rattle.isle_terms.specs.Scope.{Scope, found_in}
use Rattle.isle_declarations.proofs.LookUps.{at_place, there, past}
use Rattle.isle_declarations.proofs.SymbolLaws.{index_below}
use Rattle.isle_terms.proofs.VariableLaws.{kept, found_place}
use Rattle.isle_terms.proofs.variables.Variables.find.Goals as goal

pub returns-in_err-place : goal.returns-in_err-place
returns-in_err-place c =
    let view : record { variables = entries c.self.inside.names c.self.inside.bound.items; next = c.self.inside.next } ≡ c.args.self.now = search rules in
    let absent : index_of c.self.inside.names c.args.name.now ≡ None = search rules in
    let none : c.from_residual.result ≡ None = search rules in
    none ∙ sym (ap (λ (s : Scope). option_map kept (found_in s.variables c.args.name.now)) (sym view) ∙ found_place c.self.inside.names c.self.inside.bound.items c.args.name.now c.self.invariant ∙ ap (at_place c.self.inside.bound.items) absent)

pub returns-in_err-found : goal.returns-in_err-found
returns-in_err-found c =
    let at : index_of c.self.inside.names c.args.name.now ≡ Some c.in_ok-place.place = search rules in
    let items : c.deref.result.now ≡ c.self.inside.bound.items = search rules in
    let nothing : c.get.result ≡ None = search rules in
    let h = c.get.ensures.lookup in
    let below = index_below c.self.inside.names c.args.name.now c.in_ok-place.place at in
    let beyond : length c.deref.result.now ≤ c.in_ok-place.place = past c.deref.result.now c.in_ok-place.place c.get.result h.3 nothing in
    absurd (let same = c.self.invariant in let long = ap length items in omega (arith, below, beyond, same, long))

pub returns : goal.returns
returns c =
    let view : record { variables = entries c.self.inside.names c.self.inside.bound.items; next = c.self.inside.next } ≡ c.args.self.now = search rules in
    let at : index_of c.self.inside.names c.args.name.now ≡ Some c.in_ok-place.place = search rules in
    let items : c.deref.result.now ≡ c.self.inside.bound.items = search rules in
    let h = c.get.ensures.lookup in
    let is = there c.deref.result.now c.in_ok-place.place c.get.result c.in_ok-found.found h.1 h.3 (search rules) in
    sym (ap (λ (s : Scope). option_map kept (found_in s.variables c.args.name.now)) (sym view) ∙ found_place c.self.inside.names c.self.inside.bound.items c.args.name.now c.self.invariant ∙ ap (at_place c.self.inside.bound.items) at ∙ ap (λ xs. slice_get xs c.in_ok-place.place) (sym items) ∙ is)
