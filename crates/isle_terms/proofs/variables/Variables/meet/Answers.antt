use Rattle.std.proofs.Common.{◌≡◌, rules, ap, sym, ◌∙◌, ◌∷◌, [], ◌+◌, None, length}
use Rattle.std.specs.Prelude.{option_map}
use Rattle.std.proofs.lemmas.List.{length-append}
use Rattle.isle_declarations.specs.Symbols.{index_of, added}
use Rattle.isle_terms.specs.LocalViews.{entries}
use Rattle.isle_terms.specs.Scope.{Scope, found_in, met}
use Rattle.isle_terms.proofs.VariableLaws.{kept, added_new, unplaced, met_first}
use Rattle.isle_terms.proofs.variables.Variables.meet.Goals as goal

pub invariant_of-self-in-Ok : goal.invariant_of-self-in-Ok
invariant_of-self-in-Ok c =
    let view : record { variables = entries c.self.inside.names c.self.inside.bound.items; next = c.self.inside.next } ≡ c.args.self.now = search rules in
    let none : c.find.result ≡ None = search rules in
    let named : c.intern.new.self ≡ added c.self.inside.names c.args.name.now = search rules in
    let unbound : option_map kept (found_in (entries c.self.inside.names c.self.inside.bound.items) c.args.name.now) ≡ None = ap (λ (s : Scope). option_map kept (found_in s.variables c.args.name.now)) view ∙ sym c.find.ensures ∙ none in
    let absent : index_of c.self.inside.names c.args.name.now ≡ None = unplaced c.self.inside.names c.self.inside.bound.items c.args.name.now c.self.invariant unbound in
    let names : length c.intern.new.self ≡ length c.self.inside.names + 1 = ap length (added_new c.self.inside.names c.intern.new.self c.args.name.now named absent) ∙ length-append c.self.inside.names (c.args.name.now ∷ []) in
    let items : length c.push.new.self.items ≡ length c.self.inside.bound.items + 1 = ap length c.in_ok-push.ensures.items ∙ length-append c.self.inside.bound.items ((c.args.expected, c.self.inside.next) ∷ []) in
    names ∙ ap (λ n. n + 1) c.self.invariant ∙ sym items

pub returns-in-Ok-clause-scope : goal.returns-in-Ok-clause-scope
returns-in-Ok-clause-scope c =
    let view : record { variables = entries c.self.inside.names c.self.inside.bound.items; next = c.self.inside.next } ≡ c.args.self.now = search rules in
    let none : c.find.result ≡ None = search rules in
    let named : c.intern.new.self ≡ added c.self.inside.names c.args.name.now = search rules in
    let unbound : option_map kept (found_in (entries c.self.inside.names c.self.inside.bound.items) c.args.name.now) ≡ None = ap (λ (s : Scope). option_map kept (found_in s.variables c.args.name.now)) view ∙ sym c.find.ensures ∙ none in
    let absent : index_of c.self.inside.names c.args.name.now ≡ None = unplaced c.self.inside.names c.self.inside.bound.items c.args.name.now c.self.invariant unbound in
    met_first c.self.inside.names c.intern.new.self c.self.inside.bound.items c.push.new.self.items c.args.name.now c.args.expected c.self.inside.next _ c.self.invariant (added_new c.self.inside.names c.intern.new.self c.args.name.now named absent) c.in_ok-push.ensures.items unbound (search rules)
    ∙ ap (λ (s : Scope). met s c.args.name.now c.args.expected) view
