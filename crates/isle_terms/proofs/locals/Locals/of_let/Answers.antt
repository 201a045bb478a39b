use Rattle.std.proofs.Common.{◌≡◌, rules, List, Some, None, map, sym, ap, ◌∙◌}
use Rattle.std.specs.Prelude.{option_map, slice_get}
use Rattle.std.specs.Option.{option_copied}
use Rattle.isle_scope.specs.Scope.{last_place}
use Rattle.isle_scope.specs.Table.{at_place}
use Rattle.isle_declarations.specs.Symbols.{index_of}
use Rattle.isle_declarations.proofs.LookUps.{got, there}
use Rattle.isle_terms.specs.declared.locals.LetVariable.{LetVariable}
use Rattle.isle_terms.specs.LocalViews.{local}
use Rattle.isle_terms.specs.Locals.{local_named}
use Rattle.isle_terms.specs.Scope.{Local}
use Rattle.isle_terms.proofs.LocalLaws.{let_found, let_absent}
use Rattle.isle_terms.proofs.locals.Locals.of_let.Goals as goal

pub returns-in_err-find : goal.returns-in_err-find
returns-in_err-find c =
    let view : map local c.self.inside.lets.items ≡ c.args.self.now.lets = search rules in
    let absent : index_of c.self.inside.names c.args.name.now ≡ None = search rules in
    let none : c.from_residual.result ≡ None = search rules in
    none
    ∙ sym (ap (option_map (λ (l : Local). (l.ty, l.number))) (ap (λ (ls : List Local). local_named ls c.args.name.now) (sym view) ∙ let_absent c.self.inside.names c.self.inside.lets.items c.self.inside.scope c.args.name.now c.self.invariant absent))

pub returns-in_err-place : goal.returns-in_err-place
returns-in_err-place c =
    let view : map local c.self.inside.lets.items ≡ c.args.self.now.lets = search rules in
    let at : index_of c.self.inside.names c.args.name.now ≡ Some c.in_ok-find.field-0 = search rules in
    let nowhere : last_place c.self.inside.scope c.in_ok-find.field-0 ≡ None = search rules in
    let none : c.from_residual-in_err-place.result ≡ None = search rules in
    none
    ∙ sym (ap (option_map (λ (l : Local). (l.ty, l.number))) (ap (λ (ls : List Local). local_named ls c.args.name.now) (sym view)
    ∙ sym (let_found c.self.inside.names c.self.inside.lets.items c.self.inside.scope c.args.name.now c.in_ok-find.field-0 c.self.invariant at) ∙ ap (λ o. option_map local (at_place c.self.inside.lets.items o)) nowhere))

pub returns-in_err-found : goal.returns-in_err-found
returns-in_err-found c =
    let view : map local c.self.inside.lets.items ≡ c.args.self.now.lets = search rules in
    let at : index_of c.self.inside.names c.args.name.now ≡ Some c.in_ok-find.field-0 = search rules in
    let place : last_place c.self.inside.scope c.in_ok-find.field-0 ≡ Some c.in_ok-place.place = search rules in
    let lets : c.deref.result.now ≡ c.self.inside.lets.items = search rules in
    let nothing : c.get.result ≡ None = search rules in
    let none : c.from_residual-in_err-found.result ≡ None = search rules in
    let h = c.get.ensures.lookup in
    let absent : slice_get c.self.inside.lets.items c.in_ok-place.place ≡ None =
    ap (λ (xs : List LetVariable). slice_get xs c.in_ok-place.place) (sym lets) ∙ sym (got c.deref.result.now c.in_ok-place.place c.get.result h.1 h.3) ∙ ap option_copied nothing in
    none
    ∙ sym (ap (option_map (λ (l : Local). (l.ty, l.number))) (ap (λ (ls : List Local). local_named ls c.args.name.now) (sym view)
    ∙ sym (let_found c.self.inside.names c.self.inside.lets.items c.self.inside.scope c.args.name.now c.in_ok-find.field-0 c.self.invariant at) ∙ ap (λ o. option_map local (at_place c.self.inside.lets.items o)) place ∙ ap (option_map local) absent))

pub returns : goal.returns
returns c =
    let view : map local c.self.inside.lets.items ≡ c.args.self.now.lets = search rules in
    let at : index_of c.self.inside.names c.args.name.now ≡ Some c.in_ok-find.field-0 = search rules in
    let place : last_place c.self.inside.scope c.in_ok-find.field-0 ≡ Some c.in_ok-place.place = search rules in
    let lets : c.deref.result.now ≡ c.self.inside.lets.items = search rules in
    let h = c.get.ensures.lookup in
    let is : slice_get c.self.inside.lets.items c.in_ok-place.place ≡ Some c.in_ok-found.found.now =
    ap (λ (xs : List LetVariable). slice_get xs c.in_ok-place.place) (sym lets) ∙ there c.deref.result.now c.in_ok-place.place c.get.result c.in_ok-found.found h.1 h.3 (search rules) in
    sym (ap (option_map (λ (l : Local). (l.ty, l.number))) (ap (λ (ls : List Local). local_named ls c.args.name.now) (sym view)
    ∙ sym (let_found c.self.inside.names c.self.inside.lets.items c.self.inside.scope c.args.name.now c.in_ok-find.field-0 c.self.invariant at) ∙ ap (λ o. option_map local (at_place c.self.inside.lets.items o)) place ∙ ap (option_map local) is))
