use Rattle.std.proofs.Common.{◌≡◌, rules, Some, None, List, ap, sym, ◌∙◌, subst}
use Rattle.std.specs.Prelude.{slice_get}
use Rattle.std.specs.Option.{option_copied}
use Rattle.isle_ast.specs.declared.tree.Def.{Def}
use Rattle.isle_declarations.specs.Symbols.{index_of}
use Rattle.isle_declarations.proofs.LookUps.{got, there}
use Rattle.isle_sema.specs.KnownOf.{AreKnown}
use Rattle.isle_terms.specs.Whole.{whole}
use Rattle.isle_sema.proofs.KnownLaws.{constant_at, constant_absent}
use Rattle.isle_sema.proofs.known.Known.constant.Goals as goal

pub returns-in_err-place : goal.returns-in_err-place
returns-in_err-place c =
    let known = subst (λ (ds : List Def). AreKnown ds c.self.inside.before.now c.self.inside.types.now c.self.inside.terms.now c.self.inside.typed.now c.self.inside.converters.now) c.self.view_is c.self.invariant in
    let none : c.from_residual.result ≡ None = search rules in
    let absent : index_of c.self.inside.before.now.constants c.args.name.now ≡ None = search rules in
    none ∙ constant_absent (whole c.args.self.now) c.self.inside.before.now.constants c.args.name.now known.before.constants absent

pub returns-in_err-constant : goal.returns-in_err-constant
returns-in_err-constant c =
    let known = subst (λ (ds : List Def). AreKnown ds c.self.inside.before.now c.self.inside.types.now c.self.inside.terms.now c.self.inside.typed.now c.self.inside.converters.now) c.self.view_is c.self.invariant in
    let place : index_of c.self.inside.before.now.constants c.args.name.now ≡ Some c.in_ok-place.place = search rules in
    let h = c.get.ensures.lookup in
    let none : c.from_residual-in_err-constant.result ≡ None = search rules in
    let nothing : c.get.result ≡ None = search rules in
    let past : slice_get c.self.inside.types.now.consts c.in_ok-place.place ≡ None = ap (λ xs. slice_get xs c.in_ok-place.place) (sym c.as_slice.ensures) ∙ sym (got c.as_slice.result.now c.in_ok-place.place c.get.result h.1 h.3) ∙ ap option_copied nothing in
    none ∙ constant_at (whole c.args.self.now) c.self.inside.before.now.constants c.self.inside.types.now c.args.name.now c.in_ok-place.place None known.before.constants known.types place past

pub returns : goal.returns
returns c =
    let known = subst (λ (ds : List Def). AreKnown ds c.self.inside.before.now c.self.inside.types.now c.self.inside.terms.now c.self.inside.typed.now c.self.inside.converters.now) c.self.view_is c.self.invariant in
    let place : index_of c.self.inside.before.now.constants c.args.name.now ≡ Some c.in_ok-place.place = search rules in
    let h = c.get.ensures.lookup in
    let is = there c.as_slice.result.now c.in_ok-place.place c.get.result c.in_ok-constant.constant h.1 h.3 (search rules) in
    let at : slice_get c.self.inside.types.now.consts c.in_ok-place.place ≡ Some c.in_ok-constant.constant.now = ap (λ xs. slice_get xs c.in_ok-place.place) (sym c.as_slice.ensures) ∙ is in
    constant_at (whole c.args.self.now) c.self.inside.before.now.constants c.self.inside.types.now c.args.name.now c.in_ok-place.place (Some c.in_ok-constant.constant.now) known.before.constants known.types place at
