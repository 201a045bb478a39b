use Rattle.std.proofs.Common.{◌≡◌, rules, Option, Some, None, ap, sym, ◌∙◌, subst}
use Rattle.std.specs.Prelude.{slice_get}
use Rattle.std.specs.Option.{option_copied}
use Rattle.std.proofs.lemmas.Option.{same_Some}
use Rattle.isle_declarations.proofs.LookUps.{got, there}
use Rattle.isle_terms.specs.Whole.{termed}
use Rattle.isle_sema.specs.declared.known.Called.{Called}
use Rattle.isle_sema.specs.Known.{MayBeCalled}
use Rattle.isle_sema.specs.TemplateRows.{is_on_walk}
use Rattle.isle_sema.proofs.UsedTerms.{no_walk, walk_told}
use Rattle.isle_sema.proofs.template_uses.reaches_itself.Goals as goal

pub returns-in_default : goal.returns-in_default
returns-in_default c =
    λ w x h told.
    let none : c.args.callee.now ≡ None = search rules in
    no_walk w x (subst (λ (o : Option Called). MayBeCalled w (termed w x.term) o) none h)

pub returns-in-Some-get : goal.returns-in-Some-get
returns-in-Some-get c =
    λ w x h told.
    let is : c.args.callee.now ≡ Some c.in-Some.callee = search rules in
    let at = walk_told w x c.in-Some.callee c.args.closed.now (subst (λ (o : Option Called). MayBeCalled w (termed w x.term) o) is h) told in
    let l = c.get.ensures.lookup in
    let index : c.index.result ≡ c.in-Some.callee.term.0 = search rules in
    let here = there c.args.closed.now c.index.result c.get.result c.in-Some-get.found l.1 l.3 (search rules) in
    same_Some c.in-Some-get.found.now (is_on_walk w x) (sym here ∙ ap (slice_get c.args.closed.now) index ∙ at)

pub returns-in-None : goal.returns-in-None
returns-in-None c =
    λ w x h told.
    let is : c.args.callee.now ≡ Some c.in-Some.callee = search rules in
    let at = walk_told w x c.in-Some.callee c.args.closed.now (subst (λ (o : Option Called). MayBeCalled w (termed w x.term) o) is h) told in
    let l = c.get.ensures.lookup in
    let index : c.index.result ≡ c.in-Some.callee.term.0 = search rules in
    let nothing : c.get.result ≡ None = search rules in
    let past : slice_get c.args.closed.now c.index.result ≡ None = sym (got c.args.closed.now c.index.result c.get.result l.1 l.3) ∙ ap option_copied nothing in
    let bad : None ≡ Some (is_on_walk w x) = sym past ∙ ap (slice_get c.args.closed.now) index ∙ at in
    absurd cc
