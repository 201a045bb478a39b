use Rattle.std.proofs.Common.{◌≡◌, rules, Some, None, List, refl, ap, sym, ◌∙◌, subst}
use Rattle.std.specs.Prelude.{is_some, option_map, slice_get}
use Rattle.std.specs.Option.{option_copied}
use Rattle.std.proofs.lemmas.Option.{slice_get-map}
use Rattle.isle_ast.specs.declared.tree.Def.{Def}
use Rattle.isle_ast.specs.Views.{defs as seen}
use Rattle.isle_declarations.specs.Signatures.{externs, extractors, rule_defs}
use Rattle.isle_declarations.specs.Heads.{extern_terms, extractor_terms, heads_of}
use Rattle.isle_declarations.specs.Symbols.{symbols}
use Rattle.isle_declarations.specs.Tables.{IsFirstPlace, IsExtractorKnown}
use Rattle.isle_declarations.specs.Terms.{is_made}
use Rattle.isle_declarations.specs.TermViews.{term_def}
use Rattle.isle_declarations.proofs.LookUps.{got, there}
use Rattle.isle_sema.specs.KnownOf.{AreKnown}
use Rattle.isle_terms.specs.Whole.{termed}
use Rattle.isle_terms.specs.Whole.{whole}
use Rattle.isle_sema.specs.Known.{MayBeCalled}
use Rattle.isle_sema.proofs.KnownLaws.{known_absent, known_past, known_beyond, tells_template, template_told, known_at}
use Rattle.isle_sema.proofs.known.Known.at.Goals as goal

pub returns-in_err-place : goal.returns-in_err-place
returns-in_err-place c =
    λ name e.
    let none : c.from_residual.result ≡ None = search rules in
    let absent : c.place.result ≡ None = search rules in
    let known = subst (λ (ds : List Def). AreKnown ds c.self.inside.before.now c.self.inside.types.now c.self.inside.terms.now c.self.inside.typed.now c.self.inside.converters.now) c.self.view_is c.self.invariant in
    let at = c.place.ensures (seen c.args.self.now) known.termed in
    subst (λ o. MayBeCalled (whole c.args.self.now) (termed (whole c.args.self.now) name) o) (sym none) (known_absent (whole c.args.self.now) name (sym (at name e) ∙ absent))

pub returns-in_err-term : goal.returns-in_err-term
returns-in_err-term c =
    λ name e.
    let none : c.from_residual-in_err-term.result ≡ None = search rules in
    let place : c.place.result ≡ Some c.in_ok-place.place = search rules in
    let nothing : c.get.result ≡ None = search rules in
    let h = c.get.ensures.lookup in
    let known = subst (λ (ds : List Def). AreKnown ds c.self.inside.before.now c.self.inside.types.now c.self.inside.terms.now c.self.inside.typed.now c.self.inside.converters.now) c.self.view_is c.self.invariant in
    let at = c.place.ensures (seen c.args.self.now) known.termed in
    let past : slice_get c.self.inside.typed.now c.in_ok-place.place ≡ None = sym (got c.self.inside.typed.now c.in_ok-place.place c.get.result h.1 h.3) ∙ ap option_copied nothing in
    subst (λ o. MayBeCalled (whole c.args.self.now) (termed (whole c.args.self.now) name) o) (sym none) (known_past (whole c.args.self.now) c.self.inside.typed.now name c.in_ok-place.place known.typed (sym (at name e) ∙ place) past)

pub returns-in_err-given : goal.returns-in_err-given
returns-in_err-given c =
    λ name e.
    let none : c.from_residual-in_err-given.result ≡ None = search rules in
    let place : c.place.result ≡ Some c.in_ok-place.place = search rules in
    let nothing : c.get-2.result ≡ None = search rules in
    let h = c.get-2.ensures.lookup in
    let known = subst (λ (ds : List Def). AreKnown ds c.self.inside.before.now c.self.inside.types.now c.self.inside.terms.now c.self.inside.typed.now c.self.inside.converters.now) c.self.view_is c.self.invariant in
    let at = c.place.ensures (seen c.args.self.now) known.termed in
    let past : slice_get c.as_slice.result.now c.in_ok-place.place ≡ None = sym (got c.as_slice.result.now c.in_ok-place.place c.get-2.result h.1 h.3) ∙ ap option_copied nothing in
    let all = ap (λ xs. slice_get xs c.in_ok-place.place) (sym (known.termed.seen)) in
    let items = ap (λ xs. option_map term_def (slice_get xs c.in_ok-place.place)) (sym c.as_slice.ensures.value) in
    let beyond = all ∙ slice_get-map term_def c.self.inside.terms.now.terms.items c.in_ok-place.place ∙ items ∙ ap (option_map term_def) past in
    subst (λ o. MayBeCalled (whole c.args.self.now) (termed (whole c.args.self.now) name) o) (sym none) (known_beyond (whole c.args.self.now) name c.in_ok-place.place (sym (at name e) ∙ place) beyond)

pub returns : goal.returns
returns c =
    λ name e.
    let w = whole c.args.self.now in
    let place : c.place.result ≡ Some c.in_ok-place.place = search rules in
    let h = c.get.ensures.lookup in
    let j = c.get-2.ensures.lookup in
    let known = subst (λ (ds : List Def). AreKnown ds c.self.inside.before.now c.self.inside.types.now c.self.inside.terms.now c.self.inside.typed.now c.self.inside.converters.now) c.self.view_is c.self.invariant in
    let at = c.place.ensures (seen c.args.self.now) known.termed in
    let external = subst (λ (ds : List Def). IsFirstPlace (seen ds) c.args.number (extern_terms (externs (seen ds))) c.external.result) c.self.view_is c.external.ensures in
    let extracting = subst (λ (ds : List Def). IsFirstPlace (seen ds) c.args.number (extractor_terms (extractors (seen ds))) c.extracting.result) c.self.view_is c.extracting.ensures in
    let extractor = subst (λ (ds : List Def). IsExtractorKnown (seen ds) c.args.number c.extractor.result) c.self.view_is c.extractor.ensures in
    let templated : tells_template c.extractor.result ≡ c.match-extractor.templated = search rules in
    let ruled = subst (λ (ds : List Def). IsFirstPlace (seen ds) c.args.number (heads_of (rule_defs (seen ds))) c.rule.result) c.self.view_is c.rule.ensures in
    let term = there c.self.inside.typed.now c.in_ok-place.place c.get.result c.in_ok-term.term h.1 h.3 (search rules) in
    let given = there c.as_slice.result.now c.in_ok-place.place c.get-2.result c.in_ok-given.given j.1 j.3 (search rules) in
    let all = ap (λ xs. slice_get xs c.in_ok-place.place) (sym (known.termed.seen)) in
    let items = ap (λ xs. option_map term_def (slice_get xs c.in_ok-place.place)) (sym c.as_slice.ensures.value) in
    let signature_at = all ∙ slice_get-map term_def c.self.inside.terms.now.terms.items c.in_ok-place.place ∙ items ∙ ap (option_map term_def) given in
    let made : is_made c.in_ok-given.given.now.origin ≡ c.match-given.made = search rules in
    known_at w c.self.inside.typed.now name c.in_ok-place.place c.in_ok-term.term.now (term_def c.in_ok-given.given.now) _ known.typed (sym (at name e) ∙ place) term signature_at refl (search rules) refl refl refl refl made
    (c.is_some.ensures ∙ ap is_some (external name e)) (c.is_some-2.ensures ∙ ap is_some (extracting name e)) (sym templated ∙ ap tells_template (extractor name e) ∙ template_told (symbols w.defs) _) (c.is_some-3.ensures ∙ ap is_some (ruled name e))
