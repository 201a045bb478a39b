use Rattle.std.proofs.Common.{◌≡◌, rules, None, Some, List, ap, sym, ◌∙◌, subst}
use Rattle.std.specs.Prelude.{option_map, slice_get}
use Rattle.std.specs.Option.{option_copied}
use Rattle.isle_ast.specs.declared.tree.Def.{Def}
use Rattle.isle_ast.specs.Views.{defs as seen}
use Rattle.isle_declarations.specs.declared.collected.ExtractorDef.{ExtractorDef}
use Rattle.isle_declarations.specs.Collected.{known_by}
use Rattle.isle_declarations.specs.Tables.{AreTables}
use Rattle.isle_declarations.proofs.LookUps.{got, there}
use Rattle.isle_declarations.proofs.ExtractorNumbers.{extractor_found, extractor_absent}
use Rattle.isle_declarations.proofs.declarations.Declarations.extractor.Goals as goal

pub returns-in_err-place : goal.returns-in_err-place
returns-in_err-place c =
    λ name e.
    let nothing : c.extracting.result ≡ None = search rules in
    c.from_residual.ensures ∙ extractor_absent (seen c.args.self.now) name (sym (c.extracting.ensures name e) ∙ nothing)

pub returns-in_err-found : goal.returns-in_err-found
returns-in_err-found c =
    λ name e.
    let known = subst (λ (ds : List Def). AreTables (seen ds) c.self.inside.given c.self.inside.declared c.self.inside.external c.self.inside.extracting c.self.inside.ruled) c.self.view_is c.self.invariant in
    let nothing : c.get.result ≡ None = search rules in
    let place : Some c.in_ok-place.place ≡ c.extracting.result = search rules in
    let items : c.deref.result.now ≡ c.self.inside.given.extractors.items = search rules in
    let h = c.get.ensures.lookup in
    let past : slice_get c.deref.result.now c.in_ok-place.place ≡ None = sym (got c.deref.result.now c.in_ok-place.place c.get.result h.1 h.3) ∙ ap option_copied nothing in
    c.from_residual-in_err-found.ensures ∙ sym (ap (option_map (λ (x : ExtractorDef). known_by x.by)) (ap (λ (xs : List ExtractorDef). slice_get xs c.in_ok-place.place) (sym items) ∙ past))
    ∙ extractor_found (seen c.args.self.now) c.self.inside.given name (Some c.in_ok-place.place) known.collected (place ∙ c.extracting.ensures name e)

pub returns : goal.returns
returns c =
    λ name e.
    let known = subst (λ (ds : List Def). AreTables (seen ds) c.self.inside.given c.self.inside.declared c.self.inside.external c.self.inside.extracting c.self.inside.ruled) c.self.view_is c.self.invariant in
    let place : Some c.in_ok-place.place ≡ c.extracting.result = search rules in
    let items : c.deref.result.now ≡ c.self.inside.given.extractors.items = search rules in
    let h = c.get.ensures.lookup in
    let is = there c.deref.result.now c.in_ok-place.place c.get.result c.in_ok-found.found h.1 h.3 (search rules) in
    ap Some c.known_by.ensures ∙ sym (ap (option_map (λ (x : ExtractorDef). known_by x.by)) (ap (λ (xs : List ExtractorDef). slice_get xs c.in_ok-place.place) (sym items) ∙ is))
    ∙ extractor_found (seen c.args.self.now) c.self.inside.given name (Some c.in_ok-place.place) known.collected (place ∙ c.extracting.ensures name e)
