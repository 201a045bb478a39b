use Rattle.std.proofs.Common.{inl, inr, rules, ◌≡◌, List, map, None, refl, sym, subst}
use Rattle.std.specs.Prelude.{IfOk}
use Rattle.isle_ast.specs.declared.tree.Def.{Def as CodeDef}
use Rattle.isle_ast.specs.Tree.{Def}
use Rattle.isle_ast.specs.Views.{def, defs as seen, pattern, iflet, expr}
use Rattle.isle_terms.specs.ConverterViews.{AreMet}
use Rattle.isle_terms.specs.Misfits.{ArePlaced, IsJudged}
use Rattle.isle_terms.proofs.DeclarationFaults.{other_judged, declaration_judged, template_judged, converter_judged}
use Rattle.isle_terms.proofs.term_fault.misfit_of.Goals as goal

pub returns-in_default : goal.returns-in_default
returns-in_default c =
    λ bs placed met.
    let all = seen c.args.names.now.declarations.now in
    let none : c.repeated.result ≡ None = search rules in
    let args : c.as_slice.result.now ≡ c.in-Decl.args = search rules in
    subst (λ (x : CodeDef). IsJudged all bs (def x) c.misdeclared.result c.args.found.now) (sym c.in-Decl.is)
    (declaration_judged all bs c.in-Decl.term c.in-Decl.pure c.in-Decl.multi c.in-Decl.partial c.in-Decl.recursive _ c.in-Decl.args c.in-Decl.ret c.in-Decl.pos c.args.counts.signatures c.repeated.result c.misdeclared.result c.args.found.now args none placed.signatures
    c.repeated.ensures (c.misdeclared.ensures all c.requires.before) met)

pub returns-in-ExternConstructor : goal.returns-in-ExternConstructor
returns-in-ExternConstructor c =
    λ bs placed met.
    let all = seen c.args.names.now.declarations.now in
    subst (λ (x : CodeDef). IsJudged all bs (def x) c.external_misfit.result c.args.found.now) (sym c.in-ExternConstructor.is) (other_judged all bs _ c.external_misfit.result c.args.found.now refl (c.external_misfit.ensures bs c.in-ExternConstructor.func c.in-ExternConstructor.pos placed.externs) met)

pub returns-in-ExternExtractor : goal.returns-in-ExternExtractor
returns-in-ExternExtractor c =
    λ bs placed met.
    let all = seen c.args.names.now.declarations.now in
    subst (λ (x : CodeDef). IsJudged all bs (def x) c.function_misfit.result c.args.found.now) (sym c.in-ExternExtractor.is) (other_judged all bs _ c.function_misfit.result c.args.found.now refl (c.function_misfit.ensures bs c.in-ExternExtractor.func c.in-ExternExtractor.pos placed.extractors) met)

pub returns-in-Extractor : goal.returns-in-Extractor
returns-in-Extractor c =
    let all = seen c.args.names.now.declarations.now in
    let params : c.as_slice-in-Extractor.result.now ≡ c.in-Extractor.params = search rules in
    subst (λ (x : CodeDef). IfOk c.template_misfit.result (λ found. (bs : List Def) → ArePlaced all bs c.args.counts → AreMet all bs c.args.found.now → IsJudged all bs (def x) found c.args.found.now)) (sym c.in-Extractor.is)
    (template_judged c.template_misfit.result all _ _ _ (pattern c.in-Extractor.template) c.in-Extractor.pos c.args.counts c.args.found.now params c.template_misfit.ensures)

pub returns-in-Converter : goal.returns-in-Converter
returns-in-Converter c =
    let all = seen c.args.names.now.declarations.now in
    subst (λ (x : CodeDef). IfOk c.converter_misfit.result (λ found. (bs : List Def) → ArePlaced all bs c.args.counts → AreMet all bs c.args.found.now → IsJudged all bs (def x) found c.converter_misfit.new.found)) (sym c.in-Converter.is)
    (converter_judged c.converter_misfit.result all _ _ _ c.in-Converter.pos c.args.counts c.args.found.now c.converter_misfit.new.found c.converter_misfit.ensures)

pub returns-in-Rule : goal.returns-in-Rule
returns-in-Rule c =
    λ bs placed met.
    let all = seen c.args.names.now.declarations.now in
    subst (λ (x : CodeDef). IsJudged all bs (def x) c.head_misfit.result c.args.found.now) (sym c.in-Rule.is) (other_judged all bs _ c.head_misfit.result c.args.found.now refl (c.head_misfit.ensures bs c.in-Rule.name c.in-Rule.prio (map pattern c.in-Rule.args) (map iflet c.in-Rule.iflets) (expr c.in-Rule.rhs) c.in-Rule.pos) met)

pub returns-in-TypeDecl : goal.returns-in-TypeDecl
returns-in-TypeDecl c =
    λ bs placed met.
    let all = seen c.args.names.now.declarations.now in
    let found = c.args.found.now in
    elim c.in-TypeDecl.is [
      | inl h ↦ subst (λ (x : CodeDef). IsJudged all bs (def x) None found) (sym h.5) (other_judged all bs _ None found refl refl met)
      | inr (inl h) ↦ subst (λ (x : CodeDef). IsJudged all bs (def x) None found) (sym h.3) (other_judged all bs _ None found refl refl met)
      | inr (inr h) ↦ subst (λ (x : CodeDef). IsJudged all bs (def x) None found) (sym h.2) (other_judged all bs _ None found refl refl met)
    ]
