use Rattle.std.proofs.Common.{◌≡◌, Bool, get_or, sym, ap, ◌∙◌, subst}
use Rattle.std.proofs.lemmas.Result.{IfOk-weaker}
use Rattle.isle_core.specs.declared.types.Term.{Term}
use Rattle.isle_core.specs.BlockLawful.{IsLawfulBlock}
use Rattle.isle_core.specs.BlockViews.{block}
use Rattle.isle_core.specs.Calling.{is_several, kind_of}
use Rattle.isle_core.specs.Places.{LiesIn}
use Rattle.isle_core.specs.RuleViews.{environment}
use Rattle.isle_core.specs.Setting.{setting}
use Rattle.isle_blocks.specs.AllReturns.{MakesReturns}
use Rattle.isle_blocks.specs.AllTests.{MakesTests}
use Rattle.isle_tree.specs.Views.{function}
use Rattle.isle_codegen.proofs.Emissions.{calls_once, is_emitted, at_place, term_is}
use Rattle.isle_codegen.proofs.tree.emit_one.Goals as goal

pub term_function-requires : goal.term_function-requires
term_function-requires c =
    let s = c.args.sources.now in
    let env = environment s.typeenv.now s.termenv.now in
    let terms = s.termenv.now.terms in
    let h = c.requires in
    let x = c.index-as_slice-index.result in
    let is : x ≡ get_or terms c.args.term.0 x = c.index-as_slice-index.is ∙ ap (λ xs. get_or xs c.index.result x) c.as_slice.ensures ∙ ap (λ i. get_or terms i x) c.index.ensures in
    let there = at_place terms c.args.term.0 x h.term is h.found in
    let same : x ≡ h.term = term_is s.files.now env c.args.term c.args.rules.now x h there in
    let b = block c.in_ok-block.block in
    let often : is_several (kind_of h.term.kind) ≡ c.is_several.result = ap (λ (t : Term). is_several (kind_of t.kind)) (sym same) ∙ sym c.is_several.ensures in
    let lawful = c.in_ok-block.ensures.lawful env h.term h.ready (λ several. calls_once s.files.now env c.args.term c.args.rules.now h) often in
    record {
      lawful = subst (λ (t : Term). IsLawfulBlock (setting env t c.args.rules.now.bindings) b) (sym same) lawful;
      declared = subst (λ (t : Term). LiesIn s.files.now t.decl_pos) (sym same) h.placed;
    }

pub returns : goal.returns
returns c =
    let s = c.args.sources.now in
    let env = environment s.typeenv.now s.termenv.now in
    let terms = s.termenv.now.terms in
    let h = c.requires in
    let x = c.index-as_slice-index.result in
    let is : x ≡ get_or terms c.args.term.0 x = c.index-as_slice-index.is ∙ ap (λ xs. get_or xs c.index.result x) c.as_slice.ensures ∙ ap (λ i. get_or terms i x) c.index.ensures in
    let there = at_place terms c.args.term.0 x h.term is h.found in
    let same : x ≡ h.term = term_is s.files.now env c.args.term c.args.rules.now x h there in
    let b = block c.in_ok-block.block in
    let often : is_several (kind_of h.term.kind) ≡ c.is_several.result = ap (λ (t : Term). is_several (kind_of t.kind)) (sym same) ∙ sym c.is_several.ensures in
    IfOk-weaker c.term_function.result _ _
    (λ f given. is_emitted s.options.now s.files.now env c.args.term c.args.rules.now x b (function f) h there
    (c.in_ok-block.ensures.lawful env h.term h.ready (λ several. calls_once s.files.now env c.args.term c.args.rules.now h) often) (c.in_ok-block.ensures.merged env h.term h.ready often) c.in_ok-block.ensures.loops
    (record {
      once = λ single m args kind apart. c.in_ok-block.ensures.means env m h.term args kind h.ready often single apart;
      several = λ several. c.in_ok-block.ensures.several env h.term h.ready often several h.lists;
    })
    c.in_ok-block.ensures.tests
    (subst (λ (several : Bool). MakesTests several c.args.rules.now b) (sym often) c.in_ok-block.ensures.makes)
    (subst (λ (several : Bool). MakesReturns several c.args.rules.now b) (sym often) c.in_ok-block.ensures.returns)
    (λ once free. c.in_ok-block.ensures.asks env h.term h.ready often once (λ several. free))
    given)
    c.term_function.ensures
