use Rattle.std.proofs.Common.{◌≡◌, ◌<◌, length, get_or, ap, ◌∙◌, arith}
use Rattle.std.proofs.lemmas.Result.{IfOk-weaker}
use Rattle.isle_core.specs.declared.types.Term.{Term}
use Rattle.isle_core.specs.Setting.{setting}
use Rattle.isle_tree.specs.Views.{function}
use Rattle.isle_emission.specs.MayEmit.{MayEmit}
use Rattle.isle_emission.specs.Origin.{origin}
use Rattle.isle_simulation.specs.StatementsOf.{IsFunctionOf}
use Rattle.isle_simulation.proofs.StatementsAre.{function_is}
use Rattle.isle_emission.proofs.EmittedLaws.{in_range, of_item, at_item, is_well_formed, is_shaped, is_run, is_logged, is_alike}
use Rattle.isle_emission.proofs.emit.emit_term.Goals as goal

pub bounds-as_slice-index : goal.bounds-as_slice-index
bounds-as_slice-index c =
    let lt : c.args.term.0 < length c.args.termenv.now.terms = in_range c.args.termenv.now.terms c.args.term.0 _ c.requires.term in
    omega (arith, lt, ap length c.as_slice-2.ensures)

pub term_function-requires : goal.term_function-requires
term_function-requires c =
    let terms = c.args.termenv.now.terms in
    let x = c.index-as_slice-index.result in
    let is : x ≡ get_or terms c.args.term.0 x = c.index-as_slice-index.is ∙ ap (λ xs. get_or xs c.index.result x) c.as_slice-2.ensures ∙ ap (λ i. get_or terms i x) c.index.ensures in
    let o = origin c.args.files.now c.args.typeenv.now c.args.termenv.now c.args.term c.args.rules.now c.args.block.now in
    let may = of_item terms c.args.term.0 x (λ (u : Term). MayEmit o.files (setting o.env u o.bindings) o.block) c.requires.term is in
    record { lawful = may.lawful; declared = may.declared }

pub returns-clause-emitted : goal.returns-clause-emitted
returns-clause-emitted c =
    let terms = c.args.termenv.now.terms in
    let x = c.index-as_slice-index.result in
    let is : x ≡ get_or terms c.args.term.0 x = c.index-as_slice-index.is ∙ ap (λ xs. get_or xs c.index.result x) c.as_slice-2.ensures ∙ ap (λ i. get_or terms i x) c.index.ensures in
    let o = origin c.args.files.now c.args.typeenv.now c.args.termenv.now c.args.term c.args.rules.now c.args.block.now in
    let may = of_item terms c.args.term.0 x (λ (u : Term). MayEmit o.files (setting o.env u o.bindings) o.block) c.requires.term is in
    IfOk-weaker c.term_function.result _ _
    (λ f given. at_item terms c.args.term.0 x _ (λ t. IsFunctionOf c.args.options.now o.files (setting o.env t o.bindings) o.block (function f)) c.requires.term is
    (function_is c.args.options.now o.files (setting o.env x o.bindings) o.block (function f) may.lawful given))
    c.term_function.ensures

pub returns-clause-well_formed : goal.returns-clause-well_formed
returns-clause-well_formed c =
    let o = origin c.args.files.now c.args.typeenv.now c.args.termenv.now c.args.term c.args.rules.now c.args.block.now in
    IfOk-weaker c.term_function.result _ _ (λ f given. is_well_formed c.args.options.now o (function f) c.requires.term given) (returns-clause-emitted c)

pub returns-clause-shape : goal.returns-clause-shape
returns-clause-shape c =
    let o = origin c.args.files.now c.args.typeenv.now c.args.termenv.now c.args.term c.args.rules.now c.args.block.now in
    IfOk-weaker c.term_function.result _ _ (λ f given. is_shaped c.args.options.now o (function f) c.requires.term given) (returns-clause-emitted c)

pub returns-clause-run : goal.returns-clause-run
returns-clause-run c =
    let o = origin c.args.files.now c.args.typeenv.now c.args.termenv.now c.args.term c.args.rules.now c.args.block.now in
    IfOk-weaker c.term_function.result _ _ (λ f given. is_run c.args.options.now o (function f) c.requires.term given) (returns-clause-emitted c)

pub returns-clause-logs : goal.returns-clause-logs
returns-clause-logs c =
    let o = origin c.args.files.now c.args.typeenv.now c.args.termenv.now c.args.term c.args.rules.now c.args.block.now in
    IfOk-weaker c.term_function.result _ _ (λ f given. is_logged c.args.options.now o (function f) c.requires.term given) (returns-clause-emitted c)

pub returns-clause-options : goal.returns-clause-options
returns-clause-options c =
    let o = origin c.args.files.now c.args.typeenv.now c.args.termenv.now c.args.term c.args.rules.now c.args.block.now in
    IfOk-weaker c.term_function.result _ _ (λ f given. is_alike c.args.options.now o (function f) c.requires.term given) (returns-clause-emitted c)
