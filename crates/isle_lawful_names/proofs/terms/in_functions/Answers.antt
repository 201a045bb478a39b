use Rattle.std.proofs.Common.{◌∙◌, sym}
use Rattle.std.proofs.lemmas.Result.{IfOk-weaker}
use Rattle.isle_lawful_names.specs.Claims.{functions_of}
use Rattle.isle_lawful_names.specs.Functions.{texts_of}
use Rattle.isle_lawful_names.proofs.TermSteps.{functions_split, functions_first, functions_then}
use Rattle.isle_lawful_names.proofs.terms.in_functions.Goals as goal

pub returns-then-is_some : goal.returns-then-is_some
returns-then-is_some c = λ env same.
    let types = c.args.types.now in
    let t = c.args.term.now in
    functions_first env (texts_of types c.extracted-taker.result) (texts_of types c.maker-maker.result) (functions_of env t) c.args.names.now c.function_found.new.names c.in_ok-found.found
    (functions_split env types t c.extracted-taker.result c.maker-maker.result same c.extracted-taker.ensures c.maker-maker.ensures) (c.in_ok-found.ensures env) (sym c.is_some.ensures ∙ c.if-is_some.true)

pub returns : goal.returns
returns c = λ env same.
    let types = c.args.types.now in
    let t = c.args.term.now in
    IfOk-weaker c.function_found-2.result _ _
    (λ found k. functions_then env (texts_of types c.extracted-taker.result) (texts_of types c.maker-maker.result) (functions_of env t) c.args.names.now c.function_found.new.names c.function_found-2.new.names c.in_ok-found.found found
    (functions_split env types t c.extracted-taker.result c.maker-maker.result same c.extracted-taker.ensures c.maker-maker.ensures) (c.in_ok-found.ensures env) (sym c.is_some.ensures ∙ c.if-is_some.false) k) (c.function_found-2.ensures env)
