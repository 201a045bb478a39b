use Rattle.std.proofs.Common.{rules, sym, subst}
use Rattle.isle_core.specs.RuleViews.{environment}
use Rattle.isle_core.specs.ValueViews.{values, ran}
use Rattle.isle_values.specs.Views.{seen}
use Rattle.std.specs.String.{string_bytes}
use Rattle.isle_tree.specs.Views.{program}
use Rattle.isle_run.specs.NoLines.{memory}
use Rattle.isle_run.proofs.Refusing.{by_refusal}
use Rattle.isle_trace.specs.Trace.{IsTraceOf}
use Rattle.isle_trace.proofs.TraceLaws.{is_traced}
use Rattle.isle_trace.proofs.program.of_program.Goals as goal

pub returns-in-Err-clause-err : goal.returns-in-Err-clause-err
returns-in-Err-clause-err c options files named checked conforms = memory

pub returns-in-Err-outcome_under-clause-err : goal.returns-in-Err-outcome_under-clause-err
returns-in-Err-outcome_under-clause-err c options files named checked conforms =
    by_refusal options files (environment c.args.checked.now.typeenv c.args.checked.now.termenv) (program c.args.tree.now) c.args.asked.now.term.now (seen c.args.asked.now.given.now) (values c.as_slice.result.now) c.args.asked.now.answers.now
    c.in-Err-outcome_under.e checked conforms (search rules) (search rules)

pub returns-in-Ok-trace_text-clause-ok : goal.returns-in-Ok-trace_text-clause-ok
returns-in-Ok-trace_text-clause-ok c options files named checked conforms =
    is_traced options files (environment c.args.checked.now.typeenv c.args.checked.now.termenv) (program c.args.tree.now) c.args.asked.now.term.now (seen c.args.asked.now.given.now) (values c.as_slice.result.now) c.args.asked.now.answers.now
    (ran c.in-Ok-outcome_under.outcome) (string_bytes c.in-Ok-trace_text.text) checked conforms (search rules) (search rules)
    (subst (λ names. IsTraceOf names (program c.args.tree.now) (ran c.in-Ok-outcome_under.outcome) (string_bytes c.in-Ok-trace_text.text)) (sym named) (search rules))

pub returns-clause-err : goal.returns-clause-err
returns-clause-err c options files named checked conforms = memory
