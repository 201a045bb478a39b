use Rattle.std.proofs.Common.{rules, ◌≡◌, ◌∙◌, ap, sym, None}
use Rattle.std.specs.Option.{option_copied}
use Rattle.isle_core.proofs.Prefixes.{strip_is}
use Rattle.isle_answers.proofs.WordSteps.{name_after_none, name_after_empty, name_after_some}
use Rattle.isle_answers.proofs.words.name_after.Goals as goal

pub returns-in_err-name : goal.returns-in_err-name
returns-in_err-name c =
    let e = strip_is c.args.prefix.now c.args.word.now c.strip_prefix.result c.strip_prefix.ensures.cases in
    let none : c.from_residual.result ≡ None = search rules in
    ap option_copied none ∙ name_after_none c.args.prefix.now c.args.word.now c.strip_prefix.result e (search rules)

pub returns-then-is_empty : goal.returns-then-is_empty
returns-then-is_empty c =
    let e = strip_is c.args.prefix.now c.args.word.now c.strip_prefix.result c.strip_prefix.ensures.cases in
    name_after_empty c.args.prefix.now c.args.word.now c.strip_prefix.result c.in_ok-name.name e c.in_ok-name.was (sym c.is_empty.ensures ∙ c.if-is_empty.true)

pub returns-else-is_empty : goal.returns-else-is_empty
returns-else-is_empty c =
    let e = strip_is c.args.prefix.now c.args.word.now c.strip_prefix.result c.strip_prefix.ensures.cases in
    name_after_some c.args.prefix.now c.args.word.now c.strip_prefix.result c.in_ok-name.name e c.in_ok-name.was (sym c.is_empty.ensures ∙ c.if-is_empty.false)
