use Rattle.std.proofs.Common.{◌≡◌, ap, ◌∙◌, Err}
use Rattle.isle_reading.specs.Views.{left}
use Rattle.isle_reading.proofs.Faults.{fault_unspelt}
use Rattle.isle_syntax.specs.declared.parser.ParseFail.TheVariants as fail
use Rattle.isle_grammar.specs.Spelling.{IsFile}
use Rattle.isle_grammar.proofs.Files.{file_once}
use Rattle.isle_syntax.proofs.parser.of_tokens.Goals as goal

pub returns-in-Ok-clause-only : goal.returns-in-Ok-clause-only
returns-in-Ok-clause-only c = λ others s. file_once c.args.file (left c.args.tokens.now) others _ s.shallow s.definitions c.in-Ok.ensures.spelt.0

pub returns-in-Err-At-clause-fault : goal.returns-in-Err-At-clause-fault
returns-in-Err-At-clause-fault c = λ at m e.
    let fault = c.definitions.ensures.fault c.in-Err-At.count (c.in-Err-At.is ∙ ap Err c.in-Err-At.field-0-is) in
    let same : c.fail_at.result ≡ fail.At at m = cc (e) in
    let x = c.fail_at.ensures at m same in
    (x.0, record { left = c.in-Err-At.count; fault = fault; stands = x.1 })

pub returns-in-Err-At-clause-none : goal.returns-in-Err-At-clause-none
returns-in-Err-At-clause-none c = λ at m e others s.
    let fault = c.definitions.ensures.fault c.in-Err-At.count (c.in-Err-At.is ∙ ap Err c.in-Err-At.field-0-is) in
    fault_unspelt (IsFile c.args.file) (left c.args.tokens.now) c.in-Err-At.count fault (others, s.definitions) s.shallow
