use Rattle.std.proofs.Common.{◌≡◌, ◌∙◌, ap, sym, subst, Some}
use Rattle.isle_lexer.specs.Lexeme.{lexemes}
use Rattle.isle_reading.specs.Views.{left, Refuses, stops}
use Rattle.isle_values.specs.Reading.{values_of}
use Rattle.isle_values.specs.Spelling.{ListS}
use Rattle.isle_values.specs.Views.{seen}
use Rattle.isle_values.proofs.Lists.{values_once, values_refused}
use Rattle.isle_values.proofs.texts.values.Goals as goal

pub returns-in-Ok-listed-clause-only : goal.returns-in-Ok-listed-clause-only
returns-in-Ok-listed-clause-only c = λ others s.
    let vs = seen c.in-Ok-listed.read.items in
    values_once (lexemes c.args.text.now) others vs s.shallow s.values (subst (ListS vs) c.in-Ok.ensures.tokens c.in-Ok-listed.ensures.got.0) ∙ ap seen (sym c.new-in-Ok-listed.ensures)

pub returns-in-Err-At-clause-none : goal.returns-in-Err-At-clause-none
returns-in-Err-At-clause-none c = λ e others s.
    let refused : stops (values_of (left c.in-Ok.tokens)) ≡ Some c.in-Err-At.field-0-0 =
    subst (λ fail. Refuses fail (values_of (left c.in-Ok.tokens))) c.in-Err-At.field-0-is c.in-Err-At.ensures.refused in
    values_refused c.in-Err-At.field-0-0 (lexemes c.args.text.now) others (subst (λ ts. stops (values_of ts) ≡ Some c.in-Err-At.field-0-0) c.in-Ok.ensures.tokens refused) s.shallow s.values
