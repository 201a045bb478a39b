use Rattle.std.proofs.Common.{◌∙◌, ap, sym, subst}
use Rattle.isle_lexer.specs.Lexeme.{lexemes}
use Rattle.isle_answers.specs.Spelling.{SpellsTokens}
use Rattle.isle_answers.specs.Views.{forms_seen}
use Rattle.isle_answers.proofs.Files.{forms_once}
use Rattle.isle_answers.proofs.texts.forms.Goals as goal

pub returns-in_ok-of_tokens-in-Ok-clause-only : goal.returns-in_ok-of_tokens-in-Ok-clause-only
returns-in_ok-of_tokens-in-Ok-clause-only c = λ others s.
    let read = forms_seen c.in_ok-of_tokens-in-Ok.field-0.items in
    forms_once (lexemes c.args.text.now) others read s.tokens (subst (λ ts. SpellsTokens ts read) c.in-Ok.ensures.tokens c.in_ok-of_tokens-in-Ok.ensures.spelt) ∙ ap forms_seen (sym c.new-in-Ok.ensures)
