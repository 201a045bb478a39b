use Rattle.std.proofs.Common.{◌≡◌, ◌∙◌, ap, sym, length}
use Rattle.std.proofs.lemmas.List.{length-map}
use Rattle.isle_lexer.specs.Ahead.{ahead}
use Rattle.isle_lexer.specs.Lexeme.{lexeme, lexemes}
use Rattle.isle_lexer.specs.Token.{tokens_of}
use Rattle.isle_lexer.proofs.Boundaries.{first_cut}
use Rattle.isle_lexer.proofs.Coming.{all_from}
use Rattle.isle_reading.proofs.cursor.Tokens.new.Goals as goal

pub token_from-requires : goal.token_from-requires
token_from-requires c = first_cut c.args.text.now c.utf8.text

pub invariant_of-result-clause-counted : goal.invariant_of-result-clause-counted
invariant_of-result-clause-counted c =
    let all : ahead c.args.text.now c.token_from.result ≡ lexemes c.args.text.now = c.token_from.ensures.tokens ∙ all_from c.args.text.now in
    c.counted-len.ensures.count ∙ sym (length-map (tokens_of c.args.text.now) (lexeme c.args.text.now)) ∙ ap length (sym all)

pub returns-in-None-clause-tokens : goal.returns-in-None-clause-tokens
returns-in-None-clause-tokens c = c.token_from.ensures.tokens ∙ all_from c.args.text.now
