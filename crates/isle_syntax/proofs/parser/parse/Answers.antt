use Rattle.std.proofs.Common.{◌≡◌, ℕ, List, length, sym, subst, ◌∙◌, None, Some, rules}
use Rattle.isle_lexer.specs.Lexer.{lexer_file, lexer_text}
use Rattle.isle_lexer.specs.Lexeme.{lexemes}
use Rattle.isle_lexer.specs.Token.{IsClosed}
use Rattle.isle_reading.specs.Places.{IsFaultAt}
use Rattle.isle_grammar.specs.Spelling.{IsFile, IsTextFault, open_comment, bad_tokens}
use Rattle.isle_syntax.proofs.parser.parse.Goals as goal

-- where each comment ends, the tokens go wrong
of_closed : (file at : ℕ) (text : List ℕ) → IsClosed text → IsTextFault file text at → IsFaultAt (IsFile file) (lexemes text) (length text) at
of_closed file at text closed (open_comment e) = absurd (let y : None ≡ Some at = sym closed ∙ e in cc)
of_closed file at text closed (bad_tokens c fault) = fault

pub returns-clause-fault : goal.returns-clause-fault
returns-clause-fault c = λ at m e.
    let x = c.parse_text.ensures.fault at m e in
    let file : c.file.result ≡ lexer_file c.args.lexer = search rules in
    let text : c.text.result.now ≡ lexer_text c.args.lexer = search rules in
    (x.0 ∙ file, of_closed _ at.offset _ c.args.lexer.closed (subst (λ f. IsTextFault f (lexer_text c.args.lexer) at.offset) file (subst (λ t. IsTextFault c.file.result t at.offset) text x.1)))
