-- Where a text goes wrong.
use Rattle.std.proofs.Common.{◌≡◌, ℕ, zero, suc, ◌<◌, ◌≤◌, List, [], ◌∷◌, length, drop, Option, Some, None, sym, ◌∙◌, subst, arith}
use Rattle.std.specs.Prelude.{◌-◌}
use Rattle.isle_lexer.specs.Token.{unclosed, IsClosed}
use Rattle.isle_lexer.specs.Lexeme.{Lexeme, lexemes}
use Rattle.isle_lexer.proofs.CommentPlaces.{unclosed_within}
use Rattle.isle_reading.specs.Combinators.{place}
use Rattle.isle_reading.specs.Places.{IsFaultAt, first_place, place_left}
use Rattle.isle_reading.proofs.Faults as faults
use Rattle.isle_ast.specs.Tree.{Def}
use Rattle.isle_grammar.specs.Spelling.{IsFile, Spells, IsTextFault, open_comment, bad_tokens}
use Rattle.isle_grammar.proofs.Within.{Within, lexemes_within}

drop_within : (n k : ℕ) (ts : List Lexeme) → Within n ts → Within n (drop k ts)
drop_within n zero ts h = h
drop_within n (suc k) [] h = tt
drop_within n (suc k) (t ∷ ts) h = drop_within n k ts h.1

first_within : (end : ℕ) (ts : List Lexeme) → Within end ts → first_place ts end ≤ end
first_within end [] h = omega arith
first_within end (t ∷ ts) h = omega (arith, h.0)

tokens_within : (end left : ℕ) (ts : List Lexeme) → Within end ts → place_left ts left end ≤ end
tokens_within end left ts h = first_within end (drop (length ts - left) ts) (drop_within end (length ts - left) ts h)

-- a text goes wrong in it, or at its end
pub fault_within : (file at : ℕ) (text : List ℕ) → IsTextFault file text at → at ≤ length text
fault_within file at text (open_comment e) = omega (arith, unclosed_within text at e)
fault_within file at text (bad_tokens c f) = subst (λ x. x ≤ length text) (sym f.stands) (tokens_within (length text) f.left (lexemes text) (lexemes_within text))

ends_not : (text : List ℕ) (at : ℕ) → unclosed text ≡ Some at → IsClosed text → ⊥
ends_not text at e c = let bad : None ≡ Some at = sym c ∙ e in cc

-- a text that goes wrong spells no definitions
pub fault_unspelt : (file at : ℕ) (text : List ℕ) (defs : List Def) → IsTextFault file text at → Spells file text defs → ⊥
fault_unspelt file at text defs (open_comment e) s = ends_not text at e s.closed
fault_unspelt file at text defs (bad_tokens c f) s = faults.fault_unspelt (IsFile file) (lexemes text) f.left f.fault (defs, s.tokens.definitions) s.tokens.shallow
