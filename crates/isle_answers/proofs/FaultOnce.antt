-- A text goes wrong at one place at most, and nowhere if it spells an answers file.
use Rattle.std.proofs.Common.{◌≡◌, ℕ, List, ap, sym, ◌∙◌, length, Some, None}
use Rattle.isle_lexer.specs.Lexeme.{lexemes}
use Rattle.isle_lexer.specs.Token.{IsClosed, unclosed}
use Rattle.isle_reading.specs.Places.{place_left}
use Rattle.isle_reading.proofs.Faults as faults
use Rattle.isle_answers.specs.Form.{Form}
use Rattle.isle_answers.specs.Places.{AreForms, IsFault, comment, tokens}
use Rattle.isle_answers.specs.Spelling.{SpellsForms}

ends_not : (text : List ℕ) (at : ℕ) → unclosed text ≡ Some at → IsClosed text → ⊥
ends_not text at e c = let x : None ≡ Some at = sym c ∙ e in cc

pub fault_once : (text : List ℕ) (m n : ℕ) → IsFault text m → IsFault text n → m ≡ n
fault_once text m n (comment e) (comment f) = let x : Some m ≡ Some n = sym e ∙ f in cc
fault_once text m n (comment e) (tokens c f) = absurd (ends_not text m e c)
fault_once text m n (tokens c f) (comment e) = absurd (ends_not text n e c)
fault_once text m n (tokens c f) (tokens d g) =
    f.stands ∙ ap (λ k. place_left (lexemes text) k (length text)) (faults.fault_once AreForms (lexemes text) f.left g.left f.fault g.fault) ∙ sym g.stands

pub fault_unspelt : (text : List ℕ) (at : ℕ) (forms : List Form) → IsFault text at → SpellsForms text forms → ⊥
fault_unspelt text at forms (comment e) s = ends_not text at e s.closed
fault_unspelt text at forms (tokens c f) s = faults.fault_unspelt AreForms (lexemes text) f.left f.fault (forms, s.tokens.spelt) s.tokens.shallow
