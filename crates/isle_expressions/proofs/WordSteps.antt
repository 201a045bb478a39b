-- The steps of words.
use Rattle.std.proofs.Common.{◌≡◌, ℕ, List, [], ◌∷◌, refl, Option}
use Rattle.std.specs.Prelude.{option_map}
use Rattle.isle_lexer.specs.Lexeme.{Lexeme, Open, Close, At, Less, Greater, Word}
use Rattle.isle_reading.specs.Combinators.{next_word}
use Rattle.isle_reading.proofs.Steps.{optional_got, optional_other, optional_stops}

-- what a word that gives something mapped gives
pub mapped_word : {A B : Type 0} (g : A → B) (f : List ℕ → Option A) (ts : List Lexeme) → next_word (λ w. option_map g (f w)) ts ≡ option_map g (next_word f ts)
mapped_word g f [] = refl
mapped_word g f (Open n ∷ ts) = refl
mapped_word g f (Close n ∷ ts) = refl
mapped_word g f (At n ∷ ts) = refl
mapped_word g f (Less n ∷ ts) = refl
mapped_word g f (Greater n ∷ ts) = refl
mapped_word g f (Word n w ∷ ts) = refl

pub ruleset rule_names = (mapped_word, optional_got, optional_other, optional_stops)
