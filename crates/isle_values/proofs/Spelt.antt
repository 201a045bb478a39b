-- What a text spells is decided.
use Rattle.std.proofs.Common.{◌≡◌, ℕ, List, Bool, true, false, ◌&&◌, Option, Some, None, refl, ap, ◌∙◌}
use Rattle.std.specs.Prelude.{codes, is_none, if◌then◌else◌}
use Rattle.std.specs.Str.{is_utf8, chars}
use Rattle.std.proofs.lemmas.Str.{IsUtf8-from_is_utf8, is_utf8-from_IsUtf8}
use Rattle.isle_lexer.specs.Lexeme.{lexemes}
use Rattle.isle_reading.specs.Reader.{Reading, Got, Stuck, Deep, run, bind}
use Rattle.isle_reading.specs.Combinators.{read_open, read_close, many}
use Rattle.isle_lexer.specs.Token.{step, unclosed}
use Rattle.isle_values.specs.Written.{Written, Writtens, NoValue}
use Rattle.isle_values.specs.Spelling.{SpellsValues}
use Rattle.isle_values.specs.Reading.{values_of, read_value, read_list, read_whole, got, spelt}
use Rattle.isle_values.proofs.Lists.{values_sound, values_complete}

none_open : (o : Option ℕ) → is_none o ≡ true → o ≡ None
none_open None e = refl
none_open (Some n) e = cc

-- what is decided is true
abbrev pub IsSpelt : Option Writtens → List ℕ → Type 0
IsSpelt (Some vs) text = SpellsValues text vs
IsSpelt None text = Unit {0}

pub spelt_is : (text : List ℕ) → IsSpelt (spelt text) text
unfolding spelt
spelt_is text = by (is_utf8 text) (is_none (unclosed text)) (values_of (lexemes text)) refl refl refl
  where
    by : (a b : Bool) (r : Reading (List Written)) → is_utf8 text ≡ a → is_none (unclosed text) ≡ b → values_of (lexemes text) ≡ r → IsSpelt (if a && b then got r else None) text
    by true true (Got vs rest) e f g = record {
      utf8 = IsUtf8-from_is_utf8 text e;
      closed = none_open (unclosed text) f;
      shallow = (values_sound (lexemes text) rest vs g).1;
      values = (values_sound (lexemes text) rest vs g).0;
    }
    by true true (Stuck rest) e f g = tt
    by true true (Deep rest) e f g = tt
    by true false r e f g = tt
    by false b r e f g = tt

pub spelt_again : (text : List ℕ) (vs : Writtens) → SpellsValues text vs → spelt text ≡ Some vs
unfolding spelt
spelt_again text vs h =
    let x = values_complete (lexemes text) vs h.shallow h.values in
    let a : is_utf8 text ≡ true = is_utf8-from_IsUtf8 text h.utf8 in
    let b : is_none (unclosed text) ≡ true = ap is_none h.closed in
    (λ k. if a k && b k then got (x.2 k) else None) ∙ ap (λ z. Some z) x.1

-- if no values are spelt, none are decided
pub spelt_none : (text : List ℕ) → ((vs : Writtens) → SpellsValues text vs → ⊥) → spelt text ≡ None
spelt_none text h = by (spelt text) (spelt_is text)
  where
    by : (o : Option Writtens) → IsSpelt o text → o ≡ None
    by None s = refl
    by (Some vs) s = absurd (h vs s)

-- the shortest text that spells values
pub empty_list : spelt (codes "()") ≡ Some NoValue
unfolding spelt is_utf8 chars lib.Utf8.encode step run bind read_open read_close many read_value read_list read_whole
empty_list = refl
