-- Names of rows as words of rule texts: those that are put together of them.
use Rattle.std.proofs.Common.{◌≡◌, ℕ, ◌+◌, List, [], ◌∷◌, ◌++◌, map, Bool, true, false, Some, refl, arith, codes, cond, nat_lt}
use Rattle.std.specs.Prelude.{slice_index}
use Rattle.std.specs.Char.{to_ascii_lowercase}
use Rattle.std.specs.List.{list_all}
use Rattle.std.proofs.lemmas.Bool.{and_parts, and_from}
use Rattle.std.proofs.lemmas.Bool.Decides.{nat_tests}
use Rattle.isle_grammar.specs.Grammar.{IsCall, expr_head}
use Rattle.isle_lexer.specs.Word.{is_let}
use Rattle.isle_meta.proofs.NameWords.{byte_plain, identifier_plain}
use Rattle.isle_printer.specs.Token.{is_word_byte}
use Rattle.isle_spelling.specs.Identifier.{IsIdentifier}
use Rattle.isle_writing.specs.Writable.{is_plain_byte, IsPlain, IsWord, NamesOne}
use Rattle.isle_writing.proofs.Names.{begins_symbol, call_head, names_one, word_joined}
use Rattle.isle_pulley.specs.Places.{temporary, written}

-- ---- words that are put together

-- the type of a place
pub written_named : (ty : List ℕ) → IsIdentifier ty → NamesOne (written ty)
unfolding written
written_named ty i = names_one (codes "Writable" ++ ty) (word_joined (codes "Writable") ty (omega arith, refl) (identifier_plain ty i)) refl

-- the term of an operation
pub term_named : (snake : List ℕ) → IsIdentifier snake → NamesOne (codes "pulley_" ++ snake)
term_named snake i = names_one (codes "pulley_" ++ snake) (word_joined (codes "pulley_") snake (omega arith, refl) (identifier_plain snake i)) refl

lower_byte : (b : ℕ) → is_word_byte b ≡ true → is_plain_byte (to_ascii_lowercase b) ≡ true
lower_byte b h = one (nat_lt b 65) (nat_lt b 91) refl refl
  where
    one : (s t : Bool) → nat_lt b 65 ≡ s → nat_lt b 91 ≡ t → is_plain_byte (cond s b (cond t (b + 32) b)) ≡ true
    one true t e k = byte_plain b h
    one false true e k = grind (arith, nat_tests)
    one false false e k = byte_plain b h

lower_plain : (w : List ℕ) → list_all is_word_byte w ≡ true → IsPlain (map to_ascii_lowercase w)
lower_plain [] h = refl
lower_plain (b ∷ w) h = let p = and_parts (is_word_byte b) _ h in and_from _ _ (lower_byte b p.0) (lower_plain w p.1)

-- ---- terms of expressions

-- a word that calls a term
pub record IsCaller (w : List ℕ) : Type 0 where
  pub word : IsWord w
  pub made : expr_head w ≡ Some (IsCall w)

-- a word that doesn't begin as `let` does
pub caller_from : (w : List ℕ) → IsWord w → begins_symbol (slice_index w 0) ≡ true → is_let w ≡ false → IsCaller w
caller_from w h k l = record { word = h; made = call_head w k l }

pub temporary_calls : (ty : List ℕ) → IsIdentifier ty → IsCaller (temporary ty)
unfolding temporary
temporary_calls ty i =
    caller_from (codes "temp_writable_" ++ map to_ascii_lowercase ty) (word_joined (codes "temp_writable_") (map to_ascii_lowercase ty) (omega arith, refl) (lower_plain ty i.word)) refl refl

pub instruction_calls : (name : List ℕ) → IsIdentifier name → IsCaller (codes "RawInst." ++ name)
instruction_calls name i = caller_from (codes "RawInst." ++ name) (word_joined (codes "RawInst.") name (omega arith, refl) (identifier_plain name i)) refl refl
