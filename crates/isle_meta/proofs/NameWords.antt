-- Names of rows as words of rule texts, for those who show that what is made of them can be written.
use Rattle.std.proofs.Common.{◌≡◌, ℕ, List, [], ◌∷◌, Bool, true, false, refl, sym, ap, ◌∙◌, arith, codes}
use Rattle.std.specs.Prelude.{if◌then◌else◌, slice_index, Some}
use Rattle.std.specs.List.{AllByRecursion, list_all, list_any}
use Rattle.std.specs.Str.{bytes_eq}
use Rattle.std.proofs.lemmas.Bool.{and_parts, and_from}
use Rattle.std.proofs.lemmas.Bool.Decides.{nat_tests}
use Rattle.std.proofs.lemmas.Slice.Eq.{bytes_eq-Decides}
use Rattle.isle_ast.specs.Tree as tree
use Rattle.isle_grammar.specs.Grammar.{IsCall, expr_head}
use Rattle.isle_lexer.specs.Word.{Underscore, Truth, Plain, is_let, symbol_kind}
use Rattle.isle_printer.specs.Token.{is_word_byte}
use Rattle.isle_spelling.specs.Identifier.{IsIdentifier, begins, is_begin, kept_words, used_words}
use Rattle.isle_writing.specs.Writable.{is_plain_byte, AreNames, IsExpr, IsPattern, IsPlain, IsWord, NamesOne}
use Rattle.isle_writing.proofs.Names.{begins_symbol, call_head, names_one, plain_name, plain_variable}

-- ---- what isn't refused is so

pub stable_true : (b : Bool) → ((b ≡ true → ⊥) → ⊥) → b ≡ true
stable_true true h = refl
stable_true false h = absurd (h (λ e. cc))

pub stable_false : (b : Bool) → ((b ≡ false → ⊥) → ⊥) → b ≡ false
stable_false false h = refl
stable_false true h = absurd (h (λ e. cc))

pub stable_identifier : (w : List ℕ) → ((IsIdentifier w → ⊥) → ⊥) → IsIdentifier w
stable_identifier w h =
    record {
      begins = stable_true (begins w) (λ no. h (λ i. no i.begins));
      word = stable_true (list_all is_word_byte w) (λ no. h (λ i. no i.word));
      unused = stable_false (list_any (bytes_eq w) used_words) (λ no. h (λ i. no i.unused));
      free = stable_false (list_any (bytes_eq w) kept_words) (λ no. h (λ i. no i.free));
    }

-- names, one of which would be told to be none
pub stable_identifiers : (ws : List (List ℕ)) → ((AllByRecursion IsIdentifier ws → ⊥) → ⊥) → AllByRecursion IsIdentifier ws
stable_identifiers [] h = tt
stable_identifiers (w ∷ ws) h = (stable_identifier w (λ no. h (λ all. no all.0)), stable_identifiers ws (λ no. h (λ all. no all.1)))

-- ---- words

pub byte_plain : (b : ℕ) → is_word_byte b ≡ true → is_plain_byte b ≡ true
byte_plain b h = grind (arith, nat_tests)

all_plain : (w : List ℕ) → list_all is_word_byte w ≡ true → IsPlain w
all_plain [] h = refl
all_plain (b ∷ w) h = let p = and_parts (is_word_byte b) _ h in and_from _ _ (byte_plain b p.0) (all_plain w p.1)

-- a name of letters, digits and _ that begins as one does is a word
pub begun_word : (w : List ℕ) → begins w ≡ true → list_all is_word_byte w ≡ true → IsWord w
begun_word [] h k = absurd cc
begun_word (b ∷ w) h k = (omega arith, all_plain (b ∷ w) k)

begin_byte : (b : ℕ) → is_begin b ≡ true → begins_symbol b ≡ true
begin_byte b h = grind (arith, nat_tests)

pub begun_symbol : (w : List ℕ) → begins w ≡ true → begins_symbol (slice_index w 0) ≡ true
begun_symbol [] h = absurd cc
begun_symbol (b ∷ w) h = begin_byte b h

-- ---- identifiers

-- an identifier's bytes may stand in a word
pub identifier_plain : (w : List ℕ) → IsIdentifier w → IsPlain w
identifier_plain w i = all_plain w i.word

-- it stands where the grammar has a name
pub identifier_named : (w : List ℕ) → IsIdentifier w → NamesOne w
identifier_named w i = names_one w (begun_word w i.begins i.word) (begun_symbol w i.begins)

-- so do identifiers
pub identifiers_named : (ws : List (List ℕ)) → AllByRecursion IsIdentifier ws → AreNames ws
identifiers_named [] h = tt
identifiers_named (w ∷ ws) h = (identifier_named w h.0, identifiers_named ws h.1)

-- a word that stands in none of these isn't one of them
apart : (w v : List ℕ) (words : List (List ℕ)) → list_any (bytes_eq w) words ≡ false → list_any (bytes_eq v) words ≡ true → bytes_eq w v ≡ false
apart w v words h k = one (bytes_eq w v) refl
  where
    one : (b : Bool) → bytes_eq w v ≡ b → bytes_eq w v ≡ false
    one false e = e
    one true e =
        let same : w ≡ v = (bytes_eq-Decides w v).0 e in
        let no : false ≡ true = sym h ∙ ap (λ u. list_any (bytes_eq u) words) same ∙ k in
        absurd cc

none_of_three : (a b c : Bool) → a ≡ false → b ≡ false → c ≡ false
    → (if a then Underscore else (if b then Truth true else (if c then Truth false else Plain))) ≡ Plain
none_of_three a b c x y z = rw (x, y, z) refl

identifier_symbol : (w : List ℕ) → IsIdentifier w → symbol_kind w ≡ Plain
identifier_symbol w i =
    none_of_three (bytes_eq w (codes "_")) (bytes_eq w (codes "true")) (bytes_eq w (codes "false"))
    (apart w (codes "_") kept_words i.free refl) (apart w (codes "true") used_words i.unused refl) (apart w (codes "false") used_words i.unused refl)

-- it is a variable of patterns
pub identifier_variable : (w : List ℕ) → IsIdentifier w → IsPattern (tree.Var w)
identifier_variable w i = plain_variable w (begun_word w i.begins i.word) (begun_symbol w i.begins) (identifier_symbol w i)

-- and one of expressions
pub identifier_name : (w : List ℕ) → IsIdentifier w → IsExpr (tree.Name w)
identifier_name w i = plain_name w (begun_word w i.begins i.word) (begun_symbol w i.begins) (identifier_symbol w i)

-- ---- terms

-- a word that names a term, in a declaration and in a call
pub record IsTerm (w : List ℕ) : Type 0 where
  pub named : NamesOne w
  pub called : expr_head w ≡ Some (IsCall w)

-- a word that doesn't begin as `let` does
pub term_from : (w : List ℕ) → IsWord w → begins_symbol (slice_index w 0) ≡ true → is_let w ≡ false → IsTerm w
term_from w h k l = record { named = names_one w h k; called = call_head w k l }
