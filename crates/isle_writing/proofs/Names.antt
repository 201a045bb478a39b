-- Words that stand where the grammar has a name: for those who show that definitions can be written.
use Rattle.std.proofs.Common.{◌≡◌, ℕ, List, [], ◌∷◌, ◌++◌, length-append, arith, Bool, true, false, Some, refl, ap, ◌∙◌}
use Rattle.std.specs.Prelude.{◌==◌, ◌||◌, not, if◌then◌else◌, option_map, slice_index, drop, bytes_eq, codes, None}
use Rattle.isle_lexer.specs.Integer.{is_decimal, int_of}
use Rattle.isle_lexer.specs.Word.{Dollar, Truth, Underscore, Plain, number_kind, symbol_kind, kind, names, IsName, is_let}
use Rattle.std.proofs.lemmas.Bool.{and_parts, and_from}
use Rattle.isle_printer.specs.Number.{numeral}
use Rattle.isle_reading.specs.Names.{name_of}
use Rattle.isle_ast.specs.Tree as tree
use Rattle.isle_grammar.specs.Grammar.{pattern_of, IsAnd, IsTerm, pattern_head, expr_of, IsLet, IsCall, expr_head}
use Rattle.isle_writing.specs.Writable.{is_plain_byte, IsPlain, IsWord, NamesOne, IsPattern, IsExpr}
use Rattle.isle_writing.proofs.Apart.{numeral_word}

-- a byte that begins a symbol without `$`: no digit, - or $
abbrev pub begins_symbol : ℕ → Bool
begins_symbol b = not ((is_decimal b || (b == 45)) || (b == 36))

-- what such a word is
pub symbol_kind_is : (w : List ℕ) → begins_symbol (slice_index w 0) ≡ true → kind w ≡ symbol_kind w
unfolding kind
symbol_kind_is w h = by (is_decimal (slice_index w 0) || (slice_index w 0 == 45)) (slice_index w 0 == 36) h
  where
    by : (a b : Bool) → not (a || b) ≡ true → (if a then number_kind (int_of w) else (if b then Dollar (drop 1 w) else symbol_kind w)) ≡ symbol_kind w
    by true b k = absurd cc
    by false true k = absurd cc
    by false false k = refl

names_all : (a b c : Bool) → names (if a then Underscore else (if b then Truth true else (if c then Truth false else Plain))) ≡ true
names_all true b c = refl
names_all false true c = refl
names_all false false true = refl
names_all false false false = refl

-- it is a name
pub symbol_name : (w : List ℕ) → begins_symbol (slice_index w 0) ≡ true → IsName w
symbol_name w h = ap names (symbol_kind_is w h) ∙ names_all (bytes_eq w (codes "_")) (bytes_eq w (codes "true")) (bytes_eq w (codes "false"))

pub names_one : (w : List ℕ) → IsWord w → begins_symbol (slice_index w 0) ≡ true → NamesOne w
names_one w h k = (h, symbol_name w k)

-- a variable of patterns, which is not _, true or false
pub plain_variable : (w : List ℕ) → IsWord w → begins_symbol (slice_index w 0) ≡ true → symbol_kind w ≡ Plain → IsPattern (tree.Var w)
plain_variable w h k e = (h, ap (pattern_of w) (symbol_kind_is w k ∙ e))

-- a variable of expressions
pub plain_name : (w : List ℕ) → IsWord w → begins_symbol (slice_index w 0) ≡ true → symbol_kind w ≡ Plain → IsExpr (tree.Name w)
plain_name w h k e = (h, ap (expr_of w) (symbol_kind_is w k ∙ e))

name_is : (w : List ℕ) → IsName w → name_of w ≡ Some w
name_is w h = ap (λ (b : Bool). if b then Some w else None) h

-- a term of patterns, which is not `and`
pub term_head : (w : List ℕ) → begins_symbol (slice_index w 0) ≡ true → bytes_eq w (codes "and") ≡ false → pattern_head w ≡ Some (IsTerm w)
term_head w h e =
    ap (λ (b : Bool). if b then Some IsAnd else option_map (λ name. IsTerm name) (name_of w)) e
    ∙ ap (option_map (λ name. IsTerm name)) (name_is w (symbol_name w h))

-- a term of expressions, which is not `let`
pub call_head : (w : List ℕ) → begins_symbol (slice_index w 0) ≡ true → is_let w ≡ false → expr_head w ≡ Some (IsCall w)
call_head w h e =
    ap (λ (b : Bool). if b then Some IsLet else option_map (λ name. IsCall name) (name_of w)) e
    ∙ ap (option_map (λ name. IsCall name)) (name_is w (symbol_name w h))

-- ---- words that are put together

pub plain_joined : (v w : List ℕ) → IsPlain v → IsPlain w → IsPlain (v ++ w)
plain_joined [] w h k = k
plain_joined (b ∷ v) w h k = let p = and_parts (is_plain_byte b) _ h in and_from _ _ p.0 (plain_joined v w p.1 k)

-- what a word begins is one
pub word_joined : (v w : List ℕ) → IsWord v → IsPlain w → IsWord (v ++ w)
word_joined v w h k = (omega (arith, h.0, length-append v w), plain_joined v w h.1 k)

-- a number in decimal
pub numeral_plain : (n : ℕ) → IsPlain (numeral 10 n)
numeral_plain n = (numeral_word n).1
