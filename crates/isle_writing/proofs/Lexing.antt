-- The tokens of a text that is made of pieces are theirs.
use Rattle.std.proofs.Common.{◌≡◌, ◌≢◌, ℕ, suc, ◌+◌, ◌-◌, ◌<◌, List, [], ◌∷◌, ◌++◌, length, take, drop, get_or, map, Bool, true, false, None, refl, sym, ap, subst, ap₂, ◌∙◌, arith}
use Rattle.std.specs.Prelude.{◌==◌, ◌||◌, not, if◌then◌else◌, slice_range}
use Rattle.std.specs.List.{list_all}
use Rattle.std.proofs.lemmas.List.{get_or-drop, length-drop, drop-drop, drop_at, take_at}
use Rattle.std.proofs.lemmas.Bool.{and_parts, and_from, ne_eqb, true≢false}
use Rattle.std.proofs.lemmas.Bool.Decides.{nat_tests}
use Rattle.isle_lexer.specs.declared.token.Tok.{Tok}
use Rattle.isle_lexer.specs.Token.{State, Between, InWord, AfterOpen, AfterSingle, InLine, is_blank, is_single, is_word_byte, begun, coming, Coming, IsClosed}
use Rattle.isle_lexer.specs.Lexeme.{Lexeme, Open, Close, At, Less, Greater, Word, lexeme, lexemes}
use Rattle.isle_lexer.proofs.Coming.{before, begins_here, single_here, open_here, word_more, word_ends, at_end, whole}
use Rattle.isle_writing.specs.Writable.{is_plain_byte}
use Rattle.isle_writing.specs.Writable as writable
use Rattle.isle_writing.proofs.Pieces.{Piece, Blank, Opens, Closes, Sign, Spelt, bytes_of, lexemes_at, ends_word, AreApart}

-- one byte or more, each of which may stand in a word
abbrev IsWord : List ℕ → Type 0
IsWord word = (0 < length word) × (list_all is_word_byte word ≡ true)

all_word : (w : List ℕ) → list_all is_plain_byte w ≡ true → list_all is_word_byte w ≡ true
all_word [] h = refl
all_word (b ∷ w) h =
    let parts = and_parts (is_plain_byte b) _ h in
    and_from _ _ (and_parts (is_word_byte b) _ parts.0).0 (all_word w parts.1)

plain_word : (w : List ℕ) → writable.IsWord w → IsWord w
plain_word w h = (h.0, all_word w h.1)

-- ---- bytes from a place on

inside : (text : List ℕ) (at b : ℕ) (rest : List ℕ) → drop at text ≡ b ∷ rest → at < length text
inside text at b rest e =
    let left : length (drop at text) ≡ length text - at = length-drop at text in
    let more : length (drop at text) ≡ suc (length rest) = ap length e in
    omega (arith, left, more)

front : (text : List ℕ) (at b : ℕ) (rest : List ℕ) → drop at text ≡ b ∷ rest → b ≡ get_or text at 0
front text at b rest e =
    let here : at + 0 ≡ at = omega arith in
    sym (ap (λ bs. get_or bs 0 0) e) ∙ get_or-drop at text 0 0 ∙ ap (λ k. get_or text k 0) here

-- what stands after some bytes
bytes_after : (text : List ℕ) (at : ℕ) (w rest : List ℕ) → drop at text ≡ w ++ rest
    → drop (at + length w) text ≡ rest
bytes_after text at w rest e =
    sym (drop-drop (length w) at text) ∙ ap (drop (length w)) e ∙ drop_at w rest (length w) refl

next_one : (text : List ℕ) (at b : ℕ) (rest : List ℕ) → drop at text ≡ b ∷ rest → drop (at + 1) text ≡ rest
next_one text at b rest e = bytes_after text at (b ∷ []) rest e

-- ---- what a byte begins

-- what a byte of these four kinds, or of another, begins
abbrev state_by : (at : ℕ) (l s o c : Bool) → State
state_by at l s o c =
    if l then Between
    else (if o then AfterOpen at
    else (if c then InLine
    else (if s then AfterSingle at
    else InWord at)))

word_state : (at : ℕ) (l s o c : Bool) → not (l || s || o || c) ≡ true → state_by at l s o c ≡ InWord at
word_state at false false false false h = refl
word_state at true s o c h = absurd cc
word_state at false true o c h = absurd cc
word_state at false false true c h = absurd cc
word_state at false false false true h = absurd cc

begun_word : (at b : ℕ) → is_word_byte b ≡ true → begun at b ≡ InWord at
begun_word at b h = word_state at (is_blank b) (is_single b) (b == 40) (b == 59) h

begun_blank : (at b : ℕ) → is_blank b ≡ true → begun at b ≡ Between
begun_blank at b h = ap (λ l. state_by at l (is_single b) (b == 40) (b == 59)) h

blank_no_semicolon : (b : ℕ) → is_blank b ≡ true → (b == 59) ≡ false
blank_no_semicolon b h = grind (arith, nat_tests)

blank_no_word : (b : ℕ) → is_blank b ≡ true → is_word_byte b ≡ false
blank_no_word b h = grind (arith, nat_tests)

word_no_semicolon : (b : ℕ) → is_word_byte b ≡ true → (b == 59) ≡ false
word_no_semicolon b h = grind (arith, nat_tests)

unequal : (b c : ℕ) → (b == c) ≡ false → b ≢ c
unequal b c h = λ e. grind (arith, nat_tests)

-- ---- a token by its first byte

-- the token that begins with this byte at a place, and has these bytes if it is a word
abbrev by_first : (first at : ℕ) (word : List ℕ) → Lexeme
by_first first at word =
    if first == 40 then Open at
    else (if first == 41 then Close at
    else (if first == 64 then At at
    else (if first == 60 then Less at
    else (if first == 62 then Greater at
    else Word at word))))

word_apart : (b c : ℕ) → is_word_byte b ≡ true → is_word_byte c ≡ false → (b == c) ≡ false
word_apart b c h k = ne_eqb b c (λ e. true≢false (sym h ∙ ap is_word_byte e ∙ k))

word_first : (b at : ℕ) (word : List ℕ) → is_word_byte b ≡ true → by_first b at word ≡ Word at word
word_first b at word h =
    let other : (c : ℕ) → is_word_byte c ≡ false → (b == c) ≡ false = λ c k. word_apart b c h k in
    rw (other 40 refl, other 41 refl, other 64 refl, other 60 refl, other 62 refl) refl

-- a token of a text, by the byte that stands there
lexeme_here : (text : List ℕ) (at to b : ℕ) (rest : List ℕ) → drop at text ≡ b ∷ rest
    → lexeme text (record { from = at; to = to }) ≡ by_first b at (slice_range text at to)
lexeme_here text at to b rest e = ap (λ c. by_first c at (slice_range text at to)) (sym (front text at b rest e))

bytes_here : (text : List ℕ) (at : ℕ) (w rest : List ℕ) → drop at text ≡ w ++ rest
    → slice_range text at (at + length w) ≡ w
bytes_here text at w rest e =
    let long : at + length w - at ≡ length w = omega arith in
    ap (λ n. take n (drop at text)) long ∙ ap (take (length w)) e ∙ take_at w rest (length w) refl

-- ---- what pieces stand for

-- from a place on the text has these tokens, and no comment begins there that never ends
record Reads (text : List ℕ) (at : ℕ) (ls : List Lexeme) : Type 0 where
  tokens : map (lexeme text) (coming text Between at).tokens ≡ ls
  closed : (coming text Between at).unclosed ≡ None

nothing_read : (text : List ℕ) (at : ℕ) → drop at text ≡ [] → Reads text at []
nothing_read text at e =
    let left : length (drop at text) ≡ length text - at = length-drop at text in
    let none_left : length (drop at text) ≡ 0 = ap length e in
    let ends = at_end text at Between (omega (arith, left, none_left)) in
    record {
      tokens = ap (λ (c : Coming). map (lexeme text) c.tokens) ends;
      closed = ap (λ (c : Coming). c.unclosed) ends;
    }

blank_read : (text : List ℕ) (at mid : ℕ) (ls : List Lexeme)
    → coming text Between at ≡ coming text Between mid → Reads text mid ls → Reads text at ls
blank_read text at mid ls e h = record {
  tokens = ap (λ (c : Coming). map (lexeme text) c.tokens) e ∙ h.tokens;
  closed = ap (λ (c : Coming). c.unclosed) e ∙ h.closed;
}

token_read : (text : List ℕ) (at mid : ℕ) (tok : Tok) (l : Lexeme) (ls : List Lexeme)
    → coming text Between at ≡ before (tok ∷ []) (coming text Between mid) → lexeme text tok ≡ l
    → Reads text mid ls → Reads text at (l ∷ ls)
token_read text at mid tok l ls e is h = record {
  tokens = ap (λ (c : Coming). map (lexeme text) c.tokens) e ∙ ap₂ (λ x xs. x ∷ xs) is h.tokens;
  closed = ap (λ (c : Coming). c.unclosed) e ∙ h.closed;
}

-- ---- piece by piece

-- a token of a text stands from one place to another, and no other up to there
abbrev Stands : List ℕ → ℕ → ℕ → Type 0
Stands text at end = coming text Between at ≡ before (record { from = at; to = end } ∷ []) (coming text Between end)

blank_here : (text : List ℕ) (at b : ℕ) (rest : List ℕ) → is_blank b ≡ true → drop at text ≡ b ∷ rest
    → coming text Between at ≡ coming text Between (at + 1)
blank_here text at b rest h e =
    let blank : is_blank (get_or text at 0) ≡ true = subst (λ c. is_blank c ≡ true) (front text at b rest e) h in
    begins_here text at Between (inside text at b rest e) (begun_blank at (get_or text at 0) blank)

sign_here : (text : List ℕ) (at : ℕ) (rest : List ℕ) → drop at text ≡ 64 ∷ rest → Stands text at (at + 1)
sign_here text at rest e =
    single_here text at (inside text at 64 rest e) (ap (begun at) (sym (front text at 64 rest e)))

last_here : (text : List ℕ) (at : ℕ) → drop at text ≡ 40 ∷ [] → Stands text at (at + 1)
last_here text at e =
    let left : length (drop at text) ≡ length text - at = length-drop at text in
    let one_left : length (drop at text) ≡ 1 = ap length e in
    open_here text at (inside text at 40 [] e) (ap (begun at) (sym (front text at 40 [] e)))
    (λ l. absurd (omega (arith, left, one_left, l)))

close_here : (text : List ℕ) (at : ℕ) (rest : List ℕ) → drop at text ≡ 41 ∷ rest → Stands text at (at + 1)
close_here text at rest e =
    single_here text at (inside text at 41 rest e) (ap (begun at) (sym (front text at 41 rest e)))

opening_here : (text : List ℕ) (at b : ℕ) (rest : List ℕ) → (b == 59) ≡ false → drop at text ≡ 40 ∷ b ∷ rest
    → Stands text at (at + 1)
opening_here text at b rest h e =
    open_here text at (inside text at 40 (b ∷ rest) e) (ap (begun at) (sym (front text at 40 (b ∷ rest) e)))
    (λ l. subst (λ c. c ≢ 59) (front text (at + 1) b rest (next_one text at 40 (b ∷ rest) e)) (unequal b 59 h))

front_word : (text : List ℕ) (at b : ℕ) (rest : List ℕ) (answer : Bool) → is_word_byte b ≡ answer
    → drop at text ≡ b ∷ rest → is_word_byte (get_or text at 0) ≡ answer
front_word text at b rest answer h e = subst (λ c. is_word_byte c ≡ answer) (front text at b rest e) h

word_goes : (text : List ℕ) (from at : ℕ) (w rest : List ℕ) → list_all is_word_byte w ≡ true → drop at text ≡ w ++ rest
    → coming text (InWord from) at ≡ coming text (InWord from) (at + length w)
word_goes text from at [] rest h e =
    let here : at ≡ at + length {A = ℕ} [] = omega arith in
    ap (coming text (InWord from)) here
word_goes text from at (b ∷ w) rest h e =
    let parts = and_parts (is_word_byte b) _ h in
    let further : at + 1 + length w ≡ at + length (b ∷ w) = omega arith in
    word_more text from at (inside text at b (w ++ rest) e) (front_word text at b (w ++ rest) true parts.0 e)
    ∙ word_goes text from (at + 1) w rest parts.1 (next_one text at b (w ++ rest) e)
    ∙ ap (coming text (InWord from)) further

word_here : (text : List ℕ) (at : ℕ) (w : List ℕ) (c : ℕ) (rest : List ℕ) → IsWord w → is_word_byte c ≡ false
    → drop at text ≡ w ++ c ∷ rest → Stands text at (at + length w)
word_here text at [] c rest h k e = absurd (omega (arith, h.0))
word_here text at (b ∷ w) c rest h k e =
    let end : ℕ = at + length (b ∷ w) in
    let parts = and_parts (is_word_byte b) _ h.1 in
    let starts : is_word_byte (get_or text at 0) ≡ true = front_word text at b (w ++ c ∷ rest) true parts.0 e in
    let further : at + 1 + length w ≡ end = omega arith in
    let last : drop end text ≡ c ∷ rest = bytes_after text at (b ∷ w) (c ∷ rest) e in
    begins_here text at (InWord at) (inside text at b (w ++ c ∷ rest) e) (begun_word at (get_or text at 0) starts)
    ∙ word_goes text at (at + 1) w (c ∷ rest) parts.1 (next_one text at b (w ++ c ∷ rest) e)
    ∙ ap (coming text (InWord at)) further
    ∙ word_ends text at end (inside text end c rest last) (front_word text end c rest false k last)

word_lexeme : (text : List ℕ) (at : ℕ) (w rest : List ℕ) → IsWord w → drop at text ≡ w ++ rest
    → lexeme text (record { from = at; to = at + length w }) ≡ Word at w
word_lexeme text at [] rest h e = absurd (omega (arith, h.0))
word_lexeme text at (b ∷ w) rest h e =
    let end : ℕ = at + length (b ∷ w) in
    let parts = and_parts (is_word_byte b) _ h.1 in
    lexeme_here text at end b (w ++ rest) e ∙ word_first b at (slice_range text at end) parts.0
    ∙ ap (Word at) (bytes_here text at (b ∷ w) rest e)

-- ---- the first byte of what follows

-- bytes that begin with one of which this holds
record Begins (P : ℕ → Type 0) (bytes : List ℕ) : Type 0 where
  first : ℕ
  others : List ℕ
  is : bytes ≡ first ∷ others
  so : P first

-- a byte that ends a word
abbrev EndsWord : ℕ → Type 0
EndsWord b = is_word_byte b ≡ false

begins : (P : ℕ → Type 0) (b : ℕ) (others : List ℕ) → P b → Begins P (b ∷ others)
begins P b others h = record { first = b; others = others; is = refl; so = h }

after_word : (ps : List Piece) → AreApart ps → ends_word ps ≡ true → Begins EndsWord (bytes_of ps)
after_word [] h e = absurd cc
after_word (Blank byte ∷ ps) h e = begins EndsWord byte (bytes_of ps) (blank_no_word byte h.0)
after_word (Opens ∷ ps) h e = begins EndsWord 40 (bytes_of ps) refl
after_word (Closes ∷ ps) h e = begins EndsWord 41 (bytes_of ps) refl
after_word (Sign ∷ ps) h e = begins EndsWord 64 (bytes_of ps) refl
after_word (Spelt word ∷ ps) h e = absurd cc

word_before : (text : List ℕ) (at : ℕ) (w rest : List ℕ) → IsWord w → drop at text ≡ 40 ∷ (w ++ rest) → Stands text at (at + 1)
word_before text at [] rest h e = absurd (omega (arith, h.0))
word_before text at (b ∷ w) rest h e =
    let parts = and_parts (is_word_byte b) _ h.1 in
    opening_here text at b (w ++ rest) (word_no_semicolon b parts.0) e

open_before : (text : List ℕ) (at : ℕ) (ps : List Piece) → AreApart ps → drop at text ≡ 40 ∷ bytes_of ps → Stands text at (at + 1)
open_before text at [] h e = last_here text at e
open_before text at (Blank byte ∷ ps) h e = opening_here text at byte (bytes_of ps) (blank_no_semicolon byte h.0) e
open_before text at (Opens ∷ ps) h e = opening_here text at 40 (bytes_of ps) refl e
open_before text at (Closes ∷ ps) h e = opening_here text at 41 (bytes_of ps) refl e
open_before text at (Sign ∷ ps) h e = opening_here text at 64 (bytes_of ps) refl e
open_before text at (Spelt word ∷ ps) h e = word_before text at word (bytes_of ps) (plain_word word h.0) e

-- ---- pieces in order

pieces_read : (text : List ℕ) (at : ℕ) (ps : List Piece) → AreApart ps → drop at text ≡ bytes_of ps → Reads text at (lexemes_at at ps)
pieces_read text at [] h e = nothing_read text at e
pieces_read text at (Blank byte ∷ ps) h e =
    blank_read text at (at + 1) (lexemes_at (at + 1) ps) (blank_here text at byte (bytes_of ps) h.0 e)
    (pieces_read text (at + 1) ps h.1 (next_one text at byte (bytes_of ps) e))
pieces_read text at (Opens ∷ ps) h e =
    token_read text at (at + 1) (record { from = at; to = at + 1 }) (Open at) (lexemes_at (at + 1) ps)
    (open_before text at ps h e) (lexeme_here text at (at + 1) 40 (bytes_of ps) e)
    (pieces_read text (at + 1) ps h (next_one text at 40 (bytes_of ps) e))
pieces_read text at (Closes ∷ ps) h e =
    token_read text at (at + 1) (record { from = at; to = at + 1 }) (Close at) (lexemes_at (at + 1) ps)
    (close_here text at (bytes_of ps) e) (lexeme_here text at (at + 1) 41 (bytes_of ps) e)
    (pieces_read text (at + 1) ps h (next_one text at 41 (bytes_of ps) e))
pieces_read text at (Sign ∷ ps) h e =
    token_read text at (at + 1) (record { from = at; to = at + 1 }) (At at) (lexemes_at (at + 1) ps)
    (sign_here text at (bytes_of ps) e) (lexeme_here text at (at + 1) 64 (bytes_of ps) e)
    (pieces_read text (at + 1) ps h (next_one text at 64 (bytes_of ps) e))
pieces_read text at (Spelt word ∷ ps) h e =
    let mid : ℕ = at + length word in
    let next = after_word ps h.1.1 h.1.0 in
    let w : IsWord word = plain_word word h.0 in
    token_read text at mid (record { from = at; to = mid }) (Word at word) (lexemes_at mid ps)
    (word_here text at word next.first next.others w next.so (e ∙ ap (λ bs. word ++ bs) next.is))
    (word_lexeme text at word (bytes_of ps) w e)
    (pieces_read text mid ps h.1.1 (bytes_after text at word (bytes_of ps) e))

-- the tokens of pieces are those of their bytes
pub pieces_lexemes : (ps : List Piece) → AreApart ps → lexemes (bytes_of ps) ≡ lexemes_at 0 ps
pieces_lexemes ps h = ap (λ (c : Coming). map (lexeme (bytes_of ps)) c.tokens) (sym (whole (bytes_of ps))) ∙ (pieces_read (bytes_of ps) 0 ps h refl).tokens

-- and each comment ends, since there is none
pub pieces_closed : (ps : List Piece) → AreApart ps → IsClosed (bytes_of ps)
pieces_closed ps h = ap (λ (c : Coming). c.unclosed) (sym (whole (bytes_of ps))) ∙ (pieces_read (bytes_of ps) 0 ps h refl).closed
