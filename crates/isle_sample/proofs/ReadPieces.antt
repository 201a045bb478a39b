-- The tokens of a text that begins with pieces are theirs, and then those of what follows.
use Rattle.std.proofs.Common.{◌≡◌, ◌≢◌, ℕ, suc, ◌+◌, ◌-◌, ◌<◌, List, [], ◌∷◌, ◌++◌, length, take, drop, get_or, map, Bool, true, false, refl, sym, ap, subst, ap₂, ◌∙◌, append_assoc, arith, length-append}
use Rattle.std.specs.Prelude.{◌==◌, ◌||◌, not, if◌then◌else◌, slice_range}
use Rattle.std.specs.List.{list_all}
use Rattle.std.proofs.lemmas.List.{get_or-drop, length-drop, drop-drop, drop_at, take_at}
use Rattle.std.proofs.lemmas.Bool.{and_parts, ne_eqb, true≢false}
use Rattle.std.proofs.lemmas.Bool.Decides.{nat_tests}
use Rattle.isle_lexer.specs.declared.token.Tok.{Tok}
use Rattle.isle_lexer.specs.Token.{State, Between, InWord, AfterOpen, AfterSingle, InLine, is_blank, is_single, is_word_byte, begun, coming, Coming}
use Rattle.isle_lexer.specs.Lexeme.{Lexeme, Open, Close, At, Less, Greater, Word, lexeme}
use Rattle.isle_lexer.proofs.Coming.{before, begins_here, single_here, open_here, word_more, word_ends}
use Rattle.isle_sample.proofs.TextPieces.{Piece, Blank, Opens, Closes, Spelt, bytes_of, lexemes_at, IsWord, goes_on, ends_word, are_apart, AreWords}

-- ---- bytes from a place on

inside : (text : List ℕ) (at b : ℕ) (rest : List ℕ) → drop at text ≡ b ∷ rest → at < length text
inside text at b rest e =
    let left : length (drop at text) ≡ length text - at = length-drop at text in
    let more : length (drop at text) ≡ suc (length rest) = ap length e in
    omega (arith, left, more)

front : (text : List ℕ) (at b : ℕ) (rest : List ℕ) → drop at text ≡ b ∷ rest → b ≡ get_or text at 0
front text at b rest e =
    let here : at + 0 ≡ at = omega arith in
    sym (ap (λ bs. get_or bs 0 0) e) ∙ get_or-drop at text 0 0 ∙ ap (λ k. get_or text k 0) here

-- what stands after some bytes
pub bytes_after : (text : List ℕ) (at : ℕ) (w rest : List ℕ) → drop at text ≡ w ++ rest
    → drop (at + length w) text ≡ rest
bytes_after text at w rest e =
    sym (drop-drop (length w) at text) ∙ ap (drop (length w)) e ∙ drop_at w rest (length w) refl

next_one : (text : List ℕ) (at b : ℕ) (rest : List ℕ) → drop at text ≡ b ∷ rest → drop (at + 1) text ≡ rest
next_one text at b rest e = bytes_after text at (b ∷ []) rest e

-- ---- what a byte begins

-- what a byte of these four kinds, or of another, begins
abbrev state_by : (at : ℕ) (l s o c : Bool) → State
state_by at l s o c =
    if l then Between
    else (if o then AfterOpen at
    else (if c then InLine
    else (if s then AfterSingle at
    else InWord at)))

word_state : (at : ℕ) (l s o c : Bool) → not (l || s || o || c) ≡ true → state_by at l s o c ≡ InWord at
word_state at false false false false h = refl
word_state at true s o c h = absurd cc
word_state at false true o c h = absurd cc
word_state at false false true c h = absurd cc
word_state at false false false true h = absurd cc

begun_word : (at b : ℕ) → is_word_byte b ≡ true → begun at b ≡ InWord at
begun_word at b h = word_state at (is_blank b) (is_single b) (b == 40) (b == 59) h

begun_blank : (at b : ℕ) → is_blank b ≡ true → begun at b ≡ Between
begun_blank at b h = ap (λ l. state_by at l (is_single b) (b == 40) (b == 59)) h

blank_no_semicolon : (b : ℕ) → is_blank b ≡ true → (b == 59) ≡ false
blank_no_semicolon b h = grind (arith, nat_tests)

blank_no_word : (b : ℕ) → is_blank b ≡ true → is_word_byte b ≡ false
blank_no_word b h = grind (arith, nat_tests)

word_no_semicolon : (b : ℕ) → is_word_byte b ≡ true → (b == 59) ≡ false
word_no_semicolon b h = grind (arith, nat_tests)

unequal : (b c : ℕ) → (b == c) ≡ false → b ≢ c
unequal b c h = λ e. grind (arith, nat_tests)

-- ---- a token by its first byte

-- the token that begins with this byte at a place, and has these bytes if it is a word
abbrev by_first : (first at : ℕ) (word : List ℕ) → Lexeme
by_first first at word =
    if first == 40 then Open at
    else (if first == 41 then Close at
    else (if first == 64 then At at
    else (if first == 60 then Less at
    else (if first == 62 then Greater at
    else Word at word))))

word_apart : (b c : ℕ) → is_word_byte b ≡ true → is_word_byte c ≡ false → (b == c) ≡ false
word_apart b c h k = ne_eqb b c (λ e. true≢false (sym h ∙ ap is_word_byte e ∙ k))

word_first : (b at : ℕ) (word : List ℕ) → is_word_byte b ≡ true → by_first b at word ≡ Word at word
word_first b at word h =
    let other : (c : ℕ) → is_word_byte c ≡ false → (b == c) ≡ false = λ c k. word_apart b c h k in
    rw (other 40 refl, other 41 refl, other 64 refl, other 60 refl, other 62 refl) refl

-- a token of a text, by the byte that stands there
lexeme_here : (text : List ℕ) (at to b : ℕ) (rest : List ℕ) → drop at text ≡ b ∷ rest
    → lexeme text (record { from = at; to = to }) ≡ by_first b at (slice_range text at to)
lexeme_here text at to b rest e = ap (λ c. by_first c at (slice_range text at to)) (sym (front text at b rest e))

bytes_here : (text : List ℕ) (at : ℕ) (w rest : List ℕ) → drop at text ≡ w ++ rest
    → slice_range text at (at + length w) ≡ w
bytes_here text at w rest e =
    let long : at + length w - at ≡ length w = omega arith in
    ap (λ n. take n (drop at text)) long ∙ ap (take (length w)) e ∙ take_at w rest (length w) refl

-- ---- what pieces stand for

-- the tokens of a text from a place on, with their bytes
abbrev pub lexemes_from : List ℕ → ℕ → List Lexeme
lexemes_from text at = map (lexeme text) (coming text Between at).tokens

-- from the first place to the second the text has these tokens, and no comment begins there that never ends
pub record Reads (text : List ℕ) (at : ℕ) (lexemes : List Lexeme) (end : ℕ) : Type 0 where
  pub tokens : lexemes_from text at ≡ lexemes ++ lexemes_from text end
  pub unclosed : (coming text Between at).unclosed ≡ (coming text Between end).unclosed

nothing_read : (text : List ℕ) (at : ℕ) → Reads text at [] at
nothing_read text at = record { tokens = refl; unclosed = refl }

blank_read : (text : List ℕ) (at mid : ℕ) (ls : List Lexeme) (end : ℕ)
    → coming text Between at ≡ coming text Between mid → Reads text mid ls end → Reads text at ls end
blank_read text at mid ls end e h = record {
  tokens = ap (λ (c : Coming). map (lexeme text) c.tokens) e ∙ h.tokens;
  unclosed = ap (λ (c : Coming). c.unclosed) e ∙ h.unclosed;
}

token_read : (text : List ℕ) (at mid : ℕ) (tok : Tok) (l : Lexeme) (ls : List Lexeme) (end : ℕ)
    → coming text Between at ≡ before (tok ∷ []) (coming text Between mid) → lexeme text tok ≡ l
    → Reads text mid ls end → Reads text at (l ∷ ls) end
token_read text at mid tok l ls end e is h = record {
  tokens = ap (λ (c : Coming). map (lexeme text) c.tokens) e ∙ ap₂ (λ x xs. x ∷ xs) is h.tokens;
  unclosed = ap (λ (c : Coming). c.unclosed) e ∙ h.unclosed;
}

-- ---- piece by piece

-- a token of a text stands from one place to another, and no other up to there
abbrev Stands : List ℕ → ℕ → ℕ → Type 0
Stands text at end = coming text Between at ≡ before (record { from = at; to = end } ∷ []) (coming text Between end)

blank_here : (text : List ℕ) (at b : ℕ) (rest : List ℕ) → is_blank b ≡ true → drop at text ≡ b ∷ rest
    → coming text Between at ≡ coming text Between (at + 1)
blank_here text at b rest h e =
    let blank : is_blank (get_or text at 0) ≡ true = subst (λ c. is_blank c ≡ true) (front text at b rest e) h in
    begins_here text at Between (inside text at b rest e) (begun_blank at (get_or text at 0) blank)

close_here : (text : List ℕ) (at : ℕ) (rest : List ℕ) → drop at text ≡ 41 ∷ rest → Stands text at (at + 1)
close_here text at rest e =
    single_here text at (inside text at 41 rest e) (ap (begun at) (sym (front text at 41 rest e)))

opening_here : (text : List ℕ) (at b : ℕ) (rest : List ℕ) → (b == 59) ≡ false → drop at text ≡ 40 ∷ b ∷ rest
    → Stands text at (at + 1)
opening_here text at b rest h e =
    open_here text at (inside text at 40 (b ∷ rest) e) (ap (begun at) (sym (front text at 40 (b ∷ rest) e)))
    (λ l. subst (λ c. c ≢ 59) (front text (at + 1) b rest (next_one text at 40 (b ∷ rest) e)) (unequal b 59 h))

front_word : (text : List ℕ) (at b : ℕ) (rest : List ℕ) (answer : Bool) → is_word_byte b ≡ answer
    → drop at text ≡ b ∷ rest → is_word_byte (get_or text at 0) ≡ answer
front_word text at b rest answer h e = subst (λ c. is_word_byte c ≡ answer) (front text at b rest e) h

word_goes : (text : List ℕ) (from at : ℕ) (w rest : List ℕ) → list_all is_word_byte w ≡ true → drop at text ≡ w ++ rest
    → coming text (InWord from) at ≡ coming text (InWord from) (at + length w)
word_goes text from at [] rest h e =
    let here : at ≡ at + length {A = ℕ} [] = omega arith in
    ap (coming text (InWord from)) here
word_goes text from at (b ∷ w) rest h e =
    let parts = and_parts (is_word_byte b) _ h in
    let further : at + 1 + length w ≡ at + length (b ∷ w) = omega arith in
    word_more text from at (inside text at b (w ++ rest) e) (front_word text at b (w ++ rest) true parts.0 e)
    ∙ word_goes text from (at + 1) w rest parts.1 (next_one text at b (w ++ rest) e)
    ∙ ap (coming text (InWord from)) further

word_here : (text : List ℕ) (at : ℕ) (w : List ℕ) (c : ℕ) (rest : List ℕ) → IsWord w → is_word_byte c ≡ false
    → drop at text ≡ w ++ c ∷ rest → Stands text at (at + length w)
word_here text at [] c rest h k e = absurd (omega (arith, h.0))
word_here text at (b ∷ w) c rest h k e =
    let end : ℕ = at + length (b ∷ w) in
    let parts = and_parts (is_word_byte b) _ h.1 in
    let starts : is_word_byte (get_or text at 0) ≡ true = front_word text at b (w ++ c ∷ rest) true parts.0 e in
    let further : at + 1 + length w ≡ end = omega arith in
    let last : drop end text ≡ c ∷ rest = bytes_after text at (b ∷ w) (c ∷ rest) e in
    begins_here text at (InWord at) (inside text at b (w ++ c ∷ rest) e) (begun_word at (get_or text at 0) starts)
    ∙ word_goes text at (at + 1) w (c ∷ rest) parts.1 (next_one text at b (w ++ c ∷ rest) e)
    ∙ ap (coming text (InWord at)) further
    ∙ word_ends text at end (inside text end c rest last) (front_word text end c rest false k last)

word_lexeme : (text : List ℕ) (at : ℕ) (w rest : List ℕ) → IsWord w → drop at text ≡ w ++ rest
    → lexeme text (record { from = at; to = at + length w }) ≡ Word at w
word_lexeme text at [] rest h e = absurd (omega (arith, h.0))
word_lexeme text at (b ∷ w) rest h e =
    let end : ℕ = at + length (b ∷ w) in
    let parts = and_parts (is_word_byte b) _ h.1 in
    lexeme_here text at end b (w ++ rest) e ∙ word_first b at (slice_range text at end) parts.0
    ∙ ap (Word at) (bytes_here text at (b ∷ w) rest e)

-- ---- the first byte of what follows

-- bytes that begin with one of which this holds
record Begins (P : ℕ → Type 0) (bytes : List ℕ) : Type 0 where
  first : ℕ
  others : List ℕ
  is : bytes ≡ first ∷ others
  so : P first

-- a byte that ends a word
abbrev EndsWord : ℕ → Type 0
EndsWord b = is_word_byte b ≡ false

-- a byte that makes no comment of a parenthesis in front
abbrev IsNoComment : ℕ → Type 0
IsNoComment b = (b == 59) ≡ false

begins : (P : ℕ → Type 0) (b : ℕ) (others : List ℕ) → P b → Begins P (b ∷ others)
begins P b others h = record { first = b; others = others; is = refl; so = h }

word_begins : (w rest : List ℕ) → IsWord w → Begins IsNoComment (w ++ rest)
word_begins [] rest h = absurd (omega (arith, h.0))
word_begins (b ∷ w) rest h =
    let parts = and_parts (is_word_byte b) _ h.1 in
    begins IsNoComment b (w ++ rest) (word_no_semicolon b parts.0)

after_word : (ps : List Piece) (rest : List ℕ) → are_apart ps ≡ true → ends_word ps ≡ true
    → Begins EndsWord (bytes_of ps ++ rest)
after_word [] rest h e = absurd cc
after_word (Blank byte ∷ ps) rest h e =
    let parts = and_parts (is_blank byte) _ h in
    begins EndsWord byte (bytes_of ps ++ rest) (blank_no_word byte parts.0)
after_word (Opens ∷ ps) rest h e = begins EndsWord 40 (bytes_of ps ++ rest) refl
after_word (Closes ∷ ps) rest h e = begins EndsWord 41 (bytes_of ps ++ rest) refl
after_word (Spelt word ∷ ps) rest h e = absurd cc

after_open : (ps : List Piece) (rest : List ℕ) → are_apart ps ≡ true → AreWords ps → goes_on ps ≡ true
    → Begins IsNoComment (bytes_of ps ++ rest)
after_open [] rest h k e = absurd cc
after_open (Blank byte ∷ ps) rest h k e =
    let parts = and_parts (is_blank byte) _ h in
    begins IsNoComment byte (bytes_of ps ++ rest) (blank_no_semicolon byte parts.0)
after_open (Opens ∷ ps) rest h k e = begins IsNoComment 40 (bytes_of ps ++ rest) refl
after_open (Closes ∷ ps) rest h k e = begins IsNoComment 41 (bytes_of ps ++ rest) refl
after_open (Spelt word ∷ ps) rest h k e =
    subst (Begins IsNoComment) (sym (append_assoc word (bytes_of ps) rest)) (word_begins word (bytes_of ps ++ rest) k.0)

-- ---- pieces in order

-- the pieces' tokens, and then those from their end on
pub pieces_read : (text : List ℕ) (at : ℕ) (ps : List Piece) (rest : List ℕ) (end : ℕ) → are_apart ps ≡ true
    → AreWords ps → drop at text ≡ bytes_of ps ++ rest → at + length (bytes_of ps) ≡ end
    → Reads text at (lexemes_at at ps) end
pieces_read text at [] rest end h k e f =
    let here : at ≡ end = omega (arith, f) in
    subst (Reads text at []) here (nothing_read text at)
pieces_read text at (Blank byte ∷ ps) rest end h k e f =
    let parts = and_parts (is_blank byte) _ h in
    let left : drop (at + 1) text ≡ bytes_of ps ++ rest = next_one text at byte (bytes_of ps ++ rest) e in
    blank_read text at (at + 1) (lexemes_at (at + 1) ps) end (blank_here text at byte (bytes_of ps ++ rest) parts.0 e)
    (pieces_read text (at + 1) ps rest end parts.1 k left (omega (arith, f)))
pieces_read text at (Opens ∷ ps) rest end h k e f =
    let parts = and_parts (goes_on ps) _ h in
    let next = after_open ps rest parts.1 k parts.0 in
    let left : drop (at + 1) text ≡ bytes_of ps ++ rest = next_one text at 40 (bytes_of ps ++ rest) e in
    token_read text at (at + 1) (record { from = at; to = at + 1 }) (Open at) (lexemes_at (at + 1) ps) end
    (opening_here text at next.first next.others next.so (e ∙ ap (λ bs. 40 ∷ bs) next.is))
    (lexeme_here text at (at + 1) 40 (bytes_of ps ++ rest) e)
    (pieces_read text (at + 1) ps rest end parts.1 k left (omega (arith, f)))
pieces_read text at (Closes ∷ ps) rest end h k e f =
    let left : drop (at + 1) text ≡ bytes_of ps ++ rest = next_one text at 41 (bytes_of ps ++ rest) e in
    token_read text at (at + 1) (record { from = at; to = at + 1 }) (Close at) (lexemes_at (at + 1) ps) end
    (close_here text at (bytes_of ps ++ rest) e)
    (lexeme_here text at (at + 1) 41 (bytes_of ps ++ rest) e)
    (pieces_read text (at + 1) ps rest end h k left (omega (arith, f)))
pieces_read text at (Spelt word ∷ ps) rest end h k e f =
    let mid : ℕ = at + length word in
    let parts = and_parts (ends_word ps) _ h in
    let next = after_word ps rest parts.1 parts.0 in
    let apart : drop at text ≡ word ++ (bytes_of ps ++ rest) = e ∙ append_assoc word (bytes_of ps) rest in
    let more : mid + length (bytes_of ps) ≡ end = omega (arith, f, length-append word (bytes_of ps)) in
    token_read text at mid (record { from = at; to = mid }) (Word at word) (lexemes_at mid ps) end
    (word_here text at word next.first next.others k.0 next.so (apart ∙ ap (λ bs. word ++ bs) next.is))
    (word_lexeme text at word (bytes_of ps ++ rest) k.0 apart)
    (pieces_read text mid ps rest end parts.1 k.1 (bytes_after text at word (bytes_of ps ++ rest) apart) more)
