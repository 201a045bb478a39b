-- What comes of a text, byte by byte.
use Rattle.std.proofs.Common.{◌≡◌, ◌≢◌, ℕ, zero, suc, ◌+◌, ◌-◌, ◌<◌, ◌≤◌, List, [], ◌∷◌, ◌++◌, length, append-nil, drop, get_or, Bool, true, false, refl, sym, ap, ◌∙◌, append_assoc, arith}
use Rattle.std.specs.Prelude.{◌==◌, if◌then◌else◌, fold, map, not}
use Rattle.std.proofs.lemmas.Bool.{eqb-true}
use Rattle.std.proofs.lemmas.List.{drop_more, drop_all}
use Rattle.isle_lexer.specs.Ahead.{lexemes_from}
use Rattle.isle_lexer.specs.Lexeme.{lexeme, lexemes}
use Rattle.isle_lexer.specs.Token.{Tok, State, Between, InWord, AfterOpen, AfterSingle, InLine, InComment, Other, Scan, Seen, is_word_byte, begun, in_comment, ends, next, pending, ended, open_at, step, tokens_of, unclosed, Coming, finished, coming}

-- tokens stand in front of a scan's
abbrev behind : List Tok → Scan → Scan
behind ts s = record { tokens = ts ++ s.tokens; state = s.state; at = s.at }

-- tokens stand in front of what comes
abbrev pub before : List Tok → Coming → Coming
before ts c = record { tokens = ts ++ c.tokens; unclosed = c.unclosed }

fold_behind : (ts : List Tok) (bs : List ℕ) (s : Scan) → fold step (behind ts s) bs ≡ behind ts (fold step s bs)
unfolding step
fold_behind ts [] s = refl
fold_behind ts (b ∷ bs) s =
    ap (λ us. fold step (record { tokens = us; state = next s.state s.at b; at = s.at + 1 }) bs) (append_assoc ts s.tokens (ended s.state s.at b)) ∙ fold_behind ts bs (step s b)

finished_behind : (ts : List Tok) (s : Scan) → finished (behind ts s) ≡ before ts (finished s)
finished_behind ts s = ap (λ us. record { tokens = us; unclosed = open_at s.state }) (append_assoc ts s.tokens (pending s.state s.at))

-- a byte at which no token ends
pub passes : (text : List ℕ) (at : ℕ) (st : State) (b : ℕ) → at < length text → b ≡ get_or text at 0 → ends st b ≡ false → coming text st at ≡ coming text (next st at b) (at + 1)
unfolding step coming
passes text at st b l is no_end =
    ap (λ bs. finished (fold step (record { tokens = []; state = st; at = at }) bs)) (drop_more text at 0 l ∙ ap (λ c. c ∷ drop (at + 1) text) (sym is))
    ∙ ap (λ (c : Bool). finished (fold step (record { tokens = if c then pending st at else []; state = next st at b; at = at + 1 }) (drop (at + 1) text))) no_end

-- what a byte that ends a token begins is what it begins if nothing was begun
begins_anew : (st : State) (at b : ℕ) → ends st b ≡ true → next st at b ≡ next Between at b
begins_anew Between at b e = absurd cc
begins_anew (InWord from) at b e = by (is_word_byte b) e
  where
    by : (c : Bool) → not c ≡ true → (if c then InWord from else begun at b) ≡ begun at b
    by true f = absurd cc
    by false f = refl
begins_anew (AfterOpen from) at b e = by (b == 59) e
  where
    by : (c : Bool) → not c ≡ true → (if c then InComment from 0 Other else begun at b) ≡ begun at b
    by true f = absurd cc
    by false f = refl
begins_anew (AfterSingle from) at b e = refl
begins_anew InLine at b e = absurd cc
begins_anew (InComment from outer seen) at b e = absurd cc

-- a byte that ends a token
pub takes : (text : List ℕ) (at : ℕ) (st : State) (b : ℕ) → at < length text → b ≡ get_or text at 0 → ends st b ≡ true → coming text st at ≡ before (pending st at) (coming text Between at)
unfolding step coming
takes text at st b l is end =
    let rest : List ℕ = drop (at + 1) text in
    let more : drop at text ≡ b ∷ rest = drop_more text at 0 l ∙ ap (λ c. c ∷ rest) (sym is) in
    let here : fold step (record { tokens = []; state = st; at = at }) (b ∷ rest) ≡ fold step (behind (pending st at) (record { tokens = []; state = next Between at b; at = at + 1 })) rest =
    ap (λ (c : Bool). fold step (record { tokens = if c then pending st at else []; state = next st at b; at = at + 1 }) rest) end
    ∙ ap (λ s. fold step (record { tokens = pending st at; state = s; at = at + 1 }) rest) (begins_anew st at b end)
    ∙ ap (λ ts. fold step (record { tokens = ts; state = next Between at b; at = at + 1 }) rest) (sym (append-nil (pending st at))) in
    ap (λ bs. finished (fold step (record { tokens = []; state = st; at = at }) bs)) more
    ∙ ap finished (here ∙ fold_behind (pending st at) rest (record { tokens = []; state = next Between at b; at = at + 1 }))
    ∙ finished_behind (pending st at) (fold step (record { tokens = []; state = Between; at = at }) (b ∷ rest))
    ∙ ap (λ bs. before (pending st at) (finished (fold step (record { tokens = []; state = Between; at = at }) bs))) (sym more)

-- the end of a text
pub at_end : (text : List ℕ) (at : ℕ) (st : State) → length text ≤ at → coming text st at ≡ record { tokens = pending st at; unclosed = open_at st }
unfolding coming
at_end text at st l = ap (λ bs. finished (fold step (record { tokens = []; state = st; at = at }) bs)) (drop_all at text l)

-- ---- what was begun, and the bytes after it

-- a word goes on
pub word_more : (text : List ℕ) (from at : ℕ) → at < length text → is_word_byte (get_or text at 0) ≡ true → coming text (InWord from) at ≡ coming text (InWord from) (at + 1)
word_more text from at l e = passes text at (InWord from) (get_or text at 0) l refl (ap not e) ∙ ap (λ (c : Bool). coming text (if c then InWord from else begun at (get_or text at 0)) (at + 1)) e

-- a word ends at a byte
pub word_ends : (text : List ℕ) (from at : ℕ) → at < length text → is_word_byte (get_or text at 0) ≡ false → coming text (InWord from) at ≡ before (record { from = from; to = at } ∷ []) (coming text Between at)
word_ends text from at l e = takes text at (InWord from) (get_or text at 0) l refl (ap not e)

-- a word ends where the text ends
pub word_last : (text : List ℕ) (from at : ℕ) → length text ≤ at → coming text (InWord from) at ≡ before (record { from = from; to = at } ∷ []) (coming text Between at)
word_last text from at l = at_end text at (InWord from) l ∙ ap (before (record { from = from; to = at } ∷ [])) (sym (at_end text at Between l))

-- a comment to the end of its line goes on
line_more : (text : List ℕ) (at n : ℕ) → at + n ≤ length text → ((k : ℕ) → at ≤ k → k < at + n → (get_or text k 0 == 10) ≡ false) → coming text InLine at ≡ coming text InLine (at + n)
line_more text at zero l h = ap (coming text InLine) (omega arith)
line_more text at (suc n) l h =
    let here : at < length text = omega (arith, l) in
    let next_one : at + 1 + n ≡ at + suc n = omega arith in
    passes text at InLine (get_or text at 0) here refl refl
    ∙ ap (λ (c : Bool). coming text (if c then Between else InLine) (at + 1)) (h at (omega arith) (omega arith))
    ∙ line_more text (at + 1) n (omega (arith, l)) (λ k a b. h k (omega (arith, a)) (omega (arith, b)))
    ∙ ap (coming text InLine) next_one

-- it ends at a line feed
pub line_ends : (text : List ℕ) (at n : ℕ) → at + n < length text → ((k : ℕ) → at ≤ k → k < at + n → (get_or text k 0 == 10) ≡ false) → (get_or text (at + n) 0 == 10) ≡ true
    → coming text InLine at ≡ coming text Between (at + n + 1)
line_ends text at n l h e =
    line_more text at n (omega (arith, l)) h ∙ passes text (at + n) InLine (get_or text (at + n) 0) l refl refl
    ∙ ap (λ (c : Bool). coming text (if c then Between else InLine) (at + n + 1)) e

-- it ends where the text ends
pub line_last : (text : List ℕ) (at : ℕ) → at ≤ length text → ((k : ℕ) → at ≤ k → k < length text → (get_or text k 0 == 10) ≡ false) → coming text InLine at ≡ coming text Between (length text)
line_last text at l h = by (length text - at) (omega (arith, l))
  where
    by : (n : ℕ) → at + n ≡ length text → coming text InLine at ≡ coming text Between (length text)
    by n e =
        line_more text at n (omega (arith, e)) (λ k a b. h k a (omega (arith, b, e))) ∙ ap (coming text InLine) e
        ∙ at_end text (length text) InLine (omega arith) ∙ sym (at_end text (length text) Between (omega arith))

-- ---- a byte where nothing was begun

-- what it begins
pub begins_here : (text : List ℕ) (at : ℕ) (st : State) → at < length text → begun at (get_or text at 0) ≡ st → coming text Between at ≡ coming text st (at + 1)
begins_here text at st l e = passes text at Between (get_or text at 0) l refl refl ∙ ap (λ s. coming text s (at + 1)) e

unequal : (a b : ℕ) → a ≢ b → (a == b) ≡ false
unequal a b h = by (a == b) refl
  where
    by : (c : Bool) → (a == b) ≡ c → c ≡ false
    by true e = absurd (h (eqb-true a b e))
    by false e = refl

-- a token of one byte
pub single_here : (text : List ℕ) (at : ℕ) → at < length text → begun at (get_or text at 0) ≡ AfterSingle at → coming text Between at ≡ before (record { from = at; to = at + 1 } ∷ []) (coming text Between (at + 1))
single_here text at l e = begins_here text at (AfterSingle at) l e ∙ by (length text - (at + 1)) (omega (arith, l))
  where
    by : (n : ℕ) → at + 1 + n ≡ length text → coming text (AfterSingle at) (at + 1) ≡ before (record { from = at; to = at + 1 } ∷ []) (coming text Between (at + 1))
    by zero f = at_end text (at + 1) (AfterSingle at) (omega (arith, f)) ∙ ap (before (record { from = at; to = at + 1 } ∷ [])) (sym (at_end text (at + 1) Between (omega (arith, f))))
    by (suc n) f = takes text (at + 1) (AfterSingle at) (get_or text (at + 1) 0) (omega (arith, f)) refl refl

-- an open parenthesis that begins no comment
pub open_here : (text : List ℕ) (at : ℕ) → at < length text → begun at (get_or text at 0) ≡ AfterOpen at → (at + 1 < length text → get_or text (at + 1) 0 ≢ 59)
    → coming text Between at ≡ before (record { from = at; to = at + 1 } ∷ []) (coming text Between (at + 1))
open_here text at l e h = begins_here text at (AfterOpen at) l e ∙ by (length text - (at + 1)) (omega (arith, l))
  where
    by : (n : ℕ) → at + 1 + n ≡ length text → coming text (AfterOpen at) (at + 1) ≡ before (record { from = at; to = at + 1 } ∷ []) (coming text Between (at + 1))
    by zero f = at_end text (at + 1) (AfterOpen at) (omega (arith, f)) ∙ ap (before (record { from = at; to = at + 1 } ∷ [])) (sym (at_end text (at + 1) Between (omega (arith, f))))
    by (suc n) f = takes text (at + 1) (AfterOpen at) (get_or text (at + 1) 0) (omega (arith, f)) refl (ap not (unequal (get_or text (at + 1) 0) 59 (h (omega (arith, f)))))

-- one that begins a comment
pub comment_here : (text : List ℕ) (at : ℕ) → at + 1 < length text → begun at (get_or text at 0) ≡ AfterOpen at → get_or text (at + 1) 0 ≡ 59 → coming text Between at ≡ coming text (InComment at 0 Other) (at + 2)
comment_here text at l e g =
    let h : (get_or text (at + 1) 0 == 59) ≡ true = ap (λ (b : ℕ). b == 59) g in
    begins_here text at (AfterOpen at) (omega (arith, l)) e ∙ passes text (at + 1) (AfterOpen at) (get_or text (at + 1) 0) l refl (ap not h)
    ∙ ap (λ (c : Bool). coming text (if c then InComment at 0 Other else begun (at + 1) (get_or text (at + 1) 0)) (at + 1 + 1)) h ∙ ap (coming text (InComment at 0 Other)) (omega arith)

-- a byte in a comment
pub in_comment_next : (text : List ℕ) (at from outer : ℕ) (seen : Seen) (st : State) → at < length text → in_comment from outer seen (get_or text at 0) ≡ st → coming text (InComment from outer seen) at ≡ coming text st (at + 1)
in_comment_next text at from outer seen st l e = passes text at (InComment from outer seen) (get_or text at 0) l refl refl ∙ ap (λ s. coming text s (at + 1)) e

-- ---- a whole text

-- its tokens are what comes from its start on
pub whole : (text : List ℕ) → coming text Between 0 ≡ record { tokens = tokens_of text; unclosed = unclosed text }
unfolding coming
whole text = refl

-- with their bytes
pub all_from : (text : List ℕ) → lexemes_from text 0 ≡ lexemes text
all_from text = ap (λ (c : Coming). map (lexeme text) c.tokens) (whole text)
