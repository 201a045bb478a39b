-- Tokens begin and end between characters.
use Rattle.std.proofs.Common.{◌++◌, ◌≡◌, ℕ, zero, suc, ◌+◌, ◌<◌, ◌≤◌, List, [], ◌∷◌, length, take, get_or, Bool, true, false, not, refl, sym, subst, arith}
use Rattle.std.specs.Prelude.{IsCharBoundary, ◌==◌, if◌then◌else◌}
use Rattle.std.specs.Str.{IsUtf8}
use Rattle.std.proofs.lemmas.Str.{IsCharBoundary-start, IsCharBoundary-end, IsCharBoundary-before_ascii, IsCharBoundary-after_ascii}
use Rattle.std.proofs.lemmas.List.{take_all}
use Rattle.std.proofs.lemmas.Bool.Decides.{nat_tests}
use Rattle.isle_lexer.specs.Token.{Tok, State, Between, InWord, AfterOpen, AfterSingle, InLine, InComment, Seen, Other, OpenSeen, SemicolonSeen, is_blank, is_single, is_word_byte, begun, seen_after, closed, in_comment, ends, ended, next, pending, scan, tokens_of, tokens_from, Coming}
use Rattle.isle_lexer.specs.Cuts.{AreCuts}
use Rattle.isle_lexer.proofs.Coming.{whole}
use Rattle.isle_lexer.proofs.Scans.{state-more, tokens-more, scan-at}

-- where what was begun begins
abbrev pub Starts : List ℕ → State → ℕ → Type 0
Starts text Between at = IsCharBoundary text at
Starts text (InWord from) at = (from < at) × IsCharBoundary text from
Starts text (AfterOpen from) at = (from + 1 ≡ at) × IsCharBoundary text from × IsCharBoundary text at
Starts text (AfterSingle from) at = (from + 1 ≡ at) × IsCharBoundary text from × IsCharBoundary text at
Starts text InLine at = Unit {0}
Starts text (InComment from outer seen) at = Unit {0}

blank_ascii : (b : ℕ) → is_blank b ≡ true → b < 128
blank_ascii b h = grind (arith, nat_tests)

single_ascii : (b : ℕ) → is_single b ≡ true → b < 128
single_ascii b h = grind (arith, nat_tests)

word_ascii : (b : ℕ) → is_word_byte b ≡ false → b < 128
word_ascii b h = grind (arith, nat_tests)

eq_ascii : (b c : ℕ) → (b == c) ≡ true → c < 128 → b < 128
eq_ascii b c h l = grind (arith, nat_tests)

module _ (text : List ℕ) (at : ℕ) (utf8 : IsUtf8 text) (inside : at < length text) where
  behind : get_or text at 0 < 128 → IsCharBoundary text (at + 1)
  behind l = IsCharBoundary-after_ascii text at utf8 inside l

  starts_begun : IsCharBoundary text at → Starts text (begun at (get_or text at 0)) (at + 1)
  starts_begun here = blank (is_blank (get_or text at 0)) refl
    where
      b : ℕ
      b = get_or text at 0

      single : (s : Bool) → is_single b ≡ s → Starts text (if s then AfterSingle at else InWord at) (at + 1)
      single true e = (refl, here, behind (single_ascii b e))
      single false e = (omega arith, here)

      line : (s : Bool) → (b == 59) ≡ s → Starts text (if s then InLine else (if is_single b then AfterSingle at else InWord at)) (at + 1)
      line true e = tt
      line false e = single (is_single b) refl

      opens : (s : Bool) → (b == 40) ≡ s → Starts text (if s then AfterOpen at else (if b == 59 then InLine else (if is_single b then AfterSingle at else InWord at))) (at + 1)
      opens true e = (refl, here, behind (eq_ascii b 40 e (omega arith)))
      opens false e = line (b == 59) refl

      blank : (s : Bool) → is_blank b ≡ s → Starts text (if s then Between else (if b == 40 then AfterOpen at else (if b == 59 then InLine else (if is_single b then AfterSingle at else InWord at)))) (at + 1)
      blank true e = behind (blank_ascii b e)
      blank false e = opens (b == 40) refl

  starts_comment : (from outer : ℕ) (seen : Seen) → Starts text (in_comment from outer seen (get_or text at 0)) (at + 1)
  starts_comment from outer Other = tt
  starts_comment from outer OpenSeen = opened (get_or text at 0 == 59)
    where
      opened : (s : Bool) → Starts text (if s then InComment from (outer + 1) Other else InComment from outer (seen_after (get_or text at 0))) (at + 1)
      opened true = tt
      opened false = tt
  starts_comment from outer SemicolonSeen = by (get_or text at 0 == 41) refl outer
    where
      by : (s : Bool) → (get_or text at 0 == 41) ≡ s → (outer : ℕ) → Starts text (if s then closed from outer else InComment from outer (seen_after (get_or text at 0))) (at + 1)
      by true e zero = behind (eq_ascii (get_or text at 0) 41 e (omega arith))
      by true e (suc outer) = tt
      by false e outer = tt

  starts_next : (state : State) → Starts text state at → Starts text (next state at (get_or text at 0)) (at + 1)
  starts_next Between h = starts_begun h
  starts_next (InWord from) h = by (is_word_byte (get_or text at 0)) refl
    where
      by : (s : Bool) → is_word_byte (get_or text at 0) ≡ s → Starts text (if s then InWord from else begun at (get_or text at 0)) (at + 1)
      by true e = (omega (arith, h.0), h.1)
      by false e = starts_begun (IsCharBoundary-before_ascii text at inside (word_ascii (get_or text at 0) e))
  starts_next (AfterOpen from) h = by (get_or text at 0 == 59)
    where
      by : (s : Bool) → Starts text (if s then InComment from 0 Other else begun at (get_or text at 0)) (at + 1)
      by true = tt
      by false = starts_begun h.2
  starts_next (AfterSingle from) h = starts_begun h.2
  starts_next InLine h = by (get_or text at 0 == 10) refl
    where
      by : (s : Bool) → (get_or text at 0 == 10) ≡ s → Starts text (if s then Between else InLine) (at + 1)
      by true e = behind (eq_ascii (get_or text at 0) 10 e (omega arith))
      by false e = tt
  starts_next (InComment from outer seen) h = starts_comment from outer seen

  -- a token that ends here is a part of the text
  ended_cut : (state : State) → Starts text state at → ends state (get_or text at 0) ≡ true → AreCuts text (pending state at)
  ended_cut Between h e = tt
  ended_cut (InWord from) h e = (
    record {
      some = h.0;
      within = omega (arith, inside);
      begins = h.1;
      ends = IsCharBoundary-before_ascii text at inside (word_ascii (get_or text at 0) (not_true (is_word_byte (get_or text at 0)) e));
    },
    tt,
  )
    where
      not_true : (b : Bool) → not b ≡ true → b ≡ false
      not_true true e = cc
      not_true false e = refl
  ended_cut (AfterOpen from) h e = (record { some = omega arith; within = omega (arith, h.0, inside); begins = h.1; ends = subst (IsCharBoundary text) (sym h.0) h.2 }, tt)
  ended_cut (AfterSingle from) h e = (record { some = omega arith; within = omega (arith, h.0, inside); begins = h.1; ends = subst (IsCharBoundary text) (sym h.0) h.2 }, tt)
  ended_cut InLine h e = tt
  ended_cut (InComment from outer seen) h e = tt

  -- and so if a byte may end it
  any_cut : (state : State) → Starts text state at → AreCuts text (ended state at (get_or text at 0))
  any_cut state h = by (ends state (get_or text at 0)) refl
    where
      by : (e : Bool) → ends state (get_or text at 0) ≡ e → AreCuts text (if e then pending state at else [])
      by true e = ended_cut state h e
      by false e = tt

-- where the text ends
last_cut : (text : List ℕ) (state : State) → Starts text state (length text) → AreCuts text (pending state (length text))
last_cut text Between h = tt
last_cut text (InWord from) h = (record { some = h.0; within = omega arith; begins = h.1; ends = IsCharBoundary-end text }, tt)
last_cut text (AfterOpen from) h = (record { some = omega arith; within = omega (arith, h.0); begins = h.1; ends = subst (IsCharBoundary text) (sym h.0) h.2 }, tt)
last_cut text (AfterSingle from) h = (record { some = omega arith; within = omega (arith, h.0); begins = h.1; ends = subst (IsCharBoundary text) (sym h.0) h.2 }, tt)
last_cut text InLine h = tt
last_cut text (InComment from outer seen) h = tt

starts_at : (text : List ℕ) → IsUtf8 text → (i : ℕ) → i ≤ length text → Starts text (scan (take i text)).state i
starts_at text utf8 zero le = IsCharBoundary-start text utf8
starts_at text utf8 (suc i) le =
    let one : suc i ≡ i + 1 = omega arith in
    let l : i < length text = omega arith in
    subst (λ n. Starts text (scan (take n text)).state n) (sym one)
    (subst (λ state. Starts text state (i + 1)) (sym (state-more text i l)) (starts_next text i utf8 l (scan (take i text)).state (starts_at text utf8 i (omega arith))))

both_cut : (text : List ℕ) (ts us : List Tok) → AreCuts text ts → AreCuts text us → AreCuts text (ts ++ us)
both_cut text [] us h k = k
both_cut text (t ∷ ts) us h k = (h.0, both_cut text ts us h.1 k)

cuts_at : (text : List ℕ) → IsUtf8 text → (i : ℕ) → i ≤ length text → AreCuts text (scan (take i text)).tokens
cuts_at text utf8 zero le = tt
cuts_at text utf8 (suc i) le =
    let one : suc i ≡ i + 1 = omega arith in
    let l : i < length text = omega arith in
    subst (λ n. AreCuts text (scan (take n text)).tokens) (sym one)
    (subst (AreCuts text) (sym (tokens-more text i l))
    (both_cut text (scan (take i text)).tokens (ended (scan (take i text)).state i (get_or text i 0)) (cuts_at text utf8 i (omega arith))
    (any_cut text i utf8 l (scan (take i text)).state (starts_at text utf8 i (omega arith)))))

-- each token of a text is a part of it, between characters
pub tokens_cut : (text : List ℕ) → IsUtf8 text → AreCuts text (tokens_of text)
tokens_cut text utf8 =
    let whole : take (length text) text ≡ text = take_all (length text) text (omega arith) in
    let so_far : AreCuts text (scan text).tokens = subst (λ t. AreCuts text (scan t).tokens) whole (cuts_at text utf8 (length text) (omega arith)) in
    let state : Starts text (scan text).state (length text) = subst (λ t. Starts text (scan t).state (length text)) whole (starts_at text utf8 (length text) (omega arith)) in
    both_cut text (scan text).tokens (pending (scan text).state (scan text).at) so_far
    (subst (λ n. AreCuts text (pending (scan text).state n)) (sym (scan-at text)) (last_cut text (scan text).state state))

-- and so is each that comes from the start on
pub first_cut : (text : List ℕ) → IsUtf8 text → AreCuts text (tokens_from text 0)
first_cut text utf8 = subst (λ (c : Coming). AreCuts text c.tokens) (sym (whole text)) (tokens_cut text utf8)
