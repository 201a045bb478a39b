-- What a printer's next bytes do to the tokens of its text.
use Rattle.std.proofs.Common.{◌≡◌, ℕ, List, [], ◌∷◌, ◌++◌, Bool, true, false, cond, refl, sym, ap, ◌∙◌, append_assoc, arith}
use Rattle.std.specs.Prelude.{fold, slice_index}
use Rattle.std.specs.List.{list_all}
use Rattle.std.proofs.lemmas.List.{append-nil}
use Rattle.std.proofs.lemmas.List.Sums.{fold-append}
use Rattle.std.proofs.lemmas.Bool.{or_parts, and_parts}
use Rattle.std.proofs.lemmas.Bool.Decides.{nat_tests}
use Rattle.isle_printer.specs.declared.printer.Last.{Last}
use Rattle.isle_printer.specs.declared.printer.Last.TheVariants as last
use Rattle.isle_printer.specs.Token.{Token, Word, Mark, State, is_blank, Between, InWord, AfterMark, is_word_byte, joins, goes_on, begun, step, scan, finished, tokens_of, is_word, is_mark, is_mark_byte}
use Rattle.isle_printer.specs.Glue.{Settles, Ends, EndsAtWord, meets, is_open, noted}

-- a text goes on from where the text before it ended
pub scan-append : (s t : List ℕ) → scan (s ++ t) ≡ fold step (scan s) t
scan-append s t = fold-append step _ s t

-- ---- which bytes end what was begun

pub ends-Between : (b : ℕ) → Ends Between b
unfolding step
ends-Between b = record { by = λ ts. ap (λ l. begun l b) (sym (append-nil ts)) }

ends-InWord : (w : List ℕ) (b : ℕ) → is_word_byte b ≡ false → Ends (InWord w) b
unfolding step
ends-InWord w b h = record { by = λ ts. rw h refl }

ends-AfterMark : (a b : ℕ) → goes_on a b ≡ false → Ends (AfterMark a) b
unfolding step
ends-AfterMark a b h = let parts = or_parts (joins a b) _ h in record { by = λ ts. rw (parts.0, parts.1) refl }

-- a byte that does not meet what was noted
pub ends_apart : (l : Last) (st : State) (b : ℕ) → Settles l st → meets l b ≡ false → Ends st b
ends_apart last.Nothing st b h apart = rw h (ends-Between b)
ends_apart last.Word st b h apart = rw h.1 (ends-InWord h.0 b apart)
ends_apart (last.Mark a) st b h apart = rw h (ends-AfterMark a b apart)

mark_before_blank : (a : ℕ) → goes_on a 32 ≡ false
mark_before_blank a = grind arith

ends_at_blank : (l : Last) (st : State) → Settles l st → Ends st 32
ends_at_blank last.Nothing st h = ends_apart last.Nothing st 32 h refl
ends_at_blank last.Word st h = ends_apart last.Word st 32 h refl
ends_at_blank (last.Mark a) st h = ends_apart (last.Mark a) st 32 h (mark_before_blank a)

mark_before_word : (a b : ℕ) → is_word_byte b ≡ true → goes_on a b ≡ false
mark_before_word a b h = grind (arith, nat_tests)

-- a word, unless one was noted
pub word_apart : (l : Last) (st : State) → Settles l st → is_open l ≡ false → EndsAtWord st
word_apart last.Nothing st h shut = λ b is. rw h (ends-Between b)
word_apart last.Word st h shut = absurd cc
word_apart (last.Mark a) st h shut = λ b is. rw h (ends-AfterMark a b (mark_before_word a b is))

-- ---- a token more

-- the first byte of a token that does not go on the one before
pub scan-next : (s : List ℕ) (b : ℕ) (bs : List ℕ) → Ends (scan s).state b → scan (s ++ b ∷ bs) ≡ fold step (begun (finished (scan s)) b) bs
scan-next s b bs e = scan-append s (b ∷ bs) ∙ ap (λ x. fold step x bs) (e.by (scan s).tokens)

-- a space
pub scan-space : (s : List ℕ) → Ends (scan s).state 32 → scan (s ++ 32 ∷ []) ≡ record { tokens = finished (scan s); state = Between }
unfolding begun
scan-space s e = scan-next s 32 [] e

-- a space, whatever was noted
pub scan-parted : (s : List ℕ) (l : Last) → Settles l (scan s).state → scan (s ++ 32 ∷ []) ≡ record { tokens = finished (scan s); state = Between }
scan-parted s l h = scan-space s (ends_at_blank l _ h)

-- the end of a line
pub scan-line : (s : List ℕ) → Ends (scan s).state 10 → scan (s ++ 10 ∷ []) ≡ record { tokens = finished (scan s); state = Between }
unfolding begun
scan-line s e = scan-next s 10 [] e

-- a blank is no part of a word
blank_no_word : (b : ℕ) → is_blank b ≡ true → is_word_byte b ≡ false
blank_no_word b h = grind (arith, nat_tests)

-- blanks begin nothing
blanks_between : (ts : List Token) (bs : List ℕ) → list_all is_blank bs ≡ true → fold step (record { tokens = ts; state = Between }) bs ≡ record { tokens = ts; state = Between }
unfolding step begun
blanks_between ts [] h = refl
blanks_between ts (b ∷ bs) h =
    let parts = and_parts (is_blank b) _ h in
    rw (blank_no_word b parts.0) (rw parts.0 (blanks_between ts bs parts.1))

-- blanks if nothing was begun
pub scan_blanks : (s bs : List ℕ) → list_all is_blank bs ≡ true → (scan s).state ≡ Between → scan (s ++ bs) ≡ scan s
scan_blanks s bs h k = scan-append s bs ∙ over (scan s).tokens (scan s).state k
  where
    over : (ts : List Token) (st : State) → st ≡ Between → fold step (record { tokens = ts; state = st }) bs ≡ record { tokens = ts; state = st }
    over ts st k = rw k (blanks_between ts bs h)

-- ---- a word

word_grows : (ts : List Token) (w bs : List ℕ) → list_all is_word_byte bs ≡ true → fold step (record { tokens = ts; state = InWord w }) bs ≡ record { tokens = ts; state = InWord (w ++ bs) }
unfolding step
word_grows ts w [] h = ap (λ v. record { tokens = ts; state = InWord v }) (sym (append-nil w))
word_grows ts w (b ∷ bs) h =
    let parts = and_parts (is_word_byte b) _ h in
    rw parts.0 (word_grows ts (w ++ b ∷ []) bs parts.1 ∙ ap (λ v. record { tokens = ts; state = InWord v }) (append_assoc w (b ∷ []) bs))

begun-word : (ts : List Token) (b : ℕ) → is_word_byte b ≡ true → begun ts b ≡ record { tokens = ts; state = InWord (b ∷ []) }
unfolding begun
begun-word ts b h = rw h refl

pub scan-word : (s w : List ℕ) → is_word w ≡ true → Ends (scan s).state (slice_index w 0) → scan (s ++ w) ≡ record { tokens = finished (scan s); state = InWord w }
scan-word s [] h e = absurd cc
scan-word s (b ∷ bs) h e =
    let parts = and_parts (is_word_byte b) _ h in
    scan-next s b bs e ∙ ap (λ x. fold step x bs) (begun-word (finished (scan s)) b parts.0) ∙ word_grows (finished (scan s)) (b ∷ []) bs parts.1

pub tokens-word : (s w : List ℕ) → is_word w ≡ true → Ends (scan s).state (slice_index w 0) → tokens_of (s ++ w) ≡ tokens_of s ++ Word w ∷ []
tokens-word s w h e = ap finished (scan-word s w h e)

-- a word after what ends at each word
pub scan-word_apart : (s w : List ℕ) → is_word w ≡ true → EndsAtWord (scan s).state → scan (s ++ w) ≡ record { tokens = finished (scan s); state = InWord w }
scan-word_apart s [] h e = absurd cc
scan-word_apart s (b ∷ bs) h e = scan-word s (b ∷ bs) h (e b (and_parts (is_word_byte b) _ h).0)

pub tokens-word_apart : (s w : List ℕ) → is_word w ≡ true → EndsAtWord (scan s).state → tokens_of (s ++ w) ≡ tokens_of s ++ Word w ∷ []
tokens-word_apart s w h e = ap finished (scan-word_apart s w h e)

-- more bytes of a word
pub scan-word_more : (s w bs : List ℕ) (ts : List Token) → list_all is_word_byte bs ≡ true → scan s ≡ record { tokens = ts; state = InWord w } → scan (s ++ bs) ≡ record { tokens = ts; state = InWord (w ++ bs) }
scan-word_more s w bs ts h e = scan-append s bs ∙ ap (λ x. fold step x bs) e ∙ word_grows ts w bs h

-- what was noted of a word holds of a longer one
pub settles_more : (l : Last) (w v : List ℕ) → Settles l (InWord w) → Settles l (InWord v)
settles_more last.Nothing w v h = absurd cc
settles_more last.Word w v h = (v, refl)
settles_more (last.Mark a) w v h = absurd cc

-- ---- a mark

all_refused : (x y z : Bool) → cond x false (cond y false (cond z false true)) ≡ true → (x ≡ false) × (y ≡ false) × (z ≡ false)
all_refused false false false h = (refl, refl, refl)
all_refused true y z h = absurd cc
all_refused false true z h = absurd cc
all_refused false false true h = absurd cc

begun-mark : (ts : List Token) (b : ℕ) → is_mark_byte b ≡ true → begun ts b ≡ record { tokens = ts; state = AfterMark b }
unfolding begun
begun-mark ts b h = let none = all_refused (is_word_byte b) _ _ h in rw (none.0, none.1, none.2) refl

pub scan-mark : (s : List ℕ) (a : ℕ) → is_mark_byte a ≡ true → Ends (scan s).state a → scan (s ++ a ∷ []) ≡ record { tokens = finished (scan s); state = AfterMark a }
scan-mark s a h e = scan-next s a [] e ∙ begun-mark (finished (scan s)) a h

pub scan-mark_pair : (s : List ℕ) (a b : ℕ) → is_mark_byte a ≡ true → joins a b ≡ true → Ends (scan s).state a → scan (s ++ a ∷ b ∷ []) ≡ record { tokens = finished (scan s) ++ Mark (a ∷ b ∷ []) ∷ []; state = Between }
unfolding step
scan-mark_pair s a b h j e = scan-next s a (b ∷ []) e ∙ ap (λ x. step x b) (begun-mark (finished (scan s)) a h) ∙ rw j refl

pub settles_after_mark : (s m : List ℕ) → is_mark m ≡ true → Ends (scan s).state (slice_index m 0) → Settles (noted m) (scan (s ++ m)).state
settles_after_mark s [] h e = absurd cc
settles_after_mark s (a ∷ []) h e = rw (scan-mark s a h e)
settles_after_mark s (a ∷ b ∷ []) h e = let parts = and_parts (is_mark_byte a) _ h in rw (scan-mark_pair s a b parts.0 parts.1 e)
settles_after_mark s (a ∷ b ∷ c ∷ m) h e = absurd cc

pub tokens-mark : (s m : List ℕ) → is_mark m ≡ true → Ends (scan s).state (slice_index m 0) → tokens_of (s ++ m) ≡ tokens_of s ++ Mark m ∷ []
tokens-mark s [] h e = absurd cc
tokens-mark s (a ∷ []) h e = ap finished (scan-mark s a h e)
tokens-mark s (a ∷ b ∷ []) h e = let parts = and_parts (is_mark_byte a) _ h in ap finished (scan-mark_pair s a b parts.0 parts.1 e) ∙ append-nil _
tokens-mark s (a ∷ b ∷ c ∷ m) h e = absurd cc
