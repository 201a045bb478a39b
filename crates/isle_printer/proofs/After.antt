-- A text after one that ends between tokens: the tokens of both.
use Rattle.std.proofs.Common.{◌≡◌, ℕ, List, [], ◌∷◌, ◌++◌, Bool, true, false, cond, eqb, refl, sym, ap, ◌∙◌, append_assoc, arith}
use Rattle.std.specs.Prelude.{◌&&◌, ◌||◌, ◌<◌, length, slice_index, fold}
use Rattle.std.proofs.lemmas.List.{append-nil}
use Rattle.isle_printer.specs.Token.{Token, Word, Mark, Quoted, Stray, Comment, State, Between, InWord, AfterMark, InComment, InQuotes, Escaped, Scan, is_word_byte, is_blank, joins, begun, step, last_of, scan, finished, tokens_of}
use Rattle.isle_printer.specs.Glue.{Ends}
use Rattle.isle_printer.proofs.Scans.{scan-append, scan-next}

-- a scan with tokens before its own
unfoldable pub after : List Token → Scan → Scan
after ts x = record { tokens = ts ++ x.tokens; state = x.state }

-- either way of a choice
choice_after : (ts : List Token) (b : Bool) (x y x' y' : Scan) → x' ≡ after ts x → y' ≡ after ts y → cond b x' y' ≡ after ts (cond b x y)
choice_after ts true x y x' y' e k = e
choice_after ts false x y x' y' e k = k

begun-after : (ts us : List Token) (b : ℕ) → begun (ts ++ us) b ≡ after ts (begun us b)
unfolding begun after
begun-after ts us b = choice_after ts (is_word_byte b) _ _ _ _ refl (choice_after ts (is_blank b) _ _ _ _ refl (choice_after ts (eqb b 34) _ _ _ _ refl refl))

step-after : (ts us : List Token) (st : State) (b : ℕ) → step (record { tokens = ts ++ us; state = st }) b ≡ after ts (step (record { tokens = us; state = st }) b)
unfolding step after
step-after ts us Between b = begun-after ts us b
step-after ts us (InWord w) b =
    choice_after ts (is_word_byte b) _ _ _ _ refl (ap (λ l. begun l b) (append_assoc ts us (Word w ∷ [])) ∙ begun-after ts (us ++ Word w ∷ []) b)
step-after ts us (AfterMark a) b =
    choice_after ts (joins a b) _ _ _ _ (ap (λ l. record { tokens = l; state = Between }) (append_assoc ts us (Mark (a ∷ b ∷ []) ∷ [])))
    (choice_after ts (eqb a 47 && eqb b 47) _ _ _ _ (ap (λ l. record { tokens = l; state = InComment }) (append_assoc ts us (Comment ∷ []))) (ap (λ l. begun l b) (append_assoc ts us (Mark (a ∷ []) ∷ [])) ∙ begun-after ts (us ++ Mark (a ∷ []) ∷ []) b))
step-after ts us InComment b = choice_after ts (eqb b 10) _ _ _ _ refl refl
step-after ts us (InQuotes w) b =
    choice_after ts (eqb b 34) _ _ _ _ (ap (λ l. record { tokens = l; state = Between }) (append_assoc ts us (Quoted w ∷ []))) (choice_after ts (eqb b 92) _ _ _ _ refl refl)
step-after ts us (Escaped w) b =
    choice_after ts (eqb b 34 || eqb b 92) _ _ _ _ refl (ap (λ l. record { tokens = l; state = InQuotes w }) (append_assoc ts us (Stray ∷ [])))

pub fold-after : (ts : List Token) (x : Scan) (text : List ℕ) → fold step (after ts x) text ≡ after ts (fold step x text)
unfolding after
fold-after ts x [] = refl
fold-after ts x (b ∷ bs) = ap (λ s. fold step s bs) (step-after ts x.tokens x.state b) ∙ fold-after ts (step x b) bs

pub scan-after : (s text : List ℕ) → (scan s).state ≡ Between → scan (s ++ text) ≡ record { tokens = (scan s).tokens ++ (scan text).tokens; state = (scan text).state }
unfolding after
scan-after s text h =
    scan-append s text
    ∙ ap (λ x. fold step x text) (ap (λ st. record { tokens = (scan s).tokens; state = st }) h ∙ ap (λ ts. record { tokens = ts; state = Between }) (sym (append-nil (scan s).tokens)))
    ∙ fold-after (scan s).tokens (record { tokens = []; state = Between }) text

-- where the first text ends between tokens, the second adds its own
pub tokens-after : (s text : List ℕ) → (scan s).state ≡ Between → tokens_of (s ++ text) ≡ tokens_of s ++ tokens_of text
tokens-after s text h =
    ap finished (scan-after s text h)
    ∙ append_assoc (scan s).tokens (scan text).tokens (last_of (scan text).state)
    ∙ sym (ap (λ ts. ts ++ tokens_of text) (ap (λ st. (scan s).tokens ++ last_of st) h ∙ append-nil (scan s).tokens))

-- a text that begins with what ends the first one
scan-piece : (s : List ℕ) (b : ℕ) (bs : List ℕ) → Ends (scan s).state b → scan (s ++ b ∷ bs) ≡ after (finished (scan s)) (scan (b ∷ bs))
unfolding step
scan-piece s b bs e =
    scan-next s b bs e
    ∙ ap (λ x. fold step x bs) (ap (λ ts. begun ts b) (sym (append-nil (finished (scan s)))) ∙ begun-after (finished (scan s)) [] b)
    ∙ fold-after (finished (scan s)) (begun [] b) bs

pub state-piece : (s w : List ℕ) → 0 < length w → Ends (scan s).state (slice_index w 0) → (scan (s ++ w)).state ≡ (scan w).state
unfolding after
state-piece s [] some e = absurd (omega arith)
state-piece s (b ∷ bs) some e = ap (λ x. x.state) (scan-piece s b bs e)

pub tokens-piece : (s w : List ℕ) → 0 < length w → Ends (scan s).state (slice_index w 0) → tokens_of (s ++ w) ≡ tokens_of s ++ tokens_of w
unfolding after
tokens-piece s [] some e = absurd (omega arith)
tokens-piece s (b ∷ bs) some e =
    ap finished (scan-piece s b bs e) ∙ append_assoc (finished (scan s)) (scan (b ∷ bs)).tokens (last_of (scan (b ∷ bs)).state)
