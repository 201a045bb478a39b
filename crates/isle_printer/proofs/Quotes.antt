-- A text between quotes is read as that text.
use Rattle.std.proofs.Common.{◌≡◌, ℕ, ◌≤◌, List, [], ◌∷◌, ◌++◌, Bool, true, false, cond, eqb, ltb, refl, sym, ap, ◌∙◌, append_assoc, arith, ⊎_elim}
use Rattle.std.specs.Prelude.{fold, ◌||◌}
use Rattle.std.specs.List.{list_all}
use Rattle.std.proofs.lemmas.List.{append-nil}
use Rattle.std.proofs.lemmas.Bool.{ne_eqb, le-ltb, cases_lt, and_parts}
use Rattle.std.proofs.lemmas.Str.{encode_ascii, encodes-append}
use lib.Utf8.{encode, encodes}
use Rattle.isle_printer.specs.Token.{Token, Quoted, Between, InQuotes, Escaped, begun, step, scan, finished}
use Rattle.isle_printer.specs.Glue.{Ends}
use Rattle.isle_printer.specs.Quote.{is_plain, escaped, quoted}
use Rattle.isle_printer.proofs.Scans.{scan-next}

within_quotes : (ts : List Token) (w text rest : List ℕ) → fold step (record { tokens = ts; state = InQuotes w }) (escaped text ++ rest) ≡ fold step (record { tokens = ts; state = InQuotes (w ++ text) }) rest
unfolding step
within_quotes ts w [] rest = ap (λ v. fold step (record { tokens = ts; state = InQuotes v }) rest) (sym (append-nil w))
within_quotes ts w (b ∷ bs) rest =
    one (eqb b 34) (eqb b 92) refl refl ∙ within_quotes ts (w ++ b ∷ []) bs rest ∙ ap (λ v. fold step (record { tokens = ts; state = InQuotes v }) rest) (append_assoc w (b ∷ []) bs)
  where
    one : (x y : Bool) → eqb b 34 ≡ x → eqb b 92 ≡ y → fold step (record { tokens = ts; state = InQuotes w }) (escaped (b ∷ bs) ++ rest) ≡ fold step (record { tokens = ts; state = InQuotes (w ++ b ∷ []) }) (escaped bs ++ rest)
    one true y quote slash =
        let spelled : escaped (b ∷ bs) ≡ 92 ∷ b ∷ escaped bs = rw quote refl in
        let grows : step (record { tokens = ts; state = Escaped w }) b ≡ record { tokens = ts; state = InQuotes (w ++ b ∷ []) } = rw quote refl in
        ap (λ l. fold step (record { tokens = ts; state = InQuotes w }) (l ++ rest)) spelled ∙ ap (λ x. fold step x (escaped bs ++ rest)) grows
    one false true quote slash =
        let spelled : escaped (b ∷ bs) ≡ 92 ∷ b ∷ escaped bs = rw (quote, slash) refl in
        let grows : step (record { tokens = ts; state = Escaped w }) b ≡ record { tokens = ts; state = InQuotes (w ++ b ∷ []) } = rw (quote, slash) refl in
        ap (λ l. fold step (record { tokens = ts; state = InQuotes w }) (l ++ rest)) spelled ∙ ap (λ x. fold step x (escaped bs ++ rest)) grows
    one false false quote slash =
        let plain : escaped (b ∷ bs) ≡ b ∷ escaped bs = rw (quote, slash) refl in
        let grows : step (record { tokens = ts; state = InQuotes w }) b ≡ record { tokens = ts; state = InQuotes (w ++ b ∷ []) } = rw (quote, slash) refl in
        ap (λ l. fold step (record { tokens = ts; state = InQuotes w }) (l ++ rest)) plain ∙ ap (λ x. fold step x (escaped bs ++ rest)) grows

pub scan-quoted : (s text : List ℕ) → Ends (scan s).state 34 → scan (s ++ quoted text) ≡ record { tokens = finished (scan s) ++ Quoted text ∷ []; state = Between }
unfolding step begun
scan-quoted s text e = scan-next s 34 (escaped text ++ 34 ∷ []) e ∙ within_quotes (finished (scan s)) [] text (34 ∷ [])

pub escaped-append : (xs ys : List ℕ) → escaped (xs ++ ys) ≡ escaped xs ++ escaped ys
escaped-append [] ys = refl
escaped-append (x ∷ xs) ys = one (eqb x 34 || eqb x 92) (escaped-append xs ys)
  where
    one : (b : Bool) → escaped (xs ++ ys) ≡ escaped xs ++ escaped ys → cond b (92 ∷ x ∷ escaped (xs ++ ys)) (x ∷ escaped (xs ++ ys)) ≡ cond b (92 ∷ x ∷ escaped xs) (x ∷ escaped xs) ++ escaped ys
    one true e = ap (λ l. 92 ∷ x ∷ l) e
    one false e = ap (λ l. x ∷ l) e

-- ---- characters of more than one byte

abbrev BeyondAscii : List ℕ → Type 0
BeyondAscii [] = Unit {0}
BeyondAscii (b ∷ bs) = (128 ≤ b) × BeyondAscii bs

escaped-beyond : (bs : List ℕ) → BeyondAscii bs → escaped bs ≡ bs
escaped-beyond [] h = refl
escaped-beyond (b ∷ bs) h = rw (ne_eqb b 34 (λ e. omega (arith, h.0)), ne_eqb b 92 (λ e. omega (arith, h.0)), escaped-beyond bs h.1) refl

beyond_cond : (b : Bool) (xs ys : List ℕ) → BeyondAscii xs → BeyondAscii ys → BeyondAscii (cond b xs ys)
beyond_cond true xs ys h k = h
beyond_cond false xs ys h k = k

encode_beyond : (c : ℕ) → 128 ≤ c → BeyondAscii (encode c)
unfolding encode
encode_beyond c h = rw (le-ltb c 128 h) (beyond_cond (ltb c 2048) _ _ (omega arith, (omega arith, tt)) (beyond_cond (ltb c 65536) _ _ (omega arith, (omega arith, (omega arith, tt))) (omega arith, (omega arith, (omega arith, (omega arith, tt))))))

pub escaped-plain : (c : ℕ) → (c ≡ 34 → ⊥) → (c ≡ 92 → ⊥) → escaped (encode c) ≡ encode c
escaped-plain c quote slash = ⊎_elim (λ low. rw (encode_ascii c low, ne_eqb c 34 quote, ne_eqb c 92 slash) refl) (λ high. escaped-beyond (encode c) (encode_beyond c high)) (cases_lt c 128)

-- one character more
pub escaped-char : (cs : List ℕ) (c : ℕ) → escaped (encodes (cs ++ c ∷ [])) ≡ escaped (encodes cs) ++ escaped (encode c)
escaped-char cs c = ap escaped (encodes-append cs (c ∷ []) ∙ ap (λ x. encodes cs ++ x) (append-nil (encode c))) ∙ escaped-append (encodes cs) (encode c)

-- ---- a text that needs no backslash

plain_byte : (b : Bool) → cond b false true ≡ true → b ≡ false
plain_byte false h = refl
plain_byte true h = absurd cc

pub escaped_is_plain : (bs : List ℕ) → list_all is_plain bs ≡ true → escaped bs ≡ bs
escaped_is_plain [] h = refl
escaped_is_plain (b ∷ bs) h = let parts = and_parts (is_plain b) _ h in rw (plain_byte (eqb b 34 || eqb b 92) parts.0, escaped_is_plain bs parts.1) refl
