-- The readers of values keep the law.
use Rattle.std.proofs.Common.{◌≡◌, ℕ, ℤ, zero, suc, ◌+◌, ◌-◌, ◌≤◌, List, [], ◌∷◌, Bool, true, false, inl, inr, refl, ap, sym, ◌∙◌, subst, arith, Option, Some, None}
use Rattle.std.specs.Prelude.{if◌then◌else◌, option_map, bytes_eq, codes}
use Rattle.std.proofs.lemmas.Slice.Eq.{bytes_eq-Decides}
use Rattle.isle_lexer.specs.Integer.{signed_of, magnitude}
use Rattle.isle_lexer.specs.Lexeme.{Lexeme, Open, Word}
use Rattle.isle_reading.specs.Combinators.{is_open, is_close, many}
use Rattle.isle_reading.specs.Names.{NameS, symbol, name_of}
use Rattle.isle_reading.specs.Nesting.{most_open}
use Rattle.isle_reading.specs.Reader.{Reader}
use Rattle.isle_reading.specs.Relations.{Anything, Ended, Many, none, more}
use Rattle.isle_reading.proofs.Law.{Law, Heads, Nothing, NothingLeft, Then, Either, law_map, law_next}
use Rattle.isle_reading.proofs.TokenLaws.{OpenS, WordS, Gives, law_ret, law_open, law_word, law_peek, law_barred, law_at_end}
use Rattle.isle_reading.proofs.ListLaws.{law_many}
use Rattle.isle_reading.proofs.NameLaws.{law_name}
use Rattle.isle_reading.proofs.States.{Opened, opened_open, opened_close, opened_word, opened_over}
use Rattle.isle_values.specs.Written.{Written, Writtens, Truth, Number, Made, AValue}
use Rattle.isle_values.specs.Views.{in_order}
use Rattle.isle_values.specs.Spelling.{ValueS, truth, untruth, number, made, ValuesS, no_value, a_value, ListS, list}
use Rattle.isle_values.specs.Reading.{word_value, read_simple, read_made, read_value, read_list, read_whole}

-- ---- values of one word

pub a_simple : Gives word_value
a_simple = (codes "true", Truth true, refl)

simple_by : (a b : Bool) (o : Option ℤ) (at : ℕ) (w : List ℕ) (v : Written) (rest : List Lexeme) → bytes_eq w (codes "true") ≡ a → bytes_eq w (codes "false") ≡ b → signed_of w ≡ o
    → (if a then Some (Truth true) else (if b then Some (Truth false) else option_map (λ n. Number n) o)) ≡ Some v → ValueS v (Word at w ∷ rest) rest
simple_by true b o at w v rest e f h i = subst (λ z. ValueS z (Word at w ∷ rest) rest) (let x : Truth true ≡ v = cc in x) (truth at w rest ((bytes_eq-Decides w (codes "true")).0 e))
simple_by false true o at w v rest e f h i = subst (λ z. ValueS z (Word at w ∷ rest) rest) (let x : Truth false ≡ v = cc in x) (untruth at w rest ((bytes_eq-Decides w (codes "false")).0 f))
simple_by false false None at w v rest e f h i = cc
simple_by false false (Some n) at w v rest e f h i = subst (λ z. ValueS z (Word at w ∷ rest) rest) (let x : Number n ≡ v = cc in x) (number at w n rest h)

pub simple_to : (v : Written) (ts rest : List Lexeme) → WordS word_value v ts rest → ValueS v ts rest
simple_to v ts rest (at, w, e, h) =
    subst (λ z. ValueS v z rest) (sym e) (simple_by (bytes_eq w (codes "true")) (bytes_eq w (codes "false")) (signed_of w) at w v rest refl refl refl h)

-- neither word is an integer
true_is_none : (n : ℤ) → signed_of (codes "true") ≡ Some n → ⊥
unfolding signed_of magnitude
true_is_none n e = let x : None ≡ Some n = e in cc

false_is_none : (n : ℤ) → signed_of (codes "false") ≡ Some n → ⊥
unfolding signed_of magnitude
false_is_none n e = let x : None ≡ Some n = e in cc

pub integer_value : (w : List ℕ) (n : ℤ) → signed_of w ≡ Some n → word_value w ≡ Some (Number n)
integer_value w n h = by (bytes_eq w (codes "true")) (bytes_eq w (codes "false")) refl refl
  where
    by : (a b : Bool) → bytes_eq w (codes "true") ≡ a → bytes_eq w (codes "false") ≡ b
        → (if a then Some (Truth true) else (if b then Some (Truth false) else option_map (λ n. Number n) (signed_of w))) ≡ Some (Number n)
    by true b e f = absurd (true_is_none n (ap signed_of (sym ((bytes_eq-Decides w (codes "true")).0 e)) ∙ h))
    by false true e f = absurd (false_is_none n (ap signed_of (sym ((bytes_eq-Decides w (codes "false")).0 f)) ∙ h))
    by false false e f = ap (option_map (λ n. Number n)) h

-- ---- lists

pub values_to : (vs : List Written) (ts rest : List Lexeme) → Many ValueS vs ts rest → ValuesS (in_order vs) ts rest
values_to _ _ _ (none at ts) = no_value at ts
values_to _ _ _ (more v others ts mid rest s m) = a_value v (in_order others) ts mid rest s (values_to others mid rest m)

pub values_from : (vs : Writtens) (ts rest : List Lexeme) → ValuesS vs ts rest → (xs : List Written) × (in_order xs ≡ vs) × Many ValueS xs ts rest
values_from _ _ _ (no_value at ts) = ([], refl, none at ts)
values_from _ _ _ (a_value v others ts mid rest s m) = let x = values_from others mid rest m in (v ∷ x.0, ap (λ z. AValue v z) x.1, more v x.0 ts mid rest s x.2)

-- ---- a value

abbrev MadeS : Written → List Lexeme → List Lexeme → Type 0
MadeS = Then OpenS (λ o. Then NameS (λ w. Then (Many ValueS) (λ parts. Nothing (Made w (in_order parts)))))

abbrev Shape : Written → List Lexeme → List Lexeme → Type 0
Shape = Either MadeS (WordS word_value)

made_is : (at : ℕ) (w : List ℕ) (vs us mid rest : List Lexeme) (parts : List Written) → NameS w vs us → Many ValueS parts us mid → mid ≡ rest → ValueS (Made w (in_order parts)) (Open at ∷ vs) rest
made_is at _ _ _ mid rest parts (symbol n w us nm) m q = made at n w (in_order parts) us rest nm (values_to parts us rest (subst (λ y. Many ValueS parts us y) q m))

shape_to : (x : Written) (ts rest : List Lexeme) → Shape x ts rest → ValueS x ts rest
shape_to x ts rest (inl (o, vs, eo, (w, us, nm, (parts, mid, m, (p, q))))) =
    subst (λ y. ValueS y ts rest) (sym p) (subst (λ y. ValueS (Made w (in_order parts)) y rest) (sym eo) (made_is o w vs us mid rest parts nm m q))
shape_to x ts rest (inr s) = simple_to x ts rest s

shape_from : (x : Written) (ts rest : List Lexeme) → ValueS x ts rest → Shape x ts rest
shape_from _ _ _ (truth at w ts e) = inr (at, w, refl, ap word_value e)
shape_from _ _ _ (untruth at w ts e) = inr (at, w, refl, ap word_value e)
shape_from _ _ _ (number at w n ts e) = inr (at, w, refl, integer_value w n e)
shape_from _ _ _ (made at n w parts ts rest nm m) =
    let x = values_from parts ts rest m in
    inl (at, Word n w ∷ ts, refl, (w, ts, symbol n w ts nm, (x.0, rest, x.2, (ap (λ z. Made w z) (sym x.1), refl))))

pub value_starts : (x : Written) (ts rest : List Lexeme) → ValueS x ts rest → Heads is_close false ts
value_starts _ _ _ (truth at w ts e) = (Word at w, ts, refl, refl)
value_starts _ _ _ (untruth at w ts e) = (Word at w, ts, refl, refl)
value_starts _ _ _ (number at w n ts e) = (Word at w, ts, refl, refl)
value_starts _ _ _ (made at n w parts ts rest nm m) = (Open at, Word n w ∷ ts, refl, refl)

made_heads : (x : Written) (ts rest : List Lexeme) → MadeS x ts rest → Anything rest → Heads is_open true ts
made_heads x ts rest s c = (Open s.0, s.1, s.2, refl)

simple_heads : (x : Written) (ts rest : List Lexeme) → WordS word_value x ts rest → Anything rest → Heads is_open false ts
simple_heads x ts rest s c = (Word s.0 s.1, rest, s.2, refl)

pub law_values : (n k : ℕ) (r : Reader Written) → suc k ≤ most_open → Law (Opened (suc k)) (λ v. Opened (suc k)) Anything n ValueS r → Law (Opened (suc k)) (λ vs. Opened k) Anything n (Many ValueS) (many n r)
law_values n k r l h = law_many (Opened k) n ValueS r h (λ x ts rest s. tt) (λ at ts. tt) value_starts (opened_close k l) n (omega arith)

law_made : (n k : ℕ) (r : Reader Written) → suc (suc k) ≤ most_open → Law (Opened (suc (suc k))) (λ v. Opened (suc (suc k))) Anything n ValueS r → Law (Opened (suc k)) (λ v. Opened (suc k)) Anything n MadeS (read_made n r)
unfolding read_made
law_made n k r l h =
    law_next _ _ (law_open (opened_open (suc k) l)) (λ o.
    law_next _ _ (law_name (opened_word (suc (suc k)) name_of l)) (λ w.
    law_next _ _ (law_values n (suc k) r l h) (λ parts.
    law_ret _ (λ q p. p))))

law_simple : (n k : ℕ) → k ≤ most_open → Law (Opened k) (λ v. Opened k) Anything n (WordS word_value) read_simple
unfolding read_simple
law_simple n k l = law_word word_value a_simple (opened_word k word_value l)

-- a value keeps the law if so many parentheses are open
pub law_value : (n k d : ℕ) → suc k + d ≡ most_open → Law (Opened (suc k)) (λ v. Opened (suc k)) Anything n ValueS (read_value n d)
unfolding read_value
law_value n k zero e = law_map shape_to shape_from (law_barred is_open read_simple made_heads simple_heads (opened_over (suc k) (omega (arith, e))) (law_simple n (suc k) (omega (arith, e))))
law_value n k (suc d) e =
    law_map shape_to shape_from (law_peek is_open (read_made n (read_value n d)) read_simple made_heads simple_heads
    (law_made n k (read_value n d) (omega (arith, e)) (law_value n (suc k) d (omega (arith, e)))) (law_simple n (suc k) (omega (arith, e))))

-- ---- a list, and nothing after it

abbrev pub PlainS : List Written → List Lexeme → List Lexeme → Type 0
PlainS = Then OpenS (λ o. Many ValueS)

-- a list keeps the law if so many parentheses are open
pub law_list : (n k d : ℕ) → suc k + d ≡ most_open → Law (Opened k) (λ vs. Opened k) Anything n PlainS (read_list n d)
unfolding read_list
law_list n k d e = law_next _ _ (law_open (opened_open k (omega (arith, e)))) (λ o. law_values n k (read_value n d) (omega (arith, e)) (law_value n k d e))

abbrev pub WholeS : List Written → List Lexeme → List Lexeme → Type 0
WholeS = Then PlainS (λ vs. NothingLeft vs)

most_is : 1 + (most_open - 1) ≡ most_open
unfolding most_open
most_is = refl

pub law_whole : (n : ℕ) → Law (Opened 0) (λ vs. Opened 0) Ended n WholeS (read_whole n)
unfolding read_whole
law_whole n = law_next _ _ (law_list n 0 (most_open - 1) most_is) (λ vs. law_at_end vs (λ q p. p))

pub whole_to : (vs : List Written) (ts rest : List Lexeme) → WholeS vs ts rest → ListS (in_order vs) ts
whole_to vs ts rest (ws, mid, (o, us, e, m), (f, g, h)) =
    subst (λ z. ListS (in_order z) ts) (sym f) (subst (λ z. ListS (in_order ws) z) (sym e) (list o (in_order ws) us (values_to ws us [] (subst (λ z. Many ValueS ws us z) g m))))

pub whole_from : (vs : Writtens) (ts : List Lexeme) → ListS vs ts → (xs : List Written) × (in_order xs ≡ vs) × WholeS xs ts []
whole_from _ _ (list at vs ts h) = let x = values_from vs ts [] h in (x.0, x.1, (x.0, [], (at, ts, refl, x.2), (refl, refl, refl)))
