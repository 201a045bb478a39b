-- The readers of results keep the law.
use Rattle.std.proofs.Common.{◌≡◌, ℕ, zero, suc, ◌+◌, ◌≤◌, List, ◌∷◌, true, false, inl, inr, refl, ap, sym, ◌∙◌, subst, arith, Some}
use Rattle.std.specs.Prelude.{codes}
use Rattle.isle_lexer.specs.Lexeme.{Lexeme, Open, Word}
use Rattle.isle_reading.specs.Combinators.{is_open, is_close}
use Rattle.isle_reading.specs.Nesting.{most_open}
use Rattle.isle_reading.specs.Relations.{Anything, Many}
use Rattle.isle_reading.proofs.Law.{Law, Heads, Nothing, Then, Either, law_map, law_next}
use Rattle.isle_reading.proofs.TokenLaws.{OpenS, WordS, law_ret, law_open, law_word, law_peek, law_barred}
use Rattle.isle_reading.proofs.States.{Opened, opened_open, opened_word, opened_over}
use Rattle.isle_values.specs.Written.{Written, Truth, Number, Made}
use Rattle.isle_values.specs.Views.{in_order}
use Rattle.isle_values.specs.Spelling.{ValueS, truth, untruth, number, made}
use Rattle.isle_values.specs.Reading.{word_value, read_simple, read_value}
use Rattle.isle_values.proofs.ValueLaws.{simple_to, integer_value, values_to, values_from, value_starts, a_simple, law_value, law_values}
use Rattle.isle_answers.specs.Form.{ResultForm, One, Tuple}
use Rattle.isle_answers.specs.Spelling.{IsOwn, ResultS, one, tuple}
use Rattle.isle_answers.specs.Reading.{ResultHead, TupleHead, MadeHead, result_head_of, read_result_head, read_simple_result, read_result_after, read_result_list, read_result}
use Rattle.isle_answers.proofs.HeadWords.{result_head_is, made_head, tuple_head}

-- ---- the same said by parts

-- after the first word of a list
abbrev pub ResultAfterS : ResultHead → ResultForm → List Lexeme → List Lexeme → Type 0
ResultAfterS TupleHead = Then (Many ValueS) (λ vs. Nothing (Tuple vs))
ResultAfterS (MadeHead w) = Then (Many ValueS) (λ vs. Nothing (One (Made w (in_order vs))))

abbrev pub ResultListS : ResultForm → List Lexeme → List Lexeme → Type 0
ResultListS = Then OpenS (λ o. Then (WordS result_head_of) ResultAfterS)

-- a result of one word
abbrev pub SimpleResultS : ResultForm → List Lexeme → List Lexeme → Type 0
SimpleResultS = Then (WordS word_value) (λ v. Nothing (One v))

result_to : (h : ResultHead) (at m : ℕ) (w : List ℕ) (r : ResultForm) (ts rest : List Lexeme) → result_head_of w ≡ Some h → ResultAfterS h r ts rest → ResultS r (Open at ∷ Word m w ∷ ts) rest
result_to TupleHead at m w r ts rest e (vs, mid, s, (p, q)) =
    subst (λ z. ResultS z (Open at ∷ Word m w ∷ ts) rest) (sym p) (tuple at m w vs ts rest (result_head_is w TupleHead e) (subst (λ z. Many ValueS vs ts z) q s))
result_to (MadeHead v) at m w r ts rest e (vs, mid, s, (p, q)) =
    let x = result_head_is w (MadeHead v) e in
    subst (λ z. ResultS z (Open at ∷ Word m w ∷ ts) rest) (sym (p ∙ ap (λ z. One (Made z (in_order vs))) x.0))
    (one (Made w (in_order vs)) (Open at ∷ Word m w ∷ ts) rest (made at m w (in_order vs) ts rest x.1 (values_to vs ts rest (subst (λ z. Many ValueS vs ts z) q s))) x.2)

pub result_list_to : (r : ResultForm) (ts rest : List Lexeme) → ResultListS r ts rest → ResultS r ts rest
result_list_to r ts rest (o, us, eo, (h, vs, (at, w, ew, eh), b)) =
    subst (λ z. ResultS r z rest) (sym (eo ∙ ap (λ z. Open o ∷ z) ew)) (result_to h o at w r vs rest eh b)

own_simple : (v : Written) (ts rest : List Lexeme) → WordS word_value v ts rest → ValueS v ts rest → IsOwn v
own_simple (Truth b) ts rest s h = tt
own_simple (Number n) ts rest s h = tt
own_simple (Made w parts) ts rest s (made at n v ps us re nm m) = absurd (let x : Open at ∷ Word n v ∷ us ≡ Word s.0 s.1 ∷ rest = s.2 in cc)

pub simple_result_to : (r : ResultForm) (ts rest : List Lexeme) → SimpleResultS r ts rest → ResultS r ts rest
simple_result_to r ts rest (v, mid, s, (p, q)) =
    let t = subst (λ z. WordS word_value v ts z) q s in
    let u = simple_to v ts rest t in
    subst (λ z. ResultS z ts rest) (sym p) (one v ts rest u (own_simple v ts rest t u))

shape_to : (r : ResultForm) (ts rest : List Lexeme) → Either ResultListS SimpleResultS r ts rest → ResultS r ts rest
shape_to r ts rest (inl s) = result_list_to r ts rest s
shape_to r ts rest (inr s) = simple_result_to r ts rest s

one_from : (v : Written) (ts rest : List Lexeme) → ValueS v ts rest → IsOwn v → Either ResultListS SimpleResultS (One v) ts rest
one_from _ _ _ (truth at w ts e) o = inr (Truth true, ts, (at, w, refl, ap word_value e), (refl, refl))
one_from _ _ _ (untruth at w ts e) o = inr (Truth false, ts, (at, w, refl, ap word_value e), (refl, refl))
one_from _ _ _ (number at w n ts e) o = inr (Number n, ts, (at, w, refl, integer_value w n e), (refl, refl))
one_from _ _ _ (made at n w parts ts rest nm m) o =
    let x = values_from parts ts rest m in
    inl (at, Word n w ∷ ts, refl, (MadeHead w, ts, (n, w, refl, made_head w nm o), (x.0, rest, x.2, (ap (λ z. One (Made w z)) (sym x.1), refl))))

pub result_from : (r : ResultForm) (ts rest : List Lexeme) → ResultS r ts rest → Either ResultListS SimpleResultS r ts rest
result_from _ _ _ (one v ts rest s o) = one_from v ts rest s o
result_from _ _ _ (tuple at h w vs ts rest e m) = inl (at, Word h w ∷ ts, refl, (TupleHead, ts, (h, w, refl, tuple_head w e), (vs, rest, m, (refl, refl))))

pub result_starts : (r : ResultForm) (ts rest : List Lexeme) → ResultS r ts rest → Heads is_close false ts
result_starts _ _ _ (one v ts rest s o) = value_starts v ts rest s
result_starts _ _ _ (tuple at h w vs ts rest e m) = (Open at, Word h w ∷ ts, refl, refl)

list_heads : (r : ResultForm) (ts rest : List Lexeme) → ResultListS r ts rest → Anything rest → Heads is_open true ts
list_heads r ts rest s c = (Open s.0, s.1, s.2, refl)

pub simple_result_heads : (r : ResultForm) (ts rest : List Lexeme) → SimpleResultS r ts rest → Anything rest → Heads is_open false ts
simple_result_heads r ts rest (v, mid, (at, w, e, h), x) c = (Word at w, mid, e, refl)

a_tuple : result_head_of (codes "tuple") ≡ Some TupleHead
a_tuple = refl

pub law_simple_result : (n k : ℕ) → k ≤ most_open → Law (Opened k) (λ r. Opened k) Anything n SimpleResultS read_simple_result
unfolding read_simple_result read_simple
law_simple_result n k l = law_next _ _ (law_word word_value a_simple (opened_word k word_value l)) (λ v. law_ret _ (λ q p. p))

-- after the first word, if the parenthesis is open
pub law_result_after : (n k d : ℕ) → suc k + d ≡ most_open → (h : ResultHead) → Law (Opened (suc k)) (λ r. Opened k) Anything n (ResultAfterS h) (read_result_after n d h)
unfolding read_result_after
law_result_after n k d e TupleHead = law_next _ _ (law_values n k (read_value n d) (omega (arith, e)) (law_value n k d e)) (λ vs. law_ret _ (λ q p. p))
law_result_after n k d e (MadeHead w) = law_next _ _ (law_values n k (read_value n d) (omega (arith, e)) (law_value n k d e)) (λ vs. law_ret _ (λ q p. p))

law_list : (n k d : ℕ) → suc k + d ≡ most_open → Law (Opened k) (λ r. Opened k) Anything n ResultListS (read_result_list n d)
unfolding read_result_list read_result_head
law_list n k d e =
    law_next _ _ (law_open (opened_open k (omega (arith, e)))) (λ o.
    law_next _ _ (law_word result_head_of (codes "tuple", TupleHead, a_tuple) (opened_word (suc k) result_head_of (omega (arith, e)))) (λ h. law_result_after n k d e h))

pub law_result : (n k d : ℕ) → suc k + d ≡ most_open → Law (Opened (suc k)) (λ r. Opened (suc k)) Anything n ResultS (read_result n d)
unfolding read_result
law_result n k zero e = law_map shape_to result_from (law_barred is_open read_simple_result list_heads simple_result_heads (opened_over (suc k) (omega (arith, e))) (law_simple_result n (suc k) (omega (arith, e))))
law_result n k (suc d) e =
    law_map shape_to result_from (law_peek is_open (read_result_list n d) read_simple_result list_heads simple_result_heads (law_list n (suc k) d (omega (arith, e))) (law_simple_result n (suc k) (omega (arith, e))))
