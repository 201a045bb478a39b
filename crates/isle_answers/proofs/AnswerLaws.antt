-- The readers of answers keep the law.
use Rattle.std.proofs.Common.{◌≡◌, ℕ, zero, suc, ◌+◌, ◌≤◌, List, ◌∷◌, true, false, inl, inr, refl, ap, sym, ◌∙◌, subst, arith, Some}
use Rattle.std.specs.Prelude.{codes}
use Rattle.isle_lexer.specs.Lexeme.{Lexeme, Open, Close, Word}
use Rattle.isle_reading.specs.Combinators.{is_open, is_close, read_close}
use Rattle.isle_reading.specs.Nesting.{most_open}
use Rattle.isle_reading.specs.Reader.{Ret, bind}
use Rattle.isle_reading.specs.Relations.{Anything, Many}
use Rattle.isle_reading.proofs.Law.{Law, Heads, Some_token, Nothing, Then, Either, law_map, law_next}
use Rattle.isle_reading.proofs.TokenLaws.{OpenS, CloseS, WordS, law_ret, law_open, law_close, law_word, law_peek, law_barred}
use Rattle.isle_reading.proofs.ListLaws.{law_many}
use Rattle.isle_reading.proofs.States.{Opened, opened_open, opened_close, opened_word, opened_over}
use Rattle.isle_answers.specs.Form.{ResultForm, One, Tuple, AnswerForm, Plain, Found, Several}
use Rattle.isle_answers.specs.Form as form
use Rattle.isle_answers.specs.Spelling.{ResultS, AnswerS, plain, found, nothing, several}
use Rattle.isle_answers.specs.Reading.{ResultHead, TupleHead, MadeHead, AnswerHead, SomeHead, NoneHead, ListHead, ResultIs, result_head_of, answer_head_of, read_answer_head, read_result, read_answer_after, read_answer_list, read_simple_answer, read_answer}
use Rattle.isle_answers.proofs.HeadWords.{result_head_is, answer_head_is, some_head, none_head, list_head, own_head, plain_tuple_head}
use Rattle.isle_answers.proofs.ResultLaws.{ResultAfterS, ResultListS, SimpleResultS, result_list_to, simple_result_to, result_from, result_starts, simple_result_heads, law_simple_result, law_result_after, law_result}

-- ---- the same said by parts

abbrev NoAnswerS : AnswerForm → List Lexeme → List Lexeme → Type 0
NoAnswerS = Then CloseS (λ c. Nothing form.Nothing)

-- after the first word of a list
abbrev AnswerAfterS : AnswerHead → AnswerForm → List Lexeme → List Lexeme → Type 0
AnswerAfterS SomeHead = Then ResultS (λ r. Then CloseS (λ c. Nothing (Found r)))
AnswerAfterS NoneHead = NoAnswerS
AnswerAfterS ListHead = Then (Many ResultS) (λ rs. Nothing (Several rs))
AnswerAfterS (ResultIs h) = Then (ResultAfterS h) (λ r. Nothing (Plain r))

abbrev AnswerListS : AnswerForm → List Lexeme → List Lexeme → Type 0
AnswerListS = Then OpenS (λ o. Then (WordS answer_head_of) AnswerAfterS)

-- an answer of one word
abbrev SimpleAnswerS : AnswerForm → List Lexeme → List Lexeme → Type 0
SimpleAnswerS = Then SimpleResultS (λ r. Nothing (Plain r))

answer_to : (h : AnswerHead) (at m : ℕ) (w : List ℕ) (a : AnswerForm) (ts rest : List Lexeme) → answer_head_of w ≡ Some h → AnswerAfterS h a ts rest → AnswerS a (Open at ∷ Word m w ∷ ts) rest
answer_to SomeHead at m w a ts rest e (r, mid, s, (c, us, ec, (p, q))) =
    subst (λ z. AnswerS z (Open at ∷ Word m w ∷ ts) rest) (sym p)
    (found at m c w r ts rest (answer_head_is w SomeHead e) (subst (λ z. ResultS r ts z) (ec ∙ ap (λ z. Close c ∷ z) q) s))
answer_to NoneHead at m w a ts rest e (c, us, ec, (p, q)) =
    subst (λ z. AnswerS z (Open at ∷ Word m w ∷ ts) rest) (sym p)
    (subst (λ z. AnswerS form.Nothing (Open at ∷ Word m w ∷ z) rest) (sym (ec ∙ ap (λ z. Close c ∷ z) q)) (nothing at m c w rest (answer_head_is w NoneHead e)))
answer_to ListHead at m w a ts rest e (rs, mid, s, (p, q)) =
    subst (λ z. AnswerS z (Open at ∷ Word m w ∷ ts) rest) (sym p) (several at m w rs ts rest (answer_head_is w ListHead e) (subst (λ z. Many ResultS rs ts z) q s))
answer_to (ResultIs h) at m w a ts rest e (r, mid, s, (p, q)) =
    subst (λ z. AnswerS z (Open at ∷ Word m w ∷ ts) rest) (sym p)
    (plain r (Open at ∷ Word m w ∷ ts) rest (result_list_to r (Open at ∷ Word m w ∷ ts) rest (at, Word m w ∷ ts, refl, (h, ts, (m, w, refl, answer_head_is w (ResultIs h) e), subst (λ z. ResultAfterS h r ts z) q s))))

list_to : (a : AnswerForm) (ts rest : List Lexeme) → AnswerListS a ts rest → AnswerS a ts rest
list_to a ts rest (o, us, eo, (h, vs, (at, w, ew, eh), b)) =
    subst (λ z. AnswerS a z rest) (sym (eo ∙ ap (λ z. Open o ∷ z) ew)) (answer_to h o at w a vs rest eh b)

shape_to : (a : AnswerForm) (ts rest : List Lexeme) → Either AnswerListS SimpleAnswerS a ts rest → AnswerS a ts rest
shape_to a ts rest (inl s) = list_to a ts rest s
shape_to a ts rest (inr (r, mid, s, (p, q))) = subst (λ z. AnswerS z ts rest) (sym p) (plain r ts rest (simple_result_to r ts rest (subst (λ z. SimpleResultS r ts z) q s)))

-- a result's first word is an answer's
plain_head : (h : ResultHead) (w : List ℕ) → result_head_of w ≡ Some h → answer_head_of w ≡ Some (ResultIs h)
plain_head TupleHead w e = plain_tuple_head w (result_head_is w TupleHead e)
plain_head (MadeHead v) w e = let x = result_head_is w (MadeHead v) e in own_head w x.1 x.2 ∙ ap (λ z. Some (ResultIs (MadeHead z))) (sym x.0)

plain_from : (r : ResultForm) (ts rest : List Lexeme) → Either ResultListS SimpleResultS r ts rest → Either AnswerListS SimpleAnswerS (Plain r) ts rest
plain_from r ts rest (inl (o, us, eo, (h, vs, (at, w, ew, eh), b))) = inl (o, us, eo, (ResultIs h, vs, (at, w, ew, plain_head h w eh), (r, rest, b, (refl, refl))))
plain_from r ts rest (inr s) = inr (r, rest, s, (refl, refl))

shape_from : (a : AnswerForm) (ts rest : List Lexeme) → AnswerS a ts rest → Either AnswerListS SimpleAnswerS a ts rest
shape_from _ _ _ (plain r ts rest s) = plain_from r ts rest (result_from r ts rest s)
shape_from _ _ _ (found at h c w r ts rest e s) =
    inl (at, Word h w ∷ ts, refl, (SomeHead, ts, (h, w, refl, some_head w e), (r, Close c ∷ rest, s, (c, rest, refl, (refl, refl)))))
shape_from _ _ _ (nothing at h c w rest e) =
    inl (at, Word h w ∷ Close c ∷ rest, refl, (NoneHead, Close c ∷ rest, (h, w, refl, none_head w e), (c, rest, refl, (refl, refl))))
shape_from _ _ _ (several at h w rs ts rest e m) =
    inl (at, Word h w ∷ ts, refl, (ListHead, ts, (h, w, refl, list_head w e), (rs, rest, m, (refl, refl))))

pub answer_starts : (a : AnswerForm) (ts rest : List Lexeme) → AnswerS a ts rest → Heads is_close false ts
answer_starts _ _ _ (plain r ts rest s) = result_starts r ts rest s
answer_starts _ _ _ (found at h c w r ts rest e s) = (Open at, Word h w ∷ ts, refl, refl)
answer_starts _ _ _ (nothing at h c w rest e) = (Open at, Word h w ∷ Close c ∷ rest, refl, refl)
answer_starts _ _ _ (several at h w rs ts rest e m) = (Open at, Word h w ∷ ts, refl, refl)

list_heads : (a : AnswerForm) (ts rest : List Lexeme) → AnswerListS a ts rest → Anything rest → Heads is_open true ts
list_heads a ts rest s c = (Open s.0, s.1, s.2, refl)

word_heads : (a : AnswerForm) (ts rest : List Lexeme) → SimpleAnswerS a ts rest → Anything rest → Heads is_open false ts
word_heads a ts rest s c = simple_result_heads s.0 ts s.1 s.2 tt

a_none : answer_head_of (codes "none") ≡ Some NoneHead
a_none = refl

law_simple_answer : (n k : ℕ) → k ≤ most_open → Law (Opened k) (λ a. Opened k) Anything n SimpleAnswerS read_simple_answer
unfolding read_simple_answer
law_simple_answer n k l = law_next _ _ (law_simple_result n k l) (λ r. law_ret _ (λ q p. p))

-- a closing parenthesis, and the answer
law_closed : (n k : ℕ) (a : AnswerForm) → suc k ≤ most_open → Law (Opened (suc k)) (λ a. Opened k) Anything n (Then CloseS (λ c. Nothing a)) (bind read_close (λ c. Ret a))
law_closed n k a l = law_next _ _ (law_close (opened_close k l)) (λ c. law_ret _ (λ q p. p))

law_answer_after : (n k d : ℕ) → suc k + d ≡ most_open → (h : AnswerHead) → Law (Opened (suc k)) (λ a. Opened k) Anything n (AnswerAfterS h) (read_answer_after n d h)
unfolding read_answer_after
law_answer_after n k d e SomeHead = law_next _ _ (law_result n k d e) (λ r. law_closed n k (Found r) (omega (arith, e)))
law_answer_after n k d e NoneHead = law_closed n k form.Nothing (omega (arith, e))
law_answer_after n k d e ListHead =
    law_next _ _ (law_many (Opened k) n ResultS (read_result n d) (law_result n k d e) (λ r ts rest s. tt) (λ at ts. tt) result_starts (opened_close k (omega (arith, e))) n (omega arith)) (λ rs. law_ret _ (λ q p. p))
law_answer_after n k d e (ResultIs h) = law_next _ _ (law_result_after n k d e h) (λ r. law_ret _ (λ q p. p))

law_list : (n k d : ℕ) → suc k + d ≡ most_open → Law (Opened k) (λ a. Opened k) Anything n AnswerListS (read_answer_list n d)
unfolding read_answer_list read_answer_head
law_list n k d e =
    law_next _ _ (law_open (opened_open k (omega (arith, e)))) (λ o.
    law_next _ _ (law_word answer_head_of (codes "none", NoneHead, a_none) (opened_word (suc k) answer_head_of (omega (arith, e)))) (λ h. law_answer_after n k d e h))

pub law_answer : (n k d : ℕ) → suc k + d ≡ most_open → Law (Opened (suc k)) (λ a. Opened (suc k)) Anything n AnswerS (read_answer n d)
unfolding read_answer
law_answer n k zero e = law_map shape_to shape_from (law_barred is_open read_simple_answer list_heads word_heads (opened_over (suc k) (omega (arith, e))) (law_simple_answer n (suc k) (omega (arith, e))))
law_answer n k (suc d) e =
    law_map shape_to shape_from (law_peek is_open (read_answer_list n d) read_simple_answer list_heads word_heads (law_list n (suc k) d (omega (arith, e))) (law_simple_answer n (suc k) (omega (arith, e))))

-- an answer begins with a token
pub answer_some : (a : AnswerForm) (ts rest : List Lexeme) → AnswerS a ts rest → Some_token ts
answer_some a ts rest s = let x = answer_starts a ts rest s in (x.0, x.1, x.2)
