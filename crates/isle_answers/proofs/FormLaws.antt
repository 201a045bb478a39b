-- The reader of a form keeps the law.
use Rattle.std.proofs.Common.{◌≡◌, ℕ, ◌+◌, ◌-◌, ◌≤◌, List, [], ◌∷◌, Bool, true, false, refl, ap, sym, ◌∙◌, subst, arith, Some, None}
use Rattle.std.specs.Prelude.{if◌then◌else◌, ◌&&◌, bytes_eq, codes}
use Rattle.std.proofs.lemmas.Slice.Eq.{bytes_eq-Decides}
use Rattle.isle_core.specs.declared.values.Callee.TheVariants.{External}
use Rattle.isle_lexer.specs.Lexeme.{Lexeme, Open, Close, Word}
use Rattle.isle_reading.specs.Names.{NameS, symbol, name_of}
use Rattle.isle_reading.specs.Nesting.{most_open}
use Rattle.isle_reading.specs.Combinators.{read_close}
use Rattle.isle_reading.specs.Reader.{Ret, bind}
use Rattle.isle_reading.specs.Relations.{Anything}
use Rattle.isle_reading.proofs.Law.{Law, Some_token, Nothing, Then, law_next}
use Rattle.isle_reading.proofs.TokenLaws.{OpenS, CloseS, WordS, law_ret, law_open, law_close, law_word}
use Rattle.isle_reading.proofs.NameLaws.{law_name}
use Rattle.isle_reading.proofs.States.{Opened, opened_open, opened_close, opened_word}
use Rattle.isle_values.specs.Spelling.{ValueS}
use Rattle.isle_values.proofs.ValueLaws.{law_value}
use Rattle.isle_answers.specs.Form.{Form}
use Rattle.isle_answers.specs.Form as form
use Rattle.isle_answers.specs.Words.{count_of, callee_of}
use Rattle.isle_answers.specs.Spelling.{CasesS, TurnsS, FormS, const, answers, turns, FormsS, a_form, held_form}
use Rattle.isle_answers.specs.Reading.{FormHead, HeldHead, ConstHead, AnswersHead, TurnsHead, form_head_of, held_after, read_form_head, read_count, read_callee, read_held, read_const, read_answers, read_turned, read_form_after, read_form}
use Rattle.isle_answers.proofs.CaseLaws.{OntoS, law_cases}
use Rattle.isle_answers.proofs.TurnLaws.{TurnsPS, law_turns}

-- ---- the first word

both_true : (x y : Bool) → (x && y) ≡ true → (x ≡ true) × (y ≡ true)
both_true true y e = (refl, e)
both_true false y e = cc

abbrev IsFormHead : (held : Bool) → FormHead → List ℕ → Type 0
IsFormHead held HeldHead w = (held ≡ true) × (w ≡ codes "held")
IsFormHead held ConstHead w = w ≡ codes "const"
IsFormHead held AnswersHead w = w ≡ codes "answers"
IsFormHead held TurnsHead w = w ≡ codes "turns"

form_by : (held p c d e : Bool) (w : List ℕ) (h : FormHead) → (held && bytes_eq w (codes "held")) ≡ p
    → bytes_eq w (codes "const") ≡ c → bytes_eq w (codes "answers") ≡ d → bytes_eq w (codes "turns") ≡ e
    → (if p then Some HeldHead else (if c then Some ConstHead else (if d then Some AnswersHead else (if e then Some TurnsHead else None)))) ≡ Some h → IsFormHead held h w
form_by held true c d e w h ep ec ed ee f =
    let x = both_true held (bytes_eq w (codes "held")) ep in
    subst (λ z. IsFormHead held z w) (let y : HeldHead ≡ h = cc in y) (x.0, (bytes_eq-Decides w (codes "held")).0 x.1)
form_by held false true d e w h ep ec ed ee f = subst (λ z. IsFormHead held z w) (let y : ConstHead ≡ h = cc in y) ((bytes_eq-Decides w (codes "const")).0 ec)
form_by held false false true e w h ep ec ed ee f = subst (λ z. IsFormHead held z w) (let y : AnswersHead ≡ h = cc in y) ((bytes_eq-Decides w (codes "answers")).0 ed)
form_by held false false false true w h ep ec ed ee f = subst (λ z. IsFormHead held z w) (let y : TurnsHead ≡ h = cc in y) ((bytes_eq-Decides w (codes "turns")).0 ee)
form_by held false false false false w h ep ec ed ee f = cc

form_head_is : (held : Bool) (w : List ℕ) (h : FormHead) → form_head_of held w ≡ Some h → IsFormHead held h w
form_head_is held w h e =
    form_by held (held && bytes_eq w (codes "held")) (bytes_eq w (codes "const")) (bytes_eq w (codes "answers")) (bytes_eq w (codes "turns")) w h refl refl refl refl e

held_head : (w : List ℕ) → w ≡ codes "held" → form_head_of true w ≡ Some HeldHead
held_head w e = ap (form_head_of true) e

const_head : (held : Bool) (w : List ℕ) → w ≡ codes "const" → form_head_of held w ≡ Some ConstHead
const_head true w e = ap (form_head_of true) e
const_head false w e = ap (form_head_of false) e

answers_head : (held : Bool) (w : List ℕ) → w ≡ codes "answers" → form_head_of held w ≡ Some AnswersHead
answers_head true w e = ap (form_head_of true) e
answers_head false w e = ap (form_head_of false) e

turns_head : (held : Bool) (w : List ℕ) → w ≡ codes "turns" → form_head_of held w ≡ Some TurnsHead
turns_head true w e = ap (form_head_of true) e
turns_head false w e = ap (form_head_of false) e

-- ---- the same said by parts

abbrev FormAfterS : ℕ → FormHead → Form → List Lexeme → List Lexeme → Type 0
FormAfterS at HeldHead = Then (WordS count_of) (λ n. Then CloseS (λ c. Nothing (form.Held n at)))
FormAfterS at ConstHead = Then NameS (λ name. Then ValueS (λ v. Then CloseS (λ c. Nothing (form.Const name v at))))
FormAfterS at AnswersHead = Then (WordS callee_of) (λ callee. Then (OntoS []) (λ x. Nothing (form.Answers callee x.0 x.1 at)))
FormAfterS at TurnsHead = Then (WordS callee_of) (λ callee. Then TurnsPS (λ x. Nothing (form.Turns callee x.0 x.1 at)))

-- a form, where `held` may still stand or may not
abbrev pub OneS : (held : Bool) → Form → List Lexeme → List Lexeme → Type 0
OneS held = Then OpenS (λ at. Then (WordS (form_head_of held)) (λ h. FormAfterS at h))

held_is : (at : ℕ) (f : Form) (ts rest : List Lexeme) → FormAfterS at HeldHead f ts rest → (count n c : ℕ) × (digits : List ℕ) × (ts ≡ Word n digits ∷ Close c ∷ rest) × (count_of digits ≡ Some count) × (f ≡ form.Held count at)
held_is at f ts rest (k, mid, (n, w, ew, ec), (c, us, eu, (p, q))) = (k, n, c, w, ew ∙ ap (λ z. Word n w ∷ z) (eu ∙ ap (λ z. Close c ∷ z) q), ec, p)

const_is : (at n : ℕ) (w name : List ℕ) (f : Form) (ts us rest : List Lexeme) → w ≡ codes "const" → NameS name ts us → Then ValueS (λ v. Then CloseS (λ c. Nothing (form.Const name v at))) f us rest → FormS f (Open at ∷ Word n w ∷ ts) rest
const_is at n w _ f _ _ rest e (symbol m name us nm) (v, mid, s, (c, vs, ec, (p, q))) =
    subst (λ z. FormS z (Open at ∷ Word n w ∷ Word m name ∷ us) rest) (sym p) (const at n m c w name v us rest e nm (subst (λ z. ValueS v us z) (ec ∙ ap (λ z. Close c ∷ z) q) s))

answers_is : (at n : ℕ) (w : List ℕ) (f : Form) (ts rest : List Lexeme) → w ≡ codes "answers" → FormAfterS at AnswersHead f ts rest → FormS f (Open at ∷ Word n w ∷ ts) rest
answers_is at n w f ts rest e (callee, us, (m, name, en, ec), (x, mid, (cases, s, g), (p, q))) =
    subst (λ z. FormS z (Open at ∷ Word n w ∷ ts) rest) (sym (p ∙ ap (λ z. form.Answers callee z x.1 at) g))
    (subst (λ z. FormS (form.Answers callee cases x.1 at) (Open at ∷ Word n w ∷ z) rest) (sym en) (answers at n m w name callee cases x.1 us rest e ec (subst (λ z. CasesS cases x.1 us z) q s)))

turns_is : (at n : ℕ) (w : List ℕ) (f : Form) (ts rest : List Lexeme) → w ≡ codes "turns" → FormAfterS at TurnsHead f ts rest → FormS f (Open at ∷ Word n w ∷ ts) rest
turns_is at n w f ts rest e (callee, us, (m, name, en, ec), (x, mid, s, (p, q))) =
    subst (λ z. FormS z (Open at ∷ Word n w ∷ ts) rest) (sym p)
    (subst (λ z. FormS (form.Turns callee x.0 x.1 at) (Open at ∷ Word n w ∷ z) rest) (sym en) (turns at n m w name callee x.0 x.1 us rest e ec (subst (λ z. TurnsS x.0 x.1 us z) q s)))

-- a form that may stand anywhere changes nothing
stays : (held : Bool) (f : Form) (others : List Form) (ts rest : List Lexeme) → FormS f ts rest → FormsS (held_after held f) others rest → FormsS held (f ∷ others) ts
stays held _ others _ _ (const at h n c w name v ts rest e nm s) k = a_form held _ others _ rest (const at h n c w name v ts rest e nm s) k
stays held _ others _ _ (answers at h n w name callee cases a ts rest e ec s) k = a_form held _ others _ rest (answers at h n w name callee cases a ts rest e ec s) k
stays held _ others _ _ (turns at h n w name callee ts a us rest e ec s) k = a_form held _ others _ rest (turns at h n w name callee ts a us rest e ec s) k

after_forms : (held : Bool) (h : FormHead) (at n : ℕ) (w : List ℕ) (f : Form) (others : List Form) (ts rest : List Lexeme) → IsFormHead held h w → FormAfterS at h f ts rest
    → FormsS (held_after held f) others rest → FormsS held (f ∷ others) (Open at ∷ Word n w ∷ ts)
after_forms held HeldHead at n w f others ts rest x s k =
    let y = held_is at f ts rest s in
    subst (λ z. FormsS held (z ∷ others) (Open at ∷ Word n w ∷ ts)) (sym y.6)
    (subst (λ z. FormsS z (form.Held y.0 at ∷ others) (Open at ∷ Word n w ∷ ts)) (sym x.0)
    (subst (λ z. FormsS true (form.Held y.0 at ∷ others) (Open at ∷ Word n w ∷ z)) (sym y.4)
    (held_form at n y.1 y.2 y.0 w y.3 others rest x.1 y.5 (subst (λ z. FormsS (held_after held z) others rest) y.6 k))))
after_forms held ConstHead at n w f others ts rest x (name, us, nm, s) k = stays held f others (Open at ∷ Word n w ∷ ts) rest (const_is at n w name f ts us rest x nm s) k
after_forms held AnswersHead at n w f others ts rest x s k = stays held f others (Open at ∷ Word n w ∷ ts) rest (answers_is at n w f ts rest x s) k
after_forms held TurnsHead at n w f others ts rest x s k = stays held f others (Open at ∷ Word n w ∷ ts) rest (turns_is at n w f ts rest x s) k

-- one form, and the others
pub one_forms : (held : Bool) (f : Form) (others : List Form) (ts rest : List Lexeme) → OneS held f ts rest → FormsS (held_after held f) others rest → FormsS held (f ∷ others) ts
one_forms held f others ts rest (at, us, eo, (h, vs, (n, w, ew, eh), b)) k =
    subst (λ z. FormsS held (f ∷ others) z) (sym (eo ∙ ap (λ z. Open at ∷ z) ew)) (after_forms held h at n w f others vs rest (form_head_is held w h eh) b k)

-- a form that may stand anywhere, and that it changes nothing
pub form_one : (held : Bool) (f : Form) (ts rest : List Lexeme) → FormS f ts rest → OneS held f ts rest × (held_after held f ≡ held)
form_one held _ _ _ (const at h n c w name v ts rest e nm s) =
    ((at, Word h w ∷ Word n name ∷ ts, refl, (ConstHead, Word n name ∷ ts, (h, w, refl, const_head held w e), (name, ts, symbol n name ts nm, (v, Close c ∷ rest, s, (c, rest, refl, (refl, refl)))))), refl)
form_one held _ _ _ (answers at h n w name callee cases a ts rest e ec s) =
    ((at, Word h w ∷ Word n name ∷ ts, refl, (AnswersHead, Word n name ∷ ts, (h, w, refl, answers_head held w e), (callee, ts, (n, name, refl, ec), ((cases, a), rest, (cases, s, refl), (refl, refl))))), refl)
form_one held _ _ _ (turns at h n w name callee ts a us rest e ec s) =
    ((at, Word h w ∷ Word n name ∷ us, refl, (TurnsHead, Word n name ∷ us, (h, w, refl, turns_head held w e), (callee, us, (n, name, refl, ec), ((ts, a), rest, s, (refl, refl))))), refl)

pub held_one : (at h n c count : ℕ) (w digits : List ℕ) (rest : List Lexeme) → w ≡ codes "held" → count_of digits ≡ Some count → OneS true (form.Held count at) (Open at ∷ Word h w ∷ Word n digits ∷ Close c ∷ rest) rest
held_one at h n c count w digits rest e ec =
    (at, Word h w ∷ Word n digits ∷ Close c ∷ rest, refl, (HeldHead, Word n digits ∷ Close c ∷ rest, (h, w, refl, held_head w e), (count, Close c ∷ rest, (n, digits, refl, ec), (c, rest, refl, (refl, refl)))))

pub one_some : (held : Bool) (f : Form) (ts rest : List Lexeme) → OneS held f ts rest → Some_token ts
one_some held f ts rest s = (Open s.0, s.1, s.2)

-- ---- words that something is

a_count : count_of (codes "1") ≡ Some 1
unfolding count_of
a_count = refl

a_callee : callee_of (codes "C::f") ≡ Some (External (codes "f"))
unfolding callee_of
a_callee = refl

-- ---- a form

module _ (n d : ℕ) (fits : 1 + d ≡ most_open) (two : 2 ≤ d) where
  law_callee : Law (Opened 1) (λ callee. Opened 1) Anything n (WordS callee_of) read_callee
  unfolding read_callee
  law_callee = law_word callee_of (codes "C::f", External (codes "f"), a_callee) (opened_word 1 callee_of (omega (arith, fits)))

  law_closed : (f : Form) → Law (Opened 1) (λ f. Opened 0) Anything n (Then CloseS (λ c. Nothing f)) (bind read_close (λ c. Ret f))
  law_closed f = law_next _ _ (law_close (opened_close 0 (omega (arith, fits)))) (λ c. law_ret _ (λ q p. p))

  law_form_after : (at : ℕ) (h : FormHead) → Law (Opened 1) (λ f. Opened 0) Anything n (FormAfterS at h) (read_form_after n d at h)
  unfolding read_count read_held read_const read_answers read_turned
  law_form_after at HeldHead = law_next _ _ (law_word count_of (codes "1", 1, a_count) (opened_word 1 count_of (omega (arith, fits)))) (λ count. law_closed (form.Held count at))
  law_form_after at ConstHead =
      law_next _ _ (law_name (opened_word 1 name_of (omega (arith, fits)))) (λ name.
      law_next _ _ (law_value n 0 d fits) (λ v. law_closed (form.Const name v at)))
  law_form_after at AnswersHead =
      law_next _ _ law_callee (λ callee.
      law_next _ _ (law_cases n (d - 1) (omega (arith, fits, two)) (omega (arith, two)) n (omega arith) []) (λ x. law_ret _ (λ q p. p)))
  law_form_after at TurnsHead = law_next _ _ law_callee (λ callee. law_next _ _ (law_turns n d fits) (λ x. law_ret _ (λ q p. p)))

  some_form : (held : Bool) → form_head_of held (codes "const") ≡ Some ConstHead
  some_form held = const_head held (codes "const") refl

  pub law_form : (held : Bool) → Law (Opened 0) (λ f. Opened 0) Anything n (OneS held) (read_form n d held)
  unfolding read_form read_form_head
  law_form held =
      law_next _ _ (law_open (opened_open 0 (omega (arith, fits)))) (λ at.
      law_next _ _ (law_word (form_head_of held) (codes "const", ConstHead, some_form held) (opened_word 1 (form_head_of held) (omega (arith, fits)))) (λ h. law_form_after at h))
