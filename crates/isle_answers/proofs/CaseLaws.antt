-- The reader of cases keeps the law.
use Rattle.std.proofs.Common.{◌≡◌, ℕ, zero, suc, ◌+◌, ◌-◌, ◌≤◌, List, [], ◌∷◌, ◌++◌, append-nil, append_assoc, Bool, true, false, refl, ap, sym, ◌∙◌, subst, arith, Some, None}
use Rattle.std.specs.Prelude.{if◌then◌else◌, bytes_eq, codes}
use Rattle.std.proofs.lemmas.Slice.Eq.{bytes_eq-Decides}
use Rattle.isle_lexer.specs.Lexeme.{Lexeme, Open, Close, Word}
use Rattle.isle_reading.specs.Combinators.{read_open}
use Rattle.isle_reading.specs.Nesting.{most_open}
use Rattle.isle_reading.specs.Relations.{Begins, Anything}
use Rattle.isle_reading.proofs.Law.{Law, Some_token, Nothing, Then, law_map, law_less, law_less_then, law_next}
use Rattle.isle_reading.proofs.TokenLaws.{OpenS, CloseS, WordS, law_ret, law_open, law_close, law_word}
use Rattle.isle_reading.proofs.States.{Opened, opened_open, opened_close, opened_word}
use Rattle.isle_values.specs.Written.{Truth}
use Rattle.isle_values.specs.Spelling.{truth}
use Rattle.isle_values.proofs.ValueLaws.{PlainS, law_list}
use Rattle.isle_answers.specs.Form.{One, AnswerForm, Plain, CaseForm}
use Rattle.isle_answers.specs.Spelling.{one, AnswerS, plain, RestS, rest_of, CasesS, no_case, a_case}
use Rattle.isle_answers.specs.Reading.{PartHead, CaseHead, RestHead, Cases, part_head_of, read_part_head, read_case, read_rest, read_part, read_cases}
use Rattle.isle_answers.proofs.AnswerLaws.{law_answer}
use Rattle.isle_answers.proofs.Fuel.{law_out, takes}

-- ---- the first word

abbrev IsPartHead : PartHead → List ℕ → Type 0
IsPartHead CaseHead w = w ≡ codes "case"
IsPartHead RestHead w = w ≡ codes "rest"

part_by : (a b : Bool) (w : List ℕ) (h : PartHead) → bytes_eq w (codes "case") ≡ a → bytes_eq w (codes "rest") ≡ b → (if a then Some CaseHead else (if b then Some RestHead else None)) ≡ Some h → IsPartHead h w
part_by true b w h e f g = subst (λ z. IsPartHead z w) (let x : CaseHead ≡ h = cc in x) ((bytes_eq-Decides w (codes "case")).0 e)
part_by false true w h e f g = subst (λ z. IsPartHead z w) (let x : RestHead ≡ h = cc in x) ((bytes_eq-Decides w (codes "rest")).0 f)
part_by false false w h e f g = cc

part_head_is : (w : List ℕ) (h : PartHead) → part_head_of w ≡ Some h → IsPartHead h w
part_head_is w h e = part_by (bytes_eq w (codes "case")) (bytes_eq w (codes "rest")) w h refl refl e

case_head : (w : List ℕ) → w ≡ codes "case" → part_head_of w ≡ Some CaseHead
case_head w e = ap part_head_of e

rest_head : (w : List ℕ) → w ≡ codes "rest" → part_head_of w ≡ Some RestHead
rest_head w e = ap part_head_of e

-- ---- the same said by parts

abbrev CaseS : CaseForm → List Lexeme → List Lexeme → Type 0
CaseS = Then PlainS (λ args. Then AnswerS (λ a. Then CloseS (λ c. Nothing (record { args = args; answer = a }))))

abbrev RestAfterS : AnswerForm → List Lexeme → List Lexeme → Type 0
RestAfterS = Then AnswerS (λ a. Then CloseS (λ c. Then CloseS (λ e. Nothing a)))

-- cases after those that were read, and the rest
abbrev pub OntoS : List CaseForm → Cases → List Lexeme → List Lexeme → Type 0
OntoS done x ts rest = (others : List CaseForm) × CasesS others x.1 ts rest × (x.0 ≡ done ++ others)

abbrev PartS : List CaseForm → PartHead → Cases → List Lexeme → List Lexeme → Type 0
PartS done CaseHead = Then CaseS (λ c. OntoS (done ++ c ∷ []))
PartS done RestHead = Then RestAfterS (λ a. Nothing (done, a))

abbrev Shape : List CaseForm → Cases → List Lexeme → List Lexeme → Type 0
Shape done = Then OpenS (λ o. Then (WordS part_head_of) (PartS done))

case_is : (c : CaseForm) (at o m : ℕ) (w : List ℕ) (others : List CaseForm) (a : AnswerForm) (ts mid rest : List Lexeme) → w ≡ codes "case" → CaseS c ts mid → CasesS others a mid rest → CasesS (c ∷ others) a (Open at ∷ Word m w ∷ ts) rest
case_is c at o m w others a ts mid rest ew (args, us, (k, vs, eo, ma), (answer, ws, sa, (e, xs, ec, (p, q)))) s =
    subst (λ z. CasesS (z ∷ others) a (Open at ∷ Word m w ∷ ts) rest) (sym p)
    (subst (λ z. CasesS (record { args = args; answer = answer } ∷ others) a (Open at ∷ Word m w ∷ z) rest) (sym eo)
    (a_case at m k e w args answer others a vs us mid rest ew ma (subst (λ z. AnswerS answer us z) (ec ∙ ap (λ z. Close e ∷ z) q) sa) s))

rest_is : (at m : ℕ) (w : List ℕ) (a : AnswerForm) (ts rest : List Lexeme) → w ≡ codes "rest" → RestAfterS a ts rest → RestS a (Open at ∷ Word m w ∷ ts) rest
rest_is at m w a ts rest ew (b, mid, sa, (c, us, ec, (e, vs, ee, (p, q)))) =
    subst (λ z. RestS z (Open at ∷ Word m w ∷ ts) rest) (sym p) (rest_of at m c e w b ts rest ew (subst (λ z. AnswerS b ts z) (ec ∙ ap (λ z. Close c ∷ z) (ee ∙ ap (λ z. Close e ∷ z) q)) sa))

part_to : (done : List CaseForm) (h : PartHead) (at m : ℕ) (w : List ℕ) (x : Cases) (ts rest : List Lexeme) → part_head_of w ≡ Some h → PartS done h x ts rest → OntoS done x (Open at ∷ Word m w ∷ ts) rest
part_to done CaseHead at m w x ts rest e (c, mid, sc, (others, s, f)) =
    (c ∷ others, case_is c at m m w others x.1 ts mid rest (part_head_is w CaseHead e) sc s, f ∙ append_assoc done (c ∷ []) others)
part_to done RestHead at m w x ts rest e (a, mid, sa, (p, q)) =
    let s = rest_is at m w a ts rest (part_head_is w RestHead e) (subst (λ z. RestAfterS a ts z) q sa) in
    ([], no_case x.1 (Open at ∷ Word m w ∷ ts) rest (subst (λ z. RestS z (Open at ∷ Word m w ∷ ts) rest) (sym (ap (λ z. z.1) p)) s), ap (λ z. z.0) p ∙ sym (append-nil done))

shape_to : (done : List CaseForm) (x : Cases) (ts rest : List Lexeme) → Shape done x ts rest → OntoS done x ts rest
shape_to done x ts rest (o, us, eo, (h, vs, (at, w, ew, eh), b)) =
    subst (λ z. OntoS done x z rest) (sym (eo ∙ ap (λ z. Open o ∷ z) ew)) (part_to done h o at w x vs rest eh b)

rest_from : (done : List CaseForm) (x : Cases) (a : AnswerForm) (ts rest : List Lexeme) → RestS a ts rest → x ≡ (done, a) → Shape done x ts rest
rest_from done x _ _ _ (rest_of at h c e w a ts rest ew s) f =
    (at, Word h w ∷ ts, refl, (RestHead, ts, (h, w, refl, rest_head w ew), (a, rest, (a, Close c ∷ Close e ∷ rest, s, (c, Close e ∷ rest, refl, (e, rest, refl, (refl, refl)))), (f, refl))))

cases_from : (done : List CaseForm) (x : Cases) (others : List CaseForm) (a : AnswerForm) (ts rest : List Lexeme) → CasesS others a ts rest → x ≡ (done ++ others, a) → Shape done x ts rest
cases_from done x _ _ _ _ (no_case a ts rest s) f = rest_from done x a ts rest s (f ∙ ap (λ z. (z, a)) (append-nil done))
cases_from done x _ _ _ _ (a_case at h o c w args answer others a ts mid more rest ew m s k) f =
    let one : CaseForm = record { args = args; answer = answer } in
    let same : x.0 ≡ (done ++ one ∷ []) ++ others = ap (λ z. z.0) f ∙ sym (append_assoc done (one ∷ []) others) in
    let later : CasesS others x.1 more rest = subst (λ z. CasesS others z more rest) (sym (ap (λ z. z.1) f)) k in (
      at,
      Word h w ∷ Open o ∷ ts,
      refl,
      (CaseHead, Open o ∷ ts, (h, w, refl, case_head w ew), (one, more, (args, mid, (o, ts, refl, m), (answer, Close c ∷ more, s, (c, more, refl, (refl, refl)))), (others, later, same))),
    )

shape_from : (done : List CaseForm) (x : Cases) (ts rest : List Lexeme) → OntoS done x ts rest → Shape done x ts rest
shape_from done x ts rest (others, s, f) = cases_from done x others x.1 ts rest s (ap (λ z. (z, x.1)) f)

-- ---- the shortest cases

a_part : part_head_of (codes "rest") ≡ Some RestHead
a_part = refl

-- ( rest true ) )
pub true_rest : (tail : List Lexeme) → RestS (Plain (One (Truth true))) (Open 0 ∷ Word 0 (codes "rest") ∷ Word 0 (codes "true") ∷ Close 0 ∷ Close 0 ∷ tail) tail
true_rest tail = rest_of 0 0 0 0 (codes "rest") (Plain (One (Truth true))) (Word 0 (codes "true") ∷ Close 0 ∷ Close 0 ∷ tail) tail refl
    (plain (One (Truth true)) (Word 0 (codes "true") ∷ Close 0 ∷ Close 0 ∷ tail) (Close 0 ∷ Close 0 ∷ tail) (one (Truth true) (Word 0 (codes "true") ∷ Close 0 ∷ Close 0 ∷ tail) (Close 0 ∷ Close 0 ∷ tail) (truth 0 (codes "true") (Close 0 ∷ Close 0 ∷ tail) refl) tt))

none_begins : (done : List CaseForm) → Begins Anything (OntoS done) []
none_begins done = (Open 0 ∷ Word 0 (codes "rest") ∷ Word 0 (codes "true") ∷ Close 0 ∷ Close 0 ∷ [], (done, Plain (One (Truth true))), λ tail c. ([], no_case _ _ _ (true_rest tail), sym (append-nil done)))

cases_some : (done : List CaseForm) (x : Cases) (ts rest : List Lexeme) → OntoS done x ts rest → Some_token ts
cases_some done x ts rest s = let y = shape_from done x ts rest s in (Open y.0, y.1, y.2)

-- ---- cases

module _ (n d : ℕ) (fits : 2 + d ≡ most_open) (some : 1 ≤ d) where
  law_case : Law (Opened 2) (λ c. Opened 1) Anything n CaseS (read_case n d)
  unfolding read_case
  law_case =
      law_next _ _ (law_list n 2 (d - 1) (omega (arith, fits, some))) (λ args.
      law_next _ _ (law_answer n 1 d fits) (λ a.
      law_next _ _ (law_close (opened_close 1 (omega (arith, fits)))) (λ c. law_ret _ (λ q p. p))))

  law_rest : Law (Opened 2) (λ a. Opened 0) Anything n RestAfterS (read_rest n d)
  unfolding read_rest
  law_rest =
      law_next _ _ (law_answer n 1 d fits) (λ a.
      law_next _ _ (law_close (opened_close 1 (omega (arith, fits)))) (λ c.
      law_next _ _ (law_close (opened_close 0 (omega (arith, fits)))) (λ e. law_ret _ (λ q p. p))))

  law_part : (m : ℕ) → m ≤ n → (done : List CaseForm) → ((done : List CaseForm) → Law (Opened 1) (λ x. Opened 0) Anything m (OntoS done) (read_cases n d m done))
      → (h : PartHead) → Law (Opened 2) (λ x. Opened 0) Anything m (PartS done h) (read_part n d (read_cases n d m) done h)
  unfolding read_part
  law_part m le done more CaseHead = law_next _ _ (law_less m le law_case) (λ c. more (done ++ c ∷ []))
  law_part m le done more RestHead = law_next _ _ (law_less m le law_rest) (λ a. law_ret _ (λ q p. p))

  law_opened : (m : ℕ) → Law (Opened 1) (λ o. Opened 2) Anything m OpenS read_open
  law_opened m = law_open (opened_open 1 (omega (arith, fits)))

  pub law_cases : (m : ℕ) → m ≤ n → (done : List CaseForm) → Law (Opened 1) (λ x. Opened 0) Anything m (OntoS done) (read_cases n d m done)
  unfolding read_cases read_part_head
  law_cases zero le done = law_out (OntoS done) (none_begins done) (cases_some done)
  law_cases (suc m) le done = law_map (shape_to done) (shape_from done)
      (law_less_then m _ _ (takes read_open (law_opened (suc m)) (λ o ts rest s. (Open o, rest, s)) m) (λ a b ts rest s c. tt) (law_opened (suc m)) (λ o.
      law_next _ _ (law_word part_head_of (codes "rest", RestHead, a_part) (opened_word 2 part_head_of (omega (arith, fits)))) (λ h.
      law_part m (omega (arith, le)) done (law_cases m (omega (arith, le))) h)))
