-- Answers and results are values too.
use Rattle.std.proofs.Common.{◌≡◌, ℕ, List, [], ◌∷◌, ◌++◌, append-nil, append_assoc, Bool, true, false, refl, ap, sym, ◌∙◌, subst, Option, Some, None}
use Rattle.std.specs.Prelude.{if◌then◌else◌, option_map, bytes_eq, codes, reverse}
use Rattle.std.proofs.lemmas.List.{reverse-append}
use Rattle.std.proofs.lemmas.Slice.Eq.{bytes_eq-Decides}
use Rattle.isle_lexer.specs.Lexeme.{Lexeme, Open, Close, Word}
use Rattle.isle_lexer.specs.Word.{kind, IsName}
use Rattle.isle_reading.specs.Relations.{Many, none, more}
use Rattle.isle_values.specs.Written.{Written, Writtens, Truth, Number, Made, NoValue, AValue}
use Rattle.isle_values.specs.Spelling.{ValueS, truth, untruth, number, made, ValuesS, no_value, a_value}
use Rattle.isle_answers.specs.Form.{ResultForm, One, Tuple, AnswerForm, Plain, Found, Several}
use Rattle.isle_answers.specs.Form as form
use Rattle.isle_answers.specs.Words.{is_reserved}
use Rattle.isle_answers.specs.Spelling.{IsOwn, ResultS, one, tuple, AnswerS, plain, found, nothing, several, RestS, rest_of, TurnsS, no_turn, a_turn}
use Rattle.isle_answers.specs.Reading.{listed, result_is, with_result, results_are, found_is, nothing_is, answer_is, only_answer, rest_value, rest_is, ended}
use Rattle.isle_answers.proofs.HeadWords.{not_reserved}

-- ---- words that are names

some_named : IsName (codes "some")
unfolding kind
some_named = refl

none_named : IsName (codes "none")
unfolding kind
none_named = refl

list_named : IsName (codes "list")
unfolding kind
list_named = refl

tuple_named : IsName (codes "tuple")
unfolding kind
tuple_named = refl

rest_named : IsName (codes "rest")
unfolding kind
rest_named = refl

named : (w v : List ℕ) → w ≡ v → IsName v → IsName w
named w v e h = subst IsName (sym e) h

-- ---- values that are results

values_listed : (vs : Writtens) (ts rest : List Lexeme) → ValuesS vs ts rest → Many ValueS (listed vs) ts rest
values_listed _ _ _ (no_value at ts) = none at ts
values_listed _ _ _ (a_value v others ts mid rest s m) = more v (listed others) ts mid rest s (values_listed others mid rest m)

listed_values : (vs : List Written) (ts rest : List Lexeme) → Many ValueS vs ts rest → (ws : Writtens) × (listed ws ≡ vs) × ValuesS ws ts rest
listed_values _ _ _ (none at ts) = (NoValue, refl, no_value at ts)
listed_values _ _ _ (more v others ts mid rest s m) = let x = listed_values others mid rest m in (AValue v x.0, ap (λ z. v ∷ z) x.1, a_value v x.0 ts mid rest s x.2)

made_result : (a b : Bool) (at n : ℕ) (w : List ℕ) (parts : Writtens) (ts rest : List Lexeme) (r : ResultForm) → IsName w → ValuesS parts ts rest → bytes_eq w (codes "tuple") ≡ a → is_reserved w ≡ b
    → (if a then Some (Tuple (listed parts)) else (if b then None else Some (One (Made w parts)))) ≡ Some r → ResultS r (Open at ∷ Word n w ∷ ts) rest
made_result true b at n w parts ts rest r nm m e f g = subst (λ z. ResultS z (Open at ∷ Word n w ∷ ts) rest) (let x : Tuple (listed parts) ≡ r = cc in x)
    (tuple at n w (listed parts) ts rest ((bytes_eq-Decides w (codes "tuple")).0 e) (values_listed parts ts rest m))
made_result false true at n w parts ts rest r nm m e f g = cc
made_result false false at n w parts ts rest r nm m e f g = subst (λ z. ResultS z (Open at ∷ Word n w ∷ ts) rest) (let x : One (Made w parts) ≡ r = cc in x)
    (one (Made w parts) (Open at ∷ Word n w ∷ ts) rest (made at n w parts ts rest nm m) f)

pub value_result : (v : Written) (ts rest : List Lexeme) (r : ResultForm) → ValueS v ts rest → result_is v ≡ Some r → ResultS r ts rest
value_result _ _ _ r (truth at w ts e) h = subst (λ z. ResultS z (Word at w ∷ ts) ts) (let x : One (Truth true) ≡ r = cc in x) (one (Truth true) (Word at w ∷ ts) ts (truth at w ts e) tt)
value_result _ _ _ r (untruth at w ts e) h = subst (λ z. ResultS z (Word at w ∷ ts) ts) (let x : One (Truth false) ≡ r = cc in x) (one (Truth false) (Word at w ∷ ts) ts (untruth at w ts e) tt)
value_result _ _ _ r (number at w n ts e) h = subst (λ z. ResultS z (Word at w ∷ ts) ts) (let x : One (Number n) ≡ r = cc in x) (one (Number n) (Word at w ∷ ts) ts (number at w n ts e) tt)
value_result _ _ _ r (made at n w parts ts rest nm m) h = made_result (bytes_eq w (codes "tuple")) (is_reserved w) at n w parts ts rest r nm m refl refl h

own_result : (v : Written) → IsOwn v → result_is v ≡ Some (One v)
own_result (Truth b) o = refl
own_result (Number n) o = refl
own_result (Made w parts) o =
    ap (λ a. if a then Some (Tuple (listed parts)) else (if is_reserved w then None else Some (One (Made w parts)))) (not_reserved w o).3
    ∙ ap (λ b. if b then None else Some (One (Made w parts))) o

tuple_result : (w : List ℕ) (parts : Writtens) → w ≡ codes "tuple" → result_is (Made w parts) ≡ Some (Tuple (listed parts))
tuple_result w parts e = ap (λ z. result_is (Made z parts)) e

pub result_value : (r : ResultForm) (ts rest : List Lexeme) → ResultS r ts rest → (v : Written) × ValueS v ts rest × (result_is v ≡ Some r)
result_value _ _ _ (one v ts rest s o) = (v, s, own_result v o)
result_value _ _ _ (tuple at h w vs ts rest e m) =
    let x = listed_values vs ts rest m in
    (Made w x.0, made at h w x.0 ts rest (named w (codes "tuple") e tuple_named) x.2, tuple_result w x.0 e ∙ ap (λ z. Some (Tuple z)) x.1)

-- several of them

some_of : {A B : Type 0} (f : A → B) (o : Option A) (b : B) → option_map f o ≡ Some b → (a : A) × (o ≡ Some a) × (f a ≡ b)
some_of f None b e = cc
some_of f (Some a) b e = (a, refl, let x : f a ≡ b = cc in x)

both : (o : Option ResultForm) (p : Option (List ResultForm)) (rs : List ResultForm) → with_result o p ≡ Some rs
    → (r : ResultForm) × (others : List ResultForm) × (o ≡ Some r) × (p ≡ Some others) × (r ∷ others ≡ rs)
both None p rs e = cc
both (Some r) p rs e = let x = some_of (λ others. r ∷ others) p rs e in (r, x.0, refl, x.1, x.2)

values_results : (vs : Writtens) (ts rest : List Lexeme) (rs : List ResultForm) → ValuesS vs ts rest → results_are vs ≡ Some rs → Many ResultS rs ts rest
values_results _ _ _ rs (no_value at ts) h = subst (λ z. Many ResultS z (Close at ∷ ts) ts) (let x : [] ≡ rs = cc in x) (none at ts)
values_results _ _ _ rs (a_value v others ts mid rest s m) h =
    let x = both (result_is v) (results_are others) rs h in
    subst (λ z. Many ResultS z ts rest) x.4 (more x.0 x.1 ts mid rest (value_result v ts mid x.0 s x.2) (values_results others mid rest x.1 m x.3))

results_values : (rs : List ResultForm) (ts rest : List Lexeme) → Many ResultS rs ts rest → (vs : Writtens) × ValuesS vs ts rest × (results_are vs ≡ Some rs)
results_values _ _ _ (none at ts) = (NoValue, no_value at ts, refl)
results_values _ _ _ (more r others ts mid rest s m) =
    let x = result_value r ts mid s in
    let y = results_values others mid rest m in
    (AValue x.0 y.0, a_value x.0 y.0 ts mid rest x.1 y.1, ap (λ o. with_result o (results_are y.0)) x.2 ∙ ap (option_map (λ others. r ∷ others)) y.2)

-- ---- values that are answers

found_value : (parts : Writtens) (at n : ℕ) (w : List ℕ) (ts rest : List Lexeme) (a : AnswerForm) → w ≡ codes "some" → ValuesS parts ts rest → found_is parts ≡ Some a → AnswerS a (Open at ∷ Word n w ∷ ts) rest
found_value _ at n w _ _ a e (no_value c ts) h = cc
found_value _ at n w _ _ a e (a_value v _ ts _ rest s (no_value c _)) h =
    let x = some_of (λ r. Found r) (result_is v) a h in
    subst (λ z. AnswerS z (Open at ∷ Word n w ∷ ts) rest) x.2 (found at n c w x.0 ts rest e (value_result v ts (Close c ∷ rest) x.0 s x.1))
found_value _ at n w _ _ a e (a_value v _ ts _ rest s (a_value u others mid mid2 _ t m)) h = cc

nothing_value : (parts : Writtens) (at n : ℕ) (w : List ℕ) (ts rest : List Lexeme) (a : AnswerForm) → w ≡ codes "none" → ValuesS parts ts rest → nothing_is parts ≡ Some a → AnswerS a (Open at ∷ Word n w ∷ ts) rest
nothing_value _ at n w _ _ a e (no_value c ts) h = subst (λ z. AnswerS z (Open at ∷ Word n w ∷ Close c ∷ ts) ts) (let x : form.Nothing ≡ a = cc in x) (nothing at n c w ts e)
nothing_value _ at n w _ _ a e (a_value v others ts mid rest s m) h = cc

made_answer : (a b c : Bool) (at n : ℕ) (w : List ℕ) (parts : Writtens) (ts rest : List Lexeme) (x : AnswerForm) → IsName w → ValuesS parts ts rest
    → bytes_eq w (codes "some") ≡ a → bytes_eq w (codes "none") ≡ b → bytes_eq w (codes "list") ≡ c
    → (if a then found_is parts else (if b then nothing_is parts else (if c then option_map (λ rs. Several rs) (results_are parts) else option_map (λ r. Plain r) (result_is (Made w parts))))) ≡ Some x
    → AnswerS x (Open at ∷ Word n w ∷ ts) rest
made_answer true b c at n w parts ts rest x nm m e f g h = found_value parts at n w ts rest x ((bytes_eq-Decides w (codes "some")).0 e) m h
made_answer false true c at n w parts ts rest x nm m e f g h = nothing_value parts at n w ts rest x ((bytes_eq-Decides w (codes "none")).0 f) m h
made_answer false false true at n w parts ts rest x nm m e f g h =
    let y = some_of (λ rs. Several rs) (results_are parts) x h in
    subst (λ z. AnswerS z (Open at ∷ Word n w ∷ ts) rest) y.2 (several at n w y.0 ts rest ((bytes_eq-Decides w (codes "list")).0 g) (values_results parts ts rest y.0 m y.1))
made_answer false false false at n w parts ts rest x nm m e f g h =
    let y = some_of (λ r. Plain r) (result_is (Made w parts)) x h in
    subst (λ z. AnswerS z (Open at ∷ Word n w ∷ ts) rest) y.2 (plain y.0 (Open at ∷ Word n w ∷ ts) rest (value_result (Made w parts) (Open at ∷ Word n w ∷ ts) rest y.0 (made at n w parts ts rest nm m) y.1))

pub value_answer : (v : Written) (ts rest : List Lexeme) (a : AnswerForm) → ValueS v ts rest → answer_is v ≡ Some a → AnswerS a ts rest
value_answer _ _ _ a (truth at w ts e) h =
    subst (λ z. AnswerS z (Word at w ∷ ts) ts) (let x : Plain (One (Truth true)) ≡ a = cc in x) (plain (One (Truth true)) (Word at w ∷ ts) ts (one (Truth true) (Word at w ∷ ts) ts (truth at w ts e) tt))
value_answer _ _ _ a (untruth at w ts e) h =
    subst (λ z. AnswerS z (Word at w ∷ ts) ts) (let x : Plain (One (Truth false)) ≡ a = cc in x) (plain (One (Truth false)) (Word at w ∷ ts) ts (one (Truth false) (Word at w ∷ ts) ts (untruth at w ts e) tt))
value_answer _ _ _ a (number at w n ts e) h =
    subst (λ z. AnswerS z (Word at w ∷ ts) ts) (let x : Plain (One (Number n)) ≡ a = cc in x) (plain (One (Number n)) (Word at w ∷ ts) ts (one (Number n) (Word at w ∷ ts) ts (number at w n ts e) tt))
value_answer _ _ _ a (made at n w parts ts rest nm m) h =
    made_answer (bytes_eq w (codes "some")) (bytes_eq w (codes "none")) (bytes_eq w (codes "list")) at n w parts ts rest a nm m refl refl refl h

plain_value : (v : Written) (ts rest : List Lexeme) (r : ResultForm) → ValueS v ts rest → result_is v ≡ Some r → answer_is v ≡ Some (Plain r)
plain_value (Truth b) ts rest r s h = ap (option_map (λ r. Plain r)) h
plain_value (Number n) ts rest r s h = ap (option_map (λ r. Plain r)) h
plain_value (Made w parts) ts rest r s h = by (bytes_eq w (codes "tuple")) (is_reserved w) refl refl h
  where
    list_or : Bool → Option AnswerForm
    list_or c = if c then option_map (λ rs. Several rs) (results_are parts) else option_map (λ r. Plain r) (result_is (Made w parts))

    by : (a b : Bool) → bytes_eq w (codes "tuple") ≡ a → is_reserved w ≡ b → (if a then Some (Tuple (listed parts)) else (if b then None else Some (One (Made w parts)))) ≡ Some r → answer_is (Made w parts) ≡ Some (Plain r)
    by true b e f g =
        let x = (bytes_eq-Decides w (codes "tuple")).0 e in
        ap (λ z. answer_is (Made z parts)) x ∙ ap (option_map (λ r. Plain r)) g
    by false true e f g = cc
    by false false e f g =
        let x = not_reserved w f in
        ap (λ a. if a then found_is parts else (if bytes_eq w (codes "none") then nothing_is parts else list_or (bytes_eq w (codes "list")))) x.0
        ∙ ap (λ b. if b then nothing_is parts else list_or (bytes_eq w (codes "list"))) x.1 ∙ ap list_or x.2 ∙ ap (option_map (λ r. Plain r)) h

pub answer_value : (a : AnswerForm) (ts rest : List Lexeme) → AnswerS a ts rest → (v : Written) × ValueS v ts rest × (answer_is v ≡ Some a)
answer_value _ _ _ (plain r ts rest s) = let x = result_value r ts rest s in (x.0, x.1, plain_value x.0 ts rest r x.1 x.2)
answer_value _ _ _ (found at h c w r ts rest e s) =
    let x = result_value r ts (Close c ∷ rest) s in (
      Made w (AValue x.0 NoValue),
      made at h w (AValue x.0 NoValue) ts rest (named w (codes "some") e some_named) (a_value x.0 NoValue ts (Close c ∷ rest) rest x.1 (no_value c rest)),
      ap (λ z. answer_is (Made z (AValue x.0 NoValue))) e ∙ ap (option_map (λ r. Found r)) x.2,
    )
answer_value _ _ _ (nothing at h c w rest e) =
    (Made w NoValue, made at h w NoValue (Close c ∷ rest) rest (named w (codes "none") e none_named) (no_value c rest), ap (λ z. answer_is (Made z NoValue)) e)
answer_value _ _ _ (several at h w rs ts rest e m) =
    let x = results_values rs ts rest m in
    (Made w x.0, made at h w x.0 ts rest (named w (codes "list") e list_named) x.1, ap (λ z. answer_is (Made z x.0)) e ∙ ap (option_map (λ rs. Several rs)) x.2)

-- ---- a turn that is a rest

only_value : (parts : Writtens) (at n e : ℕ) (w : List ℕ) (ts rest : List Lexeme) (a : AnswerForm) → w ≡ codes "rest" → ValuesS parts ts (Close e ∷ rest) → only_answer parts ≡ Some a → RestS a (Open at ∷ Word n w ∷ ts) rest
only_value parts at n e w ts rest a ew s h = by parts ts (Close e ∷ rest) s refl h
  where
    by : (parts : Writtens) (ts mid : List Lexeme) → ValuesS parts ts mid → mid ≡ Close e ∷ rest → only_answer parts ≡ Some a → RestS a (Open at ∷ Word n w ∷ ts) rest
    by _ _ _ (no_value c ts) f h = cc
    by _ _ _ (a_value v _ ts _ mid s (no_value c _)) f h = rest_of at n c e w a ts rest ew (value_answer v ts (Close c ∷ Close e ∷ rest) a (subst (λ z. ValueS v ts (Close c ∷ z)) f s) h)
    by _ _ _ (a_value v _ ts _ rest2 s (a_value u others mid mid2 _ t m)) f h = cc

rest_made : (v : Written) (e : ℕ) (ts rest : List Lexeme) (a : AnswerForm) → ValueS v ts (Close e ∷ rest) → rest_value v ≡ Some a → RestS a ts rest
rest_made v e ts rest a s h = by v ts (Close e ∷ rest) s refl h
  where
    by : (v : Written) (ts mid : List Lexeme) → ValueS v ts mid → mid ≡ Close e ∷ rest → rest_value v ≡ Some a → RestS a ts rest
    by _ _ _ (truth at w ts k) f h = cc
    by _ _ _ (untruth at w ts k) f h = cc
    by _ _ _ (number at w n ts k) f h = cc
    by _ _ _ (made at n w parts ts mid nm m) f h = word (bytes_eq w (codes "rest")) refl h
      where
        word : (b : Bool) → bytes_eq w (codes "rest") ≡ b → (if b then only_answer parts else None) ≡ Some a → RestS a (Open at ∷ Word n w ∷ ts) rest
        word true k h = only_value parts at n e w ts rest a ((bytes_eq-Decides w (codes "rest")).0 k) (subst (λ z. ValuesS parts ts z) f m) h
        word false k h = cc

pub turn_rest : (turn : AnswerForm) (e : ℕ) (ts rest : List Lexeme) (a : AnswerForm) → AnswerS turn ts (Close e ∷ rest) → rest_is turn ≡ Some a → RestS a ts rest
turn_rest turn e ts rest a s h = by turn ts (Close e ∷ rest) s refl h
  where
    result : (r : ResultForm) (ts mid : List Lexeme) → ResultS r ts mid → mid ≡ Close e ∷ rest → rest_is (Plain r) ≡ Some a → RestS a ts rest
    result _ _ _ (one v ts mid s o) f h = rest_made v e ts rest a (subst (λ z. ValueS v ts z) f s) h
    result _ _ _ (tuple at k w vs ts mid g m) f h = cc

    by : (turn : AnswerForm) (ts mid : List Lexeme) → AnswerS turn ts mid → mid ≡ Close e ∷ rest → rest_is turn ≡ Some a → RestS a ts rest
    by _ _ _ (plain r ts mid s) f h = result r ts mid s f h
    by _ _ _ (found at k c w r ts mid g s) f h = cc
    by _ _ _ (nothing at k c w mid g) f h = cc
    by _ _ _ (several at k w rs ts mid g m) f h = cc

pub rest_turn : (a : AnswerForm) (ts rest : List Lexeme) → RestS a ts rest → (turn : AnswerForm) × (e : ℕ) × AnswerS turn ts (Close e ∷ rest) × (rest_is turn ≡ Some a)
rest_turn _ _ _ (rest_of at h c e w a ts rest ew s) =
    let x = answer_value a ts (Close c ∷ Close e ∷ rest) s in
    let v = Made w (AValue x.0 NoValue) in (
      Plain (One v),
      e,
      plain (One v) (Open at ∷ Word h w ∷ ts) (Close e ∷ rest) (one v (Open at ∷ Word h w ∷ ts) (Close e ∷ rest)
          (made at h w (AValue x.0 NoValue) ts (Close e ∷ rest) (named w (codes "rest") ew rest_named) (a_value x.0 NoValue ts (Close c ∷ Close e ∷ rest) (Close e ∷ rest) x.1 (no_value c (Close e ∷ rest)))) (ap is_reserved ew)),
      ap (λ z. rest_value (Made z (AValue x.0 NoValue))) ew ∙ x.2,
    )

-- ---- turns, the last of which is the rest

-- those that were read before in reverse, and these
abbrev pub onto : List AnswerForm → List AnswerForm → List AnswerForm
onto [] done = done
onto (a ∷ xs) done = onto xs (a ∷ done)

-- answers up to a closing parenthesis, the last of which, or of those before, is a rest
abbrev pub EndedS : List AnswerForm → List AnswerForm × AnswerForm → List Lexeme → List Lexeme → Type 0
EndedS done x ts rest = (xs : List AnswerForm) × Many AnswerS xs ts rest × (ended (onto xs done) ≡ Some x)

-- one more in front
reversed : (a : AnswerForm) (done turns : List AnswerForm) → reverse (a ∷ done) ++ turns ≡ reverse done ++ (a ∷ turns)
reversed a done turns = ap (λ z. z ++ turns) (reverse-append (a ∷ []) done) ∙ append_assoc (reverse done) (a ∷ []) turns

turns_of : (a0 : AnswerForm) (xs done : List AnswerForm) (ts mid rest : List Lexeme) (x : List AnswerForm × AnswerForm) → AnswerS a0 ts mid → Many AnswerS xs mid rest → ended (onto xs (a0 ∷ done)) ≡ Some x
    → (turns : List AnswerForm) × TurnsS turns x.1 ts rest × (x.0 ≡ reverse done ++ turns)
turns_of a0 _ done ts _ _ x s (none at rest) e =
    let y = some_of (λ a. (reverse done, a)) (rest_is a0) x e in
    let front : x.0 ≡ reverse done = sym (ap (λ z. z.0) y.2) in
    let back : y.0 ≡ x.1 = ap (λ z. z.1) y.2 in
    ([], no_turn x.1 ts rest (turn_rest a0 at ts rest x.1 s (y.1 ∙ ap Some back)), front ∙ sym (append-nil (reverse done)))
turns_of a0 _ done ts _ _ x s (more a1 others ts1 mid1 rest t m) e =
    let y = turns_of a1 others (a0 ∷ done) ts1 mid1 rest x t m e in
    (a0 ∷ y.0, a_turn a0 y.0 x.1 ts ts1 rest s y.1, y.2 ∙ reversed a0 done y.0)

pub turns_to : (x : List AnswerForm × AnswerForm) (ts rest : List Lexeme) → EndedS [] x ts rest → TurnsS x.0 x.1 ts rest
turns_to x ts rest (xs, m, e) = by xs ts rest m e
  where
    by : (xs : List AnswerForm) (ts rest : List Lexeme) → Many AnswerS xs ts rest → ended (onto xs []) ≡ Some x → TurnsS x.0 x.1 ts rest
    by _ _ _ (none at rest) e = cc
    by _ _ _ (more a0 others ts mid rest s m) e = let y = turns_of a0 others [] ts mid rest x s m e in subst (λ z. TurnsS z x.1 ts rest) (sym y.2) y.1

pub turns_onto : (turns : List AnswerForm) (a : AnswerForm) (done : List AnswerForm) (ts rest : List Lexeme) → TurnsS turns a ts rest → EndedS done (reverse done ++ turns, a) ts rest
turns_onto _ _ done _ _ (no_turn a ts rest r) =
    let x = rest_turn a ts rest r in
    (x.0 ∷ [], more x.0 [] ts (Close x.1 ∷ rest) rest x.2 (none x.1 rest), ap (option_map (λ a. (reverse done, a))) x.3 ∙ ap (λ z. Some (z, a)) (sym (append-nil (reverse done))))
turns_onto _ _ done _ _ (a_turn turn others a ts mid rest s k) =
    let x = turns_onto others a (turn ∷ done) mid rest k in
    (turn ∷ x.0, more turn x.0 ts mid rest s x.1, x.2 ∙ ap (λ z. Some (z, a)) (reversed turn done others))

pub turns_from : (x : List AnswerForm × AnswerForm) (ts rest : List Lexeme) → TurnsS x.0 x.1 ts rest → EndedS [] x ts rest
turns_from x ts rest s = turns_onto x.0 x.1 [] ts rest s
