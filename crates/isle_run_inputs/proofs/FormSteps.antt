-- The answers, turns and cases of forms, one more.
use Rattle.std.proofs.Common.{◌≡◌, ℕ, ◌+◌, ◌<◌, ◌≤◌, List, [], ◌∷◌, ◌++◌, length, drop, get_or, map, Some, refl, sym, ap, ◌∙◌}
use Rattle.std.proofs.lemmas.List.{drop_more, map-append, append_assoc, append-nil}
use Rattle.std.proofs.Math.ListN.{drop_of_length-le}
use Rattle.isle_core.specs.declared.TypeId.{TypeId}
use Rattle.isle_core.specs.declared.values.Callee.{Callee}
use Rattle.isle_core.specs.declared.values.Answer.{Answer as CodeAnswer}
use Rattle.isle_core.specs.declared.values.Value.{Value as CodeValue}
use Rattle.isle_core.specs.Rule.{Environment}
use Rattle.isle_core.specs.ValueViews.{answer, case, pure_answers, turn_answers}
use Rattle.isle_values.specs.declared.written.Written.{Written as CodeWritten}
use Rattle.isle_answers.specs.declared.form.AnswerForm.{AnswerForm as CodeAnswerForm}
use Rattle.isle_answers.specs.Views.{answer_seen, case_seen}
use Rattle.isle_run_inputs.specs.Asked.{Asked}
use Rattle.isle_run_inputs.specs.AnswersAt.{answer_at, turns_by, case_at, cases_by}

-- ---- lists

-- one item more after those that were
pushed : {X Y : Type 0} (f : X → Y) (old new : List X) (x : X) (rest : List Y) → new ≡ old ++ x ∷ [] → map f old ++ f x ∷ rest ≡ map f new ++ rest
pushed f old new x rest e = sym (append_assoc (map f old) (f x ∷ []) rest) ∙ ap (λ ys. ys ++ rest) (sym (ap (map f) e ∙ map-append f old (x ∷ [])))

pub seen_first : {X Y Z : Type 0} (f : Y → Z) (g : X → Y) (xs : List X) → map (λ x. f (g x)) xs ≡ map f (map g xs)
seen_first f g [] = refl
seen_first f g (x ∷ xs) = ap (λ ys. f (g x) ∷ ys) (seen_first f g xs)

-- what is made of a form more
pub one_more : {X Y Z : Type 0} (f : X → Z) (g : Y → Z) (forms : List Y) (i : ℕ) (form : Y) (old new : List X) (x : X) → i < length forms → form ≡ get_or forms i form → f x ≡ g form → new ≡ old ++ x ∷ []
    → map g forms ≡ map f old ++ map g (drop i forms) → map g forms ≡ map f new ++ map g (drop (i + 1) forms)
one_more f g forms i form old new x lt is at e were =
    were
    ∙ ap (λ xs. map f old ++ map g xs) (drop_more forms i form lt ∙ ap (λ y. y ∷ drop (i + 1) forms) (sym is))
    ∙ ap (λ y. map f old ++ y ∷ map g (drop (i + 1) forms)) (sym at)
    ∙ pushed f old new x _ e

-- what is made of all of them
pub all_made : {X Y Z : Type 0} (f : X → Z) (g : Y → Z) (forms : List Y) (i : ℕ) (found : List X) → length forms ≤ i → map g forms ≡ map f found ++ map g (drop i forms) → map f found ≡ map g forms
all_made f g forms i found le were = sym (append-nil (map f found)) ∙ ap (λ xs. map f found ++ map g xs) (sym (drop_of_length-le forms le)) ∙ sym were

-- what forms give, if one more gives this
pub given_more : {X Y F : Type 0} (f : X → Y) (g : List F → List Y) (forms : List F) (i : ℕ) (form : F) (old new : List X) (x : X) (all : List Y) → i < length forms → form ≡ get_or forms i form → g (form ∷ drop (i + 1) forms) ≡ f x ∷ g (drop (i + 1) forms)
    → new ≡ old ++ x ∷ [] → all ≡ map f old ++ g (drop i forms) → all ≡ map f new ++ g (drop (i + 1) forms)
given_more f g forms i form old new x all lt is gives e were =
    were
    ∙ ap (λ fs. map f old ++ g fs) (drop_more forms i form lt ∙ ap (λ y. y ∷ drop (i + 1) forms) (sym is))
    ∙ ap (λ ys. map f old ++ ys) gives
    ∙ pushed f old new x (g (drop (i + 1) forms)) e

-- if one more gives nothing
pub given_nothing : {X Y F : Type 0} (f : X → Y) (g : List F → List Y) (forms : List F) (i : ℕ) (form : F) (old new : List X) (all : List Y) → i < length forms → form ≡ get_or forms i form → g (form ∷ drop (i + 1) forms) ≡ g (drop (i + 1) forms)
    → new ≡ old → all ≡ map f old ++ g (drop i forms) → all ≡ map f new ++ g (drop (i + 1) forms)
given_nothing f g forms i form old new all lt is gives e were =
    were
    ∙ ap (λ fs. map f old ++ g fs) (drop_more forms i form lt ∙ ap (λ y. y ∷ drop (i + 1) forms) (sym is))
    ∙ ap (λ ys. map f old ++ ys) gives
    ∙ ap (λ xs. map f xs ++ g (drop (i + 1) forms)) (sym e)

-- ---- turns

-- those of a callee that are answered at a type
pub turns_made : (env : Environment) (ty : TypeId) (tys : List TypeId) (callee copy : Callee) (turns : List CodeAnswerForm) (rest : CodeAnswerForm) (found : List CodeAnswer) (last : CodeAnswer)
    → tys ≡ ty ∷ [] → copy ≡ callee → map answer found ≡ map (λ (x : CodeAnswerForm). answer_at env tys (answer_seen x)) turns → answer last ≡ answer_at env tys (answer_seen rest)
    → turn_answers (record { callee = copy; turns = found; rest = last }) ≡ turns_by env (Some ty) callee (map answer_seen turns) (answer_seen rest)
turns_made env ty tys callee copy turns rest found last one same all end =
    ap (λ c. record { callee = c; turns = map answer found; rest = answer last }) same
    ∙ ap (λ ts. record { callee = callee; turns = ts; rest = answer last }) (all ∙ ap (λ xs. map (λ (x : CodeAnswerForm). answer_at env xs (answer_seen x)) turns) one ∙ seen_first (answer_at env (ty ∷ [])) answer_seen turns)
    ∙ ap (λ a. record { callee = callee; turns = map (answer_at env (ty ∷ [])) (map answer_seen turns); rest = a }) (end ∙ ap (λ xs. answer_at env xs (answer_seen rest)) one)

-- ---- cases

-- those of a function of these types
pub cases_made : (env : Environment) (a : Asked) (callee copy : Callee) (cases : List (List CodeWritten × CodeAnswerForm)) (rest : CodeAnswerForm) (found : List (List CodeValue × CodeAnswer)) (last : CodeAnswer)
    → copy ≡ callee → map case found ≡ map (λ (x : List CodeWritten × CodeAnswerForm). case_at env a (case_seen x)) cases → answer last ≡ answer_at env a.results (answer_seen rest)
    → pure_answers (record { callee = copy; cases = found; rest = last }) ≡ cases_by env (Some a) callee (map case_seen cases) (answer_seen rest)
cases_made env a callee copy cases rest found last same all end =
    ap (λ c. record { callee = c; cases = map case found; rest = answer last }) same
    ∙ ap (λ cs. record { callee = callee; cases = cs; rest = answer last }) (all ∙ seen_first (case_at env a) case_seen cases)
    ∙ ap (λ x. record { callee = callee; cases = map (case_at env a) (map case_seen cases); rest = x }) end
