-- One form more, where the places of those of a kind are looked for.
use Rattle.std.proofs.Common.{◌≡◌, ℕ, zero, suc, ◌+◌, ◌-◌, ◌<◌, ◌≤◌, List, [], ◌∷◌, ◌++◌, length, drop, get_or, true, false, refl, sym, ap, ◌∙◌, arith}
use Rattle.std.proofs.lemmas.List.{drop_more}
use Rattle.isle_answers.specs.Form.{Form}
use Rattle.isle_answers.specs.declared.form.Form.{Form as CodeForm}
use Rattle.isle_answers.specs.Views.{form_seen, forms_seen}
use Rattle.isle_run_inputs.specs.Places.{is_of, of_kind, place_of, place_in}
use Rattle.isle_run_inputs.specs.declared.places.Counted.{Counted}

-- the place of a number among what is left of forms from the i-th on, and then more
abbrev pub left_place : Counted → List CodeForm → ℕ → (end : ℕ) → List Form → ℕ → ℕ
left_place kind forms i end more n = place_in end (of_kind kind (forms_seen (drop i forms)) ++ more) n

unfolded : (kind : Counted) (forms : List CodeForm) (i : ℕ) (form : CodeForm) (end : ℕ) (more : List Form) (n : ℕ) → i < length forms → form ≡ get_or forms i form
    → left_place kind forms i end more n ≡ place_in end (of_kind kind (form_seen form ∷ forms_seen (drop (i + 1) forms)) ++ more) n
unfolded kind forms i form end more n lt is = ap (λ fs. place_in end (of_kind kind (forms_seen fs) ++ more) n) (drop_more forms i form lt ∙ ap (λ f. f ∷ drop (i + 1) forms) (sym is))

-- the form itself, if none is to be passed
pub place_here : (kind : Counted) (forms : List CodeForm) (i : ℕ) (form : CodeForm) (end : ℕ) (more : List Form) (n : ℕ) → i < length forms → form ≡ get_or forms i form → is_of kind (form_seen form) ≡ true → n ≡ zero
    → left_place kind forms i end more n ≡ place_of (form_seen form)
place_here kind forms i form end more n lt is own none = unfolded kind forms i form end more n lt is ∙ rw (own, none) refl

fewer : (form : Form) (fs : List Form) (end n : ℕ) → 0 < n → place_in end (form ∷ fs) n ≡ place_in end fs (n - 1)
fewer form fs end zero lt = absurd (omega (arith, lt))
fewer form fs end (suc n) lt = ap (place_in end fs) (omega arith)

-- one form less to pass
pub place_later : (kind : Counted) (forms : List CodeForm) (i : ℕ) (form : CodeForm) (end : ℕ) (more : List Form) (n : ℕ) → i < length forms → form ≡ get_or forms i form → is_of kind (form_seen form) ≡ true → 0 < n
    → left_place kind forms i end more n ≡ left_place kind forms (i + 1) end more (n - 1)
place_later kind forms i form end more n lt is own some =
    unfolded kind forms i form end more n lt is ∙ rw own (fewer (form_seen form) (of_kind kind (forms_seen (drop (i + 1) forms)) ++ more) end n some)

-- a form of another kind
pub place_past : (kind : Counted) (forms : List CodeForm) (i : ℕ) (form : CodeForm) (end : ℕ) (more : List Form) (n : ℕ) → i < length forms → form ≡ get_or forms i form → is_of kind (form_seen form) ≡ false
    → left_place kind forms i end more n ≡ left_place kind forms (i + 1) end more n
place_past kind forms i form end more n lt is other = unfolded kind forms i form end more n lt is ∙ rw other refl

nothing_left : (forms : List CodeForm) (i : ℕ) → length forms ≤ i → drop i forms ≡ []
nothing_left [] zero h = refl
nothing_left [] (suc i) h = refl
nothing_left (form ∷ forms) zero h = absurd (omega (arith, h))
nothing_left (form ∷ forms) (suc i) h = nothing_left forms i (omega (arith, h))

-- after all forms
pub place_out : (kind : Counted) (forms : List CodeForm) (i end : ℕ) (more : List Form) (n : ℕ) → length forms ≤ i → left_place kind forms i end more n ≡ place_in end more n
place_out kind forms i end more n h = ap (λ fs. place_in end (of_kind kind (forms_seen fs) ++ more) n) (nothing_left forms i h)
