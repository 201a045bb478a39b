-- Where entries stand.
use Rattle.std.proofs.Common.{◌≡◌, ℕ, zero, suc, ◌+◌, ◌-◌, ◌<◌, ◌≤◌, List, [], ◌∷◌, ◌++◌, length, map, get_or, Some, refl, ap, ◌∙◌, arith}
use Rattle.std.specs.Prelude.{slice_get}
use Rattle.std.proofs.lemmas.Option.{slice_get_read, slice_get-map}
use Rattle.std.proofs.lemmas.List.{length-map}
use Rattle.isle_core.specs.declared.values.Value.{Value as CodeValue}
use Rattle.isle_core.specs.declared.values.Answers.{Answers as CodeAnswers}
use Rattle.isle_core.specs.declared.values.PureAnswers.{PureAnswers as CodePureAnswers}
use Rattle.isle_core.specs.declared.values.TurnAnswers.{TurnAnswers as CodeTurnAnswers}
use Rattle.isle_core.specs.Value.{Value}
use Rattle.isle_core.specs.ValueViews.{value, const, pure_answers, turn_answers, meaning}
use Rattle.isle_interpreter.specs.Entries.{Entry, Constant, Cases, Turns, entries}

in_front : {A : Type 0} (xs ys : List A) (i : ℕ) → i < length xs → slice_get (xs ++ ys) i ≡ slice_get xs i
in_front [] ys i lt = absurd (omega (arith, lt))
in_front (x ∷ xs) ys zero lt = refl
in_front (x ∷ xs) ys (suc i) lt = in_front xs ys i (omega (arith, lt))

get_after : {A : Type 0} (xs ys : List A) (i : ℕ) → slice_get (xs ++ ys) (length xs + i) ≡ slice_get ys i
get_after [] ys i = ap (slice_get ys) (omega arith)
get_after (x ∷ xs) ys i = let e : suc (length xs) + i ≡ suc (length xs + i) = omega arith in ap (slice_get (x ∷ xs ++ ys)) e ∙ get_after xs ys i

-- an item of a list, as it is seen
map_at : {A B : Type 0} (f : A → B) (xs : List A) (i : ℕ) (x : A) → i < length xs → x ≡ get_or xs i x → f x ≡ get_or (map f xs) i (f x)
map_at f [] i x lt is = absurd (omega (arith, lt))
map_at f (y ∷ xs) zero x lt is = ap f is
map_at f (y ∷ xs) (suc i) x lt is = map_at f xs i x (omega (arith, lt)) is

seen_at : {A B : Type 0} (f : A → B) (xs : List A) (i : ℕ) (x : A) → i < length xs → x ≡ get_or xs i x → slice_get (map f xs) i ≡ Some (f x)
seen_at f xs i x lt is = rw (slice_get-map, slice_get_read xs (length xs) i x refl lt is) refl

module _ (a : CodeAnswers) where
  abbrev constants : List Entry
  constants = map (λ (c : List ℕ × Value). Constant c.0 c.1) (map const a.consts)

  count : length constants ≡ length a.consts
  count = length-map (map const a.consts) _ ∙ length-map a.consts const

  abbrev cases : List Entry
  cases = map Cases (map pure_answers a.pure)

  count_cases : length cases ≡ length a.pure
  count_cases = length-map (map pure_answers a.pure) Cases ∙ length-map a.pure pure_answers

  abbrev turns : List Entry
  turns = map Turns (map turn_answers a.turns)

  -- a constant's value
  pub constant_at : (i : ℕ) (c : List ℕ × CodeValue) → i < length a.consts → c ≡ get_or a.consts i c → slice_get (entries (meaning a)) i ≡ Some (Constant c.0 (value c.1))
  constant_at i c lt is =
      in_front constants (cases ++ turns) i (omega (arith, lt, count))
      ∙ seen_at (λ (c : List ℕ × Value). Constant c.0 c.1) (map const a.consts) i (const c) (omega (arith, lt, length-map a.consts const)) (map_at const a.consts i c lt is)

  -- the cases of a callee
  pub cases_at : (i : ℕ) (p : CodePureAnswers) → length a.consts ≤ i → i - length a.consts < length a.pure → p ≡ get_or a.pure (i - length a.consts) p → slice_get (entries (meaning a)) i ≡ Some (Cases (pure_answers p))
  cases_at i p le lt is =
      let j : ℕ = i - length a.consts in
      let at : i ≡ length constants + j = omega (arith, le, count) in
      ap (slice_get (entries (meaning a))) at
      ∙ get_after constants (cases ++ turns) j
      ∙ in_front cases turns j (omega (arith, lt, count_cases))
      ∙ seen_at Cases (map pure_answers a.pure) j (pure_answers p) (omega (arith, lt, length-map a.pure pure_answers)) (map_at pure_answers a.pure j p lt is)

  -- the turns of a callee
  pub turns_at : (i : ℕ) (t : CodeTurnAnswers) → i < length a.consts + length a.pure + length a.turns → length a.consts ≤ i → length a.pure ≤ i - length a.consts → t ≡ get_or a.turns (i - length a.consts - length a.pure) t
      → slice_get (entries (meaning a)) i ≡ Some (Turns (turn_answers t))
  turns_at i t all le after_pure is =
      let j : ℕ = i - length a.consts - length a.pure in
      let at : i ≡ length constants + (length cases + j) = omega (arith, le, after_pure, count, count_cases) in
      let lt : j < length a.turns = omega (arith, all, le, after_pure) in
      ap (slice_get (entries (meaning a))) at
      ∙ get_after constants (cases ++ turns) (length cases + j)
      ∙ get_after cases turns j
      ∙ seen_at Turns (map turn_answers a.turns) j (turn_answers t) (omega (arith, lt, length-map a.turns turn_answers)) (map_at turn_answers a.turns j t lt is)
