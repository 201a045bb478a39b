-- The list of an iterator, along its calls.
use Rattle.std.proofs.Common.{◌≡◌, List, [], ◌∷◌, ◌++◌, Option, Some, None, refl, ap, sym, ◌∙◌, subst, append-nil}
use Rattle.std.specs.Prelude.{Result, Ok, Err, MatchResult, OnOk, OnErr}
use Rattle.std.specs.Iterator.{Yields, Drains}
use Rattle.isle_runtime.specs.Items.{AppendsFront, GivesFirst, HasList}

module _ {S X : Type 0} (steps : S → Option X → S → Type 0) where
  -- a call gives the first item and leaves the others
  pub gives_first : (items : List X) (s t : S) (given : Option X) → HasList steps s items → steps s given t → GivesFirst given items (HasList steps t)
  gives_first [] s t None has step = refl
  gives_first [] s t (Some x) has step = absurd (has x t step)
  gives_first (y ∷ ys) s t None has step = absurd (has.0 t step)
  gives_first (y ∷ ys) s t (Some x) has step = let next = has.1 x t step in (ys, ap (λ z. z ∷ ys) (sym next.0), next.1)

  -- calls give a front of the items and leave the others
  pub gives_front : (given items : List X) (s t : S) → HasList steps s items → Yields steps s given t → (rest : List X) × (items ≡ given ++ rest) × HasList steps t rest
  gives_front [] items s t has same = (items, refl, subst (λ (u : S). HasList steps u items) same has)
  gives_front (x ∷ xs) [] s t has run = absurd (has x run.0 run.1)
  gives_front (x ∷ xs) (y ∷ ys) s t has run =
      let next = has.1 x run.0 run.1 in
      let later = gives_front xs ys run.0 t next.1 run.2 in
      (later.0, ap (λ z. z ∷ ys) (sym next.0) ∙ ap (λ zs. x ∷ zs) later.1, later.2)

  -- calls up to `None` give all items
  pub gives_all : (given items : List X) (s : S) → HasList steps s items → Drains steps s given → items ≡ given
  gives_all given items s has run =
      let left = gives_front given items s run.1.0 has run.1.1 in
      left.1 ∙ ap (λ rest. given ++ rest) (gives_first left.0 run.1.0 run.0 None left.2 run.1.2) ∙ append-nil given

  -- what calls up to `None` gave was appended, so all items were
  pub appends_all : (given items old new : List X) (s t : S) → t ≡ s → HasList steps s items → Drains steps t given → new ≡ old ++ given → new ≡ old ++ items
  appends_all given items old new s t same has run is = is ∙ ap (λ all. old ++ all) (sym (gives_all given items t (subst (λ (u : S). HasList steps u items) (sym same) has) run))

  -- what calls gave was appended, so a front of the items was
  pub appends_front : (given items old new : List X) (s t u : S) → t ≡ s → HasList steps s items → Yields steps t given u → new ≡ old ++ given → AppendsFront old new items
  appends_front given items old new s t u same has run is =
      let left = gives_front given items t u (subst (λ (v : S). HasList steps v items) (sym same) has) run in (given, left.0, left.1, is)

  -- a call more gives an item more
  pub yields_more : (given : List X) (x : X) (s t u : S) → Yields steps s given t → steps t (Some x) u → Yields steps s (given ++ x ∷ []) u
  yields_more [] x s t u same step = (u, subst (λ (v : S). steps v (Some x) u) (sym same) step, refl)
  yields_more (y ∷ ys) x s t u run step = (run.0, run.1, yields_more ys x run.0 t u run.2 step)

  -- if all that calls give was appended, so were all items
  pub extended_all : {E : Type 0} (r : Result (Unit {0}) E) (given old new : List X) (s t : S) → t ≡ s → new ≡ old ++ given → MatchResult r (λ _. Drains steps t given) (λ _. (u : S) × Yields steps t given u)
      → OnOk r ((items : List X) → HasList steps s items → new ≡ old ++ items)
  extended_all (Ok v) given old new s t same is ran = λ items has. appends_all given items old new s t same has ran is
  extended_all (Err e) given old new s t same is ran = tt

  -- if what some calls gave was appended, so was a front of the items
  pub extended_front : {E : Type 0} (r : Result (Unit {0}) E) (given old new : List X) (s t : S) → t ≡ s → new ≡ old ++ given → MatchResult r (λ _. Drains steps t given) (λ _. (u : S) × Yields steps t given u)
      → OnErr r ((items : List X) → HasList steps s items → AppendsFront old new items)
  extended_front (Ok v) given old new s t same is ran = tt
  extended_front (Err e) given old new s t same is ran = λ items has. appends_front given items old new s t ran.0 same has ran.1 is
