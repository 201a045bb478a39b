-- Declared types, with one more.
use Rattle.std.proofs.Common.{◌≡◌, ℕ, ◌+◌, ◌<◌, List, [], ◌∷◌, ◌++◌, length, get_or, take, Option, Some, None, refl, sym, ap, ◌∙◌}
use Rattle.std.specs.Prelude.{filter_map, option_to_list}
use Rattle.std.specs.List.{cons_option}
use Rattle.std.proofs.lemmas.List.{take_more}
use Rattle.std.proofs.lemmas.List.Elements.{filter_map-append}

alone : {B : Type 0} (o : Option B) → cons_option o [] ≡ option_to_list o
alone None = refl
alone (Some b) = refl

-- what the first items are, with one item more
some_more : {A B : Type 0} (f : A → Option B) (xs : List A) (i : ℕ) (x : A) → i < length xs → x ≡ get_or xs i x → filter_map f (take (i + 1) xs) ≡ filter_map f (take i xs) ++ option_to_list (f x)
some_more f xs i x lt is =
    ap (filter_map f) (take_more xs i x lt ∙ ap (λ y. take i xs ++ y ∷ []) (sym is))
    ∙ filter_map-append f (take i xs) (x ∷ [])
    ∙ ap (λ ys. filter_map f (take i xs) ++ ys) (alone (f x))

-- so of a list that gathers them
pub gathers_more : {A B : Type 0} (f : A → Option B) (xs : List A) (i : ℕ) (x : A) (o : Option B) (old new : List B) → i < length xs → x ≡ get_or xs i x → o ≡ f x → new ≡ old ++ option_to_list o → old ≡ filter_map f (take i xs)
    → new ≡ filter_map f (take (i + 1) xs)
gathers_more f xs i x o old new lt is made pushed before =
    pushed ∙ ap (λ ys. ys ++ option_to_list o) before ∙ ap (λ p. filter_map f (take i xs) ++ option_to_list p) made ∙ sym (some_more f xs i x lt is)
