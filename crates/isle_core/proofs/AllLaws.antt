-- What holds of each item of two lists in a row.
use Rattle.std.proofs.Common.{List, [], ◌∷◌, ◌++◌, ⊎_elim, subst}
use Rattle.std.specs.List.{AllByRecursion}
use Rattle.std.specs.Prelude.{Contains}
use Rattle.isle_core.proofs.Contained.{head_contained, tail_contained, contained_cases, none_contained}

-- what holds of both holds of the two in a row
pub all_append : {A : Type 0} (P : A → Type 0) (xs ys : List A) → AllByRecursion P xs → AllByRecursion P ys → AllByRecursion P (xs ++ ys)
all_append P [] ys h k = k
all_append P (x ∷ xs) ys h k = (h.0, all_append P xs ys h.1 k)

-- what holds of the two in a row holds of the first
pub all_front : {A : Type 0} (P : A → Type 0) (xs ys : List A) → AllByRecursion P (xs ++ ys) → AllByRecursion P xs
all_front P [] ys h = tt
all_front P (x ∷ xs) ys h = (h.0, all_front P xs ys h.1)

-- and of the second
pub all_back : {A : Type 0} (P : A → Type 0) (xs ys : List A) → AllByRecursion P (xs ++ ys) → AllByRecursion P ys
all_back P [] ys h = h
all_back P (x ∷ xs) ys h = all_back P xs ys h.1

-- what holds of all holds of each
pub all_each : {A : Type 0} (P : A → Type 0) (xs : List A) (x : A) → AllByRecursion P xs → Contains xs x → P x
all_each P [] x h c = absurd (none_contained x c)
all_each P (y ∷ ys) x h c = ⊎_elim (λ same. subst P same h.0) (λ later. all_each P ys x h.1 later) (contained_cases y ys x c)

-- what holds of each holds of all
pub all_by : {A : Type 0} (P : A → Type 0) (xs : List A) → ((x : A) → Contains xs x → P x) → AllByRecursion P xs
all_by P [] h = tt
all_by P (x ∷ xs) h = (h x (head_contained x xs), all_by P xs (λ y c. h y (tail_contained x xs y c)))
