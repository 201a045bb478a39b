-- A stage of typing finds no fault if no definition breaks a row where it stands.
use Rattle.std.proofs.Common.{◌≡◌, inl, inr, ℕ, Bool, false, cond, List, [], ◌∷◌, ◌++◌, map, Option, Some, None, refl, sym, ap, ◌∙◌, subst}
use Rattle.std.specs.Prelude.{filter_map}
use Rattle.std.specs.List.{AllByRecursion, cons_option}
use Rattle.std.proofs.lemmas.List.{append_assoc}
use Rattle.isle_ast.specs.Positions.{place_of}
use Rattle.isle_ast.specs.Tree.{Def}
use Rattle.isle_types.specs.declared.row.Row.{Row}
use Rattle.isle_types.specs.Fault.{first_broken}
use Rattle.isle_terms.specs.Whole.{Whole}
use Rattle.isle_sema.specs.Fault.{Stage, broken_in, fault_after}
use Rattle.isle_sema.proofs.Firsts.{none_later}
use Rattle.isle_prelude_accepted.proofs.Has.{Has, AreApart, has_back, has_map, has_found}

-- none of these rows is broken
pub none_broken : (f : Row → Bool) (rows : List Row) → AllByRecursion (λ r. f r ≡ false) rows → first_broken f rows ≡ None
none_broken f [] h = refl
none_broken f (r ∷ rows) h = ap (λ b. cond b (Some r) (first_broken f rows)) h.0 ∙ none_broken f rows h.1

-- no definition breaks a row of a stage, wherever it stands among the others
pub none_in : (stage : Stage) (w : Whole) (before ds : List Def)
    → ((bs : List Def) (d : Def) (after : List Def) → before ++ ds ≡ bs ++ d ∷ after → broken_in stage (record { whole = w; before = bs }) d ≡ None)
    → fault_after stage w before ds ≡ None
none_in stage w before [] h = refl
none_in stage w before (d ∷ ds) h =
    none_later (λ (r : Row). (r, place_of d)) (broken_in stage (record { whole = w; before = before }) d) (fault_after stage w (before ++ d ∷ []) ds)
    (h before d ds refl)
    (none_in stage w (before ++ d ∷ []) ds (λ bs x after e. h bs x after (sym (append_assoc before (d ∷ []) ds) ∙ e)))

pub has_middle : {A : Type 0} (before : List A) (x : A) (after : List A) → Has (before ++ x ∷ after) x
has_middle before x after = has_back before (x ∷ after) x (inl refl)

-- what a definition declares is not declared before it
pub new_among : {X : Type 0} (f : Def → Option X) (g : X → List ℕ) (before : List Def) (d : Def) (after : List Def) (x : X) → f d ≡ Some x
    → AreApart (map g (filter_map f (before ++ d ∷ after))) → Has (map g (filter_map f before)) (g x) → ⊥
new_among f g [] d after x is h i = absurd i
new_among {X} f g (b ∷ bs) d after x is h i = by (f b) (new_among f g bs d after x is) h i
  where
    by : (o : Option X) → (AreApart (map g (filter_map f (bs ++ d ∷ after))) → Has (map g (filter_map f bs)) (g x) → ⊥)
        → AreApart (map g (cons_option o (filter_map f (bs ++ d ∷ after)))) → Has (map g (cons_option o (filter_map f bs))) (g x) → ⊥
    by None rest k j = rest k j
    by (Some y) rest k (inl e) =
        k.0 (subst (Has (map g (filter_map f (bs ++ d ∷ after)))) (sym e) (has_map g (filter_map f (bs ++ d ∷ after)) x (has_found f (bs ++ d ∷ after) d x (has_middle bs d after) is)))
    by (Some y) rest k (inr j) = rest k.1 j
