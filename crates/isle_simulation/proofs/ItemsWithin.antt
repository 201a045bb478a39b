-- The items of lists within paths: what stands at a path hangs on the items within it alone.
use Rattle.std.proofs.Common.{◌≡◌, ℕ, zero, suc, List, [], ◌∷◌, Bool, true, false, cond, get_or, refl, sym, ap, ◌∙◌, take}
use Rattle.isle_core.specs.Calling.{calling, extracting}
use Rattle.isle_core.specs.Making.{MakesVariant, MakesStruct}
use Rattle.isle_core.specs.Meaning.{Meaning}
use Rattle.isle_core.specs.Path.{Path, Nowhere, Arg, ConstBool, ConstInt, ConstPrim, Extracted, Called, Chosen, MadeVariant, MadeStruct, VariantField, StructField, Wrapped, Inner, Part, Paths, NoPath, APath}
use Rattle.isle_core.specs.Rule.{Environment}
use Rattle.isle_core.specs.SamePath.{same_path}
use Rattle.isle_core.specs.SeveralRun.{choosing}
use Rattle.isle_core.specs.Value.{Value}
use Rattle.isle_core.specs.ValueAt.{Known, inner_held, value_before, extracted_held, call_held, wrapped_held, part_held, made_held, field_held, chosen_held, value_at, values_at}
use Rattle.isle_core.proofs.SamePathLaws.{same_sound}

-- each item of a list within a path is so, the path itself too if it is one
abbrev mutual
  pub ItemsAre : (Path → Type 0) → Path → Type 0
  ItemsAre P (Chosen p) = P (Chosen p) × ItemsAre P p
  ItemsAre P (Extracted term p) = ItemsAre P p
  ItemsAre P (Called term ps instance) = AllItemsAre P ps
  ItemsAre P (MadeVariant ty variant ps) = AllItemsAre P ps
  ItemsAre P (MadeStruct ty ps) = AllItemsAre P ps
  ItemsAre P (VariantField variant field p) = ItemsAre P p
  ItemsAre P (StructField field p) = ItemsAre P p
  ItemsAre P (Wrapped p) = ItemsAre P p
  ItemsAre P (Inner p) = ItemsAre P p
  ItemsAre P (Part part p) = ItemsAre P p
  ItemsAre P Nowhere = Unit {0}
  ItemsAre P (Arg i) = Unit {0}
  ItemsAre P (ConstBool ty b) = Unit {0}
  ItemsAre P (ConstInt ty n) = Unit {0}
  ItemsAre P (ConstPrim name) = Unit {0}

  pub AllItemsAre : (Path → Type 0) → Paths → Type 0
  AllItemsAre P NoPath = Unit {0}
  AllItemsAre P (APath p ps) = ItemsAre P p × AllItemsAre P ps

mutual
  pub items_mean : (p : Path) (P Q : Path → Type 0) → ((q : Path) → P q → Q q) → ItemsAre P p → ItemsAre Q p
  items_mean (Chosen p) P Q f h = (f (Chosen p) h.0, items_mean p P Q f h.1)
  items_mean (Extracted term p) P Q f h = items_mean p P Q f h
  items_mean (Called term ps instance) P Q f h = all_items_mean ps P Q f h
  items_mean (MadeVariant ty variant ps) P Q f h = all_items_mean ps P Q f h
  items_mean (MadeStruct ty ps) P Q f h = all_items_mean ps P Q f h
  items_mean (VariantField variant field p) P Q f h = items_mean p P Q f h
  items_mean (StructField field p) P Q f h = items_mean p P Q f h
  items_mean (Wrapped p) P Q f h = items_mean p P Q f h
  items_mean (Inner p) P Q f h = items_mean p P Q f h
  items_mean (Part part p) P Q f h = items_mean p P Q f h
  items_mean Nowhere P Q f h = tt
  items_mean (Arg i) P Q f h = tt
  items_mean (ConstBool ty b) P Q f h = tt
  items_mean (ConstInt ty n) P Q f h = tt
  items_mean (ConstPrim name) P Q f h = tt

  pub all_items_mean : (ps : Paths) (P Q : Path → Type 0) → ((q : Path) → P q → Q q) → AllItemsAre P ps → AllItemsAre Q ps
  all_items_mean NoPath P Q f h = tt
  all_items_mean (APath p ps) P Q f h = (items_mean p P Q f h.0, all_items_mean ps P Q f h.1)

-- so of the path at a place among the first
pub first_items_are : (ps : List Path) (n i : ℕ) (P : Path → Type 0) → ItemsAre P (get_or ps i Nowhere) → ItemsAre P (get_or (take n ps) i Nowhere)
first_items_are ps zero i P h = tt
first_items_are [] (suc n) i P h = tt
first_items_are (p ∷ ps) (suc n) zero P h = h
first_items_are (p ∷ ps) (suc n) (suc i) P h = first_items_are ps n i P h

-- the place of another list's item
other_place : (known : Known) (list p : Path) (place : ℕ) → (Chosen p ≡ Chosen list → ⊥) → (choosing known list place).choice p ≡ known.choice p
other_place known list p place apart = one (same_path list p) refl
  where
    one : (x : Bool) → same_path list p ≡ x → cond x place (known.choice p) ≡ known.choice p
    one true e = absurd (apart (ap Chosen (sym (same_sound list p e))))
    one false e = refl

mutual
  -- what stands at a path that holds no item of a list is there whichever item of it is chosen
  pub choosing_same : (q : Path) (env : Environment) (m : Meaning) (args : List Value) (known : Known) (list : Path) (place : ℕ) → ItemsAre (λ r. r ≡ Chosen list → ⊥) q → value_at env m args (choosing known list place) q ≡ value_at env m args known q
  choosing_same (Chosen p) env m args known list place h =
      ap (λ n. chosen_held n (value_at env m args (choosing known list place) p)) (other_place known list p place h.0) ∙ ap (chosen_held (known.choice p)) (choosing_same p env m args known list place h.1)
  choosing_same (Extracted term p) env m args known list place h = ap (extracted_held m (extracting env term)) (choosing_same p env m args known list place h)
  choosing_same (Called term ps instance) env m args known list place h = ap (call_held m (calling env term) (known.answers instance)) (all_choosing_same ps env m args known list place h)
  choosing_same (MadeVariant ty variant ps) env m args known list place h = ap (made_held env (MakesVariant ty variant)) (all_choosing_same ps env m args known list place h)
  choosing_same (MadeStruct ty ps) env m args known list place h = ap (made_held env (MakesStruct ty)) (all_choosing_same ps env m args known list place h)
  choosing_same (VariantField variant field p) env m args known list place h = ap (field_held field) (choosing_same p env m args known list place h)
  choosing_same (StructField field p) env m args known list place h = ap (field_held field) (choosing_same p env m args known list place h)
  choosing_same (Wrapped p) env m args known list place h = ap wrapped_held (choosing_same p env m args known list place h)
  choosing_same (Inner p) env m args known list place h = ap inner_held (choosing_same p env m args known list place h)
  choosing_same (Part part p) env m args known list place h = ap (part_held part) (choosing_same p env m args known list place h)
  choosing_same Nowhere env m args known list place h = refl
  choosing_same (Arg i) env m args known list place h = refl
  choosing_same (ConstBool ty b) env m args known list place h = refl
  choosing_same (ConstInt ty n) env m args known list place h = refl
  choosing_same (ConstPrim name) env m args known list place h = refl

  pub all_choosing_same : (qs : Paths) (env : Environment) (m : Meaning) (args : List Value) (known : Known) (list : Path) (place : ℕ) → AllItemsAre (λ r. r ≡ Chosen list → ⊥) qs → values_at env m args (choosing known list place) qs ≡ values_at env m args known qs
  all_choosing_same NoPath env m args known list place h = refl
  all_choosing_same (APath q qs) env m args known list place h =
      ap (λ x. value_before x (values_at env m args (choosing known list place) qs)) (choosing_same q env m args known list place h.0) ∙ ap (value_before (value_at env m args known q)) (all_choosing_same qs env m args known list place h.1)
