-- What is marked after the items of a preset have set their marks.
use Rattle.std.proofs.Common.{◌≡◌, ◌⊎◌, inl, inr, ⊎_elim, ℕ, zero, suc, ◌<◌, List, [], ◌∷◌, Bool, true, set, get_or, length, refl, sym, ap, subst, arith}
use Rattle.std.specs.Prelude.{Contains}
use Rattle.std.proofs.lemmas.List.Elements.{Contains-get_or}
use Rattle.isle_core.proofs.Contained.{head_contained, tail_contained, contained_cases, none_contained}
use Rattle.isle_settings.specs.Marks.{IsMarked, with_flags, with_presets}
use Rattle.isle_settings.specs.declared.group.PresetItem.{PresetItem}
use Rattle.isle_settings.specs.declared.group.PresetItem.TheVariants as item

-- an item that is read is there
pub item_here : (items : List PresetItem) (i : ℕ) (d it : PresetItem) → i < length items → get_or items i d ≡ it → Contains items it
item_here items i d it lt e = subst (λ x. Contains items x) e (Contains-get_or items i d lt)

-- ---- one mark

-- a mark that is there after another is set was there, or is that one
pub marked_set : (marks : List Bool) (f p : ℕ) → IsMarked (set marks f true) p → IsMarked marks p ⊎ (f ≡ p)
marked_set [] f p h = inl h
marked_set (m ∷ ms) zero zero h = inr refl
marked_set (m ∷ ms) zero (suc p) h = inl h
marked_set (m ∷ ms) (suc f) zero h = inl h
marked_set (m ∷ ms) (suc f) (suc p) h = ⊎_elim (λ (k : IsMarked ms p). inl k) (λ (e : f ≡ p). inr (ap suc e)) (marked_set ms f p h)

-- a mark stays
pub stays_marked : (marks : List Bool) (f p : ℕ) → IsMarked marks p → IsMarked (set marks f true) p
stays_marked [] f p h = h
stays_marked (m ∷ ms) zero zero h = refl
stays_marked (m ∷ ms) zero (suc p) h = h
stays_marked (m ∷ ms) (suc f) zero h = h
stays_marked (m ∷ ms) (suc f) (suc p) h = stays_marked ms f p h

-- a mark that is set is there
pub set_marked : (marks : List Bool) (f : ℕ) → f < length marks → IsMarked (set marks f true) f
set_marked [] f lt = absurd (omega arith)
set_marked (m ∷ ms) zero lt = refl
set_marked (m ∷ ms) (suc f) lt = set_marked ms f (omega arith)

-- setting leaves the number of marks
pub set_length : (marks : List Bool) (f : ℕ) → length (set marks f true) ≡ length marks
set_length [] f = refl
set_length (m ∷ ms) zero = refl
set_length (m ∷ ms) (suc f) = ap suc (set_length ms f)

-- ---- flags

pub flags_from : (items : List PresetItem) (marks : List Bool) (p : ℕ) → IsMarked (with_flags items marks) p → IsMarked marks p ⊎ Contains items (item.Flag p)
flags_from [] marks p h = inl h
flags_from (item.Flag f ∷ items) marks p h = ⊎_elim before behind (flags_from items (set marks f true) p h)
  where
    behind : Contains items (item.Flag p) → IsMarked marks p ⊎ Contains (item.Flag f ∷ items) (item.Flag p)
    behind c = inr (tail_contained (item.Flag f) items (item.Flag p) c)

    here : f ≡ p → Contains (item.Flag f ∷ items) (item.Flag p)
    here e = subst (λ q. Contains (item.Flag f ∷ items) (item.Flag q)) e (head_contained (item.Flag f) items)

    before : IsMarked (set marks f true) p → IsMarked marks p ⊎ Contains (item.Flag f ∷ items) (item.Flag p)
    before k = ⊎_elim (λ (m : IsMarked marks p). inl m) (λ (e : f ≡ p). inr (here e)) (marked_set marks f p k)
flags_from (item.Preset n ∷ items) marks p h =
    ⊎_elim (λ (m : IsMarked marks p). inl m) (λ (c : Contains items (item.Flag p)). inr (tail_contained (item.Preset n) items (item.Flag p) c)) (flags_from items marks p h)

pub flags_stay : (items : List PresetItem) (marks : List Bool) (p : ℕ) → IsMarked marks p → IsMarked (with_flags items marks) p
flags_stay [] marks p h = h
flags_stay (item.Flag f ∷ items) marks p h = flags_stay items (set marks f true) p (stays_marked marks f p h)
flags_stay (item.Preset n ∷ items) marks p h = flags_stay items marks p h

pub flags_set : (items : List PresetItem) (marks : List Bool) (p : ℕ) → p < length marks → Contains items (item.Flag p) → IsMarked (with_flags items marks) p
flags_set [] marks p lt c = absurd (none_contained (item.Flag p) c)
flags_set (item.Flag f ∷ items) marks p lt c =
    let same : length (set marks f true) ≡ length marks = set_length marks f in
    ⊎_elim here (λ (d : Contains items (item.Flag p)). flags_set items (set marks f true) p (omega (arith, same)) d) (contained_cases (item.Flag f) items (item.Flag p) c)
  where
    here : item.Flag f ≡ item.Flag p → IsMarked (with_flags items (set marks f true)) p
    here e = let same : f ≡ p = cc in
        flags_stay items (set marks f true) p (subst (λ q. IsMarked (set marks q true) p) (sym same) (set_marked marks p lt))
flags_set (item.Preset n ∷ items) marks p lt c = ⊎_elim other (λ (d : Contains items (item.Flag p)). flags_set items marks p lt d) (contained_cases (item.Preset n) items (item.Flag p) c)
  where
    other : item.Preset n ≡ item.Flag p → IsMarked (with_flags items marks) p
    other e = absurd cc

-- ---- presets

pub presets_from : (items : List PresetItem) (marks : List Bool) (p : ℕ) → IsMarked (with_presets items marks) p → IsMarked marks p ⊎ Contains items (item.Preset p)
presets_from [] marks p h = inl h
presets_from (item.Preset n ∷ items) marks p h = ⊎_elim before behind (presets_from items (set marks n true) p h)
  where
    behind : Contains items (item.Preset p) → IsMarked marks p ⊎ Contains (item.Preset n ∷ items) (item.Preset p)
    behind c = inr (tail_contained (item.Preset n) items (item.Preset p) c)

    here : n ≡ p → Contains (item.Preset n ∷ items) (item.Preset p)
    here e = subst (λ q. Contains (item.Preset n ∷ items) (item.Preset q)) e (head_contained (item.Preset n) items)

    before : IsMarked (set marks n true) p → IsMarked marks p ⊎ Contains (item.Preset n ∷ items) (item.Preset p)
    before k = ⊎_elim (λ (m : IsMarked marks p). inl m) (λ (e : n ≡ p). inr (here e)) (marked_set marks n p k)
presets_from (item.Flag f ∷ items) marks p h =
    ⊎_elim (λ (m : IsMarked marks p). inl m) (λ (c : Contains items (item.Preset p)). inr (tail_contained (item.Flag f) items (item.Preset p) c)) (presets_from items marks p h)

pub presets_stay : (items : List PresetItem) (marks : List Bool) (p : ℕ) → IsMarked marks p → IsMarked (with_presets items marks) p
presets_stay [] marks p h = h
presets_stay (item.Preset n ∷ items) marks p h = presets_stay items (set marks n true) p (stays_marked marks n p h)
presets_stay (item.Flag f ∷ items) marks p h = presets_stay items marks p h

pub presets_set : (items : List PresetItem) (marks : List Bool) (p : ℕ) → p < length marks → Contains items (item.Preset p) → IsMarked (with_presets items marks) p
presets_set [] marks p lt c = absurd (none_contained (item.Preset p) c)
presets_set (item.Preset n ∷ items) marks p lt c =
    let same : length (set marks n true) ≡ length marks = set_length marks n in
    ⊎_elim here (λ (d : Contains items (item.Preset p)). presets_set items (set marks n true) p (omega (arith, same)) d) (contained_cases (item.Preset n) items (item.Preset p) c)
  where
    here : item.Preset n ≡ item.Preset p → IsMarked (with_presets items (set marks n true)) p
    here e = let same : n ≡ p = cc in
        presets_stay items (set marks n true) p (subst (λ q. IsMarked (set marks q true) p) (sym same) (set_marked marks p lt))
presets_set (item.Flag f ∷ items) marks p lt c = ⊎_elim other (λ (d : Contains items (item.Preset p)). presets_set items marks p lt d) (contained_cases (item.Flag f) items (item.Preset p) c)
  where
    other : item.Flag f ≡ item.Preset p → IsMarked (with_presets items marks) p
    other e = absurd cc
