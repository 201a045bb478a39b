-- That marking what a marked preset enables keeps which flags are marked, or reached by a marked preset.
use Rattle.std.proofs.Common.{◌≡◌, ◌⊎◌, inl, inr, ⊎_elim, ℕ, zero, suc, ◌-◌, ◌<◌, ◌≤◌, List, [], ◌∷◌, ◌++◌, Bool, true, false, replicate, set, take, drop, get_or, length, Some, refl, sym, ap, subst, ◌∙◌, arith}
use Rattle.std.specs.Prelude.{◌↔◌, Contains, IsSomeAnd, slice_get}
use Rattle.std.proofs.lemmas.List.{length-replicate}
use Rattle.std.proofs.lemmas.Option.{slice_get_read, slice_get-get_or}
use Rattle.isle_settings.specs.Marks.{HasMark, IsMarked, IsPending, with_flags, with_presets}
use Rattle.isle_settings.specs.PresetClosure.{HasItem, IsLawfulItem, Reaches, of_its_own, through}
use Rattle.isle_settings.specs.declared.group.Preset.{Preset}
use Rattle.isle_settings.specs.declared.group.PresetItem.{PresetItem}
use Rattle.isle_settings.specs.declared.group.PresetItem.TheVariants as item
use Rattle.isle_settings.proofs.MarkLaws.{flags_from, flags_set, flags_stay, marked_set, presets_from, presets_set, presets_stay, set_length, set_marked}

-- a flag is marked, or a marked preset before a place reaches it
abbrev pub IsKnown : List Preset → (presets flags : List Bool) → (place flag : ℕ) → Type 0
IsKnown all presets flags place flag = IsMarked flags flag ⊎ IsPending all presets place flag

-- an item of a preset that is there
pub item_there : (all : List Preset) (place : ℕ) (p : Preset) (it : PresetItem) → slice_get all place ≡ Some p → Contains p.items it → HasItem all place it
item_there all place p it e c = subst (λ o. IsSomeAnd o (λ (q : Preset). Contains q.items it)) (sym e) c

pub there_item : (all : List Preset) (place : ℕ) (p : Preset) (it : PresetItem) → slice_get all place ≡ Some p → HasItem all place it → Contains p.items it
there_item all place p it e c = subst (λ o. IsSomeAnd o (λ (q : Preset). Contains q.items it)) e c

-- a number below the next one
split : (n m : ℕ) → n < suc m → (n < m) ⊎ (n ≡ m)
split zero zero lt = inr refl
split zero (suc m) lt = inl (omega arith)
split (suc n) zero lt = absurd (omega arith)
split (suc n) (suc m) lt = ⊎_elim (λ (h : n < m). inl (omega (arith, h))) (λ (e : n ≡ m). inr (ap suc e)) (split n m (omega arith))

-- one below a number, or at the last place before it
pub below_cases : (n count : ℕ) → n < count → 0 < count → (n < count - 1) ⊎ (n ≡ count - 1)
below_cases n count lt some = split n (count - 1) (omega arith)

-- ---- a marked preset

module _ (all : List Preset) (presets flags : List Bool) (count place : ℕ) (p : Preset) (flag : ℕ) (e : slice_get all place ≡ Some p) (m : IsMarked presets place)
    (lawful : (it : PresetItem) → Contains p.items it → IsLawfulItem (length flags) place it) (lt : place < length presets) (some : 0 < count) (last : place ≡ count - 1) where
  here_reaches : Reaches all place flag → IsKnown all (with_presets p.items presets) (with_flags p.items flags) place flag
  here_reaches (of_its_own h) = let c = there_item all place p (item.Flag flag) e h in inl (flags_set p.items flags flag (lawful (item.Flag flag) c) c)
  here_reaches (through {named = named} h r) =
      let c = there_item all place p (item.Preset named) e h in
      let before : named < place = lawful (item.Preset named) c in
      inr (named, before, presets_set p.items presets named (omega arith) c, r)

  pending_on : (named : ℕ) → named < count → IsMarked presets named → Reaches all named flag → (named < place) ⊎ (named ≡ place) → IsKnown all (with_presets p.items presets) (with_flags p.items flags) place flag
  pending_on named below marked r (inl before) = inr (named, before, presets_stay p.items presets named marked, r)
  pending_on named below marked r (inr same) = here_reaches (subst (λ n. Reaches all n flag) same r)

  known_on : IsKnown all presets flags count flag → IsKnown all (with_presets p.items presets) (with_flags p.items flags) place flag
  known_on (inl k) = inl (flags_stay p.items flags flag k)
  known_on (inr q) = pending_on q.0 q.1 q.2 q.3 (subst (λ n. (q.0 < n) ⊎ (q.0 ≡ n)) (sym last) (below_cases q.0 count q.1 some))

  known_back : IsKnown all (with_presets p.items presets) (with_flags p.items flags) place flag → IsKnown all presets flags count flag
  known_back (inl k) = ⊎_elim (λ (h : IsMarked flags flag). inl h) own (flags_from p.items flags flag k)
    where
      own : Contains p.items (item.Flag flag) → IsKnown all presets flags count flag
      own c = inr (place, omega arith, m, of_its_own (item_there all place p (item.Flag flag) e c))
  known_back (inr q) = ⊎_elim old new (presets_from p.items presets q.0 q.2)
    where
      old : IsMarked presets q.0 → IsKnown all presets flags count flag
      old h = inr (q.0, omega arith, h, q.3)

      new : Contains p.items (item.Preset q.0) → IsKnown all presets flags count flag
      new c = inr (place, omega arith, m, through (item_there all place p (item.Preset q.0) e c) q.3)

  -- marking what it enables changes nothing of what is known
  pub known_step : IsKnown all presets flags count flag ↔ IsKnown all (with_presets p.items presets) (with_flags p.items flags) place flag
  known_step = (known_on, known_back)

-- ---- a preset that is not marked

-- a place that is not marked changes nothing
pub known_skip : (all : List Preset) (presets flags : List Bool) (count flag : ℕ) → 0 < count → slice_get presets (count - 1) ≡ Some false
    → IsKnown all presets flags count flag ↔ IsKnown all presets flags (count - 1) flag
known_skip all presets flags count flag some e = (on, back)
  where
    not_here : (n : ℕ) → n ≡ count - 1 → IsMarked presets n → ⊥
    not_here n same marked = let bad : Some true ≡ Some false = sym marked ∙ ap (slice_get presets) same ∙ e in cc

    on : IsKnown all presets flags count flag → IsKnown all presets flags (count - 1) flag
    on (inl k) = inl k
    on (inr q) = ⊎_elim (λ (h : q.0 < count - 1). inr (q.0, h, q.2, q.3)) (λ (h : q.0 ≡ count - 1). absurd (not_here q.0 h q.2)) (below_cases q.0 count q.1 some)

    back : IsKnown all presets flags (count - 1) flag → IsKnown all presets flags count flag
    back (inl k) = inl k
    back (inr q) = inr (q.0, omega (arith, q.1), q.2, q.3)

-- ---- where marking begins and ends

pub none_marked : (n place : ℕ) → IsMarked (replicate n false) place → ⊥
none_marked zero place e = cc
none_marked (suc n) zero e = cc
none_marked (suc n) (suc place) e = none_marked n place e

-- at first one preset is marked, and no flag
pub known_first : (all : List Preset) (settings n preset flag : ℕ) → preset < n
    → IsKnown all (set (replicate n false) preset true) (replicate settings false) n flag ↔ Reaches all preset flag
known_first all settings n preset flag lt = (on, back)
  where
    on : IsKnown all (set (replicate n false) preset true) (replicate settings false) n flag → Reaches all preset flag
    on (inl k) = absurd (none_marked settings flag k)
    on (inr q) = ⊎_elim (λ (h : IsMarked (replicate n false) q.0). absurd (none_marked n q.0 h)) (λ (same : preset ≡ q.0). subst (λ m. Reaches all m flag) (sym same) q.3) (marked_set (replicate n false) preset q.0 q.2)

    back : Reaches all preset flag → IsKnown all (set (replicate n false) preset true) (replicate settings false) n flag
    back r = inr (preset, lt, set_marked (replicate n false) preset (omega (arith, length-replicate n false)), r)

-- at last no preset is left
pub known_last : (all : List Preset) (presets flags : List Bool) (flag : ℕ) → IsKnown all presets flags 0 flag ↔ IsMarked flags flag
known_last all presets flags flag = (on, λ (k : IsMarked flags flag). inl k)
  where
    on : IsKnown all presets flags 0 flag → IsMarked flags flag
    on (inl k) = k
    on (inr q) = absurd (omega (arith, q.1))

-- ---- as code has them

-- a mark that is read
pub marked_at : (marks : List Bool) (i : ℕ) → get_or marks i false ≡ true → IsMarked marks i
marked_at [] i e = absurd cc
marked_at (m ∷ ms) zero e = ap Some e
marked_at (m ∷ ms) (suc i) e = marked_at ms i e

-- a mark that is read, and isn't set
pub unmarked_at : (marks : List Bool) (i : ℕ) → i < length marks → get_or marks i false ≡ false → slice_get marks i ≡ Some false
unmarked_at marks i lt e = slice_get-get_or marks i false lt ∙ ap Some e

-- a lawful item has its mark
has_mark : (it : PresetItem) (nf nf0 np place : ℕ) → nf ≡ nf0 → place < np → IsLawfulItem nf0 place it → HasMark nf np it
has_mark (item.Flag f) nf nf0 np place same lt h = omega (arith, same, h)
has_mark (item.Preset n) nf nf0 np place same lt h = omega (arith, lt, h)

-- so do the items of the preset at a place
pub may_mark : (all : List Preset) (nf nf0 np place : ℕ) (p : Preset) (items : List PresetItem) → items ≡ p.items → p ≡ get_or all place p → place < length all → place < np → nf ≡ nf0
    → ((i : ℕ) (it : PresetItem) → HasItem all i it → IsLawfulItem nf0 i it) → (it : PresetItem) → Contains items it → HasMark nf np it
may_mark all nf nf0 np place p items e is within lt same lawful it c =
    has_mark it nf nf0 np place same lt (lawful place it (item_there all place p it (slice_get_read all (length all) place p refl within is) (subst (λ xs. Contains xs it) e c)))

-- the marks of the preset at a place
pub known_mark : (all : List Preset) (presets flags new_presets new_flags : List Bool) (nf0 count : ℕ) (p : Preset) (items : List PresetItem) (flag : ℕ)
    → items ≡ p.items → p ≡ get_or all (count - 1) p → 0 < count → count ≤ length presets → length presets ≤ length all → get_or presets (count - 1) false ≡ true
    → new_presets ≡ with_presets items presets → new_flags ≡ with_flags items flags → length flags ≡ nf0
    → ((i : ℕ) (it : PresetItem) → HasItem all i it → IsLawfulItem nf0 i it)
    → IsKnown all presets flags count flag ↔ IsKnown all new_presets new_flags (count - 1) flag
known_mark all presets flags new_presets new_flags nf0 count p items flag e is some within there marked ep ef same lawful =
    let at : slice_get all (count - 1) ≡ Some p = slice_get_read all (length all) (count - 1) p refl (omega arith) is in
    let step = known_step all presets flags count (count - 1) p flag at (marked_at presets (count - 1) marked)
    (λ (it : PresetItem) (c : Contains p.items it). subst (λ n. IsLawfulItem n (count - 1) it) (sym same) (lawful (count - 1) it (item_there all (count - 1) p it at c)))
    (omega arith) some refl in
    let of_presets : with_presets p.items presets ≡ new_presets = ap (λ xs. with_presets xs presets) (sym e) ∙ sym ep in
    let of_flags : with_flags p.items flags ≡ new_flags = ap (λ xs. with_flags xs flags) (sym e) ∙ sym ef in
    subst (λ ps. IsKnown all presets flags count flag ↔ IsKnown all ps new_flags (count - 1) flag) of_presets
    (subst (λ fs. IsKnown all presets flags count flag ↔ IsKnown all (with_presets p.items presets) fs (count - 1) flag) of_flags step)

-- one equivalence after another
pub iff_trans : {P Q R : Type 0} → P ↔ Q → Q ↔ R → P ↔ R
iff_trans h k = (λ p. k.0 (h.0 p), λ r. h.1 (k.1 r))

-- the marks that are left are of the flags that the preset reaches
pub found : (all seen : List Preset) (n settings preset flag : ℕ) (presets flags new : List Bool) → preset < n → seen ≡ all → presets ≡ set (replicate n false) preset true → flags ≡ replicate settings false
    → IsMarked new flag ↔ IsKnown seen presets flags (length presets) flag → IsMarked new flag ↔ Reaches all preset flag
found all seen n settings preset flag presets flags new lt es ep ef h =
    let size : length presets ≡ n = ap length ep ∙ set_length (replicate n false) preset ∙ length-replicate n false in
    let first = known_first seen settings n preset flag lt in
    let last = iff_trans h (subst (λ m. IsKnown seen presets flags m flag ↔ Reaches seen preset flag) (sym size)
    (subst (λ ps. IsKnown seen ps flags n flag ↔ Reaches seen preset flag) (sym ep)
    (subst (λ fs. IsKnown seen (set (replicate n false) preset true) fs n flag ↔ Reaches seen preset flag) (sym ef) first))) in
    subst (λ ps. IsMarked new flag ↔ Reaches ps preset flag) es last

-- a list in front
front : (xs ys : List Bool) → take (length xs) (xs ++ ys) ≡ xs
front [] ys = refl
front (x ∷ xs) ys = ap (λ zs. x ∷ zs) (front xs ys)

-- what is left of a list whose slice was written
pub written_back : (n : ℕ) (new items : List Bool) → n ≡ length new → take n (new ++ drop (length new) items) ≡ new
written_back n new items e = rw e (front new (drop (length new) items))
