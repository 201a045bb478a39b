-- For riscv64 the preset of vectors of at least so many bits enables the flags of that size and of the smaller ones, and no others.
use Rattle.std.proofs.Common.{◌≡◌, ◌⊎◌, inl, inr, ⊎_elim, ℕ, zero, suc, ◌+◌, ◌<◌, ◌≤◌, List, [], ◌∷◌, ◌++◌, get_or, Option, Some, None, refl, sym, ap, ◌≢◌, subst, arith}
use Rattle.std.specs.Prelude.{◌↔◌, Contains, IsSomeAnd, codes, slice_get}
use Rattle.isle_core.proofs.Contained.{contained_cases, head_contained, none_contained, tail_contained}
use Rattle.isle_settings.specs.PresetClosure.{HasItem, Reaches, of_its_own, through}
use Rattle.isle_settings.specs.Riscv64.{riscv64}
use Rattle.isle_settings.specs.Settings.{words}
use Rattle.isle_settings.specs.TargetLines.{name_at}
use Rattle.isle_settings.specs.declared.group.Preset.{Preset}
use Rattle.isle_settings.specs.declared.group.PresetItem.{PresetItem}
use Rattle.isle_settings.specs.declared.group.PresetItem.TheVariants as item

-- two numbers are one, or not
same_or_not : (a b : ℕ) → (a ≡ b) ⊎ (a ≢ b)
same_or_not zero zero = inl refl
same_or_not zero (suc b) = inr (omega arith)
same_or_not (suc a) zero = inr (omega arith)
same_or_not (suc a) (suc b) = ⊎_elim (λ (e : a ≡ b). inl (ap suc e)) (λ (n : a ≢ b). inr (omega (arith, n))) (same_or_not a b)

-- ---- names

-- what the sizes are called, doubling from one to the next
abbrev pub size_names : List (List ℕ)
size_names = words (codes "zvl32b zvl64b zvl128b zvl256b zvl512b zvl1024b zvl2048b zvl4096b zvl8192b zvl16384b zvl32768b zvl65536b")

-- what the size of a number is called
abbrev pub size_name : ℕ → List ℕ
size_name k = get_or size_names k []

-- the flags of sizes stand behind twenty-one others
pub flag_named : (k : ℕ) → k < 12 → name_at riscv64.settings (21 + k) ≡ codes "has_" ++ size_name k
unfolding riscv64
flag_named zero lt = refl
flag_named (suc zero) lt = refl
flag_named (suc (suc zero)) lt = refl
flag_named (suc (suc (suc zero))) lt = refl
flag_named (suc (suc (suc (suc zero)))) lt = refl
flag_named (suc (suc (suc (suc (suc zero))))) lt = refl
flag_named (suc (suc (suc (suc (suc (suc zero)))))) lt = refl
flag_named (suc (suc (suc (suc (suc (suc (suc zero))))))) lt = refl
flag_named (suc (suc (suc (suc (suc (suc (suc (suc zero)))))))) lt = refl
flag_named (suc (suc (suc (suc (suc (suc (suc (suc (suc zero))))))))) lt = refl
flag_named (suc (suc (suc (suc (suc (suc (suc (suc (suc (suc zero)))))))))) lt = refl
flag_named (suc (suc (suc (suc (suc (suc (suc (suc (suc (suc (suc zero))))))))))) lt = refl
flag_named (suc (suc (suc (suc (suc (suc (suc (suc (suc (suc (suc (suc k)))))))))))) lt = absurd (omega arith)

-- ---- presets

-- what the preset of a size has: its flag, and the preset before it
abbrev size_items : ℕ → List PresetItem
size_items zero = item.Flag 21 ∷ []
size_items (suc k) = item.Flag (22 + k) ∷ item.Preset (1 + k) ∷ []

-- a preset of this name and these items
abbrev IsPreset : List ℕ → List PresetItem → Preset → Type 0
IsPreset name items p = (p.name ≡ name) × (p.items ≡ items)

-- the presets of sizes stand behind one other
preset_at : (k : ℕ) → k < 12 → IsSomeAnd (slice_get riscv64.presets (1 + k)) (IsPreset (size_name k) (size_items k))
unfolding riscv64
preset_at zero lt = (refl, refl)
preset_at (suc zero) lt = (refl, refl)
preset_at (suc (suc zero)) lt = (refl, refl)
preset_at (suc (suc (suc zero))) lt = (refl, refl)
preset_at (suc (suc (suc (suc zero)))) lt = (refl, refl)
preset_at (suc (suc (suc (suc (suc zero))))) lt = (refl, refl)
preset_at (suc (suc (suc (suc (suc (suc zero)))))) lt = (refl, refl)
preset_at (suc (suc (suc (suc (suc (suc (suc zero))))))) lt = (refl, refl)
preset_at (suc (suc (suc (suc (suc (suc (suc (suc zero)))))))) lt = (refl, refl)
preset_at (suc (suc (suc (suc (suc (suc (suc (suc (suc zero))))))))) lt = (refl, refl)
preset_at (suc (suc (suc (suc (suc (suc (suc (suc (suc (suc zero)))))))))) lt = (refl, refl)
preset_at (suc (suc (suc (suc (suc (suc (suc (suc (suc (suc (suc zero))))))))))) lt = (refl, refl)
preset_at (suc (suc (suc (suc (suc (suc (suc (suc (suc (suc (suc (suc k)))))))))))) lt = absurd (omega arith)

-- ---- what they reach

module _ (presets : List Preset) (at : (k : ℕ) → k < 12 → IsSomeAnd (slice_get presets (1 + k)) (IsPreset (size_name k) (size_items k))) where
  items_of : (name : List ℕ) (items : List PresetItem) (o : Option Preset) (it : PresetItem) → IsSomeAnd o (IsPreset name items) → IsSomeAnd o (λ (p : Preset). Contains p.items it) → Contains items it
  items_of name items (Some p) it h c = subst (λ xs. Contains xs it) h.1 c
  items_of name items None it h c = absurd h

  of_items : (name : List ℕ) (items : List PresetItem) (o : Option Preset) (it : PresetItem) → IsSomeAnd o (IsPreset name items) → Contains items it → IsSomeAnd o (λ (p : Preset). Contains p.items it)
  of_items name items (Some p) it h c = subst (λ xs. Contains xs it) (sym h.1) c
  of_items name items None it h c = absurd h

  -- a flag among the items of a size is that of the size
  own_flag : (k flag : ℕ) → Contains (size_items k) (item.Flag flag) → flag ≡ 21 + k
  own_flag zero flag c = ⊎_elim (λ (e : item.Flag 21 ≡ item.Flag flag). let same : 21 ≡ flag = cc in sym same) (λ (d : Contains [] (item.Flag flag)). absurd (none_contained (item.Flag flag) d)) (contained_cases (item.Flag 21) [] (item.Flag flag) c)
  own_flag (suc k) flag c = ⊎_elim first second (contained_cases (item.Flag (22 + k)) (item.Preset (1 + k) ∷ []) (item.Flag flag) c)
    where
      first : item.Flag (22 + k) ≡ item.Flag flag → flag ≡ 21 + suc k
      first e = let same : 22 + k ≡ flag = cc in omega (arith, same)

      wrong : item.Preset (1 + k) ≡ item.Flag flag → flag ≡ 21 + suc k
      wrong e = absurd cc

      second : Contains (item.Preset (1 + k) ∷ []) (item.Flag flag) → flag ≡ 21 + suc k
      second d = ⊎_elim wrong (λ (n : Contains [] (item.Flag flag)). absurd (none_contained (item.Flag flag) n)) (contained_cases (item.Preset (1 + k)) [] (item.Flag flag) d)

  -- a preset among them is that of the size before
  own_preset : (k named : ℕ) → Contains (size_items k) (item.Preset named) → (j : ℕ) × (k ≡ suc j) × (named ≡ 1 + j)
  own_preset zero named c = absurd (⊎_elim wrong (λ (d : Contains [] (item.Preset named)). none_contained (item.Preset named) d) (contained_cases (item.Flag 21) [] (item.Preset named) c))
    where
      wrong : item.Flag 21 ≡ item.Preset named → ⊥
      wrong e = cc
  own_preset (suc k) named c = ⊎_elim first second (contained_cases (item.Flag (22 + k)) (item.Preset (1 + k) ∷ []) (item.Preset named) c)
    where
      first : item.Flag (22 + k) ≡ item.Preset named → (j : ℕ) × (suc k ≡ suc j) × (named ≡ 1 + j)
      first e = absurd cc

      right : item.Preset (1 + k) ≡ item.Preset named → (j : ℕ) × (suc k ≡ suc j) × (named ≡ 1 + j)
      right e = let same : 1 + k ≡ named = cc in (k, refl, sym same)

      second : Contains (item.Preset (1 + k) ∷ []) (item.Preset named) → (j : ℕ) × (suc k ≡ suc j) × (named ≡ 1 + j)
      second d = ⊎_elim right (λ (n : Contains [] (item.Preset named)). absurd (none_contained (item.Preset named) n)) (contained_cases (item.Preset (1 + k)) [] (item.Preset named) d)

  reached_on : (place flag : ℕ) → Reaches presets place flag → (k : ℕ) → k < 12 → place ≡ 1 + k → (21 ≤ flag) × (flag ≤ 21 + k)
  reached_on place flag (of_its_own h) k lt e =
      let c = items_of (size_name k) (size_items k) (slice_get presets (1 + k)) (item.Flag flag) (at k lt) (subst (λ p. HasItem presets p (item.Flag flag)) e h) in
      let same : flag ≡ 21 + k = own_flag k flag c in
      (omega (arith, same), omega (arith, same))
  reached_on place flag (through {named = named} h r) k lt e =
      let c = items_of (size_name k) (size_items k) (slice_get presets (1 + k)) (item.Preset named) (at k lt) (subst (λ p. HasItem presets p (item.Preset named)) e h) in
      let before = own_preset k named c in
      let less : before.0 < 12 = omega (arith, before.1) in
      let f = reached_on named flag r before.0 less before.2 in
      (f.0, omega (arith, f.1, before.1))

  has_flag : (k : ℕ) → Contains (size_items k) (item.Flag (21 + k))
  has_flag zero = head_contained (item.Flag 21) []
  has_flag (suc k) = let same : 22 + k ≡ 21 + suc k = omega arith in subst (λ f. Contains (size_items (suc k)) (item.Flag f)) same (head_contained (item.Flag (22 + k)) (item.Preset (1 + k) ∷ []))

  reached_back : (k flag : ℕ) → k < 12 → 21 ≤ flag → flag ≤ 21 + k → Reaches presets (1 + k) flag
  reached_back k flag lt low high = pick k lt high (cases k)
    where
      cases : (n : ℕ) → (flag ≡ 21 + n) ⊎ (flag ≢ 21 + n)
      cases n = same_or_not flag (21 + n)

      pick : (n : ℕ) → n < 12 → flag ≤ 21 + n → (flag ≡ 21 + n) ⊎ (flag ≢ 21 + n) → Reaches presets (1 + n) flag
      pick n less most (inl e) = subst (λ f. Reaches presets (1 + n) f) (sym e) (of_its_own (of_items (size_name n) (size_items n) (slice_get presets (1 + n)) (item.Flag (21 + n)) (at n less) (has_flag n)))
      pick zero less most (inr e) = absurd (omega (arith, e))
      pick (suc n) less most (inr e) =
          through (of_items (size_name (suc n)) (size_items (suc n)) (slice_get presets (1 + suc n)) (item.Preset (1 + n)) (at (suc n) less) (tail_contained (item.Flag (22 + n)) (item.Preset (1 + n) ∷ []) (item.Preset (1 + n)) (head_contained (item.Preset (1 + n)) [])))
          (pick n (omega arith) (omega (arith, e)) (cases n))

-- the preset of a size
pub preset_named : (k : ℕ) → k < 12 → IsSomeAnd (slice_get riscv64.presets (1 + k)) (λ (p : Preset). p.name ≡ size_name k)
preset_named k lt = name_of (slice_get riscv64.presets (1 + k)) (preset_at k lt)
  where
    name_of : (o : Option Preset) → IsSomeAnd o (IsPreset (size_name k) (size_items k)) → IsSomeAnd o (λ (p : Preset). p.name ≡ size_name k)
    name_of (Some p) h = h.0
    name_of None h = absurd h

-- reaches the flags of the sizes up to its own, and no others
pub size_reaches : (k flag : ℕ) → k < 12 → Reaches riscv64.presets (1 + k) flag ↔ ((21 ≤ flag) × (flag ≤ 21 + k))
size_reaches k flag lt = (λ (r : Reaches riscv64.presets (1 + k) flag). reached_on riscv64.presets preset_at (1 + k) flag r k lt refl, λ (h : (21 ≤ flag) × (flag ≤ 21 + k)). reached_back riscv64.presets preset_at k flag lt h.0 h.1)
