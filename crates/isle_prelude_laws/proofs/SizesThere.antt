-- The sizes of arrays that instructions of a table use are among those that its file declares.
use Rattle.std.proofs.Common.{◌≡◌, ℕ, ◌<◌, List, [], ◌∷◌, Bool, true, false, cond, Option, Some, None, Ordering, Less, Equal, Greater, refl, sym, ap, ◌∙◌, subst, ⊎_elim, arith}
use Rattle.std.specs.Prelude.{◌==◌, nat_lt, Contains, fold, filter_map}
use Rattle.std.specs.BTreeSet.{insert_key}
use Rattle.std.specs.List.{cons_option}
use Rattle.std.specs.Ordering.{match_ordering, nat_cmp}
use Rattle.std.proofs.lemmas.Bool.{eqb-true}
use Rattle.isle_core.proofs.Contained.{head_contained, tail_contained, contained_cases, none_contained}
use Rattle.isle_meta.specs.declared.clif.InstructionFormat.{InstructionFormat}
use Rattle.isle_meta.specs.declared.tables.Tables.{Tables}
use Rattle.isle_prelude.specs.Arrays.{sized, value_array_size, value_array_sizes, above_one, block_array_sizes}
use Rattle.isle_prelude.specs.Ascending.{ascending_numbers}
use Rattle.isle_prelude.specs.WrittenPrelude.{ctor_sizes}

-- ---- ascending numbers

-- what was there stays
insert_keeps : (ks : List ℕ) (k x : ℕ) → Contains ks x → Contains (insert_key nat_cmp ks k) x
insert_keeps [] k x c = absurd (none_contained x c)
insert_keeps (y ∷ ks) k x c = by (nat_cmp k y) (λ there. insert_keeps ks k x there)
  where
    by : (o : Ordering) → (Contains ks x → Contains (insert_key nat_cmp ks k) x)
        → Contains (match_ordering o (k ∷ y ∷ ks) (y ∷ ks) (y ∷ insert_key nat_cmp ks k)) x
    by Less go = tail_contained k (y ∷ ks) x c
    by Equal go = c
    by Greater go = ⊎_elim (λ (same : y ≡ x). subst (Contains (y ∷ insert_key nat_cmp ks k)) same (head_contained y (insert_key nat_cmp ks k))) (λ there. tail_contained y (insert_key nat_cmp ks k) x (go there)) (contained_cases y ks x c)

equal_numbers : (a b : ℕ) → nat_cmp a b ≡ Equal → a ≡ b
equal_numbers a b h = by (nat_lt a b) (a == b) refl h
  where
    by : (less same : Bool) → a == b ≡ same → cond less Less (cond same Equal Greater) ≡ Equal → a ≡ b
    by true same e k = absurd cc
    by false true e k = eqb-true a b e
    by false false e k = absurd cc

-- what is put in is there
insert_there : (ks : List ℕ) (k : ℕ) → Contains (insert_key nat_cmp ks k) k
insert_there [] k = head_contained k []
insert_there (y ∷ ks) k = by (nat_cmp k y) refl (insert_there ks k)
  where
    by : (o : Ordering) → nat_cmp k y ≡ o → Contains (insert_key nat_cmp ks k) k
        → Contains (match_ordering o (k ∷ y ∷ ks) (y ∷ ks) (y ∷ insert_key nat_cmp ks k)) k
    by Less e go = head_contained k (y ∷ ks)
    by Equal e go = subst (Contains (y ∷ ks)) (sym (equal_numbers k y e)) (head_contained y ks)
    by Greater e go = tail_contained y (insert_key nat_cmp ks k) k go

fold_keeps : (xs ks : List ℕ) (x : ℕ) → Contains ks x → Contains (fold (insert_key nat_cmp) ks xs) x
fold_keeps [] ks x c = c
fold_keeps (y ∷ xs) ks x c = fold_keeps xs (insert_key nat_cmp ks y) x (insert_keeps ks y x c)

fold_there : (xs ks : List ℕ) (x : ℕ) → Contains xs x → Contains (fold (insert_key nat_cmp) ks xs) x
fold_there [] ks x c = absurd (none_contained x c)
fold_there (y ∷ xs) ks x c =
    ⊎_elim (λ (same : y ≡ x). fold_keeps xs (insert_key nat_cmp ks y) x (subst (Contains (insert_key nat_cmp ks y)) same (insert_there ks y))) (λ there. fold_there xs (insert_key nat_cmp ks y) x there) (contained_cases y xs x c)

ascending_there : (xs : List ℕ) (x : ℕ) → Contains xs x → Contains (ascending_numbers xs) x
ascending_there xs x c = fold_there xs [] x c

-- ---- sizes

-- what a thing gives is among what all give
pub filter_there : {A B : Type 0} (f : A → Option B) (xs : List A) (x : A) (y : B) → Contains xs x → f x ≡ Some y → Contains (filter_map f xs) y
filter_there f [] x y c h = absurd (none_contained x c)
filter_there f (z ∷ xs) x y c h =
    ⊎_elim
    (λ (same : z ≡ x). subst (λ o. Contains (cons_option o (filter_map f xs)) y) (sym (ap f same ∙ h)) (head_contained y (filter_map f xs)))
    (λ there. behind (f z) (filter_there f xs x y there h))
    (contained_cases z xs x c)
  where
    behind : (o : Option _) → Contains (filter_map f xs) y → Contains (cons_option o (filter_map f xs)) y
    behind None c = c
    behind (Some w) c = tail_contained w (filter_map f xs) y c

not_one : (n : ℕ) → 1 < n → n == 1 ≡ false
not_one n h = by (n == 1) refl
  where
    by : (b : Bool) → n == 1 ≡ b → b ≡ false
    by false e = refl
    by true e = let same = eqb-true n 1 e in let bad : ⊥ = omega (arith, same, h) in absurd bad

not_zero : (n : ℕ) → 1 < n → n == 0 ≡ false
not_zero n h = by (n == 0) refl
  where
    by : (b : Bool) → n == 0 ≡ b → b ≡ false
    by false e = refl
    by true e = let same = eqb-true n 0 e in let bad : ⊥ = omega (arith, same, h) in absurd bad

above : (n : ℕ) → 1 < n → above_one n ≡ Some n
above n h = ap (λ b. cond b None (cond (n == 1) None (Some n))) (not_zero n h) ∙ ap (λ b. cond b None (Some n)) (not_one n h)

sized_there : (typevar : Option ℕ) (n : ℕ) → (typevar ≡ None → ⊥) → sized typevar false false n ≡ Some n
sized_there None n h = absurd (h refl)
sized_there (Some k) n h = refl

-- arrays of several values of a format that has no list
pub values_there : (fs : List InstructionFormat) (f : InstructionFormat) → Contains fs f → f.has_value_list ≡ false → 1 < f.num_value_operands
    → (f.typevar_operand ≡ None → ⊥) → Contains (value_array_sizes fs) f.num_value_operands
values_there fs f c listless many typed =
    ascending_there (filter_map value_array_size fs) f.num_value_operands
    (filter_there value_array_size fs f f.num_value_operands c
    (ap (λ b. sized f.typevar_operand b (f.num_value_operands == 1) f.num_value_operands) listless ∙ ap (λ b. sized f.typevar_operand false b f.num_value_operands) (not_one f.num_value_operands many) ∙ sized_there f.typevar_operand f.num_value_operands typed))

-- and the terms that make them
pub ctors_there : (t : Tables) (n : ℕ) → Contains (value_array_sizes t.formats) n → 1 < n → Contains (ctor_sizes t) n
ctors_there t n c many = filter_there above_one (value_array_sizes t.formats) n n c (above n many)

-- arrays of several blocks
pub blocks_there : (fs : List InstructionFormat) (f : InstructionFormat) → Contains fs f → 1 < f.num_block_operands
    → Contains (block_array_sizes fs) f.num_block_operands
blocks_there fs f c many =
    ascending_there (filter_map (λ (g : InstructionFormat). above_one g.num_block_operands) fs) f.num_block_operands
    (filter_there (λ (g : InstructionFormat). above_one g.num_block_operands) fs f f.num_block_operands c (above f.num_block_operands many))
