-- Where a name is found after one more is put into a slot or beside the slots.
use Rattle.std.proofs.Common.{◌≡◌, ℕ, zero, suc, ◌+◌, ◌-◌, ◌<◌, ◌≤◌, Bool, true, false, cond, List, [], ◌∷◌, ◌++◌, length, get_or, take, drop, set, Option, Some, None, refl, sym, ap, ◌∙◌, arith, subst}
use Rattle.std.specs.List.{find}
use Rattle.std.specs.Option.{option_or}
use Rattle.std.specs.Str.{bytes_eq}
use Rattle.std.specs.BTreeMap.{IsEmpty, UpdatesBy, is_at}
use Rattle.std.specs.Map.{lookup}
use Rattle.std.specs.Cmp.Lexicographic.{slice_cmp}
use Rattle.std.specs.Ordering.{nat_cmp}
use Rattle.std.proofs.lemmas.List.{length-set, drop-set-add, length-take, length-drop}
use Rattle.std.proofs.Math.Seq.{take-set-lt}
use Rattle.std.proofs.lemmas.Option.{slice_get_past}
use Rattle.std.proofs.lemmas.Map.Text.{btree_map_updates_str}
use Rattle.std.proofs.lemmas.Slice.Eq.{bytes_eq-Decides}
use denote.Ref.{Bor}
use Rattle.isle_declarations.specs.Symbols.{index_of}
use Rattle.isle_declarations.specs.LookedUp.{at_name}
use Rattle.isle_declarations.specs.Hashing.{hash_of}
use Rattle.isle_declarations.specs.Slots.{Overflow, is_name, stands_at, start_of, window_of, found_place, Places, IsFree}
use Rattle.isle_declarations.proofs.SymbolLaws.{index_of_more}

-- ---- what is found

-- where there are no names, nothing is found
pub finds_nothing : (slots : List ℕ) (name : List ℕ) → find (stands_at [] name) slots ≡ None
finds_nothing [] name = refl
finds_nothing (slot ∷ slots) name = finds_nothing slots name

-- tests that answer the same find the same
finds_same : (p q : ℕ → Bool) → ((n : ℕ) → p n ≡ q n) → (xs : List ℕ) → find p xs ≡ find q xs
finds_same p q same [] = refl
finds_same p q same (x ∷ xs) = rw (same x, finds_same p q same xs) refl

-- where nothing is found, the first is not it
neither : (b : Bool) (x : ℕ) (o : Option ℕ) → cond b (Some x) o ≡ None → (b ≡ false) × (o ≡ None)
neither true x o e = absurd cc
neither false x o e = (refl, e)

-- what is found, if a new test finds but one number more
or_found : (is : Bool) (x v : ℕ) (o : Option ℕ) → (is ≡ true → x ≡ v) → option_or o (Some v) ≡ Some v
    → option_or (cond is (Some x) o) (Some v) ≡ Some v
or_found true x v o h e = ap Some (h refl)
or_found false x v o h e = e

-- so with such a test that number is found, or nothing
finds_or : (p q : ℕ → Bool) (v : ℕ) → ((n : ℕ) → p n ≡ false → q n ≡ true → n ≡ v) → (xs : List ℕ) → find p xs ≡ None
    → option_or (find q xs) (Some v) ≡ Some v
finds_or p q v only [] e = refl
finds_or p q v only (x ∷ xs) e =
    let apart = neither (p x) x (find p xs) e in
    or_found (q x) x v (find q xs) (only x apart.0) (finds_or p q v only xs apart.1)

-- the same, where it is found after the first
first_found : (is : Bool) (x v : ℕ) (o : Option ℕ) → (is ≡ true → x ≡ v) → o ≡ Some v → cond is (Some x) o ≡ Some v
first_found true x v o h e = ap Some (h refl)
first_found false x v o h e = e

-- and where it is written over another, it is found
finds_set : (p q : ℕ → Bool) (v : ℕ) → ((n : ℕ) → p n ≡ false → q n ≡ true → n ≡ v) → q v ≡ true → (xs : List ℕ) (k : ℕ)
    → k < length xs → find p xs ≡ None → find q (set xs k v) ≡ Some v
finds_set p q v only here [] k within e = absurd (omega arith)
finds_set p q v only here (x ∷ xs) zero within e = ap (λ b. cond b (Some v) (find q xs)) here
finds_set p q v only here (x ∷ xs) (suc k) within e =
    let apart = neither (p x) x (find p xs) e in
    first_found (q x) x v (find q (set xs k v)) (only x apart.0) (finds_set p q v only here xs k (omega arith) apart.1)

-- ---- a window in which a slot is set

-- the same is found, if neither what stood in the slot nor what is set is sought
unseen : (q : ℕ → Bool) (v : ℕ) → q v ≡ false → (start n : ℕ) (slots : List ℕ) (slot : ℕ) → q (get_or slots slot 0) ≡ false
    → find q (take n (drop start (set slots slot v))) ≡ find q (take n (drop start slots))
unseen q v new (suc start) n [] slot old = refl
unseen q v new (suc start) n (x ∷ slots) zero old = refl
unseen q v new (suc start) n (x ∷ slots) (suc slot) old = unseen q v new start n slots slot old
unseen q v new zero zero slots slot old = refl
unseen q v new zero (suc n) [] slot old = refl
unseen q v new zero (suc n) (x ∷ slots) zero old = rw (new, old) refl
unseen q v new zero (suc n) (x ∷ slots) (suc slot) old = ap (cond (q x) (Some x)) (unseen q v new zero n slots slot old)

-- the same for the window of any hash
window_unseen : (q : ℕ → Bool) (v : ℕ) → q v ≡ false → (slots : List ℕ) (slot hash : ℕ) → q (get_or slots slot 0) ≡ false
    → find q (window_of (set slots slot v) hash) ≡ find q (window_of slots hash)
unfolding window_of
window_unseen q v new slots slot hash old =
    ap (λ n. find q (take 8 (drop (start_of n hash) (set slots slot v)))) (length-set slots slot v)
    ∙ unseen q v new (start_of (length slots) hash) 8 slots slot old

-- a slot of a window is set in the window
set_within : (start n k : ℕ) (slots : List ℕ) (slot v : ℕ) → k < n → start + k ≡ slot
    → take n (drop start (set slots slot v)) ≡ set (take n (drop start slots)) k v
set_within start n k slots slot v within is =
    ap (λ s. take n (drop start (set slots s v))) (sym is) ∙ ap (take n) (drop-set-add start slots k v) ∙ take-set-lt n (drop start slots) k v within

-- as a free slot of it is
window_set : (slots : List ℕ) (hash count slot : ℕ) → IsFree slots hash count slot
    → (k : ℕ) × (window_of (set slots slot count) hash ≡ set (window_of slots hash) k count) × (k < length (window_of slots hash))
unfolding window_of
window_set slots hash count slot free =
    let start = start_of (length slots) hash in
    let begins : start ≤ slot = free.begins in
    let ends : slot < start + 8 = free.ends in
    let within : slot < length slots = free.within in
    let is : start + (slot - start) ≡ slot = omega arith in
    let small : slot - start < 8 = omega arith in
    let long = length-take 8 (drop start slots) in
    let left = length-drop start slots in
    let same = ap (λ n. take 8 (drop (start_of n hash) (set slots slot count))) (length-set slots slot count) in
    (slot - start, same ∙ set_within start 8 (slot - start) slots slot count small is, omega (arith, long, left))

-- ---- where names stand when one more is there

-- another name stands where it stood
stands_more : (names : List (List ℕ)) (new name : List ℕ) → bytes_eq new name ≡ false → (place : ℕ)
    → stands_at (names ++ new ∷ []) name place ≡ stands_at names name place
stands_more [] new name h zero = h
stands_more [] new name h (suc place) = refl
stands_more (first ∷ names) new name h zero = refl
stands_more (first ∷ names) new name h (suc place) = stands_more names new name h place

-- the new one stands at the end, and nowhere else if it stood nowhere
stands_last : (names : List (List ℕ)) (name : List ℕ) → stands_at (names ++ name ∷ []) name (length names) ≡ true
stands_last [] name = (bytes_eq-Decides name name).1 refl
stands_last (first ∷ names) name = stands_last names name

-- nor does it stand anywhere before
stands_only : (names : List (List ℕ)) (name : List ℕ) (place : ℕ) → stands_at names name place ≡ false
    → stands_at (names ++ name ∷ []) name place ≡ true → place ≡ length names
stands_only [] name zero a b = refl
stands_only [] name (suc place) a b = absurd cc
stands_only (first ∷ names) name zero a b = absurd cc
stands_only (first ∷ names) name (suc place) a b = ap suc (stands_only names name place a b)

-- none stands past the end
stands_past : (names : List (List ℕ)) (name : List ℕ) (place : ℕ) → length names ≤ place → stands_at names name place ≡ false
stands_past names name place past = ap (λ o. is_name o name) (slice_get_past names place past)

-- ---- where each name is found

-- where there are no names, none is
pub nothing_placed : (slots : List ℕ) (overflow : Overflow) → IsEmpty overflow → Places [] slots overflow
nothing_placed slots overflow empty = record {
  finds = λ name.
      ap (λ o. option_or o (at_name overflow name)) (finds_nothing (window_of slots (hash_of name)) name)
      ∙ ap (λ es. lookup (is_at (λ (k : Bor (List ℕ)). slice_cmp nat_cmp name k.now)) es) empty;
}

-- where neither has anything
found_none : (o r : Option ℕ) → option_or o r ≡ None → (o ≡ None) × (r ≡ None)
found_none None r e = (refl, e)
found_none (Some n) r e = absurd cc

-- a new name is found nowhere
nowhere : (names : List (List ℕ)) (slots : List ℕ) (overflow : Overflow) (name : List ℕ) → Places names slots overflow
    → index_of names name ≡ None → find (stands_at names name) (window_of slots (hash_of name)) ≡ None
nowhere names slots overflow name were absent =
    (found_none (find (stands_at names name) (window_of slots (hash_of name))) (at_name overflow name) (were.finds name ∙ absent)).0

-- it is found in the slot that it was put into
here_found : (names : List (List ℕ)) (slots : List ℕ) (overflow : Overflow) (name : List ℕ) (slot : ℕ)
    → index_of names name ≡ None → IsFree slots (hash_of name) (length names) slot → Places names slots overflow
    → find (stands_at (names ++ name ∷ []) name) (window_of (set slots slot (length names)) (hash_of name)) ≡ Some (length names)
here_found names slots overflow name slot absent free were =
    let window = window_set slots (hash_of name) (length names) slot free in
    ap (find (stands_at (names ++ name ∷ []) name)) window.1
    ∙ finds_set (stands_at names name) (stands_at (names ++ name ∷ []) name) (length names) (stands_only names name) (stands_last names name)
    (window_of slots (hash_of name)) window.0 window.2 (nowhere names slots overflow name were absent)

-- another one is found where it was
there_found : (names : List (List ℕ)) (slots : List ℕ) (name other : List ℕ) (slot : ℕ)
    → IsFree slots (hash_of name) (length names) slot → bytes_eq name other ≡ false
    → find (stands_at (names ++ name ∷ []) other) (window_of (set slots slot (length names)) (hash_of other)) ≡ find (stands_at names other) (window_of slots (hash_of other))
there_found names slots name other slot free differs =
    let same = stands_more names name other differs in
    let old = same (get_or slots slot 0) ∙ stands_past names other (get_or slots slot 0) free.free in
    let new = same (length names) ∙ stands_past names other (length names) (omega arith) in
    window_unseen (stands_at (names ++ name ∷ []) other) (length names) new slots slot (hash_of other) old
    ∙ finds_same (stands_at (names ++ name ∷ []) other) (stands_at names other) same (window_of slots (hash_of other))

-- each name, when one more is in a slot
in_slot : (names : List (List ℕ)) (slots : List ℕ) (overflow : Overflow) (name other : List ℕ) (slot : ℕ)
    → index_of names name ≡ None → IsFree slots (hash_of name) (length names) slot → Places names slots overflow → (b : Bool)
    → bytes_eq name other ≡ b
    → found_place (set slots slot (length names)) overflow (names ++ name ∷ []) other ≡ cond b (Some (length names)) (index_of names other)
in_slot names slots overflow name other slot absent free were true same =
    let is : name ≡ other = (bytes_eq-Decides name other).0 same in
    ap (found_place (set slots slot (length names)) overflow (names ++ name ∷ [])) (sym is)
    ∙ ap (λ o. option_or o (at_name overflow name)) (here_found names slots overflow name slot absent free were)
in_slot names slots overflow name other slot absent free were false differs =
    ap (λ o. option_or o (at_name overflow other)) (there_found names slots name other slot free differs) ∙ were.finds other

-- a new name in a slot
pub put_in_slot : (slots : List ℕ) (overflow : Overflow) (name : List ℕ) (count slot : ℕ) → IsFree slots (hash_of name) count slot
    → (names : List (List ℕ)) → length names ≡ count → index_of names name ≡ None → Places names slots overflow
    → Places (names ++ name ∷ []) (set slots slot count) overflow
put_in_slot slots overflow name count slot free names counted absent were =
    let is_free : IsFree slots (hash_of name) (length names) slot = subst (λ n. IsFree slots (hash_of name) n slot) (sym counted) free in
    subst (λ n. Places (names ++ name ∷ []) (set slots slot n) overflow) counted
    (record { finds = λ other. in_slot names slots overflow name other slot absent is_free were (bytes_eq name other) refl ∙ sym (index_of_more names name other absent) })

-- each name, when one more is beside the slots
beside : (names : List (List ℕ)) (slots : List ℕ) (old new : Overflow) (name other : List ℕ)
    → index_of names name ≡ None → Places names slots old → (b : Bool) → bytes_eq name other ≡ b
    → at_name new other ≡ cond b (Some (length names)) (at_name old other)
    → found_place slots new (names ++ name ∷ []) other ≡ cond b (Some (length names)) (index_of names other)
beside names slots old new name other absent were true same updated =
    let is : name ≡ other = (bytes_eq-Decides name other).0 same in
    ap (option_or (find (stands_at (names ++ name ∷ []) other) (window_of slots (hash_of other)))) updated
    ∙ ap (λ o. option_or (find (stands_at (names ++ name ∷ []) o) (window_of slots (hash_of o))) (Some (length names))) (sym is)
    ∙ finds_or (stands_at names name) (stands_at (names ++ name ∷ []) name) (length names) (stands_only names name) (window_of slots (hash_of name))
    (nowhere names slots old name were absent)
beside names slots old new name other absent were false differs updated =
    ap (option_or (find (stands_at (names ++ name ∷ []) other) (window_of slots (hash_of other)))) updated
    ∙ ap (λ o. option_or o (at_name old other))
    (finds_same (stands_at (names ++ name ∷ []) other) (stands_at names other) (stands_more names name other differs) (window_of slots (hash_of other)))
    ∙ were.finds other

-- a new name beside the slots
pub put_beside : (slots : List ℕ) (old new : Overflow) (key : Bor (List ℕ)) (count : ℕ)
    → UpdatesBy (λ (x y : Bor (List ℕ)). slice_cmp nat_cmp x.now y.now) (λ (k : Bor (List ℕ)). slice_cmp nat_cmp key.now k.now) old new (Some count)
    → (names : List (List ℕ)) → length names ≡ count → index_of names key.now ≡ None → Places names slots old
    → Places (names ++ key.now ∷ []) slots new
put_beside slots old new key count updates names counted absent were = record {
  finds = λ other.
      beside names slots old new key.now other absent were (bytes_eq key.now other) refl
      (btree_map_updates_str key.now old new (Some count) updates other ∙ ap (λ n. cond (bytes_eq key.now other) (Some n) (at_name old other)) (sym counted))
      ∙ sym (index_of_more names key.now other absent);
}

-- what is beside the slots as it was
pub kept_beside : (slots : List ℕ) (old new : Overflow) → new.entries ≡ old.entries
    → (names : List (List ℕ)) → Places names slots old → Places names slots new
kept_beside slots old new same names were = record {
  finds = λ name.
      ap (λ es. option_or (find (stands_at names name) (window_of slots (hash_of name))) (lookup (is_at (λ (k : Bor (List ℕ)). slice_cmp nat_cmp name k.now)) es)) same
      ∙ were.finds name;
}
