-- Where a name stands, and where it stands after more are added.
use Rattle.std.proofs.Common.{◌≡◌, ℕ, suc, ◌+◌, ◌<◌, Bool, true, false, cond, List, [], ◌∷◌, ◌++◌, length, get_or, Option, Some, None, refl, sym, ap, ◌∙◌, arith}
use Rattle.std.specs.Prelude.{◌==◌, fold, is_some, option_map}
use Rattle.std.specs.Str.{bytes_eq}
use Rattle.std.proofs.lemmas.Bool.Decides.{same_from_decides, Decides-eqb}
use Rattle.std.proofs.lemmas.Option.{same_Some}
use Rattle.std.proofs.lemmas.Slice.Eq.{bytes_eq-Decides}
use Rattle.std.specs.Cmp.Lexicographic.{nat_list_eq_equiv}
use Rattle.isle_declarations.specs.Symbols.{index_of, added, number_or}

-- the place of a name after the first
abbrev later : Option ℕ → Option ℕ
later = option_map (λ (n : ℕ). n + 1)

-- a name that stands nowhere is not the first, and stands nowhere after it
nowhere : (first : Bool) (place : Option ℕ) → cond first (Some 0) (later place) ≡ None → (first ≡ false) × (place ≡ None)
nowhere true place e = cc
nowhere false None e = (refl, refl)
nowhere false (Some n) e = cc

-- what equals the first is another name than the new one
not_new : (first new name : List ℕ) → bytes_eq first new ≡ false → bytes_eq first name ≡ true → bytes_eq new name ≡ false
not_new first new name differs same = rw (← (bytes_eq-Decides first name).0 same) (nat_list_eq_equiv.symm new first ∙ differs)

after_first : (first : List ℕ) (names : List (List ℕ)) (new name : List ℕ) → bytes_eq first new ≡ false
    → index_of (names ++ new ∷ []) name ≡ cond (bytes_eq new name) (Some (length names)) (index_of names name)
    → (is_first : Bool) → bytes_eq first name ≡ is_first → (is_new : Bool) → bytes_eq new name ≡ is_new
    → cond is_first (Some 0) (later (index_of (names ++ new ∷ []) name)) ≡ cond is_new (Some (length (first ∷ names))) (cond is_first (Some 0) (later (index_of names name)))
after_first first names new name differs rest true is true was = let no : bytes_eq new name ≡ false = not_new first new name differs is in cc
after_first first names new name differs rest true is false was = refl
after_first first names new name differs rest false is true was = ap later (rest ∙ ap (λ b. cond b (Some (length names)) (index_of names name)) was) ∙ ap Some (omega arith)
after_first first names new name differs rest false is false was = ap later (rest ∙ ap (λ b. cond b (Some (length names)) (index_of names name)) was)

-- a new name stands at the end, and each other where it stood
pub index_of_more : (names : List (List ℕ)) (new name : List ℕ) → index_of names new ≡ None
    → index_of (names ++ new ∷ []) name ≡ cond (bytes_eq new name) (Some (length names)) (index_of names name)
index_of_more [] new name e = refl
index_of_more (first ∷ names) new name e =
    let apart = nowhere (bytes_eq first new) (index_of names new) e in
    after_first first names new name apart.0 (index_of_more names new name apart.1) (bytes_eq first name) refl (bytes_eq new name) refl

-- the new name stands at the end
pub index_of_new : (names : List (List ℕ)) (name : List ℕ) → index_of names name ≡ None → index_of (names ++ name ∷ []) name ≡ Some (length names)
index_of_new names name absent =
    index_of_more names name name absent ∙ ap (λ b. cond b (Some (length names)) (index_of names name)) ((bytes_eq-Decides name name).1 refl)

-- ---- a name keeps its place

first_stays : (first : Bool) (old new : Option ℕ) (n : ℕ) → ((m : ℕ) → old ≡ Some m → new ≡ Some m) → cond first (Some 0) (option_map (λ (k : ℕ). k + 1) old) ≡ Some n → cond first (Some 0) (option_map (λ (k : ℕ). k + 1) new) ≡ Some n
first_stays true old new n h e = e
first_stays false None new n h e = cc
first_stays false (Some m) new n h e = ap (option_map (λ (k : ℕ). k + 1)) (h m refl) ∙ e

pub index_stays : (names more : List (List ℕ)) (name : List ℕ) (n : ℕ) → index_of names name ≡ Some n → index_of (names ++ more) name ≡ Some n
index_stays [] more name n e = cc
index_stays (first ∷ names) more name n e = first_stays (bytes_eq first name) (index_of names name) (index_of (names ++ more) name) n (λ m f. index_stays names more name m f) e

-- and after one more
pub stays_at : (b : Bool) (names : List (List ℕ)) (other name : List ℕ) (n : ℕ) → index_of names name ≡ Some n → index_of (cond b names (names ++ other ∷ [])) name ≡ Some n
stays_at true names other name n e = e
stays_at false names other name n e = index_stays names (other ∷ []) name n e

-- ---- a name that was met has a number

there : (o : Option ℕ) → is_some o ≡ true → o ≡ Some (number_or o)
there None e = cc
there (Some n) e = refl

pub none_of : (o : Option ℕ) → is_some o ≡ false → o ≡ None
none_of None e = refl
none_of (Some n) e = cc

met_at : (b : Bool) (vars : List (List ℕ)) (name : List ℕ) → is_some (index_of vars name) ≡ b → (n : ℕ) × (index_of (cond b vars (vars ++ name ∷ [])) name ≡ Some n)
met_at true vars name e = (number_or (index_of vars name), there (index_of vars name) e)
met_at false vars name e = (_, index_of_new vars name (none_of (index_of vars name) e))

-- its number
pub met : (vars : List (List ℕ)) (name : List ℕ) → (n : ℕ) × (index_of (added vars name) name ≡ Some n)
met vars name = met_at (is_some (index_of vars name)) vars name refl

-- ---- a name stands at its place

first_stands : (b : Bool) (first name : List ℕ) (names : List (List ℕ)) (o : Option ℕ) (n : ℕ) → bytes_eq first name ≡ b → ((m : ℕ) → o ≡ Some m → get_or names m [] ≡ name)
    → cond b (Some 0) (option_map (λ (k : ℕ). k + 1) o) ≡ Some n → get_or (first ∷ names) n [] ≡ name
first_stands true first name names o n same rest e = ap (λ k. get_or (first ∷ names) k []) (sym (same_Some 0 n e)) ∙ (bytes_eq-Decides first name).0 same
first_stands false first name names None n same rest e = absurd cc
first_stands false first name names (Some m) n same rest e =
    let place : m + 1 ≡ n = same_Some (m + 1) n e in
    let next : n ≡ suc m = omega arith in
    ap (λ k. get_or (first ∷ names) k []) next ∙ rest m refl

pub stands : (names : List (List ℕ)) (name : List ℕ) (n : ℕ) → index_of names name ≡ Some n → get_or names n [] ≡ name
stands [] name n e = absurd cc
stands (first ∷ names) name n e = first_stands (bytes_eq first name) first name names (index_of names name) n refl (λ m f. stands names name m f) e

-- a name keeps its place while names are added
pub kept : (more names : List (List ℕ)) (name : List ℕ) (n : ℕ) → index_of names name ≡ Some n → index_of (fold added names more) name ≡ Some n
kept [] names name n e = e
kept (other ∷ more) names name n e = kept more (added names other) name n (stays_at (is_some (index_of names other)) names other name n e)

first_below : (b : Bool) (o : Option ℕ) (n m : ℕ) → ((k : ℕ) → o ≡ Some k → k < m) → cond b (Some 0) (option_map (λ (k : ℕ). k + 1) o) ≡ Some n → n < suc m
first_below true o n m h e = let z : 0 ≡ n = same_Some 0 n e in omega arith
first_below false None n m h e = absurd cc
first_below false (Some k) n m h e =
    let s : k + 1 ≡ n = same_Some (k + 1) n e in
    let l = h k refl in
    omega arith

-- a number is less than the count of names
pub index_below : (names : List (List ℕ)) (name : List ℕ) (n : ℕ) → index_of names name ≡ Some n → n < length names
index_below [] name n e = absurd cc
index_below (first ∷ names) name n e = first_below (bytes_eq first name) (index_of names name) n (length names) (λ k f. index_below names name k f) e

-- ---- two names at one place are one name

same_first : (first : List ℕ) (names : List (List ℕ)) (x y : List ℕ) (n : ℕ) (is_x is_y : Bool) → bytes_eq first x ≡ is_x → bytes_eq first y ≡ is_y → ((m : ℕ) → index_of names x ≡ Some m → index_of names y ≡ Some m → x ≡ y)
    → cond is_x (Some 0) (option_map (λ (k : ℕ). k + 1) (index_of names x)) ≡ Some n → cond is_y (Some 0) (option_map (λ (k : ℕ). k + 1) (index_of names y)) ≡ Some n → x ≡ y
same_first first names x y n true true e f h p q = sym ((bytes_eq-Decides first x).0 e) ∙ (bytes_eq-Decides first y).0 f
same_first first names x y n true false e f h p q = after (index_of names y) q
  where
    after : (o : Option ℕ) → option_map (λ (k : ℕ). k + 1) o ≡ Some n → x ≡ y
    after None q = cc
    after (Some m) q = let zero_is : 0 ≡ n = cc in let more_is : m + 1 ≡ n = cc in absurd (omega arith)
same_first first names x y n false true e f h p q = after (index_of names x) p
  where
    after : (o : Option ℕ) → option_map (λ (k : ℕ). k + 1) o ≡ Some n → x ≡ y
    after None p = cc
    after (Some m) p = let zero_is : 0 ≡ n = cc in let more_is : m + 1 ≡ n = cc in absurd (omega arith)
same_first first names x y n false false e f h p q = after (index_of names x) (index_of names y) refl refl p q
  where
    after : (o r : Option ℕ) → index_of names x ≡ o → index_of names y ≡ r → option_map (λ (k : ℕ). k + 1) o ≡ Some n → option_map (λ (k : ℕ). k + 1) r ≡ Some n → x ≡ y
    after None r i j p q = cc
    after (Some m) None i j p q = cc
    after (Some m) (Some l) i j p q = let first_is : m + 1 ≡ n = cc in let second_is : l + 1 ≡ n = cc in let same : l ≡ m = omega arith in h m i (j ∙ ap Some same)

pub same_name : (names : List (List ℕ)) (x y : List ℕ) (n : ℕ) → index_of names x ≡ Some n → index_of names y ≡ Some n → x ≡ y
same_name [] x y n e f = cc
same_name (first ∷ names) x y n e f = same_first first names x y n (bytes_eq first x) (bytes_eq first y) refl refl (same_name names x y) e f

-- numbers are one if the names are
pub same_number : (syms : List (List ℕ)) (a b : List ℕ) (m n : ℕ) → index_of syms a ≡ Some m → index_of syms b ≡ Some n → m == n ≡ bytes_eq a b
same_number syms a b m n e f =
    same_from_decides (m == n) (bytes_eq a b)
    (λ t. sym (stands syms a m e) ∙ ap (λ k. get_or syms k []) ((Decides-eqb m n).0 t) ∙ stands syms b n f, λ ab. (Decides-eqb m n).1 (same_Some m n (sym e ∙ ap (index_of syms) ab ∙ f)))
    (bytes_eq-Decides a b)
