-- Numbers of names, and tables by them.
use Rattle.std.proofs.Common.{◌≡◌, ℕ, suc, ◌+◌, ◌<◌, Bool, true, false, zero, cond, List, [], ◌∷◌, ◌++◌, length, map, get_or, take, Option, Some, None, Result, Ok, Err, refl, sym, ap, ◌∙◌, arith}
use Rattle.std.specs.Prelude.{◌==◌, ◌||◌, fold, is_some, option_map, slice_get, set, IfOk}
use Rattle.std.specs.List.{AllByRecursion, find}
use Rattle.std.specs.Str.{bytes_eq}
use Rattle.std.proofs.lemmas.Bool.Decides.{Decides-eqb}
use Rattle.std.proofs.lemmas.Option.{same_Some, slice_get-get_or, slice_get-map}
use Rattle.std.proofs.lemmas.List.{map-append, length-set, get_or-set_same, get_or-set_other, length-take-le, take_more}
use Rattle.std.proofs.lemmas.Slice.Eq.{bytes_eq-Decides}
use Rattle.isle_declarations.specs.Symbols.{index_of, added}
use Rattle.isle_declarations.specs.Signatures.{Extern, RuleDef, func_named, has_rule}
use Rattle.isle_declarations.specs.Heads.{heads_of, extern_terms}
use Rattle.isle_declarations.specs.declared.first_places.FirstPlaces.{FirstPlaces}
use Rattle.isle_declarations.specs.Numbered.{place_of, place_in, joined, ArePlaces, AreNumbered}
use Rattle.isle_declarations.specs.Tables.{HasFirsts}
use Rattle.isle_declarations.proofs.SymbolLaws.{kept, index_below, same_number}
use Rattle.isle_declarations.proofs.PlaceLaws.{or_at, after_first}

-- ---- numbers of names

head_same : {X : Type 0} (x y : X) (xs ys : List X) → x ∷ xs ≡ y ∷ ys → x ≡ y
head_same x y xs ys e = cc

tail_same : {X : Type 0} (x y : X) (xs ys : List X) → x ∷ xs ≡ y ∷ ys → xs ≡ ys
tail_same x y xs ys e = cc

-- the first name's number
pub first_number : (syms : List (List ℕ)) (name : List ℕ) (names : List (List ℕ)) (n : ℕ) (ns : List ℕ) → AreNumbered syms (name ∷ names) (n ∷ ns) → index_of syms name ≡ Some n
first_number syms name names n ns h = head_same (index_of syms name) (Some n) (map (index_of syms) names) (map Some ns) h

other_numbers : (syms : List (List ℕ)) (name : List ℕ) (names : List (List ℕ)) (n : ℕ) (ns : List ℕ) → AreNumbered syms (name ∷ names) (n ∷ ns) → AreNumbered syms names ns
other_numbers syms name names n ns h = tail_same (index_of syms name) (Some n) (map (index_of syms) names) (map Some ns) h

pub numbered_more : (syms a b : List (List ℕ)) (m n : List ℕ) → AreNumbered syms a m → AreNumbered syms b n → AreNumbered syms (a ++ b) (m ++ n)
numbered_more syms a b m n h k = map-append (index_of syms) a b ∙ ap (λ xs. xs ++ map (index_of syms) b) h ∙ ap (λ xs. map Some m ++ xs) k ∙ sym (map-append Some m n)

-- numbers stay while names are added
pub numbered_kept : (more syms names : List (List ℕ)) (ns : List ℕ) → AreNumbered syms names ns → AreNumbered (fold added syms more) names ns
numbered_kept more syms [] [] h = refl
numbered_kept more syms [] (n ∷ ns) h = absurd cc
numbered_kept more syms (name ∷ names) [] h = absurd cc
numbered_kept more syms (name ∷ names) (n ∷ ns) h =
    ap (λ x. x ∷ map (index_of (fold added syms more)) names) (kept more syms name n (first_number syms name names n ns h))
    ∙ ap (λ xs. Some n ∷ xs) (numbered_kept more syms names ns (other_numbers syms name names n ns h))

pub numbered_below : (syms names : List (List ℕ)) (ns : List ℕ) → AreNumbered syms names ns → AllByRecursion (λ (n : ℕ). n < length syms) ns
numbered_below syms [] [] h = tt
numbered_below syms [] (n ∷ ns) h = absurd cc
numbered_below syms (name ∷ names) [] h = absurd cc
numbered_below syms (name ∷ names) (n ∷ ns) h = (index_below syms name n (first_number syms name names n ns h), numbered_below syms names ns (other_numbers syms name names n ns h))

-- the place of a number is that of its name
pub numbered_places : (syms names : List (List ℕ)) (ns : List ℕ) (name : List ℕ) (k : ℕ) → AreNumbered syms names ns → index_of syms name ≡ Some k → place_of ns k ≡ index_of names name
numbered_places syms [] [] name k h e = refl
numbered_places syms [] (n ∷ ns) name k h e = absurd cc
numbered_places syms (a ∷ names) [] name k h e = absurd cc
numbered_places syms (a ∷ names) (n ∷ ns) name k h e =
    ap (λ b. cond b (Some 0) (option_map (λ (p : ℕ). p + 1) (place_of ns k))) (same_number syms a name n k (first_number syms a names n ns h) e)
    ∙ ap (λ o. cond (bytes_eq a name) (Some 0) (option_map (λ (p : ℕ). p + 1) o)) (numbered_places syms names ns name k (other_numbers syms a names n ns h) e)

absent_first : (syms : List (List ℕ)) (a name : List ℕ) (n : ℕ) (o : Option ℕ) (b : Bool) → bytes_eq a name ≡ b → index_of syms a ≡ Some n → index_of syms name ≡ None → o ≡ None → cond b (Some 0) (option_map (λ (p : ℕ). p + 1) o) ≡ None
absent_first syms a name n o true same e none h = let both : None ≡ Some n = sym none ∙ ap (index_of syms) (sym ((bytes_eq-Decides a name).0 same)) ∙ e in absurd cc
absent_first syms a name n o false same e none h = ap (option_map (λ (p : ℕ). p + 1)) h

-- a name without a number stands nowhere among the numbered ones
numbered_absent : (syms names : List (List ℕ)) (ns : List ℕ) (name : List ℕ) → AreNumbered syms names ns → index_of syms name ≡ None → index_of names name ≡ None
numbered_absent syms [] ns name h none = refl
numbered_absent syms (a ∷ names) [] name h none = absurd cc
numbered_absent syms (a ∷ names) (n ∷ ns) name h none =
    absent_first syms a name n (index_of names name) (bytes_eq a name) refl (first_number syms a names n ns h) none (numbered_absent syms names ns name (other_numbers syms a names n ns h) none)

firsts_at : (syms names : List (List ℕ)) (ns : List ℕ) (found : FirstPlaces) (name : List ℕ) (o : Option ℕ) → AreNumbered syms names ns → ArePlaces (length syms) ns found → index_of syms name ≡ o → index_of names name ≡ place_in found.table.items o
firsts_at syms names ns found name None h t e = numbered_absent syms names ns name h e
firsts_at syms names ns found name (Some k) h t e = sym (numbered_places syms names ns name k h e) ∙ sym (t.places k (index_below syms name k e))

-- the first places of numbers are those of their names
pub numbered_firsts : (syms names : List (List ℕ)) (ns : List ℕ) (found : FirstPlaces) → AreNumbered syms names ns → ArePlaces (length syms) ns found → HasFirsts syms names found
numbered_firsts syms names ns found h t = record { firsts = λ name. firsts_at syms names ns found name (index_of syms name) h t refl }

-- ---- one number more

place_end : (ns : List ℕ) (n k : ℕ) → place_of (ns ++ n ∷ []) k ≡ or_at (place_of ns k) (n == k) (length ns)
place_end [] n k = refl
place_end (first ∷ ns) n k = after_first (first == k) (n == k) (place_of ns k) (place_of (ns ++ n ∷ []) k) (length ns) (place_end ns n k)

set_got : (table : List (Option ℕ)) (n k place : ℕ) (b : Bool) → n == k ≡ b → n < length table → k < length table → slice_get (set table n (Some place)) k ≡ cond b (Some (Some place)) (slice_get table k)
set_got table n k place true e l m =
    let same : n ≡ k = (Decides-eqb n k).0 e in
    ap (λ j. slice_get (set table n (Some place)) j) (sym same)
    ∙ slice_get-get_or (set table n (Some place)) n None (let len = length-set table n (Some place) in omega arith) ∙ ap Some (get_or-set_same table n (Some place) None l)
set_got table n k place false e l m =
    let apart : k ≡ n → ⊥ = λ s. (let bad : true ≡ false = sym ((Decides-eqb n k).1 (sym s)) ∙ e in cc) in
    slice_get-get_or (set table n (Some place)) k None (let len = length-set table n (Some place) in omega arith) ∙ ap Some (get_or-set_other table n k (Some place) None apart) ∙ sym (slice_get-get_or table k None m)

put_at : (table : List (Option ℕ)) (ns : List ℕ) (n k : ℕ) (b : Bool) → n == k ≡ b → n < length table → k < length table → place_in table (Some n) ≡ None → ((j : ℕ) → j < length table → place_in table (Some j) ≡ place_of ns j)
    → place_in (set table n (Some (length ns))) (Some k) ≡ or_at (place_of ns k) b (length ns)
put_at table ns n k true e l m free h =
    let same : n ≡ k = (Decides-eqb n k).0 e in
    let none : place_of ns k ≡ None = ap (place_of ns) (sym same) ∙ sym (h n l) ∙ free in
    ap joined (set_got table n k (length ns) true e l m) ∙ sym (ap (λ o. or_at o true (length ns)) none)
put_at table ns n k false e l m free h = ap joined (set_got table n k (length ns) false e l m) ∙ h k m ∙ or_none (place_of ns k)
  where
    or_none : (o : Option ℕ) → o ≡ or_at o false (length ns)
    or_none None = refl
    or_none (Some p) = refl

-- a table with one place more
pub put_more : (table : List (Option ℕ)) (ns : List ℕ) (n : ℕ) → n < length table → place_in table (Some n) ≡ None → ((j : ℕ) → j < length table → place_in table (Some j) ≡ place_of ns j)
    → (k : ℕ) → k < length table → place_in (set table n (Some (length ns))) (Some k) ≡ place_of (ns ++ n ∷ []) k
put_more table ns n l free h k m = put_at table ns n k (n == k) refl l m free h ∙ sym (place_end ns n k)

below_at : (numbers : List ℕ) (count i : ℕ) → AllByRecursion (λ (n : ℕ). n < count) numbers → i < length numbers → get_or numbers i 0 < count
below_at [] count i h lt = absurd (omega arith)
below_at (n ∷ numbers) count zero h lt = h.0
below_at (n ∷ numbers) count (suc i) h lt = below_at numbers count i h.1 (omega arith)

-- the loop over numbers: as many places as the count, and the places of the numbers so far
pub record ArePut (numbers : List ℕ) (count i : ℕ) (table : List (Option ℕ)) : Type 0 where
  pub long : length table ≡ count
  pub places : (k : ℕ) → k < count → place_in table (Some k) ≡ place_of (take i numbers) k

-- one number more, which is new
pub put_step : (numbers : List ℕ) (count i : ℕ) (table : List (Option ℕ)) → i < length numbers → AllByRecursion (λ (n : ℕ). n < count) numbers → place_in table (Some (get_or numbers i 0)) ≡ None → ArePut numbers count i table
    → ArePut numbers count (i + 1) (set table (get_or numbers i 0) (Some i))
put_step numbers count i table lt below free h =
    let n = get_or numbers i 0 in
    let inside : n < length table = (let b = below_at numbers count i below lt in let e = h.long in omega arith) in
    let long : length (take i numbers) ≡ i = length-take-le i numbers (omega arith) in
    let more : take (i + 1) numbers ≡ take i numbers ++ n ∷ [] = take_more numbers i 0 lt in
    let none : place_of (take i numbers) n ≡ None = sym (h.places n (below_at numbers count i below lt)) ∙ free in
    record {
      long = length-set table n (Some i) ∙ h.long;
      places = λ k l. ap (λ j. place_in (set table n (Some j)) (Some k)) (sym long) ∙ put_more table (take i numbers) n inside free (λ j m. h.places j (let e = h.long in omega arith)) k (let e = h.long in omega arith) ∙ ap (λ xs. place_of xs k) (sym more);
    }

place_kept : (o : Option ℕ) (b : Bool) (end p : ℕ) → (b ≡ true → o ≡ Some p) → or_at o b end ≡ o
place_kept None true end p h = let bad : None ≡ Some p = h refl in absurd cc
place_kept None false end p h = refl
place_kept (Some n) b end p h = refl

-- one number more, which repeats
pub put_again : (numbers : List ℕ) (count i : ℕ) (table : List (Option ℕ)) (p : ℕ) → i < length numbers → AllByRecursion (λ (n : ℕ). n < count) numbers → place_in table (Some (get_or numbers i 0)) ≡ Some p → ArePut numbers count i table
    → ArePut numbers count (i + 1) table
put_again numbers count i table p lt below there h =
    let n = get_or numbers i 0 in
    let at : place_of (take i numbers) n ≡ Some p = sym (h.places n (below_at numbers count i below lt)) ∙ there in
    let more : take (i + 1) numbers ≡ take i numbers ++ n ∷ [] = take_more numbers i 0 lt in
    record {
      long = h.long;
      places = λ k l. h.places k l ∙ sym (ap (λ xs. place_of xs k) more ∙ place_end (take i numbers) n k ∙ place_kept (place_of (take i numbers) k) (n == k) (length (take i numbers)) p (λ e. ap (place_of (take i numbers)) (sym ((Decides-eqb n k).0 e)) ∙ at));
    }

-- the same if something is found
pub put_found : (numbers : List ℕ) (count i : ℕ) (table : List (Option ℕ)) (o : Option ℕ) → i < length numbers → AllByRecursion (λ (n : ℕ). n < count) numbers → place_in table (Some (get_or numbers i 0)) ≡ o → is_some o ≡ true
    → ArePut numbers count i table → ArePut numbers count (i + 1) table
put_found numbers count i table None lt below there some h = absurd cc
put_found numbers count i table (Some p) lt below there some h = put_again numbers count i table p lt below there h

-- what is seen of what is seen
pub map_seen : {X Y Z : Type 0} (f : Y → Z) (g : X → Y) (xs : List X) → map f (map g xs) ≡ map (λ x. f (g x)) xs
map_seen f g [] = refl
map_seen f g (x ∷ xs) = ap (λ ys. f (g x) ∷ ys) (map_seen f g xs)

-- what a call that makes a table gives
pub firsts_result : {E : Type 0} (r : Result FirstPlaces E) (syms names : List (List ℕ)) (ns given : List ℕ) (count : ℕ) → AreNumbered syms names ns → count ≡ length syms → given ≡ ns
    → IfOk r (λ found. ArePlaces count given found) → IfOk r (λ found. HasFirsts syms names found)
firsts_result (Err e) syms names ns given count h len is t = tt
firsts_result (Ok found) syms names ns given count h len is t = numbered_firsts syms names ns found h (rw (← len, ← is) t)

-- ---- what has a number

-- what two lists that are seen alike have at one place
pub seen_alike : {X Y Z : Type 0} (f : X → Z) (g : Y → Z) (xs : List X) (ys : List Y) (i : ℕ) → map f xs ≡ map g ys → option_map f (slice_get xs i) ≡ option_map g (slice_get ys i)
seen_alike f g xs ys i h = sym (slice_get-map f xs i) ∙ ap (λ zs. slice_get zs i) h ∙ slice_get-map g ys i

-- what stands at a place has the number of its name
pub number_at : {X : Type 0} (name_of : X → List ℕ) (number_of : X → ℕ) (syms : List (List ℕ)) (xs : List X) (i : ℕ) (x : X) → AreNumbered syms (map name_of xs) (map number_of xs) → slice_get xs i ≡ Some x → index_of syms (name_of x) ≡ Some (number_of x)
number_at name_of number_of syms xs i x h at =
    let alike : map (λ x. index_of syms (name_of x)) xs ≡ map (λ x. Some (number_of x)) xs = sym (map_seen (index_of syms) name_of xs) ∙ h ∙ map_seen Some number_of xs in
    same_Some (index_of syms (name_of x)) (Some (number_of x))
    (ap (option_map (λ x. index_of syms (name_of x))) (sym at) ∙ seen_alike (λ x. index_of syms (name_of x)) (λ x. Some (number_of x)) xs xs i alike ∙ ap (option_map (λ x. Some (number_of x))) at)

-- the same of an item of a loop
pub item_number : {X : Type 0} (name_of : X → List ℕ) (number_of : X → ℕ) (syms : List (List ℕ)) (xs : List X) (i : ℕ) (x d : X) → AreNumbered syms (map name_of xs) (map number_of xs) → i < length xs → x ≡ get_or xs i d → index_of syms (name_of x) ≡ Some (number_of x)
item_number name_of number_of syms xs i x d h lt is = number_at name_of number_of syms xs i x h (slice_get-get_or xs i d lt ∙ ap Some (sym is))

-- ---- a name among heads

some_later : (b has : Bool) (o : Option ℕ) → is_some o ≡ has → is_some (cond b (Some 0) (option_map (λ (p : ℕ). p + 1) o)) ≡ b || has
some_later true has o h = refl
some_later false has None h = h
some_later false has (Some p) h = h

-- a name is among the heads if it has a rule
pub has_head : (rules : List RuleDef) (name : List ℕ) → is_some (index_of (heads_of rules) name) ≡ has_rule rules name
has_head [] name = refl
has_head (r ∷ rules) name = some_later (bytes_eq r.term name) (has_rule rules name) (index_of (heads_of rules) name) (has_head rules name)

func_later : {X Y : Type 0} (g : X → Y) (x : X) (b : Bool) (o : Option X) (p : Option ℕ) → is_some (option_map g o) ≡ is_some p → is_some (option_map g (cond b (Some x) o)) ≡ is_some (cond b (Some 0) (option_map (λ (n : ℕ). n + 1) p))
func_later g x true o p h = refl
func_later g x false o None h = h
func_later g x false o (Some n) h = h

-- a term has an external constructor if it is among their terms
pub has_func : (xs : List Extern) (name : List ℕ) → is_some (func_named xs name) ≡ is_some (index_of (extern_terms xs) name)
has_func [] name = refl
has_func (x ∷ xs) name = func_later (λ (y : Extern). y.func) x (bytes_eq x.term name) (find (λ (y : Extern). bytes_eq y.term name) xs) (index_of (extern_terms xs) name) (has_func xs name)

named_later : {X : Type 0} (x : X) (b : Bool) (o : Option X) (p : Option ℕ) → is_some o ≡ is_some p → is_some (cond b (Some x) o) ≡ is_some (cond b (Some 0) (option_map (λ (n : ℕ). n + 1) p))
named_later x true o p h = refl
named_later x false o None h = h
named_later x false o (Some n) h = h
