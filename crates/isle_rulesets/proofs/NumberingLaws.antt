-- A numbering keeps each path once.
use Rattle.std.proofs.Common.{◌≡◌, ◌⊎◌, inl, inr, ⊎_elim, ℕ, ◌+◌, suc, List, [], ◌∷◌, ◌++◌, length, Bool, true, false, cond, eqb, Option, Some, None, refl, sym, ap, ◌∙◌, subst, arith, fold, take, length-append}
use Rattle.std.specs.Prelude.{slice_get, Contains, nat_lt}
use Rattle.std.specs.Ordering.{is_eq, nat_cmp}
use Rattle.std.specs.BTreeMap.{BTreeMap, get, is_at, Updates, IsUnchanged}
use Rattle.std.specs.Map.{lookup}
use Rattle.std.proofs.lemmas.List.Sums.{fold_push}
use Rattle.std.proofs.lemmas.List.Elements.{Contains-push_cases}
use Rattle.std.proofs.lemmas.Bool.{and_parts, eqb-true}
use Rattle.std.proofs.lemmas.Bool.Decides.{nat_tests}
use Rattle.isle_core.specs.declared.BindingId.{BindingId}
use Rattle.isle_core.specs.declared.rule_sets.Binding.{Binding}
use Rattle.isle_core.specs.Path.{Path, add_path, paths_of}
use Rattle.isle_core.specs.StandsFor.{EachOnce}
use Rattle.isle_core.proofs.Contained.{contained_cases, none_contained}
use Rattle.isle_core.proofs.OptionLaws.{some_same}
use Rattle.isle_rulesets.specs.declared.keys.Key.{Key}
use Rattle.isle_rulesets.specs.declared.keys.Key.TheVariants as key
use Rattle.isle_rulesets.specs.Keys.{key_cmp, key_binding, key_path, HasParts}
use Rattle.isle_rulesets.specs.Numbering.{Numbered, Extends, Numbers, IsKeyed, IsCallUpTo, AreNumbered, known, is_next}
use Rattle.isle_rulesets.proofs.PlacedPaths.{append_once, get_last, get_either, push_extends, place_of}
use Rattle.isle_rulesets.proofs.KeyLaws.{key_same, path_same, parts_kept, path_kept, not_called}

-- ---- one path more

paths_push : (bs : List Binding) (k : Key) → paths_of (bs ++ key_binding k ∷ []) ≡ paths_of bs ++ key_path (paths_of bs) k ∷ []
paths_push bs k = fold_push add_path [] bs (key_binding k)

-- ---- interning

-- what is known after one key more
pub record Puts (old new : Key → Option BindingId) (k : Key) (b : BindingId) : Type 0 where
  pub at : new k ≡ Some b
  pub others : (q : Key) → new q ≡ cond (is_eq (key_cmp k q)) (Some b) (old q)

none_some : {A : Type 0} (x : A) → None ≡ Some x → ⊥
none_some x e = cc

-- the paths that stand after a new key, and its number
found_there : (ps qs : List Path) (old : Key → Option BindingId) (k : Key) (n b : BindingId) (q : Key) (t : Bool) → (old q ≡ Some b → HasParts ps q × (slice_get ps b.0 ≡ Some (key_path ps q))) → HasParts ps k → qs ≡ ps ++ key_path ps k ∷ [] → n.0 ≡ length ps
    → is_eq (key_cmp k q) ≡ t → cond t (Some n) (old q) ≡ Some b → HasParts qs q × (slice_get qs b.0 ≡ Some (key_path qs q))
found_there ps qs old k n b q true found parts is l e h =
    let x = push_extends ps qs (key_path ps k) is in
    let place : b.0 ≡ length ps = sym (ap (λ (x : BindingId). x.0) (some_same n b h)) ∙ l in
    let last : slice_get qs b.0 ≡ Some (key_path ps k) = ap (slice_get qs) place ∙ ap (λ rs. slice_get rs (length ps)) is ∙ get_last ps (key_path ps k) in
    subst (λ r. HasParts qs r × (slice_get qs b.0 ≡ Some (key_path qs r))) (key_same k q e) (parts_kept ps qs k x parts, last ∙ ap Some (sym (path_kept ps qs k x parts)))
found_there ps qs old k n b q false found parts is l e h =
    let x = push_extends ps qs (key_path ps k) is in
    let before = found h in
    (parts_kept ps qs q x before.0, x.kept b.0 (key_path ps q) before.1 ∙ ap Some (sym (path_kept ps qs q x before.0)))

-- another key keeps its number
kept_there : (old : Key → Option BindingId) (k q : Key) (n b : BindingId) (t : Bool) → old k ≡ None → old q ≡ Some b → is_eq (key_cmp k q) ≡ t → cond t (Some n) (old q) ≡ Some b
kept_there old k q n b true none h e = absurd (none_some b (sym none ∙ ap old (key_same k q e) ∙ h))
kept_there old k q n b false none h e = h

paths_length : (bs : List Binding) (ps : List Path) → length (fold add_path ps bs) ≡ length ps + length bs
paths_length [] ps = omega arith
paths_length (b ∷ bs) ps = paths_length bs (add_path ps b) ∙ simp length-append (omega arith)

-- ---- one path more stands after the others

pub long_paths : (bs : List Binding) → length (paths_of bs) ≡ length bs
long_paths bs = omega (arith, paths_length bs [])

pub one_longer : (bs items : List Binding) (b : Binding) → items ≡ bs ++ b ∷ [] → length items ≡ suc (length bs)
one_longer bs items b is = ap length is ∙ simp length-append (omega arith)

-- a key that is not found has a path that is not there
new_key : (n : Numbered) (numbers : Key → Option BindingId) (k : Key) → AreNumbered n numbers → numbers k ≡ None → HasParts (paths_of n.bindings) k → Contains (paths_of n.bindings) (key_path (paths_of n.bindings) k) → ⊥
new_key n numbers k a none parts c =
    let ps = paths_of n.bindings in
    let at = place_of ps (key_path ps k) c in
    ⊎_elim (λ (h : IsKeyed ps numbers at.0 (key_path ps k)). none_some (record { 0 = at.0 }) (sym none ∙ ap numbers (path_same ps k h.0 a.once parts (a.parts h.0 (record { 0 = at.0 }) h.2) h.1) ∙ h.2))
    (not_called ps n.calls k) (a.kinds at.0 (key_path ps k) at.1)

pub once_push : (xs : List Path) (x : Path) → EachOnce xs → (Contains xs x → ⊥) → EachOnce (xs ++ x ∷ [])
once_push xs x h new = append_once xs (x ∷ []) h (none_contained x, tt) (λ y c d. ⊎_elim (λ (e : x ≡ y). new (subst (Contains xs) (sym e) c)) (none_contained y) (contained_cases x [] y d))

-- ---- what is known

-- what is found among the keys after the arguments
map_others : (count : ℕ) (old new : BTreeMap Key BindingId) (k q : Key) (b : BindingId) (t : Bool) → known count old k ≡ None → Updates key_cmp old new k (Some b) → is_eq (key_cmp k q) ≡ t → known count new k ≡ Some b → known count new q ≡ cond t (Some b) (known count old q)
map_others count old new k q b true none u e is = ap (known count new) (sym (key_same k q e)) ∙ is
map_others count old new k (key.Argument i) b false none u e is = ap (cond (nat_lt i count) (Some (record { 0 = i }))) (u.0 (key.Argument i) ∙ rw e refl)
map_others count old new k (key.ConstBool v) b false none u e is = u.0 (key.ConstBool v) ∙ rw e refl
map_others count old new k (key.ConstInt s v) b false none u e is = u.0 (key.ConstInt s v) ∙ rw e refl
map_others count old new k (key.ConstPrim s) b false none u e is = u.0 (key.ConstPrim s) ∙ rw e refl
map_others count old new k (key.Extractor s a) b false none u e is = u.0 (key.Extractor s a) ∙ rw e refl
map_others count old new k (key.Constructor s xs) b false none u e is = u.0 (key.Constructor s xs) ∙ rw e refl
map_others count old new k (key.MatchVariant a v i) b false none u e is = u.0 (key.MatchVariant a v i) ∙ rw e refl
map_others count old new k (key.ExtractStruct a i) b false none u e is = u.0 (key.ExtractStruct a i) ∙ rw e refl
map_others count old new k (key.MakeVariant s v xs) b false none u e is = u.0 (key.MakeVariant s v xs) ∙ rw e refl
map_others count old new k (key.MakeStruct s xs) b false none u e is = u.0 (key.MakeStruct s xs) ∙ rw e refl
map_others count old new k (key.Iterator a) b false none u e is = u.0 (key.Iterator a) ∙ rw e refl
map_others count old new k (key.MatchSome a) b false none u e is = u.0 (key.MatchSome a) ∙ rw e refl
map_others count old new k (key.MatchTuple a i) b false none u e is = u.0 (key.MatchTuple a i) ∙ rw e refl

map_at : (count : ℕ) (old new : BTreeMap Key BindingId) (k : Key) (b : BindingId) → known count old k ≡ None → Updates key_cmp old new k (Some b) → known count new k ≡ Some b
map_at count old new (key.Argument i) b none u = behind (nat_lt i count) none
  where
    behind : (t : Bool) → cond t (Some (record { 0 = i })) (get key_cmp old (key.Argument i)) ≡ None → cond t (Some (record { 0 = i })) (get key_cmp new (key.Argument i)) ≡ Some b
    behind true e = absurd (none_some (record { 0 = i }) (sym e))
    behind false e = u.1
map_at count old new (key.ConstBool v) b none u = u.1
map_at count old new (key.ConstInt s v) b none u = u.1
map_at count old new (key.ConstPrim s) b none u = u.1
map_at count old new (key.Extractor s a) b none u = u.1
map_at count old new (key.Constructor s xs) b none u = u.1
map_at count old new (key.MatchVariant a v i) b none u = u.1
map_at count old new (key.ExtractStruct a i) b none u = u.1
map_at count old new (key.MakeVariant s v xs) b none u = u.1
map_at count old new (key.MakeStruct s xs) b none u = u.1
map_at count old new (key.Iterator a) b none u = u.1
map_at count old new (key.MatchSome a) b none u = u.1
map_at count old new (key.MatchTuple a i) b none u = u.1

-- a key more in the map
pub map_puts : (count : ℕ) (old new : BTreeMap Key BindingId) (k : Key) (b : BindingId) → known count old k ≡ None → Updates key_cmp old new k (Some b) → Puts (known count old) (known count new) k b
map_puts count old new k b none u = record { at = map_at count old new k b none u; others = λ q. map_others count old new k q b (is_eq (key_cmp k q)) none u refl (map_at count old new k b none u) }

-- an argument more, by whether another key is that argument
below_more : (count j : ℕ) → is_eq (nat_cmp count j) ≡ false → nat_lt j (suc count) ≡ nat_lt j count
below_more count j e = grind (arith, nat_tests)

last_below : (count : ℕ) → nat_lt count (suc count) ≡ true
last_below count = grind (arith, nat_tests)

argument_others : (count : ℕ) (numbers : BTreeMap Key BindingId) (q : Key) (t : Bool) → is_eq (key_cmp (key.Argument count) q) ≡ t → known (suc count) numbers q ≡ cond t (Some (record { 0 = count })) (known count numbers q)
argument_others count numbers q true e = ap (known (suc count) numbers) (sym (key_same (key.Argument count) q e)) ∙ rw (last_below count) refl
argument_others count numbers (key.Argument j) false e = ap (λ b. cond b (Some (record { 0 = j })) (get key_cmp numbers (key.Argument j))) (below_more count j e)
argument_others count numbers (key.ConstBool v) false e = refl
argument_others count numbers (key.ConstInt s v) false e = refl
argument_others count numbers (key.ConstPrim s) false e = refl
argument_others count numbers (key.Extractor s a) false e = refl
argument_others count numbers (key.Constructor s xs) false e = refl
argument_others count numbers (key.MatchVariant a v i) false e = refl
argument_others count numbers (key.ExtractStruct a i) false e = refl
argument_others count numbers (key.MakeVariant s v xs) false e = refl
argument_others count numbers (key.MakeStruct s xs) false e = refl
argument_others count numbers (key.Iterator a) false e = refl
argument_others count numbers (key.MatchSome a) false e = refl
argument_others count numbers (key.MatchTuple a i) false e = refl

argument_put : (count : ℕ) (numbers : BTreeMap Key BindingId) → Puts (known count numbers) (known (suc count) numbers) (key.Argument count) (record { 0 = count })
argument_put count numbers = record { at = rw (last_below count) refl; others = λ q. argument_others count numbers q (is_eq (key_cmp (key.Argument count) q)) refl }

-- an argument more
argument_puts : (count : ℕ) (numbers : BTreeMap Key BindingId) (number : ℕ) (k : Key) → is_next count number k ≡ true → Puts (known count numbers) (known (suc number) numbers) k (record { 0 = number })
argument_puts count numbers number (key.Argument i) is =
    let parts = and_parts (eqb i count) _ is in
    rw (eqb-true i count parts.0, eqb-true number count parts.1) (argument_put count numbers)
argument_puts count numbers number (key.ConstBool v) is = absurd cc
argument_puts count numbers number (key.ConstInt s v) is = absurd cc
argument_puts count numbers number (key.ConstPrim s) is = absurd cc
argument_puts count numbers number (key.Extractor s a) is = absurd cc
argument_puts count numbers number (key.Constructor s xs) is = absurd cc
argument_puts count numbers number (key.MatchVariant a v i) is = absurd cc
argument_puts count numbers number (key.ExtractStruct a i) is = absurd cc
argument_puts count numbers number (key.MakeVariant s v xs) is = absurd cc
argument_puts count numbers number (key.MakeStruct s xs) is = absurd cc
argument_puts count numbers number (key.Iterator a) is = absurd cc
argument_puts count numbers number (key.MatchSome a) is = absurd cc
argument_puts count numbers number (key.MatchTuple a i) is = absurd cc

-- what a numbering is after a new key
pub numbered_more : (old : Numbered) (items : List Binding) (numbers new : Key → Option BindingId) (k : Key) (n : ℕ) → AreNumbered old numbers → HasParts (paths_of old.bindings) k → numbers k ≡ None → n ≡ length old.bindings → items ≡ old.bindings ++ key_binding k ∷ []
    → Puts numbers new k (record { 0 = n }) → AreNumbered (record { bindings = items; calls = old.calls; lists = old.lists }) new × Numbers old (record { bindings = items; calls = old.calls; lists = old.lists }) (key_path (paths_of old.bindings) k) (record { 0 = n })
numbered_more old items numbers new k n a parts none l is u = (
  record {
    parts = λ q b e. (there q b e).0;
    found = λ q b e. (there q b e).1;
    kinds = λ b p e. ⊎_elim (λ h. earlier b p h) (λ h. inl (last b p h)) (get_either ps (key_path ps k) b p (subst (λ qs. slice_get qs b ≡ Some p) paths e));
    once = subst EachOnce (sym paths) (once_push ps (key_path ps k) a.once (new_key old numbers k a none parts));
    counted = let c = a.counted in let m = one_longer old.bindings items (key_binding k) is in omega arith;
  },
  record {
    found = ap (λ qs. slice_get qs n) paths ∙ ap (slice_get (ps ++ key_path ps k ∷ [])) long ∙ get_last ps (key_path ps k);
    extends = more;
    only = λ q c. ⊎_elim (λ h. inl h) (λ h. inr (sym h)) (Contains-push_cases ps (key_path ps k) q (subst (λ qs. Contains qs q) paths c));
    calls = refl;
    lists = refl;
  },
)
  where
    ps : List Path
    ps = paths_of old.bindings

    paths : paths_of items ≡ paths_of old.bindings ++ key_path (paths_of old.bindings) k ∷ []
    paths = ap paths_of is ∙ paths_push old.bindings k

    more : Extends (paths_of old.bindings) (paths_of items)
    more = push_extends (paths_of old.bindings) (paths_of items) (key_path (paths_of old.bindings) k) paths

    long : n ≡ length (paths_of old.bindings)
    long = l ∙ sym (long_paths old.bindings)

    there : (q : Key) (b : BindingId) → new q ≡ Some b → HasParts (paths_of items) q × (slice_get (paths_of items) b.0 ≡ Some (key_path (paths_of items) q))
    there q b e = found_there ps (paths_of items) numbers k (record { 0 = n }) b q (is_eq (key_cmp k q)) (λ h. (a.parts q b h, a.found q b h)) parts paths long refl (sym (u.others q) ∙ e)

    kept : (b : ℕ) (p : Path) → IsKeyed (paths_of old.bindings) numbers b p → IsKeyed (paths_of items) new b p
    kept b p o = (
      o.0,
      o.1 ∙ sym (path_kept ps (paths_of items) o.0 more (a.parts o.0 (record { 0 = b }) o.2)),
      u.others o.0 ∙ kept_there numbers k o.0 (record { 0 = n }) (record { 0 = b }) (is_eq (key_cmp k o.0)) none o.2 refl,
    )

    earlier : (b : ℕ) (p : Path) → slice_get (paths_of old.bindings) b ≡ Some p → IsKeyed (paths_of items) new b p ⊎ IsCallUpTo old.calls p
    earlier b p h = ⊎_elim (λ o. inl (kept b p o)) (λ c. inr c) (a.kinds b p h)

    last : (b : ℕ) (p : Path) → (b ≡ length (paths_of old.bindings)) × (key_path (paths_of old.bindings) k ≡ p) → IsKeyed (paths_of items) new b p
    last b p h =
        let same : n ≡ b = long ∙ sym h.0 in
        (k, sym h.1 ∙ sym (path_kept ps (paths_of items) k more parts), u.at ∙ ap (λ x. Some (record { 0 = x })) same)

-- and after the next argument
pub argument_more : (old : Numbered) (items : List Binding) (numbers : BTreeMap Key BindingId) (k : Key) (count n m : ℕ) → AreNumbered old (known count numbers) → HasParts (paths_of old.bindings) k → known count numbers k ≡ None → n ≡ length old.bindings
    → items ≡ old.bindings ++ key_binding k ∷ [] → m ≡ length items → is_next count n k ≡ true
    → AreNumbered (record { bindings = items; calls = old.calls; lists = old.lists }) (known m numbers) × Numbers old (record { bindings = items; calls = old.calls; lists = old.lists }) (key_path (paths_of old.bindings) k) (record { 0 = n })
argument_more old items numbers k count n m a parts none l is more next =
    let longer = one_longer old.bindings items (key_binding k) is in
    let after : m ≡ suc n = omega arith in
    rw after (numbered_more old items (known count numbers) (known (suc n) numbers) k n a parts none l is (argument_puts count numbers n k next))

-- entries that stay give the same numbers
known_stays : (count : ℕ) (numbers new : BTreeMap Key BindingId) (k : Key) → IsUnchanged numbers new → known count new k ≡ known count numbers k
known_stays count numbers new (key.Argument i) u = ap (λ es. cond (nat_lt i count) (Some (record { 0 = i })) (lookup (is_at (key_cmp (key.Argument i))) es)) u
known_stays count numbers new (key.ConstBool v) u = ap (lookup (is_at (key_cmp (key.ConstBool v)))) u
known_stays count numbers new (key.ConstInt s v) u = ap (lookup (is_at (key_cmp (key.ConstInt s v)))) u
known_stays count numbers new (key.ConstPrim s) u = ap (lookup (is_at (key_cmp (key.ConstPrim s)))) u
known_stays count numbers new (key.Extractor s a) u = ap (lookup (is_at (key_cmp (key.Extractor s a)))) u
known_stays count numbers new (key.Constructor s xs) u = ap (lookup (is_at (key_cmp (key.Constructor s xs)))) u
known_stays count numbers new (key.MatchVariant a v i) u = ap (lookup (is_at (key_cmp (key.MatchVariant a v i)))) u
known_stays count numbers new (key.ExtractStruct a i) u = ap (lookup (is_at (key_cmp (key.ExtractStruct a i)))) u
known_stays count numbers new (key.MakeVariant s v xs) u = ap (lookup (is_at (key_cmp (key.MakeVariant s v xs)))) u
known_stays count numbers new (key.MakeStruct s xs) u = ap (lookup (is_at (key_cmp (key.MakeStruct s xs)))) u
known_stays count numbers new (key.Iterator a) u = ap (lookup (is_at (key_cmp (key.Iterator a)))) u
known_stays count numbers new (key.MatchSome a) u = ap (lookup (is_at (key_cmp (key.MatchSome a)))) u
known_stays count numbers new (key.MatchTuple a i) u = ap (lookup (is_at (key_cmp (key.MatchTuple a i)))) u

pub without_last : {A : Type 0} (xs : List A) (y : A) → take (length xs) (xs ++ y ∷ []) ≡ xs
without_last [] y = refl
without_last (x ∷ xs) y = ap (λ ys. x ∷ ys) (without_last xs y)

-- what a numbering is if the last binding was taken away again
pub numbered_back : (old : Numbered) (more items : List Binding) (count : ℕ) (numbers new : BTreeMap Key BindingId) (b : Binding) (n : ℕ) → AreNumbered old (known count numbers) → IsUnchanged numbers new → n ≡ length old.bindings → more ≡ old.bindings ++ b ∷ []
    → items ≡ take n more → AreNumbered (record { bindings = items; calls = old.calls; lists = old.lists }) (known count new)
numbered_back old more items count numbers new b n a u l longer is =
    subst (λ bs. AreNumbered (record { bindings = bs; calls = old.calls; lists = old.lists }) (known count new)) (sym (is ∙ ap (λ m. take m more) l ∙ ap (take (length old.bindings)) longer ∙ without_last old.bindings b)) (record {
      parts = λ k c e. a.parts k c (sym (stays k) ∙ e);
      found = λ k c e. a.found k c (sym (stays k) ∙ e);
      kinds = λ c p e. ⊎_elim (λ (o : IsKeyed (paths_of old.bindings) (known count numbers) c p). inl (o.0, o.1, stays o.0 ∙ o.2)) (λ d. inr d) (a.kinds c p e);
      once = a.once;
      counted = a.counted;
    })
  where
    stays : (k : Key) → known count new k ≡ known count numbers k
    stays k = known_stays count numbers new k u
