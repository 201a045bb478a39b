-- The variables of expressions, by their names.
use Rattle.std.proofs.Common.{◌≡◌, ℕ, zero, suc, ◌-◌, Bool, true, false, cond, List, [], ◌∷◌, ◌++◌, length, map, take, Option, Some, None, refl, sym, ap, ◌∙◌, arith}
use Rattle.std.specs.Prelude.{◌==◌, fold, option_map, zip}
use Rattle.std.specs.Str.{bytes_eq}
use Rattle.std.proofs.lemmas.List.{length-map, length-append, map-append, append_assoc}
use Rattle.std.proofs.lemmas.List.Sums.{fold-append}
use Rattle.std.proofs.lemmas.Slice.Eq.{bytes_eq-Decides}
use Rattle.isle_core.specs.declared.TypeId.{TypeId}
use Rattle.isle_scope.specs.Scope.{last_place}
use Rattle.isle_scope.specs.Table.{at_place, newest as newest_number}
use Rattle.isle_scope.proofs.Tables.{reads_last}
use Rattle.isle_declarations.specs.Numbered.{AreNumbered}
use Rattle.isle_declarations.specs.Symbols.{index_of, added}
use Rattle.isle_declarations.proofs.NumberLaws.{first_number, numbered_kept, numbered_more}
use Rattle.isle_declarations.proofs.SymbolLaws.{same_number}
use Rattle.isle_terms.specs.declared.locals.LetVariable.{LetVariable}
use Rattle.isle_terms.specs.LocalViews.{local, name_of}
use Rattle.isle_terms.specs.Locals.{newest, local_named, latest_first, of_patterns, bound_local, Bound, locals_of}
use Rattle.isle_terms.specs.Scope.{is_blank}
use Rattle.isle_terms.specs.Scope.{Local, Scope, found_in, variable}
use Rattle.isle_terms.proofs.ScopeLaws.{known_local}

-- ---- variables after others

-- what is found last, or else before
abbrev pub either : Option Local → Option Local → Option Local
either None before = before
either (Some l) before = Some l

found_last : (ls : List Local) (name : List ℕ) (before : Option Local) → fold (newest name) before ls ≡ either (local_named ls name) before
found_last [] name before = refl
found_last (l ∷ ls) name before =
    found_last ls name (newest name before l) ∙ one (bytes_eq l.name name) (local_named ls name) ∙ sym (ap (λ x. either x before) (found_last ls name (newest name None l)))
  where
    one : (b : Bool) (last : Option Local) → either last (cond b (Some l) before) ≡ either (either last (cond b (Some l) None)) before
    one b (Some x) = refl
    one true None = refl
    one false None = refl

pub joined_named : (xs ys : List Local) (name : List ℕ) → local_named (xs ++ ys) name ≡ either (local_named ys name) (local_named xs name)
joined_named xs ys name = fold-append (newest name) None xs ys ∙ found_last ys name (local_named xs name)

-- one more
pub one_named : (ls : List Local) (l : Local) (name : List ℕ) → local_named (ls ++ l ∷ []) name ≡ cond (bytes_eq l.name name) (Some l) (local_named ls name)
one_named ls l name = fold-append (newest name) None ls (l ∷ [])

-- ---- variables of patterns

-- what is found first is what is found last in the other order
pub latest_found : (ls : List Local) (name : List ℕ) → local_named (latest_first ls) name ≡ found_in ls name
latest_found [] name = refl
latest_found (l ∷ ls) name = one_named (latest_first ls) l name ∙ ap (λ o. cond (bytes_eq l.name name) (Some l) o) (latest_found ls name)

-- a variable of patterns with a type is a variable of the scope
pub pattern_variable : (scope : Scope) (name : List ℕ) (l : Local) (ty : TypeId) → local_named (of_patterns scope) name ≡ Some l → l.ty ≡ Some ty → variable scope name ≡ Some (ty, record { 0 = l.number })
pattern_variable scope name l ty h is = known_local (found_in scope.variables name) l ty (sym (latest_found scope.variables name) ∙ h) is

-- ---- variables of `let`s by the numbers of their names

same_head : {A : Type 0} (a b : A) (xs ys : List A) → a ∷ xs ≡ b ∷ ys → a ≡ b
same_head a b xs ys e = cc

same_tail : {A : Type 0} (a b : A) (xs ys : List A) → a ∷ xs ≡ b ∷ ys → xs ≡ ys
same_tail a b xs ys e = cc

other_numbers : (names : List (List ℕ)) (name : List ℕ) (others : List (List ℕ)) (k : ℕ) (ks : List ℕ) → AreNumbered names (name ∷ others) (k ∷ ks) → AreNumbered names others ks
other_numbers names name others k ks h = same_tail (index_of names name) (Some k) (map (index_of names) others) (map Some ks) h

lets_named : (names : List (List ℕ)) (lets : List LetVariable) (scope : List ℕ) (name : List ℕ) (n : ℕ) (o : Option LetVariable) → AreNumbered names (map name_of lets) scope → index_of names name ≡ Some n
    → option_map local (fold (newest_number n) o (zip scope lets)) ≡ fold (newest name) (option_map local o) (map local lets)
lets_named names [] [] name n o h at = refl
lets_named names [] (k ∷ scope) name n o h at = absurd cc
lets_named names (v ∷ lets) [] name n o h at = absurd cc
lets_named names (v ∷ lets) (k ∷ scope) name n o h at =
    lets_named names lets scope name n (newest_number n o (k, v)) (other_numbers names (name_of v) (map name_of lets) k scope h) at
    ∙ ap (λ x. fold (newest name) x (map local lets)) (by (k == n) (bytes_eq (name_of v) name) (same_number names (name_of v) name k n (first_number names (name_of v) (map name_of lets) k scope h) at))
  where
    by : (a b : Bool) → a ≡ b → option_map local (cond a (Some v) o) ≡ cond b (Some (local v)) (option_map local o)
    by true true e = refl
    by false false e = refl
    by true false e = absurd cc
    by false true e = absurd cc

as_many : (names : List (List ℕ)) (lets : List LetVariable) (scope : List ℕ) → AreNumbered names (map name_of lets) scope → length scope ≡ length lets
as_many names lets scope h = sym (length-map scope Some) ∙ sym (ap length h) ∙ length-map (map name_of lets) (index_of names) ∙ length-map lets name_of

-- what stands where its name was bound last
pub let_found : (names : List (List ℕ)) (lets : List LetVariable) (scope : List ℕ) (name : List ℕ) (n : ℕ) → AreNumbered names (map name_of lets) scope → index_of names name ≡ Some n
    → option_map local (at_place lets (last_place scope n)) ≡ local_named (map local lets) name
let_found names lets scope name n h at = ap (option_map local) (reads_last scope lets n (as_many names lets scope h)) ∙ lets_named names lets scope name n None h at

apart : (names : List (List ℕ)) (a name : List ℕ) (k : ℕ) → index_of names a ≡ Some k → index_of names name ≡ None → bytes_eq a name ≡ false
apart names a name k at none = by (bytes_eq a name) refl
  where
    by : (b : Bool) → bytes_eq a name ≡ b → b ≡ false
    by false e = refl
    by true e = let bad : Some k ≡ None = sym at ∙ ap (index_of names) ((bytes_eq-Decides a name).0 e) ∙ none in absurd cc

-- a name without a number names none
pub let_absent : (names : List (List ℕ)) (lets : List LetVariable) (scope : List ℕ) (name : List ℕ) → AreNumbered names (map name_of lets) scope → index_of names name ≡ None → local_named (map local lets) name ≡ None
let_absent names [] scope name h none = refl
let_absent names (v ∷ lets) [] name h none = absurd cc
let_absent names (v ∷ lets) (k ∷ scope) name h none =
    ap (λ b. fold (newest name) (cond b (Some (local v)) None) (map local lets)) (apart names (name_of v) name k (first_number names (name_of v) (map name_of lets) k scope h) none)
    ∙ let_absent names lets scope name (other_numbers names (name_of v) (map name_of lets) k scope h) none

-- ---- fewer of them

pub map_take : {A B : Type 0} (f : A → B) (n : ℕ) (xs : List A) → map f (take n xs) ≡ take n (map f xs)
map_take f zero xs = refl
map_take f (suc n) [] = refl
map_take f (suc n) (x ∷ xs) = ap (λ ys. f x ∷ ys) (map_take f n xs)

pub numbered_take : (names xs : List (List ℕ)) (ks : List ℕ) (n : ℕ) → AreNumbered names xs ks → AreNumbered names (take n xs) (take n ks)
numbered_take names xs ks n h = map_take (index_of names) n xs ∙ ap (take n) h ∙ sym (map_take Some n ks)

-- numbers of the names of fewer variables
pub numbered_fewer : (names : List (List ℕ)) (lets less : List LetVariable) (scope after : List ℕ) (n : ℕ) → less ≡ take n lets → after ≡ take n scope → AreNumbered names (map name_of lets) scope → AreNumbered names (map name_of less) after
numbered_fewer names lets less scope after n fewer left h =
    ap (λ (xs : List LetVariable). map (index_of names) (map name_of xs)) fewer ∙ ap (map (index_of names)) (map_take name_of n lets) ∙ numbered_take names (map name_of lets) scope n h ∙ ap (map Some) (sym left)

-- ---- names that are met

-- numbers stay while a name is met
pub numbered_same : (old new : List (List ℕ)) (name : List ℕ) (lets more : List LetVariable) (scope after : List ℕ) → new ≡ added old name → more ≡ lets → after ≡ scope → AreNumbered old (map name_of lets) scope → AreNumbered new (map name_of more) after
numbered_same old new name lets more scope after named same still h =
    ap (λ ns. map (index_of ns) (map name_of more)) named ∙ ap (λ (xs : List LetVariable). map (index_of (added old name)) (map name_of xs)) same ∙ numbered_kept (name ∷ []) old (map name_of lets) scope h ∙ ap (map Some) (sym still)

-- and join those of a variable more
pub numbered_bound : (old new : List (List ℕ)) (name : List ℕ) (n : ℕ) (v : LetVariable) (lets more : List LetVariable) (scope after : List ℕ) → new ≡ added old name → index_of new name ≡ Some n → name_of v ≡ name → more ≡ lets ++ v ∷ [] → after ≡ scope ++ n ∷ []
    → AreNumbered old (map name_of lets) scope → AreNumbered new (map name_of more) after
numbered_bound old new name n v lets more scope after named at own longer behind h =
    ap (λ (xs : List LetVariable). map (index_of new) (map name_of xs)) longer ∙ ap (map (index_of new)) (map-append name_of lets (v ∷ []))
    ∙ numbered_more new (map name_of lets) (name_of v ∷ []) scope (n ∷ []) (numbered_same old new name lets lets scope scope named refl refl h) (ap (λ o. o ∷ []) (ap (index_of new) own ∙ at)) ∙ ap (map Some) (sym behind)

-- ---- variables in scope

-- what a variable of a `let` is found at
pub found_inner : (xs ys : List Local) (name : List ℕ) (r : Option (Option TypeId × ℕ)) (v : Option TypeId × ℕ) → r ≡ option_map (λ (l : Local). (l.ty, l.number)) (local_named ys name) → r ≡ Some v → Some v ≡ option_map (λ (l : Local). (l.ty, l.number)) (local_named (xs ++ ys) name)
found_inner xs ys name r v h is = by (local_named ys name) (sym is ∙ h) ∙ sym (ap (option_map (λ (l : Local). (l.ty, l.number))) (joined_named xs ys name))
  where
    by : (o : Option Local) → Some v ≡ option_map (λ (l : Local). (l.ty, l.number)) o → Some v ≡ option_map (λ (l : Local). (l.ty, l.number)) (either o (local_named xs name))
    by None e = absurd cc
    by (Some l) e = e

-- and what another one is
pub found_outer : (xs ys : List Local) (name : List ℕ) (r q : Option (Option TypeId × ℕ)) → r ≡ option_map (λ (l : Local). (l.ty, l.number)) (local_named ys name) → r ≡ None → q ≡ option_map (λ (l : Local). (l.ty, l.number)) (local_named xs name)
    → q ≡ option_map (λ (l : Local). (l.ty, l.number)) (local_named (xs ++ ys) name)
found_outer xs ys name r q h none k = k ∙ by (local_named ys name) (sym none ∙ h) ∙ sym (ap (option_map (λ (l : Local). (l.ty, l.number))) (joined_named xs ys name))
  where
    by : (o : Option Local) → ◌≡◌ {A = Option (Option TypeId × ℕ)} None (option_map (λ (l : Local). (l.ty, l.number)) o) → ◌≡◌ {A = Option (Option TypeId × ℕ)} (option_map (λ (l : Local). (l.ty, l.number)) (local_named xs name)) (option_map (λ (l : Local). (l.ty, l.number)) (either o (local_named xs name)))
    by None e = refl
    by (Some l) e = absurd cc

-- those in scope stay if those of patterns and those of `let`s do
pub kept_locals : (old new : Bound) → new.patterns ≡ old.patterns → new.lets ≡ old.lets → locals_of new ≡ locals_of old
kept_locals old new p l = ap (λ (s : Scope). of_patterns s ++ new.lets) p ∙ ap (λ (ls : List Local). of_patterns old.patterns ++ ls) l

-- one of a `let` joins them
pub joined_locals : (old new : Bound) (name : List ℕ) (ty : Option TypeId) (number : ℕ) → new.patterns ≡ old.patterns → new.lets ≡ bound_local old.lets name ty number → locals_of new ≡ bound_local (locals_of old) name ty number
joined_locals old new name ty number p l = ap (λ (s : Scope). of_patterns s ++ new.lets) p ∙ ap (λ (ls : List Local). of_patterns old.patterns ++ ls) l ∙ by (is_blank name)
  where
    one : List Local
    one = record { name = name; ty = ty; number = number } ∷ []

    by : (b : Bool) → of_patterns old.patterns ++ cond b old.lets (old.lets ++ one) ≡ cond b (locals_of old) (locals_of old ++ one)
    by true = refl
    by false = sym (append_assoc (of_patterns old.patterns) old.lets one)

take_front : {A : Type 0} (s xs ys : List A) → take (length s) xs ≡ s → take (length s) (xs ++ ys) ≡ s
take_front [] xs ys h = refl
take_front (x ∷ s) [] ys h = absurd cc
take_front (x ∷ s) (y ∷ xs) ys h = ap (λ z. z ∷ take (length s) (xs ++ ys)) (same_head y x (take (length s) xs) s h) ∙ ap (λ zs. x ∷ zs) (take_front s xs ys (same_tail y x (take (length s) xs) s h))

-- those that were there first stay
pub outer_stays : (first lets : List Local) (name : List ℕ) (ty : Option TypeId) (number : ℕ) → take (length first) lets ≡ first → take (length first) (bound_local lets name ty number) ≡ first
outer_stays first lets name ty number h = by (is_blank name)
  where
    by : (b : Bool) → take (length first) (cond b lets (lets ++ record { name = name; ty = ty; number = number } ∷ [])) ≡ first
    by true = h
    by false = take_front first lets (record { name = name; ty = ty; number = number } ∷ []) h

pub take_all : {A : Type 0} (xs : List A) → take (length xs) xs ≡ xs
take_all [] = refl
take_all (x ∷ xs) = ap (λ ys. x ∷ ys) (take_all xs)

-- what was put last leaves
pub popped : {A : Type 0} (xs all rest : List A) (x : A) (n : ℕ) → n ≡ length all → all ≡ xs ++ x ∷ [] → rest ≡ take (n - 1) all → rest ≡ xs
popped xs all rest x n many longer left =
    let long = length-append xs (x ∷ []) in
    let less : length (xs ++ x ∷ []) - 1 ≡ length xs = omega (arith, long) in
    left ∙ ap (λ m. take (m - 1) all) many ∙ ap (λ ys. take (length ys - 1) ys) longer ∙ ap (λ n. take n (xs ++ x ∷ [])) less ∙ take_front xs xs (x ∷ []) (take_all xs)
