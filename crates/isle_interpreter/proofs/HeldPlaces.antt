-- The names that aren't alone with a key are those whose value another constant of their type has.
use Rattle.std.proofs.Common.{◌≡◌, ◌⊎◌, ℕ, ℤ, List, [], ◌∷◌, Bool, true, false, Option, Some, None, inl, inr, refl, sym, ap, ◌∙◌, subst, ⊎_elim}
use Rattle.std.specs.Prelude.{not, ◌||◌, ◌↔◌, IsTrue, IfOk, Contains, filter_map, option_map, if◌then◌else◌}
use Rattle.std.specs.declared.result.Result.{Result}
use Rattle.std.specs.declared.result.Result.TheVariants as result
use Rattle.std.specs.Str.{bytes_eq}
use Rattle.std.specs.BTreeSet.{BTreeSet}
use Rattle.std.proofs.lemmas.Slice.Eq.{bytes_eq-Decides}
use denote.Ref.{Bor}
use Rattle.isle_core.specs.Meaning.{Meaning}
use Rattle.isle_core.specs.SameInRun.{same_in_run}
use Rattle.isle_core.specs.Value.{Value}
use Rattle.isle_operand_names.specs.Names.{is_among}
use Rattle.isle_operand_names.specs.Sets.{has_name}
use Rattle.isle_places.specs.Places.{places, StandsAt}
use Rattle.isle_places.proofs.NamesAt.{before, contains_cases, first, later, nothing_there}
use Rattle.isle_tree.specs.declared.tree.Operand.{Operand}
use Rattle.isle_tree.specs.declared.tree.Operand.TheVariants as operand
use Rattle.isle_tree.specs.Program.{Function, Program}
use Rattle.isle_interpreter.specs.Apart.{is_called, constant_value, IsApart}
use Rattle.isle_interpreter.specs.Clashes.{Held, Owner, place_key, same_key, owner_of, held_at, all_held, owner_at, is_only, unless_only, clash_of, clashes, FindsClashes}
use Rattle.isle_interpreter.proofs.KeyOwners.{is_own, not_only, Other, other_there}
use Rattle.isle_interpreter.proofs.ValueKeys.{key_itself, same_places, places_apart}

-- ---- lists

module _ {A B : Type 0} (f : A → Option B) where
  before_first : (o : Option B) (xs : List B) (y : B) → o ≡ Some y → Contains (before o xs) y
  before_first o xs y e = subst (λ x. Contains (before x xs) y) (sym e) (first y xs)

  before_later : (o : Option B) (xs : List B) (y : B) → Contains xs y → Contains (before o xs) y
  before_later None xs y h = h
  before_later (Some x) xs y h = later x y xs h

  filtered : (x : A) (xs : List A) → filter_map f (x ∷ xs) ≡ before (f x) (filter_map f xs)
  filtered x xs = by (f x) refl
    where
      by : (o : Option B) → f x ≡ o → filter_map f (x ∷ xs) ≡ before o (filter_map f xs)
      by None e = rw (e) refl
      by (Some y) e = rw (e) refl

  -- what an item gives is among all that they give
  filter_there : (xs : List A) (x : A) (y : B) → Contains xs x → f x ≡ Some y → Contains (filter_map f xs) y
  filter_there [] x y h e = absurd (nothing_there x h)
  filter_there (z ∷ xs) x y h e = subst (λ ys. Contains ys y) (sym (filtered z xs)) (⊎_elim
      (λ here. before_first (f z) (filter_map f xs) y (ap f here ∙ e))
      (λ there. before_later (f z) (filter_map f xs) y (filter_there xs x y there e))
      (contains_cases z x xs h))

  -- an item that gives it
  record Gives (xs : List A) (y : B) : Type 0 where
    pub item : A
    pub there : Contains xs item
    pub gives : f item ≡ Some y

  gives_later : (z : A) (xs : List A) (y : B) → Gives xs y → Gives (z ∷ xs) y
  gives_later z xs y g = record { item = g.item; there = later z g.item xs g.there; gives = g.gives }

  there_filter : (xs : List A) (y : B) → Contains (filter_map f xs) y → Gives xs y
  there_filter [] y h = absurd (nothing_there y h)
  there_filter (z ∷ xs) y h = by (f z) refl (subst (λ ys. Contains ys y) (filtered z xs) h) (there_filter xs y)
    where
      by : (o : Option B) → f z ≡ o → Contains (before o (filter_map f xs)) y → (Contains (filter_map f xs) y → Gives xs y) → Gives (z ∷ xs) y
      by None e k rest = gives_later z xs y (rest k)
      by (Some w) e k rest = ⊎_elim
          (λ here. record { item = z; there = first z xs; gives = e ∙ ap Some here })
          (λ there. gives_later z xs y (rest there))
          (contains_cases w y (filter_map f xs) k)

or_true : (a b : Bool) → (a ≡ true) ⊎ (b ≡ true) → (a || b) ≡ true
or_true true b h = refl
or_true false b h = ⊎_elim (λ e. absurd cc) (λ e. e) h

true_or : (a b : Bool) → (a || b) ≡ true → (a ≡ true) ⊎ (b ≡ true)
true_or true b e = inl refl
true_or false b e = inr e

among_there : (name : List ℕ) (names : List (List ℕ)) → Contains names name → is_among name names ≡ true
among_there name [] h = absurd (nothing_there name h)
among_there name (n ∷ names) h = ⊎_elim
    (λ here. or_true (bytes_eq name n) (is_among name names) (inl ((bytes_eq-Decides name n).1 (sym here))))
    (λ there. or_true (bytes_eq name n) (is_among name names) (inr (among_there name names there)))
    (contains_cases n name names h)

there_among : (name : List ℕ) (names : List (List ℕ)) → is_among name names ≡ true → Contains names name
there_among name [] e = absurd cc
there_among name (n ∷ names) e = ⊎_elim
    (λ here. subst (λ x. Contains (n ∷ names) x) (sym ((bytes_eq-Decides name n).0 here)) (first n names))
    (λ there. later n name names (there_among name names there))
    (true_or (bytes_eq name n) (is_among name names) e)

-- ---- owners

own_called : (name : List ℕ) (key : List ℤ) (o : Operand) → is_own name key (owner_of o) ≡ is_called name o
own_called name key (operand.Name n) = refl
own_called name key (operand.Local n) = refl
own_called name key (operand.Arg n) = refl
own_called name key (operand.Bool b) = refl
own_called name key (operand.Int ty z) = refl
own_called name key (operand.Raw z) = refl

owner_named : (o : Operand) (name : List ℕ) → owner_of o ≡ Some name → o ≡ operand.Name name
owner_named (operand.Name n) name e = let same : n ≡ name = cc in ap operand.Name same
owner_named (operand.Local n) name e = absurd cc
owner_named (operand.Arg n) name e = absurd cc
owner_named (operand.Bool b) name e = absurd cc
owner_named (operand.Int ty z) name e = absurd cc
owner_named (operand.Raw z) name e = absurd cc

-- a name that isn't alone
unless_so : (name n : List ℕ) (known : Owner) → unless_only n known ≡ Some name → (n ≡ name) × (is_only n known ≡ false)
unless_so name n known e = by (is_only n known) refl e
  where
    by : (b : Bool) → is_only n known ≡ b → (if b then None else Some n) ≡ Some name → (n ≡ name) × (is_only n known ≡ false)
    by true is k = absurd cc
    by false is k = (cc, is)

so_unless : (name : List ℕ) (known : Owner) → is_only name known ≡ false → unless_only name known ≡ Some name
so_unless name known e = ap (λ b. if b then None else Some name) e

clash_so : (known : List ℤ → Owner) (h : Held) (name : List ℕ) → clash_of known h ≡ Some name → (h.1 ≡ Some name) × (is_only name (known h.0) ≡ false)
clash_so known (key, None) name e = absurd cc
clash_so known (key, Some n) name e =
    let parts = unless_so name n (known key) e in
    (ap Some parts.0, subst (λ x. is_only x (known key) ≡ false) parts.0 parts.1)

module _ (p : Program) (m : Meaning) where
  -- a constant with its value
  record Holds (o : Operand) (ty : List ℕ) (h : Held) : Type 0 where
    pub value : Value
    pub is : constant_value p m o ≡ Some value
    pub keyed : place_key ty value ≡ h.0
    pub owned : owner_of o ≡ h.1

  holds : (o : Operand) (ty : List ℕ) (h : Held) → held_at p m (o, ty) ≡ Some h → Holds o ty h
  holds o ty h e = by (constant_value p m o) refl e
    where
      by : (c : Option Value) → constant_value p m o ≡ c → option_map (λ (v : Value). (place_key ty v, owner_of o)) c ≡ Some h → Holds o ty h
      by None is k = absurd cc
      by (Some v) is k = let same : (place_key ty v, owner_of o) ≡ h = cc in record { value = v; is = is; keyed = ap (λ (x : Held). x.0) same; owned = ap (λ (x : Held). x.1) same }

  so_holds : (o : Operand) (ty : List ℕ) (v : Value) → constant_value p m o ≡ Some v → held_at p m (o, ty) ≡ Some (place_key ty v, owner_of o)
  so_holds o ty v e = ap (option_map (λ (v : Value). (place_key ty v, owner_of o))) e

  module _ (f : Function) (name : List ℕ) where
    abbrev hs : List Held
    hs = all_held p m (places p f)

    -- one that isn't among those is apart
    apart_so : is_among name (clashes hs) ≡ false → IsApart p f m name
    apart_so alone ty o v w stands there other vc wc = by (same_in_run v w) refl
      where
        by : (b : Bool) → same_in_run v w ≡ b → b ≡ false
        by false e = refl
        by true e =
            let key = place_key ty v in
            let own : Contains hs (key, Some name) = filter_there (held_at p m) (places p f) (operand.Name name, ty) (key, Some name) stands (so_holds (operand.Name name) ty v vc) in
            let its : Contains hs (place_key ty w, owner_of o) = filter_there (held_at p m) (places p f) (o, ty) (place_key ty w, owner_of o) there (so_holds o ty w wc) in
            let not_alone : is_only name (owner_at key hs) ≡ false = not_only name key hs (place_key ty w, owner_of o) its (same_places ty v w e) (own_called name key o ∙ other) in
            let shared : Contains (clashes hs) name = filter_there (clash_of (λ k. owner_at k hs)) hs (key, Some name) name own (so_unless name (owner_at key hs) not_alone) in
            let among : is_among name (clashes hs) ≡ true = among_there name (clashes hs) shared in
            cc

    -- one that is apart isn't among them
    so_apart : IsApart p f m name → is_among name (clashes hs) ≡ false
    so_apart apart = by (is_among name (clashes hs)) refl
      where
        shared : Contains (clashes hs) name → ⊥
        shared h = absurd differ
          where
            clash : Gives (clash_of (λ k. owner_at k hs)) hs name
            clash = there_filter (clash_of (λ k. owner_at k hs)) hs name h

            key : List ℤ
            key = clash.item.0

            so : (clash.item.1 ≡ Some name) × (is_only name (owner_at key hs) ≡ false)
            so = clash_so (λ k. owner_at k hs) clash.item name clash.gives

            here : Gives (held_at p m) (places p f) clash.item
            here = there_filter (held_at p m) (places p f) clash.item clash.there

            one : Holds here.item.0 here.item.1 clash.item
            one = holds here.item.0 here.item.1 clash.item here.gives

            is_name : here.item.0 ≡ operand.Name name
            is_name = owner_named here.item.0 name (one.owned ∙ so.0)

            other : Other name key hs
            other = other_there name key hs clash.item clash.there (key_itself key) so.1

            far : Gives (held_at p m) (places p f) other.held
            far = there_filter (held_at p m) (places p f) other.held other.there

            two : Holds far.item.0 far.item.1 other.held
            two = holds far.item.0 far.item.1 other.held far.gives

            same : (here.item.1 ≡ far.item.1) × (same_in_run one.value two.value ≡ true)
            same = places_apart here.item.1 far.item.1 one.value two.value (ap (λ k. same_key k (place_key far.item.1 two.value)) one.keyed ∙ ap (same_key key) two.keyed ∙ other.keyed)

            differ : ⊥
            differ =
                let stands : StandsAt p f name here.item.1 = subst (λ o. Contains (places p f) (o, here.item.1)) is_name here.there in
                let there : Contains (places p f) (far.item.0, here.item.1) = subst (λ ty. Contains (places p f) (far.item.0, ty)) (sym same.0) far.there in
                let called : is_called name far.item.0 ≡ false = sym (own_called name key far.item.0) ∙ ap (is_own name key) two.owned ∙ other.other in
                let no_same : same_in_run one.value two.value ≡ false = apart here.item.1 far.item.0 one.value two.value stands there called (ap (constant_value p m) (sym is_name) ∙ one.is) two.is in
                let yes_same : same_in_run one.value two.value ≡ true = same.1 in
                cc

        by : (b : Bool) → is_among name (clashes hs) ≡ b → b ≡ false
        by false e = refl
        by true e = absurd (shared (there_among name (clashes hs) e))

    pub clashes_found : IsTrue (not (is_among name (clashes hs))) ↔ IsApart p f m name
    clashes_found = (
      λ t. apart_so (denied (is_among name (clashes hs)) t),
      λ apart. ap not (so_apart apart),
    )
      where
        denied : (b : Bool) → not b ≡ true → b ≡ false
        denied false e = refl
        denied true e = absurd cc

-- so of the set of them
pub set_found : {E : Type 0} (p : Program) (f : Function) (m : Meaning) (names : List (List ℕ)) (r : Result (BTreeSet (Bor (List ℕ))) E) → names ≡ clashes (all_held p m (places p f)) → IfOk r (λ found. (name : List ℕ) → has_name found name ≡ is_among name names)
    → IfOk r (FindsClashes p f m)
set_found p f m names (result.Ok found) are h = λ name. subst (λ b. IsTrue (not b) ↔ IsApart p f m name) (sym (h name ∙ ap (is_among name) are)) (clashes_found p m f name)
set_found p f m names (result.Err e) are h = tt
