-- Who holds a key: one name alone, or not.
use Rattle.std.proofs.Common.{◌≡◌, ◌⊎◌, ℕ, ℤ, ◌+◌, ◌<◌, List, [], ◌∷◌, fold, length, map, drop, get_or, Bool, true, false, cond, Option, Some, None, inl, inr, refl, sym, ap, ◌∙◌, subst, ⊎_elim}
use Rattle.std.specs.Prelude.{Contains, if◌then◌else◌, option_map}
use Rattle.std.specs.BTreeMap.{BTreeMap, get_by}
use Rattle.std.specs.Cmp.Lexicographic.{slice_cmp}
use Rattle.std.specs.List.{AllByRecursion}
use Rattle.std.specs.Ordering.{int_cmp}
use Rattle.std.specs.Str.{bytes_eq}
use Rattle.std.proofs.lemmas.List.{drop_more}
use Rattle.std.proofs.lemmas.Slice.Eq.{bytes_eq-Decides}
use denote.Ref.{Bor}
use Rattle.isle_places.proofs.NamesAt.{contains_cases, first, later, nothing_there}
use Rattle.isle_interpreter.specs.Clashes.{Held, Owner, same_key, joined_owner, noted_owner, owner_at, at_key, is_only}
use Rattle.isle_interpreter.proofs.ValueKeys.{key_sound, key_itself}

-- ---- the map

symmetric : (k q : List ℤ) → same_key k q ≡ same_key q k
symmetric k q = by (same_key k q) (same_key q k) refl refl
  where
    by : (b c : Bool) → same_key k q ≡ b → same_key q k ≡ c → b ≡ c
    by true true e f = refl
    by false false e f = refl
    by true false e f =
        let same : k ≡ q = key_sound k q e in
        let again : same_key q k ≡ true = ap (same_key q) same ∙ key_itself q in
        cc
    by false true e f =
        let same : q ≡ k = key_sound q k f in
        let again : same_key k q ≡ true = ap (same_key k) same ∙ key_itself k in
        cc

-- one more is noted
pub note_more : (key : Bor (List ℤ)) (h : Held) (whole : Option (Bor (List ℕ))) (old new : BTreeMap (Bor (List ℤ)) (Option (Bor (List ℕ)))) → key.now ≡ h.0 → option_map (λ (n : Bor (List ℕ)). n.now) whole ≡ joined_owner (at_key old key.now) h.1
    → ((q : Bor (List ℤ)) → get_by (λ (k : Bor (List ℤ)). slice_cmp int_cmp q.now k.now) new ≡ cond (same_key key.now q.now) (Some whole) (get_by (λ (k : Bor (List ℤ)). slice_cmp int_cmp q.now k.now) old))
    → (k : List ℤ) → at_key new k ≡ noted_owner k (at_key old k) h
note_more key h whole old new is made updates k =
    ap (option_map (option_map (λ (n : Bor (List ℕ)). n.now))) (updates (record { ref_ptr = (0, 0); now = k }))
    ∙ by (same_key key.now k) refl
    ∙ ap (λ b. if b then Some (joined_owner (at_key old k) h.1) else at_key old k) (symmetric key.now k ∙ ap (same_key k) is)
  where
    by : (b : Bool) → same_key key.now k ≡ b
        → option_map (option_map (λ (n : Bor (List ℕ)). n.now)) (cond b (Some whole) (get_by (λ (q : Bor (List ℤ)). slice_cmp int_cmp k q.now) old)) ≡ (if b then Some (joined_owner (at_key old k) h.1) else at_key old k)
    by true e = ap Some (made ∙ ap (λ q. joined_owner (at_key old q) h.1) (key_sound key.now k e))
    by false e = refl

-- one of those that are left
pub note_step : {A : Type 0} (seen : A → Held) (hs : List A) (i : ℕ) (x d : A) (old new : BTreeMap (Bor (List ℤ)) (Option (Bor (List ℕ)))) → i < length hs → x ≡ get_or hs i d → ((k : List ℤ) → at_key new k ≡ noted_owner k (at_key old k) (seen x))
    → ((k : List ℤ) → fold (noted_owner k) (at_key old k) (map seen (drop i hs)) ≡ owner_at k (map seen hs)) → (k : List ℤ) → fold (noted_owner k) (at_key new k) (map seen (drop (i + 1) hs)) ≡ owner_at k (map seen hs)
note_step seen hs i x d old new lt is more before k =
    ap (λ o. fold (noted_owner k) o (map seen (drop (i + 1) hs))) (more k)
    ∙ ap (λ xs. fold (noted_owner k) (at_key old k) (map seen xs)) (sym (drop_more hs i d lt ∙ ap (λ y. y ∷ drop (i + 1) hs) (sym is)))
    ∙ before k

-- ---- alone

module _ (name : List ℕ) (key : List ℤ) where
  -- the name, and no other one
  abbrev pub is_own : Option (List ℕ) → Bool
  is_own None = false
  is_own (Some other) = bytes_eq name other

  -- nobody, or the name alone
  abbrev IsFree : Owner → Type 0
  IsFree None = Unit {0}
  IsFree (Some o) = is_own o ≡ true

  -- all that have the key have the name
  abbrev AreOwn : List Held → Type 0
  AreOwn = AllByRecursion (λ (h : Held). same_key key h.0 ≡ true → is_own h.1 ≡ true)

  only_own : (o : Option (List ℕ)) → is_only name (Some o) ≡ is_own o
  only_own None = refl
  only_own (Some other) = refl

  sound : (a b : List ℕ) → bytes_eq a b ≡ true → a ≡ b
  sound a b e = (bytes_eq-Decides a b).0 e

  joined_free : (known : Owner) (o : Option (List ℕ)) → is_own (joined_owner known o) ≡ true → IsFree known × (is_own o ≡ true)
  joined_free None o e = (tt, e)
  joined_free (Some None) o e = absurd cc
  joined_free (Some (Some a)) None e = absurd cc
  joined_free (Some (Some a)) (Some b) e = by (bytes_eq a b) refl e
    where
      by : (same : Bool) → bytes_eq a b ≡ same → is_own (if same then Some a else None) ≡ true → (bytes_eq name a ≡ true) × (bytes_eq name b ≡ true)
      by true is own = (own, ap (bytes_eq name) (sym (sound a b is)) ∙ own)
      by false is own = absurd cc

  free_joined : (known : Owner) (o : Option (List ℕ)) → IsFree known → is_own o ≡ true → is_own (joined_owner known o) ≡ true
  free_joined None o free own = own
  free_joined (Some None) o free own = absurd cc
  free_joined (Some (Some a)) None free own = absurd cc
  free_joined (Some (Some a)) (Some b) free own =
      let same : a ≡ b = sym (sound name a free) ∙ sound name b own in
      ap (λ c. is_own (if c then Some a else None)) ((bytes_eq-Decides a b).1 same) ∙ free

  free_noted : (known : Owner) (h : Held) → IsFree (noted_owner key known h) → IsFree known × (same_key key h.0 ≡ true → is_own h.1 ≡ true)
  free_noted known h = by (same_key key h.0)
    where
      by : (b : Bool) → IsFree (if b then Some (joined_owner known h.1) else known) → IsFree known × (b ≡ true → is_own h.1 ≡ true)
      by true free = let parts = joined_free known h.1 free in (parts.0, λ e. parts.1)
      by false free = (free, λ e. absurd cc)

  noted_free : (known : Owner) (h : Held) → IsFree known → (same_key key h.0 ≡ true → is_own h.1 ≡ true) → IsFree (noted_owner key known h)
  noted_free known h free = by (same_key key h.0)
    where
      by : (b : Bool) → (b ≡ true → is_own h.1 ≡ true) → IsFree (if b then Some (joined_owner known h.1) else known)
      by true own = free_joined known h.1 free (own refl)
      by false own = free

  free_all : (known : Owner) (hs : List Held) → IsFree (fold (noted_owner key) known hs) → IsFree known × AreOwn hs
  free_all known [] free = (free, tt)
  free_all known (h ∷ hs) free =
      let more = free_all (noted_owner key known h) hs free in
      let parts = free_noted known h more.0 in
      (parts.0, (parts.1, more.1))

  all_free : (known : Owner) (hs : List Held) → IsFree known → AreOwn hs → IsFree (fold (noted_owner key) known hs)
  all_free known [] free own = free
  all_free known (h ∷ hs) free own = all_free (noted_owner key known h) hs (noted_free known h free own.0) own.1

  -- somebody has the key
  abbrev IsHeld : Owner → Type 0
  IsHeld o = (n : Option (List ℕ)) × (o ≡ Some n)

  noted_held : (known : Owner) (h : Held) → IsHeld known → IsHeld (noted_owner key known h)
  noted_held known h has = by (same_key key h.0)
    where
      by : (b : Bool) → IsHeld (if b then Some (joined_owner known h.1) else known)
      by true = (joined_owner known h.1, refl)
      by false = has

  stays_held : (known : Owner) (hs : List Held) → IsHeld known → IsHeld (fold (noted_owner key) known hs)
  stays_held known [] has = has
  stays_held known (h ∷ hs) has = stays_held (noted_owner key known h) hs (noted_held known h has)

  held_so : (known : Owner) (hs : List Held) (h : Held) → Contains hs h → same_key key h.0 ≡ true → IsHeld (fold (noted_owner key) known hs)
  held_so known [] h there e = absurd (nothing_there h there)
  held_so known (g ∷ hs) h there e = ⊎_elim
      (λ here. stays_held (noted_owner key known g) hs (joined_owner known g.1, ap (λ b. if b then Some (joined_owner known g.1) else known) (ap (λ (x : Held). same_key key x.0) here ∙ e)))
      (λ back. held_so (noted_owner key known g) hs h back e)
      (contains_cases g h hs there)

  only_free : (o : Owner) → is_only name o ≡ true → IsFree o
  only_free None e = tt
  only_free (Some n) e = sym (only_own n) ∙ e

  free_only : (o : Owner) → IsHeld o → IsFree o → is_only name o ≡ true
  free_only None has free = absurd cc
  free_only (Some n) has free = only_own n ∙ free

  own_there : (hs : List Held) (h : Held) → AreOwn hs → Contains hs h → same_key key h.0 ≡ true → is_own h.1 ≡ true
  own_there [] h own there e = absurd (nothing_there h there)
  own_there (g ∷ hs) h own there e = ⊎_elim
      (λ here. subst (λ (x : Held). same_key key x.0 ≡ true → is_own x.1 ≡ true) here own.0 e)
      (λ back. own_there hs h own.1 back e)
      (contains_cases g h hs there)

  -- another one has the key too
  pub not_only : (hs : List Held) (h : Held) → Contains hs h → same_key key h.0 ≡ true → is_own h.1 ≡ false → is_only name (owner_at key hs) ≡ false
  not_only hs h there e other = by (is_only name (owner_at key hs)) refl
    where
      by : (b : Bool) → is_only name (owner_at key hs) ≡ b → b ≡ false
      by true is = let own : is_own h.1 ≡ true = own_there hs h (free_all None hs (only_free (owner_at key hs) is)).1 there e in cc
      by false is = refl

  -- another one that has the key
  pub record Other (hs : List Held) : Type 0 where
    pub held : Held
    pub there : Contains hs held
    pub keyed : same_key key held.0 ≡ true
    pub other : is_own held.1 ≡ false

  later_other : (g : Held) (hs : List Held) → Other hs → Other (g ∷ hs)
  later_other g hs o = record { held = o.held; there = later g o.held hs o.there; keyed = o.keyed; other = o.other }

  -- there is one, or there is none
  find_other : (hs : List Held) → AreOwn hs ⊎ Other hs
  find_other [] = inl tt
  find_other (h ∷ hs) = by (same_key key h.0) refl (is_own h.1) refl (find_other hs)
    where
      by : (a : Bool) → same_key key h.0 ≡ a → (b : Bool) → is_own h.1 ≡ b → AreOwn hs ⊎ Other hs → AreOwn (h ∷ hs) ⊎ Other (h ∷ hs)
      by true e false f rest = inr (record { held = h; there = first h hs; keyed = e; other = f })
      by true e true f (inl own) = inl (λ k. f, own)
      by false e b f (inl own) = inl (λ k. absurd cc, own)
      by true e true f (inr o) = inr (later_other h hs o)
      by false e b f (inr o) = inr (later_other h hs o)

  pub other_there : (hs : List Held) (h : Held) → Contains hs h → same_key key h.0 ≡ true → is_only name (owner_at key hs) ≡ false → Other hs
  other_there hs h there e no_only = ⊎_elim
      (λ own. let alone : is_only name (owner_at key hs) ≡ true = free_only (owner_at key hs) (held_so None hs h there e) (all_free None hs tt own) in absurd cc)
      (λ o. o)
      (find_other hs)
