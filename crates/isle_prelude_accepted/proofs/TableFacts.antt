-- What supported tables say of single formats, immediates and instructions.
use Rattle.std.proofs.Common.{◌≡◌, ◌⊎◌, inl, inr, ℕ, List, [], ◌∷◌, ◌++◌, map, Bool, true, false, cond, Option, Some, None, refl, sym, ap, ◌∙◌, subst}
use Rattle.std.specs.Prelude.{flat_map, filter, not, ◌&&◌, is_some}
use Rattle.std.specs.List.{AllByRecursion, list_any}
use Rattle.std.specs.Str.{bytes_eq}
use Rattle.std.proofs.lemmas.Bool.{or_parts}
use Rattle.std.proofs.lemmas.List.{map-append, append_assoc, append-nil}
use Rattle.isle_core.proofs.AllLaws.{all_front, all_back}
use Rattle.isle_meta.specs.declared.clif.ImmField.{ImmField}
use Rattle.isle_meta.specs.declared.clif.Instruction.{Instruction}
use Rattle.isle_meta.specs.declared.clif.InstructionFormat.{InstructionFormat}
use Rattle.isle_meta.specs.FormatRow as format
use Rattle.isle_meta.specs.FormatRow.{all_fields}
use Rattle.isle_meta.specs.Immediates.{type_of, values_of, imm_names, same_values, has_others, is_misshapen, are_misshapen}
use Rattle.isle_meta.specs.TableNames.{repeats, IsImmediateType}
use Rattle.isle_spelling.specs.Identifier.{IsIdentifier}
use Rattle.isle_prelude.specs.Immediates.{is_enum, plain_types, enum_types}
use Rattle.isle_prelude_accepted.proofs.Has.{Has, AreApart, has_front, has_back, has_map, has_mapped, has_flattened, own_bytes}
use Rattle.isle_prelude_accepted.proofs.AscendingLists.{ascending_from, ascending_has}
use Rattle.isle_prelude_accepted.proofs.Families.{flat_append}
use Rattle.isle_prelude_accepted.proofs.Supported.{AreSupportedFormats, AreSupportedInstructions, IsSupportedFormat, IsSupportedInstruction}

-- ---- single rows

pub format_at : (before fs : List InstructionFormat) (f : InstructionFormat) → AreSupportedFormats before fs → Has fs f
    → (b : List InstructionFormat) × IsSupportedFormat b f
unfolding AreSupportedFormats
format_at before [] f h i = absurd i
format_at before (g ∷ fs) f h (inl e) = (before, subst (IsSupportedFormat before) e h.0)
format_at before (g ∷ fs) f h (inr i) = format_at (before ++ g ∷ []) fs f h.1 i

pub instruction_at : (formats : List InstructionFormat) (before is : List Instruction) (i : Instruction) → AreSupportedInstructions formats before is → Has is i
    → (b : List Instruction) × IsSupportedInstruction formats b i
unfolding AreSupportedInstructions
instruction_at formats before [] i h k = absurd k
instruction_at formats before (j ∷ is) i h (inl e) = (before, subst (IsSupportedInstruction formats before) e h.0)
instruction_at formats before (j ∷ is) i h (inr k) = instruction_at formats (before ++ j ∷ []) is i h.1 k

-- ---- names of rows

-- names that are apart, and apart from those before
abbrev AreNew : {A : Type 0} (name : A → List ℕ) → List A → List A → Type 0
AreNew name before xs = AreApart (map name xs) × ((n : List ℕ) → Has (map name xs) n → Has (map name before) n → ⊥)

one_more : {A : Type 0} (name : A → List ℕ) (before : List A) (x : A) (xs : List A) → (Has (map name before) (name x) → ⊥)
    → AreNew name (before ++ x ∷ []) xs → AreNew name before (x ∷ xs)
one_more name before x xs new rest =
    let more = map-append name before (x ∷ []) in (
      ((λ i. rest.1 (name x) i (subst (λ ns. Has ns (name x)) (sym more) (has_back (map name before) (name x ∷ []) (name x) (inl refl)))), rest.0),
      λ n i j. by n (λ k. rest.1 n k (subst (λ ns. Has ns n) (sym more) (has_front (map name before) (name x ∷ []) n j))) i j,
    )
  where
    by : (n : List ℕ) → (Has (map name xs) n → ⊥) → (name x ≡ n) ⊎ Has (map name xs) n → Has (map name before) n → ⊥
    by n later (inl e) j = new (subst (Has (map name before)) (sym e) j)
    by n later (inr i) j = later i

pub formats_apart : (before fs : List InstructionFormat) → AreSupportedFormats before fs
    → AreApart (format.own_names fs) × ((n : List ℕ) → Has (format.own_names fs) n → Has (format.own_names before) n → ⊥)
unfolding AreSupportedFormats
formats_apart before [] h = (tt, λ n i j. i)
formats_apart before (f ∷ fs) h = one_more (λ (x : InstructionFormat). x.name) before f fs h.0.new (formats_apart (before ++ f ∷ []) fs h.1)

pub instructions_apart : (formats : List InstructionFormat) (before is : List Instruction) → AreSupportedInstructions formats before is
    → AreNew (λ (i : Instruction). i.name) before is
unfolding AreSupportedInstructions
instructions_apart formats before [] h = (tt, λ n i j. i)
instructions_apart formats before (i ∷ is) h = one_more (λ (x : Instruction). x.name) before i is h.0.new (instructions_apart formats (before ++ i ∷ []) is h.1)

pub camels_apart : (formats : List InstructionFormat) (before is : List Instruction) → AreSupportedInstructions formats before is
    → AreNew (λ (i : Instruction). i.camel_name) before is
unfolding AreSupportedInstructions
camels_apart formats before [] h = (tt, λ n i j. i)
camels_apart formats before (i ∷ is) h = one_more (λ (x : Instruction). x.camel_name) before i is h.0.new_camel (camels_apart formats (before ++ i ∷ []) is h.1)

-- ---- immediates

-- the names of an immediate are identifiers, and its type may be that of an immediate
pub record IsSoundField (i : ImmField) : Type 0 where
  pub names : AllByRecursion IsIdentifier (imm_names i)
  pub type : IsImmediateType (type_of i)

each_field : (fields : List ImmField) (i : ImmField) → AllByRecursion IsIdentifier (flat_map imm_names fields)
    → AllByRecursion IsImmediateType (map type_of fields) → Has fields i → IsSoundField i
each_field [] i h k j = absurd j
each_field (f ∷ fs) i h k (inl e) = subst IsSoundField e (record { names = all_front IsIdentifier (imm_names f) (flat_map imm_names fs) h; type = k.0 })
each_field (f ∷ fs) i h k (inr j) = each_field fs i (all_back IsIdentifier (imm_names f) (flat_map imm_names fs) h) k.1 j

pub field_sound : (fs : List InstructionFormat) (i : ImmField) → AreSupportedFormats [] fs → Has (all_fields fs) i → IsSoundField i
field_sound fs i h k =
    let f = has_flattened (λ (x : InstructionFormat). x.imm_fields) fs i k in
    let s = (format_at [] fs f.0 h f.1).1 in
    each_field f.0.imm_fields i s.names.1 s.types f.2

-- two immediates of one type are both enums or both none
abbrev Alike : ImmField → ImmField → Type 0
Alike e f = type_of e ≡ type_of f → is_enum e ≡ is_enum f

same_kind : (x y : Option (List (List ℕ))) → same_values x y ≡ true → is_some x ≡ is_some y
same_kind None None h = refl
same_kind None (Some ys) h = absurd cc
same_kind (Some xs) None h = absurd cc
same_kind (Some xs) (Some ys) h = refl

no_others : (earlier : List ImmField) (f : ImmField) → has_others earlier (type_of f) f.values ≡ false → (e : ImmField) → Has earlier e → Alike e f
no_others [] f h e i = absurd i
no_others (x ∷ xs) f h e i = λ same. (
    let parts = or_parts (bytes_eq (type_of f) (type_of x) && not (same_values x.values f.values)) (list_any _ xs) h in
    by parts.0 (no_others xs f parts.1 e) i same)
  where
    values_same : (b c : Bool) → b ≡ true → (b && not c) ≡ false → c ≡ true
    values_same true true e k = refl
    values_same true false e k = absurd cc
    values_same false c e k = absurd cc

    by : (bytes_eq (type_of f) (type_of x) && not (same_values x.values f.values)) ≡ false → (Has xs e → Alike e f) → (x ≡ e) ⊎ Has xs e → Alike e f
    by first rest (inl s) = λ same. (
        let own : bytes_eq (type_of f) (type_of x) ≡ true = ap (bytes_eq (type_of f)) (ap type_of s ∙ same) ∙ own_bytes (type_of f) in
        ap is_enum (sym s) ∙ same_kind x.values f.values (values_same _ _ own first))
    by first rest (inr j) = rest j

-- each is like those before it
abbrev Shaped : List ImmField → List ImmField → Type 0
Shaped earlier [] = Unit {0}
Shaped earlier (f ∷ fs) = ((e : ImmField) → Has earlier e → Alike e f) × Shaped (earlier ++ f ∷ []) fs

shaped_fields : (earlier fields : List ImmField) → are_misshapen earlier fields ≡ false → Shaped earlier fields
shaped_fields earlier [] h = tt
shaped_fields earlier (f ∷ fs) h =
    let parts = or_parts (is_misshapen earlier f) (are_misshapen (earlier ++ f ∷ []) fs) h in
    let own = or_parts (repeats (values_of f)) (has_others earlier (type_of f) f.values) parts.0 in
    (no_others earlier f own.1, shaped_fields (earlier ++ f ∷ []) fs parts.1)

shaped_both : (earlier xs ys : List ImmField) → Shaped earlier xs → Shaped (earlier ++ xs) ys → Shaped earlier (xs ++ ys)
shaped_both earlier [] ys h k = subst (λ es. Shaped es ys) (append-nil earlier) k
shaped_both earlier (x ∷ xs) ys h k = (h.0, shaped_both (earlier ++ x ∷ []) xs ys h.1 (subst (λ es. Shaped es ys) (sym (append_assoc earlier (x ∷ []) xs)) k))

shaped_all : (before fs : List InstructionFormat) → AreSupportedFormats before fs → Shaped (all_fields before) (all_fields fs)
unfolding AreSupportedFormats
shaped_all before [] h = tt
shaped_all before (f ∷ fs) h =
    let more : all_fields (before ++ f ∷ []) ≡ all_fields before ++ f.imm_fields =
    flat_append (λ (x : InstructionFormat). x.imm_fields) before (f ∷ []) ∙ ap (λ xs. all_fields before ++ xs) (append-nil f.imm_fields) in
    shaped_both (all_fields before) f.imm_fields (all_fields fs) (shaped_fields (all_fields before) f.imm_fields h.0.shaped)
    (subst (λ es. Shaped es (all_fields fs)) more (shaped_all (before ++ f ∷ []) fs h.1))

-- an earlier one and a later one are alike
across : (earlier fields : List ImmField) → Shaped earlier fields → (i j : ImmField) → Has earlier i → Has fields j → Alike i j
across earlier [] h i j k l = absurd l
across earlier (f ∷ fs) h i j k l = by (λ m. across (earlier ++ f ∷ []) fs h.1 i j (has_front earlier (f ∷ []) i k) m) l
  where
    by : (Has fs j → Alike i j) → (f ≡ j) ⊎ Has fs j → Alike i j
    by rest (inl e) = subst (Alike i) e (h.0 i k)
    by rest (inr m) = rest m

-- so any two
within : (earlier fields : List ImmField) → Shaped earlier fields → (i j : ImmField) → Has fields i → Has fields j → Alike i j
within earlier [] h i j k l = absurd k
within earlier (f ∷ fs) h i j k l = by (within (earlier ++ f ∷ []) fs h.1 i j) k l
  where
    later : (x : ImmField) → Has fs x → Alike f x
    later x m = across (earlier ++ f ∷ []) fs h.1 f x (has_back earlier (f ∷ []) f (inl refl)) m

    by : (Has fs i → Has fs j → Alike i j) → (f ≡ i) ⊎ Has fs i → (f ≡ j) ⊎ Has fs j → Alike i j
    by rest (inl a) (inl b) = λ same. ap is_enum (sym a ∙ b)
    by rest (inl a) (inr m) = subst (λ x. Alike x j) a (later j m)
    by rest (inr m) (inl b) = λ same. sym (subst (λ x. Alike x i) b (later i m) (sym same))
    by rest (inr m) (inr n) = rest m n

pub fields_alike : (fs : List InstructionFormat) → AreSupportedFormats [] fs → (i j : ImmField) → Has (all_fields fs) i → Has (all_fields fs) j
    → type_of i ≡ type_of j → is_enum i ≡ is_enum j
fields_alike fs h i j k l same = within [] (all_fields fs) (shaped_all [] fs h) i j k l same

-- ---- what passes a test

pub filter_from : {A : Type 0} (test : A → Bool) (xs : List A) (x : A) → Has (filter test xs) x → Has xs x × (test x ≡ true)
filter_from test [] x h = absurd h
filter_from {A} test (y ∷ ys) x h = by (test y) refl (filter_from test ys x) h
  where
    by : (b : Bool) → test y ≡ b → (Has (filter test ys) x → Has ys x × (test x ≡ true)) → Has (cond b (y ∷ filter test ys) (filter test ys)) x
        → Has (y ∷ ys) x × (test x ≡ true)
    by true e rest (inl s) = (inl s, ap test (sym s) ∙ e)
    by true e rest (inr k) = let r = rest k in (inr r.0, r.1)
    by false e rest k = let r = rest k in (inr r.0, r.1)

pub filter_has : {A : Type 0} (test : A → Bool) (xs : List A) (x : A) → Has xs x → test x ≡ true → Has (filter test xs) x
filter_has test [] x h e = absurd h
filter_has {A} test (y ∷ ys) x h e = by (test y) refl (λ k. filter_has test ys x k e) h
  where
    by : (b : Bool) → test y ≡ b → (Has ys x → Has (filter test ys) x) → (y ≡ x) ⊎ Has ys x → Has (cond b (y ∷ filter test ys) (filter test ys)) x
    by true s rest (inl k) = inl k
    by true s rest (inr k) = inr (rest k)
    by false s rest (inl k) = absurd (let both : true ≡ false = sym e ∙ ap test (sym k) ∙ s in cc)
    by false s rest (inr k) = rest k

-- the immediate that a plain type is of
pub plain_from : (fields : List ImmField) (name : List ℕ) → Has (plain_types fields) name → (i : ImmField) × Has fields i × (type_of i ≡ name) × (is_enum i ≡ false)
plain_from fields name h =
    let r = has_mapped type_of (filter (λ (i : ImmField). not (is_enum i)) fields) name (ascending_from _ name h) in
    let f = filter_from (λ (i : ImmField). not (is_enum i)) fields r.0 r.1 in
    (r.0, f.0, r.2, turned (is_enum r.0) f.1)
  where
    turned : (b : Bool) → not b ≡ true → b ≡ false
    turned true e = absurd cc
    turned false e = refl

-- the one that an enum is of
pub enum_from : (fields : List ImmField) (name : List ℕ) → Has (enum_types fields) name → (i : ImmField) × Has fields i × (type_of i ≡ name) × (is_enum i ≡ true)
enum_from fields name h =
    let r = has_mapped type_of (filter is_enum fields) name (ascending_from _ name h) in
    let f = filter_from is_enum fields r.0 r.1 in
    (r.0, f.0, r.2, f.1)

-- the type of an immediate is one or the other
pub imm_type_there : (fields : List ImmField) (i : ImmField) → Has fields i → Has (plain_types fields) (type_of i) ⊎ Has (enum_types fields) (type_of i)
imm_type_there fields i h = by (is_enum i) refl
  where
    by : (b : Bool) → is_enum i ≡ b → Has (plain_types fields) (type_of i) ⊎ Has (enum_types fields) (type_of i)
    by true e = inr (ascending_has _ (type_of i) (has_map type_of (filter is_enum fields) i (filter_has is_enum fields i h e)))
    by false e =
        inl (ascending_has _ (type_of i) (has_map type_of (filter (λ (x : ImmField). not (is_enum x)) fields) i (filter_has (λ (x : ImmField). not (is_enum x)) fields i h (ap not e))))
