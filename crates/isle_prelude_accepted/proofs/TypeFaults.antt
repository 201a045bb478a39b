-- Simple definitions have no fault in their types.
use Rattle.std.proofs.Common.{◌≡◌, ◌⊎◌, inl, inr, ℕ, ◌≤◌, Bool, true, false, cond, List, [], ◌∷◌, ◌++◌, map, length, Option, Some, None, refl, sym, ap, ◌∙◌, subst}
use Rattle.std.specs.Prelude.{is_some, nat_le, not, ◌||◌, option_map, find}
use Rattle.std.specs.List.{AllByRecursion, list_any}
use Rattle.std.specs.Str.{bytes_eq}
use Rattle.std.proofs.lemmas.List.{append_assoc}
use Rattle.std.proofs.lemmas.Bool.{or_from, le-leb}
use Rattle.isle_ast.specs.Tree.{Def, TypeDecl, Decl, ExternConstructor, ExternExtractor, ExternConst, Extractor, Converter, Rule, Passed}
use Rattle.isle_ast.specs.declared.tree.AstBody.{AstBody}
use Rattle.isle_ast.specs.declared.tree.AstBody.TheVariants.{Primitive, Enum, Struct}
use Rattle.isle_ast.specs.declared.tree.AstFields.{AstFields}
use Rattle.isle_ast.specs.declared.tree.AstVariant.{AstVariant}
use Rattle.isle_core.specs.declared.position.Pos.{Pos}
use Rattle.isle_declarations.specs.DeclaredTypes.{DeclaredType, types, type_of, made_by, made_of, made_terms, field_types}
use Rattle.isle_declarations.specs.Repeats.{repeats}
use Rattle.isle_types.specs.declared.row.Row.{Row}
use Rattle.isle_types.specs.Fault.{type_rows}
use Rattle.isle_types.specs.Bodies.{any_fields, fields_repeat, variants_repeat, variant_names, field_names, are_many}
use Rattle.isle_types.specs.Builtins.{builtin_names, builtin_named, type_id}
use Rattle.isle_types.specs.TypeNames.{declared_names, declared_as, type_names, is_type}
use Rattle.isle_terms.specs.Whole.{whole_of}
use Rattle.isle_sema.specs.Breaks.{breaks}
use Rattle.isle_sema.specs.Fault.{OfTypes, broken_in, fault_in}
use Rattle.isle_writing.specs.Erased.{erased, all_erased}
use Rattle.isle_prelude_accepted.proofs.Has.{Has, AreApart, has_front, has_either, has_map, has_found, apart_parts, place_found, none_repeat, no_place_of, own_bytes}
use Rattle.isle_prelude_accepted.proofs.AtPlaces.{type_names_same, made_same}
use Rattle.isle_prelude_accepted.proofs.Callees.{sound_in}
use Rattle.isle_prelude_accepted.proofs.Simple.{AreSimple, IsSound, IsSoundBody, IsSoundVariant}
use Rattle.isle_prelude_accepted.proofs.Splits.{none_broken, none_in, has_middle, new_among}

-- ---- made terms

pub made_append : (xs ys : List Def) → made_terms (xs ++ ys) ≡ made_terms xs ++ made_terms ys
made_append [] ys = refl
made_append (x ∷ xs) ys = ap (λ ms. made_of x ++ ms) (made_append xs ys) ∙ sym (append_assoc (made_of x) (made_terms xs) (made_terms ys))

-- ---- types that are declared

first_found : (t : DeclaredType) (ts : List DeclaredType) (name : List ℕ) (b : Bool) → bytes_eq t.name name ≡ b
    → ((b ≡ false) → is_some (find (λ (x : DeclaredType). bytes_eq x.name name) ts) ≡ true)
    → is_some (cond b (Some t) (find (λ (x : DeclaredType). bytes_eq x.name name) ts)) ≡ true
first_found t ts name true e rest = refl
first_found t ts name false e rest = rest refl

there_by_name : (ts : List DeclaredType) (name : List ℕ) → Has (map (λ (t : DeclaredType). t.name) ts) name
    → is_some (find (λ (t : DeclaredType). bytes_eq t.name name) ts) ≡ true
there_by_name [] name i = absurd i
there_by_name (t ∷ ts) name i = first_found t ts name (bytes_eq t.name name) refl (by (there_by_name ts name) i)
  where
    by : (Has (map (λ (x : DeclaredType). x.name) ts) name → is_some (find (λ (x : DeclaredType). bytes_eq x.name name) ts) ≡ true)
        → (t.name ≡ name) ⊎ Has (map (λ (x : DeclaredType). x.name) ts) name
        → bytes_eq t.name name ≡ false → is_some (find (λ (x : DeclaredType). bytes_eq x.name name) ts) ≡ true
    by rest (inl e) f = absurd (let both : true ≡ false = sym (own_bytes t.name) ∙ ap (bytes_eq t.name) e ∙ f in cc)
    by rest (inr k) f = rest k

pub some_mapped : {A B : Type 0} (f : A → B) (o : Option A) → is_some (option_map f o) ≡ is_some o
some_mapped f None = refl
some_mapped f (Some x) = refl

or_true : (a : Bool) → (a || true) ≡ true
or_true true = refl
or_true false = refl

-- a name that is known is that of a type
pub is_known_type : (defs : List Def) (name : List ℕ) → Has (type_names defs) name → is_type defs name ≡ true
is_known_type defs name i = by (has_either builtin_names (declared_names defs) name i)
  where
    by : Has builtin_names name ⊎ Has (declared_names defs) name → is_type defs name ≡ true
    by (inl k) = let r = place_found builtin_names name k in ap (λ o. is_some (option_map type_id o) || is_some (declared_as defs name)) r.1
    by (inr k) =
        ap (λ b. is_some (builtin_named name) || b)
        (some_mapped (λ (t : DeclaredType). t.body) (find (λ (t : DeclaredType). bytes_eq t.name name) (types defs)) ∙ there_by_name (types defs) name k)
        ∙ or_true (is_some (builtin_named name))

none_missing : (defs : List Def) (names : List (List ℕ)) → AllByRecursion (Has (type_names defs)) names
    → list_any (λ (name : List ℕ). not (is_type defs name)) names ≡ false
none_missing defs [] h = refl
none_missing defs (name ∷ names) h =
    or_from (not (is_type defs name)) (list_any (λ (n : List ℕ). not (is_type defs n)) names) (ap not (is_known_type defs name h.0)) (none_missing defs names h.1)

-- ---- bodies

pub le_true : (n m : ℕ) → n ≤ m → nat_le n m ≡ true
le_true n m le = le-leb n m le

-- a test that fails for the fields of each variant
none_of_fields : (E : List Def) (test : AstFields → Bool) (vs : List AstVariant) → ((v : AstVariant) → IsSoundVariant E v → test v.fields ≡ false)
    → AllByRecursion (IsSoundVariant E) vs
    → list_any (λ (v : AstVariant). test v.fields) vs ≡ false
none_of_fields E test [] each h = refl
none_of_fields E test (v ∷ vs) each h = or_from (test v.fields) (list_any (λ (x : AstVariant). test x.fields) vs) (each v h.0) (none_of_fields E test vs each h.1)

all_known : (defs : List Def) (names : List (List ℕ)) → AllByRecursion (Has (type_names (all_erased defs))) names → AllByRecursion (Has (type_names defs)) names
all_known defs names h = subst (λ (ns : List (List ℕ)). AllByRecursion (Has ns) names) (type_names_same defs) h

module _ (defs : List Def) (h : AreSimple (all_erased defs)) where
  -- a definition among the others is sound
  pub sound_at : (before : List Def) (d : Def) (after : List Def) → defs ≡ before ++ d ∷ after → IsSound (all_erased defs) (erased d)
  sound_at before d after e = sound_in defs h d (subst (λ ds. Has ds d) (sym e) (has_middle before d after))

  fields_sound : (name : List ℕ) (body : AstBody) → IsSoundBody (all_erased defs) name body → (variants_repeat body || any_fields fields_repeat body) ≡ false
  fields_sound name (Primitive rust) s = refl
  fields_sound name (Enum vs) s =
      or_from (repeats (variant_names vs)) (any_fields fields_repeat (Enum vs)) (none_repeat [] (variant_names vs) s.1 (λ x i j. j))
      (none_of_fields (all_erased defs) fields_repeat vs (λ v k. none_repeat [] (field_names v.fields) k.apart (λ x i j. j)) s.0)
  fields_sound name (Struct fields) s = absurd s

  types_there : (name : List ℕ) (body : AstBody) → IsSoundBody (all_erased defs) name body
      → any_fields (λ (fields : AstFields). list_any (λ (n : List ℕ). not (is_type defs n)) (field_types fields)) body ≡ false
  types_there name (Primitive rust) s = refl
  types_there name (Enum vs) s =
      none_of_fields (all_erased defs) (λ (fields : AstFields). list_any (λ (n : List ℕ). not (is_type defs n)) (field_types fields)) vs
      (λ v k. none_missing defs (field_types v.fields) (all_known defs (field_types v.fields) k.known)) s.0
  types_there name (Struct fields) s = absurd s

  few_fields : (name : List ℕ) (body : AstBody) → IsSoundBody (all_erased defs) name body → any_fields are_many body ≡ false
  few_fields name (Primitive rust) s = refl
  few_fields name (Enum vs) s = none_of_fields (all_erased defs) are_many vs (λ v k. ap not (le_true (length (field_types v.fields)) 256 k.few)) s.0
  few_fields name (Struct fields) s = absurd s

  type_unbroken : (before after : List Def) (name : List ℕ) (x n : Bool) (body : AstBody) (at : Pos) → defs ≡ before ++ TypeDecl name x n body at ∷ after
      → broken_in OfTypes (record { whole = whole_of defs; before = before }) (TypeDecl name x n body at) ≡ None
  type_unbroken before after name x n body at e =
      let d = TypeDecl name x n body at in
      let t : DeclaredType = record { name = name; body = body } in
      let s : IsSound (all_erased defs) d = sound_at before d after e in
      let types_once : AreApart (type_names (before ++ d ∷ after)) = subst (λ ds. AreApart (type_names ds)) e (subst AreApart (type_names_same defs) h.types) in
      let parts = apart_parts builtin_names (declared_names (before ++ d ∷ after)) types_once in
      let own : Has (declared_names (before ++ d ∷ after)) name =
      has_map (λ (y : DeclaredType). y.name) (types (before ++ d ∷ after)) t (has_found type_of (before ++ d ∷ after) d t (has_middle before d after) refl) in
      let made_once : AreApart (made_terms before ++ (made_by name body ++ made_terms after)) =
      subst AreApart (ap made_terms e ∙ made_append before (d ∷ after)) (subst AreApart (made_same defs) h.made) in
      let made_parts = apart_parts (made_terms before) (made_by name body ++ made_terms after) made_once in
      let made_own = apart_parts (made_by name body) (made_terms after) made_parts.1 in
      none_broken (λ (r : Row). breaks r (record { whole = whole_of defs; before = before }) d) type_rows (
        ap is_some (no_place_of (type_names before) name (λ i. elsewhere (λ j. parts.2 name j own) (λ j. new_among type_of (λ (y : DeclaredType). y.name) before d after t refl parts.1 j) (has_either builtin_names (declared_names before) name i))),
        (
          fields_sound name body s.1,
          (
            types_there name body s.1,
            (
              few_fields name body s.1,
              (
                none_repeat (made_terms before) (made_by name body) made_own.0 (λ y i j. made_parts.2 y j (has_front (made_by name body) (made_terms after) y i)),
                (refl, tt),
              ),
            ),
          ),
        ),
      )
    where
      elsewhere : {A B : Type 0} → (A → ⊥) → (B → ⊥) → A ⊎ B → ⊥
      elsewhere a b (inl i) = a i
      elsewhere a b (inr i) = b i

  unbroken : (before : List Def) (d : Def) (after : List Def) → defs ≡ before ++ d ∷ after
      → broken_in OfTypes (record { whole = whole_of defs; before = before }) d ≡ None
  unbroken before (TypeDecl name x n body at) after e = type_unbroken before after name x n body at e
  unbroken before (Decl term pure multi partial recursive args ret at) after e = refl
  unbroken before (ExternConstructor term func at) after e = refl
  unbroken before (ExternExtractor term func infallible at) after e = refl
  unbroken before (ExternConst name ty at) after e = absurd (sound_at before (ExternConst name ty at) after e)
  unbroken before (Extractor term params template at) after e = refl
  unbroken before (Converter from to term at) after e = refl
  unbroken before (Rule name prio term args iflets rhs at) after e = refl
  unbroken before (Passed head at) after e = refl

  -- no type has a fault
  pub types_unbroken : fault_in OfTypes (whole_of defs) ≡ None
  types_unbroken = none_in OfTypes (whole_of defs) [] defs unbroken
