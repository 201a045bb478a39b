-- The definitions that a prelude begins with are sound: its types, the terms of its arrays, and those that are written by hand.
use Rattle.std.proofs.Common.{◌≡◌, inl, inr, ℕ, zero, suc, ◌≤◌, List, [], ◌∷◌, map, length, Bool, true, false, cond, refl, sym, ap, subst, arith}
use Rattle.std.specs.Prelude.{replicate, codes}
use Rattle.std.specs.List.{AllByRecursion}
use Rattle.std.specs.Str.{bytes_eq}
use Rattle.std.proofs.lemmas.List.{length-replicate}
use Rattle.isle_types.specs.Bodies.{variant_names}
use Rattle.isle_lawful_names.specs.LawfulNames.{IsTypeName}
use Rattle.isle_spelling.specs.Identifier.{IsIdentifier}
use Rattle.isle_meta.specs.declared.clif.ImmField.{ImmField}
use Rattle.isle_meta.specs.declared.clif.Instruction.{Instruction}
use Rattle.isle_meta.specs.declared.tables.Tables.{Tables}
use Rattle.isle_meta.specs.FormatRow.{all_fields}
use Rattle.isle_meta.specs.Immediates.{type_of, values_of}
use Rattle.isle_meta.specs.InstructionRow.{camel_names}
use Rattle.isle_prelude.specs.Arrays.{value_array_sizes, block_array_sizes, value_array_defs, block_array_defs}
use Rattle.isle_prelude.specs.Ascending.{ascending}
use Rattle.isle_prelude.specs.CommonDefs.{imm_enum}
use Rattle.isle_prelude.specs.Declaring.{bare, primitive}
use Rattle.isle_prelude.specs.Immediates.{plain_types, enum_types, enum_values}
use Rattle.isle_prelude.specs.NumberedNames.{value_array, value_array_type, value_array_ctor, block_array, block_array_type}
use Rattle.isle_prelude.specs.WrittenPrelude.{shared_types, opt_terms, ctor_defs, ctor_sizes}
use Rattle.isle_prelude_accepted.specs.Plain.{ArePlain, IsShortFormat}
use Rattle.isle_prelude_accepted.proofs.Has.{Has, AreApart, all_has, has_all}
use Rattle.isle_prelude_accepted.proofs.ArrayNames.{type_name, value_type_name, block_type_name, value_array_word, block_array_word, ctor_word, ctor_name}
use Rattle.isle_prelude_accepted.proofs.ArrayNames.{pack_value_name, unpack_value_name, pack_block_name, unpack_block_name}
use Rattle.isle_prelude_accepted.proofs.AscendingLists.{ascending_apart, ascending_from}
use Rattle.isle_prelude_accepted.proofs.PreludeMembers.{E, IsType, in_terms, in_ctors, in_values, in_blocks, type_type, value_type, inst_type, call_type}
use Rattle.isle_prelude_accepted.proofs.PreludeMembers.{data_type, values_type, blocks_type, term_there, value_size_from, block_size_from, ctor_size_from}
use Rattle.isle_prelude_accepted.proofs.Simple.{IsSound, IsSoundVariant}
use Rattle.isle_prelude_accepted.proofs.Supported.{AreSupported}
use Rattle.isle_prelude_accepted.proofs.TableFacts.{format_at, instruction_at, field_sound, plain_from, enum_from}

-- ---- written types and terms

module _ (t : Tables) where
  pub shared_sound : AllByRecursion (IsSound (E t)) shared_types
  shared_sound = (
    (type_name (codes "Type") (record { begins = refl; word = refl; unused = refl; free = refl }) refl refl refl refl, refl),
    (
      (type_name (codes "Value") (record { begins = refl; word = refl; unused = refl; free = refl }) refl refl refl refl, refl),
      (
        (type_name (codes "Inst") (record { begins = refl; word = refl; unused = refl; free = refl }) refl refl refl refl, refl),
        (
          (type_name (codes "ValueList") (record { begins = refl; word = refl; unused = refl; free = refl }) refl refl refl refl, refl),
          (
            (type_name (codes "ValueSlice") (record { begins = refl; word = refl; unused = refl; free = refl }) refl refl refl refl, refl),
            ((type_name (codes "BlockCall") (record { begins = refl; word = refl; unused = refl; free = refl }) refl refl refl refl, refl), tt),
          ),
        ),
      ),
    ),
  )

  pub flags_sound : IsSound (E t) (primitive (codes "MemFlagsData"))
  flags_sound = (type_name (codes "MemFlagsData") (record { begins = refl; word = refl; unused = refl; free = refl }) refl refl refl refl, refl)

  -- the types of what makes and takes apart instructions
  typed_known : AllByRecursion (IsType t) (codes "Type" ∷ codes "InstructionData" ∷ [])
  typed_known = (type_type t, (data_type t, tt))

  pub terms_sound : AllByRecursion (IsSound (E t)) opt_terms
  terms_sound = (
    (refl, record { named = refl; known = typed_known; gives = value_type t; few = omega arith }),
    (
      record { declared = term_there t (codes "make_inst") false false false false _ _ (in_terms t _ (inl refl)); named = record { begins = refl; word = refl; unused = refl; free = refl } },
      (
        (refl, record { named = refl; known = (data_type t, tt); gives = inst_type t; few = omega arith }),
        (
          record { declared = term_there t (codes "make_skeleton_inst") false false false false _ _ (in_terms t _ (inr (inr (inl refl)))); named = record { begins = refl; word = refl; unused = refl; free = refl } },
          (
            (refl, record { named = refl; known = typed_known; gives = value_type t; few = omega arith }),
            (
              record {
                pure = true;
                multi = true;
                args = codes "Type" ∷ codes "InstructionData" ∷ [];
                ret = codes "Value";
                declared = in_terms t _ (inr (inr (inr (inr (inl refl)))));
                once = refl;
                named = record { begins = refl; word = refl; unused = refl; free = refl };
              },
              (
                (refl, record { named = refl; known = (data_type t, tt); gives = inst_type t; few = omega arith }),
                (
                  record {
                    pure = true;
                    multi = false;
                    args = codes "InstructionData" ∷ [];
                    ret = codes "Inst";
                    declared = in_terms t _ (inr (inr (inr (inr (inr (inr (inl refl)))))));
                    once = refl;
                    named = record { begins = refl; word = refl; unused = refl; free = refl };
                  },
                  tt,
                ),
              ),
            ),
          ),
        ),
      ),
    ),
  )

-- ---- arrays

all_same : (P : List ℕ → Type 0) (n : ℕ) (x : List ℕ) → P x → AllByRecursion P (replicate n x)
all_same P zero x p = tt
all_same P (suc n) x p = (p, all_same P n x p)

module _ (t : Tables) (s : AreSupported t) (plain : ArePlain t) where
  few_values : (n : ℕ) → Has (value_array_sizes t.formats) n → n ≤ 200
  few_values n k =
      let f = value_size_from t n k in
      let le = (all_has IsShortFormat t.formats f.0 plain.formats f.1).values in
      let e = f.2 in
      omega (arith, le, e)

  few_blocks : (n : ℕ) → Has (block_array_sizes t.formats) n → n ≤ 2
  few_blocks n k =
      let f = block_size_from t n k in
      let le = (format_at [] t.formats f.0 s.formats f.1).1.blocks in
      let e = f.2 in
      omega (arith, le, e)

  few_repeated : (n m : ℕ) (x : List ℕ) → n ≤ m → m ≤ 256 → length (replicate n x) ≤ 256
  few_repeated n m x le few = let e = length-replicate n x in omega (arith, le, few, e)

  pub ctors_sound : (n : ℕ) → Has (ctor_sizes t) n → AllByRecursion (IsSound (E t)) (ctor_defs n)
  ctors_sound n k =
      let size = ctor_size_from t n k in (
        (refl, record { named = ctor_word n; known = all_same (IsType t) n (codes "Value") (value_type t); gives = values_type t n size; few = few_repeated n 200 (codes "Value") (few_values n size) (omega arith) }),
        (record { declared = term_there t (value_array_ctor n) true false false false _ _ (in_ctors t n _ k (inl refl)); named = ctor_name n }, tt),
      )

  pub values_sound : (n : ℕ) → Has (value_array_sizes t.formats) n → AllByRecursion (IsSound (E t)) (value_array_defs n)
  values_sound n k = (
    (value_type_name n, (tt, tt)),
    (
      (refl, record { named = value_array_word n; known = all_same (IsType t) n (codes "Value") (value_type t); gives = values_type t n k; few = few_repeated n 200 (codes "Value") (few_values n k) (omega arith) }),
      (
        record { declared = term_there t (value_array n) false false false false _ _ (in_values t n _ k (inr (inl refl))); named = pack_value_name n },
        (
          record {
            pure = false;
            multi = false;
            args = replicate n (codes "Value");
            ret = value_array_type n;
            declared = in_values t n _ k (inr (inl refl));
            once = refl;
            named = unpack_value_name n;
          },
          tt,
        ),
      ),
    ),
  )

  pub blocks_sound : (n : ℕ) → Has (block_array_sizes t.formats) n → AllByRecursion (IsSound (E t)) (block_array_defs n)
  blocks_sound n k = (
    (block_type_name n, (tt, tt)),
    (
      (refl, record { named = block_array_word n; known = all_same (IsType t) n (codes "BlockCall") (call_type t); gives = blocks_type t n k; few = few_repeated n 2 (codes "BlockCall") (few_blocks n k) (omega arith) }),
      (
        record { declared = term_there t (block_array n) false false false false _ _ (in_blocks t n _ k (inr (inl refl))); named = pack_block_name n },
        (
          record {
            pure = false;
            multi = false;
            args = replicate n (codes "BlockCall");
            ret = block_array_type n;
            declared = in_blocks t n _ k (inr (inl refl));
            once = refl;
            named = unpack_block_name n;
          },
          tt,
        ),
      ),
    ),
  )

  -- ---- immediates

  pub plain_sound : (name : List ℕ) → Has (plain_types (all_fields t.formats)) name → IsSound (E t) (primitive name)
  plain_sound name k =
      let f = plain_from (all_fields t.formats) name k in
      (subst (IsTypeName true) f.2 (field_sound t.formats f.0 s.formats f.1).type.declared, refl)

  bare_sound : (names : List (List ℕ)) → AllByRecursion IsIdentifier names → AllByRecursion (IsSoundVariant (E t)) (map bare names)
  bare_sound [] h = tt
  bare_sound (n ∷ ns) h = (record { named = h.0; fields = tt; apart = tt; known = tt; few = omega arith }, bare_sound ns h.1)

  bare_names : (names : List (List ℕ)) → variant_names (map bare names) ≡ names
  bare_names [] = refl
  bare_names (n ∷ ns) = ap (λ xs. n ∷ xs) (bare_names ns)

  -- the values of an enum are identifiers, and apart
  values_named : (fields : List ImmField) (name : List ℕ) → ((i : ImmField) → Has fields i → AllByRecursion IsIdentifier (values_of i))
      → AllByRecursion IsIdentifier (enum_values fields name) × AreApart (enum_values fields name)
  values_named [] name h = (tt, tt)
  values_named (i ∷ is) name h = by (bytes_eq name (type_of i)) (values_named is name (λ x k. h x (inr k)))
    where
      by : (b : Bool) → AllByRecursion IsIdentifier (enum_values is name) × AreApart (enum_values is name)
          → AllByRecursion IsIdentifier (cond b (ascending (values_of i)) (enum_values is name)) × AreApart (cond b (ascending (values_of i)) (enum_values is name))
      by true rest =
          (has_all IsIdentifier (ascending (values_of i)) (λ x k. all_has IsIdentifier (values_of i) x (h i (inl refl)) (ascending_from (values_of i) x k)), ascending_apart (values_of i))
      by false rest = rest

  pub enums_sound : (name : List ℕ) → Has (enum_types (all_fields t.formats)) name → IsSound (E t) (imm_enum (all_fields t.formats) name)
  enums_sound name k =
      let fs = all_fields t.formats in
      let f = enum_from fs name k in
      let vs = values_named fs name (λ i j. (field_sound t.formats i s.formats j).names.1.1) in
      (subst (IsTypeName true) f.2 (field_sound t.formats f.0 s.formats f.1).type.declared, (bare_sound (enum_values fs name) vs.0, subst AreApart (sym (bare_names (enum_values fs name))) vs.1))

  -- ---- opcodes

  pub camels_sound : (is : List Instruction) → ((i : Instruction) → Has is i → Has t.instructions i)
      → AllByRecursion (IsSoundVariant (E t)) (map (λ (i : Instruction). bare i.camel_name) is)
  camels_sound [] all = tt
  camels_sound (i ∷ is) all =
      (record { named = (instruction_at t.formats [] t.instructions i s.instructions (all i (inl refl))).1.camel; fields = tt; apart = tt; known = tt; few = omega arith }, camels_sound is (λ x k. all x (inr k)))

  pub camel_variants : (is : List Instruction) → variant_names (map (λ (i : Instruction). bare i.camel_name) is) ≡ camel_names is
  camel_variants [] = refl
  camel_variants (i ∷ is) = ap (λ xs. i.camel_name ∷ xs) (camel_variants is)
