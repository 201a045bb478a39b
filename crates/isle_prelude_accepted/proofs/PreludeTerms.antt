-- The terms, functions and heads in a prelude: none is there twice.
use Rattle.std.proofs.Common.{◌≡◌, ℕ, List, [], ◌∷◌, ◌++◌, map, Bool, true, false, cond, Option, Some, None, refl, sym, ap, ap₂, ◌∙◌, subst, arith}
use Rattle.std.specs.Prelude.{flat_map, filter_map, slice_get, codes, ◌||◌, ◌==◌}
use Rattle.std.proofs.lemmas.Option.{same_Some}
use Rattle.std.specs.List.{AllByRecursion, cons_option}
use Rattle.isle_core.proofs.AllLaws.{all_append}
use Rattle.std.proofs.lemmas.List.{append-nil}
use Rattle.isle_ast.specs.Tree.{Def}
use Rattle.isle_declarations.specs.Heads.{terms_of, extern_terms, extractor_terms, heads_of}
use Rattle.isle_declarations.specs.Signatures.{Signature, Extern, ExtractorDef, RuleDef, signature_of, extern_of, extractor_of, rule_of, signatures, externs}
use Rattle.isle_declarations.specs.Signatures.{extractors, rule_defs}
use Rattle.isle_meta.specs.declared.clif.Instruction.{Instruction}
use Rattle.isle_meta.specs.declared.clif.InstructionFormat.{InstructionFormat}
use Rattle.isle_meta.specs.declared.tables.Tables.{Tables}
use Rattle.isle_meta.specs.FormatRow.{all_fields}
use Rattle.isle_numerics.specs.Definitions.{numeric_terms}
use Rattle.isle_meta.specs.TableNames.{is_among, prelude_terms, is_array_constructor, is_array_term, is_reserved_term}
use Rattle.isle_spelling.specs.Names.{is_numbered}
use Rattle.isle_prelude.specs.Arrays.{value_array_sizes, block_array_sizes, value_array_defs, block_array_defs, above_one}
use Rattle.isle_prelude.specs.ClifFiles.{making, instruction_defs, of_format}
use Rattle.isle_prelude.specs.CommonDefs.{imm_enum}
use Rattle.isle_prelude.specs.Declaring.{primitive}
use Rattle.isle_prelude.specs.Immediates.{plain_types, enum_types}
use Rattle.isle_prelude.specs.InstructionData.{data_defs}
use Rattle.isle_prelude.specs.Manners.{Manner, optimized, opt_manner}
use Rattle.isle_prelude.specs.NumberedNames.{value_array, value_array_ctor, block_array, pack, unpack}
use Rattle.isle_prelude.specs.WrittenPrelude.{shared_types, opt_terms, ctor_defs, ctor_sizes}
use Rattle.isle_prelude_accepted.specs.Accepted.{prelude_defs}
use Rattle.isle_prelude_accepted.proofs.Has.{Has, AreApart, has_source, has_flattened, all_has, has_all, apart_flat, apart_parts}
use Rattle.isle_prelude_accepted.proofs.ArrayNames.{value_array_same, block_array_same, ctor_same, value_array_kind, block_array_kind, ctor_kind, packed_same}
use Rattle.isle_prelude_accepted.proofs.ArrayNames.{unpacked_same, pack_value_kind, pack_block_kind, unpack_value_kind, unpack_block_kind, ctor_func_kind}
use Rattle.isle_prelude_accepted.proofs.ArrayNames.{func_class}
use Rattle.isle_prelude_accepted.proofs.Families.{first_of_four, first_by, found_flat, flat_none, flat_single, flat_same, Family, IsFamily, Grouped, One, Both}
use Rattle.isle_prelude_accepted.proofs.Families.{grouped_apart}
use Rattle.isle_prelude_accepted.proofs.NamedFunctions.{apart_unmap, apart_same}
use Rattle.isle_prelude_accepted.proofs.PreludeNames.{numbered_family, value_sizes_apart, block_sizes_apart}
use Rattle.isle_prelude_accepted.proofs.PreludeParts.{put, row_defs, whole, row_cases}
use Rattle.isle_prelude_accepted.proofs.Simple.{function_of, functions}
use Rattle.isle_prelude_accepted.proofs.Supported.{AreSupported, none_repeated}
use Rattle.isle_prelude_accepted.proofs.TableFacts.{instruction_at, instructions_apart}

-- ---- kinds of terms

-- the kinds of terms: written ones, arrays, those that make arrays, and others
abbrev term_class : List ℕ → ℕ
term_class x = first_of_four (is_among x prelude_terms) (is_numbered (codes "value_array_") x) (is_numbered (codes "block_array_") x) (is_array_constructor x)

value_class : (n : ℕ) → term_class (value_array n) ≡ 1
value_class n =
    let k = value_array_kind n in first_by _ _ _ _ false true (is_numbered (codes "block_array_") (value_array n))
    (is_array_constructor (value_array n)) k.0 k.1 refl refl

block_class : (n : ℕ) → term_class (block_array n) ≡ 2
block_class n = let k = block_array_kind n in first_by _ _ _ _ false false true (is_array_constructor (block_array n)) k.0 k.1 k.2 refl

ctor_class : (n : ℕ) → term_class (value_array_ctor n) ≡ 3
ctor_class n = let k = ctor_kind n in first_by _ _ _ _ false false false true k.0 k.1 k.2 k.3

three_false : (a b c : Bool) → (a || b || c) ≡ false → (a ≡ false) × (b ≡ false) × (c ≡ false)
three_false true b c e = absurd (by b c e)
  where
    by : (x y : Bool) → (true || x || y) ≡ false → ⊥
    by true true k = absurd cc
    by true false k = absurd cc
    by false true k = absurd cc
    by false false k = absurd cc
three_false false true true e = absurd cc
three_false false true false e = absurd cc
three_false false false true e = absurd cc
three_false false false false e = (refl, refl, refl)

free_class : (name : List ℕ) → is_reserved_term name ≡ false → term_class name ≡ 4
free_class name e =
    let parts = three_false (is_among name prelude_terms) (is_among name numeric_terms) (is_array_term name) e in
    let arrays = three_false (is_numbered (codes "value_array_") name) (is_numbered (codes "block_array_") name) (is_array_constructor name) parts.2 in
    first_by _ _ _ _ false false false false parts.0 arrays.0 arrays.1 arrays.2

-- ---- sizes

pub above_from : (n m : ℕ) → above_one n ≡ Some m → n ≡ m
above_from n m e = by (n == 0) (n == 1) e
  where
    by : (a b : Bool) → cond a None (cond b None (Some n)) ≡ Some m → n ≡ m
    by true b k = absurd cc
    by false true k = absurd cc
    by false false k = same_Some n m k

-- a part of numbers that are apart is apart
kept_apart : (ns : List ℕ) → AreApart ns → AreApart (filter_map above_one ns)
kept_apart [] h = tt
kept_apart (n ∷ ns) h = by (above_one n) refl (kept_apart ns h.1)
  where
    by : (o : Option ℕ) → above_one n ≡ o → AreApart (filter_map above_one ns) → AreApart (cons_option o (filter_map above_one ns))
    by None e k = k
    by (Some m) e k = ((λ i. (let r = has_source above_one ns m i in h.0 (subst (Has ns) (above_from r.0 m r.2 ∙ sym (above_from n m e)) r.1))), k)

pub ctor_sizes_apart : (t : Tables) → AreApart (ctor_sizes t)
ctor_sizes_apart t = kept_apart (value_array_sizes t.formats) (value_sizes_apart t.formats)

-- ---- terms of instructions

-- each of these is the instruction's name, and there is one at most
abbrev IsOwn : Instruction → List (List ℕ) → Type 0
IsOwn i names = AreApart names × AllByRecursion (λ x. x ≡ i.name) names

own_one : (i : Instruction) → IsOwn i (i.name ∷ [])
own_one i = (((λ j. j), tt), (refl, tt))

module _ (t : Tables) (s : AreSupported t) (q : Def → List (List ℕ)) (own : (i : Instruction) (o : Option InstructionFormat) → IsOwn i (flat_map q (of_format opt_manner o i))) where
  -- what comes of instructions
  abbrev row_names : Instruction → List (List ℕ)
  row_names i = flat_map q (row_defs t i)

  each_own : (i : Instruction) (x : List ℕ) → Has (row_names i) x → x ≡ i.name
  each_own i x h = all_has (λ y. y ≡ i.name) (row_names i) x (own i (slice_get t.formats i.format)).1 h

  rows_family : IsFamily term_class (4, flat_map row_names t.instructions)
  rows_family =
      let names = (instructions_apart t.formats [] t.instructions s.instructions).0 in (
        apart_flat row_names t.instructions (apart_unmap (λ (i : Instruction). i.name) t.instructions names) (λ i k. (own i (slice_get t.formats i.format)).0)
            (λ i j x k l m n. apart_same (λ (y : Instruction). y.name) t.instructions i j names k l (sym (each_own i x m) ∙ each_own j x n)),
        has_all (λ x. term_class x ≡ 4) (flat_map row_names t.instructions)
            (λ x k. (let r = has_flattened row_names t.instructions x k in
            ap term_class (each_own r.0 x r.2) ∙ free_class r.0.name (instruction_at t.formats [] t.instructions r.0 s.instructions r.1).1.free)),
      )

-- ---- the parts of a prelude that have terms

put_terms : (b c g h j : List (List ℕ)) → put [] b c [] [] [] g h [] j ≡ (b ++ c) ++ ((g ++ h) ++ j)
put_terms b c g h j = ap (λ x. (b ++ c) ++ (x ++ j)) (append-nil (g ++ h))

-- five families as the terms of a prelude are put together
abbrev term_groups : (b c g h j : Family) → Grouped
term_groups b c g h j = Both (Both (One b) (One c)) (Both (Both (One g) (One h)) (One j))

module _ (t : Tables) (q : Def → List (List ℕ)) where
  -- the parts of definitions that have none of these but where terms are declared
  terms_put : (b c g h j : List (List ℕ))
      → flat_map q shared_types ≡ [] → flat_map q opt_terms ≡ b → flat_map (λ (n : ℕ). flat_map q (ctor_defs n)) (ctor_sizes t) ≡ c
      → ((x : List ℕ) → q (primitive x) ≡ []) → ((x : List ℕ) → q (imm_enum (all_fields t.formats) x) ≡ [])
      → flat_map (λ (n : ℕ). flat_map q (value_array_defs n)) (value_array_sizes t.formats) ≡ g
      → flat_map (λ (n : ℕ). flat_map q (block_array_defs n)) (block_array_sizes t.formats) ≡ h
      → flat_map q (data_defs t.formats t.instructions) ≡ [] → flat_map (λ (i : Instruction). flat_map q (row_defs t i)) t.instructions ≡ j
      → flat_map q (prelude_defs t) ≡ (b ++ c) ++ ((g ++ h) ++ j)
  terms_put b c g h j ea eb ec ed ef eg eh ei ej =
      let fs = all_fields t.formats in
      whole t q
      ∙ ap₂ (λ x y. x ++ y) (ap₂ (λ x y. x ++ y) ea (ap₂ (λ x y. x ++ y) eb ec))
      (ap₂ (λ x y. x ++ y) (ap₂ (λ x y. x ++ y)
      (ap₂ (λ x y. x ++ y) (flat_same (λ (x : List ℕ). q (primitive x)) (λ x. []) (plain_types fs) ed ∙ flat_none (plain_types fs))
      (ap₂ (λ x y. x ++ y) (ed (codes "MemFlagsData")) (flat_same (λ (x : List ℕ). q (imm_enum fs x)) (λ x. []) (enum_types fs) ef ∙ flat_none (enum_types fs))))
      (ap₂ (λ x y. x ++ y) (ap₂ (λ x y. x ++ y) eg eh) ei)) ej)
      ∙ put_terms b c g h j

-- ---- what is none of an instruction

-- where neither a declaration, an extractor nor a rule has any, instructions have none
none_of_rows : (q : Def → List (List ℕ)) (t : Tables)
    → ((m : Manner) (f : InstructionFormat) (i : Instruction) → flat_map q (instruction_defs (Some m) f i) ≡ [])
    → flat_map (λ (i : Instruction). flat_map q (row_defs t i)) t.instructions ≡ []
none_of_rows q t each =
    flat_same (λ (i : Instruction). flat_map q (row_defs t i)) (λ i. []) t.instructions
    (λ i. row_cases (λ ds. flat_map q ds ≡ []) i refl (λ f e. each (optimized i.value_results (i.can_trap || i.other_side_effects)) f i) (slice_get t.formats i.format))
    ∙ flat_none t.instructions

-- ---- declarations

-- the name of the term that a definition declares
abbrev declared_in : Def → List (List ℕ)
declared_in d = map (λ (s : Signature). s.term) (cons_option (signature_of d) [])

declared_own : (i : Instruction) (o : Option InstructionFormat) → IsOwn i (flat_map declared_in (of_format opt_manner o i))
declared_own i o = row_cases (λ ds. IsOwn i (flat_map declared_in ds)) i (tt, tt) (λ f e. by (optimized i.value_results (i.can_trap || i.other_side_effects)) f) o
  where
    made : (k : Option (List ℕ)) (m : Manner) (f : InstructionFormat) → flat_map declared_in (making k m f i) ≡ []
    made None m f = refl
    made (Some k) m f = refl

    by : (m : Manner) (f : InstructionFormat) → IsOwn i (flat_map declared_in (instruction_defs (Some m) f i))
    by m f = subst (λ names. IsOwn i (i.name ∷ names)) (sym (made m.maker m f)) (own_one i)

-- the terms that are written by hand
abbrev opt_names : List (List ℕ)
opt_names = codes "make_inst" ∷ codes "make_skeleton_inst" ∷ codes "inst_data_value" ∷ codes "inst_data" ∷ []

module _ (t : Tables) (s : AreSupported t) where
  value_family : IsFamily term_class (1, map value_array (value_array_sizes t.formats))
  value_family = numbered_family term_class 1 value_array (value_array_sizes t.formats) value_array_same value_class (value_sizes_apart t.formats)

  block_family : IsFamily term_class (2, map block_array (block_array_sizes t.formats))
  block_family = numbered_family term_class 2 block_array (block_array_sizes t.formats) block_array_same block_class (block_sizes_apart t.formats)

  ctor_family : IsFamily term_class (3, map value_array_ctor (ctor_sizes t))
  ctor_family = numbered_family term_class 3 value_array_ctor (ctor_sizes t) ctor_same ctor_class (ctor_sizes_apart t)

  -- no term is declared twice
  pub declared_apart : AreApart (terms_of (signatures (prelude_defs t)))
  declared_apart =
      let rows = rows_family t s declared_in declared_own in
      subst AreApart (sym (found_flat signature_of (λ (x : Signature). x.term) (prelude_defs t)
      ∙ terms_put t declared_in opt_names (map value_array_ctor (ctor_sizes t)) (map value_array (value_array_sizes t.formats))
      (map block_array (block_array_sizes t.formats))
      (flat_map (λ (i : Instruction). flat_map declared_in (row_defs t i)) t.instructions)
      refl refl (flat_single value_array_ctor (ctor_sizes t)) (λ x. refl) (λ x. refl) (flat_single value_array (value_array_sizes t.formats))
      (flat_single block_array (block_array_sizes t.formats)) refl refl))
      (grouped_apart term_class (term_groups (0, opt_names) (3, map value_array_ctor (ctor_sizes t)) (1, map value_array (value_array_sizes t.formats)) (2, map block_array (block_array_sizes t.formats)) (4, _))
      ((none_repeated opt_names refl, (refl, (refl, (refl, (refl, tt))))), (ctor_family, (value_family, (block_family, (rows, tt)))))
      ((tt, (tt, (tt, (tt, tt)))), ((tt, (tt, (tt, tt))), ((tt, (tt, tt)), ((tt, tt), (tt, tt))))))

-- ---- external constructors

-- the term of an external constructor
abbrev made_in : Def → List (List ℕ)
made_in d = map (λ (x : Extern). x.term) (cons_option (extern_of d) [])

-- those of them that make
abbrev makers : List (List ℕ)
makers = codes "make_inst" ∷ codes "make_skeleton_inst" ∷ []

none_made : (m : Manner) (f : InstructionFormat) (i : Instruction) → flat_map made_in (instruction_defs (Some m) f i) ≡ []
none_made m f i = by m.maker
  where
    by : (k : Option (List ℕ)) → flat_map made_in (making k m f i) ≡ []
    by None = refl
    by (Some k) = refl

none_family : (class : List ℕ → ℕ) (k : ℕ) → IsFamily class (k, [])
none_family class k = (tt, tt)

module _ (t : Tables) (s : AreSupported t) where
  makers_are : extern_terms (externs (prelude_defs t)) ≡ (makers ++ map value_array_ctor (ctor_sizes t)) ++ ((map value_array (value_array_sizes t.formats) ++ map block_array (block_array_sizes t.formats)) ++ [])
  makers_are =
      found_flat extern_of (λ (x : Extern). x.term) (prelude_defs t)
      ∙ terms_put t made_in makers (map value_array_ctor (ctor_sizes t)) (map value_array (value_array_sizes t.formats))
      (map block_array (block_array_sizes t.formats)) []
      refl refl (flat_single value_array_ctor (ctor_sizes t)) (λ x. refl) (λ x. refl) (flat_single value_array (value_array_sizes t.formats))
      (flat_single block_array (block_array_sizes t.formats)) refl
      (none_of_rows made_in t none_made)

  -- none that a function makes is free for others
  pub makers_reserved : (x : List ℕ) → Has (extern_terms (externs (prelude_defs t))) x → is_reserved_term x ≡ false → ⊥
  makers_reserved x i free =
      let written : AllByRecursion IsKept makers = (written_kept (codes "make_inst") refl, (written_kept (codes "make_skeleton_inst") refl, tt)) in
      let all : AllByRecursion IsKept
      ((makers ++ map value_array_ctor (ctor_sizes t)) ++ ((map value_array (value_array_sizes t.formats) ++ map block_array (block_array_sizes t.formats)) ++ [])) =
      all_append IsKept (makers ++ map value_array_ctor (ctor_sizes t)) _
      (all_append IsKept makers (map value_array_ctor (ctor_sizes t)) written (kept_family 3 (map value_array_ctor (ctor_sizes t)) (λ e. omega (arith, e)) (ctor_family t s).1))
      (all_append IsKept (map value_array (value_array_sizes t.formats) ++ map block_array (block_array_sizes t.formats)) []
      (all_append IsKept (map value_array (value_array_sizes t.formats)) (map block_array (block_array_sizes t.formats)) (kept_family 1 _ (λ e. omega (arith, e)) (value_family t s).1)
      (kept_family 2 _ (λ e. omega (arith, e)) (block_family t s).1)) tt) in
      all_has IsKept (extern_terms (externs (prelude_defs t))) x (subst (AllByRecursion IsKept) (sym makers_are) all) i (free_class x free)
    where
      IsKept : List ℕ → Type 0
      IsKept y = term_class y ≡ 4 → ⊥

      written_kept : (y : List ℕ) → term_class y ≡ 0 → IsKept y
      written_kept y e f = absurd (let k : ◌≡◌ {A = ℕ} 0 4 = sym e ∙ f in omega arith)

      kept_family : (k : ℕ) (ys : List (List ℕ)) → (k ≡ 4 → ⊥) → AllByRecursion (λ y. term_class y ≡ k) ys → AllByRecursion IsKept ys
      kept_family k [] never h = tt
      kept_family k (y ∷ ys) never h = ((λ f. never (sym h.0 ∙ f)), kept_family k ys never h.1)

  -- no term has two
  pub makers_apart : AreApart (extern_terms (externs (prelude_defs t)))
  makers_apart =
      subst AreApart (sym (found_flat extern_of (λ (x : Extern). x.term) (prelude_defs t)
      ∙ terms_put t made_in makers (map value_array_ctor (ctor_sizes t)) (map value_array (value_array_sizes t.formats))
      (map block_array (block_array_sizes t.formats)) []
      refl refl (flat_single value_array_ctor (ctor_sizes t)) (λ x. refl) (λ x. refl) (flat_single value_array (value_array_sizes t.formats))
      (flat_single block_array (block_array_sizes t.formats)) refl
      (none_of_rows made_in t none_made)))
      (grouped_apart term_class (term_groups (0, makers) (3, map value_array_ctor (ctor_sizes t)) (1, map value_array (value_array_sizes t.formats)) (2, map block_array (block_array_sizes t.formats)) (4, []))
      ((none_repeated makers refl, (refl, (refl, tt))), (ctor_family t s, (value_family t s, (block_family t s, (none_family term_class 4, tt)))))
      ((tt, (tt, (tt, (tt, tt)))), ((tt, (tt, (tt, tt))), ((tt, (tt, tt)), ((tt, tt), (tt, tt))))))

-- ---- extractors

-- the term of an extractor
abbrev taken_in : Def → List (List ℕ)
taken_in d = map (λ (x : ExtractorDef). x.term) (cons_option (extractor_of d) [])

-- those of them that take apart
abbrev takers : List (List ℕ)
takers = codes "inst_data_value" ∷ codes "inst_data" ∷ []

taken_own : (i : Instruction) (o : Option InstructionFormat) → IsOwn i (flat_map taken_in (of_format opt_manner o i))
taken_own i o = row_cases (λ ds. IsOwn i (flat_map taken_in ds)) i (tt, tt) (λ f e. by (optimized i.value_results (i.can_trap || i.other_side_effects)) f) o
  where
    made : (k : Option (List ℕ)) (m : Manner) (f : InstructionFormat) → flat_map taken_in (making k m f i) ≡ []
    made None m f = refl
    made (Some k) m f = refl

    by : (m : Manner) (f : InstructionFormat) → IsOwn i (flat_map taken_in (instruction_defs (Some m) f i))
    by m f = subst (λ names. IsOwn i (i.name ∷ names)) (sym (made m.maker m f)) (own_one i)

module _ (t : Tables) (s : AreSupported t) where
  -- no term has two
  pub takers_apart : AreApart (extractor_terms (extractors (prelude_defs t)))
  takers_apart =
      let rows = rows_family t s taken_in taken_own in
      subst AreApart (sym (found_flat extractor_of (λ (x : ExtractorDef). x.term) (prelude_defs t)
      ∙ terms_put t taken_in takers [] (map value_array (value_array_sizes t.formats)) (map block_array (block_array_sizes t.formats))
      (flat_map (λ (i : Instruction). flat_map taken_in (row_defs t i)) t.instructions)
      refl refl (flat_none (ctor_sizes t)) (λ x. refl) (λ x. refl) (flat_single value_array (value_array_sizes t.formats))
      (flat_single block_array (block_array_sizes t.formats)) refl refl))
      (grouped_apart term_class (term_groups (0, takers) (3, []) (1, map value_array (value_array_sizes t.formats)) (2, map block_array (block_array_sizes t.formats)) (4, _))
      ((none_repeated takers refl, (refl, (refl, tt))), (none_family term_class 3, (value_family t s, (block_family t s, (rows, tt)))))
      ((tt, (tt, (tt, (tt, tt)))), ((tt, (tt, (tt, tt))), ((tt, (tt, tt)), ((tt, tt), (tt, tt))))))

-- ---- heads

-- the head of a rule
abbrev headed_in : Def → List (List ℕ)
headed_in d = map (λ (r : RuleDef). r.term) (cons_option (rule_of d) [])

headed_own : (i : Instruction) (o : Option InstructionFormat) → IsOwn i (flat_map headed_in (of_format opt_manner o i))
headed_own i o = row_cases (λ ds. IsOwn i (flat_map headed_in ds)) i (tt, tt) (λ f e. by (optimized i.value_results (i.can_trap || i.other_side_effects)) f) o
  where
    made : (k : Option (List ℕ)) (m : Manner) (f : InstructionFormat) → IsOwn i (flat_map headed_in (making k m f i))
    made None m f = (tt, tt)
    made (Some k) m f = own_one i

    by : (m : Manner) (f : InstructionFormat) → IsOwn i (flat_map headed_in (instruction_defs (Some m) f i))
    by m f = made m.maker m f

module _ (t : Tables) (s : AreSupported t) where
  -- no term has two rules
  pub heads_apart : AreApart (heads_of (rule_defs (prelude_defs t)))
  heads_apart =
      let rows = rows_family t s headed_in headed_own in
      subst AreApart (sym (found_flat rule_of (λ (r : RuleDef). r.term) (prelude_defs t)
      ∙ terms_put t headed_in [] [] [] [] (flat_map (λ (i : Instruction). flat_map headed_in (row_defs t i)) t.instructions)
      refl refl (flat_none (ctor_sizes t)) (λ x. refl) (λ x. refl) (flat_none (value_array_sizes t.formats))
      (flat_none (block_array_sizes t.formats)) refl refl)) rows.0

-- ---- functions

-- the function of an external constructor
abbrev maker_in : Def → List (List ℕ)
maker_in d = map (λ (x : Extern). x.func) (cons_option (extern_of d) [])

-- the function that takes values apart
abbrev taker_in : Def → List (List ℕ)
taker_in d = filter_map (λ (x : ExtractorDef). function_of x.by) (cons_option (extractor_of d) [])

none_makers : (m : Manner) (f : InstructionFormat) (i : Instruction) → flat_map maker_in (instruction_defs (Some m) f i) ≡ []
none_makers m f i = by m.maker
  where
    by : (k : Option (List ℕ)) → flat_map maker_in (making k m f i) ≡ []
    by None = refl
    by (Some k) = refl

none_takers : (m : Manner) (f : InstructionFormat) (i : Instruction) → flat_map taker_in (instruction_defs (Some m) f i) ≡ []
none_takers m f i = by m.maker
  where
    by : (k : Option (List ℕ)) → flat_map taker_in (making k m f i) ≡ []
    by None = refl
    by (Some k) = refl

takers_flat : (ds : List Def) → filter_map (λ (x : ExtractorDef). function_of x.by) (extractors ds) ≡ flat_map taker_in ds
takers_flat [] = refl
takers_flat (d ∷ ds) = by (extractor_of d) (takers_flat ds)
  where
    g : ExtractorDef → Option (List ℕ)
    g x = function_of x.by

    by : (o : Option ExtractorDef) → filter_map (λ (x : ExtractorDef). function_of x.by) (extractors ds) ≡ flat_map taker_in ds
        → filter_map (λ (x : ExtractorDef). function_of x.by) (cons_option o (extractors ds)) ≡ filter_map (λ (x : ExtractorDef). function_of x.by) (cons_option o []) ++ flat_map taker_in ds
    by None h = h
    by (Some x) h = more (function_of x.by)
      where
        more : (p : Option (List ℕ)) → cons_option p (filter_map (λ (y : ExtractorDef). function_of y.by) (extractors ds)) ≡ cons_option p [] ++ flat_map taker_in ds
        more None = h
        more (Some f) = ap (λ fs. f ∷ fs) h

module _ (t : Tables) where
  pack_values : IsFamily func_class (1, map (λ (n : ℕ). pack (value_array n)) (value_array_sizes t.formats))
  pack_values =
      numbered_family func_class 1 (λ (n : ℕ). pack (value_array n)) (value_array_sizes t.formats)
      (λ i j e. value_array_same i j (packed_same (value_array i) (value_array j) e)) pack_value_kind (value_sizes_apart t.formats)

  pack_blocks : IsFamily func_class (2, map (λ (n : ℕ). pack (block_array n)) (block_array_sizes t.formats))
  pack_blocks =
      numbered_family func_class 2 (λ (n : ℕ). pack (block_array n)) (block_array_sizes t.formats)
      (λ i j e. block_array_same i j (packed_same (block_array i) (block_array j) e)) pack_block_kind (block_sizes_apart t.formats)

  unpack_values : IsFamily func_class (3, map (λ (n : ℕ). unpack (value_array n)) (value_array_sizes t.formats))
  unpack_values =
      numbered_family func_class 3 (λ (n : ℕ). unpack (value_array n)) (value_array_sizes t.formats)
      (λ i j e. value_array_same i j (unpacked_same (value_array i) (value_array j) e)) unpack_value_kind (value_sizes_apart t.formats)

  unpack_blocks : IsFamily func_class (4, map (λ (n : ℕ). unpack (block_array n)) (block_array_sizes t.formats))
  unpack_blocks =
      numbered_family func_class 4 (λ (n : ℕ). unpack (block_array n)) (block_array_sizes t.formats)
      (λ i j e. block_array_same i j (unpacked_same (block_array i) (block_array j) e)) unpack_block_kind (block_sizes_apart t.formats)

  ctor_funcs : IsFamily func_class (5, map value_array_ctor (ctor_sizes t))
  ctor_funcs = numbered_family func_class 5 value_array_ctor (ctor_sizes t) ctor_same ctor_func_kind (ctor_sizes_apart t)

  -- no function serves two terms
  pub functions_apart : AreApart (functions (prelude_defs t))
  functions_apart =
      let VS = value_array_sizes t.formats in
      let BS = block_array_sizes t.formats in
      let ctors = map value_array_ctor (ctor_sizes t) in
      let apart = apart_parts makers takers (none_repeated (makers ++ takers) refl) in
      subst AreApart (sym (ap₂ (λ x y. x ++ y)
      (found_flat extern_of (λ (x : Extern). x.func) (prelude_defs t)
      ∙ terms_put t maker_in makers ctors (map (λ (n : ℕ). pack (value_array n)) VS) (map (λ (n : ℕ). pack (block_array n)) BS) []
      refl refl (flat_single value_array_ctor (ctor_sizes t)) (λ x. refl) (λ x. refl) (flat_single (λ (n : ℕ). pack (value_array n)) VS)
      (flat_single (λ (n : ℕ). pack (block_array n)) BS) refl (none_of_rows maker_in t none_makers))
      (takers_flat (prelude_defs t)
      ∙ terms_put t taker_in takers [] (map (λ (n : ℕ). unpack (value_array n)) VS) (map (λ (n : ℕ). unpack (block_array n)) BS) []
      refl refl (flat_none (ctor_sizes t)) (λ x. refl) (λ x. refl) (flat_single (λ (n : ℕ). unpack (value_array n)) VS)
      (flat_single (λ (n : ℕ). unpack (block_array n)) BS) refl (none_of_rows taker_in t none_takers))))
      (grouped_apart func_class
      (Both (term_groups (0, makers) (5, ctors) (1, map (λ (n : ℕ). pack (value_array n)) VS) (2, map (λ (n : ℕ). pack (block_array n)) BS) (6, []))
      (term_groups (0, takers) (7, []) (3, map (λ (n : ℕ). unpack (value_array n)) VS) (4, map (λ (n : ℕ). unpack (block_array n)) BS) (8, []))) (
        (none_repeated makers refl, (refl, (refl, tt))),
        (
          ctor_funcs,
          (
            pack_values,
            (
              pack_blocks,
              (
                none_family func_class 6,
                ((none_repeated takers refl, (refl, (refl, tt))), (none_family func_class 7, (unpack_values, (unpack_blocks, (none_family func_class 8, tt))))),
              ),
            ),
          ),
        ),
      ) (
        (tt, (tt, (tt, (tt, (apart.2, (tt, (tt, (tt, (tt, tt))))))))),
        (
          (tt, (tt, (tt, (tt, (tt, (tt, (tt, (tt, tt)))))))),
          (
            (tt, (tt, (tt, (tt, (tt, (tt, (tt, tt))))))),
            (
              (tt, (tt, (tt, (tt, (tt, (tt, tt)))))),
              (
                (tt, (tt, (tt, (tt, (tt, tt))))),
                (
                  (tt, (tt, (tt, (tt, tt)))),
                  (
                    (tt, (tt, (tt, tt))),
                    (
                      (tt, (tt, tt)),
                      (
                        (tt, tt),
                        (tt, tt),
                      ),
                    ),
                  ),
                ),
              ),
            ),
          ),
        ),
      ))
