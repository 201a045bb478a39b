-- Paths that are written alike are one.
use Rattle.std.proofs.Common.{◌≡◌, ℕ, List, [], ◌∷◌, ◌++◌, Bool, true, false, eqb, refl, sym, ap, ◌∙◌}
use Rattle.std.proofs.lemmas.Bool.{eq-eqb}
use Rattle.std.specs.Prelude.{ℤ, pos, negsuc}
use Rattle.std.proofs.lemmas.List.{append-nil, append_assoc}
use Rattle.std.proofs.lemmas.Slice.Eq.{bytes_eq-Decides}
use Rattle.isle_base.specs.declared.ids.Sym.{Sym}
use Rattle.isle_base.specs.declared.ids.TermId.{TermId}
use Rattle.isle_base.specs.declared.ids.TypeId.{TypeId}
use Rattle.isle_base.specs.declared.ids.VariantId.{VariantId}
use Rattle.isle_core.specs.Path.{Path, Nowhere, Arg, ConstBool, ConstInt, ConstPrim, Extracted, Called, Chosen, MadeVariant, MadeStruct, VariantField, StructField, Wrapped, Inner, Part, Paths, NoPath, APath}
use Rattle.isle_core.specs.SamePath.{truth_code, int_code, path_code, paths_code, same_path}

type_at : ℕ → TypeId
type_at n = record { 0 = n }

term_at : ℕ → TermId
term_at n = record { 0 = n }

sym_at : ℕ → Sym
sym_at n = record { 0 = n }

variant_at : ℕ → VariantId
variant_at n = record { 0 = n }

one_type : (a b : TypeId) → a.0 ≡ b.0 → a ≡ b
unfolding type_at
one_type a b e = ap type_at e

one_term : (a b : TermId) → a.0 ≡ b.0 → a ≡ b
unfolding term_at
one_term a b e = ap term_at e

one_sym : (a b : Sym) → a.0 ≡ b.0 → a ≡ b
unfolding sym_at
one_sym a b e = ap sym_at e

one_variant : (a b : VariantId) → a.0 ≡ b.0 → a ≡ b
unfolding variant_at
one_variant a b e = ap variant_at e

one_truth : (a b : Bool) → truth_code a ≡ truth_code b → a ≡ b
one_truth true true e = refl
one_truth false false e = refl
one_truth true false e = absurd cc
one_truth false true e = absurd cc

one_int : (a b : ℤ) (xs ys : List ℕ) → int_code a ++ xs ≡ int_code b ++ ys → (a ≡ b) × (xs ≡ ys)
one_int (pos n) (pos k) xs ys e = (ap pos cc, cc)
one_int (negsuc n) (negsuc k) xs ys e = (ap negsuc cc, cc)
one_int (pos n) (negsuc k) xs ys e = absurd cc
one_int (negsuc n) (pos k) xs ys e = absurd cc

-- two forms that differ
apart : {a b : ℕ} {xs ys : List ℕ} → eqb a b ≡ false → a ∷ xs ≡ b ∷ ys → ⊥
apart {a = a} {b = b} differ e = let same : a ≡ b = cc in let told : eqb a b ≡ true = eq-eqb a b same in cc

mutual
  read_path : (p q : Path) (xs ys : List ℕ) → path_code p ++ xs ≡ path_code q ++ ys → (p ≡ q) × (xs ≡ ys)
  read_path Nowhere Nowhere xs ys e = (refl, cc)
  read_path (Arg i1) (Arg i2) xs ys e = (ap Arg cc, cc)
  read_path (ConstBool ty1 b1) (ConstBool ty2 b2) xs ys e = let t : ty1.0 ≡ ty2.0 = cc in let b : truth_code b1 ≡ truth_code b2 = cc in (ap (λ x. ConstBool x b1) (one_type ty1 ty2 t) ∙ ap (ConstBool ty2) (one_truth b1 b2 b), cc)
  read_path (ConstInt ty1 n1) (ConstInt ty2 n2) xs ys e = let t : ty1.0 ≡ ty2.0 = cc in let n : int_code n1 ++ xs ≡ int_code n2 ++ ys = cc in let h = one_int n1 n2 xs ys n in (ap (λ x. ConstInt x n1) (one_type ty1 ty2 t) ∙ ap (ConstInt ty2) h.0, h.1)
  read_path (ConstPrim name1) (ConstPrim name2) xs ys e = let t : name1.0 ≡ name2.0 = cc in (ap ConstPrim (one_sym name1 name2 t), cc)
  read_path (Extracted term1 p1) (Extracted term2 p2) xs ys e = let t : term1.0 ≡ term2.0 = cc in let h = read_path p1 p2 xs ys cc in (ap (λ x. Extracted x p1) (one_term term1 term2 t) ∙ ap (Extracted term2) h.0, h.1)
  read_path (Called term1 ps1 k1) (Called term2 ps2 k2) xs ys e = let t : term1.0 ≡ term2.0 = cc in let k : k1 ≡ k2 = cc in let h = read_paths ps1 ps2 xs ys cc in (ap (λ x. Called x ps1 k1) (one_term term1 term2 t) ∙ ap (λ x. Called term2 x k1) h.0 ∙ ap (Called term2 ps2) k, h.1)
  read_path (Chosen p1) (Chosen p2) xs ys e = let h = read_path p1 p2 xs ys cc in (ap Chosen h.0, h.1)
  read_path (MadeVariant ty1 variant1 ps1) (MadeVariant ty2 variant2 ps2) xs ys e = let t : ty1.0 ≡ ty2.0 = cc in let v : variant1.0 ≡ variant2.0 = cc in let h = read_paths ps1 ps2 xs ys cc in (ap (λ x. MadeVariant x variant1 ps1) (one_type ty1 ty2 t) ∙ ap (λ x. MadeVariant ty2 x ps1) (one_variant variant1 variant2 v) ∙ ap (MadeVariant ty2 variant2) h.0, h.1)
  read_path (MadeStruct ty1 ps1) (MadeStruct ty2 ps2) xs ys e = let t : ty1.0 ≡ ty2.0 = cc in let h = read_paths ps1 ps2 xs ys cc in (ap (λ x. MadeStruct x ps1) (one_type ty1 ty2 t) ∙ ap (MadeStruct ty2) h.0, h.1)
  read_path (VariantField variant1 field1 p1) (VariantField variant2 field2 p2) xs ys e = let v : variant1.0 ≡ variant2.0 = cc in let f : field1 ≡ field2 = cc in let h = read_path p1 p2 xs ys cc in (ap (λ x. VariantField x field1 p1) (one_variant variant1 variant2 v) ∙ ap (λ x. VariantField variant2 x p1) f ∙ ap (VariantField variant2 field2) h.0, h.1)
  read_path (StructField field1 p1) (StructField field2 p2) xs ys e = let f : field1 ≡ field2 = cc in let h = read_path p1 p2 xs ys cc in (ap (λ x. StructField x p1) f ∙ ap (StructField field2) h.0, h.1)
  read_path (Wrapped p1) (Wrapped p2) xs ys e = let h = read_path p1 p2 xs ys cc in (ap Wrapped h.0, h.1)
  read_path (Inner p1) (Inner p2) xs ys e = let h = read_path p1 p2 xs ys cc in (ap Inner h.0, h.1)
  read_path (Part part1 p1) (Part part2 p2) xs ys e = let f : part1 ≡ part2 = cc in let h = read_path p1 p2 xs ys cc in (ap (λ x. Part x p1) f ∙ ap (Part part2) h.0, h.1)
  read_path Nowhere (Arg i2) xs ys e = absurd (apart {a = 0} {b = 1} refl e)
  read_path Nowhere (ConstBool ty2 b2) xs ys e = absurd (apart {a = 0} {b = 2} refl e)
  read_path Nowhere (ConstInt ty2 n2) xs ys e = absurd (apart {a = 0} {b = 3} refl e)
  read_path Nowhere (ConstPrim name2) xs ys e = absurd (apart {a = 0} {b = 4} refl e)
  read_path Nowhere (Extracted term2 p2) xs ys e = absurd (apart {a = 0} {b = 5} refl e)
  read_path Nowhere (Called term2 ps2 k2) xs ys e = absurd (apart {a = 0} {b = 6} refl e)
  read_path Nowhere (Chosen p2) xs ys e = absurd (apart {a = 0} {b = 7} refl e)
  read_path Nowhere (MadeVariant ty2 variant2 ps2) xs ys e = absurd (apart {a = 0} {b = 8} refl e)
  read_path Nowhere (MadeStruct ty2 ps2) xs ys e = absurd (apart {a = 0} {b = 9} refl e)
  read_path Nowhere (VariantField variant2 field2 p2) xs ys e = absurd (apart {a = 0} {b = 10} refl e)
  read_path Nowhere (StructField field2 p2) xs ys e = absurd (apart {a = 0} {b = 11} refl e)
  read_path Nowhere (Wrapped p2) xs ys e = absurd (apart {a = 0} {b = 12} refl e)
  read_path Nowhere (Inner p2) xs ys e = absurd (apart {a = 0} {b = 13} refl e)
  read_path Nowhere (Part part2 p2) xs ys e = absurd (apart {a = 0} {b = 14} refl e)
  read_path (Arg i1) Nowhere xs ys e = absurd (apart {a = 1} {b = 0} refl e)
  read_path (Arg i1) (ConstBool ty2 b2) xs ys e = absurd (apart {a = 1} {b = 2} refl e)
  read_path (Arg i1) (ConstInt ty2 n2) xs ys e = absurd (apart {a = 1} {b = 3} refl e)
  read_path (Arg i1) (ConstPrim name2) xs ys e = absurd (apart {a = 1} {b = 4} refl e)
  read_path (Arg i1) (Extracted term2 p2) xs ys e = absurd (apart {a = 1} {b = 5} refl e)
  read_path (Arg i1) (Called term2 ps2 k2) xs ys e = absurd (apart {a = 1} {b = 6} refl e)
  read_path (Arg i1) (Chosen p2) xs ys e = absurd (apart {a = 1} {b = 7} refl e)
  read_path (Arg i1) (MadeVariant ty2 variant2 ps2) xs ys e = absurd (apart {a = 1} {b = 8} refl e)
  read_path (Arg i1) (MadeStruct ty2 ps2) xs ys e = absurd (apart {a = 1} {b = 9} refl e)
  read_path (Arg i1) (VariantField variant2 field2 p2) xs ys e = absurd (apart {a = 1} {b = 10} refl e)
  read_path (Arg i1) (StructField field2 p2) xs ys e = absurd (apart {a = 1} {b = 11} refl e)
  read_path (Arg i1) (Wrapped p2) xs ys e = absurd (apart {a = 1} {b = 12} refl e)
  read_path (Arg i1) (Inner p2) xs ys e = absurd (apart {a = 1} {b = 13} refl e)
  read_path (Arg i1) (Part part2 p2) xs ys e = absurd (apart {a = 1} {b = 14} refl e)
  read_path (ConstBool ty1 b1) Nowhere xs ys e = absurd (apart {a = 2} {b = 0} refl e)
  read_path (ConstBool ty1 b1) (Arg i2) xs ys e = absurd (apart {a = 2} {b = 1} refl e)
  read_path (ConstBool ty1 b1) (ConstInt ty2 n2) xs ys e = absurd (apart {a = 2} {b = 3} refl e)
  read_path (ConstBool ty1 b1) (ConstPrim name2) xs ys e = absurd (apart {a = 2} {b = 4} refl e)
  read_path (ConstBool ty1 b1) (Extracted term2 p2) xs ys e = absurd (apart {a = 2} {b = 5} refl e)
  read_path (ConstBool ty1 b1) (Called term2 ps2 k2) xs ys e = absurd (apart {a = 2} {b = 6} refl e)
  read_path (ConstBool ty1 b1) (Chosen p2) xs ys e = absurd (apart {a = 2} {b = 7} refl e)
  read_path (ConstBool ty1 b1) (MadeVariant ty2 variant2 ps2) xs ys e = absurd (apart {a = 2} {b = 8} refl e)
  read_path (ConstBool ty1 b1) (MadeStruct ty2 ps2) xs ys e = absurd (apart {a = 2} {b = 9} refl e)
  read_path (ConstBool ty1 b1) (VariantField variant2 field2 p2) xs ys e = absurd (apart {a = 2} {b = 10} refl e)
  read_path (ConstBool ty1 b1) (StructField field2 p2) xs ys e = absurd (apart {a = 2} {b = 11} refl e)
  read_path (ConstBool ty1 b1) (Wrapped p2) xs ys e = absurd (apart {a = 2} {b = 12} refl e)
  read_path (ConstBool ty1 b1) (Inner p2) xs ys e = absurd (apart {a = 2} {b = 13} refl e)
  read_path (ConstBool ty1 b1) (Part part2 p2) xs ys e = absurd (apart {a = 2} {b = 14} refl e)
  read_path (ConstInt ty1 n1) Nowhere xs ys e = absurd (apart {a = 3} {b = 0} refl e)
  read_path (ConstInt ty1 n1) (Arg i2) xs ys e = absurd (apart {a = 3} {b = 1} refl e)
  read_path (ConstInt ty1 n1) (ConstBool ty2 b2) xs ys e = absurd (apart {a = 3} {b = 2} refl e)
  read_path (ConstInt ty1 n1) (ConstPrim name2) xs ys e = absurd (apart {a = 3} {b = 4} refl e)
  read_path (ConstInt ty1 n1) (Extracted term2 p2) xs ys e = absurd (apart {a = 3} {b = 5} refl e)
  read_path (ConstInt ty1 n1) (Called term2 ps2 k2) xs ys e = absurd (apart {a = 3} {b = 6} refl e)
  read_path (ConstInt ty1 n1) (Chosen p2) xs ys e = absurd (apart {a = 3} {b = 7} refl e)
  read_path (ConstInt ty1 n1) (MadeVariant ty2 variant2 ps2) xs ys e = absurd (apart {a = 3} {b = 8} refl e)
  read_path (ConstInt ty1 n1) (MadeStruct ty2 ps2) xs ys e = absurd (apart {a = 3} {b = 9} refl e)
  read_path (ConstInt ty1 n1) (VariantField variant2 field2 p2) xs ys e = absurd (apart {a = 3} {b = 10} refl e)
  read_path (ConstInt ty1 n1) (StructField field2 p2) xs ys e = absurd (apart {a = 3} {b = 11} refl e)
  read_path (ConstInt ty1 n1) (Wrapped p2) xs ys e = absurd (apart {a = 3} {b = 12} refl e)
  read_path (ConstInt ty1 n1) (Inner p2) xs ys e = absurd (apart {a = 3} {b = 13} refl e)
  read_path (ConstInt ty1 n1) (Part part2 p2) xs ys e = absurd (apart {a = 3} {b = 14} refl e)
  read_path (ConstPrim name1) Nowhere xs ys e = absurd (apart {a = 4} {b = 0} refl e)
  read_path (ConstPrim name1) (Arg i2) xs ys e = absurd (apart {a = 4} {b = 1} refl e)
  read_path (ConstPrim name1) (ConstBool ty2 b2) xs ys e = absurd (apart {a = 4} {b = 2} refl e)
  read_path (ConstPrim name1) (ConstInt ty2 n2) xs ys e = absurd (apart {a = 4} {b = 3} refl e)
  read_path (ConstPrim name1) (Extracted term2 p2) xs ys e = absurd (apart {a = 4} {b = 5} refl e)
  read_path (ConstPrim name1) (Called term2 ps2 k2) xs ys e = absurd (apart {a = 4} {b = 6} refl e)
  read_path (ConstPrim name1) (Chosen p2) xs ys e = absurd (apart {a = 4} {b = 7} refl e)
  read_path (ConstPrim name1) (MadeVariant ty2 variant2 ps2) xs ys e = absurd (apart {a = 4} {b = 8} refl e)
  read_path (ConstPrim name1) (MadeStruct ty2 ps2) xs ys e = absurd (apart {a = 4} {b = 9} refl e)
  read_path (ConstPrim name1) (VariantField variant2 field2 p2) xs ys e = absurd (apart {a = 4} {b = 10} refl e)
  read_path (ConstPrim name1) (StructField field2 p2) xs ys e = absurd (apart {a = 4} {b = 11} refl e)
  read_path (ConstPrim name1) (Wrapped p2) xs ys e = absurd (apart {a = 4} {b = 12} refl e)
  read_path (ConstPrim name1) (Inner p2) xs ys e = absurd (apart {a = 4} {b = 13} refl e)
  read_path (ConstPrim name1) (Part part2 p2) xs ys e = absurd (apart {a = 4} {b = 14} refl e)
  read_path (Extracted term1 p1) Nowhere xs ys e = absurd (apart {a = 5} {b = 0} refl e)
  read_path (Extracted term1 p1) (Arg i2) xs ys e = absurd (apart {a = 5} {b = 1} refl e)
  read_path (Extracted term1 p1) (ConstBool ty2 b2) xs ys e = absurd (apart {a = 5} {b = 2} refl e)
  read_path (Extracted term1 p1) (ConstInt ty2 n2) xs ys e = absurd (apart {a = 5} {b = 3} refl e)
  read_path (Extracted term1 p1) (ConstPrim name2) xs ys e = absurd (apart {a = 5} {b = 4} refl e)
  read_path (Extracted term1 p1) (Called term2 ps2 k2) xs ys e = absurd (apart {a = 5} {b = 6} refl e)
  read_path (Extracted term1 p1) (Chosen p2) xs ys e = absurd (apart {a = 5} {b = 7} refl e)
  read_path (Extracted term1 p1) (MadeVariant ty2 variant2 ps2) xs ys e = absurd (apart {a = 5} {b = 8} refl e)
  read_path (Extracted term1 p1) (MadeStruct ty2 ps2) xs ys e = absurd (apart {a = 5} {b = 9} refl e)
  read_path (Extracted term1 p1) (VariantField variant2 field2 p2) xs ys e = absurd (apart {a = 5} {b = 10} refl e)
  read_path (Extracted term1 p1) (StructField field2 p2) xs ys e = absurd (apart {a = 5} {b = 11} refl e)
  read_path (Extracted term1 p1) (Wrapped p2) xs ys e = absurd (apart {a = 5} {b = 12} refl e)
  read_path (Extracted term1 p1) (Inner p2) xs ys e = absurd (apart {a = 5} {b = 13} refl e)
  read_path (Extracted term1 p1) (Part part2 p2) xs ys e = absurd (apart {a = 5} {b = 14} refl e)
  read_path (Called term1 ps1 k1) Nowhere xs ys e = absurd (apart {a = 6} {b = 0} refl e)
  read_path (Called term1 ps1 k1) (Arg i2) xs ys e = absurd (apart {a = 6} {b = 1} refl e)
  read_path (Called term1 ps1 k1) (ConstBool ty2 b2) xs ys e = absurd (apart {a = 6} {b = 2} refl e)
  read_path (Called term1 ps1 k1) (ConstInt ty2 n2) xs ys e = absurd (apart {a = 6} {b = 3} refl e)
  read_path (Called term1 ps1 k1) (ConstPrim name2) xs ys e = absurd (apart {a = 6} {b = 4} refl e)
  read_path (Called term1 ps1 k1) (Extracted term2 p2) xs ys e = absurd (apart {a = 6} {b = 5} refl e)
  read_path (Called term1 ps1 k1) (Chosen p2) xs ys e = absurd (apart {a = 6} {b = 7} refl e)
  read_path (Called term1 ps1 k1) (MadeVariant ty2 variant2 ps2) xs ys e = absurd (apart {a = 6} {b = 8} refl e)
  read_path (Called term1 ps1 k1) (MadeStruct ty2 ps2) xs ys e = absurd (apart {a = 6} {b = 9} refl e)
  read_path (Called term1 ps1 k1) (VariantField variant2 field2 p2) xs ys e = absurd (apart {a = 6} {b = 10} refl e)
  read_path (Called term1 ps1 k1) (StructField field2 p2) xs ys e = absurd (apart {a = 6} {b = 11} refl e)
  read_path (Called term1 ps1 k1) (Wrapped p2) xs ys e = absurd (apart {a = 6} {b = 12} refl e)
  read_path (Called term1 ps1 k1) (Inner p2) xs ys e = absurd (apart {a = 6} {b = 13} refl e)
  read_path (Called term1 ps1 k1) (Part part2 p2) xs ys e = absurd (apart {a = 6} {b = 14} refl e)
  read_path (Chosen p1) Nowhere xs ys e = absurd (apart {a = 7} {b = 0} refl e)
  read_path (Chosen p1) (Arg i2) xs ys e = absurd (apart {a = 7} {b = 1} refl e)
  read_path (Chosen p1) (ConstBool ty2 b2) xs ys e = absurd (apart {a = 7} {b = 2} refl e)
  read_path (Chosen p1) (ConstInt ty2 n2) xs ys e = absurd (apart {a = 7} {b = 3} refl e)
  read_path (Chosen p1) (ConstPrim name2) xs ys e = absurd (apart {a = 7} {b = 4} refl e)
  read_path (Chosen p1) (Extracted term2 p2) xs ys e = absurd (apart {a = 7} {b = 5} refl e)
  read_path (Chosen p1) (Called term2 ps2 k2) xs ys e = absurd (apart {a = 7} {b = 6} refl e)
  read_path (Chosen p1) (MadeVariant ty2 variant2 ps2) xs ys e = absurd (apart {a = 7} {b = 8} refl e)
  read_path (Chosen p1) (MadeStruct ty2 ps2) xs ys e = absurd (apart {a = 7} {b = 9} refl e)
  read_path (Chosen p1) (VariantField variant2 field2 p2) xs ys e = absurd (apart {a = 7} {b = 10} refl e)
  read_path (Chosen p1) (StructField field2 p2) xs ys e = absurd (apart {a = 7} {b = 11} refl e)
  read_path (Chosen p1) (Wrapped p2) xs ys e = absurd (apart {a = 7} {b = 12} refl e)
  read_path (Chosen p1) (Inner p2) xs ys e = absurd (apart {a = 7} {b = 13} refl e)
  read_path (Chosen p1) (Part part2 p2) xs ys e = absurd (apart {a = 7} {b = 14} refl e)
  read_path (MadeVariant ty1 variant1 ps1) Nowhere xs ys e = absurd (apart {a = 8} {b = 0} refl e)
  read_path (MadeVariant ty1 variant1 ps1) (Arg i2) xs ys e = absurd (apart {a = 8} {b = 1} refl e)
  read_path (MadeVariant ty1 variant1 ps1) (ConstBool ty2 b2) xs ys e = absurd (apart {a = 8} {b = 2} refl e)
  read_path (MadeVariant ty1 variant1 ps1) (ConstInt ty2 n2) xs ys e = absurd (apart {a = 8} {b = 3} refl e)
  read_path (MadeVariant ty1 variant1 ps1) (ConstPrim name2) xs ys e = absurd (apart {a = 8} {b = 4} refl e)
  read_path (MadeVariant ty1 variant1 ps1) (Extracted term2 p2) xs ys e = absurd (apart {a = 8} {b = 5} refl e)
  read_path (MadeVariant ty1 variant1 ps1) (Called term2 ps2 k2) xs ys e = absurd (apart {a = 8} {b = 6} refl e)
  read_path (MadeVariant ty1 variant1 ps1) (Chosen p2) xs ys e = absurd (apart {a = 8} {b = 7} refl e)
  read_path (MadeVariant ty1 variant1 ps1) (MadeStruct ty2 ps2) xs ys e = absurd (apart {a = 8} {b = 9} refl e)
  read_path (MadeVariant ty1 variant1 ps1) (VariantField variant2 field2 p2) xs ys e = absurd (apart {a = 8} {b = 10} refl e)
  read_path (MadeVariant ty1 variant1 ps1) (StructField field2 p2) xs ys e = absurd (apart {a = 8} {b = 11} refl e)
  read_path (MadeVariant ty1 variant1 ps1) (Wrapped p2) xs ys e = absurd (apart {a = 8} {b = 12} refl e)
  read_path (MadeVariant ty1 variant1 ps1) (Inner p2) xs ys e = absurd (apart {a = 8} {b = 13} refl e)
  read_path (MadeVariant ty1 variant1 ps1) (Part part2 p2) xs ys e = absurd (apart {a = 8} {b = 14} refl e)
  read_path (MadeStruct ty1 ps1) Nowhere xs ys e = absurd (apart {a = 9} {b = 0} refl e)
  read_path (MadeStruct ty1 ps1) (Arg i2) xs ys e = absurd (apart {a = 9} {b = 1} refl e)
  read_path (MadeStruct ty1 ps1) (ConstBool ty2 b2) xs ys e = absurd (apart {a = 9} {b = 2} refl e)
  read_path (MadeStruct ty1 ps1) (ConstInt ty2 n2) xs ys e = absurd (apart {a = 9} {b = 3} refl e)
  read_path (MadeStruct ty1 ps1) (ConstPrim name2) xs ys e = absurd (apart {a = 9} {b = 4} refl e)
  read_path (MadeStruct ty1 ps1) (Extracted term2 p2) xs ys e = absurd (apart {a = 9} {b = 5} refl e)
  read_path (MadeStruct ty1 ps1) (Called term2 ps2 k2) xs ys e = absurd (apart {a = 9} {b = 6} refl e)
  read_path (MadeStruct ty1 ps1) (Chosen p2) xs ys e = absurd (apart {a = 9} {b = 7} refl e)
  read_path (MadeStruct ty1 ps1) (MadeVariant ty2 variant2 ps2) xs ys e = absurd (apart {a = 9} {b = 8} refl e)
  read_path (MadeStruct ty1 ps1) (VariantField variant2 field2 p2) xs ys e = absurd (apart {a = 9} {b = 10} refl e)
  read_path (MadeStruct ty1 ps1) (StructField field2 p2) xs ys e = absurd (apart {a = 9} {b = 11} refl e)
  read_path (MadeStruct ty1 ps1) (Wrapped p2) xs ys e = absurd (apart {a = 9} {b = 12} refl e)
  read_path (MadeStruct ty1 ps1) (Inner p2) xs ys e = absurd (apart {a = 9} {b = 13} refl e)
  read_path (MadeStruct ty1 ps1) (Part part2 p2) xs ys e = absurd (apart {a = 9} {b = 14} refl e)
  read_path (VariantField variant1 field1 p1) Nowhere xs ys e = absurd (apart {a = 10} {b = 0} refl e)
  read_path (VariantField variant1 field1 p1) (Arg i2) xs ys e = absurd (apart {a = 10} {b = 1} refl e)
  read_path (VariantField variant1 field1 p1) (ConstBool ty2 b2) xs ys e = absurd (apart {a = 10} {b = 2} refl e)
  read_path (VariantField variant1 field1 p1) (ConstInt ty2 n2) xs ys e = absurd (apart {a = 10} {b = 3} refl e)
  read_path (VariantField variant1 field1 p1) (ConstPrim name2) xs ys e = absurd (apart {a = 10} {b = 4} refl e)
  read_path (VariantField variant1 field1 p1) (Extracted term2 p2) xs ys e = absurd (apart {a = 10} {b = 5} refl e)
  read_path (VariantField variant1 field1 p1) (Called term2 ps2 k2) xs ys e = absurd (apart {a = 10} {b = 6} refl e)
  read_path (VariantField variant1 field1 p1) (Chosen p2) xs ys e = absurd (apart {a = 10} {b = 7} refl e)
  read_path (VariantField variant1 field1 p1) (MadeVariant ty2 variant2 ps2) xs ys e = absurd (apart {a = 10} {b = 8} refl e)
  read_path (VariantField variant1 field1 p1) (MadeStruct ty2 ps2) xs ys e = absurd (apart {a = 10} {b = 9} refl e)
  read_path (VariantField variant1 field1 p1) (StructField field2 p2) xs ys e = absurd (apart {a = 10} {b = 11} refl e)
  read_path (VariantField variant1 field1 p1) (Wrapped p2) xs ys e = absurd (apart {a = 10} {b = 12} refl e)
  read_path (VariantField variant1 field1 p1) (Inner p2) xs ys e = absurd (apart {a = 10} {b = 13} refl e)
  read_path (VariantField variant1 field1 p1) (Part part2 p2) xs ys e = absurd (apart {a = 10} {b = 14} refl e)
  read_path (StructField field1 p1) Nowhere xs ys e = absurd (apart {a = 11} {b = 0} refl e)
  read_path (StructField field1 p1) (Arg i2) xs ys e = absurd (apart {a = 11} {b = 1} refl e)
  read_path (StructField field1 p1) (ConstBool ty2 b2) xs ys e = absurd (apart {a = 11} {b = 2} refl e)
  read_path (StructField field1 p1) (ConstInt ty2 n2) xs ys e = absurd (apart {a = 11} {b = 3} refl e)
  read_path (StructField field1 p1) (ConstPrim name2) xs ys e = absurd (apart {a = 11} {b = 4} refl e)
  read_path (StructField field1 p1) (Extracted term2 p2) xs ys e = absurd (apart {a = 11} {b = 5} refl e)
  read_path (StructField field1 p1) (Called term2 ps2 k2) xs ys e = absurd (apart {a = 11} {b = 6} refl e)
  read_path (StructField field1 p1) (Chosen p2) xs ys e = absurd (apart {a = 11} {b = 7} refl e)
  read_path (StructField field1 p1) (MadeVariant ty2 variant2 ps2) xs ys e = absurd (apart {a = 11} {b = 8} refl e)
  read_path (StructField field1 p1) (MadeStruct ty2 ps2) xs ys e = absurd (apart {a = 11} {b = 9} refl e)
  read_path (StructField field1 p1) (VariantField variant2 field2 p2) xs ys e = absurd (apart {a = 11} {b = 10} refl e)
  read_path (StructField field1 p1) (Wrapped p2) xs ys e = absurd (apart {a = 11} {b = 12} refl e)
  read_path (StructField field1 p1) (Inner p2) xs ys e = absurd (apart {a = 11} {b = 13} refl e)
  read_path (StructField field1 p1) (Part part2 p2) xs ys e = absurd (apart {a = 11} {b = 14} refl e)
  read_path (Wrapped p1) Nowhere xs ys e = absurd (apart {a = 12} {b = 0} refl e)
  read_path (Wrapped p1) (Arg i2) xs ys e = absurd (apart {a = 12} {b = 1} refl e)
  read_path (Wrapped p1) (ConstBool ty2 b2) xs ys e = absurd (apart {a = 12} {b = 2} refl e)
  read_path (Wrapped p1) (ConstInt ty2 n2) xs ys e = absurd (apart {a = 12} {b = 3} refl e)
  read_path (Wrapped p1) (ConstPrim name2) xs ys e = absurd (apart {a = 12} {b = 4} refl e)
  read_path (Wrapped p1) (Extracted term2 p2) xs ys e = absurd (apart {a = 12} {b = 5} refl e)
  read_path (Wrapped p1) (Called term2 ps2 k2) xs ys e = absurd (apart {a = 12} {b = 6} refl e)
  read_path (Wrapped p1) (Chosen p2) xs ys e = absurd (apart {a = 12} {b = 7} refl e)
  read_path (Wrapped p1) (MadeVariant ty2 variant2 ps2) xs ys e = absurd (apart {a = 12} {b = 8} refl e)
  read_path (Wrapped p1) (MadeStruct ty2 ps2) xs ys e = absurd (apart {a = 12} {b = 9} refl e)
  read_path (Wrapped p1) (VariantField variant2 field2 p2) xs ys e = absurd (apart {a = 12} {b = 10} refl e)
  read_path (Wrapped p1) (StructField field2 p2) xs ys e = absurd (apart {a = 12} {b = 11} refl e)
  read_path (Wrapped p1) (Inner p2) xs ys e = absurd (apart {a = 12} {b = 13} refl e)
  read_path (Wrapped p1) (Part part2 p2) xs ys e = absurd (apart {a = 12} {b = 14} refl e)
  read_path (Inner p1) Nowhere xs ys e = absurd (apart {a = 13} {b = 0} refl e)
  read_path (Inner p1) (Arg i2) xs ys e = absurd (apart {a = 13} {b = 1} refl e)
  read_path (Inner p1) (ConstBool ty2 b2) xs ys e = absurd (apart {a = 13} {b = 2} refl e)
  read_path (Inner p1) (ConstInt ty2 n2) xs ys e = absurd (apart {a = 13} {b = 3} refl e)
  read_path (Inner p1) (ConstPrim name2) xs ys e = absurd (apart {a = 13} {b = 4} refl e)
  read_path (Inner p1) (Extracted term2 p2) xs ys e = absurd (apart {a = 13} {b = 5} refl e)
  read_path (Inner p1) (Called term2 ps2 k2) xs ys e = absurd (apart {a = 13} {b = 6} refl e)
  read_path (Inner p1) (Chosen p2) xs ys e = absurd (apart {a = 13} {b = 7} refl e)
  read_path (Inner p1) (MadeVariant ty2 variant2 ps2) xs ys e = absurd (apart {a = 13} {b = 8} refl e)
  read_path (Inner p1) (MadeStruct ty2 ps2) xs ys e = absurd (apart {a = 13} {b = 9} refl e)
  read_path (Inner p1) (VariantField variant2 field2 p2) xs ys e = absurd (apart {a = 13} {b = 10} refl e)
  read_path (Inner p1) (StructField field2 p2) xs ys e = absurd (apart {a = 13} {b = 11} refl e)
  read_path (Inner p1) (Wrapped p2) xs ys e = absurd (apart {a = 13} {b = 12} refl e)
  read_path (Inner p1) (Part part2 p2) xs ys e = absurd (apart {a = 13} {b = 14} refl e)
  read_path (Part part1 p1) Nowhere xs ys e = absurd (apart {a = 14} {b = 0} refl e)
  read_path (Part part1 p1) (Arg i2) xs ys e = absurd (apart {a = 14} {b = 1} refl e)
  read_path (Part part1 p1) (ConstBool ty2 b2) xs ys e = absurd (apart {a = 14} {b = 2} refl e)
  read_path (Part part1 p1) (ConstInt ty2 n2) xs ys e = absurd (apart {a = 14} {b = 3} refl e)
  read_path (Part part1 p1) (ConstPrim name2) xs ys e = absurd (apart {a = 14} {b = 4} refl e)
  read_path (Part part1 p1) (Extracted term2 p2) xs ys e = absurd (apart {a = 14} {b = 5} refl e)
  read_path (Part part1 p1) (Called term2 ps2 k2) xs ys e = absurd (apart {a = 14} {b = 6} refl e)
  read_path (Part part1 p1) (Chosen p2) xs ys e = absurd (apart {a = 14} {b = 7} refl e)
  read_path (Part part1 p1) (MadeVariant ty2 variant2 ps2) xs ys e = absurd (apart {a = 14} {b = 8} refl e)
  read_path (Part part1 p1) (MadeStruct ty2 ps2) xs ys e = absurd (apart {a = 14} {b = 9} refl e)
  read_path (Part part1 p1) (VariantField variant2 field2 p2) xs ys e = absurd (apart {a = 14} {b = 10} refl e)
  read_path (Part part1 p1) (StructField field2 p2) xs ys e = absurd (apart {a = 14} {b = 11} refl e)
  read_path (Part part1 p1) (Wrapped p2) xs ys e = absurd (apart {a = 14} {b = 12} refl e)
  read_path (Part part1 p1) (Inner p2) xs ys e = absurd (apart {a = 14} {b = 13} refl e)

  read_paths : (ps qs : Paths) (xs ys : List ℕ) → paths_code ps ++ xs ≡ paths_code qs ++ ys → (ps ≡ qs) × (xs ≡ ys)
  read_paths NoPath NoPath xs ys e = (refl, cc)
  read_paths (APath p ps) (APath q qs) xs ys e =
      let rest : (path_code p ++ paths_code ps) ++ xs ≡ (path_code q ++ paths_code qs) ++ ys = cc in
      let first = read_path p q (paths_code ps ++ xs) (paths_code qs ++ ys) (sym (append_assoc (path_code p) (paths_code ps) xs) ∙ rest ∙ append_assoc (path_code q) (paths_code qs) ys) in
      let more = read_paths ps qs xs ys first.1 in
      (ap (λ x. APath x ps) first.0 ∙ ap (APath q) more.0, more.1)
  read_paths NoPath (APath q qs) xs ys e = absurd cc
  read_paths (APath p ps) NoPath xs ys e = absurd cc

-- paths that are told to be one are one
pub same_sound : (p q : Path) → same_path p q ≡ true → p ≡ q
same_sound p q e = (read_path p q [] [] (append-nil (path_code p) ∙ (bytes_eq-Decides (path_code p) (path_code q)).0 e ∙ sym (append-nil (path_code q)))).0

-- and each path is told to be itself
pub same_self : (p : Path) → same_path p p ≡ true
same_self p = (bytes_eq-Decides (path_code p) (path_code p)).1 refl
