-- The derived equality of bindings is true exactly of equal ones.
use Rattle.std.proofs.Common.{◌≡◌, ◌⊎◌, inl, inr, ⊎_elim, ℕ, zero, suc, ◌+◌, ◌<◌, ◌≤◌, Bool, true, false, List, length, get_or, Some, eqb, ◌&&◌, refl, sym, ap, ◌∙◌, arith}
use Rattle.std.specs.Prelude.{Contains, slice_get}
use Rattle.std.proofs.lemmas.Option.{same_Some, slice_get_read}
use mathlib.Core.Bool.{beq}
use Rattle.std.specs.Bool.{Decides}
use Rattle.std.specs.Ordering.{int_eq}
use Rattle.std.specs.Cmp.Lexicographic.{pointwise}
use Rattle.std.proofs.lemmas.Bool.Decides.{Decides-eqb, Decides-int_eq, Decides-and, Decides-like}
use Rattle.std.proofs.lemmas.Slice.Eq.{slice_eq-Decides}
use Rattle.isle_base.specs.declared.ids.TypeId.{TypeId}
use Rattle.isle_base.specs.declared.ids.Sym.{Sym}
use Rattle.isle_base.specs.declared.ids.TermId.{TermId}
use Rattle.isle_base.specs.declared.ids.BindingId.{BindingId}
use Rattle.isle_base.specs.declared.ids.VariantId.{VariantId}
use Rattle.isle_base.specs.declared.ids.TupleIndex.{TupleIndex}
use Rattle.isle_core.specs.declared.rule_sets.Binding.{Binding}
use Rattle.isle_core.specs.declared.rule_sets.Binding.TheVariants as binding
use Rattle.isle_core.specs.contracts.rule_sets.BindingPartialEq.TheImpl as binding_partial_eq
use Rattle.isle_core.proofs.SameValueLaws.{pair}

-- ---- parts

truths_decide : (a b : Bool) → Decides (beq a b) (a ≡ b)
truths_decide true true = (λ e. refl, λ e. refl)
truths_decide false false = (λ e. refl, λ e. refl)
truths_decide true false = (λ e. cc, λ e. cc)
truths_decide false true = (λ e. cc, λ e. cc)

abbrev type_id_of : ℕ → TypeId
type_id_of n = record { 0 = n }

type_id_decides : (a b : TypeId) → Decides (eqb a.0 b.0) (a ≡ b)
type_id_decides a b = Decides-like (eqb a.0 b.0) (λ e. ap (λ (n : ℕ). type_id_of n) e) (λ e. ap (λ (x : TypeId). x.0) e) (Decides-eqb a.0 b.0)

abbrev sym_of : ℕ → Sym
sym_of n = record { 0 = n }

sym_decides : (a b : Sym) → Decides (eqb a.0 b.0) (a ≡ b)
sym_decides a b = Decides-like (eqb a.0 b.0) (λ e. ap (λ (n : ℕ). sym_of n) e) (λ e. ap (λ (x : Sym). x.0) e) (Decides-eqb a.0 b.0)

abbrev term_id_of : ℕ → TermId
term_id_of n = record { 0 = n }

term_id_decides : (a b : TermId) → Decides (eqb a.0 b.0) (a ≡ b)
term_id_decides a b = Decides-like (eqb a.0 b.0) (λ e. ap (λ (n : ℕ). term_id_of n) e) (λ e. ap (λ (x : TermId). x.0) e) (Decides-eqb a.0 b.0)

abbrev binding_id_of : ℕ → BindingId
binding_id_of n = record { 0 = n }

binding_id_decides : (a b : BindingId) → Decides (eqb a.0 b.0) (a ≡ b)
binding_id_decides a b = Decides-like (eqb a.0 b.0) (λ e. ap (λ (n : ℕ). binding_id_of n) e) (λ e. ap (λ (x : BindingId). x.0) e) (Decides-eqb a.0 b.0)

abbrev variant_id_of : ℕ → VariantId
variant_id_of n = record { 0 = n }

variant_id_decides : (a b : VariantId) → Decides (eqb a.0 b.0) (a ≡ b)
variant_id_decides a b = Decides-like (eqb a.0 b.0) (λ e. ap (λ (n : ℕ). variant_id_of n) e) (λ e. ap (λ (x : VariantId). x.0) e) (Decides-eqb a.0 b.0)

abbrev tuple_index_of : ℕ → TupleIndex
tuple_index_of n = record { 0 = n }

tuple_index_decides : (a b : TupleIndex) → Decides (eqb a.0 b.0) (a ≡ b)
tuple_index_decides a b = Decides-like (eqb a.0 b.0) (λ e. ap (λ (n : ℕ). tuple_index_of n) e) (λ e. ap (λ (x : TupleIndex). x.0) e) (Decides-eqb a.0 b.0)

abbrev number_eq : BindingId → BindingId → Bool
number_eq a b = eqb a.0 b.0

numbers_decide : (xs ys : List BindingId) → Decides (pointwise number_eq xs ys) (xs ≡ ys)
numbers_decide xs ys = slice_eq-Decides binding_id_decides xs ys (pointwise number_eq xs ys) refl

-- what three parts of a kind say of the whole
three : {A B C D : Type 0} (make : A → B → C → D) (a s : A) (b t : B) (c u : C) (x y z : Bool) → Decides x (a ≡ s) → Decides y (b ≡ t) → Decides z (c ≡ u) → (make a b c ≡ make s t u → (a ≡ s) × ((b ≡ t) × (c ≡ u)))
    → Decides (x && (y && z)) (make a b c ≡ make s t u)
three make a s b t c u x y z h k l apart =
    Decides-like (x && (y && z)) (λ p. ap (λ w. make w b c) p.0 ∙ ap (λ w. make s w c) p.1.0 ∙ ap (make s t) p.1.1) apart (Decides-and x (y && z) h (Decides-and y z k l))

-- ---- bindings

pub binding_decides : (a b : Binding) → Decides ((binding_partial_eq.ghosts).eq a b) (a ≡ b)
binding_decides (binding.ConstBool a0 a1) (binding.ConstBool b0 b1) = pair binding.ConstBool a0 b0 a1 b1 (beq a0 b0) (eqb a1.0 b1.0) (truths_decide a0 b0) (type_id_decides a1 b1) (λ e. (cc, cc))
binding_decides (binding.ConstBool a0 a1) (binding.ConstInt b0 b1) = (λ e. cc, λ e. cc)
binding_decides (binding.ConstBool a0 a1) (binding.ConstPrim b0) = (λ e. cc, λ e. cc)
binding_decides (binding.ConstBool a0 a1) (binding.Argument b0) = (λ e. cc, λ e. cc)
binding_decides (binding.ConstBool a0 a1) (binding.Extractor b0 b1) = (λ e. cc, λ e. cc)
binding_decides (binding.ConstBool a0 a1) (binding.Constructor b0 b1 b2) = (λ e. cc, λ e. cc)
binding_decides (binding.ConstBool a0 a1) (binding.Iterator b0) = (λ e. cc, λ e. cc)
binding_decides (binding.ConstBool a0 a1) (binding.MakeVariant b0 b1 b2) = (λ e. cc, λ e. cc)
binding_decides (binding.ConstBool a0 a1) (binding.MakeStruct b0 b1) = (λ e. cc, λ e. cc)
binding_decides (binding.ConstBool a0 a1) (binding.MatchVariant b0 b1 b2) = (λ e. cc, λ e. cc)
binding_decides (binding.ConstBool a0 a1) (binding.ExtractStruct b0 b1) = (λ e. cc, λ e. cc)
binding_decides (binding.ConstBool a0 a1) (binding.MakeSome b0) = (λ e. cc, λ e. cc)
binding_decides (binding.ConstBool a0 a1) (binding.MatchSome b0) = (λ e. cc, λ e. cc)
binding_decides (binding.ConstBool a0 a1) (binding.MatchTuple b0 b1) = (λ e. cc, λ e. cc)
binding_decides (binding.ConstInt a0 a1) (binding.ConstBool b0 b1) = (λ e. cc, λ e. cc)
binding_decides (binding.ConstInt a0 a1) (binding.ConstInt b0 b1) = pair binding.ConstInt a0 b0 a1 b1 (int_eq a0 b0) (eqb a1.0 b1.0) (Decides-int_eq a0 b0) (type_id_decides a1 b1) (λ e. (cc, cc))
binding_decides (binding.ConstInt a0 a1) (binding.ConstPrim b0) = (λ e. cc, λ e. cc)
binding_decides (binding.ConstInt a0 a1) (binding.Argument b0) = (λ e. cc, λ e. cc)
binding_decides (binding.ConstInt a0 a1) (binding.Extractor b0 b1) = (λ e. cc, λ e. cc)
binding_decides (binding.ConstInt a0 a1) (binding.Constructor b0 b1 b2) = (λ e. cc, λ e. cc)
binding_decides (binding.ConstInt a0 a1) (binding.Iterator b0) = (λ e. cc, λ e. cc)
binding_decides (binding.ConstInt a0 a1) (binding.MakeVariant b0 b1 b2) = (λ e. cc, λ e. cc)
binding_decides (binding.ConstInt a0 a1) (binding.MakeStruct b0 b1) = (λ e. cc, λ e. cc)
binding_decides (binding.ConstInt a0 a1) (binding.MatchVariant b0 b1 b2) = (λ e. cc, λ e. cc)
binding_decides (binding.ConstInt a0 a1) (binding.ExtractStruct b0 b1) = (λ e. cc, λ e. cc)
binding_decides (binding.ConstInt a0 a1) (binding.MakeSome b0) = (λ e. cc, λ e. cc)
binding_decides (binding.ConstInt a0 a1) (binding.MatchSome b0) = (λ e. cc, λ e. cc)
binding_decides (binding.ConstInt a0 a1) (binding.MatchTuple b0 b1) = (λ e. cc, λ e. cc)
binding_decides (binding.ConstPrim a0) (binding.ConstBool b0 b1) = (λ e. cc, λ e. cc)
binding_decides (binding.ConstPrim a0) (binding.ConstInt b0 b1) = (λ e. cc, λ e. cc)
binding_decides (binding.ConstPrim a0) (binding.ConstPrim b0) = Decides-like (eqb a0.0 b0.0) (λ e. ap binding.ConstPrim e) (λ e. cc) (sym_decides a0 b0)
binding_decides (binding.ConstPrim a0) (binding.Argument b0) = (λ e. cc, λ e. cc)
binding_decides (binding.ConstPrim a0) (binding.Extractor b0 b1) = (λ e. cc, λ e. cc)
binding_decides (binding.ConstPrim a0) (binding.Constructor b0 b1 b2) = (λ e. cc, λ e. cc)
binding_decides (binding.ConstPrim a0) (binding.Iterator b0) = (λ e. cc, λ e. cc)
binding_decides (binding.ConstPrim a0) (binding.MakeVariant b0 b1 b2) = (λ e. cc, λ e. cc)
binding_decides (binding.ConstPrim a0) (binding.MakeStruct b0 b1) = (λ e. cc, λ e. cc)
binding_decides (binding.ConstPrim a0) (binding.MatchVariant b0 b1 b2) = (λ e. cc, λ e. cc)
binding_decides (binding.ConstPrim a0) (binding.ExtractStruct b0 b1) = (λ e. cc, λ e. cc)
binding_decides (binding.ConstPrim a0) (binding.MakeSome b0) = (λ e. cc, λ e. cc)
binding_decides (binding.ConstPrim a0) (binding.MatchSome b0) = (λ e. cc, λ e. cc)
binding_decides (binding.ConstPrim a0) (binding.MatchTuple b0 b1) = (λ e. cc, λ e. cc)
binding_decides (binding.Argument a0) (binding.ConstBool b0 b1) = (λ e. cc, λ e. cc)
binding_decides (binding.Argument a0) (binding.ConstInt b0 b1) = (λ e. cc, λ e. cc)
binding_decides (binding.Argument a0) (binding.ConstPrim b0) = (λ e. cc, λ e. cc)
binding_decides (binding.Argument a0) (binding.Argument b0) = Decides-like (eqb a0 b0) (λ e. ap binding.Argument e) (λ e. cc) (Decides-eqb a0 b0)
binding_decides (binding.Argument a0) (binding.Extractor b0 b1) = (λ e. cc, λ e. cc)
binding_decides (binding.Argument a0) (binding.Constructor b0 b1 b2) = (λ e. cc, λ e. cc)
binding_decides (binding.Argument a0) (binding.Iterator b0) = (λ e. cc, λ e. cc)
binding_decides (binding.Argument a0) (binding.MakeVariant b0 b1 b2) = (λ e. cc, λ e. cc)
binding_decides (binding.Argument a0) (binding.MakeStruct b0 b1) = (λ e. cc, λ e. cc)
binding_decides (binding.Argument a0) (binding.MatchVariant b0 b1 b2) = (λ e. cc, λ e. cc)
binding_decides (binding.Argument a0) (binding.ExtractStruct b0 b1) = (λ e. cc, λ e. cc)
binding_decides (binding.Argument a0) (binding.MakeSome b0) = (λ e. cc, λ e. cc)
binding_decides (binding.Argument a0) (binding.MatchSome b0) = (λ e. cc, λ e. cc)
binding_decides (binding.Argument a0) (binding.MatchTuple b0 b1) = (λ e. cc, λ e. cc)
binding_decides (binding.Extractor a0 a1) (binding.ConstBool b0 b1) = (λ e. cc, λ e. cc)
binding_decides (binding.Extractor a0 a1) (binding.ConstInt b0 b1) = (λ e. cc, λ e. cc)
binding_decides (binding.Extractor a0 a1) (binding.ConstPrim b0) = (λ e. cc, λ e. cc)
binding_decides (binding.Extractor a0 a1) (binding.Argument b0) = (λ e. cc, λ e. cc)
binding_decides (binding.Extractor a0 a1) (binding.Extractor b0 b1) = pair binding.Extractor a0 b0 a1 b1 (eqb a0.0 b0.0) (eqb a1.0 b1.0) (term_id_decides a0 b0) (binding_id_decides a1 b1) (λ e. (cc, cc))
binding_decides (binding.Extractor a0 a1) (binding.Constructor b0 b1 b2) = (λ e. cc, λ e. cc)
binding_decides (binding.Extractor a0 a1) (binding.Iterator b0) = (λ e. cc, λ e. cc)
binding_decides (binding.Extractor a0 a1) (binding.MakeVariant b0 b1 b2) = (λ e. cc, λ e. cc)
binding_decides (binding.Extractor a0 a1) (binding.MakeStruct b0 b1) = (λ e. cc, λ e. cc)
binding_decides (binding.Extractor a0 a1) (binding.MatchVariant b0 b1 b2) = (λ e. cc, λ e. cc)
binding_decides (binding.Extractor a0 a1) (binding.ExtractStruct b0 b1) = (λ e. cc, λ e. cc)
binding_decides (binding.Extractor a0 a1) (binding.MakeSome b0) = (λ e. cc, λ e. cc)
binding_decides (binding.Extractor a0 a1) (binding.MatchSome b0) = (λ e. cc, λ e. cc)
binding_decides (binding.Extractor a0 a1) (binding.MatchTuple b0 b1) = (λ e. cc, λ e. cc)
binding_decides (binding.Constructor a0 a1 a2) (binding.ConstBool b0 b1) = (λ e. cc, λ e. cc)
binding_decides (binding.Constructor a0 a1 a2) (binding.ConstInt b0 b1) = (λ e. cc, λ e. cc)
binding_decides (binding.Constructor a0 a1 a2) (binding.ConstPrim b0) = (λ e. cc, λ e. cc)
binding_decides (binding.Constructor a0 a1 a2) (binding.Argument b0) = (λ e. cc, λ e. cc)
binding_decides (binding.Constructor a0 a1 a2) (binding.Extractor b0 b1) = (λ e. cc, λ e. cc)
binding_decides (binding.Constructor a0 a1 a2) (binding.Constructor b0 b1 b2) = three binding.Constructor a0 b0 a1 b1 a2 b2 (eqb a0.0 b0.0) (pointwise number_eq a1 b1) (eqb a2 b2) (term_id_decides a0 b0) (numbers_decide a1 b1) (Decides-eqb a2 b2) (λ e. (cc, (cc, cc)))
binding_decides (binding.Constructor a0 a1 a2) (binding.Iterator b0) = (λ e. cc, λ e. cc)
binding_decides (binding.Constructor a0 a1 a2) (binding.MakeVariant b0 b1 b2) = (λ e. cc, λ e. cc)
binding_decides (binding.Constructor a0 a1 a2) (binding.MakeStruct b0 b1) = (λ e. cc, λ e. cc)
binding_decides (binding.Constructor a0 a1 a2) (binding.MatchVariant b0 b1 b2) = (λ e. cc, λ e. cc)
binding_decides (binding.Constructor a0 a1 a2) (binding.ExtractStruct b0 b1) = (λ e. cc, λ e. cc)
binding_decides (binding.Constructor a0 a1 a2) (binding.MakeSome b0) = (λ e. cc, λ e. cc)
binding_decides (binding.Constructor a0 a1 a2) (binding.MatchSome b0) = (λ e. cc, λ e. cc)
binding_decides (binding.Constructor a0 a1 a2) (binding.MatchTuple b0 b1) = (λ e. cc, λ e. cc)
binding_decides (binding.Iterator a0) (binding.ConstBool b0 b1) = (λ e. cc, λ e. cc)
binding_decides (binding.Iterator a0) (binding.ConstInt b0 b1) = (λ e. cc, λ e. cc)
binding_decides (binding.Iterator a0) (binding.ConstPrim b0) = (λ e. cc, λ e. cc)
binding_decides (binding.Iterator a0) (binding.Argument b0) = (λ e. cc, λ e. cc)
binding_decides (binding.Iterator a0) (binding.Extractor b0 b1) = (λ e. cc, λ e. cc)
binding_decides (binding.Iterator a0) (binding.Constructor b0 b1 b2) = (λ e. cc, λ e. cc)
binding_decides (binding.Iterator a0) (binding.Iterator b0) = Decides-like (eqb a0.0 b0.0) (λ e. ap binding.Iterator e) (λ e. cc) (binding_id_decides a0 b0)
binding_decides (binding.Iterator a0) (binding.MakeVariant b0 b1 b2) = (λ e. cc, λ e. cc)
binding_decides (binding.Iterator a0) (binding.MakeStruct b0 b1) = (λ e. cc, λ e. cc)
binding_decides (binding.Iterator a0) (binding.MatchVariant b0 b1 b2) = (λ e. cc, λ e. cc)
binding_decides (binding.Iterator a0) (binding.ExtractStruct b0 b1) = (λ e. cc, λ e. cc)
binding_decides (binding.Iterator a0) (binding.MakeSome b0) = (λ e. cc, λ e. cc)
binding_decides (binding.Iterator a0) (binding.MatchSome b0) = (λ e. cc, λ e. cc)
binding_decides (binding.Iterator a0) (binding.MatchTuple b0 b1) = (λ e. cc, λ e. cc)
binding_decides (binding.MakeVariant a0 a1 a2) (binding.ConstBool b0 b1) = (λ e. cc, λ e. cc)
binding_decides (binding.MakeVariant a0 a1 a2) (binding.ConstInt b0 b1) = (λ e. cc, λ e. cc)
binding_decides (binding.MakeVariant a0 a1 a2) (binding.ConstPrim b0) = (λ e. cc, λ e. cc)
binding_decides (binding.MakeVariant a0 a1 a2) (binding.Argument b0) = (λ e. cc, λ e. cc)
binding_decides (binding.MakeVariant a0 a1 a2) (binding.Extractor b0 b1) = (λ e. cc, λ e. cc)
binding_decides (binding.MakeVariant a0 a1 a2) (binding.Constructor b0 b1 b2) = (λ e. cc, λ e. cc)
binding_decides (binding.MakeVariant a0 a1 a2) (binding.Iterator b0) = (λ e. cc, λ e. cc)
binding_decides (binding.MakeVariant a0 a1 a2) (binding.MakeVariant b0 b1 b2) = three binding.MakeVariant a0 b0 a1 b1 a2 b2 (eqb a0.0 b0.0) (eqb a1.0 b1.0) (pointwise number_eq a2 b2) (type_id_decides a0 b0) (variant_id_decides a1 b1) (numbers_decide a2 b2) (λ e. (cc, (cc, cc)))
binding_decides (binding.MakeVariant a0 a1 a2) (binding.MakeStruct b0 b1) = (λ e. cc, λ e. cc)
binding_decides (binding.MakeVariant a0 a1 a2) (binding.MatchVariant b0 b1 b2) = (λ e. cc, λ e. cc)
binding_decides (binding.MakeVariant a0 a1 a2) (binding.ExtractStruct b0 b1) = (λ e. cc, λ e. cc)
binding_decides (binding.MakeVariant a0 a1 a2) (binding.MakeSome b0) = (λ e. cc, λ e. cc)
binding_decides (binding.MakeVariant a0 a1 a2) (binding.MatchSome b0) = (λ e. cc, λ e. cc)
binding_decides (binding.MakeVariant a0 a1 a2) (binding.MatchTuple b0 b1) = (λ e. cc, λ e. cc)
binding_decides (binding.MakeStruct a0 a1) (binding.ConstBool b0 b1) = (λ e. cc, λ e. cc)
binding_decides (binding.MakeStruct a0 a1) (binding.ConstInt b0 b1) = (λ e. cc, λ e. cc)
binding_decides (binding.MakeStruct a0 a1) (binding.ConstPrim b0) = (λ e. cc, λ e. cc)
binding_decides (binding.MakeStruct a0 a1) (binding.Argument b0) = (λ e. cc, λ e. cc)
binding_decides (binding.MakeStruct a0 a1) (binding.Extractor b0 b1) = (λ e. cc, λ e. cc)
binding_decides (binding.MakeStruct a0 a1) (binding.Constructor b0 b1 b2) = (λ e. cc, λ e. cc)
binding_decides (binding.MakeStruct a0 a1) (binding.Iterator b0) = (λ e. cc, λ e. cc)
binding_decides (binding.MakeStruct a0 a1) (binding.MakeVariant b0 b1 b2) = (λ e. cc, λ e. cc)
binding_decides (binding.MakeStruct a0 a1) (binding.MakeStruct b0 b1) = pair binding.MakeStruct a0 b0 a1 b1 (eqb a0.0 b0.0) (pointwise number_eq a1 b1) (type_id_decides a0 b0) (numbers_decide a1 b1) (λ e. (cc, cc))
binding_decides (binding.MakeStruct a0 a1) (binding.MatchVariant b0 b1 b2) = (λ e. cc, λ e. cc)
binding_decides (binding.MakeStruct a0 a1) (binding.ExtractStruct b0 b1) = (λ e. cc, λ e. cc)
binding_decides (binding.MakeStruct a0 a1) (binding.MakeSome b0) = (λ e. cc, λ e. cc)
binding_decides (binding.MakeStruct a0 a1) (binding.MatchSome b0) = (λ e. cc, λ e. cc)
binding_decides (binding.MakeStruct a0 a1) (binding.MatchTuple b0 b1) = (λ e. cc, λ e. cc)
binding_decides (binding.MatchVariant a0 a1 a2) (binding.ConstBool b0 b1) = (λ e. cc, λ e. cc)
binding_decides (binding.MatchVariant a0 a1 a2) (binding.ConstInt b0 b1) = (λ e. cc, λ e. cc)
binding_decides (binding.MatchVariant a0 a1 a2) (binding.ConstPrim b0) = (λ e. cc, λ e. cc)
binding_decides (binding.MatchVariant a0 a1 a2) (binding.Argument b0) = (λ e. cc, λ e. cc)
binding_decides (binding.MatchVariant a0 a1 a2) (binding.Extractor b0 b1) = (λ e. cc, λ e. cc)
binding_decides (binding.MatchVariant a0 a1 a2) (binding.Constructor b0 b1 b2) = (λ e. cc, λ e. cc)
binding_decides (binding.MatchVariant a0 a1 a2) (binding.Iterator b0) = (λ e. cc, λ e. cc)
binding_decides (binding.MatchVariant a0 a1 a2) (binding.MakeVariant b0 b1 b2) = (λ e. cc, λ e. cc)
binding_decides (binding.MatchVariant a0 a1 a2) (binding.MakeStruct b0 b1) = (λ e. cc, λ e. cc)
binding_decides (binding.MatchVariant a0 a1 a2) (binding.MatchVariant b0 b1 b2) = three binding.MatchVariant a0 b0 a1 b1 a2 b2 (eqb a0.0 b0.0) (eqb a1.0 b1.0) (eqb a2.0 b2.0) (binding_id_decides a0 b0) (variant_id_decides a1 b1) (tuple_index_decides a2 b2) (λ e. (cc, (cc, cc)))
binding_decides (binding.MatchVariant a0 a1 a2) (binding.ExtractStruct b0 b1) = (λ e. cc, λ e. cc)
binding_decides (binding.MatchVariant a0 a1 a2) (binding.MakeSome b0) = (λ e. cc, λ e. cc)
binding_decides (binding.MatchVariant a0 a1 a2) (binding.MatchSome b0) = (λ e. cc, λ e. cc)
binding_decides (binding.MatchVariant a0 a1 a2) (binding.MatchTuple b0 b1) = (λ e. cc, λ e. cc)
binding_decides (binding.ExtractStruct a0 a1) (binding.ConstBool b0 b1) = (λ e. cc, λ e. cc)
binding_decides (binding.ExtractStruct a0 a1) (binding.ConstInt b0 b1) = (λ e. cc, λ e. cc)
binding_decides (binding.ExtractStruct a0 a1) (binding.ConstPrim b0) = (λ e. cc, λ e. cc)
binding_decides (binding.ExtractStruct a0 a1) (binding.Argument b0) = (λ e. cc, λ e. cc)
binding_decides (binding.ExtractStruct a0 a1) (binding.Extractor b0 b1) = (λ e. cc, λ e. cc)
binding_decides (binding.ExtractStruct a0 a1) (binding.Constructor b0 b1 b2) = (λ e. cc, λ e. cc)
binding_decides (binding.ExtractStruct a0 a1) (binding.Iterator b0) = (λ e. cc, λ e. cc)
binding_decides (binding.ExtractStruct a0 a1) (binding.MakeVariant b0 b1 b2) = (λ e. cc, λ e. cc)
binding_decides (binding.ExtractStruct a0 a1) (binding.MakeStruct b0 b1) = (λ e. cc, λ e. cc)
binding_decides (binding.ExtractStruct a0 a1) (binding.MatchVariant b0 b1 b2) = (λ e. cc, λ e. cc)
binding_decides (binding.ExtractStruct a0 a1) (binding.ExtractStruct b0 b1) = pair binding.ExtractStruct a0 b0 a1 b1 (eqb a0.0 b0.0) (eqb a1.0 b1.0) (binding_id_decides a0 b0) (tuple_index_decides a1 b1) (λ e. (cc, cc))
binding_decides (binding.ExtractStruct a0 a1) (binding.MakeSome b0) = (λ e. cc, λ e. cc)
binding_decides (binding.ExtractStruct a0 a1) (binding.MatchSome b0) = (λ e. cc, λ e. cc)
binding_decides (binding.ExtractStruct a0 a1) (binding.MatchTuple b0 b1) = (λ e. cc, λ e. cc)
binding_decides (binding.MakeSome a0) (binding.ConstBool b0 b1) = (λ e. cc, λ e. cc)
binding_decides (binding.MakeSome a0) (binding.ConstInt b0 b1) = (λ e. cc, λ e. cc)
binding_decides (binding.MakeSome a0) (binding.ConstPrim b0) = (λ e. cc, λ e. cc)
binding_decides (binding.MakeSome a0) (binding.Argument b0) = (λ e. cc, λ e. cc)
binding_decides (binding.MakeSome a0) (binding.Extractor b0 b1) = (λ e. cc, λ e. cc)
binding_decides (binding.MakeSome a0) (binding.Constructor b0 b1 b2) = (λ e. cc, λ e. cc)
binding_decides (binding.MakeSome a0) (binding.Iterator b0) = (λ e. cc, λ e. cc)
binding_decides (binding.MakeSome a0) (binding.MakeVariant b0 b1 b2) = (λ e. cc, λ e. cc)
binding_decides (binding.MakeSome a0) (binding.MakeStruct b0 b1) = (λ e. cc, λ e. cc)
binding_decides (binding.MakeSome a0) (binding.MatchVariant b0 b1 b2) = (λ e. cc, λ e. cc)
binding_decides (binding.MakeSome a0) (binding.ExtractStruct b0 b1) = (λ e. cc, λ e. cc)
binding_decides (binding.MakeSome a0) (binding.MakeSome b0) = Decides-like (eqb a0.0 b0.0) (λ e. ap binding.MakeSome e) (λ e. cc) (binding_id_decides a0 b0)
binding_decides (binding.MakeSome a0) (binding.MatchSome b0) = (λ e. cc, λ e. cc)
binding_decides (binding.MakeSome a0) (binding.MatchTuple b0 b1) = (λ e. cc, λ e. cc)
binding_decides (binding.MatchSome a0) (binding.ConstBool b0 b1) = (λ e. cc, λ e. cc)
binding_decides (binding.MatchSome a0) (binding.ConstInt b0 b1) = (λ e. cc, λ e. cc)
binding_decides (binding.MatchSome a0) (binding.ConstPrim b0) = (λ e. cc, λ e. cc)
binding_decides (binding.MatchSome a0) (binding.Argument b0) = (λ e. cc, λ e. cc)
binding_decides (binding.MatchSome a0) (binding.Extractor b0 b1) = (λ e. cc, λ e. cc)
binding_decides (binding.MatchSome a0) (binding.Constructor b0 b1 b2) = (λ e. cc, λ e. cc)
binding_decides (binding.MatchSome a0) (binding.Iterator b0) = (λ e. cc, λ e. cc)
binding_decides (binding.MatchSome a0) (binding.MakeVariant b0 b1 b2) = (λ e. cc, λ e. cc)
binding_decides (binding.MatchSome a0) (binding.MakeStruct b0 b1) = (λ e. cc, λ e. cc)
binding_decides (binding.MatchSome a0) (binding.MatchVariant b0 b1 b2) = (λ e. cc, λ e. cc)
binding_decides (binding.MatchSome a0) (binding.ExtractStruct b0 b1) = (λ e. cc, λ e. cc)
binding_decides (binding.MatchSome a0) (binding.MakeSome b0) = (λ e. cc, λ e. cc)
binding_decides (binding.MatchSome a0) (binding.MatchSome b0) = Decides-like (eqb a0.0 b0.0) (λ e. ap binding.MatchSome e) (λ e. cc) (binding_id_decides a0 b0)
binding_decides (binding.MatchSome a0) (binding.MatchTuple b0 b1) = (λ e. cc, λ e. cc)
binding_decides (binding.MatchTuple a0 a1) (binding.ConstBool b0 b1) = (λ e. cc, λ e. cc)
binding_decides (binding.MatchTuple a0 a1) (binding.ConstInt b0 b1) = (λ e. cc, λ e. cc)
binding_decides (binding.MatchTuple a0 a1) (binding.ConstPrim b0) = (λ e. cc, λ e. cc)
binding_decides (binding.MatchTuple a0 a1) (binding.Argument b0) = (λ e. cc, λ e. cc)
binding_decides (binding.MatchTuple a0 a1) (binding.Extractor b0 b1) = (λ e. cc, λ e. cc)
binding_decides (binding.MatchTuple a0 a1) (binding.Constructor b0 b1 b2) = (λ e. cc, λ e. cc)
binding_decides (binding.MatchTuple a0 a1) (binding.Iterator b0) = (λ e. cc, λ e. cc)
binding_decides (binding.MatchTuple a0 a1) (binding.MakeVariant b0 b1 b2) = (λ e. cc, λ e. cc)
binding_decides (binding.MatchTuple a0 a1) (binding.MakeStruct b0 b1) = (λ e. cc, λ e. cc)
binding_decides (binding.MatchTuple a0 a1) (binding.MatchVariant b0 b1 b2) = (λ e. cc, λ e. cc)
binding_decides (binding.MatchTuple a0 a1) (binding.ExtractStruct b0 b1) = (λ e. cc, λ e. cc)
binding_decides (binding.MatchTuple a0 a1) (binding.MakeSome b0) = (λ e. cc, λ e. cc)
binding_decides (binding.MatchTuple a0 a1) (binding.MatchSome b0) = (λ e. cc, λ e. cc)
binding_decides (binding.MatchTuple a0 a1) (binding.MatchTuple b0 b1) = pair binding.MatchTuple a0 b0 a1 b1 (eqb a0.0 b0.0) (eqb a1.0 b1.0) (binding_id_decides a0 b0) (tuple_index_decides a1 b1) (λ e. (cc, cc))

-- ---- places

-- the binding at a place
at_place : (bs items : List Binding) (i : ℕ) (x : Binding) → items ≡ bs → i < length items → x ≡ get_or items i x → slice_get bs i ≡ Some x
at_place bs items i x is lt at = ap (λ ys. slice_get ys i) (sym is) ∙ slice_get_read items (length items) i x refl lt at

-- it is the one that is looked for
pub found_at : (bs items : List Binding) (i : ℕ) (x b : Binding) (r : Bool) → items ≡ bs → i < length items → x ≡ get_or items i x → r ≡ (binding_partial_eq.ghosts).eq x b → r ≡ true → slice_get bs i ≡ Some b
found_at bs items i x b r is lt at told holds = at_place bs items i x is lt at ∙ ap Some ((binding_decides x b).0 (sym told ∙ holds))

below : (j i : ℕ) → j < i + 1 → (j < i) ⊎ (j ≡ i)
below zero zero lt = inr refl
below zero (suc i) lt = inl (omega arith)
below (suc j) zero lt = absurd (omega (arith, lt))
below (suc j) (suc i) lt = ⊎_elim (λ l. inl (omega (arith, l))) (λ e. inr (ap suc e)) (below j i (omega (arith, lt)))

-- it is not, so none so far is
pub none_so_far : (bs items : List Binding) (i : ℕ) (x b : Binding) (r : Bool) → items ≡ bs → i < length items → x ≡ get_or items i x → r ≡ (binding_partial_eq.ghosts).eq x b → r ≡ false
    → ((e : ℕ) → e < i → slice_get bs e ≡ Some b → ⊥) → (e : ℕ) → e < i + 1 → slice_get bs e ≡ Some b → ⊥
none_so_far bs items i x b r is lt at told fails before e less there = ⊎_elim (λ l. before e l there) here (below e i less)
  where
    here : e ≡ i → ⊥
    here same =
        let equal : x ≡ b = same_Some x b (sym (at_place bs items i x is lt at) ∙ ap (slice_get bs) (sym same) ∙ there) in
        let bad : true ≡ false = sym ((binding_decides x b).1 equal) ∙ sym told ∙ fails in
        absurd cc

-- none of all is
pub none_of_all : (bs items : List Binding) (i : ℕ) (b : Binding) → items ≡ bs → length items ≤ i → ((e : ℕ) → e < i → slice_get bs e ≡ Some b → ⊥) → Contains bs b → ⊥
none_of_all bs items i b is le before c =
    let long : c.0 < i = let same = ap length is in let lt = c.1 in omega (arith, same, lt, le) in
    before c.0 long (slice_get_read bs (length bs) c.0 b refl c.1 (sym c.2))
