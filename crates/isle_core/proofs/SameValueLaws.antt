-- Two values are equal exactly if `same_value` says so.
use Rattle.std.proofs.Common.{◌≡◌, ℕ, Bool, true, false, cond, eqb, ◌&&◌, refl, sym, ap, ◌∙◌}
use Rattle.std.specs.Bool.{Decides}
use Rattle.std.specs.Ordering.{int_eq}
use Rattle.std.specs.Str.{bytes_eq}
use Rattle.std.proofs.lemmas.Bool.Decides.{Decides-eqb, Decides-int_eq, Decides-and, Decides-like}
use Rattle.std.proofs.lemmas.Slice.Eq.{bytes_eq-Decides}
use Rattle.isle_core.specs.declared.types.IntType.{IntType}
use Rattle.isle_core.specs.declared.types.IntType.TheVariants.{U8, U16, U32, U64, U128, USize, I8, I16, I32, I64, I128, ISize}
use Rattle.isle_core.specs.Value.{Value, Truth, Int, Opaque, Variant, Struct, FieldValues, NoField, Field}
use Rattle.isle_core.specs.SameValue.{int_place, same_truth, same_value, same_fields}

truth_decides : (a b : Bool) → Decides (same_truth a b) (a ≡ b)
truth_decides true true = (λ e. refl, λ e. refl)
truth_decides false false = (λ e. refl, λ e. refl)
truth_decides true false = (λ e. cc, λ e. cc)
truth_decides false true = (λ e. cc, λ e. cc)

-- the type at a place
abbrev low_type : ℕ → IntType
low_type n = cond (eqb n 0) U8 (cond (eqb n 1) U16 (cond (eqb n 2) U32 (cond (eqb n 3) U64 (cond (eqb n 4) U128 USize))))

abbrev high_type : ℕ → IntType
high_type n = cond (eqb n 6) I8 (cond (eqb n 7) I16 (cond (eqb n 8) I32 (cond (eqb n 9) I64 (cond (eqb n 10) I128 (cond (eqb n 11) ISize (low_type n))))))

back : (t : IntType) → high_type (int_place t) ≡ t
back U8 = refl
back U16 = refl
back U32 = refl
back U64 = refl
back U128 = refl
back USize = refl
back I8 = refl
back I16 = refl
back I32 = refl
back I64 = refl
back I128 = refl
back ISize = refl

place_decides : (s t : IntType) → Decides (eqb (int_place s) (int_place t)) (s ≡ t)
place_decides s t = Decides-like (eqb (int_place s) (int_place t)) (λ e. sym (back s) ∙ ap high_type e ∙ back t) (λ e. ap int_place e) (Decides-eqb (int_place s) (int_place t))

-- what two parts of a kind say of the whole
pub pair : {A B C : Type 0} (make : A → B → C) (a s : A) (b t : B) (x y : Bool) → Decides x (a ≡ s) → Decides y (b ≡ t) → (make a b ≡ make s t → (a ≡ s) × (b ≡ t)) → Decides (x && y) (make a b ≡ make s t)
pair make a s b t x y h k apart = Decides-like (x && y) (λ p. ap (λ z. make z b) p.0 ∙ ap (make s) p.1) apart (Decides-and x y h k)

triple : {A B C D : Type 0} (make : A → B → C → D) (a s : A) (b t : B) (c u : C) (x y z : Bool) → Decides x (a ≡ s) → Decides y (b ≡ t) → Decides z (c ≡ u) → (make a b c ≡ make s t u → (a ≡ s) × (b ≡ t) × (c ≡ u))
    → Decides (x && y && z) (make a b c ≡ make s t u)
triple make a s b t c u x y z h k l apart =
    Decides-like (x && y && z) (λ p. ap (λ w. make w b c) p.0.0 ∙ ap (λ w. make s w c) p.0.1 ∙ ap (make s t) p.1) (λ e. let q = apart e in ((q.0, q.1), q.2)) (Decides-and (x && y) z (Decides-and x y h k) l)

mutual
  unfolding same_value

  -- `same_value` is true exactly if the values are equal
  pub same_value_decides : (v w : Value) → Decides (same_value v w) (v ≡ w)
  same_value_decides (Truth a) (Truth b) = Decides-like (same_truth a b) (λ e. ap Truth e) (λ e. cc) (truth_decides a b)
  same_value_decides (Int s a) (Int t b) = pair Int s t a b (eqb (int_place s) (int_place t)) (int_eq a b) (place_decides s t) (Decides-int_eq a b) (λ e. (cc, cc))
  same_value_decides (Opaque s a) (Opaque t b) = pair Opaque s t a b (bytes_eq s t) (int_eq a b) (bytes_eq-Decides s t) (Decides-int_eq a b) (λ e. (cc, cc))
  same_value_decides (Variant s a fs) (Variant t b gs) = triple Variant s t a b fs gs (bytes_eq s t) (bytes_eq a b) (same_fields fs gs) (bytes_eq-Decides s t) (bytes_eq-Decides a b) (same_fields_decides fs gs) (λ e. (cc, cc, cc))
  same_value_decides (Struct s fs) (Struct t gs) = pair Struct s t fs gs (bytes_eq s t) (same_fields fs gs) (bytes_eq-Decides s t) (same_fields_decides fs gs) (λ e. (cc, cc))
  same_value_decides v w = (λ e. cc, λ e. cc)

  -- and so of fields
  pub same_fields_decides : (fs gs : FieldValues) → Decides (same_fields fs gs) (fs ≡ gs)
  same_fields_decides NoField NoField = (λ e. refl, λ e. refl)
  same_fields_decides (Field a v fs) (Field b w gs) = triple Field a b v w fs gs (bytes_eq a b) (same_value v w) (same_fields fs gs) (bytes_eq-Decides a b) (same_value_decides v w) (same_fields_decides fs gs) (λ e. (cc, cc, cc))
  same_fields_decides fs gs = (λ e. cc, λ e. cc)

-- each value equals itself
pub same_value-self : (v : Value) → same_value v v ≡ true
same_value-self v = (same_value_decides v v).1 refl
