-- Constraints are told apart by their order.
use Rattle.std.proofs.Common.{◌≡◌, ℤ, Bool, true, false, refl, sym, ap, ◌∙◌, Ordering}
use Rattle.std.specs.declared.cmp.Ordering.TheVariants.{Equal}
use Rattle.std.specs.Ordering.{is_eq, ordering_then, nat_cmp, int_cmp, bool_cmp}
use Rattle.std.proofs.lemmas.Cmp.{tied_itself, nat_cmp_total, int_cmp_total}
use Rattle.std.proofs.lemmas.Map.Lookups.{exact_unsigned, exact_signed}
use Rattle.isle_core.specs.declared.Sym.{Sym}
use Rattle.isle_core.specs.declared.TypeId.{TypeId}
use Rattle.isle_core.specs.declared.VariantId.{VariantId}
use Rattle.isle_core.specs.declared.rule_sets.Constraint.{Constraint}
use Rattle.isle_core.specs.declared.rule_sets.Constraint.TheVariants as constraint
use Rattle.isle_blocks.specs.Ways.{constraint_cmp}
use Rattle.isle_blocks.proofs.FieldLaws.{is_equal, then_same}

bool_same : (a b : Bool) → bool_cmp a b ≡ Equal → a ≡ b
bool_same true true e = refl
bool_same false false e = refl
bool_same true false e = cc
bool_same false true e = cc

bool_itself : (a : Bool) → bool_cmp a a ≡ Equal
bool_itself true = refl
bool_itself false = refl

type_same : (a b : TypeId) → nat_cmp a.0 b.0 ≡ Equal → a ≡ b
type_same a b e = ap (λ n. record { 0 = n }) (exact_unsigned a.0 b.0 e)

variant_same : (s t : TypeId) (v w : VariantId) → ordering_then (nat_cmp s.0 t.0) (nat_cmp v.0 w.0) ≡ Equal → constraint.Variant s v ≡ constraint.Variant t w
variant_same s t v w e =
    let h = then_same (nat_cmp s.0 t.0) (nat_cmp v.0 w.0) e in
    let variant : v ≡ w = ap (λ n. record { 0 = n }) (exact_unsigned v.0 w.0 h.1) in
    ap (λ x. constraint.Variant x v) (type_same s t h.0) ∙ ap (constraint.Variant t) variant

int_same : (a b : ℤ) (s t : TypeId) → ordering_then (int_cmp a b) (nat_cmp s.0 t.0) ≡ Equal → constraint.ConstInt a s ≡ constraint.ConstInt b t
int_same a b s t e =
    let h = then_same (int_cmp a b) (nat_cmp s.0 t.0) e in
    ap (λ x. constraint.ConstInt x s) (exact_signed a b h.0) ∙ ap (constraint.ConstInt b) (type_same s t h.1)

name_same : (s t : Sym) → nat_cmp s.0 t.0 ≡ Equal → s ≡ t
name_same s t e = ap (λ n. record { 0 = n }) (exact_unsigned s.0 t.0 e)

equal_same : (c d : Constraint) → constraint_cmp c d ≡ Equal → c ≡ d
equal_same (constraint.Variant s v) (constraint.Variant t w) e = variant_same s t v w e
equal_same (constraint.Struct s) (constraint.Struct t) e = ap constraint.Struct (type_same s t e)
equal_same (constraint.ConstBool a) (constraint.ConstBool b) e = ap constraint.ConstBool (bool_same a b e)
equal_same (constraint.ConstInt a s) (constraint.ConstInt b t) e = int_same a b s t e
equal_same (constraint.ConstPrim s) (constraint.ConstPrim t) e = ap constraint.ConstPrim (name_same s t e)
equal_same constraint.Some constraint.Some e = refl
equal_same c d e = cc

-- constraints that compare as equal are one
pub constraint_same : (c d : Constraint) → is_eq (constraint_cmp c d) ≡ true → c ≡ d
constraint_same c d e = equal_same c d (is_equal (constraint_cmp c d) e)

then_itself : (o p : Ordering) → o ≡ Equal → p ≡ Equal → ordering_then o p ≡ Equal
then_itself o p e k = ap (λ x. ordering_then x p) e ∙ k

itself : (c : Constraint) → constraint_cmp c c ≡ Equal
itself (constraint.Variant s v) = then_itself (nat_cmp s.0 s.0) (nat_cmp v.0 v.0) (tied_itself nat_cmp_total s.0) (tied_itself nat_cmp_total v.0)
itself (constraint.Struct s) = tied_itself nat_cmp_total s.0
itself (constraint.ConstBool a) = bool_itself a
itself (constraint.ConstInt a s) = then_itself (int_cmp a a) (nat_cmp s.0 s.0) (tied_itself int_cmp_total a) (tied_itself nat_cmp_total s.0)
itself (constraint.ConstPrim s) = tied_itself nat_cmp_total s.0
itself constraint.Some = refl

-- and others don't
pub constraint_apart : (c d : Constraint) → is_eq (constraint_cmp c d) ≡ false → c ≡ d → ⊥
constraint_apart c d e same = apart (sym e ∙ ap (λ x. is_eq (constraint_cmp c x)) (sym same) ∙ ap is_eq (itself c))
  where
    apart : false ≡ true → ⊥
    apart k = cc

-- one is equal to itself
pub constraint_itself : (c d : Constraint) → c ≡ d → is_eq (constraint_cmp c d) ≡ true
constraint_itself c d e = ap (λ x. is_eq (constraint_cmp c x)) (sym e) ∙ ap is_eq (itself c)
