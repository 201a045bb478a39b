-- The derives of the ids are those of their numbers: a law for each. To clone one is to copy it.
use Rattle.std.proofs.Common.{◌≡◌, refl}
use Rattle.std.specs.Prelude.{nat_eq, Some}
use Rattle.std.specs.Ordering.{nat_cmp}
use Rattle.std.specs.Hash as fed
use Rattle.isle_base.specs.declared.ids.TypeId.{TypeId}
use Rattle.isle_base.specs.contracts.ids.TypeIdPartialEq.TheImpl as type_id_partial_eq
use Rattle.isle_base.specs.contracts.ids.TypeIdOrd.TheImpl as type_id_ord
use Rattle.isle_base.specs.contracts.ids.TypeIdPartialOrd.TheImpl as type_id_partial_ord
use Rattle.isle_base.specs.contracts.ids.TypeIdHash.TheImpl as type_id_hash
use Rattle.isle_base.specs.contracts.ids.TypeIdDefault.TheImpl as type_id_default
use Rattle.isle_base.specs.declared.ids.TermId.{TermId}
use Rattle.isle_base.specs.contracts.ids.TermIdPartialEq.TheImpl as term_id_partial_eq
use Rattle.isle_base.specs.contracts.ids.TermIdOrd.TheImpl as term_id_ord
use Rattle.isle_base.specs.contracts.ids.TermIdPartialOrd.TheImpl as term_id_partial_ord
use Rattle.isle_base.specs.contracts.ids.TermIdHash.TheImpl as term_id_hash
use Rattle.isle_base.specs.contracts.ids.TermIdDefault.TheImpl as term_id_default
use Rattle.isle_base.specs.declared.ids.RuleId.{RuleId}
use Rattle.isle_base.specs.contracts.ids.RuleIdPartialEq.TheImpl as rule_id_partial_eq
use Rattle.isle_base.specs.contracts.ids.RuleIdOrd.TheImpl as rule_id_ord
use Rattle.isle_base.specs.contracts.ids.RuleIdPartialOrd.TheImpl as rule_id_partial_ord
use Rattle.isle_base.specs.contracts.ids.RuleIdHash.TheImpl as rule_id_hash
use Rattle.isle_base.specs.contracts.ids.RuleIdDefault.TheImpl as rule_id_default
use Rattle.isle_base.specs.declared.ids.VariantId.{VariantId}
use Rattle.isle_base.specs.contracts.ids.VariantIdPartialEq.TheImpl as variant_id_partial_eq
use Rattle.isle_base.specs.contracts.ids.VariantIdOrd.TheImpl as variant_id_ord
use Rattle.isle_base.specs.contracts.ids.VariantIdPartialOrd.TheImpl as variant_id_partial_ord
use Rattle.isle_base.specs.contracts.ids.VariantIdHash.TheImpl as variant_id_hash
use Rattle.isle_base.specs.contracts.ids.VariantIdDefault.TheImpl as variant_id_default
use Rattle.isle_base.specs.declared.ids.FieldId.{FieldId}
use Rattle.isle_base.specs.contracts.ids.FieldIdPartialEq.TheImpl as field_id_partial_eq
use Rattle.isle_base.specs.contracts.ids.FieldIdOrd.TheImpl as field_id_ord
use Rattle.isle_base.specs.contracts.ids.FieldIdPartialOrd.TheImpl as field_id_partial_ord
use Rattle.isle_base.specs.contracts.ids.FieldIdHash.TheImpl as field_id_hash
use Rattle.isle_base.specs.contracts.ids.FieldIdDefault.TheImpl as field_id_default
use Rattle.isle_base.specs.declared.ids.Sym.{Sym}
use Rattle.isle_base.specs.contracts.ids.SymPartialEq.TheImpl as sym_partial_eq
use Rattle.isle_base.specs.contracts.ids.SymOrd.TheImpl as sym_ord
use Rattle.isle_base.specs.contracts.ids.SymPartialOrd.TheImpl as sym_partial_ord
use Rattle.isle_base.specs.contracts.ids.SymHash.TheImpl as sym_hash
use Rattle.isle_base.specs.contracts.ids.SymDefault.TheImpl as sym_default
use Rattle.isle_base.specs.declared.ids.BindingId.{BindingId}
use Rattle.isle_base.specs.contracts.ids.BindingIdPartialEq.TheImpl as binding_id_partial_eq
use Rattle.isle_base.specs.contracts.ids.BindingIdOrd.TheImpl as binding_id_ord
use Rattle.isle_base.specs.contracts.ids.BindingIdPartialOrd.TheImpl as binding_id_partial_ord
use Rattle.isle_base.specs.contracts.ids.BindingIdHash.TheImpl as binding_id_hash
use Rattle.isle_base.specs.contracts.ids.BindingIdDefault.TheImpl as binding_id_default
use Rattle.isle_base.specs.declared.ids.VarId.{VarId}
use Rattle.isle_base.specs.contracts.ids.VarIdPartialEq.TheImpl as var_id_partial_eq
use Rattle.isle_base.specs.contracts.ids.VarIdOrd.TheImpl as var_id_ord
use Rattle.isle_base.specs.contracts.ids.VarIdPartialOrd.TheImpl as var_id_partial_ord
use Rattle.isle_base.specs.contracts.ids.VarIdHash.TheImpl as var_id_hash
use Rattle.isle_base.specs.contracts.ids.VarIdDefault.TheImpl as var_id_default
use Rattle.isle_base.specs.declared.ids.TupleIndex.{TupleIndex}
use Rattle.isle_base.specs.contracts.ids.TupleIndexPartialEq.TheImpl as tuple_index_partial_eq
use Rattle.isle_base.specs.contracts.ids.TupleIndexOrd.TheImpl as tuple_index_ord
use Rattle.isle_base.specs.contracts.ids.TupleIndexPartialOrd.TheImpl as tuple_index_partial_ord
use Rattle.isle_base.specs.contracts.ids.TupleIndexHash.TheImpl as tuple_index_hash
use Rattle.isle_base.specs.contracts.ids.TupleIndexDefault.TheImpl as tuple_index_default

-- ---- TypeId

pub type_id_equal : (a b : TypeId) → (type_id_partial_eq.ghosts).eq a b ≡ nat_eq a.0 b.0
type_id_equal a b = refl

pub type_id_compared : (a b : TypeId) → (type_id_ord.ghosts).cmp a b ≡ nat_cmp a.0 b.0
type_id_compared a b = refl

pub type_id_compared_in_part : (a b : TypeId) → (type_id_partial_ord.ghosts).partial_cmp a b ≡ Some (nat_cmp a.0 b.0)
type_id_compared_in_part a b = refl

pub type_id_hashed : (a : TypeId) → (type_id_hash.ghosts).hash_input a ≡ fed.usize a.0
type_id_hashed a = refl

pub type_id_default_is : (a : TypeId) → (type_id_default.ghosts).is_default a → a.0 ≡ 0
type_id_default_is a h = h

-- ---- TermId

pub term_id_equal : (a b : TermId) → (term_id_partial_eq.ghosts).eq a b ≡ nat_eq a.0 b.0
term_id_equal a b = refl

pub term_id_compared : (a b : TermId) → (term_id_ord.ghosts).cmp a b ≡ nat_cmp a.0 b.0
term_id_compared a b = refl

pub term_id_compared_in_part : (a b : TermId) → (term_id_partial_ord.ghosts).partial_cmp a b ≡ Some (nat_cmp a.0 b.0)
term_id_compared_in_part a b = refl

pub term_id_hashed : (a : TermId) → (term_id_hash.ghosts).hash_input a ≡ fed.usize a.0
term_id_hashed a = refl

pub term_id_default_is : (a : TermId) → (term_id_default.ghosts).is_default a → a.0 ≡ 0
term_id_default_is a h = h

-- ---- RuleId

pub rule_id_equal : (a b : RuleId) → (rule_id_partial_eq.ghosts).eq a b ≡ nat_eq a.0 b.0
rule_id_equal a b = refl

pub rule_id_compared : (a b : RuleId) → (rule_id_ord.ghosts).cmp a b ≡ nat_cmp a.0 b.0
rule_id_compared a b = refl

pub rule_id_compared_in_part : (a b : RuleId) → (rule_id_partial_ord.ghosts).partial_cmp a b ≡ Some (nat_cmp a.0 b.0)
rule_id_compared_in_part a b = refl

pub rule_id_hashed : (a : RuleId) → (rule_id_hash.ghosts).hash_input a ≡ fed.usize a.0
rule_id_hashed a = refl

pub rule_id_default_is : (a : RuleId) → (rule_id_default.ghosts).is_default a → a.0 ≡ 0
rule_id_default_is a h = h

-- ---- VariantId

pub variant_id_equal : (a b : VariantId) → (variant_id_partial_eq.ghosts).eq a b ≡ nat_eq a.0 b.0
variant_id_equal a b = refl

pub variant_id_compared : (a b : VariantId) → (variant_id_ord.ghosts).cmp a b ≡ nat_cmp a.0 b.0
variant_id_compared a b = refl

pub variant_id_compared_in_part : (a b : VariantId) → (variant_id_partial_ord.ghosts).partial_cmp a b ≡ Some (nat_cmp a.0 b.0)
variant_id_compared_in_part a b = refl

pub variant_id_hashed : (a : VariantId) → (variant_id_hash.ghosts).hash_input a ≡ fed.usize a.0
variant_id_hashed a = refl

pub variant_id_default_is : (a : VariantId) → (variant_id_default.ghosts).is_default a → a.0 ≡ 0
variant_id_default_is a h = h

-- ---- FieldId

pub field_id_equal : (a b : FieldId) → (field_id_partial_eq.ghosts).eq a b ≡ nat_eq a.0 b.0
field_id_equal a b = refl

pub field_id_compared : (a b : FieldId) → (field_id_ord.ghosts).cmp a b ≡ nat_cmp a.0 b.0
field_id_compared a b = refl

pub field_id_compared_in_part : (a b : FieldId) → (field_id_partial_ord.ghosts).partial_cmp a b ≡ Some (nat_cmp a.0 b.0)
field_id_compared_in_part a b = refl

pub field_id_hashed : (a : FieldId) → (field_id_hash.ghosts).hash_input a ≡ fed.usize a.0
field_id_hashed a = refl

pub field_id_default_is : (a : FieldId) → (field_id_default.ghosts).is_default a → a.0 ≡ 0
field_id_default_is a h = h

-- ---- Sym

pub sym_equal : (a b : Sym) → (sym_partial_eq.ghosts).eq a b ≡ nat_eq a.0 b.0
sym_equal a b = refl

pub sym_compared : (a b : Sym) → (sym_ord.ghosts).cmp a b ≡ nat_cmp a.0 b.0
sym_compared a b = refl

pub sym_compared_in_part : (a b : Sym) → (sym_partial_ord.ghosts).partial_cmp a b ≡ Some (nat_cmp a.0 b.0)
sym_compared_in_part a b = refl

pub sym_hashed : (a : Sym) → (sym_hash.ghosts).hash_input a ≡ fed.usize a.0
sym_hashed a = refl

pub sym_default_is : (a : Sym) → (sym_default.ghosts).is_default a → a.0 ≡ 0
sym_default_is a h = h

-- ---- BindingId

pub binding_id_equal : (a b : BindingId) → (binding_id_partial_eq.ghosts).eq a b ≡ nat_eq a.0 b.0
binding_id_equal a b = refl

pub binding_id_compared : (a b : BindingId) → (binding_id_ord.ghosts).cmp a b ≡ nat_cmp a.0 b.0
binding_id_compared a b = refl

pub binding_id_compared_in_part : (a b : BindingId) → (binding_id_partial_ord.ghosts).partial_cmp a b ≡ Some (nat_cmp a.0 b.0)
binding_id_compared_in_part a b = refl

pub binding_id_hashed : (a : BindingId) → (binding_id_hash.ghosts).hash_input a ≡ fed.usize a.0
binding_id_hashed a = refl

pub binding_id_default_is : (a : BindingId) → (binding_id_default.ghosts).is_default a → a.0 ≡ 0
binding_id_default_is a h = h

-- ---- VarId

pub var_id_equal : (a b : VarId) → (var_id_partial_eq.ghosts).eq a b ≡ nat_eq a.0 b.0
var_id_equal a b = refl

pub var_id_compared : (a b : VarId) → (var_id_ord.ghosts).cmp a b ≡ nat_cmp a.0 b.0
var_id_compared a b = refl

pub var_id_compared_in_part : (a b : VarId) → (var_id_partial_ord.ghosts).partial_cmp a b ≡ Some (nat_cmp a.0 b.0)
var_id_compared_in_part a b = refl

pub var_id_hashed : (a : VarId) → (var_id_hash.ghosts).hash_input a ≡ fed.usize a.0
var_id_hashed a = refl

pub var_id_default_is : (a : VarId) → (var_id_default.ghosts).is_default a → a.0 ≡ 0
var_id_default_is a h = h

-- ---- TupleIndex

pub tuple_index_equal : (a b : TupleIndex) → (tuple_index_partial_eq.ghosts).eq a b ≡ nat_eq a.0 b.0
tuple_index_equal a b = refl

pub tuple_index_compared : (a b : TupleIndex) → (tuple_index_ord.ghosts).cmp a b ≡ nat_cmp a.0 b.0
tuple_index_compared a b = refl

pub tuple_index_compared_in_part : (a b : TupleIndex) → (tuple_index_partial_ord.ghosts).partial_cmp a b ≡ Some (nat_cmp a.0 b.0)
tuple_index_compared_in_part a b = refl

pub tuple_index_hashed : (a : TupleIndex) → (tuple_index_hash.ghosts).hash_input a ≡ fed.u8 a.0
tuple_index_hashed a = refl

pub tuple_index_default_is : (a : TupleIndex) → (tuple_index_default.ghosts).is_default a → a.0 ≡ 0
tuple_index_default_is a h = h
