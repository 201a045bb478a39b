-- Where names are lawful, an environment has names of Rust.
use Rattle.std.proofs.Common.{◌≡◌, ℕ, zero, suc, List, [], ◌∷◌, Bool, true, false, Option, Some, None, refl, sym, ap, ◌∙◌, subst}
use Rattle.std.specs.Prelude.{◌==◌, ◌||◌, find, option_and_then, option_map, slice_get, slice_index_or}
use Rattle.std.specs.List.{AllByRecursion, list_any}
use Rattle.std.specs.Str.{bytes_eq}
use Rattle.std.proofs.lemmas.Option.{same_Some}
use Rattle.std.proofs.lemmas.Bool.Decides.{Decides-eqb}
use Rattle.std.proofs.lemmas.Slice.Eq.{bytes_eq-Decides}
use Rattle.isle_core.specs.declared.Sym.{Sym}
use Rattle.isle_core.specs.declared.TypeId.{TypeId}
use Rattle.isle_core.specs.declared.VariantId.{VariantId}
use Rattle.isle_core.specs.declared.types.TypeDef.{TypeDef}
use Rattle.isle_core.specs.declared.types.TypeDef.TheVariants as def
use Rattle.isle_core.specs.declared.types.Variant.{Variant}
use Rattle.isle_core.specs.Constants.{const_type}
use Rattle.isle_core.specs.Form.{Form, form, form_of_variant, variant_form, struct_form}
use Rattle.isle_core.specs.Making.{Making, MakesVariant, MakesStruct, MakesNothing}
use Rattle.isle_core.specs.NamesApart.{AreStructsNoConstants}
use Rattle.isle_core.specs.Rule.{Environment}
use Rattle.isle_core.specs.Terms.{sym_text}
use Rattle.isle_spelling.specs.Names.{IsName}
use Rattle.isle_simulation.specs.RustNames.{IsRustForm, AreTextsApart, HasRustNames}
use Rattle.isle_lawful_names.specs.LawfulNames.{IsVariantNamed, IsLawfulType, emitted_name, emitted_names, IsConstantName, IsLawfulConstant, IsNoType, AreLawful}
use Rattle.isle_core.specs.TypedParts.{AreFieldsTyped, ArePartsTyped, HasTypedNames}
use Rattle.isle_lawful_names.proofs.ListLaws.{all_at, all_found}
use Rattle.isle_lawful_names.proofs.FieldNames.{fields_named}
use Rattle.isle_lawful_names.proofs.SymbolsApart.{one_place}

or_true : (a : Bool) {b : Bool} → b ≡ true → (a || b) ≡ true
or_true true h = refl
or_true false h = h

module _ (has_rules : Bool) (env : Environment) (lawful : AreLawful has_rules env.types) (typed : HasTypedNames env) where
  -- ---- forms

  variant_is : (name : Sym) (variants : List Variant) (place : ℕ) (f : Form) (o : Option Variant) → IsName (sym_text env name) → AllByRecursion (IsVariantNamed env.types) variants
      → AllByRecursion (λ (v : Variant). AreFieldsTyped env.types v.fields) variants → slice_get variants place ≡ o → option_map (form_of_variant name) o ≡ Some f → IsRustForm env f
  variant_is name variants place f None h named typing at is = absurd cc
  variant_is name variants place f (Some v) h named typing at is =
      let k = all_at (IsVariantNamed env.types) variants place v named at in
      let few = (all_at (λ (w : Variant). AreFieldsTyped env.types w.fields) variants place v typing at).few in
      subst (IsRustForm env) (same_Some (form_of_variant name v) f is) (record { ty = h; variant = k.0; fields = fields_named env v.fields k.1 few })

  of_variant : (d : TypeDef) (v : VariantId) (f : Form) → IsLawfulType has_rules env.types d → ArePartsTyped env.types d → variant_form v d ≡ Some f → IsRustForm env f
  of_variant (def.Enum name is_extern is_nodebug variants pos) v f h parts is = variant_is name variants v.0 f (slice_get variants v.0) h.name.name h.parts parts refl is
  of_variant (def.Struct name is_extern is_nodebug fields pos) v f h parts is = absurd cc
  of_variant (def.Builtin ty) v f h parts is = absurd cc
  of_variant (def.Primitive name rust pos) v f h parts is = absurd cc

  of_struct : (d : TypeDef) (f : Form) → IsLawfulType has_rules env.types d → ArePartsTyped env.types d → struct_form d ≡ Some f → IsRustForm env f
  of_struct (def.Struct name is_extern is_nodebug fields pos) f h parts is =
      subst (IsRustForm env) (same_Some _ f is) (record { ty = h.name.name; variant = tt; fields = fields_named env fields h.parts parts.few })
  of_struct (def.Enum name is_extern is_nodebug variants pos) f h parts is = absurd cc
  of_struct (def.Builtin ty) f h parts is = absurd cc
  of_struct (def.Primitive name rust pos) f h parts is = absurd cc

  -- what is made of the type of this number
  at_type : (made : TypeDef → Option Form) (place : ℕ) (f : Form) (o : Option TypeDef) → ((d : TypeDef) → IsLawfulType has_rules env.types d → ArePartsTyped env.types d → made d ≡ Some f → IsRustForm env f)
      → slice_get env.types.types place ≡ o → option_and_then made o ≡ Some f → IsRustForm env f
  at_type made place f None each at is = absurd cc
  at_type made place f (Some d) each at is = each d (all_at (IsLawfulType has_rules env.types) env.types.types place d lawful.types at) (all_at (ArePartsTyped env.types) env.types.types place d typed.types.types at) is

  form_is : (mk : Making) (f : Form) → form env mk ≡ Some f → IsRustForm env f
  form_is (MakesVariant ty v) f is = at_type (variant_form v) ty.0 f (slice_get env.types.types ty.0) (λ d h parts e. of_variant d v f h parts e) refl is
  form_is (MakesStruct ty) f is = at_type struct_form ty.0 f (slice_get env.types.types ty.0) (λ d h parts e. of_struct d f h parts e) refl is
  form_is MakesNothing f is = absurd cc

  -- ---- constants

  -- what is known of a declared constant's name
  abbrev IsDeclared : List ℕ → Type 0
  IsDeclared text = IsConstantName text × (list_any (bytes_eq text) (emitted_names env.types env.types.types) ≡ false)

  found_is : (name : Sym) (ty : TypeId) (o : Option (Sym × TypeId)) → find (λ (c : Sym × TypeId). c.0.0 == name.0) env.types.consts ≡ o → option_map (λ (c : Sym × TypeId). c.1) o ≡ Some ty → IsDeclared (sym_text env name)
  found_is name ty None at is = absurd cc
  found_is name ty (Some c) at is =
      let test = λ (d : Sym × TypeId). d.0.0 == name.0 in
      let named = all_found (IsLawfulConstant env.types) test env.types.consts c lawful.constants at in
      let apart = all_found (IsNoType env.types) test env.types.consts c lawful.apart.constants at in
      subst (λ i. IsDeclared (slice_index_or env.types.syms i [])) ((Decides-eqb c.0.0 name.0).0 named.1) (named.0, apart.0)

  constant_is : (name : Sym) (ty : TypeId) → const_type env name ≡ Some ty → IsDeclared (sym_text env name)
  constant_is name ty is = found_is name ty (find (λ (c : Sym × TypeId). c.0.0 == name.0) env.types.consts) refl is

  texts_apart : AreTextsApart env
  texts_apart a b ty of at_a at_b same =
      let place = one_place env.types.syms a.0 b.0 typed.types.symbols same (constant_is a ty at_a).0.name.identifier.begins in
      let again = ap (λ i. option_map (λ (c : Sym × TypeId). c.1) (find (λ (c : Sym × TypeId). c.0.0 == i) env.types.consts)) place in
      same_Some ty of (sym at_a ∙ again ∙ at_b)

  -- ---- structs are no constants

  emitted_there : (ds : List TypeDef) (place : ℕ) (d : TypeDef) → slice_get ds place ≡ Some d → list_any (bytes_eq (emitted_name env.types d)) (emitted_names env.types ds) ≡ true
  emitted_there [] zero d at = absurd cc
  emitted_there [] (suc place) d at = absurd cc
  emitted_there (x ∷ ds) zero d at =
      ap (λ b. b || list_any (bytes_eq (emitted_name env.types d)) (emitted_names env.types ds)) ((bytes_eq-Decides _ _).1 (ap (emitted_name env.types) (sym (same_Some x d at))))
  emitted_there (x ∷ ds) (suc place) d at = or_true (bytes_eq (emitted_name env.types d) (emitted_name env.types x)) (emitted_there ds place d at)

  struct_named : (d : TypeDef) (f : Form) → struct_form d ≡ Some f → emitted_name env.types d ≡ sym_text env f.ty
  struct_named (def.Struct name is_extern is_nodebug fields pos) f is = ap (λ (g : Form). sym_text env g.ty) (same_Some _ f is)
  struct_named (def.Enum name is_extern is_nodebug variants pos) f is = absurd cc
  struct_named (def.Builtin ty) f is = absurd cc
  struct_named (def.Primitive name rust pos) f is = absurd cc

  struct_there : (place : ℕ) (f : Form) (o : Option TypeDef) → slice_get env.types.types place ≡ o → option_and_then struct_form o ≡ Some f → list_any (bytes_eq (sym_text env f.ty)) (emitted_names env.types env.types.types) ≡ true
  struct_there place f None at is = absurd cc
  struct_there place f (Some d) at is = subst (λ t. list_any (bytes_eq t) (emitted_names env.types env.types.types) ≡ true) (struct_named d f is) (emitted_there env.types.types place d at)

  structs_apart : AreStructsNoConstants env
  structs_apart name ty of f at is same =
      let none = (constant_is name ty at).1 in
      let there = subst (λ t. list_any (bytes_eq t) (emitted_names env.types env.types.types) ≡ true) (sym same) (struct_there of.0 f (slice_get env.types.types of.0) refl is) in
      absurd cc

-- the names of forms and constants are names of Rust, and apart
pub has_rust_names : (has_rules : Bool) (env : Environment) → AreLawful has_rules env.types → HasTypedNames env → HasRustNames env
has_rust_names has_rules env lawful typed = record {
  forms = form_is has_rules env lawful typed;
  constants = λ name ty at. (constant_is has_rules env lawful typed name ty at).0.name;
  apart = record { variants = typed.variants; fields = typed.fields; constants = typed.constants; structs = structs_apart has_rules env lawful typed };
  texts = texts_apart has_rules env lawful typed;
}
