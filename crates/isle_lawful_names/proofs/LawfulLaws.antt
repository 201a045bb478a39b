-- What lawful names come to: lawful names of files, of types and constants, of external functions and of terms with rules; and back.
use Rattle.std.proofs.Common.{◌≡◌, ℕ, zero, suc, ◌+◌, List, [], ◌∷◌, ◌++◌, Bool, true, false, Option, Some, None, refl, sym, ap, ◌∙◌, subst, append_assoc, arith}
use Rattle.std.specs.Prelude.{◌&&◌, flat_map, slice_get, if◌then◌else◌, Contains}
use Rattle.std.specs.List.{AllByRecursion, IsDistinct, cons_option, list_all, list_any}
use Rattle.std.specs.Str.{bytes_eq}
use Rattle.std.specs.Cmp.Lexicographic.{nat_list_eq_equiv}
use Rattle.std.proofs.lemmas.List.{append-nil}
use Rattle.std.proofs.lemmas.Map.Keys.{IsDistinct-push, IsDistinct-head, IsDistinct-tail}
use Rattle.std.proofs.lemmas.Option.{same_Some}
use Rattle.isle_core.specs.declared.Sym.{Sym}
use Rattle.isle_core.specs.declared.TypeId.{TypeId}
use Rattle.isle_core.specs.declared.types.Field.{Field}
use Rattle.isle_core.specs.declared.types.Fields.{Fields}
use Rattle.isle_core.specs.declared.types.Fields.TheVariants as fields
use Rattle.isle_core.specs.declared.types.Term.{Term}
use Rattle.isle_core.specs.declared.types.TypeDef.{TypeDef}
use Rattle.isle_core.specs.declared.types.TypeDef.TheVariants as def
use Rattle.isle_core.specs.declared.types.TypeEnv.{TypeEnv}
use Rattle.isle_core.specs.declared.types.Variant.{Variant}
use Rattle.isle_core.specs.Rule.{Environment}
use Rattle.isle_core.specs.Terms.{symbol_text, sym_text, has_rules}
use Rattle.isle_lawful_names.specs.LawfulNames.{IsFieldNamed, AreFieldsNamed, IsVariantNamed, ArePartsNamed, emitted_name, IsLawfulType, emitted_names, IsLawfulConstant, IsNoType, AreLawful}
use Rattle.isle_simulation.specs.TraitFns.{constructor_fn_of, extractor_fn_of, trait_fns_in, HasFnNames}
use Rattle.isle_spelling.specs.Identifier.{IsIdentifier}
use Rattle.isle_tree.specs.declared.tree.TraitFn.{TraitFn}
use Rattle.isle_tree.specs.WellFormed.{fn_names}
use Rattle.isle_lawful_names.specs.Claims.{Claim, OfTerm, is_ruled, IsLawfulClaim, file_claims, field_claims, variant_claims, part_claims, type_claims, functions_of, function_claims, own_claims, term_claims, constant_claims}
use Rattle.isle_lawful_names.specs.NameFault.{AreLawfulNames}
use Rattle.isle_lawful_names.specs.Words.{is_file_name, is_term_name}
use Rattle.isle_lawful_names.proofs.FoundLaws.{all_both, all_front, all_behind}
use Rattle.isle_lawful_names.proofs.NameSteps.{new_from_test, test_from_new}

-- what lawful names come to
pub record AreLawfulParts (names : List (List ℕ)) (env : Environment) : Type 0 where
  pub printed : list_all is_file_name names ≡ true
  pub declared : AreLawful (is_ruled env.rules) env.types
  pub fns : HasFnNames env
  pub terms : (id : ℕ) (t : Term) → slice_get env.terms id ≡ Some t → has_rules env (record { 0 = id }) ≡ true → is_term_name (sym_text env t.name) ≡ true

-- ---- tests, and names apart

both_true : (a b : Bool) → a ≡ true → b ≡ true → (a && b) ≡ true
both_true a b h k = rw (h, k) refl

parts_true : (a b : Bool) → (a && b) ≡ true → (a ≡ true) × (b ≡ true)
parts_true true b h = (refl, h)
parts_true false b h = absurd cc

-- a name after others that it is none of
push_new : (earlier : List (List ℕ)) (name : List ℕ) → IsDistinct bytes_eq earlier → (Contains earlier name → ⊥) → IsDistinct bytes_eq (earlier ++ name ∷ [])
push_new earlier name d h = IsDistinct-push nat_list_eq_equiv earlier name d (test_from_new earlier name h)

at_middle : {A : Type 0} (P : A → Type 0) (xs ys : List A) (y : A) → AllByRecursion P (xs ++ y ∷ ys) → P y
at_middle P [] ys y all = all.0
at_middle P (x ∷ xs) ys y all = at_middle P xs ys y all.1

middle_new : (xs ys : List (List ℕ)) (y : List ℕ) → IsDistinct bytes_eq (xs ++ y ∷ ys) → list_any (bytes_eq y) xs ≡ false
middle_new [] ys y d = refl
middle_new (x ∷ xs) ys y d =
    let differ : bytes_eq x y ≡ false = at_middle (λ z. bytes_eq x z ≡ false) xs ys y (IsDistinct-head bytes_eq x (xs ++ y ∷ ys) d) in
    let first : bytes_eq y x ≡ false = nat_list_eq_equiv.symm y x ∙ differ in
    let rest : list_any (bytes_eq y) xs ≡ false = middle_new xs ys y (IsDistinct-tail bytes_eq x (xs ++ y ∷ ys) d) in
    rw (first, rest) refl

-- no name of a list stands after it again
none_again : (xs ys : List (List ℕ)) (y : List ℕ) → IsDistinct bytes_eq (xs ++ y ∷ ys) → Contains xs y → ⊥
none_again xs ys y d = new_from_test xs y (middle_new xs ys y d)

-- a name more is one of those that come first
moved : (earlier rest : List (List ℕ)) (name : List ℕ) → (earlier ++ name ∷ []) ++ rest ≡ earlier ++ name ∷ rest
moved earlier rest name = append_assoc earlier (name ∷ []) rest

module _ (env : Environment) where
  abbrev Lawful : List Claim → Type 0
  Lawful cs = AllByRecursion (IsLawfulClaim env) cs

  -- ---- files

  files_pass : (names : List (List ℕ)) → Lawful (file_claims names) → list_all is_file_name names ≡ true
  files_pass [] h = refl
  files_pass (n ∷ ns) h = both_true (is_file_name n) (list_all is_file_name ns) h.0 (files_pass ns h.1)

  files_claimed : (names : List (List ℕ)) → list_all is_file_name names ≡ true → Lawful (file_claims names)
  files_claimed [] h = tt
  files_claimed (n ∷ ns) h = let p = parts_true (is_file_name n) (list_all is_file_name ns) h in (p.0, files_claimed ns p.1)

  -- ---- parts of types

  named_from : (types : TypeEnv) (fs : List Field) → Lawful (field_claims types (fields.Struct fs)) → AllByRecursion (IsFieldNamed types) fs
  named_from types [] h = tt
  named_from types (f ∷ fs) h = (h.0, named_from types fs h.1)

  named_to : (types : TypeEnv) (fs : List Field) → AllByRecursion (IsFieldNamed types) fs → Lawful (field_claims types (fields.Struct fs))
  named_to types [] h = tt
  named_to types (f ∷ fs) h = (h.0, named_to types fs h.1)

  fields_from : (types : TypeEnv) (fs : Fields) → Lawful (field_claims types fs) → AreFieldsNamed types fs
  fields_from types fields.Unit h = tt
  fields_from types (fields.Struct named) h = named_from types named h
  fields_from types (fields.Tuple tys) h = tt

  fields_to : (types : TypeEnv) (fs : Fields) → AreFieldsNamed types fs → Lawful (field_claims types fs)
  fields_to types fields.Unit h = tt
  fields_to types (fields.Struct named) h = named_to types named h
  fields_to types (fields.Tuple tys) h = tt

  variants_from : (types : TypeEnv) (vs : List Variant) → Lawful (flat_map (variant_claims types) vs) → AllByRecursion (IsVariantNamed types) vs
  variants_from types [] h = tt
  variants_from types (v ∷ vs) h =
      let rest = flat_map (variant_claims types) vs in
      ((h.0, fields_from types v.fields (all_front (IsLawfulClaim env) (field_claims types v.fields) rest h.1)), variants_from types vs (all_behind (IsLawfulClaim env) (field_claims types v.fields) rest h.1))

  variants_to : (types : TypeEnv) (vs : List Variant) → AllByRecursion (IsVariantNamed types) vs → Lawful (flat_map (variant_claims types) vs)
  variants_to types [] h = tt
  variants_to types (v ∷ vs) h = (h.0.0, all_both (IsLawfulClaim env) (field_claims types v.fields) (flat_map (variant_claims types) vs) (fields_to types v.fields h.0.1) (variants_to types vs h.1))

  parts_from : (types : TypeEnv) (d : TypeDef) → Lawful (part_claims types d) → ArePartsNamed types d
  parts_from types (def.Builtin ty) h = tt
  parts_from types (def.Primitive name rust pos) h = tt
  parts_from types (def.Enum name is_extern is_nodebug variants pos) h = variants_from types variants h
  parts_from types (def.Struct name is_extern is_nodebug fs pos) h = fields_from types fs h

  parts_to : (types : TypeEnv) (d : TypeDef) → ArePartsNamed types d → Lawful (part_claims types d)
  parts_to types (def.Builtin ty) h = tt
  parts_to types (def.Primitive name rust pos) h = tt
  parts_to types (def.Enum name is_extern is_nodebug variants pos) h = variants_to types variants h
  parts_to types (def.Struct name is_extern is_nodebug fs pos) h = fields_to types fs h

  -- ---- types

  types_from : (types : TypeEnv) (earlier : List (List ℕ)) (ds : List TypeDef) → Lawful (type_claims types earlier ds) → AllByRecursion (IsLawfulType (is_ruled env.rules) types) ds
  types_from types earlier [] h = tt
  types_from types earlier (d ∷ ds) h =
      let rest = type_claims types (earlier ++ emitted_name types d ∷ []) ds in (
        record { name = h.0.0; parts = parts_from types d (all_front (IsLawfulClaim env) (part_claims types d) rest h.1) },
        types_from types (earlier ++ emitted_name types d ∷ []) ds (all_behind (IsLawfulClaim env) (part_claims types d) rest h.1),
      )

  types_apart : (types : TypeEnv) (earlier : List (List ℕ)) (ds : List TypeDef) → Lawful (type_claims types earlier ds) → IsDistinct bytes_eq earlier → IsDistinct bytes_eq (earlier ++ emitted_names types ds)
  types_apart types earlier [] h d = subst (IsDistinct bytes_eq) (sym (append-nil earlier)) d
  types_apart types earlier (t ∷ ds) h d =
      let name = emitted_name types t in
      let rest = type_claims types (earlier ++ name ∷ []) ds in
      subst (IsDistinct bytes_eq) (moved earlier (emitted_names types ds) name)
      (types_apart types (earlier ++ name ∷ []) ds (all_behind (IsLawfulClaim env) (part_claims types t) rest h.1) (push_new earlier name d h.0.1))

  types_to : (types : TypeEnv) (earlier : List (List ℕ)) (ds : List TypeDef) → AllByRecursion (IsLawfulType (is_ruled env.rules) types) ds → IsDistinct bytes_eq (earlier ++ emitted_names types ds) → Lawful (type_claims types earlier ds)
  types_to types earlier [] h d = tt
  types_to types earlier (t ∷ ds) h d =
      let name = emitted_name types t in (
        (h.0.name, none_again earlier (emitted_names types ds) name d),
        all_both (IsLawfulClaim env) (part_claims types t) (type_claims types (earlier ++ name ∷ []) ds) (parts_to types t h.0.parts)
            (types_to types (earlier ++ name ∷ []) ds h.1 (subst (IsDistinct bytes_eq) (sym (moved earlier (emitted_names types ds) name)) d)),
      )

  -- ---- constants

  constants_from : (consts : List (Sym × TypeId)) → Lawful (constant_claims env.types consts) → AllByRecursion (IsLawfulConstant env.types) consts
  constants_from [] h = tt
  constants_from (c ∷ cs) h = (h.0.0, constants_from cs h.1)

  constants_apart : (consts : List (Sym × TypeId)) → Lawful (constant_claims env.types consts) → AllByRecursion (IsNoType env.types) consts
  constants_apart [] h = tt
  constants_apart (c ∷ cs) h = (test_from_new (emitted_names env.types env.types.types) (symbol_text env.types c.0) h.0.1, constants_apart cs h.1)

  constants_to : (consts : List (Sym × TypeId)) → AllByRecursion (IsLawfulConstant env.types) consts → AllByRecursion (IsNoType env.types) consts → Lawful (constant_claims env.types consts)
  constants_to [] h k = tt
  constants_to (c ∷ cs) h k = ((h.0, new_from_test (emitted_names env.types env.types.types) (symbol_text env.types c.0) k.0), constants_to cs h.1 k.1)

  -- ---- functions

  functions_from : (earlier fs : List (List ℕ)) → Lawful (function_claims earlier fs) → AllByRecursion IsIdentifier fs
  functions_from earlier [] h = tt
  functions_from earlier (f ∷ fs) h = (h.0.0, functions_from (earlier ++ f ∷ []) fs h.1)

  functions_apart : (earlier fs : List (List ℕ)) → Lawful (function_claims earlier fs) → IsDistinct bytes_eq earlier → IsDistinct bytes_eq (earlier ++ fs)
  functions_apart earlier [] h d = subst (IsDistinct bytes_eq) (sym (append-nil earlier)) d
  functions_apart earlier (f ∷ fs) h d = subst (IsDistinct bytes_eq) (moved earlier fs f) (functions_apart (earlier ++ f ∷ []) fs h.1 (push_new earlier f d h.0.1))

  functions_to : (earlier fs behind : List (List ℕ)) → AllByRecursion IsIdentifier fs → IsDistinct bytes_eq (earlier ++ (fs ++ behind)) → Lawful (function_claims earlier fs)
  functions_to earlier [] behind h d = tt
  functions_to earlier (f ∷ fs) behind h d =
      ((h.0, none_again earlier (fs ++ behind) f d), functions_to (earlier ++ f ∷ []) fs behind h.1 (subst (IsDistinct bytes_eq) (sym (moved earlier (fs ++ behind) f)) d))

  -- ---- terms

  -- the functions of terms, by their names
  abbrev names_in : List Term → List (List ℕ)
  names_in ts = fn_names (trait_fns_in env ts)

  before_by : (x y : Option TraitFn) (fns : List TraitFn) → fn_names (cons_option x (cons_option y fns)) ≡ fn_names (cons_option x (cons_option y [])) ++ fn_names fns
  before_by None None fns = refl
  before_by None (Some g) fns = refl
  before_by (Some f) None fns = refl
  before_by (Some f) (Some g) fns = refl

  names_more : (t : Term) (ts : List Term) → names_in (t ∷ ts) ≡ functions_of env t ++ names_in ts
  names_more t ts = before_by (extractor_fn_of env t) (constructor_fn_of env t) (trait_fns_in env ts)

  -- the three parts of what is said of terms
  module _ (id : ℕ) (earlier : List (List ℕ)) (t : Term) (ts : List Term) (h : Lawful (term_claims env id earlier (t ∷ ts))) where
    abbrev rest : List Claim
    rest = term_claims env (suc id) (earlier ++ functions_of env t) ts

    first_two : Lawful (function_claims earlier (functions_of env t) ++ own_claims env id t)
    first_two = all_front (IsLawfulClaim env) (function_claims earlier (functions_of env t) ++ own_claims env id t) rest h

    of_functions : Lawful (function_claims earlier (functions_of env t))
    of_functions = all_front (IsLawfulClaim env) (function_claims earlier (functions_of env t)) (own_claims env id t) first_two

    of_own : Lawful (own_claims env id t)
    of_own = all_behind (IsLawfulClaim env) (function_claims earlier (functions_of env t)) (own_claims env id t) first_two

    of_rest : Lawful rest
    of_rest = all_behind (IsLawfulClaim env) (function_claims earlier (functions_of env t) ++ own_claims env id t) rest h

  terms_from : (id : ℕ) (earlier : List (List ℕ)) (ts : List Term) → Lawful (term_claims env id earlier ts) → AllByRecursion IsIdentifier (names_in ts)
  terms_from id earlier [] h = tt
  terms_from id earlier (t ∷ ts) h =
      subst (AllByRecursion IsIdentifier) (sym (names_more t ts))
      (all_both IsIdentifier (functions_of env t) (names_in ts) (functions_from earlier (functions_of env t) (of_functions id earlier t ts h)) (terms_from (suc id) (earlier ++ functions_of env t) ts (of_rest id earlier t ts h)))

  terms_apart : (id : ℕ) (earlier : List (List ℕ)) (ts : List Term) → Lawful (term_claims env id earlier ts) → IsDistinct bytes_eq earlier → IsDistinct bytes_eq (earlier ++ names_in ts)
  terms_apart id earlier [] h d = subst (IsDistinct bytes_eq) (sym (append-nil earlier)) d
  terms_apart id earlier (t ∷ ts) h d =
      let fs = functions_of env t in
      subst (IsDistinct bytes_eq) (append_assoc earlier fs (names_in ts) ∙ ap (λ ys. earlier ++ ys) (sym (names_more t ts)))
      (terms_apart (suc id) (earlier ++ fs) ts (of_rest id earlier t ts h) (functions_apart earlier fs (of_functions id earlier t ts h) d))

  own_from : (b : Bool) (name : List ℕ) → Lawful (if b then OfTerm name ∷ [] else []) → b ≡ true → is_term_name name ≡ true
  own_from true name h e = h.0
  own_from false name h e = absurd cc

  own_to : (b : Bool) (name : List ℕ) → (b ≡ true → is_term_name name ≡ true) → Lawful (if b then OfTerm name ∷ [] else [])
  own_to true name h = (h refl, tt)
  own_to false name h = tt

  -- the names of terms with rules among those from a number on
  abbrev AreNamed : ℕ → List Term → Type 0
  AreNamed id ts = (n : ℕ) (t : Term) → slice_get ts n ≡ Some t → (m : ℕ) → m ≡ id + n → has_rules env (record { 0 = m }) ≡ true → is_term_name (sym_text env t.name) ≡ true

  named_terms : (id : ℕ) (earlier : List (List ℕ)) (ts : List Term) → Lawful (term_claims env id earlier ts) → AreNamed id ts
  named_terms id earlier [] h zero t at m is e = absurd cc
  named_terms id earlier [] h (suc n) t at m is e = absurd cc
  named_terms id earlier (x ∷ ts) h zero t at m is e =
      let here : m ≡ id = omega arith in
      let ruled : has_rules env (record { 0 = id }) ≡ true = subst (λ i. has_rules env (record { 0 = i }) ≡ true) here e in
      subst (λ (y : Term). is_term_name (sym_text env y.name) ≡ true) (same_Some x t at) (own_from (has_rules env (record { 0 = id })) (sym_text env x.name) (of_own id earlier x ts h) ruled)
  named_terms id earlier (x ∷ ts) h (suc n) t at m is e = named_terms (suc id) (earlier ++ functions_of env x) ts (of_rest id earlier x ts h) n t at m (omega arith) e

  terms_to : (id : ℕ) (earlier : List (List ℕ)) (ts : List Term) → AllByRecursion IsIdentifier (names_in ts) → IsDistinct bytes_eq (earlier ++ names_in ts) → AreNamed id ts → Lawful (term_claims env id earlier ts)
  terms_to id earlier [] h d named = tt
  terms_to id earlier (t ∷ ts) h d named =
      let fs = functions_of env t in
      let split = subst (AllByRecursion IsIdentifier) (names_more t ts) h in
      let apart = subst (λ ys. IsDistinct bytes_eq (earlier ++ ys)) (names_more t ts) d in
      let own = own_to (has_rules env (record { 0 = id })) (sym_text env t.name) (λ e. named 0 t refl id (omega arith) e) in
      all_both (IsLawfulClaim env) (function_claims earlier fs ++ own_claims env id t) (term_claims env (suc id) (earlier ++ fs) ts)
      (all_both (IsLawfulClaim env) (function_claims earlier fs) (own_claims env id t) (functions_to earlier fs (names_in ts) (all_front IsIdentifier fs (names_in ts) split) apart) own)
      (terms_to (suc id) (earlier ++ fs) ts (all_behind IsIdentifier fs (names_in ts) split) (subst (IsDistinct bytes_eq) (sym (append_assoc earlier fs (names_in ts))) apart) (λ n x at m is e. named (suc n) x at m (omega arith) e))

  -- ---- names of functions of the trait

  fns_named : (fns : List TraitFn) → AllByRecursion IsIdentifier (fn_names fns) → AllByRecursion (λ (f : TraitFn). IsIdentifier f.name) fns
  fns_named [] h = tt
  fns_named (f ∷ fns) h = (h.0, fns_named fns h.1)

  names_of_fns : (fns : List TraitFn) → AllByRecursion (λ (f : TraitFn). IsIdentifier f.name) fns → AllByRecursion IsIdentifier (fn_names fns)
  names_of_fns [] h = tt
  names_of_fns (f ∷ fns) h = (h.0, names_of_fns fns h.1)

-- ---- all

none_apart : IsDistinct bytes_eq []
unfolding IsDistinct
none_apart = tt

module _ (names : List (List ℕ)) (env : Environment) (h : AreLawfulNames names env) where
  abbrev of_types : List Claim
  of_types = type_claims env.types [] env.types.types

  abbrev of_terms : List Claim
  of_terms = term_claims env 0 [] env.terms

  abbrev of_constants : List Claim
  of_constants = constant_claims env.types env.types.consts

  first_three : AllByRecursion (IsLawfulClaim env) (file_claims names ++ of_types ++ of_terms)
  first_three = all_front (IsLawfulClaim env) (file_claims names ++ of_types ++ of_terms) of_constants h

  first_files : AllByRecursion (IsLawfulClaim env) (file_claims names ++ of_types)
  first_files = all_front (IsLawfulClaim env) (file_claims names ++ of_types) of_terms first_three

  -- the names of files may be emitted
  pub files_lawful : list_all is_file_name names ≡ true
  files_lawful = files_pass env names (all_front (IsLawfulClaim env) (file_claims names) of_types first_files)

  types_claimed : AllByRecursion (IsLawfulClaim env) of_types
  types_claimed = all_behind (IsLawfulClaim env) (file_claims names) of_types first_files

  terms_claimed : AllByRecursion (IsLawfulClaim env) of_terms
  terms_claimed = all_behind (IsLawfulClaim env) (file_claims names ++ of_types) of_terms first_three

  constants_claimed : AllByRecursion (IsLawfulClaim env) of_constants
  constants_claimed = all_behind (IsLawfulClaim env) (file_claims names ++ of_types ++ of_terms) of_constants h

  -- those of types and constants may
  pub declared_lawful : AreLawful (is_ruled env.rules) env.types
  declared_lawful = record {
    types = types_from env env.types [] env.types.types types_claimed;
    constants = constants_from env env.types.consts constants_claimed;
    apart = record { types = types_apart env env.types [] env.types.types types_claimed none_apart; constants = constants_apart env env.types.consts constants_claimed };
  }

  -- those of functions of the trait may
  pub functions_lawful : HasFnNames env
  functions_lawful = record { identifiers = fns_named env (trait_fns_in env env.terms) (terms_from env 0 [] env.terms terms_claimed); distinct = terms_apart env 0 [] env.terms terms_claimed none_apart }

  -- those of terms with rules may
  pub terms_lawful : (id : ℕ) (t : Term) → slice_get env.terms id ≡ Some t → has_rules env (record { 0 = id }) ≡ true → is_term_name (sym_text env t.name) ≡ true
  terms_lawful id t at e = named_terms env 0 [] env.terms terms_claimed id t at id (omega arith) e

-- lawful names come to all that
pub parts_are_lawful : (names : List (List ℕ)) (env : Environment) → AreLawfulNames names env → AreLawfulParts names env
parts_are_lawful names env h = record { printed = files_lawful names env h; declared = declared_lawful names env h; fns = functions_lawful names env h; terms = terms_lawful names env h }

-- all that comes to lawful names
pub names_are_lawful : (names : List (List ℕ)) (env : Environment) → AreLawfulParts names env → AreLawfulNames names env
names_are_lawful names env h =
    let lawful = IsLawfulClaim env in
    let of_files = files_claimed env names h.printed in
    let of_types = types_to env env.types [] env.types.types h.declared.types h.declared.apart.types in
    let of_terms = terms_to env 0 [] env.terms (names_of_fns env (trait_fns_in env env.terms) h.fns.identifiers) h.fns.distinct (λ n t at m is e. h.terms n t at (subst (λ i. has_rules env (record { 0 = i }) ≡ true) (the_same m n is) e)) in
    let of_constants = constants_to env env.types.consts h.declared.constants h.declared.apart.constants in
    all_both lawful (file_claims names ++ type_claims env.types [] env.types.types ++ term_claims env 0 [] env.terms) (constant_claims env.types env.types.consts)
    (all_both lawful (file_claims names ++ type_claims env.types [] env.types.types) (term_claims env 0 [] env.terms) (all_both lawful (file_claims names) (type_claims env.types [] env.types.types) of_files of_types) of_terms)
    of_constants
  where
    the_same : (m n : ℕ) → m ≡ 0 + n → m ≡ n
    the_same m n is = omega arith
