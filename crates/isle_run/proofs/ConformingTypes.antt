-- What a conforming program tells of types is of the types of its source, and so constants fit the places where they stand.
use Rattle.std.proofs.Common.{◌≡◌, ◌⊎◌, inl, inr, ⊎_elim, ℕ, zero, suc, List, [], ◌∷◌, map, Bool, true, false, cond, Option, Some, None, option_map, refl, sym, ap, ◌∙◌, subst}
use Rattle.std.specs.Prelude.{Contains, find, if◌then◌else◌, option_and_then, slice_get}
use Rattle.std.specs.List.{AllByRecursion, IsDistinct}
use Rattle.std.specs.Option.{option_map_or}
use Rattle.std.specs.Str.{bytes_eq}
use Rattle.std.proofs.lemmas.Slice.Eq.{bytes_eq-Decides}
use Rattle.isle_core.specs.declared.Sym.{Sym}
use Rattle.isle_core.specs.declared.TermId.{TermId}
use Rattle.isle_core.specs.declared.TypeId.{TypeId}
use Rattle.isle_core.specs.declared.VariantId.{VariantId}
use Rattle.isle_core.specs.declared.files.Files.{Files}
use Rattle.isle_core.specs.declared.options.CodegenOptions.{CodegenOptions}
use Rattle.isle_core.specs.declared.types.ConstructorKind.{ConstructorKind}
use Rattle.isle_core.specs.declared.types.ConstructorKind.TheVariants as constructor
use Rattle.isle_core.specs.declared.types.ExtractorKind.TheVariants as extractor
use Rattle.isle_core.specs.declared.types.ReturnKind.{ReturnKind}
use Rattle.isle_core.specs.declared.types.Term.{Term}
use Rattle.isle_core.specs.declared.types.TermKind.{TermKind}
use Rattle.isle_core.specs.declared.types.TermKind.TheVariants as term_kind
use Rattle.isle_core.specs.declared.types.TypeDef.{TypeDef}
use Rattle.isle_core.specs.declared.types.TypeDef.TheVariants as def
use Rattle.isle_core.specs.declared.types.Variant.{Variant as VariantDef}
use Rattle.isle_core.specs.declared.values.Callee.{Callee}
use Rattle.isle_core.specs.declared.values.Callee.TheVariants.{External, Internal}
use Rattle.isle_core.specs.Calling.{calling, calling_by, calling_of, extracting, extracting_kind, extracting_of, extractor_kind, kind_of, pure_callee}
use Rattle.isle_core.specs.ExternalCall.{IsCall, IsExtraction}
use Rattle.isle_core.specs.Form.{Form, form_name, form_of_variant, struct_form, variant_form}
use Rattle.isle_core.specs.HasType.{HasType, typed_fields}
use Rattle.isle_core.specs.Making.{MakesVariant, MakesStruct}
use Rattle.isle_core.specs.Rule.{Environment}
use Rattle.isle_core.specs.Terms.{callee_by, impure_callee, sym_text, term_name, with_rules}
use Rattle.isle_core.specs.Value.{Value}
use Rattle.isle_core.proofs.Contained.{contained_cases, none_contained}
use Rattle.isle_tree.specs.declared.tree.TFields.{TFields}
use Rattle.isle_tree.specs.declared.tree.Operand.TheVariants as operand
use Rattle.isle_tree.specs.declared.tree.TypeItem.{TypeItem}
use Rattle.isle_tree.specs.Program.{Function, Program}
use Rattle.isle_lawful_names.specs.LawfulNames.{emitted_name}
use Rattle.isle_lawful_names.specs.TypeItems.{type_item, variant_item}
use Rattle.isle_lawful_names.proofs.HasRustNames.{has_rust_names}
use Rattle.isle_simulation.specs.RustNames.{HasRustNames}
use Rattle.isle_simulation.specs.TypeTexts.{parameter, type_text}
use Rattle.isle_simulation.proofs.Written.{callee_of}
use Rattle.isle_places.specs.DeclaredTypes as asked
use Rattle.isle_places.specs.DeclaredTypes.{Asked, These, Anything, Nowhere, is_foreign, foreign_asked, of_fields, struct_asked, struct_by, variant_asked, variant_by}
use Rattle.isle_places.specs.Places.{Place, places}
use Rattle.isle_places.specs.Signatures.{Signature, signature_of}
use Rattle.isle_places.specs.Told.{AValue, field_told, typed_told}
use Rattle.isle_printer.specs.Bytes.{same_bytes}
use Rattle.isle_printer.proofs.Bytes.{same_bytes_refl}
use Rattle.isle_interpreter.specs.Entries.{FitsPlaces}
use Rattle.isle_interpreter.specs.Named.{IsNamed}
use Rattle.isle_codegen.proofs.FromBlocks.{given_from}
use Rattle.isle_codegen.specs.Checked.{IsChecked}
use Rattle.isle_codegen.specs.FromBlock.{AreFromBlocks}
use Rattle.isle_codegen.proofs.EmittedNames.{distinct_names}
use Rattle.isle_codegen.proofs.LawfulNames.{compilable}
use Rattle.isle_codegen.proofs.TermFunctions.{term_fns}
use Rattle.isle_codegen.proofs.TypedNames.{typed_parts}
use Rattle.isle_sema.proofs.TypedTerms.{typed_names}
use Rattle.isle_simulation.specs.OfTerm.{AreDeclared}
use Rattle.isle_simulation.specs.TermFns.{HasTermFns, IsRuled}
use Rattle.isle_simulation.specs.TraitFns.{extracted_of, func_by, func_of}
use Rattle.isle_run.specs.Conforming.{Conforms}
use Rattle.isle_run.specs.Valid.{IsServed, external, internal, IsAsked, AreRightConstants}
use Rattle.isle_run.specs.Valid as valid
use Rattle.isle_run_inputs.specs.Asked.{extractor_types}
use Rattle.isle_run_inputs.specs.Requested.{requested_term}
use Rattle.isle_run.proofs.GivenConstants.{each_declared}
use Rattle.isle_run.proofs.LawfulNames.{HasLawfulNames}
use Rattle.isle_run.proofs.NamedTypes.{are_named, field_text, found_made, item_is, shape_asked}
use Rattle.isle_run.proofs.PlacedExprs.{IsConstantValue, AreFieldsTold, TellsTypes}
use Rattle.isle_run.proofs.PlacedTypes.{function_fits}
use Rattle.isle_run.proofs.RightEntries.{served_signature, asked_signature}
use Rattle.isle_run.proofs.SourceNames.{lawful_names}
use Rattle.isle_run.proofs.ToldTypes.{IsSignature}

-- ---- lists

all_of : {A : Type 0} (P : A → Type 0) (xs : List A) → ((i : ℕ) (x : A) → slice_get xs i ≡ Some x → P x) → AllByRecursion P xs
all_of P [] h = tt
all_of P (x ∷ xs) h = (h zero x refl, all_of P xs (λ i y e. h (suc i) y e))

-- what is found stands at a place, and passes
record FoundAt {A : Type 0} (test : A → Bool) (xs : List A) (x : A) : Type 0 where
  place : ℕ
  there : slice_get xs place ≡ Some x
  passes : test x ≡ true

found_at : {A : Type 0} (test : A → Bool) (xs : List A) (x : A) → find test xs ≡ Some x → FoundAt test xs x
found_at test [] x e = absurd cc
found_at test (y ∷ xs) x e = by (test y) refl e (found_at test xs x)
  where
    by : (b : Bool) → test y ≡ b → cond b (Some y) (find test xs) ≡ Some x → (find test xs ≡ Some x → FoundAt test xs x) → FoundAt test (y ∷ xs) x
    by true is h later = let same : y ≡ x = cc in record { place = zero; there = ap Some same; passes = ap test (sym same) ∙ is }
    by false is h later = let k = later h in record { place = suc k.place; there = k.there; passes = k.passes }

-- the first of a name is the one that is there, if no two have one
first_is : {A : Type 0} (name : A → List ℕ) (xs : List A) (x : A) → IsDistinct bytes_eq (map name xs) → Contains xs x → find (λ (y : A). bytes_eq (name x) (name y)) xs ≡ Some x
unfolding IsDistinct
first_is name [] x d c = absurd (none_contained x c)
first_is name (y ∷ xs) x d c = by (bytes_eq (name x) (name y)) refl (contained_cases y xs x c) (λ k. first_is name xs x d.1 k)
  where
    among : (zs : List _) → Contains zs x → AllByRecursion (λ w. bytes_eq (name y) w ≡ false) (map name zs) → bytes_eq (name y) (name x) ≡ false
    among [] k h = absurd (none_contained x k)
    among (z ∷ zs) k h = ⊎_elim (λ e. subst (λ w. bytes_eq (name y) (name w) ≡ false) e h.0) (λ j. among zs j h.1) (contained_cases z zs x k)

    never : bytes_eq (name y) (name x) ≡ false → name x ≡ name y → ⊥
    never e same = let t : bytes_eq (name y) (name x) ≡ true = (bytes_eq-Decides (name y) (name x)).1 (sym same) in cc

    by : (b : Bool) → bytes_eq (name x) (name y) ≡ b → (y ≡ x) ⊎ Contains xs x → (Contains xs x → find (λ w. bytes_eq (name x) (name w)) xs ≡ Some x) → cond b (Some y) (find (λ w. bytes_eq (name x) (name w)) xs) ≡ Some x
    by true is (inl e) later = ap Some e
    by true is (inr k) later = absurd (never (among xs k d.0) ((bytes_eq-Decides (name x) (name y)).0 is))
    by false is (inl e) later = let t : bytes_eq (name x) (name y) ≡ true = (bytes_eq-Decides (name x) (name y)).1 (ap name (sym e)) in absurd cc
    by false is (inr k) later = later k

module _ (options : CodegenOptions) (files : Files) (env : Environment) (checked : IsChecked files env) (p : Program) (conforms : Conforms options files env p) where
  abbrev lawful : HasLawfulNames env
  lawful = lawful_names files env checked

  names : HasRustNames env
  names = has_rust_names _ env lawful.lawful (typed_parts checked.defs env checked.lawful.typed.typed)

  abbrev Named : List ℕ → Value → Type 0
  Named = IsNamed p.types

  -- ---- values

  value_named : (ty : TypeId) (v : Value) → HasType env v ty → Named (type_text env ty) v
  value_named ty v h = subst (λ (types : List TypeItem). IsNamed types (type_text env ty) v) (sym conforms.frame.types) (are_named env lawful.has_rules lawful.lawful lawful.builtins (ty ∷ []) (v ∷ []) (h, tt)).0

  -- ---- signatures

  fns : HasTermFns env
  fns = term_fns (compilable checked.lawful)

  -- the term with rules that has this name is asked for by it
  requested : (id : TermId) (t : Term) → slice_get env.terms id.0 ≡ Some t → IsRuled t.kind → requested_term env (sym_text env t.name) ≡ Some id
  requested id t there ruled =
      let first = first_is (term_name env) (with_rules env) id (distinct_names env (typed_names checked.defs env checked.lawful.typed.typed)) (fns.ruled id t there ruled) in
      subst (λ (n : List ℕ). find (λ (i : TermId). bytes_eq n (term_name env i)) (with_rules env) ≡ Some id) (named (slice_get env.terms id.0) there) first
    where
      named : (o : Option Term) → o ≡ Some t → option_map_or (λ (u : Term). sym_text env u.name) o [] ≡ sym_text env t.name
      named None e = absurd cc
      named (Some u) e = let same : u ≡ t = cc in ap (λ (x : Term). sym_text env x.name) same

  one_callee : (a b : Callee) → Some a ≡ Some b → a ≡ b
  one_callee a b e = cc

  -- what calls of a term go to is served
  by_kind : (id : TermId) (t : Term) (by : ConstructorKind) (c : Callee) → slice_get env.terms id.0 ≡ Some t → func_of t.kind ≡ func_by by → (by ≡ constructor.Internal → IsRuled t.kind) → callee_by env t by ≡ Some c → IsServed env c t
  by_kind id t constructor.Absent c there func ruled e = absurd cc
  by_kind id t constructor.Internal c there func ruled e = subst (λ (x : Callee). IsServed env x t) (one_callee (Internal (sym_text env t.name)) c e) (internal (sym_text env t.name) id t (requested id t there (ruled refl)) there)
  by_kind id t (constructor.External f) c there func ruled e = subst (λ (x : Callee). IsServed env x t) (one_callee (External (sym_text env f)) c e) (external id.0 t f there func)

  served_kind : (id : TermId) (t : Term) (k : TermKind) (often : ReturnKind) → slice_get env.terms id.0 ≡ Some t → t.kind ≡ k → IsCall often (calling_by (kind_of k) (impure_callee env t k) (pure_callee env t k)) → IsServed env (callee_of (calling_by (kind_of k) (impure_callee env t k) (pure_callee env t k))) t
  served_kind id t (term_kind.Variant ty variant) often there is h = absurd h
  served_kind id t (term_kind.Struct ty) often there is h = absurd h
  served_kind id t (term_kind.Decl pure multi partial recursive by x) often there is h = one pure by is h
    where
      ruled : (q : Bool) (b : ConstructorKind) → t.kind ≡ term_kind.Decl q multi partial recursive b x → b ≡ constructor.Internal → IsRuled t.kind
      ruled q b e k = subst (λ (y : TermKind). IsRuled y) (sym (e ∙ ap (λ (z : ConstructorKind). term_kind.Decl q multi partial recursive z x) k)) tt

      one : (q : Bool) (b : ConstructorKind) → t.kind ≡ term_kind.Decl q multi partial recursive b x
          → IsCall often (calling_by (kind_of (term_kind.Decl q multi partial recursive b x)) (impure_callee env t (term_kind.Decl q multi partial recursive b x)) (pure_callee env t (term_kind.Decl q multi partial recursive b x)))
          → IsServed env (callee_of (calling_by (kind_of (term_kind.Decl q multi partial recursive b x)) (impure_callee env t (term_kind.Decl q multi partial recursive b x)) (pure_callee env t (term_kind.Decl q multi partial recursive b x)))) t
      one true constructor.Absent e k = absurd k
      one false constructor.Absent e k = absurd k
      one true constructor.Internal e k = by_kind id t constructor.Internal (Internal (sym_text env t.name)) there (ap func_of e) (λ l. ruled true constructor.Internal e l) refl
      one false constructor.Internal e k = by_kind id t constructor.Internal (Internal (sym_text env t.name)) there (ap func_of e) (λ l. ruled false constructor.Internal e l) refl
      one true (constructor.External f) e k = external id.0 t f there (ap func_of e)
      one false (constructor.External f) e k = external id.0 t f there (ap func_of e)

  served : (id : TermId) (t : Term) (often : ReturnKind) (o : Option Term) → slice_get env.terms id.0 ≡ Some t → o ≡ Some t → IsCall often (calling_of env o) → IsServed env (callee_of (calling_of env o)) t
  served id t often None there e h = absurd cc
  served id t often (Some u) there e h = let same : u ≡ t = cc in subst (λ (x : Term). IsServed env (callee_of (calling_of env (Some u))) x) same (served_kind id u u.kind often (there ∙ ap Some (sym same)) refl h)

  one_signature : (a b : Signature) → Some a ≡ Some b → a ≡ b
  one_signature a b e = cc

  calls_told : (id : TermId) (c : Term) (often : ReturnKind) (s : Signature) → slice_get env.terms id.0 ≡ Some c → IsCall often (calling env id) → signature_of p (callee_of (calling env id)) ≡ Some s → IsSignature env c.arg_tys (c.ret_ty ∷ []) s
  calls_told id c often s there is e =
      let g = served_signature options files env lawful p conforms (callee_of (calling env id)) c (served id c often (slice_get env.terms id.0) there there is) in
      subst (IsSignature env c.arg_tys (c.ret_ty ∷ [])) (one_signature g.0 s (sym g.1 ∙ e)) (record { takes = g.2.params; answers = g.2.results })

  extracted_kind : (id : TermId) (t : Term) (k : TermKind) (often : ReturnKind) → slice_get env.terms id.0 ≡ Some t → t.kind ≡ k → IsExtraction often (extracting_kind env k) → (found : ReturnKind) × IsAsked env (callee_of (extracting_kind env k)) (extractor_types t) found
  extracted_kind id t (term_kind.Variant ty variant) often there is h = absurd h
  extracted_kind id t (term_kind.Struct ty) often there is h = absurd h
  extracted_kind id t (term_kind.Decl pure multi partial recursive by extractor.Absent) often there is h = absurd h
  extracted_kind id t (term_kind.Decl pure multi partial recursive by extractor.Internal) often there is h = absurd h
  extracted_kind id t (term_kind.Decl pure multi partial recursive by (extractor.External f infallible)) often there is h = (extractor_kind multi infallible, valid.extractor id.0 t f (extractor_kind multi infallible) there (ap extracted_of is))

  extracted : (id : TermId) (t : Term) (often : ReturnKind) (o : Option Term) → slice_get env.terms id.0 ≡ Some t → o ≡ Some t → IsExtraction often (extracting_of env o) → (found : ReturnKind) × IsAsked env (callee_of (extracting_of env o)) (extractor_types t) found
  extracted id t often None there e h = absurd cc
  extracted id t often (Some u) there e h =
      let same : u ≡ t = cc in
      subst (λ (x : Term). (found : ReturnKind) × IsAsked env (callee_of (extracting_of env (Some u))) (extractor_types x) found) same (extracted_kind id u u.kind often (there ∙ ap Some (sym same)) refl h)

  extractions_told : (id : TermId) (c : Term) (often : ReturnKind) (s : Signature) → slice_get env.terms id.0 ≡ Some c → IsExtraction often (extracting env id) → signature_of p (callee_of (extracting env id)) ≡ Some s → IsSignature env (c.ret_ty ∷ []) c.arg_tys s
  extractions_told id c often s there is e =
      let a = extracted id c often (slice_get env.terms id.0) there there is in
      let g = asked_signature options files env lawful p conforms (callee_of (extracting env id)) (extractor_types c) a.0 a.1 in
      subst (IsSignature env (c.ret_ty ∷ []) c.arg_tys) (one_signature g.0 s (sym g.1 ∙ e)) (record { takes = g.2.params; answers = g.2.results })

  -- ---- fields

  -- a field's name with that of its type
  abbrev field : List ℕ × TypeId → List ℕ × List ℕ
  field = field_text env lawful.has_rules lawful.lawful lawful.builtins

  -- of fields of which no two have one name, the type of a name is told
  fields_told : (all : List (List ℕ × TypeId)) → ((i j : ℕ) (a b : List ℕ × TypeId) → slice_get all i ≡ Some a → slice_get all j ≡ Some b → a.0 ≡ b.0 → i ≡ j) → AreFieldsTold env (These (map field all)) all
  fields_told all apart = all_of _ all (λ i x at_i ty e. one i x at_i ty (find (λ (z : List ℕ × TypeId). bytes_eq x.0 z.0) all) refl (sym (ap (λ o. typed_told (option_map (λ (y : List ℕ × List ℕ). y.1) o)) (found_made (λ (y : List ℕ × List ℕ). bytes_eq x.0 y.0) field all)) ∙ e))
    where
      value_eq : (a b : List ℕ) → AValue a ≡ AValue b → b ≡ a
      value_eq a b k = cc

      same_field : (a b : List ℕ × TypeId) → Some a ≡ Some b → a ≡ b
      same_field a b k = cc

      one : (i : ℕ) (x : List ℕ × TypeId) → slice_get all i ≡ Some x → (ty : List ℕ) (o : Option (List ℕ × TypeId)) → find (λ (z : List ℕ × TypeId). bytes_eq x.0 z.0) all ≡ o
          → typed_told (option_map (λ (y : List ℕ × List ℕ). y.1) (option_map field o)) ≡ AValue ty → ty ≡ type_text env x.1
      one i x at_i ty None is e = absurd cc
      one i x at_i ty (Some z) is e =
          let k = found_at (λ (w : List ℕ × TypeId). bytes_eq x.0 w.0) all z is in
          let place : i ≡ k.place = apart i k.place x z at_i k.there ((bytes_eq-Decides x.0 z.0).0 k.passes) in
          let same : x ≡ z = same_field x z (sym at_i ∙ ap (slice_get all) place ∙ k.there) in
          value_eq (type_text env z.1) ty e ∙ ap (λ (w : List ℕ × TypeId). type_text env w.1) (sym same)

  -- no field is told of a type that isn't declared in the text
  foreign_told : (name : List ℕ) (all : List (List ℕ × TypeId)) → AreFieldsTold env (foreign_asked name) all
  foreign_told name all = all_of _ all (λ i x at_i ty e. absurd (one (is_foreign name) x.0 ty e))
    where
      one : (b : Bool) (f ty : List ℕ) → field_told (if b then Anything else Nowhere) f ≡ AValue ty → ⊥
      one true f ty e = cc
      one false f ty e = cc

  none_told : (all : List (List ℕ × TypeId)) → AreFieldsTold env Nowhere all
  none_told all = all_of _ all (λ i x at_i ty e. absurd cc)

  -- ---- variants

  item_told : (name : List ℕ) (all : List (List ℕ × TypeId)) (by : Option TypeItem → Asked) (o : Option TypeItem) → asked.type_item p.types name ≡ o → AreFieldsTold env (by o) all → AreFieldsTold env (if same_bytes name name then by (asked.type_item p.types name) else Nowhere) all
  item_told name all by o e h = rw (same_bytes_refl name) (subst (λ (x : Option TypeItem). AreFieldsTold env (by x) all) (sym e) h)

  type_found : (ty : TypeId) (d : TypeDef) → slice_get env.types.types ty.0 ≡ Some d → asked.type_item p.types (emitted_name env.types d) ≡ type_item env.types d
  type_found ty d at_ty = ap (λ (types : List TypeItem). asked.type_item types (emitted_name env.types d)) conforms.frame.types ∙ item_is env lawful.has_rules lawful.lawful lawful.builtins ty.0 d at_ty

  one_variant : (a b : VariantDef) → Some a ≡ Some b → a ≡ b
  one_variant a b e = cc

  one_form : (a b : Form) → Some a ≡ Some b → a ≡ b
  one_form a b e = cc

  -- the fields of the variant that is found under a variant's name are its own
  found_fields : (ty : TypeId) (variant : VariantId) (name : Sym) (ext nodebug : Bool) (variants : List VariantDef) (place : _) (v : VariantDef) (o : Option VariantDef) → slice_get env.types.types ty.0 ≡ Some (def.Enum name ext nodebug variants place)
      → slice_get variants variant.0 ≡ Some v → find (λ (w : VariantDef). bytes_eq (sym_text env v.name) (sym_text env w.name)) variants ≡ o
      → AreFieldsTold env (of_fields (option_map (λ (x : List ℕ × TFields). x.1) (option_map (variant_item env.types) o))) (typed_fields env v.fields)
  found_fields ty variant name ext nodebug variants place v None at_ty at_v e = none_told (typed_fields env v.fields)
  found_fields ty variant name ext nodebug variants place v (Some w) at_ty at_v e =
      let k = found_at (λ (x : VariantDef). bytes_eq (sym_text env v.name) (sym_text env x.name)) variants w e in
      let texts : sym_text env v.name ≡ sym_text env w.name = (bytes_eq-Decides (sym_text env v.name) (sym_text env w.name)).0 k.passes in
      let there = λ (i : VariantId) (x : VariantDef) (at_i : slice_get variants i.0 ≡ Some x). ap (option_and_then (variant_form i)) at_ty ∙ ap (option_map (form_of_variant name)) at_i in
      let first = there variant v at_v in
      let second = there (record { 0 = k.place }) w k.there in
      let id : variant ≡ record { 0 = k.place } = names.apart.variants ty variant (record { 0 = k.place }) (sym_text env name, Some (sym_text env v.name)) (ap (option_map (form_name env)) first) (ap (option_map (form_name env)) second ∙ ap (λ (n : List ℕ). Some (sym_text env name, Some n)) (sym texts)) in
      let same : v ≡ w = one_variant v w (sym at_v ∙ ap (λ (i : VariantId). slice_get variants i.0) id ∙ k.there) in
      subst (λ (x : VariantDef). AreFieldsTold env (These (asked.field_types (variant_item env.types x).1)) (typed_fields env v.fields)) same
      (subst (λ known. AreFieldsTold env (These known) (typed_fields env v.fields)) (sym (shape_asked env lawful.has_rules lawful.lawful lawful.builtins v.fields))
      (fields_told (typed_fields env v.fields) (λ i j a b. names.apart.fields (MakesVariant ty variant) (form_of_variant name v) i j a b first)))

  enum_told : (ty : TypeId) (variant : VariantId) (name : Sym) (ext nodebug : Bool) (variants : List VariantDef) (place : _) (v : VariantDef) → slice_get env.types.types ty.0 ≡ Some (def.Enum name ext nodebug variants place) → slice_get variants variant.0 ≡ Some v
      → AreFieldsTold env (variant_asked p.types (sym_text env name) (sym_text env name) (sym_text env v.name)) (typed_fields env v.fields)
  enum_told ty variant name true nodebug variants place v at_ty at_v =
      item_told (sym_text env name) (typed_fields env v.fields) (λ o. variant_by o (sym_text env name) (sym_text env v.name)) None (type_found ty (def.Enum name true nodebug variants place) at_ty) (foreign_told (sym_text env name) (typed_fields env v.fields))
  enum_told ty variant name false nodebug variants place v at_ty at_v =
      item_told (sym_text env name) (typed_fields env v.fields) (λ o. variant_by o (sym_text env name) (sym_text env v.name)) (type_item env.types (def.Enum name false nodebug variants place)) (type_found ty (def.Enum name false nodebug variants place) at_ty)
      (subst (λ (o : Option (List ℕ × TFields)). AreFieldsTold env (of_fields (option_map (λ (x : List ℕ × TFields). x.1) o)) (typed_fields env v.fields)) (sym (found_made (λ (x : List ℕ × TFields). bytes_eq (sym_text env v.name) x.0) (variant_item env.types) variants))
      (found_fields ty variant name false nodebug variants place v (find (λ (w : VariantDef). bytes_eq (sym_text env v.name) (sym_text env w.name)) variants) at_ty at_v refl))

  variant_def : (ty : TypeId) (variant : VariantId) (f : Form) (n : Sym) (o : Option TypeDef) → slice_get env.types.types ty.0 ≡ o → option_and_then (variant_form variant) o ≡ Some f → f.variant ≡ Some n
      → AreFieldsTold env (variant_asked p.types (sym_text env f.ty) (sym_text env f.ty) (sym_text env n)) (typed_fields env f.fields)
  variant_def ty variant f n None at_ty e k = absurd cc
  variant_def ty variant f n (Some (def.Enum name ext nodebug variants place)) at_ty e k = one (slice_get variants variant.0) refl e
    where
      one : (o : Option VariantDef) → slice_get variants variant.0 ≡ o → option_map (form_of_variant name) o ≡ Some f → AreFieldsTold env (variant_asked p.types (sym_text env f.ty) (sym_text env f.ty) (sym_text env n)) (typed_fields env f.fields)
      one None at_v l = absurd cc
      one (Some v) at_v l =
          let same : form_of_variant name v ≡ f = one_form (form_of_variant name v) f l in
          let named : n ≡ v.name = of (ap (λ (g : Form). g.variant) same ∙ k) in
          subst (λ (g : Form). AreFieldsTold env (variant_asked p.types (sym_text env g.ty) (sym_text env g.ty) (sym_text env n)) (typed_fields env g.fields)) same
          (subst (λ (x : Sym). AreFieldsTold env (variant_asked p.types (sym_text env name) (sym_text env name) (sym_text env x)) (typed_fields env v.fields)) (sym named) (enum_told ty variant name ext nodebug variants place v at_ty at_v))
        where
          of : Some v.name ≡ Some n → n ≡ v.name
          of q = cc
  variant_def ty variant f n (Some (def.Builtin b)) at_ty e k = absurd cc
  variant_def ty variant f n (Some (def.Primitive name rust place)) at_ty e k = absurd cc
  variant_def ty variant f n (Some (def.Struct name ext nodebug fields place)) at_ty e k = absurd cc

  -- ---- structs

  struct_told : (ty : TypeId) (name : Sym) (ext nodebug : Bool) (fields : _) (place : _) → slice_get env.types.types ty.0 ≡ Some (def.Struct name ext nodebug fields place) → AreFieldsTold env (struct_asked p.types (sym_text env name) (sym_text env name)) (typed_fields env fields)
  struct_told ty name true nodebug fields place at_ty =
      item_told (sym_text env name) (typed_fields env fields) (λ o. struct_by o (sym_text env name)) None (type_found ty (def.Struct name true nodebug fields place) at_ty) (foreign_told (sym_text env name) (typed_fields env fields))
  struct_told ty name false nodebug fields place at_ty =
      item_told (sym_text env name) (typed_fields env fields) (λ o. struct_by o (sym_text env name)) (type_item env.types (def.Struct name false nodebug fields place)) (type_found ty (def.Struct name false nodebug fields place) at_ty)
      (subst (λ known. AreFieldsTold env (These known) (typed_fields env fields)) (sym (shape_asked env lawful.has_rules lawful.lawful lawful.builtins fields))
      (fields_told (typed_fields env fields) (λ i j a b. names.apart.fields (MakesStruct ty) (record { ty = name; variant = None; fields = fields }) i j a b (ap (option_and_then struct_form) at_ty))))

  struct_def : (ty : TypeId) (f : Form) (o : Option TypeDef) → slice_get env.types.types ty.0 ≡ o → option_and_then struct_form o ≡ Some f → AreFieldsTold env (struct_asked p.types (sym_text env f.ty) (sym_text env f.ty)) (typed_fields env f.fields)
  struct_def ty f None at_ty e = absurd cc
  struct_def ty f (Some (def.Struct name ext nodebug fields place)) at_ty e =
      subst (λ (g : Form). AreFieldsTold env (struct_asked p.types (sym_text env g.ty) (sym_text env g.ty)) (typed_fields env g.fields)) (one_form (record { ty = name; variant = None; fields = fields }) f e) (struct_told ty name ext nodebug fields place at_ty)
  struct_def ty f (Some (def.Builtin b)) at_ty e = absurd cc
  struct_def ty f (Some (def.Primitive name rust place)) at_ty e = absurd cc
  struct_def ty f (Some (def.Enum name ext nodebug variants place)) at_ty e = absurd cc

  -- ---- what is told

  tells_types : TellsTypes env p Named
  tells_types = record {
    values = value_named;
    calls = calls_told;
    extractions = extractions_told;
    variants = λ ty variant f n e k. variant_def ty variant f n (slice_get env.types.types ty.0) refl e k;
    structs = λ ty f e. struct_def ty f (slice_get env.types.types ty.0) refl e;
  }

  -- ---- places of constants

  abbrev FitsAt : Place → Type 0
  FitsAt x = (name : List ℕ) (v : Value) → x.0 ≡ operand.Name name → IsConstantValue env name v → Named x.1 v

  one_term : (a b : Term) → Some a ≡ Some b → a ≡ b
  one_term a b e = cc

  -- of each function
  each_fits : (ids : List TermId) (fs : List Function) → AreDeclared files env ids fs → AreFromBlocks options files env ids fs → (g : Function) → Contains fs g → AllByRecursion FitsAt (places p g)
  each_fits [] [] d b g c = absurd (none_contained g c)
  each_fits [] (f ∷ fs) d b g c = absurd d
  each_fits (id ∷ ids) [] d b g c = absurd d
  each_fits (id ∷ ids) (f ∷ fs) d b g c = ⊎_elim (λ (e : f ≡ g). subst (λ (h : Function). AllByRecursion FitsAt (places p h)) e here) (λ k. each_fits ids fs d.1 b.1 g k) (contained_cases f fs g c)
    where
      same : d.0.term ≡ b.0.term
      same = one_term d.0.term b.0.term (sym d.0.found ∙ b.0.found)

      here : AllByRecursion FitsAt (places p f)
      here = function_fits env b.0.term b.0.set.bindings p Named names tells_types f (d.0.of_term.params ∙ ap (λ (t : Term). map (parameter env) t.arg_tys) same) (d.0.of_term.result ∙ ap (λ (t : Term). type_text env t.ret_ty) same)
          options files b.0.block b.0.lawful (given_from options files env id f b.0)

  of_place : (xs : List Place) (x : Place) → AllByRecursion FitsAt xs → Contains xs x → FitsAt x
  of_place [] x h c = absurd (none_contained x c)
  of_place (y ∷ xs) x h c = ⊎_elim (λ e. subst FitsAt e h.0) (λ k. of_place xs x h.1 k) (contained_cases y xs x c)

  -- a value of a constant fits wherever the constant stands
  constant_fits : (name : List ℕ) (v : Value) → IsConstantValue env name v → FitsPlaces p name v
  constant_fits name v is g ty c stands = of_place (places p g) (operand.Name name, ty) (each_fits (with_rules env) p.fns conforms.functions.declared conforms.functions.blocks g c) stands name v refl is

  -- so do right constants
  pub right_fit : (consts : List (List ℕ × Value)) → AreRightConstants env [] consts → AllByRecursion (λ (c : List ℕ × Value). FitsPlaces p c.0 c.1) consts
  right_fit consts right = all_fit consts (each_declared env [] consts right)
    where
      all_fit : (cs : List (List ℕ × Value)) → AllByRecursion (λ (c : List ℕ × Value). IsConstantValue env c.0 c.1) cs → AllByRecursion (λ (c : List ℕ × Value). FitsPlaces p c.0 c.1) cs
      all_fit [] h = tt
      all_fit (c ∷ cs) h = (constant_fits c.0 c.1 h.0, all_fit cs h.1)
