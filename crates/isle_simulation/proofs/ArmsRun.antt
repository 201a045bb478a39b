-- The pattern of an arm fits where its constraint is met, and binds the fields of the arm's places, or what is within an option.
use Rattle.std.proofs.Common.{◌≡◌, ℕ, suc, ◌+◌, ◌≤◌, List, [], ◌∷◌, ◌++◌, length, map, Bool, true, false, cond, Option, Some, None, refl, sym, ap, ◌∙◌, subst, arith, append_assoc}
use Rattle.std.specs.Prelude.{IsSomeAnd, option_map, option_and_then, slice_get}
use Rattle.std.specs.Str.{bytes_eq}
use Rattle.std.proofs.lemmas.List.{append-nil, length-map}
use Rattle.std.proofs.lemmas.Option.{slice_get-map}
use Rattle.std.proofs.lemmas.Slice.Eq.{bytes_eq-Decides}
use Rattle.isle_core.specs.Answered.{item_of}
use Rattle.isle_core.specs.declared.BindingId.{BindingId}
use Rattle.isle_core.specs.declared.Sym.{Sym}
use Rattle.isle_core.specs.declared.TypeId.{TypeId}
use Rattle.isle_core.specs.declared.VariantId.{VariantId}
use Rattle.isle_core.specs.declared.rule_sets.Binding.{Binding}
use Rattle.isle_core.specs.declared.rule_sets.Binding.TheVariants as binding
use Rattle.isle_core.specs.declared.rule_sets.Constraint.{Constraint}
use Rattle.isle_core.specs.declared.rule_sets.Constraint.TheVariants as constraint
use Rattle.isle_core.specs.declared.types.Field.{Field as FieldDef}
use Rattle.isle_core.specs.declared.types.Fields.{Fields}
use Rattle.isle_core.specs.declared.types.Fields.TheVariants as fields
use Rattle.isle_core.specs.declared.types.TypeDef.{TypeDef}
use Rattle.isle_core.specs.declared.types.TypeDef.TheVariants as def
use Rattle.isle_core.specs.declared.types.Variant.{Variant as VariantDef}
use Rattle.isle_core.specs.ArmPlaces.{field_count, HasFields, IsStructOf, AreParts, ArePlacesOf, bound_within}
use Rattle.isle_core.specs.ConstraintType.{IsConstraintOf}
use Rattle.isle_core.specs.Form.{Form, form_of_variant, variant_form, struct_form, form, form_types, is_named, is_of_form}
use Rattle.isle_core.specs.HasType.{tuple_fields, typed_fields, HasType, HaveTypes}
use Rattle.isle_core.specs.Making.{Making, MakesVariant, MakesStruct}
use Rattle.isle_core.specs.Nameless.{nameless, nameless_fields}
use Rattle.isle_core.specs.Path.{Path, VariantField, StructField, Inner, at}
use Rattle.isle_core.specs.PathType.{IsPathOf, IsTupleOf, IsOptionOf, IsListOf}
use Rattle.isle_core.specs.PatternType.{IsOfMaking}
use Rattle.isle_core.specs.Rule.{Environment}
use Rattle.isle_core.specs.Setting.{Setting, paths_in}
use Rattle.isle_core.specs.Terms.{sym_text}
use Rattle.isle_core.specs.Value.{Value, Truth, Int, Opaque, Variant, Struct, FieldValues}
use Rattle.isle_core.specs.ValueAt.{Held, One, Optional, Known, a_value, held, inner_held, field_held, value_at, is_found, meets}
use Rattle.isle_core.proofs.BindingPaths.{HasParts, path_at, typed_parts, option_parts, list_parts, tuple_parts}
use Rattle.isle_printer.specs.Bytes.{same_bytes}
use Rattle.isle_printer.proofs.Bytes.{same_bytes_refl, same_bytes_sound}
use Rattle.isle_tree.specs.declared.tree.TBind.{TBind}
use Rattle.isle_tree.specs.declared.tree.TPat.{TPat}
use Rattle.isle_tree.specs.declared.tree.TPat.TheVariants as pattern
use Rattle.isle_tree.specs.Run.{Around, Env, bind, fit_some, field_of, local_before, fit_fields, fit}
use Rattle.isle_simulation.specs.Patterns.{bind_before, field_binds, leaves_out, pattern_named, form_pattern, pattern_of}
use Rattle.isle_simulation.specs.References.{is_declared}
use Rattle.isle_simulation.proofs.LocalsAgree.{Stands, Agree, bind_agrees}
use Rattle.isle_simulation.proofs.MadeValues.{fields_in, parts_are, fields_nameless, named_nameless, made_fields, AreApart, FieldAt, field_at, field_like}
use Rattle.isle_simulation.proofs.OneBind.{within_stands}
use Rattle.isle_simulation.proofs.PathTypes.{one_type}
use Rattle.isle_simulation.proofs.PathValues.{Grounds, IsValueAt}
use Rattle.isle_simulation.proofs.ResultsAt.{IsOptionAt}

-- ---- places have fields

tuple_count : (i : ℕ) (tys : List TypeId) → length (tuple_fields i tys) ≡ length tys
tuple_count i [] = refl
tuple_count i (ty ∷ tys) = ap suc (tuple_count (suc i) tys)

typed_count : (env : Environment) (fs : Fields) → length (typed_fields env fs) ≡ field_count fs
typed_count env fields.Unit = refl
typed_count env (fields.Struct named) = length-map named (λ (f : FieldDef). (sym_text env f.name, f.ty))
typed_count env (fields.Tuple tys) = tuple_count 0 tys

same_form : (a b : Form) → Some a ≡ Some b → a ≡ b
same_form a b e = cc

counted : (env : Environment) (n : ℕ) (fs : Fields) (f g : Form) → n ≤ field_count fs → fs ≡ g.fields → g ≡ f → n ≤ length (typed_fields env f.fields)
counted env n fs f g h e k =
    let there : length (typed_fields env f.fields) ≡ field_count fs = typed_count env f.fields ∙ sym (ap field_count (e ∙ ap (λ (x : Form). x.fields) k)) in
    omega (arith, h, there)

variant_count : (env : Environment) (ty : TypeId) (variant : VariantId) (n : ℕ) (f : Form) (o : Option TypeDef) → option_and_then (variant_form variant) o ≡ Some f → IsSomeAnd o (λ d. HasFields d variant n) → n ≤ length (typed_fields env f.fields)
variant_count env ty variant n f None e h = absurd h
variant_count env ty variant n f (Some (def.Enum name is_extern is_nodebug variants place)) e h = one (slice_get variants variant.0) e h
  where
    one : (o : Option VariantDef) → option_map (form_of_variant name) o ≡ Some f → IsSomeAnd o (λ (v : VariantDef). n ≤ field_count v.fields) → n ≤ length (typed_fields env f.fields)
    one None e h = absurd h
    one (Some w) e h = counted env n w.fields f (form_of_variant name w) h refl (same_form (form_of_variant name w) f e)
variant_count env ty variant n f (Some (def.Builtin of)) e h = absurd h
variant_count env ty variant n f (Some (def.Primitive name rust place)) e h = absurd h
variant_count env ty variant n f (Some (def.Struct name is_extern is_nodebug fs place)) e h = absurd h

struct_count : (env : Environment) (n : ℕ) (f : Form) (o : Option TypeDef) → option_and_then struct_form o ≡ Some f → IsSomeAnd o (λ d. IsStructOf d n) → n ≤ length (typed_fields env f.fields)
struct_count env n f None e h = absurd h
struct_count env n f (Some (def.Struct name is_extern is_nodebug fs place)) e h = let g : Form = record { ty = name; variant = None; fields = fs } in counted env n fs f g h refl (same_form g f e)
struct_count env n f (Some (def.Enum name is_extern is_nodebug variants place)) e h = absurd h
struct_count env n f (Some (def.Builtin of)) e h = absurd h
struct_count env n f (Some (def.Primitive name rust place)) e h = absurd h

-- a pattern for as many places as there are fields, or fewer
pub binds_there : (env : Environment) (fs : List (List ℕ × TypeId)) (places : List (Option BindingId)) → length places ≤ length fs → (binds : List TBind) × (field_binds env fs places ≡ Some binds)
binds_there env fs [] le = ([], refl)
binds_there env [] (p ∷ places) le = absurd (omega (arith, le))
binds_there env (f ∷ fs) (None ∷ places) le = binds_there env fs places (omega (arith, le))
binds_there env (f ∷ fs) (Some b ∷ places) le =
    let k = binds_there env fs places (omega (arith, le)) in
    (record { field = f.0; by_ref = is_declared env f.1; local = b.0 } ∷ k.0, ap (bind_before (record { field = f.0; by_ref = is_declared env f.1; local = b.0 })) k.1)

-- ---- the fields that places bind

-- each field from the i-th on is so
abbrev AreSo : (ℕ → List ℕ × TypeId → Type 0) → ℕ → List (List ℕ × TypeId) → Type 0
AreSo Q i [] = Unit {0}
AreSo Q i (f ∷ fs) = Q i f × AreSo Q (suc i) fs

plus_zero : (i : ℕ) → i + 0 ≡ i
plus_zero i = omega arith

plus_suc : (i j : ℕ) → i + suc j ≡ suc i + j
plus_suc i j = omega arith

zero_plus : (j : ℕ) → 0 + j ≡ j
zero_plus j = omega arith

each_so : (Q : ℕ → List ℕ × TypeId → Type 0) (fs : List (List ℕ × TypeId)) (i : ℕ) → ((j : ℕ) (f : List ℕ × TypeId) → slice_get fs j ≡ Some f → Q (i + j) f) → AreSo Q i fs
each_so Q [] i h = tt
each_so Q (f ∷ fs) i h = (subst (λ n. Q n f) (plus_zero i) (h 0 f refl), each_so Q fs (suc i) (λ j g e. subst (λ n. Q n g) (plus_suc i j) (h (suc j) g e)))

-- the run has the field's value, and a binding of the field stands for it
record FieldStands (s : Setting) (u : Around) (known : Known) (part : ℕ → Binding) (rs : FieldValues) (j : ℕ) (f : List ℕ × TypeId) : Type 0 where
  r : Value
  found : field_of f.0 rs ≡ Some r
  stands : (b : BindingId) → slice_get s.bindings b.0 ≡ Some (part j) → Stands s.env s.term (at (paths_in s) b) (a_value r) (value_at s.env u.meaning u.args known (at (paths_in s) b))

-- the fields fit, and the locals after them agree
record PlacesFit (s : Setting) (u : Around) (bound : List ℕ) (known : Known) (locals : Env) (fs : List (List ℕ × TypeId)) (rs : FieldValues) (places : List (Option BindingId)) : Type 0 where
  binds : List TBind
  more : Env
  spelled : field_binds s.env fs places ≡ Some binds
  fits : fit_fields binds rs ≡ Some more
  agree : Agree s u (bound_within bound places) known (locals ++ more)

places_fit : (s : Setting) (u : Around) (known : Known) (part : ℕ → Binding) (rs : FieldValues) (i : ℕ) (fs : List (List ℕ × TypeId)) (places : List (Option BindingId)) (bound : List ℕ) (locals : Env)
    → AreSo (FieldStands s u known part rs) i fs → AreParts s part i places → length places ≤ length fs → Agree s u bound known locals → PlacesFit s u bound known locals fs rs places
places_fit s u known part rs i fs [] bound locals h k le a = record { binds = []; more = []; spelled = refl; fits = refl; agree = subst (Agree s u bound known) (sym (append-nil locals)) a }
places_fit s u known part rs i [] (p ∷ places) bound locals h k le a = absurd (omega (arith, le))
places_fit s u known part rs i (f ∷ fs) (None ∷ places) bound locals h k le a =
    let x = places_fit s u known part rs (suc i) fs places bound locals h.1 k.1 (omega (arith, le)) a in
    record { binds = x.binds; more = x.more; spelled = x.spelled; fits = x.fits; agree = x.agree }
places_fit s u known part rs i (f ∷ fs) (Some b ∷ places) bound locals h k le a =
    let g = h.0 in
    let x = places_fit s u known part rs (suc i) fs places (bound ++ b.0 ∷ []) (bind locals b.0 (a_value g.r)) h.1 k.1 (omega (arith, le)) (bind_agrees s u bound known locals b (a_value g.r) a (g.stands b k.0)) in
    record {
      binds = record { field = f.0; by_ref = is_declared s.env f.1; local = b.0 } ∷ x.binds;
      more = (b.0, a_value g.r) ∷ x.more;
      spelled = ap (bind_before (record { field = f.0; by_ref = is_declared s.env f.1; local = b.0 })) x.spelled;
      fits = ap (λ o. local_before b.0 o (fit_fields x.binds rs)) g.found ∙ ap (local_before b.0 (Some g.r)) x.fits;
      agree = subst (Agree s u (bound_within (bound ++ b.0 ∷ []) places) known) (append_assoc locals ((b.0, a_value g.r) ∷ []) x.more) x.agree;
    }

-- ---- a field stands for its binding

same_type : (a b : TypeId) → Some a ≡ Some b → a ≡ b
same_type a b e = cc

-- what a path over a source is, if that is one of this type
record IsFieldOf (s : Setting) (u : Around) (known : Known) (source b : BindingId) (mk : TypeId → Making) (over : Path → Path) (j : ℕ) : Type 0 where
  path : HasParts (at (paths_in s) b) → at (paths_in s) b ≡ over (at (paths_in s) source)
  typed : (ty : TypeId) → IsPathOf s.env s.term (over (at (paths_in s) source)) ty → (of : TypeId) × IsPathOf s.env s.term (at (paths_in s) source) of × IsSomeAnd (form s.env (mk of)) (λ f. slice_get (form_types s.env f) j ≡ Some ty)
  no_tuple : (tys : List TypeId) → IsTupleOf s.env s.term (over (at (paths_in s) source)) tys → ⊥
  no_option : (tys : List TypeId) → IsOptionOf s.env s.term (over (at (paths_in s) source)) tys → ⊥
  no_list : (tys : List TypeId) → IsListOf s.env s.term (over (at (paths_in s) source)) tys → ⊥
  is : value_at s.env u.meaning u.args known (over (at (paths_in s) source)) ≡ field_held j (value_at s.env u.meaning u.args known (at (paths_in s) source))

field_stands : (s : Setting) (u : Around) (known : Known) (source b : BindingId) (mk : TypeId → Making) (over : Path → Path) (j : ℕ) (ty : TypeId) (f : Form) (field : List ℕ × TypeId) (v r : Value) → IsFieldOf s u known source b mk over j
    → IsPathOf s.env s.term (at (paths_in s) source) ty → form s.env (mk ty) ≡ Some f → slice_get (typed_fields s.env f.fields) j ≡ Some field → value_at s.env u.meaning u.args known (at (paths_in s) source) ≡ a_value v
    → (w : FieldAt s.env (fields_in v) j field) → nameless r ≡ nameless w.v → Stands s.env s.term (at (paths_in s) b) (a_value r) (value_at s.env u.meaning u.args known (at (paths_in s) b))
field_stands s u known source b mk over j ty f field v r x of e at_j held_v w same = record {
  value = λ ty' k. one ty' k (x.path (typed_parts s.env s.term (at (paths_in s) b) ty' k));
  tuple = λ tys k. absurd (x.no_tuple tys (subst (λ p. IsTupleOf s.env s.term p tys) (x.path (tuple_parts s.env s.term (at (paths_in s) b) tys k)) k));
  option = λ tys k. absurd (x.no_option tys (subst (λ p. IsOptionOf s.env s.term p tys) (x.path (option_parts s.env s.term (at (paths_in s) b) tys k)) k));
  list = λ tys k. absurd (x.no_list tys (subst (λ p. IsListOf s.env s.term p tys) (x.path (list_parts s.env s.term (at (paths_in s) b) tys k)) k));
}
  where
    type_is : (ty' : TypeId) (o : Option Form) → o ≡ Some f → IsSomeAnd o (λ g. slice_get (form_types s.env g) j ≡ Some ty') → field.1 ≡ ty'
    type_is ty' None k h = absurd h
    type_is ty' (Some g) k h =
        let there : slice_get (form_types s.env f) j ≡ Some ty' = subst (λ y. slice_get (form_types s.env y) j ≡ Some ty') (same_form g f k) h in
        same_type field.1 ty' (sym (ap (option_map (λ (y : List ℕ × TypeId). y.1)) at_j) ∙ sym (slice_get-map (λ (y : List ℕ × TypeId). y.1) (typed_fields s.env f.fields) j) ∙ there)

    one : (ty' : TypeId) → IsPathOf s.env s.term (at (paths_in s) b) ty' → at (paths_in s) b ≡ over (at (paths_in s) source) → IsValueAt s.env (a_value r) (value_at s.env u.meaning u.args known (at (paths_in s) b)) ty'
    one ty' k p =
        let t = x.typed ty' (subst (λ q. IsPathOf s.env s.term q ty') p k) in
        let is_ty : t.0 ≡ ty = one_type s.env s.term (at (paths_in s) source) t.0 ty t.1 of in
        let there = type_is ty' (form s.env (mk t.0)) (ap (λ y. form s.env (mk y)) is_ty ∙ e) t.2 in
        record {
          v = w.v;
          r = r;
          run = refl;
          block = ap (value_at s.env u.meaning u.args known) p ∙ x.is ∙ ap (field_held j) held_v ∙ ap (λ vs. held (slice_get vs j)) (parts_are v) ∙ ap held w.there;
          same = same;
          typed = subst (HasType s.env w.v) there w.typed;
        }

-- ---- the pattern of a form

tests_same : (a b : List ℕ) → same_bytes a b ≡ bytes_eq b a
tests_same a b = one (same_bytes a b) (bytes_eq b a) refl refl
  where
    one : (x y : Bool) → same_bytes a b ≡ x → bytes_eq b a ≡ y → x ≡ y
    one true true e f = refl
    one false false e f = refl
    one true false e f = let k = (bytes_eq-Decides b a).1 (sym (same_bytes_sound a b e)) in cc
    one false true e f = let k : same_bytes a b ≡ true = subst (λ z. same_bytes a z ≡ true) (sym ((bytes_eq-Decides b a).0 f)) (same_bytes_refl a) in cc

-- a pattern of these names fits what has them
fit_named : (env : Environment) (u : Around) (ty : Sym) (variant : Option Sym) (more : Bool) (binds : List TBind) (r : Value) → fit u (pattern_named env ty variant more binds) (a_value r) ≡ cond (is_named env ty variant r) (fit_fields binds (fields_in r)) None
fit_named env u ty (Some variant) more binds (Variant of name fs) = rw (tests_same (sym_text env ty) of, tests_same (sym_text env variant) name) refl
fit_named env u ty None more binds (Struct of fs) = rw (tests_same (sym_text env ty) of) refl
fit_named env u ty (Some variant) more binds (Struct of fs) = refl
fit_named env u ty None more binds (Variant of name fs) = refl
fit_named env u ty (Some variant) more binds (Truth b) = refl
fit_named env u ty (Some variant) more binds (Int of n) = refl
fit_named env u ty (Some variant) more binds (Opaque of n) = refl
fit_named env u ty None more binds (Truth b) = refl
fit_named env u ty None more binds (Int of n) = refl
fit_named env u ty None more binds (Opaque of n) = refl

-- whether the pattern fits, and what agrees then
abbrev pub FitsBy : Setting → Around → (bound : List ℕ) → Known → Env → List (Option BindingId) → TPat → Held → Bool → Type 0
FitsBy s u bound known locals places pat h true = (more : Env) × (fit u pat h ≡ Some more) × Agree s u (bound_within bound places) known (locals ++ more)
FitsBy s u bound known locals places pat h false = fit u pat h ≡ None

pub same_binds : (a b : List TBind) → Some a ≡ Some b → a ≡ b
same_binds a b e = cc

-- so of a form's places, where they are of its parts
form_fits : (s : Setting) (u : Around) (bound : List ℕ) (known : Known) (locals : Env) (source : BindingId) (ty : TypeId) (mk : TypeId → Making) (part : ℕ → Binding) (places : List (Option BindingId)) (f : Form)
    → Grounds s u → Agree s u bound known locals → IsPathOf s.env s.term (at (paths_in s) source) ty → IsOfMaking ty (mk ty) → form s.env (mk ty) ≡ Some f → length places ≤ length (typed_fields s.env f.fields) → AreParts s part 0 places
    → ((j : ℕ) (b : BindingId) → slice_get s.bindings b.0 ≡ Some (part j) → (over' : Path → Path) × IsFieldOf s u known source b mk over' j)
    → (h : Held) → (x : IsValueAt s.env h (value_at s.env u.meaning u.args known (at (paths_in s) source)) ty) → (binds : List TBind) → field_binds s.env (typed_fields s.env f.fields) places ≡ Some binds
    → (more : Bool) → FitsBy s u bound known locals places (pattern_named s.env f.ty f.variant more binds) h (is_named s.env f.ty f.variant x.v)
form_fits s u bound known locals source ty mk part places f g a of makes e le parts' field h x binds spelled more = by (is_named s.env f.ty f.variant x.v) refl
  where
    pat : TPat
    pat = pattern_named s.env f.ty f.variant more binds

    fits : (b : Bool) → is_named s.env f.ty f.variant x.v ≡ b → fit u pat h ≡ cond b (fit_fields binds (fields_in x.r)) None
    fits b n =
        ap (fit u pat) x.run ∙ fit_named s.env u f.ty f.variant more binds x.r
        ∙ ap (λ y. cond y (fit_fields binds (fields_in x.r)) None) (sym (named_nameless s.env f.ty f.variant x.r) ∙ ap (is_named s.env f.ty f.variant) x.same ∙ named_nameless s.env f.ty f.variant x.v ∙ n)

    bound_so : is_named s.env f.ty f.variant x.v ≡ true → PlacesFit s u bound known locals (typed_fields s.env f.fields) (fields_in x.r) places → FitsBy s u bound known locals places pat h true
    bound_so n p = (p.more, fits true n ∙ ap (λ bs. fit_fields bs (fields_in x.r)) (sym (same_binds p.binds binds (sym p.spelled ∙ spelled))) ∙ p.fits, p.agree)

    by : (b : Bool) → is_named s.env f.ty f.variant x.v ≡ b → FitsBy s u bound known locals places pat h b
    by false n = fits false n
    by true n =
        let fs = typed_fields s.env f.fields in
        let typed = made_fields s.env ty (mk ty) f x.v g.names.apart.variants makes e x.typed n in
        let apart : AreApart fs = λ i j c d. g.names.apart.fields (mk ty) f i j c d e in
        let like : nameless_fields (fields_in x.r) ≡ nameless_fields (fields_in x.v) = sym (fields_nameless x.r) ∙ ap fields_in x.same ∙ fields_nameless x.v in
        let each : AreSo (FieldStands s u known part (fields_in x.r)) 0 fs = each_so (FieldStands s u known part (fields_in x.r)) fs 0 (λ j field' at_j. subst (λ n. FieldStands s u known part (fields_in x.r) n field') (sym (zero_plus j)) (
        let w = field_at s.env fs (fields_in x.v) j field' apart typed at_j in
        let r = field_like field'.0 (fields_in x.r) (fields_in x.v) w.v like w.named in
        record { r = r.0; found = r.1; stands = λ b at_b. let o = field j b at_b in field_stands s u known source b mk o.0 j ty f field' x.v r.0 o.1 of e at_j x.block w r.2 })) in
        bound_so n (places_fit s u known part (fields_in x.r) 0 fs places bound locals each parts' le a)

-- ---- the arms of variants and structs

-- a constraint on a value that is made
abbrev pub IsForm : Constraint → Type 0
IsForm (constraint.Variant ty variant) = Unit {0}
IsForm (constraint.Struct ty) = Unit {0}
IsForm c = ⊥

-- the pattern of a constraint, of a form, with what the places bind
pub record ArmPattern (env : Environment) (c : Constraint) (places : List (Option BindingId)) : Type 0 where
  pub mk : Making
  pub f : Form
  pub found : form env mk ≡ Some f
  pub binds : List TBind
  pub spelled : field_binds env (typed_fields env f.fields) places ≡ Some binds
  pub is : pattern_of env c places ≡ Some (pattern_named env f.ty f.variant (leaves_out (typed_fields env f.fields) places) binds)

form_spelled : (env : Environment) (c : Constraint) (places : List (Option BindingId)) (mk : Making) (f : Form) → form env mk ≡ Some f → pattern_of env c places ≡ form_pattern env (form env mk) places → length places ≤ length (typed_fields env f.fields) → ArmPattern env c places
form_spelled env c places mk f e k le =
    let b = binds_there env (typed_fields env f.fields) places le in
    record {
      mk = mk;
      f = f;
      found = e;
      binds = b.0;
      spelled = b.1;
      is = k ∙ ap (λ y. form_pattern env y places) e ∙ ap (option_map (pattern_named env f.ty f.variant (leaves_out (typed_fields env f.fields) places))) b.1;
    }

form_somewhere : (env : Environment) (mk : Making) (o : Option Form) → form env mk ≡ o → IsSomeAnd o (λ f. Unit {0}) → (f : Form) × (form env mk ≡ Some f)
form_somewhere env mk None e h = absurd h
form_somewhere env mk (Some f) e h = (f, e)

-- an arm of a form has a pattern
pub arm_pattern : (s : Setting) (source : BindingId) (ty : TypeId) (c : Constraint) (places : List (Option BindingId)) → IsConstraintOf s.env c ty → ArePlacesOf s source c places → IsForm c → ArmPattern s.env c places
arm_pattern s source ty (constraint.Variant of variant) places k parts' is =
    let f = form_somewhere s.env (MakesVariant of variant) (form s.env (MakesVariant of variant)) refl k.1 in
    form_spelled s.env (constraint.Variant of variant) places (MakesVariant of variant) f.0 f.1 refl (variant_count s.env of variant (length places) f.0 (slice_get s.env.types.types of.0) f.1 parts'.0)
arm_pattern s source ty (constraint.Struct of) places k parts' is =
    let f = form_somewhere s.env (MakesStruct of) (form s.env (MakesStruct of)) refl k.1 in
    form_spelled s.env (constraint.Struct of) places (MakesStruct of) f.0 f.1 refl (struct_count s.env (length places) f.0 (slice_get s.env.types.types of.0) f.1 parts'.0)
arm_pattern s source ty c places k parts' is = absurd is

-- the pattern of an arm, and when it fits, by what is held where the block runs
pub record ArmFits (s : Setting) (u : Around) (bound : List ℕ) (known : Known) (locals : Env) (c : Constraint) (places : List (Option BindingId)) (h g : Held) : Type 0 where
  pub pat : TPat
  pub spelled : pattern_of s.env c places ≡ Some pat
  pub fits : FitsBy s u bound known locals places pat h (meets s.env u.meaning c g)

variant_field : (s : Setting) (u : Around) (known : Known) (source : BindingId) (variant : VariantId) (j : ℕ) (b : BindingId) → slice_get s.bindings b.0 ≡ Some (binding.MatchVariant source variant (record { 0 = j })) → IsFieldOf s u known source b (λ of. MakesVariant of variant) (VariantField variant j) j
variant_field s u known source variant j b e = record { path = λ h. path_at s.bindings b (binding.MatchVariant source variant (record { 0 = j })) e h; typed = λ ty k. k; no_tuple = λ tys k. k; no_option = λ tys k. k; no_list = λ tys k. k; is = refl }

struct_field : (s : Setting) (u : Around) (known : Known) (source : BindingId) (j : ℕ) (b : BindingId) → slice_get s.bindings b.0 ≡ Some (binding.ExtractStruct source (record { 0 = j })) → IsFieldOf s u known source b MakesStruct (StructField j) j
struct_field s u known source j b e = record { path = λ h. path_at s.bindings b (binding.ExtractStruct source (record { 0 = j })) e h; typed = λ ty k. k; no_tuple = λ tys k. k; no_option = λ tys k. k; no_list = λ tys k. k; is = refl }

pub arm_fits : (s : Setting) (u : Around) (bound : List ℕ) (known : Known) (locals : Env) (source : BindingId) (ty : TypeId) (c : Constraint) (places : List (Option BindingId)) (h : Held) → Grounds s u → Agree s u bound known locals
    → IsPathOf s.env s.term (at (paths_in s) source) ty → IsConstraintOf s.env c ty → ArePlacesOf s source c places → IsForm c → (x : IsValueAt s.env h (value_at s.env u.meaning u.args known (at (paths_in s) source)) ty)
    → ArmFits s u bound known locals c places h (a_value x.v)
arm_fits s u bound known locals source ty (constraint.Variant of variant) places h g a path k parts' is x = one (form s.env (MakesVariant of variant)) refl k.1
  where
    one : (o : Option Form) → form s.env (MakesVariant of variant) ≡ o → IsSomeAnd o (λ f. Unit {0}) → ArmFits s u bound known locals (constraint.Variant of variant) places h (a_value x.v)
    one None e some = absurd some
    one (Some f) e some =
        let here : form s.env (MakesVariant ty variant) ≡ Some f = ap (λ y. form s.env (MakesVariant y variant)) (sym k.0) ∙ e in
        let le = variant_count s.env of variant (length places) f (slice_get s.env.types.types of.0) e parts'.0 in
        let b = binds_there s.env (typed_fields s.env f.fields) places le in
        record {
          pat = pattern_named s.env f.ty f.variant (leaves_out (typed_fields s.env f.fields) places) b.0;
          spelled = ap (λ y. form_pattern s.env y places) e ∙ ap (option_map (pattern_named s.env f.ty f.variant (leaves_out (typed_fields s.env f.fields) places))) b.1;
          fits = subst (FitsBy s u bound known locals places (pattern_named s.env f.ty f.variant (leaves_out (typed_fields s.env f.fields) places) b.0) h) (sym (ap (λ y. is_of_form s.env y x.v) e))
              (form_fits s u bound known locals source ty (λ y. MakesVariant y variant) (λ i. binding.MatchVariant source variant (record { 0 = i })) places f g a path refl here le parts'.1 (λ j d at_d. (VariantField variant j, variant_field s u known source variant j d at_d)) h x b.0 b.1 _);
        }
arm_fits s u bound known locals source ty (constraint.Struct of) places h g a path k parts' is x = one (form s.env (MakesStruct of)) refl k.1
  where
    one : (o : Option Form) → form s.env (MakesStruct of) ≡ o → IsSomeAnd o (λ f. Unit {0}) → ArmFits s u bound known locals (constraint.Struct of) places h (a_value x.v)
    one None e some = absurd some
    one (Some f) e some =
        let here : form s.env (MakesStruct ty) ≡ Some f = ap (λ y. form s.env (MakesStruct y)) (sym k.0) ∙ e in
        let le = struct_count s.env (length places) f (slice_get s.env.types.types of.0) e parts'.0 in
        let b = binds_there s.env (typed_fields s.env f.fields) places le in
        record {
          pat = pattern_named s.env f.ty f.variant (leaves_out (typed_fields s.env f.fields) places) b.0;
          spelled = ap (λ y. form_pattern s.env y places) e ∙ ap (option_map (pattern_named s.env f.ty f.variant (leaves_out (typed_fields s.env f.fields) places))) b.1;
          fits = subst (FitsBy s u bound known locals places (pattern_named s.env f.ty f.variant (leaves_out (typed_fields s.env f.fields) places) b.0) h) (sym (ap (λ y. is_of_form s.env y x.v) e))
              (form_fits s u bound known locals source ty MakesStruct (λ i. binding.ExtractStruct source (record { 0 = i })) places f g a path refl here le parts'.1 (λ j d at_d. (StructField j, struct_field s u known source j d at_d)) h x b.0 b.1 _);
        }
arm_fits s u bound known locals source ty c places h g a path k parts' is x = absurd is

-- ---- the arm of an option

-- a binding of what is within stands for it
inner_stands : (s : Setting) (u : Around) (known : Known) (source b : BindingId) (tys : List TypeId) (vs rs : List Value) → slice_get s.bindings b.0 ≡ Some (binding.MatchSome source) → IsOptionOf s.env s.term (at (paths_in s) source) tys
    → value_at s.env u.meaning u.args known (at (paths_in s) source) ≡ Optional (Some (item_of vs)) → map nameless rs ≡ map nameless vs → HaveTypes s.env vs tys → Stands s.env s.term (at (paths_in s) b) (One (item_of rs)) (value_at s.env u.meaning u.args known (at (paths_in s) b))
inner_stands s u known source b tys vs rs e of held_v same typed = record {
  value = λ ty k. let p = from (typed_parts s.env s.term (at (paths_in s) b) ty k) in (within p).value ty (subst (λ q. IsPathOf s.env s.term q ty) p k);
  tuple = λ tys' k. let p = from (tuple_parts s.env s.term (at (paths_in s) b) tys' k) in (within p).tuple tys' (subst (λ q. IsTupleOf s.env s.term q tys') p k);
  option = λ tys' k. let p = from (option_parts s.env s.term (at (paths_in s) b) tys' k) in (within p).option tys' (subst (λ q. IsOptionOf s.env s.term q tys') p k);
  list = λ tys' k. let p = from (list_parts s.env s.term (at (paths_in s) b) tys' k) in (within p).list tys' (subst (λ q. IsListOf s.env s.term q tys') p k);
}
  where
    from : HasParts (at (paths_in s) b) → at (paths_in s) b ≡ Inner (at (paths_in s) source)
    from parts' = path_at s.bindings b (binding.MatchSome source) e parts'

    within : at (paths_in s) b ≡ Inner (at (paths_in s) source) → Stands s.env s.term (Inner (at (paths_in s) source)) (One (item_of rs)) (value_at s.env u.meaning u.args known (at (paths_in s) b))
    within p = within_stands s.env s.term (at (paths_in s) source) tys vs rs (value_at s.env u.meaning u.args known (at (paths_in s) b)) of same typed (ap (value_at s.env u.meaning u.args known) p ∙ ap inner_held held_v)

nothing_fits : (local : Option ℕ) → fit_some local (Optional None) ≡ None
nothing_fits None = refl
nothing_fits (Some n) = refl

-- the pattern of an option fits if that is one of something, and binds it
pub some_fits : (s : Setting) (u : Around) (bound : List ℕ) (known : Known) (locals : Env) (source : BindingId) (tys : List TypeId) (places : List (Option BindingId)) (h : Held) → Agree s u bound known locals
    → IsOptionOf s.env s.term (at (paths_in s) source) tys → ArePlacesOf s source constraint.Some places → (x : IsOptionAt s.env h (value_at s.env u.meaning u.args known (at (paths_in s) source)) tys)
    → ArmFits s u bound known locals constraint.Some places h (Optional (option_map item_of x.o))
some_fits s u bound known locals source tys places h a of parts' x = within places parts'.0 parts'.1
  where
    -- the local of what is within, if there is one, agrees
    Binds : List (Option BindingId) → Option ℕ → Type 0
    Binds ps local = (vs rs : List Value) → value_at s.env u.meaning u.args known (at (paths_in s) source) ≡ Optional (Some (item_of vs)) → map nameless rs ≡ map nameless vs → HaveTypes s.env vs tys
        → (more : Env) × (fit_some local (Optional (Some (item_of rs))) ≡ Some more) × Agree s u (bound_within bound ps) known (locals ++ more)

    like : (vs rs : List Value) → option_map (map nameless) (Some rs) ≡ option_map (map nameless) (Some vs) → map nameless rs ≡ map nameless vs
    like vs rs e = cc

    by : (ps : List (Option BindingId)) (local : Option ℕ) (o q : Option (List Value)) → value_at s.env u.meaning u.args known (at (paths_in s) source) ≡ Optional (option_map item_of o) → h ≡ Optional (option_map item_of q)
        → option_map (map nameless) q ≡ option_map (map nameless) o → ((vs : List Value) → o ≡ Some vs → HaveTypes s.env vs tys) → Binds ps local → FitsBy s u bound known locals ps (pattern.Some local) h (is_found (Optional (option_map item_of o)))
    by ps local None None e f same typed k = ap (fit_some local) f ∙ nothing_fits local
    by ps local (Some vs) (Some rs) e f same typed k = let m = k vs rs e (like vs rs same) (typed vs refl) in (m.0, ap (fit_some local) f ∙ m.1, m.2)
    by ps local None (Some rs) e f same typed k = cc
    by ps local (Some vs) None e f same typed k = cc

    unbound : Agree s u bound known (locals ++ [])
    unbound = subst (Agree s u bound known) (sym (append-nil locals)) a

    within : (ps : List (Option BindingId)) → length ps ≤ 1 → AreParts s (λ i. binding.MatchSome source) 0 ps → ArmFits s u bound known locals constraint.Some ps h (Optional (option_map item_of x.o))
    within [] le k = record { pat = pattern.Some None; spelled = refl; fits = by [] None x.o x.q x.block x.run x.same x.typed (λ vs rs e same typed. ([], refl, unbound)) }
    within (None ∷ []) le k = record { pat = pattern.Some None; spelled = refl; fits = by (None ∷ []) None x.o x.q x.block x.run x.same x.typed (λ vs rs e same typed. ([], refl, unbound)) }
    within (Some b ∷ []) le k = record {
      pat = pattern.Some (Some b.0);
      spelled = refl;
      fits = by (Some b ∷ []) (Some b.0) x.o x.q x.block x.run x.same x.typed
          (λ vs rs e same typed. ((b.0, One (item_of rs)) ∷ [], refl, bind_agrees s u bound known locals b (One (item_of rs)) a (inner_stands s u known source b tys vs rs k.0 of e same typed)));
    }
    within (p ∷ q ∷ ps) le k = absurd (omega (arith, le))
