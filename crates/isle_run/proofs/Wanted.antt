-- What the rules of a term want of constants, each program wants that conforms to the source.
use Rattle.std.proofs.Common.{◌≡◌, ⊎_elim, ℕ, zero, suc, ℤ, List, [], ◌∷◌, ◌++◌, Bool, true, false, cond, Option, Some, None, refl, sym, ap, ◌∙◌, subst}
use Rattle.std.specs.Prelude.{◌&&◌, ◌||◌, not, Contains, filter_map, flat_map, is_some, option_and_then, slice_get, IsSomeAnd}
use Rattle.std.specs.List.{AllByRecursion, cons_option, list_any}
use Rattle.std.specs.Option.{option_map_or}
use Rattle.std.specs.Str.{bytes_eq}
use Rattle.std.proofs.lemmas.Slice.Eq.{bytes_eq-Decides}
use Rattle.isle_core.specs.declared.Sym.{Sym}
use Rattle.isle_core.specs.declared.TermId.{TermId}
use Rattle.isle_core.specs.declared.TypeId.{TypeId}
use Rattle.isle_core.specs.declared.files.Files.{Files}
use Rattle.isle_core.specs.declared.options.CodegenOptions.{CodegenOptions}
use Rattle.isle_core.specs.declared.types.TypeDef.{TypeDef}
use Rattle.isle_core.specs.declared.types.TypeDef.TheVariants as def
use Rattle.isle_core.specs.Constants.{int_value}
use Rattle.isle_core.specs.Form.{Form, form, struct_form}
use Rattle.isle_core.specs.Having.{const_of}
use Rattle.isle_core.specs.Making.{MakesStruct}
use Rattle.isle_core.specs.Meaning.{Meaning}
use Rattle.isle_core.specs.NamesApart.{ValuesConstants}
use Rattle.isle_core.specs.Path.{ConstBool, ConstInt, ConstPrim, MadeStruct, NoPath}
use Rattle.isle_core.specs.Rule.{Environment, Rule, rules_of}
use Rattle.isle_core.specs.SameInRun.{same_in_run}
use Rattle.isle_core.specs.Terms.{sym_text, with_rules}
use Rattle.isle_core.specs.Value.{Value, Truth, Int, Opaque, Variant, Struct}
use Rattle.isle_core.proofs.Contained.{head_contained, tail_contained, contained_cases, none_contained}
use Rattle.isle_lawful_names.specs.TypeItems.{fields_shape, item_of, type_item, type_items_of}
use Rattle.isle_lawful_names.proofs.HasRustNames.{has_rust_names}
use Rattle.isle_tree.specs.declared.tree.Operand.{Operand}
use Rattle.isle_tree.specs.declared.tree.Operand.TheVariants as operand
use Rattle.isle_tree.specs.declared.tree.TypeBody.TheVariants as type_body
use Rattle.isle_tree.specs.declared.tree.TypeItem.{TypeItem}
use Rattle.isle_tree.specs.Calls.{body_calls}
use Rattle.isle_tree.specs.Program.{Function, Program}
use Rattle.isle_tree.specs.Run.{function_of}
use Rattle.isle_tree.specs.WellFormed.{IsBody, IsFunction}
use Rattle.isle_printer.specs.Bytes.{same_bytes}
use Rattle.isle_operand_names.specs.Names.{body_names, is_among}
use Rattle.isle_operand_names.specs.Occurring.{item_types, trait_types, function_types, occurs}
use Rattle.isle_places.specs.Places.{Place, places, StandsAt}
use Rattle.isle_interpreter.specs.Apart.{constant_value, is_called, IsApart}
use Rattle.isle_interpreter.specs.Entries.{has_constant, FitsPlaces}
use Rattle.isle_run_inputs.specs.Requested.{requested_term}
use Rattle.isle_simulation.specs.Operands.{constant}
use Rattle.isle_simulation.specs.RustNames.{HasRustNames}
use Rattle.isle_simulation.proofs.PathValues.{struct_unnamed}
use Rattle.isle_codegen.proofs.FromBlocks.{given_from}
use Rattle.isle_codegen.specs.Checked.{IsChecked}
use Rattle.isle_codegen.specs.Spoken.{IsSpoken}
use Rattle.isle_codegen.proofs.LawfulNames.{compilable}
use Rattle.isle_codegen.proofs.Operands.{body_operands}
use Rattle.isle_codegen.proofs.SpokenOperands.{IsSpokenOperand, local, argument, unit_struct, truth, number, named, function_so}
use Rattle.isle_codegen.proofs.TypedNames.{typed_parts}
use Rattle.isle_run.specs.Conforming.{Conforms}
use Rattle.isle_run.specs.LeftOut.{is_left_out, leave_out}
use Rattle.isle_run.specs.RuleWants.{IsOwnStruct, IsApartIn, AreWantedBy}
use Rattle.isle_run.specs.Valid.{HasNoValue, AreRightConstants, AreWanted}
use Rattle.isle_run.proofs.GivenConstants.{typed_in, values_declared, none_given, among_of, none_holds}
use Rattle.isle_run.proofs.PlacedOperands.{body_so, body_named}
use Rattle.isle_run.proofs.RequestedTerms.{HasFunction, requested_function}

-- ---- numbers

-- the value of a number in a run is that of the source, but for the type name of an opaque one
opaque_same : (v : Value) (ty of : List ℕ) (n : ℤ) → same_in_run v (Opaque ty n) ≡ same_in_run v (Opaque of n)
unfolding same_in_run
opaque_same (Truth b) ty of n = refl
opaque_same (Int i k) ty of n = refl
opaque_same (Opaque name k) ty of n = refl
opaque_same (Variant name variant fs) ty of n = refl
opaque_same (Struct name fs) ty of n = refl

one_value : (a b : Value) → Some a ≡ Some b → a ≡ b
one_value a b e = cc

number_same : (p : Program) (m : Meaning) (u v w : Value) (o : Operand) → constant u ≡ Some o → constant_value p m o ≡ Some w → same_in_run v u ≡ same_in_run v w
number_same p m (Truth b) v w o e k = let is : o ≡ operand.Bool b = cc in ap (same_in_run v) (one_value (Truth b) w (sym (ap (constant_value p m) is) ∙ k))
number_same p m (Int ty n) v w o e k = let is : o ≡ operand.Int ty n = cc in ap (same_in_run v) (one_value (Int ty n) w (sym (ap (constant_value p m) is) ∙ k))
number_same p m (Opaque ty n) v w o e k = let is : o ≡ operand.Raw n = cc in opaque_same v ty [] n ∙ ap (same_in_run v) (one_value (Opaque [] n) w (sym (ap (constant_value p m) is) ∙ k))
number_same p m (Variant ty variant fs) v w o e k = absurd cc
number_same p m (Struct ty fs) v w o e k = absurd cc

-- no number is a name
no_name : (u : Value) (name : List ℕ) → constant u ≡ Some (operand.Name name) → ⊥
no_name (Truth b) name e = cc
no_name (Int ty n) name e = cc
no_name (Opaque ty n) name e = cc
no_name (Variant ty variant fs) name e = cc
no_name (Struct ty fs) name e = cc

-- ---- types that occur

-- a declared type of a definition is among the declared types
item_there : (f : TypeDef → Option TypeItem) (xs : List TypeDef) (i : ℕ) (x : TypeDef) (y : TypeItem) → slice_get xs i ≡ Some x → f x ≡ Some y → Contains (filter_map f xs) y
item_there f [] i x y there e = cc
item_there f (z ∷ xs) zero x y there e = let same : z ≡ x = cc in subst (λ (o : Option TypeItem). Contains (cons_option o (filter_map f xs)) y) (sym (ap f same ∙ e)) (head_contained y (filter_map f xs))
item_there f (z ∷ xs) (suc i) x y there e = later (f z) (item_there f xs i x y there e)
  where
    later : (o : Option TypeItem) → Contains (filter_map f xs) y → Contains (cons_option o (filter_map f xs)) y
    later None c = c
    later (Some w) c = tail_contained w (filter_map f xs) y c

any_left : (test : List ℕ → Bool) (xs ys : List (List ℕ)) → list_any test xs ≡ true → list_any test (xs ++ ys) ≡ true
any_left test [] ys e = absurd cc
any_left test (x ∷ xs) ys e = one (test x) e (any_left test xs ys)
  where
    one : (b : Bool) → (b || list_any test xs) ≡ true → (list_any test xs ≡ true → list_any test (xs ++ ys) ≡ true) → (b || list_any test (xs ++ ys)) ≡ true
    one true k later = refl
    one false k later = later k

any_right : (test : List ℕ → Bool) (xs ys : List (List ℕ)) → list_any test ys ≡ true → list_any test (xs ++ ys) ≡ true
any_right test [] ys e = e
any_right test (x ∷ xs) ys e = one (test x) (any_right test xs ys e)
  where
    one : (b : Bool) → list_any test (xs ++ ys) ≡ true → (b || list_any test (xs ++ ys)) ≡ true
    one true k = refl
    one false k = k

-- the name of a declared type is among the types
named_item : (items : List TypeItem) (t : TypeItem) → Contains items t → is_among t.name (flat_map item_types items) ≡ true
named_item [] t c = absurd (none_contained t c)
named_item (x ∷ items) t c = ⊎_elim (λ (e : x ≡ t). any_left (bytes_eq t.name) (item_types x) (flat_map item_types items) (first x e)) (λ d. any_right (bytes_eq t.name) (item_types x) (flat_map item_types items) (named_item items t d)) (contained_cases x items t c)
  where
    first : (y : TypeItem) → y ≡ t → list_any (bytes_eq t.name) (item_types y) ≡ true
    first y e = rw ((bytes_eq-Decides t.name y.name).1 (sym (ap (λ (z : TypeItem). z.name) e))) refl

module _ (options : CodegenOptions) (files : Files) (env : Environment) (checked : IsChecked files env) (p : Program) (conforms : Conforms options files env p) (term : List ℕ) (id : TermId) (requested : requested_term env term ≡ Some id) (args : List Value) (m : Meaning) (right : AreRightConstants env [] m.consts) (w : AreWantedBy env id m) where
  abbrev the_function : HasFunction options files env term p.fns id
  the_function = requested_function options files env term (with_rules env) p.fns id conforms.functions.declared conforms.functions.blocks requested

  abbrev f : Function
  f = the_function.function

  abbrev rules : List Rule
  rules = rules_of env id

  abbrev So : Operand → Type 0
  So = IsSpokenOperand env rules

  names : HasRustNames env
  names = has_rust_names _ env (compilable checked.lawful).lawful (typed_parts checked.defs env checked.lawful.typed.typed)

  values : ValuesConstants env m
  values = values_declared env m right

  -- ---- the function

  formed_in : (fs : List Function) → AllByRecursion (IsFunction p) fs → function_of term fs ≡ Some f → IsBody f.body
  formed_in [] h e = absurd cc
  formed_in (g ∷ fs) h e = one (same_bytes term g.term) e (formed_in fs h.1)
    where
      one : (b : Bool) → cond b (Some g) (function_of term fs) ≡ Some f → (function_of term fs ≡ Some f → IsBody f.body) → IsBody f.body
      one true k later = let same : g ≡ f = cc in subst (λ (x : Function). IsBody x.body) same h.0.forms
      one false k later = later k

  formed : IsBody f.body
  formed = formed_in p.fns conforms.well_formed.fns the_function.found

  operands : AllByRecursion So (body_operands f.body)
  operands =
      let b = the_function.block in
      function_so env b.term b.set rules b.stands options files b.block f b.lawful b.tests (given_from options files env _ f b)

  placed : AllByRecursion (λ (x : Place). So x.0) (places p f)
  placed = body_so So f.body p f [] formed operands

  named_so : AllByRecursion (λ (n : List ℕ). So (operand.Name n)) (body_names f.body)
  named_so = body_named So f.body formed operands

  of_place : (xs : List Place) (x : Place) → AllByRecursion (λ (y : Place). So y.0) xs → Contains xs x → So x.0
  of_place [] x h c = absurd (none_contained x c)
  of_place (y ∷ xs) x h c = ⊎_elim (λ e. subst (λ (z : Place). So z.0) e h.0) (λ d. of_place xs x h.1 d) (contained_cases y xs x c)

  same_function : (g : Function) → function_of term p.fns ≡ Some g → f ≡ g
  same_function g found = let e : Some f ≡ Some g = sym the_function.found ∙ found in cc

  -- ---- structs without fields

  own_item : (ty : TypeId) (o : Option TypeDef) (g : Form) → slice_get env.types.types ty.0 ≡ o → form env (MakesStruct ty) ≡ Some g → IsSomeAnd o IsOwnStruct → (t : TypeItem) × Contains (type_items_of env) t × (t.name ≡ sym_text env g.ty)
  own_item ty None g there e own = absurd own
  own_item ty (Some (def.Struct name true is_nodebug fields place)) g there e own = absurd cc
  own_item ty (Some (def.Struct name false is_nodebug fields place)) g there e own =
      let same : name ≡ g.ty = name_same (sym (ap (option_and_then struct_form) there) ∙ e) in
      let t = item_there (type_item env.types) env.types.types ty.0 (def.Struct name false is_nodebug fields place) (item_of env.types name is_nodebug (type_body.Struct (fields_shape env.types fields))) there refl in
      (item_of env.types name is_nodebug (type_body.Struct (fields_shape env.types fields)), t, ap (sym_text env) same)
    where
      name_same : Some (record { ty = name; variant = None; fields = fields }) ≡ Some g → name ≡ g.ty
      name_same k = cc
  own_item ty (Some (def.Enum name is_extern is_nodebug variants place)) g there e own = absurd own
  own_item ty (Some (def.Primitive name rust place)) g there e own = absurd own
  own_item ty (Some (def.Builtin b)) g there e own = absurd own

  -- its name is that of a type that occurs
  struct_occurs : (ty : TypeId) (g : Form) → form env (MakesStruct ty) ≡ Some g → IsSpoken env rules (MadeStruct ty NoPath) → occurs p (sym_text env g.ty) ≡ true
  struct_occurs ty g e spoken =
      let t = own_item ty (slice_get env.types.types ty.0) g refl e (w.structs ty spoken) in
      let among : is_among t.0.name (flat_map item_types p.types) ≡ true = named_item p.types t.0 (subst (λ (items : List TypeItem). Contains items t.0) (sym conforms.frame.types) t.1) in
      subst (λ (name : List ℕ). occurs p name ≡ true) t.2 (any_left (bytes_eq t.0.name) (flat_map item_types p.types) (flat_map trait_types p.trait_fns ++ flat_map function_types p.fns) among)

  -- ---- values

  valued : (name : List ℕ) (v : Value) → constant_value p m (operand.Name name) ≡ Some v → const_of m name ≡ Some v
  valued name v e = one (occurs p name) e
    where
      one : (b : Bool) → cond b None (const_of m name) ≡ Some v → const_of m name ≡ Some v
      one true k = absurd cc
      one false k = k

  held_apart : (name : List ℕ) (o : Operand) (v u : Value) → IsApartIn env rules m name → So o → is_called name o ≡ false → const_of m name ≡ Some v → constant_value p m o ≡ Some u → same_in_run v u ≡ false
  held_apart name _ v u apart (local n) other e k = absurd cc
  held_apart name _ v u apart (argument n) other e k = absurd cc
  held_apart name _ v u apart (unit_struct ty g is spoken) other e k =
      let none : const_of m (sym_text env g.ty) ≡ None = struct_unnamed env m ty g names values is in
      let some : const_of m (sym_text env g.ty) ≡ Some u = valued (sym_text env g.ty) u k in
      absurd cc
  held_apart name _ v u apart (truth ty b spoken) other e k = apart (ConstBool ty b) v u spoken refl e k
  held_apart name _ v u apart (number ty n o spoken is) other e k = sym (number_same p m (int_value env ty n) v u o is k) ∙ apart (ConstInt ty n) v (int_value env ty n) spoken refl e refl
  held_apart name _ v u apart (named other_name spoken) other e k = apart (ConstPrim other_name) v u spoken other e (valued (sym_text env other_name) u k)

  each_apart : (cs : List (List ℕ × Value)) → AllByRecursion (λ (c : List ℕ × Value). IsApartIn env rules m c.0) cs → AllByRecursion (λ (c : List ℕ × Value). IsApart p f m c.0) cs
  each_apart [] h = tt
  each_apart (c ∷ cs) h = (
    λ ty o v u here there other e k. held_apart c.0 o v u h.0 (of_place (places p f) (o, ty) placed there) other (valued c.0 v e) k,
    each_apart cs h.1,
  )

  -- a name that stands at a place is that of a type, or has a value
  name_given : (name : List ℕ) (o : Operand) → So o → o ≡ operand.Name name → occurs p name ≡ false → HasNoValue name m.consts → ⊥
  name_given name _ (local n) e free none = absurd cc
  name_given name _ (argument n) e free none = absurd cc
  name_given name _ (unit_struct ty g is spoken) e free none =
      let same : sym_text env g.ty ≡ name = one_name (sym_text env g.ty) name e in
      let there : occurs p name ≡ true = subst (λ (n : List ℕ). occurs p n ≡ true) same (struct_occurs ty g is spoken) in
      absurd cc
    where
      one_name : (a b : List ℕ) → operand.Name a ≡ operand.Name b → a ≡ b
      one_name a b k = cc
  name_given name _ (truth ty b spoken) e free none = absurd cc
  name_given name _ (number ty n o spoken is) e free none = no_name (int_value env ty n) name (is ∙ ap Some e)
  name_given name _ (named other spoken) e free none = w.given other spoken (subst (λ (n : List ℕ). HasNoValue n m.consts) (sym (one_name (sym_text env other) name e)) none)
    where
      one_name : (a b : List ℕ) → operand.Name a ≡ operand.Name b → a ≡ b
      one_name a b k = cc

  -- ---- constants that are left out

  -- a constant of the source that stands in the function has a value
  stands_valued : (c : Sym × TypeId) (o : Operand) → Contains env.types.consts c → So o → o ≡ operand.Name (sym_text env c.0) → const_of m (sym_text env c.0) ≡ None → ⊥
  stands_valued c _ there (local n) e none = absurd cc
  stands_valued c _ there (argument n) e none = absurd cc
  stands_valued c _ there (unit_struct ty g is spoken) e none =
      let t = typed_in env.types.consts c there in
      names.apart.structs c.0 t.0 ty g t.1 is (sym (one_name (sym_text env g.ty) (sym_text env c.0) e))
    where
      one_name : (a b : List ℕ) → operand.Name a ≡ operand.Name b → a ≡ b
      one_name a b k = cc
  stands_valued c _ there (truth ty b spoken) e none = absurd cc
  stands_valued c _ there (number ty n o spoken is) e none = no_name (int_value env ty n) (sym_text env c.0) (is ∙ ap Some e)
  stands_valued c _ there (named other spoken) e none =
      w.given other spoken (subst (λ (n : List ℕ). HasNoValue n m.consts) (sym (one_name (sym_text env other) (sym_text env c.0) e)) (none_given m.consts (sym_text env c.0) none))
    where
      one_name : (a b : List ℕ) → operand.Name a ≡ operand.Name b → a ≡ b
      one_name a b k = cc

  kept_one : (c : Sym × TypeId) → Contains env.types.consts c → is_left_out env f m c ≡ false
  kept_one c there = one (is_among (sym_text env c.0) (body_names f.body)) refl (const_of m (sym_text env c.0)) refl
    where
      one : (b : Bool) → is_among (sym_text env c.0) (body_names f.body) ≡ b → (o : Option Value) → const_of m (sym_text env c.0) ≡ o → (b && not (is_some o)) ≡ false
      one false is o k = refl
      one true is (Some v) k = refl
      one true is None k = absurd (stands_valued c (operand.Name (sym_text env c.0)) there (among_of (λ (n : List ℕ). So (operand.Name n)) (body_names f.body) (sym_text env c.0) named_so is) refl k)

  none_left : leave_out (record { program = p; env = env; term = term; args = args }) m ≡ false
  none_left = ap (λ (o : Option Function). option_map_or (λ (g : Function). list_any (is_left_out env g m) env.types.consts) o false) the_function.found ∙ none_holds (is_left_out env f m) env.types.consts kept_one

  -- so the program wants them, where they stand in its functions and fit their places there
  pub wanted : AllByRecursion (λ (c : List ℕ × Value). has_constant p c.0 ≡ true) m.consts → AllByRecursion (λ (c : List ℕ × Value). FitsPlaces p c.0 c.1) m.consts
      → AreWanted (record { program = p; env = env; term = term; args = args }) m
  wanted stand fit = record {
    stand = stand;
    fit = fit;
    apart = λ g found. subst (λ (h : Function). AllByRecursion (λ (c : List ℕ × Value). IsApart p h m c.0) m.consts) (same_function g found) (each_apart m.consts w.apart);
    given = λ g found name ty here free none.
        name_given name (operand.Name name) (of_place (places p f) (operand.Name name, ty) placed (subst (λ (h : Function). StandsAt p h name ty) (sym (same_function g found)) here)) refl free none;
    kept = none_left;
    answered = λ g found c there. w.answered c (the_function.block.calls c (subst (λ (h : Function). Contains (body_calls h.body) c) (sym (same_function g found)) there));
  }

  -- and if no constant has a value
  pub wanted_none : m.consts ≡ [] → AreWanted (record { program = p; env = env; term = term; args = args }) m
  wanted_none none = wanted (subst (AllByRecursion (λ (c : List ℕ × Value). has_constant p c.0 ≡ true)) (sym none) tt) (subst (AllByRecursion (λ (c : List ℕ × Value). FitsPlaces p c.0 c.1)) (sym none) tt)
