-- What a program tells of a path's local and of a spelled path is of the path's types.
use Rattle.std.proofs.Common.{◌≡◌, ℕ, ℤ, List, [], ◌∷◌, map, Bool, true, false, Option, Some, None, option_map, refl, sym, ap, ◌∙◌, subst}
use Rattle.std.specs.Prelude.{◌==◌, codes, fold, if◌then◌else◌, IsSomeAnd, slice_get}
use Rattle.std.specs.List.{AllByRecursion}
use Rattle.std.proofs.lemmas.Bool.Decides.{Decides-eqb}
use Rattle.std.proofs.lemmas.Option.{slice_get-map}
use Rattle.isle_core.specs.declared.TermId.{TermId}
use Rattle.isle_core.specs.declared.TypeId.{TypeId}
use Rattle.isle_core.specs.declared.types.BuiltinType.TheVariants as builtin
use Rattle.isle_core.specs.declared.types.ReturnKind.{ReturnKind}
use Rattle.isle_core.specs.declared.types.ReturnKind.TheVariants as kind
use Rattle.isle_core.specs.declared.types.Term.{Term}
use Rattle.isle_core.specs.declared.types.TypeDef.{TypeDef}
use Rattle.isle_core.specs.declared.types.TypeDef.TheVariants as def
use Rattle.isle_core.specs.Constants.{int_of_def}
use Rattle.isle_core.specs.Form.{Form, form}
use Rattle.isle_core.specs.HasType.{IsOfDef}
use Rattle.isle_core.specs.Making.{MakesStruct}
use Rattle.isle_core.specs.Path.{Path, Paths, Arg, ConstBool, ConstInt, ConstPrim, Extracted, Called, Chosen, MadeStruct, Inner, Part, NoPath, APath}
use Rattle.isle_core.specs.PathType.{IsPathOf, IsTupleOf, IsOptionOf, IsListOf, ArePathsOf}
use Rattle.isle_core.specs.Rule.{Environment}
use Rattle.isle_core.specs.Terms.{sym_text}
use Rattle.isle_core.specs.Value.{Truth}
use Rattle.isle_core.proofs.BindingPaths.{HasParts, typed_parts, option_parts, list_parts, tuple_parts}
use Rattle.isle_tree.specs.declared.tree.Operand.TheVariants as operand
use Rattle.isle_tree.specs.declared.tree.Ty.{Ty}
use Rattle.isle_tree.specs.Program.{Function}
use Rattle.isle_simulation.specs.Operands.{constant, in_place}
use Rattle.isle_simulation.specs.TypeTexts.{def_text, type_text, parameter}
use Rattle.isle_simulation.proofs.Ready.{IsSpelled}
use Rattle.isle_simulation.proofs.Written.{written}
use Rattle.isle_places.specs.Signatures.{Signature}
use Rattle.isle_places.specs.Told.{Told, AValue, AnOption, ATuple, AnOptionalTuple, AList, AListOfTuples, Untold, Tells, typed_told, within, part_told, item_told, answer_told, call_told, answers_told, list_told, newer_told, look_told, param_told, operand_told}

-- ---- signatures

-- a signature takes and answers values of these types
pub record IsSignature (env : Environment) (params results : List TypeId) (s : Signature) : Type 0 where
  pub takes : s.params ≡ map (type_text env) params
  pub answers : s.results ≡ map (type_text env) results

-- ---- what is told

first_of : (o : Option Term) (c : Term) (P Q : Term → Type 0) → o ≡ Some c → IsSomeAnd o (λ (d : Term). P d × Q d) → P c
first_of None c P Q e h = absurd h
first_of (Some d) c P Q e h = let same : d ≡ c = cc in subst P same h.0

bool_text : (env : Environment) (o : Option TypeDef) (b : Bool) → IsSomeAnd o (λ (d : TypeDef). IsOfDef env d (Truth b)) → codes "bool" ≡ def_text env.types o
bool_text env None b h = absurd h
bool_text env (Some (def.Builtin builtin.Bool)) b h = refl
bool_text env (Some (def.Builtin (builtin.Int ty))) b h = absurd h
bool_text env (Some (def.Primitive name rust place)) b h = absurd h
bool_text env (Some (def.Enum name is_extern is_nodebug variants place)) b h = absurd h
bool_text env (Some (def.Struct name is_extern is_nodebug fields place)) b h = absurd h

module _ (env : Environment) (t : Term) where
  -- what is known of a path is of its types
  abbrev pub IsRight : Path → Told → Type 0
  IsRight q (AValue ty) = (of : TypeId) → IsPathOf env t q of → ty ≡ type_text env of
  IsRight q (AnOption ty) = (tys : List TypeId) → IsOptionOf env t q tys → ty ∷ [] ≡ map (type_text env) tys
  IsRight q (ATuple given) = (tys : List TypeId) → IsTupleOf env t q tys → given ≡ map (type_text env) tys
  IsRight q (AnOptionalTuple given) = (tys : List TypeId) → IsOptionOf env t q tys → given ≡ map (type_text env) tys
  IsRight q (AList ty) = (tys : List TypeId) → IsListOf env t q tys → ty ∷ [] ≡ map (type_text env) tys
  IsRight q (AListOfTuples given) = (tys : List TypeId) → IsListOf env t q tys → given ≡ map (type_text env) tys
  IsRight q Untold = Unit {0}

  -- of a value of a type its name is told, if any
  pub told_type : (q : Path) (x : Told) (ty : List ℕ) (of : TypeId) → IsRight q x → x ≡ AValue ty → IsPathOf env t q of → ty ≡ type_text env of
  told_type q (AValue given) ty of r e h = let same : given ≡ ty = cc in sym same ∙ r of h
  told_type q (AnOption given) ty of r e h = absurd cc
  told_type q (ATuple given) ty of r e h = absurd cc
  told_type q (AnOptionalTuple given) ty of r e h = absurd cc
  told_type q (AList given) ty of r e h = absurd cc
  told_type q (AListOfTuples given) ty of r e h = absurd cc
  told_type q Untold ty of r e h = absurd cc

  -- a path that is another one, if it has parts
  pub right_over : (q q' : Path) (x : Told) → (HasParts q → q ≡ q') → IsRight q' x → IsRight q x
  right_over q q' (AValue ty) e r = λ of h. r of (subst (λ (y : Path). IsPathOf env t y of) (e (typed_parts env t q of h)) h)
  right_over q q' (AnOption ty) e r = λ tys h. r tys (subst (λ (y : Path). IsOptionOf env t y tys) (e (option_parts env t q tys h)) h)
  right_over q q' (ATuple given) e r = λ tys h. r tys (subst (λ (y : Path). IsTupleOf env t y tys) (e (tuple_parts env t q tys h)) h)
  right_over q q' (AnOptionalTuple given) e r = λ tys h. r tys (subst (λ (y : Path). IsOptionOf env t y tys) (e (option_parts env t q tys h)) h)
  right_over q q' (AList ty) e r = λ tys h. r tys (subst (λ (y : Path). IsListOf env t y tys) (e (list_parts env t q tys h)) h)
  right_over q q' (AListOfTuples given) e r = λ tys h. r tys (subst (λ (y : Path). IsListOf env t y tys) (e (list_parts env t q tys h)) h)
  right_over q q' Untold e r = tt

  -- ---- answers

  answer_right : (q : Path) (k : ReturnKind) (rs : List (List ℕ)) → ((of : TypeId) → IsPathOf env t q of → rs ≡ type_text env of ∷ [])
      → ((tys : List TypeId) → IsTupleOf env t q tys → rs ≡ map (type_text env) tys) → ((tys : List TypeId) → IsOptionOf env t q tys → rs ≡ map (type_text env) tys) → IsRight q (answer_told k rs)
  answer_right q kind.Plain [] v u o = u
  answer_right q kind.Plain (ty ∷ []) v u o = λ of h. one of (v of h)
    where
      one : (of : TypeId) → ty ∷ [] ≡ type_text env of ∷ [] → ty ≡ type_text env of
      one of e = cc
  answer_right q kind.Plain (ty ∷ other ∷ more) v u o = u
  answer_right q kind.Option [] v u o = o
  answer_right q kind.Option (ty ∷ []) v u o = o
  answer_right q kind.Option (ty ∷ other ∷ more) v u o = o
  answer_right q kind.Iterator rs v u o = tt

  answers_right : (q : Path) (k : ReturnKind) (rs : List (List ℕ)) → ((tys : List TypeId) → IsListOf env t q tys → rs ≡ map (type_text env) tys) → IsRight q (answers_told k rs)
  answers_right q kind.Plain rs l = tt
  answers_right q kind.Option rs l = tt
  answers_right q kind.Iterator [] l = l
  answers_right q kind.Iterator (ty ∷ []) l = l
  answers_right q kind.Iterator (ty ∷ other ∷ more) l = l

  -- what a call of a term gives, if the term is there
  pub called_right : (term : TermId) (ps : Paths) (instance : ℕ) (c : Term) (o : Option Signature) → slice_get env.terms term.0 ≡ Some c → ((s : Signature) → o ≡ Some s → IsSignature env c.arg_tys (c.ret_ty ∷ []) s)
      → IsRight (Called term ps instance) (call_told o)
  called_right term ps instance c None found is = tt
  called_right term ps instance c (Some s) found is =
      answer_right (Called term ps instance) s.kind s.results
      (λ of h. (is s refl).answers ∙ ap (λ (x : TypeId). type_text env x ∷ []) (first_of (slice_get env.terms term.0) c (λ (d : Term). d.ret_ty ≡ of) (λ (d : Term). ArePathsOf env t ps d.arg_tys) found h.1))
      (λ tys h. absurd h)
      (λ tys h. (is s refl).answers ∙ ap (map (type_text env)) (first_of (slice_get env.terms term.0) c (λ (d : Term). d.ret_ty ∷ [] ≡ tys) (λ (d : Term). ArePathsOf env t ps d.arg_tys) found h.1))

  pub called_list : (term : TermId) (ps : Paths) (instance : ℕ) (c : Term) (o : Option Signature) → slice_get env.terms term.0 ≡ Some c → ((s : Signature) → o ≡ Some s → IsSignature env c.arg_tys (c.ret_ty ∷ []) s)
      → IsRight (Called term ps instance) (list_told o)
  called_list term ps instance c None found is = tt
  called_list term ps instance c (Some s) found is =
      answers_right (Called term ps instance) s.kind s.results
      (λ tys h. (is s refl).answers ∙ ap (map (type_text env)) (first_of (slice_get env.terms term.0) c (λ (d : Term). d.ret_ty ∷ [] ≡ tys) (λ (d : Term). ArePathsOf env t ps d.arg_tys) found h.1))

  -- what an extractor gives
  pub extracted_right : (term : TermId) (q : Path) (c : Term) (o : Option Signature) → slice_get env.terms term.0 ≡ Some c → ((s : Signature) → o ≡ Some s → IsSignature env (c.ret_ty ∷ []) c.arg_tys s)
      → IsRight (Extracted term q) (call_told o)
  extracted_right term q c None found is = tt
  extracted_right term q c (Some s) found is =
      answer_right (Extracted term q) s.kind s.results
      (λ of h. (is s refl).answers ∙ ap (map (type_text env)) (first_of (slice_get env.terms term.0) c (λ (d : Term). d.arg_tys ≡ of ∷ []) (λ (d : Term). IsPathOf env t q d.ret_ty) found h.1))
      (λ tys h. (is s refl).answers ∙ ap (map (type_text env)) (first_of (slice_get env.terms term.0) c (λ (d : Term). d.arg_tys ≡ tys) (λ (d : Term). IsPathOf env t q d.ret_ty) found h.2))
      (λ tys h. (is s refl).answers ∙ ap (map (type_text env)) (first_of (slice_get env.terms term.0) c (λ (d : Term). d.arg_tys ≡ tys) (λ (d : Term). IsPathOf env t q d.ret_ty) found h.1))

  pub extracted_list : (term : TermId) (q : Path) (c : Term) (o : Option Signature) → slice_get env.terms term.0 ≡ Some c → ((s : Signature) → o ≡ Some s → IsSignature env (c.ret_ty ∷ []) c.arg_tys s)
      → IsRight (Extracted term q) (list_told o)
  extracted_list term q c None found is = tt
  extracted_list term q c (Some s) found is =
      answers_right (Extracted term q) s.kind s.results
      (λ tys h. (is s refl).answers ∙ ap (map (type_text env)) (first_of (slice_get env.terms term.0) c (λ (d : Term). d.arg_tys ≡ tys) (λ (d : Term). IsPathOf env t q d.ret_ty) found h.1))

  -- ---- parts

  head_type : (ty : List ℕ) (of : TypeId) → ty ∷ [] ≡ map (type_text env) (of ∷ []) → ty ≡ type_text env of
  head_type ty of e = cc

  -- what is within an option
  pub within_right : (q : Path) (x : Told) → IsRight q x → IsRight (Inner q) (within x)
  within_right q (AnOption ty) r = λ of h. head_type ty of (r (of ∷ []) h)
  within_right q (AnOptionalTuple given) r = λ tys h. r tys h.1
  within_right q (AValue ty) r = tt
  within_right q (ATuple given) r = tt
  within_right q (AList ty) r = tt
  within_right q (AListOfTuples given) r = tt
  within_right q Untold r = tt

  -- an item of a list
  pub item_right : (q : Path) (x : Told) → IsRight q x → IsRight (Chosen q) (item_told x)
  item_right q (AList ty) r = λ of h. head_type ty of (r (of ∷ []) h)
  item_right q (AListOfTuples given) r = λ tys h. r tys h.1
  item_right q (AValue ty) r = tt
  item_right q (AnOption ty) r = tt
  item_right q (ATuple given) r = tt
  item_right q (AnOptionalTuple given) r = tt
  item_right q Untold r = tt

  -- a part of a tuple
  pub part_right : (q : Path) (part : ℕ) (x : Told) → IsRight q x → IsRight (Part part q) (part_told part x)
  part_right q part (ATuple given) r = typed (slice_get given part) refl
    where
      name_at : (ty : List ℕ) (of : TypeId) (o : Option TypeId) → o ≡ Some of → option_map (type_text env) o ≡ Some ty → ty ≡ type_text env of
      name_at ty of None e k = absurd cc
      name_at ty of (Some x) e k = let same : x ≡ of = cc in let is : type_text env x ≡ ty = cc in sym is ∙ ap (type_text env) same

      typed : (o : Option (List ℕ)) → slice_get given part ≡ o → IsRight (Part part q) (typed_told o)
      typed None e = tt
      typed (Some ty) e = λ of h. name_at ty of (slice_get h.0 part) h.2 (sym (slice_get-map (type_text env) h.0 part) ∙ ap (λ (ys : List (List ℕ)). slice_get ys part) (sym (r h.0 h.1)) ∙ e)
  part_right q part (AValue ty) r = tt
  part_right q part (AnOption ty) r = tt
  part_right q part (AnOptionalTuple given) r = tt
  part_right q part (AList ty) r = tt
  part_right q part (AListOfTuples given) r = tt
  part_right q part Untold r = tt

  -- ---- paths that are spelled

  module _ (f : Function) (params : f.params ≡ map (parameter env) t.arg_tys) where
    param_right : (i : ℕ) (o : Option Ty) → slice_get f.params i ≡ o → IsRight (Arg i) (param_told o)
    param_right i None e = tt
    param_right i (Some ty) e = λ of h. named of (slice_get t.arg_tys i) h (sym (slice_get-map (parameter env) t.arg_tys i) ∙ ap (λ (ps : List Ty). slice_get ps i) (sym params) ∙ e)
      where
        named : (of : TypeId) (o : Option TypeId) → o ≡ Some of → option_map (parameter env) o ≡ Some ty → ty.name ≡ type_text env of
        named of None k l = absurd cc
        named of (Some x) k l = let same : x ≡ of = cc in let is : parameter env x ≡ ty = cc in sym (ap (λ (y : Ty). y.name) is) ∙ ap (type_text env) same

    number_right : (tells : Tells) (ty : TypeId) (n : ℤ) (o : Option TypeDef) → slice_get env.types.types ty.0 ≡ o → IsRight (ConstInt ty n) (operand_told f tells (written (constant (int_of_def env o n))))
    number_right tells ty n (Some (def.Builtin (builtin.Int i))) e = λ of h. sym (ap (def_text env.types) e) ∙ ap (type_text env) h.0
    number_right tells ty n (Some (def.Builtin builtin.Bool)) e = tt
    number_right tells ty n (Some (def.Primitive name rust place)) e = tt
    number_right tells ty n (Some (def.Enum name is_extern is_nodebug variants place)) e = tt
    number_right tells ty n (Some (def.Struct name is_extern is_nodebug fields place)) e = tt
    number_right tells ty n None e = tt

    struct_right : (tells : Tells) (q : Path) (o : Option Form) → IsRight q (operand_told f tells (written (option_map (λ (g : Form). operand.Name (sym_text env g.ty)) o)))
    struct_right tells q None = tt
    struct_right tells q (Some g) = tt

    pub place_right : (tells : Tells) (n : ℕ) (q : Path) → IsSpelled q → IsRight q (operand_told f tells (written (in_place env n q)))
    place_right tells n (Arg i) k = param_right i (slice_get f.params i) refl
    place_right tells n (ConstBool ty b) k = λ of h. bool_text env (slice_get env.types.types of.0) b h.1
    place_right tells n (ConstInt ty v) k = number_right tells ty v (slice_get env.types.types ty.0) refl
    place_right tells n (ConstPrim name) k = tt
    place_right tells n (MadeStruct ty NoPath) k = struct_right tells (MadeStruct ty NoPath) (form env (MakesStruct ty))
    place_right tells n (MadeStruct ty (APath p ps)) k = absurd k
    place_right tells n q k = absurd k

  -- ---- locals

  -- what is known of locals, each of the path of this number
  abbrev pub AreRight : (ℕ → Path) → Tells → Type 0
  AreRight path = AllByRecursion (λ (x : ℕ × Told). IsRight (path x.0) x.1)

  look_from : (path : ℕ → Path) (n : ℕ) (x : Told) (tells : Tells) → IsRight (path n) x → AreRight path tells → IsRight (path n) (fold (newer_told n) x tells)
  look_from path n x [] r h = r
  look_from path n x (y ∷ tells) r h = look_from path n (newer_told n x y) tells (one (y.0 == n) refl) h.1
    where
      one : (b : Bool) → (y.0 == n) ≡ b → IsRight (path n) (if b then y.1 else x)
      one true is = subst (λ (k : ℕ). IsRight (path k) y.1) ((Decides-eqb y.0 n).0 is) h.0
      one false is = r

  pub look_right : (path : ℕ → Path) (n : ℕ) (tells : Tells) → AreRight path tells → IsRight (path n) (look_told tells n)
  look_right path n tells h = look_from path n Untold tells tt h
