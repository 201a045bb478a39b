-- Operands by their names are of the types that an instruction gives them.
use Rattle.std.proofs.Common.{◌≡◌, ℕ, zero, suc, ◌+◌, List, [], ◌∷◌, length, map, Bool, true, false, cond, Option, Some, None, refl, sym, ap, ◌∙◌, subst, ⊎_elim, arith}
use Rattle.std.specs.Prelude.{Contains, codes, filter, option_and_then, option_map, replicate, slice_get}
use Rattle.std.specs.List.{AllByRecursion, IsDistinct}
use Rattle.std.specs.Str.{bytes_eq}
use Rattle.std.proofs.lemmas.Slice.Eq.{bytes_eq-Decides}
use Rattle.isle_base.specs.declared.ids.TypeId.{TypeId}
use Rattle.isle_core.specs.HasType.{HasType, HaveTypes}
use Rattle.isle_core.specs.Rule.{Environment}
use Rattle.isle_core.specs.Value.{Value, Truth}
use Rattle.isle_core.proofs.Contained.{head_contained, tail_contained, contained_cases, none_contained}
use Rattle.isle_core.proofs.OptionLaws.{some_same}
use Rattle.isle_ast.specs.Tree.{Def}
use Rattle.isle_declarations.specs.Symbols.{index_of}
use Rattle.isle_meta.specs.declared.clif.ClifOperand.{ClifOperand}
use Rattle.isle_meta.specs.declared.clif.Instruction.{Instruction}
use Rattle.isle_meta.specs.declared.clif.OperandClass.{OperandClass}
use Rattle.isle_prelude.specs.ClifFiles.{operand_names, parameters, parameter_types}
use Rattle.isle_prelude.specs.Manners.{type_variable}
use Rattle.isle_prelude.specs.Operands.{operand_type, names_of}
use Rattle.isle_terms.specs.TermPass.{types_named}
use Rattle.isle_terms.specs.TypeNames.{type_named}
use Rattle.isle_terms.proofs.MadeTerms.{first_there}
use Rattle.isle_prelude_laws.proofs.InstructionTexts.{named_operand}
use Rattle.isle_prelude_laws.proofs.Laid.{manner_by}

-- ---- operands by their names

-- the value, if there is one
abbrev pub value_or : Option Value → Value
value_or None = Truth false
value_or (Some v) = v

-- the operand of a name
abbrev pub operand_named : (params : List (List ℕ)) (operands : List Value) → List ℕ → Value
operand_named params operands name = value_or (option_and_then (slice_get operands) (index_of params name))

-- ---- places

differs : (name : List ℕ) (names : List (List ℕ)) (other : List ℕ) → AllByRecursion (λ (n : List ℕ). bytes_eq name n ≡ false) names
    → Contains names other → bytes_eq name other ≡ false
differs name [] other h c = absurd (none_contained other c)
differs name (n ∷ names) other h c = ⊎_elim (λ (same : n ≡ other). subst (λ m. bytes_eq name m ≡ false) same h.0) (λ there. differs name names other h.1 there) (contained_cases n names other c)

-- an operand's name and its type stand at one place
record StandsAt (names types : List (List ℕ)) (name ty : List ℕ) : Type 0 where
  place : ℕ
  first : index_of names name ≡ Some place
  second : slice_get types place ≡ Some ty

behind_one : (new : List ℕ) (other : List ℕ) (names types : List (List ℕ)) (name ty : List ℕ) → bytes_eq new name ≡ false
    → StandsAt names types name ty → StandsAt (new ∷ names) (other ∷ types) name ty
behind_one new other names types name ty h s =
    let next : s.place + 1 ≡ suc s.place = omega arith in
    record {
      place = suc s.place;
      first = ap (λ b. cond b (Some 0) (option_map (λ (n : ℕ). n + 1) (index_of names name))) h ∙ ap (option_map (λ (n : ℕ). n + 1)) s.first ∙ ap Some next;
      second = s.second;
    }

operand_stands : (os : List ClifOperand) (o : ClifOperand) → IsDistinct bytes_eq (map (λ (x : ClifOperand). x.name) os) → Contains os o
    → StandsAt (map (λ (x : ClifOperand). x.name) os) (map (λ (x : ClifOperand). operand_type x.class) os) o.name (operand_type o.class)
unfolding IsDistinct
operand_stands [] o d c = absurd (none_contained o c)
operand_stands (x ∷ os) o d c =
    let names = map (λ (y : ClifOperand). y.name) os in
    let types = map (λ (y : ClifOperand). operand_type y.class) os in
    ⊎_elim
    (λ (same : x ≡ o). subst (λ (y : ClifOperand). StandsAt (x.name ∷ names) (operand_type x.class ∷ types) y.name (operand_type y.class)) same
    (record { place = 0; first = ap (λ b. cond b (Some 0) (option_map (λ (n : ℕ). n + 1) (index_of names x.name))) ((bytes_eq-Decides x.name x.name).1 refl); second = refl }))
    (λ there. behind_one x.name (operand_type x.class) names types o.name (operand_type o.class) (differs x.name names o.name d.0 (named_operand os o there)) (operand_stands os o d.1 there))
    (contained_cases x os o c)

parameter_stands : (b : Bool) (i : Instruction) (o : ClifOperand) → IsDistinct bytes_eq (parameters (manner_by b) i) → Contains i.operands_in o
    → StandsAt (parameters (manner_by b) i) (parameter_types (manner_by b) i) o.name (operand_type o.class)
unfolding IsDistinct
parameter_stands true i o d c = behind_one type_variable (codes "Type") (operand_names i) (map (λ (x : ClifOperand). operand_type x.class) i.operands_in) o.name (operand_type o.class) (differs type_variable (operand_names i) o.name d.0 (named_operand i.operands_in o c)) (operand_stands i.operands_in o d.1 c)
parameter_stands false i o d c = operand_stands i.operands_in o d c

-- ---- types

type_at : (defs : List Def) (names : List (List ℕ)) (tys : List TypeId) (k : ℕ) (name : List ℕ) (ty : TypeId) → types_named defs names ≡ Some tys
    → slice_get names k ≡ Some name → type_named defs name ≡ Some ty → slice_get tys k ≡ Some ty
type_at defs [] tys k name ty h at is = cc
type_at defs (n ∷ names) tys zero name ty h at is =
    let f = first_there (type_named defs n) (types_named defs names) tys h in
    let same : f.first ≡ ty = some_same f.first ty (sym f.here ∙ ap (type_named defs) (some_same n name at) ∙ is) in
    ap (λ ts. slice_get ts 0) f.all ∙ ap Some same
type_at defs (n ∷ names) tys (suc k) name ty h at is =
    let f = first_there (type_named defs n) (types_named defs names) tys h in
    ap (λ ts. slice_get ts (suc k)) f.all ∙ type_at defs names f.others k name ty f.found at is

-- a value stands where its type does
pub value_at : (env : Environment) (vs : List Value) (tys : List TypeId) (k : ℕ) (ty : TypeId) → HaveTypes env vs tys → slice_get tys k ≡ Some ty
    → (v : Value) × (slice_get vs k ≡ Some v) × HasType env v ty
value_at env [] [] k ty h at = cc
value_at env [] (t ∷ tys) k ty h at = absurd h
value_at env (v ∷ vs) [] k ty h at = absurd h
value_at env (v ∷ vs) (t ∷ tys) zero ty h at = (v, refl, subst (HasType env v) (some_same t ty at) h.0)
value_at env (v ∷ vs) (t ∷ tys) (suc k) ty h at = value_at env vs tys k ty h.1 at

module _ (defs : List Def) (env : Environment) (i : Instruction) (b : Bool) (tys : List TypeId) (operands : List Value) (named : types_named defs (parameter_types (manner_by b) i) ≡ Some tys) (apart : IsDistinct bytes_eq (parameters (manner_by b) i)) (typed : HaveTypes env operands tys) where
  -- an operand has its type
  operand_typed : (o : ClifOperand) (ty : TypeId) → Contains i.operands_in o → type_named defs (operand_type o.class) ≡ Some ty
      → HasType env (operand_named (parameters (manner_by b) i) operands o.name) ty
  operand_typed o ty c is =
      let s = parameter_stands b i o apart c in
      let v = value_at env operands tys s.place ty typed (type_at defs (parameter_types (manner_by b) i) tys s.place (operand_type o.class) ty named s.second is) in
      subst (λ u. HasType env u ty) (sym (ap (λ p. value_or (option_and_then (slice_get operands) p)) s.first ∙ ap value_or v.1)) v.2

  -- the operand of a name has this type
  abbrev pub IsTypedName : TypeId → List ℕ → Type 0
  IsTypedName ty name = HasType env (operand_named (parameters (manner_by b) i) operands name) ty

  -- operands of a class have one type
  pub class_typed : (is : OperandClass → Bool) (name : List ℕ) (ty : TypeId) → ((class : OperandClass) → is class ≡ true → operand_type class ≡ name)
      → type_named defs name ≡ Some ty
      → AllByRecursion (λ (x : List ℕ). HasType env (operand_named (parameters (manner_by b) i) operands x) ty) (names_of is i)
  class_typed is name ty of_class named_ty = each i.operands_in (λ o c. c)
    where
      each : (os : List ClifOperand) → ((o : ClifOperand) → Contains os o → Contains i.operands_in o)
          → AllByRecursion (IsTypedName ty) (map (λ (o : ClifOperand). o.name) (filter (λ (o : ClifOperand). is o.class) os))
      each [] within = tt
      each (o ∷ os) within = by (is o.class) refl (each os (λ p c. within p (tail_contained o os p c)))
        where
          by : (t : Bool) → is o.class ≡ t → AllByRecursion (IsTypedName ty) (map (λ (x : ClifOperand). x.name) (filter (λ (x : ClifOperand). is x.class) os))
              → AllByRecursion (IsTypedName ty) (map (λ (x : ClifOperand). x.name) (cond t (o ∷ filter (λ (x : ClifOperand). is x.class) os) (filter (λ (x : ClifOperand). is x.class) os)))
          by true e rest = (operand_typed o ty (within o (head_contained o os)) (ap (type_named defs) (of_class o.class e) ∙ named_ty), rest)
          by false e rest = rest

-- as many values of one type as are named
pub array_typed : (defs : List Def) (env : Environment) (of_name : List ℕ → Value) (names : List (List ℕ)) (name : List ℕ) (tys : List TypeId)
    → types_named defs (replicate (length names) name) ≡ Some tys
    → ((ty : TypeId) → type_named defs name ≡ Some ty → AllByRecursion (λ (x : List ℕ). HasType env (of_name x) ty) names) → HaveTypes env (map of_name names) tys
array_typed defs env of_name [] name tys h each = subst (HaveTypes env []) (some_same [] tys h) tt
array_typed defs env of_name (x ∷ names) name tys h each =
    let f = first_there (type_named defs name) (types_named defs (replicate (length names) name)) tys h in
    subst (HaveTypes env (of_name x ∷ map of_name names)) (sym f.all) ((each f.first f.here).0, array_typed defs env of_name names name f.others f.found (λ ty is. (each ty is).1))
