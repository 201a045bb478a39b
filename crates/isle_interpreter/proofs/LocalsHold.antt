-- What the locals of a run hold, and what is read of them.
use Rattle.std.proofs.Common.{◌≡◌, ℕ, zero, suc, ◌<◌, List, [], ◌∷◌, ◌++◌, length, Bool, true, false, Option, Some, None, refl, ap, ◌∙◌, arith}
use Rattle.std.specs.Prelude.{◌==◌, ◌&&◌, nat_lt, fold, if◌then◌else◌, IsSome, slice_get}
use Rattle.std.specs.List.{AllByRecursion}
use Rattle.std.proofs.lemmas.Bool.Decides.{nat_tests}
use Rattle.isle_core.specs.Value.{Value, Truth, Int, Opaque, Variant, Struct, FieldValues, NoField, Field}
use Rattle.isle_core.specs.Answered.{AValue, ATuple, Held, Absent, One, Optional, Listed, a_value}
use Rattle.isle_core.specs.ValueAt.{held, value_before}
use Rattle.isle_printer.specs.Bytes.{same_bytes}
use Rattle.isle_tree.specs.declared.holds.Holds.{Holds}
use Rattle.isle_tree.specs.declared.holds.Holds.TheVariants as holds
use Rattle.isle_tree.specs.declared.holds.Item.TheVariants as item
use Rattle.isle_tree.specs.declared.tree.Operand.{Operand}
use Rattle.isle_tree.specs.declared.tree.Operand.TheVariants as operand
use Rattle.isle_tree.specs.declared.tree.Read.{Read}
use Rattle.isle_tree.specs.declared.tree.Read.TheVariants as read
use Rattle.isle_tree.specs.declared.tree.TBind.{TBind}
use Rattle.isle_tree.specs.declared.tree.TPat.{TPat}
use Rattle.isle_tree.specs.declared.tree.TPat.TheVariants as pattern
use Rattle.isle_tree.specs.WellFormed as well
use Rattle.isle_tree.specs.WellFormed.{Locals, IsOperand, IsRead, IsFieldRead, local_holds, operand_holds, read_holds, is_value, are_values, are_field_values, ReadsPattern, field_locals, inner_locals, pattern_locals, inner_holds}
use Rattle.isle_tree.specs.Run.{Around, Env, newer, look, bind, value_of, read_value, read_values, field_before, read_fields, value_in, constant, are_same, field_of, local_before, fit_some, fit_fields, fit_variant, fit_struct, fit}
use Rattle.isle_interpreter.proofs.AnswersHold.{HoldsIn}

-- ---- locals hold what is said of them

-- as many locals, by the same numbers, and each holds that
abbrev pub Agree : Locals → Env → Type 0
Agree [] [] = Unit {0}
Agree (b ∷ bound) (e ∷ env) = (b.0 ≡ e.0) × HoldsIn b.1 e.1 × Agree bound env
Agree [] (e ∷ env) = ⊥
Agree (b ∷ bound) [] = ⊥

-- what may be said of a place
abbrev pub HoldsIfKnown : Option Holds → Held → Type 0
HoldsIfKnown None g = Unit {0}
HoldsIfKnown (Some h) g = HoldsIn h g

known_newer : (n : ℕ) (o : Option Holds) (g : Held) (b : ℕ × Holds) (e : ℕ × Held) → HoldsIfKnown o g → b.0 ≡ e.0 → HoldsIn b.1 e.1 → HoldsIfKnown (well.newer n o b) (newer n g e)
known_newer n o g b e t same h = by (b.0 == n) (e.0 == n) (ap (λ k. k == n) same)
  where
    by : (x y : Bool) → x ≡ y → HoldsIfKnown (if x then Some b.1 else o) (if y then e.1 else g)
    by true true f = h
    by false false f = t
    by true false f = absurd cc
    by false true f = absurd cc

known_fold : (n : ℕ) (bound : Locals) (env : Env) (o : Option Holds) (g : Held) → Agree bound env → HoldsIfKnown o g → HoldsIfKnown (fold (well.newer n) o bound) (fold (newer n) g env)
known_fold n [] [] o g a t = t
known_fold n (b ∷ bound) (e ∷ env) o g a t = known_fold n bound env (well.newer n o b) (newer n g e) a.2 (known_newer n o g b e t a.0 a.1)
known_fold n [] (e ∷ env) o g a t = absurd a
known_fold n (b ∷ bound) [] o g a t = absurd a

pub known_local : (n : ℕ) (bound : Locals) (env : Env) → Agree bound env → HoldsIfKnown (local_holds bound n) (look env n)
known_local n bound env a = known_fold n bound env None Absent a tt

pub one_more : (bound : Locals) (env : Env) (n : ℕ) (h : Holds) (g : Held) → Agree bound env → HoldsIn h g → Agree (bound ++ (n, h) ∷ []) (bind env n g)
one_more [] [] n h g a k = (refl, k, tt)
one_more (b ∷ bound) (e ∷ env) n h g a k = (a.0, a.1, one_more bound env n h g a.2 k)
one_more [] (e ∷ env) n h g a k = absurd a
one_more (b ∷ bound) [] n h g a k = absurd a

-- ---- operands and reads

given : (args : List Value) (n : ℕ) → n < length args → HoldsIn (holds.One item.Value) (held (slice_get args n))
given [] n l = absurd (omega (arith, l))
given (v ∷ args) zero l = tt
given (v ∷ args) (suc n) l = given args n (omega (arith, l))

known_arg : (args : List Value) (n : ℕ) → HoldsIfKnown (if nat_lt n (length args) then Some (holds.One item.Value) else None) (held (slice_get args n))
known_arg args n = by (nat_lt n (length args)) refl
  where
    below : nat_lt n (length args) ≡ true → n < length args
    below e = grind (arith, nat_tests)

    by : (b : Bool) → nat_lt n (length args) ≡ b → HoldsIfKnown (if b then Some (holds.One item.Value) else None) (held (slice_get args n))
    by true e = given args n (below e)
    by false e = tt

pub known_operand : (w : Around) (bound : Locals) (env : Env) (o : Operand) → IsOperand o → Agree bound env → HoldsIfKnown (operand_holds (length w.args) bound o) (value_of w env o)
known_operand w bound env (operand.Local n) is a = known_local n bound env a
known_operand w bound env (operand.Arg n) is a = known_arg w.args n
known_operand w bound env (operand.Bool b) is a = tt
known_operand w bound env (operand.Int ty z) is a = tt
known_operand w bound env (operand.Raw z) is a = tt
known_operand w bound env (operand.Name name) is a = tt

pub known_read : (w : Around) (bound : Locals) (env : Env) (r : Read) → IsRead r → Agree bound env → HoldsIfKnown (read_holds (length w.args) bound r) (read_value w env r)
known_read w bound env (read.Plain o) is a = known_operand w bound env o is a
known_read w bound env (read.Borrow o) is a = known_operand w bound env o is a
known_read w bound env (read.Clone o) is a = known_operand w bound env o is a

-- a value stands there
pub record HasValue (g : Held) : Type 0 where
  pub v : Value
  pub is : g ≡ a_value v

pub known_value : (o : Option Holds) (g : Held) → HoldsIfKnown o g → is_value o ≡ true → HasValue g
known_value None g t e = absurd cc
known_value (Some (holds.One item.Value)) (One (AValue v)) t e = record { v = v; is = refl }
known_value (Some (holds.One item.Value)) (One (ATuple vs)) t e = absurd t
known_value (Some (holds.One item.Value)) (Optional o) t e = absurd t
known_value (Some (holds.One item.Value)) (Listed is) t e = absurd t
known_value (Some (holds.One item.Value)) Absent t e = absurd t
known_value (Some (holds.One (item.Tuple count))) g t e = absurd cc
known_value (Some (holds.Optional x)) g t e = absurd cc
known_value (Some (holds.Several x)) g t e = absurd cc

-- the values that are read are there
pub record HaveValues (o : Option (List Value)) : Type 0 where
  pub vs : List Value
  pub are : o ≡ Some vs

both_there : (g : Held) (o : Option (List Value)) → HasValue g → HaveValues o → HaveValues (value_before g o)
both_there g o one others = record { vs = one.v ∷ others.vs; are = ap (λ x. value_before x o) one.is ∙ ap (value_before (a_value one.v)) others.are }

pub told_values : (w : Around) (bound : Locals) (env : Env) (rs : List Read) → AllByRecursion IsRead rs → Agree bound env → are_values (length w.args) bound rs ≡ true → HaveValues (read_values w env rs)
told_values w bound env [] is a e = record { vs = []; are = refl }
told_values w bound env (r ∷ rs) is a e = by (is_value (read_holds (length w.args) bound r)) refl e (told_values w bound env rs is.1 a)
  where
    by : (b : Bool) → is_value (read_holds (length w.args) bound r) ≡ b → (b && are_values (length w.args) bound rs) ≡ true → (are_values (length w.args) bound rs ≡ true → HaveValues (read_values w env rs)) → HaveValues (read_values w env (r ∷ rs))
    by true f g go = both_there (read_value w env r) (read_values w env rs) (known_value (read_holds (length w.args) bound r) (read_value w env r) (known_read w bound env r is.0 a) f) (go g)
    by false f g go = absurd cc

-- the fields that are read are there
pub record HaveFields (o : Option FieldValues) : Type 0 where
  pub fs : FieldValues
  pub are : o ≡ Some fs

field_there : (name : List ℕ) (g : Held) (o : Option FieldValues) → HasValue g → HaveFields o → HaveFields (field_before name g o)
field_there name g o one others = record { fs = Field name one.v others.fs; are = ap (λ x. field_before name x o) one.is ∙ ap (field_before name (a_value one.v)) others.are }

pub told_fields : (w : Around) (bound : Locals) (env : Env) (fs : List (List ℕ × Read)) → AllByRecursion IsFieldRead fs → Agree bound env → are_field_values (length w.args) bound fs ≡ true → HaveFields (read_fields w env fs)
told_fields w bound env [] is a e = record { fs = NoField; are = refl }
told_fields w bound env (f ∷ fs) is a e = by (is_value (read_holds (length w.args) bound f.1)) refl e (told_fields w bound env fs is.1 a)
  where
    by : (b : Bool) → is_value (read_holds (length w.args) bound f.1) ≡ b → (b && are_field_values (length w.args) bound fs) ≡ true → (are_field_values (length w.args) bound fs ≡ true → HaveFields (read_fields w env fs)) → HaveFields (read_fields w env (f ∷ fs))
    by true t g go = field_there f.0 (read_value w env f.1) (read_fields w env fs) (known_value (read_holds (length w.args) bound f.1) (read_value w env f.1) (known_read w bound env f.1 is.0.1 a) t) (go g)
    by false t g go = absurd cc

-- ---- patterns bind what is said of them

-- if a pattern fits, what it binds holds that
abbrev pub Bound : Locals → Option Env → Type 0
Bound ls None = Unit {0}
Bound ls (Some more) = Agree ls more

pub both_agree : (bound ls : Locals) (env more : Env) → Agree bound env → Agree ls more → Agree (bound ++ ls) (env ++ more)
both_agree [] ls [] more a k = k
both_agree (b ∷ bound) ls (e ∷ env) more a k = (a.0, a.1, both_agree bound ls env more a.2 k)
both_agree [] ls (e ∷ env) more a k = absurd a
both_agree (b ∷ bound) ls [] more a k = absurd a

bound_fields : (bs : List TBind) (fs : FieldValues) → Bound (field_locals bs) (fit_fields bs fs)
bound_fields [] fs = tt
bound_fields (b ∷ bs) fs = by (field_of b.field fs) (fit_fields bs fs) (bound_fields bs fs)
  where
    by : (o : Option Value) (rest : Option Env) → Bound (field_locals bs) rest → Bound (field_locals (b ∷ bs)) (local_before b.local o rest)
    by (Some v) (Some env) k = (refl, tt, k)
    by (Some v) None k = tt
    by None rest k = tt

bound_if : (ls : Locals) (b : Bool) (o : Option Env) → Bound ls o → Bound ls (if b then o else None)
bound_if ls true o k = k
bound_if ls false o k = tt

bound_variant : (ty variant : List ℕ) (bs : List TBind) (o : Option Value) → Bound (field_locals bs) (fit_variant ty variant bs o)
bound_variant ty variant bs (Some (Variant of name fs)) = bound_if (field_locals bs) (same_bytes ty of && same_bytes variant name) (fit_fields bs fs) (bound_fields bs fs)
bound_variant ty variant bs (Some (Truth b)) = tt
bound_variant ty variant bs (Some (Int of z)) = tt
bound_variant ty variant bs (Some (Opaque of z)) = tt
bound_variant ty variant bs (Some (Struct of fs)) = tt
bound_variant ty variant bs None = tt

bound_struct : (ty : List ℕ) (bs : List TBind) (o : Option Value) → Bound (field_locals bs) (fit_struct ty bs o)
bound_struct ty bs (Some (Struct of fs)) = bound_if (field_locals bs) (same_bytes ty of) (fit_fields bs fs) (bound_fields bs fs)
bound_struct ty bs (Some (Truth b)) = tt
bound_struct ty bs (Some (Int of z)) = tt
bound_struct ty bs (Some (Opaque of z)) = tt
bound_struct ty bs (Some (Variant of name fs)) = tt
bound_struct ty bs None = tt

bound_some : (local : Option ℕ) (o : Option Holds) (g : Held) → IsSome (inner_holds o) → HoldsIfKnown o g → Bound (inner_locals local (inner_holds o)) (fit_some local g)
bound_some local None g e t = absurd cc
bound_some local (Some (holds.One x)) g e t = absurd cc
bound_some local (Some (holds.Several x)) g e t = absurd cc
bound_some None (Some (holds.Optional x)) (Optional (Some i)) e t = tt
bound_some (Some n) (Some (holds.Optional x)) (Optional (Some i)) e t = (refl, t, tt)
bound_some local (Some (holds.Optional x)) (Optional None) e t = tt
bound_some local (Some (holds.Optional x)) (One i) e t = absurd t
bound_some local (Some (holds.Optional x)) (Listed is) e t = absurd t
bound_some local (Some (holds.Optional x)) Absent e t = absurd t

pub bound_pattern : (w : Around) (pat : TPat) (o : Option Holds) (g : Held) → ReadsPattern pat o → HoldsIfKnown o g → Bound (pattern_locals pat o) (fit w pat g)
bound_pattern w (pattern.Const c) o g e t = bound_if [] (are_same (value_in g) (constant w.meaning c)) (Some []) tt
bound_pattern w (pattern.Variant ty variant binds more) o g e t = bound_variant ty variant binds (value_in g)
bound_pattern w (pattern.Struct ty binds more) o g e t = bound_struct ty binds (value_in g)
bound_pattern w (pattern.Some local) o g e t = bound_some local o g e t
