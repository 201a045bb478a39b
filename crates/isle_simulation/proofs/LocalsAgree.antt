-- The locals that are bound hold what stands at the paths of their bindings, but for the type names of opaque numbers.
use Rattle.std.proofs.Common.{◌≡◌, ⊎_elim, ℕ, List, [], ◌∷◌, ◌++◌, map, Bool, true, false, cond, eqb, Some, refl, sym, ap, ◌∙◌, subst}
use Rattle.std.specs.Prelude.{◌||◌}
use Rattle.std.proofs.lemmas.Bool.{eqb-true}
use Rattle.std.proofs.lemmas.List.Folds.{list_any-append}
use Rattle.std.proofs.lemmas.List.Sums.{fold_push}
use Rattle.isle_core.specs.declared.BindingId.{BindingId}
use Rattle.isle_core.specs.declared.TypeId.{TypeId}
use Rattle.isle_core.specs.declared.types.Term.{Term}
use Rattle.isle_core.specs.HasType.{AreFieldsOf}
use Rattle.isle_core.specs.Form.{field_values}
use Rattle.isle_core.specs.Nameless.{nameless, nameless_fields}
use Rattle.isle_core.specs.Path.{Path, at, at_all}
use Rattle.isle_core.specs.PathType.{IsPathOf, IsTupleOf, IsOptionOf, IsListOf}
use Rattle.isle_core.specs.Rule.{Environment}
use Rattle.isle_core.specs.Setting.{Setting, paths_in}
use Rattle.isle_core.specs.Value.{Value, FieldValues, NoField, Field}
use Rattle.isle_core.specs.ValueAt.{Held, Absent, Known, a_value, value_before, value_at, values_at}
use Rattle.isle_tree.specs.declared.tree.Operand.{Operand}
use Rattle.isle_tree.specs.Run.{Around, Env, newer, look, bind, value_of, read_value, read_values, read_fields, field_before}
use Rattle.isle_simulation.specs.Operands.{is_bound}
use Rattle.isle_simulation.specs.References.{is_declared, is_reference_in, read_as}
use Rattle.isle_core.proofs.HeldStays.{IsThere, Grows, held_stays}
use Rattle.isle_simulation.proofs.PathValues.{Grounds, IsValueAt, constant_valued, path_reads}
use Rattle.isle_simulation.proofs.Ready.{IsSpelled, IsReady, AreReady}
use Rattle.isle_simulation.proofs.ResultsAt.{AreResultsAt, IsOptionAt, IsListAt}
use Rattle.isle_simulation.proofs.Written.{written_operand, written_read, reads, field_reads}

-- a local holds in the run what stands at a path of a type
pub record Stands (env : Environment) (t : Term) (p : Path) (h g : Held) : Type 0 where
  pub value : (ty : TypeId) → IsPathOf env t p ty → IsValueAt env h g ty
  pub tuple : (tys : List TypeId) → IsTupleOf env t p tys → AreResultsAt env h g tys
  pub option : (tys : List TypeId) → IsOptionOf env t p tys → IsOptionAt env h g tys
  pub list : (tys : List TypeId) → IsListOf env t p tys → IsListAt env h g tys

-- so of each that is bound
pub record Agree (s : Setting) (u : Around) (bound : List ℕ) (known : Known) (locals : Env) : Type 0 where
  pub by : (c : BindingId) → is_bound bound c ≡ true → Stands s.env s.term (at (paths_in s) c) (look locals c.0) (value_at s.env u.meaning u.args known (at (paths_in s) c))

-- none is bound
pub none_agree : (s : Setting) (u : Around) (known : Known) → Agree s u [] known []
none_agree s u known = record { by = λ c e. cc }

-- still so while later calls are answered
pub agree_later : (s : Setting) (u : Around) (bound : List ℕ) (known later : Known) (locals : Env) → Grows known later → Agree s u bound known locals → Agree s u bound later locals
agree_later s u bound known later locals g a = record { by = λ c e. record { value = λ ty k. still c ty ((a.by c e).value ty k); tuple = λ tys k. still_results c tys ((a.by c e).tuple tys k); option = λ tys k. still_option c tys ((a.by c e).option tys k); list = λ tys k. still_list c tys ((a.by c e).list tys k) } }
  where
    at_path : Known → BindingId → Held
    at_path k c = value_at s.env u.meaning u.args k (at (paths_in s) c)

    still : (c : BindingId) (ty : TypeId) → IsValueAt s.env (look locals c.0) (at_path known c) ty → IsValueAt s.env (look locals c.0) (at_path later c) ty
    still c ty x = record { v = x.v; r = x.r; run = x.run; block = held_stays (at (paths_in s) c) s.env u.meaning u.args known later g (subst IsThere (sym x.block) tt) ∙ x.block; same = x.same; typed = x.typed }

    still_results : (c : BindingId) (tys : List TypeId) → AreResultsAt s.env (look locals c.0) (at_path known c) tys → AreResultsAt s.env (look locals c.0) (at_path later c) tys
    still_results c tys x = record { vs = x.vs; rs = x.rs; run = x.run; block = held_stays (at (paths_in s) c) s.env u.meaning u.args known later g (subst IsThere (sym x.block) tt) ∙ x.block; same = x.same; typed = x.typed }

    still_option : (c : BindingId) (tys : List TypeId) → IsOptionAt s.env (look locals c.0) (at_path known c) tys → IsOptionAt s.env (look locals c.0) (at_path later c) tys
    still_option c tys x = record { o = x.o; q = x.q; run = x.run; block = held_stays (at (paths_in s) c) s.env u.meaning u.args known later g (subst IsThere (sym x.block) tt) ∙ x.block; same = x.same; typed = x.typed }

    still_list : (c : BindingId) (tys : List TypeId) → IsListAt s.env (look locals c.0) (at_path known c) tys → IsListAt s.env (look locals c.0) (at_path later c) tys
    still_list c tys x = record { vss = x.vss; rss = x.rss; run = x.run; block = held_stays (at (paths_in s) c) s.env u.meaning u.args known later g (subst IsThere (sym x.block) tt) ∙ x.block; same = x.same; typed = x.typed }

older : (x : Bool) → (x || (false || false)) ≡ true → x ≡ true
older true e = refl
older false e = e

-- a local more
pub bind_agrees : (s : Setting) (u : Around) (bound : List ℕ) (known : Known) (locals : Env) (b : BindingId) (h : Held)
    → Agree s u bound known locals → Stands s.env s.term (at (paths_in s) b) h (value_at s.env u.meaning u.args known (at (paths_in s) b)) → Agree s u (bound ++ b.0 ∷ []) known (bind locals b.0 h)
bind_agrees s u bound known locals b h a here = record {
  by = λ c e. one c (eqb b.0 c.0) refl (sym (list_any-append (λ n. eqb n c.0) bound (b.0 ∷ [])) ∙ e);
}
  where
    one : (c : BindingId) (same : Bool) → eqb b.0 c.0 ≡ same → (is_bound bound c || is_bound (b.0 ∷ []) c) ≡ true
        → Stands s.env s.term (at (paths_in s) c) (look (bind locals b.0 h) c.0) (value_at s.env u.meaning u.args known (at (paths_in s) c))
    one c true is e =
        let there : at (paths_in s) b ≡ at (paths_in s) c = ap (λ n. at (paths_in s) (record { 0 = n })) (eqb-true b.0 c.0 is) in
        let found : look (bind locals b.0 h) c.0 ≡ h = fold_push (newer c.0) Absent locals (b.0, h) ∙ ap (λ x. cond x h (look locals c.0)) is in
        subst (λ g. Stands s.env s.term (at (paths_in s) c) g (value_at s.env u.meaning u.args known (at (paths_in s) c))) (sym found)
        (subst (λ p. Stands s.env s.term p h (value_at s.env u.meaning u.args known p)) there here)
    one c false is e =
        let found : look (bind locals b.0 h) c.0 ≡ look locals c.0 = fold_push (newer c.0) Absent locals (b.0, h) ∙ ap (λ x. cond x h (look locals c.0)) is in
        subst (λ g. Stands s.env s.term (at (paths_in s) c) g (value_at s.env u.meaning u.args known (at (paths_in s) c))) (sym found)
        (a.by c (older (is_bound bound c) (subst (λ x. (is_bound bound c || (x || false)) ≡ true) is e)))

-- ---- operands

-- the value of the type that an operand stands for
pub operand_reads : (s : Setting) (u : Around) (bound : List ℕ) (known : Known) (locals : Env) (b : BindingId) (ty : TypeId) → Grounds s u → Agree s u bound known locals → IsReady s bound b ty
    → IsValueAt s.env (value_of u locals (written_operand s bound b)) (value_at s.env u.meaning u.args known (at (paths_in s) b)) ty
operand_reads s u bound known locals b ty g a r = one (is_bound bound b) refl
  where
    spelled : is_bound bound b ≡ false → IsSpelled (at (paths_in s) b) → IsValueAt s.env (value_of u locals (written_operand s bound b)) (value_at s.env u.meaning u.args known (at (paths_in s) b)) ty
    spelled is k = rw is (path_reads s.env u s.term b.0 (at (paths_in s) b) ty known locals g.typed g.names g.constants (constant_valued s.env u.meaning s.bindings b g.answers) r.path k)

    one : (x : Bool) → is_bound bound b ≡ x → IsValueAt s.env (value_of u locals (written_operand s bound b)) (value_at s.env u.meaning u.args known (at (paths_in s) b)) ty
    one true is = rw is ((a.by b is).value ty r.path)
    one false is = ⊎_elim (λ k. absurd (let bad : false ≡ true = sym is ∙ k in cc)) (λ k. spelled is k) r.place

-- the option that a local holds
pub option_reads : (s : Setting) (u : Around) (bound : List ℕ) (known : Known) (locals : Env) (b : BindingId) (tys : List TypeId) → Agree s u bound known locals → is_bound bound b ≡ true → IsOptionOf s.env s.term (at (paths_in s) b) tys
    → IsOptionAt s.env (value_of u locals (written_operand s bound b)) (value_at s.env u.meaning u.args known (at (paths_in s) b)) tys
option_reads s u bound known locals b tys a is of = rw is ((a.by b is).option tys of)

-- the tuple that a local holds
pub tuple_reads : (s : Setting) (u : Around) (bound : List ℕ) (known : Known) (locals : Env) (b : BindingId) (tys : List TypeId) → Agree s u bound known locals → is_bound bound b ≡ true → IsTupleOf s.env s.term (at (paths_in s) b) tys
    → AreResultsAt s.env (value_of u locals (written_operand s bound b)) (value_at s.env u.meaning u.args known (at (paths_in s) b)) tys
tuple_reads s u bound known locals b tys a is of = rw is ((a.by b is).tuple tys of)

-- a reference is read as its value
pub read_is : (u : Around) (locals : Env) (wanted is : Bool) (o : Operand) → read_value u locals (read_as wanted is o) ≡ value_of u locals o
read_is u locals true true o = refl
read_is u locals true false o = refl
read_is u locals false true o = refl
read_is u locals false false o = refl

-- so of what is read
pub written_reads : (s : Setting) (u : Around) (bound : List ℕ) (known : Known) (locals : Env) (wanted : Bool) (b : BindingId) (ty : TypeId) → Grounds s u → Agree s u bound known locals → IsReady s bound b ty
    → IsValueAt s.env (read_value u locals (written_read s bound wanted b)) (value_at s.env u.meaning u.args known (at (paths_in s) b)) ty
written_reads s u bound known locals wanted b ty g a r =
    subst (λ h. IsValueAt s.env h (value_at s.env u.meaning u.args known (at (paths_in s) b)) ty) (sym (read_is u locals wanted (is_reference_in s b) (written_operand s bound b))) (operand_reads s u bound known locals b ty g a r)

-- the values that operands stand for, in order
pub record ReadAll (s : Setting) (u : Around) (bound : List ℕ) (known : Known) (locals : Env) (tys : List TypeId) (parameters : List BindingId) : Type 0 where
  pub vs : List Value
  pub rs : List Value
  pub run : read_values u locals (reads s bound tys parameters) ≡ Some rs
  pub block : values_at s.env u.meaning u.args known (at_all (paths_in s) parameters) ≡ Some vs
  pub same : map nameless rs ≡ map nameless vs

both : (r v : Value) (rs vs : List Value) → nameless r ≡ nameless v → map nameless rs ≡ map nameless vs → map nameless (r ∷ rs) ≡ map nameless (v ∷ vs)
both r v rs vs e f = ap (λ x. x ∷ map nameless rs) e ∙ ap (λ xs. nameless v ∷ xs) f

pub operands_read : (s : Setting) (u : Around) (bound : List ℕ) (known : Known) (locals : Env) (tys : List TypeId) (parameters : List BindingId) → Grounds s u → Agree s u bound known locals → AreReady s bound parameters tys
    → ReadAll s u bound known locals tys parameters
operands_read s u bound known locals [] [] g a r = record { vs = []; rs = []; run = refl; block = refl; same = refl }
operands_read s u bound known locals (ty ∷ tys) (b ∷ more) g a r =
    let k = written_reads s u bound known locals (is_declared s.env ty) b ty g a r.0 in
    let l = operands_read s u bound known locals tys more g a r.1 in
    record {
      vs = k.v ∷ l.vs;
      rs = k.r ∷ l.rs;
      run = ap (λ x. value_before x (read_values u locals (reads s bound tys more))) k.run ∙ ap (value_before (a_value k.r)) l.run;
      block = ap (λ x. value_before x (values_at s.env u.meaning u.args known (at_all (paths_in s) more))) k.block ∙ ap (value_before (a_value k.v)) l.block;
      same = both k.r k.v l.rs l.vs k.same l.same;
    }
operands_read s u bound known locals (ty ∷ tys) [] g a r = absurd r
operands_read s u bound known locals [] (b ∷ more) g a r = absurd r

-- the fields that operands stand for, in order
pub record FieldsRead (s : Setting) (u : Around) (bound : List ℕ) (known : Known) (locals : Env) (fields : List (List ℕ × TypeId)) (parts : List BindingId) : Type 0 where
  pub vs : List Value
  pub rs : FieldValues
  pub run : read_fields u locals (field_reads s bound fields parts) ≡ Some rs
  pub block : values_at s.env u.meaning u.args known (at_all (paths_in s) parts) ≡ Some vs
  pub same : nameless_fields rs ≡ nameless_fields (field_values fields vs)
  pub typed : AreFieldsOf s.env (Some fields) (field_values fields vs)

both_fields : (name : List ℕ) (r v : Value) (rs vs : FieldValues) → nameless r ≡ nameless v → nameless_fields rs ≡ nameless_fields vs → nameless_fields (Field name r rs) ≡ nameless_fields (Field name v vs)
unfolding nameless
both_fields name r v rs vs e f = ap (λ x. Field name x (nameless_fields rs)) e ∙ ap (Field name (nameless v)) f

pub fields_read : (s : Setting) (u : Around) (bound : List ℕ) (known : Known) (locals : Env) (fields : List (List ℕ × TypeId)) (parts : List BindingId) → Grounds s u → Agree s u bound known locals
    → AreReady s bound parts (map (λ (f : List ℕ × TypeId). f.1) fields) → FieldsRead s u bound known locals fields parts
fields_read s u bound known locals [] [] g a r = record { vs = []; rs = NoField; run = refl; block = refl; same = refl; typed = tt }
fields_read s u bound known locals (f ∷ fields) (b ∷ more) g a r =
    let k = written_reads s u bound known locals false b f.1 g a r.0 in
    let l = fields_read s u bound known locals fields more g a r.1 in
    record {
      vs = k.v ∷ l.vs;
      rs = Field f.0 k.r l.rs;
      run = ap (λ x. field_before f.0 x (read_fields u locals (field_reads s bound fields more))) k.run ∙ ap (field_before f.0 (a_value k.r)) l.run;
      block = ap (λ x. value_before x (values_at s.env u.meaning u.args known (at_all (paths_in s) more))) k.block ∙ ap (value_before (a_value k.v)) l.block;
      same = both_fields f.0 k.r k.v l.rs (field_values fields l.vs) k.same l.same;
      typed = (refl, k.typed, l.typed);
    }
fields_read s u bound known locals (f ∷ fields) [] g a r = absurd r
fields_read s u bound known locals [] (b ∷ more) g a r = absurd r
