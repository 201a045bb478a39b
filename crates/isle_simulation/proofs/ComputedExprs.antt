-- What computes a binding: what the emitter makes is so, and what is so it makes.
use Rattle.std.proofs.Common.{◌≡◌, ℕ, List, [], ◌∷◌, Bool, false, Option, Some, None, refl, sym, ap, ◌∙◌, subst}
use Rattle.std.specs.Prelude.{option_map, slice_get}
use Rattle.std.specs.Option.{option_map_or}
use Rattle.isle_core.specs.declared.BindingId.{BindingId}
use Rattle.isle_core.specs.declared.TypeId.{TypeId}
use Rattle.isle_core.specs.declared.rule_sets.Binding.{Binding}
use Rattle.isle_core.specs.declared.rule_sets.Binding.TheVariants as binding
use Rattle.isle_core.specs.declared.types.Term.{Term}
use Rattle.isle_core.specs.declared.values.Callee.{Callee}
use Rattle.isle_core.specs.Calling.{calling, extracting}
use Rattle.isle_core.specs.Form.{Form, form}
use Rattle.isle_core.specs.HasType.{typed_fields}
use Rattle.isle_core.specs.Making.{MakesVariant, MakesStruct}
use Rattle.isle_core.specs.Path.{at}
use Rattle.isle_core.specs.Setting.{Setting, paths_in}
use Rattle.isle_core.proofs.OptionLaws.{some_same}
use Rattle.isle_tree.specs.declared.tree.Operand.{Operand}
use Rattle.isle_tree.specs.declared.tree.Read.{Read}
use Rattle.isle_tree.specs.declared.tree.Read.TheVariants as read
use Rattle.isle_tree.specs.declared.tree.TExpr.{TExpr}
use Rattle.isle_tree.specs.declared.tree.TExpr.TheVariants as expr
use Rattle.isle_simulation.specs.ComputedBy.{AreHanded, none_handed, one_handed, ArePut, none_put, one_put, IsComputed}
use Rattle.isle_simulation.specs.ComputedBy as by
use Rattle.isle_simulation.specs.Operands.{in_place, operand_of}
use Rattle.isle_simulation.specs.References.{is_declared, is_reference_in, result_type}
use Rattle.isle_simulation.specs.Statements.{read_before, read_in, reads, call_on, call_of, extraction_of, inner_of, part_of, read_of, field_before, field_reads, made_in, made_of, computed, callee_of}
use Rattle.isle_simulation.proofs.OperandsAre.{none_some, read_is, read_found, operand_is, operand_found, place_is, place_found}

-- ---- what is made is so

handed_is : (s : Setting) (bound : List ℕ) (tys : List TypeId) (bs : List BindingId) (rs : List Read) → reads s bound tys bs ≡ Some rs → AreHanded s bound tys bs rs
handed_is s bound [] [] rs e = subst (AreHanded s bound [] []) (some_same _ rs e) none_handed
handed_is s bound [] (b ∷ bs) rs e = absurd (none_some rs e)
handed_is s bound (ty ∷ tys) [] rs e = absurd (none_some rs e)
handed_is s bound (ty ∷ tys) (b ∷ bs) rs e = step (read_in s bound (is_declared s.env ty) b) refl (reads s bound tys bs) (handed_is s bound tys bs) e
  where
    step : (x : Option Read) → read_in s bound (is_declared s.env ty) b ≡ x → (y : Option (List Read)) → ((others : List Read) → y ≡ Some others → AreHanded s bound tys bs others) → read_before x y ≡ Some rs
        → AreHanded s bound (ty ∷ tys) (b ∷ bs) rs
    step (Some r) is (Some others) rest e = subst (AreHanded s bound (ty ∷ tys) (b ∷ bs)) (some_same _ rs e) (one_handed ty b r tys bs others (read_is s bound (is_declared s.env ty) b r is) (rest others refl))
    step (Some r) is None rest e = absurd (none_some rs e)
    step None is y rest e = absurd (none_some rs e)

put_is : (s : Setting) (bound : List ℕ) (fs : List (List ℕ × TypeId)) (bs : List BindingId) (rs : List (List ℕ × Read)) → field_reads s bound fs bs ≡ Some rs → ArePut s bound fs bs rs
put_is s bound [] [] rs e = subst (ArePut s bound [] []) (some_same _ rs e) none_put
put_is s bound [] (b ∷ bs) rs e = absurd (none_some rs e)
put_is s bound (f ∷ fs) [] rs e = absurd (none_some rs e)
put_is s bound (f ∷ fs) (b ∷ bs) rs e = step (read_in s bound false b) refl (field_reads s bound fs bs) (put_is s bound fs bs) e
  where
    step : (x : Option Read) → read_in s bound false b ≡ x → (y : Option (List (List ℕ × Read))) → ((others : List (List ℕ × Read)) → y ≡ Some others → ArePut s bound fs bs others) → field_before f.0 x y ≡ Some rs
        → ArePut s bound (f ∷ fs) (b ∷ bs) rs
    step (Some r) is (Some others) rest e = subst (ArePut s bound (f ∷ fs) (b ∷ bs)) (some_same _ rs e) (one_put f b r fs bs others (read_is s bound false b r is) (rest others refl))
    step (Some r) is None rest e = absurd (none_some rs e)
    step None is y rest e = absurd (none_some rs e)

-- a call of something on something
record IsCallOn (borrow : Bool) (o : Option Callee) (rs : Option (List Read)) (e : TExpr) : Type 0 where
  callee : Callee
  args : List Read
  called : o ≡ Some callee
  handed : rs ≡ Some args
  is : e ≡ expr.Call borrow (record { callee = callee; args = args })

call_on_is : (borrow : Bool) (o : Option Callee) (rs : Option (List Read)) (e : TExpr) → call_on borrow o rs ≡ Some e → IsCallOn borrow o rs e
call_on_is borrow (Some callee) (Some args) e is = record { callee = callee; args = args; called = refl; handed = refl; is = sym (some_same _ e is) }
call_on_is borrow (Some callee) None e is = absurd (none_some e is)
call_on_is borrow None args e is = absurd (none_some e is)

read_of_is : (o : Option Operand) (e : TExpr) → read_of o ≡ Some e → (q : Operand) × (o ≡ Some q) × (e ≡ expr.Read (read.Plain q))
read_of_is (Some q) e is = (q, refl, sym (some_same _ e is))
read_of_is None e is = absurd (none_some e is)

made_in_is : (s : Setting) (bound : List ℕ) (o : Option Form) (parts : List BindingId) (e : TExpr) → made_in s bound o parts ≡ Some e
    → (f : Form) × (o ≡ Some f) × ((xs : List (List ℕ × Read)) × ArePut s bound (typed_fields s.env f.fields) parts xs × (e ≡ made_of s.env f xs))
made_in_is s bound None parts e is = absurd (none_some e is)
made_in_is s bound (Some f) parts e is = (f, refl, of (field_reads s bound (typed_fields s.env f.fields) parts) refl is)
  where
    of : (x : Option (List (List ℕ × Read))) → field_reads s bound (typed_fields s.env f.fields) parts ≡ x → option_map (made_of s.env f) x ≡ Some e
        → (xs : List (List ℕ × Read)) × ArePut s bound (typed_fields s.env f.fields) parts xs × (e ≡ made_of s.env f xs)
    of (Some xs) put e' = (xs, put_is s bound (typed_fields s.env f.fields) parts xs put, sym (some_same _ e e'))
    of None put e' = absurd (none_some e e')

-- so of a binding
pub computed_is : (s : Setting) (bound : List ℕ) (b : BindingId) (x : Binding) (e : TExpr) → computed s bound b (Some x) ≡ Some e → IsComputed s bound b x e
computed_is s bound b (binding.Constructor term parameters instance) e is = one (slice_get s.env.terms term.0) refl is
  where
    one : (o : Option Term) → slice_get s.env.terms term.0 ≡ o → call_of s bound o (callee_of (calling s.env term)) parameters ≡ Some e → IsComputed s bound b (binding.Constructor term parameters instance) e
    one (Some t) there is =
        let h = call_on_is (is_declared s.env t.ret_ty) (callee_of (calling s.env term)) (reads s bound t.arg_tys parameters) e is in
        subst (IsComputed s bound b (binding.Constructor term parameters instance)) (sym h.is) (by.call term parameters instance t h.callee h.args there h.called (handed_is s bound t.arg_tys parameters h.args h.handed))
    one None there is = absurd (none_some e is)
computed_is s bound b (binding.Extractor term parameter) e is = one (slice_get s.env.terms term.0) refl is
  where
    one : (o : Option Term) → slice_get s.env.terms term.0 ≡ o → extraction_of s bound o (callee_of (extracting s.env term)) parameter ≡ Some e → IsComputed s bound b (binding.Extractor term parameter) e
    one (Some t) there is =
        let borrow = option_map_or (is_declared s.env) (result_type (Some t)) false in
        let h = call_on_is borrow (callee_of (extracting s.env term)) (reads s bound (t.ret_ty ∷ []) (parameter ∷ [])) e is in
        subst (IsComputed s bound b (binding.Extractor term parameter)) (sym h.is) (by.extraction term parameter t h.callee h.args there h.called (handed_is s bound (t.ret_ty ∷ []) (parameter ∷ []) h.args h.handed))
    one None there is = absurd (none_some e is)
computed_is s bound b (binding.MatchSome source) e is = one (operand_of s.env s.bindings bound source) refl is
  where
    one : (o : Option Operand) → operand_of s.env s.bindings bound source ≡ o → inner_of (is_reference_in s source) o ≡ Some e → IsComputed s bound b (binding.MatchSome source) e
    one (Some o) there is = subst (IsComputed s bound b (binding.MatchSome source)) (some_same _ e is) (by.inner source o (operand_is s bound source o there))
    one None there is = absurd (none_some e is)
computed_is s bound b (binding.MatchTuple source field) e is = one (operand_of s.env s.bindings bound source) refl is
  where
    one : (o : Option Operand) → operand_of s.env s.bindings bound source ≡ o → part_of field.0 o ≡ Some e → IsComputed s bound b (binding.MatchTuple source field) e
    one (Some o) there is = subst (IsComputed s bound b (binding.MatchTuple source field)) (some_same _ e is) (by.part source field o (operand_is s bound source o there))
    one None there is = absurd (none_some e is)
computed_is s bound b (binding.MakeVariant ty variant fields) e is =
    let h = made_in_is s bound (form s.env (MakesVariant ty variant)) fields e is in
    subst (IsComputed s bound b (binding.MakeVariant ty variant fields)) (sym h.2.2) (by.variant ty variant fields h.0 h.2.0 h.1 h.2.1)
computed_is s bound b (binding.MakeStruct ty fields) e is =
    let h = made_in_is s bound (form s.env (MakesStruct ty)) fields e is in
    subst (IsComputed s bound b (binding.MakeStruct ty fields)) (sym h.2.2) (by.struct' ty fields h.0 h.2.0 h.1 h.2.1)
computed_is s bound b (binding.Argument index) e is =
    let h = read_of_is (in_place s.env b.0 (at (paths_in s) b)) e is in
    subst (IsComputed s bound b (binding.Argument index)) (sym h.2) (by.argument index h.0 (place_is s.env b.0 (at (paths_in s) b) h.0 h.1))
computed_is s bound b (binding.ConstBool val ty) e is =
    let h = read_of_is (in_place s.env b.0 (at (paths_in s) b)) e is in
    subst (IsComputed s bound b (binding.ConstBool val ty)) (sym h.2) (by.truth val ty h.0 (place_is s.env b.0 (at (paths_in s) b) h.0 h.1))
computed_is s bound b (binding.ConstInt val ty) e is =
    let h = read_of_is (in_place s.env b.0 (at (paths_in s) b)) e is in
    subst (IsComputed s bound b (binding.ConstInt val ty)) (sym h.2) (by.integer val ty h.0 (place_is s.env b.0 (at (paths_in s) b) h.0 h.1))
computed_is s bound b (binding.ConstPrim val) e is =
    let h = read_of_is (in_place s.env b.0 (at (paths_in s) b)) e is in
    subst (IsComputed s bound b (binding.ConstPrim val)) (sym h.2) (by.named val h.0 (place_is s.env b.0 (at (paths_in s) b) h.0 h.1))
computed_is s bound b (binding.Iterator source) e is = absurd (none_some e is)
computed_is s bound b (binding.MatchVariant source variant field) e is = absurd (none_some e is)
computed_is s bound b (binding.ExtractStruct source field) e is = absurd (none_some e is)
computed_is s bound b (binding.MakeSome inner) e is = absurd (none_some e is)

-- ---- what is so is made

handed_found : (s : Setting) (bound : List ℕ) {tys : List TypeId} {bs : List BindingId} {rs : List Read} → AreHanded s bound tys bs rs → reads s bound tys bs ≡ Some rs
handed_found s bound none_handed = refl
handed_found s bound (one_handed ty b r tys bs rs h k) = ap (λ x. read_before x (reads s bound tys bs)) (read_found s bound (is_declared s.env ty) b r h) ∙ ap (read_before (Some r)) (handed_found s bound k)

put_found : (s : Setting) (bound : List ℕ) {fs : List (List ℕ × TypeId)} {bs : List BindingId} {rs : List (List ℕ × Read)} → ArePut s bound fs bs rs → field_reads s bound fs bs ≡ Some rs
put_found s bound none_put = refl
put_found s bound (one_put f b r fs bs rs h k) = ap (λ x. field_before f.0 x (field_reads s bound fs bs)) (read_found s bound false b r h) ∙ ap (field_before f.0 (Some r)) (put_found s bound k)

made_found : {xs : List (List ℕ × Read)} (s : Setting) (bound : List ℕ) (o : Option Form) (f : Form) (fields : List BindingId) → o ≡ Some f → ArePut s bound (typed_fields s.env f.fields) fields xs → made_in s bound o fields ≡ Some (made_of s.env f xs)
made_found s bound o f fields is put = ap (λ x. made_in s bound x fields) is ∙ ap (option_map (made_of s.env f)) (put_found s bound put)

-- so of a binding
pub computed_found : (s : Setting) (bound : List ℕ) (b : BindingId) {x : Binding} {e : TExpr} → IsComputed s bound b x e → computed s bound b (Some x) ≡ Some e
computed_found s bound b (by.call term parameters instance t callee args there called handed) =
    ap (λ o. call_of s bound o (callee_of (calling s.env term)) parameters) there
    ∙ ap (λ o. call_on (is_declared s.env t.ret_ty) o (reads s bound t.arg_tys parameters)) called
    ∙ ap (call_on (is_declared s.env t.ret_ty) (Some callee)) (handed_found s bound handed)
computed_found s bound b (by.extraction term parameter t callee args there called handed) =
    ap (λ o. extraction_of s bound o (callee_of (extracting s.env term)) parameter) there
    ∙ ap (λ o. call_on (option_map_or (is_declared s.env) (result_type (Some t)) false) o (reads s bound (t.ret_ty ∷ []) (parameter ∷ []))) called
    ∙ ap (call_on (option_map_or (is_declared s.env) (result_type (Some t)) false) (Some callee)) (handed_found s bound handed)
computed_found s bound b (by.inner source o h) = ap (inner_of (is_reference_in s source)) (operand_found s bound source h)
computed_found s bound b (by.part source field o h) = ap (part_of field.0) (operand_found s bound source h)
computed_found s bound b (by.variant ty variant fields f xs is put) = made_found s bound (form s.env (MakesVariant ty variant)) f fields is put
computed_found s bound b (by.struct' ty fields f xs is put) = made_found s bound (form s.env (MakesStruct ty)) f fields is put
computed_found s bound b (by.argument index o h) = ap read_of (place_found h)
computed_found s bound b (by.truth val ty o h) = ap read_of (place_found h)
computed_found s bound b (by.integer val ty o h) = ap read_of (place_found h)
computed_found s bound b (by.named val o h) = ap read_of (place_found h)
