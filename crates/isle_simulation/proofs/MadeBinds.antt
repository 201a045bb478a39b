-- The let of a made value does what binding it does.
use Rattle.std.proofs.Common.{◌≡◌, ℕ, List, [], ◌∷◌, Option, Some, None, refl, sym, ap, ◌∙◌, subst}
use Rattle.std.specs.Prelude.{option_map, option_and_then, slice_get}
use Rattle.isle_core.specs.declared.BindingId.{BindingId}
use Rattle.isle_core.specs.declared.Sym.{Sym}
use Rattle.isle_core.specs.declared.TypeId.{TypeId}
use Rattle.isle_core.specs.declared.VariantId.{VariantId}
use Rattle.isle_core.specs.declared.types.TypeDef.{TypeDef}
use Rattle.isle_core.specs.declared.types.TypeDef.TheVariants as def
use Rattle.isle_core.specs.declared.types.Variant.{Variant as VariantDef}
use Rattle.isle_core.specs.Value.{Value, Struct, FieldValues, NoField, Made}
use Rattle.isle_core.specs.Form.{Form, form_of_variant, variant_form, form, field_values, value_named, form_value}
use Rattle.isle_core.specs.Having.{const_of}
use Rattle.isle_core.specs.Making.{Making, MakesVariant, MakesStruct}
use Rattle.isle_core.specs.Nameless.{nameless}
use Rattle.isle_core.specs.HasType.{typed_fields}
use Rattle.isle_core.specs.Path.{Path, Paths, MadeVariant, MadeStruct, at_all}
use Rattle.isle_core.specs.PatternType.{IsOfMaking}
use Rattle.isle_core.specs.ValueAt.{Known, a_value, made_held, value_at, values_at}
use Rattle.isle_core.specs.CallRun as went
use Rattle.isle_core.specs.BlockRun.{bind_one}
use Rattle.isle_core.specs.PathType.{IsPathOf, IsTupleOf, IsOptionOf, IsListOf}
use Rattle.isle_core.specs.Rule.{Environment}
use Rattle.isle_core.specs.Setting.{Setting, paths_in}
use Rattle.isle_core.specs.Terms.{sym_text}
use Rattle.isle_tree.specs.declared.tree.Read.{Read}
use Rattle.isle_tree.specs.Run.{Around, State, Env, bind, name_value, read_fields, Goes, run_variant, run_struct, run_let}
use Rattle.isle_simulation.specs.Statements.{made_named}
use Rattle.isle_simulation.proofs.LocalsAgree.{Agree, fields_read}
use Rattle.isle_simulation.proofs.MadeValues.{nameless_named, made_typed}
use Rattle.isle_simulation.proofs.NamelessLaws.{AreSameCalls}
use Rattle.isle_simulation.proofs.OneBind.{done, BindsOne, keeps_all, same_known}
use Rattle.isle_simulation.proofs.PathValues.{Grounds, struct_unnamed}
use Rattle.isle_simulation.proofs.Ready.{IsMadeReady}
use Rattle.isle_simulation.proofs.Written.{field_reads, made_expr}

-- ---- a made value

named_runs : (u : Around) (n : ℕ) (env : Environment) (ty : Sym) (variant : Option Sym) (fs : List (List ℕ × Read)) (locals : Env) (st : State) (rs : FieldValues) → read_fields u locals fs ≡ Some rs → (variant ≡ None → const_of u.meaning (sym_text env ty) ≡ None)
    → run_let u n (made_named env ty variant fs) locals st ≡ Goes (bind locals n (a_value (value_named env ty variant rs))) st
named_runs u n env ty (Some variant) fs locals st rs e h = ap (λ o. run_variant n (sym_text env ty) (sym_text env variant) o locals st) e
named_runs u n env ty None [] locals st rs e h =
    let none : NoField ≡ rs = cc in
    ap (λ x. Goes (bind locals n (a_value (name_value x (sym_text env ty)))) st) (h refl) ∙ ap (λ x. Goes (bind locals n (a_value (Struct (sym_text env ty) x))) st) none
named_runs u n env ty None (f ∷ fs) locals st rs e h = ap (λ o. run_struct n (sym_text env ty) o locals st) e

-- what is known of a path of a made value
pub record IsMadeOver (s : Setting) (u : Around) (known : Known) (made : List Made) (over : Paths → Path) (mk : Making) : Type 0 where
  pub run : (ps : Paths) → bind_one s.env u.meaning u.args (over ps) known made ≡ went.Goes known made
  pub block : (ps : Paths) → value_at s.env u.meaning u.args known (over ps) ≡ made_held s.env mk (values_at s.env u.meaning u.args known ps)
  pub typed : (ps : Paths) (ty : TypeId) → IsPathOf s.env s.term (over ps) ty → IsOfMaking ty mk
  pub no_tuple : (ps : Paths) (tys : List TypeId) → IsTupleOf s.env s.term (over ps) tys → ⊥
  pub no_option : (ps : Paths) (tys : List TypeId) → IsOptionOf s.env s.term (over ps) tys → ⊥
  pub no_list : (ps : Paths) (tys : List TypeId) → IsListOf s.env s.term (over ps) tys → ⊥
  pub unnamed : (f : Form) → form s.env mk ≡ Some f → f.variant ≡ None → const_of u.meaning (sym_text s.env f.ty) ≡ None

pub made_binds : (s : Setting) (u : Around) (bound : List ℕ) (n : ℕ) (p : Path) (over : Paths → Path) (mk : Making) (fields : List BindingId) (known : Known) (given : List Value) (made those : List Made) (locals : Env)
    → Grounds s u → AreSameCalls s.env those made → Agree s u bound known locals → IsMadeOver s u known made over mk → IsMadeReady s bound p over mk fields
    → BindsOne s u given n p known locals (run_let u n (made_expr s bound (form s.env mk) fields) locals (done given those)) (bind_one s.env u.meaning u.args p known made)
made_binds s u bound n p over mk fields known given made those locals g same a x is =
    let ps = at_all (paths_in s) fields in
    let f = is.f in
    let l = fields_read s u bound known locals (typed_fields s.env f.fields) fields g a is.parts in
    let w = value_named s.env f.ty f.variant (field_values (typed_fields s.env f.fields) l.vs) in
    let r = value_named s.env f.ty f.variant l.rs in
    let held : value_at s.env u.meaning u.args known (over ps) ≡ a_value w = x.block ps ∙ ap (made_held s.env mk) l.block ∙ ap (λ o. a_value (form_value s.env o l.vs)) is.found in
    let like : nameless r ≡ nameless w = nameless_named s.env f.ty f.variant l.rs ∙ ap (value_named s.env f.ty f.variant) l.same ∙ sym (nameless_named s.env f.ty f.variant (field_values (typed_fields s.env f.fields) l.vs)) in
    let e = made_expr s bound (form s.env mk) fields in
    subst (λ q. BindsOne s u given n q known locals (run_let u n e locals (done given those)) (bind_one s.env u.meaning u.args q known made)) (sym is.path)
    (subst (BindsOne s u given n (over ps) known locals (run_let u n e locals (done given those))) (sym (x.run ps)) (record {
      h = a_value r;
      those = those;
      is = ap (λ o. run_let u n (made_expr s bound o fields) locals (done given those)) is.found ∙ named_runs u n s.env f.ty f.variant (field_reads s bound (typed_fields s.env f.fields) fields) locals (done given those) l.rs l.run (x.unnamed f is.found);
      made = same;
      stands = record {
        value = λ ty of. record { v = w; r = r; run = refl; block = held; same = like; typed = made_typed s.env ty mk f (field_values (typed_fields s.env f.fields) l.vs) g.names.apart.variants (x.typed ps ty of) is.found l.typed };
        tuple = λ tys of. absurd (x.no_tuple ps tys of);
        option = λ tys of. absurd (x.no_option ps tys of);
        list = λ tys of. absurd (x.no_list ps tys of);
      };
      grows = same_known known;
      keeps = keeps_all _ known;
    }))

-- a variant's form has a variant
variant_there : (o : Option TypeDef) (variant : VariantId) (f : Form) → option_and_then (variant_form variant) o ≡ Some f → f.variant ≡ None → ⊥
variant_there None variant f e k = cc
variant_there (Some (def.Enum name is_extern is_nodebug variants place)) variant f e k = one (slice_get variants variant.0) e
  where
    one : (o : Option VariantDef) → option_map (form_of_variant name) o ≡ Some f → ⊥
    one None h = cc
    one (Some w) h = let is : form_of_variant name w ≡ f = cc in let bad : Some w.name ≡ None = ap (λ (y : Form). y.variant) is ∙ k in cc
variant_there (Some (def.Builtin of)) variant f e k = cc
variant_there (Some (def.Primitive name rust place)) variant f e k = cc
variant_there (Some (def.Struct name is_extern is_nodebug fields place)) variant f e k = cc

pub variant_over : (s : Setting) (u : Around) (known : Known) (made : List Made) (ty : TypeId) (variant : VariantId) → IsMadeOver s u known made (MadeVariant ty variant) (MakesVariant ty variant)
variant_over s u known made ty variant = record { run = λ ps. refl; block = λ ps. refl; typed = λ ps of k. k.0; no_tuple = λ ps of k. k; no_option = λ ps of k. k; no_list = λ ps of k. k; unnamed = λ f e k. absurd (variant_there (slice_get s.env.types.types ty.0) variant f e k) }

pub struct_over : (s : Setting) (u : Around) (known : Known) (made : List Made) (ty : TypeId) → Grounds s u → IsMadeOver s u known made (MadeStruct ty) (MakesStruct ty)
struct_over s u known made ty g = record { run = λ ps. refl; block = λ ps. refl; typed = λ ps of k. k.0; no_tuple = λ ps of k. k; no_option = λ ps of k. k; no_list = λ ps of k. k; unnamed = λ f e k. struct_unnamed s.env u.meaning ty f g.names g.constants e }
