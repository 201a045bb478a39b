-- Texts of expressions and patterns whose trees mirror each other.
use Rattle.std.proofs.Common.{◌≡◌, ℕ, suc, List, [], ◌∷◌, length, Option, Some, None, refl, sym, ap, ◌∙◌, subst}
use Rattle.std.specs.Prelude.{IsSomeAnd, option_map, slice_get}
use Rattle.std.proofs.lemmas.List.{length-map}
use Rattle.isle_base.specs.declared.ids.TermId.{TermId}
use Rattle.isle_base.specs.declared.ids.TypeId.{TypeId}
use Rattle.isle_base.specs.declared.ids.VariantId.{VariantId}
use Rattle.isle_base.specs.declared.ids.VarId.{VarId}
use Rattle.isle_core.specs.declared.types.Term.{Term}
use Rattle.isle_core.specs.declared.types.TermKind.{TermKind}
use Rattle.isle_core.specs.declared.types.TermKind.TheVariants as kind
use Rattle.isle_core.specs.Expr as expr
use Rattle.isle_core.specs.Expr.{Expr, Exprs, NoExpr, AnExpr}
use Rattle.isle_core.specs.ExprType.{Allowed, IsTermKind, IsExprOf, AreExprsOf}
use Rattle.isle_core.specs.Form.{Form, form, form_types}
use Rattle.isle_core.specs.HasType.{typed_fields}
use Rattle.isle_core.specs.Making.{MakesVariant, making_kind, making_of, making}
use Rattle.isle_core.specs.Pattern as pattern
use Rattle.isle_core.specs.Pattern.{Pattern, Patterns, NoPattern, APattern}
use Rattle.isle_core.specs.Rule.{Environment}
use Rattle.isle_core.proofs.OptionLaws.{some_same}
use Rattle.isle_ast.specs.Tree as tree
use Rattle.isle_prelude_laws.specs.HonestMeaning.{Whole, maker, taker}
use Rattle.isle_prelude_laws.proofs.Mirror.{count, MakesOf, IsPair, Mirrors, same_variable, same_made, made_taken, MirrorAll, no_mirror, a_mirror}
use Rattle.isle_prelude_laws.proofs.NamedTrees.{Numbers, ExprNamed, ExprsNamed, PatternNamed, PatternsNamed}

-- a term makes a variant
pub record IsVariantTerm (env : Environment) (term : TermId) : Type 0 where
  pub ty : TypeId
  pub variant : VariantId
  pub made : making env term ≡ MakesVariant ty variant

-- ---- as many fields as expressions

counted_exprs : (env : Environment) (allowed : Allowed) (vars : List (TypeId × ℕ)) (tys : List TypeId) (es : Exprs)
    → AreExprsOf env allowed vars tys es → length tys ≡ count es
counted_exprs env allowed vars [] NoExpr h = refl
counted_exprs env allowed vars (ty ∷ tys) (AnExpr e es) h = ap suc (counted_exprs env allowed vars tys es h.1)
counted_exprs env allowed vars [] (AnExpr e es) h = absurd h
counted_exprs env allowed vars (ty ∷ tys) NoExpr h = absurd h

pub kind_formed : (env : Environment) (allowed : Allowed) (c : Term) (k : TermKind) (ty : TypeId) (variant : VariantId)
    → making_kind k ≡ MakesVariant ty variant → IsTermKind env allowed c k
    → option_map (form_types env) (form env (MakesVariant ty variant)) ≡ Some c.arg_tys
kind_formed env allowed c (kind.Variant of number) ty variant h is = subst (λ mk. option_map (form_types env) (form env mk) ≡ Some c.arg_tys) h is.1
kind_formed env allowed c (kind.Struct of) ty variant h is = absurd cc
kind_formed env allowed c (kind.Decl pure multi partial recursive by how) ty variant h is = absurd cc

form_there : (env : Environment) (term : TermId) (k : IsVariantTerm env term) (tys : List TypeId) (fields : ℕ) (o : Option Form)
    → form env (MakesVariant k.ty k.variant) ≡ o → option_map (form_types env) o ≡ Some tys → length tys ≡ fields → MakesOf env term fields
form_there env term k tys fields None is e long = absurd cc
form_there env term k tys fields (Some shape) is e long = record {
  ty = k.ty;
  variant = k.variant;
  made = k.made;
  shape = shape;
  is = is;
  many = sym (length-map (typed_fields env shape.fields) (λ (field : List ℕ × TypeId). field.1)) ∙ ap length (some_same (form_types env shape) tys e) ∙ long;
}

-- what typing says of a call of a made term
pub makes_of : (env : Environment) (allowed : Allowed) (vars : List (TypeId × ℕ)) (ty : TypeId) (term : TermId) (es : Exprs)
    (k : IsVariantTerm env term) (o : Option Term) → slice_get env.terms term.0 ≡ o
    → IsSomeAnd o (λ (c : Term). IsTermKind env allowed c c.kind × (c.ret_ty ≡ ty) × AreExprsOf env allowed vars c.arg_tys es) → MakesOf env term (count es)
makes_of env allowed vars ty term es k None at h = absurd h
makes_of env allowed vars ty term es k (Some c) at h =
    let made : making_kind c.kind ≡ MakesVariant k.ty k.variant = ap making_of (sym at) ∙ k.made in
    form_there env term k c.arg_tys (count es) (form env (MakesVariant k.ty k.variant)) refl (kind_formed env allowed c c.kind k.ty k.variant made h.0) (counted_exprs env allowed vars c.arg_tys es h.2)

-- those of its arguments
pub args_typed : (env : Environment) (allowed : Allowed) (vars : List (TypeId × ℕ)) (ty : TypeId) (es : Exprs) (o : Option Term)
    → IsSomeAnd o (λ (c : Term). IsTermKind env allowed c c.kind × (c.ret_ty ≡ ty) × AreExprsOf env allowed vars c.arg_tys es)
    → (tys : List TypeId) × AreExprsOf env allowed vars tys es
args_typed env allowed vars ty es None h = absurd h
args_typed env allowed vars ty es (Some c) h = (c.arg_tys, h.2)

-- ---- texts

some_number : (a b : ℕ) → Some a ≡ Some b → a ≡ b
some_number a b e = some_same a b e

module _ (env : Environment) (number : Numbers) (params : List (List ℕ)) (allowed : Allowed) (vars : List (TypeId × ℕ)) where
  -- typed trees of the two texts mirror each other
  abbrev pub CanMirror : tree.Expr → tree.Pattern → Type 0
  CanMirror e p = (x : Expr) (q : Pattern) (ty : TypeId) → ExprNamed number params e x → IsExprOf env allowed vars ty x → PatternNamed number params p q → Mirrors env x q

  -- so in order
  abbrev pub CanMirrorAll : tree.Exprs → tree.Patterns → Type 0
  CanMirrorAll es ps = (xs : Exprs) (qs : Patterns) (tys : List TypeId) → ExprsNamed number params es xs → AreExprsOf env allowed vars tys xs → PatternsNamed number params ps qs → MirrorAll env xs qs

  pub can_name : (name : List ℕ) → CanMirror (tree.Name name) (tree.Var name)
  can_name name x q ty e typed p =
      let at : e.1.0 ≡ p.1.0 = some_number e.1.0 p.1.0 (sym e.3 ∙ p.3) in
      let same : e.1 ≡ p.1 = ap (λ (n : ℕ). let v : VarId = record { 0 = n } in v) at in
      let mirror : Mirrors env (expr.Var e.0 e.1) (pattern.Var p.0 p.1) = subst (λ (v : VarId). Mirrors env (expr.Var e.0 e.1) (pattern.Var p.0 v)) same (same_variable e.0 p.0 e.1) in
      subst (λ (y : Pattern). Mirrors env x y) (sym p.2) (subst (λ (y : Expr). Mirrors env y (pattern.Var p.0 p.1)) (sym e.2) mirror)

  pub can_make : (name : List ℕ) (es : tree.Exprs) (ps : tree.Patterns) → ((term : TermId) → number name ≡ Some term → IsVariantTerm env term)
      → CanMirrorAll es ps → CanMirror (tree.Call name es) (tree.Term name ps)
  can_make name es ps made inside x q ty e typed p =
      let same : e.1 ≡ p.1 = some_same e.1 p.1 (sym e.4 ∙ p.4) in
      let shown : IsExprOf env allowed vars ty (expr.Term e.0 e.1 e.2) = subst (IsExprOf env allowed vars ty) e.3 typed in
      let args = args_typed env allowed vars ty e.2 (slice_get env.terms e.1.0) shown.1 in
      let k = makes_of env allowed vars ty e.1 e.2 (made e.1 e.4) (slice_get env.terms e.1.0) refl shown.1 in
      let parts = inside e.2 p.2 args.0 e.5 args.1 p.5 in
      let mirror : Mirrors env (expr.Term e.0 e.1 e.2) (pattern.Term p.0 p.1 p.2) = subst (λ (t : TermId). Mirrors env (expr.Term e.0 e.1 e.2) (pattern.Term p.0 t p.2)) same (same_made e.0 p.0 e.1 e.2 p.2 k parts) in
      subst (λ (y : Pattern). Mirrors env x y) (sym p.3) (subst (λ (y : Expr). Mirrors env y (pattern.Term p.0 p.1 p.2)) (sym e.3) mirror)

  pub can_take : (w : Whole) (es : tree.Exprs) (ps : tree.Patterns)
      → ((a b : TermId) → number (maker w) ≡ Some a → number (taker w) ≡ Some b → IsPair env a b w) → CanMirrorAll es ps
      → CanMirror (tree.Call (maker w) es) (tree.Term (taker w) ps)
  can_take w es ps pair inside x q ty e typed p =
      let shown : IsExprOf env allowed vars ty (expr.Term e.0 e.1 e.2) = subst (IsExprOf env allowed vars ty) e.3 typed in
      let args = args_typed env allowed vars ty e.2 (slice_get env.terms e.1.0) shown.1 in
      let parts = inside e.2 p.2 args.0 e.5 args.1 p.5 in
      let mirror : Mirrors env (expr.Term e.0 e.1 e.2) (pattern.Term p.0 p.1 p.2) = made_taken e.0 p.0 e.1 p.1 e.2 p.2 w (pair e.1 p.1 e.4 p.4) parts in
      subst (λ (y : Pattern). Mirrors env x y) (sym p.3) (subst (λ (y : Expr). Mirrors env y (pattern.Term p.0 p.1 p.2)) (sym e.3) mirror)

  pub can_nothing : CanMirrorAll tree.NoExpr tree.NoPattern
  can_nothing xs qs tys e typed p = subst (MirrorAll env xs) (sym p) (subst (λ (ys : Exprs). MirrorAll env ys NoPattern) (sym e) no_mirror)

  pub can_both : (e : tree.Expr) (p : tree.Pattern) (es : tree.Exprs) (ps : tree.Patterns) → CanMirror e p → CanMirrorAll es ps
      → CanMirrorAll (tree.AnExpr e es) (tree.APattern p ps)
  can_both e p es ps one more xs qs tys d typed r =
      let shown : AreExprsOf env allowed vars tys (AnExpr d.0 d.1) = subst (AreExprsOf env allowed vars tys) d.2 typed in
      let mirror : MirrorAll env (AnExpr d.0 d.1) (APattern r.0 r.1) = both tys shown in
      subst (λ (y : Patterns). MirrorAll env xs y) (sym r.2) (subst (λ (y : Exprs). MirrorAll env y (APattern r.0 r.1)) (sym d.2) mirror)
    where
      both : (tys : List TypeId) → AreExprsOf env allowed vars tys (AnExpr d.0 d.1) → MirrorAll env (AnExpr d.0 d.1) (APattern r.0 r.1)
      both [] h = absurd h
      both (ty ∷ tys) h = a_mirror d.0 d.1 r.0 r.1 (one d.0 r.0 ty d.3 h.0 r.3) (more d.1 r.1 tys d.4 h.1 r.4)
