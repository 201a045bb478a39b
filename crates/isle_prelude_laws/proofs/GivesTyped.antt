-- What a typed expression gives is of its type.
use Rattle.std.proofs.Common.{◌≡◌, ℕ, List, [], ◌∷◌, Option, Some, None, refl, sym, ap, ◌∙◌, subst}
use Rattle.std.specs.Prelude.{Contains, IsSomeAnd, slice_get}
use Rattle.isle_base.specs.declared.ids.TypeId.{TypeId}
use Rattle.isle_base.specs.declared.ids.VariantId.{VariantId}
use Rattle.isle_core.specs.declared.types.Term.{Term}
use Rattle.isle_core.specs.declared.types.TermKind.{TermKind}
use Rattle.isle_core.specs.declared.types.TermKind.TheVariants as kind
use Rattle.isle_core.specs.Calling.{Calling}
use Rattle.isle_core.specs.ExprType.{Allowed, IsTermKind, IsExprOf, AreExprsOf}
use Rattle.isle_core.specs.Expr.{Expr, Exprs}
use Rattle.isle_core.specs.Form.{made_value}
use Rattle.isle_core.specs.HasType.{HasType, HaveTypes}
use Rattle.isle_core.specs.Making.{MakesVariant, making_kind, making_of}
use Rattle.isle_core.specs.Match.{Names}
use Rattle.isle_core.specs.PatternType.{AreVariantsApart}
use Rattle.isle_core.specs.Rule.{Environment}
use Rattle.isle_core.specs.Value.{Value}
use Rattle.isle_core.proofs.MadeTypes.{made_typed}
use Rattle.isle_core.proofs.OptionLaws.{some_same}
use Rattle.isle_prelude_laws.specs.HonestMeaning.{Whole}
use Rattle.isle_prelude_laws.proofs.Gives.{Allows, Values, Gives, a_variable, a_made, a_call, GivesAll, gives_none, gives_one}
use Rattle.isle_prelude_laws.proofs.Mirrored.{kind_formed}

-- each variable has a value of each of its types
abbrev pub AreTyped : Environment → List (TypeId × ℕ) → Names → Type 0
AreTyped env vars names = (ty : TypeId) (x : ℕ) (v : Value) → Contains {X = TypeId × ℕ} vars (ty, x) → names x ≡ Some v → HasType env v ty

-- a variant is of the type that its term gives
kind_type : (env : Environment) (allowed : Allowed) (c : Term) (k : TermKind) (ty : TypeId) (variant : VariantId)
    → making_kind k ≡ MakesVariant ty variant → IsTermKind env allowed c k → ty ≡ c.ret_ty
kind_type env allowed c (kind.Variant of number) ty variant h is = let same : of ≡ ty = cc in sym same ∙ is.0
kind_type env allowed c (kind.Struct of) ty variant h is = absurd cc
kind_type env allowed c (kind.Decl pure multi partial recursive by how) ty variant h is = absurd cc

module _ (env : Environment) (apart : AreVariantsApart env) (allowed : Allowed) (vars : List (TypeId × ℕ)) where
  mutual
    gives_typed : {names : Names} {val : Values} {calls : Whole → Calling} {P : Allows} {e : Expr} {v : Value} → Gives env names val calls P e v
        → AreTyped env vars names → (ty : TypeId) → IsExprOf env allowed vars ty e → HasType env v ty
    gives_typed (a_variable of x v is) held ty typed = held ty x.0 v typed.1 is
    gives_typed (a_made of term es vs k all) held ty typed = by (slice_get env.terms term.0) refl typed.1 (λ tys h. all_typed all held tys h)
      where
        by : (o : Option Term) → slice_get env.terms term.0 ≡ o
            → IsSomeAnd o (λ (c : Term). IsTermKind env allowed c c.kind × (c.ret_ty ≡ ty) × AreExprsOf env allowed vars c.arg_tys es)
            → ((tys : List TypeId) → AreExprsOf env allowed vars tys es → HaveTypes env vs tys) → HasType env (made_value env (MakesVariant k.ty k.variant) vs) ty
        by None at h go = absurd h
        by (Some c) at h go =
            let made : making_kind c.kind ≡ MakesVariant k.ty k.variant = ap making_of (sym at) ∙ k.made in
            made_typed env apart vs ty (MakesVariant k.ty k.variant) c.arg_tys (kind_type env allowed c c.kind k.ty k.variant made h.0 ∙ h.1) (kind_formed env allowed c c.kind k.ty k.variant made h.0) (go c.arg_tys h.2)
    gives_typed {val = val} (a_call of a es w vs k p all) held ty typed = by (slice_get env.terms a.0) refl typed.1
      where
        by : (o : Option Term) → slice_get env.terms a.0 ≡ o
            → IsSomeAnd o (λ (c : Term). IsTermKind env allowed c c.kind × (c.ret_ty ≡ ty) × AreExprsOf env allowed vars c.arg_tys es)
            → HasType env (val w) ty
        by None at h = absurd h
        by (Some c) at h = subst (HasType env (val w)) (ap (λ (x : Term). x.ret_ty) (some_same k.decl c (sym k.there ∙ at)) ∙ h.1) k.typed

    pub all_typed : {names : Names} {val : Values} {calls : Whole → Calling} {P : Allows} {es : Exprs} {vs : List Value}
        → GivesAll env names val calls P es vs → AreTyped env vars names → (tys : List TypeId) → AreExprsOf env allowed vars tys es
        → HaveTypes env vs tys
    all_typed gives_none held [] typed = tt
    all_typed gives_none held (ty ∷ tys) typed = absurd typed
    all_typed (gives_one e es v vs one rest) held [] typed = absurd typed
    all_typed (gives_one e es v vs one rest) held (ty ∷ tys) typed = (gives_typed one held ty typed.0, all_typed rest held tys typed.1)
