-- Patterns that match no value which another one reads.
use Rattle.std.proofs.Common.{◌≡◌, ℕ, suc, List, Bool, true, false, cond, Option, Some, None, refl, sym, ap, ◌∙◌, subst}
use Rattle.std.specs.Prelude.{◌&&◌, option_and_then, option_map}
use Rattle.std.specs.Str.{bytes_eq}
use Rattle.std.proofs.lemmas.Slice.Eq.{bytes_eq-Decides}
use Rattle.isle_base.specs.declared.ids.Sym.{Sym}
use Rattle.isle_base.specs.declared.ids.TermId.{TermId}
use Rattle.isle_base.specs.declared.ids.TypeId.{TypeId}
use Rattle.isle_base.specs.declared.ids.VariantId.{VariantId}
use Rattle.isle_core.specs.Calling.{extracting}
use Rattle.isle_core.specs.Choice.{Choice}
use Rattle.isle_core.specs.Form.{Form, form, form_name, is_named, is_of_form, is_made_by, parts}
use Rattle.isle_core.specs.PatternType.{AreVariantsApart}
use Rattle.isle_core.specs.Making.{MakesVariant, making}
use Rattle.isle_core.specs.Match.{Names, taken_apart, matches, matches_parts}
use Rattle.isle_core.specs.Meaning.{Meaning}
use Rattle.isle_core.specs.Opening.{Opening, opening, part_path}
use Rattle.isle_core.specs.Path.{Path, Extracted}
use Rattle.isle_core.specs.Pattern as pattern
use Rattle.isle_core.specs.Pattern.{Pattern, Patterns, NoPattern, APattern}
use Rattle.isle_core.specs.Rule.{Environment}
use Rattle.isle_core.specs.Terms.{sym_text}
use Rattle.isle_core.specs.Value.{Value, Truth, Int, Opaque, Variant, Struct}
use Rattle.isle_core.proofs.OptionLaws.{some_same}
use Rattle.isle_prelude_laws.proofs.Mirrored.{IsVariantTerm}
use Rattle.isle_prelude_laws.proofs.ReadNames.{IsRead, at_variable, at_term, AreRead, no_part, a_part}

-- a term makes this variant of the type
abbrev pub MakesThis : Environment → TermId → TypeId → VariantId → Type 0
MakesThis env term ty variant = making env term ≡ MakesVariant ty variant

-- at some place the second pattern asks for another variant than the first one
mutual
  pub data Apart (env : Environment) : Pattern → Pattern → Type 0 where
    other_made : (ty of made : TypeId) (a b : TermId) (ps qs : Patterns) (x y : VariantId) → MakesThis env a made x → MakesThis env b made y
        → (x ≡ y → ⊥) → Apart env (pattern.Term ty a ps) (pattern.Term of b qs)
    made_within : (ty of : TypeId) (a b : TermId) (ps qs : Patterns) → IsVariantTerm env a → IsVariantTerm env b → SomeApart env ps qs
        → Apart env (pattern.Term ty a ps) (pattern.Term of b qs)
    taken_within : (ty of : TypeId) (a : TermId) (ps qs : Patterns) → SomeApart env ps qs → Apart env (pattern.Term ty a ps) (pattern.Term of a qs)

  -- at some part
  pub data SomeApart (env : Environment) : Patterns → Patterns → Type 0 where
    first_apart : (p q : Pattern) (ps qs : Patterns) → Apart env p q → SomeApart env (APattern p ps) (APattern q qs)
    later_apart : (p q : Pattern) (ps qs : Patterns) → SomeApart env ps qs → SomeApart env (APattern p ps) (APattern q qs)

-- ---- variants

-- what a variant's term takes apart
taken_variant : (env : Environment) (m : Meaning) (term : TermId) (ty : TypeId) (variant : VariantId) (v : Value) (place : ℕ)
    → making env term ≡ MakesVariant ty variant
    → taken_apart env m place (making env term) (extracting env term) v ≡ cond (is_made_by env (MakesVariant ty variant) v) (Some (parts v)) None
taken_variant env m term ty variant v place h = ap (λ mk. taken_apart env m place mk (extracting env term) v) h

if_there : {X : Type 0} (b : Bool) (x y : X) → cond b (Some x) None ≡ Some y → (b ≡ true) × (x ≡ y)
if_there true x y h = (refl, some_same x y h)
if_there false x y h = absurd cc

both_true : (a b : Bool) → (a && b) ≡ true → (a ≡ true) × (b ≡ true)
both_true true b h = (refl, h)
both_true false b h = absurd cc

same_text : (a b : List ℕ) → bytes_eq a b ≡ true → a ≡ b
same_text a b h = (bytes_eq-Decides a b).0 h

-- two forms that one value is of have one name
one_name : (env : Environment) (ty of : Sym) (x y : Option Sym) (v : Value) → is_named env ty x v ≡ true → is_named env of y v ≡ true
    → (sym_text env ty ≡ sym_text env of) × (option_map (sym_text env) x ≡ option_map (sym_text env) y)
one_name env ty of (Some x) (Some y) (Variant name label fs) h g =
    let s = both_true (bytes_eq name (sym_text env ty)) (bytes_eq label (sym_text env x)) h in
    let t = both_true (bytes_eq name (sym_text env of)) (bytes_eq label (sym_text env y)) g in
    (sym (same_text name (sym_text env ty) s.0) ∙ same_text name (sym_text env of) t.0, ap Some (sym (same_text label (sym_text env x) s.1) ∙ same_text label (sym_text env y) t.1))
one_name env ty of None None (Struct name fs) h g = (sym (same_text name (sym_text env ty) h) ∙ same_text name (sym_text env of) g, refl)
one_name env ty of (Some x) None (Variant name label fs) h g = absurd cc
one_name env ty of None y (Variant name label fs) h g = absurd cc
one_name env ty of (Some x) y (Struct name fs) h g = absurd cc
one_name env ty of None (Some y) (Struct name fs) h g = absurd cc
one_name env ty of x y (Truth b) h g = absurd cc
one_name env ty of x y (Int name n) h g = absurd cc
one_name env ty of x y (Opaque name n) h g = absurd cc

forms_same : (env : Environment) (o q : Option Form) (v : Value) → is_of_form env o v ≡ true → is_of_form env q v ≡ true
    → (f : _) × (option_map (form_name env) o ≡ Some f) × (option_map (form_name env) q ≡ Some f)
forms_same env None q v h g = absurd cc
forms_same env (Some o) None v h g = absurd cc
forms_same env (Some o) (Some q) v h g =
    let n = one_name env o.ty q.ty o.variant q.variant v h g in
    (form_name env o, refl, ap Some (ap (λ (t : List ℕ). (t, option_map (sym_text env) q.variant)) (sym n.0) ∙ ap (λ (x : Option (List ℕ)). (sym_text env o.ty, x)) (sym n.1)))

-- no value is of two variants of a type
not_both : (env : Environment) (made : TypeId) (x y : VariantId) (v : Value) → AreVariantsApart env → (x ≡ y → ⊥)
    → is_made_by env (MakesVariant made x) v ≡ true → is_made_by env (MakesVariant made y) v ≡ true → ⊥
not_both env made x y v variants apart h g =
    let f = forms_same env (form env (MakesVariant made x)) (form env (MakesVariant made y)) v h g in
    apart (variants made x y f.0 f.1 f.2)

-- ---- the law

none_then : {A B : Type 0} (o : Option A) (f : A → Option B) → ((a : A) → o ≡ Some a → f a ≡ None) → option_and_then f o ≡ None
none_then None f h = refl
none_then (Some a) f h = h a refl

mutual
  -- whatever items are chosen and names are there
  pub apart_none : {env : Environment} {m : Meaning} {all : Names} {p q : Pattern} {v : Value} → AreVariantsApart env → IsRead env m all p v
      → Apart env p q → (choice : Choice) (at : Path) (names : Names) → matches env m choice q at v names ≡ None
  apart_none variants (at_variable ty x v is) apart choice at names = elim apart [ ]
  apart_none {env = env} {m = m} variants (at_term ty term ps v vs opens read) (other_made ty2 of made a b ps2 qs x y k j apart) choice at names =
      let here = if_there (is_made_by env (MakesVariant made x) v) (parts v) vs (sym (taken_variant env m term made x v 0 k) ∙ opens.first) in
      none_then (taken_apart env m (choice (Extracted b at)) (making env b) (extracting env b) v) (λ (ws : List Value). matches_parts env m choice (opening env b) qs 0 at ws names)
      (λ ws h. absurd (not_both env made x y v variants apart here.0 (if_there (is_made_by env (MakesVariant made y) v) (parts v) ws (sym (taken_variant env m b made y v (choice (Extracted b at)) j) ∙ h)).0))
  apart_none {env = env} {m = m} variants (at_term ty term ps v vs opens read) (made_within ty2 of a b ps2 qs k j inside) choice at names =
      let here = if_there (is_made_by env (MakesVariant k.ty k.variant) v) (parts v) vs (sym (taken_variant env m term k.ty k.variant v 0 k.made) ∙ opens.first) in
      none_then (taken_apart env m (choice (Extracted b at)) (making env b) (extracting env b) v) (λ (ws : List Value). matches_parts env m choice (opening env b) qs 0 at ws names)
      (λ ws h.
      let there = if_there (is_made_by env (MakesVariant j.ty j.variant) v) (parts v) ws (sym (taken_variant env m b j.ty j.variant v (choice (Extracted b at)) j.made) ∙ h) in
      subst (λ (us : List Value). matches_parts env m choice (opening env b) qs 0 at us names ≡ None) (sym here.1 ∙ there.1) (some_none variants read inside choice (opening env b) 0 at names))
  apart_none {env = env} {m = m} variants (at_term ty term ps v vs opens read) (taken_within ty2 of a ps2 qs inside) choice at names =
      none_then (taken_apart env m (choice (Extracted term at)) (making env term) (extracting env term) v) (λ (ws : List Value). matches_parts env m choice (opening env term) qs 0 at ws names)
      (λ ws h. subst (λ (us : List Value). matches_parts env m choice (opening env term) qs 0 at us names ≡ None) (opens.only (choice (Extracted term at)) ws h) (some_none variants read inside choice (opening env term) 0 at names))

  some_none : {env : Environment} {m : Meaning} {all : Names} {ps qs : Patterns} {vs : List Value} → AreVariantsApart env → AreRead env m all ps vs
      → SomeApart env ps qs → (choice : Choice) (o : Opening) (i : ℕ) (at : Path) (names : Names)
      → matches_parts env m choice o qs i at vs names ≡ None
  some_none variants no_part apart choice o i at names = elim apart [ ]
  some_none {env = env} {m = m} variants (a_part p ps v vs one more) (first_apart p2 q ps2 qs apart) choice o i at names =
      ap (option_and_then (λ (mid : Names). matches_parts env m choice o qs (suc i) at vs mid)) (apart_none variants one apart choice (part_path o i at) names)
  some_none {env = env} {m = m} variants (a_part p ps v vs one more) (later_apart p2 q ps2 qs apart) choice o i at names =
      none_then (matches env m choice q (part_path o i at) v names) (λ (mid : Names). matches_parts env m choice o qs (suc i) at vs mid) (λ mid h. some_none variants more apart choice o (suc i) at mid)
