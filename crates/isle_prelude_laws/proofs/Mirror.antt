-- Expressions and patterns that mirror each other: what the one makes, the other reads.
use Rattle.std.proofs.Common.{◌≡◌, ℕ, zero, suc, ◌+◌, List, [], ◌∷◌, ◌++◌, length, true, cond, Option, Some, None, refl, sym, ap, ◌∙◌, subst, arith}
use Rattle.std.specs.Prelude.{◌&&◌, Contains}
use Rattle.std.specs.Str.{bytes_eq}
use Rattle.std.proofs.lemmas.List.Elements.{Contains-append_left, Contains-append_right}
use Rattle.std.proofs.lemmas.Slice.Eq.{bytes_eq-Decides}
use Rattle.isle_base.specs.declared.ids.TermId.{TermId}
use Rattle.isle_base.specs.declared.ids.TypeId.{TypeId}
use Rattle.isle_base.specs.declared.ids.VariantId.{VariantId}
use Rattle.isle_base.specs.declared.ids.VarId.{VarId}
use Rattle.isle_core.specs.Calling.{Calling, ByTurns, ByCases, NoCall, calling, extracting, impure, impure_all}
use Rattle.isle_core.specs.Choice.{Choice}
use Rattle.isle_core.specs.Eval.{Evaluated, Answered, Failed, EvaluatedAll, AllAnswered, OneFailed, named, then_all, before, then_one, made_or_called, evaluated, evaluated_all}
use Rattle.isle_core.specs.Expr as expr
use Rattle.isle_core.specs.Expr.{Expr, Exprs, NoExpr, AnExpr}
use Rattle.isle_core.specs.Form.{Form, form, field_values, value_named, form_value, made_value, is_named, is_of_form, values_of, parts}
use Rattle.isle_core.specs.HasType.{typed_fields}
use Rattle.isle_core.specs.Making.{Making, MakesVariant, MakesNothing, making}
use Rattle.isle_core.specs.Match.{Names, results, extracted, taken_apart}
use Rattle.isle_core.specs.Meaning.{Meaning, case}
use Rattle.isle_core.specs.Pattern as pattern
use Rattle.isle_core.specs.Pattern.{Pattern, Patterns, NoPattern, APattern}
use Rattle.isle_core.specs.RightSide.{Places, call_path, paths}
use Rattle.isle_core.specs.Rule.{Environment}
use Rattle.isle_core.specs.Terms.{sym_text, term_name}
use Rattle.isle_core.specs.Value.{Value, Answer, Made}
use Rattle.isle_core.proofs.Contained.{head_contained}
use Rattle.isle_core.proofs.OptionLaws.{some_same}
use Rattle.isle_prelude_laws.specs.GivenCalls.{GivenCall, call_with, call_on, own_call, after_value, given_calls, all_given}
use Rattle.isle_prelude_laws.specs.HonestMeaning.{Whole, ValuedInst, SkeletonInst, ValueArray, BlockArray, maker, taker, gives_back, answer_to, AreTakenBack}
use Rattle.isle_prelude_laws.proofs.ReadNames.{Opens, IsRead, at_variable, at_term, AreRead, no_part, a_part}

-- how many expressions there are
abbrev pub count : Exprs → ℕ
count NoExpr = 0
count (AnExpr e es) = suc (count es)

-- the term makes a variant with so many fields
pub record MakesOf (env : Environment) (term : TermId) (fields : ℕ) : Type 0 where
  pub ty : TypeId
  pub variant : VariantId
  pub made : making env term ≡ MakesVariant ty variant
  pub shape : Form
  pub is : form env (MakesVariant ty variant) ≡ Some shape
  pub many : length (typed_fields env shape.fields) ≡ fields

-- one term makes what the other takes apart
pub record IsPair (env : Environment) (a b : TermId) (w : Whole) : Type 0 where
  pub made : making env a ≡ MakesNothing
  pub taken : making env b ≡ MakesNothing
  pub maker : term_name env a ≡ maker w
  pub taker : term_name env b ≡ taker w

-- the pattern takes apart, part by part, what the expression makes
mutual
  pub data Mirrors (env : Environment) : Expr → Pattern → Type 0 where
    same_variable : (ty of : TypeId) (x : VarId) → Mirrors env (expr.Var ty x) (pattern.Var of x)
    same_made : (ty of : TypeId) (term : TermId) (es : Exprs) (ps : Patterns) → MakesOf env term (count es) → MirrorAll env es ps
        → Mirrors env (expr.Term ty term es) (pattern.Term of term ps)
    made_taken : (ty of : TypeId) (a b : TermId) (es : Exprs) (ps : Patterns) (w : Whole) → IsPair env a b w → MirrorAll env es ps
        → Mirrors env (expr.Term ty a es) (pattern.Term of b ps)

  -- part by part
  pub data MirrorAll (env : Environment) : Exprs → Patterns → Type 0 where
    no_mirror : MirrorAll env NoExpr NoPattern
    a_mirror : (e : Expr) (es : Exprs) (p : Pattern) (ps : Patterns) → Mirrors env e p → MirrorAll env es ps → MirrorAll env (AnExpr e es) (APattern p ps)

-- ---- evaluation, step by step

-- the steps of a value after another
record BothAnswered (first : Evaluated) (go : Value → List Made → EvaluatedAll) (vs : List Value) (calls : List Made) : Type 0 where
  value : Value
  between : List Made
  is : first ≡ Answered value between
  rest : go value between ≡ AllAnswered vs calls

both_answered : (first : Evaluated) (go : Value → List Made → EvaluatedAll) (vs : List Value) (calls : List Made)
    → then_all first go ≡ AllAnswered vs calls → BothAnswered first go vs calls
both_answered (Answered v made) go vs calls h = record { value = v; between = made; is = refl; rest = h }
both_answered (Failed made) go vs calls h = absurd cc

-- a value before others
record ValueBefore (v : Value) (rest : EvaluatedAll) (vs : List Value) (calls : List Made) : Type 0 where
  others : List Value
  is : rest ≡ AllAnswered others calls
  whole : v ∷ others ≡ vs

value_before : (v : Value) (rest : EvaluatedAll) (vs : List Value) (calls : List Made) → before v rest ≡ AllAnswered vs calls → ValueBefore v rest vs calls
value_before v (AllAnswered ws made) vs calls h =
    let same : v ∷ ws ≡ vs = cc in let at : made ≡ calls = cc in record { others = ws; is = ap (AllAnswered ws) at; whole = same }
value_before v (OneFailed made) vs calls h = absurd cc

-- the steps of a term: its arguments first
record AllFirst (all : EvaluatedAll) (go : List Value → List Made → Evaluated) (v : Value) (calls : List Made) : Type 0 where
  values : List Value
  between : List Made
  is : all ≡ AllAnswered values between
  rest : go values between ≡ Answered v calls

all_first : (all : EvaluatedAll) (go : List Value → List Made → Evaluated) (v : Value) (calls : List Made) → then_one all go ≡ Answered v calls
    → AllFirst all go v calls
all_first (AllAnswered vs made) go v calls h = record { values = vs; between = made; is = refl; rest = h }
all_first (OneFailed made) go v calls h = absurd cc

-- ---- made terms

long_fields : (fields : List (List ℕ × TypeId)) (vs : List Value) → length fields ≡ length vs → values_of (field_values fields vs) ≡ vs
long_fields [] [] h = refl
long_fields (f ∷ fields) (v ∷ vs) h = ap (λ ws. v ∷ ws) (long_fields fields vs (omega (arith, h)))
long_fields [] (v ∷ vs) h = absurd (omega (arith, h))
long_fields (f ∷ fields) [] h = absurd (omega (arith, h))

text_self : (name : List ℕ) → bytes_eq name name ≡ true
text_self name = (bytes_eq-Decides name name).1 refl

named_itself : (env : Environment) (f : Form) (vs : List Value) → is_of_form env (Some f) (form_value env (Some f) vs) ≡ true
named_itself env f vs = by f.variant
  where
    by : (o : Option _) → is_named env f.ty o (value_named env f.ty o (field_values (typed_fields env f.fields) vs)) ≡ true
    by None = text_self (sym_text env f.ty)
    by (Some name) = ap (λ b. b && bytes_eq (sym_text env name) (sym_text env name)) (text_self (sym_text env f.ty)) ∙ text_self (sym_text env name)

form_parts : (env : Environment) (f : Form) (vs : List Value) → length (typed_fields env f.fields) ≡ length vs → parts (form_value env (Some f) vs) ≡ vs
form_parts env f vs h = by f.variant
  where
    by : (o : Option _) → parts (value_named env f.ty o (field_values (typed_fields env f.fields) vs)) ≡ vs
    by None = long_fields (typed_fields env f.fields) vs h
    by (Some name) = long_fields (typed_fields env f.fields) vs h

-- a value that a variant's term makes is taken apart into its fields
made_apart : (env : Environment) (m : Meaning) (term : TermId) (fields : ℕ) (vs : List Value) (k : MakesOf env term fields) → length vs ≡ fields → (place : ℕ)
    → taken_apart env m place (making env term) (extracting env term) (made_value env (MakesVariant k.ty k.variant) vs) ≡ Some vs
made_apart env m term fields vs k long place =
    let v = made_value env (MakesVariant k.ty k.variant) vs in
    ap (λ mk. taken_apart env m place mk (extracting env term) v) k.made
    ∙ ap (λ b. cond b (Some (parts v)) None) (ap (λ o. is_of_form env o (form_value env o vs)) k.is ∙ named_itself env k.shape vs)
    ∙ ap Some (ap (λ o. parts (form_value env o vs)) k.is ∙ form_parts env k.shape vs (k.many ∙ sym long))

made_opens : (env : Environment) (m : Meaning) (term : TermId) (fields : ℕ) (vs : List Value) (k : MakesOf env term fields) → length vs ≡ fields
    → Opens env m term (made_value env (MakesVariant k.ty k.variant) vs) vs
made_opens env m term fields vs k long = record {
  first = made_apart env m term fields vs k long 0;
  only = λ place ws h. some_same vs ws (sym (made_apart env m term fields vs k long place) ∙ h);
}

-- ---- called terms

-- what is given back at the first place, and at any
back_first : (w : Whole) (vs : List Value) → results 0 (gives_back w vs) ≡ Some vs
back_first ValuedInst vs = refl
back_first SkeletonInst vs = refl
back_first (ValueArray n) vs = refl
back_first (BlockArray n) vs = refl

back_only : (w : Whole) (vs : List Value) (place : ℕ) (ws : List Value) → results place (gives_back w vs) ≡ Some ws → vs ≡ ws
back_only ValuedInst vs zero ws h = some_same vs ws h
back_only ValuedInst vs (suc place) ws h = absurd cc
back_only SkeletonInst vs place ws h = some_same vs ws h
back_only (ValueArray n) vs place ws h = some_same vs ws h
back_only (BlockArray n) vs place ws h = some_same vs ws h

extracted_back : (m : Meaning) (c : Calling) (v : Value) (a : Answer) (place : ℕ) → answer_to m c v ≡ Some a → extracted m place c v ≡ results place a
extracted_back m (ByCases callee kind) v a place h = ap (results place) (some_same (case m callee (v ∷ [])) a h)
extracted_back m (ByTurns callee kind) v a place h = absurd cc
extracted_back m NoCall v a place h = absurd cc

taken_opens : (env : Environment) (m : Meaning) (b : TermId) (v : Value) (vs : List Value) (w : Whole) → making env b ≡ MakesNothing
    → answer_to m (extracting env b) v ≡ Some (gives_back w vs) → Opens env m b v vs
taken_opens env m b v vs w none h = record {
  first = all 0 ∙ back_first w vs;
  only = λ place ws k. back_only w vs place ws (sym (all place) ∙ k);
}
  where
    all : (place : ℕ) → taken_apart env m place (making env b) (extracting env b) v ≡ results place (gives_back w vs)
    all place = ap (λ mk. taken_apart env m place mk (extracting env b) v) none ∙ extracted_back m (extracting env b) v (gives_back w vs) place h

-- ---- the law

named_is : (o : Option Value) (made : List Made) (v : Value) (calls : List Made) → named o made ≡ Answered v calls → o ≡ Some v
named_is (Some w) made v calls h = let same : w ≡ v = cc in ap Some same
named_is None made v calls h = absurd cc

made_is : (w v : Value) (made calls : List Made) → Answered w made ≡ Answered v calls → w ≡ v
made_is w v made calls h = cc

-- as many values as expressions
as_many : (env : Environment) (m : Meaning) (choice : Choice) (es : Exprs) (names : Names) (places : Places) (n : ℕ) (made : List Made)
    (vs : List Value) (calls : List Made) → evaluated_all env m choice es names places n made ≡ AllAnswered vs calls → length vs ≡ count es
as_many env m choice NoExpr names places n made vs calls h = let none : [] ≡ vs = cc in ap length (sym none)
as_many env m choice (AnExpr e es) names places n made vs calls h =
    let s = both_answered (evaluated env m choice e names places n made) (λ v after. before v (evaluated_all env m choice es names places (n + impure env e) after)) vs calls h in
    let t = value_before s.value (evaluated_all env m choice es names places (n + impure env e) s.between) vs calls s.rest in
    ap length (sym t.whole) ∙ ap suc (as_many env m choice es names places (n + impure env e) s.between t.others calls t.is)

-- the call that a term makes is among those given
own_given : (a : TermId) (vs : List Value) (v : Value) (mk : Making) (all : EvaluatedAll) (result : Evaluated) (between calls : List Made)
    → mk ≡ MakesNothing → all ≡ AllAnswered vs between → result ≡ Answered v calls
    → own_call mk a all result ≡ record { term = a; args = vs; gave = v } ∷ []
own_given a vs v mk all result between calls none is gives =
    ap (λ x. own_call x a all result) none ∙ ap (λ x. call_on a x result) is ∙ ap (call_with a vs) gives

left_back : (env : Environment) (m : Meaning) (xs ys : List GivenCall) → AreTakenBack env m (xs ++ ys) → AreTakenBack env m xs
left_back env m xs ys h c k = h c (Contains-append_left xs ys c k)

right_back : (env : Environment) (m : Meaning) (xs ys : List GivenCall) → AreTakenBack env m (xs ++ ys) → AreTakenBack env m ys
right_back env m xs ys h c k = h c (Contains-append_right xs ys c k)

mutual
  -- what an expression gives is read by the pattern that mirrors it, if what its calls made is taken back
  pub mirror_reads : {env : Environment} {e : Expr} {p : Pattern} → Mirrors env e p
      → (m : Meaning) (choice : Choice) (names : Names) (places : Places) (n : ℕ) (made : List Made) (v : Value) (calls : List Made)
      → evaluated env m choice e names places n made ≡ Answered v calls
      → AreTakenBack env m (given_calls env m choice e names places n made) → IsRead env m names p v
  mirror_reads (same_variable ty of x) m choice names places n made v calls h back = at_variable of x v (named_is (names x.0) made v calls h)
  mirror_reads {env = env} (same_made ty of term es ps k parts) m choice names places n made v calls h back =
      let place = choice (call_path env term (paths env es places n) (n + impure_all env es)) in
      let s = all_first (evaluated_all env m choice es names places n made) (made_or_called env m place (making env term) (calling env term)) v calls h in
      let gives : Answered (made_value env (MakesVariant k.ty k.variant) s.values) s.between ≡ Answered v calls = ap (λ mk. made_or_called env m place mk (calling env term) s.values s.between) (sym k.made) ∙ s.rest in
      let same = made_is (made_value env (MakesVariant k.ty k.variant) s.values) v s.between calls gives in
      let long = as_many env m choice es names places n made s.values s.between s.is in
      let own = own_call (making env term) term (evaluated_all env m choice es names places n made) (evaluated env m choice (expr.Term ty term es) names places n made) in
      at_term of term ps v s.values (subst (λ (u : Value). Opens env m term u s.values) same (made_opens env m term (count es) s.values k long))
      (all_read parts m choice names places n made s.values s.between s.is (left_back env m (all_given env m choice es names places n made) own back))
  mirror_reads {env = env} (made_taken ty of a b es ps w pair parts) m choice names places n made v calls h back =
      let place = choice (call_path env a (paths env es places n) (n + impure_all env es)) in
      let s = all_first (evaluated_all env m choice es names places n made) (made_or_called env m place (making env a) (calling env a)) v calls h in
      let own = own_call (making env a) a (evaluated_all env m choice es names places n made) (evaluated env m choice (expr.Term ty a es) names places n made) in
      let one : GivenCall = record { term = a; args = s.values; gave = v } in
      let alone : own ≡ one ∷ [] = own_given a s.values v (making env a) (evaluated_all env m choice es names places n made) (evaluated env m choice (expr.Term ty a es) names places n made) s.between calls pair.made s.is h in
      let there : Contains own one = subst (λ (xs : List GivenCall). Contains xs one) (sym alone) (head_contained one []) in
      let taken = right_back env m (all_given env m choice es names places n made) own back one there w b pair.maker pair.taker in
      at_term of b ps v s.values (taken_opens env m b v s.values w pair.taken taken)
      (all_read parts m choice names places n made s.values s.between s.is (left_back env m (all_given env m choice es names places n made) own back))

  pub all_read : {env : Environment} {es : Exprs} {ps : Patterns} → MirrorAll env es ps
      → (m : Meaning) (choice : Choice) (names : Names) (places : Places) (n : ℕ) (made : List Made) (vs : List Value) (calls : List Made)
      → evaluated_all env m choice es names places n made ≡ AllAnswered vs calls
      → AreTakenBack env m (all_given env m choice es names places n made) → AreRead env m names ps vs
  all_read {env = env} no_mirror m choice names places n made vs calls h back = let none : [] ≡ vs = cc in subst (AreRead env m names NoPattern) none no_part
  all_read {env = env} (a_mirror e es p ps one more) m choice names places n made vs calls h back =
      let later : List Made → EvaluatedAll = λ after. evaluated_all env m choice es names places (n + impure env e) after in
      let s = both_answered (evaluated env m choice e names places n made) (λ v after. before v (later after)) vs calls h in
      let t = value_before s.value (later s.between) vs calls s.rest in
      let go : Value → List Made → List GivenCall = λ v after. all_given env m choice es names places (n + impure env e) after in
      let first = given_calls env m choice e names places n made in
      let here = mirror_reads one m choice names places n made s.value s.between s.is (left_back env m first (after_value (evaluated env m choice e names places n made) go) back) in
      let behind = subst (λ (x : Evaluated). AreTakenBack env m (after_value x go)) s.is (right_back env m first (after_value (evaluated env m choice e names places n made) go) back) in
      let rest = all_read more m choice names places (n + impure env e) s.between t.others calls t.is behind in
      subst (AreRead env m names (APattern p ps)) t.whole (a_part p ps s.value t.others here rest)
