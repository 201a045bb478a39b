-- What stands at a path stays there while later calls are answered.
use Rattle.std.proofs.Common.{◌≡◌, ℕ, List, [], Option, Some, None, refl, ap, ◌∙◌}
use Rattle.isle_core.specs.Value.{Value, Answer}
use Rattle.isle_core.specs.Meaning.{Meaning}
use Rattle.isle_core.specs.Calling.{Calling, ByTurns, ByCases, NoCall, calling, extracting}
use Rattle.isle_core.specs.Choice.{Choice}
use Rattle.isle_core.specs.Making.{Making, MakesVariant, MakesStruct}
use Rattle.isle_core.specs.Path.{Path, Arg, ConstBool, ConstInt, ConstPrim, Extracted, Called, Chosen, MadeVariant, MadeStruct, VariantField, StructField, Wrapped, Inner, Part, Paths, NoPath, APath}
use Rattle.isle_core.specs.ValueAt.{Held, AValue, ATuple, Absent, One, Optional, Listed, Known, held_of, chosen_held, inner_held, value_before, case_held, extracted_held, call_held, wrapped_held, part_held, made_held, field_held, value_at, values_at}
use Rattle.isle_core.specs.Rule.{Environment}

-- something stands there
abbrev pub IsThere : Held → Type 0
IsThere Absent = ⊥
IsThere (One i) = Unit {0}
IsThere (Optional o) = Unit {0}
IsThere (Listed is) = Unit {0}

-- all values are there
abbrev pub AreThere : Option (List Value) → Type 0
AreThere None = ⊥
AreThere (Some vs) = Unit {0}

-- the answers that are known stay, and the items that are chosen
pub record Grows (known later : Known) : Type 0 where
  pub by : (k : ℕ) (a : Answer) → known.answers k ≡ Some a → later.answers k ≡ Some a
  pub choice : later.choice ≡ known.choice

answer_stays : (o p : Option Answer) → ((a : Answer) → o ≡ Some a → p ≡ Some a) → IsThere (held_of o) → held_of p ≡ held_of o
answer_stays None p h t = absurd t
answer_stays (Some a) p h t = ap held_of (h a refl)

inner_stays : (h g : Held) → (IsThere h → g ≡ h) → IsThere (inner_held h) → inner_held g ≡ inner_held h
inner_stays Absent g s t = absurd t
inner_stays (One i) g s t = absurd t
inner_stays (Listed is) g s t = absurd t
inner_stays (Optional None) g s t = absurd t
inner_stays (Optional (Some i)) g s t = ap inner_held (s tt)

before_stays : (h g : Held) (o p : Option (List Value)) → (IsThere h → g ≡ h) → (AreThere o → p ≡ o) → AreThere (value_before h o) → value_before g p ≡ value_before h o
before_stays (One (AValue v)) g (Some vs) p s t k = rw (s tt, t tt) refl
before_stays (One (AValue v)) g None p s t k = absurd k
before_stays (One (ATuple vs)) g o p s t k = absurd k
before_stays (Listed is) g o p s t k = absurd k
before_stays Absent g o p s t k = absurd k
before_stays (Optional w) g o p s t k = absurd k

-- what is answered by cases
case_stays : (m : Meaning) (c : Calling) (vs ws : Option (List Value)) → (AreThere vs → ws ≡ vs) → IsThere (case_held m c vs) → case_held m c ws ≡ case_held m c vs
case_stays m (ByCases callee kind) None ws k t = absurd t
case_stays m (ByCases callee kind) (Some vs) ws k t = ap (case_held m (ByCases callee kind)) (k tt)
case_stays m (ByTurns callee kind) vs ws k t = absurd t
case_stays m NoCall vs ws k t = absurd t

extracted_stays : (m : Meaning) (c : Calling) (h g : Held) → (IsThere h → g ≡ h) → IsThere (extracted_held m c h) → extracted_held m c g ≡ extracted_held m c h
extracted_stays m c h g s t = case_stays m c (value_before h (Some [])) (value_before g (Some [])) (λ k. before_stays h g (Some []) (Some []) s (λ there. refl) k) t

call_stays : (m : Meaning) (c : Calling) (o p : Option Answer) (vs ws : Option (List Value)) → ((a : Answer) → o ≡ Some a → p ≡ Some a) → (AreThere vs → ws ≡ vs) → IsThere (call_held m c o vs) → call_held m c p ws ≡ call_held m c o vs
call_stays m (ByTurns callee partial) o p vs ws h k t = answer_stays o p h t
call_stays m (ByCases callee partial) o p vs ws h k t = case_stays m (ByCases callee partial) vs ws k t
call_stays m NoCall o p vs ws h k t = absurd t

made_stays : (env : Environment) (mk : Making) (o p : Option (List Value)) → (AreThere o → p ≡ o) → IsThere (made_held env mk o) → made_held env mk p ≡ made_held env mk o
made_stays env mk None p s t = absurd t
made_stays env mk (Some vs) p s t = ap (made_held env mk) (s tt)

field_stays : (i : ℕ) (h g : Held) → (IsThere h → g ≡ h) → IsThere (field_held i h) → field_held i g ≡ field_held i h
field_stays i (One x) g s t = ap (field_held i) (s tt)
field_stays i Absent g s t = absurd t
field_stays i (Optional o) g s t = absurd t
field_stays i (Listed is) g s t = absurd t

wrapped_stays : (h g : Held) → (IsThere h → g ≡ h) → IsThere (wrapped_held h) → wrapped_held g ≡ wrapped_held h
wrapped_stays (One i) g s t = ap wrapped_held (s tt)
wrapped_stays Absent g s t = absurd t
wrapped_stays (Optional o) g s t = absurd t
wrapped_stays (Listed is) g s t = absurd t

part_stays : (i : ℕ) (h g : Held) → (IsThere h → g ≡ h) → IsThere (part_held i h) → part_held i g ≡ part_held i h
part_stays i (One x) g s t = ap (part_held i) (s tt)
part_stays i Absent g s t = absurd t
part_stays i (Optional o) g s t = absurd t
part_stays i (Listed is) g s t = absurd t

chosen_stays : (i j : ℕ) (h g : Held) → j ≡ i → (IsThere h → g ≡ h) → IsThere (chosen_held i h) → chosen_held j g ≡ chosen_held i h
chosen_stays i j (Listed is) g e s t = ap (λ k. chosen_held k g) e ∙ ap (chosen_held i) (s tt)
chosen_stays i j Absent g e s t = absurd t
chosen_stays i j (One x) g e s t = absurd t
chosen_stays i j (Optional o) g e s t = absurd t

mutual
  -- what stands at a path
  pub held_stays : (p : Path) (env : Environment) (m : Meaning) (args : List Value) (known later : Known) → Grows known later → IsThere (value_at env m args known p) → value_at env m args later p ≡ value_at env m args known p
  held_stays (Arg i) env m args known later g t = refl
  held_stays (ConstBool ty b) env m args known later g t = refl
  held_stays (ConstInt ty n) env m args known later g t = refl
  held_stays (ConstPrim name) env m args known later g t = refl
  held_stays (MadeVariant ty variant ps) env m args known later g t =
      made_stays env (MakesVariant ty variant) (values_at env m args known ps) (values_at env m args later ps) (λ s. values_stay ps env m args known later g s) t
  held_stays (MadeStruct ty ps) env m args known later g t = made_stays env (MakesStruct ty) (values_at env m args known ps) (values_at env m args later ps) (λ s. values_stay ps env m args known later g s) t
  held_stays (VariantField variant i p) env m args known later g t = field_stays i (value_at env m args known p) (value_at env m args later p) (λ s. held_stays p env m args known later g s) t
  held_stays (StructField i p) env m args known later g t = field_stays i (value_at env m args known p) (value_at env m args later p) (λ s. held_stays p env m args known later g s) t
  held_stays (Called term ps k) env m args known later g t =
      call_stays m (calling env term) (known.answers k) (later.answers k) (values_at env m args known ps) (values_at env m args later ps) (g.by k) (λ s. values_stay ps env m args known later g s) t
  held_stays (Inner p) env m args known later g t = inner_stays (value_at env m args known p) (value_at env m args later p) (λ s. held_stays p env m args known later g s) t
  held_stays (Extracted term p) env m args known later g t = extracted_stays m (extracting env term) (value_at env m args known p) (value_at env m args later p) (λ s. held_stays p env m args known later g s) t
  held_stays (Wrapped p) env m args known later g t = wrapped_stays (value_at env m args known p) (value_at env m args later p) (λ s. held_stays p env m args known later g s) t
  held_stays (Part i p) env m args known later g t = part_stays i (value_at env m args known p) (value_at env m args later p) (λ s. held_stays p env m args known later g s) t
  held_stays (Chosen p) env m args known later g t =
      chosen_stays (known.choice p) (later.choice p) (value_at env m args known p) (value_at env m args later p) (ap (λ (c : Choice). c p) g.choice) (λ s. held_stays p env m args known later g s) t
  held_stays p env m args known later g t = absurd t

  -- and at paths in order
  pub values_stay : (ps : Paths) (env : Environment) (m : Meaning) (args : List Value) (known later : Known) → Grows known later → AreThere (values_at env m args known ps) → values_at env m args later ps ≡ values_at env m args known ps
  values_stay NoPath env m args known later g t = refl
  values_stay (APath p ps) env m args known later g t =
      before_stays (value_at env m args known p) (value_at env m args later p) (values_at env m args known ps) (values_at env m args later ps)
      (λ s. held_stays p env m args known later g s) (λ s. values_stay ps env m args known later g s) t
