-- Marks of terms that are made in an order in which each comes after those that its template uses.
use Rattle.std.proofs.Common.{◌≡◌, ◌⊎◌, inl, inr, ⊎_elim, ℕ, zero, suc, ◌+◌, ◌<◌, ◌≤◌, List, [], ◌∷◌, length, take, set, get_or, Bool, true, false, eqb, Option, Some, None, refl, sym, ap, ◌∙◌, subst, arith}
use Rattle.std.specs.Prelude.{Contains, ◌||◌, slice_get, option_map, option_and_then}
use Rattle.std.specs.Option.{unwrap_or}
use Rattle.std.proofs.lemmas.Bool.{eqb-true, eq-eqb}
use Rattle.std.proofs.lemmas.List.{length-map, length-set, length-append, take_more, take_all}
use Rattle.std.proofs.lemmas.List.Elements.{Contains-get_or, Contains-push_cases, Contains-append_left, Contains-append_right}
use Rattle.std.proofs.lemmas.Option.{slice_get-map, slice_get_read, slice_get_within}
use Rattle.isle_base.specs.declared.ids.TermId.{TermId}
use Rattle.isle_core.proofs.Contained.{head_contained, tail_contained, contained_cases, none_contained}
use Rattle.isle_core.specs.declared.rules.Pattern.{Pattern as CodePattern}
use Rattle.isle_core.specs.Pattern as pattern
use Rattle.isle_core.specs.Pattern.{Pattern, Patterns, NoPattern, APattern}
use Rattle.isle_core.specs.RuleViews.{pattern as elaborated}
use Rattle.isle_walks.specs.Walks.{next_of, IsOrdered, IsOrder}
use Rattle.isle_templates.specs.Substituted.{template_of}
use Rattle.isle_templates.specs.Uses.{used_one, used_in, all_used_in, used_by, uses}
use Rattle.isle_templates.specs.Written.{written_of}
use Rattle.isle_templates.proofs.TemplateOrder.{template_there, next_used}
use Rattle.isle_templates.specs.Multi.{marked, uses_one, uses_any, multi_by, multi_at, is_multi, AreMultisTold}

-- ---- what a list has after a change

got_same : {X : Type 0} (xs : List X) (i : ℕ) (x : X) → i < length xs → slice_get (set xs i x) i ≡ Some x
got_same [] i x lt = absurd (omega arith)
got_same (y ∷ ys) zero x lt = refl
got_same (y ∷ ys) (suc i) x lt = got_same ys i x (omega arith)

got_other : {X : Type 0} (xs : List X) (i j : ℕ) (x : X) → (i ≡ j → ⊥) → slice_get (set xs i x) j ≡ slice_get xs j
got_other [] i j x apart = refl
got_other (y ∷ ys) zero zero x apart = absurd (apart refl)
got_other (y ∷ ys) zero (suc j) x apart = refl
got_other (y ∷ ys) (suc i) zero x apart = refl
got_other (y ∷ ys) (suc i) (suc j) x apart = got_other ys i j x (λ e. apart (ap suc e))

-- one number or another
either : {C : Type 0} (n m : ℕ) → (n ≡ m → C) → ((n ≡ m → ⊥) → C) → C
either {C} n m same apart = pick (eqb n m) refl
  where
    pick : (b : Bool) → eqb n m ≡ b → C
    pick true e = same (eqb-true n m e)
    pick false e = apart (λ f. let g = eq-eqb n m f in absurd cc)

-- ---- what stands in an order

ordered_at : (graph : List (List ℕ)) (nodes before : List ℕ) (i : ℕ) → IsOrdered graph before nodes → i < length nodes → (next : ℕ) → Contains (next_of graph (get_or nodes i 0)) next → Contains before next ⊎ Contains (take i nodes) next
ordered_at graph [] before i h lt next c = absurd (omega arith)
ordered_at graph (node ∷ nodes) before zero h lt next c = inl (h.0 next c)
ordered_at graph (node ∷ nodes) before (suc i) h lt next c = ⊎_elim
    (λ d. ⊎_elim (λ (e : node ≡ next). inr (subst (Contains (node ∷ take i nodes)) e (head_contained node (take i nodes)))) (λ f. inl f) (contained_cases node before next d))
    (λ d. inr (tail_contained node (take i nodes) next d))
    (ordered_at graph nodes (node ∷ before) i h.1 (omega arith) next c)

-- only terms before it
before_it : (graph : List (List ℕ)) (order : List ℕ) (i : ℕ) → IsOrder graph order → i < length order → (next : ℕ) → Contains (next_of graph (get_or order i 0)) next → Contains (take i order) next
before_it graph order i is lt next c = ⊎_elim (λ d. absurd (none_contained next d)) (λ d. d) (ordered_at graph order [] i is.ordered lt next c)

pub in_bounds : (ws : List (Option CodePattern)) (order : List ℕ) (i : ℕ) → IsOrder (uses (written_of ws)) order → i < length order → get_or order i 0 < length ws
in_bounds ws order i is lt =
    let there = is.there (get_or order i 0) (Contains-get_or order i 0 lt) in
    let long : length (uses (written_of ws)) ≡ length ws = length-map (written_of ws) (used_by (written_of ws)) ∙ length-map ws (option_map elaborated) in
    omega arith

-- ---- tests that say the same of the terms of a pattern

module _ (written : List (Option Pattern)) (f g : ℕ → Bool) (outside : (term : TermId) → template_of written term ≡ None → f term.0 ≡ g term.0) where
  term_alike : (term : TermId) → (Contains (used_one (template_of written term) term) term.0 → f term.0 ≡ g term.0) → f term.0 ≡ g term.0
  term_alike term alike = pick (template_of written term) refl alike
    where
      pick : (o : Option Pattern) → template_of written term ≡ o → (Contains (used_one o term) term.0 → f term.0 ≡ g term.0) → f term.0 ≡ g term.0
      pick None e same = outside term e
      pick (Some t) e same = same (head_contained term.0 [])

  mutual
    -- a pattern uses one of either if they say the same of those that it uses
    pub uses_alike : (p : Pattern) → ((term : TermId) → Contains (used_in written p) term.0 → f term.0 ≡ g term.0) → uses_one f p ≡ uses_one g p
    uses_alike (pattern.BindPattern ty x p) alike = uses_alike p alike
    uses_alike (pattern.Var ty x) alike = refl
    uses_alike (pattern.ConstBool c) alike = refl
    uses_alike (pattern.ConstInt ty n) alike = refl
    uses_alike (pattern.ConstPrim ty name) alike = refl
    uses_alike (pattern.Term ty term ps) alike =
        ap (λ b. b || uses_any f ps) (term_alike term (λ c. alike term (Contains-append_left (used_one (template_of written term) term) (all_used_in written ps) term.0 c)))
        ∙ ap (λ b. g term.0 || b) (any_alike ps (λ other c. alike other (Contains-append_right (used_one (template_of written term) term) (all_used_in written ps) other.0 c)))
    uses_alike (pattern.Wildcard ty) alike = refl
    uses_alike (pattern.And ty ps) alike = any_alike ps alike

    any_alike : (ps : Patterns) → ((term : TermId) → Contains (all_used_in written ps) term.0 → f term.0 ≡ g term.0) → uses_any f ps ≡ uses_any g ps
    any_alike NoPattern alike = refl
    any_alike (APattern p ps) alike =
        ap (λ b. b || uses_any f ps) (uses_alike p (λ term c. alike term (Contains-append_left (used_in written p) (all_used_in written ps) term.0 c)))
        ∙ ap (λ b. uses_one g p || b) (any_alike ps (λ term c. alike term (Contains-append_right (used_in written p) (all_used_in written ps) term.0 c)))

-- ---- the marks so far

-- terms without templates have the marks of their declarations, and these terms those that they have from so deep on
pub record AreMarked (written : List (Option Pattern)) (declared : List Bool) (terms : List ℕ) (marks : List Bool) : Type 0 where
  pub plain : (term : TermId) → template_of written term ≡ None → marked marks term.0 ≡ marked declared term.0
  pub done : (term : TermId) → Contains terms term.0 → (depth : ℕ) → length terms ≤ depth → marked marks term.0 ≡ multi_at written declared depth term.0
  pub many : length marks ≡ length written

pub marks_begin : (ws : List (Option CodePattern)) (declared : List Bool) → length declared ≡ length ws → AreMarked (written_of ws) declared [] declared
marks_begin ws declared long = record { plain = λ term e. refl; done = λ term c depth le. absurd (none_contained term.0 c); many = long ∙ sym (length-map ws (option_map elaborated)) }

-- at any depth the mark of a term without a template is that of its declaration
pub plain_at : (written : List (Option Pattern)) (declared : List Bool) (depth : ℕ) (term : TermId) → template_of written term ≡ None → multi_at written declared depth term.0 ≡ marked declared term.0
plain_at written declared zero term e = ap (multi_by (marked declared term.0) (λ (m : ℕ). false)) e
plain_at written declared (suc depth) term e = ap (multi_by (marked declared term.0) (multi_at written declared depth)) e

module _ (written : List (Option Pattern)) (declared : List Bool) (order : List ℕ) (is : IsOrder (uses written) order) (i : ℕ) (lt : i < length order) (marks : List Bool) (so_far : AreMarked written declared (take i order) marks) (inside : get_or order i 0 < length written) where
  abbrev node : ℕ
  node = get_or order i 0

  abbrev at : TermId
  at = record { 0 = node }

  -- what its mark becomes
  abbrev value : Bool
  value = multi_by (marked marks node) (marked marks) (template_of written at)

  abbrev next : List Bool
  next = set marks node value

  next_here : (term : TermId) → node ≡ term.0 → marked next term.0 ≡ value
  next_here term e = subst (λ n. marked next n ≡ value) e (ap (λ o. unwrap_or o false) (got_same marks node value (subst (λ n. node < n) (sym so_far.many) inside)))

  next_else : (term : TermId) → (node ≡ term.0 → ⊥) → marked next term.0 ≡ marked marks term.0
  next_else term apart = ap (λ o. unwrap_or o false) (got_other marks node term.0 value apart)

  -- it is the one at each depth after those before it
  value_is : (depth : ℕ) → length (take i order) ≤ depth → value ≡ multi_at written declared (suc depth) node
  value_is depth le = pick (template_of written at) refl
    where
      pick : (o : Option Pattern) → template_of written at ≡ o → multi_by (marked marks node) (marked marks) o ≡ multi_by (marked declared node) (multi_at written declared depth) o
      pick None e = so_far.plain at e
      pick (Some t) e = uses_alike written (marked marks) (multi_at written declared depth)
          (λ other none. so_far.plain other none ∙ sym (plain_at written declared depth other none)) t
          (λ other c. so_far.done other (before_it (uses written) order i is lt other.0 (subst (λ xs. Contains xs other.0) (sym (next_used written at t e)) c)) depth le)

  longer : length (take (i + 1) order) ≡ length (take i order) + 1
  longer = ap length (take_more order i 0 lt) ∙ length-append (take i order) (node ∷ [])

  done_here : (term : TermId) → node ≡ term.0 → (depth : ℕ) → length (take (i + 1) order) ≤ depth → marked next term.0 ≡ multi_at written declared depth term.0
  done_here term e zero le = absurd (let more = longer in omega (arith, more, le))
  done_here term e (suc depth) le =
      let more = longer in
      next_here term e ∙ value_is depth (omega (arith, more, le)) ∙ ap (multi_at written declared (suc depth)) e

  plain_here : (term : TermId) → node ≡ term.0 → template_of written term ≡ None → value ≡ marked declared term.0
  plain_here term e none =
      subst (λ n. template_of written (record { 0 = n }) ≡ None → value ≡ marked declared n) e (λ h. ap (multi_by (marked marks node) (marked marks)) h ∙ so_far.plain at h) none

  marks_more : AreMarked written declared (take (i + 1) order) next
  marks_more = record {
    plain = λ term e. either node term.0 (λ f. next_here term f ∙ plain_here term f e) (λ f. next_else term f ∙ so_far.plain term e);
    done = λ term c depth le. either node term.0
        (λ f. done_here term f depth le)
        (λ f. next_else term f ∙ ⊎_elim (λ d. so_far.done term d depth (let more = longer in omega (arith, more, le))) (λ d. absurd (f d)) (Contains-push_cases (take i order) node term.0 (subst (λ xs. Contains xs term.0) (take_more order i 0 lt) c)));
    many = length-set marks node value ∙ so_far.many;
  }

-- a template as it is written
written_there : (ws : List (Option CodePattern)) (node : ℕ) (x : Option CodePattern) → node < length ws → x ≡ get_or ws node x → template_of (written_of ws) (record { 0 = node }) ≡ option_map elaborated x
written_there ws node x lt is = ap (option_and_then (λ (t : Option Pattern). t)) (slice_get-map (option_map elaborated) ws node ∙ ap (option_map (option_map elaborated)) (slice_get_read ws (length ws) node x refl lt is))

-- a mark that is there
mark_there : (marks : List Bool) (n : ℕ) (b : Bool) → n < length marks → b ≡ get_or marks n b → b ≡ marked marks n
mark_there marks n b lt is = sym (ap (λ o. unwrap_or o false) (slice_get_read marks (length marks) n b refl lt is))

pub marks_next : (ws : List (Option CodePattern)) (declared : List Bool) (order : List ℕ) (i : ℕ) (marks : List Bool) (flag made : Bool) (x : Option CodePattern) → IsOrder (uses (written_of ws)) order → i < length order → x ≡ get_or ws (get_or order i 0) x → flag ≡ get_or marks (get_or order i 0) flag
    → AreMarked (written_of ws) declared (take i order) marks → made ≡ multi_by flag (marked marks) (option_map elaborated x) → AreMarked (written_of ws) declared (take (i + 1) order) (set marks (get_or order i 0) made)
marks_next ws declared order i marks flag made x is lt item mark so_far given =
    let inside = in_bounds ws order i is lt in
    let long : length (written_of ws) ≡ length ws = length-map ws (option_map elaborated) in
    let many = so_far.many in
    let node = get_or order i 0 in
    let same : made ≡ multi_by (marked marks node) (marked marks) (template_of (written_of ws) (record { 0 = node })) =
    given ∙ ap (λ b. multi_by b (marked marks) (option_map elaborated x)) (mark_there marks node flag (omega (arith, inside, long, many)) mark) ∙ ap (multi_by (marked marks node) (marked marks)) (sym (written_there ws node x inside item)) in
    subst (λ b. AreMarked (written_of ws) declared (take (i + 1) order) (set marks node b)) (sym same)
    (marks_more (written_of ws) declared order is i lt marks so_far (omega (arith, inside, long)))

-- ---- all terms

pub marks_all : (written : List (Option Pattern)) (declared : List Bool) (order : List ℕ) (i : ℕ) (marks : List Bool) → IsOrder (uses written) order → length order ≤ i → AreMarked written declared (take i order) marks → AreMultisTold written declared marks
marks_all written declared order i marks is le all = record { told = λ n. same (record { 0 = n }) (template_of written (record { 0 = n })) refl }
  where
    same : (term : TermId) (o : Option Pattern) → template_of written term ≡ o → marked marks term.0 ≡ is_multi written declared term.0
    same term None e = all.plain term e ∙ sym (plain_at written declared (length written) term e)
    same term (Some t) e =
        let there = slice_get_within written term.0 (Some t) (template_there written term t e) in
        let long : length (uses written) ≡ length written = length-map written (used_by written) in
        let count = is.many in
        let whole : length (take i order) ≡ length order = ap length (take_all i order le) in
        all.done term (subst (λ xs. Contains xs term.0) (sym (take_all i order le)) (is.all term.0 (omega (arith, there, long)))) (length written) (omega (arith, long, count, whole))
