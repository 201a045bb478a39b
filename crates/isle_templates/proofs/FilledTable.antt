-- A table of templates that is filled in an order in which each comes after those that it uses.
use Rattle.std.proofs.Common.{◌≡◌, ◌⊎◌, inl, inr, ⊎_elim, ℕ, zero, suc, ◌+◌, ◌<◌, ◌≤◌, List, [], ◌∷◌, length, map, take, set, get_or, Bool, true, false, cond, eqb, Option, Some, None, refl, sym, ap, ◌∙◌, subst, arith}
use Rattle.std.specs.Prelude.{Contains, slice_get, option_map, option_and_then}
use Rattle.std.proofs.lemmas.Bool.{eqb-true, eq-eqb, ne_eqb}
use Rattle.std.proofs.lemmas.List.{length-map, length-set, take_more, take_all}
use Rattle.std.proofs.lemmas.List.Elements.{Contains-get_or, Contains-push_cases}
use Rattle.std.proofs.lemmas.Option.{slice_get-map, slice_get_read, slice_get_within}
use Rattle.isle_base.specs.declared.ids.TermId.{TermId}
use Rattle.isle_core.proofs.Contained.{head_contained, tail_contained, contained_cases, none_contained}
use Rattle.isle_core.specs.declared.rules.Pattern.{Pattern as CodePattern}
use Rattle.isle_core.specs.Pattern.{Pattern}
use Rattle.isle_core.specs.RuleViews.{pattern as elaborated}
use Rattle.isle_walks.specs.Walks.{next_of, IsOrdered, IsOrder}
use Rattle.isle_templates.specs.declared.template.Kept.{Kept}
use Rattle.isle_templates.specs.declared.template.Template.{Template}
use Rattle.isle_templates.specs.declared.template.Template.TheVariants.{Absent, Present}
use Rattle.isle_templates.specs.Standing.{if_below, kept_of, IsKept, IsKeptAt, Stands, StandFor, IsMade}
use Rattle.isle_templates.specs.Substituted.{template_of, expanded, whole_templates}
use Rattle.isle_templates.specs.Uses.{used_by, uses}
use Rattle.isle_templates.specs.Written.{written_of}
use Rattle.isle_templates.proofs.KnownSteps.{low_rank, found_below, not_below, none_kept, stand_lower, stands_there}
use Rattle.isle_templates.proofs.TemplateOrder.{template_there, next_used, expanded_alike, whole_fixed}

-- the table has what stands for these terms, with ranks below this
pub record IsFilled (written : List (Option Pattern)) (terms : List ℕ) (table : List Template) (below : ℕ) : Type 0 where
  pub filled : List (Option Pattern)
  pub none : (term : TermId) → template_of written term ≡ None → template_of filled term ≡ None
  pub done : (term : TermId) → Contains terms term.0 → template_of filled term ≡ template_of (whole_templates written) term
  pub right : (term : TermId) (t : Pattern) → template_of filled term ≡ Some t → template_of (whole_templates written) term ≡ Some t
  pub long : length filled ≡ length written
  pub stands : StandFor filled table below
  pub exact : stands.inner below ≡ filled
  pub low : (term : TermId) (n : ℕ) → below ≤ n → kept_of table n term ≡ kept_of table below term
  pub many : length table ≡ length written

-- ---- what a list has after a change

got_same : {X : Type 0} (xs : List X) (i : ℕ) (x : X) → i < length xs → slice_get (set xs i x) i ≡ Some x
got_same [] i x lt = absurd (omega arith)
got_same (y ∷ ys) zero x lt = refl
got_same (y ∷ ys) (suc i) x lt = got_same ys i x (omega arith)

got_other : {X : Type 0} (xs : List X) (i j : ℕ) (x : X) → (i ≡ j → ⊥) → slice_get (set xs i x) j ≡ slice_get xs j
got_other [] i j x apart = refl
got_other (y ∷ ys) zero zero x apart = absurd (apart refl)
got_other (y ∷ ys) zero (suc j) x apart = refl
got_other (y ∷ ys) (suc i) zero x apart = refl
got_other (y ∷ ys) (suc i) (suc j) x apart = got_other ys i j x (λ e. apart (ap suc e))

-- ---- the table begins

abbrev nothing : Option Pattern → Option Pattern
nothing o = None

none_there : (written : List (Option Pattern)) (term : TermId) → template_of (map nothing written) term ≡ None
none_there written term = ap (option_and_then (λ (t : Option Pattern). t)) (slice_get-map nothing written term.0) ∙ pick (slice_get written term.0)
  where
    pick : (o : Option (Option Pattern)) → option_and_then (λ (t : Option Pattern). t) (option_map nothing o) ≡ None
    pick None = refl
    pick (Some t) = refl

absent_there : (ws : List (Option CodePattern)) (n : ℕ) (i : ℕ) → if_below n (slice_get (map (λ (o : Option CodePattern). Absent) ws) i) ≡ None
absent_there ws n i = ap (if_below n) (slice_get-map (λ (o : Option CodePattern). Absent) ws i) ∙ pick (slice_get ws i)
  where
    pick : (o : Option (Option CodePattern)) → if_below n (option_map (λ (x : Option CodePattern). Absent) o) ≡ None
    pick None = refl
    pick (Some t) = refl

pub filled_begins : (ws : List (Option CodePattern)) (table : List Template) → table ≡ map (λ (o : Option CodePattern). Absent) ws → IsFilled (written_of ws) [] table 0
filled_begins ws table is = record {
  filled = map nothing (written_of ws);
  none = λ term e. none_there (written_of ws) term;
  done = λ term c. absurd (none_contained term.0 c);
  right = λ term t e. let none : ◌≡◌ {A = Option Pattern} None (Some t) = sym (none_there (written_of ws) term) ∙ e in absurd cc;
  long = length-map (written_of ws) nothing;
  stands = record {
    inner = λ n. map nothing (written_of ws);
    last = λ term. refl;
    at = λ n le term. nothing_stands (λ m. map nothing (written_of ws)) (template_of (map nothing (written_of ws)) term) (kept_of table n term) (none_there (written_of ws) term) (none n term);
  };
  exact = refl;
  low = λ term n le. none n term ∙ sym (none 0 term);
  many = ap length is ∙ length-map ws (λ (o : Option CodePattern). Absent) ∙ sym (length-map ws (option_map elaborated));
}
  where
    none : (n : ℕ) (term : TermId) → kept_of table n term ≡ None
    none n term = ap (λ t. kept_of t n term) is ∙ absent_there ws n term.0

    nothing_stands : (inner : ℕ → List (Option Pattern)) (o : Option Pattern) (k : Option Kept) → o ≡ None → k ≡ None → Stands inner o k
    nothing_stands inner o k e f = subst (λ p. Stands inner p k) (sym e) (subst (Stands inner None) (sym f) tt)

-- ---- what stands in an order

ordered_at : (graph : List (List ℕ)) (nodes before : List ℕ) (i : ℕ) → IsOrdered graph before nodes → i < length nodes → (next : ℕ) → Contains (next_of graph (get_or nodes i 0)) next → Contains before next ⊎ Contains (take i nodes) next
ordered_at graph [] before i h lt next c = absurd (omega arith)
ordered_at graph (node ∷ nodes) before zero h lt next c = inl (h.0 next c)
ordered_at graph (node ∷ nodes) before (suc i) h lt next c = ⊎_elim
    (λ d. ⊎_elim (λ (e : node ≡ next). inr (subst (Contains (node ∷ take i nodes)) e (head_contained node (take i nodes)))) (λ f. inl f) (contained_cases node before next d))
    (λ d. inr (tail_contained node (take i nodes) next d))
    (ordered_at graph nodes (node ∷ before) i h.1 (omega arith) next c)

-- only terms before it
before_it : (graph : List (List ℕ)) (order : List ℕ) (i : ℕ) → IsOrder graph order → i < length order → (next : ℕ) → Contains (next_of graph (get_or order i 0)) next → Contains (take i order) next
before_it graph order i is lt next c = ⊎_elim (λ d. absurd (none_contained next d)) (λ d. d) (ordered_at graph order [] i is.ordered lt next c)

pub in_bounds : (ws : List (Option CodePattern)) (order : List ℕ) (i : ℕ) → IsOrder (uses (written_of ws)) order → i < length order → get_or order i 0 < length ws
in_bounds ws order i is lt =
    let there = is.there (get_or order i 0) (Contains-get_or order i 0 lt) in
    let long : length (uses (written_of ws)) ≡ length ws = length-map (written_of ws) (used_by (written_of ws)) ∙ length-map ws (option_map elaborated) in
    omega arith

-- ---- one more term

-- one number or another
either : {C : Type 0} (n m : ℕ) → (n ≡ m → C) → ((n ≡ m → ⊥) → C) → C
either {C} n m same apart = pick (eqb n m) refl
  where
    pick : (b : Bool) → eqb n m ≡ b → C
    pick true e = same (eqb-true n m e)
    pick false e = apart (λ f. let g = eq-eqb n m f in absurd cc)

-- what stands for terms of lower ranks than one more than these, the last of which are these
abbrev then_next : ℕ → List (Option Pattern) → (ℕ → List (Option Pattern)) → ℕ → List (Option Pattern)
then_next last next inner n = cond (eqb n last) next (inner n)

at_last : (last : ℕ) (next : List (Option Pattern)) (inner : ℕ → List (Option Pattern)) → then_next last next inner last ≡ next
at_last last next inner = ap (λ b. cond b next (inner last)) (eq-eqb last last refl)

before_last : (last : ℕ) (next : List (Option Pattern)) (inner : ℕ → List (Option Pattern)) (n : ℕ) → n < last → then_next last next inner n ≡ inner n
before_last last next inner n lt = ap (λ b. cond b next (inner n)) (ne_eqb n last (λ e. omega arith))

-- what stands for a term hangs on what stands for those of its rank alone
stands_moved : (inner other : ℕ → List (Option Pattern)) (o : Option Pattern) (k : Option Kept) → ((kept : Kept) → k ≡ Some kept → inner kept.uses ≡ other kept.uses) → Stands inner o k → Stands other o k
stands_moved inner other None None same h = tt
stands_moved inner other None (Some k) same h = absurd h
stands_moved inner other (Some t) None same h = absurd h
stands_moved inner other (Some t) (Some k) same h = subst (λ w. IsKept w t k) (same k refl) h

-- what is made isn't found among lower ranks
made_low : (inner : List (Option Pattern)) (rank : ℕ) (o : Option Pattern) (m : Template) → IsMade inner rank o m → (n : ℕ) → n ≤ rank → if_below n (Some m) ≡ None
made_low inner rank None Absent h n le = refl
made_low inner rank None (Present k) h n le = absurd h
made_low inner rank (Some w) Absent h n le = absurd h
made_low inner rank (Some w) (Present k) h n le = let same = h.0 in not_below n k (omega arith)

-- and stands among higher ones
kept_stands : (inner : List (Option Pattern)) (rank : ℕ) (t : Pattern) (k : Kept) (all : ℕ → List (Option Pattern)) → IsKeptAt inner rank t k → all rank ≡ inner → ((term : TermId) → template_of (all 0) term ≡ None) → IsKept (all k.uses) t k
kept_stands inner rank t k all h is none = ⊎_elim
    (λ d. subst (λ w. IsKept w t k) (sym (ap all d.0 ∙ is)) d.1)
    (λ d. subst (λ n. IsKept (all n) t k) (sym d.0) (d.1 (all 0) none))
    h.1

made_stands : (inner : List (Option Pattern)) (rank : ℕ) (o : Option Pattern) (m : Template) (all : ℕ → List (Option Pattern)) → IsMade inner rank o m → all rank ≡ inner → ((term : TermId) → template_of (all 0) term ≡ None) → (n : ℕ) → rank < n
    → Stands all (option_map (expanded inner) o) (if_below n (Some m))
made_stands inner rank None Absent all h is none n lt = tt
made_stands inner rank None (Present k) all h is none n lt = absurd h
made_stands inner rank (Some w) Absent all h is none n lt = absurd h
made_stands inner rank (Some w) (Present k) all h is none n lt =
    let same = h.0 in subst (Stands all (Some (expanded inner w))) (sym (found_below n k (omega arith))) (kept_stands inner rank (expanded inner w) k all h is none)

-- no template has a rank below the first
none_first : (table : List Template) (whole : List (Option Pattern)) (i : ℕ) (h : StandFor whole table i) (term : TermId) → template_of (h.inner 0) term ≡ None
none_first table whole i h term = none_kept (h.inner 0) table 0 term (stand_lower whole table i 0 h (omega arith)) (pick (slice_get table term.0))
  where
    pick : (o : Option Template) → if_below 0 o ≡ None
    pick None = refl
    pick (Some Absent) = refl
    pick (Some (Present k)) = not_below 0 k (omega arith)

made_same : (inner : List (Option Pattern)) (rank : ℕ) (o : Option Pattern) (m : Template) → IsMade inner rank o m → (n next : ℕ) → rank < n → rank < next → if_below n (Some m) ≡ if_below next (Some m)
made_same inner rank None Absent h n next lt less = refl
made_same inner rank None (Present k) h n next lt less = absurd h
made_same inner rank (Some w) Absent h n next lt less = absurd h
made_same inner rank (Some w) (Present k) h n next lt less = let same = h.0 in found_below n k (omega arith) ∙ sym (found_below next k (omega arith))

-- so far, and for one rank more, what stands does if each term's is unchanged
module _ (table : List Template) (next old : List (Option Pattern)) (i : ℕ) (h : StandFor old table i) where
  abbrev inner_next : ℕ → List (Option Pattern)
  inner_next = then_next (i + 1) next h.inner

  moved : (n : ℕ) (o : Option Pattern) (term : TermId) → n ≤ i → Stands h.inner o (kept_of table n term) → Stands inner_next o (kept_of table n term)
  moved n o term le s = stands_moved h.inner inner_next o (kept_of table n term) (λ k e. let low = low_rank n (slice_get table term.0) k e in let less = k.lower in sym (before_last (i + 1) next h.inner k.uses (omega arith))) s

  stands_next : (after : List Template) → ((n : ℕ) → n ≤ i → (term : TermId) → kept_of after n term ≡ kept_of table n term) → ((term : TermId) → Stands inner_next (template_of next term) (kept_of after (i + 1) term)) → StandFor next after (i + 1)
  stands_next after same last = record {
    inner = inner_next;
    last = λ term. ap (λ w. template_of w term) (at_last (i + 1) next h.inner);
    at = λ n le term. either n (i + 1)
        (λ e. subst (λ m. Stands inner_next (template_of (inner_next m) term) (kept_of after m term)) (sym e) (subst (λ w. Stands inner_next (template_of w term) (kept_of after (i + 1) term)) (sym (at_last (i + 1) next h.inner)) (last term)))
        (λ f. earlier n (less n le f) term);
  }
    where
      less : (n : ℕ) → n ≤ i + 1 → (n ≡ i + 1 → ⊥) → n ≤ i
      less n le f = either n (i + 1) (λ e. absurd (f e)) (λ g. omega arith)

      earlier : (n : ℕ) → n ≤ i → (term : TermId) → Stands inner_next (template_of (inner_next n) term) (kept_of after n term)
      earlier n le term =
          subst (λ w. Stands inner_next (template_of w term) (kept_of after n term)) (sym (before_last (i + 1) next h.inner n (omega arith)))
          (subst (Stands inner_next (template_of (h.inner n) term)) (sym (same n le term)) (moved n (template_of (h.inner n) term) term le (h.at n le term)))

module _ (written : List (Option Pattern)) (order : List ℕ) (is : IsOrder (uses written) order) (i : ℕ) (lt : i < length order) (table : List Template) (made : Template) (so_far : IsFilled written (take i order) table i) (inside : get_or order i 0 < length written) where
  abbrev node : ℕ
  node = get_or order i 0

  -- what its template becomes
  abbrev value : Option Pattern
  value = option_map (expanded so_far.filled) (template_of written (record { 0 = node }))

  abbrev next : List (Option Pattern)
  next = set so_far.filled node value

  abbrev after : List Template
  after = set table node made

  -- that is the whole one
  whole_at : (term : TermId) → node ≡ term.0 → option_map (expanded so_far.filled) (template_of written term) ≡ template_of (whole_templates written) term
  whole_at term e = pick (template_of written term) refl ∙ sym (whole_fixed written order is term)
    where
      pick : (o : Option Pattern) → template_of written term ≡ o → option_map (expanded so_far.filled) o ≡ option_map (expanded (whole_templates written)) o
      pick None f = refl
      pick (Some t) f = ap Some (expanded_alike written so_far.filled (whole_templates written)
          (λ other g. so_far.none other g ∙ sym (whole_fixed written order is other ∙ ap (option_map (expanded (whole_templates written))) g)) t
          (λ other c. so_far.done other (before_it (uses written) order i is lt other.0 (subst (λ xs. Contains xs other.0) (sym (ap (next_of (uses written)) e ∙ next_used written term t f)) c))))

  next_here : (term : TermId) → node ≡ term.0 → template_of next term ≡ option_map (expanded so_far.filled) (template_of written term)
  next_here term e = subst (λ n. template_of next (record { 0 = n }) ≡ option_map (expanded so_far.filled) (template_of written (record { 0 = n }))) e
      (ap (option_and_then (λ (t : Option Pattern). t)) (got_same so_far.filled node value (subst (λ n. node < n) (sym so_far.long) inside)))

  next_else : (term : TermId) → (node ≡ term.0 → ⊥) → template_of next term ≡ template_of so_far.filled term
  next_else term apart = ap (option_and_then (λ (t : Option Pattern). t)) (got_other so_far.filled node term.0 value apart)

  kept_here : (n : ℕ) (term : TermId) → node ≡ term.0 → kept_of after n term ≡ if_below n (Some made)
  kept_here n term e = ap (if_below n) (subst (λ m. slice_get after m ≡ Some made) e (got_same table node made (subst (λ m. node < m) (sym so_far.many) inside)))

  kept_else : (n : ℕ) (term : TermId) → (node ≡ term.0 → ⊥) → kept_of after n term ≡ kept_of table n term
  kept_else n term apart = ap (if_below n) (got_other table node term.0 made apart)

  module _ (fresh : slice_get table node ≡ Some Absent) (h : IsMade so_far.filled i (template_of written (record { 0 = node })) made) where
    none_fresh : (n : ℕ) (term : TermId) → node ≡ term.0 → kept_of table n term ≡ None
    none_fresh n term e = ap (if_below n) (subst (λ m. slice_get table m ≡ Some Absent) e fresh)

    unchanged : (n : ℕ) → n ≤ i → (term : TermId) → kept_of after n term ≡ kept_of table n term
    unchanged n le term = either node term.0
        (λ e. kept_here n term e ∙ made_low so_far.filled i (template_of written (record { 0 = node })) made h n le ∙ sym (none_fresh n term e))
        (λ f. kept_else n term f)

    stands_here : (term : TermId) → node ≡ term.0 → Stands (inner_next table next so_far.filled i so_far.stands) (template_of next term) (kept_of after (i + 1) term)
    stands_here term e =
        let all = inner_next table next so_far.filled i so_far.stands in
        let none : (other : TermId) → template_of (all 0) other ≡ None = λ other. ap (λ w. template_of w other) (before_last (i + 1) next so_far.stands.inner 0 (omega arith)) ∙ none_first table so_far.filled i so_far.stands other in
        let first : all i ≡ so_far.filled = before_last (i + 1) next so_far.stands.inner i (omega arith) ∙ so_far.exact in
        subst (λ o. Stands all o (kept_of after (i + 1) term)) (sym (next_here term e))
        (subst (λ n. Stands all (option_map (expanded so_far.filled) (template_of written (record { 0 = n }))) (kept_of after (i + 1) term)) e
        (subst (Stands all value) (sym (kept_here (i + 1) term e)) (made_stands so_far.filled i (template_of written (record { 0 = node })) made all h first none (i + 1) (omega arith))))

    stands_else : (term : TermId) → (node ≡ term.0 → ⊥) → Stands (inner_next table next so_far.filled i so_far.stands) (template_of next term) (kept_of after (i + 1) term)
    stands_else term f =
        subst (λ o. Stands (inner_next table next so_far.filled i so_far.stands) o (kept_of after (i + 1) term)) (sym (next_else term f))
        (subst (Stands (inner_next table next so_far.filled i so_far.stands) (template_of so_far.filled term)) (sym (kept_else (i + 1) term f ∙ so_far.low term (i + 1) (omega arith)))
        (moved table next so_far.filled i so_far.stands i (template_of so_far.filled term) term (omega arith) (stands_there so_far.filled table i term so_far.stands)))

    filled_more : IsFilled written (take (i + 1) order) after (i + 1)
    unfolding stands_next
    filled_more = record {
      filled = next;
      none = λ term e. either node term.0 (λ f. next_here term f ∙ ap (option_map (expanded so_far.filled)) e) (λ f. next_else term f ∙ so_far.none term e);
      done = λ term c. either node term.0
          (λ f. next_here term f ∙ whole_at term f)
          (λ f. next_else term f ∙ ⊎_elim (λ d. so_far.done term d) (λ d. absurd (f d)) (Contains-push_cases (take i order) node term.0 (subst (λ xs. Contains xs term.0) (take_more order i 0 lt) c)));
      right = λ term t e. either node term.0
          (λ f. sym (whole_at term f) ∙ sym (next_here term f) ∙ e)
          (λ f. so_far.right term t (sym (next_else term f) ∙ e));
      long = length-set so_far.filled node value ∙ so_far.long;
      stands = stands_next table next so_far.filled i so_far.stands after unchanged (λ term. either node term.0 (stands_here term) (stands_else term));
      exact = at_last (i + 1) next so_far.stands.inner;
      low = λ term n le. either node term.0
          (λ e. kept_here n term e ∙ made_same so_far.filled i (template_of written (record { 0 = node })) made h n (i + 1) (omega arith) (omega arith) ∙ sym (kept_here (i + 1) term e))
          (λ f. kept_else n term f ∙ so_far.low term n (omega arith) ∙ sym (kept_else (i + 1) term f ∙ so_far.low term (i + 1) (omega arith)));
      many = length-set table node made ∙ so_far.many;
    }

  -- a term that is done already
  module _ (k : Kept) (there : slice_get table node ≡ Some (Present k)) where
    done_already : (term : TermId) → node ≡ term.0 → template_of so_far.filled term ≡ template_of (whole_templates written) term
    done_already term e = pick (template_of so_far.filled term) refl (subst (Stands so_far.stands.inner (template_of so_far.filled term)) kept (stands_there so_far.filled table i term so_far.stands))
      where
        kept : kept_of table i term ≡ Some k
        kept = sym (so_far.low term (i + suc k.rank) (omega arith)) ∙ ap (if_below (i + suc k.rank)) (subst (λ n. slice_get table n ≡ Some (Present k)) e there) ∙ found_below (i + suc k.rank) k (omega arith)

        pick : (o : Option Pattern) → template_of so_far.filled term ≡ o → Stands so_far.stands.inner o (Some k) → template_of so_far.filled term ≡ template_of (whole_templates written) term
        pick None f s = absurd s
        pick (Some t) f s = f ∙ sym (so_far.right term t f)

    filled_already : IsFilled written (take (i + 1) order) table (i + 1)
    unfolding stands_next
    filled_already = record {
      filled = so_far.filled;
      none = so_far.none;
      done = λ term c. ⊎_elim (λ d. so_far.done term d) (λ d. done_already term d) (Contains-push_cases (take i order) node term.0 (subst (λ xs. Contains xs term.0) (take_more order i 0 lt) c));
      right = so_far.right;
      long = so_far.long;
      stands = stands_next table so_far.filled so_far.filled i so_far.stands table (λ n le term. refl)
          (λ term. subst (Stands (inner_next table so_far.filled so_far.filled i so_far.stands) (template_of so_far.filled term)) (sym (so_far.low term (i + 1) (omega arith)))
          (moved table so_far.filled so_far.filled i so_far.stands i (template_of so_far.filled term) term (omega arith) (stands_there so_far.filled table i term so_far.stands)));
      exact = at_last (i + 1) so_far.filled so_far.stands.inner;
      low = λ term n le. so_far.low term n (omega arith) ∙ sym (so_far.low term (i + 1) (omega arith));
      many = so_far.many;
    }

-- a template as it is written
written_there : (ws : List (Option CodePattern)) (node : ℕ) (x : Option CodePattern) → node < length ws → x ≡ get_or ws node x → template_of (written_of ws) (record { 0 = node }) ≡ option_map elaborated x
written_there ws node x lt is = ap (option_and_then (λ (t : Option Pattern). t)) (slice_get-map (option_map elaborated) ws node ∙ ap (option_map (option_map elaborated)) (slice_get_read ws (length ws) node x refl lt is))

-- what is found in a table
table_there : (table : List Template) (node : ℕ) (entry : Template) → node < length table → entry ≡ get_or table node entry → slice_get table node ≡ Some entry
table_there table node entry lt is = slice_get_read table (length table) node entry refl lt is

pub filled_next : (ws : List (Option CodePattern)) (order : List ℕ) (i : ℕ) (table : List Template) (entry made : Template) (x : Option CodePattern) → IsOrder (uses (written_of ws)) order → i < length order → x ≡ get_or ws (get_or order i 0) x
    → entry ≡ get_or table (get_or order i 0) entry → entry ≡ Absent → IsFilled (written_of ws) (take i order) table i
    → ((whole : List (Option Pattern)) → StandFor whole table i → IsMade whole i (option_map elaborated x) made) → IsFilled (written_of ws) (take (i + 1) order) (set table (get_or order i 0) made) (i + 1)
filled_next ws order i table entry made x is lt item here absent so_far of =
    let inside = in_bounds ws order i is lt in
    let long : length (written_of ws) ≡ length ws = length-map ws (option_map elaborated) in
    let many = so_far.many in
    filled_more (written_of ws) order is i lt table made so_far (subst (λ n. get_or order i 0 < n) (sym long) inside)
    (table_there table (get_or order i 0) entry (omega (arith, inside, long, many)) here ∙ ap Some absent)
    (subst (λ o. IsMade so_far.filled i o made) (sym (written_there ws (get_or order i 0) x inside item)) (of so_far.filled so_far.stands))

pub filled_again : (ws : List (Option CodePattern)) (order : List ℕ) (i : ℕ) (table : List Template) (entry : Template) (k : Kept) → IsOrder (uses (written_of ws)) order → i < length order
    → entry ≡ get_or table (get_or order i 0) entry → entry ≡ Present k → IsFilled (written_of ws) (take i order) table i → IsFilled (written_of ws) (take (i + 1) order) table (i + 1)
filled_again ws order i table entry k is lt here present so_far =
    let inside = in_bounds ws order i is lt in
    let long : length (written_of ws) ≡ length ws = length-map ws (option_map elaborated) in
    let many = so_far.many in
    filled_already (written_of ws) order is i lt table Absent so_far (subst (λ n. get_or order i 0 < n) (sym long) inside) k
    (table_there table (get_or order i 0) entry (omega (arith, inside, long, many)) here ∙ ap Some present)

-- ---- all terms

pub filled_all : (written : List (Option Pattern)) (order : List ℕ) (i : ℕ) (table : List Template) → IsOrder (uses written) order → length order ≤ i → i ≤ length order → IsFilled written (take i order) table i → StandFor (whole_templates written) table (length table)
filled_all written order i table is le few all = subst (StandFor (whole_templates written) table) same_long (record { inner = all.stands.inner; last = λ term. all.stands.last term ∙ same term (template_of written term) refl; at = all.stands.at })
  where
    same_long : i ≡ length table
    same_long =
        let long : length (uses written) ≡ length written = length-map written (used_by written) in
        let many = is.many in
        let full = all.many in
        omega (arith, le, few, long, many, full)

    same : (term : TermId) (o : Option Pattern) → template_of written term ≡ o → template_of all.filled term ≡ template_of (whole_templates written) term
    same term None e = all.none term e ∙ sym (whole_fixed written order is term ∙ ap (option_map (expanded (whole_templates written))) e)
    same term (Some t) e =
        let there = slice_get_within written term.0 (Some t) (template_there written term t e) in
        let long : length (uses written) ≡ length written = length-map written (used_by written) in
        all.done term (subst (λ xs. Contains xs term.0) (sym (take_all i order le)) (is.all term.0 (omega (arith, there, long))))
