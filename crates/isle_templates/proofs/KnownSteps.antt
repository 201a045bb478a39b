-- Steps in which code looks up what is kept of a template.
use Rattle.std.proofs.Common.{◌≡◌, ℕ, zero, suc, ◌+◌, ◌<◌, ◌≤◌, Bool, true, false, cond, List, [], ◌∷◌, Option, Some, None, refl, sym, ap, subst, arith}
use Rattle.std.specs.Prelude.{slice_get, nat_le, option_map}
use Rattle.std.specs.Option.{unwrap_or}
use Rattle.std.proofs.lemmas.Bool.{le-leb, lt-leb, leb-true, leb-false}
use Rattle.isle_base.specs.declared.ids.TypeId.{TypeId}
use Rattle.isle_base.specs.declared.ids.TermId.{TermId}
use Rattle.isle_core.specs.Pattern.{Pattern}
use Rattle.isle_core.specs.RuleViews.{pattern as elaborated}
use Rattle.isle_templates.specs.declared.counted.Counted.{Counted}
use Rattle.isle_templates.specs.declared.template.Kept.{Kept}
use Rattle.isle_templates.specs.declared.template.Template.{Template}
use Rattle.isle_templates.specs.declared.template.Template.TheVariants.{Absent, Present}
use Rattle.isle_templates.specs.Counted.{IsCounted}
use Rattle.isle_templates.specs.NodeCount.{pattern_nodes}
use Rattle.isle_templates.specs.Standing.{if_below, kept_of, IsKept, Stands, StandFor}
use Rattle.isle_templates.specs.Substituted.{substituted, opened, template_of}

-- ---- ranks

abbrev rank_of : Option Kept → ℕ
rank_of None = 0
rank_of (Some k) = k.rank

-- what is found has a rank below
pub low_rank : (below : ℕ) (o : Option Template) (k : Kept) → if_below below o ≡ Some k → k.rank < below
low_rank below None k e = absurd cc
low_rank below (Some Absent) k e = absurd cc
low_rank below (Some (Present m)) k e = pick (nat_le (suc m.rank) below) refl e
  where
    pick : (b : Bool) → nat_le (suc m.rank) below ≡ b → ◌≡◌ {A = Option Kept} (cond b (Some m) None) (Some k) → k.rank < below
    pick true is f = let same : m.rank ≡ k.rank = ap rank_of f in let le = leb-true (suc m.rank) below is in omega arith
    pick false is f = absurd cc

-- it is what stands there
pub found_there : (below : ℕ) (o : Option Template) (k : Kept) → if_below below o ≡ Some k → o ≡ Some (Present k)
found_there below None k e = absurd cc
found_there below (Some Absent) k e = absurd cc
found_there below (Some (Present m)) k e = pick (nat_le (suc m.rank) below) e
  where
    pick : (b : Bool) → ◌≡◌ {A = Option Kept} (cond b (Some m) None) (Some k) → ◌≡◌ {A = Option Template} (Some (Present m)) (Some (Present k))
    pick true f = ap (λ o. option_map (λ n. Present n) o) f
    pick false f = absurd cc

-- what stands there is found if its rank is below
pub found_below : (below : ℕ) (k : Kept) → k.rank < below → if_below below (Some (Present k)) ≡ Some k
found_below below k lt = ap (λ b. cond b (Some k) None) (le-leb (suc k.rank) below lt)

pub not_below : (below : ℕ) (k : Kept) → below ≤ k.rank → if_below below (Some (Present k)) ≡ None
not_below below k le = ap (λ b. cond b (Some k) None) (lt-leb (suc k.rank) below (omega arith))

-- ---- a term with a template

-- the templates of lower ranks stand too
pub stand_lower : (whole : List (Option Pattern)) (table : List Template) (below n : ℕ) (h : StandFor whole table below) → n ≤ below → StandFor (h.inner n) table n
stand_lower whole table below n h le = record { inner = h.inner; last = λ term. refl; at = λ m less term. h.at m (omega arith) term }

pub stands_there : (whole : List (Option Pattern)) (table : List Template) (below : ℕ) (term : TermId) (h : StandFor whole table below) → Stands h.inner (template_of whole term) (kept_of table below term)
stands_there whole table below term h = subst (λ o. Stands h.inner o (kept_of table below term)) (h.last term) (h.at below (omega arith) term)

-- none is kept
pub none_kept : (whole : List (Option Pattern)) (table : List Template) (below : ℕ) (term : TermId) → StandFor whole table below → kept_of table below term ≡ None → template_of whole term ≡ None
none_kept whole table below term h e = pick (template_of whole term) (subst (Stands h.inner (template_of whole term)) e (stands_there whole table below term h))
  where
    pick : (o : Option Pattern) → Stands h.inner o None → o ≡ None
    pick None s = refl
    pick (Some t) s = absurd s

-- one is kept: what holds of its template with no other in it holds of the term's
pub kept_there : (P : Option Pattern → Type 0) (whole : List (Option Pattern)) (table : List Template) (below : ℕ) (term : TermId) (k : Kept) → StandFor whole table below → kept_of table below term ≡ Some k
    → ((inner : List (Option Pattern)) (t : Pattern) → StandFor inner table k.uses → IsKept inner t k → P (Some t)) → P (template_of whole term)
kept_there P whole table below term k h e of = pick (template_of whole term) (subst (Stands h.inner (template_of whole term)) e (stands_there whole table below term h))
  where
    pick : (o : Option Pattern) → Stands h.inner o (Some k) → P o
    pick None s = absurd s
    pick (Some t) s = let low = low_rank below (slice_get table term.0) k e in let less = k.lower in of (h.inner k.uses) t (stand_lower whole table below k.uses h (omega (arith, low, less))) s

pub counted_opened : (whole : List (Option Pattern)) (table : List Template) (below : ℕ) (ty : TypeId) (term : TermId) (args : List Pattern) (k : Kept) (found : Option Counted) → StandFor whole table below → kept_of table below term ≡ Some k
    → ((inner : List (Option Pattern)) (t : Pattern) → StandFor inner table k.uses → IsKept inner t k → IsCounted (substituted args t) found) → IsCounted (opened (template_of whole term) ty term args) found
counted_opened whole table below ty term args k found h e of = kept_there (λ o. IsCounted (opened o ty term args) found) whole table below term k h e of

-- ---- how much may be put in

-- the nodes of the templates of ranks below this, as they are written
abbrev pub weight : ℕ → List Template → ℕ
weight below [] = 0
weight below (Absent ∷ table) = weight below table
weight below (Present k ∷ table) = cond (nat_le (suc k.rank) below) (pattern_nodes (elaborated k.pattern)) 0 + weight below table

no_heavier : (low high : ℕ) (table : List Template) → low ≤ high → weight low table ≤ weight high table
no_heavier low high [] le = omega arith
no_heavier low high (Absent ∷ table) le = no_heavier low high table le
no_heavier low high (Present k ∷ table) le = pick (nat_le (suc k.rank) low) (nat_le (suc k.rank) high) refl refl (no_heavier low high table le)
  where
    pick : (a b : Bool) → nat_le (suc k.rank) low ≡ a → nat_le (suc k.rank) high ≡ b → weight low table ≤ weight high table
        → cond a (pattern_nodes (elaborated k.pattern)) 0 + weight low table ≤ cond b (pattern_nodes (elaborated k.pattern)) 0 + weight high table
    pick true true e f rest = omega arith
    pick false true e f rest = omega arith
    pick false false e f rest = omega arith
    pick true false e f rest = let less = leb-true (suc k.rank) low e in let more = leb-false (suc k.rank) high f in absurd (omega arith)

-- a template and those that it may use are no more than those that it is among
lighter : (table : List Template) (below i : ℕ) (k : Kept) → if_below below (slice_get table i) ≡ Some k → weight k.rank table + pattern_nodes (elaborated k.pattern) ≤ weight below table
lighter [] below i k e = absurd cc
lighter (t ∷ table) below zero k e = here (found_there below (Some t) k e)
  where
    here : ◌≡◌ {A = Option Template} (Some t) (Some (Present k)) → weight k.rank (t ∷ table) + pattern_nodes (elaborated k.pattern) ≤ weight below (t ∷ table)
    here is = subst (λ o. weight k.rank (unwrap_or o Absent ∷ table) + pattern_nodes (elaborated k.pattern) ≤ weight below (unwrap_or o Absent ∷ table)) (sym is) (mine (nat_le (suc k.rank) k.rank) (nat_le (suc k.rank) below) refl refl)
      where
        mine : (a b : Bool) → nat_le (suc k.rank) k.rank ≡ a → nat_le (suc k.rank) below ≡ b
            → cond a (pattern_nodes (elaborated k.pattern)) 0 + weight k.rank table + pattern_nodes (elaborated k.pattern) ≤ cond b (pattern_nodes (elaborated k.pattern)) 0 + weight below table
        mine true b f g = let less = leb-true (suc k.rank) k.rank f in absurd (omega arith)
        mine false true f g = let less = leb-true (suc k.rank) below g in let rest = no_heavier k.rank below table (omega arith) in omega arith
        mine false false f g = let low = low_rank below (Some t) k e in let more = leb-false (suc k.rank) below g in absurd (omega arith)
lighter (Absent ∷ table) below (suc i) k e = lighter table below i k e
lighter (Present m ∷ table) below (suc i) k e = pick (nat_le (suc m.rank) k.rank) (nat_le (suc m.rank) below) refl refl (lighter table below i k e)
  where
    pick : (a b : Bool) → nat_le (suc m.rank) k.rank ≡ a → nat_le (suc m.rank) below ≡ b → weight k.rank table + pattern_nodes (elaborated k.pattern) ≤ weight below table
        → cond a (pattern_nodes (elaborated m.pattern)) 0 + weight k.rank table + pattern_nodes (elaborated k.pattern) ≤ cond b (pattern_nodes (elaborated m.pattern)) 0 + weight below table
    pick true true f g rest = omega arith
    pick false true f g rest = omega arith
    pick false false f g rest = omega arith
    pick true false f g rest = let low = low_rank below (slice_get table i) k e in let less = leb-true (suc m.rank) k.rank f in let more = leb-false (suc m.rank) below g in absurd (omega arith)

-- so are a template and those that its pattern uses
pub lighter_uses : (table : List Template) (below i : ℕ) (k : Kept) → if_below below (slice_get table i) ≡ Some k → weight k.uses table + pattern_nodes (elaborated k.pattern) ≤ weight below table
lighter_uses table below i k e = let light = lighter table below i k e in let less = no_heavier k.uses k.rank table k.lower in omega (arith, light, less)
