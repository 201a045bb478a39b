-- What is known of the parts of an expression that breaks no row.
use Rattle.std.proofs.Common.{◌≡◌, Bool, true, false, List, ◌++◌, refl, ◌∙◌}
use Rattle.std.proofs.lemmas.Bool.{or_from}
use Rattle.std.proofs.lemmas.List.Folds.{list_any-append}
use Rattle.std.specs.Prelude.{◌&&◌, not}
use Rattle.std.specs.List.{list_any}
use Rattle.isle_core.specs.ExprType.{Allowed}
use Rattle.isle_sema.specs.Judging.{is_partial_call, is_impure_call}
use Rattle.isle_sema.specs.RuleRows.{is_misplaced, is_unknown, is_mistyped}
use Rattle.isle_sema.specs.Site.{Site}
use Rattle.isle_sema.proofs.Firsts.{any_parts}
use Rattle.isle_terms.specs.Whole.{Whole}

-- no part breaks the rows of literals, names and types, and none calls a term that may answer nothing, or one that isn't pure, if that
-- is not allowed
pub record AreKept (w : Whole) (allowed : Allowed) (sites : List Site) : Type 0 where
  pub placed : list_any (is_misplaced w) sites ≡ false
  pub known : list_any (is_unknown w) sites ≡ false
  pub typed : list_any (is_mistyped w) sites ≡ false
  pub partial : not allowed.nothing && list_any is_partial_call sites ≡ false
  pub impure : not allowed.impure && list_any is_impure_call sites ≡ false

guarded_parts : (test : Site → Bool) (allowed : Bool) (xs ys : List Site) → not allowed && list_any test (xs ++ ys) ≡ false → (not allowed && list_any test xs ≡ false) × (not allowed && list_any test ys ≡ false)
guarded_parts test true xs ys h = (refl, refl)
guarded_parts test false xs ys h = any_parts test xs ys h

-- so of the first ones and of the others
pub kept_parts : (w : Whole) (allowed : Allowed) (xs ys : List Site) → AreKept w allowed (xs ++ ys) → AreKept w allowed xs × AreKept w allowed ys
kept_parts w allowed xs ys k =
    let p = any_parts (is_misplaced w) xs ys k.placed in
    let u = any_parts (is_unknown w) xs ys k.known in
    let t = any_parts (is_mistyped w) xs ys k.typed in
    let q = guarded_parts is_partial_call allowed.nothing xs ys k.partial in
    let i = guarded_parts is_impure_call allowed.impure xs ys k.impure in
    (record { placed = p.0; known = u.0; typed = t.0; partial = q.0; impure = i.0 }, record { placed = p.1; known = u.1; typed = t.1; partial = q.1; impure = i.1 })

joined_none : (test : Site → Bool) (xs ys : List Site) → list_any test xs ≡ false → list_any test ys ≡ false → list_any test (xs ++ ys) ≡ false
joined_none test xs ys h k = list_any-append test xs ys ∙ or_from (list_any test xs) (list_any test ys) h k

guarded_joined : (test : Site → Bool) (allowed : Bool) (xs ys : List Site) → not allowed && list_any test xs ≡ false → not allowed && list_any test ys ≡ false → not allowed && list_any test (xs ++ ys) ≡ false
guarded_joined test true xs ys h k = refl
guarded_joined test false xs ys h k = joined_none test xs ys h k

-- and so of both together
pub kept_joined : (w : Whole) (allowed : Allowed) (xs ys : List Site) → AreKept w allowed xs → AreKept w allowed ys → AreKept w allowed (xs ++ ys)
kept_joined w allowed xs ys h k = record {
  placed = joined_none (is_misplaced w) xs ys h.placed k.placed;
  known = joined_none (is_unknown w) xs ys h.known k.known;
  typed = joined_none (is_mistyped w) xs ys h.typed k.typed;
  partial = guarded_joined is_partial_call allowed.nothing xs ys h.partial k.partial;
  impure = guarded_joined is_impure_call allowed.impure xs ys h.impure k.impure;
}
