-- Tests within which no item is chosen.
use Rattle.std.proofs.Common.{◌≡◌, ℕ, List, [], ◌∷◌, Bool, true, false, cond, ◌&&◌, Option, Some, None, map, refl, sym, ap, ◌∙◌}
use Rattle.std.specs.Prelude.{Contains}
use Rattle.std.specs.List.{AllByRecursion, list_all}
use Rattle.isle_core.specs.declared.rule_sets.Constraint.{Constraint}
use Rattle.isle_core.specs.declared.rule_sets.Constraint.TheVariants as constraint
use Rattle.isle_core.specs.declared.rule_sets.FlatRule.{FlatRule}
use Rattle.isle_core.specs.Choices.{each_choice, flat_adds}
use Rattle.isle_core.specs.ListOrder.{ListsWithin}
use Rattle.isle_core.specs.Meaning.{Meaning}
use Rattle.isle_core.specs.Parts.{Given}
use Rattle.isle_core.specs.Path.{Path}
use Rattle.isle_core.specs.Rule.{Environment}
use Rattle.isle_core.specs.RuleSet.{equal_test, flat_tests}
use Rattle.isle_core.specs.Serializable.{constraint_tests}
use Rattle.isle_core.specs.SeveralRun.{choosing}
use Rattle.isle_core.specs.SeveralSet.{flat_part}
use Rattle.isle_core.specs.Tests.{Test, Is, Equal, HasItem}
use Rattle.isle_core.specs.Value.{Value}
use Rattle.isle_core.specs.ValueAt.{Known, Held, Absent, One, Optional, Listed, value_at, holds, is_const, meets}
use Rattle.isle_core.proofs.HeldStays.{IsThere, Grows, held_stays}
use Rattle.isle_core.proofs.TakenItems.{by_truth}
use Rattle.isle_core.proofs.TestsOut.{IsFree, test_out}
use Rattle.isle_blocks.proofs.OpenedRuns.{choosing_within, each_same}
use Rattle.isle_blocks.proofs.TreeRuns.{one_holds, all_both}

-- a constraint on a path within which no item is chosen
abbrev pub IsUnlisted : Test → Type 0
IsUnlisted (Is p c) = ListsWithin [] p
IsUnlisted (Equal p q) = ⊥
IsUnlisted (HasItem p) = ⊥

module _ (env : Environment) (m : Meaning) (args : List Value) where
  abbrev pub holds_at : Known → Test → Bool
  holds_at known x = holds env m (value_at env m args known) x

  -- no choice changes it
  pub unlisted_free : (x : Test) → IsUnlisted x → (q : Path) (place : ℕ) (known : Known) → (Contains [] q → ⊥) → holds_at (choosing known q place) x ≡ holds_at known x
  unlisted_free (Is p c) h q place known new = ap (meets env m c) (choosing_within env m args p [] q place known new h)
  unlisted_free (Equal a b) h q place known new = absurd h
  unlisted_free (HasItem p) h q place known new = absurd h

  pub unlisted_all : (xs : List Test) → AllByRecursion IsUnlisted xs → (q : Path) (place : ℕ) (known : Known) → (Contains [] q → ⊥) → list_all (holds_at (choosing known q place)) xs ≡ list_all (holds_at known) xs
  unlisted_all [] h q place known new = refl
  unlisted_all (x ∷ xs) h q place known new =
      ap (λ b. b && list_all (holds_at (choosing known q place)) xs) (unlisted_free x h.0 q place known new) ∙ ap (λ b. holds_at known x && b) (unlisted_all xs h.1 q place known new)

  -- if such tests hold, what is done at each choice may ask for them
  tests_in : (qs : List Path) (xs : List Test) (known : Known) (g : Given) (next : Known → Given → Given) → IsFree env m args qs (λ k. list_all (holds_at k) xs) → list_all (holds_at known) xs ≡ true
      → each_choice env m args qs known g next ≡ each_choice env m args qs known g (λ now so. cond (list_all (holds_at now) xs) (next now so) so)
  tests_in qs xs known g next free e = sym (ap (λ b. cond b (each_choice env m args qs known g next) g) e) ∙ test_out env m args qs (λ k. list_all (holds_at k) xs) known g next free

  -- so what is done may be told for if they hold
  pub same_where : (qs : List Path) (xs : List Test) (known : Known) (g : Given) (one other : Known → Given → Given) → IsFree env m args qs (λ k. list_all (holds_at k) xs) → list_all (holds_at known) xs ≡ true
      → ((now : Known) (so : Given) → list_all (holds_at now) xs ≡ true → one now so ≡ other now so) → each_choice env m args qs known g one ≡ each_choice env m args qs known g other
  same_where qs xs known g one other free e h =
      let where_hold : (Known → Given → Given) → Known → Given → Given = λ next now so. cond (list_all (holds_at now) xs) (next now so) so in
      tests_in qs xs known g one free e
      ∙ each_same env m args qs known g (where_hold one) (where_hold other)
      (λ now so. by_truth (list_all (holds_at now) xs)
      (λ yes. ap (λ x. cond (list_all (holds_at now) xs) x so) (h now so yes))
      (λ fails. ap (λ b. cond b (one now so) so) fails ∙ sym (ap (λ b. cond b (other now so) so) fails)))
      ∙ sym (tests_in qs xs known g other free e)

  -- if one doesn't hold, a rule that has it adds nothing
  pub adds_nothing : (ps : List Path) (f : FlatRule) (qs : List Path) (x : Test) (known : Known) (g : Given) → IsFree env m args qs (λ k. holds_at k x) → Contains (constraint_tests ps f) x → holds_at known x ≡ false
      → each_choice env m args qs known g (flat_adds env m args ps f) ≡ g
  adds_nothing ps f qs x known g free there fails =
      let adds : Known → Given → Given = flat_adds env m args ps f in
      each_same env m args qs known g adds (λ now so. cond (holds_at now x) (adds now so) so)
      (λ now so. by_truth (holds_at now x) (λ yes. sym (ap (λ b. cond b (adds now so) so) yes))
      (λ not_so. ap (λ b. cond b (flat_part env m args ps f now so) so) (out now not_so) ∙ sym (ap (λ b. cond b (adds now so) so) not_so)))
      ∙ sym (test_out env m args qs (λ k. holds_at k x) known g adds free)
      ∙ ap (λ b. cond b (each_choice env m args qs known g adds) g) fails
    where
      both_first : (a b : Bool) → (a && b) ≡ true → a ≡ true
      both_first true b e = refl
      both_first false b e = absurd cc

      out : (now : Known) → holds_at now x ≡ false → list_all (holds_at now) (flat_tests ps f) ≡ false
      out now not_so = by_truth (list_all (holds_at now) (flat_tests ps f))
          (λ yes.
          let all = sym (all_both (holds_at now) (constraint_tests ps f) (map (equal_test ps) f.equals)) ∙ yes in
          let is = one_holds (holds_at now) (constraint_tests ps f) x (both_first (list_all (holds_at now) (constraint_tests ps f)) (list_all (holds_at now) (map (equal_test ps) f.equals)) all) there in
          absurd cc)
          (λ fails'. fails')

-- what meets a constraint is there
const_absent : (o : Option Value) → is_const o Absent ≡ true → ⊥
const_absent None e = cc
const_absent (Some w) e = cc

absent_unmet : (env : Environment) (m : Meaning) (c : Constraint) → meets env m c Absent ≡ true → ⊥
absent_unmet env m (constraint.ConstBool val) e = cc
absent_unmet env m (constraint.ConstInt val ty) e = cc
absent_unmet env m (constraint.ConstPrim val) e = const_absent _ e
absent_unmet env m (constraint.Variant ty variant) e = cc
absent_unmet env m (constraint.Struct ty) e = cc
absent_unmet env m constraint.Some e = cc

met_there : (env : Environment) (m : Meaning) (c : Constraint) (h : Held) → meets env m c h ≡ true → IsThere h
met_there env m c Absent e = absent_unmet env m c e
met_there env m c (One i) e = tt
met_there env m c (Optional o) e = tt
met_there env m c (Listed is) e = tt

-- if such tests hold, they hold with more answers
pub test_stays : (env : Environment) (m : Meaning) (args : List Value) (x : Test) (known now : Known) → Grows known now → IsUnlisted x → holds_at env m args known x ≡ true → holds_at env m args now x ≡ true
test_stays env m args (Is p c) known now grows h e = ap (meets env m c) (held_stays p env m args known now grows (met_there env m c (value_at env m args known p) e)) ∙ e
test_stays env m args (Equal p q) known now grows h e = absurd h
test_stays env m args (HasItem p) known now grows h e = absurd h

pub tests_stay : (env : Environment) (m : Meaning) (args : List Value) (xs : List Test) (known now : Known) → Grows known now → AllByRecursion IsUnlisted xs → list_all (holds_at env m args known) xs ≡ true → list_all (holds_at env m args now) xs ≡ true
tests_stay env m args [] known now grows h e = refl
tests_stay env m args (x ∷ xs) known now grows h e = split (holds_at env m args known x) refl e (λ k. tests_stay env m args xs known now grows h.1 k)
  where
    split : (b : Bool) → holds_at env m args known x ≡ b → (b && list_all (holds_at env m args known) xs) ≡ true → (list_all (holds_at env m args known) xs ≡ true → list_all (holds_at env m args now) xs ≡ true) → (holds_at env m args now x && list_all (holds_at env m args now) xs) ≡ true
    split true is e' rest = ap (λ b. b && list_all (holds_at env m args now) xs) (test_stays env m args x known now grows h.0 is) ∙ rest e'
    split false is e' rest = absurd cc
