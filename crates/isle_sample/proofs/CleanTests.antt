-- Rules that test their two arguments for numbers, or nothing: none is unreachable, and which are apart.
use Rattle.std.proofs.Common.{◌≡◌, ⊎_elim, ℕ, zero, suc, ℤ, pos, negsuc, List, [], ◌∷◌, refl, sym, ap, ◌∙◌, subst}
use Rattle.std.specs.Prelude.{◌<ℤ◌, Contains}
use Rattle.std.specs.List.{AllByRecursion}
use Rattle.isle_core.specs.declared.rule_sets.Constraint.{Constraint}
use Rattle.isle_core.specs.declared.rule_sets.Constraint.TheVariants as constraint
use Rattle.isle_core.specs.Path.{Path, Arg}
use Rattle.isle_core.specs.Rule.{Environment, Rule}
use Rattle.isle_core.specs.Tests.{Test, Is, Equal, HasItem, rule_tests}
use Rattle.isle_core.proofs.AllLaws.{all_each}
use Rattle.isle_core.proofs.Contained.{head_contained, tail_contained, none_contained}
use Rattle.isle_checks.specs.RuleChecks.{IsChain, Unreachable, Overlaps, Shadows}
use Rattle.isle_sample.proofs.SampleEnvironment.{u8}

-- a number of type u8
abbrev pub number : ℕ → Constraint
number a = constraint.ConstInt (pos a) u8

-- the tests of two arguments for numbers
abbrev pub number_tests : (a b : ℕ) → List Test
number_tests a b = Is (Arg 0) (number a) ∷ Is (Arg 1) (number b) ∷ []

-- of the priority 0, and tests its arguments for these numbers
pub record TestsNumbers (env : Environment) (a b : ℕ) (r : Rule) : Type 0 where
  pub prio : r.prio ≡ pos 0
  pub tests : rule_tests env r ≡ number_tests a b

-- of the priority below, and tests nothing
pub record TestsNothing (env : Environment) (r : Rule) : Type 0 where
  pub prio : r.prio ≡ negsuc 0
  pub tests : rule_tests env r ≡ []

-- the one or the other
pub data TestsLittle (env : Environment) (r : Rule) : Type 0 where
  Numbers : (a b : ℕ) → TestsNumbers env a b r → TestsLittle env r
  Nothing : TestsNothing env r → TestsLittle env r

-- ---- none is unreachable by itself

-- what is put on a path, if it is an argument
abbrev pub number_at : (a b : ℕ) → Path → Constraint
number_at a b (Arg zero) = number a
number_at a b (Arg (suc i)) = number b
number_at a b p = number a

-- a test that puts this on its path
abbrev pub IsNumberTest : (a b : ℕ) → Test → Type 0
IsNumberTest a b (Is p c) = c ≡ number_at a b p
IsNumberTest a b (Equal p q) = ⊥
IsNumberTest a b (HasItem p) = ⊥

chain_ends : (a b : ℕ) (tests : List Test) (from : Path) (between : List Path) (to : Path)
    → AllByRecursion (IsNumberTest a b) tests → IsChain tests from between to → from ≡ to
chain_ends a b tests from [] to h chain = chain
chain_ends a b tests from (next ∷ rest) to h chain =
    let P = IsNumberTest a b in
    absurd (⊎_elim (all_each P tests (Equal from next) h) (all_each P tests (Equal next from) h) chain.0)

-- a rule with one constraint on each path, and no equality
once_reachable : (env : Environment) (a b : ℕ) (r : Rule) → AllByRecursion (IsNumberTest a b) (rule_tests env r)
    → Unreachable env r → ⊥
once_reachable env a b r h u =
    let tests = rule_tests env r in
    u.differ
    (all_each (IsNumberTest a b) tests (Is u.from u.one) h u.tested
    ∙ ap (number_at a b) (chain_ends a b tests u.from u.between u.to h u.chain)
    ∙ sym (all_each (IsNumberTest a b) tests (Is u.to u.other) h u.also_tested))

-- a rule that tests so little
pub reachable : (env : Environment) (r : Rule) → TestsLittle env r → Unreachable env r → ⊥
reachable env r (Numbers a b h) u =
    once_reachable env a b r (subst (AllByRecursion (IsNumberTest a b)) (sym h.tests) (refl, (refl, tt))) u
reachable env r (Nothing h) u = once_reachable env 0 0 r (subst (AllByRecursion (IsNumberTest 0 0)) (sym h.tests) tt) u

-- ---- no two overlap

same_number : (a b : ℕ) → number a ≡ number b → a ≡ b
same_number a b e = cc

tests_first : (env : Environment) (a b : ℕ) (r : Rule) → TestsNumbers env a b r
    → Contains (rule_tests env r) (Is (Arg 0) (number a))
tests_first env a b r h =
    let first = Is (Arg 0) (number a) in
    let second = Is (Arg 1) (number b) in
    subst (λ ts. Contains ts first) (sym h.tests) (head_contained first (second ∷ []))

tests_second : (env : Environment) (a b : ℕ) (r : Rule) → TestsNumbers env a b r
    → Contains (rule_tests env r) (Is (Arg 1) (number b))
tests_second env a b r h =
    let first = Is (Arg 0) (number a) in
    let second = Is (Arg 1) (number b) in
    let there = tail_contained first (second ∷ []) second (head_contained second []) in
    subst (λ ts. Contains ts second) (sym h.tests) there

-- rules for other numbers don't overlap
pub numbers_apart : (env : Environment) (a b c d : ℕ) (q r : Rule) → TestsNumbers env a b q → TestsNumbers env c d r
    → (a ≡ c → b ≡ d → ⊥) → Overlaps env q r → ⊥
numbers_apart env a b c d q r h k apart o =
    o.agree (Arg 0) (number a) (number c) (tests_first env a b q h) (tests_first env c d r k)
    (λ first.
    o.agree (Arg 1) (number b) (number d) (tests_second env a b q h) (tests_second env c d r k)
    (λ second. apart (same_number a c first) (same_number b d second)))

-- one for numbers and one for all others don't
pub numbers_nothing : (env : Environment) (a b : ℕ) (q r : Rule) → TestsNumbers env a b q → TestsNothing env r
    → Overlaps env q r → ⊥
numbers_nothing env a b q r h k o = let e : pos 0 ≡ negsuc 0 = sym h.prio ∙ o.prio ∙ k.prio in cc

-- nor the other way round
pub nothing_numbers : (env : Environment) (a b : ℕ) (q r : Rule) → TestsNothing env q → TestsNumbers env a b r
    → Overlaps env q r → ⊥
nothing_numbers env a b q r h k o = let e : negsuc 0 ≡ pos 0 = sym h.prio ∙ o.prio ∙ k.prio in cc

-- ---- none shadows another

-- a priority below another, if both are known
below : (p q a b : ℤ) → p ≡ a → q ≡ b → p <ℤ q → a <ℤ b
below p q a b e f lt = subst (λ x. x <ℤ b) e (subst (λ y. p <ℤ y) f lt)

-- a rule that tests so little shadows no other such
pub no_shadow : (env : Environment) (q r : Rule) → TestsLittle env q → TestsLittle env r → Shadows env q r → ⊥
no_shadow env q r (Numbers a b h) (Numbers c d k) s = (below r.prio q.prio (pos 0) (pos 0) k.prio h.prio s.higher).lt
no_shadow env q r (Numbers a b h) (Nothing k) s =
    let first = Is (Arg 0) (number a) in
    let there = s.among (Arg 0) (number a) (tests_first env a b q h) in
    none_contained first (subst (λ ts. Contains ts first) k.tests there)
no_shadow env q r (Nothing h) (Numbers c d k) s = (below r.prio q.prio (pos 0) (negsuc 0) k.prio h.prio s.higher).lt
no_shadow env q r (Nothing h) (Nothing k) s = (below r.prio q.prio (negsuc 0) (negsuc 0) k.prio h.prio s.higher).lt
