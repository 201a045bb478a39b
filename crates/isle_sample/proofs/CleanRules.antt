-- The rules of a sample's lines, one by one and two by two.
use Rattle.std.proofs.Common.{◌≡◌, ℕ, suc, ◌+◌, ◌*◌, ◌<◌, ◌≤◌, pos, negsuc, List, [], ◌∷◌, refl, arith}
use Rattle.std.specs.List.{AllByRecursion}
use Rattle.isle_core.specs.declared.position.Pos.{Pos}
use Rattle.isle_core.specs.Pattern as pattern
use Rattle.isle_core.specs.Rule.{Environment, Rule}
use Rattle.isle_checks.specs.RuleChecks.{Overlaps}
use Rattle.isle_sample.proofs.SampleLines.{Line, Declares, Gives, Otherwise, place}
use Rattle.isle_sample.proofs.SampleEnvironment.{u8, line_rule, rules_at}
use Rattle.isle_sample.proofs.CleanLines.{key, past, Rise, rise_lower}
use Rattle.isle_sample.proofs.CleanPairs.{ArePairs}
use Rattle.isle_sample.proofs.CleanTests.{TestsNumbers, TestsNothing, TestsLittle, Numbers, Nothing}
use Rattle.isle_sample.proofs.CleanTests.{numbers_apart, numbers_nothing, nothing_numbers}

-- the rule that gives 4a + b
abbrev pub given_rule : (number i a b : ℕ) → Pos → Rule
given_rule number i a b at =
    line_rule number i (pattern.ConstInt u8 (pos a) ∷ pattern.ConstInt u8 (pos b) ∷ []) (4 * a + b) (pos 0) at

-- the rule for all others
abbrev pub other_rule : (number i : ℕ) → Pos → Rule
other_rule number i at = line_rule number i (pattern.Wildcard u8 ∷ pattern.Wildcard u8 ∷ []) 255 (negsuc 0) at

-- the tests of the first
given_tests : (env : Environment) (number i a b : ℕ) (at : Pos) → TestsNumbers env a b (given_rule number i a b at)
given_tests env number i a b at = record { prio = refl; tests = refl }

-- those of the second: none
other_tests : (env : Environment) (number i : ℕ) (at : Pos) → TestsNothing env (other_rule number i at)
other_tests env number i at = record { prio = refl; tests = refl }

-- ---- one by one

-- what holds of both kinds of rules holds of all
pub all_rules : (P : Rule → Type 0) → ((number i a b : ℕ) (at : Pos) → P (given_rule number i a b at))
    → ((number i : ℕ) (at : Pos) → P (other_rule number i at)) → (number at : ℕ) (ls : List Line)
    → AllByRecursion P (rules_at number at ls)
all_rules P given other number at [] = tt
all_rules P given other number at (Declares i ∷ ls) = all_rules P given other number (past at (Declares i)) ls
all_rules P given other number at (Gives i a b ∷ ls) =
    (given number i a b (place at), all_rules P given other (number + 1) (past at (Gives i a b)) ls)
all_rules P given other number at (Otherwise i ∷ ls) =
    (other number i (place at), all_rules P given other (number + 1) (past at (Otherwise i)) ls)

-- each tests little
pub all_little : (env : Environment) (number at : ℕ) (ls : List Line)
    → AllByRecursion (TestsLittle env) (rules_at number at ls)
all_little env number at ls =
    all_rules (TestsLittle env) (λ m i a b to. Numbers a b (given_tests env m i a b to))
    (λ m i to. Nothing (other_tests env m i to)) number at ls

-- ---- two by two

-- what holds of both kinds of rules, if the keys of their lines are at least this, holds of all if lines rise from it
all_from : (P : Rule → Type 0) (low high : ℕ)
    → ((number i a b : ℕ) (at : Pos) → low ≤ key (Gives i a b) → P (given_rule number i a b at))
    → ((number i : ℕ) (at : Pos) → low ≤ key (Otherwise i) → P (other_rule number i at))
    → (number at : ℕ) (ls : List Line) → Rise low high ls → AllByRecursion P (rules_at number at ls)
all_from P low high given other number at [] h = tt
all_from P low high given other number at (Declares i ∷ ls) h =
    let rest = rise_lower (suc (key (Declares i))) low high ls (omega (arith, h.0)) h.1 in
    all_from P low high given other number (past at (Declares i)) ls rest
all_from P low high given other number at (Gives i a b ∷ ls) h =
    let rest = rise_lower (suc (key (Gives i a b))) low high ls (omega (arith, h.0)) h.1 in
    (given number i a b (place at) h.0, all_from P low high given other (number + 1) (past at (Gives i a b)) ls rest)
all_from P low high given other number at (Otherwise i ∷ ls) h =
    let rest = rise_lower (suc (key (Otherwise i))) low high ls (omega (arith, h.0)) h.1 in
    (other number i (place at) h.0, all_from P low high given other (number + 1) (past at (Otherwise i)) ls rest)

-- two of one term don't overlap
abbrev pub AreApart : Environment → (q r : Rule) → Type 0
AreApart env q r = q.root_term.0 ≡ r.root_term.0 → Overlaps env q r → ⊥

-- equal numbers have one key
same_key : (i j a b c d : ℕ) → i ≡ j → a ≡ c → b ≡ d → key (Gives i a b) < key (Gives j c d) → ⊥
same_key i j a b c d e f g lt = omega (arith, lt, e, f, g)

given_first : (env : Environment) (number i a b : ℕ) (at : Pos) (next start high : ℕ) (ls : List Line)
    → Rise (suc (key (Gives i a b))) high ls
    → AllByRecursion (AreApart env (given_rule number i a b at)) (rules_at next start ls)
given_first env number i a b at next start high ls h =
    all_from (AreApart env (given_rule number i a b at)) (suc (key (Gives i a b))) high
    (λ m j c d to lt same.
    numbers_apart env a b c d (given_rule number i a b at) (given_rule m j c d to) (given_tests env number i a b at)
    (given_tests env m j c d to) (λ e f. same_key i j a b c d same e f lt))
    (λ m j to lt same.
    numbers_nothing env a b (given_rule number i a b at) (other_rule m j to) (given_tests env number i a b at)
    (other_tests env m j to))
    next start ls h

other_first : (env : Environment) (number i : ℕ) (at : Pos) (next start high : ℕ) (ls : List Line)
    → Rise (suc (key (Otherwise i))) high ls
    → AllByRecursion (AreApart env (other_rule number i at)) (rules_at next start ls)
other_first env number i at next start high ls h =
    all_from (AreApart env (other_rule number i at)) (suc (key (Otherwise i))) high
    (λ m j c d to lt same.
    nothing_numbers env c d (other_rule number i at) (given_rule m j c d to) (other_tests env number i at)
    (given_tests env m j c d to))
    (λ m j to lt same o. omega (arith, lt, same))
    next start ls h

-- rules of lines that rise: no two of one term overlap
pub all_apart : (env : Environment) (low high number at : ℕ) (ls : List Line) → Rise low high ls
    → ArePairs (AreApart env) (rules_at number at ls)
all_apart env low high number at [] h = tt
all_apart env low high number at (Declares i ∷ ls) h =
    all_apart env (suc (key (Declares i))) high number (past at (Declares i)) ls h.1
all_apart env low high number at (Gives i a b ∷ ls) h = (
  given_first env number i a b (place at) (number + 1) (past at (Gives i a b)) high ls h.1,
  all_apart env (suc (key (Gives i a b))) high (number + 1) (past at (Gives i a b)) ls h.1,
)
all_apart env low high number at (Otherwise i ∷ ls) h = (
  other_first env number i (place at) (number + 1) (past at (Otherwise i)) high ls h.1,
  all_apart env (suc (key (Otherwise i))) high (number + 1) (past at (Otherwise i)) ls h.1,
)
