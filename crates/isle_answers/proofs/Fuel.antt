-- Readers that run out of tokens, and readers that take one.
use Rattle.std.proofs.Common.{◌≡◌, ℕ, suc, ◌+◌, ◌≤◌, ◌<◌, List, [], ◌∷◌, ◌++◌, length, length-append, refl, ap, subst, arith}
use Rattle.isle_lexer.specs.Lexeme.{Lexeme}
use Rattle.isle_reading.specs.Combinators.{refuse}
use Rattle.isle_reading.specs.Nesting.{Nest}
use Rattle.isle_reading.specs.Reader.{Got, Stuck, Deep, Reader, End, Halt, run}
use Rattle.isle_reading.specs.Relations.{Begins, Begun, Anything}
use Rattle.isle_reading.proofs.Law.{Hits, too_deep, Law, Some_token}
use Rattle.isle_reading.proofs.Passes.{none, Nests}
use Rattle.isle_reading.proofs.Running.{stuck_not_got, stuck_not_deep, got_not_deep, stuck_is, deep_is}

-- no token is left for what takes some
pub law_out : {A : Type 0} {P : Nest → Type 0} {E : A → Nest → Type 0} (S : A → List Lexeme → List Lexeme → Type 0) → Begins Anything S [] → ((a : A) (ts rest : List Lexeme) → S a ts rest → Some_token ts)
    → Law P E Anything 0 S (End refuse Halt)
unfolding run
law_out {A = A} {P = P} {E = E} S ends some = record { sound = λ ts rest a e. absurd (never_got ts rest a e); complete = complete; closes = closes; deepens = deepens; leads = leads; ends = ends }
  where
    never_got : (ts rest : List Lexeme) (a : A) → run (End refuse Halt) ts ≡ Got a rest → ⊥
    never_got [] rest a e = stuck_not_got _ [] rest a refl e
    never_got (t ∷ ts) rest a e = got_not_deep _ rest (t ∷ ts) a e refl

    complete : (ts rest : List Lexeme) (a : A) → S a ts rest → Anything rest → Hits (run (End refuse Halt) ts) a rest
    complete [] rest a s c = let x = some a [] rest s in absurd (let y : [] ≡ x.0 ∷ x.1 = x.2 in cc)
    complete (t ∷ ts) rest a s c = too_deep (t ∷ ts) refl

    closes : (ts rest : List Lexeme) → run {A = A} (End refuse Halt) ts ≡ Stuck rest → Begun Anything S ts rest
    closes [] rest e = ([], stuck_is [] rest _ refl e, ends)
    closes (t ∷ ts) rest e = absurd (stuck_not_deep _ rest (t ∷ ts) e refl)

    deepens : (ts rest : List Lexeme) → run {A = A} (End refuse Halt) ts ≡ Deep rest → Begun Anything S ts rest
    deepens [] rest e = absurd (stuck_not_deep _ [] rest refl e)
    deepens (t ∷ ts) rest e = ([], deep_is (t ∷ ts) rest _ refl e, ends)

    leads : (q : Nest) (ts : List Lexeme) → P q → Nests E 0 q ts (run (End refuse Halt) ts)
    leads q [] p = (q, none q [])
    leads q (t ∷ ts) p = (q, none q (t ∷ ts), λ l. absurd (omega (arith, l)))

longer : (front : List Lexeme) (ts rest : List Lexeme) → (front ≡ [] → ⊥) → ts ≡ front ++ rest → length rest < length ts
longer [] ts rest some e = absurd (some refl)
longer (t ∷ front) ts rest some e =
    let a : length ts ≡ length (t ∷ (front ++ rest)) = ap length e in
    let b : length (front ++ rest) ≡ length front + length rest = length-append front rest in
    omega (arith, a, b)

-- what is read takes a token
pub takes : {A : Type 0} {P : Nest → Type 0} {E : A → Nest → Type 0} {n : ℕ} {S : A → List Lexeme → List Lexeme → Type 0} (r : Reader A) → Law P E Anything n S r → ((a : A) (ts rest : List Lexeme) → S a ts rest → Some_token ts)
    → (m : ℕ) (a : A) (ts rest : List Lexeme) → run r ts ≡ Got a rest → length ts ≤ suc m → length rest ≤ m
takes {S = S} r h some m a ts rest e l =
    let x = (h.sound ts rest a e).1 in
    let y : length rest < length ts = longer x.0 ts rest (λ z. none_not (subst (λ front. S a (front ++ []) []) z (x.2 [] tt))) x.1 in
    omega (arith, l, y)
  where
    none_not : S a [] [] → ⊥
    none_not s = let x = some a [] [] s in let y : [] ≡ x.0 ∷ x.1 = x.2 in cc
