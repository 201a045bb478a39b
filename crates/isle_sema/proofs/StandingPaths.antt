-- What may be read after tests and calls may be so after more of them.
use Rattle.std.proofs.Common.{◌≡◌, List, [], true, false, ⊎_elim, inl, inr}
use Rattle.std.specs.Prelude.{Contains}
use Rattle.std.proofs.lemmas.Bool.{or_parts}
use Rattle.isle_core.specs.declared.rule_sets.Constraint.TheVariants as constraint
use Rattle.isle_core.specs.Calling.{Calling, ByTurns, ByCases, NoCall, calling}
use Rattle.isle_core.specs.HoldsImpure.{takes_turn, holds_impure, hold_impure}
use Rattle.isle_core.specs.Path.{Path, Called, Chosen, Inner, MadeVariant, MadeStruct, VariantField, StructField, Extracted, Part, Paths, NoPath, APath}
use Rattle.isle_core.specs.Rule.{Environment}
use Rattle.isle_core.specs.Serializable.{StandsWithin, StandsCalled, StandsOn, AllStandOn}
use Rattle.isle_core.specs.Tests.{Test, Is}
use Rattle.isle_sema.proofs.BuiltForms.{no_both}

-- each of these tests is one of those
abbrev pub AreAlso : (xs ys : List Test) → Type 0
AreAlso xs ys = (x : Test) → Contains xs x → Contains ys x

-- each of these paths is one of those
abbrev pub Among : List Path → List Path → Type 0
Among xs ys = (p : Path) → Contains xs p → Contains ys p

-- what is within
within_still : (p : Path) (xs ys : List Test) (done later : List Path) → AreAlso xs ys → Among done later → StandsWithin xs done p → StandsWithin ys later p
within_still (Called term ps instance) xs ys done later a b h = ⊎_elim (λ c. inl (b (Called term ps instance) c)) (λ c. inr (a (Is (Called term ps instance) constraint.Some) c)) h
within_still (Extracted term q) xs ys done later a b h = a (Is (Extracted term q) constraint.Some) h
within_still p xs ys done later a b h = tt

-- a call
called_still : {itself arguments after others : Type 0} (c : Calling) → (itself → after) → (arguments → others) → StandsCalled c itself arguments → StandsCalled c after others
called_still (ByTurns callee kind) f g h = f h
called_still (ByCases callee kind) f g h = g h
called_still NoCall f g h = absurd h

mutual
  stands_behind : (env : Environment) (p : Path) (xs ys : List Test) (done later : List Path) → AreAlso xs ys → Among done later → StandsOn env xs done p → StandsOn env ys later p
  stands_behind env (Called term ps instance) xs ys done later a b h = called_still (calling env term) (b (Called term ps instance)) (λ k. all_stand_behind env ps xs ys done later a b k) h
  stands_behind env (Inner p) xs ys done later a b h = within_still p xs ys done later a b h
  stands_behind env (Extracted term q) xs ys done later a b h = stands_behind env q xs ys done later a b h
  stands_behind env (Chosen q) xs ys done later a b h = (stands_behind env q xs ys done later a b h.0, λ e. b q (h.1 e))
  stands_behind env (Part part q) xs ys done later a b h = stands_behind env q xs ys done later a b h
  stands_behind env (VariantField variant field q) xs ys done later a b h = (h.0, a (Is q (constraint.Variant h.0 variant)) h.1)
  stands_behind env (StructField field q) xs ys done later a b h = (h.0, a (Is q (constraint.Struct h.0)) h.1)
  stands_behind env (MadeVariant of variant ps) xs ys done later a b h = all_stand_behind env ps xs ys done later a b h
  stands_behind env (MadeStruct of ps) xs ys done later a b h = all_stand_behind env ps xs ys done later a b h
  stands_behind env p xs ys done later a b h = tt

  -- so of each
  all_stand_behind : (env : Environment) (ps : Paths) (xs ys : List Test) (done later : List Path) → AreAlso xs ys → Among done later → AllStandOn env xs done ps → AllStandOn env ys later ps
  all_stand_behind env NoPath xs ys done later a b h = tt
  all_stand_behind env (APath p ps) xs ys done later a b h = (stands_behind env p xs ys done later a b h.0, all_stand_behind env ps xs ys done later a b h.1)

-- after more tests
pub stands_still : (env : Environment) (p : Path) (xs ys : List Test) (done : List Path) → AreAlso xs ys → StandsOn env xs done p → StandsOn env ys done p
stands_still env p xs ys done a h = stands_behind env p xs ys done done a (λ q c. c) h

-- after more calls
pub all_stand_later : (env : Environment) (ps : Paths) (tests : List Test) (done later : List Path) → Among done later → AllStandOn env tests done ps → AllStandOn env tests later ps
all_stand_later env ps tests done later b h = all_stand_behind env ps tests tests done later (λ x c. c) b h

-- ---- after no calls

-- each of these paths holds an impure call
abbrev pub AreLate : Environment → List Path → Type 0
AreLate env done = (p : Path) → Contains done p → holds_impure env p ≡ true

called_early : (itself after : Type 0) {arguments others : Type 0} (c : Calling) → takes_turn c ≡ false → (arguments → others) → StandsCalled c itself arguments → StandsCalled c after others
called_early itself after (ByTurns callee kind) e f h = absurd cc
called_early itself after (ByCases callee kind) e f h = f h
called_early itself after NoCall e f h = absurd h

within_early : (env : Environment) (p : Path) (tests : List Test) (done : List Path) → AreLate env done → holds_impure env p ≡ false → StandsWithin tests done p → StandsWithin tests [] p
within_early env (Called term ps instance) tests done late e h = ⊎_elim (λ c. absurd (no_both (late (Called term ps instance) c) e)) (λ c. inr c) h
within_early env (Extracted term q) tests done late e h = h
within_early env p tests done late e h = tt

mutual
  -- what holds no impure call, and may be read after calls each of which holds one, may be read after none
  pub stands_early : (env : Environment) (p : Path) (tests : List Test) (done : List Path) → AreLate env done → holds_impure env p ≡ false → StandsOn env tests done p → StandsOn env tests [] p
  stands_early env (Called term ps instance) tests done late e h = let k = or_parts (takes_turn (calling env term)) (hold_impure env ps) e in
      called_early (Contains done (Called term ps instance)) (Contains {X = Path} [] (Called term ps instance)) (calling env term) k.0 (λ s. all_stand_early env ps tests done late k.1 s) h
  stands_early env (Inner p) tests done late e h = within_early env p tests done late e h
  stands_early env (Extracted term q) tests done late e h = stands_early env q tests done late e h
  stands_early env (Chosen q) tests done late e h = (stands_early env q tests done late e h.0, λ f. absurd (no_both f e))
  stands_early env (Part part q) tests done late e h = stands_early env q tests done late e h
  stands_early env (VariantField variant field q) tests done late e h = h
  stands_early env (StructField field q) tests done late e h = h
  stands_early env (MadeVariant of variant ps) tests done late e h = all_stand_early env ps tests done late e h
  stands_early env (MadeStruct of ps) tests done late e h = all_stand_early env ps tests done late e h
  stands_early env p tests done late e h = tt

  pub all_stand_early : (env : Environment) (ps : Paths) (tests : List Test) (done : List Path) → AreLate env done → hold_impure env ps ≡ false → AllStandOn env tests done ps → AllStandOn env tests [] ps
  all_stand_early env NoPath tests done late e h = tt
  all_stand_early env (APath p ps) tests done late e h = let k = or_parts (holds_impure env p) (hold_impure env ps) e in (stands_early env p tests done late k.0 h.0, all_stand_early env ps tests done late k.1 h.1)
