-- What is known along a way through a block: which impure calls may have been answered.
use Rattle.std.proofs.Common.{◌≡◌, ⊎_elim, ℕ, List, ◌++◌, Some, None, sym, ◌∙◌, refl}
use Rattle.std.specs.Prelude.{Contains}
use Rattle.std.proofs.lemmas.List.Elements.{Contains-append_cases, Contains-append_left, Contains-append_right}
use Rattle.isle_core.specs.CallRun as went
use Rattle.isle_core.specs.CallRun.{Went}
use Rattle.isle_core.specs.Occurrences.{AreNew}
use Rattle.isle_core.specs.ValueAt.{Known}
use Rattle.isle_core.proofs.HeldStays.{Grows}
use Rattle.isle_simulation.proofs.OneBind.{AreUnanswered, Keeps}

-- only these calls may have been answered
abbrev pub KnowsOnly : (made : List ℕ) → Known → Type 0
KnowsOnly made known = (k : ℕ) → (Contains made k → ⊥) → known.answers k ≡ None

-- what is known stays, and only these calls may have been answered
pub record IsLater (known : Known) (made : List ℕ) (later : Known) : Type 0 where
  pub grows : Grows known later
  pub only : KnowsOnly made later

-- so where a run goes on
abbrev pub WentOn : Known → (made : List ℕ) → Went → Type 0
WentOn known made (went.Goes later calls) = IsLater known made later
WentOn known made (went.Ends o) = Unit {0}

grows_twice : (known later last : Known) → Grows known later → Grows later last → Grows known last
grows_twice known later last g h = record { by = λ k a e. h.by k a (g.by k a e); choice = h.choice ∙ g.choice }

-- answers to calls that are new
pub kept_grows : (ks : List ℕ) (known later : Known) → AreUnanswered known ks → Keeps ks known later → Grows known later
kept_grows ks known later new keeps = record { by = λ k a e. keeps.by k (λ c. let bad : None ≡ Some a = sym (new k c) ∙ e in cc) ∙ e; choice = keeps.choice }

pub kept_only : (made ks : List ℕ) (known later : Known) → KnowsOnly made known → Keeps ks known later → KnowsOnly (made ++ ks) later
kept_only made ks known later only keeps k apart = keeps.by k (λ c. apart (Contains-append_right made ks k c)) ∙ only k (λ c. apart (Contains-append_left made ks k c))

-- the calls of a bind order, where they are new
pub new_unanswered : (made ks : List ℕ) (known : Known) → KnowsOnly made known → AreNew made ks → AreUnanswered known ks
new_unanswered made ks known only new k c = only k (λ d. new.apart k d c)

-- more calls may have been answered
pub on_left : (made more : List ℕ) (known later : Known) → IsLater known made later → IsLater known (made ++ more) later
on_left made more known later h = record { grows = h.grows; only = λ k apart. h.only k (λ c. apart (Contains-append_left made more k c)) }

pub on_right : (made more : List ℕ) (known : Known) (w : Went) → WentOn known more w → WentOn known (made ++ more) w
on_right made more known (went.Goes later calls) h = record { grows = h.grows; only = λ k apart. h.only k (λ c. apart (Contains-append_right made more k c)) }
on_right made more known (went.Ends o) h = tt

pub on_first : (more others : List ℕ) (known : Known) (w : Went) → WentOn known more w → WentOn known (more ++ others) w
on_first more others known (went.Goes later calls) h = on_left more others known later h
on_first more others known (went.Ends o) h = tt

-- and more between
pub on_between : (made more others : List ℕ) (known : Known) (w : Went) → WentOn known (made ++ others) w → WentOn known (made ++ (more ++ others)) w
on_between made more others known (went.Goes later calls) h = record {
  grows = h.grows;
  only = λ k apart. h.only k (λ c. ⊎_elim (λ d. apart (Contains-append_left made (more ++ others) k d)) (λ d. apart (Contains-append_right made (more ++ others) k (Contains-append_right more others k d))) (Contains-append_cases made others k c));
}
on_between made more others known (went.Ends o) h = tt

-- the same is known as before
pub same_later : (known : Known) (made : List ℕ) → KnowsOnly made known → IsLater known made known
same_later known made only = record { grows = record { by = λ k a e. e; choice = refl }; only = only }

-- what is known before a step stays to the end
pub goes_twice : (known later : Known) (made : List ℕ) (w : Went) → Grows known later → WentOn later made w → WentOn known made w
goes_twice known later made (went.Goes last all) g h = record { grows = grows_twice known later last g h.grows; only = h.only }
goes_twice known later made (went.Ends o) g h = tt
