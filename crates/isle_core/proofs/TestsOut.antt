-- A test that no later choice changes may stand outside the loops.
use Rattle.std.proofs.Common.{◌≡◌, ℕ, ◌+◌, List, [], ◌∷◌, Bool, cond, refl, sym, ap, ◌∙◌}
use Rattle.isle_core.specs.Answered.{Item, Held, Absent, One, Optional, Listed}
use Rattle.isle_core.specs.Choices.{each_choice}
use Rattle.isle_core.specs.Meaning.{Meaning}
use Rattle.isle_core.specs.Parts.{Given}
use Rattle.isle_core.specs.Path.{Path}
use Rattle.isle_core.specs.Rule.{Environment}
use Rattle.isle_core.specs.SeveralRun.{choosing, on_turns, on_items}
use Rattle.isle_core.specs.Value.{Value}
use Rattle.isle_core.specs.ValueAt.{Known, value_at}
use Rattle.isle_core.proofs.TakenItems.{by_truth}

-- what is done at each item, if it is the same as something else
abbrev pub Turn : Type 0
Turn = Known → Given → Given

turns_alike : (q : Path) (is : List Item) (place : ℕ) (known : Known) (g : Given) (one other : Turn) → ((j : ℕ) (h : Given) → one (choosing known q j) h ≡ other (choosing known q j) h) → on_turns q is place known g one ≡ on_turns q is place known g other
turns_alike q [] place known g one other h = refl
turns_alike q (i ∷ is) place known g one other h =
    ap (λ x. on_turns q is (place + 1) known x one) (h place g) ∙ turns_alike q is (place + 1) known (other (choosing known q place) g) one other h

-- nothing is done at each item
turns_idle : (q : Path) (is : List Item) (place : ℕ) (known : Known) (g : Given) (turn : Turn) → ((j : ℕ) (h : Given) → turn (choosing known q j) h ≡ h) → on_turns q is place known g turn ≡ g
turns_idle q [] place known g turn h = refl
turns_idle q (i ∷ is) place known g turn h = ap (λ x. on_turns q is (place + 1) known x turn) (h place g) ∙ turns_idle q is (place + 1) known g turn h

items_alike : (q : Path) (held : Held) (known : Known) (g : Given) (one other : Turn) → ((j : ℕ) (h : Given) → one (choosing known q j) h ≡ other (choosing known q j) h) → on_items q held known g one ≡ on_items q held known g other
items_alike q (Listed is) known g one other h = turns_alike q is 0 known g one other h
items_alike q Absent known g one other h = refl
items_alike q (One i) known g one other h = refl
items_alike q (Optional o) known g one other h = refl

items_idle : (q : Path) (held : Held) (known : Known) (g : Given) (turn : Turn) → ((j : ℕ) (h : Given) → turn (choosing known q j) h ≡ h) → on_items q held known g turn ≡ g
items_idle q (Listed is) known g turn h = turns_idle q is 0 known g turn h
items_idle q Absent known g turn h = refl
items_idle q (One i) known g turn h = refl
items_idle q (Optional o) known g turn h = refl

module _ (env : Environment) (m : Meaning) (args : List Value) where
  -- a test is changed by no choice of items of these lists
  abbrev pub IsFree : List Path → (Known → Bool) → Type 0
  IsFree [] test = Unit {0}
  IsFree (q ∷ qs) test = ((known : Known) (place : ℕ) → test (choosing known q place) ≡ test known) × IsFree qs test

  -- it may stand outside the loops over them
  pub test_out : (qs : List Path) (test : Known → Bool) (known : Known) (g : Given) (next : Turn) → IsFree qs test
      → cond (test known) (each_choice env m args qs known g next) g ≡ each_choice env m args qs known g (λ now so. cond (test now) (next now so) so)
  test_out [] test known g next free = refl
  test_out (q ∷ qs) test known g next free =
      let held = value_at env m args known q in
      let inside : Turn = λ now so. each_choice env m args qs now so next in
      let tested : Turn = λ now so. each_choice env m args qs now so (λ here given. cond (test here) (next here given) given) in
      by_truth (test known)
      (λ yes. ap (λ b. cond b (on_items q held known g inside) g) yes
      ∙ items_alike q held known g inside tested (λ j h. sym (ap (λ b. cond b (inside (choosing known q j) h) h) (free.0 known j ∙ yes)) ∙ test_out qs test (choosing known q j) h next free.1))
      (λ fails. ap (λ b. cond b (on_items q held known g inside) g) fails
      ∙ sym (items_idle q held known g tested (λ j h. sym (test_out qs test (choosing known q j) h next free.1) ∙ ap (λ b. cond b (inside (choosing known q j) h) h) (free.0 known j ∙ fails))))
