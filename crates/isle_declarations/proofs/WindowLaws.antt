-- The slots of a hash, as code cuts them out.
use Rattle.std.proofs.Common.{◌≡◌, ℕ, ◌-◌, ◌<◌, List, [], length, take, drop, sym, ap, ◌∙◌, arith}
use Rattle.std.proofs.lemmas.List.{drop_all, take_all, length-drop}
use Rattle.isle_declarations.specs.Slots.{start_of, window_of}

-- past the slots there is none
pub no_window : (slots : List ℕ) (hash start : ℕ) → start ≡ start_of (length slots) hash → length slots < start
    → ◌≡◌ {A = List ℕ} [] (window_of slots hash)
unfolding window_of
no_window slots hash start is past = sym (ap (take 8) (drop_all start slots (omega arith))) ∙ ap (λ s. take 8 (drop s slots)) is

-- what is left from the first on
rest_is : (slots rest : List ℕ) (start : ℕ) → rest ≡ take (length slots - start) (drop start slots) → rest ≡ drop start slots
rest_is slots rest start cut = cut ∙ take_all (length slots - start) (drop start slots) (let long = length-drop start slots in omega (arith, long))

-- eight of them
pub whole_window : (slots rest window : List ℕ) (hash start : ℕ) → start ≡ start_of (length slots) hash
    → rest ≡ take (length slots - start) (drop start slots) → window ≡ take 8 rest → window ≡ window_of slots hash
unfolding window_of
whole_window slots rest window hash start is cut first = first ∙ ap (take 8) (rest_is slots rest start cut) ∙ ap (λ s. take 8 (drop s slots)) is

-- fewer, where no more are left
pub last_window : (slots rest : List ℕ) (hash start : ℕ) → start ≡ start_of (length slots) hash
    → rest ≡ take (length slots - start) (drop start slots) → length rest < 8 → rest ≡ window_of slots hash
last_window slots rest hash start is cut few = whole_window slots rest rest hash start is cut (sym (take_all 8 rest (omega arith)))
