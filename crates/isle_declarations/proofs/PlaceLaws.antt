-- The first place of each name, after one more is added.
use Rattle.std.proofs.Common.{◌≡◌, ℕ, suc, ◌+◌, Bool, true, false, cond, List, [], ◌∷◌, ◌++◌, length, Option, Some, None, refl, sym, ap, ◌∙◌, arith}
use Rattle.std.specs.Prelude.{option_map, is_some}
use Rattle.std.proofs.lemmas.List.{map-append, length-map}
use denote.Ref.{Bor}
use Rattle.isle_declarations.specs.Symbols.{index_of, added}
use Rattle.isle_declarations.specs.LookedUp.{texts}
use Rattle.isle_declarations.proofs.SymbolLaws.{index_of_new}

-- a place, or else this one if it is the name's
abbrev pub or_at : Option ℕ → Bool → ℕ → Option ℕ
or_at (Some n) here end = Some n
or_at None here end = cond here (Some end) None

or_later : (here : Bool) (end : ℕ) → option_map (λ (n : ℕ). n + 1) (cond here (Some end) None) ≡ cond here (Some (suc end)) None
or_later true end = ap Some (omega arith)
or_later false end = refl

pub after_first : (first here : Bool) (o rest : Option ℕ) (end : ℕ) → rest ≡ or_at o here end
    → cond first (Some 0) (option_map (λ (n : ℕ). n + 1) rest) ≡ or_at (cond first (Some 0) (option_map (λ (n : ℕ). n + 1) o)) here (suc end)
after_first true here o rest end h = refl
after_first false here (Some n) rest end h = ap (option_map (λ (n : ℕ). n + 1)) h
after_first false here None rest end h = ap (option_map (λ (n : ℕ). n + 1)) h ∙ or_later here end

-- ---- the names of code with one more

-- their texts
more_texts : (names more : List (Bor (List ℕ))) (key : Bor (List ℕ)) → more ≡ names ++ key ∷ [] → texts more ≡ texts names ++ key.now ∷ []
more_texts names more key pushed = ap texts pushed ∙ map-append (λ (n : Bor (List ℕ)). n.now) names (key ∷ [])

-- its place is the last
pub placed_last : (names more : List (Bor (List ℕ))) (key : Bor (List ℕ)) (place : ℕ) → more ≡ names ++ key ∷ []
    → index_of (texts names) key.now ≡ None → place ≡ length names
    → index_of (texts more) key.now ≡ Some place
placed_last names more key place pushed absent is =
    ap (λ ns. index_of ns key.now) (more_texts names more key pushed)
    ∙ index_of_new (texts names) key.now absent ∙ ap Some (length-map names (λ (n : Bor (List ℕ)). n.now) ∙ sym is)

-- and the names are those with one more
pub placed_added : (names more : List (Bor (List ℕ))) (key : Bor (List ℕ)) → more ≡ names ++ key ∷ []
    → index_of (texts names) key.now ≡ None → texts more ≡ added (texts names) key.now
placed_added names more key pushed absent =
    more_texts names more key pushed ∙ sym (ap (λ b. cond b (texts names) (texts names ++ key.now ∷ [])) (ap is_some absent))
