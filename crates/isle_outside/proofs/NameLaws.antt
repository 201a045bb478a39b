-- What stands in a file's name after a folder's.
use Rattle.std.proofs.Common.{◌≡◌, ◌≢◌, ℕ, Bool, true, false, cond, eqb, List, [], ◌∷◌, ◌++◌, length, take, is_some, Option, Some, None, MatchOption, Bor, refl, ap, sym, ◌∙◌}
use Rattle.std.specs.Option.{option_copied}
use Rattle.std.proofs.lemmas.Bool.{eqb-true, eq-eqb}
use Rattle.isle_outside.specs.Directory.{inside_folder}

-- the folder's own bytes are passed over
pub inside-append : (folder rest : List ℕ) → inside_folder folder (folder ++ rest) ≡ inside_folder [] rest
inside-append [] rest = refl
inside-append (c ∷ folder) rest = ap (λ t. cond t (inside_folder folder (folder ++ rest)) None) (eq-eqb c c refl) ∙ inside-append folder rest

no_slash : (b : ℕ) (file : List ℕ) (t : Bool) → eqb b 47 ≡ t → ((rest : List ℕ) → b ∷ file ≢ 47 ∷ rest) → cond t (Some file) None ≡ None
no_slash b file true is lacks = absurd (lacks file (ap (λ x. x ∷ file) (eqb-true b 47 is)))
no_slash b file false is lacks = refl

-- a file that doesn't go on with a slash lies in no folder
pub inside_slash : (file : List ℕ) → ((rest : List ℕ) → file ≢ 47 ∷ rest) → inside_folder [] file ≡ None
inside_slash [] lacks = refl
inside_slash (b ∷ file) lacks = no_slash b file (eqb b 47) refl lacks

-- one byte of both, if the claim holds after it
lacks_at : (c b : ℕ) (folder file : List ℕ) (t : Bool) → eqb b c ≡ t → (((rest : List ℕ) → file ≢ folder ++ rest) → inside_folder folder file ≡ None)
    → ((rest : List ℕ) → b ∷ file ≢ c ∷ (folder ++ rest)) → cond t (inside_folder folder file) None ≡ None
lacks_at c b folder file true is later lacks = later (λ rest e. lacks rest (ap (λ x. x ∷ file) (eqb-true b c is) ∙ ap (λ xs. c ∷ xs) e))
lacks_at c b folder file false is later lacks = refl

-- a name that doesn't begin with the folder's lies elsewhere
pub inside_lacks : (folder file : List ℕ) → ((rest : List ℕ) → file ≢ folder ++ rest) → inside_folder folder file ≡ None
inside_lacks [] file lacks = absurd (lacks file refl)
inside_lacks (c ∷ folder) [] lacks = refl
inside_lacks (c ∷ folder) (b ∷ file) lacks = lacks_at c b folder file (eqb b c) refl (inside_lacks folder file) lacks

-- what `strip_prefix` answers to a slash
pub inside_stripped : (rest : List ℕ) (r : Option (Bor (List ℕ))) → MatchOption r ((after : List ℕ) → rest ≢ 47 ∷ after) (λ x. rest ≡ 47 ∷ x.now) → option_copied r ≡ inside_folder [] rest
inside_stripped rest None lacks = sym (inside_slash rest lacks)
inside_stripped rest (Some x) is = sym (ap (inside_folder []) is)

front_at : (c b : ℕ) (folder file : List ℕ) (t : Bool) → eqb b c ≡ t → (is_some (inside_folder folder file) ≡ true → take (length folder) file ≡ folder) → is_some (cond t (inside_folder folder file) None) ≡ true → b ∷ take (length folder) file ≡ c ∷ folder
front_at c b folder file true is later below = ap (λ x. x ∷ take (length folder) file) (eqb-true b c is) ∙ ap (λ xs. c ∷ xs) (later below)
front_at c b folder file false is later below = cc

-- a file in a folder has the folder's name at its front
pub front_of_name : (folder file : List ℕ) → is_some (inside_folder folder file) ≡ true → take (length folder) file ≡ folder
front_of_name [] file below = refl
front_of_name (c ∷ folder) [] below = cc
front_of_name (c ∷ folder) (b ∷ file) below = front_at c b folder file (eqb b c) refl (front_of_name folder file) below
