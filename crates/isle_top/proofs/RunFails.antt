-- Why a run gives no lines.
use Rattle.std.proofs.Common.{◌≡◌, ℕ, zero, suc, ◌<◌, ◌≤◌, List, [], ◌∷◌, ◌++◌, length, take, Option, Some, None, refl, sym, ap, ◌∙◌, subst, arith}
use Rattle.std.specs.Prelude.{IfSome, IsSomeAnd, slice_get}
use Rattle.isle_outside.specs.Directory.{Contents, Counts, bytes_of}
use Rattle.isle_outside.specs.Reading.{IsCause, RoseAt}
use Rattle.isle_outside.specs.declared.errors.IoCause.{IoCause}
use Rattle.isle_core.specs.Inputs.{AreRead, Fails, FailsAt}
use Rattle.isle_core.specs.declared.files.Files.{Files as FileTexts}
use Rattle.isle_core.specs.declared.read_error.ReadError.{ReadError}
use Rattle.isle_core.specs.declared.read_error.ReadError.TheVariants as read
use Rattle.isle_core.proofs.InputLaws.{tries_more}
use Rattle.isle_codegen.specs.Causes.{AllTried}
use Rattle.isle_top.specs.declared.refusal.Refusal.{Refusal}
use Rattle.isle_top.specs.Inputs.{FailsTo, FailsToHave}
use Rattle.isle_top.specs.Inputs as had
use Rattle.isle_top.specs.Job.{Around, surroundings}
use Rattle.isle_top.specs.RunLine.{answers_names, FailsToRun, IsAnswersText, of_read, early, unread, unshown, memory}
use Rattle.isle_top.specs.Showing.{Showing}
use Rattle.isle_top.specs.Sourcing.{Sourcing}
use Rattle.isle_top.proofs.SourceLaws.{IsSteady}

-- ---- names with others after them

take_front : (xs ys : List (List ℕ)) (k : ℕ) → k ≤ length xs → take k (xs ++ ys) ≡ take k xs
take_front xs ys zero le = refl
take_front [] ys (suc k) le = absurd (omega (arith, le))
take_front (x ∷ xs) ys (suc k) le = ap (λ zs. x ∷ zs) (take_front xs ys k (omega (arith, le)))

get_front : (xs ys : List (List ℕ)) (k : ℕ) → k < length xs → slice_get (xs ++ ys) k ≡ slice_get xs k
get_front [] ys k lt = absurd (omega (arith, lt))
get_front (x ∷ xs) ys zero lt = refl
get_front (x ∷ xs) ys (suc k) lt = get_front xs ys k (omega (arith, lt))

longer : (xs ys : List (List ℕ)) (k : ℕ) → k < length xs → k < length (xs ++ ys)
longer [] ys k lt = absurd (omega (arith, lt))
longer (x ∷ xs) ys zero lt = omega arith
longer (x ∷ xs) ys (suc k) lt = let more = longer xs ys k (omega (arith, lt)) in omega (arith, more)

take_whole : (xs ys : List (List ℕ)) → take (length xs) (xs ++ ys) ≡ xs
take_whole [] ys = refl
take_whole (x ∷ xs) ys = ap (λ zs. x ∷ zs) (take_whole xs ys)

get_behind : (xs : List (List ℕ)) (y : List ℕ) → slice_get (xs ++ y ∷ []) (length xs) ≡ Some y
get_behind [] y = refl
get_behind (x ∷ xs) y = get_behind xs y

short_of : (xs : List (List ℕ)) (y : List ℕ) → length xs < length (xs ++ y ∷ [])
short_of [] y = omega arith
short_of (x ∷ xs) y = let more = short_of xs y in omega (arith, more)

-- ---- a file of the source

front_at : (files : Option Contents) (xs ys : List (List ℕ)) (k : ℕ) (why : IoCause) → k < length xs → IfSome files (λ fs. FailsAt fs xs k why) → IfSome files (λ fs. FailsAt fs (xs ++ ys) k why)
front_at None xs ys k why lt h = tt
front_at (Some fs) xs ys k why lt h = record {
  before = (h.before.0, subst (λ ns. AreRead fs ns h.before.0) (sym (take_front xs ys k (omega (arith, lt)))) h.before.1);
  here = subst (λ o. IsSomeAnd o (λ name. IsCause why (bytes_of fs name))) (sym (get_front xs ys k lt)) h.here;
}

-- the files of a source weren't had
pub fails_source : (from : Sourcing) (shown : Showing) (around : Around) (e : Refusal) → FailsToHave from around e → FailsToRun from shown around e
fails_source from shown around _ (had.early e h) = early e h
fails_source from shown around _ (had.unread index why ready h) =
    unread index why ready (longer from.inputs (answers_names shown.answers) index h.0, h.1, h.2, front_at around.files from.inputs (answers_names shown.answers) index why h.0 h.3)
fails_source from shown around _ (had.memory h) = memory h

-- ---- the file of answers

behind_at : (from : Sourcing) (steady : IsSteady from) (files : Option Contents) (src : FileTexts) (name : List ℕ) (why : IoCause) → from.is_source files src
    → IfSome files (λ fs. IsCause why (bytes_of fs name)) → IfSome files (λ fs. FailsAt fs (from.inputs ++ name ∷ []) (length from.inputs) why)
behind_at from steady None src name why found h = tt
behind_at from steady (Some fs) src name why found h =
    let texts = steady.read fs src found in
    record {
      before = (texts.0, subst (λ ns. AreRead fs ns texts.0) (sym (take_whole from.inputs (name ∷ []))) texts.1);
      here = subst (λ o. IsSomeAnd o (λ n. IsCause why (bytes_of fs n))) (sym (get_behind from.inputs name)) h;
    }

module _ (from : Sourcing) (steady : IsSteady from) (shown : Showing) (files : Option Contents) (before mid after : Counts) (src : FileTexts) (found : from.is_source files src)
    (tried : AllTried from.inputs before mid) where
  -- the file of answers wasn't read
  pub fails_answers : (answers : Option (List ℕ)) (index : ℕ) (e : ReadError) → answers ≡ shown.answers → index ≡ length from.inputs
      → IsSomeAnd answers (λ name. FailsTo e index files name mid after) → FailsToRun from shown (surroundings files before after) (of_read e)
  fails_answers None index e same is h = absurd h
  fails_answers (Some name) index read.Memory same is h = memory (h ∙ tried.1)
  fails_answers (Some name) index (read.Io at why) same is h =
      let inputs : List (List ℕ) = from.inputs in
      let fails : Fails (read.Io (length inputs) why) files (inputs ++ name ∷ []) before after = (
        short_of inputs name,
        tries_more (length inputs) before.finds mid.finds after.finds tried.0 h.1,
        subst (λ n. RoseAt why n after.faults) tried.1 h.2,
        behind_at from steady files src name why found h.3,
      ) in
      subst (λ (k : ℕ). FailsToRun from shown (surroundings files before after) (of_read (read.Io k why))) (sym (h.0 ∙ is))
      (unread (length inputs) why (steady.ready files src found) (subst (λ (a : Option (List ℕ)). Fails (read.Io (length inputs) why) files (inputs ++ answers_names a) before after) same fails))

  -- nothing is shown of what was read
  pub fails_read : (answers : Option (List ℕ)) (given : List ℕ) (e : Refusal) → answers ≡ shown.answers → IsAnswersText files answers given
      → AllTried (from.inputs ++ answers_names answers) before after → shown.fails src given e → FailsToRun from shown (surroundings files before after) e
  fails_read answers given e same answered all h =
      unshown src given e (record { read = found; answered = subst (λ a. IsAnswersText files a given) same answered })
      (subst (λ (a : Option (List ℕ)). AllTried (from.inputs ++ answers_names a) before after) same all) h
