-- The paths of inputs, one more, and the first input that has none.
use Rattle.std.proofs.Common.{◌≡◌, ℕ, ◌+◌, ◌<◌, List, [], ◌∷◌, ◌++◌, length, take, get_or, Option, Some, None, Result, Ok, Err, String, Global, refl, sym, ap, ◌∙◌, subst, append_assoc}
use Rattle.std.specs.Prelude.{IfErr, IfSome, IsErrAnd}
use Rattle.std.specs.String.{string_bytes}
use Rattle.std.proofs.lemmas.Option.{slice_get_read, slice_get-map}
use Rattle.std.proofs.lemmas.List.{take-map, take_more, length-map, map-append, append-nil}
use Rattle.isle_outside.specs.Directory.{Contents, Counts, raised}
use Rattle.isle_core.specs.Inputs.{bytes_each, IsTried}
use Rattle.isle_core.proofs.InputLaws.{tries_more}
use Rattle.isle_units.specs.Paths.{AddsPaths, ArePaths, ArePathsOf, FailsInput, FailsPaths, IsAbsent, IsFirstAbsent}
use Rattle.isle_units.specs.declared.paths_error.PathsError.{PathsError}
use Rattle.isle_units.specs.declared.paths_error.PathsError.TheVariants as error

-- an input more
one_more : (files : Contents) (inputs paths : List (List ℕ)) (input : List ℕ) (own : List (List ℕ)) → ArePaths files inputs paths → ArePathsOf files input own → ArePaths files (inputs ++ input ∷ []) (paths ++ own)
one_more files [] paths input own h k = (own, [], k, refl, ap (λ ps. ps ++ own) h ∙ sym (append-nil own))
one_more files (i ∷ inputs) paths input own h k =
    (h.0, h.1 ++ own, h.2, one_more files inputs h.1 input own h.3 k, ap (λ ps. ps ++ own) h.4 ∙ append_assoc h.0 h.1 own)

-- the next input has paths too
pub paths_more : (files : Option Contents) (names : List (String Global)) (old new : List (List ℕ)) (i : ℕ) (x : String Global)
    → i < length names → x ≡ get_or names i x → IfSome files (λ fs. ArePaths fs (bytes_each (take i names)) old)
    → AddsPaths files (string_bytes x) old new → IfSome files (λ fs. ArePaths fs (bytes_each (take (i + 1) names)) new)
paths_more None names old new i x lt is h k = tt
paths_more (Some files) names old new i x lt is h k =
    let all : take (i + 1) names ≡ take i names ++ x ∷ [] = take_more names i x lt ∙ ap (λ y. take i names ++ y ∷ []) (sym is) in
    let each : bytes_each (take (i + 1) names) ≡ bytes_each (take i names) ++ string_bytes x ∷ [] = ap bytes_each all ∙ map-append string_bytes (take i names) (x ∷ []) in
    let more : ArePaths files (bytes_each (take i names) ++ string_bytes x ∷ []) (old ++ k.0) = one_more files (bytes_each (take i names)) old (string_bytes x) k.0 h k.2 in
    subst (λ ps. ArePaths files (bytes_each (take (i + 1) names)) ps) (sym k.1) (subst (λ ns. ArePaths files ns (old ++ k.0)) (sym each) more)

-- the input at the place is the first that is absent
absent_here : (files : Option Contents) (names : List (String Global)) (paths : List (List ℕ)) (i : ℕ) (x : String Global)
    → i < length names → x ≡ get_or names i x → IfSome files (λ fs. ArePaths fs (bytes_each (take i names)) paths)
    → IfSome files (λ fs. IsAbsent fs (string_bytes x)) → IfSome files (λ fs. IsFirstAbsent fs (bytes_each names) i)
absent_here None names paths i x lt is r f = tt
absent_here (Some fs) names paths i x lt is r f = record {
  before = (paths, rw take-map r);
  here = rw (slice_get-map, slice_get_read names (length names) i x refl lt is) f;
}

-- the failure of the input at the place
pub fails_at : (e : PathsError) (files : Option Contents) (names : List (String Global)) (paths : List (List ℕ)) (i : ℕ) (x : String Global) (old before after : Counts)
    → i < length names → x ≡ get_or names i x → IfSome files (λ fs. ArePaths fs (bytes_each (take i names)) paths)
    → FailsInput e files i (string_bytes x) before after → before.faults ≡ old.faults
    → IsTried i old before → after.finds ≡ raised 1 before.finds
    → FailsPaths e files (bytes_each names) old after
fails_at (error.Absent found) files names paths i x old before after lt is r f same tried find = rw f.0 (
  rw (length-map names string_bytes) lt,
  tries_more i old.finds before.finds after.finds tried find,
  f.1 ∙ same,
  absent_here files names paths i x lt is r f.2,
)
fails_at error.Dir files names paths i x old before after lt is r f same tried find = rw (← same) f
fails_at error.Memory files names paths i x old before after lt is r f same tried find = f ∙ same

-- a failure that is handed on
pub err_passed : {T : Type 0} (r : Result T PathsError) (e : PathsError) (P : PathsError → Type 0) → IsErrAnd r (λ y. y ≡ e) → P e → IfErr r P
err_passed (Ok x) e P same h = tt
err_passed (Err y) e P same h = subst P (sym same) h
