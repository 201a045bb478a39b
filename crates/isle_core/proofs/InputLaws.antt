-- The inputs that were read, one more, and the first that was not.
use Rattle.std.proofs.Common.{◌≡◌, ℕ, ◌+◌, ◌-◌, ◌^◌, ◌<◌, ◌⊎◌, List, [], ◌∷◌, ◌++◌, length, take, get_or, Option, Some, None, String, Global, Result, Err, refl, sym, ap, ◌∙◌, subst, arith}
use Rattle.std.specs.Prelude.{IfSome}
use Rattle.std.specs.String.{string_bytes}
use Rattle.std.proofs.lemmas.Option.{slice_get_read, slice_get-map}
use Rattle.std.proofs.lemmas.List.{take-map, take_more, length-map, map-append}
use Rattle.isle_outside.specs.Directory.{Contents, bytes_of, Counts, raised}
use Rattle.isle_outside.specs.Reading.{IsText, IsCause, ReadsFile, CountsFault, RoseAt}
use Rattle.isle_outside.specs.declared.errors.IoCause.{IoCause}
use Rattle.isle_outside.specs.declared.errors.ReadFail.{ReadFail}
use Rattle.isle_outside.specs.declared.errors.ReadFail.TheVariants as fail
use Rattle.isle_core.specs.Inputs.{bytes_each, AreRead, Fails, FailsAt, IsTried, failure_at}

one_more : (files : Contents) (names texts : List (List ℕ)) (name text : List ℕ) → AreRead files names texts → IsText text (bytes_of files name) → AreRead files (names ++ name ∷ []) (texts ++ text ∷ [])
one_more files [] [] name text h k = (k, tt)
one_more files (n ∷ names) (t ∷ texts) name text h k = (h.0, one_more files names texts name text h.1 k)
one_more files [] (t ∷ texts) name text h k = absurd h
one_more files (n ∷ names) [] name text h k = absurd h

-- the next input is read too
pub read_more : (files : Option Contents) (names : List (String Global)) (texts : List (List ℕ)) (i : ℕ) (x : String Global) (text : List ℕ)
    → i < length names → x ≡ get_or names i x → IfSome files (λ fs. AreRead fs (bytes_each (take i names)) texts)
    → IfSome files (λ fs. IsText text (bytes_of fs (string_bytes x))) → IfSome files (λ fs. AreRead fs (bytes_each (take (i + 1) names)) (texts ++ text ∷ []))
read_more None names texts i x text lt is h k = tt
read_more (Some files) names texts i x text lt is h k =
    let all : take (i + 1) names ≡ take i names ++ x ∷ [] = take_more names i x lt ∙ ap (λ y. take i names ++ y ∷ []) (sym is) in
    let each : bytes_each (take (i + 1) names) ≡ bytes_each (take i names) ++ string_bytes x ∷ [] = ap bytes_each all ∙ map-append string_bytes (take i names) (x ∷ []) in
    subst (λ ns. AreRead files ns (texts ++ text ∷ [])) (sym each) (one_more files (bytes_each (take i names)) texts (string_bytes x) text h k)

-- one name more was looked up
pub tries_more : (i start mid after : ℕ) → (mid ≡ start + i) ⊎ (mid ≡ 2 ^ 64 - 1) → after ≡ raised 1 mid → (after ≡ start + (i + 1)) ⊎ (after ≡ 2 ^ 64 - 1)
tries_more i start mid after h k = grind arith

rose_at : (why : IoCause) (start before after : ℕ) → before ≡ start → RoseAt why before after → RoseAt why start after
rose_at why start before after h r = rw (← h) r

-- the input at the place is the first that is not read
fails_here : (why : IoCause) (files : Option Contents) (names : List (String Global)) (texts : List (List ℕ)) (i : ℕ) (x : String Global)
    → i < length names → x ≡ get_or names i x → IfSome files (λ fs. AreRead fs (bytes_each (take i names)) texts)
    → IfSome files (λ fs. IsCause why (bytes_of fs (string_bytes x))) → IfSome files (λ fs. FailsAt fs (bytes_each names) i why)
fails_here why None names texts i x lt is r f = tt
fails_here why (Some fs) names texts i x lt is r f = record {
  before = (texts, rw take-map r);
  here = rw (slice_get-map, slice_get_read names (length names) i x refl lt is) f;
}

-- the failure of the input at the place
pub fails_at : (f : ReadFail) (files : Option Contents) (names : List (String Global)) (texts : List (List ℕ)) (i : ℕ) (x : String Global) (old before after : Counts)
    → i < length names → x ≡ get_or names i x → IfSome files (λ fs. AreRead fs (bytes_each (take i names)) texts)
    → IfSome files (λ fs. ReadsFile {X = String Global} string_bytes (Err f) (bytes_of fs (string_bytes x)))
    → (let r : Result (String Global) ReadFail = Err f in CountsFault r before.faults after.faults) → before.faults ≡ old.faults
    → IsTried i old before → after.finds ≡ raised 1 before.finds
    → Fails (failure_at i f) files (bytes_each names) old after
fails_at fail.Memory files names texts i x old before after lt is r f fault same tried find = fault ∙ same
fails_at (fail.Io why) files names texts i x old before after lt is r f fault same tried find = (
  rw (length-map names string_bytes) lt,
  tries_more i old.finds before.finds after.finds tried find,
  rose_at why old.faults before.faults after.faults same fault,
  fails_here why files names texts i x lt is r f,
)
