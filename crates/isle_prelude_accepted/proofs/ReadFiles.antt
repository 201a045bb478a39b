-- Files that hold texts are read as these, unless a call of the directory fails.
use Rattle.std.proofs.Common.{◌≡◌, ℕ, zero, suc, ◌<◌, ◌≤◌, List, [], ◌∷◌, length, Option, Some, None, refl, sym, ◌∙◌, subst, arith}
use Rattle.std.specs.Prelude.{◌^◌, IsSomeAnd, IsUtf8, slice_get}
use Rattle.isle_core.specs.Inputs.{AreRead, Fails}
use Rattle.isle_core.specs.declared.read_error.ReadError.TheVariants as read
use Rattle.isle_outside.specs.Directory.{Contents, Counts, Rose, bytes_of}
use Rattle.isle_outside.specs.Reading.{IsCause, IsText, RoseAt}
use Rattle.isle_outside.specs.declared.errors.IoCause.{IoCause}
use Rattle.isle_outside.specs.declared.errors.IoCause.TheVariants as cause

one_text : (o : Option (List ℕ)) (a b : List ℕ) → IsText a o → IsText b o → a ≡ b
one_text o a b s t = let same : Some a ≡ Some b = sym s.0 ∙ t.0 in cc

-- files have one list of texts
pub read_once : (fs : Contents) (names a b : List (List ℕ)) → AreRead fs names a → AreRead fs names b → a ≡ b
read_once fs [] [] [] r k = refl
read_once fs [] [] (y ∷ b) r k = absurd k
read_once fs [] (x ∷ a) b r k = absurd r
read_once fs (n ∷ names) [] b r k = absurd r
read_once fs (n ∷ names) (x ∷ a) [] r k = absurd k
read_once fs (n ∷ names) (x ∷ a) (y ∷ b) r k =
    let head : x ≡ y = one_text (bytes_of fs n) x y r.0 k.0 in
    let tail : a ≡ b = read_once fs names a b r.1 k.1 in
    cc

only_fault : (why : IoCause) (o : Option (List ℕ)) (text : List ℕ) → IsText text o → IsCause why o → why ≡ cause.Fault
only_fault cause.Fault o text t h = refl
only_fault cause.Absent o text t h = let same : Some text ≡ None = sym t.0 ∙ h in absurd cc
only_fault cause.TooLong o text t h = let lt : 2 ^ 24 < length text = subst (λ x. IsSomeAnd x (λ bytes. 2 ^ 24 < length bytes)) t.0 h in absurd (omega (arith, lt, t.1))
only_fault cause.NotUtf8 o text t h = let k = subst (λ x. IsSomeAnd x (λ bytes. (length bytes ≤ 2 ^ 24) × (IsUtf8 bytes → ⊥))) t.0 h in absurd (k.1 t.2)

-- a file of a name that is read fails only by a fault
named_fault : (fs : Contents) (names texts : List (List ℕ)) (i : ℕ) (why : IoCause) → AreRead fs names texts
    → IsSomeAnd (slice_get names i) (λ name. IsCause why (bytes_of fs name)) → why ≡ cause.Fault
named_fault fs [] texts i why r h = absurd h
named_fault fs (n ∷ names) [] i why r h = absurd r
named_fault fs (n ∷ names) (t ∷ texts) zero why r h = only_fault why (bytes_of fs n) t r.0 h
named_fault fs (n ∷ names) (t ∷ texts) (suc i) why r h = named_fault fs names texts i why r.1 h

-- none fails where no call does
pub all_read : (fs : Contents) (names texts : List (List ℕ)) (index : ℕ) (why : IoCause) (before after : Counts) → AreRead fs names texts
    → (Rose before.faults after.faults → ⊥) → Fails (read.Io index why) (Some fs) names before after → ⊥
all_read fs names texts index why before after r calm h =
    calm (subst (λ w. RoseAt w before.faults after.faults) (named_fault fs names texts index why r h.3.here) h.2)
