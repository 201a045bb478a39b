-- Files that hold texts are read alike each time, and aren't read only for a fault.
use Rattle.std.proofs.Common.{◌≡◌, ◌⊎◌, ℕ, ◌<◌, ◌≤◌, zero, suc, List, [], ◌∷◌, ◌++◌, length, Option, Some, None, refl, sym, ap, ◌∙◌, subst, inl, inr, arith}
use Rattle.std.specs.Prelude.{◌^◌, IsSomeAnd, IsUtf8, slice_get}
use Rattle.isle_outside.specs.Directory.{Contents, bytes_of, Rose, Counts}
use Rattle.isle_outside.specs.Reading.{IsText, IsCause, RoseAt}
use Rattle.isle_outside.specs.declared.errors.IoCause.{IoCause}
use Rattle.isle_outside.specs.declared.errors.IoCause.TheVariants as cause
use Rattle.isle_core.specs.Inputs.{AreRead, Fails}
use Rattle.isle_core.specs.declared.options.CodegenOptions.{CodegenOptions}
use Rattle.isle_core.specs.declared.files.Files.{Files}
use Rattle.isle_core.specs.declared.read_error.ReadError.TheVariants as read
use Rattle.isle_codegen.specs.Causes.{AreSource}
use Rattle.isle_top.specs.RunLine.{answers_names, IsAnswersText}

-- ---- inputs

-- one file has one text
pub one_text : (o : Option (List ℕ)) (a b : List ℕ) → IsText a o → IsText b o → a ≡ b
one_text o a b s t = let same : Some a ≡ Some b = sym s.0 ∙ t.0 in cc

pub one_answers : (fs : Contents) (answers : Option (List ℕ)) (a b : List ℕ) → IsAnswersText (Some fs) answers a → IsAnswersText (Some fs) answers b → a ≡ b
one_answers fs None a b s t = s ∙ sym t
one_answers fs (Some name) a b s t = one_text (bytes_of fs name) a b s t

-- a file with a text isn't read only for a fault
pub only_fault : (why : IoCause) (o : Option (List ℕ)) (text : List ℕ) → IsText text o → IsCause why o → why ≡ cause.Fault
only_fault cause.Fault o text t h = refl
only_fault cause.Absent o text t h = let same : Some text ≡ None = sym t.0 ∙ h in absurd cc
only_fault cause.TooLong o text t h = let lt : 2 ^ 24 < length text = subst (λ x. IsSomeAnd x (λ bytes. 2 ^ 24 < length bytes)) t.0 h in absurd (omega (arith, lt, t.1))
only_fault cause.NotUtf8 o text t h = let k = subst (λ x. IsSomeAnd x (λ bytes. (length bytes ≤ 2 ^ 24) × (IsUtf8 bytes → ⊥))) t.0 h in absurd (k.1 t.2)

-- each input of a valid line is there
abbrev pub HasText : Contents → List ℕ → Type 0
HasText fs name = (text : List ℕ) × IsText text (bytes_of fs name)

pub named_there : (fs : Contents) (names texts : List (List ℕ)) (i : ℕ) (name : List ℕ) → AreRead fs names texts → slice_get names i ≡ Some name → HasText fs name
named_there fs [] texts i name r e = absurd (let bad : None ≡ Some name = e in cc)
named_there fs (n ∷ names) [] i name r e = absurd r
named_there fs (n ∷ names) (t ∷ texts) zero name r e = let same : n ≡ name = cc in subst (HasText fs) same (t, r.0)
named_there fs (n ∷ names) (t ∷ texts) (suc i) name r e = named_there fs names texts i name r.1 e

pub answers_there : (fs : Contents) (answers : Option (List ℕ)) (text : List ℕ) (i : ℕ) (name : List ℕ) → IsAnswersText (Some fs) answers text → slice_get (answers_names answers) i ≡ Some name → HasText fs name
answers_there fs None text i name v e = absurd (let bad : None ≡ Some name = e in cc)
answers_there fs (Some file) text zero name v e = let same : file ≡ name = cc in subst (HasText fs) same (text, v)
answers_there fs (Some file) text (suc i) name v e = absurd (let bad : None ≡ Some name = e in cc)

-- so none fails but for a fault
pub failed_name : (P : List ℕ → Type 0) (o : Option (List ℕ)) → IsSomeAnd o P → (name : List ℕ) × (o ≡ Some name) × P name
failed_name P None h = absurd h
failed_name P (Some name) h = (name, refl, h)

pub all_read : (names : List (List ℕ)) (fs : Contents) (index : ℕ) (why : IoCause) (before after : Counts) → ((i : ℕ) (name : List ℕ) → slice_get names i ≡ Some name → HasText fs name)
    → Fails (read.Io index why) (Some fs) names before after → (Rose before.faults after.faults → ⊥) → ⊥
all_read names fs index why before after there h calm =
    let at = failed_name (λ name. IsCause why (bytes_of fs name)) (slice_get names index) h.3.here in
    let text = there index at.0 at.1 in
    let fault : why ≡ cause.Fault = only_fault why (bytes_of fs at.0) text.0 text.1 at.2 in
    calm (subst (λ w. RoseAt w before.faults after.faults) fault h.2)

-- ---- texts

-- files have one list of texts
pub read_once : (fs : Contents) (names a b : List (List ℕ)) → AreRead fs names a → AreRead fs names b → a ≡ b
read_once fs [] [] [] r k = refl
read_once fs [] [] (y ∷ b) r k = absurd k
read_once fs [] (x ∷ a) b r k = absurd r
read_once fs (n ∷ names) [] b r k = absurd r
read_once fs (n ∷ names) (x ∷ a) [] r k = absurd k
read_once fs (n ∷ names) (x ∷ a) (y ∷ b) r k =
    let head : x ≡ y = one_text (bytes_of fs n) x y r.0 k.0 in
    let tail : a ≡ b = read_once fs names a b r.1 k.1 in
    cc

-- and are one source
pub source_once : (options : CodegenOptions) (fs : Contents) (names : List (List ℕ)) (a b : Files) → AreSource options names (Some fs) a → AreSource options names (Some fs) b → a ≡ b
source_once options fs names a b s t =
    ap (λ (ns : List (List ℕ)). record { file_names = ns; file_texts = a.file_texts }) (s.named ∙ sym t.named)
    ∙ ap (λ (ts : List (List ℕ)). record { file_names = b.file_names; file_texts = ts }) (read_once fs names a.file_texts b.file_texts s.read t.read)

-- a name of two lists stands in the one or in the other
pub get_either : (xs ys : List (List ℕ)) (i : ℕ) (name : List ℕ) → slice_get (xs ++ ys) i ≡ Some name → (slice_get xs i ≡ Some name) ⊎ ((j : ℕ) × (slice_get ys j ≡ Some name))
get_either [] ys i name e = inr (i, e)
get_either (x ∷ xs) ys zero name e = inl e
get_either (x ∷ xs) ys (suc i) name e = get_either xs ys i name e
