-- What writing a file keeps, and what it changes.
use Rattle.std.proofs.Common.{◌≡◌, ℕ, ◌+◌, ◌≤◌, max, Bool, true, false, cond, List, [], ◌∷◌, Some, Result, Ok, Err, OnOk, OnErr, refl, ap, sym, ◌∙◌, arith}
use Rattle.std.specs.Str.{bytes_eq}
use Rattle.std.proofs.lemmas.Slice.Eq.{bytes_eq-Decides}
use Rattle.isle_outside.specs.Directory.{Contents, bytes_of, entries_of, AddsNoSecond, Holds, KeepsOthers}
use Rattle.isle_outside.specs.Memory.{Kept, files_of, written}

differ_at : (r : Bool) (a b : List ℕ) → (r ≡ true → a ≡ b) → (a ≡ b → ⊥) → r ≡ false
differ_at true a b same differ = absurd (differ (same refl))
differ_at false a b same differ = refl

differ : (a b : List ℕ) → (a ≡ b → ⊥) → bytes_eq a b ≡ false
differ a b apart = differ_at (bytes_eq a b) a b (bytes_eq-Decides a b).0 apart

holds_at : (file : List ℕ × List ℕ) (files : Contents) (name bytes : List ℕ) (t : Bool) → bytes_eq file.0 name ≡ t → bytes_of (written files name bytes) name ≡ Some bytes
    → bytes_of (cond t ((file.0, bytes) ∷ files) (file ∷ written files name bytes)) name ≡ Some bytes
holds_at file files name bytes true is later = ap (λ r. cond r (Some bytes) (bytes_of files name)) is
holds_at file files name bytes false is later = ap (λ r. cond r (Some file.1) (bytes_of (written files name bytes) name)) is ∙ later

-- the file of the name holds the bytes
pub written_holds : (files : Contents) (name bytes : List ℕ) → bytes_of (written files name bytes) name ≡ Some bytes
written_holds [] name bytes = ap (λ r. cond r (Some bytes) (bytes_of [] name)) ((bytes_eq-Decides name name).1 refl)
written_holds (file ∷ files) name bytes = holds_at file files name bytes (bytes_eq file.0 name) refl (written_holds files name bytes)

others_at : (file : List ℕ × List ℕ) (files : Contents) (name bytes other : List ℕ) (t : Bool) → bytes_eq file.0 name ≡ t → (other ≡ name → ⊥) → bytes_of (written files name bytes) other ≡ bytes_of files other
    → bytes_of (cond t ((file.0, bytes) ∷ files) (file ∷ written files name bytes)) other ≡ bytes_of (file ∷ files) other
others_at file files name bytes other true is apart later =
    let unlike : bytes_eq file.0 other ≡ false = differ file.0 other (λ e. apart (sym e ∙ (bytes_eq-Decides file.0 name).0 is)) in
    ap (λ r. cond r (Some bytes) (bytes_of files other)) unlike ∙ sym (ap (λ r. cond r (Some file.1) (bytes_of files other)) unlike)
others_at file files name bytes other false is apart later = ap (λ rest. cond (bytes_eq file.0 other) (Some file.1) rest) later

-- every other file is as before
pub written_others : (files : Contents) (name bytes other : List ℕ) → (other ≡ name → ⊥) → bytes_of (written files name bytes) other ≡ bytes_of files other
written_others [] name bytes other apart = ap (λ r. cond r (Some bytes) (bytes_of [] other)) (differ name other (λ e. apart (sym e)))
written_others (file ∷ files) name bytes other apart = others_at file files name bytes other (bytes_eq file.0 name) refl apart (written_others files name bytes other apart)

-- the two as clauses of a call that wrote or failed
pub call_holds : {E : Type 0} (r : Result (Unit {0}) E) (old new : Contents) (name bytes : List ℕ) → OnOk r (new ≡ written old name bytes) → OnOk r (Holds (Some new) name bytes)
call_holds (Ok done) old new name bytes is = rw is (written_holds old name bytes)
call_holds (Err e) old new name bytes is = tt

pub call_keeps : {E : Type 0} (r : Result (Unit {0}) E) (old new : List Kept) (name bytes : List ℕ) → OnOk r (files_of new ≡ written (files_of old) name bytes) → OnErr r (new ≡ old) → KeepsOthers (Some (files_of old)) (Some (files_of new)) name
call_keeps (Ok done) old new name bytes is same = λ other apart. rw is (written_others (files_of old) name bytes other apart)
call_keeps (Err e) old new name bytes is same = λ other apart. ap (λ kept. bytes_of (files_of kept) other) same

entries_at : (file : List ℕ × List ℕ) (files : Contents) (name bytes : List ℕ) (t : Bool) → bytes_eq file.0 name ≡ t → entries_of (written files name bytes) name ≤ max 1 (entries_of files name)
    → entries_of (cond t ((file.0, bytes) ∷ files) (file ∷ written files name bytes)) name ≤ max 1 (entries_of (file ∷ files) name)
entries_at file files name bytes true is later = rw is (omega arith)
entries_at file files name bytes false is later = rw is later

one_entry : (t : Bool) → cond t (0 + 1) 0 ≤ max 1 0
one_entry true = omega arith
one_entry false = omega arith

-- the name has no second entry
pub written_entries : (files : Contents) (name bytes : List ℕ) → entries_of (written files name bytes) name ≤ max 1 (entries_of files name)
written_entries [] name bytes = one_entry (bytes_eq name name)
written_entries (file ∷ files) name bytes = entries_at file files name bytes (bytes_eq file.0 name) refl (written_entries files name bytes)

other_entries_at : (file : List ℕ × List ℕ) (files : Contents) (name bytes other : List ℕ) (t : Bool) → entries_of (written files name bytes) other ≡ entries_of files other
    → entries_of (cond t ((file.0, bytes) ∷ files) (file ∷ written files name bytes)) other ≡ entries_of (file ∷ files) other
other_entries_at file files name bytes other true later = refl
other_entries_at file files name bytes other false later = ap (λ n. cond (bytes_eq file.0 other) (n + 1) n) later

-- every other name has the entries that it had
pub written_other_entries : (files : Contents) (name bytes other : List ℕ) → (other ≡ name → ⊥) → entries_of (written files name bytes) other ≡ entries_of files other
written_other_entries [] name bytes other apart = ap (λ r. cond r (0 + 1) 0) (differ name other (λ e. apart (sym e)))
written_other_entries (file ∷ files) name bytes other apart = other_entries_at file files name bytes other (bytes_eq file.0 name) (written_other_entries files name bytes other apart)

same_entries : (n : ℕ) → n ≤ max 1 n
same_entries n = omega arith

pub call_entries : {E : Type 0} (r : Result (Unit {0}) E) (old new : List Kept) (name bytes : List ℕ) → OnOk r (files_of new ≡ written (files_of old) name bytes) → OnErr r (new ≡ old) → AddsNoSecond (files_of old) (files_of new) name
call_entries (Ok done) old new name bytes is same = rw is record {
  here = written_entries (files_of old) name bytes;
  others = λ other apart. written_other_entries (files_of old) name bytes other apart;
}
call_entries (Err e) old new name bytes is same = rw same record {
  here = same_entries (entries_of (files_of old) name);
  others = λ other apart. refl;
}

-- nothing was written
pub unchanged_entries : (files : Contents) (name : List ℕ) → AddsNoSecond files files name
unchanged_entries files name = record { here = same_entries (entries_of files name); others = λ other apart. refl }
