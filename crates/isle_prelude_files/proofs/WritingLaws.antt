-- Files that are written one by one.
use Rattle.std.proofs.Common.{◌≡◌, ℕ, ◌+◌, ◌<◌, ◌≤◌, List, [], ◌∷◌, ◌++◌, length, get_or, take, drop, max, Bool, true, false, Option, Some, None, refl, sym, ap, ◌∙◌, subst, arith}
use Rattle.std.specs.Prelude.{◌||◌}
use Rattle.std.specs.Str.{bytes_eq}
use Rattle.std.proofs.lemmas.List.{drop_more, get_or-map, length-map, take_more}
use Rattle.std.proofs.lemmas.Slice.Eq.{bytes_eq-Decides}
use Rattle.isle_meta.specs.TableNames.{is_among, repeats_after}
use Rattle.isle_outside.specs.Directory.{Contents, Holds, KeepsEntries, KeepsOthers, entries_of}
use Rattle.isle_prelude_files.specs.Outputs.{AddsNoSeconds, AreLeft, AreLeftUpTo, File, HoldAll, KeepsAllBut, file_of, files_of, names_of}
use Rattle.isle_prelude_files.specs.declared.writing.Output.{Output}

-- ---- names

either : (a b : Bool) → (a || b) ≡ false → (a ≡ false) × (b ≡ false)
either true b h = absurd cc
either false b h = (refl, h)

names_joined : (fs gs : List File) → names_of (fs ++ gs) ≡ names_of fs ++ names_of gs
names_joined [] gs = refl
names_joined (f ∷ fs) gs = ap (λ ns. f.0 ∷ ns) (names_joined fs gs)

-- a name that isn't among these and one more
not_among : (name other : List ℕ) (names : List (List ℕ)) → is_among other (names ++ name ∷ []) ≡ false
    → (is_among other names ≡ false) × (bytes_eq other name ≡ false)
not_among name other [] h = (refl, (either (bytes_eq other name) false h).0)
not_among name other (n ∷ names) h =
    let parts = either (bytes_eq other n) (is_among other (names ++ name ∷ [])) h in
    let rest = not_among name other names parts.1 in
    (ap (λ b. b || is_among other names) parts.0 ∙ rest.0, rest.1)

differs : (v w : List ℕ) → bytes_eq v w ≡ false → v ≡ w → ⊥
differs v w h e = let k : true ≡ false = sym ((bytes_eq-Decides v w).1 e) ∙ h in absurd cc

-- ---- one more file

-- a file of another name holds what it held
still_holds : (now new : Option Contents) (name : List ℕ) (f : File) → KeepsOthers now new name → (f.0 ≡ name → ⊥) → Holds now f.0 f.1 → Holds new f.0 f.1
still_holds None new name f k ne h = subst (λ o. Holds o f.0 f.1) (sym k) tt
still_holds (Some a) None name f k ne h = absurd k
still_holds (Some a) (Some b) name f k ne h = k f.0 ne ∙ h

all_still_hold : (now new : Option Contents) (name : List ℕ) (fs : List File) → KeepsOthers now new name → is_among name (names_of fs) ≡ false
    → HoldAll now fs → HoldAll new fs
all_still_hold now new name [] k none h = tt
all_still_hold now new name (f ∷ fs) k none h =
    let parts = either (bytes_eq name f.0) (is_among name (names_of fs)) none in
    (still_holds now new name f k (λ e. differs name f.0 parts.0 (sym e)) h.0, all_still_hold now new name fs k parts.1 h.1)

-- and each holds its text, with one more that does
one_more_holds : (new : Option Contents) (fs : List File) (file : File) → HoldAll new fs → Holds new file.0 file.1 → HoldAll new (fs ++ file ∷ [])
one_more_holds new [] file h k = (k, tt)
one_more_holds new (f ∷ fs) file h k = (h.0, one_more_holds new fs file h.1 k)

-- files of names that are none of these, nor one more
keeps_more : (old now new : Option Contents) (names : List (List ℕ)) (name : List ℕ) → KeepsAllBut names old now → KeepsOthers now new name
    → KeepsAllBut (names ++ name ∷ []) old new
keeps_more None now new names name h k = subst (λ (o : Option Contents). KeepsOthers o new name) h k
keeps_more (Some a) None new names name h k = absurd h
keeps_more (Some a) (Some b) None names name h k = absurd k
keeps_more (Some a) (Some b) (Some c) names name h k = λ other none.
    let parts = not_among name other names none in
    k other (differs other name parts.1) ∙ h other parts.0

-- ---- the loop

-- the files in front of this place are written, and from here on no name repeats one before it
pub record WrittenTo (files : List File) (i : ℕ) (old now : Option Contents) : Type 0 where
  pub left : AreLeft (take i files) old now
  pub apart : repeats_after (names_of (take i files)) (names_of (drop i files)) ≡ false

-- where the next file's name stands
next_apart : (files : List File) (i : ℕ) (file : File) → i < length files → file ≡ get_or files i file
    → repeats_after (names_of (take i files)) (names_of (drop i files)) ≡ false
    → (is_among file.0 (names_of (take i files)) ≡ false) × (repeats_after (names_of (take i files) ++ file.0 ∷ []) (names_of (drop (i + 1) files)) ≡ false)
next_apart files i file lt is h =
    let split : drop i files ≡ file ∷ drop (i + 1) files = drop_more files i file lt ∙ ap (λ (f : File). f ∷ drop (i + 1) files) (sym is) in
    either (is_among file.0 (names_of (take i files))) (repeats_after (names_of (take i files) ++ file.0 ∷ []) (names_of (drop (i + 1) files)))
    (sym (ap (λ fs. repeats_after (names_of (take i files)) (names_of fs)) split) ∙ h)

front_more : (files : List File) (i : ℕ) (file : File) → i < length files → file ≡ get_or files i file → take (i + 1) files ≡ take i files ++ file ∷ []
front_more files i file lt is = take_more files i file lt ∙ ap (λ (f : File). take i files ++ f ∷ []) (sym is)

names_more : (files : List File) (i : ℕ) (file : File) → i < length files → file ≡ get_or files i file
    → names_of (take (i + 1) files) ≡ names_of (take i files) ++ file.0 ∷ []
names_more files i file lt is = ap names_of (front_more files i file lt is) ∙ names_joined (take i files) (file ∷ [])

-- the next file may hold anything
written_up_to : (files : List File) (i : ℕ) (file : File) (old now new : Option Contents) → i < length files → file ≡ get_or files i file
    → WrittenTo files i old now → KeepsOthers now new file.0 → AreLeftUpTo files i old new
written_up_to files i file old now new lt is w k =
    record {
      within = lt;
      hold = all_still_hold now new file.0 (take i files) k (next_apart files i file lt is w.apart).0 w.left.hold;
      others = subst (λ ns. KeepsAllBut ns old new) (sym (names_more files i file lt is)) (keeps_more old now new (names_of (take i files)) file.0 w.left.others k);
    }

-- it is written
written_more : (files : List File) (i : ℕ) (file : File) (old now new : Option Contents) → i < length files → file ≡ get_or files i file
    → WrittenTo files i old now → KeepsOthers now new file.0 → Holds new file.0 file.1
    → WrittenTo files (i + 1) old new
written_more files i file old now new lt is w k h =
    let apart = next_apart files i file lt is w.apart in
    let whole = written_up_to files i file old now new lt is w k in
    record {
      left = record {
        hold = subst (HoldAll new) (sym (front_more files i file lt is)) (one_more_holds new (take i files) file whole.hold h);
        others = whole.others;
      };
      apart = subst (λ ns. repeats_after ns (names_of (drop (i + 1) files)) ≡ false) (sym (names_more files i file lt is)) apart.1;
    }

-- ---- the outputs' files

count_is : (outputs : List Output) → length (files_of outputs) ≡ length outputs
count_is outputs = length-map outputs file_of

file_is : (outputs : List Output) (i : ℕ) (d : Output) → i < length outputs → file_of (get_or outputs i d) ≡ get_or (files_of outputs) i (file_of (get_or outputs i d))
file_is outputs i d lt = sym (get_or-map file_of outputs i d (file_of (get_or outputs i d)) lt)

within_files : (outputs : List Output) (i : ℕ) → i < length outputs → i < length (files_of outputs)
within_files outputs i lt = subst (λ n. i < n) (sym (count_is outputs)) lt

-- the next output's file may hold anything
pub output_fails : (outputs : List Output) (i n : ℕ) (d : Output) (old now new : Option Contents) → i < length outputs → n ≡ i → WrittenTo (files_of outputs) i old now
    → KeepsOthers now new (file_of (get_or outputs i d)).0 → AreLeftUpTo (files_of outputs) n old new
output_fails outputs i n d old now new lt e w k =
    subst (λ m. AreLeftUpTo (files_of outputs) m old new) (sym e)
    (written_up_to (files_of outputs) i (file_of (get_or outputs i d)) old now new (within_files outputs i lt) (file_is outputs i d lt) w k)

-- it holds its text
pub output_written : (outputs : List Output) (i : ℕ) (d : Output) (old now new : Option Contents) → i < length outputs → WrittenTo (files_of outputs) i old now
    → KeepsOthers now new (file_of (get_or outputs i d)).0 → Holds new (file_of (get_or outputs i d)).0 (file_of (get_or outputs i d)).1 → WrittenTo (files_of outputs) (i + 1) old new
output_written outputs i d old now new lt w k h =
    written_more (files_of outputs) i (file_of (get_or outputs i d)) old now new (within_files outputs i lt) (file_is outputs i d lt) w k h

-- ---- entries

at_most : (m n k : ℕ) → m ≤ max 1 n → n ≤ max 1 k → m ≤ max 1 k
at_most m n k h l = omega arith

pub still_no_seconds : (old now new : Option Contents) (name : List ℕ) → AddsNoSeconds old now → KeepsEntries now new name → AddsNoSeconds old new
still_no_seconds None now new name h k = subst (λ (o : Option Contents). KeepsEntries o new name) h k
still_no_seconds (Some a) None new name h k = absurd h
still_no_seconds (Some a) (Some b) None name h k = absurd k
still_no_seconds (Some a) (Some b) (Some c) name h k = λ other. one other (bytes_eq other name) refl
  where
    one : (other : List ℕ) (t : Bool) → bytes_eq other name ≡ t → entries_of c other ≤ max 1 (entries_of a other)
    one other true e =
        let same : other ≡ name = (bytes_eq-Decides other name).0 e in
        subst (λ n. entries_of c n ≤ max 1 (entries_of a n)) (sym same) (at_most (entries_of c name) (entries_of b name) (entries_of a name) k.here (h name))
    one other false e =
        let m : entries_of c other ≡ entries_of b other = k.others other (differs other name e) in
        let l : entries_of b other ≤ max 1 (entries_of a other) = h other in
        omega (arith, m, l)
