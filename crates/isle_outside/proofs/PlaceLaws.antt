-- Kept files by their places.
use Rattle.std.proofs.Common.{◌≡◌, ℕ, zero, suc, ◌+◌, ◌-◌, ◌<◌, ◌≤◌, Bool, true, false, cond, ◌||◌, List, [], ◌∷◌, ◌++◌, length, map, get_or, set, take, drop, position, Option, Some, None, is_some, slice_get, Vec, String, IsSomeAnd, option_and_then, refl, ap, sym, ◌∙◌, subst, append-nil, arith}
use Rattle.std.specs.List.{cons_option, position_from}
use Rattle.std.specs.Str.{bytes_eq}
use Rattle.std.specs.String.{string_bytes}
use Rattle.std.specs.declared.alloc.Global.{Global}
use Rattle.std.proofs.lemmas.Iterator.Adapters.{position_from-zero}
use Rattle.std.proofs.lemmas.List.Quantifiers.{position-Some}
use Rattle.std.proofs.lemmas.Option.{slice_get-get_or, slice_get_read}
use Rattle.std.proofs.lemmas.List.{drop-drop, length-drop, map-append, take_more}
use Rattle.std.proofs.lemmas.List.Elements.{filter_map-append}
use Rattle.std.proofs.Math.Bool.{or-true}
use Rattle.isle_outside.specs.Directory.{Reading, InFolder, GivesNext, IsReading, inside_folder, directly_in, plain, bytes_of, is_folder}
use Rattle.isle_outside.specs.Memory.{Kept, current_at, file_of, files_of, folder_before, left_in, reading_from, written}
use Rattle.isle_outside.specs.declared.mem_dir.State.TheVariants as state
use Rattle.isle_outside.proofs.NameLaws.{front_of_name}

-- the test for a name
abbrev pub has_name : List ℕ → Kept → Bool
has_name name kept = bytes_eq (string_bytes kept.0) name

-- the test for a folder
abbrev pub lies_below : List ℕ → Kept → Bool
lies_below name kept = is_some (inside_folder name (string_bytes kept.0))

-- a search that finds nothing fails at each place
none_at : {X : Type 0} (t : Bool) (k : ℕ) (r : Option ℕ) (x y goal : X) → cond t (Some k) r ≡ None → (r ≡ None → y ≡ goal) → cond t x y ≡ goal
none_at true k r x y goal e later = cc
none_at false k r x y goal e later = later e

no_name_from : (files : List Kept) (name : List ℕ) (k : ℕ) → position_from (has_name name) k files ≡ None → bytes_of (files_of files) name ≡ None
no_name_from [] name k e = refl
no_name_from (file ∷ files) name k e = none_at (has_name name file) k (position_from (has_name name) (k + 1) files) _ _ _ e (no_name_from files name (k + 1))

pub no_name : (files : List Kept) (name : List ℕ) → position (has_name name) files ≡ None → bytes_of (files_of files) name ≡ None
no_name files name e = no_name_from files name 0 (sym (position_from-zero (has_name name) files) ∙ e)

none_or : (t : Bool) (k : ℕ) (r : Option ℕ) (rest : Bool) → cond t (Some k) r ≡ None → (r ≡ None → rest ≡ false) → (t || rest) ≡ false
none_or true k r rest e later = cc
none_or false k r rest e later = later e

no_folder_from : (files : List Kept) (name : List ℕ) (k : ℕ) → position_from (lies_below name) k files ≡ None → is_folder (files_of files) name ≡ false
no_folder_from [] name k e = refl
no_folder_from (file ∷ files) name k e = none_or (lies_below name file) k (position_from (lies_below name) (k + 1) files) (is_folder (files_of files) name) e (no_folder_from files name (k + 1))

pub no_folder : (files : List Kept) (name : List ℕ) → position (lies_below name) files ≡ None → is_folder (files_of files) name ≡ false
no_folder files name e = no_folder_from files name 0 (sym (position_from-zero (lies_below name) files) ∙ e)

new_from : (files : List Kept) (name bytes : List ℕ) (new : Kept) (k : ℕ) → position_from (has_name name) k files ≡ None → file_of new ≡ (name, bytes) → files_of (files ++ new ∷ []) ≡ written (files_of files) name bytes
new_from [] name bytes new k e is = ap (λ f. f ∷ []) is
new_from (file ∷ files) name bytes new k e is =
    sym (none_at (has_name name file) k (position_from (has_name name) (k + 1) files) ((string_bytes file.0, bytes) ∷ files_of files) (file_of file ∷ written (files_of files) name bytes) (file_of file ∷ files_of (files ++ new ∷ [])) e
    (λ later. ap (λ fs. file_of file ∷ fs) (sym (new_from files name bytes new (k + 1) later is))))

-- a file of a new name comes after the others
pub new_file : (files : List Kept) (name bytes : List ℕ) (text : String Global) (kept : Vec ℕ Global) → position (has_name name) files ≡ None → string_bytes text ≡ name → kept.items ≡ bytes
    → files_of (files ++ (text, kept) ∷ []) ≡ written (files_of files) name bytes
new_file files name bytes text kept e named held = new_from files name bytes (text, kept) 0 (sym (position_from-zero (has_name name) files) ∙ e) cc

first_named : (files : List Kept) (name : List ℕ) (i : ℕ) (d : Kept) → i < length files → has_name name (get_or files i d) ≡ true → ((k : ℕ) → k < i → has_name name (get_or files k d) ≡ false)
    → bytes_of (files_of files) name ≡ Some (get_or files i d).1.items
first_named [] name i d lt is before = absurd (omega arith)
first_named (file ∷ files) name zero d lt is before = ap (λ t. cond t (Some file.1.items) (bytes_of (files_of files) name)) is
first_named (file ∷ files) name (suc i) d lt is before = ap (λ t. cond t (Some file.1.items) (bytes_of (files_of files) name)) (before 0 (omega arith))
    ∙ first_named files name i d (omega arith) is (λ k l. before (suc k) (omega arith))

first_found : (files : List Kept) (name : List ℕ) (i : ℕ) → position (has_name name) files ≡ Some i → (x : Kept) × (slice_get files i ≡ Some x) × (bytes_of (files_of files) name ≡ Some x.1.items)
first_found [] name i e = cc
first_found (file ∷ files) name i e =
    let at = position-Some (has_name name) (file ∷ files) i file e in
    (get_or (file ∷ files) i file, slice_get-get_or (file ∷ files) i file at.0, first_named (file ∷ files) name i file at.0 at.1 at.2)

-- the first file of the name is read from its start
pub found_file : (files : List Kept) (name : List ℕ) (i : ℕ) → position (has_name name) files ≡ Some i → IsSomeAnd (bytes_of (files_of files) name) (λ bytes. reading_from (slice_get files i) 0 ≡ Reading (Some bytes))
found_file files name i e = let at = first_found files name i e in rw (at.2, at.1)

any_below : (files : List Kept) (name : List ℕ) (i : ℕ) (d : Kept) → i < length files → lies_below name (get_or files i d) ≡ true → is_folder (files_of files) name ≡ true
any_below [] name i d lt is = absurd (omega arith)
any_below (file ∷ files) name zero d lt is = ap (λ t. t || is_folder (files_of files) name) is
any_below (file ∷ files) name (suc i) d lt is = ap (λ t. lies_below name file || t) (any_below files name i d (omega arith) is) ∙ or-true (lies_below name file)

-- the first file below a name shows the folder of that name
pub found_folder : (files : List Kept) (name : List ℕ) (i : ℕ) → position (lies_below name) files ≡ Some i → (is_folder (files_of files) name ≡ true) × (folder_before (slice_get files i) (length name) ≡ InFolder name)
found_folder [] name i e = cc
found_folder (file ∷ files) name i e =
    let at = position-Some (lies_below name) (file ∷ files) i file e in (
      any_below (file ∷ files) name i file at.0 at.1,
      rw (slice_get-get_or (file ∷ files) i file at.0) (ap InFolder (front_of_name name (string_bytes (get_or (file ∷ files) i file).0) at.1)),
    )

set_first : (files : List Kept) (name bytes : List ℕ) (i : ℕ) (d : Kept) (kept : Vec ℕ Global) → i < length files → has_name name (get_or files i d) ≡ true → ((k : ℕ) → k < i → has_name name (get_or files k d) ≡ false)
    → kept.items ≡ bytes → files_of (set files i ((get_or files i d).0, kept)) ≡ written (files_of files) name bytes
set_first [] name bytes i d kept lt is before held = absurd (omega arith)
set_first (file ∷ files) name bytes zero d kept lt is before held = ap (λ b. (string_bytes file.0, b) ∷ files_of files) held
    ∙ sym (ap (λ t. cond t ((string_bytes file.0, bytes) ∷ files_of files) (file_of file ∷ written (files_of files) name bytes)) is)
set_first (file ∷ files) name bytes (suc i) d kept lt is before held = ap (λ fs. file_of file ∷ fs) (set_first files name bytes i d kept (omega arith) is (λ k l. before (suc k) (omega arith)) held)
    ∙ sym (ap (λ t. cond t ((string_bytes file.0, bytes) ∷ files_of files) (file_of file ∷ written (files_of files) name bytes)) (before 0 (omega arith)))

-- the first file of the name gets other bytes
pub same_file : (files : List Kept) (name bytes : List ℕ) (i : ℕ) (x : Kept) (kept : Vec ℕ Global) → position (has_name name) files ≡ Some i → x ≡ get_or files i x → kept.items ≡ bytes
    → files_of (set files i (x.0, kept)) ≡ written (files_of files) name bytes
same_file files name bytes i x kept e is held =
    let at = position-Some (has_name name) files i x e in
    subst (λ (y : Kept). files_of (set files i (y.0, kept)) ≡ written (files_of files) name bytes) (sym is) (set_first files name bytes i x kept at.0 at.1 at.2 held)

-- the next bytes of a kept file
pub gives_part : (files : List Kept) (file at n : ℕ) (x : Kept) (buf : List ℕ) → file < length files → x ≡ get_or files file x → 0 < n → at + n ≤ length x.1.items → take n buf ≡ take n (drop at x.1.items)
    → GivesNext (current_at (state.Reading file at) files) (reading_from (slice_get files file) (at + n)) n buf
gives_part files file at n x buf lt is some within same =
    rw (slice_get_read files (length files) file x refl lt is)
    (omega (arith, length-drop at x.1.items), same, ap (λ (left : List ℕ). Reading (Some left)) (sym (drop-drop n at x.1.items)), λ z. absurd (omega arith))

-- how many bytes are left of a kept file
pub left_at : (files : List Kept) (file at : ℕ) (x : Kept) → file < length files → x ≡ get_or files file x → left_in (current_at (state.Reading file at) files) ≡ length x.1.items - at
left_at files file at x lt is = rw (slice_get_read files (length files) file x refl lt is) (length-drop at x.1.items)

-- a place at which a file is read is one of the files
pub reads_within : (files : List Kept) (file at : ℕ) → IsReading (current_at (state.Reading file at) files) → file < length files
reads_within [] file at reading = absurd reading
reads_within (x ∷ files) zero at reading = omega arith
reads_within (x ∷ files) (suc file) at reading = omega (arith, reads_within files file at reading)

-- the names in a folder with those of one more file
pub more_entries : (files : List Kept) (i : ℕ) (x : Kept) (folder : List ℕ) (had names : List (List ℕ)) → i < length files → x ≡ get_or files i x → had ≡ directly_in (files_of (take i files)) folder
    → names ≡ had ++ cons_option (option_and_then plain (inside_folder folder (string_bytes x.0))) [] → names ≡ directly_in (files_of (take (i + 1) files)) folder
more_entries files i x folder had names lt is before new =
    new ∙ ap (λ front. front ++ cons_option (option_and_then plain (inside_folder folder (string_bytes x.0))) []) before
    ∙ sym (ap (λ fs. directly_in (files_of fs) folder) (take_more files i x lt ∙ ap (λ y. take i files ++ y ∷ []) (sym is))
    ∙ ap (λ fs. directly_in fs folder) (map-append file_of (take i files) (x ∷ []))
    ∙ filter_map-append (λ file. option_and_then plain (inside_folder folder file.0)) (files_of (take i files)) (file_of x ∷ []))

-- the names with one that was pushed
pub pushed_entry : (had names : List (String Global)) (text : String Global) (name : List ℕ) (entry : Option (List ℕ)) → names ≡ had ++ text ∷ [] → string_bytes text ≡ name → Some name ≡ entry
    → map string_bytes names ≡ map string_bytes had ++ cons_option entry []
pushed_entry had names text name entry pushed named is = ap (map string_bytes) pushed ∙ map-append string_bytes had (text ∷ [])
    ∙ ap (λ x. map string_bytes had ++ x ∷ []) named ∙ ap (λ o. map string_bytes had ++ cons_option o []) is

-- the names if none was pushed
pub same_entries : (had names : List (String Global)) (entry : Option (List ℕ)) → names ≡ had → None ≡ entry → map string_bytes names ≡ map string_bytes had ++ cons_option entry []
same_entries had names entry same is = ap (map string_bytes) same ∙ sym (append-nil (map string_bytes had)) ∙ ap (λ o. map string_bytes had ++ cons_option o []) is
