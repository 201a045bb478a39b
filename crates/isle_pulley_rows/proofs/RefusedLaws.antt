-- What is told of rows, and the first that isn't supported.
use Rattle.std.proofs.Common.{◌≡◌, ℕ, zero, suc, ◌+◌, ◌<◌, ◌≤◌, List, [], ◌∷◌, ◌++◌, length, get_or, take, drop, map, Bool, Some, None, refl, sym, ap, ap₂, ◌∙◌, subst, append_assoc, append-nil, arith}
use Rattle.std.specs.Prelude.{◌↔◌, ◌||◌, find, IsTrue}
use Rattle.std.specs.BTreeSet.{BTreeSet}
use Rattle.std.proofs.lemmas.List.{map-append, take_more}
use denote.Ref.{Bor}
use Rattle.isle_lawful_names.specs.NameSet.{HasNames}
use Rattle.isle_meta.specs.declared.pulley.PulleyInst.{PulleyInst}
use Rattle.isle_meta.specs.declared.shapes.Shape.{Shape}
use Rattle.isle_meta.specs.declared.shapes.Shape.TheVariants.{BadName, RepeatedName, ReservedName, TyOperand, FormatIndex, ValueCount, BlockCount, RawBlockCount, ImmCount, ImmType, ImmShape, NoVarargs, NoTypevar, WrittenImm, AlignedMem, WrittenOperands, ImplicitOperand, AlternateWithoutXmm, BinaryOperands, Results, FieldType}
use Rattle.isle_meta.specs.FirstRow.{shapes, unsupported, IsFirstShape}
use Rattle.isle_meta.specs.TableNames.{repeats_after, texts}
use Rattle.isle_meta.proofs.FirstRows.{leads_begin, leads_end, leads_on, leads_out, never, told_first, LeadsFrom}
use Rattle.isle_meta.proofs.RepeatLaws.{before_more}
use Rattle.isle_pulley_rows.specs.declared.faults.Faults.{Faults}
use Rattle.isle_pulley_rows.specs.declared.terms.Termed.{Termed}
use Rattle.isle_pulley_rows.specs.PulleyRow as row
use Rattle.isle_pulley_rows.specs.PulleyRows.{PulleyBreaks, IsFirstAfter}
use Rattle.isle_pulley_rows.specs.Told.{as_made, as_meant, told, AreTermed, Tells, TermsOf}

-- ---- a row

-- two truths that are one
same_test : (a b : Bool) → a ≡ b → IsTrue a ↔ IsTrue b
same_test a b e = (λ t. sym e ∙ t, λ t. e ∙ t)

-- what is told of a row
pub row_told : (f : Faults) (earlier : List (List ℕ)) (before : List PulleyInst) (r : PulleyInst) (repeated_term repeated_part : Bool) → (IsTrue f.bad_name ↔ row.BadName r)
    → f.repeated_name ≡ (repeated_term || repeated_part) → repeated_term ≡ repeats_after (earlier ++ row.all_terms before) (row.row_terms r) → repeated_part ≡ row.repeats_part r
    → (IsTrue f.binary_operands ↔ row.BinaryOperands r) → (IsTrue f.results ↔ row.Results r) → (IsTrue f.field_type ↔ row.FieldType r) → Tells f (PulleyBreaks earlier before r)
row_told f earlier before r repeated_term repeated_part bad name term part binary results types = record { each = each }
  where
    each : (s : Shape) → IsTrue (told f s) ↔ PulleyBreaks earlier before r s
    each BadName = bad
    each RepeatedName = same_test f.repeated_name (repeats_after (earlier ++ row.all_terms before) (row.row_terms r) || row.repeats_part r) (name ∙ ap₂ (λ a b. a || b) term part)
    each ReservedName = never
    each TyOperand = never
    each FormatIndex = never
    each ValueCount = never
    each BlockCount = never
    each RawBlockCount = never
    each ImmCount = never
    each ImmType = never
    each ImmShape = never
    each NoVarargs = never
    each NoTypevar = never
    each WrittenImm = never
    each AlignedMem = never
    each WrittenOperands = never
    each ImplicitOperand = never
    each AlternateWithoutXmm = never
    each BinaryOperands = binary
    each Results = results
    each FieldType = types

-- ---- names of a set

-- one more
pub names_add : (earlier : List (List ℕ)) (names : List (Bor (List ℕ))) (i : ℕ) (d : Bor (List ℕ)) (new : BTreeSet (Bor (List ℕ))) → i < length names
    → HasNames ((earlier ++ texts (take i names)) ++ (get_or names i d).now ∷ []) new → HasNames (earlier ++ texts (take (i + 1) names)) new
names_add earlier names i d new lt h =
    subst (λ ns. HasNames ns new) (append_assoc earlier (texts (take i names)) ((get_or names i d).now ∷ []) ∙ ap (λ ns. earlier ++ ns) (sym (before_more names i d lt))) h

-- ---- rows beside their terms

-- the row at this place, and its terms
pub record IsTermedAt (rs : List PulleyInst) (k : ℕ) (t : Termed) : Type 0 where
  pub within : k < length rs
  pub is : t.row.now ≡ get_or rs k t.row.now
  pub terms : t.terms ≡ row.row_terms t.row.now

pub termed_at : (ts : List Termed) (rs : List PulleyInst) (k : ℕ) (t : Termed) → AreTermed ts rs → k < length ts → t ≡ get_or ts k t → IsTermedAt rs k t
termed_at [] rs k t e lt is = absurd (omega (arith, lt))
termed_at (x ∷ ts) [] k t e lt is = absurd cc
termed_at (x ∷ ts) (r ∷ rs) zero t e lt is =
    let same : as_made x ≡ as_meant r = ap (λ ps. get_or ps 0 (as_meant r)) e in
    let here : t.row.now ≡ r = ap (λ (u : Termed). u.row.now) is ∙ ap (λ (p : TermsOf). p.0) same in
    record {
      within = omega arith;
      is = here;
      terms = ap (λ (u : Termed). u.terms) is ∙ ap (λ (p : TermsOf). p.1) same ∙ ap row.row_terms (sym here);
    }
termed_at (x ∷ ts) (r ∷ rs) (suc k) t e lt is =
    let h = termed_at ts rs k t (ap (λ ps. drop 1 ps) e) (omega (arith, lt)) is in
    let w : k < length rs = h.within in
    record { within = omega (arith, w); is = h.is; terms = h.terms }

pub termed_length : (ts : List Termed) (rs : List PulleyInst) → AreTermed ts rs → length rs ≡ length ts
termed_length [] [] e = refl
termed_length [] (r ∷ rs) e = absurd cc
termed_length (x ∷ ts) [] e = absurd cc
termed_length (x ∷ ts) (r ∷ rs) e = ap (λ n. suc n) (termed_length ts rs (ap (λ ps. drop 1 ps) e))

pub termed_begin : (ts : List Termed) (before : List PulleyInst) → AreTermed ts before → AreTermed ts (before ++ [])
termed_begin ts before h = subst (AreTermed ts) (sym (append-nil before)) h

-- a row beside these terms
beside : PulleyInst → List (List ℕ) → TermsOf
beside r ts = (r, ts)

-- one more
pub termed_more : (ts : List Termed) (before rs : List PulleyInst) (k : ℕ) (t : Termed) → k < length rs → t.row.now ≡ get_or rs k t.row.now → t.terms ≡ row.row_terms t.row.now
    → AreTermed ts (before ++ take k rs) → AreTermed (ts ++ t ∷ []) (before ++ take (k + 1) rs)
unfolding beside
termed_more ts before rs k t lt is own h =
    let same : as_made t ≡ as_meant t.row.now = ap (beside t.row.now) own in
    map-append as_made ts (t ∷ [])
    ∙ ap₂ (λ ps qs. ps ++ qs) h (ap (λ (p : TermsOf). p ∷ []) same)
    ∙ sym (map-append as_meant (before ++ take k rs) (t.row.now ∷ []))
    ∙ ap (map as_meant) (append_assoc before (take k rs) (t.row.now ∷ []) ∙ ap (λ xs. before ++ xs) (ap (λ x. take k rs ++ x ∷ []) is ∙ sym (take_more rs k t.row.now lt)))

-- ---- row by row

-- the name of a row
abbrev pub name_of : PulleyInst → List ℕ
name_of r = r.name

-- the terms of the rows before this place are known, and what is found from here on is found among all
pub record RowsFrom (earlier : List (List ℕ)) (rs : List PulleyInst) (k : ℕ) (met : BTreeSet (Bor (List ℕ))) : Type 0 where
  pub known : HasNames (earlier ++ row.all_terms (take k rs)) met
  pub leads : LeadsFrom name_of (PulleyBreaks earlier) [] rs k

pub rows_begin : (earlier : List (List ℕ)) (rs : List PulleyInst) (met : BTreeSet (Bor (List ℕ))) → HasNames earlier met → RowsFrom earlier rs 0 met
rows_begin earlier rs met h =
    record { known = subst (λ ns. HasNames ns met) (sym (append-nil earlier)) h; leads = leads_begin name_of (PulleyBreaks earlier) [] rs }

terms_push : (rs : List PulleyInst) (r : PulleyInst) → row.all_terms (rs ++ r ∷ []) ≡ row.all_terms rs ++ row.row_terms r
terms_push [] r = append-nil (row.row_terms r)
terms_push (x ∷ rs) r = ap (λ z. row.row_terms x ++ z) (terms_push rs r) ∙ sym (append_assoc (row.row_terms x) (row.all_terms rs) (row.row_terms r))

-- earlier terms with those of one row more
grown : (earlier : List (List ℕ)) (rs : List PulleyInst) (k : ℕ) (r : PulleyInst) → k < length rs → r ≡ get_or rs k r
    → (earlier ++ row.all_terms (take k rs)) ++ row.row_terms r ≡ earlier ++ row.all_terms (take (k + 1) rs)
grown earlier rs k r lt is =
    append_assoc earlier (row.all_terms (take k rs)) (row.row_terms r)
    ∙ ap (λ z. earlier ++ z) (sym (terms_push (take k rs) r) ∙ ap row.all_terms (ap (λ x. take k rs ++ x ∷ []) is ∙ sym (take_more rs k r lt)))

pub rows_on : (earlier : List (List ℕ)) (rs : List PulleyInst) (k : ℕ) (r : PulleyInst) (f : Faults) (old new : BTreeSet (Bor (List ℕ))) → k < length rs → r ≡ get_or rs k r
    → Tells f (PulleyBreaks earlier (take k rs) r) → None ≡ find (told f) shapes → HasNames ((earlier ++ row.all_terms (take k rs)) ++ row.row_terms r) new
    → RowsFrom earlier rs k old → RowsFrom earlier rs (k + 1) new
rows_on earlier rs k r f old new lt is t none h s =
    record {
      known = subst (λ ns. HasNames ns new) (grown earlier rs k r lt is) h;
      leads = leads_on name_of (PulleyBreaks earlier) [] rs k r lt is
          (subst (IsFirstShape (PulleyBreaks earlier (take k rs) r) shapes) (sym none) (told_first (told f) (PulleyBreaks earlier (take k rs) r) t.each shapes)) s.leads;
    }

pub rows_out : (earlier : List (List ℕ)) (rs : List PulleyInst) (k : ℕ) (r : PulleyInst) (f : Faults) (shape : Shape) (met : BTreeSet (Bor (List ℕ))) → k < length rs → r ≡ get_or rs k r
    → Tells f (PulleyBreaks earlier (take k rs) r) → Some shape ≡ find (told f) shapes → RowsFrom earlier rs k met → IsFirstAfter earlier rs (Some (unsupported r.name shape))
rows_out earlier rs k r f shape met lt is t some s =
    leads_out name_of (PulleyBreaks earlier) [] rs k r shape lt is
    (subst (IsFirstShape (PulleyBreaks earlier (take k rs) r) shapes) (sym some) (told_first (told f) (PulleyBreaks earlier (take k rs) r) t.each shapes)) s.leads

pub rows_end : (earlier : List (List ℕ)) (rs : List PulleyInst) (k : ℕ) (met : BTreeSet (Bor (List ℕ))) → length rs ≤ k → RowsFrom earlier rs k met → IsFirstAfter earlier rs None
rows_end earlier rs k met past s = leads_end name_of (PulleyBreaks earlier) [] rs k past s.leads
