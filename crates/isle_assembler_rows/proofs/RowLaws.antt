-- What is told of instructions, and the first that isn't supported.
use Rattle.std.proofs.Common.{◌≡◌, ℕ, zero, suc, ◌+◌, ◌<◌, ◌≤◌, List, [], ◌∷◌, ◌++◌, length, get_or, take, Bool, Some, None, refl, sym, ap, ◌∙◌, subst, arith, map, append_assoc, append-nil}
use Rattle.std.specs.Prelude.{◌↔◌, ◌&&◌, ◌||◌, not, find, IsTrue}
use Rattle.std.specs.BTreeSet.{BTreeSet}
use denote.Ref.{Bor}
use Rattle.isle_lawful_names.specs.NameSet.{HasNames}
use Rattle.isle_meta.specs.declared.machine.Inst.{Inst}
use Rattle.isle_meta.specs.declared.shapes.Shape.{Shape}
use Rattle.isle_meta.specs.declared.shapes.Shape.TheVariants.{BadName, RepeatedName, ReservedName, TyOperand, FormatIndex, ValueCount, BlockCount, RawBlockCount, ImmCount, ImmType, ImmShape, NoVarargs, NoTypevar, WrittenImm, AlignedMem, WrittenOperands, ImplicitOperand, AlternateWithoutXmm, BinaryOperands, Results, FieldType}
use Rattle.isle_meta.specs.FirstRow.{shapes, unsupported, IsFirstShape}
use Rattle.isle_meta.specs.TableNames.{repeats, repeats_after}
use Rattle.isle_meta.proofs.FirstRows.{LeadsFrom, front_more, leads_begin, leads_end, leads_on, leads_out, never, told_first}
use Rattle.isle_assembler_rows.specs.declared.faults.Faults.{Faults}
use Rattle.isle_assembler_rows.specs.AssemblerRow as row
use Rattle.isle_assembler_rows.specs.AssemblerRows.{AssemblerBreaks, IsFirstInst}
use Rattle.isle_assembler_rows.specs.TermNames.{is_left_out, row_terms}
use Rattle.isle_assembler_rows.specs.Told.{told, Tells}

-- ---- tests

-- two tests that are the same as two others
pub both : {a b x y : Bool} → a ≡ x → b ≡ y → (a && b) ≡ (x && y)
both e f = rw (e, f) refl

-- a test that is turned, and another
pub both_not : {a b x y : Bool} → a ≡ x → b ≡ y → (not a && b) ≡ (not x && y)
both_not e f = rw (e, f) refl

-- ---- an instruction

-- a test that is the same as another one
same_test : (a b : Bool) → a ≡ b → IsTrue a ↔ IsTrue b
same_test a b e = (λ h. sym e ∙ h, λ h. e ∙ h)

pub inst_told : (f : Faults) (earlier : List (List ℕ)) (before : List Inst) (i : Inst) (repeated_operand repeated_term : Bool) → (IsTrue f.bad_name ↔ row.BadName i)
    → f.repeated_name ≡ (repeated_operand || repeated_term) → repeated_operand ≡ repeats (row.operand_names i) → repeated_term
    ≡ repeats_after (earlier ++ row.all_terms before) (row_terms i)
    → f.written_imm ≡ (not (is_left_out i) && row.has_written_imm i) → f.aligned_mem ≡ (not (is_left_out i) && row.has_aligned_mem i)
    → f.written_operands ≡ (not (is_left_out i) && row.has_no_constructor i) → f.implicit_operand ≡ (not (is_left_out i) && row.has_implicit_operand i)
    → f.alternate_without_xmm ≡ (not (is_left_out i) && row.has_alternate_without_xmm i) → Tells f (AssemblerBreaks earlier before i)
inst_told f earlier before i repeated_operand repeated_term bad name operand term imm mem written implicit alternate = record { each = each }
  where
    each : (s : Shape) → IsTrue (told f s) ↔ AssemblerBreaks earlier before i s
    each BadName = bad
    each RepeatedName = same_test f.repeated_name (repeats (row.operand_names i) || repeats_after (earlier ++ row.all_terms before) (row_terms i))
        (name ∙ ap (λ b. b || repeated_term) operand ∙ ap (λ b. repeats (row.operand_names i) || b) term)
    each ReservedName = never
    each TyOperand = never
    each FormatIndex = never
    each ValueCount = never
    each BlockCount = never
    each RawBlockCount = never
    each ImmCount = never
    each ImmType = never
    each ImmShape = never
    each NoVarargs = never
    each NoTypevar = never
    each WrittenImm = same_test f.written_imm _ imm
    each AlignedMem = same_test f.aligned_mem _ mem
    each WrittenOperands = same_test f.written_operands _ written
    each ImplicitOperand = same_test f.implicit_operand _ implicit
    each AlternateWithoutXmm = same_test f.alternate_without_xmm _ alternate
    each BinaryOperands = never
    each Results = never
    each FieldType = never

-- ---- instructions

-- the earlier names and the terms of the instructions before this place are known, and what is found from here on is found among all
pub record InstsFrom (earlier : List (List ℕ)) (is : List Inst) (k : ℕ) (met : BTreeSet (Bor (List ℕ))) : Type 0 where
  pub known : HasNames (earlier ++ row.all_terms (take k is)) met
  pub leads : LeadsFrom (λ (i : Inst). i.name) (AssemblerBreaks earlier) [] is k

pub insts_begin : (earlier : List (List ℕ)) (is : List Inst) (met : BTreeSet (Bor (List ℕ))) → HasNames earlier met → InstsFrom earlier is 0 met
insts_begin earlier is met h =
    record {
      known = subst (λ ns. HasNames ns met) (sym (append-nil earlier)) h;
      leads = leads_begin (λ (i : Inst). i.name) (AssemblerBreaks earlier) [] is;
    }

terms_push : (is : List Inst) (i : Inst) → row.all_terms (is ++ i ∷ []) ≡ row.all_terms is ++ row_terms i
terms_push [] i = append-nil (row_terms i)
terms_push (g ∷ is) i = ap (λ z. row_terms g ++ z) (terms_push is i) ∙ sym (append_assoc (row_terms g) (row.all_terms is) (row_terms i))

-- what is met with the terms of one instruction more
met_push : (earlier : List (List ℕ)) (is : List Inst) (i : Inst) → (earlier ++ row.all_terms is) ++ row_terms i ≡ earlier ++ row.all_terms (is ++ i ∷ [])
met_push earlier is i = append_assoc earlier (row.all_terms is) (row_terms i) ∙ ap (λ ts. earlier ++ ts) (sym (terms_push is i))

pub insts_on : (earlier : List (List ℕ)) (is : List Inst) (k : ℕ) (i : Inst) (faults : Faults) (old new : BTreeSet (Bor (List ℕ))) → k < length is → i ≡ get_or is k i
    → Tells faults (AssemblerBreaks earlier (take k is) i) → None ≡ find (told faults) shapes → HasNames ((earlier ++ row.all_terms (take k is)) ++ row_terms i) new
    → InstsFrom earlier is k old → InstsFrom earlier is (k + 1) new
insts_on earlier is k i faults old new lt e t none has s =
    let Breaks : List Inst → Inst → Shape → Type 0 = AssemblerBreaks earlier in
    let more = front_more (λ (i : Inst). i.name) Breaks [] is k i lt e in
    record {
      known = subst (λ ns. HasNames ns new) (met_push earlier (take k is) i ∙ ap (λ gs. earlier ++ row.all_terms gs) more) has;
      leads =
          leads_on (λ (i : Inst). i.name) Breaks [] is k i lt e
          (subst (λ o. IsFirstShape (Breaks (take k is) i) shapes o) (sym none) (told_first (told faults) (Breaks (take k is) i) t.each shapes)) s.leads;
    }

pub insts_out : (earlier : List (List ℕ)) (is : List Inst) (k : ℕ) (i : Inst) (faults : Faults) (shape : Shape) (met : BTreeSet (Bor (List ℕ))) → k < length is → i ≡ get_or is k i
    → Tells faults (AssemblerBreaks earlier (take k is) i) → Some shape ≡ find (told faults) shapes → InstsFrom earlier is k met
    → IsFirstInst earlier is (Some (unsupported i.name shape))
insts_out earlier is k i faults shape met lt e t some s =
    leads_out (λ (i : Inst). i.name) (AssemblerBreaks earlier) [] is k i shape lt e
    (subst (λ o. IsFirstShape (AssemblerBreaks earlier (take k is) i) shapes o) (sym some) (told_first (told faults) (AssemblerBreaks earlier (take k is) i) t.each shapes)) s.leads

pub insts_end : (earlier : List (List ℕ)) (is : List Inst) (k : ℕ) (met : BTreeSet (Bor (List ℕ))) → length is ≤ k → InstsFrom earlier is k met → IsFirstInst earlier is None
insts_end earlier is k met past s = leads_end (λ (i : Inst). i.name) (AssemblerBreaks earlier) [] is k past s.leads

-- the terms at a place are those of the instruction there
pub terms_at : (is : List Inst) (terms : List (List (List ℕ))) (k : ℕ) (i : Inst) (own : List (List ℕ)) → terms ≡ map row_terms is → k < length is → i
    ≡ get_or is k i → own ≡ get_or terms k own
    → own ≡ row_terms i
terms_at is terms k i own e lt at there =
    there ∙ ap (λ ts. get_or ts k own) e ∙ get_or_map is k lt ∙ ap row_terms (sym at)
  where
    get_or_map : (is : List Inst) (k : ℕ) → k < length is → get_or (map row_terms is) k own ≡ row_terms (get_or is k i)
    get_or_map [] k lt = absurd (omega (arith, lt))
    get_or_map (x ∷ is) zero lt = refl
    get_or_map (x ∷ is) (suc k) lt = get_or_map is k (omega (arith, lt))
