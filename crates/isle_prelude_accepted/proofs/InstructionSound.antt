-- All definitions of an instruction are sound: its declaration, its extractor and the rule that makes it.
use Rattle.std.proofs.Common.{◌≡◌, inl, inr, ℕ, zero, suc, ◌≤◌, List, [], ◌∷◌, ◌++◌, map, length, Bool, true, false, Option, Some, None, refl, sym, ap, ap₂}
use Rattle.std.proofs.Common.{◌∙◌, subst, arith}
use Rattle.std.specs.Prelude.{slice_get, codes, not, ◌||◌, ◌&&◌, nat_lt}
use Rattle.std.specs.List.{AllByRecursion}
use Rattle.std.proofs.lemmas.List.{length-map}
use Rattle.isle_declarations.specs.Heads.{extern_terms}
use Rattle.isle_declarations.specs.Signatures.{externs}
use Rattle.isle_terms.specs.NewVariables.{variables_in}
use Rattle.isle_meta.specs.declared.clif.ClifOperand.{ClifOperand}
use Rattle.isle_meta.specs.declared.clif.Instruction.{Instruction}
use Rattle.isle_meta.specs.declared.clif.InstructionFormat.{InstructionFormat}
use Rattle.isle_meta.specs.declared.tables.Tables.{Tables}
use Rattle.isle_meta.specs.InstructionRow.{takes_type_to_optimize, takes_type_to_lower}
use Rattle.isle_prelude.specs.ClifFiles.{data_pattern, operand_names, declaration, instruction_defs, of_format}
use Rattle.isle_prelude.specs.Manners.{Manner, type_variable, valued, skeleton, optimized, opt_manner}
use Rattle.isle_prelude.specs.Operands.{operand_type}
use Rattle.isle_prelude_accepted.specs.Plain.{ArePlain}
use Rattle.isle_prelude_accepted.proofs.Has.{Has, has_front, has_back, has_mapped, all_has, has_all}
use Rattle.isle_prelude_accepted.proofs.OperandLists.{operand_there, AreTyped}
use Rattle.isle_prelude_accepted.proofs.PreludeMembers.{E, IsType, in_terms, in_rows, type_type, value_type, inst_type}
use Rattle.isle_prelude_accepted.proofs.PreludeParts.{row_defs}
use Rattle.isle_prelude_accepted.proofs.PreludeTerms.{makers_reserved}
use Rattle.isle_prelude_accepted.proofs.RowSound.{own, fits, few, operands_known, data_fit, data_made, data_size, data_used}
use Rattle.isle_prelude_accepted.proofs.Simple.{Variables, with_types, IsSound}
use Rattle.isle_prelude_accepted.proofs.Supported.{AreSupported}

module _ (t : Tables) (s : AreSupported t) (plain : ArePlain t) (i : Instruction) (among : Has t.instructions i) where
  module _ (f : InstructionFormat) (at : slice_get t.formats i.format ≡ Some f) (list : f.has_value_list ≡ false) where
    -- the types of its operands
    abbrev types : List (List ℕ)
    types = map (λ (o : ClifOperand). operand_type o.class) i.operands_in

    known : AllByRecursion (IsType t) types
    known = operands_known t s plain i among f at list i.operands_in (λ o k. k)

    few_types : length types ≤ 200
    few_types = let e = length-map i.operands_in (λ (o : ClifOperand). operand_type o.class) in let le = few t s plain i among f at list in omega (arith, e, le)

    same_length : length (operand_names i) ≡ length types
    same_length = length-map i.operands_in (λ (o : ClifOperand). o.name) ∙ sym (length-map i.operands_in (λ (o : ClifOperand). operand_type o.class))

    few_operands : length (operand_names i) ≤ 200
    few_operands = let e = same_length in let le = few_types in omega (arith, e, le)

    -- the operands as variables
    abbrev variables : Variables
    variables = with_types (operand_names i) types

    typed : (first : Variables) → AreTyped (E t) (first ++ variables) i.operands_in
    typed first = has_all (λ (o : ClifOperand). Has (first ++ variables) (o.name, operand_type o.class)) i.operands_in
        (λ o k. has_back first variables (o.name, operand_type o.class) (operand_there i.operands_in o k))

    used : AllByRecursion (Has (variables_in (data_pattern f i))) (operand_names i)
    used = has_all (Has (variables_in (data_pattern f i))) (operand_names i)
        (λ name k. (let r = has_mapped (λ (o : ClifOperand). o.name) i.operands_in name k in subst (Has (variables_in (data_pattern f i))) r.2 (data_used t s plain i among f at list r.0 r.1)))

    -- what comes of it in this manner
    rows_are : (m : Manner) → optimized i.value_results (i.can_trap || i.other_side_effects) ≡ m → row_defs t i ≡ instruction_defs (Some m) f i
    rows_are m e = ap (λ o. of_format opt_manner o i) at ∙ ap (λ b. instruction_defs (opt_manner b i) f i) list ∙ ap (λ n. instruction_defs (Some n) f i) e

    free : Has (extern_terms (externs (E t))) i.name → ⊥
    free k = makers_reserved t s i.name k (own t s plain i among f at list).1.free

    -- without the type of a result
    skeleton_sound : optimized i.value_results (i.can_trap || i.other_side_effects) ≡ skeleton
        → AllByRecursion (IsSound (E t)) (instruction_defs (Some skeleton) f i)
    skeleton_sound is =
        let o = (own t s plain i among f at list).1 in
        let there : Has (E t) (declaration skeleton i) =
        in_rows t i (declaration skeleton i) among (subst (λ ds. Has ds (declaration skeleton i)) (sym (rows_are skeleton is)) (inl refl)) in
        let size = data_size t s plain i among f at list in
        let few_names = few_operands in
        let le = few_types in (
          (refl, record { named = o.term.word; known = known; gives = inst_type t; few = omega (arith, le) }),
          (
            record {
              args = types;
              ret = codes "Inst";
              declared = there;
              many = same_length;
              apart = o.apart;
              whole = (
                codes "InstructionData" ∷ [],
                inr (record {
                  pure = true;
                  multi = false;
                  func = codes "inst_data";
                  infallible = false;
                  declared = in_terms t _ (inr (inr (inr (inr (inr (inr (inl refl)))))));
                  taken = in_terms t _ (inr (inr (inr (inr (inr (inr (inr (inl refl))))))));
                }),
                (data_fit t s plain i among f at list variables (typed []), tt),
              );
              used = has_all _ (operand_names i) (λ x k. has_front (variables_in (data_pattern f i)) [] x (all_has _ (operand_names i) x used k));
            },
            (
              (
                refl,
                refl,
                record {
                  args = types;
                  ret = codes "Inst";
                  params = operand_names i;
                  declared = there;
                  free = free;
                  are_variables = refl;
                  many = same_length;
                  apart = o.apart;
                  whole = (
                    codes "InstructionData" ∷ [],
                    inr (record {
                      pure = false;
                      func = codes "make_skeleton_inst";
                      declared = in_terms t _ (inr (inr (inl refl)));
                      made = in_terms t _ (inr (inr (inr (inl refl))));
                    }),
                    (data_made t s plain i among f at list variables (typed []), tt),
                  );
                  few = omega (arith, size, few_names);
                  named = o.term.word;
                },
              ),
              tt,
            ),
          ),
        )

    -- with it
    valued_sound : optimized i.value_results (i.can_trap || i.other_side_effects) ≡ valued → (Has (operand_names i) type_variable → ⊥)
        → AllByRecursion (IsSound (E t)) (instruction_defs (Some valued) f i)
    valued_sound is no_ty =
        let o = (own t s plain i among f at list).1 in
        let there : Has (E t) (declaration valued i) =
        in_rows t i (declaration valued i) among (subst (λ ds. Has ds (declaration valued i)) (sym (rows_are valued is)) (inl refl)) in
        let size = data_size t s plain i among f at list in
        let few_names = few_operands in
        let le = few_types in
        let first : Variables = (type_variable, codes "Type") ∷ [] in (
          (refl, record { named = o.term.word; known = (type_type t, known); gives = value_type t; few = omega (arith, le) }),
          (
            record {
              args = codes "Type" ∷ types;
              ret = codes "Value";
              declared = there;
              many = ap suc same_length;
              apart = (no_ty, o.apart);
              whole = (
                codes "Type" ∷ codes "InstructionData" ∷ [],
                inr (record {
                  pure = true;
                  multi = true;
                  func = codes "inst_data_value";
                  infallible = false;
                  declared = in_terms t _ (inr (inr (inr (inr (inl refl)))));
                  taken = in_terms t _ (inr (inr (inr (inr (inr (inl refl))))));
                }),
                (inl refl, (data_fit t s plain i among f at list (first ++ variables) (typed first), tt)),
              );
              used = (inl refl, has_all _ (operand_names i) (λ x k. inr (has_front (variables_in (data_pattern f i)) [] x (all_has _ (operand_names i) x used k))));
            },
            (
              (
                refl,
                refl,
                record {
                  args = codes "Type" ∷ types;
                  ret = codes "Value";
                  params = type_variable ∷ operand_names i;
                  declared = there;
                  free = free;
                  are_variables = refl;
                  many = ap suc same_length;
                  apart = (no_ty, o.apart);
                  whole = (
                    codes "Type" ∷ codes "InstructionData" ∷ [],
                    inr (record {
                      pure = false;
                      func = codes "make_inst";
                      declared = in_terms t _ (inl refl);
                      made = in_terms t _ (inr (inl refl));
                    }),
                    (inl refl, (data_made t s plain i among f at list (first ++ variables) (typed first), tt)),
                  );
                  few = omega (arith, size, few_names);
                  named = o.term.word;
                },
              ),
              tt,
            ),
          ),
        )

    or_second : (a b : Bool) → b ≡ true → (a || b) ≡ true
    or_second true b e = refl
    or_second false b e = e

    -- in whichever manner it is taken
    pub taken_sound : AllByRecursion (IsSound (E t)) (instruction_defs (opt_manner false i) f i)
    taken_sound = by i.value_results (i.can_trap || i.other_side_effects) refl refl
      where
        takes : i.value_results ≡ 1 → (takes_type_to_optimize f i || takes_type_to_lower f i) ≡ true
        takes one = or_second (takes_type_to_optimize f i) (takes_type_to_lower f i) (ap₂ (λ b n. not b && nat_lt 0 n) list one)

        by : (r : ℕ) (e : Bool) → i.value_results ≡ r → (i.can_trap || i.other_side_effects) ≡ e
            → AllByRecursion (IsSound (E t)) (instruction_defs (Some (optimized r e)) f i)
        by zero e er ee = skeleton_sound (ap₂ optimized er ee)
        by (suc zero) true er ee = skeleton_sound (ap₂ optimized er ee)
        by (suc zero) false er ee = valued_sound (ap₂ optimized er ee) ((fits t s plain i among f at list).no_ty (takes er))
        by (suc (suc n)) e er ee = skeleton_sound (ap₂ optimized er ee)

  -- whatever comes of it is sound
  pub row_sound : AllByRecursion (IsSound (E t)) (row_defs t i)
  row_sound = by (slice_get t.formats i.format) refl
    where
      by : (o : Option InstructionFormat) → slice_get t.formats i.format ≡ o → AllByRecursion (IsSound (E t)) (of_format opt_manner o i)
      by None e = tt
      by (Some f) e = with_list f.has_value_list refl
        where
          with_list : (b : Bool) → f.has_value_list ≡ b → AllByRecursion (IsSound (E t)) (instruction_defs (opt_manner b i) f i)
          with_list true l = tt
          with_list false l = taken_sound f e l
