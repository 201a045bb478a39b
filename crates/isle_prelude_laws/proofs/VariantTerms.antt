-- The terms that the variants of an optimizer's enums make.
use Rattle.std.proofs.Common.{◌≡◌, ℕ, zero, suc, ◌+◌, List, [], ◌∷◌, ◌++◌, map, Some, refl, ap, ◌∙◌, subst, arith}
use Rattle.std.specs.Prelude.{Contains, option_map, slice_get, codes}
use Rattle.std.proofs.lemmas.Option.{slice_get-map}
use Rattle.isle_core.specs.declared.position.Pos.{Pos}
use Rattle.isle_core.proofs.Contained.{head_contained, tail_contained}
use Rattle.isle_core.proofs.OptionLaws.{some_same}
use Rattle.isle_ast.specs.Tree.{Def}
use Rattle.isle_ast.specs.declared.tree.AstVariant.{AstVariant}
use Rattle.isle_declarations.specs.declared.terms.Origin.TheVariants as origin
use Rattle.isle_declarations.specs.DeclaredTypes.{variant_term}
use Rattle.isle_declarations.specs.Signatures.{Signature}
use Rattle.isle_declarations.specs.Terms.{made_signature, variant_signatures, terms}
use Rattle.isle_meta.specs.declared.clif.Instruction.{Instruction}
use Rattle.isle_meta.specs.declared.clif.InstructionFormat.{InstructionFormat}
use Rattle.isle_meta.specs.declared.tables.Tables.{Tables}
use Rattle.isle_prelude.specs.Declaring.{bare, extern_enum}
use Rattle.isle_prelude.specs.InstructionData.{format_variant}
use Rattle.isle_writing.specs.Erased.{placed}
use Rattle.isle_prelude_laws.specs.RoundTrip.{AreOptSource}
use Rattle.isle_prelude_laws.proofs.HeldDefs.{held}
use Rattle.isle_prelude_laws.proofs.OptDefs.{term_there, in_data}

variant_there : (ty : List ℕ) (pos : Pos) (i k : ℕ) (vs : List AstVariant) (v : AstVariant) → slice_get vs k ≡ Some v
    → Contains (variant_signatures ty pos i vs) (made_signature (variant_term ty v.name) ty v.fields (origin.Variant (i + k)) pos)
variant_there ty pos i k [] v h = absurd cc
variant_there ty pos i zero (w ∷ vs) v h =
    let first : AstVariant → ℕ → Signature = λ u n. made_signature (variant_term ty u.name) ty u.fields (origin.Variant n) pos in
    let at : i ≡ i + 0 = omega arith in
    subst (Contains (variant_signatures ty pos i (w ∷ vs))) (ap (λ u. first u i) (some_same w v h) ∙ ap (first v) at) (head_contained (first w i) (variant_signatures ty pos (i + 1) vs))
variant_there ty pos i (suc k) (w ∷ vs) v h =
    let first : AstVariant → ℕ → Signature = λ u n. made_signature (variant_term ty u.name) ty u.fields (origin.Variant n) pos in
    let at : i + 1 + k ≡ i + suc k = omega arith in
    tail_contained (first w i) (variant_signatures ty pos (i + 1) vs) (first v (i + suc k)) (subst (λ n. Contains (variant_signatures ty pos (i + 1) vs) (first v n)) at (variant_there ty pos (i + 1) k vs v h))

-- a term that a variant makes: of this name, the k-th of the type
pub record IsVariantOf (defs : List Def) (name ty : List ℕ) (k : ℕ) : Type 0 where
  pub signature : Signature
  pub among : Contains (terms defs) signature
  pub named : signature.term ≡ name
  pub made : signature.origin ≡ origin.Variant k
  pub ret : signature.ret ≡ ty

module _ (t : Tables) (defs : List Def) (same : AreOptSource t defs) where
  -- the opcode of an instruction
  pub opcode_there : (k : ℕ) (i : Instruction) → slice_get t.instructions k ≡ Some i
      → IsVariantOf defs (codes "Opcode." ++ i.camel_name) (codes "Opcode") k
  opcode_there k i at =
      let vs = map (λ (j : Instruction). bare j.camel_name) t.instructions in
      let d = extern_enum (codes "Opcode") vs in
      let r = held t defs same d (in_data t d (1, omega arith, refl)) in
      let there : slice_get vs k ≡ Some (bare i.camel_name) = slice_get-map (λ (j : Instruction). bare j.camel_name) t.instructions k ∙ ap (option_map (λ (j : Instruction). bare j.camel_name)) at in
      let zeroth : 0 + k ≡ k = omega arith in
      record {
        signature = made_signature (variant_term (codes "Opcode") i.camel_name) (codes "Opcode") (bare i.camel_name).fields (origin.Variant (0 + k)) r.at;
        among = term_there defs (placed r.at d) _ r.among (variant_there (codes "Opcode") r.at 0 k vs (bare i.camel_name) there);
        named = refl;
        made = ap origin.Variant zeroth;
        ret = refl;
      }

  -- the data of a format
  pub data_there : (k : ℕ) (f : InstructionFormat) → slice_get t.formats k ≡ Some f
      → IsVariantOf defs (codes "InstructionData." ++ f.name) (codes "InstructionData") k
  data_there k f at =
      let vs = map format_variant t.formats in
      let d = extern_enum (codes "InstructionData") vs in
      let r = held t defs same d (in_data t d (2, omega arith, refl)) in
      let there : slice_get vs k ≡ Some (format_variant f) = slice_get-map format_variant t.formats k ∙ ap (option_map format_variant) at in
      let zeroth : 0 + k ≡ k = omega arith in
      record {
        signature = made_signature (variant_term (codes "InstructionData") f.name) (codes "InstructionData") (format_variant f).fields (origin.Variant (0 + k)) r.at;
        among = term_there defs (placed r.at d) _ r.among (variant_there (codes "InstructionData") r.at 0 k vs (format_variant f) there);
        named = refl;
        made = ap origin.Variant zeroth;
        ret = refl;
      }
