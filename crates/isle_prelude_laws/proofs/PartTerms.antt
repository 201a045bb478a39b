-- The terms that make and take apart the parts of an instruction stand among the definitions of its table.
use Rattle.std.proofs.Common.{◌≡◌, ℕ, zero, suc, ◌<◌, List, [], ◌∷◌, length, Bool, true, false, Some, refl, sym, ◌∙◌, subst, arith}
use Rattle.std.specs.Prelude.{Contains, slice_get, codes, replicate}
use Rattle.isle_core.specs.declared.position.Pos.{Pos}
use Rattle.isle_core.proofs.Contained.{head_contained, tail_contained}
use Rattle.isle_core.proofs.OptionLaws.{some_same}
use Rattle.isle_ast.specs.Tree as tree
use Rattle.isle_ast.specs.Tree.{Def}
use Rattle.isle_ast.specs.declared.tree.AstBody.{AstBody}
use Rattle.isle_ast.specs.declared.tree.AstBody.TheVariants as body
use Rattle.isle_declarations.specs.declared.terms.Origin.TheVariants as origin
use Rattle.isle_declarations.specs.Signatures.{Signature, ByFunction, extractors}
use Rattle.isle_declarations.specs.Terms.{terms}
use Rattle.isle_table_check.specs.SupportedTables.{AreSupported}
use Rattle.isle_meta.specs.InstructionRow.{is_value, is_block}
use Rattle.isle_meta.specs.declared.clif.Instruction.{Instruction}
use Rattle.isle_meta.specs.declared.clif.InstructionFormat.{InstructionFormat}
use Rattle.isle_meta.specs.declared.tables.Tables.{Tables}
use Rattle.isle_prelude.specs.Arrays.{value_array_sizes, block_array_sizes}
use Rattle.isle_prelude.specs.NumberedNames.{value_array, value_array_ctor, value_array_type, block_array, block_array_type, pack, unpack}
use Rattle.isle_prelude.specs.Operands.{names_of}
use Rattle.isle_writing.specs.Erased.{no_place}
use Rattle.isle_prelude_laws.specs.HonestMeaning.{Whole, ValuedInst, SkeletonInst, ValueArray, BlockArray, maker, taker}
use Rattle.isle_prelude_laws.specs.RoundTrip.{AreOptSource}
use Rattle.isle_prelude_laws.proofs.HeldDefs.{IsHeld, held}
use Rattle.isle_prelude_laws.proofs.Laid.{HasWhole}
use Rattle.isle_prelude_laws.proofs.OptDefs.{term_there, extractor_there, in_types, in_terms, in_ctors, in_values, in_blocks}
use Rattle.isle_prelude_laws.proofs.SizesThere.{values_there, ctors_there, blocks_there}
use Rattle.isle_prelude_laws.proofs.SupportedRows.{values_counted, blocks_counted, has_typevar}

-- ---- terms that are declared

-- a term of the name is declared with these flags
pub record IsDeclaredAs (defs : List Def) (name : List ℕ) (pure multi : Bool) : Type 0 where
  pub signature : Signature
  pub among : Contains (terms defs) signature
  pub named : signature.term ≡ name
  pub own : signature.origin ≡ origin.Declared
  pub is_pure : signature.pure ≡ pure
  pub is_multi : signature.multi ≡ multi
  pub is_partial : signature.partial ≡ false

-- a primitive type, or an extern enum
abbrev pub IsOpaqueBody : (is_extern : Bool) → AstBody → Type 0
IsOpaqueBody is_extern (body.Primitive rust) = Unit {0}
IsOpaqueBody is_extern (body.Enum variants) = is_extern ≡ true
IsOpaqueBody is_extern (body.Struct fields) = ⊥

-- such a type of the name is declared
pub record IsOpaqueType (defs : List Def) (name : List ℕ) : Type 0 where
  pub is_extern : Bool
  pub body : AstBody
  pub among : IsHeld defs (tree.TypeDecl name is_extern false body no_place)
  pub is_opaque : IsOpaqueBody is_extern body

-- what the maker of a whole calls
abbrev pub maker_func : Whole → List ℕ
maker_func ValuedInst = codes "make_inst"
maker_func SkeletonInst = codes "make_skeleton_inst"
maker_func (ValueArray n) = value_array_ctor n
maker_func (BlockArray n) = pack (block_array n)

-- whether it is pure
abbrev pub maker_pure : Whole → Bool
maker_pure ValuedInst = false
maker_pure SkeletonInst = false
maker_pure (ValueArray n) = true
maker_pure (BlockArray n) = false

-- what its taker calls
abbrev pub taker_func : Whole → List ℕ
taker_func ValuedInst = codes "inst_data_value"
taker_func SkeletonInst = codes "inst_data"
taker_func (ValueArray n) = unpack (value_array n)
taker_func (BlockArray n) = unpack (block_array n)

-- the flags of its declaration
abbrev pub taker_pure : Whole → Bool
taker_pure ValuedInst = true
taker_pure SkeletonInst = true
taker_pure (ValueArray n) = false
taker_pure (BlockArray n) = false

-- whether it answers several times
abbrev pub taker_multi : Whole → Bool
taker_multi ValuedInst = true
taker_multi SkeletonInst = false
taker_multi (ValueArray n) = false
taker_multi (BlockArray n) = false

-- whether it always answers
abbrev pub taker_sure : Whole → Bool
taker_sure ValuedInst = false
taker_sure SkeletonInst = false
taker_sure (ValueArray n) = true
taker_sure (BlockArray n) = true

-- the names of the types of what a whole is made of
abbrev pub part_types : Whole → List (List ℕ)
part_types ValuedInst = codes "Type" ∷ codes "InstructionData" ∷ []
part_types SkeletonInst = codes "InstructionData" ∷ []
part_types (ValueArray n) = replicate n (codes "Value")
part_types (BlockArray n) = replicate n (codes "BlockCall")

-- the terms of an instruction's parts: their declarations, the functions that they call, and the type of the whole
pub record HasPair (defs : List Def) (w : Whole) : Type 0 where
  pub made : IsDeclaredAs defs (maker w) (maker_pure w) false
  pub taken : IsDeclaredAs defs (taker w) (taker_pure w) (taker_multi w)
  pub makes : IsHeld defs (tree.ExternConstructor (maker w) (maker_func w) no_place)
  pub takes : IsHeld defs (tree.ExternExtractor (taker w) (taker_func w) (taker_sure w) no_place)
  pub whole : IsOpaqueType defs made.signature.ret
  pub made_of : made.signature.args ≡ part_types w
  pub taken_into : taken.signature.args ≡ part_types w

-- a declaration declares its term
abbrev declared_as : (defs : List Def) (term : List ℕ) (pure multi : Bool) (args : List (List ℕ)) (ret : List ℕ)
    → IsHeld defs (tree.Decl term pure multi false false args ret no_place) → IsDeclaredAs defs term pure multi
declared_as defs term pure multi args ret c =
    let s : Signature = record { term = term; pure = pure; multi = multi; partial = false; recursive = false; args = args; ret = ret; pos = c.at; origin = origin.Declared } in
    record { signature = s; among = term_there defs (tree.Decl term pure multi false false args ret c.at) s c.among (head_contained s []); named = refl; own = refl; is_pure = refl; is_multi = refl; is_partial = refl }

pub taker_extracts : (defs : List Def) (w : Whole) → HasPair defs w
    → (at : Pos) × Contains (extractors defs) (record { term = taker w; by = ByFunction (taker_func w) (taker_sure w); pos = at })
taker_extracts defs w p = (p.takes.at, extractor_there defs (tree.ExternExtractor (taker w) (taker_func w) (taker_sure w) p.takes.at) _ p.takes.among refl)

-- what stands at a place is among all
pub contained_at : {X : Type 0} (xs : List X) (i : ℕ) (x : X) → slice_get xs i ≡ Some x → Contains xs x
contained_at [] i x h = cc
contained_at (y ∷ xs) zero x h = subst (Contains (y ∷ xs)) (some_same y x h) (head_contained y xs)
contained_at (y ∷ xs) (suc i) x h = tail_contained y xs x (contained_at xs i x h)

module _ (t : Tables) (defs : List Def) (like : AreOptSource t defs) (supported : AreSupported t) (i : Instruction) (f : InstructionFormat) (among : Contains t.instructions i) (is : slice_get t.formats i.format ≡ Some f) (listless : f.has_value_list ≡ false) where
  value_size_there : (n : ℕ) → n ≡ length (names_of is_value i) → 1 < n → Contains (value_array_sizes t.formats) n
  value_size_there n e many =
      let c = contained_at t.formats i.format f is in
      let same : n ≡ f.num_value_operands = e ∙ values_counted t supported i f among is listless in
      let more : 1 < f.num_value_operands = subst (λ k. 1 < k) same many in
      subst (Contains (value_array_sizes t.formats)) (sym same) (values_there t.formats f c listless more (has_typevar t supported i f among is listless c more))

  block_size_there : (n : ℕ) → n ≡ length (names_of is_block i) → 1 < n → Contains (block_array_sizes t.formats) n
  block_size_there n e many =
      let same : n ≡ f.num_block_operands = e ∙ blocks_counted t supported i f among is listless in
      subst (Contains (block_array_sizes t.formats)) (sym same) (blocks_there t.formats f (contained_at t.formats i.format f is) (subst (λ k. 1 < k) same many))

  -- the terms of an instruction's parts stand among the definitions
  pub pairs : (b : Bool) (w : Whole) → HasWhole b i w → HasPair defs w
  pairs b ValuedInst h = record {
    made = declared_as defs (maker ValuedInst) false false (codes "Type" ∷ codes "InstructionData" ∷ []) (codes "Value") (held t defs like _ (in_terms t _ (0, omega arith, refl)));
    taken = declared_as defs (taker ValuedInst) true true (codes "Type" ∷ codes "InstructionData" ∷ []) (codes "Value") (held t defs like _ (in_terms t _ (4, omega arith, refl)));
    makes = held t defs like _ (in_terms t _ (1, omega arith, refl));
    takes = held t defs like _ (in_terms t _ (5, omega arith, refl));
    whole = record { is_extern = false; body = body.Primitive (codes "Value"); among = held t defs like _ (in_types t _ (1, omega arith, refl)); is_opaque = tt };
    made_of = refl;
    taken_into = refl;
  }
  pairs b SkeletonInst h = record {
    made = declared_as defs (maker SkeletonInst) false false (codes "InstructionData" ∷ []) (codes "Inst") (held t defs like _ (in_terms t _ (2, omega arith, refl)));
    taken = declared_as defs (taker SkeletonInst) true false (codes "InstructionData" ∷ []) (codes "Inst") (held t defs like _ (in_terms t _ (6, omega arith, refl)));
    makes = held t defs like _ (in_terms t _ (3, omega arith, refl));
    takes = held t defs like _ (in_terms t _ (7, omega arith, refl));
    whole = record { is_extern = false; body = body.Primitive (codes "Inst"); among = held t defs like _ (in_types t _ (2, omega arith, refl)); is_opaque = tt };
    made_of = refl;
    taken_into = refl;
  }
  pairs b (ValueArray n) h =
      let s = value_size_there n h.0 h.1 in
      record {
        made = declared_as defs (maker (ValueArray n)) true false (replicate n (codes "Value")) (value_array_type n) (held t defs like _ (in_ctors t n _ (ctors_there t n s h.1) (0, omega arith, refl)));
        taken = declared_as defs (taker (ValueArray n)) false false (replicate n (codes "Value")) (value_array_type n) (held t defs like _ (in_values t n _ s (1, omega arith, refl)));
        makes = held t defs like _ (in_ctors t n _ (ctors_there t n s h.1) (1, omega arith, refl));
        takes = held t defs like _ (in_values t n _ s (3, omega arith, refl));
        whole = record { is_extern = true; body = body.Enum []; among = held t defs like _ (in_values t n _ s (0, omega arith, refl)); is_opaque = refl };
        made_of = refl;
        taken_into = refl;
      }
  pairs b (BlockArray n) h =
      let s = block_size_there n h.0 h.1 in
      record {
        made = declared_as defs (maker (BlockArray n)) false false (replicate n (codes "BlockCall")) (block_array_type n) (held t defs like _ (in_blocks t n _ s (1, omega arith, refl)));
        taken = declared_as defs (taker (BlockArray n)) false false (replicate n (codes "BlockCall")) (block_array_type n) (held t defs like _ (in_blocks t n _ s (1, omega arith, refl)));
        makes = held t defs like _ (in_blocks t n _ s (2, omega arith, refl));
        takes = held t defs like _ (in_blocks t n _ s (3, omega arith, refl));
        whole = record { is_extern = true; body = body.Enum []; among = held t defs like _ (in_blocks t n _ s (0, omega arith, refl)); is_opaque = refl };
        made_of = refl;
        taken_into = refl;
      }
