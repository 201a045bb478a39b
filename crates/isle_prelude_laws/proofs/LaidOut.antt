-- Each instruction of a supported table whose definitions are typed is laid out in their environment.
use Rattle.std.proofs.Common.{◌≡◌, ℕ, zero, suc, ◌<◌, List, [], length, map, Bool, true, false, Some, None, refl, sym, ap, ◌∙◌, subst, arith, ◌∷◌}
use Rattle.std.specs.Prelude.{◌||◌, Contains, slice_get, codes, option_map, pos}
use Rattle.std.specs.List.{IsDistinct}
use Rattle.std.specs.Option.{option_map_or}
use Rattle.std.specs.Str.{bytes_eq}
use Rattle.std.proofs.lemmas.List.{length-map}
use Rattle.std.proofs.lemmas.List.Elements.{All-contains}
use Rattle.std.proofs.lemmas.Option.{slice_get-get_or, slice_get-map}
use Rattle.isle_base.specs.declared.ids.TermId.{TermId}
use Rattle.isle_base.specs.declared.ids.TypeId.{TypeId}
use Rattle.isle_core.specs.declared.position.Pos.{Pos}
use Rattle.isle_core.specs.declared.types.Term.{Term}
use Rattle.isle_core.specs.Calling.{kind_of, may_be_nothing}
use Rattle.isle_core.specs.ExprType.{in_right_side, IsExprOf}
use Rattle.isle_core.specs.Pattern.{Pattern}
use Rattle.isle_core.specs.Rule.{Environment}
use Rattle.isle_core.specs.Terms.{sym_text, term_name}
use Rattle.isle_core.specs.TypedVariables.{rule_typed}
use Rattle.isle_core.proofs.Contained.{head_contained}
use Rattle.isle_core.proofs.OptionLaws.{some_same}
use Rattle.isle_ast.specs.Tree.{Def}
use Rattle.isle_declarations.specs.declared.terms.Origin.TheVariants as origin
use Rattle.isle_declarations.specs.Signatures.{Signature, Template, ExtractorDef, ByFunction, ByTemplate, RuleDef, extractors, rule_defs, term_named}
use Rattle.isle_declarations.specs.Symbols.{index_of}
use Rattle.isle_declarations.specs.Terms.{terms}
use Rattle.isle_table_check.specs.SupportedTables.{AreSupported}
use Rattle.isle_meta.specs.declared.clif.Instruction.{Instruction}
use Rattle.isle_meta.specs.declared.clif.InstructionFormat.{InstructionFormat}
use Rattle.isle_meta.specs.declared.tables.Tables.{Tables}
use Rattle.isle_prelude.specs.ClifFiles.{declaration, extractor, making_rule, instruction_defs, parameters, parameter_types, variables}
use Rattle.isle_prelude.specs.InstructionParts.{right_side, template}
use Rattle.isle_prelude.specs.Manners.{Manner, optimized, opt_manner}
use Rattle.isle_sema.specs.Typing.{Typed}
use Rattle.isle_sema.specs.Templates.{parameters as parameters_of, templates}
use Rattle.isle_sema.proofs.Conversions.{term_alone}
use Rattle.isle_sema.proofs.NamesApart.{place_is}
use Rattle.isle_sema.proofs.ParameterScopes.{params_listed}
use Rattle.isle_sema.proofs.RuleRoots.{rule_made}
use Rattle.isle_sema.proofs.TypedParts.{IsGivenIn, given_in}
use Rattle.isle_sema.proofs.TypedRules.{typed_rules}
use Rattle.isle_sema.proofs.TypedTemplates.{templates_typed}
use Rattle.isle_sema.proofs.TypedTerms.{is_there, typed_names}
use Rattle.isle_templates.specs.Substituted.{template_of}
use Rattle.isle_templates.specs.TypedRule.{IsTypedRule}
use Rattle.isle_terms.specs.TermPass.{types_named}
use Rattle.isle_terms.specs.TypeNames.{type_named}
use Rattle.isle_terms.specs.Whole.{whole_of, termed, arg_types, ret_type}
use Rattle.isle_terms.proofs.MadeTerms.{types_are}
use Rattle.isle_writing.specs.Erased.{placed}
use Rattle.isle_prelude_laws.specs.HonestMeaning.{Whole, maker, taker}
use Rattle.isle_prelude_laws.specs.RoundTrip.{AreOptSource, IsInstruction, extractor_pattern}
use Rattle.isle_prelude_laws.proofs.Apart.{MakesThis}
use Rattle.isle_prelude_laws.proofs.GivenRules.{IsOnlyRule, given_rule}
use Rattle.isle_prelude_laws.proofs.GivenTemplates.{AreParams, by_function, by_making, given_template, given_params}
use Rattle.isle_prelude_laws.proofs.GivenTerms.{signatures_apart, names_apart, IsGivenTerm, given_term, given_number, given_name, makes_nothing, makes_variant}
use Rattle.isle_prelude_laws.proofs.InstructionTexts.{simple_right, over_template, plain_template}
use Rattle.isle_prelude_laws.proofs.Laid.{manner_by, whole_by, HasWhole, IsLaid}
use Rattle.isle_prelude_laws.proofs.Mirror.{IsPair}
use Rattle.isle_prelude_laws.proofs.NamedTrees.{PatternNamed}
use Rattle.isle_prelude_laws.proofs.HeldDefs.{IsHeld, held, held_converts, held_heads}
use Rattle.isle_prelude_laws.proofs.OptDefs.{term_there, extractor_there, rule_there, in_instruction}
use Rattle.isle_prelude_laws.proofs.VariantTerms.{IsVariantOf, opcode_there, data_there}
use Rattle.isle_prelude_laws.proofs.PartTerms.{taker_func, taker_sure, taker_extracts, pairs}
use Rattle.isle_prelude_laws.proofs.PassedTrees.{numbers, pattern_named}
use Rattle.isle_prelude_laws.proofs.RuleParts.{HasParts, given_parts}
use Rattle.isle_prelude_laws.proofs.Unexpanded.{HasNone, whole_same}

-- ---- names of terms

named_at : (env : Environment) (a : TermId) (t : Term) → slice_get env.terms a.0 ≡ Some t
    → slice_get (map (λ (x : Term). sym_text env x.name) env.terms) a.0 ≡ Some (term_name env a)
named_at env a t h =
    slice_get-map (λ (x : Term). sym_text env x.name) env.terms a.0 ∙ ap (option_map (λ (x : Term). sym_text env x.name)) h
    ∙ ap Some (sym (ap (λ o. option_map_or (λ (x : Term). sym_text env x.name) o []) h))

-- two terms of one name are one
pub one_term : (defs : List Def) (env : Environment) (a b : TermId) (s t : Term) → Typed defs env → slice_get env.terms a.0 ≡ Some s
    → slice_get env.terms b.0 ≡ Some t → term_name env a ≡ term_name env b → a ≡ b
one_term defs env a b s t typed h k same =
    let names = map (λ (x : Term). sym_text env x.name) env.terms in
    let apart = typed_names defs env typed in
    let x = place_is names a.0 (term_name env a) apart (named_at env a s h) in
    let y = place_is names b.0 (term_name env b) apart (named_at env b t k) in
    let at : a.0 ≡ b.0 = some_same a.0 b.0 (sym x ∙ ap (index_of names) same ∙ y) in
    ap (λ (n : ℕ). let v : TermId = record { 0 = n } in v) at

at_below : {X : Type 0} (xs : List X) (k : ℕ) (x : X) → slice_get xs k ≡ Some x → k < length xs
at_below [] k x h = absurd cc
at_below (y ∷ xs) zero x h = omega arith
at_below (y ∷ xs) (suc k) x h = let rest = at_below xs k x h in omega (arith, rest)

-- ---- an instruction's own term

-- whether an instruction is valued
valued_or : (results : ℕ) (has_effects : Bool) → (b : Bool) × (optimized results has_effects ≡ manner_by b)
valued_or zero e = (false, refl)
valued_or (suc zero) false = (true, refl)
valued_or (suc zero) true = (false, refl)
valued_or (suc (suc n)) e = (false, refl)

-- the signature of its term
abbrev own_signature : Manner → Instruction → Pos → Signature
own_signature m i at = record { term = i.name; pure = false; multi = false; partial = false; recursive = false; args = parameter_types m i; ret = m.ret; pos = at; origin = origin.Declared }

-- its template
abbrev own_template : Manner → InstructionFormat → Instruction → Template
own_template m f i = record { params = parameters m i; pattern = template m f i }

-- its extractor
abbrev own_extractor : Manner → InstructionFormat → Instruction → Pos → ExtractorDef
own_extractor m f i at = record { term = i.name; by = ByTemplate (own_template m f i); pos = at }

-- its rule
abbrev own_rule : Bool → InstructionFormat → Instruction → Pos → RuleDef
own_rule b f i at = record { name = None; prio = pos 0; term = i.name; args = variables (parameters (manner_by b) i); iflets = []; rhs = right_side (maker (whole_by b)) (manner_by b) f i; pos = at }

rule_in : (b : Bool) (f : InstructionFormat) (i : Instruction)
    → Contains (instruction_defs (Some (manner_by b)) f i) (making_rule (maker (whole_by b)) (manner_by b) f i)
rule_in true f i = (2, omega arith, refl)
rule_in false f i = (2, omega arith, refl)

-- an instruction of a table, taken in this manner
record IsTaken (t : Tables) (i : Instruction) (f : InstructionFormat) (b : Bool) : Type 0 where
  among : Contains t.instructions i
  is : slice_get t.formats i.format ≡ Some f
  listless : f.has_value_list ≡ false
  manner : optimized i.value_results (i.can_trap || i.other_side_effects) ≡ manner_by b

module _ (t : Tables) (defs : List Def) (like : AreOptSource t defs) (i : Instruction) (f : InstructionFormat) (b : Bool) (h : IsTaken t i f b) where
  manner_is : opt_manner f.has_value_list i ≡ Some (manner_by b)
  manner_is = ap (λ listed. opt_manner listed i) h.listless ∙ ap Some h.manner

  own_there : (d : Def) → Contains (instruction_defs (Some (manner_by b)) f i) d → IsHeld defs d
  own_there d c = held t defs like d (in_instruction t i f (manner_by b) d h.among h.is manner_is c)

  own_declared : (at : Pos) × Contains (terms defs) (own_signature (manner_by b) i at)
  own_declared =
      let r = own_there (declaration (manner_by b) i) (0, omega arith, refl) in
      let s = own_signature (manner_by b) i r.at in
      (r.at, term_there defs (placed r.at (declaration (manner_by b) i)) s r.among (head_contained s []))

  own_extracted : (at : Pos) × Contains (extractors defs) (own_extractor (manner_by b) f i at)
  own_extracted =
      let r = own_there (extractor (manner_by b) f i) (1, omega arith, refl) in
      (r.at, extractor_there defs (placed r.at (extractor (manner_by b) f i)) (own_extractor (manner_by b) f i r.at) r.among refl)

  own_ruled : (at : Pos) × Contains (rule_defs defs) (own_rule b f i at)
  own_ruled =
      let d = making_rule (maker (whole_by b)) (manner_by b) f i in
      let r = own_there d (rule_in b f i) in
      (r.at, rule_there defs (placed r.at d) (own_rule b f i r.at) r.among refl)

-- the number of the instruction's term
own_number : (t : Tables) (defs : List Def) (like : AreOptSource t defs) (env : Environment) (i : Instruction) (f : InstructionFormat) (b : Bool) (term : TermId) → Typed defs env
    → IsTaken t i f b → term.0 < length env.terms → term_name env term ≡ i.name → term_named (terms defs) i.name ≡ Some term
own_number t defs like env i f b term typed h there named =
    let g = given_in typed in
    let c = own_declared t defs like i f b h in
    let s = own_signature (manner_by b) i c.0 in
    let n = given_number defs env s g c.1 in
    let k = given_term defs env s n.0 g c.1 n.1 in
    let at = is_there env.terms term.0 there in
    let same = one_term defs env n.0 term k.decl at.0 typed k.there at.1 (given_name defs env s n.0 g k ∙ sym named) in
    n.1 ∙ ap Some same

-- ---- its variants

-- what a variant's term makes
variant_made : {defs : List Def} {env : Environment} {name ty : List ℕ} {n : ℕ} (g : IsGivenIn defs env) (v : IsVariantOf defs name ty n) (a : TermId)
    → term_named (terms defs) name ≡ Some a
    → (of : TypeId) × (type_named defs ty ≡ Some of) × MakesThis env a of (record { 0 = n }) × (template_of (templates (whole_of defs)) a ≡ None)
variant_made {defs = defs} {env = env} {n = n} g v a number =
    let k = given_term defs env v.signature a g v.among (ap (term_named (terms defs)) v.named ∙ number) in
    (k.decl.ret_ty, ap (type_named defs) (sym v.ret) ∙ k.ret, makes_variant n k v.made, by_making defs env v.signature a n g k v.among v.made)

-- ---- the instruction

-- an instruction whose term is laid out in the environment, with its place among the opcodes
pub record IsLaidOut (t : Tables) (defs : List Def) (env : Environment) (i : Instruction) (term : TermId) : Type 0 where
  pub format : InstructionFormat
  pub is_valued : Bool
  pub manner : optimized i.value_results (i.can_trap || i.other_side_effects) ≡ manner_by is_valued
  pub pattern : Pattern
  pub whole : extractor_pattern defs term ≡ Some pattern
  pub laid : IsLaid env (numbers (whole_of defs)) format i is_valued term pattern
  pub place : slice_get t.instructions laid.place.0 ≡ Some i
  pub opcodes : type_named defs (codes "Opcode") ≡ Some laid.opcodes
  pub many : length (parameters (manner_by is_valued) i) ≡ length laid.decl.arg_tys
  pub args : types_named defs (parameter_types (manner_by is_valued) i) ≡ Some laid.decl.arg_tys
  pub apart : IsDistinct bytes_eq (parameters (manner_by is_valued) i)

module _ (t : Tables) (defs : List Def) (like : AreOptSource t defs) (env : Environment) (i : Instruction) (f : InstructionFormat) (b : Bool) (term : TermId) (supported : AreSupported t) (typed : Typed defs env) (h : IsTaken t i f b) (number : term_named (terms defs) i.name ≡ Some term) where
  -- its parameters
  abbrev own_params : List (List ℕ)
  own_params = parameters (manner_by b) i

  own_is : (at : Pos) × Contains (terms defs) (own_signature (manner_by b) i at)
  own_is = own_declared t defs like i f b h

  -- its signature
  abbrev own : Signature
  own = own_signature (manner_by b) i own_is.0

  own_given : IsGivenTerm defs env own term
  own_given = given_term defs env own term (given_in typed) own_is.1 number

  own_alone : termed (whole_of defs) i.name ≡ Some own
  own_alone = term_alone (terms defs) own (names_apart defs env (given_in typed)) own_is.1

  -- the terms of its parts
  pair_is : (w : Whole) → HasWhole b i w → (x y : TermId) → numbers (whole_of defs) (maker w) ≡ Some x
      → numbers (whole_of defs) (taker w) ≡ Some y → IsPair env x y w
  pair_is w has x y is_x is_y =
      let g = given_in typed in
      let p = pairs t defs like supported i f h.among h.is h.listless b w has in
      let kx = given_term defs env p.made.signature x g p.made.among (ap (term_named (terms defs)) p.made.named ∙ is_x) in
      let ky = given_term defs env p.taken.signature y g p.taken.among (ap (term_named (terms defs)) p.taken.named ∙ is_y) in
      record {
        made = makes_nothing kx p.made.own;
        taken = makes_nothing ky p.taken.own;
        maker = given_name defs env p.made.signature x g kx ∙ p.made.named;
        taker = given_name defs env p.taken.signature y g ky ∙ p.taken.named;
      }

  none_taken : (w : Whole) → HasWhole b i w → HasNone (numbers (whole_of defs)) (templates (whole_of defs)) (taker w)
  none_taken w has a is =
      let g = given_in typed in
      let p = pairs t defs like supported i f h.among h.is h.listless b w has in
      let k = given_term defs env p.taken.signature a g p.taken.among (ap (term_named (terms defs)) p.taken.named ∙ is) in
      let x = taker_extracts defs w p in
      by_function defs env p.taken.signature a (record { term = taker w; by = ByFunction (taker_func w) (taker_sure w); pos = x.0 }) (taker_func w) (taker_sure w) g k x.1 (sym p.taken.named) refl

  -- its parameters
  params_are : AreParams own own_params
  params_are =
      let x = own_extracted t defs like i f b h in
      given_params defs env own (own_extractor (manner_by b) f i x.0) (own_template (manner_by b) f i) (given_in typed) own_alone x.1 refl refl

  types_are_own : arg_types (whole_of defs) (termed (whole_of defs) i.name) ≡ map Some own_given.decl.arg_tys
  types_are_own = ap (arg_types (whole_of defs)) own_alone ∙ types_are defs (parameter_types (manner_by b) i) own_given.decl.arg_tys own_given.args

  params_many : length own_params ≡ length own_given.decl.arg_tys
  params_many =
      params_are.many ∙ sym (length-map (parameter_types (manner_by b) i) (type_named defs)) ∙ ap length (types_are defs (parameter_types (manner_by b) i) own_given.decl.arg_tys own_given.args) ∙ length-map own_given.decl.arg_tys Some

  -- its template
  template_is : (q : Pattern) × (template_of (templates (whole_of defs)) term ≡ Some q) × PatternNamed (numbers (whole_of defs)) own_params (template (manner_by b) f i) q
  template_is =
      let w = whole_of defs in
      let x = own_extracted t defs like i f b h in
      let q = given_template defs env own term (own_extractor (manner_by b) f i x.0) (own_template (manner_by b) f i) (given_in typed) own_given x.1 refl refl in
      let types = arg_types w (termed w i.name) in
      (q.0, q.2, pattern_named w (held_converts t defs like) own_params types (parameters_of w i.name own_params) (params_listed own_params types params_are.apart) (ret_type w (termed w i.name)) (template (manner_by b) f i) q.0 (over_template b f i h.listless) q.1)

  -- its rule
  ruled_is : (at : Pos) × Contains (rule_defs defs) (own_rule b f i at)
  ruled_is = own_ruled t defs like i f b h

  -- its rule
  abbrev ruled : RuleDef
  ruled = own_rule b f i ruled_is.0

  rule_is : IsOnlyRule (whole_of defs) ruled term env.rules
  rule_is = given_rule defs env term ruled (given_in typed) (held_heads t defs like (signatures_apart defs env (given_in typed))) number ruled_is.1

  rule_parts : HasParts (whole_of defs) own_params ruled rule_is.rule own_given.decl.arg_tys
  rule_parts = given_parts (whole_of defs) rule_is.number own_params ruled rule_is.rule own_given.decl.arg_tys (held_converts t defs like) rule_is.given refl refl (simple_right b f i) params_are.apart params_many types_are_own

  rule_is_typed : IsExprOf env (in_right_side (may_be_nothing (kind_of own_given.decl.kind))) (rule_typed rule_is.rule) own_given.decl.ret_ty rule_is.rule.rhs
  rule_is_typed =
      let r = All-contains (IsTypedRule env) env.rules rule_is.rule (typed_rules defs env typed) rule_is.among in
      let m = rule_made (whole_of defs) rule_is.number ruled rule_is.rule rule_is.given in
      let root : rule_is.rule.root_term ≡ term = some_same rule_is.rule.root_term term (sym m.root ∙ number) in
      let same : r.term ≡ own_given.decl = some_same r.term own_given.decl (sym r.root ∙ ap (λ (x : TermId). slice_get env.terms x.0) root ∙ own_given.there) in
      subst (λ (d : Term). IsExprOf env (in_right_side (may_be_nothing (kind_of d.kind))) (rule_typed rule_is.rule) d.ret_ty rule_is.rule.rhs) same r.typed.rhs

  -- all of it
  lay_out : IsLaidOut t defs env i term
  lay_out =
      let w = whole_of defs in
      let g = given_in typed in
      let lt = h.among.1 in
      let at : slice_get t.instructions h.among.0 ≡ Some i = slice_get-get_or t.instructions h.among.0 i lt ∙ ap Some h.among.2 in
      let op = opcode_there t defs like h.among.0 i at in
      let of_format = data_there t defs like i.format f h.is in
      let op_number = given_number defs env op.signature g op.among in
      let op_made = variant_made g op op_number.0 (ap (term_named (terms defs)) (sym op.named) ∙ op_number.1) in
      let q = template_is in
      let plain = plain_template (HasNone (numbers w) (templates w)) b f i h.listless (λ a is. (variant_made g of_format a is).3) (λ a is. (variant_made g op a is).3) none_taken in
      record {
        format = f;
        is_valued = b;
        manner = h.manner;
        pattern = q.0;
        whole = whole_same (numbers w) own_params (templates w) term (template (manner_by b) f i) q.0 plain q.2 q.1;
        laid = record {
          listless = h.listless;
          decl = own_given.decl;
          there = own_given.there;
          rule = rule_is.rule;
          rules = rule_is.alone;
          plain = rule_parts.plain;
          right = rule_parts.rhs;
          allowed = in_right_side (may_be_nothing (kind_of own_given.decl.kind));
          typed = rule_is_typed;
          taken = q.2;
          occurs = (templates_typed defs env g term own_given.decl q.0 own_given.there q.1).occurs;
          data_made = λ d is. let v = variant_made g of_format d is in record { ty = v.0; variant = record { 0 = i.format }; made = v.2 };
          opcodes = op_made.0;
          place = record { 0 = h.among.0 };
          opcode_made = λ o is. let v = variant_made g op o is in subst (λ (ty : TypeId). MakesThis env o ty (record { 0 = h.among.0 })) (some_same v.0 op_made.0 (sym v.1 ∙ op_made.1)) v.2;
          pair = pair_is;
        };
        place = at;
        opcodes = op_made.1;
        many = params_many;
        args = own_given.args;
        apart = params_are.apart;
      }

-- each instruction is laid out
pub laid_out : (t : Tables) (defs : List Def) (like : AreOptSource t defs) (env : Environment) (i : Instruction) (term : TermId) → AreSupported t → Typed defs env
    → IsInstruction t env i term → IsLaidOut t defs env i term
laid_out t defs like env i term supported typed h =
    let m = valued_or i.value_results (i.can_trap || i.other_side_effects) in
    let taken : IsTaken t i h.format m.0 = record { among = h.among; is = h.is; listless = h.listless; manner = m.1 } in
    lay_out t defs like env i h.format m.0 term supported typed taken (own_number t defs like env i h.format m.0 term typed taken h.there h.named)

-- an instruction that the file takes has a term in an environment that its definitions give
pub instruction_there : (t : Tables) (defs : List Def) (like : AreOptSource t defs) (env : Environment) (i : Instruction) (f : InstructionFormat) → Typed defs env
    → Contains t.instructions i → slice_get t.formats i.format ≡ Some f → f.has_value_list ≡ false → (term : TermId) × IsInstruction t env i term
instruction_there t defs like env i f typed among is listless =
    let m = valued_or i.value_results (i.can_trap || i.other_side_effects) in
    let g = given_in typed in
    let c = own_declared t defs like i f m.0 (record { among = among; is = is; listless = listless; manner = m.1 }) in
    let s = own_signature (manner_by m.0) i c.0 in
    let n = given_number defs env s g c.1 in
    let k = given_term defs env s n.0 g c.1 n.1 in
    (n.0, record { among = among; format = f; is = is; listless = listless; there = at_below env.terms n.0.0 k.decl k.there; named = given_name defs env s n.0 g k })
