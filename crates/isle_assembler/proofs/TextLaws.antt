-- The rules' text as the code writes it is that of its definitions.
use Rattle.std.proofs.Common.{◌≡◌, ℕ, List, [], ◌∷◌, ◌++◌, Bool, true, false, Option, Some, None, refl, ap, sym, ◌∙◌, append_assoc, append-nil, map, codes}
use Rattle.std.specs.Prelude.{if◌then◌else◌}
use Rattle.std.specs.List.{flat_map}
use Rattle.isle_ast.specs.Tree.{Def, Expr}
use Rattle.isle_ast.specs.Tree as tree
use Rattle.isle_ast.specs.Views.{exprs_of, patterns_of}
use Rattle.isle_assembler_rows.specs.declared.constructor.Constructor.{Constructor}
use Rattle.isle_assembler.specs.declared.signature.Signature.{Signature}
use Rattle.isle_assembler.specs.declared.signature.Signature.TheVariants.{Raw, Made}
use Rattle.isle_meta.specs.declared.machine.Alternate.{Alternate}
use Rattle.isle_meta.specs.declared.machine.Inst.{Inst}
use Rattle.isle_meta.specs.declared.machine.Operand.{Operand}
use Rattle.isle_printer.specs.Number.{numeral}
use Rattle.isle_writing.specs.LaidDefs.{LaidDef, laid_texts, plain}
use Rattle.isle_writing.specs.Text.{def_text, def_texts, whole_def_text, expr_text, exprs_text, patterns_text, spaced}
use Rattle.isle_writing.proofs.WrittenLaw.{laid_joined, plain_texts}
use Rattle.isle_assembler.specs.AssemblerDefs.{alternate_rule, all_handed, assembler_layout, choice_decl, choice_defs, choice_signature, constructor_defs, handed, made_decl, made_rule, raw_decl, raw_maker, row_defs, usual_rule}
use Rattle.isle_assembler_rows.specs.Constructors.{constructors, conversion, result_type, temporary}
use Rattle.isle_assembler.specs.Declaring.{call_on, named, plain_decl, variables}
use Rattle.isle_assembler.specs.HeadDefs.{head_defs}
use Rattle.isle_assembler.specs.Methods.{separated}
use Rattle.isle_assembler_rows.specs.Operands.{locations, raw_operands, trap_names}
use Rattle.isle_assembler.specs.RuleTexts.{all_handed_text, alternate_rule_text, call_text, choice_decl_text, choice_head_text, choice_text, constructor_text, defer_text, emit_text, handed_text, head_text, made_decl_text, made_rule_text, names_text, outputs_text, params_text, raw_text, row_text, rule_text, signature_text, temporary_text, types_text, usual_rule_text}
use Rattle.isle_assembler.specs.Signatures.{is_param, param_names, param_types, taken}
use Rattle.isle_assembler_rows.specs.TermNames.{choice_term, is_left_out, made_term, raw_term}

-- ---- names and types

spaced_after : (ns : List (List ℕ)) → spaced (codes " ") ns ≡ separated false (codes " ") ns
spaced_after [] = refl
spaced_after (n ∷ ns) = ap (λ z. codes " " ++ (n ++ z)) (spaced_after ns)

spaced_first : (ns : List (List ℕ)) → spaced [] ns ≡ separated true (codes " ") ns
spaced_first [] = refl
spaced_first (n ∷ ns) = ap (λ z. n ++ z) (spaced_after ns)

patterns_named : (ns : List (List ℕ)) → patterns_text (patterns_of (variables ns)) ≡ names_text ns
patterns_named [] = refl
patterns_named (n ∷ ns) = ap (λ z. codes " " ++ (n ++ z)) (patterns_named ns)

exprs_named : (ns : List (List ℕ)) → exprs_text (exprs_of (named ns)) ≡ names_text ns
exprs_named [] = refl
exprs_named (n ∷ ns) = ap (λ z. codes " " ++ (n ++ z)) (exprs_named ns)

names_joined : (ms ns : List (List ℕ)) → names_text (ms ++ ns) ≡ names_text ms ++ names_text ns
names_joined [] ns = refl
names_joined (m ∷ ms) ns = ap (λ z. (codes " " ++ m) ++ z) (names_joined ms ns) ∙ sym (append_assoc (codes " " ++ m) (names_text ms) (names_text ns))

params_named : (s : Signature) (i : Inst) → names_text (param_names s i) ≡ params_text s i
unfolding params_text
params_named s i = names_joined (locations (taken s i)) (trap_names i.has_trap)

-- ---- what is handed to a raw term

handed_one : (b : Bool) (c : Constructor) (o : Operand) (z : List ℕ)
    → codes " " ++ (expr_text (if b then tree.Name o.location else call_on (temporary c) []) ++ z)
    ≡ (if b then codes " " ++ o.location else temporary_text c) ++ z
handed_one true c o z = refl
handed_one false c o z = refl

handed_all : (c : Constructor) (os : List Operand) (ns : List (List ℕ))
    → exprs_text (exprs_of (map (handed c) os ++ named ns)) ≡ flat_map (handed_text c) os ++ names_text ns
handed_all c [] ns = exprs_named ns
handed_all c (o ∷ os) ns =
    handed_one (is_param c o) c o (exprs_text (exprs_of (map (handed c) os ++ named ns)))
    ∙ ap (λ z. handed_text c o ++ z) (handed_all c os ns)
    ∙ sym (append_assoc (handed_text c o) (flat_map (handed_text c) os) (names_text ns))

handed_are : (c : Constructor) (i : Inst) → exprs_text (exprs_of (all_handed c i)) ≡ all_handed_text c i
unfolding all_handed_text
handed_are c i = handed_all c (raw_operands i) (trap_names i.has_trap)

-- ---- declarations

signature_is : (s : Signature) (i : Inst) (ret : List ℕ)
    → codes " (" ++ (spaced [] (param_types s i) ++ (codes ") " ++ (ret ++ codes ")\n"))) ≡ signature_text s i ret
unfolding signature_text types_text
signature_is s i ret = ap (λ z. codes " (" ++ (z ++ (codes ") " ++ (ret ++ codes ")\n")))) (spaced_first (param_types s i))

decl_is : (term : List ℕ) (s : Signature) (i : Inst) (ret : List ℕ)
    → def_text (plain_decl term (param_types s i) ret) ≡ codes "(decl " ++ (term ++ signature_text s i ret)
unfolding def_text
decl_is term s i ret = ap (λ z. codes "(decl " ++ (term ++ z)) (signature_is s i ret)

-- the raw term
raw_is : (i : Inst) → def_text (raw_decl i) ++ def_text (raw_maker i) ≡ raw_text i
unfolding raw_text def_text
raw_is i =
    ap (λ z. z ++ def_text (raw_maker i)) (decl_is (raw_term i.name) Raw i (codes "AssemblerOutputs"))
    ∙ ap (λ z. codes "(decl " ++ z) (append_assoc (raw_term i.name) (signature_text Raw i (codes "AssemblerOutputs")) (def_text (raw_maker i)))

made_decl_is : (i : Inst) (c : Constructor) → def_text (made_decl i c) ≡ made_decl_text i c
unfolding made_decl_text
made_decl_is i c = decl_is (made_term c i.name) (Made c) i (result_type c)

choice_decl_is : (i : Inst) (c : Constructor) (a : Alternate) → def_text (choice_decl i c a) ≡ choice_decl_text i c a
unfolding choice_decl_text
choice_decl_is i c a = decl_is (choice_term c i.name a.feature) (choice_signature c a.feature) i (result_type c)

-- ---- rules

-- a rule's head, and what follows it
head_split : (term names rest : List ℕ) → (term ++ (names ++ codes ") ")) ++ rest ≡ term ++ (names ++ (codes ") " ++ rest))
head_split term names rest = append_assoc term (names ++ codes ") ") rest ∙ ap (λ z. term ++ z) (append_assoc names (codes ") ") rest)

-- a call, and what follows it
call_split : (term args rest : List ℕ) → (term ++ (args ++ codes ")")) ++ rest ≡ term ++ (args ++ (codes ")" ++ rest))
call_split term args rest = append_assoc term (args ++ codes ")") rest ∙ ap (λ z. term ++ z) (append_assoc args (codes ")") rest)

-- a call of one call, and what follows it
nested : (outer inner args rest : List ℕ)
    → (outer ++ ((codes " " ++ ((codes "(" ++ (inner ++ (args ++ codes ")"))) ++ [])) ++ codes ")")) ++ rest
    ≡ outer ++ (codes " (" ++ (inner ++ (args ++ (codes "))" ++ rest))))
nested outer inner args rest =
    call_split outer (codes " " ++ ((codes "(" ++ (inner ++ (args ++ codes ")"))) ++ [])) rest
    ∙ ap (λ z. outer ++ z) (ap (λ z. codes " " ++ (z ++ (codes ")" ++ rest))) (append-nil (codes "(" ++ (inner ++ (args ++ codes ")")))))
    ∙ ap (λ z. outer ++ (codes " (" ++ z)) (call_split inner args (codes ")" ++ rest))

made_rule_is : (i : Inst) (c : Constructor) → def_text (made_rule i c) ≡ made_rule_text i c
unfolding def_text made_rule_text
made_rule_is i c =
    let rest = expr_text (tree.Call (conversion c) (exprs_of (tree.Call (raw_term i.name) (exprs_of (all_handed c i)) ∷ []))) ++ codes ")\n" in
    ap (λ z. codes "(rule (" ++ z) (head_split (made_term c i.name) (patterns_text (patterns_of (variables (param_names (Made c) i)))) rest)
    ∙ ap (λ z. codes "(rule (" ++ (made_term c i.name ++ (z ++ (codes ") " ++ rest)))) (patterns_named (param_names (Made c) i) ∙ params_named (Made c) i)
    ∙ ap (λ z. codes "(rule (" ++ (made_term c i.name ++ (params_text (Made c) i ++ (codes ") (" ++ z))))
    (nested (conversion c) (raw_term i.name) (exprs_text (exprs_of (all_handed c i))) (codes ")\n"))
    ∙ ap (λ z. codes "(rule (" ++ (made_term c i.name ++ (params_text (Made c) i ++ (codes ") ("
    ++ (conversion c ++ (codes " (" ++ (raw_term i.name ++ (z ++ codes ")))\n"))))))))
    (handed_are c i)

-- the right side of a rule that calls a term on the parameters
call_is : (i : Inst) (c : Constructor) (name : List ℕ) → expr_text (call_on (made_term c name) (param_names (Made c) i)) ++ codes ")\n" ≡ call_text i c name
unfolding call_text
call_is i c name =
    ap (λ z. codes "(" ++ z) (call_split (made_term c name) (exprs_text (exprs_of (named (param_names (Made c) i)))) (codes ")\n"))
    ∙ ap (λ z. codes "(" ++ (made_term c name ++ (z ++ codes "))\n"))) (exprs_named (param_names (Made c) i) ∙ params_named (Made c) i)

-- the head of a rule of the term that takes an alternate, and what follows it
choice_head_is : (i : Inst) (c : Constructor) (a : Alternate) (rest : List ℕ)
    → (choice_term c i.name a.feature ++ (patterns_text (patterns_of (variables (param_names (Made c) i))) ++ codes ") ")) ++ rest
    ≡ choice_head_text i c a ++ rest
unfolding choice_head_text
choice_head_is i c a rest =
    ap (λ z. (choice_term c i.name a.feature ++ (z ++ codes ") ")) ++ rest) (patterns_named (param_names (Made c) i) ∙ params_named (Made c) i)

one_is : numeral 10 1 ≡ codes "1"
unfolding numeral
one_is = refl

alternate_rule_is : (i : Inst) (c : Constructor) (a : Alternate) → def_text (alternate_rule i c a) ≡ alternate_rule_text i c a
unfolding def_text alternate_rule_text
alternate_rule_is i c a =
    let left = patterns_text (patterns_of (variables (param_names (Made c) i))) in
    let call = expr_text (call_on (made_term c a.name) (param_names (Made c) i)) ++ codes ")\n" in
    let feature = (codes "(if-let " ++ (codes "true" ++ (codes " " ++ ((codes "(" ++ ((codes "has_" ++ a.feature) ++ codes ")")) ++ codes ") ")))) ++ [] in
    ap (λ z. codes "(rule " ++ ((z ++ codes " ") ++ ((codes "(" ++ (choice_term c i.name a.feature ++ (left ++ codes ") "))) ++ (feature ++ call)))) one_is
    ∙ ap (λ z. codes "(rule 1 (" ++ z) (choice_head_is i c a (feature ++ call))
    ∙ ap (λ z. codes "(rule 1 (" ++ (choice_head_text i c a ++ z)) (feature_is a.feature call)
    ∙ ap (λ z. codes "(rule 1 (" ++ (choice_head_text i c a ++ (codes "(if-let true (has_" ++ (a.feature ++ (codes ")) " ++ z))))) (call_is i c a.name)
  where
    feature_is : (feature rest : List ℕ)
        → ((codes "(if-let " ++ (codes "true" ++ (codes " " ++ ((codes "(" ++ ((codes "has_" ++ feature) ++ codes ")")) ++ codes ") ")))) ++ []) ++ rest
        ≡ codes "(if-let true (has_" ++ (feature ++ (codes ")) " ++ rest))
    feature_is feature rest =
        ap (λ z. codes "(if-let true (has_" ++ (z ++ rest)) (append-nil ((feature ++ codes ")") ++ codes ") "))
        ∙ ap (λ z. codes "(if-let true (has_" ++ z)
        (append_assoc (feature ++ codes ")") (codes ") ") rest ∙ append_assoc feature (codes ")") (codes ") " ++ rest))

zero_is : numeral 10 0 ≡ codes "0"
unfolding numeral
zero_is = refl

usual_rule_is : (i : Inst) (c : Constructor) (a : Alternate) → whole_def_text (usual_rule i c a) ≡ usual_rule_text i c a
unfolding whole_def_text usual_rule_text
usual_rule_is i c a =
    let left = patterns_text (patterns_of (variables (param_names (Made c) i))) in
    let call = expr_text (call_on (made_term c i.name) (param_names (Made c) i)) ++ codes ")\n" in
    ap (λ z. codes "(rule " ++ ((z ++ codes " ") ++ ((codes "(" ++ (choice_term c i.name a.feature ++ (left ++ codes ") "))) ++ call))) zero_is
    ∙ ap (λ z. codes "(rule 0 (" ++ z) (choice_head_is i c a call)
    ∙ ap (λ z. codes "(rule 0 (" ++ (choice_head_text i c a ++ z)) (call_is i c i.name)

-- ---- instructions

choice_is : (i : Inst) (c : Constructor) (o : Option Alternate) → laid_texts (choice_defs i c o) ≡ choice_text i c o
choice_is i c None = refl
choice_is i c (Some a) =
    ap (λ z. z ++ (def_text (alternate_rule i c a) ++ (whole_def_text (usual_rule i c a) ++ []))) (choice_decl_is i c a)
    ∙ ap (λ z. choice_decl_text i c a ++ (z ++ (whole_def_text (usual_rule i c a) ++ []))) (alternate_rule_is i c a)
    ∙ ap (λ z. choice_decl_text i c a ++ (alternate_rule_text i c a ++ z)) (append-nil (whole_def_text (usual_rule i c a)) ∙ usual_rule_is i c a)

constructor_is : (i : Inst) (c : Constructor) → laid_texts (constructor_defs i c) ≡ constructor_text i c
constructor_is i c =
    ap (λ z. z ++ (def_text (made_rule i c) ++ laid_texts (choice_defs i c i.alternate))) (made_decl_is i c)
    ∙ ap (λ z. made_decl_text i c ++ (z ++ laid_texts (choice_defs i c i.alternate))) (made_rule_is i c)
    ∙ ap (λ z. made_decl_text i c ++ (made_rule_text i c ++ z)) (choice_is i c i.alternate)

-- the texts of what comes of each thing
each_is : {X : Type 0} (f : X → List LaidDef) (g : X → List ℕ) → ((x : X) → laid_texts (f x) ≡ g x) → (xs : List X) → laid_texts (flat_map f xs) ≡ flat_map g xs
each_is f g h [] = refl
each_is f g h (x ∷ xs) = laid_joined (f x) (flat_map f xs) ∙ ap (λ z. z ++ laid_texts (flat_map f xs)) (h x) ∙ ap (λ z. g x ++ z) (each_is f g h xs)

row_is : (i : Inst) → laid_texts (row_defs i) ≡ row_text i
row_is i = one (is_left_out i)
  where
    taken_is : def_text (raw_decl i) ++ (def_text (raw_maker i) ++ laid_texts (flat_map (constructor_defs i) (constructors i)))
        ≡ raw_text i ++ flat_map (constructor_text i) (constructors i)
    taken_is =
        sym (append_assoc (def_text (raw_decl i)) (def_text (raw_maker i)) (laid_texts (flat_map (constructor_defs i) (constructors i))))
        ∙ ap (λ z. z ++ laid_texts (flat_map (constructor_defs i) (constructors i))) (raw_is i)
        ∙ ap (λ z. raw_text i ++ z) (each_is (constructor_defs i) (constructor_text i) (constructor_is i) (constructors i))

    one : (b : Bool) → laid_texts (if b then [] else plain (raw_decl i) ∷ plain (raw_maker i) ∷ flat_map (constructor_defs i) (constructors i))
        ≡ (if b then [] else raw_text i ++ flat_map (constructor_text i) (constructors i))
    one true = refl
    one false = taken_is

-- ---- the whole text

head_is : def_texts head_defs ≡ head_text
unfolding def_text head_text outputs_text emit_text defer_text
head_is = refl

pub rules_are : (is : List Inst) → rule_text is ≡ laid_texts (assembler_layout is)
unfolding rule_text
rules_are is =
    ap (λ z. z ++ flat_map row_text is) (sym (plain_texts head_defs ∙ head_is))
    ∙ ap (λ z. laid_texts (map plain head_defs) ++ z) (sym (each_is row_defs row_text row_is is))
    ∙ sym (laid_joined (map plain head_defs) (flat_map row_defs is))
