-- What a program is spelled as is read as that program, and as no other.
use Rattle.std.proofs.Common.{◌≡◌, ℕ, zero, suc, ◌+◌, ◌<◌, ◌≤◌, List, [], ◌∷◌, ◌++◌, length, length-append, Bool, true, false, Some, None, refl, ap, ◌∙◌, append_assoc, arith}
use Rattle.std.specs.Prelude.{codes}
use Rattle.std.specs.List.{AllByRecursion, list_all}
use Rattle.isle_printer.specs.Token.{Token, Word, Mark, is_read, without_comments, step, begun, tokens_of}
use Rattle.isle_printer.proofs.Comments.{all_read}
use Rattle.isle_printer.proofs.Bytes.{same_bytes_refl}
use Rattle.isle_spelling.specs.Fixed.{allow_tokens, uses_tokens, fixed_tokens}
use Rattle.isle_printer.specs.Number.{numeral}
use Rattle.isle_core.specs.declared.types.ReturnKind.{ReturnKind}
use Rattle.isle_core.specs.declared.types.ReturnKind.TheVariants as kind
use Rattle.isle_tree.specs.declared.tree.Ty.{Ty}
use Rattle.isle_tree.specs.declared.tree.TraitFn.{TraitFn}
use Rattle.isle_tree.specs.declared.tree.TypeItem.{TypeItem}
use Rattle.isle_tree.specs.Program.{Function, Program}
use Rattle.isle_tree.specs.WellFormed.{IsFunction, IsWellFormed}
use Rattle.isle_target.specs.StatementSpelling.{param_token, borrow_part, constructor_word, close, returns_word, body_tokens}
use Rattle.isle_target.specs.Spelling.{function_head, typed_tokens, param_tokens, params_tokens, result_tokens, function_tokens, functions_tokens, allow_part, trait_fn_head, comma, joined_tokens, joined_end, joined_types, item_tokens, results_tokens, trait_result, list_type, trait_fn_tokens, trait_fns_tokens, trait_tokens, types_tokens, program_tokens}
use Rattle.isle_target.specs.Reading.{read_ty, read_params, read_result, read_function, read_functions, read_joined, read_joined_types, if_tuple, read_tuple_types, read_item, read_results, read_trait_fn, read_trait_fns, read_trait, read_items, read_program, program_of, SpellsOnly}
use Rattle.isle_target.specs.Tokens.{phrase, at}
use Rattle.isle_target.proofs.ReadsAgain.{second_apart}
use Rattle.isle_target.proofs.StatementsAgain.{body_again}
use Rattle.isle_target.proofs.Phrases.{is_whole, phrase_again}
use Rattle.isle_target.proofs.TypesAgain.{types_again, length-types}
use Rattle.isle_target.proofs.NoComments.{program_read}

-- ---- the fixed texts

allow_whole : list_all is_whole allow_tokens ≡ true
unfolding allow_tokens step begun
allow_whole = refl

uses_whole : list_all is_whole uses_tokens ≡ true
unfolding uses_tokens step begun
uses_whole = refl

fixed_whole : list_all is_whole fixed_tokens ≡ true
unfolding fixed_tokens step begun
fixed_whole = refl

-- the uses don't begin as the allow lines do
uses_apart : (ts : List Token) → phrase allow_tokens (uses_tokens ++ ts) ≡ None
unfolding allow_tokens uses_tokens step begun
uses_apart ts = refl

-- ---- functions

-- a type is read again, behind a & or not
name_again : (by_ref : Bool) (name : List ℕ) (ts : List Token) → read_ty (borrow_part by_ref ++ Word name ∷ ts) ≡ Some (record { by_ref = by_ref; name = name }, ts)
unfolding read_ty
name_again true name ts = refl
name_again false name ts = refl

type_again : (ty : Ty) (ts : List Token) → read_ty (borrow_part ty.by_ref ++ Word ty.name ∷ ts) ≡ Some (ty, ts)
type_again ty ts = name_again ty.by_ref ty.name ts

-- parameters are read again, up to what is none
params_again : (k n : ℕ) (tys : List Ty) (ts : List Token) → ((m : ℕ) → at (param_token m) ts ≡ false) → length tys < k → read_params k n (params_tokens n tys ++ ts) ≡ Some (tys, ts)
unfolding read_params
params_again zero n tys ts e lt = absurd (omega arith)
params_again (suc k) n [] ts e lt = rw (e n) refl
params_again (suc k) n (ty ∷ tys) ts e lt =
    let behind = Mark (codes ",") ∷ (params_tokens (n + 1) tys ++ ts) in
    let flat : (((borrow_part ty.by_ref ++ Word ty.name ∷ []) ++ Mark (codes ",") ∷ []) ++ params_tokens (n + 1) tys) ++ ts ≡ borrow_part ty.by_ref ++ Word ty.name ∷ behind = simp append_assoc in
    rw (flat, same_bytes_refl (numeral 10 n), type_again ty behind, params_again k (n + 1) tys ts e (omega arith)) refl

length-params : (n : ℕ) (tys : List Ty) → length tys ≤ length (params_tokens n tys)
length-params n [] = omega arith
length-params n (ty ∷ tys) = omega (arith, length-append (param_tokens n ty) (params_tokens (n + 1) tys), length-params (n + 1) tys)

-- no parameter begins as what closes them
result_apart : (how : ReturnKind) (name : List ℕ) (ts : List Token) (m : ℕ) → at (param_token m) (result_tokens how name ++ ts) ≡ false
result_apart kind.Plain name ts m = refl
result_apart kind.Option name ts m = refl
result_apart kind.Iterator name ts m = refl

-- a result is read again, if no < stands after it
result_again : (how : ReturnKind) (name : List ℕ) (ts : List Token) → at (Mark (codes "<")) ts ≡ false → read_result (result_tokens how name ++ ts) ≡ Some ((how, name), ts)
unfolding read_result
result_again kind.Plain name ts e = rw (second_apart (Word (codes "Option")) (Mark (codes "<")) (Word name) ts e) refl
result_again kind.Option name ts e = refl
result_again kind.Iterator name ts e = refl

-- a function is read again
pub function_again : (p : Program) (f : Function) (ts : List Token) → IsFunction p f → read_function (function_tokens f ++ ts) ≡ Some (f, ts)
unfolding read_function constructor_word function_tokens
function_again p f ts h =
    let inside = body_tokens f.body ++ (close ++ ts) in
    let ended = Mark (codes "{") ∷ inside in
    let behind = result_tokens f.kind f.result ++ ended in
    let flat : function_tokens f ++ ts ≡ function_head f.term ++ (params_tokens 0 f.params ++ behind) = simp append_assoc in
    let fuel : length f.params < length (params_tokens 0 f.params ++ behind) = omega (arith, length-append (params_tokens 0 f.params) behind, length-append (result_tokens f.kind f.result) ended, length-params 0 f.params) in
    let long : length (body_tokens f.body) < length inside = omega (arith, length-append (body_tokens f.body) (close ++ ts)) in
    ap read_function flat
    ∙ rw (params_again (length (params_tokens 0 f.params ++ behind)) 0 f.params behind (result_apart f.kind f.result ended) fuel, result_again f.kind f.result ended refl, body_again f.body (length inside) (close ++ ts) h.forms refl long) refl

-- functions are read again
pub functions_again : (p : Program) (n : ℕ) (fs : List Function) → AllByRecursion (IsFunction p) fs → length (functions_tokens fs) ≤ n → read_functions n (functions_tokens fs) ≡ Some fs
unfolding read_functions function_tokens
functions_again p n [] h le = refl
functions_again p zero (f ∷ fs) h le = absurd (omega (arith, length-append (function_tokens f) (functions_tokens fs)))
functions_again p (suc n) (f ∷ fs) h le =
    let l = length-append (function_tokens f) (functions_tokens fs) in
    rw (function_again p f (functions_tokens fs) h.0, functions_again p n fs h.1 (omega (arith, l))) refl

-- ---- the trait

-- what closes parameters is found where it stands
end_whole : (how : ReturnKind) (name : List ℕ) (n : ℕ) → list_all is_whole (joined_end how name n) ≡ true
end_whole kind.Plain name n = refl
end_whole kind.Option name n = refl
end_whole kind.Iterator name zero = refl
end_whole kind.Iterator name (suc n) = refl

-- and at no parameter
end_apart : (how : ReturnKind) (name : List ℕ) (n : ℕ) (ts : List Token) → phrase (joined_end how name n) (comma n ++ param_token n ∷ ts) ≡ None
end_apart kind.Plain name zero ts = refl
end_apart kind.Option name zero ts = refl
end_apart kind.Iterator name zero ts = refl
end_apart kind.Plain name (suc n) ts = refl
end_apart kind.Option name (suc n) ts = refl
end_apart kind.Iterator name (suc n) ts = refl

-- parameters are read again, up to what closes so many
joined_again : (how : ReturnKind) (name : List ℕ) (k n m : ℕ) (tys : List Ty) (ts : List Token) → m ≡ n + length tys → length tys < k
    → read_joined how name k n (joined_tokens n tys ++ (joined_end how name m ++ ts)) ≡ Some (tys, ts)
unfolding read_joined numeral
joined_again how name zero n m tys ts e lt = absurd (omega arith)
joined_again how name (suc k) n m [] ts e lt =
    let same : m ≡ n = omega (arith, e) in
    rw (same, phrase_again (joined_end how name n) ts (end_whole how name n)) refl
joined_again how name (suc k) zero m (ty ∷ tys) ts e lt =
    let behind = joined_tokens 1 tys ++ (joined_end how name m ++ ts) in
    let flat : ((borrow_part ty.by_ref ++ Word ty.name ∷ []) ++ joined_tokens 1 tys) ++ (joined_end how name m ++ ts) ≡ borrow_part ty.by_ref ++ Word ty.name ∷ behind = simp append_assoc in
    rw (flat, end_apart how name 0 (Mark (codes ":") ∷ (borrow_part ty.by_ref ++ Word ty.name ∷ behind)), type_again ty behind, joined_again how name k 1 m tys ts (omega (arith, e)) (omega arith)) refl
joined_again how name (suc k) (suc n) m (ty ∷ tys) ts e lt =
    let behind = joined_tokens (suc n + 1) tys ++ (joined_end how name m ++ ts) in
    let flat : ((borrow_part ty.by_ref ++ Word ty.name ∷ []) ++ joined_tokens (suc n + 1) tys) ++ (joined_end how name m ++ ts) ≡ borrow_part ty.by_ref ++ Word ty.name ∷ behind = simp append_assoc in
    rw (flat, end_apart how name (suc n) (Mark (codes ":") ∷ (borrow_part ty.by_ref ++ Word ty.name ∷ behind)), same_bytes_refl (numeral 10 (suc n)), type_again ty behind, joined_again how name k (suc n + 1) m tys ts (omega (arith, e)) (omega arith)) refl

length-joined : (n : ℕ) (tys : List Ty) → length tys ≤ length (joined_tokens n tys)
length-joined n [] = omega arith
length-joined zero (ty ∷ tys) = omega (arith, length-append (typed_tokens 0 ty) (joined_tokens 1 tys), length-joined 1 tys)
length-joined (suc n) (ty ∷ tys) = omega (arith, length-append (typed_tokens (suc n) ty) (joined_tokens (suc n + 1) tys), length-joined (suc n + 1) tys)

-- the parameters of a function with a rest after them, from its name on
params_joined : (how : ReturnKind) (name : List ℕ) (tys : List Ty) (t : Token) (ts : List Token)
    → let inside = joined_tokens 0 tys ++ (joined_end how name (length tys) ++ t ∷ ts) in read_joined how name (length inside) 0 inside ≡ Some (tys, t ∷ ts)
params_joined how name tys t ts =
    let ended = joined_end how name (length tys) ++ t ∷ ts in
    let fuel : length tys < length (joined_tokens 0 tys ++ ended) = omega (arith, length-append (joined_tokens 0 tys) ended, length-append (joined_end how name (length tys)) (t ∷ ts), length-joined 0 tys) in
    joined_again how name (length (joined_tokens 0 tys ++ ended)) 0 (length tys) tys (t ∷ ts) (omega arith) fuel

-- the types of a tuple are read again
joined_types_again : (k n : ℕ) (tys : List (List ℕ)) (ts : List Token) → length tys < k → read_joined_types k n (joined_types n tys ++ ts) ≡ Some (tys, ts)
unfolding read_joined_types
joined_types_again zero n tys ts lt = absurd (omega arith)
joined_types_again (suc k) n [] ts lt = refl
joined_types_again (suc k) zero (ty ∷ tys) ts lt = rw (joined_types_again k 1 tys ts (omega arith)) refl
joined_types_again (suc k) (suc n) (ty ∷ tys) ts lt = rw (joined_types_again k (suc n + 1) tys ts (omega arith)) refl

length-joined_types : (n : ℕ) (tys : List (List ℕ)) → length tys < length (joined_types n tys)
length-joined_types n [] = omega arith
length-joined_types zero (ty ∷ tys) = omega (arith, length-joined_types 1 tys)
length-joined_types (suc n) (ty ∷ tys) = omega (arith, length-joined_types (suc n + 1) tys)

-- from after its ( on
tuple_again : (tys : List (List ℕ)) (ts : List Token) → read_tuple_types (joined_types 0 tys ++ ts) ≡ if_tuple tys ts
tuple_again tys ts =
    let inside = joined_types 0 tys ++ ts in
    let fuel : length tys < length inside = omega (arith, length-append (joined_types 0 tys) ts, length-joined_types 0 tys) in
    rw (joined_types_again (length inside) 0 tys ts fuel) refl

-- the types of an answer's results are read again
item_again : (tys : List (List ℕ)) (ts : List Token) → read_item (item_tokens tys ++ ts) ≡ Some (tys, ts)
unfolding read_item
item_again [] ts = tuple_again [] ts
item_again (ty ∷ []) ts = refl
item_again (ty ∷ more ∷ tys) ts = tuple_again (ty ∷ more ∷ tys) ts

-- a plain answer's types don't begin as an option's, if no < stands after them
plain_again : (tys : List (List ℕ)) (ts : List Token) → at (Mark (codes "<")) ts ≡ false → read_results (item_tokens tys ++ ts) ≡ Some ((kind.Plain, tys), ts)
unfolding read_results
plain_again [] ts e = rw (item_again [] ts) refl
plain_again (ty ∷ []) ts e = rw (second_apart (Word (codes "Option")) (Mark (codes "<")) (Word ty) ts e, item_again (ty ∷ []) ts) refl
plain_again (ty ∷ more ∷ tys) ts e = rw (item_again (ty ∷ more ∷ tys) ts) refl

-- an option's types are read again
option_again : (tys : List (List ℕ)) (ts : List Token) → read_results (results_tokens kind.Option tys ++ ts) ≡ Some ((kind.Option, tys), ts)
unfolding read_results
option_again tys ts = rw (append_assoc (item_tokens tys) (Mark (codes ">") ∷ []) ts, item_again tys (Mark (codes ">") ∷ ts)) refl

-- a function of the trait is read again
fn_again : (how : ReturnKind) (name : List ℕ) (params : List Ty) (tys : List (List ℕ)) (ts : List Token)
    → read_trait_fn ((list_type how name tys ++ (trait_fn_head name ++ (joined_tokens 0 params ++ (joined_end how name (length params) ++ trait_result how tys)))) ++ ts)
    ≡ Some (record { name = name; params = params; results = tys; kind = how }, ts)
unfolding read_trait_fn
fn_again kind.Plain name params tys ts =
    let ended = Mark (codes ";") ∷ ts in
    let answer = item_tokens tys ++ ended in
    let flat : (joined_tokens 0 params ++ Mark (codes ")") ∷ Mark (codes "->") ∷ (item_tokens tys ++ Mark (codes ";") ∷ [])) ++ ts ≡ joined_tokens 0 params ++ Mark (codes ")") ∷ Mark (codes "->") ∷ answer = simp append_assoc in
    rw (flat, params_joined kind.Plain name params (Mark (codes "->")) answer, plain_again tys ended refl) refl
fn_again kind.Option name params tys ts =
    let ended = Mark (codes ";") ∷ ts in
    let answer = results_tokens kind.Option tys ++ ended in
    let flat : (joined_tokens 0 params ++ Mark (codes ")") ∷ Mark (codes "->") ∷ (results_tokens kind.Option tys ++ Mark (codes ";") ∷ [])) ++ ts ≡ joined_tokens 0 params ++ Mark (codes ")") ∷ Mark (codes "->") ∷ answer = simp append_assoc in
    rw (flat, params_joined kind.Plain name params (Mark (codes "->")) answer, option_again tys ended) refl
fn_again kind.Iterator name params tys ts =
    let ended = Mark (codes "(") ∷ Mark (codes ")") ∷ Mark (codes ";") ∷ ts in
    let inside = joined_tokens 0 params ++ (joined_end kind.Iterator name (length params) ++ Mark (codes "->") ∷ ended) in
    let behind = Mark (codes ">") ∷ Mark (codes ";") ∷ (trait_fn_head name ++ inside) in
    let flat : (item_tokens tys ++ Mark (codes ">") ∷ Mark (codes ";") ∷ []) ++ (trait_fn_head name ++ (joined_tokens 0 params ++ (joined_end kind.Iterator name (length params) ++ trait_result kind.Iterator tys))) ++ ts ≡ item_tokens tys ++ behind = simp append_assoc in
    rw (flat, item_again tys behind, params_joined kind.Iterator name params (Mark (codes "->")) ended, same_bytes_refl (returns_word name)) refl

trait_fn_again : (f : TraitFn) (ts : List Token) → read_trait_fn (trait_fn_tokens f ++ ts) ≡ Some (f, ts)
unfolding trait_fn_tokens
trait_fn_again f ts = fn_again f.kind f.name f.params f.results ts

-- it has a token, and doesn't begin as what closes the trait
fn_begins : (how : ReturnKind) (name : List ℕ) (tys : List (List ℕ)) (ts : List Token) → at (Mark (codes "}")) (list_type how name tys ++ (trait_fn_head name ++ ts)) ≡ false
fn_begins kind.Plain name tys ts = refl
fn_begins kind.Option name tys ts = refl
fn_begins kind.Iterator name tys ts = refl

trait_fn_begins : (f : TraitFn) (ts : List Token) → at (Mark (codes "}")) (trait_fn_tokens f ++ ts) ≡ false
unfolding trait_fn_tokens
trait_fn_begins f ts =
    let behind = joined_tokens 0 f.params ++ (joined_end f.kind f.name (length f.params) ++ trait_result f.kind f.results) in
    rw (append_assoc (list_type f.kind f.name f.results) (trait_fn_head f.name ++ behind) ts) (fn_begins f.kind f.name f.results (behind ++ ts))

trait_fn_some : (f : TraitFn) → 0 < length (trait_fn_tokens f)
unfolding trait_fn_tokens
trait_fn_some f = omega (arith, length-append (list_type f.kind f.name f.results) (trait_fn_head f.name ++ (joined_tokens 0 f.params ++ (joined_end f.kind f.name (length f.params) ++ trait_result f.kind f.results))))

-- the functions of the trait are read again
trait_fns_again : (n : ℕ) (fs : List TraitFn) (ts : List Token) → length (trait_fns_tokens fs) < n → read_trait_fns n (trait_fns_tokens fs ++ (close ++ ts)) ≡ Some (fs, close ++ ts)
unfolding read_trait_fns
trait_fns_again zero fs ts lt = absurd (omega arith)
trait_fns_again (suc n) [] ts lt = refl
trait_fns_again (suc n) (f ∷ fs) ts lt =
    let l = length-append (trait_fn_tokens f) (trait_fns_tokens fs) in
    rw (append_assoc (trait_fn_tokens f) (trait_fns_tokens fs) (close ++ ts), trait_fn_begins f (trait_fns_tokens fs ++ (close ++ ts)), trait_fn_again f (trait_fns_tokens fs ++ (close ++ ts)), trait_fns_again n fs ts (omega (arith, l, trait_fn_some f))) refl

-- the trait is read again
trait_again : (fs : List TraitFn) (ts : List Token) → read_trait (trait_tokens fs ++ ts) ≡ Some (fs, ts)
unfolding read_trait
trait_again fs ts =
    let inside = trait_fns_tokens fs ++ (close ++ ts) in
    let long : length (trait_fns_tokens fs) < length inside = omega (arith, length-append (trait_fns_tokens fs) (close ++ ts)) in
    rw (append_assoc (trait_fns_tokens fs) close ts, trait_fns_again (length inside) fs ts long) refl

-- ---- the program

-- the tokens from the uses on
items : List TraitFn → List TypeItem → List Function → List Token
items tfns types fs = uses_tokens ++ (trait_tokens tfns ++ (fixed_tokens ++ (types_tokens types ++ functions_tokens fs)))

-- a program of these items
made_of : Bool → List TraitFn → List TypeItem → List Function → Program
made_of allow tfns types fs = record { allow = allow; trait_fns = tfns; types = types; fns = fs }

-- no function begins as a type does
functions_begin : (fs : List Function) → at (Mark (codes "#")) (functions_tokens fs) ≡ false
unfolding function_tokens
functions_begin [] = refl
functions_begin (f ∷ fs) = refl

items_again : (p : Program) (allow : Bool) (tfns : List TraitFn) (types : List TypeItem) (fs : List Function) → AllByRecursion (IsFunction p) fs → read_items (allow, items tfns types fs) ≡ Some (made_of allow tfns types fs)
unfolding items made_of
items_again p allow tfns types fs h =
    let behind = types_tokens types ++ functions_tokens fs in
    let fuel : length types ≤ length behind = omega (arith, length-append (types_tokens types) (functions_tokens fs), length-types types) in
    rw (phrase_again uses_tokens (trait_tokens tfns ++ (fixed_tokens ++ behind)) uses_whole, trait_again tfns (fixed_tokens ++ behind), phrase_again fixed_tokens behind fixed_whole, types_again (length behind) types (functions_tokens fs) (functions_begin fs) fuel, functions_again p (length (functions_tokens fs)) fs h (omega arith)) refl

items_apart : (tfns : List TraitFn) (types : List TypeItem) (fs : List Function) → phrase allow_tokens (items tfns types fs) ≡ None
unfolding items
items_apart tfns types fs = uses_apart (trait_tokens tfns ++ (fixed_tokens ++ (types_tokens types ++ functions_tokens fs)))

made_again : (p : Program) (allow : Bool) (tfns : List TraitFn) (types : List TypeItem) (fs : List Function) → AllByRecursion (IsFunction p) fs → read_program (allow_part allow ++ items tfns types fs) ≡ Some (made_of allow tfns types fs)
unfolding read_program
made_again p true tfns types fs h = rw (phrase_again allow_tokens (items tfns types fs) allow_whole) (items_again p true tfns types fs h)
made_again p false tfns types fs h = rw (items_apart tfns types fs) (items_again p false tfns types fs h)

-- what is spelled is read again
pub program_again : (p : Program) → IsWellFormed p → read_program (program_tokens p) ≡ Some p
unfolding items made_of
program_again p h = made_again p p.allow p.trait_fns p.types p.fns h.fns

-- a text of the program's tokens spells it and no other
pub spells_only : (text : List ℕ) (p : Program) → IsWellFormed p → tokens_of text ≡ program_tokens p → SpellsOnly text p
spells_only text p h e =
    let reads : program_of text ≡ Some p = ap read_program (ap without_comments e ∙ all_read (program_tokens p) (program_read p)) ∙ program_again p h in
    record {
      spells = record { reads = reads; well_formed = h };
      only = λ q s. let other = s.reads in cc;
    }

-- no comment stands in such a text
pub no_comment : (text : List ℕ) (p : Program) → tokens_of text ≡ program_tokens p → list_all is_read (tokens_of text) ≡ true
no_comment text p e = ap (list_all is_read) e ∙ program_read p

-- what a printer has printed after the head, the trait, the fixed items, the types and the functions
pub printed_program : (p : Program) (text : List ℕ) (fresh head body whole typed all : List Token)
    → fresh ≡ []
    → head ≡ fresh ++ (allow_part p.allow ++ uses_tokens)
    → body ≡ head ++ trait_tokens p.trait_fns
    → whole ≡ body ++ fixed_tokens
    → typed ≡ whole ++ types_tokens p.types
    → all ≡ typed ++ functions_tokens p.fns
    → tokens_of text ≡ all
    → tokens_of text ≡ program_tokens p
printed_program p text fresh head body whole typed all e1 e2 e3 e4 e5 e6 e7 =
    e7
    ∙ e6
    ∙ ap (λ l. l ++ functions_tokens p.fns) e5
    ∙ ap (λ l. (l ++ types_tokens p.types) ++ functions_tokens p.fns) e4
    ∙ ap (λ l. ((l ++ fixed_tokens) ++ types_tokens p.types) ++ functions_tokens p.fns) e3
    ∙ ap (λ l. (((l ++ trait_tokens p.trait_fns) ++ fixed_tokens) ++ types_tokens p.types) ++ functions_tokens p.fns) (e2 ∙ ap (λ l. l ++ (allow_part p.allow ++ uses_tokens)) e1)
    ∙ simp append_assoc
