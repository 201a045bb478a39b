-- Readers of answers files.
use Rattle.std.specs.Prelude.{ℕ, zero, suc, ◌-◌, List, [], ◌∷◌, ◌++◌, reverse, Bool, true, false, ◌&&◌, if◌then◌else◌, Option, Some, None, option_map, bytes_eq, codes}
use Rattle.isle_core.specs.declared.values.Callee.{Callee}
use Rattle.isle_reading.specs.Combinators.{is_open, is_close, refuse, read_open, read_close, read_word, many, all_from}
use Rattle.isle_reading.specs.Names.{name_of, read_name}
use Rattle.isle_reading.specs.Nesting.{most_open}
use Rattle.isle_reading.specs.Reader.{Reader, Ret, Peek, End, Halt, bind}
use Rattle.isle_values.specs.Written.{Written, Writtens, Truth, Number, Made, NoValue, AValue}
use Rattle.isle_values.specs.Views.{in_order}
use Rattle.isle_values.specs.Reading.{read_simple, read_value, read_list}
use Rattle.isle_answers.specs.Form.{ResultForm, One, Tuple, AnswerForm, Plain, Found, Nothing, Several, CaseForm, Form}
use Rattle.isle_answers.specs.Form as form
use Rattle.isle_answers.specs.Words.{count_of, callee_of, is_reserved}

-- ---- results and answers

-- what a list is that is a result, by its first word
pub data ResultHead : Type 0 where
  TupleHead : ResultHead
  MadeHead : List ℕ → ResultHead

-- what a list is that is an answer
pub data AnswerHead : Type 0 where
  SomeHead : AnswerHead
  NoneHead : AnswerHead
  ListHead : AnswerHead
  ResultIs : ResultHead → AnswerHead

-- the first word of a result's list
abbrev pub result_head_of : List ℕ → Option ResultHead
result_head_of w =
    if bytes_eq w (codes "tuple") then Some TupleHead
    else (if is_reserved w then None
    else option_map (λ name. MadeHead name) (name_of w))

-- the first word of an answer's list
abbrev pub answer_head_of : List ℕ → Option AnswerHead
answer_head_of w =
    if bytes_eq w (codes "some") then Some SomeHead
    else (if bytes_eq w (codes "none") then Some NoneHead
    else (if bytes_eq w (codes "list") then Some ListHead
    else option_map (λ h. ResultIs h) (result_head_of w)))

-- the first word of a result's list, as it is read
unfoldable pub read_result_head : Reader ResultHead
read_result_head = read_word result_head_of

-- the first word of an answer's list, as it is read
unfoldable pub read_answer_head : Reader AnswerHead
read_answer_head = read_word answer_head_of

-- a result of one word
unfoldable pub read_simple_result : Reader ResultForm
read_simple_result = bind read_simple (λ v. Ret (One v))

-- after the first word of a result's list, its values' parentheses nesting at most d deep
unfoldable pub read_result_after : ℕ → ℕ → ResultHead → Reader ResultForm
read_result_after n d TupleHead = bind (many n (read_value n d)) (λ vs. Ret (Tuple vs))
read_result_after n d (MadeHead w) = bind (many n (read_value n d)) (λ vs. Ret (One (Made w (in_order vs))))

-- a result's list, with its parenthesis
unfoldable pub read_result_list : ℕ → ℕ → Reader ResultForm
read_result_list n d = bind read_open (λ o. bind read_result_head (λ h. read_result_after n d h))

-- R, whose parentheses nest at most d deep
unfoldable pub read_result : ℕ → ℕ → Reader ResultForm
read_result n zero = Peek is_open Halt read_simple_result
read_result n (suc d) = Peek is_open (read_result_list n d) read_simple_result

-- after the first word of an answer's list
unfoldable pub read_answer_after : ℕ → ℕ → AnswerHead → Reader AnswerForm
read_answer_after n d SomeHead = bind (read_result n d) (λ r. bind read_close (λ c. Ret (Found r)))
read_answer_after n d NoneHead = bind read_close (λ c. Ret Nothing)
read_answer_after n d ListHead = bind (many n (read_result n d)) (λ rs. Ret (Several rs))
read_answer_after n d (ResultIs h) = bind (read_result_after n d h) (λ r. Ret (Plain r))

-- an answer's list, with its parenthesis
unfoldable pub read_answer_list : ℕ → ℕ → Reader AnswerForm
read_answer_list n d = bind read_open (λ o. bind read_answer_head (λ h. read_answer_after n d h))

-- an answer of one word
unfoldable pub read_simple_answer : Reader AnswerForm
read_simple_answer = bind read_simple_result (λ r. Ret (Plain r))

-- A, whose parentheses nest at most d deep
unfoldable pub read_answer : ℕ → ℕ → Reader AnswerForm
read_answer n zero = Peek is_open Halt read_simple_answer
read_answer n (suc d) = Peek is_open (read_answer_list n d) read_simple_answer

-- ---- cases

-- what a list in `answers` is
pub data PartHead : Type 0 where
  CaseHead : PartHead
  RestHead : PartHead

-- the first word of a list in `answers`
abbrev pub part_head_of : List ℕ → Option PartHead
part_head_of w =
    if bytes_eq w (codes "case") then Some CaseHead
    else (if bytes_eq w (codes "rest") then Some RestHead
    else None)

-- the first word of a list in `answers`, as it is read
unfoldable pub read_part_head : Reader PartHead
read_part_head = read_word part_head_of

-- ( V* ) A ) of a case
unfoldable pub read_case : ℕ → ℕ → Reader CaseForm
read_case n d = bind (read_list n (d - 1)) (λ args. bind (read_answer n d) (λ a. bind read_close (λ c. Ret (record { args = args; answer = a }))))

-- A ) ) of the rest
unfoldable pub read_rest : ℕ → ℕ → Reader AnswerForm
read_rest n d = bind (read_answer n d) (λ a. bind read_close (λ c. bind read_close (λ e. Ret a)))

-- cases and the rest
abbrev pub Cases : Type 0
Cases = List CaseForm × AnswerForm

-- a case after those that were read and what stands after it, or the rest
unfoldable pub read_part : ℕ → ℕ → (List CaseForm → Reader Cases) → List CaseForm → PartHead → Reader Cases
read_part n d more done CaseHead = bind (read_case n d) (λ c. more (done ++ c ∷ []))
read_part n d more done RestHead = bind (read_rest n d) (λ a. Ret (done, a))

-- cases after those that were read, the rest, and the parenthesis after it, of at most m tokens
unfoldable pub read_cases : ℕ → ℕ → ℕ → List CaseForm → Reader Cases
read_cases n d zero done = End refuse Halt
read_cases n d (suc m) done = bind read_open (λ o. bind read_part_head (λ h. read_part n d (read_cases n d m) done h))

-- ---- turns

-- values of a list of values
abbrev pub listed : Writtens → List Written
listed NoValue = []
listed (AValue v vs) = v ∷ listed vs

-- the result that a value is
abbrev pub result_is : Written → Option ResultForm
result_is (Truth b) = Some (One (Truth b))
result_is (Number n) = Some (One (Number n))
result_is (Made w parts) = if bytes_eq w (codes "tuple") then Some (Tuple (listed parts)) else (if is_reserved w then None else Some (One (Made w parts)))

-- one result more, if there is one
abbrev pub with_result : Option ResultForm → Option (List ResultForm) → Option (List ResultForm)
with_result None rs = None
with_result (Some r) rs = option_map (λ others. r ∷ others) rs

-- the results that values are
abbrev pub results_are : Writtens → Option (List ResultForm)
results_are NoValue = Some []
results_are (AValue v vs) = with_result (result_is v) (results_are vs)

-- the only one of these values
abbrev pub only_of : Writtens → Option Written
only_of NoValue = None
only_of (AValue v NoValue) = Some v
only_of (AValue v (AValue u vs)) = None

-- the answer `some` of these parts
abbrev pub found_is : Writtens → Option AnswerForm
found_is NoValue = None
found_is (AValue v NoValue) = option_map (λ r. Found r) (result_is v)
found_is (AValue v (AValue u vs)) = None

-- the answer `none` of these parts
abbrev pub nothing_is : Writtens → Option AnswerForm
nothing_is NoValue = Some Nothing
nothing_is (AValue v vs) = None

-- the answer that a value is
abbrev pub answer_is : Written → Option AnswerForm
answer_is (Truth b) = Some (Plain (One (Truth b)))
answer_is (Number n) = Some (Plain (One (Number n)))
answer_is (Made w parts) =
    if bytes_eq w (codes "some") then found_is parts
    else (if bytes_eq w (codes "none") then nothing_is parts
    else (if bytes_eq w (codes "list") then option_map (λ rs. Several rs) (results_are parts)
    else option_map (λ r. Plain r) (result_is (Made w parts))))

-- the answer that these parts of a `rest` are
abbrev pub only_answer : Writtens → Option AnswerForm
only_answer NoValue = None
only_answer (AValue v NoValue) = answer_is v
only_answer (AValue v (AValue u vs)) = None

-- the rest that a value is
abbrev pub rest_value : Written → Option AnswerForm
rest_value (Truth b) = None
rest_value (Number n) = None
rest_value (Made w parts) = if bytes_eq w (codes "rest") then only_answer parts else None

-- the rest that a turn is
abbrev pub rest_is : AnswerForm → Option AnswerForm
rest_is (Plain (One v)) = rest_value v
rest_is (Plain (Tuple vs)) = None
rest_is (Found r) = None
rest_is Nothing = None
rest_is (Several rs) = None

-- turns and the rest
abbrev pub Turned : Type 0
Turned = List AnswerForm × AnswerForm

-- the turns and the rest, where what was read stands in reverse
abbrev pub ended : List AnswerForm → Option Turned
ended [] = None
ended (last ∷ before) = option_map (λ a. (reverse before, a)) (rest_is last)

-- the parenthesis after the turns, if the last one is a rest, or more of them
abbrev pub read_ended : Option Turned → Reader Turned → Reader Turned
read_ended None more = more
read_ended (Some turns) more = Peek is_close (bind read_close (λ c. Ret turns)) more

-- turns after those that were read, the rest, and the parenthesis after it, of at most m tokens
unfoldable pub read_turns : ℕ → ℕ → ℕ → List AnswerForm → Reader Turned
read_turns n d zero done = End refuse Halt
read_turns n d (suc m) done = read_ended (ended done) (bind (read_answer n d) (λ a. read_turns n d m (a ∷ done)))

-- ---- forms

-- what a form is
pub data FormHead : Type 0 where
  HeldHead : FormHead
  ConstHead : FormHead
  AnswersHead : FormHead
  TurnsHead : FormHead

-- what a form is, where `held` may still stand or may not
abbrev pub form_head_of : (held : Bool) → List ℕ → Option FormHead
form_head_of held w =
    if held && bytes_eq w (codes "held") then Some HeldHead
    else (if bytes_eq w (codes "const") then Some ConstHead
    else (if bytes_eq w (codes "answers") then Some AnswersHead
    else (if bytes_eq w (codes "turns") then Some TurnsHead
    else None)))

-- the first word of a form, as it is read
unfoldable pub read_form_head : (held : Bool) → Reader FormHead
read_form_head held = read_word (form_head_of held)

-- N
unfoldable pub read_count : Reader ℕ
read_count = read_word count_of

-- CALLEE
unfoldable pub read_callee : Reader Callee
read_callee = read_word callee_of

-- N ) of `held` at that place
unfoldable pub read_held : ℕ → Reader Form
read_held at = bind read_count (λ count. bind read_close (λ c. Ret (form.Held count at)))

-- NAME V ) of the constant at that place
unfoldable pub read_const : ℕ → ℕ → ℕ → Reader Form
read_const n d at = bind read_name (λ name. bind (read_value n d) (λ v. bind read_close (λ c. Ret (form.Const name v at))))

-- CALLEE, the cases and the rest of `answers` at that place
unfoldable pub read_answers : ℕ → ℕ → ℕ → Reader Form
read_answers n d at = bind read_callee (λ callee. bind (read_cases n (d - 1) n []) (λ x. Ret (form.Answers callee x.0 x.1 at)))

-- CALLEE, the turns and the rest of `turns` at that place
unfoldable pub read_turned : ℕ → ℕ → ℕ → Reader Form
read_turned n d at = bind read_callee (λ callee. bind (read_turns n d n []) (λ x. Ret (form.Turns callee x.0 x.1 at)))

-- after the first word of the form at that place
abbrev pub read_form_after : ℕ → ℕ → ℕ → FormHead → Reader Form
read_form_after n d at HeldHead = read_held at
read_form_after n d at ConstHead = read_const n d at
read_form_after n d at AnswersHead = read_answers n d at
read_form_after n d at TurnsHead = read_turned n d at

-- a form, where `held` may still stand or may not
unfoldable pub read_form : ℕ → ℕ → (held : Bool) → Reader Form
read_form n d held = bind read_open (λ at. bind (read_form_head held) (λ h. read_form_after n d at h))

-- whether `held` may still stand after the form
abbrev pub held_after : Bool → Form → Bool
held_after held (form.Held count at) = false
held_after held (form.Const name v at) = held
held_after held (form.Answers callee cases rest at) = held
held_after held (form.Turns callee turns rest at) = held

-- forms up to the end, of at most n tokens
unfoldable pub read_forms : ℕ → Reader (List Form)
read_forms n = all_from n (read_form n (most_open - 1)) held_after true
