-- Reading statements: each form told by the next few tokens.
use Rattle.std.specs.Prelude.{ℕ, zero, suc, List, [], ◌∷◌, ◌++◌, length, Bool, true, false, Option, Some, None, codes, if◌then◌else◌}
use Rattle.std.specs.List.{list_any}
use Rattle.isle_core.specs.declared.values.Callee.{Callee}
use Rattle.isle_core.specs.declared.values.Callee.TheVariants as callee
use Rattle.isle_printer.specs.Bytes.{same_bytes}
use Rattle.isle_printer.specs.Number.{numeral_of}
use Rattle.isle_printer.specs.Token.{Token, Word, Mark, Quoted}
use Rattle.isle_target.specs.Tokens.{◌>>=◌, Reads, phrase, at, rest, after, any_word, any_quoted}
use Rattle.isle_target.specs.OperandReading.{numbered, or_else, read_operand, read_read}
use Rattle.isle_target.specs.PatternReading.{read_pattern}
use Rattle.isle_tree.specs.declared.tree.Read.{Read}
use Rattle.isle_tree.specs.Program.{Stmt, Let, LetList, IfEq, IfLet, Match, Loop, Return, Extend, Overflow, Log, Split, Tail, Body, Done, Then, Arms, NoArm, Arm}
use Rattle.isle_target.specs.StatementSpelling.{local_token, returns_word, any_list, default_part, list_end, into_part, while_part, next_part, extend_head, stop_tokens, full_part, closure_head, closure_end, match_end, no_rule, unreachable_head, log_head}
use Rattle.isle_target.specs.ExprReading.{read_args, called_name, called_term_fn, read_expr}

-- ---- lists and loops

-- a call that fills the list, from its context on
abbrev pub read_filled : ℕ → Callee → List Token → Reads Stmt
read_filled n to ts = do
  ts1 ← after (Word (codes "ctx")) ts
  args ← read_args (list_end n) (length ts1) ts1
  Some (LetList n (record { callee = to; args = args.0 }), args.1)

-- the call of a function of the trait, given the type of the list
abbrev pub read_trait_filled : ℕ → List ℕ → Reads (List ℕ) → Reads Stmt
read_trait_filled n list None = None
read_trait_filled n list (Some name) = if same_bytes list (returns_word name.0) then read_filled n (callee.External name.0) name.1 else None

-- a list of a function of the trait, from its type on, and the call of that function
abbrev pub read_trait_list : ℕ → List Token → Reads Stmt
read_trait_list n ts = do
  ts1 ← phrase (Word (codes "C") ∷ Mark (codes "::") ∷ []) ts
  list ← any_word ts1
  ts2 ← phrase default_part list.1
  ts3 ← phrase (Word (codes "C") ∷ Mark (codes "::") ∷ []) ts2
  read_trait_filled n list.0 (called_name ts3)

-- a list of any function, from its type on, and the call of one of a term
abbrev pub read_term_list : ℕ → List Token → Reads Stmt
read_term_list n ts = do
  ts1 ← phrase (any_list ++ default_part) ts
  to ← called_term_fn ts1
  read_filled n to.0 to.1

-- either of them
abbrev pub read_list : ℕ → List Token → Reads Stmt
read_list n ts = if at (Word (codes "C")) ts then read_trait_list n ts else read_term_list n ts

-- a body and what closes it
abbrev pub read_inside : {A : Type 0} → (List Token → Reads Body) → (Body → A) → List Token → Reads A
read_inside body make ts = do
  inside ← body ts
  ts1 ← after (Mark (codes "}")) inside.1
  Some (make inside.0, ts1)

-- a loop over the list, from the list on
abbrev pub read_loop : (List Token → Reads Body) → ℕ → List Token → Reads Stmt
read_loop body n ts = do
  ts1 ← phrase (local_token n ∷ (into_part ++ while_part)) ts
  w ← any_word ts1
  item ← numbered (codes "v") w.0
  ts2 ← phrase (next_part n) w.1
  read_inside body (Loop n item) ts2

-- a loop if . stands after the first word, and else a list
abbrev pub read_list_or_loop : (List Token → Reads Body) → ℕ → List Token → Reads Stmt
read_list_or_loop body n ts = if at (Mark (codes ".")) (rest ts) then read_loop body n ts else read_list n ts

-- let mut, from after the mut on
abbrev pub read_let_mut : (List Token → Reads Body) → List Token → Reads Stmt
read_let_mut body ts = do
  w ← any_word ts
  n ← numbered (codes "v") w.0
  ts1 ← after (Mark (codes "=")) w.1
  read_list_or_loop body n ts1

-- returns
abbrev pub read_extend : List Token → Reads Stmt
read_extend ts = do
  ts1 ← phrase (rest extend_head) ts
  r ← read_read ts1
  ts2 ← phrase (Mark (codes ")") ∷ Mark (codes ")") ∷ Mark (codes ";") ∷ []) r.1
  Some (Extend r.0, ts2)

-- a return of nothing, or one of true
abbrev pub read_this_stop : (Bool → Stmt) → Bool → List Token → Reads Stmt
read_this_stop make within ts = do
  ts1 ← phrase (stop_tokens within) ts
  Some (make within, ts1)

-- either of them
abbrev pub read_stop : (Bool → Stmt) → List Token → Reads Stmt
read_stop make ts = or_else (read_this_stop make true ts) (read_this_stop make false ts)

-- a stop at a full list, from after if returns. on
abbrev pub read_overflow : List Token → Reads Stmt
read_overflow ts = do
  ts1 ← phrase full_part ts
  w ← any_word ts1
  limit ← numeral_of 10 w.0
  read_stop (λ within. Overflow within limit) w.1

-- ---- statements, from after their first word on, given how to read a body

-- let with one local
abbrev pub read_let_one : List Token → Reads Stmt
read_let_one ts = do
  w ← any_word ts
  n ← numbered (codes "v") w.0
  ts1 ← after (Mark (codes "=")) w.1
  e ← read_expr ts1
  ts2 ← after (Mark (codes ";")) e.1
  Some (Let n e.0, ts2)

-- let
abbrev pub read_let : (List Token → Reads Body) → List Token → Reads Stmt
read_let body ts = if at (Word (codes "mut")) ts then read_let_mut body (rest ts) else read_let_one ts

-- return
abbrev pub read_return : List Token → Reads Stmt
read_return ts = do
  e ← read_expr ts
  ts1 ← after (Mark (codes ";")) e.1
  Some (Return e.0, ts1)

-- if with a test
abbrev pub read_if_eq : (List Token → Reads Body) → List Token → Reads Stmt
read_if_eq body ts = do
  a ← read_operand ts
  ts1 ← after (Mark (codes "==")) a.1
  b ← read_operand ts1
  ts2 ← after (Mark (codes "{")) b.1
  read_inside body (IfEq a.0 b.0) ts2

-- if let, from after the let on
abbrev pub read_if_let : (List Token → Reads Body) → List Token → Reads Stmt
read_if_let body ts = do
  pat ← read_pattern ts
  ts1 ← after (Mark (codes "=")) pat.1
  r ← read_read ts1
  ts2 ← after (Mark (codes "{")) r.1
  read_inside body (IfLet pat.0 r.0) ts2

-- a closure that is called at once, from after if on
abbrev pub read_split : (List Token → Reads Body) → List Token → Reads Stmt
read_split body ts = do
  ts1 ← phrase closure_head ts
  inside ← body ts1
  ts2 ← phrase closure_end inside.1
  read_stop (Split inside.0) ts2

-- if without a let and without a closure: a stop where returns. stands after it, and else a test
abbrev pub read_if_full : Option (List Token) → (List Token → Reads Body) → List Token → Reads Stmt
read_if_full None body ts = read_if_eq body ts
read_if_full (Some behind) body ts = read_overflow behind

-- if
abbrev pub read_if : (List Token → Reads Body) → List Token → Reads Stmt
read_if body ts =
    if at (Word (codes "let")) ts then read_if_let body (rest ts)
    else (if at (Mark (codes "(")) ts then read_split body ts
    else read_if_full (phrase (Word (codes "returns") ∷ Mark (codes ".") ∷ []) ts) body ts)

-- the arm for all else, and what closes a match
abbrev pub read_match_end : List Token → Reads Arms
read_match_end ts = do
  ts1 ← phrase match_end ts
  Some (NoArm, ts1)

-- one arm more, given how to read those after it
abbrev pub read_arm : (List Token → Reads Body) → (List Token → Reads Arms) → List Token → Reads Arms
read_arm body arms ts = do
  pat ← read_pattern ts
  ts1 ← phrase (Mark (codes "=>") ∷ Mark (codes "{") ∷ []) pat.1
  inside ← body ts1
  ts2 ← after (Mark (codes "}")) inside.1
  more ← arms ts2
  Some (Arm pat.0 inside.0 more.0, more.1)

-- arms up to that for all else, at most this many
unfoldable pub read_arms : (List Token → Reads Body) → ℕ → List Token → Reads Arms
read_arms body zero ts = None
read_arms body (suc n) ts = if at (Word (codes "_")) ts then read_match_end ts else read_arm body (read_arms body n) ts

-- a match of two arms or more
abbrev pub several_arms : Read → Arms → List Token → Option (Stmt × List Token)
several_arms r NoArm ts = None
several_arms r (Arm pat inside NoArm) ts = None
several_arms r (Arm pat inside (Arm other body arms)) ts = Some (Match r (Arm pat inside (Arm other body arms)), ts)

-- match
abbrev pub read_match : (List Token → Reads Body) → List Token → Reads Stmt
read_match body ts = do
  r ← read_read ts
  ts1 ← after (Mark (codes "{")) r.1
  arms ← read_arms body (length ts1) ts1
  several_arms r.0 arms.0 arms.1

-- unreachable
abbrev pub read_unreachable : List Token → Reads Stmt
read_unreachable ts = do
  ts1 ← phrase (rest unreachable_head ++ Quoted no_rule ∷ Mark (codes ",") ∷ []) ts
  term ← any_quoted ts1
  ts2 ← after (Mark (codes ",")) term.1
  place ← any_quoted ts2
  ts3 ← after (Mark (codes ")")) place.1
  Some (Tail (Some (term.0, place.0)), ts3)

-- log
abbrev pub read_log : List Token → Reads Stmt
read_log ts = do
  ts1 ← phrase (rest log_head) ts
  term ← any_quoted ts1
  ts2 ← after (Mark (codes ",")) term.1
  place ← any_quoted ts2
  ts3 ← phrase (Mark (codes ")") ∷ Mark (codes ";") ∷ []) place.1
  Some (Log term.0 place.0, ts3)

-- a statement
abbrev pub read_stmt : (List Token → Reads Body) → List Token → Reads Stmt
read_stmt body ts =
    if at (Word (codes "let")) ts then read_let body (rest ts)
    else (if at (Word (codes "if")) ts then read_if body (rest ts)
    else (if at (Word (codes "return")) ts then read_return (rest ts)
    else (if at (Word (codes "None")) ts then Some (Tail None, rest ts)
    else (if at (Word (codes "unreachable")) ts then read_unreachable (rest ts)
    else (if at (Word (codes "returns")) ts then read_extend (rest ts)
    else (if at (Word (codes "log")) ts then read_log (rest ts)
    else (if at (Word (codes "match")) ts then read_match body (rest ts)
    else None)))))))

-- one statement more
abbrev pub read_then : (List Token → Reads Body) → List Token → Reads Body
read_then body ts = do
  s ← read_stmt body ts
  ss ← body s.1
  Some (Then s.0 ss.0, ss.1)

-- the words that statements begin with
abbrev pub first_words : List (List ℕ)
first_words = codes "let" ∷ codes "if" ∷ codes "return" ∷ codes "None" ∷ codes "unreachable" ∷ codes "returns" ∷ codes "log" ∷ codes "match" ∷ []

-- whether a statement begins here
abbrev pub begins : List Token → Bool
begins ts = list_any (λ w. at (Word w) ts) first_words

-- statements up to what begins none, at most this many
unfoldable pub read_body : ℕ → List Token → Reads Body
read_body zero ts = None
read_body (suc n) ts = if begins ts then read_then (read_body n) ts else Some (Done, ts)
