-- Statements are read as what they were spelled from.
use Rattle.std.proofs.Common.{◌≡◌, ℕ, zero, suc, ◌+◌, ◌<◌, ◌≤◌, List, [], ◌∷◌, ◌++◌, length, length-append, Bool, true, false, Some, None, refl, append_assoc, arith}
use Rattle.std.specs.Prelude.{codes}
use Rattle.std.specs.List.{AllByRecursion}
use Rattle.isle_printer.specs.Token.{Token, Word, Mark}
use Rattle.isle_printer.specs.Number.{numeral}
use Rattle.isle_printer.proofs.Bytes.{same_bytes_refl}
use Rattle.isle_printer.proofs.Readback.{numeral_again}
use Rattle.isle_core.specs.declared.values.Callee.{Callee}
use Rattle.isle_core.specs.declared.values.Callee.TheVariants as callee
use Rattle.isle_tree.specs.declared.tree.Read.{Read}
use Rattle.isle_tree.specs.declared.tree.Read.TheVariants as read
use Rattle.isle_tree.specs.declared.tree.TPat.{TPat}
use Rattle.isle_tree.specs.Program.{Stmt, Let, LetList, IfEq, IfLet, Match, Loop, Return, Extend, Overflow, Log, Split, Tail, Body, Done, Then, Arms, NoArm, Arm}
use Rattle.isle_tree.specs.WellFormed.{IsRead, HasSeveral, IsStmt, IsBody, AreArms}
use Rattle.isle_target.specs.StatementSpelling.{operand_tokens, clone_part, read_tokens, constructor_word, args_tokens, expr_tokens, pattern_tokens, list_end, let_list_tokens, loop_head, stop_tokens, split_head, split_end, if_eq_head, if_let_head, no_rule, log_format, log_tokens, close, match_head, arm_head, stmt_tokens, body_tokens, arms_tokens}
use Rattle.isle_target.specs.Tokens.{phrase, rest}
use Rattle.isle_target.specs.StatementReading.{read_filled, read_stop, several_arms, read_arms, read_stmt, begins, read_body}
use Rattle.isle_target.proofs.Words.{operand_again, operand_no_mark, operand_no_let, operand_no_mut}
use Rattle.isle_target.proofs.ReadsAgain.{first_apart, operand_apart, read_again}
use Rattle.isle_target.proofs.ExprsAgain.{Closes, args_again, expr_again}
use Rattle.isle_target.proofs.PatternsAgain.{pattern_again, pattern_no_rest}

-- ---- lists

-- no argument stands where the list does that a call fills
list_apart : (n : ℕ) (r : Read) (ts : List Token) → IsRead r → phrase (list_end n) (Mark (codes ",") ∷ (read_tokens r ++ ts)) ≡ None
list_apart n (read.Plain o) ts h = first_apart (Mark (codes "&")) (rest (rest (list_end n))) (operand_tokens o ++ ts) (operand_no_mark (codes "&") o ts refl)
list_apart n (read.Borrow o) ts h = first_apart (Word (codes "mut")) (rest (rest (rest (list_end n)))) (operand_tokens o ++ ts) (operand_no_mut o ts h)
list_apart n (read.Clone o) ts h =
    let behind = clone_part ++ ts in
    rw (append_assoc (operand_tokens o) clone_part ts) (first_apart (Mark (codes "&")) (rest (rest (list_end n))) (operand_tokens o ++ behind) (operand_no_mark (codes "&") o behind refl))

-- the list closes the arguments
list_closes : (n : ℕ) → Closes (list_end n)
list_closes n = record {
  found = λ ts. rw (same_bytes_refl (numeral 10 n)) refl;
  apart = list_apart n;
  stops = λ ts. refl;
}

-- a call that fills a list, from its context on
filled_again : (n : ℕ) (to : Callee) (rs : List Read) (ts : List Token) → AllByRecursion IsRead rs
    → read_filled n to (Word (codes "ctx") ∷ ((args_tokens rs ++ list_end n) ++ ts)) ≡ Some (LetList n (record { callee = to; args = rs }), ts)
filled_again n to rs ts h =
    let inside = args_tokens rs ++ (list_end n ++ ts) in
    let long : length (args_tokens rs) < length inside = omega (arith, length-append (args_tokens rs) (list_end n ++ ts)) in
    rw (append_assoc (args_tokens rs) (list_end n) ts, args_again (list_end n) (length inside) rs ts (list_closes n) h long) refl

-- a list is read again, with the call that fills it
list_again : (n k : ℕ) (to : Callee) (rs : List Read) (ts : List Token) → AllByRecursion IsRead rs
    → read_stmt (read_body n) (let_list_tokens k (record { callee = to; args = rs }) ++ ts) ≡ Some (LetList k (record { callee = to; args = rs }), ts)
unfolding constructor_word
list_again n k (callee.External name) rs ts h =
    rw (numeral_again 10 k (omega arith) (omega arith), same_bytes_refl (name ++ codes "_returns")) (filled_again k (callee.External name) rs ts h)
list_again n k (callee.Internal term) rs ts h =
    rw (numeral_again 10 k (omega arith) (omega arith)) (filled_again k (callee.Internal term) rs ts h)

-- ---- statements

-- a statement begins as one, and has a token
stmt_begins : (s : Stmt) (ts : List Token) → IsStmt s → begins (stmt_tokens s ++ ts) ≡ true
unfolding loop_head split_head log_tokens
stmt_begins (Let n e) ts h = refl
stmt_begins (LetList n call) ts h = refl
stmt_begins (IfEq a b inside) ts h = refl
stmt_begins (IfLet pat r inside) ts h = refl
stmt_begins (Match r arms) ts h = refl
stmt_begins (Loop list item inside) ts h = refl
stmt_begins (Return e) ts h = refl
stmt_begins (Extend r) ts h = refl
stmt_begins (Overflow within limit) ts h = refl
stmt_begins (Log term place) ts h = refl
stmt_begins (Tail None) ts h = refl
stmt_begins (Tail (Some texts)) ts h = refl
stmt_begins (Split inside within) ts h = refl

stmt_some : (s : Stmt) → IsStmt s → 0 < length (stmt_tokens s)
unfolding loop_head split_head log_tokens
stmt_some (Let n e) h = omega arith
stmt_some (LetList n call) h = omega arith
stmt_some (IfEq a b inside) h = omega arith
stmt_some (IfLet pat r inside) h = omega arith
stmt_some (Match r arms) h = omega arith
stmt_some (Loop list item inside) h = omega arith
stmt_some (Return e) h = omega arith
stmt_some (Extend r) h = omega arith
stmt_some (Overflow within limit) h = omega arith
stmt_some (Log term place) h = omega arith
stmt_some (Tail None) h = omega arith
stmt_some (Tail (Some texts)) h = omega arith
stmt_some (Split inside within) h = omega arith

-- a stop is read again, whether it says true or nothing
stop_again : (make : Bool → Stmt) (within : Bool) (ts : List Token) → read_stop make (stop_tokens within ++ ts) ≡ Some (make within, ts)
stop_again make true ts = refl
stop_again make false ts = refl

-- two arms or more are a match
several_again : (r : Read) (arms : Arms) (ts : List Token) → HasSeveral arms → several_arms r arms ts ≡ Some (Match r arms, ts)
several_again r NoArm ts h = absurd h
several_again r (Arm pat inside NoArm) ts h = absurd h
several_again r (Arm pat inside (Arm other body arms)) ts h = refl

-- the tokens of an arm and of those after it
length-arm : (pat : TPat) (inside : Body) (arms : Arms) → length (arms_tokens (Arm pat inside arms)) ≡ length (pattern_tokens pat) + length (body_tokens inside) + length (arms_tokens arms) + 3
length-arm pat inside arms =
    omega (arith, length-append (arm_head pat) (body_tokens inside ++ (close ++ arms_tokens arms)), length-append (pattern_tokens pat) (Mark (codes "=>") ∷ Mark (codes "{") ∷ []), length-append (body_tokens inside) (close ++ arms_tokens arms))

mutual
  unfolding read_body read_arms no_rule log_format loop_head split_head split_end log_tokens

  -- a statement is read again
  pub stmt_again : (s : Stmt) (n : ℕ) (ts : List Token) → IsStmt s → length (stmt_tokens s) ≤ n → read_stmt (read_body n) (stmt_tokens s ++ ts) ≡ Some (s, ts)
  stmt_again (Let k e) n ts h le = rw (append_assoc (expr_tokens e) (Mark (codes ";") ∷ []) ts, numeral_again 10 k (omega arith) (omega arith), expr_again e ts h) refl
  stmt_again (LetList k call) n ts h le = list_again n k call.callee call.args ts h.args
  stmt_again (IfEq a b inside) n ts h le =
      let after = body_tokens inside ++ (close ++ ts) in
      let second = Mark (codes "==") ∷ (operand_tokens b ++ Mark (codes "{") ∷ after) in
      let flat : (if_eq_head a b ++ (body_tokens inside ++ close)) ++ ts ≡ Word (codes "if") ∷ (operand_tokens a ++ second) = simp append_assoc in
      let fuel : length (body_tokens inside) < n = omega (arith, le, length-append (if_eq_head a b) (body_tokens inside ++ close), length-append (body_tokens inside) close) in
      rw (flat, operand_no_let a second h.0, operand_no_mark (codes "(") a second refl, operand_apart (codes "returns") (codes ".") a second refl, operand_again a second h.0, operand_again b (Mark (codes "{") ∷ after) h.1, body_again inside n (close ++ ts) h.2 refl fuel) refl
  stmt_again (IfLet pat r inside) n ts h le =
      let after = body_tokens inside ++ (close ++ ts) in
      let source = read_tokens r ++ Mark (codes "{") ∷ after in
      let told = pattern_tokens pat ++ Mark (codes "=") ∷ (read_tokens r ++ Mark (codes "{") ∷ []) in
      let flat : (told ++ (body_tokens inside ++ close)) ++ ts ≡ pattern_tokens pat ++ Mark (codes "=") ∷ source = simp append_assoc in
      let fuel : length (body_tokens inside) < n = omega (arith, le, length-append (if_let_head pat r) (body_tokens inside ++ close), length-append (body_tokens inside) close) in
      rw (flat, pattern_again pat (Mark (codes "=") ∷ source) h.0 (record { no_paren = refl; no_brace = refl; no_path = refl }), read_again r (Mark (codes "{") ∷ after) h.1 refl, body_again inside n (close ++ ts) h.2 refl fuel) refl
  stmt_again (Match r arms) n ts h le =
      let after = arms_tokens arms ++ ts in
      let flat : ((read_tokens r ++ Mark (codes "{") ∷ []) ++ arms_tokens arms) ++ ts ≡ read_tokens r ++ Mark (codes "{") ∷ after = simp append_assoc in
      let fuel : length (arms_tokens arms) ≤ n = omega (arith, le, length-append (match_head r) (arms_tokens arms)) in
      let long : length (arms_tokens arms) ≤ length after = omega (arith, length-append (arms_tokens arms) ts) in
      rw (flat, read_again r (Mark (codes "{") ∷ after) h.0 refl, arms_again arms n (length after) ts h.2 fuel long) (several_again r arms ts h.1)
  stmt_again (Return e) n ts h le = rw (append_assoc (expr_tokens e) (Mark (codes ";") ∷ []) ts, expr_again e ts h) refl
  stmt_again (Loop list item inside) n ts h le =
      let fuel : length (body_tokens inside) < n = omega (arith, le, length-append (loop_head list item) (body_tokens inside ++ close), length-append (body_tokens inside) close) in
      rw (append_assoc (body_tokens inside) close ts, numeral_again 10 list (omega arith) (omega arith), same_bytes_refl (numeral 10 list), numeral_again 10 item (omega arith) (omega arith), same_bytes_refl (numeral 10 list), body_again inside n (close ++ ts) h refl fuel) refl
  stmt_again (Extend r) n ts h le =
      let ended = Mark (codes ")") ∷ Mark (codes ")") ∷ Mark (codes ";") ∷ ts in
      rw (append_assoc (read_tokens r) (Mark (codes ")") ∷ Mark (codes ")") ∷ Mark (codes ";") ∷ []) ts, read_again r ended h refl) refl
  stmt_again (Overflow within limit) n ts h le = rw (numeral_again 10 limit (omega arith) (omega arith)) (stop_again (λ b. Overflow b limit) within ts)
  stmt_again (Log term place) n ts h le = refl
  stmt_again (Tail None) n ts h le = refl
  stmt_again (Tail (Some texts)) n ts h le = refl
  stmt_again (Split inside within) n ts h le =
      let fuel : length (body_tokens inside) < n = omega (arith, le, length-append split_head (body_tokens inside ++ split_end within), length-append (body_tokens inside) (split_end within)) in
      rw (append_assoc (body_tokens inside) (split_end within) ts, body_again inside n (split_end within ++ ts) h refl fuel) (stop_again (Split inside) within ts)

  -- statements are read again, up to what begins none
  pub body_again : (b : Body) (n : ℕ) (ts : List Token) → IsBody b → begins ts ≡ false → length (body_tokens b) < n → read_body n (body_tokens b ++ ts) ≡ Some (b, ts)
  body_again Done zero ts h e le = absurd (omega arith)
  body_again Done (suc n) ts h e le = rw e refl
  body_again (Then s ss) zero ts h e le = absurd (omega arith)
  body_again (Then s ss) (suc n) ts h e le =
      let l = length-append (stmt_tokens s) (body_tokens ss) in
      rw (append_assoc (stmt_tokens s) (body_tokens ss) ts, stmt_begins s (body_tokens ss ++ ts) h.0, stmt_again s n (body_tokens ss ++ ts) h.0 (omega (arith, l)), body_again ss n ts h.1 e (omega (arith, l, stmt_some s h.0))) refl

  -- arms are read again, with the one for all else
  pub arms_again : (arms : Arms) (n k : ℕ) (ts : List Token) → AreArms arms → length (arms_tokens arms) ≤ n → length (arms_tokens arms) ≤ k → read_arms (read_body n) k (arms_tokens arms ++ ts) ≡ Some (arms, ts)
  arms_again NoArm n zero ts h le fuel = absurd (omega (arith, fuel))
  arms_again NoArm n (suc k) ts h le fuel = refl
  arms_again (Arm pat inside arms) n zero ts h le fuel = absurd (omega (arith, fuel, length-arm pat inside arms))
  arms_again (Arm pat inside arms) n (suc k) ts h le fuel =
      let after = body_tokens inside ++ (close ++ (arms_tokens arms ++ ts)) in
      let head = Mark (codes "=>") ∷ Mark (codes "{") ∷ after in
      let flat : arms_tokens (Arm pat inside arms) ++ ts ≡ pattern_tokens pat ++ head = simp append_assoc in
      let l = length-arm pat inside arms in
      rw (flat, pattern_no_rest pat head h.0, pattern_again pat head h.0 (record { no_paren = refl; no_brace = refl; no_path = refl }), body_again inside n (close ++ (arms_tokens arms ++ ts)) h.1 refl (omega (arith, le, l)), arms_again arms n k ts h.2 (omega (arith, le, l)) (omega (arith, fuel, l))) refl
