-- Tokens begin before the place that was reached.
use Rattle.std.proofs.Common.{ℕ, zero, suc, ◌+◌, ◌<◌, ◌≤◌, List, [], ◌∷◌, ◌++◌, length, Bool, true, false, subst, arith}
use Rattle.std.specs.Prelude.{◌==◌, if◌then◌else◌, fold}
use Rattle.std.specs.List.{AllByRecursion}
use Rattle.isle_lexer.specs.Token.{Tok, State, Between, InWord, AfterOpen, AfterSingle, InLine, InComment, Seen, Other, OpenSeen, SemicolonSeen, Scan, is_blank, is_single, is_word_byte, begun, closed, in_comment, ends, ended, next, pending, step, scan, tokens_of}
use Rattle.isle_lexer.specs.Cuts.{IsBegun}
use Rattle.isle_lexer.proofs.Scans.{scan-at}

-- each token begins before this place
abbrev pub Before : ℕ → List Tok → Type 0
Before at ts = AllByRecursion (λ (t : Tok). t.from < at) ts

began_single : (at : ℕ) (s : Bool) → IsBegun (if s then AfterSingle at else InWord at) (at + 1)
began_single at true = omega arith
began_single at false = omega arith

began_line : (at : ℕ) (l s : Bool) → IsBegun (if l then InLine else (if s then AfterSingle at else InWord at)) (at + 1)
began_line at true s = tt
began_line at false s = began_single at s

began_open : (at : ℕ) (o l s : Bool) → IsBegun (if o then AfterOpen at else (if l then InLine else (if s then AfterSingle at else InWord at))) (at + 1)
began_open at true l s = omega arith
began_open at false l s = began_line at l s

began_any : (at : ℕ) (b o l s : Bool) → IsBegun (if b then Between else (if o then AfterOpen at else (if l then InLine else (if s then AfterSingle at else InWord at)))) (at + 1)
began_any at true o l s = tt
began_any at false o l s = began_open at o l s

began_begun : (at b : ℕ) → IsBegun (begun at b) (at + 1)
began_begun at b = began_any at (is_blank b) (b == 40) (b == 59) (is_single b)

pick_state : (c : Bool) (s t : State) (at : ℕ) → IsBegun s at → IsBegun t at → IsBegun (if c then s else t) at
pick_state true s t at h k = h
pick_state false s t at h k = k

began_closed : (from outer at : ℕ) → IsBegun (closed from outer) at
began_closed from zero at = tt
began_closed from (suc outer) at = tt

began_comment : (from outer : ℕ) (seen : Seen) (b at : ℕ) → IsBegun (in_comment from outer seen b) at
began_comment from outer Other b at = tt
began_comment from outer OpenSeen b at = pick_state (b == 59) _ _ at tt tt
began_comment from outer SemicolonSeen b at = pick_state (b == 41) _ _ at (began_closed from outer at) tt

-- what is begun begins before the next place
pub began_next : (st : State) (at b : ℕ) → IsBegun st at → IsBegun (next st at b) (at + 1)
began_next Between at b h = began_begun at b
began_next (InWord from) at b h = pick_state (is_word_byte b) _ _ (at + 1) (omega (arith, h)) (began_begun at b)
began_next (AfterOpen from) at b h = pick_state (b == 59) _ _ (at + 1) tt (began_begun at b)
began_next (AfterSingle from) at b h = began_begun at b
began_next InLine at b h = pick_state (b == 10) _ _ (at + 1) tt tt
began_next (InComment from outer seen) at b h = began_comment from outer seen b (at + 1)

pending_before : (st : State) (at n : ℕ) → IsBegun st at → at ≤ n → Before n (pending st at)
pending_before Between at n h l = tt
pending_before (InWord from) at n h l = (omega (arith, h, l), tt)
pending_before (AfterOpen from) at n h l = (omega (arith, h, l), tt)
pending_before (AfterSingle from) at n h l = (omega (arith, h, l), tt)
pending_before InLine at n h l = tt
pending_before (InComment from outer seen) at n h l = tt

pick_before : (c : Bool) (ts : List Tok) (n : ℕ) → Before n ts → Before n (if c then ts else [])
pick_before true ts n h = h
pick_before false ts n h = tt

both_before : (n : ℕ) (ts us : List Tok) → Before n ts → Before n us → Before n (ts ++ us)
both_before n [] us h k = k
both_before n (t ∷ ts) us h k = (h.0, both_before n ts us h.1 k)

later : (n : ℕ) (ts : List Tok) → Before n ts → Before (n + 1) ts
later n [] h = tt
later n (t ∷ ts) h = (omega (arith, h.0), later n ts h.1)

-- the tokens so far begin before what was reached, and so does what was begun
record AreBefore (s : Scan) : Type 0 where
  tokens : Before s.at s.tokens
  state : IsBegun s.state s.at

step_before : (s : Scan) (b : ℕ) → AreBefore s → AreBefore (step s b)
unfolding step
step_before s b h = record {
  tokens = both_before (s.at + 1) s.tokens (ended s.state s.at b) (later s.at s.tokens h.tokens)
      (pick_before (ends s.state b) (pending s.state s.at) (s.at + 1) (pending_before s.state s.at (s.at + 1) h.state (omega arith)));
  state = began_next s.state s.at b h.state;
}

fold_before : (bs : List ℕ) (s : Scan) → AreBefore s → AreBefore (fold step s bs)
fold_before [] s h = h
fold_before (b ∷ bs) s h = fold_before bs (step s b) (step_before s b h)

scan_before : (text : List ℕ) → AreBefore (scan text)
scan_before text = fold_before text (record { tokens = []; state = Between; at = 0 }) (record { tokens = tt; state = tt })

-- each token of a text begins in it
pub tokens_before : (text : List ℕ) → Before (length text) (tokens_of text)
tokens_before text =
    subst (λ n. Before n (tokens_of text)) (scan-at text)
    (both_before (scan text).at (scan text).tokens _ (scan_before text).tokens (pending_before (scan text).state (scan text).at (scan text).at (scan_before text).state (omega arith)))
