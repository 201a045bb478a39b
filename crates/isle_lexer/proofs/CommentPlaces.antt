-- A comment that never ends begins in its text.
use Rattle.std.proofs.Common.{◌≡◌, ℕ, zero, suc, ◌+◌, ◌<◌, List, [], ◌∷◌, length, Bool, true, false, Some, None, subst, arith}
use Rattle.std.specs.Prelude.{◌==◌, if◌then◌else◌, fold}
use Rattle.isle_lexer.specs.Token.{State, Between, InWord, AfterOpen, AfterSingle, InLine, InComment, Seen, Other, OpenSeen, SemicolonSeen, Scan, is_blank, is_single, is_word_byte, begun, closed, in_comment, next, step, scan, open_at, unclosed}
use Rattle.isle_lexer.proofs.Scans.{scan-at}

-- what may be a comment began before this place
abbrev HasBegun : State → ℕ → Type 0
HasBegun Between at = Unit {0}
HasBegun (InWord from) at = Unit {0}
HasBegun (AfterOpen from) at = from < at
HasBegun (AfterSingle from) at = Unit {0}
HasBegun InLine at = Unit {0}
HasBegun (InComment from outer seen) at = from < at

pick_state : (c : Bool) (s t : State) (at : ℕ) → HasBegun s at → HasBegun t at → HasBegun (if c then s else t) at
pick_state true s t at h k = h
pick_state false s t at h k = k

begun_single : (at : ℕ) (s : Bool) → HasBegun (if s then AfterSingle at else InWord at) (at + 1)
begun_single at true = tt
begun_single at false = tt

begun_begun : (at b : ℕ) → HasBegun (begun at b) (at + 1)
begun_begun at b =
    pick_state (is_blank b) _ _ (at + 1) tt
    (pick_state (b == 40) _ _ (at + 1) (omega arith)
    (pick_state (b == 59) _ _ (at + 1) tt
    (begun_single at (is_single b))))

begun_closed : (from outer at : ℕ) → from < at → HasBegun (closed from outer) at
begun_closed from zero at h = tt
begun_closed from (suc outer) at h = h

begun_comment : (from outer : ℕ) (seen : Seen) (b at : ℕ) → from < at → HasBegun (in_comment from outer seen b) at
begun_comment from outer Other b at h = h
begun_comment from outer OpenSeen b at h = pick_state (b == 59) _ _ at h h
begun_comment from outer SemicolonSeen b at h = pick_state (b == 41) _ _ at (begun_closed from outer at h) h

begun_next : (st : State) (at b : ℕ) → HasBegun st at → HasBegun (next st at b) (at + 1)
begun_next Between at b h = begun_begun at b
begun_next (InWord from) at b h = pick_state (is_word_byte b) _ _ (at + 1) tt (begun_begun at b)
begun_next (AfterOpen from) at b h = pick_state (b == 59) _ _ (at + 1) (omega (arith, h)) (begun_begun at b)
begun_next (AfterSingle from) at b h = begun_begun at b
begun_next InLine at b h = pick_state (b == 10) _ _ (at + 1) tt tt
begun_next (InComment from outer seen) at b h = begun_comment from outer seen b (at + 1) (omega (arith, h))

fold_begun : (bs : List ℕ) (s : Scan) → HasBegun s.state s.at → HasBegun (fold step s bs).state (fold step s bs).at
unfolding step
fold_begun [] s h = h
fold_begun (b ∷ bs) s h = fold_begun bs (step s b) (begun_next s.state s.at b h)

opened : (st : State) (at n : ℕ) → HasBegun st n → open_at st ≡ Some at → at < n
opened Between at n h e = absurd (let bad : None ≡ Some at = e in cc)
opened (InWord from) at n h e = absurd (let bad : None ≡ Some at = e in cc)
opened (AfterOpen from) at n h e = absurd (let bad : None ≡ Some at = e in cc)
opened (AfterSingle from) at n h e = absurd (let bad : None ≡ Some at = e in cc)
opened InLine at n h e = absurd (let bad : None ≡ Some at = e in cc)
opened (InComment from outer seen) at n h e = let same : from ≡ at = cc in subst (λ x. x < n) same h

-- a comment that never ends begins in its text
pub unclosed_within : (text : List ℕ) (at : ℕ) → unclosed text ≡ Some at → at < length text
unclosed_within text at e =
    subst (λ n. at < n) (scan-at text) (opened (scan text).state at (scan text).at (fold_begun text (record { tokens = []; state = Between; at = 0 }) tt) e)
