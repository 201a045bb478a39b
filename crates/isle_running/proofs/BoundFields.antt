-- Fields that are bound one after another.
use Rattle.std.proofs.Common.{◌≡◌, ℕ, ◌+◌, ◌<◌, List, [], ◌∷◌, ◌++◌, length, take, drop, get_or, Bool, true, false, Option, Some, None, refl, sym, ap, ◌∙◌, append-nil, append_assoc}
use Rattle.std.proofs.Math.Seq.{take-append_seam}
use Rattle.std.proofs.lemmas.List.{drop_more}
use Rattle.isle_core.specs.Value.{Value, FieldValues}
use Rattle.isle_tree.specs.declared.tree.TBind.{TBind}
use Rattle.isle_tree.specs.Run.{Env, Flow, field_of, fit_fields, fitted, local_before}
use Rattle.isle_running.specs.Called.{Called}
use Rattle.isle_running.specs.Frames.{Follows}
use Rattle.isle_running.specs.RunViews.{locals}
use Rattle.isle_running.specs.Steps.{BindsSo}
use Rattle.isle_running.specs.declared.frame.Frame.{Frame}
use Rattle.isle_running.specs.declared.holding.Holding.{Holding}

-- what is left fits from here as all do from the frame before
abbrev pub LeftSo : (all left : Option Env) → (old now : Frame) → Type 0
LeftSo all left old now = (go : Env → Flow) (other : Flow) → fitted all (λ bound. go (locals old.locals ++ bound)) other ≡ fitted left (λ bound. go (locals now.locals ++ bound)) other

next : (binds : List TBind) (i : ℕ) (b d : TBind) (fs : FieldValues) → i < length binds → b ≡ get_or binds i d → fit_fields (drop i binds) fs ≡ local_before b.local (field_of b.field fs) (fit_fields (drop (i + 1) binds) fs)
next binds i b d fs lt is = ap (λ bs. fit_fields bs fs) (drop_more binds i d lt ∙ ap (λ x. x ∷ drop (i + 1) binds) (sym is))

-- a field more is bound
pub left_more : (binds : List TBind) (i : ℕ) (b d : TBind) (fs : FieldValues) (old now after : Frame) (there : Bool) → i < length binds → b ≡ get_or binds i d → LeftSo (fit_fields binds fs) (fit_fields (drop i binds) fs) old now
    → BindsSo b.local (field_of b.field fs) now after there → there ≡ true → LeftSo (fit_fields binds fs) (fit_fields (drop (i + 1) binds) fs) old after
left_more binds i b d fs old now after there lt is left binds_so e go other =
    left go other
    ∙ ap (λ o. fitted o (λ bound. go (locals now.locals ++ bound)) other) (next binds i b d fs lt is)
    ∙ by (field_of b.field fs) binds_so (fit_fields (drop (i + 1) binds) fs)
  where
    by : (o : Option Value) → BindsSo b.local o now after there → (rest : Option Env) → fitted (local_before b.local o rest) (λ bound. go (locals now.locals ++ bound)) other ≡ fitted rest (λ bound. go (locals after.locals ++ bound)) other
    by (Some v) h None = refl
    by (Some v) h (Some env) = ap go (sym (append_assoc (locals now.locals) _ env) ∙ ap (λ ls. ls ++ env) (sym h.1))
    by None h rest = absurd cc

-- the frame then follows
pub follows_more : (n : ℕ) (o : Option Value) (old now after : Frame) (there : Bool) → Follows old now → BindsSo n o now after there → there ≡ true → Follows old after
follows_more n (Some v) old now after there f h e = record {
  more = f.more ++ h.2.more;
  grown = h.2.grown ∙ ap (λ ls. ls ++ h.2.more) f.grown ∙ append_assoc old.locals f.more h.2.more;
  same = h.2.same ∙ f.same;
}
follows_more n None old now after there f h e = absurd cc

-- nothing was bound then
pub none_bound : (n : ℕ) (o : Option Value) (now mid : Frame) (there : Bool) → BindsSo n o now mid there → there ≡ false → mid.locals ≡ now.locals
none_bound n None now mid there h e = h.1
none_bound n (Some v) now mid there h e = absurd cc

-- what was bound is cut off
pub cut_follows : (old now mid : Frame) (len : ℕ) (ls : List (ℕ × Holding)) → Follows old now → mid.locals ≡ now.locals → mid.calls ≡ now.calls → len ≡ length old.locals → ls ≡ take len mid.locals → Follows old (record { locals = ls; calls = mid.calls; given = mid.given })
cut_follows old now mid len ls f same calls is cut = record {
  more = [];
  grown =
      cut
      ∙ ap (take len) (same ∙ f.grown)
      ∙ ap (λ n. take n (old.locals ++ f.more)) is
      ∙ take-append_seam old.locals f.more
      ∙ sym (append-nil old.locals);
  same = ap (λ (c : Called). c.answers) calls ∙ f.same;
}
