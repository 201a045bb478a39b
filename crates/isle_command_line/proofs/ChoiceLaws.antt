-- Options, one after another: that each stands once, told by what is given so far.
use Rattle.std.proofs.Common.{◌≡◌, ℕ, List, [], ◌∷◌, ◌++◌, append_assoc, append-nil, Bool, true, not, ◌&&◌, refl, ap, sym, ◌∙◌, subst, fold}
use Rattle.std.specs.Prelude.{is_some}
use Rattle.std.specs.List.{list_all}
use Rattle.std.proofs.lemmas.List.Sums.{fold_push}
use Rattle.isle_core.specs.declared.options.CodegenOptions.{CodegenOptions}
use Rattle.isle_command_line.specs.Lines as choice
use Rattle.isle_command_line.specs.Lines.{Choice, ChoiceS, ChoicesS, no_choice, a_choice, clash, AreOnce, with_choice, options_of}
use Rattle.isle_command_line.specs.Reading.{nothing_given, given_more}
use Rattle.isle_command_line.specs.declared.state.GivenOptions.{GivenOptions}
use Rattle.isle_command_line.proofs.WordLaws.{both}

-- an option may stand after those that are given
abbrev pub free : GivenOptions → Choice → Bool
free g choice.NoAllow = not g.options.exclude_global_allow_pragmas
free g choice.Log = not g.options.emit_logging
free g choice.Split = not g.options.split_match_arms
free g (choice.Threshold n) = not (is_some g.options.match_arm_split_threshold)
free g (choice.MaxReturns n) = not g.limited
free g (choice.Prefixed p n) = true

-- it could stand before the last one too, and does not clash with that
free_one : (g : GivenOptions) (d c : Choice) → free (given_more g d) c ≡ true → (free g c ≡ true) × (not (clash d c) ≡ true)
free_one g choice.NoAllow choice.NoAllow h = cc
free_one g choice.NoAllow choice.Log h = (h, refl)
free_one g choice.NoAllow choice.Split h = (h, refl)
free_one g choice.NoAllow (choice.Threshold m) h = (h, refl)
free_one g choice.NoAllow (choice.MaxReturns m) h = (h, refl)
free_one g choice.NoAllow (choice.Prefixed m m2) h = (h, refl)
free_one g choice.Log choice.NoAllow h = (h, refl)
free_one g choice.Log choice.Log h = cc
free_one g choice.Log choice.Split h = (h, refl)
free_one g choice.Log (choice.Threshold m) h = (h, refl)
free_one g choice.Log (choice.MaxReturns m) h = (h, refl)
free_one g choice.Log (choice.Prefixed m m2) h = (h, refl)
free_one g choice.Split choice.NoAllow h = (h, refl)
free_one g choice.Split choice.Log h = (h, refl)
free_one g choice.Split choice.Split h = cc
free_one g choice.Split (choice.Threshold m) h = (h, refl)
free_one g choice.Split (choice.MaxReturns m) h = (h, refl)
free_one g choice.Split (choice.Prefixed m m2) h = (h, refl)
free_one g (choice.Threshold n) choice.NoAllow h = (h, refl)
free_one g (choice.Threshold n) choice.Log h = (h, refl)
free_one g (choice.Threshold n) choice.Split h = (h, refl)
free_one g (choice.Threshold n) (choice.Threshold m) h = cc
free_one g (choice.Threshold n) (choice.MaxReturns m) h = (h, refl)
free_one g (choice.Threshold n) (choice.Prefixed m m2) h = (h, refl)
free_one g (choice.MaxReturns n) choice.NoAllow h = (h, refl)
free_one g (choice.MaxReturns n) choice.Log h = (h, refl)
free_one g (choice.MaxReturns n) choice.Split h = (h, refl)
free_one g (choice.MaxReturns n) (choice.Threshold m) h = (h, refl)
free_one g (choice.MaxReturns n) (choice.MaxReturns m) h = cc
free_one g (choice.MaxReturns n) (choice.Prefixed m m2) h = (h, refl)
free_one g (choice.Prefixed n n2) choice.NoAllow h = (h, refl)
free_one g (choice.Prefixed n n2) choice.Log h = (h, refl)
free_one g (choice.Prefixed n n2) choice.Split h = (h, refl)
free_one g (choice.Prefixed n n2) (choice.Threshold m) h = (h, refl)
free_one g (choice.Prefixed n n2) (choice.MaxReturns m) h = (h, refl)
free_one g (choice.Prefixed n n2) (choice.Prefixed m m2) h = (h, refl)

free_kept : (g : GivenOptions) (d c : Choice) → free g c ≡ true → not (clash d c) ≡ true → free (given_more g d) c ≡ true
free_kept g choice.NoAllow choice.NoAllow h k = cc
free_kept g choice.NoAllow choice.Log h k = h
free_kept g choice.NoAllow choice.Split h k = h
free_kept g choice.NoAllow (choice.Threshold m) h k = h
free_kept g choice.NoAllow (choice.MaxReturns m) h k = h
free_kept g choice.NoAllow (choice.Prefixed m m2) h k = h
free_kept g choice.Log choice.NoAllow h k = h
free_kept g choice.Log choice.Log h k = cc
free_kept g choice.Log choice.Split h k = h
free_kept g choice.Log (choice.Threshold m) h k = h
free_kept g choice.Log (choice.MaxReturns m) h k = h
free_kept g choice.Log (choice.Prefixed m m2) h k = h
free_kept g choice.Split choice.NoAllow h k = h
free_kept g choice.Split choice.Log h k = h
free_kept g choice.Split choice.Split h k = cc
free_kept g choice.Split (choice.Threshold m) h k = h
free_kept g choice.Split (choice.MaxReturns m) h k = h
free_kept g choice.Split (choice.Prefixed m m2) h k = h
free_kept g (choice.Threshold n) choice.NoAllow h k = h
free_kept g (choice.Threshold n) choice.Log h k = h
free_kept g (choice.Threshold n) choice.Split h k = h
free_kept g (choice.Threshold n) (choice.Threshold m) h k = cc
free_kept g (choice.Threshold n) (choice.MaxReturns m) h k = h
free_kept g (choice.Threshold n) (choice.Prefixed m m2) h k = h
free_kept g (choice.MaxReturns n) choice.NoAllow h k = h
free_kept g (choice.MaxReturns n) choice.Log h k = h
free_kept g (choice.MaxReturns n) choice.Split h k = h
free_kept g (choice.MaxReturns n) (choice.Threshold m) h k = h
free_kept g (choice.MaxReturns n) (choice.MaxReturns m) h k = cc
free_kept g (choice.MaxReturns n) (choice.Prefixed m m2) h k = h
free_kept g (choice.Prefixed n n2) choice.NoAllow h k = h
free_kept g (choice.Prefixed n n2) choice.Log h k = h
free_kept g (choice.Prefixed n n2) choice.Split h k = h
free_kept g (choice.Prefixed n n2) (choice.Threshold m) h k = h
free_kept g (choice.Prefixed n n2) (choice.MaxReturns m) h k = h
free_kept g (choice.Prefixed n n2) (choice.Prefixed m m2) h k = h

pub all_kept : (g : GivenOptions) (d : Choice) (cs : List Choice) → list_all (free g) cs ≡ true → list_all (λ c. not (clash d c)) cs ≡ true → list_all (free (given_more g d)) cs ≡ true
all_kept g d [] h k = refl
all_kept g d (c ∷ cs) h k =
    let f = both _ _ h in
    let apart = both _ _ k in
    let here = free_kept g d c f.0 apart.0 in
    let rest = all_kept g d cs f.1 apart.1 in
    λ i. here i && rest i

pub all_free : (cs : List Choice) → list_all (free nothing_given) cs ≡ true
all_free [] = refl
all_free (choice.NoAllow ∷ cs) = all_free cs
all_free (choice.Log ∷ cs) = all_free cs
all_free (choice.Split ∷ cs) = all_free cs
all_free (choice.Threshold n ∷ cs) = all_free cs
all_free (choice.MaxReturns n ∷ cs) = all_free cs
all_free (choice.Prefixed p n ∷ cs) = all_free cs

free_first : (cs : List Choice) (g : GivenOptions) (c : Choice) → free (fold given_more g cs) c ≡ true → free g c ≡ true
free_first [] g c h = h
free_first (d ∷ cs) g c h = (free_one g d c (free_first cs (given_more g d) c h)).0

all_push : (p : Choice → Bool) (cs : List Choice) (c : Choice) → list_all p cs ≡ true → p c ≡ true → list_all p (cs ++ c ∷ []) ≡ true
all_push p [] c h k = λ i. k i && true
all_push p (d ∷ cs) c h k = let f = both _ _ h in let rest = all_push p cs c f.1 k in λ i. f.0 i && rest i

once_push : (cs : List Choice) (g : GivenOptions) (c : Choice) → AreOnce cs → free (fold given_more g cs) c ≡ true → AreOnce (cs ++ c ∷ [])
once_push [] g c h f = (refl, tt)
once_push (d ∷ cs) g c h f =
    (all_push (λ e. not (clash d e)) cs c h.0 (free_one g d c (free_first cs (given_more g d) c f)).1, once_push cs (given_more g d) c h.1 f)

spelt_more : {cs : List Choice} {us : List (List ℕ)} → ChoicesS cs us → (c : Choice) (first : List (List ℕ)) → ChoiceS c first → ChoicesS (cs ++ c ∷ []) (us ++ first)
spelt_more no_choice c first s = subst (ChoicesS (c ∷ [])) (append-nil first) (a_choice c [] first [] s no_choice)
spelt_more (a_choice d ds f more h hs) c first s = subst (ChoicesS (d ∷ (ds ++ c ∷ []))) (sym (append_assoc f more first)) (a_choice d (ds ++ c ∷ []) f (more ++ first) h (spelt_more hs c first s))

-- what is given is what is asked for
pub given_asked : (cs : List Choice) (g : GivenOptions) → (fold given_more g cs).options ≡ fold with_choice g.options cs
given_asked [] g = refl
given_asked (c ∷ cs) g = given_asked cs (given_more g c)

-- the words are options that ask for this
pub record Asked (o : CodegenOptions) (us : List (List ℕ)) : Type 0 where
  pub choices : List Choice
  pub spelt : ChoicesS choices us
  pub once : AreOnce choices
  pub asked : options_of choices ≡ o

-- the words are options that give this
pub record Chose (g : GivenOptions) (us : List (List ℕ)) : Type 0 where
  pub choices : List Choice
  pub spelt : ChoicesS choices us
  pub once : AreOnce choices
  pub given : fold given_more nothing_given choices ≡ g

pub chose_none : Chose nothing_given []
chose_none = record { choices = []; spelt = no_choice; once = tt; given = refl }

pub chose_more : (g : GivenOptions) (us : List (List ℕ)) (c : Choice) (first : List (List ℕ)) → Chose g us → ChoiceS c first → free g c ≡ true → Chose (given_more g c) (us ++ first)
chose_more g us c first h s f = record {
  choices = h.choices ++ c ∷ [];
  spelt = spelt_more h.spelt c first s;
  once = once_push h.choices nothing_given c h.once (subst (λ p. free p c ≡ true) (sym h.given) f);
  given = fold_push given_more nothing_given h.choices c ∙ ap (λ p. given_more p c) h.given;
}

pub chose_asked : (g : GivenOptions) (us : List (List ℕ)) → Chose g us → Asked g.options us
chose_asked g us h = record {
  choices = h.choices;
  spelt = h.spelt;
  once = h.once;
  asked = sym (given_asked h.choices nothing_given) ∙ ap (λ p. p.options) h.given;
}
