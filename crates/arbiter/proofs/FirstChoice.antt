-- The first choice that keeps the arbiter's sheet, by evaluation of it and of every choice before it, 2,017 in all. The search is cut in four, as a declaration has a limit of steps.
use mathlib.Core.Path.{◌≡◌, refl, sym, ap, ◌∙◌}
use mathlib.Core.List.{List, [], ◌∷◌, map}
use mathlib.Core.Option.{Option, none, some}
use Prim.Native.Nat.{ℕ}
use lib.ListN.{drop}
use Rattle.model.specs.BenchCases.{choice_a}
use Rattle.theory.proofs.ListLaws.{filter_all}
use Rattle.model.specs.Choice.{entries, values, keeps_ties, fillings, choices}
use Rattle.model.specs.Computed.{keeps, first, first_choice}
use Rattle.model.proofs.SettlingOrder.{settle, try, settle_first, settle_cons, skip, hit}
use Rattle.arbiter.specs.Arbiter.{arbiter}

-- the values of an output mask
abbrev masks : List ℕ
masks = 0x00 ∷ 0x04 ∷ 0x08 ∷ 0x0C ∷ []

-- the values of a next state
abbrev states : List ℕ
states = 0 ∷ 1 ∷ []

-- the values of each entry behind the first two
abbrev after₂ : List (List ℕ)
after₂ = states ∷ states ∷ states ∷ masks ∷ states ∷ states ∷ states ∷ states ∷ []

-- the values of each entry behind the first
abbrev after₁ : List (List ℕ)
after₁ = states ∷ after₂

all_values : map values (entries arbiter.architecture) ≡ masks ∷ after₁
unfolding entries values arbiter
all_values = refl

-- the first rest behind this mask
abbrev behind₁ : ℕ → Option (List ℕ)
behind₁ mask = settle after₁ (λ c. keeps arbiter (mask ∷ c))

-- the first rest behind this mask and this next state
abbrev behind₂ : ℕ → ℕ → Option (List ℕ)
behind₂ mask next = settle after₂ (λ c. keeps arbiter (mask ∷ next ∷ c))

none_0_0 : behind₂ 0 0 ≡ none
unfolding settle keeps arbiter
none_0_0 = refl

none_0_1 : behind₂ 0 1 ≡ none
unfolding settle keeps arbiter
none_0_1 = refl

none_4_0 : behind₂ 4 0 ≡ none
unfolding settle keeps arbiter
none_4_0 = refl

some_4_1 : behind₂ 4 1 ≡ some (drop 2 choice_a)
unfolding settle keeps arbiter
some_4_1 = refl

none_0 : behind₁ 0 ≡ none
unfolding try
none_0 = settle_cons states after₂ (λ c. keeps arbiter (0 ∷ c)) ∙ skip 0 (1 ∷ []) (behind₂ 0) none_0_0 ∙ skip 1 [] (behind₂ 0) none_0_1

some_4 : behind₁ 4 ≡ some (drop 1 choice_a)
some_4 = settle_cons states after₂ (λ c. keeps arbiter (4 ∷ c)) ∙ skip 0 (1 ∷ []) (behind₂ 4) none_4_0 ∙ hit 1 [] (behind₂ 4) _ some_4_1

no_ties : choices arbiter.architecture ≡ fillings (entries arbiter.architecture)
unfolding choices keeps_ties arbiter
no_ties = filter_all (keeps_ties arbiter.architecture) (fillings (entries arbiter.architecture)) (λ c. refl)

pub first_is_A : first_choice arbiter ≡ some choice_a
unfolding first_choice
first_is_A =
    ap (first (keeps arbiter)) no_ties
    ∙ sym (settle_first (entries arbiter.architecture) (keeps arbiter))
    ∙ ap (λ (vss : List (List ℕ)). settle vss (keeps arbiter)) all_values
    ∙ settle_cons masks after₁ (keeps arbiter)
    ∙ skip 0 (4 ∷ 8 ∷ 12 ∷ []) behind₁ none_0
    ∙ hit 4 (8 ∷ 12 ∷ []) behind₁ _ some_4
