-- How many of a list of places are shown.
use Rattle.std.specs.Prelude.{◌≡◌, ◌≢◌, ◌<◌, ◌≤◌, ◌⊎◌, ◌++◌, ◌∷◌, [], ℕ, List, length}
use Rattle.mp_tree.specs.Text.{text as compact}
use Rattle.mp_pointer.specs.Spelling.{Tokens}
use Rattle.mp_patch.specs.Work.{no_limit}
use Rattle.mp_texts.specs.Answers.{places_list}

-- how many bytes the text of the places has
abbrev pub listed : List Tokens → ℕ
listed places = length (compact (places_list places))

-- the longest front of the places whose text has at most so many bytes; none if not even the first fits
pub record IsLongestWithin (limit : ℕ) (places shown : List Tokens) : Type 0 where
  pub rest : List Tokens
  pub all : places ≡ shown ++ rest
  pub within : (shown ≡ []) ⊎ (listed shown ≤ limit)
  pub longest : (rest ≡ []) ⊎ ((next : Tokens) × (more : List Tokens) × (rest ≡ next ∷ more)
      × (limit < listed (shown ++ next ∷ [])))

-- without a limit all places are shown
abbrev pub AreShown : ℕ → List Tokens → List Tokens → Type 0
AreShown limit places shown =
    ((limit ≡ no_limit) × (shown ≡ places)) ⊎ ((limit ≢ no_limit) × IsLongestWithin limit places shown)
