-- Trees of texts that are joined through, as a parallel reduce, a combiner or a stored aggregate joins them: each call of
-- `join_texts` is given texts of patches, and what other calls gave.
use Rattle.std.specs.Prelude.{ℕ, List, [], ◌∷◌, ◌++◌, ◌≡◌}
use Rattle.mp_texts.specs.Answers.{IsJoinText}

mutual
  -- what a call is given in one place: a text, or what another call gave of its parts
  pub data Part : Type 0 where
    leaf : List ℕ → Part
    group : Parts → Part

  -- what a call is given in all, at least one part
  pub data Parts : Type 0 where
    last : Part → Parts
    next : Part → Parts → Parts

-- the texts at the leaves
abbrev mutual
  pub texts_at : Part → List (List ℕ)
  texts_at (leaf text) = text ∷ []
  texts_at (group parts) = texts_in parts

  pub texts_in : Parts → List (List ℕ)
  texts_in (last part) = texts_at part
  texts_in (next part parts) = texts_at part ++ texts_in parts

-- a leaf gives its text, and a group the join text of what its parts give
abbrev mutual
  pub Gives : Part → List ℕ → Type 0
  Gives (leaf text) given = given ≡ text
  Gives (group parts) given = (answers : List (List ℕ)) × AllGive parts answers × IsJoinText answers given

  pub AllGive : Parts → List (List ℕ) → Type 0
  AllGive (last part) (given ∷ []) = Gives part given
  AllGive (next part parts) (given ∷ answers) = Gives part given × AllGive parts answers
  AllGive parts answers = ⊥

-- the tree of these parts is joined through, to this text
abbrev pub JoinsThrough : Parts → List ℕ → Type 0
JoinsThrough parts answer = Gives (group parts) answer
