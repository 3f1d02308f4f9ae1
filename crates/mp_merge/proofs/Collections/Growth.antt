-- What a walk adds to part by part.
use Rattle.std.proofs.Common.{◌≡◌, List, [], ◌++◌, refl, sym, ap, ◌∙◌}
use Rattle.mp_merge.specs.Private.Growth.{GrewBy}

-- where to add nothing changes nothing, and to add one part and another is to add both
module _ {S X : Type 0} (add : S → List X → S) (add_none : (s : S) → add s [] ≡ s) (add_both : (s : S) (xs ys : List X) → add (add s xs) ys ≡ add s (xs ++ ys)) where
  pub grew_by_none : (old : S) (Holds : List X → Type 0) → Holds [] → GrewBy add old old Holds
  grew_by_none old Holds none = ([], sym (add_none old), none)

  -- what is still to be added, added to what is there, gives all that is added
  abbrev pub IsRestOf : S → S → (List X → Type 0) → (List X → Type 0) → Type 0
  IsRestOf before now Left Whole = (rest : List X) → Left rest → GrewBy add before (add now rest) Whole

  pub rest_after_one : (before now later : S) (First Left Both Whole : List X → Type 0) → ((first rest : List X) → First first → Left rest → Both (first ++ rest))
      → IsRestOf before now Both Whole → GrewBy add now later First → IsRestOf before later Left Whole
  rest_after_one before now later First Left Both Whole both whole_rest grew rest others =
      let added = whole_rest (grew.0 ++ rest) (both grew.0 rest grew.2 others) in
      (added.0, ap (λ s. add s rest) grew.1 ∙ add_both now grew.0 rest ∙ added.1, added.2)

  -- if nothing is still to be added
  pub grew_by_all : (before now : S) (Whole : List X → Type 0) → IsRestOf before now (λ rest. rest ≡ []) Whole → GrewBy add before now Whole
  grew_by_all before now Whole rest = let added = rest [] refl in (added.0, sym (add_none now) ∙ added.1, added.2)
