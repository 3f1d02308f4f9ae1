-- Two lists that grow together, seen alike.
use Rattle.std.proofs.Common.{◌≡◌, length, arith, List, [], ◌∷◌, ◌++◌, map, refl, ap₂, ◌∙◌, sym}
use Rattle.std.proofs.lemmas.List.{map-append}

pub map-push : {A B C : Type 0} (f : A → C) (g : B → C) (xs : List A) (ys : List B) (x : A) (y : B) → map f xs ≡ map g ys → f x ≡ g y → map f (xs ++ x ∷ []) ≡ map g (ys ++ y ∷ [])
map-push f g xs ys x y same one = map-append f xs (x ∷ []) ∙ ap₂ (λ a b. a ++ b ∷ []) same one ∙ sym (map-append g ys (y ∷ []))

pub empty_from_length : {A : Type 0} (xs : List A) → length xs ≡ 0 → xs ≡ []
empty_from_length [] none = refl
empty_from_length (x ∷ xs) none = absurd (omega arith)
