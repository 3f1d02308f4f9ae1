use Rattle.std.proofs.Common.{◌≡◌, ◌∷◌, ◌++◌, ◌∙◌, [], List, ℕ, ap, append_assoc, append-nil, codes, sym}
use Rattle.mp_pointer.specs.Part.{numeral}
use Rattle.mp_texts.specs.Lines.{pointers_text}
use Rattle.mp_texts.proofs.laws.all_places_are_listed.Goals as goal

-- texts that were joined in another order
regroup : (head one number between other at places : List ℕ) → (head ++ (one ++ number ++ between ++ other)) ++ (at ++ places ++ []) ≡ (head ++ one) ++ number ++ between ++ other ++ at ++ places
regroup head one number between other at places =
    let line = one ++ number ++ between ++ other in
    let named = sym (append_assoc head (one ++ number ++ between) other) ∙ ap (λ t. t ++ other) (sym (append_assoc head (one ++ number) between) ∙ ap (λ t. t ++ between) (sym (append_assoc head one number))) in
    ap (λ t. (head ++ line) ++ t) (append-nil (at ++ places)) ∙ sym (append_assoc (head ++ line) at places) ∙ ap (λ t. t ++ at ++ places) named

pub returns : goal.returns
returns c first second place places = regroup (codes "conflict: ") (codes "patches ") (numeral first) (codes " and ") (numeral second) (codes " at ") (pointers_text (place ∷ places))
