-- Places that a line lists, one after the other.
use Rattle.std.proofs.Common.{◌≡◌, ◌<◌, ◌+◌, ◌∷◌, ◌++◌, [], ℕ, List, length, take, get_or, codes, sym, ap, ◌∙◌, append_assoc, append-nil}
use Rattle.std.proofs.lemmas.Grind.{flat_map-append}
use Rattle.std.proofs.lemmas.List.{take_more}
use Rattle.std.specs.List.{flat_map}
use Rattle.mp_pointer.specs.Spelling.{Tokens}
use Rattle.mp_texts.specs.Lines.{pointer_text}

-- each after a comma and a space
abbrev pub behind : List Tokens → List ℕ
behind ws = flat_map (λ u. codes ", " ++ pointer_text u) ws

pub behind-push : (places : List Tokens) (k : ℕ) (w : Tokens) (line : List ℕ) → k < length places → w ≡ get_or places k w → ((line ++ behind (take k places)) ++ codes ", ") ++ pointer_text w ≡ line ++ behind (take (k + 1) places)
behind-push places k w line within is =
    let before = behind (take k places) in
    let last = codes ", " ++ pointer_text w in
    let grown : behind (take (k + 1) places) ≡ before ++ last = ap behind (take_more places k w within ∙ ap (λ v. take k places ++ v ∷ []) (sym is)) ∙ flat_map-append (λ u. codes ", " ++ pointer_text u) (take k places) (w ∷ []) ∙ ap (λ t. before ++ t) (append-nil last) in
    append_assoc (line ++ before) (codes ", ") (pointer_text w) ∙ append_assoc line before last ∙ ap (λ t. line ++ t) (sym grown)
