-- Texts in an array, as a program makes an input of texts that it has (RFC 8259 sections 2 and 5).
use Rattle.std.specs.Prelude.{◌≡◌, ◌⊎◌, ℕ, List, [], ◌∷◌, ◌++◌, codes}
use Rattle.std.specs.List.{All, AllZip, flat_map}

abbrev pub space : ℕ
space = 32

abbrev pub tab : ℕ
tab = 9

abbrev pub line_feed : ℕ
line_feed = 10

abbrev pub carriage_return : ℕ
carriage_return = 13

-- white space (section 2)
abbrev pub IsSpace : ℕ → Type 0
IsSpace c = (c ≡ space) ⊎ ((c ≡ tab) ⊎ ((c ≡ line_feed) ⊎ (c ≡ carriage_return)))

-- the text, with white space before and after it
pub record IsSpaced (text spaced : List ℕ) : Type 0 where
  pub before : List ℕ
  pub after : List ℕ
  pub space_before : All IsSpace before
  pub space_after : All IsSpace after
  pub is : spaced ≡ before ++ (text ++ after)

-- the texts in brackets, with a comma between two
abbrev pub in_brackets : List (List ℕ) → List ℕ
in_brackets [] = codes "[]"
in_brackets (s ∷ ss) = codes "[" ++ s ++ flat_map (λ t. codes "," ++ t) ss ++ codes "]"

-- an array of the texts, each with white space around it, and white space around the array
pub record IsArrayOf (texts : List (List ℕ)) (bytes : List ℕ) : Type 0 where
  pub spaced : List (List ℕ)
  pub are : AllZip IsSpaced texts spaced
  pub is : IsSpaced (in_brackets spaced) bytes
