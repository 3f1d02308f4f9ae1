-- Whether two looks are the same, and what follows if a look is not nothing.
use Rattle.std.proofs.Common.{◌≡◌, ◌≢◌, ◌⊎◌, inl, inr, ℕ, List, Less, cond, Option, Some, None, refl, ap, ◌∙◌, []}
use Rattle.std.proofs.Math.Decide.{map_dec}
use Rattle.std.specs.List.{Contains}
use Rattle.mp_tree.specs.Document.{Document, Members, no_members, member, name_cmp, find, IsBelow}
use Rattle.mp_tree.specs.Look.{Path, Look, nothing, an_object, plain, look, look_of}
use Rattle.mp_tree.proofs.Documents.Decisions.{decide_document}
use Rattle.mp_tree.proofs.Maps.Names.{cases_same}
use Rattle.mp_tree.proofs.Membership.{some_or_all}

decide_look : (l m : Look) → Dec (l ≡ m)
decide_look nothing nothing = yes refl
decide_look an_object an_object = yes refl
decide_look (plain v) (plain u) = map_dec (ap plain) (λ same. cc) (decide_document v u)
decide_look other m = no (λ same. cc)

-- looks that do not differ are the same
pub same_look : (l m : Look) → (l ≢ m → ⊥) → l ≡ m
same_look l m never = elim (decide_look l m) [ yes same ↦ same | no other ↦ absurd (never other) ]

pub nothing_or : (l : Look) → (l ≡ nothing) ⊎ (l ≢ nothing)
nothing_or nothing = inl refl
nothing_or other = inr (λ same. cc)

-- some of the documents has something at the path, or none has
abbrev pub Speaks : List Document → Path → Type 0
Speaks ds w = (d : Document) × Contains ds d × (look d w ≢ nothing)

pub speaks_or_silent : (ds : List Document) (w : Path) → Speaks ds w ⊎ ((d : Document) → Contains ds d → look d w ≡ nothing)
speaks_or_silent ds w =
    some_or_all (λ d. look d w ≢ nothing) (λ d. look d w ≡ nothing) (λ d. elim (nothing_or (look d w)) [ inl none ↦ inr none | inr has ↦ inl has ]) ds

-- what has a look is there
pub some_part : (o : Option Document) → look_of o [] ≢ nothing → (z : Document) × (o ≡ Some z)
some_part None here = absurd (here refl)
some_part (Some z) here = (z, refl)

-- a name that the members have is above each name that is below them all
pub name_above : (n k : List ℕ) (w : Path) (ps : Members) → IsBelow n ps → look_of (find k ps) w ≢ nothing → name_cmp n k ≡ Less
name_above n k w no_members below here = absurd (here refl)
name_above n k w (member m p ps) below here =
    cases_same k m
    (λ same. ap (name_cmp n) same ∙ below.0)
    (λ other. name_above n k w ps below.1 (λ none. here (ap (λ b. look_of (cond b (Some p) (find k ps)) w) other ∙ none)))
