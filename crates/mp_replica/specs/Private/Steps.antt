-- What one call does to what is held. Only private clauses cite it.
use Rattle.std.specs.Prelude.{◌≡◌, ◌↔◌, ℕ, Bool, IsTrue, List, [], ◌∷◌, Option, None, Some, IfSome, option_map, ⊤}
use Rattle.mp_tree.specs.Document.{Document, IsDocument}
use Rattle.mp_tree.specs.Look.{Path}
use Rattle.mp_tree.specs.View.{document}
use Rattle.mp_tree.specs.declared.doc.Doc.{Doc}
use Rattle.mp_merge.specs.Clash.{AreAllClashes, Compatible}
use Rattle.mp_merge.specs.Join.{IsJoin, JoinResumes}
use Rattle.mp_merge.specs.Within.{AreFirstConflicts}
use Rattle.mp_replica.specs.Held.{AreFirstPlaces, HeldPlaces, Joins}

-- a join, and a patch that was received and is not joined whole yet
pub record HeldJoin : Type 0 where
  pub joined : Option Doc
  pub pending : Option Doc

-- what is pending clashes with nothing that is joined
abbrev pub Fits : Option Document → Option Document → Type 0
Fits joined None = ⊤
Fits joined (Some p) = IfSome joined (Compatible p)

-- both have the same joins
abbrev pub SameJoins : Option Document → Option Document → Option Document → Option Document → Type 0
SameJoins joined pending joined' pending' = (j : Document) → IsDocument j → Joins joined' pending' j ↔ Joins joined pending j

-- what is pending fits, and if it is joined already, the join is that of what is joined alone
abbrev pub IsHeld : Option Document → Option Document → Bool → Type 0
IsHeld joined pending is_joined = Fits joined pending × (IsTrue is_joined → SameJoins joined pending joined None)

-- the join with a patch: the first patch is its own
abbrev pub GrewTo : Option Document → Document → Option Document → Type 0
GrewTo None p now = now ≡ Some p
GrewTo (Some b) p now = (j : Document) × (now ≡ Some j) × IsJoin (b ∷ p ∷ []) j

-- what is left if memory ran out, as it can't with the first patch
abbrev pub Regrows : Option Document → Document → Option Document → Type 0
Regrows None p now = ⊥
Regrows (Some b) p now = (n : Document) × (now ≡ Some n) × JoinResumes b p n

abbrev pub JoinsStay : HeldJoin → HeldJoin → Type 0
JoinsStay r s =
    SameJoins (option_map document r.joined) (option_map document r.pending) (option_map document s.joined) (option_map document s.pending)

-- the patch fits what was joined, and is received: it is pending, and may be joined already
pub record IsOffered (r : HeldJoin) (p : Doc) (s : HeldJoin) : Type 0 where
  pub fits : IfSome (option_map document r.joined) (Compatible (document p))
  pub pending : s.pending ≡ Some p
  pub joins : SameJoins (option_map document r.joined) (Some (document p)) (option_map document s.joined) (option_map document s.pending)

-- all conflicts of a patch with the join, and there are some
abbrev pub ClashesWithJoin : Option Document → Document → List Path → Type 0
ClashesWithJoin None p places = ⊥
ClashesWithJoin (Some k) p places = (¬ Compatible p k) × AreAllClashes p k places

-- the first of all conflicts of a patch with the join, and there are some
abbrev pub HoldsClashesWithJoin : Option Document → Document → HeldPlaces → Type 0
HoldsClashesWithJoin joined p held = (all : List Path) × ClashesWithJoin joined p all × AreFirstPlaces all held

-- the first conflicts of a patch with the join within a limit, and how many there are; without a join there is none
abbrev pub FirstClashesWithJoin : ℕ → Option Document → Document → List Path → ℕ → Type 0
FirstClashesWithJoin limit None p places total = (places ≡ []) × (total ≡ 0)
FirstClashesWithJoin limit (Some k) p places total = AreFirstConflicts limit p k places total
