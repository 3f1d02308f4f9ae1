-- Where two merge patches clash: their conflicts.
use Rattle.std.specs.Prelude.{◌≢◌, ◌↔◌, List, []}
use Rattle.std.specs.List.{Contains}
use Rattle.std.specs.List.Sorted.{IsStrictlySortedBy}
use Rattle.std.specs.declared.cmp.Ordering.{Ordering}
use Rattle.std.specs.Cmp.Lexicographic.{slice_cmp}
use Rattle.mp_tree.specs.Document.{Document, name_cmp}
use Rattle.mp_tree.specs.Look.{Path, nothing, look}

-- both patches have something at the path, and not the same
pub record Clash (p q : Document) (w : Path) : Type 0 where
  pub first : look p w ≢ nothing
  pub second : look q w ≢ nothing
  pub differ : look p w ≢ look q w

-- there is no clash
abbrev pub Compatible : Document → Document → Type 0
Compatible p q = (w : Path) → ¬ Clash p q w

-- the order of paths: name by name, names by their UTF-8 bytes, and a proper prefix first
abbrev pub path_cmp : Path → Path → Ordering
path_cmp = slice_cmp name_cmp

-- all conflicts of two patches: each clash, once, in the order of paths
pub record AreAllClashes (p q : Document) (places : List Path) : Type 0 where
  pub rising : IsStrictlySortedBy path_cmp places
  pub all : (w : Path) → Contains places w ↔ Clash p q w

-- the patches clash, and these are all their conflicts
pub record AreConflictsOfPair (p q : Document) (places : List Path) : Type 0 where
  pub some : places ≢ []
  pub clashes : AreAllClashes p q places
