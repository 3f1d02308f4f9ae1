-- What is found in a map after one name is set or removed.
use Rattle.std.proofs.Common.{◌≡◌, refl, ap, subst, true}
use Rattle.mp_tree.specs.Document.{is_name, find}
use Rattle.mp_tree.specs.Laws.{EqualMaps, RemovesOneName, SameNames, SetsOneName}
use Rattle.mp_tree.proofs.Maps.Finite.{find-without, IsMap-put, IsMap-without, members_same, find-put_same, find-put_other}
use Rattle.mp_tree.proofs.Maps.Names.{is_name-other, is_name-self, same_name}

pub same_names : SameNames
same_names n m = (same_name n m, λ same. subst (λ k. is_name n k ≡ true) same (is_name-self n))

pub sets_one_name : SetsOneName
sets_one_name n d ms good map = (
  IsMap-put n d ms good map,
  find-put_same n d ms,
  λ m other. find-put_other m n d ms other,
)

pub removes_one_name : RemovesOneName
removes_one_name n ms map = (
  IsMap-without n ms map,
  rw (find-without n n ms map, is_name-self n) refl,
  λ m other. rw (find-without m n ms map, is_name-other m n other) refl,
)

pub equal_maps : EqualMaps
equal_maps ms es map other = (λ same n. ap (find n) same, λ same. members_same ms es map other same)
