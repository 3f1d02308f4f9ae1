-- Applying a merge patch (RFC 7396 section 2).
use Rattle.std.specs.Prelude.{List, [], ◌∷◌, ℕ, Option, None, Some}
use Rattle.mp_tree.specs.Document.{Document, null, object, Members, no_members, member, find}
use Rattle.mp_tree.specs.Document.{put, without, depth}

-- the members of a target: none if it is absent or no object
abbrev pub target_members : Option Document → Members
target_members (Some (object ts)) = ts
target_members _ = no_members

-- n is taken out if the patch has null there, and else is set to the merged value
abbrev pub set_or_remove : List ℕ → Document → Document → Members → Members
set_or_remove n null merged ms = without n ms
set_or_remove n p merged ms = put n merged ms

-- MergePatch(target, patch)
abbrev mutual
  pub merge_patch : Option Document → Document → Document
  merge_patch t (object ps) = object (merge_patch_members (target_members t) ps)
  merge_patch t p = p

  -- each name of the patch is changed, and what the patch does not carry stays
  pub merge_patch_members : Members → Members → Members
  merge_patch_members ts no_members = ts
  merge_patch_members ts (member n p ps) = set_or_remove n p (merge_patch (find n ts) p) (merge_patch_members ts ps)

-- each patch of the list applied, in turn, to what those before it left
abbrev pub in_turn : Document → List Document → Document
in_turn d [] = d
in_turn d (p ∷ ps) = in_turn (merge_patch (Some d) p) ps

-- an absent target counts as depth 0
abbrev pub depth_of : Option Document → ℕ
depth_of None = 0
depth_of (Some d) = depth d

-- ---- what is at a name after an application

-- nothing if the patch has null, else the merged value
abbrev pub unless_null : Document → Document → Option Document
unless_null null merged = None
unless_null p merged = Some merged

-- what the target has stays if the patch does not carry the name
abbrev pub after_patch : Option Document → Option Document → Option Document
after_patch t None = t
after_patch t (Some p) = unless_null p (merge_patch t p)
