-- What the walk that unites two patches computes, and what it reports. Only private clauses cite it.
use Rattle.std.specs.Prelude.{◌≡◌, ◌≢◌, ℕ, Bool, true, false, List, Option, None, Some, IfSome}
use Rattle.mp_tree.specs.Document.{Document, null, flag, whole, string, list, object, Members, no_members, member, find}
use Rattle.mp_tree.specs.Document.{put, is_name}
use Rattle.mp_tree.specs.Look.{Path, nothing, look, look_of}
use Rattle.mp_merge.specs.Application.{target_members}
use Rattle.mp_merge.specs.Clash.{Compatible}

-- what was joined before stays, if there is something
abbrev pub earlier_or : Option Document → Document → Document
earlier_or None p = p
earlier_or (Some j) p = j

-- an object is joined name by name
abbrev pub union_over : Option Document → Members → Members → Document
union_over None ps both = object ps
union_over (Some (object js)) ps both = object both
union_over (Some null) ps both = null
union_over (Some (flag b)) ps both = flag b
union_over (Some (whole z)) ps both = whole z
union_over (Some (string s)) ps both = string s
union_over (Some (list ds)) ps both = list ds

-- the patch set next to what was joined before, which may be absent: the names of both, and what both carry stays
abbrev mutual
  pub union_with : Document → Option Document → Document
  union_with null j = earlier_or j null
  union_with (flag b) j = earlier_or j (flag b)
  union_with (whole z) j = earlier_or j (whole z)
  union_with (string s) j = earlier_or j (string s)
  union_with (list ds) j = earlier_or j (list ds)
  union_with (object ps) j = union_over j ps (union_members ps (target_members j))

  pub union_members : Members → Members → Members
  union_members no_members js = js
  union_members (member n p ps) js = put n (union_with p (find n js)) (union_members ps js)

-- the join of two compatible patches
abbrev pub union : Document → Document → Document
union p j = union_with p (Some j)

-- whether the patch is compatible with what was joined before, which may be absent; if it is, that is their join now
abbrev pub UnitesTo : Bool → Document → Option Document → Document → Type 0
UnitesTo true p j now = IfSome j (Compatible p) × (now ≡ union_with p j)
UnitesTo false p j now = ¬ IfSome j (Compatible p)

-- the same at the name n, and every other name is as it was
abbrev pub UnitesAt : Bool → List ℕ → Document → Members → Members → Type 0
UnitesAt united n p js now = (d : Document) × UnitesTo united p (find n js) d × (now ≡ put n d js)

-- ---- what the walk leaves if memory ran out, and when it takes none

-- if the patch was compatible with what was joined before, it is with what is there now, and their unions are the same;
-- each of the two may be absent
abbrev pub Reunites : Document → Option Document → Option Document → Type 0
Reunites p before now = IfSome before (Compatible p) → IfSome now (Compatible p) × (union_with p now ≡ union_with p before)

-- the same at the name n, and every other name is as it was
pub record ReunitesAt (n : List ℕ) (p : Document) (before now : Members) : Type 0 where
  pub others : (m : List ℕ) → is_name m n ≡ false → find m now ≡ find m before
  pub here : Reunites p (find n before) (find n now)

-- the patch has something at no path at which what was joined before, which may be absent, has nothing
abbrev pub AddsNothingAt : Option Document → Document → Type 0
AddsNothingAt before p = (w : Path) → look p w ≢ nothing → look_of before w ≢ nothing
