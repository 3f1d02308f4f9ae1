-- What a patch says at each path, and that an application leaves what the patch says, else what the target has.
use Rattle.std.proofs.Common.{◌≡◌, ◌≢◌, ℕ, List, [], ◌∷◌, ◌++◌, Option, Some, None, IfSome, refl, sym, ap, ◌∙◌}
use Rattle.mp_tree.specs.Document.{Document, null, flag, whole, string, list, object, Members, find, IsDocument, IsMap}
use Rattle.mp_tree.specs.Look.{Path, Look, nothing, an_object, plain, look_here, look_of, look}
use Rattle.mp_tree.proofs.Facts.{is_here, IsDocument-find}
use Rattle.mp_merge.specs.Application.{target_members, merge_patch, merge_patch_members, after_patch}
use Rattle.mp_merge.specs.Outcome.{left_by}
use Rattle.mp_merge.proofs.Application.ByName.{find-merge_patch_members, IsMap-target_members}

-- below the root a null removes
abbrev said_here : Document → Look
said_here null = nothing
said_here (flag b) = plain (flag b)
said_here (whole z) = plain (whole z)
said_here (string s) = plain (string s)
said_here (list ds) = plain (list ds)
said_here (object ms) = an_object

-- what a patch carries at a name; one that is no map clears all that stands below
abbrev carried : List ℕ → Document → Option Document
carried n null = Some null
carried n (flag b) = Some null
carried n (whole z) = Some null
carried n (string s) = Some null
carried n (list ds) = Some null
carried n (object ms) = find n ms

-- what a part of a patch says; the part stands below the root, and may be absent
abbrev part_says : Option Document → Path → Option Look
part_says None w = None
part_says (Some p) [] = Some (said_here p)
part_says (Some p) (n ∷ w) = part_says (carried n p) w

-- the look that the result has at the path, or none if the patch leaves the path alone
abbrev pub says : Document → Path → Option Look
says p [] = Some (look_here p)
says p (n ∷ w) = part_says (carried n p) w

abbrev pub or_else : Option Look → Look → Look
or_else None l = l
or_else (Some s) l = s

clears : (w : Path) → part_says (Some null) w ≡ Some nothing
clears [] = refl
clears (n ∷ w) = clears w

-- ---- an application

pub look-target_members : (n : List ℕ) (w : Path) (t : Option Document) → look_of (find n (target_members t)) w ≡ look_of t (n ∷ w)
look-target_members n w None = refl
look-target_members n w (Some (object ts)) = refl
look-target_members n w (Some t) = refl

-- an application looks as what the patch says, else as the target
abbrev LooksAsSaid : Path → Type 0
LooksAsSaid w = (t p : Option Document) → IfSome t IsDocument → IfSome p IsDocument → look_of (after_patch t p) w ≡ or_else (part_says p w) (look_of t w)

look-merge_patch_members : (n : List ℕ) (w : Path) (t : Option Document) (ps : Members) → IfSome t IsDocument → IsMap ps → LooksAsSaid w
    → look_of (find n (merge_patch_members (target_members t) ps)) w ≡ or_else (part_says (find n ps) w) (look_of t (n ∷ w))
look-merge_patch_members n w t ps target good later =
    let targets = IsMap-target_members t target in
    ap (λ o. look_of o w) (find-merge_patch_members (target_members t) ps targets good n)
    ∙ later (find n (target_members t)) (find n ps) (IsDocument-find n (target_members t) targets) (IsDocument-find n ps good)
    ∙ ap (or_else (part_says (find n ps) w)) (look-target_members n w t)

look-after_patch : (w : Path) → LooksAsSaid w
look-after_patch w t None target good = refl
look-after_patch [] t (Some (object ps)) target good = refl
look-after_patch [] t (Some p) target good = refl
look-after_patch (n ∷ w) t (Some (object ps)) target good = look-merge_patch_members n w t ps target good (look-after_patch w)
look-after_patch (n ∷ w) t (Some p) target good = sym (ap (λ s. or_else s (look_of t (n ∷ w))) (clears w))

pub look-merge_patch : (t : Option Document) (p : Document) (w : Path) → IfSome t IsDocument → IsDocument p → look (merge_patch t p) w ≡ or_else (says p w) (look_of t w)
look-merge_patch t (object ps) [] target good = refl
look-merge_patch t (object ps) (n ∷ w) target good = look-merge_patch_members n w t ps target good (look-after_patch w)
look-merge_patch t p [] target good = refl
look-merge_patch t p (n ∷ w) target good = sym (ap (λ s. or_else s (look_of t (n ∷ w))) (clears w))

-- ---- what a patch says if it has something

-- what the look of a patch leaves in the result
abbrev pub left_of : Look → Path → Look
left_of nothing w = nothing
left_of an_object w = an_object
left_of (plain v) w = left_by v w

part_says-has : (w : Path) (n : List ℕ) (u : Path) (p : Option Document) → look_of p w ≢ nothing → part_says p w ≡ Some (left_of (look_of p w) (n ∷ u))
part_says-has w n u None has = absurd (has refl)
part_says-has [] n u (Some (object ps)) has = refl
part_says-has [] n u (Some p) has = refl
part_says-has (m ∷ w) n u (Some (object ps)) has = part_says-has w n u (find m ps) has
part_says-has (m ∷ w) n u (Some p) has = absurd (has refl)

pub says-has : (p : Document) (w : Path) → look p w ≢ nothing → says p w ≡ Some (left_of (look p w) w)
says-has (object ps) [] has = refl
says-has (object ps) (n ∷ w) has = part_says-has w n w (find n ps) has
says-has p [] has = refl
says-has p (n ∷ w) has = absurd (has refl)

-- ---- what it says below a value that is no map

part_says-below : (u : Path) (n : List ℕ) (rest : Path) (p : Option Document) (v : Document) → look_of p u ≡ plain v → part_says p (u ++ n ∷ rest) ≡ Some nothing
part_says-below u n rest None v is = absurd (cc)
part_says-below [] n rest (Some (object ps)) v is = absurd (cc)
part_says-below [] n rest (Some p) v is = clears rest
part_says-below (m ∷ u) n rest (Some (object ps)) v is = part_says-below u n rest (find m ps) v is
part_says-below (m ∷ u) n rest (Some p) v is = absurd (cc)

pub says-below : (p : Document) (u : Path) (n : List ℕ) (rest : Path) (v : Document) → look p u ≡ plain v → says p (u ++ n ∷ rest) ≡ Some nothing
says-below p [] n rest v is = part_says-below [] n rest (Some p) v is
says-below p (m ∷ u) n rest v is = part_says-below (m ∷ u) n rest (Some p) v is

-- ---- if a patch speaks

-- a value of the patch that is no map stands above the path
pub record IsBelowPlain (p : Option Document) (w : Path) : Type 0 where
  pub above : Path
  pub name : List ℕ
  pub rest : Path
  pub value : Document
  pub path : w ≡ above ++ name ∷ rest
  pub stands : look_of p above ≡ plain value

-- a patch has something at the path, or a value that is no map above it, or leaves the path alone
pub data Reach (p : Option Document) (w : Path) (said : Option Look) : Type 0 where
  has : look_of p w ≢ nothing → Reach p w said
  below : IsBelowPlain p w → Reach p w said
  alone : said ≡ None → Reach p w said

below_here : (p : Document) (n : List ℕ) (w : Path) (v : Document) → look_here p ≡ plain v → IsBelowPlain (Some p) (n ∷ w)
below_here p n w v is = record { above = []; name = n; rest = w; value = v; path = refl; stands = is }

part_reach : (w : Path) (p : Option Document) → Reach p w (part_says p w)
part_reach w None = alone refl
part_reach [] (Some p) = has (is_here p)
part_reach (n ∷ w) (Some (object ps)) = inside (part_reach w (find n ps))
  where
    inside : Reach (find n ps) w (part_says (find n ps) w) → Reach (Some (object ps)) (n ∷ w) (part_says (find n ps) w)
    inside (has here) = has here
    inside (below at) = below (record { above = n ∷ at.above; name = at.name; rest = at.rest; value = at.value; path = ap (λ u. n ∷ u) at.path; stands = at.stands })
    inside (alone quiet) = alone quiet
part_reach (n ∷ w) (Some p) = below (below_here p n w p refl)

pub reach : (p : Document) (w : Path) → Reach (Some p) w (says p w)
reach p [] = has (is_here p)
reach p (n ∷ w) = part_reach (n ∷ w) (Some p)
