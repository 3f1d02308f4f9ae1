-- Paths through maps, and what is at their ends.
use Rattle.std.proofs.Common.{◌≡◌, ◌≢◌, ◌⊎◌, inl, inr, ℕ, List, [], ◌∷◌, ◌++◌, Option, Some, None, IfSome, option_and_then, refl, sym, ap, ◌∙◌}
use Rattle.std.specs.Prelude.{⊤}
use Rattle.mp_tree.specs.Document.{Document, null, flag, whole, string, list, object, find, IsDocument}
use Rattle.mp_tree.specs.Look.{Path, nothing, an_object, look_of}
use Rattle.mp_tree.proofs.Facts.{IsDocument-find, nothing_or}
use Rattle.mp_pointer.specs.Part.{part}
use Rattle.mp_pointer.proofs.Facts.{child-object}
use Rattle.mp_merge.specs.Application.{target_members, merge_patch, after_patch}
use Rattle.mp_merge.proofs.Application.Looks.{look-target_members}
use Rattle.mp_merge.proofs.Application.ByName.{find-merge_patch_members, IsMap-target_members}
use Rattle.mp_merge.proofs.Clashes.Exchange.{object_above}

-- a map stands at each proper prefix of the path
abbrev pub MapsAbove : Option Document → Path → Type 0
MapsAbove t [] = ⊤
MapsAbove t (n ∷ w) = (look_of t [] ≡ an_object) × MapsAbove (find n (target_members t)) w

-- what is at the end of the path
abbrev pub at_path : Option Document → Path → Option Document
at_path t [] = t
at_path t (n ∷ w) = at_path (find n (target_members t)) w

pub look-at_path : (w r : Path) (t : Option Document) → look_of t (w ++ r) ≡ look_of (at_path t w) r
look-at_path [] r t = refl
look-at_path (n ∷ w) r t = sym (look-target_members n (w ++ r) t) ∙ look-at_path w r (find n (target_members t))

pub look-end : (w : Path) (t : Option Document) → look_of t w ≡ look_of (at_path t w) []
look-end [] t = refl
look-end (n ∷ w) t = sym (look-target_members n w t) ∙ look-end w (find n (target_members t))

pub at_path-push : (s : Path) (n : List ℕ) (t : Option Document) → at_path t (s ++ n ∷ []) ≡ find n (target_members (at_path t s))
at_path-push [] n t = refl
at_path-push (m ∷ s) n t = at_path-push s n (find m (target_members t))

at_path-None : (w : Path) → at_path None w ≡ None
at_path-None [] = refl
at_path-None (n ∷ w) = at_path-None w

pub IsDocument-at_path : (w : Path) (t : Option Document) → IfSome t IsDocument → IfSome (at_path t w) IsDocument
IsDocument-at_path [] t good = good
IsDocument-at_path (n ∷ w) t good = IsDocument-at_path w (find n (target_members t)) (IsDocument-find n (target_members t) (IsMap-target_members t good))

-- ---- maps above

not_longer : (u : Path) (n : List ℕ) (rest : Path) → [] ≡ u ++ n ∷ rest → ⊥
not_longer [] n rest e = cc
not_longer (m ∷ u) n rest e = cc

pub to_maps_above : (w : Path) (t : Option Document) → ((u : Path) (n : List ℕ) (rest : Path) → w ≡ u ++ n ∷ rest → look_of t u ≡ an_object) → MapsAbove t w
to_maps_above [] t above = tt
to_maps_above (n ∷ w) t above = (above [] n w refl, to_maps_above w (find n (target_members t)) (λ u m rest is. look-target_members n u t ∙ above (n ∷ u) m rest (ap (λ v. n ∷ v) is)))

pub from_maps_above : (w : Path) (t : Option Document) → MapsAbove t w → (u : Path) (n : List ℕ) (rest : Path) → w ≡ u ++ n ∷ rest → look_of t u ≡ an_object
from_maps_above [] t above u n rest is = absurd (not_longer u n rest is)
from_maps_above (m ∷ w) t above [] n rest is = above.0
from_maps_above (m ∷ w) t above (k ∷ u) n rest is =
    let first : m ≡ k = cc in
    let later : w ≡ u ++ n ∷ rest = cc in
    ap (λ l. look_of t (l ∷ u)) (sym first) ∙ sym (look-target_members m u t) ∙ from_maps_above w (find m (target_members t)) above.1 u n rest later

-- below what is no map there is nothing
pub nothing_below : (u : Path) (n : List ℕ) (rest : Path) (t : Option Document) → look_of t u ≢ an_object → look_of t (u ++ n ∷ rest) ≡ nothing
nothing_below u n rest t other =
    elim (nothing_or (look_of t (u ++ n ∷ rest))) [ inl none ↦ none | inr here ↦ absurd (other (object_above u n rest t here)) ]

-- the first proper prefix at which there is no map
pub record Gap (t : Option Document) (w : Path) : Type 0 where
  pub front : Path
  pub name : List ℕ
  pub rest : Path
  pub is : w ≡ front ++ name ∷ rest
  pub above : MapsAbove t front
  pub no_map : look_of t front ≢ an_object

gap_here : (n : List ℕ) (w : Path) (t : Option Document) → look_of t [] ≢ an_object → Gap t (n ∷ w)
gap_here n w t other = record { front = []; name = n; rest = w; is = refl; above = tt; no_map = other }

pub maps_or_gap : (w : Path) (t : Option Document) → MapsAbove t w ⊎ Gap t w
maps_or_gap [] t = inl tt
maps_or_gap (n ∷ w) None = inr (gap_here n w None (λ e. cc))
maps_or_gap (n ∷ w) (Some (object ts)) = by (maps_or_gap w (find n ts))
  where
    by : MapsAbove (find n ts) w ⊎ Gap (find n ts) w → MapsAbove (Some (object ts)) (n ∷ w) ⊎ Gap (Some (object ts)) (n ∷ w)
    by (inl maps) = inl (refl, maps)
    by (inr gap) = inr (record { front = n ∷ gap.front; name = gap.name; rest = gap.rest; is = ap (λ u. n ∷ u) gap.is; above = (refl, gap.above); no_map = gap.no_map })
maps_or_gap (n ∷ w) (Some t) = inr (gap_here n w (Some t) (λ e. cc))

-- ---- parts

part-under : (n : List ℕ) (w : Path) (o : Option Document) → ((e : Document) → o ≡ Some e → part e w ≡ at_path (Some e) w) → option_and_then (λ e. part e w) o ≡ at_path o w
part-under n w None later = sym (at_path-None w)
part-under n w (Some e) later = later e refl

pub part-at_path : (w : Path) (d : Document) → MapsAbove (Some d) w → part d w ≡ at_path (Some d) w
part-at_path [] d above = refl
part-at_path (n ∷ w) (object ms) above =
    ap (option_and_then (λ e. part e w)) (child-object n ms)
    ∙ part-under n w (find n ms) (λ e is. part-at_path w e (rw (← is) above.1))
part-at_path (n ∷ w) null above = let never = above.0 in absurd (cc)
part-at_path (n ∷ w) (flag b) above = let never = above.0 in absurd (cc)
part-at_path (n ∷ w) (whole z) above = let never = above.0 in absurd (cc)
part-at_path (n ∷ w) (string s) above = let never = above.0 in absurd (cc)
part-at_path (n ∷ w) (list ds) above = let never = above.0 in absurd (cc)

-- ---- an application

at_path-after : (w : Path) (t p : Option Document) → IfSome t IsDocument → IfSome p IsDocument → MapsAbove p w → at_path (after_patch t p) w ≡ after_patch (at_path t w) (at_path p w)
at_path-after [] t p target good above = refl
at_path-after (n ∷ w) t None target good above = let never = above.0 in absurd (cc)
at_path-after (n ∷ w) t (Some (object ps)) target good above =
    let targets = IsMap-target_members t target in
    ap (λ o. at_path o w) (find-merge_patch_members (target_members t) ps targets good n)
    ∙ at_path-after w (find n (target_members t)) (find n ps) (IsDocument-find n (target_members t) targets) (IsDocument-find n ps good) above.1
at_path-after (n ∷ w) t (Some p) target good above = let never = above.0 in absurd (cc)

pub at_path-merge_patch : (n : List ℕ) (w : Path) (t : Option Document) (p : Document) → IfSome t IsDocument → IsDocument p → MapsAbove (Some p) (n ∷ w)
    → at_path (Some (merge_patch t p)) (n ∷ w) ≡ after_patch (at_path t (n ∷ w)) (at_path (Some p) (n ∷ w))
at_path-merge_patch n w t (object ps) target good above = at_path-after (n ∷ w) t (Some (object ps)) target good above
at_path-merge_patch n w t p target good above = let never = above.0 in absurd (cc)

-- ---- two prefixes of one path

pub data Compared (u w : Path) : Type 0 where
  same : u ≡ w → Compared u w
  longer : (n : List ℕ) (rest : Path) → w ≡ u ++ n ∷ rest → Compared u w
  shorter : (n : List ℕ) (rest : Path) → u ≡ w ++ n ∷ rest → Compared u w

pub compared : (u w r s : Path) → u ++ r ≡ w ++ s → Compared u w
compared [] [] r s e = same refl
compared [] (m ∷ w) r s e = longer m w refl
compared (n ∷ u) [] r s e = shorter n u refl
compared (n ∷ u) (m ∷ w) r s e = deeper (compared u w r s (let later : u ++ r ≡ w ++ s = cc in later))
  where
    first : n ≡ m
    first = cc

    deeper : Compared u w → Compared (n ∷ u) (m ∷ w)
    deeper (same is) = same (ap (λ v. n ∷ v) is ∙ ap (λ k. k ∷ w) first)
    deeper (longer k rest is) = longer k rest (ap (λ v. m ∷ v) is ∙ ap (λ l. l ∷ (u ++ k ∷ rest)) (sym first))
    deeper (shorter k rest is) = shorter k rest (ap (λ v. n ∷ v) is ∙ ap (λ l. l ∷ (w ++ k ∷ rest)) first)
