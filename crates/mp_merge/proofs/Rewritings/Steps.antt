-- An operation that leaves a value, or nothing, at a place leads to the document with that place set, and is not refused.
use Rattle.std.proofs.Common.{◌≡◌, ◌≢◌, ◌≤◌, ◌+◌, inr, ℕ, List, [], ◌∷◌, ◌++◌, length, Option, Some, None, IfSome, refl, sym, ap, ◌∙◌, subst, append_assoc}
use Rattle.mp_tree.specs.Document.{Document, null, flag, whole, string, list, object, Members, find, IsDocument, depth, depth_limit}
use Rattle.mp_tree.specs.Look.{Path, Look, nothing, an_object, plain, look, look_of}
use Rattle.mp_tree.proofs.Facts.{is_here, some_part}
use Rattle.mp_pointer.specs.Part.{part}
use Rattle.mp_patch.specs.Operation.{Operation, add, remove, replace, ChangesContainer, AddsTo, to_map, RemovesFrom, from_map, Step}
use Rattle.mp_patch.specs.Refusal.{HasNoPlace, LacksPlace}
use Rattle.mp_patch.specs.Run.{IsRefused}
use Rattle.mp_patch.specs.Laws.{OperationsAreTaken}
use Rattle.mp_merge.specs.Application.{target_members}
use Rattle.mp_merge.specs.Rewriting.{edit_to}
use Rattle.mp_merge.proofs.Rewritings.ChangedPath.{with_name, with_at, at_path-with_at, maps-with_at, made, made_is, differ_at, with_at-push}
use Rattle.mp_merge.proofs.Paths.Maps.{MapsAbove, at_path, at_path-push, look-end, to_maps_above, from_maps_above, part-at_path}
use Rattle.mp_pointer.proofs.Facts.{some_last}

-- ---- parts and looks

is_map : (o : Option Document) → look_of o [] ≡ an_object → o ≡ Some (object (target_members o))
is_map None is = absurd (cc)
is_map (Some null) is = absurd (cc)
is_map (Some (flag b)) is = absurd (cc)
is_map (Some (whole z)) is = absurd (cc)
is_map (Some (string s)) is = absurd (cc)
is_map (Some (list ds)) is = absurd (cc)
is_map (Some (object ms)) is = refl

module _ (x : Document) (good : IsDocument x) where
  -- what is at the end of a path under maps
  part_there : (w : Path) → MapsAbove (Some x) w → look x w ≢ nothing → (z : Document) × (part x w ≡ Some z) × (at_path (Some x) w ≡ Some z)
  part_there w maps here =
      let z = some_part (at_path (Some x) w) (λ none. here (look-end w (Some x) ∙ none)) in
      (z.0, part-at_path w x maps ∙ z.1, z.1)

  -- the map that has the last name
  module _ (s : Path) (n : List ℕ) (maps : MapsAbove (Some x) (s ++ n ∷ [])) where
    maps_front : MapsAbove (Some x) s
    maps_front = to_maps_above s (Some x) (λ u m rest is. from_maps_above (s ++ n ∷ []) (Some x) maps u m (rest ++ n ∷ []) (ap (λ v. v ++ n ∷ []) is ∙ append_assoc u (m ∷ rest) (n ∷ [])))

    abbrev holder : Members
    holder = target_members (at_path (Some x) s)

    pub map_there : at_path (Some x) s ≡ Some (object holder)
    map_there = is_map (at_path (Some x) s) (sym (look-end s (Some x)) ∙ from_maps_above (s ++ n ∷ []) (Some x) maps s n [] refl)

    -- it is what changes
    changes_map : (Change : List ℕ → Document → Document → Type 0) (v : Option Document) → Change n (object holder) (object (with_name n v holder))
        → ChangesContainer Change (s ++ n ∷ []) x (made (with_at (s ++ n ∷ []) v (Some x)))
    changes_map Change v changed =
        let after = object (with_name n v holder) in
        let y = made (with_at s (Some after) (Some x)) in
        let there : with_at s (Some after) (Some x) ≡ Some y = made_is s after (Some x) in
        let done : ChangesContainer Change (s ++ n ∷ []) x y = record {
          container = s;
          last = n;
          is = refl;
          before = object holder;
          after = after;
          stood = part-at_path s x maps_front ∙ map_there;
          stands = part-at_path s y (subst (λ o. MapsAbove o s) there (maps-with_at s (Some after) (Some x) good)) ∙ ap (λ o. at_path o s) (sym there) ∙ at_path-with_at s (Some after) (Some x) good;
          changed = changed;
          only = differ_at s after x (object holder) good maps_front map_there;
        } in
        subst (λ o. ChangesContainer Change (s ++ n ∷ []) x (made o)) (sym (with_at-push s n v (Some x))) done

-- ---- each operation

-- a value that fits is not refused where the maps above it are there
place_there : (x : Document) (w : Path) → MapsAbove (Some x) w → ¬ HasNoPlace x w
place_there x w maps (s, n, is, lacks) =
    let map = is_map (at_path (Some x) s) (sym (look-end s (Some x)) ∙ from_maps_above w (Some x) maps s n [] is) in
    let front = to_maps_above s (Some x) (λ u m rest begins. from_maps_above w (Some x) maps u m (rest ++ n ∷ []) (is ∙ ap (λ r. r ++ n ∷ []) begins ∙ append_assoc u (m ∷ rest) (n ∷ []))) in
    subst (LacksPlace n) (part-at_path s x front ∙ map) lacks

adds_freely : OperationsAreTaken → (x : Document) (w : Path) (v : Document) → MapsAbove (Some x) w → length w + depth v ≤ depth_limit → ¬ IsRefused x (add w v)
adds_freely taken x w v maps fits = (taken x).adds w v (place_there x w maps) fits

abbrev Leads : Document → Operation → Document → Type 0
Leads x o y = ¬ IsRefused x o × Step x o y

-- the place may be taken up, and what is left there fits
pub record Fits (x : Document) (w : Path) (v : Option Document) : Type 0 where
  pub good : IsDocument x
  pub maps : MapsAbove (Some x) w
  pub within : IfSome v (λ c. length w + depth c ≤ depth_limit)
  pub removed : v ≡ None → (w ≢ []) × (look x w ≢ nothing)

module _ (taken : OperationsAreTaken) (x : Document) (w : Path) where
  adds : (v : Document) → Fits x w (Some v) → look x w ≡ nothing → Leads x (add w v) (made (with_at w (Some v) (Some x)))
  adds v fits none =
      let end = some_last w (λ root. is_here x (ap (look x) (sym root) ∙ none)) in (
        adds_freely taken x w v fits.maps fits.within,
        inr (subst (λ u. ChangesContainer (AddsTo v) u x (made (with_at u (Some v) (Some x)))) (sym end.2)
            (changes_map x fits.good end.0 end.1 (subst (MapsAbove (Some x)) end.2 fits.maps) (AddsTo v) (Some v) (to_map (holder x fits.good end.0 end.1 (subst (MapsAbove (Some x)) end.2 fits.maps)) refl refl))),
      )

  replaces : (v : Document) → Fits x w (Some v) → look x w ≢ nothing → Leads x (replace w v) (made (with_at w (Some v) (Some x)))
  replaces v fits here =
      let z = part_there x fits.good w fits.maps here in
      let y = made (with_at w (Some v) (Some x)) in
      let there = made_is w v (Some x) in (
        (taken x).replaces w z.0 v z.1 fits.within,
        (
          (z.0, z.1),
          part-at_path w y (subst (λ o. MapsAbove o w) there (maps-with_at w (Some v) (Some x) fits.good)) ∙ ap (λ o. at_path o w) (sym there) ∙ at_path-with_at w (Some v) (Some x) fits.good,
          differ_at w v x z.0 fits.good fits.maps z.2,
        ),
      )

  removes : Fits x w None → Leads x (remove w) (made (with_at w None (Some x)))
  removes fits =
      let left = fits.removed refl in
      let z = part_there x fits.good w fits.maps left.1 in
      let end = some_last w left.0 in
      let maps = subst (MapsAbove (Some x)) end.2 fits.maps in
      let found : find end.1 (holder x fits.good end.0 end.1 maps) ≡ Some z.0 = sym (at_path-push end.0 end.1 (Some x)) ∙ ap (at_path (Some x)) (sym end.2) ∙ z.2 in (
        (taken x).removes w z.0 z.1 left.0,
        subst (λ u. ChangesContainer RemovesFrom u x (made (with_at u None (Some x)))) (sym end.2)
            (changes_map x fits.good end.0 end.1 maps RemovesFrom None (from_map (holder x fits.good end.0 end.1 maps) z.0 found refl refl)),
      )

  -- the operation that leaves it there
  pub leaves : (v : Option Document) → Fits x w v → Leads x (edit_to w (look x w) v) (made (with_at w v (Some x)))
  leaves None fits = removes fits
  leaves (Some v) fits = by (look x w) refl
    where
      by : (l : Look) → look x w ≡ l → Leads x (edit_to w l (Some v)) (made (with_at w (Some v) (Some x)))
      by nothing is = adds v fits is
      by an_object is = replaces v fits (λ none. let other = sym is ∙ none in cc)
      by (plain u) is = replaces v fits (λ none. let other = sym is ∙ none in cc)
