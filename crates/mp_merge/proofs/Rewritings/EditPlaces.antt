-- Edit places, by what the application leaves.
use Rattle.std.proofs.Common.{◌≡◌, ◌≢◌, ◌⊎◌, inl, inr, ℕ, List, [], ◌∷◌, ◌++◌, Some, refl, sym, ap, ◌∙◌, append-nil, append_assoc}
use Rattle.mp_tree.specs.Document.{Document, null, flag, whole, string, list, object, IsDocument}
use Rattle.mp_tree.specs.Look.{Path, Look, nothing, an_object, plain, look}
use Rattle.mp_merge.specs.Application.{merge_patch}
use Rattle.mp_merge.specs.EditPlace.{IsEditPlace, Changes, sets, clears, enters}
use Rattle.mp_merge.specs.Outcome.{left_by}
use Rattle.mp_merge.proofs.Clashes.Exchange.{object_above}
use Rattle.mp_tree.proofs.Facts.{same_look}
use Rattle.mp_merge.proofs.Outcome.{says-below_plain}
use Rattle.mp_merge.proofs.Paths.Maps.{MapsAbove, to_maps_above, from_maps_above, nothing_below, Gap, maps_or_gap}
use Rattle.mp_merge.proofs.Application.Looks.{says, or_else, left_of, look-merge_patch, says-has, Reach, has, below, alone, reach}

-- both have maps above, the patch has something there, and leaves another look than the document's
pub record Differs (d p : Document) (w : Path) : Type 0 where
  pub maps : MapsAbove (Some d) w
  pub patch_maps : MapsAbove (Some p) w
  pub speaks : look p w ≢ nothing
  pub differs : look d w ≢ left_of (look p w) w

-- ---- an edit place is where that holds

left_by-value : (v : Document) (w : Path) → (v ≢ null) ⊎ (w ≡ []) → left_by v w ≡ plain v
left_by-value v [] here = refl
left_by-value null (n ∷ w) (inl other) = absurd (other refl)
left_by-value null (n ∷ w) (inr root) = absurd (cc)
left_by-value (flag b) (n ∷ w) here = refl
left_by-value (whole z) (n ∷ w) here = refl
left_by-value (string s) (n ∷ w) here = refl
left_by-value (list ds) (n ∷ w) here = refl
left_by-value (object ms) (n ∷ w) here = refl

left_by-null : (w : Path) → w ≢ [] → left_by null w ≡ nothing
left_by-null [] deeper = absurd (deeper refl)
left_by-null (n ∷ w) deeper = refl

module _ (d p : Document) (w : Path) where
  spoken : (l : Look) → look p w ≡ l → l ≢ nothing → look p w ≢ nothing
  spoken l is here none = here (sym is ∙ none)

  other_than : (l m : Look) → look p w ≡ l → left_of l w ≡ m → look d w ≢ m → look d w ≢ left_of (look p w) w
  other_than l m is left other same = other (same ∙ ap (λ k. left_of k w) is ∙ left)

  pub differs_at_edit : IsEditPlace d p w → Differs d p w
  differs_at_edit place = record {
    maps = to_maps_above w (Some d) (λ u n rest is. (place.above u n rest is).0);
    patch_maps = to_maps_above w (Some p) (λ u n rest is. (place.above u n rest is).1);
    speaks = speaks place.here;
    differs = differs place.here;
  }
    where
      speaks : Changes d p w → look p w ≢ nothing
      speaks (sets v is real other) = spoken (plain v) is (λ e. cc)
      speaks (clears is deeper other) = spoken (plain null) is (λ e. cc)
      speaks (enters is other) = spoken an_object is (λ e. cc)

      differs : Changes d p w → look d w ≢ left_of (look p w) w
      differs (sets v is real other) = other_than (plain v) (plain v) is (left_by-value v w real) other
      differs (clears is deeper other) = other_than (plain null) nothing is (left_by-null w deeper) other
      differs (enters is other) = other_than an_object an_object is refl other

value_or_null : (d p : Document) (v : Document) (w : Path) → look p w ≡ plain v → look d w ≢ left_by v w → Changes d p w
value_or_null d p v [] is other = sets v is (inr refl) other
value_or_null d p null (n ∷ w) is other = clears is (λ e. cc) other
value_or_null d p (flag b) (n ∷ w) is other = sets (flag b) is (inl (λ e. cc)) other
value_or_null d p (whole z) (n ∷ w) is other = sets (whole z) is (inl (λ e. cc)) other
value_or_null d p (string s) (n ∷ w) is other = sets (string s) is (inl (λ e. cc)) other
value_or_null d p (list ds) (n ∷ w) is other = sets (list ds) is (inl (λ e. cc)) other
value_or_null d p (object ms) (n ∷ w) is other = sets (object ms) is (inl (λ e. cc)) other

changes_here : (d p : Document) (w : Path) (l : Look) → look p w ≡ l → l ≢ nothing → look d w ≢ left_of l w → Changes d p w
changes_here d p w nothing is speaks other = absurd (speaks refl)
changes_here d p w an_object is speaks other = enters is other
changes_here d p w (plain v) is speaks other = value_or_null d p v w is other

pub edit_where_differs : (d p : Document) (w : Path) → Differs d p w → IsEditPlace d p w
edit_where_differs d p w here = record {
  above = λ u n rest is. (from_maps_above w (Some d) here.maps u n rest is, from_maps_above w (Some p) here.patch_maps u n rest is);
  here = changes_here d p w (look p w) refl here.speaks here.differs;
}

-- ---- no edit place lies below another

pub edit_places_apart : (d p : Document) (u w : Path) (n : List ℕ) (rest : Path) → IsEditPlace d p u → IsEditPlace d p w → w ≡ u ++ n ∷ rest → ⊥
edit_places_apart d p u w n rest one two is = by one.here
  where
    by : Changes d p u → ⊥
    by (sets v there real other) = let differ = sym there ∙ (two.above u n rest is).1 in cc
    by (clears there under other) = let differ = sym there ∙ (two.above u n rest is).1 in cc
    by (enters there other) = other (two.above u n rest is).0

-- ---- outside of the edit places an application changes nothing

-- no prefix of the path is an edit place
abbrev NoEditTo : Document → Document → Path → Type 0
NoEditTo d p w = (u rest : Path) → w ≡ u ++ rest → ¬ IsEditPlace d p u

maps_to_speech : (p : Document) (w : Path) → look p w ≢ nothing → MapsAbove (Some p) w
maps_to_speech p w speaks = to_maps_above w (Some p) (λ u n rest is. object_above u n rest (Some p) (λ none. speaks (ap (look p) is ∙ none)))

-- if the patch has something and the document has no map above it, the document's first gap is an edit place
no_gap : (d p : Document) (w : Path) → look p w ≢ nothing → (gap : Gap (Some d) w) → IsEditPlace d p gap.front
no_gap d p w speaks gap =
    let patch : look p gap.front ≡ an_object = from_maps_above w (Some p) (maps_to_speech p w speaks) gap.front gap.name gap.rest gap.is in
    edit_where_differs d p gap.front (record {
      maps = gap.above;
      patch_maps = maps_to_speech p gap.front (λ none. let differ = sym patch ∙ none in cc);
      speaks = λ none. let differ = sym patch ∙ none in cc;
      differs = λ same. gap.no_map (same ∙ ap (λ l. left_of l gap.front) patch);
    })

-- if no prefix is an edit place the document looks as the patch leaves it
looks_as_left : (d p : Document) (w : Path) → look p w ≢ nothing → NoEditTo d p w → look d w ≡ left_of (look p w) w
looks_as_left d p w speaks none = by (maps_or_gap w (Some d))
  where
    whole_path : w ≡ w ++ []
    whole_path = sym (append-nil w)

    by : MapsAbove (Some d) w ⊎ Gap (Some d) w → look d w ≡ left_of (look p w) w
    by (inl maps) =
        same_look (look d w) (left_of (look p w) w) (λ other.
        none w [] whole_path (edit_where_differs d p w (record { maps = maps; patch_maps = maps_to_speech p w speaks; speaks = speaks; differs = other })))
    by (inr gap) = absurd (none gap.front (gap.name ∷ gap.rest) gap.is (no_gap d p w speaks gap))

pub left_by-no_map : (v : Document) (w : Path) → left_by v w ≢ an_object
left_by-no_map v [] e = cc
left_by-no_map null (n ∷ w) e = cc
left_by-no_map (flag b) (n ∷ w) e = cc
left_by-no_map (whole z) (n ∷ w) e = cc
left_by-no_map (string s) (n ∷ w) e = cc
left_by-no_map (list ds) (n ∷ w) e = cc
left_by-no_map (object ms) (n ∷ w) e = cc

pub stays_without_edit : (d p : Document) → IsDocument d → IsDocument p → (w : Path) → NoEditTo d p w → look (merge_patch (Some d) p) w ≡ look d w
stays_without_edit d p good patch w none = look-merge_patch (Some d) p w good patch ∙ by (reach p w)
  where
    by : Reach (Some p) w (says p w) → or_else (says p w) (look d w) ≡ look d w
    by (has here) = ap (λ s. or_else s (look d w)) (says-has p w here) ∙ sym (looks_as_left d p w here none)
    by (below under) =
        let value : look p under.above ≢ nothing = λ never. let differ = sym under.stands ∙ never in cc in
        let left = looks_as_left d p under.above value (λ u rest is. none u (rest ++ under.name ∷ under.rest) (under.path ∙ ap (λ v. v ++ under.name ∷ under.rest) is ∙ append_assoc u rest (under.name ∷ under.rest))) ∙ ap (λ l. left_of l under.above) under.stands in
        let empty = nothing_below under.above under.name under.rest (Some d) (λ map. left_by-no_map under.value under.above (sym left ∙ map)) in
        ap (λ s. or_else s (look d w)) (says-below_plain p w under) ∙ sym (ap (look d) under.path ∙ empty)
    by (alone quiet) = ap (λ s. or_else s (look d w)) quiet

-- at an edit place the application leaves another look
pub look-left : (d p : Document) → IsDocument d → IsDocument p → (w : Path) → look p w ≢ nothing → look (merge_patch (Some d) p) w ≡ left_of (look p w) w
look-left d p good patch w speaks = look-merge_patch (Some d) p w good patch ∙ ap (λ s. or_else s (look d w)) (says-has p w speaks)

pub no_edit_if_same : (d p : Document) → IsDocument d → IsDocument p → merge_patch (Some d) p ≡ d → (w : Path) → ¬ IsEditPlace d p w
no_edit_if_same d p good patch same w place =
    let here = differs_at_edit d p w place in
    here.differs (ap (λ e. look e w) (sym same) ∙ look-left d p good patch w here.speaks)
