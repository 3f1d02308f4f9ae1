-- The edits of a document and a patch, taken in any order, lead to the application.
use Rattle.std.proofs.Common.{◌↔◌, ◌≡◌, ◌≢◌, ◌≤◌, ◌+◌, ◌⊎◌, inl, inr, ℕ, List, [], ◌∷◌, ◌++◌, map, length, Option, Some, None, IfSome, refl, sym, ap, ◌∙◌, subst, arith, append_assoc, append-nil}
use Rattle.std.specs.List.{Contains}
use Rattle.mp_tree.specs.Document.{Document, null, flag, whole, string, list, object, find, IsDocument, depth, depth_limit}
use Rattle.mp_tree.specs.Look.{Path, nothing, an_object, look, look_of}
use Rattle.mp_tree.proofs.Facts.{equal_looks, Contains-nil, Contains-head, Contains-tail, Contains-cases, same_look}
use Rattle.mp_pointer.specs.Part.{part}
use Rattle.mp_pointer.specs.Spelling.{BeginsWith}
use Rattle.mp_patch.specs.Laws.{OperationsAreTaken}
use Rattle.mp_patch.specs.Operation.{Step}
use Rattle.mp_patch.specs.Run.{IsRefused, Runs}
use Rattle.mp_merge.specs.Application.{target_members, merge_patch, merge_patch_members, unless_null, after_patch, depth_of}
use Rattle.mp_merge.specs.EditPlace.{IsEditPlace}
use Rattle.mp_merge.specs.Laws.{EditsInAnyOrder, RewritingRuns}
use Rattle.mp_merge.specs.Rewriting.{part_left, edit_to, edit, HasNoRepeats}
use Rattle.mp_merge.proofs.Application.ByName.{IsDocument-merge_patch}
use Rattle.mp_merge.proofs.Application.Depth.{depth-find, depth-merge_patch}
use Rattle.mp_merge.proofs.Rewritings.ChangedPath.{with_at, IsDocument-with_at, look-with_at, look-elsewhere, made}
use Rattle.mp_merge.proofs.Rewritings.EditPlaces.{Differs, differs_at_edit, edit_places_apart, stays_without_edit, look-left}
use Rattle.mp_merge.proofs.Rewritings.Steps.{Fits, leaves}
use Rattle.mp_merge.proofs.Rewritings.Guards.{guards_run}
use Rattle.mp_merge.proofs.Paths.Maps.{MapsAbove, at_path, look-at_path, look-end, to_maps_above, IsDocument-at_path, part-at_path, at_path-merge_patch, Compared, same, longer, shorter, compared}
use Rattle.mp_merge.proofs.Rewritings.Unique.{no_repeats}
use Rattle.mp_merge.proofs.Application.Looks.{left_of}

-- ---- what an edit leaves is what the application has there

no_members_there : (t : Option Document) → look_of t [] ≢ an_object → target_members t ≡ target_members None
no_members_there None other = refl
no_members_there (Some null) other = refl
no_members_there (Some (flag b)) other = refl
no_members_there (Some (whole z)) other = refl
no_members_there (Some (string s)) other = refl
no_members_there (Some (list ds)) other = refl
no_members_there (Some (object ts)) other = absurd (other refl)

-- an application to what is no map is one to nothing
abbrev NoMapUnder : Option Document → Document → Type 0
NoMapUnder t q = look q [] ≡ an_object → look_of t [] ≢ an_object

merge_patch-fresh : (t : Option Document) (q : Document) → NoMapUnder t q → merge_patch t q ≡ merge_patch None q
merge_patch-fresh t null other = refl
merge_patch-fresh t (flag b) other = refl
merge_patch-fresh t (whole z) other = refl
merge_patch-fresh t (string s) other = refl
merge_patch-fresh t (list ds) other = refl
merge_patch-fresh t (object ps) other = ap (λ ts. object (merge_patch_members ts ps)) (no_members_there t (other refl))

part_left-below : (n : List ℕ) (w : Path) (t o : Option Document) → ((q : Document) → o ≡ Some q → NoMapUnder t q) → look_of o [] ≢ nothing → after_patch t o ≡ part_left (n ∷ w) o
part_left-below n w t None fresh here = absurd (here refl)
part_left-below n w t (Some q) fresh here = ap (unless_null q) (merge_patch-fresh t q (fresh q refl))

module _ (d p : Document) (good : IsDocument d) (patch : IsDocument p) where
  abbrev result : Document
  result = merge_patch (Some d) p

  result_good : IsDocument result
  result_good = IsDocument-merge_patch (Some d) p good patch

  -- if the patch has a map the document has none
  fresh_at : (w : Path) → Differs d p w → (q : Document) → at_path (Some p) w ≡ Some q → NoMapUnder (at_path (Some d) w) q
  fresh_at w place q is map here =
      let patch_map : look p w ≡ an_object = look-end w (Some p) ∙ ap (λ o. look_of o []) is ∙ map in
      place.differs (look-end w (Some d) ∙ here ∙ sym (ap (λ l. left_of l w) patch_map))

  left_at : (w : Path) → Differs d p w → at_path (Some result) w ≡ part_left w (at_path (Some p) w)
  left_at [] place = ap Some (merge_patch-fresh (Some d) p (fresh_at [] place p refl))
  left_at (n ∷ w) place =
      at_path-merge_patch n w (Some d) p good patch place.patch_maps
      ∙ part_left-below n w (at_path (Some d) (n ∷ w)) (at_path (Some p) (n ∷ w)) (fresh_at (n ∷ w) place) (λ none. place.speaks (look-end (n ∷ w) (Some p) ∙ none))

-- ---- what an edit leaves is not too deep

depth-at_path : (w : Path) (t : Option Document) → MapsAbove t w → length w + depth_of (at_path t w) ≤ depth_of t
depth-at_path [] t maps = omega arith
depth-at_path (n ∷ w) (Some (object ms)) maps = omega (arith, depth-at_path w (find n ms) maps.1, depth-find n ms)
depth-at_path (n ∷ w) None maps = let never = maps.0 in absurd (cc)
depth-at_path (n ∷ w) (Some t) maps = let never = maps.0 in absurd (cc)

depth-unless_null : (q e : Document) → depth_of (unless_null q e) ≤ depth e
depth-unless_null null e = omega arith
depth-unless_null (flag b) e = omega arith
depth-unless_null (whole z) e = omega arith
depth-unless_null (string s) e = omega arith
depth-unless_null (list ds) e = omega arith
depth-unless_null (object ms) e = omega arith

depth-part_left : (w : Path) (o : Option Document) → depth_of (part_left w o) ≤ depth_of o
depth-part_left w None = omega arith
depth-part_left [] (Some q) = omega (arith, depth-merge_patch None q)
depth-part_left (n ∷ w) (Some q) = omega (arith, depth-unless_null q (merge_patch None q), depth-merge_patch None q)

each_within : (k : ℕ) (w : Path) (v : Option Document) → length w + depth_of v ≤ k → IfSome v (λ c. length w + depth c ≤ k)
each_within k w None within = tt
each_within k w (Some c) within = within

made_there : (w : Path) (v t : Option Document) → (v ≡ None → w ≢ []) → with_at w v t ≡ Some (made (with_at w v t))
made_there [] None t below = absurd (below refl refl)
made_there [] (Some v) t below = refl
made_there (n ∷ w) v t below = refl

moved : (w : Path) (left done : List Path) (u : Path) → Contains done u ⊎ Contains (w ∷ left) u → Contains (w ∷ done) u ⊎ Contains left u
moved w left done u (inl at) = inl (Contains-tail w u done at)
moved w left done u (inr at) = elim (Contains-cases w u left at) [ inl is ↦ inl (subst (Contains (w ∷ done)) is (Contains-head w done)) | inr there ↦ inr there ]

-- ---- one edit

some_at_root : (o : Option Document) → part_left [] o ≡ None → o ≡ None
some_at_root None is = refl
some_at_root (Some q) is = absurd (cc)

module _ (takes : OperationsAreTaken) (d p : Document) (good : IsDocument d) (patch : IsDocument p) (shallow : depth p ≤ depth_limit) where
  abbrev end : Document
  end = result d p good patch

  -- after the edits at the places that are done: the document looks as the result below these, and elsewhere as before
  record Mixed (done : List Path) (x : Document) : Type 0 where
    is_document : IsDocument x
    changed : (u rest : Path) → Contains done u → look x (u ++ rest) ≡ look end (u ++ rest)
    kept : (v : Path) → ((u rest : Path) → Contains done u → v ≢ u ++ rest) → look x v ≡ look d v

  module _ (done : List Path) (x : Document) (w : Path) (edits : (u : Path) → Contains done u → IsEditPlace d p u) (place : IsEditPlace d p w) (new : ¬ Contains done w) (mixed : Mixed done x) where
    here : Differs d p w
    here = differs_at_edit d p w place

    -- no place that is done is a prefix
    not_under : (u : Path) → Contains done u → (rest : Path) → w ≢ u ++ rest
    not_under u at [] is = new (subst (Contains done) (sym (is ∙ append-nil u)) at)
    not_under u at (n ∷ rest) is = edit_places_apart d p u w n rest (edits u at) place is

    as_before : (u rest : Path) → w ≡ u ++ rest → look x u ≡ look d u
    as_before u rest is = mixed.kept u (λ v more at begins. not_under v at (more ++ rest) (is ∙ ap (λ r. r ++ rest) begins ∙ append_assoc v more rest))

    maps_now : MapsAbove (Some x) w
    maps_now = to_maps_above w (Some x) (λ u n rest is. as_before u (n ∷ rest) is ∙ (place.above u n rest is).0)

    abbrev value : Option Document
    value = part_left w (part p w)

    value_is : at_path (Some end) w ≡ value
    value_is = left_at d p good patch w here ∙ ap (part_left w) (sym (part-at_path w p here.patch_maps))

    now : look x w ≡ look d w
    now = as_before w [] (sym (append-nil w))

    removed : value ≡ None → (w ≢ []) × (look x w ≢ nothing)
    removed none = (not_root, still_there)
      where
        empty : look end w ≡ nothing
        empty = look-end w (Some end) ∙ ap (λ o. look_of o []) (value_is ∙ none)

        not_root : w ≢ []
        not_root root =
            let at_root : part_left [] (part p []) ≡ None = subst (λ u. part_left u (part p u) ≡ None) root none in
            let never : Some p ≡ None = some_at_root (part p []) at_root in
            cc

        still_there : look x w ≢ nothing
        still_there gone = here.differs (sym now ∙ gone ∙ sym empty ∙ look-left d p good patch w here.speaks)

    fits : Fits x w value
    fits = record {
      good = mixed.is_document;
      maps = maps_now;
      within = each_within depth_limit w value (omega (arith, shallow, depth-part_left w (part p w), ap depth_of (part-at_path w p here.patch_maps), depth-at_path w (Some p) here.patch_maps));
      removed = removed;
    }

    abbrev next : Document
    next = made (with_at w value (Some x))

    edit_leads : ¬ IsRefused x (edit d p w) × Step x (edit d p w) next
    edit_leads = subst (λ l. ¬ IsRefused x (edit_to w l value) × Step x (edit_to w l value) next) now (leaves takes x w value fits)

    next_is : with_at w value (Some x) ≡ Some next
    next_is = made_there w value (Some x) (λ none. (removed none).0)

    value_good : IfSome value IsDocument
    value_good = subst (λ o. IfSome o IsDocument) value_is (IsDocument-at_path w (Some end) (result_good d p good patch))

    -- at a path that does not begin with the place
    stays : (u : Path) → ¬ BeginsWith u w → look next u ≡ look x u
    stays u apart = ap (λ o. look_of o u) (sym next_is) ∙ look-elsewhere w value (Some x) mixed.is_document maps_now u apart

    at_place : (rest : Path) → look next (w ++ rest) ≡ look end (w ++ rest)
    at_place rest =
        ap (λ o. look_of o (w ++ rest)) (sym next_is) ∙ look-with_at w rest value (Some x) mixed.is_document
        ∙ ap (λ o. look_of o rest) (sym value_is) ∙ sym (look-at_path w rest (Some end))

    apart_from : (u rest : Path) → Contains done u → ¬ BeginsWith (u ++ rest) w
    apart_from u rest at begins = by (compared u w rest begins.0 begins.1)
      where
        by : Compared u w → ⊥
        by (same is) = new (subst (Contains done) is at)
        by (longer n more is) = edit_places_apart d p u w n more (edits u at) place is
        by (shorter n more is) = edit_places_apart d p w u n more place (edits u at) is

    mixed_next : Mixed (w ∷ done) next
    mixed_next = record {
      is_document = subst (λ o. IfSome o IsDocument) next_is (IsDocument-with_at w value (Some x) value_good mixed.is_document);
      changed = λ u rest at. elim (Contains-cases w u done at) [
        | inl is ↦ ap (λ v. look next (v ++ rest)) (sym is) ∙ at_place rest ∙ ap (λ v. look end (v ++ rest)) is
        | inr there ↦ stays (u ++ rest) (apart_from u rest there) ∙ mixed.changed u rest there
      ];
      kept = λ v none. stays v (λ begins. none w begins.0 (Contains-head w done) begins.1) ∙ mixed.kept v (λ u rest at. none u rest (Contains-tail w u done at));
    }

  -- ---- all edits

  -- with no edit left the document is the result
  all_done : (done : List Path) (x : Document) → ((u : Path) → IsEditPlace d p u → Contains done u) → Mixed done x → end ≡ x
  all_done done x all mixed =
      (equal_looks end x (result_good d p good patch) mixed.is_document).1 (λ w. same_look (look end w) (look x w) (λ other.
      let outside : (u rest : Path) → Contains done u → w ≢ u ++ rest = λ u rest at is. other (ap (look end) is ∙ sym (mixed.changed u rest at) ∙ sym (ap (look x) is)) in
      other (stays_without_edit d p good patch w (λ u rest is place. outside u rest (all u place) is) ∙ sym (mixed.kept w outside))))

  run_from : (left done : List Path) (x : Document) → ((u : Path) → Contains done u → IsEditPlace d p u) → ((u : Path) → Contains left u → IsEditPlace d p u) → HasNoRepeats left
      → ((u : Path) → Contains left u → ¬ Contains done u) → ((u : Path) → IsEditPlace d p u → Contains done u ⊎ Contains left u) → Mixed done x → Runs x (map (edit d p) left) end
  run_from [] done x edits places once new all mixed = all_done done x (λ u place. elim (all u place) [ inl at ↦ at | inr at ↦ absurd (Contains-nil u at) ]) mixed
  run_from (w ∷ left) done x edits places once new all mixed =
      let place = places w (Contains-head w left) in
      let first = new w (Contains-head w left) in
      let leads = edit_leads done x w edits place first mixed in (
        leads.0,
        next done x w edits place first mixed,
        leads.1,
        run_from left (w ∷ done) (next done x w edits place first mixed)
            (λ u at. elim (Contains-cases w u done at) [ inl is ↦ subst (IsEditPlace d p) is place | inr there ↦ edits u there ])
            (λ u at. places u (Contains-tail w u left at))
            once.1
            (λ u at gone. elim (Contains-cases w u done gone) [ inl is ↦ once.0 (subst (Contains left) (sym is) at) | inr there ↦ new u (Contains-tail w u left at) there ])
            (λ u edited. moved w left done u (all u edited))
            (mixed_next done x w edits place first mixed),
      )

  start : Mixed [] d
  start = record {
    is_document = good;
    changed = λ u rest at. absurd (Contains-nil u at);
    kept = λ v none. refl;
  }

edits_run : OperationsAreTaken → (d p : Document) → IsDocument d → IsDocument p → depth p ≤ depth_limit → (taken : List Path) → HasNoRepeats taken → ((w : Path) → Contains taken w ↔ IsEditPlace d p w) → Runs d (map (edit d p) taken) (merge_patch (Some d) p)
edits_run takes d p good patch shallow taken once all =
    run_from takes d p good patch shallow taken [] d (λ u at. absurd (Contains-nil u at)) (λ u at. (all u).0 at) once (λ u at none. Contains-nil u none) (λ u place. inr ((all u).1 place)) (start takes d p good patch shallow)

pub edits_in_any_order : OperationsAreTaken → EditsInAnyOrder
edits_in_any_order takes d p operations good patch shallow lists =
    subst (λ os. Runs d os (merge_patch (Some d) p)) (sym lists.guarded) (guards_run takes d lists.places (map (edit d p) lists.taken) (merge_patch (Some d) p) (edits_run takes d p good patch shallow lists.taken lists.once lists.same))

pub rewriting_runs : OperationsAreTaken → RewritingRuns
rewriting_runs takes d p operations good patch shallow is = edits_in_any_order takes d p operations good patch shallow (record {
  places = is.places;
  rising = is.rising;
  all = is.all;
  taken = is.places;
  once = no_repeats is.places is.rising;
  same = is.all;
  guarded = is.guarded;
})
