-- A document and a patch have one rewriting, which is empty exactly if the patch changes nothing.
use Rattle.std.proofs.Common.{◌≡◌, List, [], ◌∷◌, ◌++◌, map, Some, refl, sym, ap, ◌∙◌, subst}
use Rattle.std.specs.List.{Contains}
use Rattle.std.specs.List.Sorted.{IsStrictlySortedBy}
use Rattle.mp_tree.specs.Look.{Path}
use Rattle.mp_tree.proofs.Facts.{equal_looks, Contains-nil, no_member}
use Rattle.mp_merge.specs.Application.{merge_patch}
use Rattle.mp_merge.specs.Clash.{path_cmp}
use Rattle.mp_merge.specs.EditPlace.{IsEditPlace}
use Rattle.mp_merge.specs.Laws.{HasOneRewriting, EmptyRewriting}
use Rattle.mp_merge.specs.Rewriting.{edit, guards, HasNoRepeats}
use Rattle.mp_merge.proofs.Application.ByName.{IsDocument-merge_patch}
use Rattle.mp_merge.proofs.Rewritings.EditPlaces.{stays_without_edit, no_edit_if_same}
use Rattle.mp_merge.proofs.Paths.Rising.{not_among_above, same_rising}

pub no_repeats : (ws : List Path) → IsStrictlySortedBy path_cmp ws → HasNoRepeats ws
unfolding IsStrictlySortedBy
no_repeats [] rising = tt
no_repeats (w ∷ ws) rising = (not_among_above w ws rising.0, no_repeats ws rising.1)

-- ---- the laws

pub one_rewriting : HasOneRewriting
one_rewriting d p operations others one two =
    one.guarded
    ∙ ap (λ ws. guards d ws ++ map (edit d p) ws) (same_rising one.places two.places one.rising two.rising (λ w. (λ at. (two.all w).1 ((one.all w).0 at), λ at. (one.all w).1 ((two.all w).0 at))))
    ∙ sym two.guarded

map_nil : {A B : Type 0} (f : A → B) (xs : List A) → map f xs ≡ [] → xs ≡ []
map_nil f [] e = refl
map_nil f (x ∷ xs) e = absurd (cc)

append_nil_right : {A : Type 0} (xs ys : List A) → xs ++ ys ≡ [] → ys ≡ []
append_nil_right [] ys e = e
append_nil_right (x ∷ xs) ys e = absurd (cc)

pub empty_rewriting : EmptyRewriting
empty_rewriting d p operations good patch is = (same_if_empty, empty_if_same)
  where
    same_if_empty : operations ≡ [] → merge_patch (Some d) p ≡ d
    same_if_empty empty =
        let none : is.places ≡ [] = map_nil (edit d p) is.places (append_nil_right (guards d is.places) (map (edit d p) is.places) (sym is.guarded ∙ empty)) in
        let no_place : (w : Path) → ¬ IsEditPlace d p w = λ w place. Contains-nil w (subst (λ ws. Contains ws w) none ((is.all w).1 place)) in
        (equal_looks (merge_patch (Some d) p) d (IsDocument-merge_patch (Some d) p good patch) good).1 (λ w. stays_without_edit d p good patch w (λ u rest begins. no_place u))

    empty_if_same : merge_patch (Some d) p ≡ d → operations ≡ []
    empty_if_same same =
        is.guarded ∙ ap (λ ws. guards d ws ++ map (edit d p) ws) (no_member is.places (λ w at. no_edit_if_same d p good patch same w ((is.all w).0 at)))
