-- Two patches can be exchanged exactly if they are compatible.
use Rattle.std.proofs.Common.{◌≡◌, ◌≢◌, ℕ, List, [], ◌∷◌, ◌++◌, Option, Some, None, refl, sym, ap, ◌∙◌}
use Rattle.mp_tree.specs.Document.{Document, null, object, find, IsDocument}
use Rattle.mp_tree.specs.Look.{Path, Look, nothing, an_object, plain, look_of, look}
use Rattle.mp_tree.proofs.Facts.{equal_looks}
use Rattle.mp_merge.specs.Application.{merge_patch, in_turn}
use Rattle.mp_merge.specs.Clash.{Clash, Compatible}
use Rattle.mp_merge.specs.Laws.{Exchange}
use Rattle.mp_merge.proofs.Application.ByName.{IsDocument-merge_patch}
use Rattle.mp_merge.proofs.Clashes.ByName.{clash-sym}
use Rattle.mp_merge.proofs.Outcome.{says-below_plain}
use Rattle.mp_merge.proofs.Application.Looks.{says, or_else, left_of, look-merge_patch, says-has, IsBelowPlain, Reach, has, below, alone, reach}
use Rattle.mp_merge.proofs.Joins.Union.{same_where_both}

-- ---- compatible patches do not disagree

-- above something stands a map
pub object_above : (u : Path) (n : List ℕ) (rest : Path) (p : Option Document) → look_of p (u ++ n ∷ rest) ≢ nothing → look_of p u ≡ an_object
object_above u n rest None here = absurd (here refl)
object_above [] n rest (Some (object ps)) here = refl
object_above [] n rest (Some p) here = absurd (here refl)
object_above (m ∷ u) n rest (Some (object ps)) here = object_above u n rest (find m ps) here
object_above (m ∷ u) n rest (Some p) here = absurd (here refl)

-- so where one patch has something below a value of the other that is no map, they clash at that value
clash_above : (p q : Document) (w : Path) → look p w ≢ nothing → (under : IsBelowPlain (Some q) w) → Clash p q under.above
clash_above p q w here under =
    let map = object_above under.above under.name under.rest (Some p) (λ none. here (ap (look p) under.path ∙ none)) in
    record {
      first = λ none. let differ = sym map ∙ none in cc;
      second = λ none. let differ = sym under.stands ∙ none in cc;
      differ = λ alike. let differ = sym map ∙ alike ∙ under.stands in cc;
    }

-- one of the two is quiet, or they say the same
pub data Agree (one two : Option Look) : Type 0 where
  quiet_first : one ≡ None → Agree one two
  quiet_second : two ≡ None → Agree one two
  same : one ≡ two → Agree one two

pub says-agree : (p q : Document) → Compatible p q → (w : Path) → Agree (says p w) (says q w)
says-agree p q free w = by (reach p w) (reach q w)
  where
    by : Reach (Some p) w (says p w) → Reach (Some q) w (says q w) → Agree (says p w) (says q w)
    by (alone quiet) other = quiet_first quiet
    by (has here) (alone quiet) = quiet_second quiet
    by (below under) (alone quiet) = quiet_second quiet
    by (has here) (has there) = same (says-has p w here ∙ ap (λ l. Some (left_of l w)) (same_where_both p q free w here there) ∙ sym (says-has q w there))
    by (has here) (below under) = absurd (free under.above (clash_above p q w here under))
    by (below under) (has there) = absurd (free under.above (clash-sym q p under.above (clash_above q p w there under)))
    by (below under) (below over) = same (says-below_plain p w under ∙ sym (says-below_plain q w over))

swap : (one two : Option Look) (l : Look) → Agree one two → or_else two (or_else one l) ≡ or_else one (or_else two l)
swap one two l (quiet_first quiet) = rw quiet
swap one two l (quiet_second quiet) = rw quiet
swap one two l (same is) = rw is

-- ---- one after the other

abbrev mp_both : Document → Document → Document → Document
mp_both d p q = in_turn d (p ∷ q ∷ [])

look-mp_both : (d p q : Document) → IsDocument d → IsDocument p → IsDocument q → (w : Path) → look (mp_both d p q) w ≡ or_else (says q w) (or_else (says p w) (look d w))
look-mp_both d p q good first second w =
    look-merge_patch (Some (merge_patch (Some d) p)) q w (IsDocument-merge_patch (Some d) p good first) second ∙ ap (or_else (says q w)) (look-merge_patch (Some d) p w good first)

IsDocument-mp_both : (d p q : Document) → IsDocument d → IsDocument p → IsDocument q → IsDocument (mp_both d p q)
IsDocument-mp_both d p q good first second = IsDocument-merge_patch (Some (merge_patch (Some d) p)) q (IsDocument-merge_patch (Some d) p good first) second

same_if_compatible : (d p q : Document) → IsDocument d → IsDocument p → IsDocument q → Compatible p q → mp_both d p q ≡ mp_both d q p
same_if_compatible d p q good first second free =
    (equal_looks (mp_both d p q) (mp_both d q p) (IsDocument-mp_both d p q good first second) (IsDocument-mp_both d q p good second first)).1 (λ w.
    look-mp_both d p q good first second w ∙ swap (says p w) (says q w) (look d w) (says-agree p q free w) ∙ sym (look-mp_both d q p good second first w))

-- ---- if both have something, the second wins

second_wins : (d p q : Document) → IsDocument d → IsDocument p → IsDocument q → (w : Path) → look q w ≢ nothing → look (mp_both d p q) w ≡ left_of (look q w) w
second_wins d p q good first second w here =
    look-mp_both d p q good first second w ∙ ap (λ s. or_else s (or_else (says p w) (look d w))) (says-has q w here)

-- the look that left it
restored : Path → Look → Look
restored [] l = l
restored (n ∷ w) nothing = plain null
restored (n ∷ w) an_object = an_object
restored (n ∷ w) (plain v) = plain v

restored-left_of : (w : Path) (l : Look) → l ≢ nothing → restored w (left_of l w) ≡ l
unfolding restored
restored-left_of w nothing here = absurd (here refl)
restored-left_of [] an_object here = refl
restored-left_of (n ∷ w) an_object here = refl
restored-left_of [] (plain v) here = refl
restored-left_of (n ∷ w) (plain null) here = refl
restored-left_of (n ∷ w) (plain v) here = refl

-- so what two looks leave is the same only of one
pub left_of-once : (w : Path) (l m : Look) → l ≢ nothing → m ≢ nothing → left_of l w ≡ left_of m w → l ≡ m
left_of-once w l m here there alike = sym (restored-left_of w l here) ∙ ap (restored w) alike ∙ restored-left_of w m there

compatible_if_same : (d p q : Document) → IsDocument d → IsDocument p → IsDocument q → mp_both d p q ≡ mp_both d q p → Compatible p q
compatible_if_same d p q good first second equal w clash =
    let left : left_of (look p w) w ≡ left_of (look q w) w =
    sym (second_wins d q p good second first w clash.first) ∙ ap (λ e. look e w) (sym equal) ∙ second_wins d p q good first second w clash.second in
    clash.differ (left_of-once w (look p w) (look q w) clash.first clash.second left)

pub exchange : Exchange
exchange d p q good first second = (compatible_if_same d p q good first second, same_if_compatible d p q good first second)
