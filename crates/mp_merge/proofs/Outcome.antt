-- Outcomes, by what each patch says.
use Rattle.std.proofs.Common.{◌≡◌, ◌≢◌, ◌⊎◌, inl, inr, List, [], ◌∷◌, ◌++◌, Option, Some, None, refl, sym, ap, ◌∙◌}
use Rattle.std.specs.List.{Contains}
use Rattle.mp_tree.specs.Document.{Document}
use Rattle.mp_tree.specs.Look.{Path, Look, nothing, an_object, plain, look}
use Rattle.mp_tree.proofs.Facts.{equal_looks, Contains-head, Contains-one, some_or_all, nothing_or}
use Rattle.mp_merge.specs.Application.{merge_patch}
use Rattle.mp_merge.specs.Join.{IsJoin}
use Rattle.mp_merge.specs.Laws.{ApplicationIsOutcome, HasOneOutcome, OutcomeOfSame, ReplicasAgree, JoinGivesOutcome}
use Rattle.mp_merge.specs.Outcome.{left_by, LeavesAlone, IsOutcome}
use Rattle.mp_merge.proofs.Joins.Laws.{from_join}
use Rattle.mp_merge.proofs.Application.Looks.{says, or_else, left_of, look-merge_patch, says-has, says-below, IsBelowPlain, Reach, has, below, alone, reach}

says-plain : (p : Document) (w : Path) (v : Document) → look p w ≡ plain v → says p w ≡ Some (left_by v w)
says-plain p w v is = says-has p w (λ none. let differ = sym is ∙ none in cc) ∙ ap (λ l. Some (left_of l w)) is

says-object : (p : Document) (w : Path) → look p w ≡ an_object → says p w ≡ Some an_object
says-object p w is = says-has p w (λ none. let differ = sym is ∙ none in cc) ∙ ap (λ l. Some (left_of l w)) is

-- ---- a patch leaves a path alone exactly if it says nothing of it

pub says-below_plain : (p : Document) (w : Path) → IsBelowPlain (Some p) w → says p w ≡ Some nothing
says-below_plain p w at = ap (says p) at.path ∙ says-below p at.above at.name at.rest at.value at.stands

says-alone : (p : Document) (w : Path) → LeavesAlone p w → says p w ≡ None
says-alone p w leaves = by (reach p w)
  where
    by : Reach (Some p) w (says p w) → says p w ≡ None
    by (has here) = absurd (here leaves.here)
    by (below at) = absurd (leaves.above at.above at.name at.rest at.value at.path at.stands)
    by (alone quiet) = quiet

alone_if_quiet : (p : Document) (w : Path) → says p w ≡ None → LeavesAlone p w
alone_if_quiet p w quiet = record {
  here = elim (nothing_or (look p w)) [ inl none ↦ none | inr here ↦ absurd (let differ = sym quiet ∙ says-has p w here in cc) ];
  above = λ u n rest v is stands. let differ = sym quiet ∙ ap (says p) is ∙ says-below p u n rest v stands in cc;
}

-- ---- an outcome looks as each patch says, and as the start if all are quiet

pub record Follows (d : Document) (patches : List Document) (e : Document) : Type 0 where
  pub reported : (p : Document) → Contains patches p → (w : Path) (l : Look) → says p w ≡ Some l → look e w ≡ l
  pub kept : (w : Path) → ((p : Document) → Contains patches p → says p w ≡ None) → look e w ≡ look d w

pub outcome_from_follows : (d : Document) (patches : List Document) (e : Document) → Follows d patches e → IsOutcome d patches e
outcome_from_follows d patches e follows = record {
  set = λ p at w v is. follows.reported p at w (left_by v w) (says-plain p w v is);
  entered = λ p at w is. follows.reported p at w an_object (says-object p w is);
  cleared = λ p at u n rest v is. follows.reported p at (u ++ n ∷ rest) nothing (says-below p u n rest v is);
  kept = λ w leaves. follows.kept w (λ p at. says-alone p w (leaves p at));
}

pub follows_from_outcome : (d : Document) (patches : List Document) (e : Document) → IsOutcome d patches e → Follows d patches e
follows_from_outcome d patches e outcome = record {
  reported = λ p at w l is. by p at w l is (reach p w);
  kept = λ w quiet. outcome.kept w (λ p at. alone_if_quiet p w (quiet p at));
}
  where
    left : (p : Document) → Contains patches p → (w : Path) (l : Look) → look p w ≡ l → l ≢ nothing → look e w ≡ left_of l w
    left p at w nothing is here = absurd (here refl)
    left p at w an_object is here = outcome.entered p at w is
    left p at w (plain v) is here = outcome.set p at w v is

    by : (p : Document) → Contains patches p → (w : Path) (l : Look) → says p w ≡ Some l → Reach (Some p) w (says p w) → look e w ≡ l
    by p at w l is (has here) =
        let said : Some (left_of (look p w) w) ≡ Some l = sym (says-has p w here) ∙ is in
        let same : left_of (look p w) w ≡ l = cc in
        left p at w (look p w) refl here ∙ same
    by p at w l is (below under) =
        let said : Some nothing ≡ Some l = sym (says-below_plain p w under) ∙ is in
        let same : nothing ≡ l = cc in
        ap (look e) under.path ∙ outcome.cleared p at under.above under.name under.rest under.value under.stands ∙ same
    by p at w l is (alone quiet) = absurd (let differ = sym quiet ∙ is in cc)

-- ---- laws of outcomes

pub application_is_outcome : ApplicationIsOutcome
application_is_outcome d p good patch = outcome_from_follows d (p ∷ []) (merge_patch (Some d) p) (record {
  reported = λ q at w l is. look-merge_patch (Some d) p w good patch ∙ ap (λ s. or_else s (look d w)) (ap (λ x. says x w) (Contains-one p q at) ∙ is);
  kept = λ w quiet. look-merge_patch (Some d) p w good patch ∙ ap (λ s. or_else s (look d w)) (quiet p (Contains-head p []));
})

abbrev SaysSome : Path → Document → Type 0
SaysSome w p = (l : Look) × (says p w ≡ Some l)

says_or_quiet : (w : Path) (p : Document) → SaysSome w p ⊎ (says p w ≡ None)
says_or_quiet w p = by (says p w) refl
  where
    by : (s : Option Look) → says p w ≡ s → SaysSome w p ⊎ (says p w ≡ None)
    by None is = inr is
    by (Some l) is = inl (l, is)

pub one_outcome : HasOneOutcome
one_outcome d patches e f good other first second =
    let one = follows_from_outcome d patches e first in
    let two = follows_from_outcome d patches f second in
    (equal_looks e f good other).1 (λ w. elim (some_or_all (SaysSome w) (λ p. says p w ≡ None) (says_or_quiet w) patches) [
      | inl some ↦ one.reported some.0 some.1 w some.2.0 some.2.1 ∙ sym (two.reported some.0 some.1 w some.2.0 some.2.1)
      | inr quiet ↦ one.kept w quiet ∙ sym (two.kept w quiet)
    ])

pub outcome_of_same : OutcomeOfSame
outcome_of_same d ps qs e same outcome = record {
  set = λ p at. outcome.set p ((same p).1 at);
  entered = λ p at. outcome.entered p ((same p).1 at);
  cleared = λ p at. outcome.cleared p ((same p).1 at);
  kept = λ w leaves. outcome.kept w (λ p at. leaves p ((same p).0 at));
}

pub replicas_agree : ReplicasAgree
replicas_agree d ps qs e f same good other first second = one_outcome d qs e f good other (outcome_of_same d ps qs e same first) second

-- ---- what a join says

says-join : (patches : List Document) (j : Document) → IsJoin patches j → (p : Document) → Contains patches p → (w : Path) (l : Look) → says p w ≡ Some l → says j w ≡ Some l
says-join patches j joined p at w l is = by (reach p w)
  where
    by : Reach (Some p) w (says p w) → says j w ≡ Some l
    by (has here) =
        let same = joined.said p at w here in
        says-has j w (λ none. here (sym same ∙ none)) ∙ ap (λ m. Some (left_of m w)) same ∙ sym (says-has p w here) ∙ is
    by (below under) =
        let same = joined.said p at under.above (λ none. let differ = sym under.stands ∙ none in cc) in
        ap (says j) under.path ∙ says-below j under.above under.name under.rest under.value (same ∙ under.stands) ∙ sym (says-below_plain p w under) ∙ is
    by (alone quiet) = absurd (let differ = sym quiet ∙ is in cc)

quiet_join : (patches : List Document) (j : Document) → IsJoin patches j → (w : Path) → ((p : Document) → Contains patches p → says p w ≡ None) → says j w ≡ None
quiet_join patches j joined w quiet = by (reach j w)
  where
    by : Reach (Some j) w (says j w) → says j w ≡ None
    by (has here) = let some = from_join patches j joined w here in absurd (some.2 (alone_if_quiet some.0 w (quiet some.0 some.1)).here)
    by (below under) =
        let some = from_join patches j joined under.above (λ none. let differ = sym under.stands ∙ none in cc) in
        absurd ((alone_if_quiet some.0 w (quiet some.0 some.1)).above under.above under.name under.rest under.value under.path (sym some.3 ∙ under.stands))
    by (alone is) = is

pub join_gives_outcome : JoinGivesOutcome
join_gives_outcome d patches j good whole joined = outcome_from_follows d patches (merge_patch (Some d) j) (record {
  reported = λ p at w l is. look-merge_patch (Some d) j w good whole ∙ ap (λ s. or_else s (look d w)) (says-join patches j joined p at w l is);
  kept = λ w quiet. look-merge_patch (Some d) j w good whole ∙ ap (λ s. or_else s (look d w)) (quiet_join patches j joined w quiet);
})
