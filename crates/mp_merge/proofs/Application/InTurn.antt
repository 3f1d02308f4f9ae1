-- Compatible patches, applied one after another.
use Rattle.std.proofs.Common.{◌≡◌, inl, inr, List, [], ◌∷◌, ◌++◌, Some, refl, sym, ap, ◌∙◌, subst, append-nil, append_assoc}
use Rattle.std.proofs.lemmas.List.Elements.{All-head, All-tail, Contains-append_cases, Contains-append_left, Contains-append_right, Contains-push}
use Rattle.std.specs.List.{All, Contains}
use Rattle.mp_tree.specs.Document.{Document, IsDocument}
use Rattle.mp_tree.specs.Look.{Path, Look, look}
use Rattle.mp_merge.specs.Application.{merge_patch, in_turn}
use Rattle.mp_merge.specs.Clash.{Compatible}
use Rattle.mp_merge.specs.Laws.{AppliedInTurn, OutcomeGrows, OutcomeOfNone}
use Rattle.mp_merge.specs.Lists.{PairwiseCompatible}
use Rattle.mp_merge.specs.Outcome.{IsOutcome}
use Rattle.mp_merge.proofs.Application.ByName.{IsDocument-merge_patch}
use Rattle.mp_tree.proofs.Facts.{Contains-nil, Contains-head, Contains-one}
use Rattle.mp_merge.proofs.Clashes.Exchange.{Agree, quiet_first, quiet_second, same, says-agree}
use Rattle.mp_merge.proofs.Outcome.{follows_from_outcome, outcome_from_follows}
use Rattle.mp_merge.proofs.Application.Looks.{says, or_else, look-merge_patch}

-- what a patch said before stays if a compatible one comes after it
still_said : (q p e : Document) (w : Path) (l : Look) → Compatible q p → says q w ≡ Some l → look e w ≡ l → or_else (says p w) (look e w) ≡ l
still_said q p e w l free is here = by (says-agree q p free w)
  where
    by : Agree (says q w) (says p w) → or_else (says p w) (look e w) ≡ l
    by (quiet_first quiet) = absurd (let differ = sym quiet ∙ is in cc)
    by (quiet_second quiet) = ap (λ s. or_else s (look e w)) quiet ∙ here
    by (same alike) = ap (λ s. or_else s (look e w)) (sym alike ∙ is)

-- one more patch, compatible with those before it, makes their outcome the outcome of all
one_more : (d : Document) (patches : List Document) (e p : Document) → IsDocument e → IsDocument p → ((q : Document) → Contains patches q → Compatible q p) → IsOutcome d patches e
    → IsOutcome d (patches ++ p ∷ []) (merge_patch (Some e) p)
one_more d patches e p good patch free outcome =
    let before = follows_from_outcome d patches e outcome in
    outcome_from_follows d (patches ++ p ∷ []) (merge_patch (Some e) p) (record {
      reported = λ q at w l is. look-merge_patch (Some e) p w good patch ∙ elim (Contains-append_cases patches (p ∷ []) q at) [
        | inl early ↦ still_said q p e w l (free q early) is (before.reported q early w l is)
        | inr last ↦ ap (λ s. or_else s (look e w)) (ap (λ x. says x w) (Contains-one p q last) ∙ is)
      ];
      kept = λ w quiet. look-merge_patch (Some e) p w good patch ∙ ap (λ s. or_else s (look e w)) (quiet p (Contains-append_right patches (p ∷ []) p (Contains-head p [])))
          ∙ before.kept w (λ q at. quiet q (Contains-append_left patches (p ∷ []) q at));
    })

pub outcome_grows : OutcomeGrows
outcome_grows d patches e q start all good patch free outcome =
    one_more d patches e q good patch (λ p at. free p q (Contains-append_left patches (q ∷ []) p at) (Contains-push patches q)) outcome

pub outcome_of_none : OutcomeOfNone
outcome_of_none d = record {
  set = λ p at. absurd (Contains-nil p at);
  entered = λ p at. absurd (Contains-nil p at);
  cleared = λ p at. absurd (Contains-nil p at);
  kept = λ w leaves. refl;
}

-- the outcome of some patches grows to that of all
outcome_of_rest : (d : Document) (done rest : List Document) (e : Document) → IsDocument e → All IsDocument rest → PairwiseCompatible (done ++ rest) → IsOutcome d done e
    → IsOutcome d (done ++ rest) (in_turn e rest)
outcome_of_rest d done [] e good all free outcome = subst (λ ps. IsOutcome d ps e) (sym (append-nil done)) outcome
outcome_of_rest d done (p ∷ rest) e good all free outcome =
    let patch : IsDocument p = All-head IsDocument p rest all in
    let more : (done ++ p ∷ []) ++ rest ≡ done ++ p ∷ rest = append_assoc done (p ∷ []) rest in
    let here : Contains (done ++ p ∷ rest) p = Contains-append_right done (p ∷ rest) p (Contains-head p rest) in
    subst (λ ps. IsOutcome d ps (in_turn (merge_patch (Some e) p) rest)) more (outcome_of_rest d (done ++ p ∷ []) rest (merge_patch (Some e) p) (IsDocument-merge_patch (Some e) p good patch) (All-tail IsDocument p rest all)
    (subst PairwiseCompatible (sym more) free) (one_more d done e p good patch (λ q at. free q p (Contains-append_left done (p ∷ rest) q at) here) outcome))

pub IsDocument-in_turn : (d : Document) (patches : List Document) → IsDocument d → All IsDocument patches → IsDocument (in_turn d patches)
IsDocument-in_turn d [] good all = good
IsDocument-in_turn d (p ∷ ps) good all = IsDocument-in_turn (merge_patch (Some d) p) ps (IsDocument-merge_patch (Some d) p good (All-head IsDocument p ps all)) (All-tail IsDocument p ps all)

pub applied_in_turn : AppliedInTurn
applied_in_turn d patches good all free = outcome_of_rest d [] patches d good all free (outcome_of_none d)
