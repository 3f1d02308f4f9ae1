-- A replica that follows a list of patches follows it on.
use Rattle.std.proofs.Common.{◌≡◌, ℕ, List, [], ◌∷◌, ◌++◌, Option, None, Some, IfSome, option_map, refl, sym, ap, ◌∙◌, subst}
use Rattle.std.specs.Result.{OnErr, OnOk}
use Rattle.std.specs.declared.result.Result.{Result}
use Rattle.std.specs.declared.result.Result.TheVariants.{Err, Ok}
use Rattle.mp_tree.specs.Document.{Document, IsDocument, IsReadable}
use Rattle.mp_tree.specs.Look.{Path}
use Rattle.mp_tree.specs.View.{document}
use Rattle.mp_tree.specs.declared.doc.Doc.{Doc}
use Rattle.mp_tree.proofs.Facts.{IsDocument-document}
use Rattle.mp_merge.specs.Application.{merge_patch}
use Rattle.mp_merge.specs.Clash.{Compatible}
use Rattle.mp_merge.specs.Outcome.{IsOutcome}
use Rattle.mp_merge.specs.Resumption.{Resumes}
use Rattle.mp_replica.specs.Following.{ClashesWithOne, Follows, settled}
use Rattle.mp_replica.specs.Held.{AreFirstClashesWith, HasJoined, HeldReplica, IsJoinOf}
use Rattle.mp_replica.specs.Laws.{FollowersAgree, FollowsSame, ShowsOutcome, ShowsReadable}
use Rattle.mp_replica.specs.Private.LawsBelow.{MergeLaws, TextLaws}
use Rattle.mp_replica.specs.Private.Steps.{FirstClashesWithJoin, SameJoins}
use Rattle.mp_replica.proofs.Growing.{first_clashes_found, clashes_with_one, documents, join_of, joined_none, joined_on, joined_same, one_join_of, same_back}

module _ (laws : MergeLaws) where
  pub follows_none : (start : Doc) (r : HeldReplica) → r.shown ≡ start → r.joined ≡ None → r.pending ≡ None → Follows (document start) [] r
  follows_none start r shown no_join none = record {
    start_is_document = IsDocument-document start;
    joined = rw (no_join, none) (joined_none laws);
    outcome = rw (shown, none) (laws.outcome_of_none (document start));
  }

  -- merging a patch again that was merged, or that was merged in part, gives what the first time gives
  pub merged_again : {E : Type 0} (r : Result Unit E) (p d e : Document) → IsDocument d → IsDocument p → OnOk r (e ≡ merge_patch (Some d) p) → OnErr r (Resumes p d e) → merge_patch (Some e) p ≡ merge_patch (Some d) p
  merged_again (Ok x) p d e good patch merged resumes = ap (λ t. merge_patch (Some t) p) merged ∙ laws.applied_once d p good patch
  merged_again (Err x) p d e good patch merged resumes = resumes

  -- ---- once nothing is pending

  settled_joined : (start : Document) (received : List Document) (r : HeldReplica) → Follows start received r → r.pending ≡ None → HasJoined (option_map document r.joined) None received
  settled_joined start received r follows none = subst (λ o. HasJoined (option_map document r.joined) (option_map document o) received) none follows.joined

  pub joins_received : (start : Document) (received : List Document) (r : HeldReplica) → Follows start received r → r.pending ≡ None → IsJoinOf received (option_map document r.joined)
  joins_received start received r follows none = join_of laws received (option_map document r.joined) (documents r.joined) (settled_joined start received r follows none)

  pub shows_outcome : ShowsOutcome
  shows_outcome start received r follows none = (
    subst (λ o. IsOutcome start received (settled (document r.shown) (option_map document o))) none follows.outcome,
    joins_received start received r follows none,
  )

  -- ---- one more patch

  pub follows_on : (start : Document) (received : List Document) (r s : HeldReplica) (p : Doc) → r.pending ≡ None → IfSome (option_map document r.joined) (Compatible (document p)) → s.shown ≡ r.shown
      → SameJoins (option_map document r.joined) (Some (document p)) (option_map document s.joined) (option_map document s.pending) → s.pending ≡ Some p → Follows start received r → Follows start (received ++ document p ∷ []) s
  follows_on start received r s p none fits shown stays pending follows =
      let good = IsDocument-document p in
      let joined : HasJoined (option_map document s.joined) (option_map document s.pending) (received ++ document p ∷ []) =
      joined_on laws received (option_map document r.joined) (document p) good (documents r.joined) (settled_joined start received r follows none) fits stays in
      let before : IsOutcome start received (document r.shown) = subst (λ o. IsOutcome start received (settled (document r.shown) (option_map document o))) none follows.outcome in
      let now : settled (document s.shown) (option_map document s.pending) ≡ merge_patch (Some (document r.shown)) (document p) = rw (shown, pending) refl in
      record {
        start_is_document = follows.start_is_document;
        joined = joined;
        outcome = subst (IsOutcome start (received ++ document p ∷ [])) (sym now)
            (laws.outcome_grows start received (document r.shown) (document p) follows.start_is_document follows.joined.are_documents (IsDocument-document r.shown) good joined.compatible before);
      }

  -- a patch that does not fit clashes with one that was received
  pub clashes_if_unfit : (start : Document) (received : List Document) (r : HeldReplica) (p : Doc) → r.pending ≡ None → ¬ IfSome (option_map document r.joined) (Compatible (document p)) → Follows start received r
      → ClashesWithOne received (document p)
  clashes_if_unfit start received r p none clash follows = clashes_with_one laws received (option_map document r.joined) (document p) (IsDocument-document p) (joins_received start received r follows none) clash

  pub first_conflicts_found : (limit : ℕ) (start : Document) (received : List Document) (r : HeldReplica) (p : Document) (places : List Path) (total : ℕ) → r.pending ≡ None
      → FirstClashesWithJoin limit (option_map document r.joined) p places total → Follows start received r → AreFirstClashesWith limit received p places total
  first_conflicts_found limit start received r p places total none found follows = first_clashes_found laws limit received (option_map document r.joined) p places total (joins_received start received r follows none) found

  -- ---- laws

  pub follows_same : FollowsSame
  follows_same start received others r same follows = record {
    start_is_document = follows.start_is_document;
    joined = joined_same laws received others same follows.joined;
    outcome = laws.outcome_of_same start received others (settled (document r.shown) (option_map document r.pending)) same follows.outcome;
  }

  pub followers_agree : FollowersAgree
  followers_agree start received others r s same one two none also_none =
      let first = shows_outcome start received r one none in
      let second = shows_outcome start received s (follows_same start others received s (same_back received others same) two) also_none in (
        laws.one_outcome start received (document r.shown) (document s.shown) (IsDocument-document r.shown) (IsDocument-document s.shown) first.0 second.0,
        one_join_of laws received (option_map document r.joined) (option_map document s.joined) (documents r.joined) (documents s.joined) first.1 second.1,
      )

-- ---- what is read and written

module _ (laws : TextLaws) where
  pub shows_readable : ShowsReadable
  shows_readable start received r follows none good all = by (option_map document r.joined) (documents r.joined) shows.1
    where
      shows : IsOutcome start received (document r.shown) × IsJoinOf received (option_map document r.joined)
      shows = shows_outcome laws.merging start received r follows none

      by : (m : Option Document) → IfSome m IsDocument → IsJoinOf received m → IsReadable (document r.shown)
      by None good_join empty =
          let outcome = subst (λ (l : List Document). IsOutcome start l (document r.shown)) empty shows.0 in
          subst IsReadable (laws.merging.one_outcome start [] start (document r.shown) follows.start_is_document (IsDocument-document r.shown) (laws.merging.outcome_of_none start) outcome) good
      by (Some j) good_join joined =
          let merged = laws.readable_merge start j good (laws.readable_join received j good_join all joined) in
          let outcome = laws.join_outcome start received j follows.start_is_document good_join joined in
          subst IsReadable (laws.merging.one_outcome start received (merge_patch (Some start) j) (document r.shown) merged.is_document (IsDocument-document r.shown) outcome shows.0) merged
