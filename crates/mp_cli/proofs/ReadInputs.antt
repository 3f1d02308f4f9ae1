-- What the laws of the crates below say of a list of patches.
use Rattle.std.proofs.Common.{◌≢◌, ℕ, List, [], sym, subst}
use Rattle.std.proofs.lemmas.List.Elements.{All-contains, All-nil}
use Rattle.std.specs.List.{All}
use Rattle.mp_tree.specs.Document.{Document, IsDocument}
use Rattle.mp_tree.specs.Look.{Path}
use Rattle.mp_merge.specs.Join.{IsJoin}
use Rattle.mp_merge.specs.Lists.{IsReportedPair, PairwiseCompatible}
use Rattle.mp_merge.specs.Outcome.{IsOutcome}
use Rattle.mp_cli.specs.Private.LawsBelow.{MergeLaws}

module _ (laws : MergeLaws) where
  pub join_is_of_some : (patches : List Document) (j : Document) → IsJoin patches j → patches ≢ []
  join_is_of_some patches j joined none = laws.none_has_no_join j (subst (λ (ps : List Document). IsJoin ps j) none joined)

  pub joined_are_compatible : (patches : List Document) (j : Document) → All IsDocument patches → IsDocument j → IsJoin patches j → PairwiseCompatible patches
  joined_are_compatible patches j all good joined = (laws.join_exists patches (join_is_of_some patches j joined) all).0 (j, good, joined)

  pub replayed_are_compatible : (d : Document) (patches : List Document) (e : Document) → IsDocument d → All IsDocument patches → IsDocument e → IsOutcome d patches e → PairwiseCompatible patches
  replayed_are_compatible d patches e start all good outcome = (laws.outcome_exists d patches start all).0 (e, good, outcome)

  pub reported_are_some : (patches : List Document) (first second : ℕ) (places : List Path) → IsReportedPair patches first second places → patches ≢ []
  reported_are_some patches first second places reported none =
      laws.reported_is_incompatible patches first second places reported
      (subst (λ (ps : List Document). PairwiseCompatible ps) (sym none) (λ p q at there. absurd (All-contains (λ r. ⊥) [] p (All-nil (λ r. ⊥)) at)))
