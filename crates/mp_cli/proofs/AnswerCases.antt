-- What the commands over lists of patches answer.
use Rattle.std.proofs.Common.{◌≡◌, ◌≢◌, ℕ, List, [], ◌∷◌, Some, map, refl, sym, subst}
use Rattle.mp_tree.specs.Document.{Document}
use Rattle.mp_tree.specs.View.{items_by}
use Rattle.mp_patch.specs.Work.{no_limit}
use Rattle.mp_merge.specs.Laws.{ReportedWithoutLimit}
use Rattle.mp_merge.specs.Within.{IsJoinAllWithinFault, IsReplayWithinFault}
use Rattle.mp_merge.specs.declared.comparing.Conflicts.{Conflicts}
use Rattle.mp_merge.specs.declared.fault.ListFault.{ListFault}
use Rattle.mp_merge.specs.declared.fault.ListFault.TheVariants.{NoPatches, ConflictOf, OutOfMemory}
use Rattle.mp_cli.specs.Answered.{IsJoinAnswer, none_joined, join_refused, IsReplayAnswer, replay_refused, IsPatchAnswerTo, IsReplayAnswerTo, IsRewriteAnswerTo, IsGetAnswerTo, IsPartAnswer}
use Rattle.mp_cli.specs.Lines.{Output, wrong_shape}
use Rattle.mp_cli.specs.Private.Answers.{list_fault}
use Rattle.mp_tree.proofs.Facts.{list_of-by}

module _ (whole : ReportedWithoutLimit) where
  pub no_join : (fault : ListFault Conflicts) (patches : List Document) (a : Output) → IsJoinAllWithinFault no_limit fault patches → list_fault fault ≡ Some a → IsJoinAnswer patches a
  no_join NoPatches patches a none is = none_joined none (cc)
  no_join (ConflictOf first second conflicts) patches a clash is = join_refused first second conflicts.places.items (whole patches first second conflicts.places.items conflicts.total clash) (cc)
  no_join OutOfMemory patches a none is = absurd (cc)

  pub no_replay : (fault : ListFault Conflicts) (start : Document) (patches : List Document) (a : Output) → IsReplayWithinFault no_limit fault patches → list_fault fault ≡ Some a → IsReplayAnswer start patches a
  no_replay NoPatches start patches a never is = absurd never
  no_replay (ConflictOf first second conflicts) start patches a clash is = replay_refused first second conflicts.places.items (whole patches first second conflicts.places.items conflicts.total clash) (cc)
  no_replay OutOfMemory start patches a none is = absurd (cc)

-- the input of `replay` is its start and the patches
pub replay_answer_by : {V : Type 0} (f : V → Document) (vs ps : List V) (v : V) (a : Output) → vs ≡ v ∷ ps → IsReplayAnswer (f v) (map f ps) a → IsReplayAnswerTo (items_by f vs) a
replay_answer_by f vs ps v a split is =
    subst (λ us. IsReplayAnswerTo (items_by f us) a) (sym split) (subst (λ (qs : List Document). IsReplayAnswer (f v) qs a) (sym (list_of-by f ps)) is)

-- `get` wants one document
pub no_single_by : {V : Type 0} (f : V → Document) (pointer : List ℕ) (vs : List V) (a : Output) → ((v : V) → vs ≢ v ∷ []) → a ≡ wrong_shape → IsGetAnswerTo pointer (items_by f vs) a
no_single_by f pointer [] a other is = is
no_single_by f pointer (v ∷ []) a other is = absurd (other v refl)
no_single_by f pointer (v ∷ w ∷ vs) a other is = is

pub single_part_by : {V : Type 0} (f : V → Document) (pointer : List ℕ) (vs : List V) (v : V) (a : Output) → vs ≡ v ∷ [] → IsPartAnswer (f v) pointer a → IsGetAnswerTo pointer (items_by f vs) a
single_part_by f pointer vs v a split is = subst (λ us. IsGetAnswerTo pointer (items_by f us) a) (sym split) is

-- `patch` and `rewrite` want two
pub no_pair_by : {V : Type 0} (f : V → Document) (vs : List V) (a : Output) → ((v w : V) → vs ≢ v ∷ w ∷ []) → a ≡ wrong_shape → IsPatchAnswerTo (items_by f vs) a × IsRewriteAnswerTo (items_by f vs) a
no_pair_by f [] a other is = (is, is)
no_pair_by f (v ∷ []) a other is = (is, is)
no_pair_by f (v ∷ w ∷ []) a other is = absurd (other v w refl)
no_pair_by f (v ∷ w ∷ x ∷ vs) a other is = (is, is)
