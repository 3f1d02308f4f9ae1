-- Laws of merge patches alone. Each is the contract of a function of the module `laws` that runs nothing.
use Rattle.std.specs.Prelude.{◌≡◌, ◌≢◌, ◌≤◌, ◌↔◌, ◌⊎◌, ℕ, max, List, [], ◌∷◌, ◌++◌, Option, None, Some, IfSome}
use Rattle.std.specs.Prelude.{slice_get}
use Rattle.std.specs.List.{All, Contains}
use Rattle.mp_tree.specs.Document.{Document, null, object, Members, find, IsDocument, IsMap, IsReadable, depth}
use Rattle.mp_tree.specs.Document.{depth_limit}
use Rattle.mp_patch.specs.Form.{deepest}
use Rattle.mp_patch.specs.Writable.{IsWritable}
use Rattle.mp_tree.specs.Look.{Path, plain, look}
use Rattle.mp_patch.specs.Operation.{HaveDocuments, Operation, test}
use Rattle.mp_patch.specs.Run.{Runs, RefusedAt}
use Rattle.mp_patch.specs.declared.fault.Cause.{Cause}
use Rattle.mp_pointer.specs.Part.{part}
use Rattle.mp_merge.specs.EditPlace.{IsEditPlace}
use Rattle.mp_merge.specs.Application.{merge_patch, in_turn, target_members, after_patch}
use Rattle.mp_merge.specs.Clash.{Clash, Compatible, AreAllClashes}
use Rattle.mp_merge.specs.Join.{IsJoin, JoinsNames, HasJoin, AreJoinTries}
use Rattle.mp_merge.specs.Lists.{PairwiseCompatible, AreNoDeeper, IsReportedPair, HaveSameMembers}
use Rattle.mp_merge.specs.Outcome.{IsOutcome, HasOutcome}
use Rattle.mp_merge.specs.Resumption.{AreTries, last_of}
use Rattle.mp_merge.specs.Rewriting.{IsRewriting, ListsEdits}
use Rattle.mp_merge.specs.Within.{places_weight, AreFirstConflicts, IsReportedPairWithin, IsTooLargeRewriting}
use Rattle.mp_patch.specs.Weight.{operations_weight}
use Rattle.mp_patch.specs.Work.{no_limit}

-- ---- application (RFC 7396 section 2)

-- an object makes an object of every target: at each name what the patch makes of what the target has there
abbrev pub AppliesAtEachName : Type 0
AppliesAtEachName =
    (t : Option Document) (ps : Members) → IfSome t IsDocument → IsMap ps
    → (ms : Members) × (merge_patch t (object ps) ≡ object ms) × IsMap ms
    × ((n : List ℕ) → find n ms ≡ after_patch (find n (target_members t)) (find n ps))

-- and any other patch is the result
abbrev pub OthersReplace : Type 0
OthersReplace = (t : Option Document) (p : Document) → look p [] ≡ plain p → merge_patch t p ≡ p

-- what a patch makes of a document is a document
abbrev pub MergedIsDocument : Type 0
MergedIsDocument = (d p : Document) → IsDocument d → IsDocument p → IsDocument (merge_patch (Some d) p)

-- what a patch makes of a document can be read if both can
abbrev pub MergedIsReadable : Type 0
MergedIsReadable = (d p : Document) → IsReadable d → IsReadable p → IsReadable (merge_patch (Some d) p)

-- merging into null gives what merging into nothing gives
abbrev pub MergesIntoNull : Type 0
MergesIntoNull = (p : Document) → merge_patch (Some null) p ≡ merge_patch None p

-- applying a patch twice is applying it once
abbrev pub AppliedOnce : Type 0
AppliedOnce = (d p : Document) → IsDocument d → IsDocument p
    → merge_patch (Some (merge_patch (Some d) p)) p ≡ merge_patch (Some d) p

-- after any number of tries that were refused, one that succeeds leaves one application to the first target
abbrev pub TriesResume : Type 0
TriesResume = (d p : Document) (tries : List Document) → AreTries p d tries
    → merge_patch (Some (last_of d tries)) p ≡ merge_patch (Some d) p

-- ---- outcomes

-- one application is the outcome of the patch alone
abbrev pub ApplicationIsOutcome : Type 0
ApplicationIsOutcome = (d p : Document) → IsDocument d → IsDocument p → IsOutcome d (p ∷ []) (merge_patch (Some d) p)

-- a start and a collection have at most one outcome
abbrev pub HasOneOutcome : Type 0
HasOneOutcome = (d : Document) (patches : List Document) (e f : Document) → IsDocument e → IsDocument f
    → IsOutcome d patches e → IsOutcome d patches f → e ≡ f

-- pairwise compatible patches that are applied in turn make their outcome of the start
abbrev pub AppliedInTurn : Type 0
AppliedInTurn = (d : Document) (patches : List Document) → IsDocument d → All IsDocument patches
    → PairwiseCompatible patches → IsOutcome d patches (in_turn d patches)

-- patches have an outcome exactly if they are pairwise compatible, and then on every document
abbrev pub OutcomeExists : Type 0
OutcomeExists = (d : Document) (patches : List Document) → IsDocument d → All IsDocument patches
    → HasOutcome d patches ↔ PairwiseCompatible patches

-- replicas that start from one document and receive the same patches end with the same document
abbrev pub ReplicasAgree : Type 0
ReplicasAgree = (d : Document) (ps qs : List Document) (e f : Document) → HaveSameMembers ps qs → IsDocument e
    → IsDocument f → IsOutcome d ps e → IsOutcome d qs f → e ≡ f

-- the outcome of patches and one more, if each two are compatible, is one application of that one to their outcome
abbrev pub OutcomeGrows : Type 0
OutcomeGrows = (d : Document) (patches : List Document) (e q : Document) → IsDocument d → All IsDocument patches
    → IsDocument e → IsDocument q → PairwiseCompatible (patches ++ q ∷ []) → IsOutcome d patches e
    → IsOutcome d (patches ++ q ∷ []) (merge_patch (Some e) q)

-- no patch leaves the start as it is
abbrev pub OutcomeOfNone : Type 0
OutcomeOfNone = (d : Document) → IsOutcome d [] d

-- lists with the same members have the same outcomes
abbrev pub OutcomeOfSame : Type 0
OutcomeOfSame = (d : Document) (ps qs : List Document) (e : Document) → HaveSameMembers ps qs → IsOutcome d ps e
    → IsOutcome d qs e

-- ---- two patches, one after the other

-- two patches can be exchanged on a document exactly if they are compatible: so compatible ones on every document, and
-- others on none
abbrev pub Exchange : Type 0
Exchange = (d p q : Document) → IsDocument d → IsDocument p → IsDocument q
    → (in_turn d (p ∷ q ∷ []) ≡ in_turn d (q ∷ p ∷ [])) ↔ Compatible p q

-- ---- clashes

-- two patches have a list of all their conflicts
abbrev pub ClashesExist : Type 0
ClashesExist = (p q : Document) → IsDocument p → (places : List Path) × AreAllClashes p q places

-- and one alone
abbrev pub HaveOneList : Type 0
HaveOneList = (p q : Document) (places others : List Path) → AreAllClashes p q places → AreAllClashes p q others
    → places ≡ others

-- it is empty exactly if they are compatible
abbrev pub EmptyIfCompatible : Type 0
EmptyIfCompatible = (p q : Document) (places : List Path) → AreAllClashes p q places → (places ≡ []) ↔ Compatible p q

-- within a limit two patches have conflicts that come first
abbrev pub FirstConflictsExist : Type 0
FirstConflictsExist = (limit : ℕ) (p q : Document) → IsDocument p
    → (places : List Path) × (total : ℕ) × AreFirstConflicts limit p q places total

-- and these alone
abbrev pub HaveOneFront : Type 0
HaveOneFront = (limit : ℕ) (p q : Document) (places others : List Path) (total other_total : ℕ)
    → AreFirstConflicts limit p q places total → AreFirstConflicts limit p q others other_total
    → (places ≡ others) × (total ≡ other_total)

-- they are all conflicts exactly if there is no limit, or all weigh at most the limit together
abbrev pub AllIfWithin : Type 0
AllIfWithin = (limit : ℕ) (p q : Document) (all places : List Path) (total : ℕ) → AreAllClashes p q all
    → AreFirstConflicts limit p q places total
    → (places ≡ all) ↔ ((limit ≡ no_limit) ⊎ (places_weight all ≤ limit))

-- a list of patches is pairwise compatible, or there is the pair that is reported of it
abbrev pub CompatibleOrReported : Type 0
CompatibleOrReported =
    (patches : List Document) → All IsDocument patches
    → PairwiseCompatible patches
    ⊎ ((first : ℕ) × (second : ℕ) × (places : List Path) × IsReportedPair patches first second places)

-- and not both
abbrev pub CompatibleHaveNone : Type 0
CompatibleHaveNone = (patches : List Document) (first second : ℕ) (places : List Path)
    → IsReportedPair patches first second places → ¬ PairwiseCompatible patches

-- the pair that is reported is one alone, and so are its conflicts
abbrev pub HasOneReportedPair : Type 0
HasOneReportedPair =
    (patches : List Document) (first second other_first other_second : ℕ) (places other_places : List Path)
    → IsReportedPair patches first second places → IsReportedPair patches other_first other_second other_places
    → (first ≡ other_first) × (second ≡ other_second) × (places ≡ other_places)

-- a limit changes neither the pair nor that there is one
abbrev pub ReportedWithin : Type 0
ReportedWithin = (limit : ℕ) (patches : List Document) (first second : ℕ) (all : List Path)
    → IsReportedPair patches first second all
    → (places : List Path) × (total : ℕ) × IsReportedPairWithin limit patches first second places total

-- and what is reported within it is one alone
abbrev pub HasOneReportWithin : Type 0
HasOneReportWithin =
    (limit : ℕ) (patches : List Document) (first second other_first other_second : ℕ)
    (places other_places : List Path) (total other_total : ℕ)
    → IsReportedPairWithin limit patches first second places total
    → IsReportedPairWithin limit patches other_first other_second other_places other_total
    → (first ≡ other_first) × (second ≡ other_second) × (places ≡ other_places) × (total ≡ other_total)

-- and without a limit the pair has all its conflicts
abbrev pub ReportedWithoutLimit : Type 0
ReportedWithoutLimit = (patches : List Document) (first second : ℕ) (places : List Path) (total : ℕ)
    → IsReportedPairWithin no_limit patches first second places total
    → IsReportedPair patches first second places

-- a patch clashes with a join exactly if it clashes with one of the patches that were joined
abbrev pub ClashesWithAMember : List Document → Document → Path → Type 0
ClashesWithAMember patches r w = (p : Document) × Contains patches p × Clash r p w

abbrev pub ClashWithAJoin : Type 0
ClashWithAJoin = (patches : List Document) (j r : Document) (w : Path) → IsJoin patches j
    → Clash r j w ↔ ClashesWithAMember patches r w

-- two objects are compatible exactly if each name that both carry has compatible values
abbrev pub CompatibleByNames : Type 0
CompatibleByNames = (ps qs : Members) → Compatible (object ps) (object qs)
    ↔ ((n : List ℕ) (p q : Document) → find n ps ≡ Some p → find n qs ≡ Some q → Compatible p q)

-- and what is not an object is compatible with its equal alone, on either side
abbrev pub CompatibleIfEqual : Type 0
CompatibleIfEqual = (p q : Document) → (look p [] ≡ plain p) ⊎ (look q [] ≡ plain q) → Compatible p q ↔ (p ≡ q)

-- ---- joins

-- an object that has this at each name is the join of two objects, and nothing else is
abbrev pub JoinByNames : Type 0
JoinByNames = (ps qs : Members) (j : Document) → IsMap ps → IsMap qs → IsDocument j
    → IsJoin (object ps ∷ object qs ∷ []) j ↔ JoinsNames ps qs j

-- and if a patch is not an object, the join is the one value that both are
abbrev pub JoinOfEqual : Type 0
JoinOfEqual = (p q j : Document) → look p [] ≡ plain p → IsJoin (p ∷ q ∷ []) j ↔ ((p ≡ q) × (j ≡ p))

-- the join of p and p is p
abbrev pub JoinIsIdempotent : Type 0
JoinIsIdempotent = (p : Document) → IsJoin (p ∷ p ∷ []) p

-- the join of p and q is that of q and p
abbrev pub JoinIsCommutative : Type 0
JoinIsCommutative = (p q j : Document) → IsJoin (p ∷ q ∷ []) j ↔ IsJoin (q ∷ p ∷ []) j

-- j is the join of (the join of p and q) with r
pub record IsJoinFromLeft (p q r j : Document) : Type 0 where
  pub both : Document
  pub good : IsDocument both
  pub joined : IsJoin (p ∷ q ∷ []) both
  pub whole : IsJoin (both ∷ r ∷ []) j

-- j is the join of p with (the join of q and r)
pub record IsJoinFromRight (p q r j : Document) : Type 0 where
  pub both : Document
  pub good : IsDocument both
  pub joined : IsJoin (q ∷ r ∷ []) both
  pub whole : IsJoin (p ∷ both ∷ []) j

-- one of them exists exactly if the other does, and then they are equal
abbrev pub JoinIsAssociative : Type 0
JoinIsAssociative = (p q r j : Document) → IsDocument p → IsDocument q → IsDocument r
    → IsJoinFromLeft p q r j ↔ IsJoinFromRight p q r j

-- lists with the same members have at most one join
abbrev pub HasOneJoin : Type 0
HasOneJoin = (ps qs : List Document) (i j : Document) → HaveSameMembers ps qs → IsDocument i → IsDocument j
    → IsJoin ps i → IsJoin qs j → i ≡ j

-- the empty collection has none, since `{}` changes 5: no patch leaves every document as it is
abbrev pub EmptyHasNoJoin : Type 0
EmptyHasNoJoin = (j : Document) → ¬ IsJoin [] j

-- the join of a list and one more patch is that of (the join of the list) with the patch
abbrev pub JoinGrows : Type 0
JoinGrows = (patches : List Document) (q kept j : Document) → IsJoin patches kept
    → IsJoin (patches ++ q ∷ []) j ↔ IsJoin (kept ∷ q ∷ []) j

-- the join of a list and that of others is the join of all of them
abbrev pub JoinInParts : Type 0
JoinInParts = (patches others : List Document) (kept j : Document) → IsJoin others kept
    → IsJoin (patches ++ others) j ↔ IsJoin (patches ++ kept ∷ []) j

-- lists with the same members have the same joins
abbrev pub JoinOfSame : Type 0
JoinOfSame = (ps qs : List Document) (j : Document) → HaveSameMembers ps qs → IsJoin ps j → IsJoin qs j

-- one patch is its own join
abbrev pub JoinOfOne : Type 0
JoinOfOne = (p : Document) → IsJoin (p ∷ []) p

-- joining a patch to a join that has it already gives that join
abbrev pub JoinAbsorbs : Type 0
JoinAbsorbs = (p q j : Document) → IsJoin (p ∷ q ∷ []) j → IsJoin (j ∷ q ∷ []) j

-- after any number of tries that ran out of memory, what is left has with the patch the joins that the first had
abbrev pub JoinTriesResume : Type 0
JoinTriesResume = (before p : Document) (tries : List Document) (j : Document) → IsDocument j → AreJoinTries before p tries
    → IsJoin (last_of before tries ∷ p ∷ []) j ↔ IsJoin (before ∷ p ∷ []) j

-- a collection that is not empty has a join exactly if its members are pairwise compatible
abbrev pub JoinExists : Type 0
JoinExists = (patches : List Document) → patches ≢ [] → All IsDocument patches
    → HasJoin patches ↔ PairwiseCompatible patches

-- so two patches have a join exactly if they are compatible
abbrev pub PairHasJoin : Type 0
PairHasJoin = (p q : Document) → IsDocument p → IsDocument q → HasJoin (p ∷ q ∷ []) ↔ Compatible p q

-- a join is no deeper than its deepest patch
abbrev pub JoinIsNoDeeper : Type 0
JoinIsNoDeeper = (patches : List Document) (j : Document) (n : ℕ) → IsDocument j → All IsDocument patches
    → IsJoin patches j → AreNoDeeper n patches → depth j ≤ n

-- and it can be read if they can
abbrev pub JoinIsReadable : Type 0
JoinIsReadable = (patches : List Document) (j : Document) → IsDocument j → All IsReadable patches → IsJoin patches j
    → IsReadable j

-- one application of the join is the outcome of the patches
abbrev pub JoinGivesOutcome : Type 0
JoinGivesOutcome = (d : Document) (patches : List Document) (j : Document) → IsDocument d → IsDocument j
    → IsJoin patches j → IsOutcome d patches (merge_patch (Some d) j)

-- ---- rewriting a patch as a JSON Patch

-- a document and a patch have a rewriting
abbrev pub RewritingExists : Type 0
RewritingExists = (d p : Document) → IsDocument p → (operations : List Operation) × IsRewriting d p operations

-- and one alone
abbrev pub HasOneRewriting : Type 0
HasOneRewriting = (d p : Document) (operations others : List Operation) → IsRewriting d p operations
    → IsRewriting d p others → operations ≡ others

-- it is within a limit, or is too large for it
abbrev pub RewritingIsWithinOrNot : Type 0
RewritingIsWithinOrNot = (limit : ℕ) (d p : Document) (operations : List Operation) → IsRewriting d p operations
    → (operations_weight operations ≤ limit) ⊎ ((fitting : ℕ) × IsTooLargeRewriting limit fitting d p)

-- and not both
abbrev pub WithinIsNotTooLarge : Type 0
WithinIsNotTooLarge = (limit fitting : ℕ) (d p : Document) (operations : List Operation) → IsRewriting d p operations
    → operations_weight operations ≤ limit → ¬ IsTooLargeRewriting limit fitting d p

-- as many operations fit, and no other number
abbrev pub HasOneFitting : Type 0
HasOneFitting = (limit fitting other : ℕ) (d p : Document) → IsTooLargeRewriting limit fitting d p → IsTooLargeRewriting limit other d p
    → fitting ≡ other

-- the values of its operations are documents
abbrev pub RewritingHasDocuments : Type 0
RewritingHasDocuments = (d p : Document) (operations : List Operation) → IsDocument d → IsDocument p
    → IsRewriting d p operations → HaveDocuments operations

-- its operations can be written if the document and the patch can be read
abbrev pub RewritingIsWritable : Type 0
RewritingIsWritable = (d p : Document) (operations : List Operation) → IsReadable d → IsReadable p
    → IsRewriting d p operations → All IsWritable operations

-- and their values are no deeper than the deeper of the two
abbrev pub RewritingIsNoDeeper : Type 0
RewritingIsNoDeeper = (d p : Document) (operations : List Operation) → IsRewriting d p operations
    → deepest operations ≤ max (depth d) (depth p)

-- it is empty exactly if the application leaves the document as it is
abbrev pub EmptyRewriting : Type 0
EmptyRewriting = (d p : Document) (operations : List Operation) → IsDocument d → IsDocument p
    → IsRewriting d p operations → (operations ≡ []) ↔ (merge_patch (Some d) p ≡ d)

-- if the rewriting of d runs from any document x, each place that it changes and where d has something has in x the
-- part that it has in d
abbrev pub GuardedList : Type 0
GuardedList =
    (d p x e : Document) (operations : List Operation) (w : Path) (v : Document)
    → IsRewriting d p operations → Runs x operations e → IsEditPlace d p w
    → part d w ≡ Some v → part x w ≡ Some v

-- what a test that is refused shows, if the rewriting of d is applied to x: it is of a part of d, x does not have
-- that part there, and nothing of x was changed
abbrev pub RefusedGuardShows : Type 0
RefusedGuardShows =
    (d p x : Document) (operations : List Operation) (k : ℕ) (cause : Cause) (w : Path) (v : Document)
    → IsRewriting d p operations → (refused : RefusedAt x operations k cause) → slice_get operations k ≡ Some (test w v)
    → (part d w ≡ Some v) × (part x w ≢ Some v) × (refused.0 ≡ x)

-- the tests and then the edits of a document and a patch in any order lead to the application, and none is refused
abbrev pub EditsInAnyOrder : Type 0
EditsInAnyOrder = (d p : Document) (operations : List Operation) → IsDocument d → IsDocument p → depth p ≤ depth_limit
    → ListsEdits d p operations → Runs d operations (merge_patch (Some d) p)

-- so does the rewriting
abbrev pub RewritingRuns : Type 0
RewritingRuns = (d p : Document) (operations : List Operation) → IsDocument d → IsDocument p → depth p ≤ depth_limit
    → IsRewriting d p operations → Runs d operations (merge_patch (Some d) p)
