-- The patches of messages that come one after another, and what a replica follows that received them.
use Rattle.std.proofs.Common.{◌≡◌, ◌≢◌, ◌⊎◌, ◌<◌, inl, inr, refl, ℕ, List, [], ◌∷◌, ◌++◌, map, nat_eq, sym, ap, ◌∙◌, subst, append_assoc, append-nil, arith}
use Rattle.std.proofs.lemmas.Bool.{cases_lt, eq-eqb, ne_eqb}
use Rattle.std.proofs.lemmas.Bool.Decides.{eqb_tells}
use Rattle.std.proofs.lemmas.List.{map-append}
use Rattle.std.proofs.lemmas.List.Elements.{filter-append}
use Rattle.std.specs.List.{filter}
use Rattle.mp_tree.specs.Document.{Document}
use Rattle.mp_tree.specs.Look.{Path}
use Rattle.mp_tree.specs.View.{document}
use Rattle.mp_tree.proofs.Facts.{Contains-nil}
use Rattle.mp_replica.specs.Following.{Follows, FollowsOn}
use Rattle.mp_replica.specs.Held.{AreClashesWith, HeldReplica}
use Rattle.mp_replica.specs.declared.replica.Received.{Received}
use Rattle.mp_replica.specs.declared.replica.Received.TheVariants.{Taken, Conflict, Pending, Refused}
use Rattle.library_example.specs.Received.{IfGiven, IsFirstClash, patches_of}
use Rattle.library_example.specs.declared.receiving.Delivery.{Delivery}
use Rattle.library_example.specs.declared.receiving.Delivery.TheVariants.{Given, Late, Early}
use Rattle.library_example.specs.declared.receiving.PatchMessage.{PatchMessage}

-- these messages are left of them all, and this is true of those before them
pub record SoFar (messages left : List PatchMessage) (Holds : List PatchMessage → Type 0) : Type 0 where
  pub passed : List PatchMessage
  pub all : messages ≡ passed ++ left
  pub holds : Holds passed

pub one_further : {messages left more : List PatchMessage} {m : PatchMessage} {Holds HoldsNow : List PatchMessage → Type 0}
    → (so_far : SoFar messages left Holds) → left ≡ m ∷ more → HoldsNow (so_far.passed ++ m ∷ []) → SoFar messages more HoldsNow
one_further {more = more} {m = m} so_far next now = record {
  passed = so_far.passed ++ m ∷ [];
  all = so_far.all ∙ ap (λ ms. so_far.passed ++ ms) next ∙ sym (append_assoc so_far.passed (m ∷ []) more);
  holds = now;
}

pub at_the_end : {messages left : List PatchMessage} {Holds : List PatchMessage → Type 0} → (so_far : SoFar messages left Holds) → left ≡ [] → Holds messages
at_the_end {Holds = Holds} so_far none = subst Holds (sym (so_far.all ∙ ap (λ ms. so_far.passed ++ ms) none ∙ append-nil so_far.passed)) so_far.holds

-- ---- the patches of one start

patches-append : (n : ℕ) (es others : List PatchMessage) → patches_of n (es ++ others) ≡ patches_of n es ++ patches_of n others
patches-append n es others =
    ap (map (λ e. document e.patch)) (filter-append (λ (e : PatchMessage). nat_eq e.epoch n) es others)
    ∙ map-append (λ (e : PatchMessage). document e.patch) (filter (λ e. nat_eq e.epoch n) es) (filter (λ e. nat_eq e.epoch n) others)

patches-cons : (n : ℕ) (e : PatchMessage) (es : List PatchMessage) → e.epoch ≡ n → patches_of n (e ∷ es) ≡ document e.patch ∷ patches_of n es
patches-cons n e es same = rw (eq-eqb e.epoch n same) refl

patches-other : (n : ℕ) (e : PatchMessage) (es : List PatchMessage) → e.epoch ≢ n → patches_of n (e ∷ es) ≡ patches_of n es
patches-other n e es other = rw (ne_eqb e.epoch n other) refl

-- ---- one more message

-- if the patch clashes with nothing, and nothing was pending, it is received
taken : (answer : Received) (start : Document) (received : List Document) (p : Document) (r : HeldReplica) → FollowsOn answer start received p r
    → answer ≢ Refused → AreClashesWith received p [] → Follows start (received ++ p ∷ []) r
taken Taken start received p r on given nowhere = on.0
taken Pending start received p r on given nowhere = on.0
taken (Conflict back) start received p r on given nowhere = let clash = on.3 in absurd (Contains-nil clash.0 ((nowhere.all clash.0).1 clash.1))
taken Refused start received p r on given nowhere = absurd (given refl)

pub delivered : (delivery : Delivery) (start : Document) (received : List Document) (p : Document) (before now : HeldReplica)
    → IfGiven delivery (λ answer. (start : Document) (received : List Document) → Follows start received before → FollowsOn answer start received p now)
    → delivery ≢ Given Refused → AreClashesWith received p [] → Follows start received before → Follows start (received ++ p ∷ []) now
delivered (Given answer) start received p before now on given nowhere follows =
    taken answer start received p now (on start received follows) (λ refused. given (ap Given refused)) nowhere
delivered Late start received p before now on given nowhere follows = absurd on
delivered (Early m) start received p before now on given nowhere follows = absurd on

late_or_early : (m n : ℕ) → (m ≡ n) ⊎ ((m < n) ⊎ (n < m))
late_or_early m n = elim (cases_lt m n) [
  | inl late ↦ inr (inl late)
  | inr past ↦ elim (cases_lt n m) [ inl early ↦ inr (inr early) | inr same ↦ inl (omega arith) ]
]

-- the replica follows the patch too if it is of this start, and else it stays as it is
pub follows_one_more : (n : ℕ) (start : Document) (passed : List PatchMessage) (m : PatchMessage) (before now : HeldReplica)
    → (m.epoch ≡ n → Follows start (patches_of n passed ++ document m.patch ∷ []) now) → (m.epoch < n → now ≡ before) → (n < m.epoch → now ≡ before)
    → Follows start (patches_of n passed) before → Follows start (patches_of n (passed ++ m ∷ [])) now
follows_one_more n start passed m before now this late early follows = rw (patches-append n passed (m ∷ [])) (elim (late_or_early m.epoch n) [
  | inl same ↦ rw (patches-cons n m [] same) (this same)
  | inr other ↦ elim other [
    | inl less ↦ let differs : m.epoch ≢ n = λ same. omega arith in rw (patches-other n m [] differs, append-nil (patches_of n passed), late less) follows
    | inr more ↦ let differs : m.epoch ≢ n = λ same. omega arith in rw (patches-other n m [] differs, append-nil (patches_of n passed), early more) follows
  ]
])

-- ---- the first clash

-- only a patch of this start conflicts anywhere
pub of_this_start : (m n : ℕ) (places : List Path) → places ≢ [] → (m ≢ n → places ≡ []) → m ≡ n
of_this_start m n places some other = elim (eqb_tells m n) [ inl same ↦ same.1 | inr differ ↦ absurd (some (other differ.1)) ]

-- if what arrived before is followed, the patch of the message is the first that clashes
pub first_clash : (n : ℕ) (start : Document) (messages passed more : List PatchMessage) (m : PatchMessage) (r : HeldReplica) (places : List Path)
    → messages ≡ passed ++ m ∷ more → m.epoch ≡ n → Follows start (patches_of n passed) r → places ≢ []
    → AreClashesWith (patches_of n passed) (document m.patch) places → IsFirstClash (patches_of n messages) places
first_clash n start messages passed more m r places all same follows some clashes = record {
  before = patches_of n passed;
  patch = document m.patch;
  after = patches_of n more;
  are = ap (patches_of n) all ∙ patches-append n passed (m ∷ more) ∙ ap (λ ps. patches_of n passed ++ ps) (patches-cons n m more same);
  compatible = follows.joined.compatible;
  some = some;
  clashes = clashes;
}
