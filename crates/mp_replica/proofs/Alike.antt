-- Patch logs that received the same messages store the same, and what is alike shows, reports and begins the same.
use Rattle.std.proofs.Common.{◌≡◌, ◌≢◌, ◌⊎◌, ◌+◌, ◌^◌, ◌<◌, ◌≤◌, arith, inl, inr, ℕ, List, [], ◌∷◌, ◌++◌, Option, None, Some, refl, sym, ap, ◌∙◌, subst}
use Rattle.std.proofs.lemmas.List.Elements.{All-contains, Contains-append_left, Contains-push, Contains-push_cases}
use Rattle.std.specs.List.{Contains}
use Rattle.mp_tree.specs.Document.{Document, IsDocument}
use Rattle.mp_tree.specs.View.{document}
use Rattle.mp_tree.specs.Laws.{DocsAreDocuments}
use Rattle.mp_tree.proofs.Facts.{some_same}
use Rattle.mp_merge.specs.Clash.{AreAllClashes}
use Rattle.mp_merge.specs.Outcome.{IsOutcome}
use Rattle.mp_replica.specs.Laws.{AlikeBeginTheSame, AlikeRefuseTheSame, AlikeReportTheSame, AlikeShowTheSame, LogsAreAlike}
use Rattle.mp_replica.specs.Messages.{Becomes, LogFollows, HaveOnePatchFor, Sent}
use Rattle.mp_replica.specs.PatchLog.{AreAlike, AreAllPairsOf, AreFirstConflictsAt, DoClash, HaveArrived, HeldLog, IsAmong, IsClashing, IsFirstMissing, IsFirstPair, Pair, Shows, Stored, StoresAlso, identities_of, start_of, stored_of}
use Rattle.mp_replica.specs.Private.LawsBelow.{MergeLaws}
use Rattle.mp_replica.specs.declared.fault.DecideFault.TheVariants as decide
use Rattle.mp_replica.specs.declared.message.Arrival.{Arrival}
use Rattle.mp_replica.specs.declared.message.Arrival.TheVariants as arrival
use Rattle.mp_replica.specs.declared.message.Identity.{Identity}
use Rattle.mp_replica.proofs.Identities.{decide_identity}
use Rattle.mp_replica.proofs.PairsFound.{pairs_total, same_risen, unmapped}

-- ---- messages

abbrev sent_as : ℕ → Identity → Document → Sent
sent_as epoch i p = record { epoch = epoch; identity = i; patch = p }

either : {X : Type 0} (o : Option X) → (o ≡ None) ⊎ ((x : X) × (o ≡ Some x))
either None = inl refl
either (Some x) = inr (x, refl)

-- what one of two that received the same stores, the other stores
stored_there : (epoch : ℕ) (start : Document) (messages others : List Sent) (one other : HeldLog) (i : Identity) (p : Document) → HaveOnePatchFor epoch messages
    → ((i : Identity) (p : Document) → Contains messages (sent_as epoch i p) → Contains others (sent_as epoch i p)) → ((i : Identity) (p : Document) → Contains others (sent_as epoch i p) → Contains messages (sent_as epoch i p))
    → LogFollows epoch start messages one → LogFollows epoch start others other → stored_of one i ≡ Some p → stored_of other i ≡ Some p
stored_there epoch start messages others one other i p alone there back has have at =
    let here = has.stored i p at in
    elim (either (stored_of other i)) [
      | inl none ↦ absurd (have.all i p (there i p here) none)
      | inr some ↦ some.1 ∙ ap Some (alone i some.0 p (back i some.0 (have.stored i some.0 some.1)) here)
    ]

same_option : (one other : Option Document) → ((p : Document) → one ≡ Some p → other ≡ Some p) → ((p : Document) → other ≡ Some p → one ≡ Some p) → one ≡ other
same_option None None there back = refl
same_option None (Some p) there back = back p refl
same_option (Some p) other there back = sym (there p refl)

pub logs_are_alike : LogsAreAlike
logs_are_alike epoch start messages others one other alone same has have = record {
  epoch = has.epoch_is ∙ sym have.epoch_is;
  start = has.start_is ∙ sym have.start_is;
  stored = λ i. same_option (stored_of one i) (stored_of other i)
      (λ p. stored_there epoch start messages others one other i p alone (λ j q. (same j q).0) (λ j q. (same j q).1) has have)
      (λ p. stored_there epoch start others messages other one i p (λ j q r first second. alone j q r ((same j q).1 first) ((same j r).1 second)) (λ j q. (same j q).1) (λ j q. (same j q).0) have has);
}

-- ---- one more message

-- its patch is stored
one_received : (epoch : ℕ) (start : Document) (messages : List Sent) (before now : HeldLog) (m : Sent) → m.epoch ≡ before.epoch → now.epoch ≡ before.epoch → start_of now ≡ start_of before
    → StoresAlso (stored_of before) m.identity m.patch (stored_of now) → LogFollows epoch start messages before → LogFollows epoch start (messages ++ m ∷ []) now
one_received epoch start messages before now m of_start still begun more has = record {
  epoch_is = still ∙ has.epoch_is;
  start_is = begun ∙ has.start_is;
  stored = λ i p at. elim (decide_identity i m.identity) [
    | inl same ↦
        let patch : p ≡ m.patch = some_same p m.patch (sym at ∙ ap (stored_of now) same ∙ more.here) in
        let is : m ≡ sent_as epoch i p = ap (λ e. sent_as e m.identity m.patch) (of_start ∙ has.epoch_is) ∙ ap (λ j. sent_as epoch j m.patch) (sym same) ∙ ap (sent_as epoch i) (sym patch) in
        subst (Contains (messages ++ m ∷ [])) is (Contains-push messages m)
    | inr other ↦ Contains-append_left messages (m ∷ []) (sent_as epoch i p) (has.stored i p (sym (more.others i other) ∙ at))
  ];
  all = λ i p at none. elim (decide_identity i m.identity) [
    | inl same ↦ let never : Some m.patch ≡ None = sym more.here ∙ ap (stored_of now) (sym same) ∙ none in cc
    | inr other ↦ elim (Contains-push_cases messages m (sent_as epoch i p) at) [
      | inl before_it ↦ has.all i p before_it (sym (more.others i other) ∙ none)
      | inr is ↦ other (sym (ap (λ s. s.identity) is))
    ]
  ];
}

-- it is of another start, or its identity has arrived: nothing changes
none_more_received : (epoch : ℕ) (start : Document) (messages : List Sent) (log : HeldLog) (m : Sent) → (m.epoch ≡ log.epoch → stored_of log m.identity ≢ None) → LogFollows epoch start messages log
    → LogFollows epoch start (messages ++ m ∷ []) log
none_more_received epoch start messages log m arrived has = record {
  epoch_is = has.epoch_is;
  start_is = has.start_is;
  stored = λ i p at. Contains-append_left messages (m ∷ []) (sent_as epoch i p) (has.stored i p at);
  all = λ i p at none. elim (Contains-push_cases messages m (sent_as epoch i p) at) [
    | inl before ↦ has.all i p before none
    | inr is ↦ arrived (ap (λ s. s.epoch) is ∙ sym has.epoch_is) (ap (stored_of log) (ap (λ s. s.identity) is) ∙ none)
  ];
}

-- so the log follows one message more, whatever becomes of it
pub becomes_follows : (epoch : ℕ) (start : Document) (messages : List Sent) (what : Arrival) (m : Sent) (before now : HeldLog) → Becomes what m before now → LogFollows epoch start messages before → LogFollows epoch start (messages ++ m ∷ []) now
becomes_follows epoch start messages arrival.Stored m before now is has = one_received epoch start messages before now m is.0 is.2 (ap document is.3) is.4 has
becomes_follows epoch start messages arrival.Repeat m before now is has = subst (LogFollows epoch start (messages ++ m ∷ [])) (sym is.2) (none_more_received epoch start messages before m (λ same. is.1) has)
becomes_follows epoch start messages arrival.Late m before now is has =
    let late = is.0 in
    subst (LogFollows epoch start (messages ++ m ∷ [])) (sym is.1) (none_more_received epoch start messages before m (λ same. absurd (omega arith)) has)
becomes_follows epoch start messages arrival.Early m before now is has =
    let early = is.0 in
    subst (LogFollows epoch start (messages ++ m ∷ [])) (sym is.1) (none_more_received epoch start messages before m (λ same. absurd (omega arith)) has)

-- what becomes of it is decided by its start and by what is stored
pub becomes_stored : (what : Arrival) (m : Sent) (before now : HeldLog) → Becomes what m before now → m.epoch ≡ before.epoch → stored_of before m.identity ≡ None
    → (what ≡ arrival.Stored) × StoresAlso (stored_of before) m.identity m.patch (stored_of now)
becomes_stored arrival.Stored m before now is same none = (refl, is.4)
becomes_stored arrival.Repeat m before now is same none = absurd (is.1 none)
becomes_stored arrival.Late m before now is same none = let late = is.0 in absurd (omega arith)
becomes_stored arrival.Early m before now is same none = let early = is.0 in absurd (omega arith)

pub becomes_repeat : (what : Arrival) (m : Sent) (before now : HeldLog) → Becomes what m before now → m.epoch ≡ before.epoch → stored_of before m.identity ≢ None → (what ≡ arrival.Repeat) × (now ≡ before)
becomes_repeat arrival.Stored m before now is same some = absurd (some is.1)
becomes_repeat arrival.Repeat m before now is same some = (refl, is.2)
becomes_repeat arrival.Late m before now is same some = let late = is.0 in absurd (omega arith)
becomes_repeat arrival.Early m before now is same some = let early = is.0 in absurd (omega arith)

pub becomes_late : (what : Arrival) (m : Sent) (before now : HeldLog) → Becomes what m before now → m.epoch < before.epoch → (what ≡ arrival.Late) × (now ≡ before)
becomes_late arrival.Stored m before now is late = let same = is.0 in absurd (omega arith)
becomes_late arrival.Repeat m before now is late = let same = is.0 in absurd (omega arith)
becomes_late arrival.Late m before now is late = (refl, is.1)
becomes_late arrival.Early m before now is late = let early = is.0 in absurd (omega arith)

pub becomes_early : (what : Arrival) (m : Sent) (before now : HeldLog) → Becomes what m before now → before.epoch < m.epoch → (what ≡ arrival.Early) × (now ≡ before)
becomes_early arrival.Stored m before now is early = let same = is.0 in absurd (omega arith)
becomes_early arrival.Repeat m before now is early = let same = is.0 in absurd (omega arith)
becomes_early arrival.Late m before now is early = let late = is.0 in absurd (omega arith)
becomes_early arrival.Early m before now is early = (refl, is.1)

-- ---- what is alike

all_stored : (one other : HeldLog) → AreAlike one other → stored_of one ≡ stored_of other
all_stored one other alike = λ d i. alike.stored i d

module _ (laws : MergeLaws) where
  agree : (d : Document) (ps qs : List Document) (e f : Document) → ((p : Document) → Contains ps p → Contains qs p) → ((p : Document) → Contains qs p → Contains ps p) → IsDocument e → IsDocument f
      → IsOutcome d ps e → IsOutcome d qs f → e ≡ f
  agree d ps qs e f there back good fine one other = laws.one_outcome d ps e f good fine one (laws.outcome_of_same d qs ps f (λ p. (back p, there p)) other)

  pub alike_show_the_same : AlikeShowTheSame
  alike_show_the_same one other d e alike good fine shows shown =
      let there = subst (λ s. Shows s (stored_of one) e) (sym alike.start) (subst (λ s. Shows (start_of other) s e) (sym (all_stored one other alike)) shown) in
      agree (start_of one) shows.patches there.patches d e (λ p at. (there.unclashed p).1 ((shows.unclashed p).0 at)) (λ p at. (shows.unclashed p).1 ((there.unclashed p).0 at)) good fine shows.outcome there.outcome

  pub alike_begin_the_same : DocsAreDocuments → AlikeBeginTheSame
  alike_begin_the_same docs one other one_now other_now chosen others alike named began begun = record {
    epoch = began.epoch ∙ ap (λ n. n + 1) alike.epoch ∙ sym begun.epoch;
    start = agree (start_of one) began.patches begun.patches (start_of one_now) (start_of other_now)
        (λ p at. let has = (began.are_chosen p).0 at in (begun.are_chosen p).1 (has.0, (named has.0).0 has.1, sym (alike.stored has.0) ∙ has.2))
        (λ p at. let has = (begun.are_chosen p).0 at in (began.are_chosen p).1 (has.0, (named has.0).1 has.1, alike.stored has.0 ∙ has.2))
        (docs one_now.start).0 (docs other_now.start).0 began.start (subst (λ s. IsOutcome s begun.patches (start_of other_now)) (sym alike.start) begun.start);
    stored = λ i. began.forgotten i ∙ sym (begun.forgotten i);
  }

  -- ---- what is reported

  one_clashing : (stored : Stored) (a b : Pair) → identities_of a ≡ identities_of b → IsClashing stored a → IsClashing stored b → a ≡ b
  one_clashing stored a b alike is are =
      let first : a.first ≡ b.first = ap (λ x. x.0) alike in
      let second : a.second ≡ b.second = ap (λ x. x.1) alike in
      let p : are.one ≡ is.one = some_same are.one is.one (sym are.at_first ∙ ap stored (sym first) ∙ is.at_first) in
      let q : are.other ≡ is.other = some_same are.other is.other (sym are.at_second ∙ ap stored (sym second) ∙ is.at_second) in
      let clashes = subst (λ d. AreAllClashes d is.other b.places) p (subst (λ d. AreAllClashes are.one d b.places) q are.conflicts.clashes) in
      let places : a.places ≡ b.places = laws.one_list is.one is.other a.places b.places is.conflicts.clashes clashes in
      λ d. record { first = first d; second = second d; places = places d }

  do_clash : (stored : Stored) (a : Pair) → IsClashing stored a → DoClash stored a.first a.second
  do_clash stored a is = record {
    one = is.one;
    other = is.other;
    at_first = is.at_first;
    at_second = is.at_second;
    clash = λ agree. is.conflicts.some ((laws.none_if_compatible is.one is.other a.places is.conflicts.clashes).1 agree);
  }

  reported_there : (of : Option Identity) (stored : Stored) (pairs others : List Pair) → AreAllPairsOf of stored pairs → AreAllPairsOf of stored others → (a : Pair) → Contains pairs a → Contains others a
  reported_there of stored pairs others are also a at =
      let is = All-contains (IsClashing stored) pairs a are.each at in
      let found = unmapped identities_of others (identities_of a) (also.all a.first a.second is.in_order (All-contains (λ pair. IsAmong of pair.first pair.second) pairs a are.among at) (do_clash stored a is)) in
      subst (Contains others) (sym (one_clashing stored a found.0 (sym found.2) is (All-contains (IsClashing stored) others found.0 also.each found.1))) found.1

  pub alike_report_the_same : AlikeReportTheSame
  alike_report_the_same of one other pairs others alike are also =
      let there = subst (λ s. AreAllPairsOf of s others) (sym (all_stored one other alike)) also in
      same_risen _ pairs_total identities_of pairs others are.rising there.rising (reported_there of (stored_of one) pairs others are there) (reported_there of (stored_of one) others pairs there are)

-- ---- what is refused

pub alike_refuse_the_same : AlikeRefuseTheSame
alike_refuse_the_same limit one other chosen decide.LastEpoch alike is = subst (λ n. 2 ^ 64 ≤ n + 1) alike.epoch is
alike_refuse_the_same limit one other chosen (decide.NotReceived i) alike is =
    (subst (λ n. n + 1 < 2 ^ 64) alike.epoch is.0, subst (λ s. IsFirstMissing s chosen i) (all_stored one other alike) is.1)
alike_refuse_the_same limit one other chosen (decide.Conflict i j conflicts) alike is =
    let same = all_stored one other alike in (
      subst (λ n. n + 1 < 2 ^ 64) alike.epoch is.0,
      subst (λ s. HaveArrived s chosen) same is.1,
      subst (λ s. IsFirstPair s chosen i j) same is.2,
      subst (λ s. AreFirstConflictsAt limit s i j conflicts.places.items conflicts.total) same is.3,
    )
alike_refuse_the_same limit one other chosen decide.OutOfMemory alike is = tt
