-- Runs of calls over texts, from those over the documents that the texts are read as.
use Rattle.std.proofs.Common.{◌≡◌, ℕ, List, [], ◌∷◌, ◌++◌, None, Some, Ok, option_map, refl, sym, ap, ap₂, ◌∙◌, subst}
use Rattle.std.specs.List.{All}
use Rattle.std.proofs.lemmas.List.{map-append}
use Rattle.std.proofs.lemmas.List.Elements.{All-cons, All-nil, Contains-append_left, Contains-push}
use Rattle.mp_tree.specs.Document.{Document, IsReadable}
use Rattle.mp_tree.specs.Text.{document_in, text as compact}
use Rattle.mp_tree.specs.View.{document}
use Rattle.mp_tree.specs.declared.doc.Doc.{Doc}
use Rattle.mp_tree.proofs.Facts.{IsDocument-document, document_in-read}
use Rattle.mp_merge.specs.Join.{IsJoin}
use Rattle.mp_merge.specs.Lists.{PairwiseCompatible}
use Rattle.mp_texts.specs.Answers.{IsJoinText, IsReplayText, IsTextOf}
use Rattle.mp_texts.specs.Texts.{AreCompatible, AreRead}
use Rattle.mp_replica.specs.Faults.{IsNoJoin, IsNoJoinText}
use Rattle.mp_replica.specs.Following.{ClashesWithOne, FollowsOn}
use Rattle.mp_replica.specs.Held.{HeldPatches, HeldReplica, IsJoinOf}
use Rattle.mp_replica.specs.Kept.{IsKept}
use Rattle.mp_replica.specs.Private.LawsBelow.{TextLaws}
use Rattle.mp_replica.specs.Taking.{HasTaken, TakesAll}
use Rattle.mp_replica.specs.Texts.{FollowsTexts, FollowsTextsOn, HasTakenTexts}
use Rattle.mp_replica.specs.declared.fault.LiveFault.{LiveFault}
use Rattle.mp_replica.specs.declared.fault.LiveFault.TheVariants as live
use Rattle.mp_replica.specs.declared.patches.Added.{Added}
use Rattle.mp_replica.specs.declared.patches.Added.TheVariants as added
use Rattle.mp_replica.specs.declared.replica.Received.{Received}
use Rattle.mp_replica.specs.declared.replica.Received.TheVariants.{Taken, Conflict, Pending, Refused}
use Rattle.mp_replica.proofs.Following as following
use Rattle.mp_replica.proofs.Taking as taking

-- ---- texts that are read

read_all : (ts us : List (List ℕ)) (ds es : List Document) → AreRead ts ds → AreRead us es → AreRead (ts ++ us) (ds ++ es)
read_all ts us ds es one other = map-append document_in ts us ∙ ap₂ (λ rs qs. rs ++ qs) one other ∙ sym (map-append Ok ds es)

read_more : (ts : List (List ℕ)) (ds : List Document) (t : List ℕ) (p : Document) → AreRead ts ds → document_in t ≡ Ok p → AreRead (ts ++ t ∷ []) (ds ++ p ∷ [])
read_more ts ds t p one last = read_all ts (t ∷ []) ds (p ∷ []) one (ap (λ r. r ∷ []) last)

one_reading : (ts : List (List ℕ)) (ds es : List Document) → AreRead ts ds → AreRead ts es → ds ≡ es
one_reading [] [] [] one other = refl
one_reading [] [] (e ∷ es) one other = absurd (cc)
one_reading [] (d ∷ ds) es one other = absurd (cc)
one_reading (t ∷ ts) [] es one other = absurd (cc)
one_reading (t ∷ ts) (d ∷ ds) [] one other = absurd (cc)
one_reading (t ∷ ts) (d ∷ ds) (e ∷ es) one other =
    let first : d ≡ e = cc in
    let rest : AreRead ts ds = cc in
    let other_rest : AreRead ts es = cc in
    ap₂ (λ (x : Document) xs. x ∷ xs) first (one_reading ts ds es rest other_rest)

no_texts : (ts : List (List ℕ)) (ds : List Document) → AreRead ts ds → ds ≡ [] → ts ≡ []
no_texts [] ds read none = refl
no_texts (t ∷ ts) [] read none = absurd (cc)
no_texts (t ∷ ts) (d ∷ ds) read none = absurd (cc)

incompatible : (ts : List (List ℕ)) (ds : List Document) → AreRead ts ds → ¬ PairwiseCompatible ds → ¬ AreCompatible ts
incompatible ts ds read clash free = clash (subst PairwiseCompatible (one_reading ts free.documents ds free.read read) free.compatible)

clash_of_one : (ds : List Document) (p : Document) → ClashesWithOne ds p → ¬ PairwiseCompatible (ds ++ p ∷ [])
clash_of_one ds p clash free = let one = clash.1 in free p one.0 (Contains-push ds p) (Contains-append_left ds (p ∷ []) one.0 one.1) clash.0 one.2

-- ---- replicas

pub follows_texts_on : (what : Received) (start : List ℕ) (texts : List (List ℕ)) (t : List ℕ) (p : Document) (r s : HeldReplica) → document_in t ≡ Ok p → (follows : FollowsTexts start texts r)
    → FollowsOn what follows.from follows.documents p s → FollowsTextsOn what start texts t s
follows_texts_on Taken start texts t p r s read old new = (
  record { from = old.from; start_read = old.start_read; documents = old.documents ++ p ∷ []; read = read_more texts old.documents t p old.read read; follows = new.0 },
  new.1,
)
follows_texts_on Pending start texts t p r s read old new = (
  record { from = old.from; start_read = old.start_read; documents = old.documents ++ p ∷ []; read = read_more texts old.documents t p old.read read; follows = new.0 },
  new.1,
)
follows_texts_on (Conflict back) start texts t p r s read old new = (
  read ∙ ap Ok (sym new.0),
  record { from = old.from; start_read = old.start_read; documents = old.documents; read = old.read; follows = new.1 },
  new.2,
  incompatible (texts ++ t ∷ []) (old.documents ++ p ∷ []) (read_more texts old.documents t p old.read read) (clash_of_one old.documents p new.3),
)
follows_texts_on Refused start texts t p r s read old new = (record { from = old.from; start_read = old.start_read; documents = old.documents; read = old.read; follows = new.0 }, new.1)

-- ---- patches without a start

takes_texts : (texts others : List (List ℕ)) (s : HeldPatches) (ds es : List Document) → AreRead texts ds → AreRead others es → HasTaken s (ds ++ es) → HasTakenTexts s (texts ++ others)
takes_texts texts others s ds es one other has = record { documents = ds ++ es; read = read_all texts others ds es one other; taken = has }

no_texts_taken : (o : HeldPatches) → HasTaken o [] → HasTakenTexts o []
no_texts_taken o none = record { documents = []; read = refl; taken = none }

pub takes_all_texts : (what : Added) (texts others : List (List ℕ)) (r o s t : HeldPatches) → (has : HasTakenTexts r texts) → (have : HasTakenTexts o others) → TakesAll HasTaken what has.documents have.documents s t
    → TakesAll HasTakenTexts what texts others s t
takes_all_texts added.Joined texts others r o s t has have new = (takes_texts texts others s has.documents have.documents has.read have.read new.0, no_texts_taken t new.1, new.2, new.3)
takes_all_texts added.Pending texts others r o s t has have new = (takes_texts texts others s has.documents have.documents has.read have.read new.0, no_texts_taken t new.1, new.2, new.3)
takes_all_texts added.Conflict texts others r o s t has have new = (takes_texts texts others s has.documents have.documents has.read have.read new.0, no_texts_taken t new.1, new.2)
takes_all_texts added.Refused texts others r o s t has have new = (
  record { documents = has.documents; read = has.read; taken = new.0 },
  record { documents = have.documents; read = have.read; taken = new.1 },
  new.2,
  new.3,
)

-- ---- what is written

module _ (laws : TextLaws) where
  pub text_of : (d : Document) (answer : List ℕ) → IsReadable d → answer ≡ compact d → IsTextOf d answer
  text_of d answer good is = record {
    is = is;
    read_back = subst (λ (t : List ℕ). document_in t ≡ Ok d) (sym is) (document_in-read (compact d) d (laws.reads_back d good) good.within);
  }

  all_readable : (ts : List (List ℕ)) (ds : List Document) → AreRead ts ds → All IsReadable ds
  all_readable [] [] are = All-nil IsReadable
  all_readable [] (d ∷ ds) are = absurd (cc)
  all_readable (t ∷ ts) [] are = absurd (cc)
  all_readable (t ∷ ts) (d ∷ ds) are =
      let here : document_in t ≡ Ok d = cc in
      let rest : AreRead ts ds = cc in
      All-cons IsReadable d ds (laws.reads_readable t d here) (all_readable ts ds rest)

  pub replay_text : (start : List ℕ) (texts : List (List ℕ)) (r : HeldReplica) (answer : List ℕ) → r.pending ≡ None → answer ≡ compact (document r.shown) → FollowsTexts start texts r → IsReplayText start texts answer
  replay_text start texts r answer none is follows =
      let readable = following.shows_readable laws follows.from follows.documents r follows.follows none (laws.reads_readable start follows.from follows.start_read) (all_readable texts follows.documents follows.read) in
      record {
        from = follows.from;
        start_read = follows.start_read;
        documents = follows.documents;
        read = follows.read;
        outcome = document r.shown;
        is_outcome = (following.shows_outcome laws.merging follows.from follows.documents r follows.follows none).0;
        text = text_of (document r.shown) answer readable is;
      }

  join_text : (texts : List (List ℕ)) (ds : List Document) (j : Doc) (answer : List ℕ) → AreRead texts ds → IsJoin ds (document j) → answer ≡ compact (document j) → IsJoinText texts answer
  join_text texts ds j answer read joined is = record {
    documents = ds;
    read = read;
    join = document j;
    is_join = joined;
    text = text_of (document j) answer (laws.readable_join ds (document j) (IsDocument-document j) (all_readable texts ds read) joined) is;
  }

  pub join_text_of_replica : (start : List ℕ) (texts : List (List ℕ)) (r : HeldReplica) (j : Doc) (answer : List ℕ) → r.pending ≡ None → r.joined ≡ Some j → answer ≡ compact (document j) → FollowsTexts start texts r
      → IsJoinText texts answer
  join_text_of_replica start texts r j answer none some is follows =
      let joined = following.joins_received laws.merging follows.from follows.documents r follows.follows none in
      join_text texts follows.documents j answer follows.read (subst (λ o. IsJoinOf follows.documents (option_map document o)) some joined) is

  pub join_text_of_patches : (texts : List (List ℕ)) (r : HeldPatches) (j : Doc) (answer : List ℕ) → r.places ≡ None → r.pending ≡ None → r.joined ≡ Some j → answer ≡ compact (document j) → HasTakenTexts r texts
      → IsJoinText texts answer
  join_text_of_patches texts r j answer free none some is has =
      let joined = (taking.holds_join laws.merging has.documents r has.taken).1 free none in
      join_text texts has.documents j answer has.read (subst (λ o. IsJoinOf has.documents (option_map document o)) some joined) is

  pub no_join_text : (limit : ℕ) (fault : LiveFault) (texts : List (List ℕ)) (r : HeldPatches) → IsNoJoin limit fault r → HasTakenTexts r texts → IsNoJoinText fault texts
  no_join_text limit live.Conflict texts r why has = incompatible texts has.documents has.read (λ free. why ((taking.holds_join laws.merging has.documents r has.taken).0.1 free))
  no_join_text limit live.NoPatches texts r why has =
      no_texts texts has.documents has.read (subst (λ m. IsJoinOf has.documents (option_map document m)) why.2 ((taking.holds_join laws.merging has.documents r has.taken).1 why.0 why.1))
  no_join_text limit (live.Document fault) texts r why has = tt
  no_join_text limit (live.Pointer fault) texts r why has = tt
  no_join_text limit live.Missing texts r why has = tt
  no_join_text limit live.Pending texts r why has = tt
  no_join_text limit live.TooLarge texts r why has = tt
  no_join_text limit live.NotKept texts r why has = tt
  no_join_text limit live.OutOfMemory texts r why has = tt

  -- what is kept of patches that can be read
  pub kept_join : (r : HeldPatches) (taken : List Document) (j : Doc) (answer : List ℕ) → r.places ≡ None → r.pending ≡ None → r.joined ≡ Some j → All IsReadable taken → answer ≡ compact (document j) → HasTaken r taken
      → IsKept r answer
  kept_join r taken j answer free none some readable is has =
      let joined : IsJoin taken (document j) = subst (λ o. IsJoinOf taken (option_map document o)) some ((taking.holds_join laws.merging taken r has).1 free none) in
      let text = text_of (document j) answer (laws.readable_join taken (document j) (IsDocument-document j) readable joined) is in
      rw (free, some) (none, text)
