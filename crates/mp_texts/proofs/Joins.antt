-- The join texts of lists of texts.
use Rattle.std.proofs.Common.{◌≢◌, ℕ, List, [], ◌∷◌, ◌++◌, refl, sym, ap, ◌∙◌, subst}
use Rattle.std.specs.List.{All}
use Rattle.mp_tree.specs.Document.{Document, IsDocument}
use Rattle.mp_tree.specs.Text.{text as compact}
use Rattle.mp_tree.proofs.Facts.{readable_documents}
use Rattle.mp_merge.specs.Join.{IsJoin}
use Rattle.mp_merge.specs.Lists.{PairwiseCompatible}
use Rattle.mp_texts.specs.Answers.{IsJoinText}
use Rattle.mp_texts.specs.Laws.{EachPartHasAJoin, HasJoinText, JoinOfTwoJoins, JoinTextsAreShared, OneJoinText}
use Rattle.mp_texts.specs.Private.LawsBelow.{JoinLaws}
use Rattle.mp_texts.specs.Texts.{AreRead}
use Rattle.mp_texts.proofs.Readings.{AreRead-append, AreRead-cons, all_readable, one_reading, some_documents, some_read, text_of_readable}
use Rattle.mp_texts.proofs.Sayings.{SaySame, SaySame-append, SaySame-members, join_says, same_join, turned}

-- the join is of the documents that the texts are read as
pub join_of_read : (ts : List (List ℕ)) (ds : List Document) (a : List ℕ) → AreRead ts ds → (is : IsJoinText ts a) → IsJoin ds is.join
join_of_read ts ds a read is = subst (λ (xs : List Document). IsJoin xs is.join) (one_reading ts is.documents ds is.read read) is.is_join

-- texts that say the same have the same join texts
pub carried : (ts us : List (List ℕ)) (ds es : List Document) (a : List ℕ) → AreRead ts ds → AreRead us es → SaySame ds es → IsJoinText ts a → IsJoinText us a
carried ts us ds es a read others_read same is = record {
  documents = es;
  read = others_read;
  join = is.join;
  is_join = same_join ds es is.join same (join_of_read ts ds a read is);
  text = is.text;
}

pub join_texts_are_shared : JoinTextsAreShared
join_texts_are_shared ts us a same =
    let alike = SaySame-members same.same in (
      carried ts us same.documents same.other_documents a same.read same.others_read alike,
      carried us ts same.other_documents same.documents a same.others_read same.read (turned alike),
    )

pub join_of_two_joins : JoinOfTwoJoins
join_of_two_joins ts us one other a first second =
    let ds = first.documents in
    let es = second.documents in
    let js = first.join ∷ second.join ∷ [] in
    let read_joins : AreRead (one ∷ other ∷ []) js = AreRead-cons one (other ∷ []) first.join (second.join ∷ []) first.text.read_back (AreRead-cons other [] second.join [] second.text.read_back refl) in
    let read_all = AreRead-append ts us ds es first.read second.read in
    let alike : SaySame js (ds ++ es) = SaySame-append (first.join ∷ []) ds (second.join ∷ []) es (join_says ds first.join first.is_join) (join_says es second.join second.is_join) in (
      carried (one ∷ other ∷ []) (ts ++ us) js (ds ++ es) a read_joins read_all alike,
      carried (ts ++ us) (one ∷ other ∷ []) (ds ++ es) js a read_all read_joins (turned alike),
    )

module _ (laws : JoinLaws) where
  pub documents_of : (ts : List (List ℕ)) (ds : List Document) → AreRead ts ds → All IsDocument ds
  documents_of ts ds read = readable_documents ds (all_readable laws.readable ts ds read)

  pub good_join : (ts : List (List ℕ)) (a : List ℕ) → (is : IsJoinText ts a) → IsDocument is.join
  good_join ts a is = (laws.readable a is.join is.text.read_back).is_document

  pub one_join_text : OneJoinText
  one_join_text ts us a b same one other =
      let at_one = join_of_read ts same.documents a same.read one in
      let at_other = join_of_read us same.other_documents b same.others_read other in
      let equal = laws.one_join same.documents same.other_documents one.join other.join same.same (good_join ts a one) (good_join us b other) at_one at_other in
      one.text.is ∙ ap compact equal ∙ sym other.text.is

  -- what has a join text is compatible
  pub compatible_from_join : (ts : List (List ℕ)) (a : List ℕ) → (is : IsJoinText ts a) → PairwiseCompatible is.documents
  compatible_from_join ts a is =
      let some : is.documents ≢ [] = λ none. laws.none_has_no_join is.join (subst (λ (xs : List Document). IsJoin xs is.join) none is.is_join) in
      (laws.join_exists is.documents some (documents_of ts is.documents is.read)).0 (is.join, good_join ts a is, is.is_join)

  -- and what is compatible has one
  pub join_text : (ts : List (List ℕ)) (ds : List Document) → AreRead ts ds → ts ≢ [] → PairwiseCompatible ds → HasJoinText ts
  join_text ts ds read some free =
      let found = (laws.join_exists ds (some_documents ts ds read some) (documents_of ts ds read)).1 free in
      let fine = laws.readable_join ds found.0 found.1 (all_readable laws.readable ts ds read) found.2 in (
        compact found.0,
        record { documents = ds; read = read; join = found.0; is_join = found.2; text = text_of_readable laws.reads_back found.0 (compact found.0) fine refl },
      )

  pub each_part_has_a_join : EachPartHasAJoin
  each_part_has_a_join ts some (a, is) sub nonempty =
      let found = some_read ts is.documents is.read some sub in
      let free = compatible_from_join ts a is in
      join_text some found.documents found.read nonempty (λ p q one two. free p q (found.among p one) (found.among q two))
