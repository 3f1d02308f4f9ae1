-- Trees of texts that are joined through.
use Rattle.std.proofs.Common.{◌≡◌, ◌≢◌, ℕ, List, [], ◌∷◌, ◌++◌, Ok, refl, sym, subst}
use Rattle.std.proofs.lemmas.List.Elements.{Contains-append_left, Contains-append_right}
use Rattle.mp_tree.specs.Document.{Document}
use Rattle.mp_tree.specs.Text.{document_in}
use Rattle.mp_merge.specs.Lists.{PairwiseCompatible}
use Rattle.mp_texts.specs.Answers.{IsJoinText}
use Rattle.mp_texts.specs.Laws.{ReducesAgree, ReducesDecide, ReducesExist, ReducesGiveTheJoin}
use Rattle.mp_texts.specs.Private.LawsBelow.{JoinLaws}
use Rattle.mp_texts.specs.Reduces.{Part, leaf, group, Parts, last, next, texts_at, texts_in, Gives, AllGive, JoinsThrough}
use Rattle.mp_texts.specs.Texts.{AreCompatible, AreRead}
use Rattle.mp_texts.proofs.Joins.{carried, compatible_from_join, join_of_read, join_text, join_texts_are_shared, one_join_text}
use Rattle.mp_texts.proofs.Readings.{AreRead-append, AreRead-cons, AreRead-split, one_reading}
use Rattle.mp_texts.proofs.Sayings.{SaySame, SaySame-append, SaySame-members, SaySame-trans, join_says, same_compatible, turned}

-- ---- what a part gives says what the texts at its leaves say

record Given (ds : List Document) (a : List ℕ) : Type 0 where
  document : Document
  read : document_in a ≡ Ok document
  says : SaySame (document ∷ []) ds

record AllGiven (ds : List Document) (answers : List (List ℕ)) : Type 0 where
  documents : List Document
  read : AreRead answers documents
  says : SaySame documents ds

itself : (ds : List Document) → SaySame ds ds
itself ds = SaySame-members (λ p. (λ at. at, λ at. at))

leaf_given : (t : List ℕ) (ds : List Document) → AreRead (t ∷ []) ds → Given ds t
leaf_given t [] read = absurd (cc)
leaf_given t (d ∷ []) read = let here : document_in t ≡ Ok d = cc in record { document = d; read = here; says = itself (d ∷ []) }
leaf_given t (d ∷ e ∷ ds) read = absurd (cc)

mutual
  given_by : (p : Part) (a : List ℕ) (ds : List Document) → AreRead (texts_at p) ds → Gives p a → Given ds a
  given_by (leaf t) a ds read is = subst (λ (s : List ℕ). Given ds s) (sym is) (leaf_given t ds read)
  given_by (group ps) a ds read (answers, all, is) =
      let found = all_given ps answers ds read all in
      record {
        document = is.join;
        read = is.text.read_back;
        says = SaySame-trans (join_says found.documents is.join (join_of_read answers found.documents a found.read is)) found.says;
      }

  all_given : (ps : Parts) (answers : List (List ℕ)) (ds : List Document) → AreRead (texts_in ps) ds → AllGive ps answers → AllGiven ds answers
  all_given (last p) [] ds read all = absurd all
  all_given (last p) (a ∷ []) ds read all =
      let one = given_by p a ds read all in
      record { documents = one.document ∷ []; read = AreRead-cons a [] one.document [] one.read refl; says = one.says }
  all_given (last p) (a ∷ b ∷ more) ds read all = absurd all
  all_given (next p ps) [] ds read all = absurd all
  all_given (next p ps) (a ∷ answers) ds read (here, rest) =
      let cut = AreRead-split (texts_at p) (texts_in ps) ds read in
      let one = given_by p a cut.front cut.front_read here in
      let others = all_given ps answers cut.back cut.back_read rest in
      record {
        documents = one.document ∷ others.documents;
        read = AreRead-cons a answers one.document others.documents one.read others.read;
        says = subst (λ (xs : List Document). SaySame (one.document ∷ others.documents) xs) (sym cut.is) (SaySame-append (one.document ∷ []) cut.front others.documents cut.back one.says others.says);
      }

-- so a tree that is joined through gives the join text of its leaves
through_join : (ps : Parts) (a : List ℕ) (ds : List Document) → AreRead (texts_in ps) ds → JoinsThrough ps a → IsJoinText (texts_in ps) a
through_join ps a ds read (answers, all, is) =
    let found = all_given ps answers ds read all in
    carried answers (texts_in ps) found.documents ds a found.read read found.says is

pub reduces_give_the_join : ReducesGiveTheJoin
reduces_give_the_join ts ps a same through =
    (join_texts_are_shared ts (texts_in ps) a same).1 (through_join ps a same.other_documents same.others_read through)

-- ---- what is joined through is read: each text at its leaves is a document

record Read (texts : List (List ℕ)) : Type 0 where
  documents : List Document
  read : AreRead texts documents

mutual
  read_by : (p : Part) (a : List ℕ) (d : Document) → Gives p a → document_in a ≡ Ok d → Read (texts_at p)
  read_by (leaf t) a d is read =
      let itself_read = subst (λ (s : List ℕ). document_in s ≡ Ok d) is read in
      record { documents = d ∷ []; read = AreRead-cons t [] d [] itself_read refl }
  read_by (group ps) a d (answers, all, is) read = all_read ps answers is.documents all is.read

  all_read : (ps : Parts) (answers : List (List ℕ)) (ds : List Document) → AllGive ps answers → AreRead answers ds → Read (texts_in ps)
  all_read (last p) [] ds all read = absurd all
  all_read (last p) (a ∷ []) [] all read = absurd (cc)
  all_read (last p) (a ∷ []) (d ∷ ds) all read = let here : document_in a ≡ Ok d = cc in read_by p a d all here
  all_read (last p) (a ∷ b ∷ more) ds all read = absurd all
  all_read (next p ps) [] ds all read = absurd all
  all_read (next p ps) (a ∷ answers) [] all read = absurd (cc)
  all_read (next p ps) (a ∷ answers) (d ∷ ds) (first, rest) read =
      let here : document_in a ≡ Ok d = cc in
      let later : AreRead answers ds = cc in
      let one = read_by p a d first here in
      let others = all_read ps answers ds rest later in
      record {
        documents = one.documents ++ others.documents;
        read = AreRead-append (texts_at p) (texts_in ps) one.documents others.documents one.read others.read;
      }

-- ---- compatible texts are joined through

some_given : (ps : Parts) (answers : List (List ℕ)) → AllGive ps answers → answers ≢ []
some_given (last p) [] all none = all
some_given (next p ps) [] all none = all
some_given (last p) (a ∷ answers) all none = cc
some_given (next p ps) (a ∷ answers) all none = cc

front_compatible : (ds front back : List Document) → ds ≡ front ++ back → PairwiseCompatible ds → PairwiseCompatible front
front_compatible ds front back is free p q one two =
    let whole = subst PairwiseCompatible is free in
    whole p q (Contains-append_left front back p one) (Contains-append_left front back q two)

back_compatible : (ds front back : List Document) → ds ≡ front ++ back → PairwiseCompatible ds → PairwiseCompatible back
back_compatible ds front back is free p q one two =
    let whole = subst PairwiseCompatible is free in
    whole p q (Contains-append_right front back p one) (Contains-append_right front back q two)

module _ (laws : JoinLaws) where
  mutual
    part_gives : (p : Part) (ds : List Document) → AreRead (texts_at p) ds → PairwiseCompatible ds → (a : List ℕ) × Gives p a
    part_gives (leaf t) ds read free = (t, refl)
    part_gives (group ps) ds read free =
        let found = parts_give ps ds read free in
        let said = all_given ps found.0 ds read found.1 in
        let joined = join_text laws found.0 said.documents said.read (some_given ps found.0 found.1) (same_compatible ds said.documents (turned said.says) free) in
        (joined.0, (found.0, found.1, joined.1))

    parts_give : (ps : Parts) (ds : List Document) → AreRead (texts_in ps) ds → PairwiseCompatible ds → (answers : List (List ℕ)) × AllGive ps answers
    parts_give (last p) ds read free = let one = part_gives p ds read free in (one.0 ∷ [], one.1)
    parts_give (next p ps) ds read free =
        let cut = AreRead-split (texts_at p) (texts_in ps) ds read in
        let one = part_gives p cut.front cut.front_read (front_compatible ds cut.front cut.back cut.is free) in
        let others = parts_give ps cut.back cut.back_read (back_compatible ds cut.front cut.back cut.is free) in
        (one.0 ∷ others.0, (one.1, others.1))

  pub reduces_agree : ReducesAgree
  reduces_agree ps qs a b same one other =
      one_join_text laws (texts_in ps) (texts_in qs) a b same
      (through_join ps a same.documents same.read one) (through_join qs b same.other_documents same.others_read other)

  pub reduces_exist : ReducesExist
  reduces_exist ts ps same = (
    λ found.
        let is = reduces_give_the_join ts ps found.0 same found.1 in
        record { documents = is.documents; read = is.read; compatible = compatible_from_join laws ts found.0 is },
    λ free.
        let here = subst PairwiseCompatible (one_reading ts free.documents same.documents free.read same.read) free.compatible in
        part_gives (group ps) same.other_documents same.others_read (same_compatible same.documents same.other_documents (SaySame-members same.same) here),
  )

  through_compatible : (ps : Parts) (a : List ℕ) → JoinsThrough ps a → AreCompatible (texts_in ps)
  through_compatible ps a through =
      let leaves = all_read ps through.0 through.2.documents through.1 through.2.read in
      let is = through_join ps a leaves.documents leaves.read through in
      record { documents = is.documents; read = is.read; compatible = compatible_from_join laws (texts_in ps) a is }

  pub reduces_decide : ReducesDecide
  reduces_decide ps = (
    λ (a, through). through_compatible ps a through,
    λ free. part_gives (group ps) free.documents free.read free.compatible,
  )
