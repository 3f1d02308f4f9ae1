-- Texts that are read, and the documents that they are read as.
use Rattle.std.proofs.Common.{◌≡◌, ◌≢◌, ◌≤◌, inl, inr, List, [], ◌∷◌, ◌++◌, ℕ, Some, Ok, refl, sym, ap, ap₂, subst}
use Rattle.std.proofs.lemmas.List.Elements.{All-cons, All-nil, All-weaker}
use Rattle.std.specs.List.{All, Contains}
use Rattle.mp_tree.specs.Document.{Document, IsReadable, depth, depth_limit}
use Rattle.mp_tree.specs.Laws.{ReadsBack, ReadsReadable}
use Rattle.mp_tree.specs.Text.{document_in, read, text as compact}
use Rattle.mp_tree.proofs.Facts.{Contains-nil, Contains-head, Contains-tail, Contains-cases, document_in-read}
use Rattle.mp_merge.specs.Lists.{AreNoDeeper}
use Rattle.mp_texts.specs.Answers.{IsTextOf}
use Rattle.mp_texts.specs.Texts.{AreRead}

-- ---- one text

pub text_written : (d : Document) (answer : List ℕ) → answer ≡ compact d → (depth d ≤ depth_limit → read answer ≡ Some d) → depth d ≤ depth_limit → IsTextOf d answer
text_written d answer is back within = record { is = is; read_back = document_in-read answer d (back within) within }

pub text_of_readable : ReadsBack → (d : Document) (answer : List ℕ) → IsReadable d → answer ≡ compact d → IsTextOf d answer
text_of_readable back d answer good is = record {
  is = is;
  read_back = subst (λ (t : List ℕ). document_in t ≡ Ok d) (sym is) (document_in-read (compact d) d (back d good) good.within);
}

-- ---- many texts

pub AreRead-cons : (t : List ℕ) (ts : List (List ℕ)) (d : Document) (ds : List Document) → document_in t ≡ Ok d → AreRead ts ds → AreRead (t ∷ ts) (d ∷ ds)
AreRead-cons t ts d ds one rest = ap₂ (λ r rs. r ∷ rs) one rest

pub AreRead-append : (ts us : List (List ℕ)) (ds es : List Document) → AreRead ts ds → AreRead us es → AreRead (ts ++ us) (ds ++ es)
AreRead-append [] us [] es one other = other
AreRead-append [] us (d ∷ ds) es one other = absurd (cc)
AreRead-append (t ∷ ts) us [] es one other = absurd (cc)
AreRead-append (t ∷ ts) us (d ∷ ds) es one other =
    let here : document_in t ≡ Ok d = cc in
    let rest : AreRead ts ds = cc in
    AreRead-cons t (ts ++ us) d (ds ++ es) here (AreRead-append ts us ds es rest other)

pub record Split (ts us : List (List ℕ)) (ds : List Document) : Type 0 where
  pub front : List Document
  pub back : List Document
  pub is : ds ≡ front ++ back
  pub front_read : AreRead ts front
  pub back_read : AreRead us back

pub AreRead-split : (ts us : List (List ℕ)) (ds : List Document) → AreRead (ts ++ us) ds → Split ts us ds
AreRead-split [] us ds are = record { front = []; back = ds; is = refl; front_read = refl; back_read = are }
AreRead-split (t ∷ ts) us [] are = absurd (cc)
AreRead-split (t ∷ ts) us (d ∷ ds) are =
    let here : document_in t ≡ Ok d = cc in
    let rest : AreRead (ts ++ us) ds = cc in
    let later = AreRead-split ts us ds rest in
    record {
      front = d ∷ later.front;
      back = later.back;
      is = ap (λ (xs : List Document). d ∷ xs) later.is;
      front_read = AreRead-cons t ts d later.front here later.front_read;
      back_read = later.back_read;
    }

-- texts are read as one list of documents
pub one_reading : (ts : List (List ℕ)) (ds es : List Document) → AreRead ts ds → AreRead ts es → ds ≡ es
one_reading [] [] [] one other = refl
one_reading [] [] (e ∷ es) one other = absurd (cc)
one_reading [] (d ∷ ds) es one other = absurd (cc)
one_reading (t ∷ ts) [] es one other = absurd (cc)
one_reading (t ∷ ts) (d ∷ ds) [] one other = absurd (cc)
one_reading (t ∷ ts) (d ∷ ds) (e ∷ es) one other =
    let first : d ≡ e = cc in
    let rest : AreRead ts ds = cc in
    let other_rest : AreRead ts es = cc in
    ap₂ (λ (x : Document) xs. x ∷ xs) first (one_reading ts ds es rest other_rest)

pub all_readable : ReadsReadable → (ts : List (List ℕ)) (ds : List Document) → AreRead ts ds → All IsReadable ds
all_readable can [] [] are = All-nil IsReadable
all_readable can [] (d ∷ ds) are = absurd (cc)
all_readable can (t ∷ ts) [] are = absurd (cc)
all_readable can (t ∷ ts) (d ∷ ds) are =
    let here : document_in t ≡ Ok d = cc in
    let rest : AreRead ts ds = cc in
    All-cons IsReadable d ds (can t d here) (all_readable can ts ds rest)

pub all_within : ReadsReadable → (ts : List (List ℕ)) (ds : List Document) → AreRead ts ds → AreNoDeeper depth_limit ds
all_within can ts ds are = All-weaker IsReadable (λ d. depth d ≤ depth_limit) (λ d good. good.within) ds (all_readable can ts ds are)

pub some_documents : (ts : List (List ℕ)) (ds : List Document) → AreRead ts ds → ts ≢ [] → ds ≢ []
some_documents [] ds are some none = some refl
some_documents (t ∷ ts) [] are some none = cc
some_documents (t ∷ ts) (d ∷ ds) are some none = cc

-- ---- some of the texts

pub record ReadAt (ds : List Document) (t : List ℕ) : Type 0 where
  pub document : Document
  pub read : document_in t ≡ Ok document
  pub at : Contains ds document

read_at : (ts : List (List ℕ)) (ds : List Document) → AreRead ts ds → (t : List ℕ) → Contains ts t → ReadAt ds t
read_at [] ds are t at = absurd (Contains-nil t at)
read_at (u ∷ ts) [] are t at = absurd (cc)
read_at (u ∷ ts) (d ∷ ds) are t at =
    let first : document_in u ≡ Ok d = cc in
    let rest : AreRead ts ds = cc in
    elim (Contains-cases u t ts at) [
      | inl same ↦ record { document = d; read = subst (λ (s : List ℕ). document_in s ≡ Ok d) same first; at = Contains-head d ds }
      | inr later ↦ let found = read_at ts ds rest t later in record { document = found.document; read = found.read; at = Contains-tail d found.document ds found.at }
    ]

pub record ReadAmong (ds : List Document) (some : List (List ℕ)) : Type 0 where
  pub documents : List Document
  pub read : AreRead some documents
  pub among : (e : Document) → Contains documents e → Contains ds e

pub some_read : (ts : List (List ℕ)) (ds : List Document) → AreRead ts ds → (some : List (List ℕ)) → ((t : List ℕ) → Contains some t → Contains ts t) → ReadAmong ds some
some_read ts ds are [] sub = record { documents = []; read = refl; among = λ e at. absurd (Contains-nil e at) }
some_read ts ds are (t ∷ some) sub =
    let rest = some_read ts ds are some (λ u at. sub u (Contains-tail t u some at)) in
    let here = read_at ts ds are t (sub t (Contains-head t some)) in
    record {
      documents = here.document ∷ rest.documents;
      read = AreRead-cons t some here.document rest.documents here.read rest.read;
      among = λ e at. elim (Contains-cases here.document e rest.documents at) [ inl same ↦ subst (λ (x : Document). Contains ds x) same here.at | inr later ↦ rest.among e later ];
    }
