-- A call over texts in steps: each finds what the next one needs, or fails. The steps that read are here.
use Rattle.std.proofs.Common.{◌≡◌, ℕ, zero, suc, List, [], ◌∷◌, None, Some, Result, Ok, Err, take, slice_get, refl, sym, ap, ap₂, ◌∙◌, subst}
use Rattle.mp_tree.specs.Document.{Document}
use Rattle.mp_tree.specs.Text.{document_in}
use Rattle.mp_tree.specs.declared.fault.ReadFault.{ReadFault}
use Rattle.mp_texts.specs.Calls.{CallAnswer, failed}
use Rattle.mp_texts.specs.Texts.{AreRead, IsFirstUnread}
use Rattle.mp_texts.specs.declared.fault.TextsFault.{TextsFault}
use Rattle.mp_texts.specs.declared.fault.TextsFault.TheVariants.{Patch}
use Rattle.mp_texts.proofs.Readings.{one_reading}

-- ---- a step

pub data Step (X : Type 0) (Finds : X → Type 0) (Fails : TextsFault → Type 0) (Next : X → CallAnswer → Type 0) (a : CallAnswer) : Type 0 where
  stops : (why : TextsFault) → Fails why → a ≡ failed why → Step X Finds Fails Next a
  goes_on : (x : X) → Finds x → Next x a → Step X Finds Fails Next a

-- it finds one thing, or fails in one way
pub record IsOneStep (X : Type 0) (Finds : X → Type 0) (Fails : TextsFault → Type 0) : Type 0 where
  pub found : (x y : X) → Finds x → Finds y → x ≡ y
  pub fault : (why other : TextsFault) → Fails why → Fails other → why ≡ other
  pub apart : (x : X) (why : TextsFault) → Finds x → Fails why → ⊥

-- so what comes after it is one, if the next step gives one answer
pub one_step : (X : Type 0) (Finds : X → Type 0) (Fails : TextsFault → Type 0) (Next : X → CallAnswer → Type 0) → IsOneStep X Finds Fails
    → ((x : X) (a b : CallAnswer) → Finds x → Next x a → Next x b → a ≡ b)
    → (a b : CallAnswer) → Step X Finds Fails Next a → Step X Finds Fails Next b → a ≡ b
one_step X Finds Fails Next one next a b (stops why fails is) (stops other also was) = is ∙ ap failed (one.fault why other fails also) ∙ sym was
one_step X Finds Fails Next one next a b (stops why fails is) (goes_on y finds rest) = absurd (one.apart y why finds fails)
one_step X Finds Fails Next one next a b (goes_on x finds rest) (stops why fails is) = absurd (one.apart x why finds fails)
one_step X Finds Fails Next one next a b (goes_on x finds rest) (goes_on y also more) =
    next x a b finds rest (subst (λ (z : X). Next z b) (sym (one.found x y finds also)) more)

-- ---- a text is read

abbrev pub Reads : List ℕ → Document → Type 0
Reads text d = document_in text ≡ Ok d

abbrev pub Unread : (ReadFault → TextsFault) → List ℕ → TextsFault → Type 0
Unread reported text why = (fault : ReadFault) × (why ≡ reported fault) × (document_in text ≡ Err fault)

one_document : (r : Result Document ReadFault) (d e : Document) → r ≡ Ok d → r ≡ Ok e → d ≡ e
one_document r d e one other = cc

one_fault : (r : Result Document ReadFault) (fault other : ReadFault) → r ≡ Err fault → r ≡ Err other → fault ≡ other
one_fault r fault other one also = cc

read_or_not : (r : Result Document ReadFault) (d : Document) (fault : ReadFault) → r ≡ Ok d → r ≡ Err fault → ⊥
read_or_not r d fault one other = cc

pub one_text : (reported : ReadFault → TextsFault) (text : List ℕ) → IsOneStep Document (Reads text) (Unread reported text)
one_text reported text = record {
  found = λ d e one other. one_document (document_in text) d e one other;
  fault = λ why also (fault, is, unread) (other, was, again). is ∙ ap reported (one_fault (document_in text) fault other unread again) ∙ sym was;
  apart = λ d why read (fault, is, unread). read_or_not (document_in text) d fault read unread;
}

-- ---- texts are read

-- the first text is not a document, or is one and a later text is none
abbrev First : List ℕ → List (List ℕ) → ℕ → ReadFault → Type 0
First t ts zero fault = document_in t ≡ Err fault
First t ts (suc n) fault = ((d : Document) × (document_in t ≡ Ok d)) × IsFirstUnread ts n fault

first_of_texts : (t : List ℕ) (ts : List (List ℕ)) (n : ℕ) (fault : ReadFault) (before : List Document) (text : List ℕ) → AreRead (take n (t ∷ ts)) before
    → slice_get (t ∷ ts) n ≡ Some text → document_in text ≡ Err fault → First t ts n fault
first_of_texts t ts zero fault before text read is unread = let same : t ≡ text = cc in subst (λ (s : List ℕ). document_in s ≡ Err fault) (sym same) unread
first_of_texts t ts (suc n) fault [] text read is unread = absurd (cc)
first_of_texts t ts (suc n) fault (d ∷ before) text read is unread =
    let here : document_in t ≡ Ok d = cc in
    let rest : AreRead (take n ts) before = cc in
    ((d, here), record { before = before; read = rest; text = text; is = is; unread = unread })

is_first : (t : List ℕ) (ts : List (List ℕ)) (n : ℕ) (fault : ReadFault) → IsFirstUnread (t ∷ ts) n fault → First t ts n fault
is_first t ts n fault first = first_of_texts t ts n fault first.before first.text first.read first.is first.unread

none_given : (text : List ℕ) → None ≡ Some text → ⊥
none_given text is = cc

abbrev AreOne : List (List ℕ) → Type 0
AreOne ts = (n m : ℕ) (fault other : ReadFault) → IsFirstUnread ts n fault → IsFirstUnread ts m other → (n ≡ m) × (fault ≡ other)

one_first : (t : List ℕ) (ts : List (List ℕ)) → AreOne ts → (n m : ℕ) (fault other : ReadFault) → First t ts n fault → First t ts m other → (n ≡ m) × (fault ≡ other)
one_first t ts later zero zero fault other one also = (refl, one_fault (document_in t) fault other one also)
one_first t ts later zero (suc m) fault other one also = absurd (read_or_not (document_in t) also.0.0 fault also.0.1 one)
one_first t ts later (suc n) zero fault other one also = absurd (read_or_not (document_in t) one.0.0 other one.0.1 also)
one_first t ts later (suc n) (suc m) fault other one also = let same = later n m fault other one.1 also.1 in (ap suc same.0, same.1)

one_unread : (ts : List (List ℕ)) → AreOne ts
one_unread [] n m fault other one also = absurd (none_given one.text one.is)
one_unread (t ∷ ts) n m fault other one also = one_first t ts (one_unread ts) n m fault other (is_first t ts n fault one) (is_first t ts m other also)

not_first : (t : List ℕ) (ts : List (List ℕ)) → ((ds : List Document) (n : ℕ) (fault : ReadFault) → AreRead ts ds → IsFirstUnread ts n fault → ⊥)
    → (ds : List Document) (n : ℕ) (fault : ReadFault) → AreRead (t ∷ ts) ds → First t ts n fault → ⊥
not_first t ts later [] n fault read first = cc
not_first t ts later (d ∷ ds) zero fault read first = let here : document_in t ≡ Ok d = cc in read_or_not (document_in t) d fault here first
not_first t ts later (d ∷ ds) (suc n) fault read first = let rest : AreRead ts ds = cc in later ds n fault rest first.1

all_or_one : (ts : List (List ℕ)) (ds : List Document) (n : ℕ) (fault : ReadFault) → AreRead ts ds → IsFirstUnread ts n fault → ⊥
all_or_one [] ds n fault read first = none_given first.text first.is
all_or_one (t ∷ ts) ds n fault read first = not_first t ts (all_or_one ts) ds n fault read (is_first t ts n fault first)

abbrev pub UnreadPatch : List (List ℕ) → TextsFault → Type 0
UnreadPatch ts why = (n : ℕ) × (fault : ReadFault) × (why ≡ Patch n fault) × IsFirstUnread ts n fault

same_patch : (n m : ℕ) (fault other : ReadFault) → (n ≡ m) × (fault ≡ other) → Patch n fault ≡ Patch m other
same_patch n m fault other same = ap₂ (λ (k : ℕ) (f : ReadFault). Patch k f) same.0 same.1

pub one_list : (ts : List (List ℕ)) → IsOneStep (List Document) (AreRead ts) (UnreadPatch ts)
one_list ts = record {
  found = λ ds es one other. one_reading ts ds es one other;
  fault = λ why also (n, fault, is, first) (m, other, was, again). is ∙ same_patch n m fault other (one_unread ts n m fault other first again) ∙ sym was;
  apart = λ ds why read (n, fault, is, first). all_or_one ts ds n fault read first;
}
