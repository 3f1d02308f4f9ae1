-- Texts that are read one by one, up to the first that is not a document.
use Rattle.std.proofs.Common.{◌≡◌, ◌<◌, ◌+◌, ℕ, zero, suc, List, [], ◌∷◌, ◌++◌, Bor, length, map, take, get_or, slice_get, slice_index_or, Some, Ok, refl, sym, ap, ◌∙◌, subst, arith}
use Rattle.std.proofs.lemmas.List.{length-map, map-append, take_more}
use Rattle.mp_tree.specs.Document.{Document}
use Rattle.mp_tree.specs.Text.{document_in}
use Rattle.mp_texts.specs.Private.Unread.{IsPatchFault, IsPatchesFault}
use Rattle.mp_texts.specs.Texts.{AreRead, given}
use Rattle.mp_texts.specs.declared.fault.TextsFault.{TextsFault}
use Rattle.mp_texts.specs.declared.fault.TextsFault.TheVariants.{Document as NoDocument, Patch, List as OfList, Form, Refused, Pointer, Missing, TooLarge, OutOfMemory}
use Rattle.mp_texts.proofs.Readings.{AreRead-append, AreRead-cons}

-- ---- the text of a number

pub given_at : (ps : List (Bor (List ℕ))) (k : ℕ) (d : Bor (List ℕ)) → k < length ps → slice_get (given ps) k ≡ Some (slice_index_or ps k d).now
given_at [] k d below = absurd (omega arith)
given_at (p ∷ ps) zero d below = refl
given_at (p ∷ ps) (suc k) d below = given_at ps k d (omega arith)

element_at : (ps : List (Bor (List ℕ))) (k : ℕ) (d : Bor (List ℕ)) → k < length ps → get_or (given ps) k d.now ≡ (slice_index_or ps k d).now
element_at [] k d below = absurd (omega arith)
element_at (p ∷ ps) zero d below = refl
element_at (p ∷ ps) (suc k) d below = element_at ps k d (omega arith)

-- ---- one more text

next_reading : (ps : List (Bor (List ℕ))) (k : ℕ) (p : Bor (List ℕ)) → k < length ps → (ds : List Document) (d : Document) → AreRead (take k (given ps)) ds
    → document_in (slice_index_or ps k p).now ≡ Ok d → AreRead (take (k + 1) (given ps)) (ds ++ d ∷ [])
next_reading ps k p below ds d read here =
    let text = (slice_index_or ps k p).now in
    let one : AreRead (text ∷ []) (d ∷ []) = AreRead-cons text [] d [] here refl in
    let grown : take (k + 1) (given ps) ≡ take k (given ps) ++ text ∷ [] =
    take_more (given ps) k p.now (omega (arith, below, length-map ps (λ (t : Bor (List ℕ)). t.now))) ∙ ap (λ (t : List ℕ). take k (given ps) ++ t ∷ []) (element_at ps k p below) in
    subst (λ (ts : List (List ℕ)). AreRead ts (ds ++ d ∷ [])) (sym grown) (AreRead-append (take k (given ps)) (text ∷ []) ds (d ∷ []) read one)

pub next_read : {V : Type 0} (f : V → Document) (ps : List (Bor (List ℕ))) (k : ℕ) (d : Bor (List ℕ)) → k < length ps → (vs new : List V) (x : V) → AreRead (take k (given ps)) (map f vs)
    → new ≡ vs ++ x ∷ [] → document_in (slice_index_or ps k d).now ≡ Ok (f x) → AreRead (take (k + 1) (given ps)) (map f new)
next_read f ps k d below vs new x read pushed here =
    let moved : map f new ≡ map f vs ++ f x ∷ [] = ap (map f) pushed ∙ map-append f vs (x ∷ []) in
    subst (λ (ds : List Document). AreRead (take (k + 1) (given ps)) ds) (sym moved) (next_reading ps k d below (map f vs) (f x) read here)

-- ---- the first that is not one

pub unread_at : (ts : List (List ℕ)) (k : ℕ) (ds : List Document) → AreRead (take k ts) ds → (t : List ℕ) → slice_get ts k ≡ Some t → (fault : TextsFault) → IsPatchFault fault t k → IsPatchesFault fault ts
unread_at ts k ds read t at (Patch number fault) (same, unread) = record {
  before = ds;
  read = subst (λ (n : ℕ). AreRead (take n ts) ds) (sym same) read;
  text = t;
  is = subst (λ (n : ℕ). slice_get ts n ≡ Some t) (sym same) at;
  unread = unread;
}
unread_at ts k ds read t at OutOfMemory is = tt
unread_at ts k ds read t at (NoDocument fault) is = absurd is
unread_at ts k ds read t at (OfList fault) is = absurd is
unread_at ts k ds read t at (Form fault) is = absurd is
unread_at ts k ds read t at (Refused fault) is = absurd is
unread_at ts k ds read t at (Pointer fault) is = absurd is
unread_at ts k ds read t at Missing is = absurd is
unread_at ts k ds read t at (TooLarge number) is = absurd is
