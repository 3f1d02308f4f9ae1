-- A document whose part at some tokens was written, token by token.
use Rattle.std.proofs.Common.{◌≡◌, ◌<◌, ◌+◌, ◌-◌, ℕ, zero, suc, [], ◌∷◌, ◌++◌, length, take, drop, Option, None, Some, option_and_then, MutBor, refl, sym, ap, ◌∙◌, subst, arith, append_assoc, add-one}
use Rattle.std.proofs.lemmas.List.{take-append-drop, take_all}
use Rattle.mp_tree.specs.Document.{Document, IsDocument}
use Rattle.mp_tree.specs.View.{document}
use Rattle.mp_tree.specs.declared.doc.Doc.{Doc}
use Rattle.mp_tree.proofs.Facts.{IsDocument-document}
use Rattle.mp_pointer.specs.Borrowing.{PartBecomes}
use Rattle.mp_pointer.specs.Private.Child.{one_token}
use Rattle.mp_pointer.specs.Difference.{kind}
use Rattle.mp_pointer.specs.Part.{part}
use Rattle.mp_pointer.specs.Spelling.{Tokens, BeginsWith}
use Rattle.mp_pointer.proofs.Parts.Kinds.{cases_begins, equals_by_part}
use Rattle.mp_pointer.proofs.Parts.Along.{part-append, kind-append, DifferOnlyAt-root}

pub becomes_root : (v d : Document) → PartBecomes [] v d v
becomes_root v d = record { stands = refl; only = DifferOnlyAt-root d v }

-- the part of a part
pub becomes_deeper : (s t : Tokens) (v w a b c : Document) → part a s ≡ Some b → PartBecomes s w a c → PartBecomes t v b w → PartBecomes (s ++ t) v a c
becomes_deeper s t v w a b c stood outer inner = record {
  stands = part-append c s t ∙ ap (option_and_then (λ d. part d t)) outer.stands ∙ inner.stands;
  only = λ u apart.
      cases_begins u s (λ begins.
      let is : u ≡ s ++ begins.0 = begins.1 in
      let within : ¬ BeginsWith begins.0 t = λ more. apart (more.0, is ∙ ap (λ x. s ++ x) more.1 ∙ sym (append_assoc s t more.0)) in
      ap (kind a) is ∙ kind-append a b s begins.0 stood ∙ inner.only begins.0 within ∙ sym (kind-append c w s begins.0 outer.stands) ∙ ap (kind c) (sym is))
      (λ other. outer.only u other);
}

take_one : (t : Tokens) (i : ℕ) → take (suc i) t ≡ take i t ++ take 1 (drop i t)
take_one [] zero = refl
take_one [] (suc i) = refl
take_one (x ∷ t) zero = refl
take_one (x ∷ t) (suc i) = ap (λ y. x ∷ y) (take_one t i)

take_next : (t : Tokens) (i : ℕ) → take (i + 1) t ≡ take i t ++ one_token t i
take_next t i = let one : (i + 1) - i ≡ 1 = omega arith in ap (λ n. take n t) (add-one i) ∙ take_one t i ∙ ap (λ n. take i t ++ take n (drop i t)) (sym one)

-- ---- the walk along t in the document d

-- the target is the part at the first tokens, and d follows it by the lender
pub record Reached (t : Tokens) (d : Doc) (count : ℕ) : Type 0 where
  pub number : ℕ
  pub within : number < count + 1
  pub target : MutBor Doc
  pub lender : Doc → Doc
  pub stood : part (document d) (take number t) ≡ Some (document target.now)
  pub made : (w : Doc) → PartBecomes (take number t) (document w) (document d) (document (lender w))

-- one token further
pub next_stood : (t : Tokens) (i : ℕ) (d : Document) (b : Document) (c : Option Document) → part d (take i t) ≡ Some b → c ≡ part b (one_token t i) → part d (take (i + 1) t) ≡ c
next_stood t i d b c stood there = ap (part d) (take_next t i) ∙ part-append d (take i t) (one_token t i) ∙ ap (option_and_then (λ e. part e (one_token t i))) stood ∙ sym there

pub next_made : (t : Tokens) (i : ℕ) (v w a b c : Document) → part a (take i t) ≡ Some b → PartBecomes (take i t) w a c → PartBecomes (one_token t i) v b w → PartBecomes (take (i + 1) t) v a c
next_made t i v w a b c stood outer inner = subst (λ s. PartBecomes s v a c) (sym (take_next t i)) (becomes_deeper (take i t) (one_token t i) v w a b c stood outer inner)

-- no part at the first tokens, so none at all
pub nothing_further : (t : Tokens) (i : ℕ) (d : Document) → part d (take i t) ≡ None → part d t ≡ None
nothing_further t i d none = ap (part d) (sym (take-append-drop i t)) ∙ part-append d (take i t) (drop i t) ∙ ap (option_and_then (λ e. part e (drop i t))) none

-- what was borrowed came back as it was
pub nothing_changed-by : {V : Type 0} (f : V → Document) (good : (v : V) → IsDocument (f v)) (s : Tokens) (d e b n : V) → part (f d) s ≡ Some (f b) → PartBecomes s (f n) (f d) (f e) → f n ≡ f b → f e ≡ f d
nothing_changed-by f good s d e b n stood made same = sym (equals_by_part s (f d) (f e) (f b) (good d) (good e) made.only stood (made.stands ∙ ap Some same))

pub nothing_changed : (s : Tokens) (d e b n : Doc) → part (document d) s ≡ Some (document b) → PartBecomes s (document n) (document d) (document e) → document n ≡ document b → document e ≡ document d
nothing_changed = nothing_changed-by document IsDocument-document

pub all_taken : (t : Tokens) (i : ℕ) → i ≡ length t → take i t ≡ t
all_taken t i all = take_all i t (omega arith)
