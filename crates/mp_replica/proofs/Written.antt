-- What is written of a document within a limit, and that it is never nothing, but where nothing was taken.
use Rattle.std.proofs.Common.{◌≡◌, ◌≢◌, ◌≤◌, ◌<◌, ℕ, List, [], ◌∷◌, None, option_map, Some, Ok, Err, IfOk, MatchResult, Result, String, string_bytes, length, option_and_then, refl, sym, ap, ◌∙◌, subst, arith, true, false}
use Rattle.mp_tree.specs.Document.{Document, null, flag, whole, string, list, object, depth, depth_limit}
use Rattle.mp_tree.specs.Text.{from_data, read, text as compact}
use Rattle.mp_tree.specs.View.{document}
use Rattle.mp_tree.specs.declared.doc.Doc.{Doc}
use Rattle.std.specs.List.{Contains}
use Rattle.mp_tree.specs.Look.{Path}
use Rattle.mp_tree.proofs.Facts.{Contains-head, Contains-nil}
use Rattle.mp_merge.specs.Join.{IsJoin}
use Rattle.mp_replica.specs.Held.{AreClashesAmong, HeldPatches, HeldPlaces, IsJoinOf}
use Rattle.mp_replica.specs.Private.LawsBelow.{MergeLaws, TextLaws}
use Rattle.mp_replica.specs.Taking.{HasTaken}
use Rattle.mp_replica.specs.Private.Writing.{IsNotWritten}
use Rattle.mp_replica.specs.declared.fault.LiveFault.{LiveFault}
use Rattle.mp_replica.specs.declared.fault.LiveFault.TheVariants as live
use Rattle.mp_replica.proofs.Keeping.{unread, unread_nothing}
use Rattle.mp_replica.proofs.Taking as taking

read_nothing : read [] ≡ None
read_nothing = ap (option_and_then from_data) (unread [] unread_nothing)

module _ (laws : TextLaws) where
  shallow_text : (d : Doc) → depth (document d) ≤ depth_limit → compact (document d) ≢ []
  shallow_text d within empty =
      let good = laws.docs_good d in
      let back = laws.reads_back (document d) (record { is_document = good.0; has_texts = good.1; in_range = good.2; within = within }) in
      let never = sym (subst (λ t. read t ≡ Some (document d)) empty back) ∙ read_nothing in
      cc

  -- the compact text of a document has at least a byte
  pub some_text : (d : Doc) → compact (document d) ≢ []
  some_text d = by (document d) refl
    where
      by : (e : Document) → document d ≡ e → compact (document d) ≢ []
      by (whole n) is empty = shallow_text d (subst (λ (x : Document). depth x ≤ depth_limit) (sym is) (omega arith)) empty
      by null is empty = let never = sym (ap compact is) ∙ empty in cc
      by (flag true) is empty = let never = sym (ap compact is) ∙ empty in cc
      by (flag false) is empty = let never = sym (ap compact is) ∙ empty in cc
      by (string s) is empty = let never = sym (ap compact is) ∙ empty in cc
      by (list ds) is empty = let never = sym (ap compact is) ∙ empty in cc
      by (object ms) is empty = let never = sym (ap compact is) ∙ empty in cc

-- ---- of a text that is handed out unless it is too long

module _ {A : Type 0} (limit : ℕ) (text : List ℕ) where
  abbrev IsWritten : Result (String A) LiveFault → Type 0
  IsWritten r = MatchResult r (λ t. (string_bytes t ≡ text) × (length (string_bytes t) ≤ limit)) (λ fault. IsNotWritten limit fault text)

  -- said in the words of a call: of the text, of one that is too long, and of no memory
  pub written : (Good : List ℕ → Type 0) (Bad : LiveFault → Type 0) (r : Result (String A) LiveFault) → IsWritten r → ((bytes : List ℕ) → bytes ≡ text → Good bytes) → (limit < length text → Bad live.TooLarge)
      → Bad live.OutOfMemory → MatchResult r (λ t. Good (string_bytes t)) Bad
  written Good Bad (Ok t) is good long memory = good (string_bytes t) is.0
  written Good Bad (Err live.TooLarge) is good long memory = long is
  written Good Bad (Err live.OutOfMemory) is good long memory = memory
  written Good Bad (Err (live.Document f)) is good long memory = absurd is
  written Good Bad (Err (live.Pointer f)) is good long memory = absurd is
  written Good Bad (Err live.Missing) is good long memory = absurd is
  written Good Bad (Err live.NoPatches) is good long memory = absurd is
  written Good Bad (Err live.Conflict) is good long memory = absurd is
  written Good Bad (Err live.Pending) is good long memory = absurd is
  written Good Bad (Err live.NotKept) is good long memory = absurd is

  pub written_so : (Good : List ℕ → Type 0) (r : Result (String A) LiveFault) → IsWritten r → ((bytes : List ℕ) → bytes ≡ text → Good bytes) → IfOk r (λ t. Good (string_bytes t))
  written_so Good (Ok t) is good = good (string_bytes t) is.0
  written_so Good (Err fault) is good = tt

-- ---- whether anything was taken

-- where two conflict something was
pub some_conflict : (r : HeldPatches) (taken : List Document) (held : HeldPlaces) → r.places ≡ Some held → HasTaken r taken → taken ≢ []
some_conflict r taken held some has none = let conflict = taking.if_conflict r taken held some has in by conflict.all conflict.clashes
  where
    by : (all : List Path) → AreClashesAmong taken all → ⊥
    by [] clashes = clashes.some refl
    by (w ∷ ws) clashes = let at = clashes.each w (Contains-head w ws) in Contains-nil at.0 (subst (λ (l : List Document). Contains l at.0) none at.2)

module _ (laws : MergeLaws) (r : HeldPatches) (taken : List Document) where
  -- and where there is a join
  pub some_join : (j : Doc) → r.places ≡ None → r.pending ≡ None → r.joined ≡ Some j → HasTaken r taken → taken ≢ []
  some_join j free settled some has none =
      let joined : IsJoin taken (document j) = subst (λ o. IsJoinOf taken (option_map document o)) some ((taking.holds_join laws taken r has).1 free settled) in
      laws.none_has_no_join (document j) (subst (λ ds. IsJoin ds (document j)) none joined)

  -- else nothing
  pub nothing_taken : r.places ≡ None → r.pending ≡ None → r.joined ≡ None → HasTaken r taken → taken ≡ []
  nothing_taken free settled none has = subst (λ o. IsJoinOf taken (option_map document o)) none ((taking.holds_join laws taken r has).1 free settled)
