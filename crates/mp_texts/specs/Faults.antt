-- The error that each call answers within a limit: the first that holds, in the order of the cases. Out of memory says nothing,
-- and is one error, wherever it comes from; an error that a call can't have is ⊥ there.
use Rattle.std.specs.Prelude.{◌≡◌, ◌≢◌, ◌⊎◌, ℕ, List, None, Ok, Err, ⊤}
use Rattle.mp_tree.specs.Document.{Document}
use Rattle.mp_tree.specs.Text.{document_in}
use Rattle.mp_tree.specs.declared.fault.ReadFault.{ReadFault}
use Rattle.mp_pointer.specs.Part.{part}
use Rattle.mp_pointer.specs.Spelling.{Tokens, spell, IsPointerFault}
use Rattle.mp_pointer.specs.declared.fault.PointerFault.{PointerFault}
use Rattle.mp_pointer.specs.declared.fault.PointerFault.TheVariants as pointer
use Rattle.mp_patch.specs.Form.{AreForms, IsFormFault}
use Rattle.mp_patch.specs.Operation.{Operation}
use Rattle.mp_patch.specs.declared.fault.ApplyFault.TheVariants as apply
use Rattle.mp_patch.specs.declared.fault.FormFault.{FormFault}
use Rattle.mp_patch.specs.declared.fault.FormFault.TheVariants as form
use Rattle.mp_patch.specs.Work.{no_limit}
use Rattle.mp_patch.specs.Within.{IsApplyWithinFault}
use Rattle.mp_patch.specs.declared.fault.ApplyWithinFault.{ApplyWithinFault}
use Rattle.mp_patch.specs.declared.fault.ApplyWithinFault.TheVariants as within
use Rattle.mp_merge.specs.Within.{IsJoinAllWithinFault, IsReplayWithinFault, IsTooLargeRewriting}
use Rattle.mp_merge.specs.declared.comparing.Conflicts.{Conflicts}
use Rattle.mp_merge.specs.declared.fault.ListFault.{ListFault}
use Rattle.mp_merge.specs.declared.fault.ListFault.TheVariants as list
use Rattle.mp_merge.specs.declared.fault.RewriteFault.{RewriteFault}
use Rattle.mp_merge.specs.declared.fault.RewriteFault.TheVariants as rewrite
use Rattle.mp_texts.specs.Answers.{IsJoinText, IsLightPatchText, IsLightRewriteText, IsMergeText, IsPartText, IsReplayText, IsTooLong}
use Rattle.mp_texts.specs.Texts.{AreRead, IsFirstUnread}
use Rattle.mp_texts.specs.declared.fault.TextsFault.{TextsFault}
use Rattle.mp_texts.specs.declared.fault.TextsFault.TheVariants.{Document as NoDocument, Patch, List as OfList, Form, Refused}
use Rattle.mp_texts.specs.declared.fault.TextsFault.TheVariants.{Pointer, Missing, TooLarge, OutOfMemory}

-- ---- what is reported of an error of a call below

abbrev pub texts_fault_of_list : ListFault Conflicts → TextsFault
texts_fault_of_list list.OutOfMemory = OutOfMemory
texts_fault_of_list refusal = OfList refusal

abbrev pub texts_fault_of_form : FormFault → TextsFault
texts_fault_of_form form.OutOfMemory = OutOfMemory
texts_fault_of_form refusal = Form refusal

-- a result that weighs more than the limit has the number of its operation
abbrev pub texts_fault_of_apply_within : ApplyWithinFault → TextsFault
texts_fault_of_apply_within (within.Refused number cause) = Refused (apply.Refused number cause)
texts_fault_of_apply_within (within.TooLarge number) = TooLarge number
texts_fault_of_apply_within within.OutOfMemory = OutOfMemory

-- a rewriting that weighs more has how many of its operations fit
abbrev pub texts_fault_of_rewrite : RewriteFault → TextsFault
texts_fault_of_rewrite (rewrite.TooLarge fitting) = TooLarge fitting
texts_fault_of_rewrite rewrite.OutOfMemory = OutOfMemory

abbrev pub texts_fault_of_pointer : PointerFault → TextsFault
texts_fault_of_pointer pointer.OutOfMemory = OutOfMemory
texts_fault_of_pointer refusal = Pointer refusal

-- ---- lists of merge patches

-- the text is read, as some document
abbrev pub IsRead : List ℕ → Type 0
IsRead text = (d : Document) × (document_in text ≡ Ok d)

-- why texts of patches have no join
abbrev pub IsJoinTextFault : ℕ → TextsFault → List (List ℕ) → Type 0
IsJoinTextFault limit (Patch number fault) patches = IsFirstUnread patches number fault
IsJoinTextFault limit (OfList fault) patches =
    (fault ≢ list.OutOfMemory) × (ds : List Document) × AreRead patches ds × IsJoinAllWithinFault limit fault ds
IsJoinTextFault limit (TooLarge number) patches = (number ≡ 0) × IsTooLong limit (IsJoinText patches)
IsJoinTextFault limit OutOfMemory patches = ⊤
IsJoinTextFault limit other patches = ⊥

-- why they can't be replayed
abbrev pub IsReplayTextFault : ℕ → TextsFault → List ℕ → List (List ℕ) → Type 0
IsReplayTextFault limit (NoDocument fault) start patches = document_in start ≡ Err fault
IsReplayTextFault limit (Patch number fault) start patches = IsRead start × IsFirstUnread patches number fault
IsReplayTextFault limit (OfList fault) start patches =
    (fault ≢ list.OutOfMemory) × IsRead start × (ds : List Document) × AreRead patches ds
    × IsReplayWithinFault limit fault ds
IsReplayTextFault limit (TooLarge number) start patches = (number ≡ 0) × IsTooLong limit (IsReplayText start patches)
IsReplayTextFault limit OutOfMemory start patches = ⊤
IsReplayTextFault limit other start patches = ⊥

-- why they can't be applied in turn
abbrev pub IsMergeTextFault : ℕ → TextsFault → List ℕ → List (List ℕ) → Type 0
IsMergeTextFault limit (NoDocument fault) document patches = document_in document ≡ Err fault
IsMergeTextFault limit (Patch number fault) document patches = IsRead document × IsFirstUnread patches number fault
IsMergeTextFault limit (TooLarge number) document patches =
    (number ≡ 0) × IsTooLong limit (IsMergeText document patches)
IsMergeTextFault limit OutOfMemory document patches = ⊤
IsMergeTextFault limit other document patches = ⊥

-- ---- one document

-- the one patch has number 0
abbrev pub IsUnreadPatch : List ℕ → List ℕ → ℕ → ReadFault → Type 0
IsUnreadPatch document patch number fault = IsRead document × (number ≡ 0) × (document_in patch ≡ Err fault)

-- there is a limit, so many operations of the rewriting fit, and they are not all
pub record IsHeavyRewriting (limit number : ℕ) (document patch : List ℕ) : Type 0 where
  pub from : Document
  pub document_read : document_in document ≡ Ok from
  pub change : Document
  pub patch_read : document_in patch ≡ Ok change
  pub limited : limit ≢ no_limit
  pub too_large : IsTooLargeRewriting limit number from change

-- why a patch has no rewriting
abbrev pub IsRewriteTextFault : ℕ → TextsFault → List ℕ → List ℕ → Type 0
IsRewriteTextFault limit (NoDocument fault) document patch = document_in document ≡ Err fault
IsRewriteTextFault limit (Patch number fault) document patch = IsUnreadPatch document patch number fault
IsRewriteTextFault limit (TooLarge number) document patch =
    IsHeavyRewriting limit number document patch
    ⊎ ((number ≡ 0) × IsTooLong limit (IsLightRewriteText limit document patch))
IsRewriteTextFault limit OutOfMemory document patch = ⊤
IsRewriteTextFault limit other document patch = ⊥

-- the JSON Patch has no form, or one of its operations is refused
abbrev pub IsFormTextFault : FormFault → List ℕ → Type 0
IsFormTextFault fault patch =
    (fault ≢ form.OutOfMemory) × (p : Document) × (document_in patch ≡ Ok p) × IsFormFault fault p

-- an operation is refused, and nothing before it is too much for the limit, if there is one; or it is too much for it
abbrev pub IsRunFault : ℕ → TextsFault → Document → List Operation → Type 0
IsRunFault limit (Refused (apply.Refused number cause)) d operations =
    IsApplyWithinFault limit (within.Refused number cause) d operations
IsRunFault limit (TooLarge number) d operations = IsApplyWithinFault limit (within.TooLarge number) d operations
IsRunFault limit OutOfMemory d operations = ⊤
IsRunFault limit other d operations = ⊥

pub record IsRunTextFault (limit : ℕ) (fault : TextsFault) (document patch : List ℕ) : Type 0 where
  pub from : Document
  pub document_read : document_in document ≡ Ok from
  pub form : Document
  pub patch_read : document_in patch ≡ Ok form
  pub operations : List Operation
  pub forms : AreForms form operations
  pub stopped : IsRunFault limit fault from operations

-- why a JSON Patch has no result
abbrev pub IsPatchTextFault : ℕ → TextsFault → List ℕ → List ℕ → Type 0
IsPatchTextFault limit (NoDocument fault) document patch = document_in document ≡ Err fault
IsPatchTextFault limit (Patch number fault) document patch = IsUnreadPatch document patch number fault
IsPatchTextFault limit (Form fault) document patch = IsRead document × IsFormTextFault fault patch
IsPatchTextFault limit (Refused fault) document patch = IsRunTextFault limit (Refused fault) document patch
IsPatchTextFault limit (TooLarge number) document patch =
    IsRunTextFault limit (TooLarge number) document patch
    ⊎ ((number ≡ 0) × IsTooLong limit (IsLightPatchText limit document patch))
IsPatchTextFault limit OutOfMemory document patch = ⊤
IsPatchTextFault limit other document patch = ⊥

-- the pointer is spelled, and the document has no part there
pub record IsMissingPart (document pointer : List ℕ) : Type 0 where
  pub from : Document
  pub document_read : document_in document ≡ Ok from
  pub tokens : Tokens
  pub spelled : pointer ≡ spell tokens
  pub no_part : part from tokens ≡ None

-- why there is no part
abbrev pub IsPartTextFault : ℕ → TextsFault → List ℕ → List ℕ → Type 0
IsPartTextFault limit (NoDocument fault) document text = document_in document ≡ Err fault
IsPartTextFault limit (Pointer fault) document text =
    IsRead document × (fault ≢ pointer.OutOfMemory) × IsPointerFault fault text
IsPartTextFault limit Missing document text = IsMissingPart document text
IsPartTextFault limit (TooLarge number) document text = (number ≡ 0) × IsTooLong limit (IsPartText document text)
IsPartTextFault limit OutOfMemory document text = ⊤
IsPartTextFault limit other document text = ⊥
