-- An operation leads to a document or is refused, and so does a patch.
use Rattle.std.proofs.Common.{◌≡◌, ◌≢◌, ◌+◌, ◌⊎◌, inl, inr, suc, [], ◌∷◌, length, Option, None, Some, Ok, Err, refl, sym, ap, ◌∙◌, arith}
use Rattle.std.proofs.Math.Decide.{dec_le}
use Rattle.std.proofs.Math.Nat.{lt_of_not-le}
use Rattle.mp_tree.specs.Document.{Document, IsDocument, depth, depth_limit}
use Rattle.mp_pointer.specs.Part.{part}
use Rattle.mp_pointer.specs.Spelling.{Tokens, IsProperPrefix}
use Rattle.mp_patch.specs.Laws.{RunsOrIsRefused}
use Rattle.mp_patch.specs.Operation.{Operation, add, remove, replace, move, copy, test, Step}
use Rattle.mp_patch.specs.Refusal.{IsTooDeep}
use Rattle.mp_patch.specs.Run.{IsRefused}
use Rattle.mp_patch.specs.declared.fault.Cause.TheVariants.{IntoItself, RemoveRoot, Missing, NoPlace, TooDeep, TestFailed}
use Rattle.mp_patch.specs.declared.fault.Refusal.TheVariants.{By}
use Rattle.mp_tree.proofs.Facts.{decide_document, decide_path, some_same}
use Rattle.mp_patch.proofs.Operations.Documents.{Removes-document}
use Rattle.mp_patch.proofs.FirstCause.{unrefused}
use Rattle.mp_patch.proofs.Operations.Moves.{stays, moved, copied}
use Rattle.mp_patch.proofs.Runs.Laws.{Step-document}
use Rattle.mp_patch.proofs.Operations.SomeStep.{some_addition, some_removal}
use Rattle.mp_patch.proofs.Operations.SingleSteps.{some_missing}
use Rattle.mp_pointer.proofs.Facts.{rewrite_part, root_is_prefix, decide_prefix}

shallow_or_deep : (t : Tokens) (v : Document) → ¬ IsTooDeep t v ⊎ IsTooDeep t v
shallow_or_deep t v = elim (dec_le (length t + depth v) depth_limit) [ yes fits ↦ inl (λ deep. omega (arith, fits, deep)) | no over ↦ inr (lt_of_not-le over) ]

-- the operation leads somewhere, and is not refused
abbrev pub Leads : Document → Operation → Type 0
Leads d o = (e : Document) × (¬ IsRefused d o) × Step d o e

abbrev pub Judged : Document → Operation → Type 0
Judged d o = Leads d o ⊎ IsRefused d o

module _ (d : Document) (good : IsDocument d) where
  judge_add : (t : Tokens) (v : Document) → Judged d (add t v)
  judge_add t v = elim (some_addition t v d good) [
    | inl added ↦ elim (shallow_or_deep t v) [
      | inl shallow ↦ inl (added.0, unrefused d (add t v) (added.2, (shallow, tt)), added.1)
      | inr deep ↦ inr (TooDeep, inr (added.2, inl (refl, deep)))
    ]
    | inr lacks ↦ inr (NoPlace, inl (refl, lacks))
  ]

  judge_remove : (t : Tokens) (o : Option Document) → part d t ≡ o → Dec (t ≡ []) → Judged d (remove t)
  judge_remove t o there (yes root) = inr (RemoveRoot, inl (refl, root))
  judge_remove t None none (no deeper) = inr (Missing, inr (deeper, inl (refl, none)))
  judge_remove t (Some x) there (no deeper) =
      let left = some_removal t d x good deeper there in
      inl (left.0, unrefused d (remove t) (deeper, (some_missing d x t there, tt)), left.1)

  judge_replace : (t : Tokens) (v : Document) (o : Option Document) → part d t ≡ o → Judged d (replace t v)
  judge_replace t v None none = inr (Missing, inl (refl, none))
  judge_replace t v (Some x) there =
      let some = some_missing d x t there in
      let e = rewrite_part t d x v good there in
      elim (shallow_or_deep t v) [
        | inl shallow ↦ inl (e.0, unrefused d (replace t v) (some, (shallow, tt)), ((x, there), e.1, e.2))
        | inr deep ↦ inr (TooDeep, inr (some, inl (refl, deep)))
      ]

  judge_test : (t : Tokens) (v : Document) (o : Option Document) → part d t ≡ o → Judged d (test t v)
  judge_test t v None none = inr (Missing, inl (refl, none))
  judge_test t v (Some x) there =
      let some = some_missing d x t there in
      elim (decide_document x v) [
        | yes same ↦ let is = there ∙ ap Some same in inl (d, unrefused d (test t v) (some, ((λ other. other is), tt)), (is, refl))
        | no other ↦ inr (TestFailed, inr (some, inl (refl, λ is. other (some_same x v (sym there ∙ is)))))
      ]

judge_moved : (d x : Document) (f t : Tokens) → IsDocument d → ¬ IsProperPrefix f t → f ≢ t → part d f ≡ Some x → Judged d (move f t)
judge_moved d x f t good apart other there =
    let left = some_removal f d x good (λ root. apart (root_is_prefix f t root other)) there in
    let carry = moved f t x d left.0 good apart other there left.1 in
    elim (judge_add left.0 (Removes-document f d left.0 good left.1) t x) [
      | inl leads ↦ let answers = carry (Ok tt) leads.0 (leads.1, leads.2) in inl (leads.0, answers.0, answers.1)
      | inr refused ↦ inr (refused.0, carry (Err (By refused.0)) d refused.1)
    ]

judge_move : (d : Document) (f t : Tokens) (o : Option Document) → IsDocument d → part d f ≡ o → Dec (IsProperPrefix f t) → Dec (f ≡ t) → Judged d (move f t)
judge_move d f t o good there (yes prefix) same = inr (IntoItself, inl (refl, prefix))
judge_move d f t None good none (no apart) same = inr (Missing, inr (apart, inl (refl, none)))
judge_move d f t (Some x) good there (no apart) (yes same) = let answers = stays d x f t apart same there in inl (d, answers.0, answers.1)
judge_move d f t (Some x) good there (no apart) (no other) = judge_moved d x f t good apart other there

judge_copy : (d : Document) (f t : Tokens) (o : Option Document) → IsDocument d → part d f ≡ o → Judged d (copy f t)
judge_copy d f t None good none = inr (Missing, inl (refl, none))
judge_copy d f t (Some x) good there =
    let carry = copied f t x d there in
    elim (judge_add d good t x) [
      | inl leads ↦ let answers = carry (Ok tt) leads.0 (leads.1, leads.2) in inl (leads.0, answers.0, answers.1)
      | inr refused ↦ inr (refused.0, carry (Err (By refused.0)) d refused.1)
    ]

pub judge : (d : Document) (o : Operation) → IsDocument d → Judged d o
judge d (add t v) good = judge_add d good t v
judge d (remove t) good = judge_remove d good t (part d t) refl (decide_path t [])
judge d (replace t v) good = judge_replace d good t v (part d t) refl
judge d (move f t) good = judge_move d f t (part d f) good refl (decide_prefix f t) (decide_path f t)
judge d (copy f t) good = judge_copy d f t (part d f) good refl
judge d (test t v) good = judge_test d good t v (part d t) refl

pub runs_or_is_refused : RunsOrIsRefused
runs_or_is_refused d [] good values = inl (d, good, refl)
runs_or_is_refused d (o ∷ operations) good values = elim (judge d o good) [
  | inl leads ↦ elim (runs_or_is_refused leads.0 operations (Step-document d o leads.0 good values.0 leads.2) values.1) [
    | inl run ↦ inl (run.0, run.1, (leads.1, leads.0, leads.2, run.2))
    | inr (k, cause, refused) ↦ inr (suc k, cause, (refused.0, (leads.1, leads.0, leads.2, refused.1), refused.2, refused.3, refused.4))
  ]
  | inr refused ↦ inr (0, refused.0, (d, refl, o, refl, refused.1))
]
