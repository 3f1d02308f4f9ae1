-- Within a limit a patch runs to an end or is stopped, not both, and at one operation alone.
use Rattle.std.proofs.Common.{◌≡◌, ◌≢◌, ◌≤◌, ◌<◌, ◌+◌, ◌*◌, ◌⊎◌, inl, inr, ℕ, zero, suc, List, [], ◌∷◌, take, Some, refl, sym, ap, ap₂, subst, arith}
use Rattle.std.proofs.Math.Decide.{dec_le, ℕ_discrete}
use Rattle.std.proofs.Math.Nat.{lt_of_not-le}
use Rattle.std.specs.List.{slice_get}
use Rattle.mp_tree.specs.Document.{Document, IsDocument}
use Rattle.mp_tree.specs.Weight.{weight}
use Rattle.mp_patch.specs.Laws.{HasOneStopWithin, RunsAreNotStopped, RunsWithinOrStops}
use Rattle.mp_patch.specs.Operation.{HasDocument, HaveDocuments, Operation, Step}
use Rattle.mp_patch.specs.Refusal.{RefusedBy, causes}
use Rattle.mp_patch.specs.Run.{IsRefused}
use Rattle.mp_patch.specs.Within.{AllowsWeight, IsApplyWithinFault, IsTooLarge, RunsWithin, RunsWorking, StopsAt}
use Rattle.mp_patch.specs.Work.{AllowsWork, IsWork, no_limit, work_factor}
use Rattle.mp_patch.specs.declared.fault.ApplyWithinFault.{ApplyWithinFault}
use Rattle.mp_patch.specs.declared.fault.ApplyWithinFault.TheVariants.{Refused, TooLarge, OutOfMemory}
use Rattle.mp_patch.specs.declared.fault.Cause.{Cause}
use Rattle.mp_patch.proofs.FirstCause.{one_first}
use Rattle.mp_patch.proofs.Operations.Works.{one_work, some_work}
use Rattle.mp_patch.proofs.Runs.Laws.{Step-document, Step-once}
use Rattle.mp_patch.proofs.Runs.SomeRun.{judge}

same_operation : (o p : Operation) → Some o ≡ Some p → o ≡ p
same_operation o p e = cc

no_operation : {P : Type 0} (k : ℕ) (o : Operation) → slice_get [] k ≡ Some o → P
no_operation k o e = cc

-- ---- what a limit allows

fewer : (limit v w : ℕ) → v ≤ w → AllowsWork limit w → AllowsWork limit v
fewer limit v w less allows bounded = omega (arith, less, allows bounded)

-- a limit that bounds something bounds n by most, or n is more
decide : (limit n most : ℕ) → (limit ≢ no_limit → n ≤ most) ⊎ ((limit ≢ no_limit) × (most < n))
decide limit n most = elim (dec_le n most) [
  | yes within ↦ inl (λ bounded. within)
  | no over ↦ elim (ℕ_discrete limit no_limit) [ yes is ↦ inl (λ bounded. absurd (bounded is)) | no bounded ↦ inr (bounded, lt_of_not-le over) ]
]

-- ---- runs and stops, after so much work

-- a kind of stop, and its law: what stops at an operation lets it lead to nothing within the limit
abbrev Stop : Type 1
Stop = ℕ → Document → Operation → Type 0

abbrev Halts : ℕ → Stop → Type 0
Halts limit Stops = (before w : ℕ) (m n : Document) (o : Operation) → IsDocument m → HasDocument o → ¬ IsRefused m o → Step m o n → AllowsWeight limit n → IsWork m o w → AllowsWork limit (before + w) → Stops before m o → ⊥

refusal_halts : (limit : ℕ) (cause : Cause) → Halts limit (λ done m o. RefusedBy m o cause)
refusal_halts limit cause before w m n o good value free step within works allows refused = free (cause, refused)

size_halts : (limit : ℕ) → Halts limit (IsTooLarge limit)
size_halts limit before w m n o good value free step within works allows (also, e, other, v, again, inl over) =
    omega (arith, within over.0, over.1, ap weight (Step-once m o n e good value step other))
size_halts limit before w m n o good value free step within works allows (also, e, other, v, again, inr exceeds) =
    omega (arith, allows exceeds.0, exceeds.1, one_work m o w v good works again)

abbrev Light : ℕ → Document → List Operation → Document → ℕ → Type 0
Light limit d operations e w = RunsWorking (AllowsWeight limit) d operations e w

abbrev StopsAfter : Stop → ℕ → ℕ → Document → List Operation → ℕ → Type 0
StopsAfter Stops limit before d operations k =
    (m : Document) × (done : ℕ) × Light limit d (take k operations) m done × AllowsWork limit (before + done)
    × (o : Operation) × (slice_get operations k ≡ Some o) × Stops (before + done) m o

from_start : (Stops : Stop) (limit : ℕ) (d : Document) (operations : List Operation) (k : ℕ) → StopsAt Stops limit d operations k → StopsAfter Stops limit 0 d operations k
from_start Stops limit d operations k (m, done, run, o, there, stopped) =
    let is : done ≡ 0 + done = omega arith in
    (m, done, run.0, subst (AllowsWork limit) is run.1, o, there, subst (λ n. Stops n m o) is stopped)

to_start : (Stops : Stop) (limit : ℕ) (d : Document) (operations : List Operation) (k : ℕ) → StopsAfter Stops limit 0 d operations k → StopsAt Stops limit d operations k
to_start Stops limit d operations k (m, done, run, allows, o, there, stopped) =
    let is : 0 + done ≡ done = omega arith in
    (m, done, (run, subst (AllowsWork limit) is allows), o, there, subst (λ n. Stops n m o) is stopped)

-- at the first operation
at_first : (Stops : Stop) (before done : ℕ) (d m : Document) (p o : Operation) → (m ≡ d) × (done ≡ 0) → Some p ≡ Some o → Stops (before + done) m o → Stops before d p
at_first Stops before done d m p o start there stopped =
    let is : before + done ≡ before = omega (arith, start.1) in
    subst (λ q. Stops before d q) (sym (same_operation p o there)) (subst (λ x. Stops before x o) start.0 (subst (λ n. Stops n m o) is stopped))

-- the same stop, seen from after the first operation, which leads to n by the work v
past_first : (Stops : Stop) (limit before : ℕ) (d n : Document) (v : ℕ) (p : Operation) (operations : List Operation) (k : ℕ) → IsDocument d → HasDocument p → Step d p n → IsWork d p v
    → StopsAfter Stops limit before d (p ∷ operations) (suc k) → StopsAfter Stops limit (before + v) n operations k
past_first Stops limit before d n v p operations k good value step works (m, done, run, allows, o, there, stopped) =
    let same = Step-once d p run.1 n good value run.2 step in
    let is : before + done ≡ before + v + run.5 = omega (arith, run.7, one_work d p run.4 v good run.6 works) in
    (m, run.5, subst (λ x. Light limit x (take k operations) m run.5) same run.8, subst (AllowsWork limit) is allows, o, there, subst (λ n. Stops n m o) is stopped)

module _ (limit : ℕ) (Stops : Stop) (halts : Halts limit Stops) where
  -- what stops at the first operation does not lead past it
  not_past : (before done total : ℕ) (d e m : Document) (p o : Operation) (operations : List Operation) → IsDocument d → HasDocument p → Light limit d (p ∷ operations) e total → AllowsWork limit (before + total)
      → (m ≡ d) × (done ≡ 0) → Some p ≡ Some o → Stops (before + done) m o → ⊥
  not_past before done total d e m p o operations good value run allows start there stopped =
      let less : before + run.4 ≤ before + total = omega (arith, run.7) in
      halts before run.4 d run.1 p good value run.0 run.2 run.3 run.6 (fewer limit (before + run.4) (before + total) less allows) (at_first Stops before done d m p o start there stopped)

  runs_on : (before total : ℕ) (d e : Document) (operations : List Operation) (k : ℕ) → IsDocument d → HaveDocuments operations → Light limit d operations e total → AllowsWork limit (before + total) → StopsAfter Stops limit before d operations k → ⊥
  runs_on before total d e [] k good values run allows (m, done, ran, also, o, there, stopped) = no_operation k o there
  runs_on before total d e (p ∷ operations) zero good values run allows (m, done, ran, also, o, there, stopped) =
      not_past before done total d e m p o operations good values.0 run allows ran there stopped
  runs_on before total d e (p ∷ operations) (suc k) good values run allows stops =
      let is : before + total ≡ before + run.4 + run.5 = omega (arith, run.7) in
      runs_on (before + run.4) run.5 run.1 e operations k (Step-document d p run.1 good values.0 run.2) values.1 run.8 (subst (AllowsWork limit) is allows) (past_first Stops limit before d run.1 run.4 p operations k good values.0 run.2 run.6 stops)

-- both stop at one operation of one document
abbrev Meet : Stop → Stop → ℕ → ℕ → Type 0
Meet Stops Others k n = (k ≡ n) × (done : ℕ) × (m : Document) × (o : Operation) × Stops done m o × Others done m o

both_stop : (limit : ℕ) (Stops Others : Stop) → Halts limit Stops → Halts limit Others → (before : ℕ) (d : Document) (operations : List Operation) (k n : ℕ) → IsDocument d → HaveDocuments operations
    → StopsAfter Stops limit before d operations k → StopsAfter Others limit before d operations n → Meet Stops Others k n
both_stop limit Stops Others halts halts' before d [] k n good values (m, done, ran, also, o, there, stopped) other = no_operation k o there
both_stop limit Stops Others halts halts' before d (p ∷ operations) zero zero good values (m, done, ran, also, o, there, stopped) (l, made, first, too, q, here, again) =
    (refl, before, d, p, at_first Stops before done d m p o ran there stopped, at_first Others before made d l p q first here again)
both_stop limit Stops Others halts halts' before d (p ∷ operations) zero (suc n) good values (m, done, ran, also, o, there, stopped) (l, made, first, too, q, here, again) =
    absurd (not_past limit Stops halts before done made d l m p o (take n operations) good values.0 first too ran there stopped)
both_stop limit Stops Others halts halts' before d (p ∷ operations) (suc k) zero good values (m, done, ran, also, o, there, stopped) (l, made, first, too, q, here, again) =
    absurd (not_past limit Others halts' before made done d m l p q (take k operations) good values.0 ran also first here again)
both_stop limit Stops Others halts halts' before d (p ∷ operations) (suc k) (suc n) good values (m, done, ran, also, o, there, stopped) other =
    let stops = past_first Stops limit before d ran.1 ran.4 p operations k good values.0 ran.2 ran.6 (m, done, ran, also, o, there, stopped) in
    let others = past_first Others limit before d ran.1 ran.4 p operations n good values.0 ran.2 ran.6 other in
    let rest = both_stop limit Stops Others halts halts' (before + ran.4) ran.1 operations k n (Step-document d p ran.1 good values.0 ran.2) values.1 stops others in
    (ap suc rest.0, rest.1, rest.2, rest.3, rest.4, rest.5)

-- ---- the laws

module _ (limit : ℕ) (d : Document) (operations : List Operation) (good : IsDocument d) (values : HaveDocuments operations) where
  never : (Stops : Stop) → Halts limit Stops → (e : Document) (k : ℕ) → RunsWithin limit d operations e → StopsAt Stops limit d operations k → ⊥
  never Stops halts e k run stops =
      let is : run.0 ≡ 0 + run.0 = omega arith in
      runs_on limit Stops halts 0 run.0 d e operations k good values run.1.0 (subst (AllowsWork limit) is run.1.1) (from_start Stops limit d operations k stops)

  meet : (Stops Others : Stop) → Halts limit Stops → Halts limit Others → (k n : ℕ) → StopsAt Stops limit d operations k → StopsAt Others limit d operations n → Meet Stops Others k n
  meet Stops Others halts halts' k n one two = both_stop limit Stops Others halts halts' 0 d operations k n good values (from_start Stops limit d operations k one) (from_start Others limit d operations n two)

pub runs_are_not_stopped : RunsAreNotStopped
runs_are_not_stopped limit d e operations (Refused k cause) good values run stops = absurd (never limit d operations good values (λ done m o. RefusedBy m o cause) (refusal_halts limit cause) e k run stops)
runs_are_not_stopped limit d e operations (TooLarge k) good values run stops = absurd (never limit d operations good values (IsTooLarge limit) (size_halts limit) e k run stops)
runs_are_not_stopped limit d e operations OutOfMemory good values run stops = refl

pub has_one_stop : HasOneStopWithin
has_one_stop limit d operations (Refused k cause) (Refused n other) good values some more one two =
    let (same, done, m, o, left, right) = meet limit d operations good values (λ done m o. RefusedBy m o cause) (λ done m o. RefusedBy m o other) (refusal_halts limit cause) (refusal_halts limit other) k n one two in
    ap₂ (λ (i : ℕ) (c : Cause). Refused i c) same (one_first (causes m o) cause other left right)
has_one_stop limit d operations (Refused k cause) (TooLarge n) good values some more one two =
    let (same, done, m, o, left, right) = meet limit d operations good values (λ done m o. RefusedBy m o cause) (IsTooLarge limit) (refusal_halts limit cause) (size_halts limit) k n one two in
    absurd (right.0 (cause, left))
has_one_stop limit d operations (TooLarge k) (Refused n other) good values some more one two =
    let (same, done, m, o, left, right) = meet limit d operations good values (IsTooLarge limit) (λ done m o. RefusedBy m o other) (size_halts limit) (refusal_halts limit other) k n one two in
    absurd (left.0 (other, right))
has_one_stop limit d operations (TooLarge k) (TooLarge n) good values some more one two =
    ap TooLarge (meet limit d operations good values (IsTooLarge limit) (IsTooLarge limit) (size_halts limit) (size_halts limit) k n one two).0
has_one_stop limit d operations OutOfMemory other good values some more one two = absurd (some refl)
has_one_stop limit d operations fault OutOfMemory good values some more one two = absurd (more refl)

abbrev FaultAfter : ℕ → ℕ → ApplyWithinFault → Document → List Operation → Type 0
FaultAfter limit before (Refused k cause) d operations = StopsAfter (λ done m o. RefusedBy m o cause) limit before d operations k
FaultAfter limit before (TooLarge k) d operations = StopsAfter (IsTooLarge limit) limit before d operations k
FaultAfter limit before OutOfMemory d operations = Unit {0}

-- a stop of the kind, one operation later
stops_later : (Stops : Stop) (limit before w : ℕ) (d n : Document) (o : Operation) (operations : List Operation) (k : ℕ) → ¬ IsRefused d o → Step d o n → AllowsWeight limit n → IsWork d o w
    → StopsAfter Stops limit (before + w) n operations k → StopsAfter Stops limit before d (o ∷ operations) (suc k)
stops_later Stops limit before w d n o operations k free step within works (m, done, run, allows, p, there, stopped) =
    let is : before + w + done ≡ before + (w + done) = omega arith in
    (m, w + done, (free, n, step, within, w, done, works, refl, run), subst (AllowsWork limit) is allows, p, there, subst (λ x. Stops x m p) is stopped)

abbrev SomeFault : ℕ → ℕ → Document → List Operation → Type 0
SomeFault limit before d operations = (fault : ApplyWithinFault) × (fault ≢ OutOfMemory) × FaultAfter limit before fault d operations

later : (limit before w : ℕ) (d n : Document) (o : Operation) (operations : List Operation) → ¬ IsRefused d o → Step d o n → AllowsWeight limit n → IsWork d o w → SomeFault limit (before + w) n operations → SomeFault limit before d (o ∷ operations)
later limit before w d n o operations free step within works (Refused k cause, some, stops) = (Refused (suc k) cause, (λ e. cc), stops_later (λ done m o. RefusedBy m o cause) limit before w d n o operations k free step within works stops)
later limit before w d n o operations free step within works (TooLarge k, some, stops) = (TooLarge (suc k), (λ e. cc), stops_later (IsTooLarge limit) limit before w d n o operations k free step within works stops)
later limit before w d n o operations free step within works (OutOfMemory, some, stops) = absurd (some refl)

abbrev SomeEnd : ℕ → ℕ → Document → List Operation → Type 0
SomeEnd limit before d operations = (e : Document) × IsDocument e × (w : ℕ) × Light limit d operations e w × AllowsWork limit (before + w)

-- the first operation is stopped
stops_first : (Stops : Stop) (limit before : ℕ) (d : Document) (o : Operation) (operations : List Operation) → AllowsWork limit before → Stops before d o → StopsAfter Stops limit before d (o ∷ operations) 0
stops_first Stops limit before d o operations allows stopped =
    let is : before ≡ before + 0 = omega arith in
    (d, 0, (refl, refl), subst (AllowsWork limit) is allows, o, refl, subst (λ x. Stops x d o) is stopped)

goes_or_stops : (limit before : ℕ) (d : Document) (operations : List Operation) → IsDocument d → HaveDocuments operations → AllowsWork limit before → SomeEnd limit before d operations ⊎ SomeFault limit before d operations
goes_or_stops limit before d [] good values allows = let is : before ≡ before + 0 = omega arith in inl (d, good, 0, (refl, refl), subst (AllowsWork limit) is allows)
goes_or_stops limit before d (o ∷ operations) good values allows = elim (judge d o good) [
  | inr refused ↦ inr (Refused 0 refused.0, (λ e. cc), stops_first (λ done m p. RefusedBy m p refused.0) limit before d o operations allows refused.1)
  | inl leads ↦
      let works = some_work d o leads.0 leads.2 in elim (decide limit (weight leads.0) limit) [
        | inr over ↦ inr (TooLarge 0, (λ e. cc), stops_first (IsTooLarge limit) limit before d o operations allows (leads.1, leads.0, leads.2, works.0, works.1, inl over))
        | inl within ↦ elim (decide limit (before + works.0) (work_factor * limit)) [
          | inr exceeds ↦ inr (TooLarge 0, (λ e. cc), stops_first (IsTooLarge limit) limit before d o operations allows (leads.1, leads.0, leads.2, works.0, works.1, inr exceeds))
          | inl enough ↦ elim (goes_or_stops limit (before + works.0) leads.0 operations (Step-document d o leads.0 good values.0 leads.2) values.1 enough) [
            | inl run ↦
                let is : before + works.0 + run.2 ≡ before + (works.0 + run.2) = omega arith in
                inl (run.0, run.1, works.0 + run.2, (leads.1, leads.0, leads.2, within, works.0, run.2, works.1, refl, run.3), subst (AllowsWork limit) is run.4)
            | inr stops ↦ inr (later limit before works.0 d leads.0 o operations leads.1 leads.2 within works.1 stops)
          ]
        ]
      ]
]

fault_at_start : (limit : ℕ) (fault : ApplyWithinFault) (d : Document) (operations : List Operation) → FaultAfter limit 0 fault d operations → IsApplyWithinFault limit fault d operations
fault_at_start limit (Refused k cause) d operations stops = to_start (λ done m o. RefusedBy m o cause) limit d operations k stops
fault_at_start limit (TooLarge k) d operations stops = to_start (IsTooLarge limit) limit d operations k stops
fault_at_start limit OutOfMemory d operations stops = tt

pub runs_within_or_stops : RunsWithinOrStops
runs_within_or_stops limit d operations good values = elim (goes_or_stops limit 0 d operations good values (λ bounded. omega arith)) [
  | inl run ↦ let is : 0 + run.2 ≡ run.2 = omega arith in inl (run.0, run.1, (run.2, (run.3, subst (AllowsWork limit) is run.4)))
  | inr stops ↦ inr (stops.0, stops.1, fault_at_start limit stops.0 d operations stops.2)
]
