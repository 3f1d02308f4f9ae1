-- Runs within a limit: they grow at their end, with the scale of what they lead to, and are runs.
use Rattle.std.proofs.Common.{◌≡◌, ◌≢◌, ◌<◌, ◌+◌, ◌⊎◌, inl, inr, ℕ, suc, List, [], ◌∷◌, ◌++◌, take, Option, None, Some, IfSome, refl, sym, ◌∙◌, subst, arith}
use Rattle.std.specs.List.{slice_get}
use Rattle.mp_tree.specs.Document.{Document}
use Rattle.mp_tree.specs.Weight.{weight}
use Rattle.mp_patch.specs.Laws.{LimitsChangeNoAnswer, StaysWithin}
use Rattle.mp_patch.specs.Operation.{Operation, Step}
use Rattle.mp_patch.specs.Run.{IsApplyFault, IsRefused, Runs}
use Rattle.mp_patch.specs.Within.{AllowsWeight, ExceedsWeight, RunsWithin, RunsWorking, IsApplyWithinFault, within_fault_of}
use Rattle.mp_patch.specs.Work.{AllowsWork, ExceedsWork, IsWork, no_limit}
use Rattle.mp_patch.specs.Private.Within.{EndsBy, Follows, IsScale}
use Rattle.mp_patch.specs.declared.fault.ApplyFault.{ApplyFault}
use Rattle.mp_patch.specs.declared.fault.ApplyFault.TheVariants as apply
use Rattle.mp_patch.specs.declared.fault.ApplyWithinFault.{ApplyWithinFault}
use Rattle.mp_patch.specs.declared.fault.ApplyWithinFault.TheVariants.{Refused, TooLarge, OutOfMemory}
use Rattle.mp_patch.specs.declared.scale.Scale.{Scale}
use Rattle.mp_patch.proofs.Operations.Works.{some_work}

RunsWorking-more : (Good : Document → Type 0) (operations : List Operation) (d m e : Document) (o : Operation) (done w : ℕ) → RunsWorking Good d operations m done → ¬ IsRefused m o → Step m o e → Good e → IsWork m o w → RunsWorking Good d (operations ++ o ∷ []) e (done + w)
RunsWorking-more Good [] d m e o done w run free step good works =
    (subst (λ x. ¬ IsRefused x o) run.0 free, e, subst (λ x. Step x o e) run.0 step, good, w, 0, subst (λ x. IsWork x o w) run.0 works, omega (arith, run.1), (refl, refl))
RunsWorking-more Good (p ∷ operations) d m e o done w run free step good works =
    (run.0, run.1, run.2, run.3, run.4, run.5 + w, run.6, omega (arith, run.7), RunsWorking-more Good operations run.1 m e o run.5 w run.8 free step good works)

-- the operations lead, within the limit, from d to e, whose scale it is
abbrev pub RunsUnder : ℕ → Option Scale → Document → List Operation → Document → Type 0
RunsUnder limit scale d operations e = (w : ℕ) × RunsWorking (AllowsWeight limit) d operations e w × IsScale limit w scale e

pub runs_further : (limit : ℕ) (scale next : Option Scale) (d m e : Document) (operations : List Operation) (o : Operation) → RunsUnder limit scale d operations m → ¬ IsRefused m o → Step m o e → Follows scale next m o e
    → RunsUnder limit next d (operations ++ o ∷ []) e
runs_further limit None None d m e operations o run free step follows =
    let works = some_work m o e step in
    (run.0 + works.0, RunsWorking-more (AllowsWeight limit) operations d m e o run.0 works.0 run.1 free step (λ bounded. absurd (bounded run.2)) works.1, run.2)
runs_further limit (Some scale) (Some next) d m e operations o run free step follows = (
  run.0 + follows.work,
  RunsWorking-more (AllowsWeight limit) operations d m e o run.0 follows.work run.1 free step (λ bounded. omega (arith, run.2.1, follows.weighs, follows.within)) follows.is_work,
  (run.2.0, follows.same_limit ∙ run.2.1, follows.weighs, omega (arith, follows.leaves, run.2.3)),
)
runs_further limit None (Some next) d m e operations o run free step follows = absurd follows
runs_further limit (Some scale) None d m e operations o run free step follows = absurd follows

pub follows_weighs : (scale next : Option Scale) (d : Document) (o : Operation) (e : Document) → Follows scale next d o e → IfSome next (λ s. s.weight ≡ weight e)
follows_weighs None None d o e follows = tt
follows_weighs (Some scale) (Some next) d o e follows = follows.weighs
follows_weighs None (Some next) d o e follows = absurd follows
follows_weighs (Some scale) None d o e follows = absurd follows

allows : (limit w : ℕ) (scale : Option Scale) (e : Document) → IsScale limit w scale e → AllowsWork limit w
allows limit w None e is bounded = absurd (bounded is)
allows limit w (Some scale) e is bounded = omega (arith, is.3)

pub runs_to_end : (limit : ℕ) (scale : Option Scale) (d e : Document) (operations : List Operation) → RunsUnder limit scale d operations e → RunsWithin limit d operations e
runs_to_end limit scale d e operations run = (run.0, (run.1, allows limit run.0 scale e run.2))

too_much : (limit done w : ℕ) (scale : Scale) (m e : Document) → IsScale limit done (Some scale) m → (scale.limit < weight e) ⊎ (scale.work < w) → ExceedsWeight limit e ⊎ ExceedsWork limit (done + w)
too_much limit done w scale m e is (inl over) = inl (is.0, omega (arith, is.1, over))
too_much limit done w scale m e is (inr over) = inr (is.0, omega (arith, is.3, over))

-- what ends the patch at the next operation
pub ends_there : (limit : ℕ) (scale : Option Scale) (k : ℕ) (d m : Document) (operations : List Operation) (o : Operation) → RunsUnder limit scale d (take k operations) m → slice_get operations k ≡ Some o
    → (fault : ApplyWithinFault) → EndsBy scale k fault m o → IsApplyWithinFault limit fault d operations
ends_there limit scale k d m operations o run there (Refused n cause) ends =
    subst (λ i. IsApplyWithinFault limit (Refused i cause) d operations) (sym ends.0) (m, run.0, (run.1, allows limit run.0 scale m run.2), o, there, ends.1)
ends_there limit None k d m operations o run there (TooLarge n) ends = absurd ends
ends_there limit (Some scale) k d m operations o run there (TooLarge n) ends =
    let much = ends.1 in
    subst (λ i. IsApplyWithinFault limit (TooLarge i) d operations) (sym ends.0)
    (m, run.0, (run.1, allows limit run.0 (Some scale) m run.2), o, there, (much.0, much.1, much.2, much.3, much.4, too_much limit run.0 much.3 scale m much.1 run.2 much.5))
ends_there limit scale k d m operations o run there OutOfMemory ends = tt

-- ---- the law

stays_later : (limit : ℕ) (d m : Document) (o : Operation) (operations : List Operation) → ¬ IsRefused d o → Step d o m → StaysWithin limit d (o ∷ operations) → StaysWithin limit m operations
stays_later limit d m o operations free step stays k e less run = stays (suc k) e (omega (arith, less)) (free, m, step, run)

abbrev RunsWithWork : ℕ → Document → List Operation → Document → Type 0
RunsWithWork limit d operations e = (w : ℕ) × RunsWorking (AllowsWeight limit) d operations e w × RunsWorking (λ m. Unit {0}) d operations e w

runs_within : (limit : ℕ) (operations : List Operation) (d e : Document) → Runs d operations e → StaysWithin limit d operations → RunsWithWork limit d operations e
runs_within limit [] d e run stays = (0, (run, refl), (run, refl))
runs_within limit (o ∷ operations) d e run stays =
    let rest = runs_within limit operations run.1 e run.3 (stays_later limit d run.1 o operations run.0 run.2 stays) in
    let works = some_work d o run.1 run.2 in
    let light = stays 0 run.1 (omega arith) (run.0, run.1, run.2, refl) in
    (works.0 + rest.0, (run.0, run.1, run.2, light, works.0, rest.0, works.1, refl, rest.1), (run.0, run.1, run.2, tt, works.0, rest.0, works.1, refl, rest.2))

are_runs : (Good : Document → Type 0) (operations : List Operation) (d e : Document) (w : ℕ) → RunsWorking Good d operations e w → Runs d operations e
are_runs Good [] d e w run = run.0
are_runs Good (o ∷ operations) d e w run = (run.0, run.1, run.2, are_runs Good operations run.1 e run.5 run.8)

module _ (limit : ℕ) (d : Document) (operations : List Operation) where
  faults : (fault : ApplyFault) → IsApplyWithinFault limit (within_fault_of fault) d operations → IsApplyFault fault d operations
  faults (apply.Refused k cause) (m, done, run, o, there, refused) = (m, are_runs (AllowsWeight limit) (take k operations) d m done run.0, o, there, refused)
  faults apply.OutOfMemory fault = tt

  none_exceeds : (m : Document) (w : ℕ) → limit ≡ no_limit → ExceedsWeight limit m ⊎ ExceedsWork limit w → ⊥
  none_exceeds m w is (inl over) = over.0 is
  none_exceeds m w is (inr over) = over.0 is

pub limits_change_nothing : LimitsChangeNoAnswer
limits_change_nothing limit d operations = record {
  runs = λ e run stays works. let all = runs_within limit operations d e run stays in (all.0, (all.1, works e all.0 all.2));
  is_run = λ e run. are_runs (AllowsWeight limit) operations d e run.0 run.1.0;
  is_fault = faults limit d operations;
  unlimited = λ k is stops. let much = stops.5 in none_exceeds limit d operations much.1 (stops.1 + much.3) is much.5;
}

-- without a limit
pub fault_unlimited : (d : Document) (operations : List Operation) (fault : ApplyWithinFault) → IsApplyWithinFault no_limit fault d operations → (k : ℕ) → fault ≢ TooLarge k
fault_unlimited d operations fault stops k is = (limits_change_nothing no_limit d operations).unlimited k refl (subst (λ f. IsApplyWithinFault no_limit f d operations) is stops)
