use Rattle.std.proofs.Common.{◌≡◌, ◌∙◌, IfSome, Some, false, true, option_map, refl, sym, ap, subst}
use Rattle.mp_tree.specs.View.{document}
use Rattle.mp_tree.proofs.Facts.{IsDocument-document}
use Rattle.mp_merge.specs.Clash.{Compatible}
use Rattle.mp_merge.specs.Join.{JoinsInto}
use Rattle.mp_replica.proofs.Growing.{IsTaken, taken_first, taken_in_part, taken_whole}
use Rattle.mp_replica.proofs.live_join.LiveJoin.offer.Goals as goal
use Rattle.mp_replica.proofs.live_join.LiveJoin.offer.Goals.{in-Some+in-Ok-true, in-Some+in-Err, in-None}

pub returns-in-Ok-false : goal.returns-in-Ok-false
returns-in-Ok-false c =
    let p = document c.args.patch in
    let refused : c.in-Ok-false.field-0 ≡ false = c.in-Ok-false.field-0-test in
    let joins : JoinsInto c.in-Ok-false.field-0 (document c.in-Some.joined) p (document c.join_into.new.joined) = c.in-Ok-false.ensures.joined in
    let clash : JoinsInto false (document c.in-Some.joined) p (document c.join_into.new.joined) = subst (λ u. JoinsInto u (document c.in-Some.joined) p (document c.join_into.new.joined)) refused joins in (
      refl,
      ap (λ o. record { joined = o; pending = c.self.inside.pending }) (ap Some (c.in-Ok-false.ensures.unchanged refused) ∙ sym c.in-Some.is) ∙ c.self.view_is,
      λ fits. clash.0 (subst (λ o. IfSome (option_map document o) (Compatible p)) c.in-Some.is (subst (λ r. IfSome (option_map document r.joined) (Compatible p)) (sym c.self.view_is) fits)),
    )

taken : (c : goal.Joined-self-2) → IsTaken (option_map document c.self.inside.joined) (document c.args.patch) (option_map document c.match-self.self-inside.joined) c.match-self.self
taken c =
    let p = document c.args.patch in
    let laws = c.merge_laws.ensures in
    elim c.match-self.branch [
      | in-Some+in-Ok-true w ↦
          let b = document w.in-Some.joined in
          let n = document w.join_into.new.joined in
          let joined : JoinsInto true b p n = subst (λ u. JoinsInto u b p n) w.in-Ok-true.field-0-test w.in-Ok-true.ensures.joined in
          rw (w.self-is, w.self-inside-is, w.in-Some.is) (taken_whole laws b p n (IsDocument-document c.args.patch) (IsDocument-document w.join_into.new.joined) joined)
      | in-Some+in-Err w ↦
          let b = document w.in-Some.joined in
          let n = document w.join_into.new.joined in
          rw (w.self-is, w.self-inside-is, w.in-Some.is) (taken_in_part laws b p n (IsDocument-document c.args.patch) (IsDocument-document w.join_into.new.joined) w.in-Err.ensures.resumes)
      | in-None w ↦ rw (w.self-is, w.self-inside-is, w.in-None.is) (taken_first p)
    ]

pub returns : goal.returns
returns c =
    let is = taken c in
    rw (← c.self.view_is) (record { fits = is.fits; pending = refl; joins = is.joins })

pub invariant_of-self-2 : goal.invariant_of-self-2
invariant_of-self-2 c = let is = taken c in (is.still, is.alone)
