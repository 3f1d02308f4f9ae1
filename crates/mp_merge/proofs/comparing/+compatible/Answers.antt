use Rattle.std.proofs.Common.{◌≢◌, ◌∷◌, [], string_bytes, sym, ◌∙◌, true≢false, arith}
use Rattle.mp_tree.specs.View.{members_by}
use Rattle.mp_tree.proofs.Facts.{looked_up-by}
use Rattle.mp_merge.specs.Clash.{Clash}
use Rattle.mp_merge.proofs.Clashes.ByName.{decided, clash_of_others, clash-sym, compatible-self, absent_under, compatible_under, clash_under, same_behind, no_map}
use Rattle.mp_merge.proofs.Collections.Members.{next_change_by, pass_change_by}
use Rattle.mp_merge.proofs.comparing.+compatible.Goals as goal
use Rattle.mp_merge.proofs.comparing.+compatible.Goals.{are_compatible-in_default-via-in-Some+in_default, are_compatible-in_default-via-in_default}

pub are_compatible-returns-in_default : goal.are_compatible-returns-in_default
are_compatible-returns-in_default g t c =
    let p = g.T.Node.means c.args.p.now in
    let q = g.T.Node.means c.args.q.now in
    let clash : p ≢ q → Clash p q [] = elim c.in_default.branch [
      | are_compatible-in_default-via-in-Some+in_default w ↦ λ other. clash-sym q p [] (clash_of_others q p (no_map q w.in_default.ensures'.value) (λ same. other (sym same)))
      | are_compatible-in_default-via-in_default w ↦ clash_of_others p q (no_map p w.in_default.ensures.value)
    ] in (
      λ yes. compatible-self p q (c.equals.ensures.0 yes),
      λ none. decided c.equals.result c.equals.ensures (λ other. none [] (clash other)),
    )

pub are_members_compatible-are_compatible-requires :
    goal.are_members_compatible-are_compatible-requires
are_members_compatible-are_compatible-requires g t c κs within =
    let f = g.T.Node.means in
    let next = next_change_by f c.requires.documents c.loop-name.invariant c.in-Some.ensures.steps in
    let no_deeper = next.holds.1 in (omega (arith, c.decreases), within)

pub are_members_compatible-returns-then-not-are_compatible :
    goal.are_members_compatible-returns-then-not-are_compatible
are_members_compatible-returns-then-not-are_compatible g t c =
    let f = g.T.Node.means in
    let good = c.requires.documents in
    let n = string_bytes c.in-Some.name.now in
    let p = f c.in-Some.change.now in
    let q = f c.in-Some-get.other.now in
    let others = c.args.others.now.entries in
    let found = looked_up-by f good others c.as_str.ensures.value c.in-Some-get.ensures.value in
    let next = next_change_by f good c.loop-name.invariant c.in-Some.ensures.steps in (
      λ never. absurd (cc),
      λ none.
          let yes = decided c.are_compatible.result c.are_compatible.ensures (λ other. other (λ w clash.
          none (n ∷ w) ((next.holds.0 (n ∷ w)).1 (clash_under n p q (members_by f c.next.new.self) (members_by f others) w found clash)))) in
          absurd (true≢false (sym yes ∙ c.if-not-are_compatible.true)),
    )

pub are_members_compatible-loop-name-preserved-else-not-are_compatible :
    goal.are_members_compatible-loop-name-preserved-else-not-are_compatible
are_members_compatible-loop-name-preserved-else-not-are_compatible g t c =
    let f = g.T.Node.means in
    let good = c.requires.documents in
    let found = looked_up-by f good c.args.others.now.entries c.as_str.ensures.value c.in-Some-get.ensures.value in
    let agree = c.are_compatible.ensures.0 c.if-not-are_compatible.false in
    pass_change_by f good c.loop-name.invariant c.in-Some.ensures.steps (λ map both. (same_behind (compatible_under _ _ _ found agree) map both.0, let deep = both.1 in omega arith))

pub are_members_compatible-loop-name-preserved : goal.are_members_compatible-loop-name-preserved
are_members_compatible-loop-name-preserved g t c =
    let f = g.T.Node.means in
    let good = c.requires.documents in
    let absent = looked_up-by f good c.args.others.now.entries c.as_str.ensures.value c.in_default.ensures.value in
    pass_change_by f good c.loop-name.invariant c.in-Some.ensures.steps (λ map both. (same_behind (absent_under _ _ absent) map both.0, let deep = both.1 in omega arith))
