use Rattle.std.proofs.Common.{◌≡◌, ◌<◌, ◌+◌, ℕ, length, take, map, Option, Some, MatchOption, slice_get, true, false, sym, subst, arith}
use Rattle.std.proofs.lemmas.List.{length-map}
use Rattle.mp_merge.specs.Join.{IsJoin}
use Rattle.mp_merge.specs.Private.Clashes.{IsFreeBelow, IsReportedBelow}
use Rattle.mp_merge.specs.Private.Unions.{UnitesTo}
use Rattle.mp_merge.specs.declared.comparing.Conflicts.{Conflicts}
use Rattle.mp_merge.proofs.Joins.Numbered.{at_number, reported_pair, free_of_join, joined_more}
use Rattle.mp_merge.proofs.lists.join_next.Goals as goal

pub returns-then-branch : goal.returns-then-branch
returns-then-branch g c =
    let f = g.T.Node.means in
    let patches = map f c.args.patches.now in
    let k = c.args.second in
    let d = c.index-patches-second.result in
    let j = f c.args.joined in
    let within : k < length patches = omega (arith, length-map c.args.patches.now f, c.requires.within) in
    let at : slice_get patches k ≡ Some (f d) = at_number f c.args.patches.now k d c.requires.within c.index-patches-second.is in
    let now = f c.unite.new.joined in
    let united : UnitesTo true (f d) (Some j) now = subst (λ b. UnitesTo b (f d) (Some j) now) c.if-branch.true c.in_ok-unite.ensures.united in
    subst (λ x. IsJoin (take (k + 1) patches) x) (sym united.1) (joined_more patches k (f d) j within at (c.requires.documents d) (c.requires.documents c.args.joined) c.requires.joined united.0)

pub unreachable-requires : goal.unreachable-requires
unreachable-requires g c =
    let f = g.T.Node.means in
    let patches = map f c.args.patches.now in
    let k = c.args.second in
    let d = c.index-patches-second.result in
    let j = f c.args.joined in
    let within : k < length patches = omega (arith, length-map c.args.patches.now f, c.requires.within) in
    let at : slice_get patches k ≡ Some (f d) = at_number f c.args.patches.now k d c.requires.within c.index-patches-second.is in
    let now = f c.unite.new.joined in
    let clash : UnitesTo false (f d) (Some j) now = subst (λ b. UnitesTo b (f d) (Some j) now) c.if-branch.false c.in_ok-unite.ensures.united in
    let free : IsFreeBelow patches k = subst (λ (o : Option (ℕ × Conflicts)). MatchOption o (IsFreeBelow patches k) (λ found. IsReportedBelow c.args.limit patches found.0 k found.1)) c.in_default.is c.in_ok-first.ensures in
    clash (free_of_join patches k j (f d) within at c.requires.joined free)

pub returns : goal.returns
returns g c =
    let f = g.T.Node.means in
    let patches = map f c.args.patches.now in
    let k = c.args.second in
    let clash : IsReportedBelow c.args.limit patches c.in-Some.first k c.in-Some.places = subst (λ (o : Option (ℕ × Conflicts)). MatchOption o (IsFreeBelow patches k) (λ found. IsReportedBelow c.args.limit patches found.0 k found.1)) c.in-Some.is c.in_ok-first.ensures in
    record {
      all = clash.0;
      pair = reported_pair patches c.in-Some.first k clash.0 (f c.args.joined) (omega (arith, length-map c.args.patches.now f, c.requires.within)) c.requires.joined clash.1;
      first_of = clash.2;
    }
