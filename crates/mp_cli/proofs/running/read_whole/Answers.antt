use Rattle.std.proofs.Common.{◌≡◌, ◌+◌, ◌<◌, ◌≤◌, ◌++◌, length, take, ap, sym, subst, arith, refl}
use Rattle.std.proofs.lemmas.Grind.{common_steps}
use Rattle.std.proofs.lemmas.List.{length-append}
use Rattle.mp_cli.specs.Run.{input_limit}
use Rattle.mp_cli.proofs.Runs.{ReadSoFar, ReadSoFar-more, ReadSoFar-none, ReadsBytes-end, ReadsBytes-failed, ReadsBytes-more}
use Rattle.mp_cli.proofs.running.read_whole.Goals as goal

pub loop-init : goal.loop-init
loop-init g c =
    subst (ReadSoFar g.R.Read.remaining c.args.input.now c.args.input.now 0) (sym c.new-bytes.ensures.items)
    (ReadSoFar-none g.R.Read.remaining c.args.input.now c.requires)

pub loop-preserved : goal.loop-preserved
loop-preserved g c =
    let read = c.in-Ok.ensures in
    let before = c.loop.bytes.items in
    let more = take c.in-Ok.count c.read.new.piece in
    let grown : c.extend_from_slice.new.self.items ≡ before ++ more = grind (arith, common_steps) in
    let some : 0 < c.in-Ok.count = omega (arith, c.if-count-eq0.false) in
    let short : length (before ++ more) ≤ input_limit = omega (arith, length-append before more, read.bound.1) in
    subst (ReadSoFar g.R.Read.remaining c.args.input.now c.read.new.self (c.loop.counter + 1)) (sym grown)
    (ReadSoFar-more g.R.Read.remaining _ _ _ _ _ before more c.loop.invariant read.given read.bound.1 some read.consumed.0 short)

-- the read that found the end
pub returns-then-count-eq0-clause-whole : goal.returns-then-count-eq0-clause-whole
returns-then-count-eq0-clause-whole g c =
    let read = c.in-Ok.ensures in
    let old = c.args.input.now in
    let unfailed = old.failures_within_calls in
    record {
      given = ReadsBytes-end g.R.Read.remaining _ _ _ _ _ _ _ c.requires c.loop.invariant read.given c.if-count-eq0.true (ap (λ n. take n c.read.new.piece) c.if-count-eq0.true) read.consumed.0;
      ended = read.consumed.1 c.if-count-eq0.true (omega arith);
      failures = omega (arith, c.requires, unfailed, read.given.failures, c.loop.invariant.failures);
      short = c.loop.invariant.short;
    }

pub returns-then-count-eq0-clause-reads : goal.returns-then-count-eq0-clause-reads
returns-then-count-eq0-clause-reads g c =
    let read = c.in-Ok.ensures in
    (_, ReadsBytes-end g.R.Read.remaining _ _ _ _ _ c.loop.bytes.items _ c.requires c.loop.invariant read.given c.if-count-eq0.true (ap (λ n. take n c.read.new.piece) c.if-count-eq0.true) read.consumed.0)

pub returns-then-len-count-gt-INPUT_LIMIT-clause-reads :
    goal.returns-then-len-count-gt-INPUT_LIMIT-clause-reads
returns-then-len-count-gt-INPUT_LIMIT-clause-reads g c =
    let read = c.in-Ok.ensures in
    let some : 0 < c.in-Ok.count = omega (arith, c.if-count-eq0.false) in
    (_, ReadsBytes-more g.R.Read.remaining _ _ _ _ _ _ _ c.requires c.loop.invariant read.given read.bound.1 some read.consumed.0)

pub returns-in_err-extend_from_slice-clause-reads :
    goal.returns-in_err-extend_from_slice-clause-reads
returns-in_err-extend_from_slice-clause-reads g c =
    let read = c.in-Ok.ensures in
    let some : 0 < c.in-Ok.count = omega (arith, c.if-count-eq0.false) in
    (_, ReadsBytes-more g.R.Read.remaining _ _ _ _ _ _ _ c.requires c.loop.invariant read.given read.bound.1 some read.consumed.0)

pub returns-in_default-clause-whole : goal.returns-in_default-clause-whole
returns-in_default-clause-whole g c = tt

pub returns-in_default-clause-reads : goal.returns-in_default-clause-reads
returns-in_default-clause-reads g c =
    (_, ReadsBytes-failed g.R.Read.remaining _ _ _ _ _ c.requires c.loop.invariant c.in_default.ensures.failed c.in_default.ensures.consumed)

pub returns-in_default-clause-read_failed : goal.returns-in_default-clause-read_failed
returns-in_default-clause-read_failed g c = (λ _. omega (arith, c.in_default.ensures.failed.failures), λ _. refl)
