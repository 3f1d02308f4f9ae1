use Rattle.std.proofs.Common.{List, arith}
use Rattle.std.proofs.lemmas.Result.{err_from_is_err_and}
use Rattle.mp_tree.specs.Document.{Document}
use Rattle.mp_patch.specs.Operation.{Operation}
use Rattle.mp_patch.proofs.Operations.Depth.{Step-depth}
use Rattle.mp_patch.proofs.Runs.Growth.{next_there, run_before, run_end, run_further}
use Rattle.mp_patch.proofs.Runs.Within.{RunsUnder, ends_there, follows_weighs, runs_further, runs_to_end}
use Rattle.mp_patch.proofs.applying.run.Goals as goal

pub loop-op-preserved : goal.loop-op-preserved
loop-op-preserved g c =
    let l = c.loop-op in
    let m = g.T.Node.means in
    let v = g.O.StepOwned.means in
    let start = m c.args.doc in
    let now = m l.result in
    let o = v c.in-Some.op in
    let new = m c.step_under.new.doc in
    let next = c.in_ok-scale-2.scale in
    let answer = c.in_ok-scale-2.ensures.answer in
    let R : List Operation → Document → Type 0 = λ os e. RunsUnder c.args.limit l.scale start os e in
    let S : List Operation → Document → Type 0 = λ os e. RunsUnder c.args.limit next start os e in
    let on = c.in-Some.ensures.goes.on l.invariant.is_finite in
    record {
      ran = λ operations gives. run_further g.I.Iterator.next_gives v R operations l.op-iterator c.next.new.self l.done now (l.invariant.ran operations gives) c.in-Some.op c.in-Some.ensures.steps S new
          (λ os run. runs_further c.args.limit l.scale next start now new os o run answer.0 answer.1 answer.2);
      weighs = follows_weighs l.scale next now o new answer.2;
      bounds = c.in_ok-scale-2.ensures.bounds;
      shallow = λ shallow. Step-depth now o new answer.0 answer.1 (c.requires.documents l.result) (c.requires.documents c.step_under.new.doc) (l.invariant.shallow shallow);
      few = omega (arith, l.invariant.few, on.2);
      can_next = on.0;
      is_finite = on.1;
    }

pub returns-in_err-scale-2-clause-runs : goal.returns-in_err-scale-2-clause-runs
returns-in_err-scale-2-clause-runs g c operations gives =
    let l = c.loop-op in
    let m = g.T.Node.means in
    let v = g.O.StepOwned.means in
    let start = m c.args.doc in
    let now = m l.result in
    let R : List Operation → Document → Type 0 = λ os e. RunsUnder c.args.limit l.scale start os e in
    let ran = l.invariant.ran operations gives in
    let before = run_before g.I.Iterator.next_gives v R operations l.op-iterator c.next.new.self l.done now ran in
    let there = next_there g.I.Iterator.next_gives v R operations l.op-iterator c.next.new.self l.done now ran c.in-Some.op c.in-Some.ensures.steps in
    let p = err_from_is_err_and c.from_residual-in_err-scale-2.result c.from_residual-in_err-scale-2.ensures.1 in
    rw (p.1, p.2) (ends_there c.args.limit l.scale l.done start now operations (v c.in-Some.op) before there c.in_err-scale-2.field-0.0 c.in_err-scale-2.ensures.answer)

pub returns-clause-runs : goal.returns-clause-runs
returns-clause-runs g c operations gives =
    let l = c.loop-op in
    let start = g.T.Node.means c.args.doc in
    let now = g.T.Node.means l.result in
    let R : List Operation → Document → Type 0 = λ os e. RunsUnder c.args.limit l.scale start os e in
    runs_to_end c.args.limit l.scale start now operations (run_end g.I.Iterator.next_gives g.O.StepOwned.means R operations l.op-iterator c.next.new.self l.done now (l.invariant.ran operations gives) c.in-None.ensures.steps)
