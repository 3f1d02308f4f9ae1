use Rattle.std.proofs.Common.{◌≡◌, None}
use Rattle.mp_tree.specs.Text.{text as compact}
use Rattle.mp_tree.specs.View.{document}
use Rattle.mp_replica.specs.Faults.{IsNoPart}
use Rattle.mp_replica.specs.Texts.{IsPartOf}
use Rattle.mp_replica.proofs.TextRuns.{text_of}
use Rattle.mp_replica.proofs.Written.{written}
use Rattle.mp_replica.proofs.replica.Replica.get_text.Goals as goal

pub returns-in-Some-clause-part : goal.returns-in-Some-clause-part
returns-in-Some-clause-part c =
    let r = c.args.self.now in
    let tokens = c.in_ok-pointer.pointer in
    let value = document c.in-Some.part.now in
    let settled = c.in-Some.ensures.0 in
    let there = c.in-Some.ensures.1 in
    written c.args.limit (compact value) (λ bytes. (r.pending ≡ None) × IsPartOf (document r.shown) c.args.pointer.now bytes) (λ fault. IsNoPart c.args.limit fault r c.args.pointer.now) c.text_within.result c.text_within.ensures
    (λ bytes is. (
      settled,
      record {
        tokens = tokens;
        spelled = c.in_ok-pointer.ensures.spelled;
        value = value;
        is_part = there;
        is = is;
        read_back = λ good. (text_of c.text_laws.ensures value bytes (c.text_laws.ensures.readable_parts tokens (document r.shown) value good there) is).read_back;
      },
    ))
    (λ long. record { settled = settled; tokens = tokens; spelled = c.in_ok-pointer.ensures.spelled; there = value; is_part = there; too_long = long }) tt
