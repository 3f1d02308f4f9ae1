use Rattle.std.proofs.Common.{List, subst}
use Rattle.std.proofs.lemmas.Option.{get_or_from_slice_get, slice_get_within}
use Rattle.mp_tree.specs.Look.{Path}
use Rattle.mp_replica.specs.PatchLog.{IsDecideFault, IsFirstPair, stored_of}
use Rattle.mp_replica.specs.declared.fault.DecideFault.{DecideFault}
use Rattle.mp_c.specs.OnHandles.{AreShownOrNone}
use Rattle.mp_c.specs.OnLogs.{HasNoPatchAt, decide_conflict, decide_last, decide_missing}
use Rattle.mp_c.proofs.undecided.report_undecided.Goals as goal

pub returns-in-NotReceived : goal.returns-in-NotReceived
returns-in-NotReceived c log fault =
    let chosen = c.args.chosen.now in
    let i = c.in-NotReceived.identity in
    let why = subst (λ (why : DecideFault). IsDecideFault c.args.limit why log chosen) c.in-NotReceived.is fault in
    let first = why.1 in
    let at = c.number_of.ensures (first.k, slice_get_within chosen first.k i first.at, get_or_from_slice_get chosen first.k i i first.at) in
    let missing : HasNoPatchAt (stored_of log) chosen c.number_of.result = record { identity = i; at = at; is_first = first } in
    (decide_missing c.number_of.result, (why.0, missing), c.write.ensures)

pub returns-in-Conflict : goal.returns-in-Conflict
returns-in-Conflict c log fault =
    let chosen = c.args.chosen.now in
    let why = subst (λ (why : DecideFault). IsDecideFault c.args.limit why log chosen) c.in-Conflict.is fault in
    let is_first : IsFirstPair (stored_of log) chosen c.in-Conflict.first c.in-Conflict.second = why.2 in
    let (said, shown, replied) = c.report_places.ensures in (
      decide_conflict c.number_of-in-Conflict.result c.number_of-in-Conflict-2.result c.in-Conflict.conflicts.total said,
      (
        why.0,
        why.1,
        record {
          one = c.in-Conflict.first;
          other = c.in-Conflict.second;
          is_first = is_first;
          at_first = c.number_of-in-Conflict.ensures is_first.chosen_first;
          at_second = c.number_of-in-Conflict-2.ensures is_first.chosen_second;
          places = c.in-Conflict.conflicts.places.items;
          conflicts = why.3;
          shown = subst (λ (places : List Path). AreShownOrNone c.args.limit places said) c.as_slice.ensures.value shown;
        },
      ),
      replied,
    )

pub returns-in-LastEpoch : goal.returns-in-LastEpoch
returns-in-LastEpoch c log fault =
    (decide_last, subst (λ (why : DecideFault). IsDecideFault c.args.limit why log c.args.chosen.now) c.in-LastEpoch.is fault, c.write-in-LastEpoch.ensures)
