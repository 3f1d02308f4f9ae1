use Rattle.mp_tree.specs.View.{document}
use Rattle.mp_tree.specs.Private.Entries.{members}
use Rattle.mp_merge.proofs.Application.Resumption.{MergesOn}
use Rattle.mp_merge.proofs.Collections.Members.{ChangesLeftBy}
use Rattle.mp_merge.proofs.in_place.+merge_at.Given as goal

-- the changes that are left, applied to the entries as they are, give the result, and a try that stops here can be made again
abbrev pub invariant-merge_members-loop-name : goal.invariant-merge_members-loop-name
invariant-merge_members-loop-name l =
    ChangesLeftBy document l.name-iterator (MergesOn (members l.initial.entries.entries) (members l.changes.entries) (members l.entries.entries))
