use Rattle.std.specs.Vec.Iter.{into_iter_items}
use Rattle.std.proofs.Common.{◌≡◌}
use Rattle.mp_tree.specs.View.{document}
use Rattle.mp_replica.specs.Following.{Follows}
use Rattle.library_example.specs.Received.{epoch_of, patches_of, replica_of}
use Rattle.library_example.proofs.Messages.{SoFar}
use Rattle.library_example.proofs.receiving.shown_after.Given as goal

-- the messages so far are received
abbrev pub invariant-loop-message : goal.invariant-loop-message
invariant-loop-message l = record {
  epoch : epoch_of l.replica ≡ l.epoch;
  received : SoFar l.fn.messages.items (into_iter_items l.message-iterator)
      (λ passed. Follows (document l.fn.start) (patches_of l.epoch passed) (replica_of l.replica));
  can_next : (goal.iterator-loop-message).can_next l.message-iterator;
  is_finite : (goal.iterator-loop-message).is_finite l.message-iterator;
}
