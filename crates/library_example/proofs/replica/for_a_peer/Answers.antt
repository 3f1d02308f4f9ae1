use Rattle.std.proofs.Common.{Some, map}
use Rattle.mp_tree.specs.Document.{depth_limit}
use Rattle.mp_tree.specs.View.{document}
use Rattle.mp_merge.specs.Application.{merge_patch}
use Rattle.library_example.proofs.replica.for_a_peer.Goals as goal

-- it is the rewriting of the join that `join_all` gave
pub returns-clause-rewriting : goal.returns-clause-rewriting
returns-clause-rewriting c = record {
  joined = document c.in_ok-joined.joined;
  is_document = (c.docs_are_documents.ensures c.in_ok-joined.joined).0;
  is_join = c.in_ok-joined.ensures.joined;
  is_rewriting = c.in_ok-rewrite.ensures.rewriting;
}

-- the outcome is one application of the join, and the rewriting leads to it
pub returns-clause-runs : goal.returns-clause-runs
returns-clause-runs c = λ within.
    let start = document c.args.start.now in
    let joined = document c.in_ok-joined.joined in
    let docs = c.docs_are_documents.ensures in
    record {
      outcome = merge_patch (Some start) joined;
      is_document = c.applies_at_each_name.ensures.document start joined (docs c.args.start.now).0 (docs c.in_ok-joined.joined).0;
      is_outcome = c.join_gives_outcome.ensures start (map document c.args.patches.now) joined (docs c.args.start.now).0 (docs c.in_ok-joined.joined).0 c.in_ok-joined.ensures.joined;
      runs = c.in_ok-rewrite.ensures.runs (c.in_ok-joined.ensures.depth depth_limit within);
    }
