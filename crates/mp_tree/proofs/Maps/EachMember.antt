-- What holds of each member of a map still does once one is put there or taken away.
use Rattle.std.proofs.Common.{◌↔◌, ℕ, List, Bool, true, false, cond, Ordering, Less, Equal, Greater}
use Rattle.std.specs.Ordering.{match_ordering}
use Rattle.mp_tree.specs.Document.{Document, Members, no_members, member, name_cmp, is_name, put, without}

module _ (At : List ℕ → Document → Type 0) (Each : Members → Type 0) (parts : (n : List ℕ) (d : Document) (ms : Members) → Each (member n d ms) ↔ (At n d × Each ms)) where
  put_at : (o : Ordering) (n m : List ℕ) (d e : Document) (ms : Members) → At n d → Each (member m e ms) → Each (put n d ms)
      → Each (match_ordering o (member n d (member m e ms)) (member n d ms) (member m e (put n d ms)))
  put_at Less n m d e ms here each later = (parts n d (member m e ms)).1 (here, each)
  put_at Equal n m d e ms here each later = (parts n d ms).1 (here, ((parts m e ms).0 each).1)
  put_at Greater n m d e ms here each later = (parts m e (put n d ms)).1 (((parts m e ms).0 each).0, later)

  pub each_after_put : (n : List ℕ) (d : Document) (ms : Members) → At n d → Each ms → Each (put n d ms)
  each_after_put n d no_members here each = (parts n d no_members).1 (here, each)
  each_after_put n d (member m e ms) here each = put_at (name_cmp n m) n m d e ms here each (each_after_put n d ms here ((parts m e ms).0 each).1)

  without_at : (b : Bool) (n m : List ℕ) (d : Document) (ms : Members) → Each (member m d ms) → Each (without n ms) → Each (cond b ms (member m d (without n ms)))
  without_at true n m d ms each later = ((parts m d ms).0 each).1
  without_at false n m d ms each later = (parts m d (without n ms)).1 (((parts m d ms).0 each).0, later)

  pub each_after_without : (n : List ℕ) (ms : Members) → Each ms → Each (without n ms)
  each_after_without n no_members each = each
  each_after_without n (member m d ms) each = without_at (is_name n m) n m d ms each (each_after_without n ms ((parts m d ms).0 each).1)
