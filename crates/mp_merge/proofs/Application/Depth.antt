-- A merged document is no deeper than the deeper of target and patch.
use Rattle.std.proofs.Common.{◌≡◌, ◌≤◌, ℕ, List, Bool, true, false, cond, max, Option, Some, None, Result, IfOk, sym, subst, arith}
use Rattle.std.proofs.lemmas.Result.{IfOk-weaker}
use Rattle.mp_tree.specs.Document.{Document, null, flag, whole, string, list, object, Members, no_members, member, is_name, find, depth, members_depth}
use Rattle.mp_merge.specs.Application.{target_members, set_or_remove, depth_of, merge_patch, merge_patch_members}
use Rattle.mp_tree.proofs.Facts.{members_depth-put, members_depth-without}

pub depth-find : (q : List ℕ) (ms : Members) → depth_of (find q ms) ≤ members_depth ms
depth-find q no_members = omega arith
depth-find q (member m d ms) = picked (is_name q m) (depth-find q ms)
  where
    picked : (b : Bool) → depth_of (find q ms) ≤ members_depth ms → depth_of (cond b (Some d) (find q ms)) ≤ max (depth d) (members_depth ms)
    picked true later = omega arith
    picked false later = omega (arith, later)

depth-set_or_remove : (n : List ℕ) (p d : Document) (ms : Members) → members_depth (set_or_remove n p d ms) ≤ max (depth d) (members_depth ms)
depth-set_or_remove n null d ms = omega (arith, members_depth-without n ms)
depth-set_or_remove n (flag b) d ms = members_depth-put n d ms
depth-set_or_remove n (whole z) d ms = members_depth-put n d ms
depth-set_or_remove n (string s) d ms = members_depth-put n d ms
depth-set_or_remove n (list ds) d ms = members_depth-put n d ms
depth-set_or_remove n (object ps) d ms = members_depth-put n d ms

members_at_most : (t : Option Document) (ps : Members) → members_depth (merge_patch_members (target_members t) ps) ≤ max (members_depth (target_members t)) (members_depth ps) → depth (merge_patch t (object ps)) ≤ max (depth_of t) (depth (object ps))
members_at_most None ps inner = omega (arith, inner)
members_at_most (Some null) ps inner = omega (arith, inner)
members_at_most (Some (flag b)) ps inner = omega (arith, inner)
members_at_most (Some (whole z)) ps inner = omega (arith, inner)
members_at_most (Some (string s)) ps inner = omega (arith, inner)
members_at_most (Some (list ds)) ps inner = omega (arith, inner)
members_at_most (Some (object ts)) ps inner = omega (arith, inner)

mutual
  pub depth-merge_patch : (t : Option Document) (p : Document) → depth (merge_patch t p) ≤ max (depth_of t) (depth p)
  depth-merge_patch t null = omega arith
  depth-merge_patch t (flag b) = omega arith
  depth-merge_patch t (whole z) = omega arith
  depth-merge_patch t (string s) = omega arith
  depth-merge_patch t (list ds) = omega arith
  depth-merge_patch t (object ps) = members_at_most t ps (depth-merge_patch_members (target_members t) ps)

  depth-merge_patch_members : (ts ps : Members) → members_depth (merge_patch_members ts ps) ≤ max (members_depth ts) (members_depth ps)
  depth-merge_patch_members ts no_members = omega arith
  depth-merge_patch_members ts (member n p ps) =
      omega (arith, depth-set_or_remove n p (merge_patch (find n ts) p) (merge_patch_members ts ps), depth-merge_patch (find n ts) p, depth-find n ts, depth-merge_patch_members ts ps)

pub merged_is_no_deeper : {T E : Type 0} (f : T → Document) (r : Result T E) (t : Option Document) (p : Document) → IfOk r (λ d. f d ≡ merge_patch t p) → IfOk r (λ d. depth (f d) ≤ max (depth_of t) (depth p))
merged_is_no_deeper f r t p is =
    IfOk-weaker r (λ d. f d ≡ merge_patch t p) (λ d. depth (f d) ≤ max (depth_of t) (depth p)) (λ d same. subst (λ x. depth x ≤ max (depth_of t) (depth p)) (sym same) (depth-merge_patch t p)) is
