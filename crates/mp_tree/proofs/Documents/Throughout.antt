-- What holds of each number, text and name of a document holds of those of its parts, and of what a change leaves.
use Rattle.std.proofs.Common.{ℕ, ℤ, List, Bool, true, false, cond, Some, IfSome}
use Rattle.mp_tree.specs.Document.{Document, whole, string, list, object, Items, no_items, item, Members, no_members, member, is_name, find, put, without, Throughout, ThroughoutItems, ThroughoutMembers}
use Rattle.mp_tree.proofs.Maps.EachMember.{each_after_put, each_after_without}

module _ (N : ℤ → Type 0) (S : List ℕ → Type 0) where
  pub Throughout-put : (n : List ℕ) (d : Document) (ms : Members) → S n → Throughout N S d → ThroughoutMembers N S ms → ThroughoutMembers N S (put n d ms)
  Throughout-put n d ms name here rest =
      each_after_put (λ n d. S n × Throughout N S d) (ThroughoutMembers N S) (λ n d ms. (λ h. ((h.0, h.1), h.2), λ h. (h.0.0, h.0.1, h.1))) n d ms (name, here) rest

  pub Throughout-without : (n : List ℕ) (ms : Members) → ThroughoutMembers N S ms → ThroughoutMembers N S (without n ms)
  Throughout-without n ms all =
      each_after_without (λ n d. S n × Throughout N S d) (ThroughoutMembers N S) (λ n d ms. (λ h. ((h.0, h.1), h.2), λ h. (h.0.0, h.0.1, h.1))) n ms all

  pub Throughout-find : (n : List ℕ) (ms : Members) → ThroughoutMembers N S ms → IfSome (find n ms) (Throughout N S)
  Throughout-find n no_members all = tt
  Throughout-find n (member m d ms) all = picked (is_name n m) all.1 (Throughout-find n ms all.2)
    where
      picked : (b : Bool) → Throughout N S d → IfSome (find n ms) (Throughout N S) → IfSome (cond b (Some d) (find n ms)) (Throughout N S)
      picked true here rest = here
      picked false here rest = rest

module _ (N : ℤ → Type 0) (S : List ℕ → Type 0) (M : ℤ → Type 0) (T : List ℕ → Type 0) (numbers : (z : ℤ) → N z → M z) (texts : (s : List ℕ) → S s → T s) where
  mutual
    pub Throughout-weaker : (d : Document) → Throughout N S d → Throughout M T d
    Throughout-weaker (whole z) all = numbers z all
    Throughout-weaker (string s) all = texts s all
    Throughout-weaker (list ds) all = items_weaker ds all
    Throughout-weaker (object ms) all = members_weaker ms all
    Throughout-weaker other all = tt

    items_weaker : (ds : Items) → ThroughoutItems N S ds → ThroughoutItems M T ds
    items_weaker no_items all = tt
    items_weaker (item d ds) all = (Throughout-weaker d all.0, items_weaker ds all.1)

    members_weaker : (ms : Members) → ThroughoutMembers N S ms → ThroughoutMembers M T ms
    members_weaker no_members all = tt
    members_weaker (member n d ms) all = (texts n all.0, Throughout-weaker d all.1, members_weaker ms all.2)
