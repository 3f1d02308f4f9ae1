-- The tests of a rewriting: they pass on its document, and if they pass elsewhere, the same is there.
use Rattle.std.proofs.Common.{◌≡◌, ◌≢◌, ◌⊎◌, inl, inr, ℕ, zero, suc, List, [], ◌∷◌, ◌++◌, map, take, Option, None, Some, slice_get, refl, sym, ap, ◌∙◌, subst}
use Rattle.std.specs.List.{Contains}
use Rattle.mp_tree.specs.Document.{Document}
use Rattle.mp_tree.specs.Look.{Path, Look, nothing, an_object, plain, look}
use Rattle.mp_pointer.specs.Part.{part}
use Rattle.mp_patch.specs.Operation.{Operation, test}
use Rattle.mp_patch.specs.Refusal.{RefusedBy}
use Rattle.mp_patch.specs.Run.{Runs}
use Rattle.mp_patch.specs.Laws.{OperationsAreTaken}
use Rattle.mp_merge.specs.Laws.{GuardedList, RefusedGuardShows}
use Rattle.mp_merge.specs.Rewriting.{edit, guard_of, guards, edit_to, part_left}
use Rattle.mp_tree.proofs.Facts.{Contains-nil, Contains-cases}

-- ---- on the document itself

pub guards_run : OperationsAreTaken → (d : Document) (places : List Path) (rest : List Operation) (e : Document) → Runs d rest e → Runs d (guards d places ++ rest) e
guards_run taken d [] rest e runs = runs
guards_run taken d (w ∷ places) rest e runs = by (part d w) refl (guards_run taken d places rest e runs)
  where
    by : (v : Option Document) → part d w ≡ v → Runs d (guards d places ++ rest) e → Runs d ((guard_of w v ++ guards d places) ++ rest) e
    by None is later = later
    by (Some v) is later = ((taken d).tests w v is, d, (is, refl), later)

-- ---- on any document

-- where the tests pass, each place has what it has in the document
passed : (d x e : Document) (places : List Path) (rest : List Operation) → Runs x (guards d places ++ rest) e → (w : Path) (v : Document) → Contains places w → part d w ≡ Some v → part x w ≡ Some v
passed d x e [] rest runs w v at is = absurd (Contains-nil w at)
passed d x e (u ∷ places) rest runs w v at is = by (passed d x e places rest) (part d u) refl runs (Contains-cases u w places at)
  where
    by : (Runs x (guards d places ++ rest) e → (y : Path) (z : Document) → Contains places y → part d y ≡ Some z → part x y ≡ Some z) → (o : Option Document) → part d u ≡ o → Runs x ((guard_of u o ++ guards d places) ++ rest) e → (u ≡ w) ⊎ Contains places w → part x w ≡ Some v
    by later_passed None here later (inl same) = let never : None ≡ Some v = sym here ∙ ap (part d) same ∙ is in absurd (cc)
    by later_passed None here later (inr there) = later_passed later w v there is
    by later_passed (Some z) here (free, m, (stands, stays), later) (inl same) = ap (part x) (sym same) ∙ stands ∙ sym here ∙ ap (part d) same ∙ is
    by later_passed (Some z) here (free, m, (stands, stays), later) (inr there) = later_passed (subst (λ (y : Document). Runs y (guards d places ++ rest) e) stays later) w v there is

pub guarded_list : GuardedList
guarded_list d p x e operations w v is runs place here =
    passed d x e is.places (map (edit d p) is.places) (subst (λ os. Runs x os e) is.guarded runs) w v ((is.all w).1 place) here

-- ---- a test that is refused

-- an edit is no test
no_test : (d p v : Document) (w u : Path) → edit d p w ≡ test u v → ⊥
no_test d p v w u same = by (look d w) (part_left w (part p w)) same
  where
    by : (l : Look) (o : Option Document) → edit_to w l o ≡ test u v → ⊥
    by l None same = cc
    by nothing (Some x) same = cc
    by an_object (Some x) same = cc
    by (plain y) (Some x) same = cc

not_among_edits : (d p v : Document) (u : Path) (places : List Path) (k : ℕ) → slice_get (map (edit d p) places) k ≡ Some (test u v) → ⊥
not_among_edits d p v u [] k at = cc
not_among_edits d p v u (w ∷ places) zero at = no_test d p v w u (let same : edit d p w ≡ test u v = cc in same)
not_among_edits d p v u (w ∷ places) (suc k) at = not_among_edits d p v u places k at

-- it is a guard, and all before it were passed
pub record Guard (d x m : Document) (u : Path) (v : Document) : Type 0 where
  pub stood : part d u ≡ Some v
  pub same : m ≡ x

guard_at : (d p x m v : Document) (u : Path) (places left : List Path) (k : ℕ) → slice_get (guards d left ++ map (edit d p) places) k ≡ Some (test u v)
    → Runs x (take k (guards d left ++ map (edit d p) places)) m → Guard d x m u v
guard_at d p x m v u places [] k at runs = absurd (not_among_edits d p v u places k at)
guard_at d p x m v u places (w ∷ left) k at runs = by (guard_at d p x m v u places left) (part d w) refl k at runs
  where
    by : ((i : ℕ) → slice_get (guards d left ++ map (edit d p) places) i ≡ Some (test u v) → Runs x (take i (guards d left ++ map (edit d p) places)) m → Guard d x m u v) → (o : Option Document) → part d w ≡ o → (k : ℕ) → slice_get ((guard_of w o ++ guards d left) ++ map (edit d p) places) k ≡ Some (test u v)
        → Runs x (take k ((guard_of w o ++ guards d left) ++ map (edit d p) places)) m → Guard d x m u v
    by later_guard None here k at runs = later_guard k at runs
    by later_guard (Some z) here zero at runs =
        let place : w ≡ u = cc in
        let value : z ≡ v = cc in
        record { stood = ap (part d) (sym place) ∙ here ∙ ap Some value; same = runs }
    by later_guard (Some z) here (suc k) at (free, y, (stands, stays), later) = later_guard k at (subst (λ (t : Document). Runs t (take k (guards d left ++ map (edit d p) places)) m) stays later)

pub refused_guard_shows : OperationsAreTaken → RefusedGuardShows
refused_guard_shows taken d p x operations k cause u v is (m, runs, o, at, refused) here =
    let test_is : o ≡ test u v = (let both : Some o ≡ Some (test u v) = sym at ∙ here in cc) in
    let guard = guard_at d p x m v u is.places is.places k (subst (λ os. slice_get os k ≡ Some (test u v)) is.guarded here) (subst (λ os. Runs x (take k os) m) is.guarded runs) in
    (guard.stood, subst (λ (y : Document). part y u ≢ Some v) guard.same (λ there. (taken m).tests u v there (cause, subst (λ (q : Operation). RefusedBy m q cause) test_is refused)), guard.same)
