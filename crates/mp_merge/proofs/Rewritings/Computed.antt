-- The operations that the walk over a patch and a document adds are the rewriting.
use Rattle.std.proofs.Common.{◌≡◌, ◌≢◌, ◌⊎◌, inl, inr, ◌↔◌, ℕ, List, [], ◌∷◌, ◌++◌, map, Less, cond, false, Option, Some, None, refl, sym, ap, ap₂, ◌∙◌, subst, append-nil, append_assoc}
use Rattle.std.proofs.lemmas.List.{map-append}
use Rattle.std.specs.List.{Contains, flat_map}
use Rattle.std.specs.List.Sorted.{IsStrictlySortedBy}
use Rattle.mp_tree.specs.Document.{Document, null, flag, whole, string, list, object, Members, no_members, member, name_cmp, is_name, find, IsBelow, IsDocument, IsMap}
use Rattle.mp_tree.specs.Look.{Path, Look, nothing, an_object, plain, look, look_of}
use Rattle.mp_tree.proofs.Facts.{is_here, find-below, cases_same, is_name-self, same_plain, Contains-nil, Contains-head, Contains-tail, Contains-one, name_above}
use Rattle.mp_pointer.specs.Part.{part}
use Rattle.mp_patch.specs.Operation.{Operation}
use Rattle.mp_merge.specs.Clash.{path_cmp}
use Rattle.mp_merge.specs.Private.Edits.{GuardedEdit, IsOneEdit, NotBothMaps, AreEdits, AreMemberEdits}
use Rattle.mp_merge.specs.Rewriting.{guard_of, guards, part_left, edit_to, edit, IsRewriting}
use Rattle.mp_merge.specs.EditPlace.{IsEditPlace}
use Rattle.mp_merge.specs.Within.{guarded_edits}
use Rattle.mp_merge.proofs.Rewritings.EditPlaces.{differs_at_edit, edit_where_differs, left_by-no_map}
use Rattle.mp_merge.proofs.Paths.Maps.{MapsAbove, at_path, part-at_path}
use Rattle.mp_merge.proofs.Paths.Rising.{BeginsAbove, Lists, lists_both, under_all}
use Rattle.mp_merge.proofs.Application.Looks.{left_of}

-- the edit places of a part of a patch and a part of a document that stand at s
record DiffersAt (s : Path) (t p : Option Document) (w : Path) : Type 0 where
  maps : MapsAbove t w
  patch_maps : MapsAbove p w
  speaks : look_of p w ≢ nothing
  differs : look_of t w ≢ left_of (look_of p w) (s ++ w)

abbrev edit_at : Path → Option Document → Option Document → Path → GuardedEdit
edit_at s t p w = (guard_of (s ++ w) (at_path t w), edit_to (s ++ w) (look_of t w) (part_left (s ++ w) (at_path p w)))

record Listing (s : Path) (t p : Option Document) (operations : List GuardedEdit) : Type 0 where
  places : List Path
  rising : IsStrictlySortedBy path_cmp places
  all : (w : Path) → Contains places w ↔ DiffersAt s t p w
  edits : operations ≡ map (edit_at s t p) places

-- ---- where not both have a map

look-left : (s : Path) (p : Document) → look_of (part_left s (Some p)) [] ≡ left_of (look p []) s
look-left [] null = refl
look-left [] (flag b) = refl
look-left [] (whole z) = refl
look-left [] (string x) = refl
look-left [] (list ds) = refl
look-left [] (object ms) = refl
look-left (n ∷ s) null = refl
look-left (n ∷ s) (flag b) = refl
look-left (n ∷ s) (whole z) = refl
look-left (n ∷ s) (string x) = refl
look-left (n ∷ s) (list ds) = refl
look-left (n ∷ s) (object ms) = refl

same_at_end : (t o : Option Document) → look_of t [] ≢ an_object → look_of t [] ≡ look_of o [] → t ≡ o
same_at_end None None other is = refl
same_at_end None (Some e) other is = absurd (is_here e (sym is))
same_at_end (Some (object ts)) o other is = absurd (other refl)
same_at_end (Some d) None other is = absurd (cc)
same_at_end (Some d) (Some e) other is = ap Some (same_plain d e is)

left_map : (l : Look) (s : Path) → left_of l s ≡ an_object → l ≡ an_object
left_map nothing s is = absurd (cc)
left_map an_object s is = refl
left_map (plain v) s is = absurd (left_by-no_map v s is)

settled : (s : Path) (p : Document) (t : Option Document) → NotBothMaps p t → look_of t [] ≡ left_of (look p []) s → t ≡ part_left s (Some p)
settled s p t other is =
    same_at_end t (part_left s (Some p)) (λ map. other (left_map (look p []) s (sym is ∙ map)) map) (is ∙ sym (look-left s p))

at_root_alone : (s : Path) (p : Document) (t : Option Document) (w : Path) → NotBothMaps p t → DiffersAt s t (Some p) w → w ≡ []
at_root_alone s p t [] other here = refl
at_root_alone s p t (n ∷ w) other here = absurd (other here.patch_maps.0 here.maps.0)

one_listing : (s : Path) (p : Document) (t : Option Document) (operations : List GuardedEdit) → NotBothMaps p t → IsOneEdit s p t operations → Listing s t (Some p) operations
unfolding IsStrictlySortedBy
one_listing s p t operations other (inl (there, none)) = record {
  places = [];
  rising = tt;
  all = λ w. (λ at. absurd (Contains-nil w at), λ here. absurd (never w here));
  edits = none;
}
  where
    never : (w : Path) → DiffersAt s t (Some p) w → ⊥
    never w here =
        let root = at_root_alone s p t w other here in
        (subst (DiffersAt s t (Some p)) root here).differs (ap (λ o. look_of o []) there ∙ look-left s p ∙ ap (left_of (look p [])) (sym (append-nil s)))
one_listing s p t operations other (inr (open_yet, one)) = record {
  places = [] ∷ [];
  rising = (tt, tt);
  all = λ w. (λ at. subst (DiffersAt s t (Some p)) (Contains-one [] w at) at_root, λ here. subst (Contains ([] ∷ [])) (sym (at_root_alone s p t w other here)) (Contains-head [] []));
  edits = one ∙ ap (λ u. (guard_of u t, edit_to u (look_of t []) (part_left u (Some p))) ∷ []) (sym (append-nil s));
}
  where
    at_root : DiffersAt s t (Some p) []
    at_root = record {
      maps = tt;
      patch_maps = tt;
      speaks = is_here p;
      differs = λ same. open_yet (settled s p t other (same ∙ ap (left_of (look p [])) (append-nil s)));
    }

-- ---- under a name

module _ (s : Path) (ds : Members) where
  abbrev Under : Members → Path → Type 0
  Under qs w = DiffersAt s (Some (object ds)) (Some (object qs)) w

  under_name : (k : List ℕ) (w : Path) (qs : Members) → DiffersAt (s ++ k ∷ []) (find k ds) (find k qs) w → Under qs (k ∷ w)
  under_name k w qs here = record {
    maps = (refl, here.maps);
    patch_maps = (refl, here.patch_maps);
    speaks = here.speaks;
    differs = λ same. here.differs (same ∙ ap (left_of (look_of (find k qs) w)) (sym (append_assoc s (k ∷ []) w)));
  }

  inside_name : (k : List ℕ) (w : Path) (qs : Members) → Under qs (k ∷ w) → DiffersAt (s ++ k ∷ []) (find k ds) (find k qs) w
  inside_name k w qs here = record {
    maps = here.maps.1;
    patch_maps = here.patch_maps.1;
    speaks = here.speaks;
    differs = λ same. here.differs (same ∙ ap (left_of (look_of (find k qs) w)) (append_assoc s (k ∷ []) w));
  }

  edit_under : (k : List ℕ) (w : Path) (qs : Members) → edit_at s (Some (object ds)) (Some (object qs)) (k ∷ w) ≡ edit_at (s ++ k ∷ []) (find k ds) (find k qs) w
  edit_under k w qs = ap (λ u. (guard_of u (at_path (find k ds) w), edit_to u (look_of (find k ds) w) (part_left u (at_path (find k qs) w)))) (sym (append_assoc s (k ∷ []) w))

  carried_over : (k : List ℕ) (w : Path) (qs ps : Members) → find k qs ≡ find k ps → Under qs (k ∷ w) → Under ps (k ∷ w)
  carried_over k w qs ps same here = under_name k w ps (subst (λ o. DiffersAt (s ++ k ∷ []) (find k ds) o w) same (inside_name k w qs here))

-- ---- lists of places

map-under : {A : Type 0} (n : List ℕ) (f g : Path → A) → ((w : Path) → f (n ∷ w) ≡ g w) → (ws : List Path) → map f (under_all n ws) ≡ map g ws
map-under n f g same [] = refl
map-under n f g same (w ∷ ws) = ap₂ (λ x xs. x ∷ xs) (same w) (map-under n f g same ws)

map-same : {A : Type 0} (f g : Path → A) (ws : List Path) → ((w : Path) → Contains ws w → f w ≡ g w) → map f ws ≡ map g ws
map-same f g [] same = refl
map-same f g (w ∷ ws) same = ap₂ (λ x xs. x ∷ xs) (same w (Contains-head w ws)) (map-same f g ws (λ v at. same v (Contains-tail w v ws at)))

-- ---- the edits under the first name, and those under the others

module _ (s : Path) (ds : Members) (n : List ℕ) (p : Document) (ps : Members) (below : IsBelow n ps) (first rest : List GuardedEdit)
    (one : Listing (s ++ n ∷ []) (find n ds) (Some p) first) (others : Listing s (Some (object ds)) (Some (object ps)) rest) where
  abbrev whole_map : Members
  whole_map = member n p ps

  abbrev places_of_both : List Path
  places_of_both = under_all n one.places ++ others.places

  first_is : find n whole_map ≡ Some p
  first_is = ap (λ b. cond b (Some p) (find n ps)) (is_name-self n)

  other_is : (k : List ℕ) → is_name k n ≡ false → find k whole_map ≡ find k ps
  other_is k other = ap (λ b. cond b (Some p) (find k ps)) other

  -- a place of the others is under another name
  among_others : (w : Path) → Under s ds ps w → (k : List ℕ) × (u : Path) × (w ≡ k ∷ u) × (name_cmp n k ≡ Less) × (find k whole_map ≡ find k ps)
  among_others [] here = absurd (here.differs refl)
  among_others (k ∷ u) here = (
    k,
    u,
    refl,
    name_above n k u ps below here.speaks,
    cases_same k n (λ same. absurd (here.speaks (ap (λ o. look_of o u) (ap (λ m. find m ps) same ∙ find-below n ps below)))) (λ other. other_is k other),
  )

  from_first : (w : Path) → DiffersAt (s ++ n ∷ []) (find n ds) (Some p) w → Under s ds whole_map (n ∷ w)
  from_first w here = under_name s ds n w whole_map (subst (λ o. DiffersAt (s ++ n ∷ []) (find n ds) o w) (sym first_is) here)

  from_rest : (w : Path) → Under s ds ps w → Under s ds whole_map w
  from_rest w here = let k = among_others w here in subst (Under s ds whole_map) (sym k.2) (carried_over s ds k.0 k.1 ps whole_map (sym k.4) (subst (Under s ds ps) k.2 here))

  rest_above : (w : Path) → Under s ds ps w → BeginsAbove n w
  rest_above w here = let k = among_others w here in (k.0, k.1, k.2, k.3)

  split : (w : Path) → Under s ds whole_map w → ((u : Path) × (n ∷ u ≡ w) × DiffersAt (s ++ n ∷ []) (find n ds) (Some p) u) ⊎ Under s ds ps w
  split [] here = absurd (here.differs refl)
  split (k ∷ u) here =
      cases_same k n
      (λ same.
      let there : Under s ds whole_map (n ∷ u) = subst (λ m. Under s ds whole_map (m ∷ u)) same here in
      inl (u, ap (λ m. m ∷ u) (sym same), subst (λ o. DiffersAt (s ++ n ∷ []) (find n ds) o u) first_is (inside_name s ds n u whole_map there)))
      (λ other. inr (carried_over s ds k u whole_map ps (other_is k other) here))

  abbrev listed : Lists (Under s ds whole_map) places_of_both
  listed =
      lists_both n (DiffersAt (s ++ n ∷ []) (find n ds) (Some p)) (Under s ds ps) (Under s ds whole_map) one.places others.places
      (record { rising = one.rising; all = one.all }) (record { rising = others.rising; all = others.all }) from_first from_rest rest_above split

  same_edit : (w : Path) → Contains others.places w → edit_at s (Some (object ds)) (Some (object whole_map)) w ≡ edit_at s (Some (object ds)) (Some (object ps)) w
  same_edit w at =
      let k = among_others w ((others.all w).0 at) in
      ap (edit_at s (Some (object ds)) (Some (object whole_map))) k.2
      ∙ ap (λ o. (guard_of (s ++ k.0 ∷ k.1) (at_path (find k.0 ds) k.1), edit_to (s ++ k.0 ∷ k.1) (look_of (find k.0 ds) k.1) (part_left (s ++ k.0 ∷ k.1) (at_path o k.1)))) k.4
      ∙ ap (edit_at s (Some (object ds)) (Some (object ps))) (sym k.2)

  both_listings : (operations : List GuardedEdit) → operations ≡ first ++ rest → Listing s (Some (object ds)) (Some (object whole_map)) operations
  both_listings operations is =
      let e = edit_at s (Some (object ds)) (Some (object whole_map)) in
      let under = map-under n e (edit_at (s ++ n ∷ []) (find n ds) (Some p)) (λ w. edit_under s ds n w whole_map ∙ ap (λ o. edit_at (s ++ n ∷ []) (find n ds) o w) first_is) one.places in
      record {
        places = places_of_both;
        rising = listed.rising;
        all = listed.all;
        edits = is ∙ ap₂ (λ xs ys. xs ++ ys) (one.edits ∙ sym under) (others.edits ∙ sym (map-same e (edit_at s (Some (object ds)) (Some (object ps))) others.places same_edit))
            ∙ sym (map-append e (under_all n one.places) others.places);
      }

-- ---- all edits

no_member_edits : (s : Path) (ds : Members) (operations : List GuardedEdit) → operations ≡ [] → Listing s (Some (object ds)) (Some (object no_members)) operations
unfolding IsStrictlySortedBy
no_member_edits s ds operations none = record {
  places = [];
  rising = tt;
  all = λ w. (λ at. absurd (Contains-nil w at), λ here. absurd (never w here));
  edits = none;
}
  where
    never : (w : Path) → DiffersAt s (Some (object ds)) (Some (object no_members)) w → ⊥
    never [] here = here.differs refl
    never (n ∷ w) here = here.speaks refl

mutual
  listing : (p : Document) (s : Path) (t : Option Document) (operations : List GuardedEdit) → IsDocument p → AreEdits s p t operations → Listing s t (Some p) operations
  listing (object ps) s (Some (object ds)) operations good edits = member_listing ps s ds operations good edits
  listing p s t operations good edits = one_listing s p t operations (λ one two. cc) edits

  member_listing : (ps : Members) (s : Path) (ds : Members) (operations : List GuardedEdit) → IsMap ps → AreMemberEdits s ps ds operations → Listing s (Some (object ds)) (Some (object ps)) operations
  member_listing no_members s ds operations good none = no_member_edits s ds operations none
  member_listing (member n p ps) s ds operations good (first, rest, is, here, later) =
      both_listings s ds n p ps good.1 first rest (listing p (s ++ n ∷ []) (find n ds) first good.0 here) (member_listing ps s ds rest good.2 later) operations is

-- the guards and the edits of what was found at the places
module _ (d p : Document) where
  abbrev pub guarded_at : Path → GuardedEdit
  guarded_at w = (guard_of w (part d w), edit d p w)

  guards_found : (ws : List Path) → flat_map (λ (g : GuardedEdit). g.0) (map guarded_at ws) ≡ guards d ws
  guards_found [] = refl
  guards_found (w ∷ ws) = ap (λ os. guard_of w (part d w) ++ os) (guards_found ws)

  edits_found : (ws : List Path) → map (λ (g : GuardedEdit). g.1) (map guarded_at ws) ≡ map (edit d p) ws
  edits_found [] = refl
  edits_found (w ∷ ws) = ap (λ os. edit d p w ∷ os) (edits_found ws)

-- the edit places of d and p, and what was found at each
pub record EditsAt (d p : Document) (found : List GuardedEdit) : Type 0 where
  pub places : List Path
  pub rising : IsStrictlySortedBy path_cmp places
  pub all : (w : Path) → Contains places w ↔ IsEditPlace d p w
  pub is : found ≡ map (guarded_at d p) places

pub walk_finds_places : (d p : Document) (found : List GuardedEdit) → IsDocument p → AreEdits [] p (Some d) found → EditsAt d p found
walk_finds_places d p found good edits =
    let all = listing p [] (Some d) found good edits in
    record {
      places = all.places;
      rising = all.rising;
      all = λ w. (
        λ at. let here = (all.all w).0 at in edit_where_differs d p w (record { maps = here.maps; patch_maps = here.patch_maps; speaks = here.speaks; differs = here.differs }),
        λ place. let here = differs_at_edit d p w place in (all.all w).1 (record { maps = here.maps; patch_maps = here.patch_maps; speaks = here.speaks; differs = here.differs }),
      );
      is = all.edits ∙ map-same (edit_at [] (Some d) (Some p)) (guarded_at d p) all.places (λ w at.
          let here = (all.all w).0 at in
          ap (λ o. (guard_of w (at_path (Some d) w), edit_to w (look d w) (part_left w o))) (sym (part-at_path w p here.patch_maps)) ∙ ap (λ o. (guard_of w o, edit d p w)) (sym (part-at_path w d here.maps)));
    }

-- the tests of what was found there, and then the edits
pub listed_at : (d p : Document) (places : List Path) → flat_map (λ (g : GuardedEdit). g.0) (map (guarded_at d p) places) ++ map (λ (g : GuardedEdit). g.1) (map (guarded_at d p) places) ≡ guarded_edits d p places
listed_at d p places = ap₂ (λ (xs ys : List Operation). xs ++ ys) (guards_found d p places) (edits_found d p places)

pub walk_is_rewriting : (d p : Document) (found : List GuardedEdit) (operations : List Operation) → IsDocument p → AreEdits [] p (Some d) found
    → operations ≡ flat_map (λ (g : GuardedEdit). g.0) found ++ map (λ (g : GuardedEdit). g.1) found → IsRewriting d p operations
walk_is_rewriting d p found operations good edits is =
    let at = walk_finds_places d p found good edits in
    record {
      places = at.places;
      rising = at.rising;
      all = at.all;
      guarded = is ∙ ap (λ (gs : List GuardedEdit). flat_map (λ (g : GuardedEdit). g.0) gs ++ map (λ (g : GuardedEdit). g.1) gs) at.is ∙ listed_at d p at.places;
    }
