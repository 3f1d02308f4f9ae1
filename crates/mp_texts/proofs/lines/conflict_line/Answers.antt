use Rattle.std.proofs.Common.{◌≡◌, ◌∷◌, ◌++◌, ◌∙◌, [], List, ℕ, ap, append_assoc, codes, string_bytes, sym}
use Rattle.mp_tree.proofs.Lists.{empty_from_length}
use Rattle.mp_texts.specs.Lines.{and_rest, at_places, pointers_text, which_patches}
use Rattle.mp_texts.proofs.lines.conflict_line.Goals as goal
use Rattle.mp_texts.proofs.lines.conflict_line.Goals.{in-Some+in_ok-push_pointers-in-Some+in_ok-push_rest-in-Some, in-None+in_ok-push_count-in-None}

-- texts that were joined in another order
regroup : (line at places rest : List ℕ) → ((line ++ at) ++ places) ++ rest ≡ line ++ ((at ++ places) ++ rest)
regroup line at places rest = ap (λ t. t ++ rest) (append_assoc line at places) ∙ append_assoc line (at ++ places) rest

pub returns : goal.returns
returns c =
    let line = string_bytes c.in_ok-line.line in
    let head = codes "conflict: " ++ which_patches c.args.numbers in
    let rest = c.args.rest in
    elim c.match-split_first.branch [
      | in-Some+in_ok-push_pointers-in-Some+in_ok-push_rest-in-Some w ↦
          let all = w.in-Some.first.now ∷ w.in-Some.others.now in
          let places = pointers_text all in
          let written = w.in_ok-push_rest-in-Some.ensures ∙ ap (λ t. t ++ and_rest rest) w.in_ok-push_pointers-in-Some.ensures ∙ regroup line (codes " at ") places (and_rest rest) in
          ap string_bytes w.line-is ∙ written ∙ ap (λ t. t ++ at_places all rest) c.in_ok-line.ensures ∙ ap (λ ws. head ++ at_places ws rest) (sym w.in-Some.ensures.cases.0)
      | in-None+in_ok-push_count-in-None w ↦
          let none = empty_from_length c.args.places.now w.in-None.ensures.cases in
          ap string_bytes w.line-is ∙ w.in_ok-push_count-in-None.ensures ∙ ap (λ t. t ++ at_places [] rest) c.in_ok-line.ensures ∙ ap (λ ws. head ++ at_places ws rest) (sym none)
    ]
