use Rattle.std.proofs.Common.{inl, inr, map, sym, string_bytes, ◌∙◌, subst, true≢false}
use Rattle.mp_replica.specs.LogTexts.{IsTextOfFirstPairs}
use Rattle.mp_replica.specs.PatchLog.{seen}
use Rattle.mp_replica.proofs.patch_log_texts.write_first_pairs.Goals as goal
use Rattle.mp_replica.proofs.patch_log_texts.write_first_pairs.Goals.{then-found, else-found}

pub returns : goal.returns
returns c of stored first = record {
  pairs = map seen c.args.found.pairs.items;
  cut = c.args.found.more;
  first = first;
  left_out = c.in_ok-text.field-0.more;
  text = subst (λ l. IsTextOfFirstPairs c.args.limit (map seen l) (string_bytes c.in_ok-text.field-0.text) c.in_ok-text.field-0.more) c.as_slice.ensures.value c.in_ok-text.ensures;
  more_is = elim c.if-found.branch [
    | then-found w ↦ (λ some. inl w.if-found.true, λ one. w.result-is ∙ w.if-found.true)
    | else-found w ↦ (
      λ some. inr (sym w.result-is ∙ some),
      λ one. elim one [ inl cut ↦ absurd (true≢false (sym cut ∙ w.if-found.false)) | inr left ↦ w.result-is ∙ left ],
    )
  ];
}
