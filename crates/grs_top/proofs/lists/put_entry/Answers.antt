use Rattle.std.proofs.Common.{◌≡◌, ◌++◌, ℕ, List, ap, ◌∙◌, append_assoc}
use Rattle.grs_top.specs.Lists.{entry_text}
use Rattle.grs_top.proofs.lists.put_entry.Goals as goal

joined : (out mid new text end : List ℕ) → mid ≡ out ++ text → new ≡ mid ++ end → new ≡ out ++ (text ++ end)
joined out mid new text end first then = then ∙ ap (λ (x : List ℕ). x ++ end) first ∙ append_assoc out text end

pub returns : goal.returns
unfolding entry_text
returns c = joined _ _ _ _ _ c.in_ok-print_rnldef.ensures.ok c.in_ok-push.ensures.ok
