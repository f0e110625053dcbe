use Rattle.std.proofs.Common.{◌≡◌, ◌≤◌, ℕ, List, true, get_or, drop, length, refl, sym, ◌∙◌, subst, rules, arith}
use Rattle.deck_scan.specs.Bytes.{is_allowed}
use Rattle.deck_scan.proofs.Pieces.{rest_is}
use Rattle.deck_scan.proofs.FirstWord.{over_close, over_line, over_byte}
use Rattle.deck_scan.proofs.gaps.pass_inside.Goals as goal
use Rattle.deck_scan.proofs.gaps.pass_inside.Goals.{then-this-lt2+in_default-1, else-this-lt2+in-42+in_default-1}
use Rattle.deck_scan.proofs.gaps.pass_inside.Goals.{else-this-lt2+in_default-1}

pub returns-in-42-clause-over : goal.returns-in-42-clause-over
returns-in-42-clause-over c =
    over_close c.args.from _ c.requires.inside (search (rules, arith)) (search rules) (search rules) refl refl
    (rest_is 2 c.args.from.rest.now)

pub returns-in-10-clause-over : goal.returns-in-10-clause-over
returns-in-10-clause-over c =
    over_line c.args.from _ c.requires.inside (search (rules, arith)) (search rules) refl refl
    (rest_is 1 c.args.from.rest.now)

pub returns-in-len1-up-clause-over : goal.returns-in-len1-up-clause-over
returns-in-len1-up-clause-over c =
    let text = c.args.from.rest.now in
    let pair : 2 ≤ length text → get_or text 0 0 ≡ 42 → get_or text 1 0 ≡ 47
    → ⊥ = λ l first second.
    elim c.in-len1-up-1.branch [
      | then-this-lt2+in_default-1 w ↦ search (rules, arith)
      | else-this-lt2+in-42+in_default-1 w ↦ search (rules, arith)
      | else-this-lt2+in_default-1 w ↦ search (rules, arith)
    ] in
    let end : get_or text 0 0 ≡ 10
    → ⊥ = λ first.
    elim c.in-len1-up-1.branch [
      | then-this-lt2+in_default-1 w ↦ search (rules, arith)
      | else-this-lt2+in-42+in_default-1 w ↦ search (rules, arith)
      | else-this-lt2+in_default-1 w ↦ search (rules, arith)
    ] in
    let ok : is_allowed (get_or text 0 0) (drop 1 text) ≡ true =
    subst (λ (t : List ℕ). is_allowed (get_or text 0 0) t ≡ true) (rest_is 1 text)
    (sym c.is_allowed_byte.ensures ∙ c.if-is_allowed_byte.true) in
    over_byte c.args.from _ c.requires.inside (search (rules, arith)) pair end ok refl refl (rest_is 1 text)
