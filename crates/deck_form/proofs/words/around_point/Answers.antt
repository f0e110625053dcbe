use Rattle.std.proofs.Common.{[], ◌∷◌, Option, ℕ, sym, subst}
use Rattle.bstr.specs.Text.{SplitsOnce}
use Rattle.deck_form.proofs.Points.{first_point}
use Rattle.deck_form.proofs.words.around_point.Goals as goal

pub returns : goal.returns
returns c =
    subst (λ (r : Option ℕ). SplitsOnce c.args.w.now (46 ∷ []) r c.split_once_str.result)
    (sym (first_point c.args.w.now)) c.split_once_str.ensures
