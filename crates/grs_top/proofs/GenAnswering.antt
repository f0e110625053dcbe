-- What stands after the line of a number was written, or wasn't.
use Rattle.std.proofs.Common.{◌≡◌, ◌⊎◌, ℕ, Bool, true, false, List, Option, refl, sym, ◌∙◌, subst, inl, inr}
use Rattle.std.specs.Prelude.{◌==◌, if◌then◌else◌}
use Rattle.std.specs.Io.KnownBytes.{Appends}
use Rattle.grs_gen.specs.Generated.{deck_of}
use Rattle.grs_io.specs.Moved.{AppendsPart}
use Rattle.grs_top.specs.declared.generate.Figures.{Figures}
use Rattle.grs_top.specs.declared.status.Status.{Status}
use Rattle.grs_top.specs.declared.status.Status.TheVariants as statuses
use Rattle.grs_top.specs.Answers.{Writes}
use Rattle.grs_top.specs.Generated.{figures_of, status_of, gen_text, gen_ending, WritesLine, AnswersGen}

either : (b : Bool)
    → ((if b then statuses.Done else statuses.Waits) ≡ statuses.Done)
    ⊎ ((if b then statuses.Done else statuses.Waits) ≡ statuses.Waits)
either true = inl refl
either false = inr refl

ends_either : (n : ℕ) → (gen_ending n ≡ statuses.Done) ⊎ (gen_ending n ≡ statuses.Waits)
unfolding gen_ending
ends_either n = either ((figures_of (deck_of n)).ended == (figures_of (deck_of n)).tasks)

whole : (n : ℕ) (old new : Option (List ℕ)) (f g : ℕ) (s : Status) → Appends old new (gen_text n) → g ≡ f
    → s ≡ gen_ending n → AnswersGen n old new f g s
whole n old new f g s written failed ends = go (ends_either n)
  where
    go : (gen_ending n ≡ statuses.Done) ⊎ (gen_ending n ≡ statuses.Waits) → AnswersGen n old new f g s
    go (inl done) =
        subst (AnswersGen n old new f g) (sym (ends ∙ done))
        (record { written = written; failed = failed; ends = sym done })
    go (inr waits) =
        subst (AnswersGen n old new f g) (sym (ends ∙ waits))
        (record { written = written; failed = failed; ends = sym waits })

pub answers_gen : (n : ℕ) (old new : Option (List ℕ)) (f g : ℕ) (out : List ℕ) (s result : Status)
    → out ≡ gen_text n → s ≡ gen_ending n → Writes old new f g out s result → AnswersGen n old new f g result
answers_gen n old new f g out s result text ends (inl w) =
    whole n old new f g result (subst (Appends old new) text w.0) w.1 (w.2 ∙ ends)
answers_gen n old new f g out s result text ends (inr p) =
    subst (AnswersGen n old new f g) (sym p.2) (record { written = subst (AppendsPart old new) text p.0; failed = p.1 })
