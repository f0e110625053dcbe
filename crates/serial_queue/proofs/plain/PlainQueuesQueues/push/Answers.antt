use Rattle.std.proofs.Common.{◌≡◌, ◌∙◌, ℕ, Bool, true, false, ap, eqb, nat_eq, refl, sym}
use Rattle.std.proofs.lemmas.Bool.{eqb-true}
use Rattle.grs_base.specs.Lists.{is_apart}
use Rattle.grs_base.specs.State.{Held, list_at}
use Rattle.serial_queue.specs.Plain.{is_flagged}
use Rattle.serial_queue.proofs.PlainLemmas.{apart-push, none-push}
use Rattle.serial_queue.proofs.plain.PlainQueuesQueues.push.Goals as goal

-- a queue that isn't in use is another than the one that is pushed to
other : (live : ℕ → Bool) (q i : ℕ) → live q ≡ false → live i ≡ true → eqb q i ≡ false
other live q i d l = by_key (eqb q i) (λ e. sym d ∙ ap live (eqb-true q i e) ∙ l)
  where
    by_key : (b : Bool) → (b ≡ true → false ≡ true) → b ≡ false
    by_key true wrong = sym (wrong refl)
    by_key false wrong = refl

pub invariant_of-self : goal.invariant_of-self
invariant_of-self c =
    let hs = c.args.self.now.pushed.items in
    record {
      apart = λ q.
          ap (λ (l : Held ℕ). is_apart (list_at nat_eq l q)) c.push_reserved.ensures.items
          ∙ apart-push hs q c.args.queue c.args.elem (c.args.self.now.apart q) c.requires.absent;
      empty = λ q d.
          ap (λ (l : Held ℕ). list_at nat_eq l q) c.push_reserved.ensures.items
          ∙ none-push hs q c.args.queue c.args.elem (c.args.self.now.empty q d)
          (other (is_flagged c.args.self.now.live.items) q c.args.queue d c.requires.live);
    }
