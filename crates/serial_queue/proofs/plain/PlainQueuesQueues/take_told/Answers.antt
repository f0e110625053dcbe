use Rattle.std.proofs.Common.{◌∙◌, ℕ, ap, nat_eq, not}
use Rattle.grs_base.specs.Lists.{is_apart}
use Rattle.grs_base.specs.State.{Held, is_at, list_at}
use Rattle.grs_base.specs.declared.resource.Elem.{Elem}
use Rattle.serial_queue.proofs.PlainLemmas.{apart-filter, none-filter}
use Rattle.serial_queue.proofs.plain.PlainQueuesQueues.take_told.Goals as goal

pub invariant_of-self : goal.invariant_of-self
invariant_of-self c =
    let hs = c.args.self.now.pushed.items in
    let stays = λ (x : ℕ × Elem). not (is_at nat_eq c.args.queue c.args.task x) in
    record {
      apart = λ q.
          ap (λ (l : Held ℕ). is_apart (list_at nat_eq l q)) c.take_out.ensures
          ∙ apart-filter stays hs q (c.args.self.now.apart q);
      empty = λ q d.
          ap (λ (l : Held ℕ). list_at nat_eq l q) c.take_out.ensures
          ∙ none-filter stays hs q (c.args.self.now.empty q d);
    }
