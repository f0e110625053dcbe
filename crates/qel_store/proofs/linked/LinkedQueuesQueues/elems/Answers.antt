use Rattle.std.proofs.Common.{◌≡◌, ◌∙◌, List, ap, nat_eq, rules, subst, sym, true}
use Rattle.std.specs.Prelude.{Result, Ok, Err, IfOk, OnOk}
use Rattle.grs_base.specs.Lists.{is_apart}
use Rattle.grs_base.specs.State.{list_at}
use Rattle.grs_base.specs.declared.resource.Elem.{Elem}
use Rattle.qel_store.specs.Items.{held_of}
use Rattle.qel_store.proofs.TieLemmas.{list_at-held}
use Rattle.qel_store.proofs.linked.LinkedQueuesQueues.elems.Goals as goal

on_ok : {A B : Type 0} (r : Result A B) (P : Type 0) → P → OnOk r P
on_ok (Ok x) P p = p
on_ok (Err e) P p = search rules

pub returns-clause-elems : goal.returns-clause-elems
returns-clause-elems c =
    subst (λ (l : List Elem). IfOk c.all_in.result (λ elems. elems ≡ l))
    (sym (list_at-held c.args.self.now.elements.items c.args.queue)) c.all_in.ensures

pub returns-clause-apart : goal.returns-clause-apart
returns-clause-apart c =
    on_ok c.all_in.result (is_apart (list_at nat_eq (held_of c.args.self.now.elements.items) c.args.queue) ≡ true)
    (ap is_apart (list_at-held c.args.self.now.elements.items c.args.queue) ∙ c.args.self.now.queues.apart c.args.queue)
