-- What an event of one system adds to the run, and where the system stands afterwards.
use Rattle.grs_world.proofs.Common.{[], ◌++◌, ◌∙◌, ◌∷◌, ◌≡◌, all-behind, AllAsk, ap, append-nil, append_assoc}
use Rattle.grs_world.proofs.Common.{asks-behind, Bodies, Deck, drop, filter-cons_left, Fixed, goes_round, history}
use Rattle.grs_world.proofs.Common.{IsHistory, List, list_all, lists, made_item, map, NodeState, own_requests, put_in}
use Rattle.grs_world.proofs.Common.{read_entries, refl, RingEntry, rounds, RunItem, Step, still-told, subst, sym, SysId}
use Rattle.grs_world.proofs.Common.{take, take-append-drop, told-news, ToldBy, ToldNews, ℕ}
use Rattle.grs_wire.specs.declared.request.Fixed.TheVariants.{Asked}
use Rattle.grs_world.proofs.run.Growing.{fixeds, Grows, same, more, grows-history, grows-rounds, asks-rounds}
use Rattle.grs_world.proofs.run.Putting.{PutIn, put-all}
use Rattle.grs_world.proofs.run.Reading.{read_all, read-entries, all-rounds, ReadTo, reading}
use Rattle.grs_world.proofs.system.AtNode.{Seen, QuietStep, keeps, fixes}
use Rattle.grs_world.proofs.system.Puts.{put, put_told}

-- What an event of a system comes to: what it fixed, of which this went with the message; where the system stands; and
-- what was told.
pub record Outcome (deck : Deck) (c : SysId) (P : List RunItem) (n : NodeState) (before' later' : List RunItem)
    (out : List Fixed) (step : Step) :
    Type 0 where
  pub items : List RunItem
  pub new : List RunItem
  pub grows : Grows deck c P step.fixed items new
  pub message : fixeds new ≡ out
  pub whole : rounds items ≡ before' ++ later'
  pub seen : Seen deck c.0 items before' later' (own_requests c.0 later') step.node
  pub news : ToldNews deck c.0 (history items) n.tasks.told step.node.tasks.told

module _ (deck : Deck) (c : SysId) (P before later : List RunItem) (right : IsHistory deck P)
    (whole : rounds P ≡ before ++ later) (n : NodeState) where
  -- a task goes on by itself
  pub quiet_outcome : (step : Step) → QuietStep deck c.0 c P before later (own_requests c.0 later) n step
      → Outcome deck c P n before later [] step
  quiet_outcome step (keeps none seen told) = record {
    items = P;
    new = [];
    grows = subst (λ fs. Grows deck c P fs P []) (sym none) same;
    message = refl;
    whole = whole;
    seen = seen;
    news = told-news told;
  }
  quiet_outcome step (fixes f one alone may seen told) =
      let x : RunItem = made_item c P f in
      let nothing : rounds (x ∷ []) ≡ [] = filter-cons_left (λ z. goes_round z.fixed) x [] alone in
      let grows : Grows deck c P (f ∷ []) (P ++ x ∷ []) (rounds (x ∷ [])) = more [] P [] f same may in
      record {
        items = P ++ x ∷ [];
        new = rounds (x ∷ []);
        grows = subst (λ fs. Grows deck c P fs (P ++ x ∷ []) (rounds (x ∷ []))) (sym one) grows;
        message = ap fixeds nothing;
        whole = grows-rounds grows ∙ ap (λ zs. rounds P ++ zs) nothing ∙ append-nil (rounds P) ∙ whole;
        seen = seen;
        news = told-news told;
      }

  -- nothing happens to the system
  pub still_outcome : (m : NodeState) → m.tasks.told ≡ n.tasks.told
      → Seen deck c.0 P before later (own_requests c.0 later) m
      → Outcome deck c P n before later [] (record { node = m; fixed = [] })
  still_outcome m told seen = record {
    items = P;
    new = [];
    grows = same;
    message = refl;
    whole = whole;
    seen = seen;
    news = still-told told;
  }

  -- It has its Turn: its requests are put in, and then it processes what is due.
  module _ (k : ℕ) (seen : Seen deck c.0 P before later (own_requests c.0 later) n) (es : List RingEntry)
      (given : Bodies (fixeds later) es) where
    pub puts : PutIn deck c P before later right whole n (take k n.outbox)
    puts =
        put-all deck c P before later right whole n seen (take k n.outbox) (drop k n.outbox)
        (sym (take-append-drop k n.outbox))

    due : rounds puts.items ≡ before ++ (later ++ puts.new)
    due = grows-rounds puts.grows ∙ ap (λ zs. zs ++ puts.new) whole ∙ append_assoc before later puts.new

    reads : ReadTo deck c.0 puts.items (grows-history right puts.grows) puts.new (before ++ later) n (read_all n later)
    reads = reading deck c.0 puts.items (grows-history right puts.grows) puts.new later before n due puts.seen

    node_is : read_entries deck n es ≡ read_all n later
    node_is =
        read-entries deck n later es
        (asks-behind deck before later (subst (AllAsk deck) whole (asks-rounds deck P right.asks)))
        (all-behind (λ x. goes_round x.fixed) before later
        (ap (list_all (λ x. goes_round x.fixed)) (sym whole) ∙ all-rounds P))
        given

    pub turn_told :
        ToldBy deck c.0 n.outbox (history puts.items) n.tasks.told (put_in (read_entries deck n es) k).node.tasks.told
    turn_told =
        subst (λ (l : NodeState).
        ToldBy deck c.0 n.outbox (history puts.items) n.tasks.told (put_in l k).node.tasks.told)
        (sym node_is)
        (subst (λ T. ToldBy deck c.0 n.outbox (history puts.items) n.tasks.told T) (sym (put_told (read_all n later) k))
        reads.told)

    pub turn_outcome :
        Outcome deck c P n (rounds P) puts.new (map Asked (take k n.outbox)) (put_in (read_entries deck n es) k)
    unfolding put_in
    turn_outcome =
        let m = read_all n later in
        let taken : take k m.outbox ≡ take k n.outbox = ap (take k) reads.outbox in
        subst (λ l. Outcome deck c P n (rounds P) puts.new (map Asked (take k n.outbox)) (put_in l k)) (sym node_is)
        (record {
          items = puts.items;
          new = puts.new;
          grows = subst (λ qs. Grows deck c P (map Asked qs) puts.items puts.new) (sym taken) puts.grows;
          message = puts.is;
          whole = grows-rounds puts.grows;
          seen =
              subst (λ zs. Seen deck c.0 puts.items zs puts.new (own_requests c.0 puts.new) (put_in m k).node)
              (sym whole)
              (subst (λ qs. Seen deck c.0 puts.items (before ++ later) puts.new qs (put_in m k).node)
              (taken ∙ sym puts.asked) (put deck c.0 puts.items (before ++ later) puts.new [] m k reads.seen));
          news =
              told-news (subst (λ T. ToldBy deck c.0 n.outbox (history puts.items) n.tasks.told T) (sym (put_told m k))
              reads.told);
        })

-- A system that processes all that is due has the table of all that went with the message.
pub turn_table : (deck : Deck) (c : SysId) (P before later : List RunItem) → IsHistory deck P
    → rounds P ≡ before ++ later → (n : NodeState) → Seen deck c.0 P before later (own_requests c.0 later) n
    → (es : List RingEntry) → Bodies (fixeds later) es → (read_entries deck n es).shared ≡ lists (rounds P)
unfolding put_in
turn_table deck c P before later right whole n seen es given =
    (turn_outcome deck c P before later right whole n 0 seen es given).seen.shared
