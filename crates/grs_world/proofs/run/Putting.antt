-- Requests of a system's outbox are put into the message.
use Rattle.grs_world.proofs.Common.{[], ◌++◌, ◌∙◌, ◌∷◌, ◌≡◌, all-behind, AllAsk, ap, append-nil, append_assoc, askers}
use Rattle.grs_world.proofs.Common.{asks-behind, cond, Deck, eq-eqb, false, filter-cons_kept, goes_round, is_among}
use Rattle.grs_world.proofs.Common.{IsHistory, List, list_all, made_item, map, map-append, mine, NodeState}
use Rattle.grs_world.proofs.Common.{own_requests, refl, Req, rounds, RunItem, stand_apart, subst, sym, SysId, true}
use Rattle.grs_wire.specs.declared.request.Fixed.TheVariants.{Asked}
use Rattle.grs_world.proofs.run.Growing.{fixeds, Grows, same, more, grows-history, grows-rounds, own_requests-append}
use Rattle.grs_world.proofs.run.Growing.{asks-rounds, idle-asks}
use Rattle.grs_world.proofs.run.Reading.{all-rounds}
use Rattle.grs_known.proofs.system.Askers.{apart-before, askers-append}
use Rattle.grs_world.proofs.system.AtNode.{Seen, own_ask}
use Rattle.grs_world.proofs.system.Puts.{MayPut, may_home, may_put, seen-put}

module _ (deck : Deck) (c : SysId) (P before later : List RunItem) (right : IsHistory deck P)
    (whole : rounds P ≡ before ++ later) (n : NodeState) where
  -- What is put in: each request is an item at the end.
  pub record PutIn (qs : List Req) : Type 0 where
    pub items : List RunItem
    pub new : List RunItem
    pub grows : Grows deck c P (map Asked qs) items new
    pub seen : Seen deck c.0 items before (later ++ new) (own_requests c.0 later) n
    pub asked : own_requests c.0 new ≡ qs
    pub is : fixeds new ≡ map Asked qs

  put_next : (qs : List Req) (q : Req) (rest : List Req) → n.outbox ≡ qs ++ q ∷ rest → PutIn qs → PutIn (qs ++ q ∷ [])
  put_next qs q rest box p =
      let out = own_requests c.0 later in
      let right' : IsHistory deck p.items = grows-history right p.grows in
      let home : q.task.system.0 ≡ c.0 = may_home deck c.0 p.items before (later ++ p.new) out n p.seen qs q rest box in
      let due : own_requests c.0 (later ++ p.new) ≡ out ++ qs =
      own_requests-append c.0 later p.new ∙ ap (λ z. out ++ z) p.asked in
      let asks : AllAsk deck (later ++ p.new) =
      asks-behind deck before (later ++ p.new) (subst (AllAsk deck)
      (grows-rounds p.grows ∙ ap (λ z. z ++ p.new) whole ∙ append_assoc before later p.new)
      (asks-rounds deck p.items right'.asks)) in
      let alone : is_among q.task (askers (out ++ qs)) ≡ false =
      apart-before (askers (out ++ qs)) q.task (askers rest)
      (ap stand_apart (sym (askers-append (out ++ qs) (q ∷ rest))
      ∙ ap askers (append_assoc out qs (q ∷ rest) ∙ ap (λ z. out ++ z) (sym box)))
      ∙ p.seen.apart) in
      let went : list_all (λ x. goes_round x.fixed) (later ++ p.new) ≡ true =
      all-behind (λ x. goes_round x.fixed) before (later ++ p.new)
      (ap (list_all (λ x. goes_round x.fixed))
      (sym (grows-rounds p.grows ∙ ap (λ z. z ++ p.new) whole ∙ append_assoc before later p.new))
      ∙ all-rounds p.items) in
      let idle : mine q.task (later ++ p.new) ≡ [] =
      idle-asks deck c.0 q.task home (later ++ p.new) asks went (ap (λ z. is_among q.task (askers z)) due ∙ alone) in
      let m : MayPut deck p.items q =
      may_put deck c.0 p.items before (later ++ p.new) out n p.seen qs q rest box right' idle in
      let x : RunItem = made_item c p.items (Asked q) in
      let one : rounds (x ∷ []) ≡ x ∷ [] = filter-cons_kept (λ z. goes_round z.fixed) x [] m.round in
      record {
        items = p.items ++ x ∷ [];
        new = p.new ++ rounds (x ∷ []);
        grows =
            subst (λ fs. Grows deck c P fs (p.items ++ x ∷ []) (p.new ++ rounds (x ∷ [])))
            (sym (map-append Asked qs (q ∷ []))) (more (map Asked qs) p.items p.new (Asked q) p.grows
            (own_ask q home (m.follow c)));
        seen =
            subst (λ zs. Seen deck c.0 (p.items ++ x ∷ []) before zs out n) (append_assoc later p.new (rounds (x ∷ [])))
            (seen-put deck c.0 p.items before (later ++ p.new) out n p.seen qs q rest box right' idle c (m.follow c)
            m.round);
        asked =
            own_requests-append c.0 p.new (rounds (x ∷ []))
            ∙ ap (λ z. z ++ own_requests c.0 (rounds (x ∷ []))) p.asked
            ∙ ap (λ zs. qs ++ own_requests c.0 zs) one
            ∙ ap (λ b. qs ++ (cond b (q ∷ []) [] ++ [])) (eq-eqb q.task.system.0 c.0 home);
        is =
            map-append (λ (z : RunItem). z.fixed) p.new (rounds (x ∷ []))
            ∙ ap (λ z. z ++ fixeds (rounds (x ∷ []))) p.is
            ∙ ap (λ zs. map Asked qs ++ fixeds zs) one
            ∙ sym (map-append Asked qs (q ∷ []));
      }

  put_more : (qs ps rest : List Req) → n.outbox ≡ qs ++ (ps ++ rest) → PutIn qs → PutIn (qs ++ ps)
  put_more qs [] rest box p = subst PutIn (sym (append-nil qs)) p
  put_more qs (q ∷ ps) rest box p =
      subst PutIn (append_assoc qs (q ∷ []) ps) (put_more (qs ++ q ∷ []) ps rest
      (box ∙ sym (append_assoc qs (q ∷ []) (ps ++ rest))) (put_next qs q (ps ++ rest) box p))

  pub put-all : Seen deck c.0 P before later (own_requests c.0 later) n → (qs rest : List Req) → n.outbox ≡ qs ++ rest
      → PutIn qs
  put-all seen qs rest box = put_more [] qs rest box (record {
    items = P;
    new = [];
    grows = same;
    seen = subst (λ zs. Seen deck c.0 P before zs (own_requests c.0 later) n) (sym (append-nil later)) seen;
    asked = refl;
    is = refl;
  })
