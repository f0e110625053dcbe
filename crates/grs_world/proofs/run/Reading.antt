-- A system processes what the message gave it.
use Rattle.grs_world.proofs.Common.{[], ◌&&◌, ◌++◌, ◌∙◌, ◌∷◌, ◌≡◌, a_look, a_removal, all-middle, AllAsk, an_ask}
use Rattle.grs_world.proofs.Common.{and_parts, ap, append-nil, append_assoc, asks-behind, AsksOrRemoves, Bodies, Bool}
use Rattle.grs_world.proofs.Common.{cond, Deck, Deq, Enq, false, Fixed, goes_round, history, is_for_all, IsAsk}
use Rattle.grs_world.proofs.Common.{IsHistory, List, list_all, LocalLook, Look, no_truth, NodeState, own_asked}
use Rattle.grs_world.proofs.Common.{own_requests, process, process_entry, Purged, read_entries, read_entry, refl}
use Rattle.grs_world.proofs.Common.{Release, Req, Request, res_wanted, RingBody, RingEntry, rounds, RunItem, Some}
use Rattle.grs_world.proofs.Common.{subst, sym, SysId, ToldBy, true, Want, wants_round, with_side, ℕ}
use Rattle.rsa_message.proofs.Stands.{none, more, body_of}
use Rattle.grs_wire.specs.declared.request.Fixed.TheVariants.{Asked}
use Rattle.grs_node.specs.Node.{process_removal}
use Rattle.ring_mode.specs.Ring.{Side}
use Rattle.grs_world.proofs.run.Growing.{fixeds, asks-rounds}
use Rattle.grs_known.proofs.told.News.{told-then, told-fewer}
use Rattle.grs_known.proofs.system.Askers.{among-back}
use Rattle.grs_world.proofs.system.AtNode.{Seen}
use Rattle.grs_world.proofs.system.Processed.{after_read, Reads, read}
use Rattle.grs_world.proofs.system.Removed.{Frees, read-removal}
use Rattle.grs_known.proofs.system.Says as told

-- ---- what the node does
abbrev pub read_item : NodeState → Fixed → NodeState
read_item n (Asked q) = after_read n q
read_item n (LocalLook t f) = n
read_item n (Purged target) = process_removal n target

abbrev pub read_all : NodeState → List RunItem → NodeState
read_all n [] = n
read_all n (x ∷ xs) = read_all (read_item n x.fixed) xs

-- what goes with the message is for the whole complex
for-all : (w : Want) → wants_round w ≡ true → is_for_all (res_wanted w) ≡ true
for-all (Enq r c ret full) h = h
for-all (Deq r have) h = h
for-all (Release r) h = h
for-all (Look first count f) h = refl

read-one : (deck : Deck) (n : NodeState) (x : RunItem) (a : IsAsk deck x) → goes_round x.fixed ≡ true
    → (e : RingEntry) (es : List RingEntry) → body_of x.fixed ≡ Some e.body
    → read_entries deck n (e ∷ es) ≡ read_entries deck (read_item n x.fixed) es
unfolding read_entries process_entry
read-one deck n x a round e es body =
    let q : Req = a.req in
    let side : Side = record { tasks = n.tasks; shared = n.shared } in
    let is : e.body ≡ Request q = some_body (sym body ∙ ap body_of a.asked) in
    let now : process_entry side q ≡ process side q =
    ap (λ b. cond b (process side q) side) (for-all q.want (ap goes_round (sym a.asked) ∙ round)) in
    ap (λ b. read_entries deck (read_entry deck n b) es) is
    ∙ ap (λ b. read_entries deck (cond b (with_side n (process_entry side q)) n) es) a.known
    ∙ ap (λ m. read_entries deck (with_side n m) es) now
    ∙ ap (λ f. read_entries deck (read_item n f) es) (sym a.asked)
  where
    some_body : {b d : RingBody} → Some b ≡ Some d → b ≡ d
    some_body f = cc

-- a removal
read-away : (deck : Deck) (n : NodeState) (x : RunItem) (target : SysId) → x.fixed ≡ Purged target
    → (e : RingEntry) (es : List RingEntry) → body_of x.fixed ≡ Some e.body
    → read_entries deck n (e ∷ es) ≡ read_entries deck (read_item n x.fixed) es
unfolding read_entries
read-away deck n x target purged e es body =
    ap (λ b. read_entries deck (read_entry deck n b) es) (some_body (sym body ∙ ap body_of purged))
    ∙ ap (λ f. read_entries deck (read_item n f) es) (sym purged)
  where
    some_body : {b d : RingBody} → Some b ≡ Some d → b ≡ d
    some_body f = cc

pub read-entries : (deck : Deck) (n : NodeState) (xs : List RunItem) (es : List RingEntry) → AllAsk deck xs
    → list_all (λ x. goes_round x.fixed) xs ≡ true → Bodies (fixeds xs) es → read_entries deck n es ≡ read_all n xs
unfolding read_entries
read-entries deck n [] [] a round none = refl
read-entries deck n [] (_ ∷ _) a round b = elim b [ ]
read-entries deck n (x ∷ xs) [] a round b = elim b [ ]
read-entries deck n (x ∷ xs) (e ∷ es) a round (more body b) =
    first a.0 ∙ read-entries deck (read_item n x.fixed) xs es a.1 (and_parts _ _ round).1 b
  where
    went : goes_round x.fixed ≡ true
    went = (and_parts (goes_round x.fixed) (list_all (λ y. goes_round y.fixed) xs) round).0

    first : AsksOrRemoves deck x → read_entries deck n (e ∷ es) ≡ read_entries deck (read_item n x.fixed) es
    first (an_ask i) = read-one deck n x i went e es body
    first (a_look t f looks known) = no_truth (goes_round x.fixed) went (ap goes_round looks)
    first (a_removal target purged) = read-away deck n x target purged e es body

-- ---- what is due is processed, item by item
pub all-rounds : (xs : List RunItem) → list_all (λ x. goes_round x.fixed) (rounds xs) ≡ true
all-rounds [] = refl
all-rounds (x ∷ xs) = go (goes_round x.fixed) refl (all-rounds xs)
  where
    go : (b : Bool) → goes_round x.fixed ≡ b → list_all (λ y. goes_round y.fixed) (rounds xs) ≡ true
        → list_all (λ y. goes_round y.fixed) (cond b (x ∷ rounds xs) (rounds xs)) ≡ true
    go true e ih = ap (λ b. b && list_all (λ y. goes_round y.fixed) (rounds xs)) e ∙ ih
    go false e ih = ih

module _ (deck : Deck) (s : ℕ) (P : List RunItem) (right : IsHistory deck P) (extra : List RunItem) where
  -- A system that has processed all but the last of what is due, on the way from n to m.
  pub record ReadTo (before : List RunItem) (n m : NodeState) : Type 0 where
    pub seen : Seen deck s P before extra [] m
    -- who was told an answer has no request that waits to be put in
    pub told : ToldBy deck s n.outbox (history P) n.tasks.told m.tasks.told
    pub outbox : m.outbox ≡ n.outbox

  pub reading : (later before : List RunItem) (n : NodeState) → rounds P ≡ before ++ (later ++ extra)
      → Seen deck s P before (later ++ extra) (own_requests s later) n → ReadTo (before ++ later) n (read_all n later)
  reading [] before n whole seen = record {
    seen = subst (λ zs. Seen deck s P zs extra [] n) (sym (append-nil before)) seen;
    told = told.none;
    outbox = refl;
  }
  reading (x ∷ later) before n whole seen =
      let rest : rounds P ≡ (before ++ x ∷ []) ++ (later ++ extra) =
      whole ∙ sym (append_assoc before (x ∷ []) (later ++ extra)) in
      by_item (λ m now. reading later (before ++ x ∷ []) m rest now)
      (asks-behind deck before (x ∷ later ++ extra) (subst (AllAsk deck) whole (asks-rounds deck P right.asks))).0
    where
      out : List Req
      out = own_requests s later

      -- how what is left is processed
      More : Type 0
      More =
          (m : NodeState) → Seen deck s P (before ++ x ∷ []) (later ++ extra) (own_requests s later) m
          → ReadTo ((before ++ x ∷ []) ++ later) m (read_all m later)

      then : More → (m : NodeState) → Seen deck s P (before ++ x ∷ []) (later ++ extra) (own_requests s later) m
          → ToldBy deck s n.outbox (history P) n.tasks.told m.tasks.told → m.outbox ≡ n.outbox
          → ReadTo (before ++ x ∷ later) n (read_all m later)
      then goes m now told box =
          let on = goes m now in
          record {
            seen =
                subst (λ zs. Seen deck s P zs extra [] (read_all m later)) (append_assoc before (x ∷ []) later) on.seen;
            told =
                told-then told
                (subst (λ qs. ToldBy deck s qs (history P) m.tasks.told (read_all m later).tasks.told) box on.told);
            outbox = on.outbox ∙ box;
          }

      went : goes_round x.fixed ≡ true
      went =
          all-middle (λ y. goes_round y.fixed) before x (later ++ extra)
          (ap (list_all (λ y. goes_round y.fixed)) (sym whole) ∙ all-rounds P)

      by_item : More → AsksOrRemoves deck x → ReadTo (before ++ x ∷ later) n (read_all (read_item n x.fixed) later)
      by_item goes (a_look t f looks known) = no_truth (goes_round x.fixed) went (ap goes_round looks)
      by_item goes (an_ask a) =
          let reads : Reads deck s P before x (later ++ extra) out n a.req =
          read deck s P before right x (later ++ extra) whole n out a (ap goes_round (sym a.asked) ∙ went)
          (subst (λ f. Seen deck s P before (x ∷ later ++ extra) (own_asked s f ++ out) n) a.asked seen) in
          subst (λ f. ReadTo (before ++ x ∷ later) n (read_all (read_item n f) later)) (sym a.asked)
          (then goes (after_read n a.req) reads.seen (told-fewer (λ t. among-back t out n.outbox) reads.told) refl)
      by_item goes (a_removal target purged) =
          let frees : Frees deck s P before x (later ++ extra) out n target =
          read-removal deck s P before right x (later ++ extra) whole n out target purged
          (subst (λ f. Seen deck s P before (x ∷ later ++ extra) (own_asked s f ++ out) n) purged seen) in
          subst (λ f. ReadTo (before ++ x ∷ later) n (read_all (read_item n f) later)) (sym purged)
          (then goes (process_removal n target) frees.seen (told-fewer (λ t. among-back t out n.outbox) frees.told)
          refl)
