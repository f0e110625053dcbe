-- The part that a system has in star mode keeps lists, interest and whom it owes its part to of each lock entry of the
-- deck, in every run.
use Rattle.grs_world.proofs.Common.{[], ◌==◌, ◌∙◌, ◌∷◌, ◌≡◌, after_request, after_telling, awaited, awaiting, begun}
use Rattle.grs_world.proofs.Common.{Bool, by_test, change_to_star, Choice, cond, decide_own, Deck, desk_told}
use Rattle.grs_world.proofs.Common.{entry_of_res, entry_wanted, Event, false, filter, first_node, first_part}
use Rattle.grs_world.proofs.Common.{fixing_none, is_for_deck, is_item_of, is_news, is_none, is_of_deck, is_some}
use Rattle.grs_world.proofs.Common.{known_from, left_at, length, length-map, length-replicate, length-set, lines_of}
use Rattle.grs_world.proofs.Common.{List, lose, losing, losing_in, Mail, Managed, managed_at, managed_of, ManagerView}
use Rattle.grs_world.proofs.Common.{MediumState, members, most_additions, move_entry, Moved, names_of, no_elements}
use Rattle.grs_world.proofs.Common.{NodeState, None, Option, option_map, option_map_or, owing, part_by_table, purged}
use Rattle.grs_world.proofs.Common.{read_entries, refl, Req, request_of, Res, run, Said, same_Some, sent_again, settled}
use Rattle.grs_world.proofs.Common.{slice_get, Some, stale, Standing, standing, StarPart, State, stays-task}
use Rattle.grs_world.proofs.Common.{stays-turned, subst, switched, sym, SysId, take, take_mail, take_up, TaskId}
use Rattle.grs_world.proofs.Common.{took_mail, true, Turnout, unseen, Want, with_also, with_entry, with_role}
use Rattle.grs_world.proofs.Common.{without_those, World, ℕ}
use Rattle.std.specs.Prelude.{◌++◌}
use Rattle.contention_mgr.specs.Manager.{managed_for, told as told_in}
use Rattle.grs_node.specs.Star.{is_held_for, managing, not_managing}
use Rattle.grs_node.specs.Node.{changed as changed_now}
use Rattle.grs_node.specs.Change.{entry_by_table}
use Rattle.std.proofs.lemmas.List.FromFn.{length-map-range_with_len}
use Rattle.contention_mgr.specs.Loses.{after_losing, lost}
use Rattle.mode_migrate.specs.Migrate.{interest_by_table}
use Rattle.grs_world.proofs.run.Came.{Acts, Came, Result, acted, already, began, changed, decided, informed, last_turn}
use Rattle.grs_world.proofs.run.Came.{left, no_such, nothing, parted, removes_one, removes_star, sent}
use Rattle.grs_world.proofs.run.Came.{settled as settled_one, told, took, turn, went_on}
use Rattle.grs_world.proofs.run.Chosen.{came}
use Rattle.grs_world.proofs.run.Each.{systems_run}
use Rattle.grs_world.proofs.run.Lost.{by-loss, by-notice, by-part}
use Rattle.grs_wire.specs.declared.medium.Mail.TheVariants as mails
use Rattle.grs_wire.specs.declared.told.Said.TheVariants as saids

abbrev pub IsSized : ℕ → StarPart → Type 0
IsSized entries p =
    (length p.manager.entries ≡ entries) × (length p.interest ≡ entries) × (length p.owes ≡ entries)

-- ---- a manager
count-with : (v : ManagerView) (e : Option ℕ) (o : Option Managed)
    → length (with_entry v e o).entries ≡ length v.entries
count-with v None o = refl
count-with v (Some e) o = length-set v.entries e o

-- where something is kept of an entry, it keeps something else of it
count-some : (v : ManagerView) (e : Option ℕ) (f : Managed → Managed) (o : Option Managed)
    → length (option_map_or (λ m. with_entry v e (Some (f m))) o v).entries ≡ length v.entries
count-some v e f None = refl
count-some v e f (Some m) = count-with v e (Some (f m))

count-request : (v : ManagerView) (t : TaskId) (w : Want) → length (after_request v t w).entries ≡ length v.entries
count-request v t w =
    count-some v (entry_wanted (length v.entries) w) (λ m. settled v.system.0 m t w) (managed_for v w)

count-telling : (v : ManagerView) (t : TaskId) (r : Res) → length (after_telling v t r).entries ≡ length v.entries
count-telling v t r = count-some v (entry_of_res (length v.entries) r) (told_in t r) (managed_of v r)

count-left : (v : ManagerView) (e : ℕ) → length (not_managing v e).entries ≡ length v.entries
count-left v e =
    by_test (λ (z : ManagerView). length z.entries ≡ length v.entries) (is_some (managed_at v e))
    (with_entry v (Some e) None) v (λ h. count-with v (Some e) None) (λ h. refl)

count-managing : (v : ManagerView) (e : ℕ) → length (managing v e).entries ≡ length v.entries
count-managing v e =
    by_test (λ (z : ManagerView). length z.entries ≡ length v.entries) (is_some (managed_at v e)) v
    (with_entry v (Some e) (Some no_elements)) (λ h. refl) (λ h. count-with v (Some e) (Some no_elements))

count-lost : (v : ManagerView) (s : SysId) → length (after_losing v s).entries ≡ length v.entries
count-lost v s = length-map v.entries (option_map (lost v.system.0 s.0))

-- ---- a part
module _ (entries : ℕ) where
  sized-request : (p : StarPart) (q : Req) → IsSized entries p
      → IsSized entries (record p { manager = after_request p.manager q.task q.want })
  sized-request p q h = (count-request p.manager q.task q.want ∙ h.0, h.1, h.2)

  sized-begun : (p : StarPart) (e : ℕ) → IsSized entries p → IsSized entries (begun p e)
  sized-begun p e h = (count-managing p.manager e ∙ h.0, length-set p.interest e true ∙ h.1, h.2)

  sized-left : (p : StarPart) (e : ℕ) → IsSized entries p → IsSized entries (left_at p e)
  sized-left p e h = (count-left p.manager e ∙ h.0, length-set p.interest e false ∙ h.1, h.2)

  sized-up : (names : List TaskId) (x : Standing) (e : ℕ) → IsSized entries x.part
      → IsSized entries (take_up names x e).part
  sized-up names x e h = (count-with x.part.manager (Some e) _ ∙ h.0, h.1, h.2)

  sized-loss : (x : Standing) (s : SysId) → IsSized entries x.part → IsSized entries (lose x s).part
  sized-loss x s h = (count-lost x.part.manager s ∙ h.0, h.1, h.2)

  sized-role : (known : ℕ) (p : StarPart) (m : Moved) → IsSized entries p → IsSized entries (with_role known p m)
  sized-role known p m h =
      by_test (IsSized entries) (m.manager.0 == p.manager.system.0)
      (record p {
        gathers = awaiting p.gathers m.entry (awaited known p.manager.system.0 m.mask);
        owes = owing p.owes m.entry None;
      })
      (record p { owes = owing p.owes m.entry (Some m.manager) })
      (λ own. (h.0, h.1, length-set p.owes m.entry None ∙ h.2))
      (λ other. (h.0, h.1, length-set p.owes m.entry (Some m.manager) ∙ h.2))

  sized-entry : (known : ℕ) (x : Standing) (m : Moved) → IsSized entries x.part
      → IsSized entries (move_entry known x m).part
  sized-entry known x m h =
      by_test (λ (z : Standing). IsSized entries z.part) (is_news x.part m.entry)
      (standing (sent_again x.part m.entry x.tasks) (with_role known x.part m)) x
      (λ news. sized-role known x.part m h) (λ old. h)

  sized-table : (s : SysId) (t : State) → IsSized entries (part_by_table entries s t)
  sized-table s t = (
    length-map-range_with_len (entry_by_table entries s t) 0 entries,
    length-map-range_with_len (interest_by_table entries s t) 0 entries,
    length-replicate entries None,
  )

-- ---- a system
abbrev pub NodeSized : Deck → NodeState → Type 0
NodeSized deck n = (p : StarPart) → n.star ≡ Some p → IsSized deck.entries p

module _ (deck : Deck) where
  same-part : (n k : NodeState) → k.star ≡ n.star → NodeSized deck n → NodeSized deck k
  same-part n k same h p is = h p (sym same ∙ is)

  with-part : (k : NodeState) (q : StarPart) → k.star ≡ Some q → IsSized deck.entries q → NodeSized deck k
  with-part k q star h p is = subst (IsSized deck.entries) (same_Some q p (sym star ∙ is)) h

  sized-change : (n : NodeState) → NodeSized deck (change_to_star deck n)
  unfolding change_to_star
  sized-change n =
      with-part (change_to_star deck n) (part_by_table deck.entries (record { 0 = n.tasks.system }) n.shared) refl
      (sized-table deck.entries (record { 0 = n.tasks.system }) n.shared)

  -- it loses others
  sized-lost : (n : NodeState) (ss : List SysId) → NodeSized deck n → NodeSized deck (losing deck n ss)
  unfolding losing
  sized-lost n ss h = go n.star refl
    where
      go : (o : Option StarPart) → n.star ≡ o → NodeSized deck (losing_in deck n o ss)
      go None is = h
      go (Some p) is =
          with-part (losing_in deck n (Some p) ss) _ refl
          (by-loss (λ (x : Standing). IsSized deck.entries x.part) (sized-up deck.entries) (sized-loss deck.entries)
          (names_of deck n.tasks.system) (standing n.tasks p) ss (h p is))

  sized-moved : (n : NodeState) → NodeSized deck (changed_now deck n)
  sized-moved n = sized-lost (change_to_star deck n) (members n.known) (sized-change n)

  sized-switched : (n : NodeState) → NodeSized deck n → NodeSized deck (switched deck n)
  unfolding switched
  sized-switched n h =
      by_test (NodeSized deck) (is_none n.star) (changed_now deck (desk_told n saids.StarDone)) n
      (λ alone. sized-moved (desk_told n saids.StarDone)) (λ there. h)

  sized-desk : (n : NodeState) (said : Said) → NodeSized deck n → NodeSized deck (desk_told n said)
  unfolding desk_told
  sized-desk n said h = h

  sized-mail : (n : NodeState) (p : StarPart) (mail : Mail) → IsSized deck.entries p
      → IsSized deck.entries (take_mail deck n.known n.tasks p mail).part
  unfolding took_mail
  sized-mail n p mail h = go (is_for_deck deck mail) mail
    where
      go : (b : Bool) (m : Mail)
          → IsSized deck.entries (cond b (took_mail deck n.known n.tasks p m) (fixing_none n.tasks p)).part
      go false m = h
      go true (mails.Request e from q) =
          by_test (IsSized deck.entries) (is_held_for n.known p e q) (record p { held = p.held ++ q ∷ [] }) p
          (λ here. h) (λ away. h)
      go true (mails.Answered t answer rank) = h
      go true (mails.Granted t r) = h
      go true (mails.Notice target moved) =
          by-notice (λ (x : Standing). IsSized deck.entries x.part) (sized-up deck.entries) n.known
          (sized-entry deck.entries n.known) (names_of deck n.tasks.system) (standing n.tasks p)
          (filter (is_item_of deck) moved) h
      go true (mails.Part e from records) =
          by-part (λ (x : Standing). IsSized deck.entries x.part) (sized-up deck.entries) n.known
          (names_of deck n.tasks.system) (standing n.tasks p) e from (filter (λ r. is_of_deck deck r.task) records) h h

  sized-acts :
      (m : MediumState) (s : SysId) (n : NodeState) (p : StarPart) (choice : Choice) (b : Result) (o : Turnout)
      → Acts deck m s n p choice b o → IsSized deck.entries p → NodeSized deck o.step.node
  unfolding decide_own
  sized-acts m s n p choice b o (decided t a x asked to at same) h =
      with-part o.step.node _ refl
      (sized-request deck.entries (begun p x) (request_of t a) (sized-begun deck.entries p x h))
  sized-acts m s n p choice b o (began t a x asked none) h =
      with-part o.step.node _ refl
      (sized-request deck.entries (begun p x) (request_of t a) (sized-begun deck.entries p x h))
  sized-acts m s n p choice b o (sent t a x asked to at apart) h =
      with-part o.step.node _ refl (h.0, length-set p.interest x true ∙ h.1, h.2)
  sized-acts m s n p choice b o (took mail rest at) h = with-part o.step.node _ refl (sized-mail n p mail h)
  sized-acts m s n p choice b o (settled_one q first) h =
      with-part o.step.node _ refl (count-request p.manager q.task q.want ∙ h.0, h.1, h.2)
  sized-acts m s n p choice b o (told e x first) h =
      with-part o.step.node _ refl (count-telling p.manager x.0 x.1 ∙ h.0, h.1, h.2)
  sized-acts m s n p choice b o (parted e to owes unknown) h =
      with-part o.step.node _ refl (h.0, h.1, length-set p.owes e None ∙ h.2)
  sized-acts m s n p choice b o (left x flags free by) h = with-part o.step.node _ refl (sized-left deck.entries p x h)

  sized-came : (m : MediumState) (s : SysId) (n : NodeState) (choice : Choice) (b : Result) (o : Turnout)
      → Came deck m s n choice b o → NodeSized deck n → NodeSized deck o.step.node
  unfolding purged stale
  sized-came m s n choice b o (nothing k r silent flags) h = h
  sized-came m s n choice b o (informed k) h =
      let known : ℕ = known_from deck n.known m.removed in
      sized-lost (record n { known = known }) (members (without_those n.known known)) h
  sized-came m s n choice b o (went_on t may) h =
      same-part n o.step.node (stays-task deck.limit n t (lines_of deck t)).star h
  sized-came m s n choice b o (turn flags alone unclosed here) h =
      same-part n o.step.node
      (stays-turned deck n (unseen s m.message.entries) (length (take most_additions n.outbox))).star h
  sized-came m s n choice b o (last_turn flags alone shut here) h =
      sized-moved (read_entries deck n (unseen s m.message.entries))
  sized-came m s n choice b o (changed ring next seen) h = sized-switched n h
  sized-came m s n choice b o (already mode next) h = sized-desk n saids.StarAlready h
  sized-came m s n choice b o (removes_one target ring next lives) h =
      sized-lost (record (desk_told n saids.VaryDone) { known = with_also n.known target.0 }) (target ∷ [])
      (sized-desk n saids.VaryDone h)
  sized-came m s n choice b o (removes_star target mode next lives) h =
      sized-lost (record (desk_told n saids.VaryDone) { known = with_also n.known target.0 }) (target ∷ [])
      (sized-desk n saids.VaryDone h)
  sized-came m s n choice b o (no_such target next gone) h = sized-desk n saids.VaryNoSuch h
  sized-came m s n choice b o (acted p is k r x acts) h = sized-acts m s n p k r x acts (h p is)

-- ---- so in every run
abbrev pub AreSized : Deck → World → Type 0
AreSized deck w = (s : ℕ) (n : NodeState) → slice_get w.nodes s ≡ Some n → NodeSized deck n

sized-first : (deck : Deck) (s : ℕ) → NodeSized deck (first_node deck s)
unfolding first_node
sized-first deck s p is = go deck.star is
  where
    go : (b : Bool) → cond b (Some (first_part (record { 0 = s }) deck.entries)) None ≡ Some p
        → IsSized deck.entries p
    go false f = absurd (cc)
    go true f =
        subst (IsSized deck.entries) (same_Some (first_part (record { 0 = s }) deck.entries) p f)
        (length-replicate deck.entries None, length-replicate deck.entries false, length-replicate deck.entries None)

pub sized_run : (deck : Deck) (es : List Event) → AreSized deck (run deck es)
sized_run deck =
    systems_run deck (λ s n. NodeSized deck n) (sized-first deck)
    (λ m c n choice live h. sized-came deck m c n choice _ _ (came deck m c n live choice) h)
