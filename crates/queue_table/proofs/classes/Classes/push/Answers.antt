use Rattle.std.proofs.Common.{◌≡◌, ◌≤◌, [], ◌∷◌, ◌++◌, List, map, length, ℕ, cond, nat_eq, Option, Some, ap, sym, ◌∙◌, subst}
use Rattle.std.proofs.Common.{arith}
use Rattle.queue_table.specs.Classes.{ClassesView, IsChained, end_at, most_classes}
use Rattle.queue_table.specs.declared.classes.Link.{Link}
use Rattle.queue_table.proofs.ClassLemmas.{chained-push, length-mapped, map-push}
use Rattle.queue_table.proofs.EndLemmas.{ready, room_left, room_kept}
use Rattle.queue_table.proofs.classes.Classes.push.Goals as goal

pub set_last-requires : goal.set_last-requires
set_last-requires c =
    omega (
      arith,
      c.requires.class,
      ready most_classes (length c.self.inside.last.items) _
          (subst (λ (r : ℕ). 1 ≤ r) (sym (ap (λ (v : ClassesView). v.room) c.self.view_is)) c.requires.room),
    )

pub add_link-requires : goal.add_link-requires
add_link-requires c =
    room_left most_classes (length c.self.inside.last.items) _ _
    (subst (λ (r : ℕ). 1 ≤ r) (sym (ap (λ (v : ClassesView). v.room) c.self.view_is)) c.requires.room)

pub invariant_of-self : goal.invariant_of-self
invariant_of-self c =
    let last = c.self.inside.last.items in
    let befores : List (Option ℕ) = map (λ (l : Link). l.before) c.self.inside.links.items in
    let classes : List ℕ = map (λ (l : Link). l.class) c.self.inside.links.items in
    let link : Link = record { class = c.args.class; before = c.find_last-before.result } in
    let room =
    ready most_classes (length last) _
    (subst (λ (r : ℕ). 1 ≤ r) (sym (ap (λ (v : ClassesView). v.room) c.self.view_is)) c.requires.room) in
    let more_befores : map (λ (l : Link). l.before) c.add_link.new.links.items
    ≡ befores ++ end_at last c.args.class ∷ [] =
    ap (map (λ (l : Link). l.before)) c.add_link.ensures.links
    ∙ map-push (λ (l : Link). l.before) c.self.inside.links.items link
    ∙ ap (λ (o : Option ℕ). befores ++ o ∷ []) c.find_last-before.ensures in
    let more_classes : map (λ (l : Link). l.class) c.add_link.new.links.items ≡ classes ++ c.args.class ∷ [] =
    ap (map (λ (l : Link). l.class)) c.add_link.ensures.links
    ∙ map-push (λ (l : Link). l.class) c.self.inside.links.items link in
    let chained = chained-push last c.set_last.new.last.items befores classes c.args.class c.self.invariant
    (subst (λ (n : ℕ). most_classes ≤ n) (sym c.set_last.ensures.len) room)
    (λ k.
    c.set_last.ensures.last k
    ∙ ap (λ (n : ℕ). cond (nat_eq k c.args.class) (Some n) (end_at last k))
    (c.len.ensures
    ∙ c.self.inside.links.ok.0
    ∙ sym (length-mapped (λ (l : Link). l.class) c.self.inside.links.items))) in
    subst (λ (bs : List (Option ℕ)).
    IsChained c.set_last.new.last.items bs (map (λ (l : Link). l.class) c.add_link.new.links.items))
    (sym more_befores)
    (subst (λ (cs : List ℕ).
    IsChained c.set_last.new.last.items (befores ++ end_at last c.args.class ∷ []) cs)
    (sym more_classes) chained)
