-- A line is told at a system's desk, which leaves its tasks as they are.
use Rattle.grs_world.proofs.Common.{[], ◌++◌, ◌+◌, ◌∙◌, ◌∷◌, ◌≡◌, Deck, desk_told, here-kept, is_task-telling, IsGood}
use Rattle.grs_world.proofs.Common.{IsHere, IsOurs, List, NodeState, Opens, refl, Req, RunItem, Said, state_of}
use Rattle.grs_world.proofs.Common.{state_of-telling, subst, sym, TasksView, telling, told-telling, ToldLine, ℕ}
use Rattle.grs_world.proofs.star.Ghosts.{IsAt, ghosted}
use Rattle.grs_world.proofs.system.AtNode.{Seen, opens_of}
use Rattle.grs_known.proofs.tasks.Others.{task-told}
use Rattle.task_state.proofs.Stays.{system-telling}
use Rattle.grs_wire.specs.declared.told.ToldLine.TheVariants as lines

desk-good : (deck : Deck) (s : ℕ) (os : Opens) (P : List RunItem) (v : TasksView) (k : ℕ) (said : Said)
    → IsGood deck s os P v → IsGood deck s os P (telling v (lines.Desk k said))
desk-good deck s os P v k said g = record {
  tasks = record {
    each = λ u ls o.
        let was :
        IsOurs deck s v u ls = record { lines = o.lines; home = o.home; here = sym (is_task-telling v u l) ∙ o.here } in
        subst (λ T. IsHere deck os P T u ls (state_of (telling v l) u)) (sym (told-telling v l))
        (subst (IsHere deck os P (v.told ++ l ∷ []) u ls) (sym (state_of-telling v u l))
        (here-kept deck os os P v.told (v.told ++ l ∷ []) u ls (state_of v u) refl (λ a. a) (λ a. a)
        (λ p leaving y h. task-told ls p v.told leaving u y l refl h) (g.tasks.each u ls was)));
  };
  here = λ t h. is_task-telling v t l ∙ g.here t h;
  system = system-telling v l ∙ g.system;
}
  where
    l : ToldLine
    l = lines.Desk k said

pub desk-seen : (deck : Deck) (s : ℕ) (P before later : List RunItem) (out : List Req) (n : NodeState) (said : Said)
    → Seen deck s P before later out n → Seen deck s P before later out (desk_told n said)
unfolding desk_told
desk-seen deck s P before later out n said h = record {
  good = desk-good deck s (opens_of later out n) P n.tasks (n.done + 1) said h.good;
  own = h.own;
  shared = h.shared;
  homes = h.homes;
  apart = h.apart;
}

-- so of a system in star mode
pub desk-at : (deck : Deck) (s : ℕ) (P later : List RunItem) (out : List Req) (n : NodeState) (said : Said)
    → IsAt deck s P later out n → IsAt deck s P later out (desk_told n said)
unfolding desk_told
desk-at deck s P later out n said h = record {
  good = desk-good deck s (opens_of later out (ghosted n)) P n.tasks (n.done + 1) said h.good;
  own = h.own;
  shared = h.shared;
  homes = h.homes;
  apart = h.apart;
}

-- what is told then
pub desk-told : (n : NodeState) (said : Said)
    → (desk_told n said).tasks.told ≡ n.tasks.told ++ lines.Desk (n.done + 1) said ∷ []
unfolding desk_told
desk-told n said = told-telling n.tasks (lines.Desk (n.done + 1) said)
