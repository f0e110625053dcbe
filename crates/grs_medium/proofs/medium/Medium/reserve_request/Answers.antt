use Rattle.std.proofs.Common.{◌≡◌, ◌<◌, ℕ, List, length, ap, sym, ◌∙◌, subst}
use Rattle.lock_structure.specs.Words.{word_at}
use Rattle.lock_structure.proofs.WordLaws.{route-below}
use Rattle.grs_medium.specs.Room.{MediumValue}
use Rattle.grs_medium.proofs.medium.Medium.reserve_request.Goals as goal

pub reserve-requires : goal.reserve-requires
reserve-requires c =
    let words : c.self.inside.words ≡ c.args.self.now.state.words =
    ap (λ (v : MediumValue). v.state.words) c.self.view_is in
    let inside : c.args.entry < length c.self.inside.words =
    subst (λ (ws : List ℕ). c.args.entry < length ws) (sym words) c.requires in
    let below : c.in-To.manager.0 < c.self.inside.systems =
    route-below c.self.inside.systems (word_at c.self.inside.words c.args.entry) c.args.caller c.in-To.manager
    (c.self.invariant.3.managers c.args.entry 0 inside) (sym c.route.ensures ∙ c.in-To.is) in
    subst (λ (n : ℕ). c.in-To.manager.0 < n) (sym c.self.invariant.2) below
