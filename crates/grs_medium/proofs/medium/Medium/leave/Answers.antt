use Rattle.std.proofs.Common.{◌≡◌, ◌<◌, ℕ, List, length, ap, sym, ◌∙◌, subst}
use Rattle.grs_medium.specs.Medium.{MediumState, AreWords}
use Rattle.grs_medium.specs.Room.{MediumValue}
use Rattle.grs_medium.proofs.NamedLaws.{named-left}
use Rattle.grs_medium.proofs.medium.Medium.leave.Goals as goal

pub invariant_of-self : goal.invariant_of-self
invariant_of-self c =
    let words : c.self-2.inside.words ≡ c.args.self.now.state.words =
    ap (λ (v : MediumValue). v.state.words) c.self-2.view_is ∙ ap (λ (s : MediumState). s.words) c.wake.ensures.state in
    let inside : c.args.entry < length c.self-2.inside.words =
    subst (λ (ws : List ℕ). c.args.entry < length ws) (sym words) c.requires.entry in (
      c.self-2.invariant.0,
      c.self-2.invariant.1,
      c.self-2.invariant.2,
      subst
          (λ (ws : List ℕ). AreWords c.self-2.inside.systems ws)
          (sym c.leave.ensures.words)
          (named-left c.self-2.inside.systems c.self-2.inside.words c.args.entry c.args.caller
          c.self-2.invariant.1 inside c.self-2.invariant.3),
    )
