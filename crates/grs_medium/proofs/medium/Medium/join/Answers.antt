use Rattle.std.proofs.Common.{◌≡◌, ◌<◌, ℕ, List, length, ap, sym, ◌∙◌, subst}
use Rattle.grs_medium.specs.Medium.{MediumState, AreWords, systems_of}
use Rattle.grs_medium.specs.Room.{MediumValue}
use Rattle.grs_medium.proofs.NamedLaws.{named-submitted}
use Rattle.grs_medium.proofs.medium.Medium.join.Goals as goal

pub invariant_of-self : goal.invariant_of-self
invariant_of-self c =
    let words : c.self-2.inside.words ≡ c.args.self.now.state.words =
    ap (λ (v : MediumValue). v.state.words) c.self-2.view_is ∙ ap (λ (s : MediumState). s.words) c.wake.ensures.state in
    let inside : c.args.entry < length c.self-2.inside.words =
    subst (λ (ws : List ℕ). c.args.entry < length ws) (sym words) c.requires.entry in
    let systems : c.self-2.inside.systems ≡ systems_of c.args.self.now.state =
    c.self-2.invariant.0
    ∙ (ap (λ (v : MediumValue). systems_of v.state) c.self-2.view_is ∙ ap systems_of c.wake.ensures.state) in
    let here : c.args.caller.0 < c.self-2.inside.systems =
    subst (λ (n : ℕ). c.args.caller.0 < n) (sym systems) c.requires.caller in (
      c.self-2.invariant.0,
      c.self-2.invariant.1,
      c.self-2.invariant.2,
      subst
          (λ (ws : List ℕ). AreWords c.self-2.inside.systems ws)
          (sym c.submit.ensures.words)
          (named-submitted c.self-2.inside.systems c.self-2.inside.words c.args.entry c.args.caller
          c.self-2.invariant.1 here inside c.self-2.invariant.3),
    )
