use Rattle.std.proofs.Common.{◌≡◌, ℕ, true, List, length, ap, sym, ◌∙◌, subst}
use Rattle.std.specs.List.{list_all}
use Rattle.rsa_message.specs.Message.{closed_by}
use Rattle.lock_structure.specs.Words.{word_fits}
use Rattle.grs_medium.specs.Medium.{MediumState, AreWords, systems_of}
use Rattle.grs_medium.specs.Room.{MediumValue}
use Rattle.grs_medium.proofs.NamedLaws.{named-switched}
use Rattle.grs_medium.proofs.medium.Medium.change_to_star.Goals as goal

pub invariant_of-self : goal.invariant_of-self
unfolding closed_by
invariant_of-self c =
    let systems : systems_of c.args.self.now.state ≡ c.self-2.inside.systems =
    sym (c.self-2.invariant.0
    ∙ (ap (λ (v : MediumValue). systems_of v.state) c.self-2.view_is ∙ ap systems_of c.wake.ensures.state)) in
    let fits : list_all (word_fits c.self-2.inside.systems) c.args.words ≡ true =
    subst (λ (n : ℕ). list_all (word_fits n) c.args.words ≡ true) systems c.requires.fits.1 in
    let words : c.self-2.inside.words ≡ c.args.self.now.state.words =
    ap (λ (v : MediumValue). v.state.words) c.self-2.view_is ∙ ap (λ (s : MediumState). s.words) c.wake.ensures.state in
    let same : length c.args.words ≡ length c.self-2.inside.words =
    c.requires.fits.0 ∙ ap (λ (ws : List ℕ). length ws) (sym words) in (
      c.self-2.invariant.0 ∙ sym (ap (λ m. m.systems) c.close.ensures),
      c.self-2.invariant.1,
      c.self-2.invariant.2,
      subst (λ (ws : List ℕ). AreWords c.self-2.inside.systems ws) (sym c.install.ensures)
          (named-switched c.self-2.inside.systems c.args.words c.self-2.inside.words fits same c.self-2.invariant.3),
    )
