use Rattle.std.proofs.Common.{◌≡◌, ℕ, List, [], length, ap, sym, ◌∙◌, subst, arith}
use Rattle.std.proofs.lemmas.List.{length-set}
use Rattle.grs_wire.specs.declared.gather.Moved.{Moved}
use Rattle.grs_wire.specs.declared.medium.Mail.{Mail}
use Rattle.grs_medium.specs.Apply.{moved_by}
use Rattle.grs_medium.specs.Inboxes.{emptied}
use Rattle.grs_medium.specs.Medium.{AreWords, systems_of}
use Rattle.grs_medium.specs.Room.{MediumValue}
use Rattle.grs_medium.proofs.NamedLaws.{named-purged}
use Rattle.grs_medium.proofs.SpaceLaws.{length-moved_by, length-posted}
use Rattle.grs_medium.proofs.medium.Medium.purge_in_star.Goals as goal

pub post-requires-clause-count : goal.post-requires-clause-count
post-requires-clause-count c =
    let moved :
    c.self.inside.inboxes.moved
    ≡ moved_by c.args.self.now.state.words (systems_of c.args.self.now.state) c.args.target =
    ap (λ (v : MediumValue). v.moved) c.self.view_is ∙ c.requires.room in
    let systems : c.self.inside.systems ≡ systems_of c.args.self.now.state =
    c.self.invariant.0 ∙ ap (λ (v : MediumValue). systems_of v.state) c.self.view_is in
    let long : length c.self.inside.inboxes.moved ≡ systems_of c.args.self.now.state =
    ap (λ (ms : List (List Moved)). length ms) moved
    ∙ length-moved_by c.args.self.now.state.words (systems_of c.args.self.now.state) c.args.target in
    omega (arith, long, systems, c.self.invariant.2)

pub invariant_of-self : goal.invariant_of-self
invariant_of-self c = (
  c.self.invariant.0 ∙ sym c.depart.ensures.systems,
  c.self.invariant.1,
  ap (λ (boxes : List (List Mail)). length boxes) c.post.ensures
      ∙ (length-posted c.args.target c.self.inside.inboxes.moved (emptied c.self.inside.inboxes.mail c.args.target.0)
      ∙ (length-set c.self.inside.inboxes.mail c.args.target.0 [] ∙ c.self.invariant.2)),
  subst (λ (ws : List ℕ). AreWords c.self.inside.systems ws) (sym c.purge.ensures)
      (named-purged c.self.inside.systems c.self.inside.words c.args.target c.self.invariant.3),
)
