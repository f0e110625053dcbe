use Rattle.std.proofs.Common.{◌≡◌, ℕ, Bool, List, length, ap, sym, ◌∙◌, subst}
use Rattle.std.specs.List.{All}
use Rattle.std.proofs.lemmas.Result.{IfOk-weaker}
use Rattle.grs_wire.specs.declared.medium.Mail.{Mail}
use Rattle.grs_wire.specs.declared.medium.Reply.{Reply}
use Rattle.lock_structure.specs.Words.{ManagerIsBelow}
use Rattle.grs_medium.specs.Apply.{changes}
use Rattle.grs_medium.specs.Changes.{TellsChanges}
use Rattle.grs_medium.specs.Medium.{systems_of}
use Rattle.grs_medium.specs.Room.{MediumValue}
use Rattle.grs_medium.proofs.Differs.{names_there, tells_changes}
use Rattle.grs_medium.proofs.medium.Medium.preview.Goals as goal

pub returns-clause-differs : goal.returns-clause-differs
returns-clause-differs c =
    let m = c.args.self.now.state in
    let systems : c.self.inside.systems ≡ systems_of m =
    c.self.invariant.0 ∙ ap (λ (v : MediumValue). systems_of v.state) c.self.view_is in
    let boxes : length m.inboxes ≡ systems_of m =
    sym (ap (λ (v : MediumValue). length v.state.inboxes) c.self.view_is) ∙ c.self.invariant.2 ∙ systems in
    let words : All (ManagerIsBelow (systems_of m)) m.words =
    subst (λ (n : ℕ). All (ManagerIsBelow n) m.words) systems
    (subst (λ (ws : List ℕ). All (ManagerIsBelow c.self.inside.systems) ws)
    (ap (λ (v : MediumValue). v.state.words) c.self.view_is) c.self.invariant.3.managers) in
    let there = names_there m c.args.caller c.args.call.now.act boxes words c.requires.1 in
    IfOk-weaker c.preview_row.result
    (λ (shown : Reply × Bool). shown.1 ≡ changes m c.args.caller c.args.call.now)
    (λ (shown : Reply × Bool). TellsChanges m c.args.caller c.args.call.now shown.1)
    (λ (shown : Reply × Bool) is. tells_changes m c.args.caller c.args.call.now there shown.1 is)
    c.preview_row.ensures.changes
