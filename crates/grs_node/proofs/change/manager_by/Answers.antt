use Rattle.std.proofs.Common.{◌≡◌, ◌+◌, ℕ, sym, subst, arith}
use Rattle.grs_node.proofs.Loading.{LoadedBelow, loaded-all, loaded-more, loaded-none, not-loaded}
use Rattle.grs_node.proofs.change.manager_by.Goals as goal

pub loop-entry-init : goal.loop-entry-init
loop-entry-init c =
    loaded-none c.args.system c.args.entries c.args.roles.now.managed c.args.roles.now.parts c.in_ok-manager.manager
    c.in_ok-manager.ensures

pub load_if_managed-requires-clause-count : goal.load_if_managed-requires-clause-count
load_if_managed-requires-clause-count c = c.loop-entry.invariant.count

pub load_if_managed-requires-clause-free : goal.load_if_managed-requires-clause-free
load_if_managed-requires-clause-free c =
    not-loaded c.args.system c.args.entries c.args.roles.now.managed c.args.roles.now.parts c.loop-entry.entry
    c.loop-entry.manager c.loop-entry.invariant

pub loop-entry-preserved : goal.loop-entry-preserved
loop-entry-preserved c =
    subst (LoadedBelow c.args.system c.args.entries c.args.roles.now.managed c.args.roles.now.parts
    (c.loop-entry.entry + 1))
    (sym c.in_ok-load_if_managed.ensures)
    (loaded-more c.args.system c.args.entries c.args.roles.now.managed c.args.roles.now.parts c.loop-entry.entry
    c.loop-entry.manager (omega (arith, c.loop-entry-test.true)) c.loop-entry.invariant)

pub returns : goal.returns
returns c =
    let same : c.loop-entry.entry ≡ c.args.entries =
    omega (arith, c.loop-entry-test.false, c.loop-entry.auto.entry-end) in
    loaded-all c.args.system c.args.entries c.args.roles.now.managed c.args.roles.now.parts c.loop-entry.manager
    (subst (λ (n : ℕ).
    LoadedBelow c.args.system c.args.entries c.args.roles.now.managed c.args.roles.now.parts n c.loop-entry.manager)
    same c.loop-entry.invariant)
