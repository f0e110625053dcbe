use Rattle.std.proofs.Common.{◌≡◌, List, length, ap, ◌∙◌, arith}
use Rattle.grs_wire.specs.declared.gather.Moved.{Moved}
use Rattle.grs_medium.proofs.SpaceLaws.{length-moved_by}
use Rattle.grs_medium.proofs.medium.Medium.reserve_removal.Goals as goal

pub reserve_moved-requires : goal.reserve_moved-requires
reserve_moved-requires c =
    let long : length c.in_ok-moved.moved.items ≡ c.self.inside.systems =
    ap (λ (ms : List (List Moved)). length ms) c.in_ok-moved.ensures
    ∙ length-moved_by c.self.inside.words c.self.inside.systems c.args.target in
    omega (arith, long, c.self.invariant.2)
