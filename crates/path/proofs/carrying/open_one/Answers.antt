use Rattle.std.proofs.Common.{vec_items, rules}
use Rattle.path.proofs.Arrivals.{opened_one}
use Rattle.path.proofs.carrying.open_one.Goals as goal

pub returns-in_ok-information-in-Ok : goal.returns-in_ok-information-in-Ok
returns-in_ok-information-in-Ok c =
    opened_one c.in-Ok.frame.heading (vec_items c.in_ok-information-in-Ok.information) c.in-Ok.frame.information.now c.args.octets.now c.parameters_of.result
    (c.in_ok-information-in-Ok.ensures.items_if_clones_equal (λ x y k. search rules)) c.in-Ok.ensures c.parameters_of.ensures
