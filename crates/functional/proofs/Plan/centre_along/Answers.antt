use Rattle.functional.proofs.FaceLaws.{centre_held}
use Rattle.functional.proofs.Plan.centre_along.Goals as goal

pub returns : goal.returns
returns c = let p = c.requires in centre_held c.args.self c.args.channel c.args.a c.args.b p.0 p.1 p.2 p.3
