use Rattle.elementary.proofs.RootBound.{bound_no_nan, root_bound, bound_finite}
use Rattle.candidate_sides.proofs.slabs.above_root.Goals as goal

pub float_from_bits-result : goal.float_from_bits-result
float_from_bits-result c = bound_no_nan c.args.pattern c.requires.0 c.requires.1

pub returns : goal.returns
returns c = (root_bound c.args.pattern c.requires.0 c.requires.1, bound_finite c.args.pattern c.requires.0 c.requires.1)
