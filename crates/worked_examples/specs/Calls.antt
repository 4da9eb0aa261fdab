-- A call of a search, a chart or the logarithm, and what it comes to by the definitions that the contracts cite. Definitions only.
use Rattle.std.specs.Prelude.{ℕ, Bool, List, length, Float}
use Rattle.elementary.specs.Logarithm.{ln}
use Rattle.refusals.specs.Said.{Said, said}
use Rattle.readings.specs.Shape.{first_length}
use Rattle.charts.specs.declared.Sum.{Sum}
use Rattle.cusum.specs.Chart as Cusum
use Rattle.cusum.specs.RunLength as RunLength
use Rattle.cusum.specs.declared.Cusum.{Cusum}
use Rattle.cusum.specs.declared.CusumResult.{CusumResult}
use Rattle.ewma.specs.Chart as Ewma
use Rattle.ewma.specs.declared.Ewma.{Ewma}
use Rattle.ewma.specs.declared.EwmaResult.{EwmaResult}
use Rattle.candidate_balls.specs.declared.Ball.{Ball}
use Rattle.candidate.specs.Losses.{lose_inside}
use Rattle.search_answer.specs.Search.{penalty_value}
use Rattle.search_answer.specs.Outcome.{Areas}
use Rattle.pelt.specs.Detected.{detected}
use Rattle.pelt.specs.declared.Pelt.{Pelt}

-- ---- calls

-- a search of a run with these channel lengths, strict or plain
pub record Search : Type 0 where
  pub strict : Bool
  pub settings : Pelt
  pub run : List Float
  pub lengths : List ℕ
  pub areas : Areas

-- a search; its penalty; a chart's `analyze` and `signal_points`, with what they are lent; a run length; one ball more for a candidate that loses inside these; a logarithm
pub data Call : Type 0 where
  search : Search → Call
  resolve : Search → Call
  cusum : Cusum → List Float → List CusumResult → Call
  cusum_points : Cusum → List Float → List ℕ → Call
  run_length : Cusum → Float → Sum → Call
  ewma : Ewma → List Float → List EwmaResult → Call
  ewma_points : Ewma → List Float → List ℕ → Call
  lose : Ball → List Ball → Call
  logarithm : Float → Call

-- ---- outcomes: what is said, and what is left of what was lent; a penalty; the balls that a candidate keeps; a value
pub data Outcome : Type 0 where
  searched : Said → Areas → Outcome
  resolved : Float → Outcome
  sums : Said → List CusumResult → Outcome
  averages : Said → List EwmaResult → Outcome
  points : Said → List ℕ → Outcome
  heard : Said → Outcome
  losing : List Ball → Outcome
  valued : Float → Outcome

-- the penalty that the search resolves
unfoldable pub resolved_by : Search → Float
resolved_by s = penalty_value s.settings.cost s.settings.penalty s.run (first_length s.lengths) (length s.lengths)

-- what a call comes to is the outcome of its contract, with the answer in the rules' numbers
unfoldable pub outcome : Call → Outcome
outcome (search s) = let o = detected s.strict s.settings s.run s.lengths s.areas in searched (said o.0) o.1
outcome (resolve s) = resolved (resolved_by s)
outcome (cusum c xs entry) = let o = Cusum.analyzed c xs entry in sums (said o.0) o.1
outcome (cusum_points c xs entry) = let o = Cusum.signalled c xs entry in points (said o.0) o.1
outcome (run_length c level asked) = heard (RunLength.run_length c level asked)
outcome (ewma c xs entry) = let o = Ewma.analyzed c xs entry in averages (said o.0) o.1
outcome (ewma_points c xs entry) = let o = Ewma.signalled c xs entry in points (said o.0) o.1
outcome (lose b balls) = losing (lose_inside b balls)
outcome (logarithm x) = valued (ln x)
