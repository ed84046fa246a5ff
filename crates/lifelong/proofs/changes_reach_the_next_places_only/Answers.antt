use Rattle.lifelong.proofs.Updates.{closed_ahead, price_reaches, standing_reaches}
use Rattle.lifelong.proofs.changes_reach_the_next_places_only.Goals as goal

pub returns : goal.returns
returns c = record {
  standing = standing_reaches;
  price = price_reaches;
  closed = closed_ahead;
}
