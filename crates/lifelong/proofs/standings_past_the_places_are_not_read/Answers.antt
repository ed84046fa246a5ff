use Rattle.lifelong.proofs.Unread.{past_unread}
use Rattle.lifelong.proofs.standings_past_the_places_are_not_read.Goals as goal

pub returns : goal.returns
returns c = past_unread
