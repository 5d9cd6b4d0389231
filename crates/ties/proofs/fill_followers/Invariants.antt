-- The places from k on have their followers, and `last` the first place seen of each leader.
use Rattle.ties.proofs.FollowersBack.{Back}
use Rattle.ties.proofs.fill_followers.Given as goal

abbrev pub invariant-loop-k : goal.invariant-loop-k
invariant-loop-k l = Back l.n l.leaders l.followers l.last l.k
